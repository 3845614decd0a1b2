-- How a `Sequence` stores its items, so that a recursive type may refer to itself through it.
-- A sequence is seen as the list of its items, so its values are those of a list; in memory it is one struct whose only field,
-- a `Vec` from the global allocator, holds the items in the order in which the view shows them.
use mathlib.Core.Path.{◌≡◌, refl, sym}
use mathlib.Core.List.{List, []}
use mathlib.Core.Former.{Former, children, list, this, via}
use base.Stored.{code_map}
use denote.Hole.Carrier.{list-listed, listed}
use denote.Hole.Fix.{over}
use denote.HoleLaws.{Alike}
use denote.HolePlaces.{Recodes, laid, struct_places}
use denote.Model.Placed.{view_places}
use denote.Param.Weighed.{Weighed, w_list}
use denote.RattleType.{RattleType}
use Rattle.std.specs.contracts.alloc.Global as global
use Rattle.std.specs.contracts.impls.GlobalAllocator.TheImpl.{ghosts}
use Rattle.std.specs.declared.alloc.Global.{Global}
use Rattle.std.specs.formers.vec.Vec as vec
use Rattle.sequence.specs.contracts.sequence.Sequence as seen
use Rattle.sequence.specs.contracts.sequence.Sequence.TheInside as inside
use Rattle.sequence.specs.declared.sequence.Sequence.TheInside.{Inside}
use Rattle.sequence.specs.declared.sequence.Sequence.TheView.{invariant, view}

-- Splitting a sequence into a shape and what it holds is splitting a list.
abbrev pub the_former : Former {0} → Former {0}
the_former held = list held

abbrev pub the_weighed : {held : Former {0}} → Weighed held → Weighed (the_former held)
the_weighed measure = w_list measure

pub the_empty : List ⊥
the_empty = []

abbrev pub the_items : (Item : Type 0) → List Item → List Item
the_items Item sequence = sequence

pub the_items_listed : (Item : Type 0) (sequence : List Item)
    → listed _ (children (the_former this) Item sequence) ≡ the_items Item sequence
the_items_listed Item sequence = list-listed Item sequence

-- The struct inside: the record of the one field, round the former of that field.
abbrev the_inside : Former {0}
the_inside = via (vec.the_former this Global) Inside (λ Item struct. struct.items) (λ Item field. record { items = field })
    (λ Item struct. refl) (λ Item field. refl)

module _ (First Second : RattleType) (along : First.Denot → Second.Denot) where
  abbrev mapped : List First.Denot → List Second.Denot
  mapped = (the_former this).map First.Denot Second.Denot along

  pub the_places : Alike First Second along → Alike (seen.the_row First) (seen.the_row Second) mapped
  the_places alike = view_places the_inside (list this) view (λ From To to struct. refl) (λ Item struct. refl)
      First.Denot Second.Denot along (seen.the_row First).coded (seen.the_row Second).coded
      (invariant First.Denot) (invariant Second.Denot)
      (λ struct one other. refl) (λ struct one other. refl) (λ struct holds. tt) (λ struct holds. tt)
      (over (inside.the_row First)) (over (inside.the_row Second))
      (struct_places (inside.the_type First) (inside.the_type Second) (vec.mapped along, tt) _ (λ struct. refl) refl
      (laid _ _ _ (vec.the_places global.the_row ghosts First Second along alike), tt))

  pub the_codes_placed : Recodes First Second along → Recodes (seen.the_row First) (seen.the_row Second) mapped
  the_codes_placed recodes sequence =
      sym (code_map First.coded.code Second.coded.code along (λ item. sym (recodes item)) sequence)
