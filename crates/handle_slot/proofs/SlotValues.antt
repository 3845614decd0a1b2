-- The machine values of a `Slot`, whose row is that of any struct of a pointer and a heap. Assumes `Logic`.
use Rattle.std.proofs.Common.{◌≡◌, List, [], ◌∷◌, ◌++◌, refl, subst}
use mathlib.Core.Bool.{Bool, true, false, ◌&&◌}
use lib.Dec.{T, lit<}
use seplogic.Ra.Ura.{Ura}
use mir.Syntax.{ty_ptr}
use mir.Val.{Val, vstruct, of_list, has_ty, WT}
use types.Logic.{Logic}
use types.Kit.{Item, Goal, Seq, Step, step, ‵, ◌$◌, move, drop, fsplit, fjoin, fpick, fpack, feq_i, feq_l}
use denote.RattleType.{RattleType, Valss}
use denote.Builtin.{RawPtr}
use denote.RawPtr.{Ptr, block_ptr, null_ptr, ptr_val}
use denote.Steps.{nothing}
use denote.Param.{layout}
use denote.Struct.Struct.{within}
use denote.Struct.Owning.{shape}
use Rattle.std.specs.declared.option.Option.{Option}
use Rattle.std.specs.contracts.alloc.Global as heap
use Rattle.std.proofs.alloc.Global.TheLaws as heap_laws
use Rattle.std.proofs.alloc.Calls.{Al, handle_tells}
use Rattle.std.proofs.cell.Inside.{Good}
use Rattle.std.specs.declared.alloc.Global.{Global}
use Rattle.std.specs.contracts.impls.GlobalAllocator.TheImpl.{ghosts}
use Rattle.handle_slot.specs.SlotOwnership.{held}
use Rattle.handle_slot.proofs.Values.{both}
use Rattle.handle_slot.specs.contracts.slot.Slot as slot

-- a pointer has its type's layout
pub Ptr-Good : (p : Ptr) → T (has_ty ty_ptr (ptr_val p)) × WT (ptr_val p)
Ptr-Good (block_ptr b o) = (tt, tt)
Ptr-Good null_ptr = (tt, record { fits = lit< tt })

abbrev pub Z : RattleType
Z = heap.the_row

abbrev pub word : Ptr → Val → Val
word p h = both (ptr_val p) h

pub pair_good : (p : Ptr) (h : Val) → Good (layout Z) h → T (has_ty ty_ptr (ptr_val p) && (has_ty (layout Z) h && true)) × WT (word p h)
pair_good (block_ptr b o) h g = (more (has_ty (layout Z) h) g.0, (tt, (g.1, tt)))
  where
    more : (b : Bool) → T b → T (b && true)
    more true t = tt
    more false t = absurd t
pair_good null_ptr h g = (more (has_ty (layout Z) h) g.0, (record { fits = lit< tt }, (g.1, tt)))
  where
    more : (b : Bool) → T b → T (b && true)
    more true t = tt
    more false t = absurd t

abbrev al : Al
al = record { row = Z; laws = heap_laws.the_row_laws; g = ghosts; d = mir.Syntax.impl [] mir.Syntax.tnil mir.Syntax.dnil; drops = mir.Syntax.impl [] mir.Syntax.tnil mir.Syntax.dnil }

module _ (R : RattleType) where
  abbrev pub Slot : RattleType
  Slot = slot.the_row R

  module _ {M : Type 1} {𝓤 : Ura M} {𝓛 : Logic 𝓤} {K : Type 0} {Γ : List (Item 𝓤)} {G : Goal 𝓤 𝓛.H} where
    pub slot_out : K → (d : Slot.Denot) (vs : List Val)
        → ((h : Val) → vs ≡ word d.at h ∷ [] → Good (layout Z) h → Seq K 𝓛 (‵ (held d.alloc R d.at d.value) ∷ ‵ (Z.own_val d.alloc (h ∷ [])) ∷ Γ) G)
        → Seq K 𝓛 (‵ (Slot.own_val d vs) ∷ Γ) G
    slot_out t d vs k =
        fsplit t $ fpick t (λ vss. fsplit t $ feq_l t (λ ev. fsplit t $ feq_l t (λ ep. fsplit t $ handle_tells al t d.alloc vss.1.0 (λ h ea fits. move t (1 ∷ []) $ drop t $ move t (1 ∷ []) $ k h
        (subst (λ (ws : List Val). vs ≡ vstruct (of_list (ptr_val d.at ∷ (ws ++ []))) ∷ []) ea (subst (λ (ps : List Val). vs ≡ vstruct (of_list (ps ++ (vss.1.0 ++ []))) ∷ []) ep ev)) fits))))

    pub slot_in : K → (p : Ptr) (h : Val) (a : Global) (x : Option R.Denot)
        → Step K 𝓛 (‵ (Slot.own_val (record { at = p; alloc = a; value = x }) (word p h ∷ [])) ∷ Γ) G (‵ (held a R p x) ∷ ‵ (Z.own_val a (h ∷ [])) ∷ Γ) G
    slot_in t p h a x = step (λ s. let v : Val = word p h in
        nothing t $ move t (2 ∷ 0 ∷ []) $ fjoin t $ feq_i t (List Val) (ptr_val p ∷ []) (ptr_val p ∷ []) refl $ fjoin t $ feq_i t (List Val) (v ∷ []) (v ∷ []) refl $ fjoin t $
        fpack t (Valss (RawPtr ∷ (heap.the_field).row ∷ [])) (within (shape (slot.the_type R)) (p, ((heap.the_field).into a, tt)) (v ∷ [])) (ptr_val p ∷ [], (h ∷ [], tt)) $ fjoin t $ s)
