-- SQL's rules do not refuse the row that marks a store, in tables that are just made.
use Rattle.std.proofs.Common.{◌≡◌, ◌≢◌, ◌∙◌, ◌<◌, ℕ, inl, inr, pos, true, false, true≢false, [], ◌∷◌, length, Option, refl, sym, ap, subst, arith}
use Rattle.std.specs.List.{AllByRecursion}
use Rattle.std.proofs.lemmas.List.Elements.{All-from_recursion}
use Rattle.std.proofs.lemmas.Nat.Bits.{bit_at-zero}
use Rattle.std.specs.Float.{NotNan}
use Rattle.sqlite.specs.declared.types.Value.TheVariants.{Int}
use Rattle.sqlite_value.specs.Order.{Row, number}
use Rattle.sqlite_value.specs.declared.value.Value.{Value}
use Rattle.sqlite_trees.specs.Tree.{Trees, with_tree}
use Rattle.sqlite_trees.specs.View.{IsStorable}
use Rattle.sqlite_typing.specs.Types.{accepts_terms}
use Rattle.sqlite_schema.specs.declared.schema.Constraint.TheVariants.{Check, Datatype, ForeignKey, NotNull, PrimaryKey, Unique}
use Rattle.sqlite_schema.specs.declared.schema.Index.{Index}
use Rattle.sqlite_schema.specs.declared.schema.Keys.TheVariants.{Enforced}
use Rattle.sqlite_schema.specs.Rules.{Keeps, passes}
use Rattle.sqlite_rules.specs.declared.error.Refusal.{Refusal}
use Rattle.sqlite_rules.specs.declared.error.Refusal.TheVariants.{BadReference, Mismatch, NoRowid, TooDeep, Violates}
use Rattle.sqlite_rules.specs.Edit.{Edit, IsOversized, IsRefused, are_fresh, edited, next_rowid, put_all}
use Rattle.sqlite_rules.specs.Lists.{Has}
use Rattle.sqlite_rules.proofs.ListLemmas.{all_has}
use Rattle.sqlite.specs.Listing.{understood}
use Rattle.sqlite.specs.State.{State, HasCleanDisk, Survives}
use Rattle.sqlite.specs.declared.error.Error.{Error}
use Rattle.sqlite_tied.specs.Compute.{everything}
use Rattle.sql_tables.specs.Causes.{IsCause, IsRefusedFor, RefusesToRun, TellsErrorCause}
use Rattle.sql_tables.proofs.Places.{insert_stops}
use Rattle.sql_tables.proofs.Refusals.{StopsEdit, told}
use Rattle.sql_tables.proofs.Unrefused.{alone}
use Rattle.store_tables.specs.Tables.{meta, meta_columns, store_schema}
use Rattle.store_tables.specs.Statements.{mark_text}
use Rattle.store_tables.specs.Records.{mark_cells}
use Rattle.store_tables.specs.Steps.{AreTablesMade}
use Rattle.store_tables.proofs.Making.{adds, mark_casts, mark_terms}
use Rattle.store_tables.proofs.Moves.{none_refers}
use Rattle.store_tables.proofs.Unrefused.{IsChanging, cause_of}

marking : IsChanging store_schema mark_text
unfolding understood everything
marking = record { plain = (refl, refl); whole = (omega arith, refl); changes = refl }

accepts_mark : accepts_terms mark_terms [] ≡ true
unfolding mark_terms
accepts_mark = refl

-- the row, with its rowid
abbrev mark_row : Row
mark_row = Int (pos 1) ∷ mark_cells

abbrev mark_edit : Edit
mark_edit = record { table = meta; gone = []; news = mark_row ∷ [] }

-- no index is of the table
unindexed : AllByRecursion (λ (i : Index). i.table ≢ 3) store_schema.indexes
unindexed = (λ e. omega arith, (λ e. omega arith, (λ e. omega arith, (λ e. omega arith, (λ e. omega arith, (λ e. omega arith, (λ e. omega arith, (λ e. omega arith, (λ e. omega arith, (λ e. omega arith, (λ e. omega arith, tt)))))))))))

storable : IsStorable 0 mark_row
unfolding lib.Ieee.is_nan
storable = record {
  typed = λ c is. absurd (omega (arith, is, bit_at-zero c));
  columns = (omega arith, omega arith);
  numbers = All-from_recursion (λ (v : Value). NotNan (number v)) mark_row (tt, (tt, (tt, tt)));
  short = omega arith;
}

module _ (db : Trees) (bare : AllByRecursion (λ t. db t.tree ≡ []) store_schema.tables) where
  keeps : Keeps Unique store_schema (with_tree db 3 (edited db mark_edit))
  keeps =
      let empty = λ (t : ℕ) (is : db t ≡ []) (P : Row → Type 0). subst (AllByRecursion P) (sym is) tt in
      let one : AllByRecursion (λ row. passes Unique store_schema (with_tree db 3 (edited db mark_edit)) meta row ≡ true) (put_all (db 3) (mark_row ∷ [])) =
      subst (λ rows. AllByRecursion (λ row. passes Unique store_schema (with_tree db 3 (edited db mark_edit)) meta row ≡ true) (put_all rows (mark_row ∷ []))) (sym bare.1.1.0) (refl, tt) in
      (empty 0 bare.0 _, (empty 1 bare.1.0 _, (one, (empty 4 bare.1.1.1.0 _, (empty 5 bare.1.1.1.1.0 _, tt)))))

  not_refused : (why : Refusal) → IsRefused store_schema Enforced db mark_edit why → ⊥
  not_refused (Violates Datatype) h = true≢false h
  not_refused (Violates NotNull) h = true≢false h
  not_refused (Violates Check) h = true≢false h
  not_refused (Violates PrimaryKey) h = true≢false (subst (λ rows. are_fresh rows (mark_row ∷ []) ≡ false) bare.1.1.0 h)
  not_refused (Violates Unique) broken = broken keeps
  not_refused (Violates ForeignKey) none = absurd none
  not_refused Mismatch h = true≢false h
  not_refused NoRowid h = true≢false h
  not_refused BadReference h = true≢false h
  not_refused TooDeep none = absurd none

  not_oversized : (row : Row) → Has (mark_row ∷ []) row → IsOversized store_schema meta row → ⊥
  not_oversized row (inl is) (inl big) = big (subst (λ (r : Row). IsStorable 0 r × (1 < length r)) (sym is) (storable, omega arith))
  not_oversized row (inl is) (inr (i, has, of, big)) = all_has (λ (i : Index). i.table ≢ 3) store_schema.indexes i unindexed has of
  not_oversized row (inr none) big = absurd none

  goes_in : (stop : Option Error) → StopsEdit store_schema Enforced db mark_edit stop → ⊥
  goes_in stop (inl (why, refused, is)) = not_refused why refused
  goes_in stop (inr (row, has, big, is)) = not_oversized row has big

-- so it is refused for a limit on steps alone
ruled : (a b : State) (e : Error) → AreTablesMade store_schema a → IsRefusedFor a.step_limit (alone mark_text) a.now e → IsCause a b e
unfolding IsCause
ruled a b e made refused =
    let it = insert_stops store_schema none_refers a.step_limit (alone mark_text) a.now made.schema adds.plain 3 meta.name meta_columns [] [] 2 refl e refused mark_terms 3 mark_cells adds.command accepts_mark adds.values mark_casts in
    elim it.2 [
      | inl (set, met) ↦ inr (inr (inr (it.1 ∙ ap told met, set)))
      | inr stops ↦
          let first : next_rowid (a.now.trees 3) ≡ pos 1 = ap next_rowid made.bare.1.1.0 in
          absurd (goes_in a.now.trees made.bare it.0 (subst (λ id. StopsEdit store_schema Enforced a.now.trees (record { table = meta; gone = []; news = (Int id ∷ mark_cells) ∷ [] }) it.0) first stops))
    ]

pub mark_told : (a b : State) → Survives a b (λ _. ⊥) → (HasCleanDisk a → AreTablesMade store_schema a) → (e : Error) → (HasCleanDisk b → RefusesToRun mark_text [] a b e) → TellsErrorCause a b e
mark_told a b on made e refused clean =
    let has = made (omega (arith, on.clean, clean)) in
    cause_of store_schema mark_text marking a b e (λ opened. has.schema) has.inside (λ opened said. ruled a b e has said) (refused clean)
