-- Rows that ascend by their rowids, under changes of a table.
use Rattle.std.proofs.Common.{◌≡◌, ◌⊎◌, ◌∙◌, ◌≢◌, ◌==◌, ◌≤◌, ◌&&◌, ℕ, ℤ, inl, inr, Bool, true, false, true≢false, cond, not, Less, List, [], ◌∷◌, filter, length, Option, IsTrue, refl, sym, ap, subst, arith}
use Rattle.std.specs.List.{AllByRecursion, list_any}
use Rattle.std.proofs.lemmas.Bool.{cases_Bool, eq-eqb, eqb-true, false_from_ne_true}
use Rattle.sqlite_value.specs.declared.value.Value.TheVariants.{Int}
use Rattle.sqlite_value.specs.Order.{Row, value_cmp}
use Rattle.sqlite_trees.specs.Tree.{IsTable, Trees, has_rowid, put_row, rowid}
use Rattle.sqlite_trees.specs.View.{IsShaped, is_int}
use Rattle.sqlite_trees.specs.declared.store.Shape.TheVariants as shape
use Rattle.sqlite_trees.proofs.TreeLemmas.{IsTable-put_row}
use Rattle.sqlite_keyed.proofs.ListLemmas.{ascending-filter}
use Rattle.sqlite_rules.specs.declared.error.Rowids.TheVariants.{Chosen}
use Rattle.sqlite_rules.specs.declared.error.Refusal.{Refusal}
use Rattle.sqlite_rules.specs.declared.error.Refusal.TheVariants.{BadReference, Mismatch, NoRowid, TooDeep, Violates}
use Rattle.sqlite_schema.specs.declared.schema.Constraint.TheVariants.{Check, Datatype, ForeignKey, NotNull, PrimaryKey, Unique}
use Rattle.sqlite_schema.specs.declared.schema.Keys.TheVariants.{Enforced}
use Rattle.sqlite_schema.specs.declared.schema.Table.{Table}
use Rattle.sqlite_rules.specs.Edit.{Edit, IsRefused, are_fresh, id_in, left_by, next_rowid, put_all, without_all}
use Rattle.sqlite_rules.specs.Lists.{Has}
use Rattle.sqlite_rules.proofs.ListLemmas.{all_from, all_has, has_kept, some_from, some_has}
use Rattle.sqlite_rules.proofs.PlaceLemmas.{next_is_free}
use Rattle.sqlite_rules.proofs.TableLemmas.{put_has, taken_is, without_all_has}
use Rattle.sqlite.specs.Effect.{edit_error}
use Rattle.sqlite.specs.declared.error.Error.{Error}
use Rattle.sqlite.specs.declared.error.Error.TheVariants.{SqliteFailure}
use Rattle.sqlite.specs.declared.error.ErrorCode.TheVariants as code
use Rattle.sql_tables.proofs.Refusals.{StopsAtLimit, StopsEdit, told}
use Rattle.sql_tables.proofs.Rows.{without_all-filter}
use Rattle.store_tables.specs.Tables.{store_schema}
use Rattle.store_sql_laws.specs.Rowids.{rowid_taken}
use Rattle.store_sql_laws.proofs.Rows.{own_rowid}

abbrev pub Ascend : List Row → Type 0
Ascend = IsShaped shape.Table

-- ---- the rows then

pub put_ascends : (new : Row) (rows : List Row) → IsTrue (is_int (rowid new)) → Ascend rows → Ascend (put_row new rows)
put_ascends new rows int up = (
  IsTable-put_row new rows up.0,
  all_from (λ (r : Row). IsTrue (is_int (rowid r))) (put_row new rows) (λ x h. elim (put_has new rows x h) [ inl same ↦ rw same int | inr there ↦ all_has (λ (r : Row). IsTrue (is_int (rowid r))) rows x up.1 there ]),
)

pub put_all_ascend : (news rows : List Row) → AllByRecursion (λ r. IsTrue (is_int (rowid r))) news → Ascend rows → Ascend (put_all rows news)
put_all_ascend [] rows ints up = up
put_all_ascend (new ∷ news) rows ints up = put_all_ascend news (put_row new rows) ints.1 (put_ascends new rows ints.0 up)

pub left_ascend : (ids : List ℤ) (rows : List Row) → Ascend rows → Ascend (without_all rows ids)
left_ascend ids rows up = (
  subst IsTable (sym (without_all-filter ids rows)) (ascending-filter (λ a b. value_cmp (rowid a) (rowid b) ≡ Less) (λ r. not (list_any (λ id. has_rowid id r) ids)) rows up.0),
  all_from (λ (r : Row). IsTrue (is_int (rowid r))) (without_all rows ids) (λ x h. all_has (λ (r : Row). IsTrue (is_int (rowid r))) rows x up.1 (without_all_has ids rows x h)),
)

-- one table is changed, and the others stay
pub tables_ascend : (tables : List Table) (tree : ℕ) (old new : Trees) → Ascend (new tree) → AllByRecursion (λ t. t.tree ≢ tree → new t.tree ≡ old t.tree) tables
    → AllByRecursion (λ t. Ascend (old t.tree)) tables → AllByRecursion (λ t. Ascend (new t.tree)) tables
tables_ascend [] tree old new here others up = tt
tables_ascend (t ∷ tables) tree old new here others up = (
  elim (cases_Bool (t.tree == tree)) [
    | inl same ↦ subst (λ n. Ascend (new n)) (sym (eqb-true t.tree tree same)) here
    | inr apart ↦ subst Ascend (sym (others.0 (λ same. true≢false (sym (eq-eqb t.tree tree same) ∙ apart)))) up.0
  ],
  tables_ascend tables tree old new here others.1 up.1,
)

-- ---- no rowid is taken

-- one is chosen behind the last
pub chosen_fresh : (rows : List Row) (cells : Row) → Ascend rows → are_fresh rows ((Int (next_rowid rows) ∷ cells) ∷ []) ≡ true
chosen_fresh rows cells up = ap (λ b. not b && true) (next_is_free Chosen rows cells up.0 up.1)

-- rows with rowids of their own, none of which is there
pub all_fresh : (news rows : List Row) → AllByRecursion (λ r. is_int (rowid r) ≡ true) news → ((id : ℤ) → length (filter (has_rowid id) news) ≤ 1)
    → ((x : Row) → Has news x → list_any (has_rowid (id_in (rowid x))) rows ≡ false) → are_fresh rows news ≡ true
all_fresh [] rows ints once free = refl
all_fresh (new ∷ news) rows ints once free =
    ap (λ b. not b && are_fresh (put_row new rows) news) (taken_is rows new ints.0 ∙ free new (inl refl))
    ∙ all_fresh news (put_row new rows) ints.1 (λ id. fewer_left (has_rowid id new) id (once id)) later
  where
    fewer_left : (b : Bool) (id : ℤ) → length (cond b (new ∷ filter (has_rowid id) news) (filter (has_rowid id) news)) ≤ 1 → length (filter (has_rowid id) news) ≤ 1
    fewer_left true id few = omega (arith, few)
    fewer_left false id few = few

    twice : (x : Row) → Has news x → has_rowid (id_in (rowid x)) x ≡ true → has_rowid (id_in (rowid x)) new ≡ true → ⊥
    twice x h own other = let few = once (id_in (rowid x)) in some_more (filter (has_rowid (id_in (rowid x))) news) (has_kept (has_rowid (id_in (rowid x))) news x h own) (rw other at few)
      where
        some_more : (l : List Row) → Has l x → length (new ∷ l) ≤ 1 → ⊥
        some_more [] none few = none
        some_more (y ∷ l) has few = omega (arith, few)

    later : (x : Row) → Has news x → list_any (has_rowid (id_in (rowid x))) (put_row new rows) ≡ false
    later x h = false_from_ne_true _ (λ some.
        let hit = some_has (has_rowid (id_in (rowid x))) (put_row new rows) some in
        elim (put_has new rows hit.0 hit.1) [
          | inl same ↦ twice x h (own_rowid x (all_has (λ (r : Row). is_int (rowid r) ≡ true) news x ints.1 h)) (subst (λ r. has_rowid (id_in (rowid x)) r ≡ true) same hit.2)
          | inr there ↦ true≢false (sym (some_from (has_rowid (id_in (rowid x))) rows hit.0 there hit.2) ∙ free x (inr h))
        ])

-- ---- an edit is refused for a rowid only where one is taken

by_rowid : (db : Trees) (edit : Edit) (why : Refusal) → IsRefused store_schema Enforced db edit why → rowid_taken ≡ edit_error why → are_fresh (left_by db edit) edit.news ≡ true → ⊥
by_rowid db edit (Violates Datatype) refused is fresh = cc
by_rowid db edit (Violates NotNull) refused is fresh = cc
by_rowid db edit (Violates Check) refused is fresh = cc
by_rowid db edit (Violates PrimaryKey) refused is fresh = true≢false (sym fresh ∙ refused)
by_rowid db edit (Violates Unique) refused is fresh = cc
by_rowid db edit (Violates ForeignKey) refused is fresh = cc
by_rowid db edit Mismatch refused is fresh = cc
by_rowid db edit NoRowid refused is fresh = cc
by_rowid db edit BadReference refused is fresh = cc
by_rowid db edit TooDeep refused is fresh = cc

pub never_for_rowid : (limit : Option ℕ) (db : Trees) (edit : Edit) (stop : Option Error) → rowid_taken ≡ told stop → StopsAtLimit limit stop ⊎ StopsEdit store_schema Enforced db edit stop
    → are_fresh (left_by db edit) edit.news ≡ true → ⊥
never_for_rowid limit db edit stop is (inl met) fresh = let e : rowid_taken ≡ SqliteFailure code.OperationInterrupted = is ∙ ap told met.1 in cc
never_for_rowid limit db edit stop is (inr (inl (why, refused, said))) fresh = by_rowid db edit why refused (is ∙ ap told said) fresh
never_for_rowid limit db edit stop is (inr (inr big)) fresh = let e : rowid_taken ≡ SqliteFailure code.TooBig = is ∙ ap told big.3 in cc
