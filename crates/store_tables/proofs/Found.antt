-- From rows to the records that were asked for.
use Rattle.std.proofs.Common.{◌≡◌, ◌≤◌, ℕ, Bool, List, [], ◌∷◌, map, filter, length, Option, None, Some, Result, Ok, Err, IfErr, IfOk, IsTrue, refl, sym, ap, subst, ◌∙◌, arith}
use Rattle.sqlite_rules.proofs.ListLemmas.{all_has}
use Rattle.std.specs.Prelude.{IfSome}
use Rattle.std.specs.List.{AllByRecursion}
use Rattle.std.specs.List.Sorted.{IsPermutation}
use Rattle.std.specs.Option.{option_to_list}
use Rattle.std.specs.Cmp.{IsTotalOrder}
use Rattle.std.proofs.lemmas.Cmp.{on_total, then_total}
use Rattle.std.proofs.lemmas.List.Sorted.{IsPermutation-sym, IsPermutation-trans}
use Rattle.sqlite_keyed.proofs.ListLemmas.{all-filter}
use Rattle.sqlite_trees.proofs.ListLemmas.{all-permutation}
use Rattle.sqlite_value.specs.Order.{Row, column}
use Rattle.sqlite_value.proofs.OrderLemmas.{value_cmp_total}
use Rattle.sqlite.specs.State.{State}
use Rattle.sql_tables.specs.QueryAnswers.{IsAnswer, IsOtherRow}
use Rattle.sql_tables.specs.Statements.{IsFirst, cells_cmp}
use Rattle.sql_tables.specs.declared.read.ReadError.{ReadError}
use Rattle.sql_tables.specs.declared.read.ReadError.TheVariants.{Foreign}
use Rattle.sql_tables.proofs.RowReads.{all_back, found_as, no_more, only_one, same_records}
use Rattle.sqlite_keyed.specs.Lists.{sort_by}
use Rattle.sqlite_keyed.proofs.SortLemmas.{IsPermutation-sort_by}
use Rattle.store_tables.specs.Asks.{AreTold, AsksRows, AsksFirst, AsksInOrder, by_cells}
use Rattle.store_tables.specs.Records.{Records, Holds}
use Rattle.store_tables.specs.Questions.{IsAmbiguous, IsFound}
use Rattle.store_tables.specs.Tables.{store_schema}

fits_listed : {X : Type 0} (Fits : X → Type 0) (o : Option X) → IfSome o Fits → AllByRecursion Fits (option_to_list o)
fits_listed Fits None fits = tt
fits_listed Fits (Some x) fits = (fits, tt)

module _ {X : Type 0} (cells : X → Row) (Fits : X → Type 0) (records : Records → List X) (test : X → Bool) (sql : List ℕ) (params : Row) (s : State) (has : s.now.schema ≡ store_schema) (asks : AsksRows cells Fits records test sql params s) where
  fit_passing : (r : Records) → Holds s.now.trees r → AllByRecursion Fits (filter test (records r))
  fit_passing r h = all-filter Fits test (records r) (asks.fit r h)

  pub all_found : (xs : List X) → IsAnswer sql params s (map cells xs) → AllByRecursion Fits xs → (r : Records) → Holds s.now.trees r → IsPermutation (filter test (records r)) xs
  all_found xs answer fits r h = same_records cells asks.back Fits asks.told (filter test (records r)) xs (fit_passing r h) fits (asks.read has _ answer r h)

  pub one_found : (o : Option X) → IsAnswer sql params s (map cells (option_to_list o)) → IfSome o Fits → IsFound records test s.now.trees o
  one_found o answer fits r h = found_as test (records r) o (all_found (option_to_list o) answer (fits_listed Fits o fits) r h)

  pub one_ambiguous : IsOtherRow sql params s (λ rows. (o : Option X) × IfSome o Fits × (map cells (option_to_list o) ≡ rows)) → IsAmbiguous records test s.now.trees
  one_ambiguous other r h few = by_list (filter test (records r)) few (fit_passing r h) (asks.read has other.0 other.1 r h)
    where
      by_list : (xs : List X) → length xs ≤ 1 → AllByRecursion Fits xs → IsPermutation (map cells xs) other.0 → ⊥
      by_list [] few fits same = other.2 (None, tt, sym (no_more other.0 (IsPermutation-sym _ _ same)))
      by_list (x ∷ []) few fits same = other.2 (Some x, fits.0, sym (only_one other.0 (cells x) (IsPermutation-sym _ _ same)))
      by_list (x ∷ y ∷ xs) few fits same = omega arith

-- the order of rows by cells is one of records
cells_total : (order : List ℕ) → IsTotalOrder (cells_cmp order)
cells_total [] = record { antisymm = λ a b. refl; trans = λ a b c less other. less; congr = λ a b c same. refl }
cells_total (at ∷ order) = then_total (on_total (λ row. column row at) value_cmp_total) (cells_total order)

pub by_cells_total : {X : Type 0} (cells : X → Row) (order : List ℕ) → IsTotalOrder (by_cells cells order)
by_cells_total cells order = on_total cells (cells_total order)

-- the records in the one order that cells give them
module _ {X : Type 0} (cells : X → Row) (Fits : X → Type 0) (records : Records → List X) (test : X → Bool) (order : List ℕ) (sql : List ℕ) (params : Row) (s : State) (has : s.now.schema ≡ store_schema) (it : AsksInOrder cells Fits records test order sql params s) where
  fit_arranged : (r : Records) → Holds s.now.trees r → (zs : List X) → IsPermutation (filter test (records r)) zs → AllByRecursion Fits (sort_by (by_cells cells order) zs)
  fit_arranged r h zs same =
      all-permutation Fits (filter test (records r)) (sort_by (by_cells cells order) zs)
      (IsPermutation-trans _ _ _ same (IsPermutation-sym _ _ (IsPermutation-sort_by (by_cells cells order) (by_cells_total cells order) zs)))
      (all-filter Fits test (records r) (it.asks.fit r h))

  pub all_arranged : (xs : List X) → IsAnswer sql params s (map cells xs) → AllByRecursion Fits xs → (r : Records) → Holds s.now.trees r → (zs : List X) → IsPermutation (filter test (records r)) zs → AreTold cells order zs
      → xs ≡ sort_by (by_cells cells order) zs
  all_arranged xs answer fits r h zs same told =
      sym (all_back cells it.asks.back Fits it.asks.told xs fits) ∙ ap (map it.asks.back) (it.ordered has (map cells xs) answer r h zs same told)
      ∙ all_back cells it.asks.back Fits it.asks.told (sort_by (by_cells cells order) zs) (fit_arranged r h zs same)

  pub all_other : IsOtherRow sql params s (λ rows. (xs : List X) × AllByRecursion Fits xs × (map cells xs ≡ rows)) → (r : Records) → Holds s.now.trees r → (zs : List X) → IsPermutation (filter test (records r)) zs → AreTold cells order zs → ⊥
  all_other other r h zs same told = other.2 (sort_by (by_cells cells order) zs, fit_arranged r h zs same, sym (it.ordered has other.0 other.1 r h zs same told))

-- the first of the records in that order
module _ {X : Type 0} (cells : X → Row) (Fits : X → Type 0) (records : Records → List X) (test : X → Bool) (order : List ℕ) (sql : List ℕ) (params : Row) (s : State) (has : s.now.schema ≡ store_schema) (it : AsksFirst cells Fits records test order sql params s) where
  fits_first : (r : Records) → Holds s.now.trees r → (o : Option X) → IsFirst (by_cells cells order) (filter test (records r)) o → IfSome o Fits
  fits_first r h None first = tt
  fits_first r h (Some x) first = all_has Fits (filter test (records r)) x (all-filter Fits test (records r) (it.fit r h)) first.0

  same_one : (a b : Option X) → IfSome a Fits → IfSome b Fits → map cells (option_to_list a) ≡ map cells (option_to_list b) → a ≡ b
  same_one None None p q e = refl
  same_one None (Some y) p q e = absurd cc
  same_one (Some x) None p q e = absurd cc
  same_one (Some x) (Some y) p q e =
      let same : cells x ≡ cells y = cc in
      ap Some (sym (it.told x p) ∙ ap it.back same ∙ it.told y q)

  pub first_found : (o : Option X) → IsAnswer sql params s (map cells (option_to_list o)) → IfSome o Fits → (r : Records) → Holds s.now.trees r → IsFirst (by_cells cells order) (filter test (records r)) o
  first_found o answer fits r h =
      let read = it.read has (map cells (option_to_list o)) answer r h in
      subst (IsFirst (by_cells cells order) (filter test (records r))) (sym (same_one o read.0 fits (fits_first r h read.0 read.1) read.2)) read.1

  pub first_other : IsOtherRow sql params s (λ rows. (o : Option X) × IfSome o Fits × (map cells (option_to_list o) ≡ rows)) → (r : Records) → Holds s.now.trees r → ⊥
  first_other other r h =
      let read = it.read has other.0 other.1 r h in
      other.2 (read.0, fits_first r h read.0 read.1, sym read.2)

-- ---- what the answer to a question tells

module _ {X : Type 0} (cells : X → Row) (Fits : X → Type 0) (sql : List ℕ) (params : Row) (s : State) (store : IsTrue s.is_open → s.now.schema ≡ store_schema) where
  pub tells_one : (o : Result (Option X) ReadError) → IfOk o (λ x. IsTrue s.is_open × IsAnswer sql params s (map cells (option_to_list x)) × IfSome x Fits)
      → IfOk o (λ x. (records : Records → List X) (test : X → Bool) → AsksRows cells Fits records test sql params s → IsFound records test s.now.trees x)
  tells_one (Ok x) it = λ records test asks. one_found cells Fits records test sql params s (store it.0) asks x it.1 it.2
  tells_one (Err e) it = tt

  pub tells_ambiguous : {A : Type 0} (o : Result A ReadError) → IfErr o (λ e. e ≡ Foreign → IsTrue s.is_open × IsOtherRow sql params s (λ rows. (x : Option X) × IfSome x Fits × (map cells (option_to_list x) ≡ rows)))
      → IfErr o (λ e. e ≡ Foreign → (records : Records → List X) (test : X → Bool) → AsksRows cells Fits records test sql params s → IsAmbiguous records test s.now.trees)
  tells_ambiguous (Ok x) it = tt
  tells_ambiguous (Err e) it = λ is records test asks. one_ambiguous cells Fits records test sql params s (store (it is).0) asks (it is).1
