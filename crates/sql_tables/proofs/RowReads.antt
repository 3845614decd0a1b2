-- What a caller knows of rows that were read.
use Rattle.std.proofs.Common.{◌≡◌, inl, inr, ◌<◌, ℕ, Bool, true, false, cond, Option, Some, None, List, [], ◌∷◌, map, filter, drop, length, slice_get, slice_index_or, zero, suc, ◌≢◌, Result, Ok, Err, IfErr, IsErrAnd, refl, sym, ap, subst, ◌∙◌, arith}
use Rattle.std.specs.List.{AllByRecursion, find}
use Rattle.std.specs.List.Sorted.{IsPermutation}
use Rattle.std.proofs.lemmas.List.Sorted.{IsPermutation-map, length_permutation}
use Rattle.sqlite_value.specs.Order.{Row, column}
use Rattle.sqlite.specs.declared.types.Value.{Value}
use Rattle.sql_tables.specs.CellReads.{IsCell}
use Rattle.sqlite_value.specs.declared.keys.Key.{Key}
use Rattle.sqlite_trees.proofs.ListLemmas.{all-permutation}
use Rattle.sqlite_rules.specs.Lists.{Has}
use Rattle.sqlite_rules.proofs.ListLemmas.{all_has, all_from}
use Rattle.sqlite_keyed.proofs.ListLemmas.{map-map, map_same, filter-map, filter_same}
use Rattle.sqlite.specs.declared.types.Value.TheVariants.{Null}
use Rattle.sqlite.specs.Schema.{Schema}
use Rattle.sqlite.specs.Term.{Term, eval_all}
use Rattle.sqlite.specs.Command.TheVariants.{Select}
use Rattle.sqlite.specs.State.{State}
use Rattle.std.specs.Option.{option_to_list}
use Rattle.sqlite.specs.Listing.{understood, reads_listing}
use Rattle.sqlite.proofs.Callers.{IsPlain, command_of}
use Rattle.sql_tables.specs.Content.{HasRows}
use Rattle.sql_tables.specs.Statements.{rows_of, program_of}
use Rattle.sql_tables.specs.QueryAnswers.{IsAnswer}
use Rattle.sqlite_sql.specs.Program.{overlay}
use Rattle.sql_tables.proofs.Answers.{answered, no_let, passes, rows_read, shows}
use Rattle.sql_tables.proofs.Queries.{answer_as}

pub permuted : {X : Type 0} (xs ys : List X) → IsPermutation xs ys → (x : X) → Has ys x → Has xs x
permuted xs ys same x = all_has (Has xs) ys x (all-permutation (Has xs) xs ys same (all_from (Has xs) xs (λ e h. h)))

-- ---- cells tell records apart

module _ {X : Type 0} (cells : X → Row) (back : Row → X) (Fits : X → Type 0) (is : (x : X) → Fits x → back (cells x) ≡ x) where
  pub all_back : (xs : List X) → AllByRecursion Fits xs → map back (map cells xs) ≡ xs
  all_back [] fit = refl
  all_back (x ∷ xs) fit = ap (λ y. y ∷ map back (map cells xs)) (is x fit.0) ∙ ap (λ l. x ∷ l) (all_back xs fit.1)

  pub same_records : (xs ys : List X) → AllByRecursion Fits xs → AllByRecursion Fits ys → IsPermutation (map cells xs) (map cells ys) → IsPermutation xs ys
  same_records xs ys p q same = subst (λ l. IsPermutation l ys) (all_back xs p) (subst (IsPermutation (map back (map cells xs))) (all_back ys q) (IsPermutation-map back _ _ same))

-- ---- one row at most

pub no_more : {X : Type 0} (xs : List X) → IsPermutation xs [] → xs ≡ []
no_more [] same = refl
no_more (x ∷ xs) same = absurd (omega (arith, length_permutation _ _ same))

pub only_one : {X : Type 0} (xs : List X) (y : X) → IsPermutation xs (y ∷ []) → xs ≡ y ∷ []
only_one [] y same = absurd (omega (arith, length_permutation _ _ same))
only_one (x ∷ []) y same = elim (permuted (x ∷ []) (y ∷ []) same y (inl refl)) [ inl e ↦ ap (λ z. z ∷ []) (sym e) | inr none ↦ absurd none ]
only_one (x ∷ w ∷ xs) y same = absurd (omega (arith, length_permutation _ _ same))

kept_first : {X : Type 0} (test : X → Bool) (xs : List X) → find test xs ≡ slice_get (filter test xs) 0
kept_first test [] = refl
kept_first {X} test (x ∷ xs) = elim (test x) as (λ b. cond b (Some x) (find test xs) ≡ slice_get (cond b (x ∷ filter test xs) (filter test xs)) 0) [ true ↦ refl | false ↦ kept_first test xs ]

-- what was found of rows that are told apart, where one passes at most
pub found_as : {X : Type 0} (test : X → Bool) (xs : List X) (found : Option X) → IsPermutation (filter test xs) (option_to_list found) → found ≡ find test xs
found_as test xs None same = sym (kept_first test xs ∙ ap (λ l. slice_get l 0) (no_more _ same))
found_as test xs (Some x) same = sym (kept_first test xs ∙ ap (λ l. slice_get l 0) (only_one _ x same))

-- the rows of a query over one table that holds the cells of these records
module _ {X : Type 0} (schema : Schema) (sql : List ℕ) (params : Row) (old : State) (rows : List Row) (tree : ℕ) (tests project : List Term) (order : List (Term × Key)) (names : List (List ℕ)) where
  pub records_read : old.now.schema ≡ schema → IsPlain (understood schema sql) → reads_listing schema sql ≡ false
      → command_of (understood schema sql) ≡ Select (program_of (rows_of tree tests project order)) names
      → (keeps : Row → Bool) (pick : Row → Row) → ((r : Row) → passes params tests r ≡ keeps (drop 1 r)) → ((r : Row) → eval_all project (params ∷ r ∷ []) ≡ pick (drop 1 r))
      → (cells : X → Row) (test : X → Bool) → ((x : X) → keeps (cells x) ≡ test x) → ((x : X) → pick (cells x) ≡ cells x)
      → IsAnswer sql params old rows → (held : List X) → HasRows (old.now.trees tree) (map cells held) → IsPermutation (map cells (filter test held)) rows
  records_read has plain unlisted is keeps pick there shown cells test kept picked answer held h =
      let read = answer_as sql params old schema has _ is plain unlisted rows answer in
      let it = rows_read tree tests project order old.now.trees params rows keeps pick there shown read.answer (map cells held) h in
      subst (λ l. IsPermutation l rows) (ap (map pick) (filter-map keeps cells held ∙ ap (map cells) (filter_same _ _ kept held)) ∙ map-map pick cells _ ∙ map_same _ _ picked _) it

-- ---- rows that are no records

record_at : {X : Type 0} (cells : X → Row) (Fits : X → Type 0) (xs : List X) → AllByRecursion Fits xs → (k : ℕ) (d : Row) → k < length (map cells xs) → (x : X) × Fits x × (cells x ≡ slice_index_or (map cells xs) k d)
record_at cells Fits [] fit k d within = absurd (omega (arith, within))
record_at cells Fits (x ∷ xs) fit zero d within = (x, fit.0, refl)
record_at cells Fits (x ∷ xs) fit (suc k) d within = record_at cells Fits xs fit.1 k d (omega (arith, within))

-- rows are not those of records where one of them is no record's
pub foreign_among : {X : Type 0} (cells : X → Row) (Fits : X → Type 0) (rows : List Row) (k : ℕ) (d : Row) → k < length rows → ((x : X) → Fits x → cells x ≢ slice_index_or rows k d)
    → (xs : List X) → AllByRecursion Fits xs → map cells xs ≢ rows
foreign_among cells Fits rows k d within other xs fit same =
    let it = record_at cells Fits xs fit k d (subst (λ l. k < length l) (sym same) within) in
    other it.0 it.1 (it.2 ∙ ap (λ l. slice_index_or l k d) same)

pub err_and : {A E : Type 0} {P Q : E → Type 0} (r : Result A E) → IsErrAnd r P → ((e : E) → P e → Q e) → IfErr r Q
err_and (Ok x) p f = tt
err_and (Err e) p f = f e p

-- a cell of a row that has these
pub cell_of : {X : Type 0} (cell : X → Value) (Fits : X → Type 0) (cells row : Row) → cells ≡ row → (at : ℕ) → at < length cells → (x : X) → cell x ≡ column cells at → Fits x → IsCell cell Fits row at x
cell_of cell Fits cells row same at within x is fits = (subst (λ r. at < length r) same within, is ∙ ap (λ r. column r at) same, fits)

-- ---- a row by its columns

abbrev pub listed : Row → ℕ → ℕ → Row
listed row at zero = []
listed row at (suc n) = column row at ∷ listed row (suc at) n

listed_later : (x : Value) (row : Row) (at n : ℕ) → listed (x ∷ row) (suc at) n ≡ listed row at n
listed_later x row at zero = refl
listed_later x row at (suc n) = ap (λ l. column row at ∷ l) (listed_later x row (suc at) n)

pub all_listed : (row : Row) → row ≡ listed row 0 (length row)
all_listed [] = refl
all_listed (x ∷ row) = ap (λ l. x ∷ l) (all_listed row ∙ sym (listed_later x row 0 (length row)))

pub listed_as : (row : Row) (n : ℕ) → length row ≡ n → row ≡ listed row 0 n
listed_as row n len = all_listed row ∙ ap (listed row 0) len

-- ---- the rows of a whole table

all_pass : {X : Type 0} (xs : List X) → filter (λ x. true) xs ≡ xs
all_pass [] = refl
all_pass (x ∷ xs) = ap (λ l. x ∷ l) (all_pass xs)

pub rows_shown : (schema : Schema) (sql : List ℕ) (params : Row) (old : State) (rows : List Row) (tree : ℕ) (project : List Term) (order : List (Term × Key)) (names : List (List ℕ)) → old.now.schema ≡ schema → IsPlain (understood schema sql) → reads_listing schema sql ≡ false
    → command_of (understood schema sql) ≡ Select (program_of (rows_of tree [] project order)) names
    → (show : Row → Row) → ((r : Row) → eval_all project (params ∷ r ∷ []) ≡ show r)
    → IsAnswer sql params old rows → IsPermutation (map show (old.now.trees tree)) rows
rows_shown schema sql params old rows tree project order names has plain unlisted is show shown answer =
    let read = answer_as sql params old schema has _ is plain unlisted rows answer in
    let db = old.now.trees in
    let a = answered tree [] project order (overlay db []) params rows (read.answer Null) in
    let seen = rw (no_let db tree) at (shows tree [] project order (overlay db []) params rows _ a) in
    subst (λ l. IsPermutation l rows) (ap (map (λ r. eval_all project (params ∷ r ∷ []))) (all_pass (db tree)) ∙ map_same _ _ shown (db tree)) seen
