-- The ids of the invocations of which an attempt may go on: their column alone is asked for.
use Rattle.std.proofs.Common.{◌≡◌, ◌∙◌, refl, sym, ap, ap₂, subst, true, false, List, [], ◌∷◌, map, filter}
use Rattle.std.specs.List.Sorted.{IsPermutation}
use Rattle.std.proofs.lemmas.List.Sorted.{IsPermutation-cons, IsPermutation-map, IsPermutation-middle, IsPermutation-refl, IsPermutation-trans}
use Rattle.std.specs.Ordering.{is_eq}
use Rattle.sqlite_keyed.specs.Lists.{sort_by}
use Rattle.sqlite_keyed.proofs.ListLemmas.{all-filter, all_map, all_of, all_weaker, along_permutation, ascending-map, ascending_from_map, filter-map, filter_all, filter_same, map-map}
use Rattle.sqlite_keyed.proofs.SortLemmas.{sort_by-map}
use Rattle.sqlite.specs.State.{State}
use Rattle.sqlite_value.specs.Order.{Row, bytes, column}
use Rattle.sql_tables.specs.Cells.{flag_cell}
use Rattle.sql_tables.specs.QueryAnswers.{IsAnswer}
use Rattle.sql_tables.specs.Statements.{by_columns, cells_cmp}
use Rattle.sql_tables.proofs.Answers.{rows_read}
use Rattle.sql_tables.proofs.Cells.{same_flag}
use Rattle.sql_tables.proofs.Ordered.{AreApart, rows_ordered}
use Rattle.sql_tables.proofs.Queries.{answer_as}
use Rattle.sql_tables.proofs.RowReads.{listed}
use Rattle.store_tables.specs.Asks.{AreTold, AsksInOrder, by_cells}
use Rattle.store_tables.specs.Tables.{store_schema}
use Rattle.store_tables.specs.Records.{FitsId, FitsInvocation, Holds, IdRow, InvocationRow, Records, id_cells, id_row, invocation_cells}
use Rattle.store_tables.specs.Questions.{DoAscend, awake_ids, is_awake}
use Rattle.store_tables.specs.Statements.{awake_ids_text}
use Rattle.store_tables.proofs.Asking.{selects_awake}
use Rattle.store_tables.proofs.Matching.{Test, cells_match, column_there, columns_from, columns_shown, equal, match_cells, one_test, tests_of}

-- ---- another order of what a function makes is made of another order

module _ {X Y : Type 0} (f : X → Y) where
  IsMade : List Y → List Y → Type 0
  IsMade from to = (xs : List X) → map f xs ≡ from → (zs : List X) × (map f zs ≡ to) × IsPermutation xs zs

  under : (y : Y) (from to : List Y) → IsMade from to → IsMade (y ∷ from) (y ∷ to)
  unfolding IsMade
  under y from to made [] e = absurd cc
  under y from to made (x ∷ xs) e =
      let first : f x ≡ y = cc in
      let later : map f xs ≡ from = cc in
      let it = made xs later in
      (x ∷ it.0, ap₂ (λ (a : Y) (l : List Y). a ∷ l) first it.1, IsPermutation-cons x xs it.0 it.2)

  over : (y w : Y) (from : List Y) → IsMade (y ∷ w ∷ from) (w ∷ y ∷ from)
  unfolding IsMade
  over y w from [] e = absurd cc
  over y w from (x ∷ []) e = absurd cc
  over y w from (x ∷ v ∷ xs) e =
      let moved : map f (v ∷ x ∷ xs) ≡ w ∷ y ∷ from = cc in
      (v ∷ x ∷ xs, moved, IsPermutation-middle (x ∷ []) v xs)

  made_again : (xs : List Y) → IsMade xs xs
  unfolding IsMade
  made_again from xs e = (xs, e, IsPermutation-refl xs)

  made_on : (from between to : List Y) → IsMade from between → IsMade between to → IsMade from to
  unfolding IsMade
  made_on from between to one two xs e =
      let it = one xs e in
      let more = two it.0 it.1 in
      (more.0, more.1, IsPermutation-trans _ _ _ it.2 more.2)

  pub made_of : (xs : List X) (ys : List Y) → IsPermutation (map f xs) ys → (zs : List X) × (map f zs ≡ ys) × IsPermutation xs zs
  unfolding IsMade
  made_of xs ys same = along_permutation IsMade made_again under over made_on (map f xs) ys same xs refl

-- ---- rows and their ids alone

pub ids_ascend : (xs : List InvocationRow) → DoAscend (λ (i : InvocationRow). i.id) xs → DoAscend (λ (i : IdRow). i.id) (map id_row xs)
ids_ascend [] up = tt
ids_ascend (x ∷ []) up = tt
ids_ascend (x ∷ y ∷ xs) up = (up.0, ids_ascend (y ∷ xs) up.1)

pub rows_ascend : (xs : List InvocationRow) → DoAscend (λ (i : IdRow). i.id) (map id_row xs) → DoAscend (λ (i : InvocationRow). i.id) xs
rows_ascend [] up = tt
rows_ascend (x ∷ []) up = tt
rows_ascend (x ∷ y ∷ xs) up = (up.0, rows_ascend (y ∷ xs) up.1)

-- of the ids none is left out
pub all_ids : (r : Records) → filter (λ (i : IdRow). true) (awake_ids r) ≡ awake_ids r
all_ids r = filter_all (λ (i : IdRow). true) (awake_ids r) (all_of (λ (i : IdRow). true ≡ true) (λ i. refl) (awake_ids r))

pub ids_arranged : (r : Records) (xs : List InvocationRow) → IsPermutation (filter is_awake r.invocations) xs → IsPermutation (filter (λ (i : IdRow). true) (awake_ids r)) (map id_row xs)
ids_arranged r xs same = subst (λ l. IsPermutation l (map id_row xs)) (sym (all_ids r)) (IsPermutation-map id_row _ xs same)

-- ---- the statement

abbrev places : List Test
places = equal 21 0 ∷ []

abbrev given : Row
given = flag_cell true ∷ []

abbrev pick : Row → Row
pick row = listed row 0 1

passing : (rows : List InvocationRow) → filter (match_cells given places) (map invocation_cells rows) ≡ map invocation_cells (filter is_awake rows)
passing rows =
    filter-map (match_cells given places) invocation_cells rows
    ∙ ap (map invocation_cells) (filter_same (λ i. match_cells given places (invocation_cells i)) is_awake (λ i. one_test _ _ (same_flag i.progress.is_awake)) rows)

module _ (s : State) (has : s.now.schema ≡ store_schema) (rows : List Row) (answer : IsAnswer awake_ids_text given s rows) (r : Records) (h : Holds s.now.trees r) where
  ids_read : IsPermutation (map id_cells (filter (λ (i : IdRow). true) (awake_ids r))) rows
  ids_read =
      let read = answer_as awake_ids_text given s store_schema has _ selects_awake.command selects_awake.plain selects_awake.unlisted rows answer in
      let all = rows_read 1 (tests_of places) (columns_from 1 1) (by_columns (1 ∷ [])) s.now.trees given rows (match_cells given places) pick (cells_match given places) (λ row. columns_shown given row 0 1) read.answer (map invocation_cells r.invocations) h.invocations in
      let as_ids : map pick (filter (match_cells given places) (map invocation_cells r.invocations)) ≡ map id_cells (filter (λ (i : IdRow). true) (awake_ids r)) =
      ap (map pick) (passing r.invocations) ∙ map-map pick invocation_cells (filter is_awake r.invocations) ∙ sym (map-map id_cells id_row (filter is_awake r.invocations)) ∙ ap (map id_cells) (sym (all_ids r)) in
      subst (λ l. IsPermutation l rows) as_ids all

  by_rows : (zs : List IdRow) → AreTold id_cells (0 ∷ []) zs → (ys : List InvocationRow) → map id_row ys ≡ zs → IsPermutation (filter is_awake r.invocations) ys
      → rows ≡ map id_cells (sort_by (by_cells id_cells (0 ∷ [])) zs)
  by_rows zs told ys are same =
      let read = answer_as awake_ids_text given s store_schema has _ selects_awake.command selects_awake.plain selects_awake.unlisted rows answer in
      let arranged : IsPermutation (filter (match_cells given places) (map invocation_cells r.invocations)) (map invocation_cells ys) =
      subst (λ l. IsPermutation l (map invocation_cells ys)) (sym (passing r.invocations)) (IsPermutation-map invocation_cells _ ys same) in
      let apart : AreApart (cells_cmp (0 ∷ [])) (map invocation_cells ys) =
      ascending-map (λ a b. is_eq (cells_cmp (0 ∷ []) a b) ≡ false) invocation_cells ys
      (ascending_from_map (λ (a b : IdRow). is_eq (by_cells id_cells (0 ∷ []) a b) ≡ false) id_row ys (subst (AreTold id_cells (0 ∷ [])) (sym are) told)) in
      let sorted : List InvocationRow = sort_by (λ a b. cells_cmp (0 ∷ []) (invocation_cells a) (invocation_cells b)) ys in
      rows_ordered 1 (tests_of places) (columns_from 1 1) (0 ∷ []) s.now.trees given rows (match_cells given places) pick (cells_match given places) (λ row. columns_shown given row 0 1) column_there read.answer
      (map invocation_cells r.invocations) h.invocations (map invocation_cells ys) arranged apart
      ∙ ap (map pick) (sort_by-map (cells_cmp (0 ∷ [])) invocation_cells ys)
      ∙ map-map pick invocation_cells sorted
      ∙ sym (map-map id_cells id_row sorted)
      ∙ ap (map id_cells) (sym (sort_by-map (by_cells id_cells (0 ∷ [])) id_row ys))
      ∙ ap (λ l. map id_cells (sort_by (by_cells id_cells (0 ∷ [])) l)) are

  ids_ordered : (zs : List IdRow) → IsPermutation (filter (λ (i : IdRow). true) (awake_ids r)) zs → AreTold id_cells (0 ∷ []) zs → rows ≡ map id_cells (sort_by (by_cells id_cells (0 ∷ [])) zs)
  ids_ordered zs same told =
      let it = made_of id_row (filter is_awake r.invocations) zs (subst (λ l. IsPermutation l zs) (all_ids r) same) in
      by_rows zs told it.0 it.1 it.2

pub asks_awake : (s : State) → AsksInOrder id_cells FitsId awake_ids (λ (i : IdRow). true) (0 ∷ []) awake_ids_text (flag_cell true ∷ []) s
asks_awake s = record {
  asks = record {
    back = λ row. record { id = bytes (column row 0) };
    told = λ i fits. refl;
    fit = λ r h. all_map FitsId id_row (filter is_awake r.invocations)
        (all_weaker FitsInvocation (λ (i : InvocationRow). FitsId (id_row i)) (λ i fits. fits.id) (filter is_awake r.invocations) (all-filter FitsInvocation is_awake r.invocations h.fit_invocations));
    read = λ has rows answer r h. ids_read s has rows answer r h;
  };
  ordered = λ has rows answer r h zs same told. ids_ordered s has rows answer r h zs same told;
}
