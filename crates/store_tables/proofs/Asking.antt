-- What the questions ask for.
use Rattle.std.proofs.Common.{◌≡◌, ◌&&◌, ℕ, suc, Bool, true, false, List, [], ◌∷◌, map, take, Option, None, Some, refl, ap, subst, ◌∙◌, bytes_eq}
use Rattle.std.specs.List.{AllByRecursion}
use Rattle.std.specs.Cmp.Lexicographic.{slice_cmp}
use Rattle.std.specs.declared.cmp.Ordering.{Ordering}
use Rattle.std.specs.declared.cmp.Ordering.TheVariants.{Less, Equal, Greater}
use Rattle.std.specs.Ordering.{is_gt, is_lt, nat_cmp, ordering_reverse}
use Rattle.std.proofs.lemmas.Cmp.{nat_list_cmp_total}
use Rattle.std.specs.Int.{w64, cast_signed}
use Rattle.std.specs.List.Sorted.{IsPermutation}
use Rattle.sqlite_trees.specs.Tree.{Trees}
use Rattle.sqlite.specs.declared.types.Value.TheVariants.{Text, Blob}
use Rattle.sqlite.specs.Values.{or_null}
use Rattle.sqlite_value.specs.Order.{Row, column, value_cmp}
use Rattle.sqlite_value.proofs.OrderLemmas.{value_cmp-Text}
use Rattle.sqlite_value.specs.declared.keys.Key.{Key}
use Rattle.sqlite.specs.Term.{Term, eval_all}
use Rattle.sqlite.specs.Command.TheVariants.{Select}
use Rattle.sqlite.specs.State.{State}
use Rattle.sqlite.specs.Listing.{reads_listing, understood}
use Rattle.sqlite_sql.specs.Ops.{binary, from_truth, is_true}
use Rattle.sqlite_tied.specs.Compute.{everything}
use Rattle.sqlite.proofs.Callers.{IsPlain, command_of}
use Rattle.sqlite_schema.specs.declared.schema.Column.{Column}
use Rattle.sql_tables.specs.QueryAnswers.{IsAnswer}
use Rattle.sql_tables.specs.Cells.{long_cell, short_cell}
use Rattle.sql_tables.specs.Content.{HasRows}
use Rattle.sql_tables.specs.Statements.{by_columns, first_row_query, rows_of, program_of}
use Rattle.sql_tables.proofs.Cells.{above_null, above_short, are_same, at_least_int, at_most_int, is_above as is_above_cell, same_blob, same_text, same_short, same_null-Int, same_null-Text}
use Rattle.sql_tables.proofs.Ordered.{record_first, records_ordered}
use Rattle.sql_tables.proofs.RowReads.{listed, records_read, rows_shown}
use Rattle.store_tables.specs.Asks.{AsksRows, AsksFirst, AsksInOrder}
use Rattle.store_tables.specs.Tables.{store_schema, entry_columns, invocation_columns, meta_columns, sleep_columns, state_columns}
use Rattle.store_tables.specs.Statements.{arrival_at_text, arrivals_after_text, awake_ids_text, entries_text, entry_at_text, entry_by_answered_text, entry_by_completion_text, entry_by_second_completion_text, first_invocation_text, first_sleep_text, invocation_after_text, invocation_by_id_text, marks_text, open_invocation_text, sleeps_until_text, state_at_text, states_text}
use Rattle.store_tables.specs.Records.{EntryRow, FitsEntry, FitsInvocation, FitsMark, FitsSleep, FitsState, Holds, IsMarked, Records, cells_of_mark, ends_by, ends_from, entry_cells, invocation_cells, mark_cells, sleep_cells, state_cells, the_mark}
use Rattle.store_tables.specs.Questions.{answers, asks_for, asks_second_for, has_id, is_above, is_arrival_after, is_arrival_at, is_at_key, is_at_place, is_before, is_named_after, is_number, is_of_object, is_open_of, is_text}
use Rattle.store_tables.proofs.Back.{entry_back, entry_back_is, invocation_back, invocation_back_is, mark_back, mark_back_is, mark_fits, sleep_back, sleep_back_is, state_back, state_back_is}
use Rattle.store_tables.proofs.Matching.{Test, behind, cells_match, column_there, columns_from, columns_shown, equal, from, match_cells, one_test, tests_of, two_tests, until}

-- a table of so many columns keeps these records, and a row tells which it is of
pub record Keeps {X : Type 0} (tree width : ℕ) (cells : X → Row) (Fits : X → Type 0) (records : Records → List X) : Type 0 where
  pub held : (db : Trees) (r : Records) → Holds db r → HasRows (db tree) (map cells (records r))
  pub fit : (db : Trees) (r : Records) → Holds db r → AllByRecursion Fits (records r)
  pub whole : (x : X) → listed (cells x) 0 width ≡ cells x
  pub back : Row → X
  pub told : (x : X) → Fits x → back (cells x) ≡ x

-- the text asks for the rows of a table whose columns pass by the parameters
pub record IsSelect (sql : List ℕ) (tree : ℕ) (columns : List Column) (width : ℕ) (places : List Test) (order : List (Term × Key)) : Type 0 where
  pub command : command_of (understood store_schema sql) ≡ Select (program_of (rows_of tree (tests_of places) (columns_from 1 width) order)) (map (λ (c : Column). c.name) columns)
  pub plain : IsPlain (understood store_schema sql)
  pub unlisted : reads_listing store_schema sql ≡ false

-- the text asks for the first of them
pub record IsFirstSelect (sql : List ℕ) (tree : ℕ) (columns : List Column) (width : ℕ) (places : List Test) (order : List (Term × Key)) : Type 0 where
  pub command : command_of (understood store_schema sql) ≡ Select (program_of (first_row_query (rows_of tree (tests_of places) (columns_from 1 width) order))) (map (λ (c : Column). c.name) columns)
  pub plain : IsPlain (understood store_schema sql)
  pub unlisted : reads_listing store_schema sql ≡ false

module _ {X : Type 0} (tree width : ℕ) (cells : X → Row) (Fits : X → Type 0) (records : Records → List X) (kept : Keeps tree width cells Fits records) (columns : List Column) (sql : List ℕ) (places : List Test) where
  pub asks_of : (order : List (Term × Key)) → IsSelect sql tree columns width places order → (params : Row) (s : State) (test : X → Bool) → ((x : X) → match_cells params places (cells x) ≡ test x) → AsksRows cells Fits records test sql params s
  asks_of order select params s test same = record {
    back = kept.back;
    told = kept.told;
    fit = kept.fit s.now.trees;
    read = λ has rows answer r h. records_read store_schema sql params s rows tree (tests_of places) (columns_from 1 width) order (map (λ (c : Column). c.name) columns) has select.plain select.unlisted select.command
        (match_cells params places) (λ row. listed row 0 width) (cells_match params places) (λ row. columns_shown params row 0 width) cells test same kept.whole answer (records r) (kept.held s.now.trees r h);
  }

  pub asks_first_of : (order : List ℕ) → IsFirstSelect sql tree columns width places (by_columns (map suc order)) → (params : Row) (s : State) (test : X → Bool) → ((x : X) → match_cells params places (cells x) ≡ test x)
      → AsksFirst cells Fits records test order sql params s
  asks_first_of order select params s test same = record {
    back = kept.back;
    told = kept.told;
    fit = kept.fit s.now.trees;
    read = λ has rows answer r h. record_first store_schema sql params s rows tree (tests_of places) (columns_from 1 width) order (map (λ (c : Column). c.name) columns) has select.plain select.unlisted select.command
        (match_cells params places) (λ row. listed row 0 width) (cells_match params places) (λ row. columns_shown params row 0 width) column_there cells test same kept.whole answer (records r) (kept.held s.now.trees r h);
  }

  pub asks_in_order_of : (order : List ℕ) → IsSelect sql tree columns width places (by_columns (map suc order)) → (params : Row) (s : State) (test : X → Bool) → ((x : X) → match_cells params places (cells x) ≡ test x)
      → AsksInOrder cells Fits records test order sql params s
  asks_in_order_of order select params s test same = record {
    asks = asks_of (by_columns (map suc order)) select params s test same;
    ordered = λ has rows answer r h. records_ordered store_schema sql params s rows tree (tests_of places) (columns_from 1 width) order (map (λ (c : Column). c.name) columns) has select.plain select.unlisted select.command
        (match_cells params places) (λ row. listed row 0 width) (cells_match params places) (λ row. columns_shown params row 0 width) column_there cells test same kept.whole answer (records r) (kept.held s.now.trees r h);
  }

-- ---- invocations

kept_invocations : Keeps 1 22 invocation_cells FitsInvocation (λ r. r.invocations)
kept_invocations = record { held = λ db r h. h.invocations; fit = λ db r h. h.fit_invocations; whole = λ i. refl; back = invocation_back; told = invocation_back_is }

pub selects_id : IsSelect invocation_by_id_text 1 invocation_columns 22 (equal 0 0 ∷ []) []
unfolding understood everything
selects_id = record { command = refl; plain = (refl, refl); unlisted = refl }

pub asks_id : (s : State) (id : List ℕ) → AsksRows invocation_cells FitsInvocation (λ r. r.invocations) (has_id id) invocation_by_id_text (Text id ∷ []) s
asks_id s id = asks_of 1 22 invocation_cells FitsInvocation (λ r. r.invocations) kept_invocations invocation_columns _ (equal 0 0 ∷ []) _ selects_id _ s _ (λ i. one_test _ _ (same_text i.id id))

pub selects_open : IsSelect open_invocation_text 1 invocation_columns 22 (equal 5 0 ∷ []) []
unfolding understood everything
selects_open = record { command = refl; plain = (refl, refl); unlisted = refl }

same_optional_text : (o : Option (List ℕ)) (t : List ℕ) → are_same (or_null Text o) (Text t) ≡ is_text t o
same_optional_text None t = same_null-Text t
same_optional_text (Some s) t = same_text s t

pub asks_open : (s : State) (object : List ℕ) → AsksRows invocation_cells FitsInvocation (λ r. r.invocations) (is_open_of object) open_invocation_text (Text object ∷ []) s
asks_open s object = asks_of 1 22 invocation_cells FitsInvocation (λ r. r.invocations) kept_invocations invocation_columns _ (equal 5 0 ∷ []) _ selects_open _ s _ (λ i. one_test _ _ (same_optional_text i.progress.open_object object))

-- the first column alone
pub selects_awake : IsSelect awake_ids_text 1 (take 1 invocation_columns) 1 (equal 21 0 ∷ []) (by_columns (1 ∷ []))
unfolding understood everything
selects_awake = record { command = refl; plain = (refl, refl); unlisted = refl }

pub selects_first_invocation : IsFirstSelect first_invocation_text 1 invocation_columns 22 [] (by_columns (1 ∷ []))
unfolding understood everything
selects_first_invocation = record { command = refl; plain = (refl, refl); unlisted = refl }

pub asks_first_invocation : (s : State) → AsksFirst invocation_cells FitsInvocation (λ r. r.invocations) (is_named_after None) (0 ∷ []) first_invocation_text [] s
asks_first_invocation s = asks_first_of 1 22 invocation_cells FitsInvocation (λ r. r.invocations) kept_invocations invocation_columns _ [] (0 ∷ []) selects_first_invocation _ s _ (λ i. refl)

truth_of : (b : Bool) → is_true (from_truth (Some b)) ≡ b
truth_of true = refl
truth_of false = refl

turned : (o : Ordering) → is_gt (ordering_reverse o) ≡ is_lt o
turned Less = refl
turned Equal = refl
turned Greater = refl

-- a text is above one that is before it
above_text : (a b : List ℕ) → is_above_cell (Text a) (Text b) ≡ is_before b a
unfolding binary
above_text a b = truth_of (is_gt (value_cmp (Text a) (Text b))) ∙ ap is_gt (value_cmp-Text a b) ∙ ap is_gt (nat_list_cmp_total.antisymm a b) ∙ turned (slice_cmp nat_cmp b a)

pub selects_invocation_after : IsFirstSelect invocation_after_text 1 invocation_columns 22 (behind 0 0 ∷ []) (by_columns (1 ∷ []))
unfolding understood everything
selects_invocation_after = record { command = refl; plain = (refl, refl); unlisted = refl }

pub asks_invocation_after : (s : State) (id : List ℕ) → AsksFirst invocation_cells FitsInvocation (λ r. r.invocations) (is_named_after (Some id)) (0 ∷ []) invocation_after_text (Text id ∷ []) s
asks_invocation_after s id = asks_first_of 1 22 invocation_cells FitsInvocation (λ r. r.invocations) kept_invocations invocation_columns _ (behind 0 0 ∷ []) (0 ∷ []) selects_invocation_after _ s _ (λ i. one_test _ _ (above_text i.id id))

-- ---- entries

kept_entries : Keeps 0 9 entry_cells FitsEntry (λ r. r.entries)
kept_entries = record { held = λ db r h. h.entries; fit = λ db r h. h.fit_entries; whole = λ e. refl; back = entry_back; told = entry_back_is }

same_number : (o : Option ℕ) (n : ℕ) → are_same (or_null short_cell o) (short_cell n) ≡ is_number n o
same_number None n = same_null-Int _
same_number (Some m) n = same_short m n

-- by a number of the entry that may be null
asks_number : (at : ℕ) (field : EntryRow → Option ℕ) (sql : List ℕ) → ((e : EntryRow) → column (entry_cells e) at ≡ or_null short_cell (field e)) → IsSelect sql 0 entry_columns 9 (equal 0 0 ∷ equal at 1 ∷ []) []
    → (s : State) (invocation : List ℕ) (n : ℕ) → AsksRows entry_cells FitsEntry (λ r. r.entries) (λ e. bytes_eq e.invocation invocation && is_number n (field e)) sql (Text invocation ∷ short_cell n ∷ []) s
asks_number at field sql is select s invocation n =
    asks_of 0 9 entry_cells FitsEntry (λ r. r.entries) kept_entries entry_columns sql (equal 0 0 ∷ equal at 1 ∷ []) [] select _ s _
    (λ e. two_tests _ _ _ _ (same_text e.invocation invocation) (ap (λ v. are_same v (short_cell n)) (is e) ∙ same_number (field e) n))

pub selects_completion : IsSelect entry_by_completion_text 0 entry_columns 9 (equal 0 0 ∷ equal 4 1 ∷ []) []
unfolding understood everything
selects_completion = record { command = refl; plain = (refl, refl); unlisted = refl }

pub asks_completion : (s : State) (invocation : List ℕ) (n : ℕ) → AsksRows entry_cells FitsEntry (λ r. r.entries) (asks_for invocation n) entry_by_completion_text (Text invocation ∷ short_cell n ∷ []) s
asks_completion = asks_number 4 (λ e. e.completion) _ (λ e. refl) selects_completion

pub selects_second : IsSelect entry_by_second_completion_text 0 entry_columns 9 (equal 0 0 ∷ equal 5 1 ∷ []) []
unfolding understood everything
selects_second = record { command = refl; plain = (refl, refl); unlisted = refl }

pub asks_second : (s : State) (invocation : List ℕ) (n : ℕ) → AsksRows entry_cells FitsEntry (λ r. r.entries) (asks_second_for invocation n) entry_by_second_completion_text (Text invocation ∷ short_cell n ∷ []) s
asks_second = asks_number 5 (λ e. e.second_completion) _ (λ e. refl) selects_second

pub selects_answered : IsSelect entry_by_answered_text 0 entry_columns 9 (equal 0 0 ∷ equal 6 1 ∷ []) []
unfolding understood everything
selects_answered = record { command = refl; plain = (refl, refl); unlisted = refl }

pub asks_answered : (s : State) (invocation : List ℕ) (n : ℕ) → AsksRows entry_cells FitsEntry (λ r. r.entries) (answers invocation n) entry_by_answered_text (Text invocation ∷ short_cell n ∷ []) s
asks_answered = asks_number 6 (λ e. e.answered) _ (λ e. refl) selects_answered

pub selects_arrival : IsSelect arrival_at_text 0 entry_columns 9 (equal 0 0 ∷ equal 7 1 ∷ []) []
unfolding understood everything
selects_arrival = record { command = refl; plain = (refl, refl); unlisted = refl }

pub asks_arrival : (s : State) (invocation : List ℕ) (n : ℕ) → AsksRows entry_cells FitsEntry (λ r. r.entries) (is_arrival_at invocation n) arrival_at_text (Text invocation ∷ short_cell n ∷ []) s
asks_arrival = asks_number 7 (λ e. e.arrival) _ (λ e. refl) selects_arrival

pub selects_place : IsSelect entry_at_text 0 entry_columns 9 (equal 0 0 ∷ equal 1 1 ∷ []) []
unfolding understood everything
selects_place = record { command = refl; plain = (refl, refl); unlisted = refl }

pub asks_place : (s : State) (invocation : List ℕ) (place : ℕ) → AsksRows entry_cells FitsEntry (λ r. r.entries) (is_at_place invocation place) entry_at_text (Text invocation ∷ short_cell place ∷ []) s
asks_place s invocation place =
    asks_of 0 9 entry_cells FitsEntry (λ r. r.entries) kept_entries entry_columns _ (equal 0 0 ∷ equal 1 1 ∷ []) [] selects_place _ s _
    (λ e. two_tests _ _ _ _ (same_text e.invocation invocation) (same_short e.place place))

pub selects_after : IsSelect arrivals_after_text 0 entry_columns 9 (equal 0 0 ∷ behind 7 1 ∷ []) (by_columns (8 ∷ []))
unfolding understood everything
selects_after = record { command = refl; plain = (refl, refl); unlisted = refl }

above_number : (o : Option ℕ) (n : ℕ) → is_above_cell (or_null short_cell o) (short_cell n) ≡ is_above n o
above_number None n = above_null _
above_number (Some m) n = above_short m n

pub asks_after : (s : State) (invocation : List ℕ) (n : ℕ) → AsksInOrder entry_cells FitsEntry (λ r. r.entries) (is_arrival_after invocation n) (7 ∷ []) arrivals_after_text (Text invocation ∷ short_cell n ∷ []) s
asks_after s invocation n =
    asks_in_order_of 0 9 entry_cells FitsEntry (λ r. r.entries) kept_entries entry_columns _ (equal 0 0 ∷ behind 7 1 ∷ []) (7 ∷ []) selects_after _ s _
    (λ e. two_tests _ _ _ _ (same_text e.invocation invocation) (above_number e.arrival n))

pub selects_entries : IsSelect entries_text 0 entry_columns 9 (equal 0 0 ∷ []) (by_columns (2 ∷ []))
unfolding understood everything
selects_entries = record { command = refl; plain = (refl, refl); unlisted = refl }

pub asks_entries : (s : State) (invocation : List ℕ) → AsksInOrder entry_cells FitsEntry (λ r. r.entries) (λ e. bytes_eq e.invocation invocation) (1 ∷ []) entries_text (Text invocation ∷ []) s
asks_entries s invocation = asks_in_order_of 0 9 entry_cells FitsEntry (λ r. r.entries) kept_entries entry_columns _ (equal 0 0 ∷ []) (1 ∷ []) selects_entries _ s _ (λ e. one_test _ _ (same_text e.invocation invocation))

-- ---- the state of objects

kept_states : Keeps 5 3 state_cells FitsState (λ r. r.states)
kept_states = record { held = λ db r h. h.states; fit = λ db r h. h.fit_states; whole = λ s. refl; back = state_back; told = state_back_is }

pub selects_state : IsSelect state_at_text 5 state_columns 3 (equal 0 0 ∷ equal 1 1 ∷ []) []
unfolding understood everything
selects_state = record { command = refl; plain = (refl, refl); unlisted = refl }

pub asks_state : (s : State) (object key : List ℕ) → AsksRows state_cells FitsState (λ r. r.states) (is_at_key object key) state_at_text (Text object ∷ Blob key ∷ []) s
asks_state s object key =
    asks_of 5 3 state_cells FitsState (λ r. r.states) kept_states state_columns _ (equal 0 0 ∷ equal 1 1 ∷ []) [] selects_state _ s _
    (λ x. two_tests _ _ _ _ (same_text x.object object) (same_blob x.key key))

pub selects_states : IsSelect states_text 5 state_columns 3 (equal 0 0 ∷ []) (by_columns (2 ∷ []))
unfolding understood everything
selects_states = record { command = refl; plain = (refl, refl); unlisted = refl }

pub asks_states : (s : State) (object : List ℕ) → AsksInOrder state_cells FitsState (λ r. r.states) (is_of_object object) (1 ∷ []) states_text (Text object ∷ []) s
asks_states s object = asks_in_order_of 5 3 state_cells FitsState (λ r. r.states) kept_states state_columns _ (equal 0 0 ∷ []) (1 ∷ []) selects_states _ s _ (λ x. one_test _ _ (same_text x.object object))

-- ---- sleeps

kept_sleeps : Keeps 4 3 sleep_cells FitsSleep (λ r. r.sleeps)
kept_sleeps = record { held = λ db r h. h.sleeps; fit = λ db r h. h.fit_sleeps; whole = λ s. refl; back = sleep_back; told = sleep_back_is }

pub selects_sleeps : IsSelect sleeps_until_text 4 sleep_columns 3 (until 0 0 ∷ []) (by_columns (2 ∷ 1 ∷ 3 ∷ []))
unfolding understood everything
selects_sleeps = record { command = refl; plain = (refl, refl); unlisted = refl }

pub asks_sleeps : (s : State) (moment : ℕ) → AsksInOrder sleep_cells FitsSleep (λ r. r.sleeps) (ends_by moment) (1 ∷ 0 ∷ 2 ∷ []) sleeps_until_text (long_cell moment ∷ []) s
asks_sleeps s moment = asks_in_order_of 4 3 sleep_cells FitsSleep (λ r. r.sleeps) kept_sleeps sleep_columns _ (until 0 0 ∷ []) (1 ∷ 0 ∷ 2 ∷ []) selects_sleeps _ s _ (λ x. one_test _ _ (at_most_int (cast_signed w64 x.moment) (cast_signed w64 moment)))

pub selects_first_sleep : IsFirstSelect first_sleep_text 4 sleep_columns 3 (from 0 0 ∷ []) (by_columns (1 ∷ []))
unfolding understood everything
selects_first_sleep = record { command = refl; plain = (refl, refl); unlisted = refl }

pub asks_first_sleep : (s : State) (moment : ℕ) → AsksFirst sleep_cells FitsSleep (λ r. r.sleeps) (ends_from moment) (0 ∷ []) first_sleep_text (long_cell moment ∷ []) s
asks_first_sleep s moment = asks_first_of 4 3 sleep_cells FitsSleep (λ r. r.sleeps) kept_sleeps sleep_columns _ (from 0 0 ∷ []) (0 ∷ []) selects_first_sleep _ s _ (λ x. one_test _ _ (at_least_int (cast_signed w64 x.moment) (cast_signed w64 moment)))

-- ---- the mark

kept_marks : Keeps 3 2 cells_of_mark FitsMark (λ r. the_mark ∷ [])
kept_marks = record { held = λ db r h. h.mark; fit = λ db r h. (mark_fits, tt); whole = λ m. refl; back = mark_back; told = mark_back_is }

pub selects_marks : IsSelect marks_text 3 meta_columns 2 [] []
unfolding understood everything
selects_marks = record { command = refl; plain = (refl, refl); unlisted = refl }

pub asks_marks : (s : State) → AsksRows cells_of_mark FitsMark (λ r. the_mark ∷ []) (λ m. true) marks_text [] s
asks_marks s = asks_of 3 2 cells_of_mark FitsMark (λ r. the_mark ∷ []) kept_marks meta_columns marks_text [] [] selects_marks [] s (λ m. true) (λ m. refl)

two_columns : (params r : Row) → eval_all (columns_from 1 2) (params ∷ r ∷ []) ≡ column r 1 ∷ column r 2 ∷ []
two_columns params r = refl

-- the rows that were read are the table's
pub marked : (s : State) (rows : List Row) → s.now.schema ≡ store_schema → IsAnswer marks_text [] s rows → rows ≡ mark_cells ∷ [] → IsMarked s.now.trees
marked s rows has answer is =
    subst (IsPermutation (map (λ r. column r 1 ∷ column r 2 ∷ []) (s.now.trees 3))) is
    (rows_shown store_schema marks_text [] s rows 3 (columns_from 1 2) [] (map (λ (c : Column). c.name) meta_columns) has selects_marks.plain selects_marks.unlisted selects_marks.command (λ r. column r 1 ∷ column r 2 ∷ []) (two_columns []) answer)
