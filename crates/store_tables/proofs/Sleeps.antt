-- What the statements over sleeps do to the records.
use Rattle.std.proofs.Common.{◌≡◌, ℕ, pos, Bool, not, List, [], ◌∷◌, ◌++◌, filter, refl, sym, subst, codes}
use Rattle.std.specs.Int.{w64, cast_signed}
use Rattle.std.proofs.lemmas.List.{map-append}
use Rattle.sqlite_keyed.proofs.ListLemmas.{all-append, all-filter}
use Rattle.sqlite.specs.declared.types.Value.TheVariants.{Null, Text}
use Rattle.sqlite_value.specs.Order.{Row}
use Rattle.sqlite.specs.Term.{Term, lit, col}
use Rattle.sqlite.specs.Cast.{cast_all}
use Rattle.sqlite.specs.State.{State}
use Rattle.sqlite.specs.Listing.{understood}
use Rattle.sqlite_tied.specs.Compute.{everything}
use Rattle.sql_tables.specs.QueryAnswers.{HasRun}
use Rattle.sql_tables.specs.Cells.{long_cell}
use Rattle.sql_tables.specs.Content.{HasRows}
use Rattle.sql_tables.proofs.Cells.{at_most_int, same_text}
use Rattle.sql_tables.proofs.Writes.{cast_int}
use Rattle.store_tables.specs.Tables.{store_schema, sleep_columns, sleep_keys}
use Rattle.store_tables.specs.Statements.{open_sleep_text, close_sleeps_text, close_sleeps_until_text}
use Rattle.store_tables.specs.Records.{SleepRow, FitsSleep, sleep_cells, with_sleep, without_sleeps, without_sleeps_until, is_sleep_of, ends_by}
use Rattle.store_tables.proofs.Matching.{Test, equal, until, match_cells, one_test}
use Rattle.store_tables.proofs.Moves.{IsDelete, IsInsert, Moves, dropped, inserted, sleeps_turned}

unfoldable pub terms : List Term
terms = lit Null ∷ col 0 0 ∷ col 0 1 ∷ col 0 2 ∷ []

pub opens : (s : SleepRow) → IsInsert open_sleep_text (sleep_cells s) (sleep_cells s) 3 terms 4
unfolding understood everything terms
opens s = record { command = refl; plain = (refl, refl); values = refl }

pub casts : (s : SleepRow) → cast_all sleep_columns (sleep_cells s) ≡ sleep_cells s
casts s = rw (cast_int (cast_signed w64 s.moment), cast_int (pos s.completion)) refl

pub sleep_opened : (s : SleepRow) → FitsSleep s → (old new : State) → old.now.schema ≡ store_schema → HasRun open_sleep_text (sleep_cells s) old new → Moves (with_sleep s) old new
sleep_opened s fits old new has run =
    let change = inserted open_sleep_text (sleep_cells s) (sleep_cells s) 3 terms 4 (opens s) 4 (codes "sleep") sleep_columns sleep_keys refl (casts s) old new has run in (
      change.schema,
      λ r h. sleeps_turned old.now new.now r h change.others (r.sleeps ++ s ∷ []) (subst (HasRows (new.now.trees 4)) (sym (map-append sleep_cells r.sleeps (s ∷ []))) (change.rows _ h.sleeps)) (all-append FitsSleep r.sleeps (s ∷ []) h.fit_sleeps (fits, tt)),
    )

-- ---- sleeps that are closed

-- the sleeps stay that do not pass
others_stay : (sql : List ℕ) (params : Row) (tests : List Test) → IsDelete sql 4 3 tests → (test : SleepRow → Bool) → ((s : SleepRow) → match_cells params tests (sleep_cells s) ≡ test s)
    → (old new : State) → old.now.schema ≡ store_schema → HasRun sql params old new → Moves (λ r. record r { sleeps = filter (λ s. not (test s)) r.sleeps }) old new
others_stay sql params tests it test is old new has run =
    let change = dropped sql params 4 3 tests it (codes "sleep") sleep_columns sleep_keys refl sleep_cells test is old new has run in (
      change.0,
      λ r h. sleeps_turned old.now new.now r h change.1.0 (filter (λ s. not (test s)) r.sleeps) (change.1.1 r.sleeps h.sleeps) (all-filter FitsSleep (λ s. not (test s)) r.sleeps h.fit_sleeps),
    )

pub closes_own : IsDelete close_sleeps_text 4 3 (equal 1 0 ∷ [])
unfolding understood everything
closes_own = record { command = refl; plain = (refl, refl) }

pub sleeps_closed : (invocation : List ℕ) (old new : State) → old.now.schema ≡ store_schema → HasRun close_sleeps_text (Text invocation ∷ []) old new → Moves (without_sleeps invocation) old new
sleeps_closed invocation = others_stay close_sleeps_text (Text invocation ∷ []) (equal 1 0 ∷ []) closes_own (is_sleep_of invocation) (λ s. one_test _ _ (same_text s.invocation invocation))

pub closes_until : IsDelete close_sleeps_until_text 4 3 (until 0 0 ∷ [])
unfolding understood everything
closes_until = record { command = refl; plain = (refl, refl) }

pub sleeps_closed_until : (moment : ℕ) (old new : State) → old.now.schema ≡ store_schema → HasRun close_sleeps_until_text (long_cell moment ∷ []) old new → Moves (without_sleeps_until moment) old new
sleeps_closed_until moment = others_stay close_sleeps_until_text (long_cell moment ∷ []) (until 0 0 ∷ []) closes_until (ends_by moment) (λ s. one_test _ _ (at_most_int (cast_signed w64 s.moment) (cast_signed w64 moment)))
