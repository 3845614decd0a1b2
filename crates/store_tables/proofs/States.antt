-- What the statements over the state of objects do to the records.
use Rattle.std.proofs.Common.{◌≡◌, ℕ, Bool, not, List, [], ◌∷◌, ◌++◌, filter, refl, sym, subst, codes}
use Rattle.std.proofs.lemmas.List.{map-append}
use Rattle.sqlite_keyed.proofs.ListLemmas.{all-append, all-filter}
use Rattle.sqlite.specs.declared.types.Value.TheVariants.{Null, Text, Blob}
use Rattle.sqlite_value.specs.Order.{Row}
use Rattle.sqlite.specs.Term.{Term, lit, col}
use Rattle.sqlite.specs.Cast.{cast_all}
use Rattle.sqlite.specs.State.{State}
use Rattle.sqlite.specs.Listing.{understood}
use Rattle.sqlite_tied.specs.Compute.{everything}
use Rattle.sql_tables.specs.QueryAnswers.{HasRun}
use Rattle.sql_tables.specs.Content.{HasRows}
use Rattle.sql_tables.proofs.Cells.{same_text, same_blob}
use Rattle.store_tables.specs.Tables.{store_schema, state_columns, state_keys}
use Rattle.store_tables.specs.Statements.{add_state_text, drop_state_text, drop_states_text}
use Rattle.store_tables.specs.Records.{StateRow, FitsState, state_cells, with_state, without_state, without_states, is_at_key, is_of_object}
use Rattle.store_tables.proofs.Matching.{Test, equal, match_cells, one_test, two_tests}
use Rattle.store_tables.proofs.Moves.{IsDelete, IsInsert, Moves, dropped, inserted, states_turned}

unfoldable pub terms : List Term
terms = lit Null ∷ col 0 0 ∷ col 0 1 ∷ col 0 2 ∷ []

pub adds : (s : StateRow) → IsInsert add_state_text (state_cells s) (state_cells s) 4 terms 4
unfolding understood everything terms
adds s = record { command = refl; plain = (refl, refl); values = refl }

pub casts : (s : StateRow) → cast_all state_columns (state_cells s) ≡ state_cells s
casts s = refl

pub state_added : (s : StateRow) → FitsState s → (old new : State) → old.now.schema ≡ store_schema → HasRun add_state_text (state_cells s) old new → Moves (with_state s) old new
state_added s fits old new has run =
    let change = inserted add_state_text (state_cells s) (state_cells s) 4 terms 4 (adds s) 5 (codes "state") state_columns state_keys refl (casts s) old new has run in (
      change.schema,
      λ r h. states_turned old.now new.now r h change.others (r.states ++ s ∷ []) (subst (HasRows (new.now.trees 5)) (sym (map-append state_cells r.states (s ∷ []))) (change.rows _ h.states)) (all-append FitsState r.states (s ∷ []) h.fit_states (fits, tt)),
    )

-- ---- states that are removed

-- the states stay that do not pass
others_stay : (sql : List ℕ) (params : Row) (tests : List Test) → IsDelete sql 5 4 tests → (test : StateRow → Bool) → ((s : StateRow) → match_cells params tests (state_cells s) ≡ test s)
    → (old new : State) → old.now.schema ≡ store_schema → HasRun sql params old new → Moves (λ r. record r { states = filter (λ s. not (test s)) r.states }) old new
others_stay sql params tests it test is old new has run =
    let change = dropped sql params 5 4 tests it (codes "state") state_columns state_keys refl state_cells test is old new has run in (
      change.0,
      λ r h. states_turned old.now new.now r h change.1.0 (filter (λ s. not (test s)) r.states) (change.1.1 r.states h.states) (all-filter FitsState (λ s. not (test s)) r.states h.fit_states),
    )

pub drops_key : IsDelete drop_state_text 5 4 (equal 0 0 ∷ equal 1 1 ∷ [])
unfolding understood everything
drops_key = record { command = refl; plain = (refl, refl) }

pub state_dropped : (object key : List ℕ) (old new : State) → old.now.schema ≡ store_schema → HasRun drop_state_text (Text object ∷ Blob key ∷ []) old new → Moves (without_state object key) old new
state_dropped object key = others_stay drop_state_text (Text object ∷ Blob key ∷ []) (equal 0 0 ∷ equal 1 1 ∷ []) drops_key (is_at_key object key) (λ s. two_tests _ _ _ _ (same_text s.object object) (same_blob s.key key))

pub drops_object : IsDelete drop_states_text 5 4 (equal 0 0 ∷ [])
unfolding understood everything
drops_object = record { command = refl; plain = (refl, refl) }

pub states_dropped : (object : List ℕ) (old new : State) → old.now.schema ≡ store_schema → HasRun drop_states_text (Text object ∷ []) old new → Moves (without_states object) old new
states_dropped object = others_stay drop_states_text (Text object ∷ []) (equal 0 0 ∷ []) drops_object (is_of_object object) (λ s. one_test _ _ (same_text s.object object))
