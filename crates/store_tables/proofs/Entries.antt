-- What the statements over entries do to the records.
use Rattle.std.proofs.Common.{◌≡◌, ℕ, pos, not, filter, List, [], ◌∷◌, ◌++◌, Option, refl, sym, subst, codes}
use Rattle.std.specs.Int.{w64, cast_signed}
use Rattle.std.proofs.lemmas.List.{map-append}
use Rattle.sqlite_keyed.proofs.ListLemmas.{all-append, all-filter}
use Rattle.sqlite.specs.declared.types.Value.TheVariants.{Null, Text}
use Rattle.sqlite.specs.Values.{or_null}
use Rattle.sqlite.specs.Term.{Term, lit, col}
use Rattle.sqlite.specs.Cast.{cast, cast_all}
use Rattle.sqlite.specs.Kind.TheVariants.{Integer}
use Rattle.sqlite.specs.State.{State}
use Rattle.sqlite.specs.Listing.{understood}
use Rattle.sqlite_tied.specs.Compute.{everything}
use Rattle.sql_tables.specs.QueryAnswers.{HasRun}
use Rattle.sql_tables.specs.Cells.{short_cell}
use Rattle.sql_tables.specs.Content.{HasRows}
use Rattle.sql_tables.proofs.Cells.{cast_or_null, same_text}
use Rattle.sql_tables.proofs.Writes.{cast_null, cast_int}
use Rattle.store_tables.specs.Tables.{store_schema, entry_columns, entry_keys}
use Rattle.store_tables.specs.Statements.{add_entry_text, drop_entries_text}
use Rattle.store_tables.specs.Kinds.{kept_kind}
use Rattle.store_tables.specs.Records.{EntryRow, FitsEntry, entry_cells, is_entry_of, with_entry, without_entries}
use Rattle.store_tables.proofs.Matching.{equal, one_test}
use Rattle.store_tables.proofs.Moves.{IsDelete, IsInsert, Moves, dropped, entries_turned, inserted}

unfoldable pub terms : List Term
terms = lit Null ∷ col 0 0 ∷ col 0 1 ∷ col 0 2 ∷ col 0 3 ∷ col 0 4 ∷ col 0 5 ∷ col 0 6 ∷ col 0 7 ∷ col 0 8 ∷ []

pub adds : (e : EntryRow) → IsInsert add_entry_text (entry_cells e) (entry_cells e) 0 terms 10
unfolding understood everything terms
adds e = record { command = refl; plain = (refl, refl); values = refl }

cast_shorts : (o : Option ℕ) → cast Integer (or_null short_cell o) ≡ or_null short_cell o
cast_shorts = cast_or_null Integer short_cell cast_null (λ n. cast_int (pos n))

pub casts : (e : EntryRow) → cast_all entry_columns (entry_cells e) ≡ entry_cells e
casts e = rw (cast_int (pos e.place), cast_int (pos (kept_kind e.kind)), cast_shorts e.completion, cast_shorts e.second_completion, cast_shorts e.answered, cast_shorts e.arrival, cast_int (cast_signed w64 e.moment)) refl

pub entry_added : (e : EntryRow) → FitsEntry e → (old new : State) → old.now.schema ≡ store_schema → HasRun add_entry_text (entry_cells e) old new → Moves (with_entry e) old new
entry_added e fits old new has run =
    let change = inserted add_entry_text (entry_cells e) (entry_cells e) 0 terms 10 (adds e) 0 (codes "entry") entry_columns entry_keys refl (casts e) old new has run in (
      change.schema,
      λ r h. entries_turned old.now new.now r h change.others (r.entries ++ e ∷ []) (subst (HasRows (new.now.trees 0)) (sym (map-append entry_cells r.entries (e ∷ []))) (change.rows _ h.entries)) (all-append FitsEntry r.entries (e ∷ []) h.fit_entries (fits, tt)),
    )

-- ---- entries that are removed

pub drops_own : IsDelete drop_entries_text 0 0 (equal 0 0 ∷ [])
unfolding understood everything
drops_own = record { command = refl; plain = (refl, refl) }

pub entries_dropped : (invocation : List ℕ) (old new : State) → old.now.schema ≡ store_schema → HasRun drop_entries_text (Text invocation ∷ []) old new → Moves (without_entries invocation) old new
entries_dropped invocation old new has run =
    let change = dropped drop_entries_text (Text invocation ∷ []) 0 0 (equal 0 0 ∷ []) drops_own (codes "entry") entry_columns entry_keys refl entry_cells (is_entry_of invocation) (λ e. one_test _ _ (same_text e.invocation invocation)) old new has run in (
      change.0,
      λ r h. entries_turned old.now new.now r h change.1.0 (filter (λ e. not (is_entry_of invocation e)) r.entries) (change.1.1 r.entries h.entries) (all-filter FitsEntry (λ e. not (is_entry_of invocation e)) r.entries h.fit_entries),
    )
