-- What the statements over invocations do to the records.
use Rattle.std.proofs.Common.{◌≡◌, ℕ, pos, Bool, true, false, not, filter, if◌then◌else◌, List, [], ◌∷◌, ◌++◌, map, drop, cond, Option, None, Some, refl, sym, ap, subst, ◌∙◌, bytes_eq, codes}
use Rattle.std.specs.Prelude.{IfSome, IsUtf8}
use Rattle.std.specs.List.{AllByRecursion}
use Rattle.std.specs.Int.{w64, cast_signed}
use Rattle.std.proofs.lemmas.List.{map-append}
use Rattle.protocol_types.specs.Version.{version_number}
use Rattle.sqlite_keyed.proofs.ListLemmas.{map-map, map_same, all-append, all-filter}
use Rattle.sqlite.specs.declared.types.Value.TheVariants.{Null, Text}
use Rattle.sqlite.specs.Values.{or_null}
use Rattle.sqlite_value.specs.Order.{Row}
use Rattle.sqlite.specs.Term.{Term, lit, col, eval_all}
use Rattle.sqlite.specs.Command.TheVariants.{Update}
use Rattle.sqlite.specs.Cast.{cast, cast_all}
use Rattle.sqlite.specs.Kind.TheVariants.{Integer, Text as Words}
use Rattle.sqlite.specs.State.{State}
use Rattle.sqlite.specs.Listing.{understood}
use Rattle.sqlite_tied.specs.Compute.{everything}
use Rattle.sqlite.proofs.Callers.{IsPlain, command_of}
use Rattle.sql_tables.specs.QueryAnswers.{HasRun}
use Rattle.sql_tables.specs.Cells.{IsLong, IsShort, long_cell, short_cell}
use Rattle.sql_tables.specs.Columns.{plain_orders}
use Rattle.sql_tables.specs.Content.{HasRows}
use Rattle.sql_tables.specs.Statements.{rows_of, program_of}
use Rattle.sql_tables.proofs.Answers.{passes}
use Rattle.sql_tables.proofs.Cells.{same_text, cast_or_null}
use Rattle.sql_tables.proofs.Tables.{update_changes}
use Rattle.sql_tables.proofs.Writes.{cast_null, cast_int}
use Rattle.store_tables.specs.Tables.{store_schema, invocation_columns, invocation_keys}
use Rattle.store_tables.specs.Statements.{add_invocation_text, drop_invocation_text, set_progress_text}
use Rattle.store_tables.specs.Records.{InvocationRow, Progress, LastError, Closing, FitsInvocation, FitsProgress, FitsError, invocation_cells, progress_cells, closing_cell, delay_of, is_named, with_invocation, with_progress, without_invocation, set_in}
use Rattle.store_tables.specs.declared.row.Closing.TheVariants.{Ended, Failed}
use Rattle.store_tables.proofs.Matching.{cells_match, equal, match_cells, one_test, tests_of}
use Rattle.store_tables.proofs.Moves.{IsDelete, IsInsert, Moves, dropped, inserted, invocations_turned, none_refers}

unfoldable pub terms : List Term
terms =
    lit Null ∷ col 0 0 ∷ col 0 1 ∷ col 0 2 ∷ col 0 3 ∷ col 0 4 ∷ col 0 5 ∷ col 0 6 ∷ col 0 7 ∷ col 0 8 ∷ col 0 9
    ∷ col 0 10 ∷ col 0 11 ∷ col 0 12 ∷ col 0 13 ∷ col 0 14 ∷ col 0 15 ∷ col 0 16 ∷ col 0 17 ∷ col 0 18
    ∷ col 0 19 ∷ col 0 20 ∷ col 0 21 ∷ []

pub adds : (i : InvocationRow) → IsInsert add_invocation_text (invocation_cells i) (invocation_cells i) 1 terms 23
unfolding understood everything terms
adds i = record { command = refl; plain = (refl, refl); values = refl }

cast_shorts : (o : Option ℕ) → cast Integer (or_null short_cell o) ≡ or_null short_cell o
cast_shorts = cast_or_null Integer short_cell cast_null (λ n. cast_int (pos n))

cast_longs : (o : Option ℕ) → cast Integer (or_null long_cell o) ≡ or_null long_cell o
cast_longs = cast_or_null Integer long_cell cast_null (λ n. cast_int (cast_signed w64 n))

cast_texts : (o : Option (List ℕ)) → cast Words (or_null Text o) ≡ or_null Text o
cast_texts = cast_or_null Words Text refl (λ t. refl)

cast_closing : (o : Option Closing) → cast Integer (or_null closing_cell o) ≡ or_null closing_cell o
cast_closing None = cast_null
cast_closing (Some Ended) = cast_int (pos 1)
cast_closing (Some Failed) = cast_int (pos 2)

cast_code : (o : Option LastError) → cast Integer (or_null (λ (e : LastError). short_cell e.code) o) ≡ or_null (λ (e : LastError). short_cell e.code) o
cast_code = cast_or_null Integer (λ (e : LastError). short_cell e.code) cast_null (λ e. cast_int (pos e.code))

cast_behavior : (o : Option LastError) → cast Integer (or_null (λ (e : LastError). short_cell e.behavior) o) ≡ or_null (λ (e : LastError). short_cell e.behavior) o
cast_behavior = cast_or_null Integer (λ (e : LastError). short_cell e.behavior) cast_null (λ e. cast_int (pos e.behavior))

cast_message : (o : Option LastError) → cast Words (or_null (λ (e : LastError). Text e.message) o) ≡ or_null (λ (e : LastError). Text e.message) o
cast_message = cast_or_null Words (λ (e : LastError). Text e.message) refl (λ e. refl)

pub casts : (i : InvocationRow) → cast_all invocation_columns (invocation_cells i) ≡ invocation_cells i
casts i =
    rw (
      cast_int (pos (version_number i.version)),
      cast_int (cast_signed w64 i.seed),
      cast_int (if i.is_whole then pos 1 else pos 0),
      cast_texts i.progress.open_object,
      cast_shorts i.progress.handed,
      cast_closing i.progress.closing,
      cast_code i.progress.last_error,
      cast_behavior i.progress.last_error,
      cast_longs (delay_of i.progress.last_error),
      cast_message i.progress.last_error,
      cast_int (pos i.progress.attempts),
      cast_int (pos i.progress.attempts_since_entry),
      cast_int (cast_signed w64 i.progress.first_moment),
      cast_int (pos i.progress.last_completion),
      cast_int (pos i.progress.entries),
      cast_shorts i.progress.heard,
      cast_int (pos i.progress.arrivals),
      cast_int (if i.progress.is_awake then pos 1 else pos 0),
    ) refl

pub invocation_added : (i : InvocationRow) → FitsInvocation i → (old new : State) → old.now.schema ≡ store_schema → HasRun add_invocation_text (invocation_cells i) old new → Moves (with_invocation i) old new
invocation_added i fits old new has run =
    let change = inserted add_invocation_text (invocation_cells i) (invocation_cells i) 1 terms 23 (adds i) 1 (codes "invocation") invocation_columns invocation_keys refl (casts i) old new has run in (
      change.schema,
      λ r h. invocations_turned old.now new.now r h change.others (r.invocations ++ i ∷ []) (subst (HasRows (new.now.trees 1)) (sym (map-append invocation_cells r.invocations (i ∷ []))) (change.rows _ h.invocations)) (all-append FitsInvocation r.invocations (i ∷ []) h.fit_invocations (fits, tt)),
    )

-- ---- what changes of one

abbrev params_of : List ℕ → Progress → Row
params_of id p = Text id ∷ progress_cells p

unfoldable pub sets : List Term
sets =
    col 1 1 ∷ col 1 2 ∷ col 1 3 ∷ col 1 4 ∷ col 1 5 ∷ col 0 1 ∷ col 0 2 ∷ col 0 3 ∷ col 0 4 ∷ col 0 5
    ∷ col 0 6 ∷ col 0 7 ∷ col 0 8 ∷ col 0 9 ∷ col 0 10 ∷ col 0 11 ∷ col 0 12 ∷ col 0 13 ∷ col 0 14
    ∷ col 0 15 ∷ col 0 16 ∷ col 0 17 ∷ []

pub set_is : command_of (understood store_schema set_progress_text) ≡ Update 1 (program_of (rows_of 1 (tests_of (equal 0 0 ∷ [])) (col 1 0 ∷ col 1 0 ∷ sets) []))
unfolding understood everything sets
set_is = refl

pub set_plain : IsPlain (understood store_schema set_progress_text)
unfolding understood everything
set_plain = (refl, refl)

pub has_id : List ℕ → Progress → Row → Bool
has_id id p cells = match_cells (params_of id p) (equal 0 0 ∷ []) cells

pub has_id_there : (id : List ℕ) (p : Progress) (r : Row) → passes (params_of id p) (tests_of (equal 0 0 ∷ [])) r ≡ has_id id p (drop 1 r)
unfolding has_id
has_id_there id p r = cells_match (params_of id p) (equal 0 0 ∷ []) r

has_id_is : (id : List ℕ) (p : Progress) (i : InvocationRow) → has_id id p (invocation_cells i) ≡ bytes_eq i.id id
unfolding has_id
has_id_is id p i = one_test _ _ (same_text i.id id)

pub changed : List ℕ → Progress → Row → Row
changed id p cells = eval_all sets (params_of id p ∷ (Null ∷ cells) ∷ [])

pub changed_is : (id : List ℕ) (p : Progress) (i : InvocationRow) → changed id p (invocation_cells i) ≡ invocation_cells (record i { progress = p })
unfolding changed sets
changed_is id p i = refl

pub changed_there : (id : List ℕ) (p : Progress) (r : Row) → eval_all sets (params_of id p ∷ r ∷ []) ≡ changed id p (drop 1 r)
unfolding changed sets
changed_there id p [] = refl
changed_there id p (x ∷ r) = refl

-- the columns of an invocation
abbrev pub IsInvocation : Row → Type 0
IsInvocation cells = (i : InvocationRow) × (cells ≡ invocation_cells i)

pub are_invocations : (is : List InvocationRow) → AllByRecursion IsInvocation (map invocation_cells is)
are_invocations [] = tt
are_invocations (i ∷ is) = ((i, refl), are_invocations is)

pub set_cells : (id : List ℕ) (p : Progress) (i : InvocationRow) → cond (has_id id p (invocation_cells i)) (changed id p (invocation_cells i)) (invocation_cells i) ≡ invocation_cells (set_in id p i)
set_cells id p i =
    rw (has_id_is id p i, changed_is id p i)
    (elim (bytes_eq i.id id) as (λ b. cond b (invocation_cells (record i { progress = p })) (invocation_cells i) ≡ invocation_cells (if b then record i { progress = p } else i)) [ true ↦ refl | false ↦ refl ])

set_fits : (id : List ℕ) (p : Progress) → FitsProgress p → (is : List InvocationRow) → AllByRecursion FitsInvocation is → AllByRecursion FitsInvocation (map (set_in id p) is)
set_fits id p fits [] all = tt
set_fits id p fits (i ∷ is) all = (
  elim (bytes_eq i.id id) as (λ b. FitsInvocation (if b then record i { progress = p } else i)) [
    | true ↦ record { id = all.0.id; object = all.0.object; seed = all.0.seed; progress = fits }
    | false ↦ all.0
  ],
  set_fits id p fits is all.1,
)

pub progress_set : (id : List ℕ) (p : Progress) → FitsProgress p → (old new : State) → old.now.schema ≡ store_schema → HasRun set_progress_text (params_of id p) old new → Moves (with_progress id p) old new
progress_set id p fits old new has run =
    let writes = λ (r : Row) (v : IsInvocation (drop 1 r)).
    ap (cast_all invocation_columns) (changed_there id p r ∙ ap (changed id p) v.1 ∙ changed_is id p v.0) ∙ casts (record v.0 { progress = p }) ∙ sym (ap (changed id p) v.1 ∙ changed_is id p v.0) in
    let change = update_changes store_schema none_refers set_progress_text (params_of id p) old new has set_plain run.count run.ran 1 (codes "invocation") invocation_columns invocation_keys (plain_orders invocation_keys) 1 refl (tests_of (equal 0 0 ∷ [])) sets (has_id id p) (changed id p) IsInvocation set_is (has_id_there id p) writes in (
      change.0,
      λ r h. invocations_turned old.now new.now r h change.2 (map (set_in id p) r.invocations)
          (subst (HasRows (new.now.trees 1)) (map-map _ invocation_cells r.invocations ∙ map_same _ _ (set_cells id p) r.invocations ∙ sym (map-map invocation_cells (set_in id p) r.invocations)) (change.1 _ (are_invocations r.invocations) h.invocations))
          (set_fits id p fits r.invocations h.fit_invocations),
    )

-- ---- what the code holds fits

pub error_fits : (o : Option LastError) → IfSome o (λ e. IsShort e.code) → IfSome o (λ e. IsShort e.behavior) → IfSome o (λ e. IfSome e.delay IsLong) → IfSome o (λ e. IsUtf8 e.message) → IfSome o FitsError
error_fits None a b c d = tt
error_fits (Some e) a b c d = record { code = a; behavior = b; delay = c; message = d }

-- ---- an invocation that is removed

pub drops_own : IsDelete drop_invocation_text 1 1 (equal 0 0 ∷ [])
unfolding understood everything
drops_own = record { command = refl; plain = (refl, refl) }

pub invocation_dropped : (id : List ℕ) (old new : State) → old.now.schema ≡ store_schema → HasRun drop_invocation_text (Text id ∷ []) old new → Moves (without_invocation id) old new
invocation_dropped id old new has run =
    let change = dropped drop_invocation_text (Text id ∷ []) 1 1 (equal 0 0 ∷ []) drops_own (codes "invocation") invocation_columns invocation_keys refl invocation_cells (is_named id) (λ i. one_test _ _ (same_text i.id id)) old new has run in (
      change.0,
      λ r h. invocations_turned old.now new.now r h change.1.0 (filter (λ i. not (is_named id i)) r.invocations) (change.1.1 r.invocations h.invocations) (all-filter FitsInvocation (λ i. not (is_named id i)) r.invocations h.fit_invocations),
    )
