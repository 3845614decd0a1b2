-- No statement of a write whose rows are small is refused for one that is too big.
use Rattle.std.proofs.Common.{◌≡◌, ◌⊎◌, ◌∙◌, ◌++◌, ℕ, ℤ, inl, inr, Bool, true, List, [], ◌∷◌, drop, filter, map, slice_get, Option, Some, Err, codes, refl, sym, ap, subst}
use Rattle.std.specs.List.{AllByRecursion}
use Rattle.sqlite.specs.declared.types.Value.TheVariants.{Blob, Int, Text}
use Rattle.sqlite_value.specs.Order.{Row}
use Rattle.sqlite_trees.specs.Tree.{Trees, rowid}
use Rattle.sqlite_trees.specs.View.{is_int}
use Rattle.sqlite_trees.proofs.ListLemmas.{all-permutation}
use Rattle.sqlite_typing.specs.Types.{accepts_program, accepts_terms}
use Rattle.sqlite_schema.specs.Program.{lets_of}
use Rattle.sqlite_schema.specs.declared.program.Program.{Program}
use Rattle.sqlite_schema.specs.declared.schema.Column.{Column}
use Rattle.sqlite_schema.specs.declared.schema.Constraint.TheVariants.{Check, Datatype, ForeignKey, NotNull, PrimaryKey, Unique}
use Rattle.sqlite_schema.specs.declared.schema.Keys.TheVariants.{Enforced}
use Rattle.sqlite_rules.specs.declared.error.Refusal.{Refusal}
use Rattle.sqlite_rules.specs.declared.error.Refusal.TheVariants.{BadReference, Mismatch, NoRowid, TooDeep, Violates}
use Rattle.sqlite_rules.specs.Calls.{ids_of}
use Rattle.sqlite_rules.specs.Edit.{Edit, IsOversized, edit_of, id_in, next_rowid, without_all}
use Rattle.sqlite_rules.specs.Lists.{Has}
use Rattle.sqlite_rules.proofs.ListLemmas.{all_from, all_has, has_filtered}
use Rattle.sqlite_rules.proofs.PlaceLemmas.{given}
use Rattle.sqlite_rules.proofs.TableLemmas.{int_is}
use Rattle.sqlite.specs.Cast.{cast_all, cast_row}
use Rattle.sqlite.specs.Command.TheVariants.{Delete, Update}
use Rattle.sqlite.specs.Rowids.TheVariants.{Given}
use Rattle.sqlite.specs.Effect.{Answers, Database, edit_error}
use Rattle.sqlite.specs.Term.{Term, col, eval_all}
use Rattle.sqlite.specs.declared.error.Error.{Error}
use Rattle.sqlite.specs.declared.error.Error.TheVariants.{SqliteFailure}
use Rattle.sqlite.specs.declared.error.ErrorCode.TheVariants as code
use Rattle.sql_tables.specs.Causes.{AreRefused, IsRefusedFor, Statement, enforced}
use Rattle.sql_tables.specs.Cells.{long_cell}
use Rattle.sql_tables.specs.Columns.{plain_orders, table_of}
use Rattle.sql_tables.specs.Statements.{program_of, rows_of}
use Rattle.sql_tables.proofs.Answers.{passes}
use Rattle.sql_tables.proofs.Cells.{same_text}
use Rattle.sql_tables.proofs.Comes.{comes_as}
use Rattle.sql_tables.proofs.Places.{changed, insert_stops, refused_as}
use Rattle.sql_tables.proofs.Refusals.{StopsAtLimit, StopsEdit, delete_refused, told, update_refused}
use Rattle.sql_tables.proofs.Tables.{cells, rewrites}
use Rattle.store_tables.specs.Tables.{entry_columns, entry_keys, invocation_columns, invocation_keys, sleep_columns, sleep_keys, state_columns, state_keys, store_schema}
use Rattle.store_tables.specs.Statements.{add_entry_text, add_invocation_text, add_state_text, close_sleeps_text, close_sleeps_until_text, drop_entries_text, drop_invocation_text, drop_state_text, drop_states_text, open_sleep_text, set_progress_text, statement, statements_of, statements_of_all}
use Rattle.store_tables.specs.Questions.{has_id}
use Rattle.store_tables.specs.Records.{Records, applied, applied_all, entry_cells, invocation_cells, progress_cells, sleep_cells, state_cells, with_state, without_state}
use Rattle.store_tables.specs.declared.row.EntryRow.{EntryRow}
use Rattle.store_tables.specs.declared.row.InvocationRow.{InvocationRow}
use Rattle.store_tables.specs.declared.row.Progress.{Progress}
use Rattle.store_tables.specs.declared.row.SleepRow.{SleepRow}
use Rattle.store_tables.specs.declared.row.StateRow.{StateRow}
use Rattle.store_tables.specs.declared.row.Write.{Write}
use Rattle.store_tables.specs.declared.row.Write.TheVariants.{AddInvocation, AddEntry, CloseSleeps, CloseSleepsUntil, DropEntries, DropInvocation, DropState, DropStates, OpenSleep, PutState, SetProgress}
use Rattle.store_tables.proofs.Matching.{Test, cells_match, equal, match_cells, one_test, tests_of, until}
use Rattle.store_tables.proofs.Moves.{IsDelete, IsInsert, none_refers}
use Rattle.store_tables.proofs.Refusals.{accepts_entry, accepts_invocation, accepts_progress, accepts_sleep, accepts_state, no_sums, no_sums_set, written}
use Rattle.store_tables.proofs.Entries as entries
use Rattle.store_tables.proofs.Invocations as invocations
use Rattle.store_tables.proofs.Sleeps as sleeps
use Rattle.store_tables.proofs.States as states
use Rattle.store_sql_laws.specs.Keys.{AreNew, IsNewIn}
use Rattle.store_sql_laws.specs.Size.{AreSmall, IsSmall, IsSmallIn, NoneIsTooBig, too_big}
use Rattle.store_sql_laws.proofs.Records.{none_left}
use Rattle.store_sql_laws.proofs.Rows.{from_mapped, stands_for}
use Rattle.store_sql_laws.proofs.Spared.{IsSpared}
use Rattle.store_sql_laws.proofs.Spared as spared
use Rattle.store_sql_laws.proofs.Stands.{Stands}
use Rattle.store_sql_laws.proofs.Storable.{entry_fits, invocation_fits, sleep_fits, state_fits}

-- ---- an edit is told too big only where a row of it cannot be stored

no_size : (why : Refusal) → too_big ≡ edit_error why → ⊥
no_size (Violates Datatype) is = cc
no_size (Violates NotNull) is = cc
no_size (Violates Check) is = cc
no_size (Violates PrimaryKey) is = cc
no_size (Violates Unique) is = cc
no_size (Violates ForeignKey) is = cc
no_size Mismatch is = cc
no_size NoRowid is = cc
no_size BadReference is = cc
no_size TooDeep is = cc

never_for_size : (limit : Option ℕ) (db : Trees) (edit : Edit) (stop : Option Error) → too_big ≡ told stop → StopsAtLimit limit stop ⊎ StopsEdit store_schema Enforced db edit stop
    → ((row : Row) → Has edit.news row → IsOversized store_schema edit.table row → ⊥) → ⊥
never_for_size limit db edit stop is (inl met) fit = let e : too_big ≡ SqliteFailure code.OperationInterrupted = is ∙ ap told met.1 in cc
never_for_size limit db edit stop is (inr (inl (why, refused, said))) fit = no_size why (is ∙ ap told said)
never_for_size limit db edit stop is (inr (inr (row, has, big, said))) fit = fit row has big

alone : (row one : Row) → Has (one ∷ []) row → row ≡ one
alone row one (inl same) = same
alone row one (inr none) = absurd none

abbrev IsRoomy : Option ℕ → Statement → Records → Type 0
IsRoomy limit one r = (db : Database) → Stands db r → IsRefusedFor limit one db too_big → ⊥

module _ (limit : Option ℕ) where
  -- ---- INSERT

  module _ (sql : List ℕ) (row : Row) (at : ℕ) (terms : List Term) (width : ℕ) (it : IsInsert sql row row at terms width) (tree : ℕ) (name : List ℕ) (columns : List Column) (keys : List (List ℕ))
      (found : slice_get store_schema.tables at ≡ Some (table_of tree name columns keys)) (accepts : accepts_terms terms row ≡ true) (casts : cast_all columns row ≡ row)
      (fit : (id : ℤ) → IsOversized store_schema (table_of tree name columns keys) (Int id ∷ row) → ⊥) where
    roomy_insert : (db : Database) → db.schema ≡ store_schema → IsRefusedFor limit (statement sql row) db too_big → ⊥
    roomy_insert db has refused =
        let stops = insert_stops store_schema none_refers limit (statement sql row) db has it.plain tree name columns keys (plain_orders keys) at found too_big refused terms width row it.command accepts it.values casts in
        let put : Row = Int (next_rowid (db.trees tree)) ∷ row in
        never_for_size limit db.trees (record { table = table_of tree name columns keys; gone = []; news = put ∷ [] }) stops.0 stops.1 stops.2
        (λ one is big. fit (next_rowid (db.trees tree)) (subst (IsOversized store_schema (table_of tree name columns keys)) (alone one put is) big))

  adds_entry : (e : EntryRow) (r : Records) → IsSmall (entry_cells e) → IsRoomy limit (statement add_entry_text (entry_cells e)) r
  adds_entry e r small db h =
      roomy_insert add_entry_text (entry_cells e) 0 entries.terms 10 (entries.adds e) 0 (codes "entry") entry_columns entry_keys refl (accepts_entry limit e) (entries.casts e) (λ id. entry_fits id e small) db h.schema

  adds_state : (s : StateRow) (r : Records) → IsSmall (state_cells s) → IsRoomy limit (statement add_state_text (state_cells s)) r
  adds_state s r small db h =
      roomy_insert add_state_text (state_cells s) 4 states.terms 4 (states.adds s) 5 (codes "state") state_columns state_keys refl (accepts_state limit s) (states.casts s) (λ id. state_fits id s small) db h.schema

  opens_sleep : (s : SleepRow) (r : Records) → IsSmall (sleep_cells s) → IsRoomy limit (statement open_sleep_text (sleep_cells s)) r
  opens_sleep s r small db h =
      roomy_insert open_sleep_text (sleep_cells s) 3 sleeps.terms 4 (sleeps.opens s) 4 (codes "sleep") sleep_columns sleep_keys refl (accepts_sleep limit s) (sleeps.casts s) (λ id. sleep_fits id s small) db h.schema

  adds_invocation : (i : InvocationRow) (r : Records) → IsSmall (invocation_cells i) → IsRoomy limit (statement add_invocation_text (invocation_cells i)) r
  adds_invocation i r small db h =
      roomy_insert add_invocation_text (invocation_cells i) 1 invocations.terms 23 (invocations.adds i) 1 (codes "invocation") invocation_columns invocation_keys refl (accepts_invocation limit i) (invocations.casts i)
      (λ id. invocation_fits id i small) db h.schema

  -- ---- DELETE

  module _ (sql : List ℕ) (params : Row) (tree at : ℕ) (tests : List Test) (it : IsDelete sql tree at tests) (name : List ℕ) (columns : List Column) (keys : List (List ℕ))
      (found : slice_get store_schema.tables at ≡ Some (table_of tree name columns keys)) where
    abbrev those : Program
    those = program_of (rows_of tree (tests_of tests) (col 1 0 ∷ []) [])

    roomy_delete : accepts_program store_schema (lets_of those) those.body params ≡ true → (r : Records) → IsRoomy limit (statement sql params) r
    roomy_delete accepts r db h refused =
        let stop = refused_as limit (statement sql params) db too_big refused in
        let does = comes_as store_schema none_refers limit (statement sql params) db h.schema it.plain (Delete at those) it.command (Err stop.0) stop.1 in
        elim (delete_refused store_schema none_refers limit Enforced tree name columns keys (plain_orders keys) params enforced refl does.0 at found db.trees stop.0 those accepts
        (no_sums limit sql params tree at tests it name columns keys found db.trees) does.1) [
          | inl met ↦ never_for_size limit db.trees (edit_of db.trees (table_of tree name columns keys) [] Given 0 []) stop.0 stop.2 (inl met) (λ row has big. has)
          | inr (ids, asked, stops) ↦ never_for_size limit db.trees (edit_of db.trees (table_of tree name columns keys) (ids_of ids) Given 0 []) stop.0 stop.2 (inr stops) (λ row has big. has)
        ]

  drops_state : (object key : List ℕ) (r : Records) → IsRoomy limit (statement drop_state_text (Text object ∷ Blob key ∷ [])) r
  drops_state object key = roomy_delete drop_state_text (Text object ∷ Blob key ∷ []) 5 4 (equal 0 0 ∷ equal 1 1 ∷ []) states.drops_key (codes "state") state_columns state_keys refl refl

  drops_states : (object : List ℕ) (r : Records) → IsRoomy limit (statement drop_states_text (Text object ∷ [])) r
  drops_states object = roomy_delete drop_states_text (Text object ∷ []) 5 4 (equal 0 0 ∷ []) states.drops_object (codes "state") state_columns state_keys refl refl

  closes_sleeps : (invocation : List ℕ) (r : Records) → IsRoomy limit (statement close_sleeps_text (Text invocation ∷ [])) r
  closes_sleeps invocation = roomy_delete close_sleeps_text (Text invocation ∷ []) 4 3 (equal 1 0 ∷ []) sleeps.closes_own (codes "sleep") sleep_columns sleep_keys refl refl

  closes_sleeps_until : (moment : ℕ) (r : Records) → IsRoomy limit (statement close_sleeps_until_text (long_cell moment ∷ [])) r
  closes_sleeps_until moment = roomy_delete close_sleeps_until_text (long_cell moment ∷ []) 4 3 (until 0 0 ∷ []) sleeps.closes_until (codes "sleep") sleep_columns sleep_keys refl refl

  drops_entries : (invocation : List ℕ) (r : Records) → IsRoomy limit (statement drop_entries_text (Text invocation ∷ [])) r
  drops_entries invocation = roomy_delete drop_entries_text (Text invocation ∷ []) 0 0 (equal 0 0 ∷ []) entries.drops_own (codes "entry") entry_columns entry_keys refl refl

  drops_invocation : (id : List ℕ) (r : Records) → IsRoomy limit (statement drop_invocation_text (Text id ∷ [])) r
  drops_invocation id = roomy_delete drop_invocation_text (Text id ∷ []) 1 1 (equal 0 0 ∷ []) invocations.drops_own (codes "invocation") invocation_columns invocation_keys refl refl

  -- ---- UPDATE

  abbrev setting : Program
  setting = changed 1 (tests_of (equal 0 0 ∷ [])) invocations.sets

  module _ (id : List ℕ) (p : Progress) (r : Records) (small : AllByRecursion (λ i. has_id id i ≡ true → IsSmall (invocation_cells (record i { progress = p }))) r.invocations) where
    abbrev params : Row
    params = Text id ∷ progress_cells p

    abbrev passing : Row → Bool
    passing = passes params (tests_of (equal 0 0 ∷ []))

    -- what is written is the row of an invocation of that id
    fit : (db : Database) → Stands db r → (rows : List Row) → Answers (record { schema = store_schema; trees = db.trees }) setting params rows
        → (x : Row) → Has (edit_of db.trees (table_of 1 (codes "invocation") invocation_columns invocation_keys) (ids_of rows) Given 1 rows).news x
        → IsOversized store_schema (table_of 1 (codes "invocation") invocation_columns invocation_keys) x → ⊥
    fit db h rows asked x k big =
        let table = table_of 1 (codes "invocation") invocation_columns invocation_keys in
        let news = map (λ s. cast_row table (drop 1 s)) rows in
        let made = λ (row : Row). cast_row table (drop 1 (eval_all (col 1 0 ∷ col 1 0 ∷ invocations.sets) (params ∷ row ∷ []))) in
        let were = filter passing (db.trees 1) in
        let wrote = rewrites store_schema params Enforced db db 1 (codes "invocation") invocation_columns invocation_keys (plain_orders invocation_keys) (tests_of (equal 0 0 ∷ [])) invocations.sets rows asked in
        let among = subst (λ l. Has l x) (given (without_all (db.trees 1) (ids_of rows)) news) k in
        let from = from_mapped made were x (all_has (Has (map made were)) news x (all-permutation (Has (map made were)) (map made were) news wrote (all_from (Has (map made were)) (map made were) (λ e j. j))) among) in
        let passed = has_filtered passing (db.trees 1) from.0 from.1 in
        let int = all_has (λ (row : Row). is_int (rowid row) ≡ true) (db.trees 1) from.0 h.invocations.numbered.ints passed.0 in
        let it = stands_for invocation_cells (db.trees 1) r.invocations h.invocations from.0 passed.0 in
        let own : has_id id it.0 ≡ true =
        sym (cells_match params (equal 0 0 ∷ []) from.0 ∙ ap (match_cells params (equal 0 0 ∷ [])) it.2 ∙ one_test _ _ (same_text it.0.id id)) ∙ passed.1 in
        let is : x ≡ Int (id_in (rowid from.0)) ∷ invocation_cells (record it.0 { progress = p }) =
        from.2 ∙ cells store_schema params Enforced db db 1 (codes "invocation") invocation_columns invocation_keys (plain_orders invocation_keys) invocations.sets from.0 int
        ∙ ap (λ (l : Row). rowid from.0 ∷ l) (written limit id p from.0 (it.0, it.2)) ∙ ap (λ v. v ∷ invocation_cells (record it.0 { progress = p })) (int_is (rowid from.0) int) in
        invocation_fits (id_in (rowid from.0)) (record it.0 { progress = p }) (all_has (λ i. has_id id i ≡ true → IsSmall (invocation_cells (record i { progress = p }))) r.invocations it.0 small it.1 own)
        (subst (IsOversized store_schema table) is big)

    sets_progress : IsRoomy limit (statement set_progress_text params) r
    sets_progress db h refused =
        let table = table_of 1 (codes "invocation") invocation_columns invocation_keys in
        let stop = refused_as limit (statement set_progress_text params) db too_big refused in
        let does = comes_as store_schema none_refers limit (statement set_progress_text params) db h.schema invocations.set_plain (Update 1 setting) invocations.set_is (Err stop.0) stop.1 in
        elim (update_refused store_schema none_refers limit Enforced 1 (codes "invocation") invocation_columns invocation_keys (plain_orders invocation_keys) params enforced refl does.0 1 refl db.trees stop.0 setting (accepts_progress limit id p)
        (no_sums_set limit id p db.trees) does.1) [
          | inl met ↦ never_for_size limit db.trees (edit_of db.trees table [] Given 0 []) stop.0 stop.2 (inl met) (λ row has big. has)
          | inr (rows, asked, stops) ↦ never_for_size limit db.trees (edit_of db.trees table (ids_of rows) Given 1 rows) stop.0 stop.2 (inr stops) (fit db h rows asked)
        ]

  -- ---- one after another

  abbrev Roomy : List Statement → Records → Records → Type 0
  Roomy [] r after = after ≡ r
  Roomy (one ∷ more) r after = IsRoomy limit one r × (mid : Records) × IsSpared limit one r mid × Roomy more mid after

  roomy_then : (xs ys : List Statement) (a b c : Records) → Roomy xs a b → Roomy ys b c → Roomy (xs ++ ys) a c
  roomy_then [] ys a b c is then = subst (λ r. Roomy ys r c) is then
  roomy_then (x ∷ xs) ys a b c (room, mid, one, more) then = (room, mid, one, roomy_then xs ys mid b c more then)

  roomy : (write : Write) (r : Records) → IsNewIn r write → IsSmallIn r write → Roomy (statements_of write) r (applied write r)
  roomy (AddInvocation i) r new small = (adds_invocation i r small, applied (AddInvocation i) r, spared.adds_invocation limit i r new, refl)
  roomy (SetProgress id p) r new small = (sets_progress id p r small, applied (SetProgress id p) r, spared.sets_progress limit id p r, refl)
  roomy (AddEntry e) r new small = (adds_entry e r small, applied (AddEntry e) r, spared.adds_entry limit e r, refl)
  roomy (PutState s) r new small =
      let mid = without_state s.object s.key r in
      (drops_state s.object s.key r, mid, spared.drops_state limit s.object s.key r, (adds_state s mid small, with_state s mid, spared.adds_state limit s mid (none_left s.object s.key r.states), refl))
  roomy (DropState object key) r new small = (drops_state object key r, applied (DropState object key) r, spared.drops_state limit object key r, refl)
  roomy (DropStates object) r new small = (drops_states object r, applied (DropStates object) r, spared.drops_states limit object r, refl)
  roomy (OpenSleep s) r new small = (opens_sleep s r small, applied (OpenSleep s) r, spared.opens_sleep limit s r, refl)
  roomy (CloseSleeps invocation) r new small = (closes_sleeps invocation r, applied (CloseSleeps invocation) r, spared.closes_sleeps limit invocation r, refl)
  roomy (CloseSleepsUntil moment) r new small = (closes_sleeps_until moment r, applied (CloseSleepsUntil moment) r, spared.closes_sleeps_until limit moment r, refl)
  roomy (DropInvocation id) r new small = (drops_invocation id r, applied (DropInvocation id) r, spared.drops_invocation limit id r, refl)
  roomy (DropEntries invocation) r new small = (drops_entries invocation r, applied (DropEntries invocation) r, spared.drops_entries limit invocation r, refl)

  all_roomy : (writes : List Write) (r : Records) → AreNew writes r → AreSmall writes r → Roomy (statements_of_all writes) r (applied_all writes r)
  all_roomy [] r new small = refl
  all_roomy (write ∷ writes) r new small =
      roomy_then (statements_of write) (statements_of_all writes) r (applied write r) (applied_all writes (applied write r)) (roomy write r new.0 small.0) (all_roomy writes (applied write r) new.1 small.1)

  never : (statements : List Statement) (r after : Records) → Roomy statements r after → (db : Database) → Stands db r → AreRefused limit statements db too_big → ⊥
  never [] r after all db h none = none
  never (one ∷ more) r after (room, mid, keeps, rest) db h (inl refused) = room db h refused
  never (one ∷ more) r after (room, mid, keeps, rest) db h (inr (tally, next, comes, then)) = never more mid after rest next (keeps.comes db next h tally comes) then

pub none_is_too_big : NoneIsTooBig
none_is_too_big limit writes before records has held apart new small =
    never limit (statements_of_all writes) records (applied_all writes records) (all_roomy limit writes records new small) before (record { schema = has; invocations = held.invocations; states = held.states; apart = apart })
