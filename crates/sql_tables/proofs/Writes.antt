-- What INSERT, DELETE and UPDATE do, from the meaning of their texts.
use Rattle.std.proofs.Common.{◌≡◌, ◌⊎◌, ℕ, ℤ, inl, inr, Bool, true, false, cond, List, [], ◌∷◌, ◌++◌, filter_map, flat_map, slice_get, Some, None, Option, Ok, Err, Result, refl, sym, ap, subst, ◌∙◌, append-nil}
use Rattle.std.specs.List.{AllByRecursion}
use Rattle.sqlite.specs.declared.types.Value.{Value}
use Rattle.sqlite.specs.declared.types.Value.TheVariants.{Null, Int}
use Rattle.sqlite_value.specs.Order.{Row}
use Rattle.sqlite.specs.Term.{Term}
use Rattle.sqlite.specs.Kind.TheVariants.{Integer}
use Rattle.sqlite.specs.Ops.{unary}
use Rattle.sqlite.specs.Table.{Table}
use Rattle.sqlite.specs.Schema.{Schema}
use Rattle.sqlite.specs.Source.TheVariants.{Values}
use Rattle.sqlite.specs.Command.TheVariants.{Insert, Delete, Update}
use Rattle.sqlite_schema.specs.declared.command.Command.{Command}
use Rattle.sqlite.specs.Cast.{cast}
use Rattle.sqlite.specs.Rowids.TheVariants.{Chosen, Given}
use Rattle.sqlite.specs.Tree.{Trees}
use Rattle.sqlite_rules.specs.Edit.{Edit, edit_of, Applies, taken_by}
use Rattle.sqlite_rules.specs.Calls.{ids_of}
use Rattle.sqlite_rules.specs.Action.{work_for, Writes}
use Rattle.sqlite.specs.Effect.{Database, IsSource, Answers}
use Rattle.sqlite.specs.Rows.{Task, Written, Inserts, Deletes, Updates}
use Rattle.sqlite.specs.Does.{Tally, Does, OnRows, AtPlace, WritesRows}
use Rattle.sqlite.specs.declared.run.Mode.{Mode}
use Rattle.sqlite.specs.State.{State, mode_of, Executes}
use Rattle.sqlite.specs.Listing.{understood}
use Rattle.sqlite_schema.specs.declared.program.Program.{Program}
use Rattle.sqlite.proofs.Callers.{IsPlain, command_of, statement_of, runs_as, one_step}
use Rattle.sqlite_schema.specs.declared.schema.Keys.{Keys}
use Rattle.sqlite_schema.specs.declared.schema.Column.{Column}
use Rattle.sqlite_value.specs.declared.keys.Order.{Order}
use Rattle.sql_tables.specs.Columns.{NoneRefers, table_at}

-- a part that gave a value did not stop on the way
pub went : {B E R : Type 0} {b : B} {Stops : E → Type 0} → ((stop : E) × Stops stop × (Ok b ≡ Err stop)) ⊎ R → R
went (inl stopped) = absurd (let e = stopped.2 in cc)
went (inr on) = on

pub same_value : {B E : Type 0} {a b : B} → ◌≡◌ {A = Result B E} (Ok a) (Ok b) → a ≡ b
same_value e = cc

either : (b : Bool) (x : Value) → cond b x x ≡ x
either true x = refl
either false x = refl

pub cast_null : cast Integer Null ≡ Null
unfolding unary
cast_null = either _ Null

pub cast_int : (n : ℤ) → cast Integer (Int n) ≡ Int n
unfolding unary
cast_int n = either _ (Int n)

pub none_works : (schema : Schema) (keys : Keys) (depth tree : ℕ) (olds news : List Row) (tables : List Table) → AllByRecursion (λ t. t.references ≡ []) tables
    → flat_map (λ child. filter_map (work_for schema keys depth tree olds news child) child.references) tables ≡ []
none_works schema keys depth tree olds news [] none = refl
none_works schema keys depth tree olds news (t ∷ tables) none =
    ap (λ references. filter_map (work_for schema keys depth tree olds news t) references ++ flat_map (λ child. filter_map (work_for schema keys depth tree olds news child) child.references) tables) none.0
    ∙ none_works schema keys depth tree olds news tables none.1

-- where no table refers to another, a write is its one step
once : (schema : Schema) → NoneRefers schema → (keys : Keys) (db next : Trees) (edit : Edit) → Writes schema keys db edit (Ok next) → Applies schema keys db edit next
once schema free keys db next edit written = one_step schema keys db next edit (none_works schema keys 0 edit.table.tree (taken_by db edit) edit.news schema.tables free) written

module _ (schema : Schema) (free : NoneRefers schema) (limit : Option ℕ) (keys : Keys) (tree : ℕ) (name : List ℕ) (columns : List Column) (uniques : List (List ℕ)) (orders : List Order) (params : Row) where
  abbrev table : Table
  table = table_at tree name columns uniques orders

  abbrev task : Task
  task = record { limit = limit; keys = keys; schema = schema; table = table; params = params }

  pub insert_applies : (terms : List Term) (width : ℕ) (db : Trees) (w : Written) → Inserts task (Values terms width) db (Ok w)
      → (rows : List Row) × IsSource (record { schema = schema; trees = db }) params (Values terms width) rows × Applies schema keys db (edit_of db table [] Chosen 0 rows) w.trees
  insert_applies terms width db w h =
      let given = went h in
      let written = went (went given.2).2 in
      let counted = went written.2 in
      let trees : w.trees ≡ written.0 = ap (λ (it : Written). it.trees) (same_value counted.2) ∙ same_value counted.1 in
      (given.0, subst (λ p. IsSource (record { schema = schema; trees = db }) p (Values terms width) given.0) (append-nil params) given.1, subst (Applies schema keys db (edit_of db table [] Chosen 0 given.0)) (sym trees) (once schema free keys db written.0 (edit_of db table [] Chosen 0 given.0) written.1))

  pub delete_applies : (q : Program) (db : Trees) (w : Written) → Deletes task q db (Ok w)
      → (rows : List Row) × Answers (record { schema = schema; trees = db }) q params rows × Applies schema keys db (edit_of db table (ids_of rows) Given 0 []) w.trees
  delete_applies q db w h =
      let given = went h in
      let written = went given.2 in
      let trees : w.trees ≡ written.0 = ap (λ (it : Written). it.trees) (same_value written.2) ∙ refl in
      (given.0, given.1, subst (Applies schema keys db (edit_of db table (ids_of given.0) Given 0 [])) (sym trees) (once schema free keys db written.0 (edit_of db table (ids_of given.0) Given 0 []) written.1))

  pub update_applies : (q : Program) (db : Trees) (w : Written) → Updates task q params db (Ok w)
      → (rows : List Row) × Answers (record { schema = schema; trees = db }) q params rows × Applies schema keys db (edit_of db table (ids_of rows) Given 1 rows) w.trees
  update_applies q db w h =
      let given = went h in
      let written = went given.2 in
      let trees : w.trees ≡ written.0 = ap (λ (it : Written). it.trees) (same_value written.2) ∙ refl in
      (given.0, given.1, subst (Applies schema keys db (edit_of db table (ids_of given.0) Given 1 given.0)) (sym trees) (once schema free keys db written.0 (edit_of db table (ids_of given.0) Given 1 given.0) written.1))

-- ---- from one database to another

module _ (schema : Schema) (free : NoneRefers schema) (limit : Option ℕ) (mode : Mode) (params : Row) (text : List ℕ) (db : Trees) (tally : Tally) (after : Database)
    (tree : ℕ) (name : List ℕ) (columns : List Column) (uniques : List (List ℕ)) (orders : List Order) (at : ℕ) (found : slice_get schema.tables at ≡ Some (table_at tree name columns uniques orders)) where
  abbrev the : Table
  the = table_at tree name columns uniques orders

  abbrev before : Database
  before = record { schema = schema; trees = db }

  abbrev job : Table → Task
  job t = record { limit = limit; keys = mode.keys; schema = schema; table = t; params = params }

  -- rows that the text asks for are written so
  abbrev pub WritesThese : (List Row → Type 0) → (List Row → Edit) → Type 0
  WritesThese Asked edit = (after.schema ≡ schema) × (rows : List Row) × Asked rows × Applies schema mode.keys db (edit rows) after.trees

  done : (command : Command) → AtPlace (λ t. OnRows (job t) mode None command db) (slice_get schema.tables at) (Ok (tally, after))
      → (w : Written) × WritesRows (job the) db command (Ok w) × (after ≡ record { schema = schema; trees = w.trees })
  done command does =
      let it = went (subst (λ o. AtPlace (λ t. OnRows (job t) mode None command db) o (Ok (tally, after))) found does) in
      (it.0, it.1, ap (λ (p : Tally × Database). p.1) (same_value (went (went it.2).2).2))

  pub insert_does : (terms : List Term) (width : ℕ) → Does limit mode params before text None (Insert at (Values terms width)) (Ok (tally, after))
      → WritesThese (IsSource before params (Values terms width)) (edit_of db the [] Chosen 0)
  insert_does terms width does =
      let it = done (Insert at (Values terms width)) does in
      let applied = insert_applies schema free limit mode.keys tree name columns uniques orders params terms width db it.0 it.1 in
      (ap (λ (d : Database). d.schema) it.2, applied.0, applied.1, subst (Applies schema mode.keys db (edit_of db the [] Chosen 0 applied.0)) (sym (ap (λ (d : Database). d.trees) it.2)) applied.2)

  pub delete_does : (q : Program) → Does limit mode params before text None (Delete at q) (Ok (tally, after)) → WritesThese (Answers before q params) (λ rows. edit_of db the (ids_of rows) Given 0 [])
  delete_does q does =
      let it = done (Delete at q) does in
      let applied = delete_applies schema free limit mode.keys tree name columns uniques orders params q db it.0 it.1 in
      (ap (λ (d : Database). d.schema) it.2, applied.0, applied.1, subst (Applies schema mode.keys db (edit_of db the (ids_of applied.0) Given 0 [])) (sym (ap (λ (d : Database). d.trees) it.2)) applied.2)

  pub update_does : (q : Program) → Does limit mode params before text None (Update at q) (Ok (tally, after)) → WritesThese (Answers before q params) (λ rows. edit_of db the (ids_of rows) Given 1 rows)
  update_does q does =
      let it = done (Update at q) does in
      let applied = update_applies schema free limit mode.keys tree name columns uniques orders params q db it.0 it.1 in
      (ap (λ (d : Database). d.schema) it.2, applied.0, applied.1, subst (Applies schema mode.keys db (edit_of db the (ids_of applied.0) Given 1 applied.0)) (sym (ap (λ (d : Database). d.trees) it.2)) applied.2)

-- ---- from one state to another

module _ (schema : Schema) (free : NoneRefers schema) (sql : List ℕ) (params : Row) (old new : State) (has : old.now.schema ≡ schema) (plain : IsPlain (understood schema sql)) (count : ℕ) (ran : Executes sql params old new (Ok count))
    (tree : ℕ) (name : List ℕ) (columns : List Column) (uniques : List (List ℕ)) (orders : List Order) (at : ℕ) (found : slice_get schema.tables at ≡ Some (table_at tree name columns uniques orders)) where
  abbrev keys_of : Keys
  keys_of = (mode_of old).keys

  abbrev text : List ℕ
  text = statement_of sql (understood schema sql)

  -- so the rows are written
  abbrev pub WritesNow : (List Row → Type 0) → (List Row → Edit) → Type 0
  WritesNow Asked edit = (new.now.schema ≡ schema) × (rows : List Row) × Asked rows × Applies schema keys_of old.now.trees (edit rows) new.now.trees

  pub insert_runs : (terms : List Term) (width : ℕ) → command_of (understood schema sql) ≡ Insert at (Values terms width)
      → WritesNow (IsSource (record { schema = schema; trees = old.now.trees }) params (Values terms width)) (edit_of old.now.trees (table_at tree name columns uniques orders) [] Chosen 0)
  insert_runs terms width is =
      let w = runs_as sql params old new schema has (Insert at (Values terms width)) is plain count ran in
      insert_does schema free old.step_limit (mode_of old) params text old.now.trees w.tally new.now tree name columns uniques orders at found terms width
      (subst (λ s. Does old.step_limit (mode_of old) params (record old.now { schema = s }) text None (Insert at (Values terms width)) (Ok (w.tally, new.now))) has w.changed)

  pub delete_runs : (q : Program) → command_of (understood schema sql) ≡ Delete at q
      → WritesNow (Answers (record { schema = schema; trees = old.now.trees }) q params) (λ rows. edit_of old.now.trees (table_at tree name columns uniques orders) (ids_of rows) Given 0 [])
  delete_runs q is =
      let w = runs_as sql params old new schema has (Delete at q) is plain count ran in
      delete_does schema free old.step_limit (mode_of old) params text old.now.trees w.tally new.now tree name columns uniques orders at found q
      (subst (λ s. Does old.step_limit (mode_of old) params (record old.now { schema = s }) text None (Delete at q) (Ok (w.tally, new.now))) has w.changed)

  pub update_runs : (q : Program) → command_of (understood schema sql) ≡ Update at q
      → WritesNow (Answers (record { schema = schema; trees = old.now.trees }) q params) (λ rows. edit_of old.now.trees (table_at tree name columns uniques orders) (ids_of rows) Given 1 rows)
  update_runs q is =
      let w = runs_as sql params old new schema has (Update at q) is plain count ran in
      update_does schema free old.step_limit (mode_of old) params text old.now.trees w.tally new.now tree name columns uniques orders at found q
      (subst (λ s. Does old.step_limit (mode_of old) params (record old.now { schema = s }) text None (Update at q) (Ok (w.tally, new.now))) has w.changed)
