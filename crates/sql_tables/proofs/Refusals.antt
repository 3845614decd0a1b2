-- Why INSERT, DELETE and UPDATE of a table of columns and keys are refused.
use Rattle.std.proofs.Common.{◌≡◌, ◌⊎◌, ◌∙◌, ℕ, ℤ, nat_lt, zero, suc, inl, inr, Bool, true, false, not, ◌&&◌, ◌||◌, true≢false, List, [], ◌∷◌, length, drop, slice_get, Some, None, Option, Ok, Err, Result, IsSome, IsTrue, option_map, refl, sym, ap, subst, arith, append-nil, length-append}
use Rattle.std.specs.List.{AllByRecursion, list_all}
use Rattle.sqlite_value.specs.Order.{Row}
use Rattle.sqlite_value.specs.declared.keys.Order.{Order}
use Rattle.sqlite_trees.specs.Tree.{Trees, rowid}
use Rattle.sqlite_trees.specs.View.{is_int}
use Rattle.sqlite_sql.specs.Program.{ProgramOverflows}
use Rattle.sqlite_typing.specs.Types.{accepts_program, accepts_terms}
use Rattle.sqlite_schema.specs.Program.{lets_of}
use Rattle.sqlite_schema.specs.Rules.{are_present, are_typed, has_parent, is_among, is_key_if_to, passes, references_fit}
use Rattle.sqlite_schema.specs.declared.schema.Among.{Among}
use Rattle.sqlite_schema.specs.declared.schema.Column.{Column}
use Rattle.sqlite_schema.specs.declared.schema.Constraint.TheVariants.{Check, Datatype, ForeignKey, NotNull, PrimaryKey, Unique}
use Rattle.sqlite_schema.specs.declared.schema.Keys.{Keys}
use Rattle.sqlite_schema.specs.declared.command.Command.{Command}
use Rattle.sqlite_schema.specs.declared.program.Program.{Program}
use Rattle.sqlite_rules.specs.declared.error.Refusal.{Refusal}
use Rattle.sqlite_rules.specs.declared.error.Refusal.TheVariants.{BadReference, Mismatch, NoRowid, TooDeep, Violates}
use Rattle.sqlite_rules.specs.Action.{Leads, Writes}
use Rattle.sqlite_rules.specs.Calls.{ids_of}
use Rattle.sqlite_rules.specs.Edit.{Edit, IsOversized, IsRefused, edit_of, is_off, taken_by}
use Rattle.sqlite_rules.specs.Lists.{Has}
use Rattle.sqlite_rules.proofs.ListLemmas.{all_from, all_has, test_from}
use Rattle.sqlite.specs.Command.TheVariants.{Delete, Insert, Update}
use Rattle.sqlite.specs.Rowids.TheVariants.{Chosen, Given}
use Rattle.sqlite.specs.Schema.{Schema}
use Rattle.sqlite.specs.Source.TheVariants.{Values}
use Rattle.sqlite.specs.Table.{Table}
use Rattle.sqlite.specs.Term.{Term}
use Rattle.sqlite.specs.declared.error.Error.{Error}
use Rattle.sqlite.specs.declared.error.Error.TheVariants.{SqliteFailure}
use Rattle.sqlite.specs.declared.error.ErrorCode.TheVariants as code
use Rattle.sqlite.specs.declared.run.Mode.{Mode}
use Rattle.sqlite.specs.Effect.{Answers, Database, IsSource, edit_error}
use Rattle.sqlite.specs.Does.{AtPlace, Concludes, Does, OnRows}
use Rattle.sqlite.specs.Rows.{Deletes, Inserts, Queried, Sourced, Task, Updates, Written}
use Rattle.sql_tables.specs.Columns.{NoneRefers, table_at}
use Rattle.sql_tables.specs.Refusals.{has_no_place}
use Rattle.sql_tables.proofs.Writes.{none_works}

-- a part that stopped stopped at its first part, or behind it
stopped : {E B : Type 0} {stop : E} {Stops : E → Type 0} {R : Type 0} → ((s : E) × Stops s × (◌≡◌ {A = Result B E} (Err stop) (Err s))) ⊎ R → Stops stop ⊎ R
stopped {stop = stop} {Stops = Stops} (inl at) = let same : at.0 ≡ stop = let e = at.2 in cc in inl (subst Stops same at.1)
stopped (inr on) = inr on

-- what gives a value does not stop
gives : {A E : Type 0} {a : A} {stop : E} → ◌≡◌ {A = Result A E} (Err stop) (Ok a) → ⊥
gives e = cc

-- the edit is refused for this, or a row of it cannot be stored
abbrev pub StopsEdit : Schema → Keys → Trees → Edit → Option Error → Type 0
StopsEdit schema keys db edit stop =
    ((why : Refusal) × IsRefused schema keys db edit why × (stop ≡ Some (edit_error why)))
    ⊎ ((row : Row) × Has edit.news row × IsOversized schema edit.table row × (stop ≡ None))

abbrev pub StopsAtLimit : Option ℕ → Option Error → Type 0
StopsAtLimit limit stop = IsSome limit × (stop ≡ Some (SqliteFailure code.OperationInterrupted))

-- where no table refers to another, a write that is refused is refused in its one step
pub once_refused : (schema : Schema) → NoneRefers schema → (keys : Keys) (db : Trees) (edit : Edit) (why : Option Refusal) → Writes schema keys db edit (Err why) → StopsEdit schema keys db edit (option_map edit_error why)
once_refused schema free keys db edit why (inl (reason, refused, is)) = let same : why ≡ Some reason = cc in inl (reason, refused, ap (option_map edit_error) same)
once_refused schema free keys db edit why (inr (inl (row, has, big, is))) = let same : why ≡ None = cc in inr (row, has, big, ap (option_map edit_error) same)
once_refused schema free keys db edit why (inr (inr went)) =
    absurd (settled went.2.0 (rw (none_works schema keys 0 edit.table.tree (taken_by db edit) edit.news schema.tables free) at went.2.1))
  where
    settled : (n : ℕ) → Leads schema keys n went.0 [] (Err why) → ⊥
    settled zero h = let e = h.1 in cc
    settled (suc n) h = omega (arith, ap length h.2, length-append h.0 (h.1 ∷ []))

-- a row that cannot be stored is told as one too big
abbrev pub told : Option Error → Error
told None = SqliteFailure code.TooBig
told (Some e) = e

or_true : (b : Bool) → (b || true) ≡ true
or_true true = refl
or_true false = refl

both : {a b : Bool} → a ≡ true → b ≡ true → (a && b) ≡ true
both p q = rw (p, q) refl

-- each row refers to what is there
none_lacks : (among : Among) (whole : List Table) (db : Trees) (tables : List Table) → AllByRecursion (λ t. t.references ≡ []) tables
    → AllByRecursion (λ t. AllByRecursion (λ row. list_all (λ ref. not (is_among among ref) || has_parent whole db row ref) t.references ≡ true) (db t.tree)) tables
none_lacks among whole db [] none = tt
none_lacks among whole db (t ∷ tables) none =
    (all_from _ (db t.tree) (λ row h. ap (list_all (λ ref. not (is_among among ref) || has_parent whole db row ref)) none.0), none_lacks among whole db tables none.1)

module _ (schema : Schema) (free : NoneRefers schema) (limit : Option ℕ) (keys : Keys) (tree : ℕ) (name : List ℕ) (columns : List Column) (uniques : List (List ℕ)) (orders : List Order) (params : Row) where
  abbrev table : Table
  table = table_at tree name columns uniques orders

  abbrev task : Task
  task = record { limit = limit; keys = keys; schema = schema; table = table; params = params }

  -- behind the rows that were written nothing is refused
  concludes : (mode : Mode) (w : Written) (stop : Option Error) → Concludes task mode None w (Err stop) → ⊥
  concludes mode w stop h = elim (stopped h) [
    | inl lacks ↦ lacks.0 (none_lacks _ schema.tables w.trees schema.tables free)
    | inr tested ↦ elim (stopped tested.2) [ inl e ↦ gives e | inr shown ↦ gives shown.2 ]
  ]

  source_stopped : (terms : List Term) (width : ℕ) (db : Trees) (stop : Option Error) → accepts_terms terms params ≡ true
      → Sourced limit (record { schema = schema; trees = db }) params (Values terms width) (Err stop) → StopsAtLimit limit stop
  source_stopped terms width db None accepts h = absurd h
  source_stopped terms width db (Some e) accepts (inl mismatch) = absurd (true≢false (sym accepts ∙ mismatch.1))
  source_stopped terms width db (Some e) accepts (inr met) = (met.1, ap Some met.0)

  query_stopped : (q : Program) (db : Trees) (stop : Option Error) → accepts_program schema (lets_of q) q.body params ≡ true → (ProgramOverflows db params [] (lets_of q) q.body → ⊥)
      → Queried limit (record { schema = schema; trees = db }) q params (Err stop) → StopsAtLimit limit stop
  query_stopped q db None accepts sums h = absurd h
  query_stopped q db (Some e) accepts sums (inl mismatch) = absurd (true≢false (sym accepts ∙ mismatch.1))
  query_stopped q db (Some e) accepts sums (inr (inl sum)) = absurd (sums sum.1)
  query_stopped q db (Some e) accepts sums (inr (inr met)) = (met.1, ap Some met.0)

  -- the rows that are to be written, and why their edit is refused
  abbrev pub StopsRows : (List Row → Type 0) → (List Row → Edit) → Trees → Option Error → Type 0
  StopsRows Asked edit db stop = StopsAtLimit limit stop ⊎ ((rows : List Row) × Asked rows × StopsEdit schema keys db (edit rows) stop)

  insert_stopped : (terms : List Term) (width : ℕ) (db : Trees) (stop : Option Error) → accepts_terms terms params ≡ true → Inserts task (Values terms width) db (Err stop)
      → StopsRows (IsSource (record { schema = schema; trees = db }) params (Values terms width)) (edit_of db table [] Chosen 0) db stop
  insert_stopped terms width db stop accepts h = elim (stopped h) [
    | inl asked ↦ inl (source_stopped terms width db stop accepts (subst (λ p. Sourced limit (record { schema = schema; trees = db }) p (Values terms width) (Err stop)) (append-nil params) asked))
    | inr given ↦ elim (stopped given.2) [
      | inl none ↦ absurd (gives none)
      | inr counted ↦ elim (stopped counted.2) [
        | inl refused ↦ inr (
          given.0,
          subst (λ p. IsSource (record { schema = schema; trees = db }) p (Values terms width) given.0) (append-nil params) given.1,
          subst (StopsEdit schema keys db (edit_of db table [] Chosen 0 given.0)) (sym refused.2) (once_refused schema free keys db (edit_of db table [] Chosen 0 given.0) refused.0 refused.1),
        )
        | inr written ↦ elim (stopped written.2) [ inl e ↦ absurd (gives e) | inr last ↦ absurd (gives last.2) ]
      ]
    ]
  ]

  delete_stopped : (q : Program) (db : Trees) (stop : Option Error) → accepts_program schema (lets_of q) q.body params ≡ true → (ProgramOverflows db params [] (lets_of q) q.body → ⊥) → Deletes task q db (Err stop)
      → StopsRows (Answers (record { schema = schema; trees = db }) q params) (λ rows. edit_of db table (ids_of rows) Given 0 []) db stop
  delete_stopped q db stop accepts sums h = elim (stopped h) [
    | inl asked ↦ inl (query_stopped q db stop accepts sums asked)
    | inr given ↦ elim (stopped given.2) [
      | inl refused ↦ inr (given.0, given.1, subst (StopsEdit schema keys db (edit_of db table (ids_of given.0) Given 0 [])) (sym refused.2) (once_refused schema free keys db (edit_of db table (ids_of given.0) Given 0 []) refused.0 refused.1))
      | inr written ↦ absurd (gives written.2)
    ]
  ]

  update_stopped : (q : Program) (db : Trees) (stop : Option Error) → accepts_program schema (lets_of q) q.body params ≡ true → (ProgramOverflows db params [] (lets_of q) q.body → ⊥) → Updates task q params db (Err stop)
      → StopsRows (Answers (record { schema = schema; trees = db }) q params) (λ rows. edit_of db table (ids_of rows) Given 1 rows) db stop
  update_stopped q db stop accepts sums h = elim (stopped h) [
    | inl asked ↦ inl (query_stopped q db stop accepts sums asked)
    | inr given ↦ elim (stopped given.2) [
      | inl refused ↦ inr (given.0, given.1, subst (StopsEdit schema keys db (edit_of db table (ids_of given.0) Given 1 given.0)) (sym refused.2) (once_refused schema free keys db (edit_of db table (ids_of given.0) Given 1 given.0) refused.0 refused.1))
      | inr written ↦ absurd (gives written.2)
    ]
  ]

  -- ---- the statements

  module _ (mode : Mode) (is : mode.keys ≡ keys) (text : List ℕ) (at : ℕ) (found : slice_get schema.tables at ≡ Some table) (db : Trees) (stop : Option Error) where
    abbrev here : Database
    here = record { schema = schema; trees = db }

    abbrev job : Keys → Table → Task
    job k t = record { limit = limit; keys = k; schema = schema; table = t; params = params }

    on_rows : (command : Command) → AtPlace (λ t. OnRows (job mode.keys t) mode None command db) (slice_get schema.tables at) (Err stop) → OnRows task mode None command db (Err stop)
    on_rows command h = subst (λ k. OnRows (job k table) mode None command db (Err stop)) is (subst (λ o. AtPlace (λ t. OnRows (job mode.keys t) mode None command db) o (Err stop)) found h)

    pub insert_refused : (terms : List Term) (width : ℕ) → accepts_terms terms params ≡ true → Does limit mode params here text None (Insert at (Values terms width)) (Err stop)
        → StopsRows (IsSource here params (Values terms width)) (edit_of db table [] Chosen 0) db stop
    insert_refused terms width accepts h = elim (stopped (on_rows (Insert at (Values terms width)) h)) [
      | inl writes ↦ insert_stopped terms width db stop accepts writes
      | inr wrote ↦ absurd (concludes mode wrote.0 stop wrote.2)
    ]

    pub delete_refused : (q : Program) → accepts_program schema (lets_of q) q.body params ≡ true → (ProgramOverflows db params [] (lets_of q) q.body → ⊥) → Does limit mode params here text None (Delete at q) (Err stop)
        → StopsRows (Answers here q params) (λ rows. edit_of db table (ids_of rows) Given 0 []) db stop
    delete_refused q accepts sums h = elim (stopped (on_rows (Delete at q) h)) [
      | inl writes ↦ delete_stopped q db stop accepts sums writes
      | inr wrote ↦ absurd (concludes mode wrote.0 stop wrote.2)
    ]

    pub update_refused : (q : Program) → accepts_program schema (lets_of q) q.body params ≡ true → (ProgramOverflows db params [] (lets_of q) q.body → ⊥) → Does limit mode params here text None (Update at q) (Err stop)
        → StopsRows (Answers here q params) (λ rows. edit_of db table (ids_of rows) Given 1 rows) db stop
    update_refused q accepts sums h = elim (stopped (on_rows (Update at q) h)) [
      | inl writes ↦ update_stopped q db stop accepts sums writes
      | inr wrote ↦ absurd (concludes mode wrote.0 stop wrote.2)
    ]

  -- ---- where each new row passes the rules on a row alone

  -- so does this row
  pub record PassesAlone (row : Row) : Type 0 where
    pub keyed : is_int (rowid row) ≡ true
    pub typed : are_typed None 0 columns (drop 1 row) ≡ true
    pub present : are_present None 0 columns row ≡ true

  module _ (db : Trees) (gone : List ℤ) (news : List Row) (alone : AllByRecursion PassesAlone news) where
    abbrev edit : Edit
    edit = record { table = table; gone = gone; news = news }

    all_pass : (test : Row → Bool) → ((row : Row) → PassesAlone row → test row ≡ true) → list_all test news ≡ true
    all_pass test passes = test_from test news (λ row has. passes row (all_has PassesAlone news row alone has))

    fit : references_fit schema table (nat_lt 0 (length news)) (nat_lt 0 (length gone)) ≡ true
    fit =
        ap (λ b. (not (nat_lt 0 (length news)) || true) && (not (nat_lt 0 (length gone)) || b)) (test_from _ schema.tables (λ t h. ap (list_all (is_key_if_to schema table)) (all_has (λ t. t.references ≡ []) schema.tables t free h)))
        ∙ both (or_true (not (nat_lt 0 (length news)))) (or_true (not (nat_lt 0 (length gone))))

    refusal_place : (why : Refusal) → IsRefused schema keys db edit why → IsTrue (has_no_place (edit_error why))
    refusal_place (Violates Datatype) h = absurd (true≢false (sym (all_pass (passes Datatype schema db table) (λ row p. ap (λ b. b && true) p.typed)) ∙ h))
    refusal_place (Violates NotNull) h = absurd (true≢false (sym (all_pass (passes NotNull schema db table) (λ row p. p.present)) ∙ h))
    refusal_place (Violates Check) h = absurd (true≢false (sym (all_pass (passes Check schema db table) (λ row p. refl)) ∙ h))
    refusal_place (Violates PrimaryKey) h = refl
    refusal_place (Violates Unique) h = refl
    refusal_place (Violates ForeignKey) h = absurd h
    refusal_place Mismatch h = absurd (true≢false (sym (all_pass (λ row. is_int (rowid row)) (λ row p. p.keyed)) ∙ h))
    refusal_place NoRowid h = refl
    refusal_place BadReference h = absurd (true≢false (sym (ap (λ b. is_off keys || b) fit ∙ or_true (is_off keys)) ∙ h))
    refusal_place TooDeep h = absurd h

    pub stop_place : (stop : Option Error) → StopsEdit schema keys db edit stop → IsTrue (has_no_place (told stop))
    stop_place stop (inl (why, refused, is)) = subst (λ s. IsTrue (has_no_place (told s))) (sym is) (refusal_place why refused)
    stop_place stop (inr (row, has, big, is)) = subst (λ s. IsTrue (has_no_place (told s))) (sym is) refl
