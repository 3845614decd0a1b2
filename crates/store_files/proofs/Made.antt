-- A store over a database that was just made in memory.
use Rattle.std.proofs.Common.{◌≡◌, ◌∙◌, ◌&&◌, ℕ, true, refl, sym, subst, ap₂, inl, inr, List, [], ◌∷◌, Option, None, Result, Ok, Err, IfErr, IsErrAnd, IsSome, IsTrue}
use Rattle.std.specs.List.{AllZip}
use Rattle.sqlite_disk.specs.declared.Disk.{Ghosts}
use Rattle.sqlite_pool.specs.Pool.{files}
use Rattle.sqlite_schema.specs.declared.schema.Schema.{Schema}
use Rattle.sqlite_schema.specs.declared.schema.Table.{Table}
use Rattle.sqlite_schema.specs.declared.schema.Index.{Index}
use Rattle.sqlite_schema.specs.declared.schema.View.{View}
use Rattle.sqlite_catalog.specs.Listing.{IsSound, Lists, IsTableRow, IsIndexRow, IsViewRow}
use Rattle.sqlite_trees.specs.Objects.{catalog_tree}
use Rattle.sqlite_trees.specs.Tree.{Trees}
use Rattle.sqlite_trees.specs.View.{IsClean}
use Rattle.sqlite_trees.proofs.Doubt.{no_doubt}
use Rattle.sqlite_store.specs.declared.store.FileStore.{FileStore}
use Rattle.sqlite_store.specs.FileStore.{view}
use Rattle.sqlite.specs.declared.error.Error.{Error}
use Rattle.sqlite.specs.declared.error.Error.TheVariants.{SqliteFailure}
use Rattle.sqlite.specs.declared.error.ErrorCode.TheVariants as code
use Rattle.sqlite.specs.Opening.{is_open_error}
use Rattle.sqlite.specs.State.{State, HasCleanDisk, is_disk_error}
use Rattle.sqlite.proofs.OpenLemmas.{pool_files}
use Rattle.sql_tables.specs.Columns.{no_schema}
use Rattle.sql_tables.specs.Causes.{IsCause, is_shut_error}
use Rattle.store_refusals.specs.declared.refusal.Refusal.{Refusal}
use Rattle.store_refusals.specs.declared.refusal.Refusal.TheVariants.{StatementRefused}
use Rattle.store_refusals.specs.RefusalConditions.{is_circumstance}
use Rattle.store_refusals.specs.Causes.{TellsCause}
use Rattle.journal_store.specs.OpeningConditions.{IsNotTaken}
use Rattle.store_files.specs.MadeDatabase.{IsEmptyAndIdle, TellsUnmade}

-- a database over disks that are always clean is
pub never_in_doubt : {D : Type 0} {g : Ghosts D} (database : FileStore D g) → ((disk : D) → g.is_clean disk ≡ true) → IsClean (view database)
never_in_doubt database always =
    let both = files database.pool in
    no_doubt _ ((pool_files database.pool).1 ∙ ap₂ ◌&&◌ (always both.0) (always both.1))

-- where no row lists a table, an index or a view, there is none
beside_none : {A B : Type 0} (R : A → B → Type 0) (others : List B) → AllZip R [] others → others ≡ []
beside_none R [] all = refl
beside_none R (other ∷ others) all = absurd all

of_none : (tables : List Table) (indexes : List Index) (views : List View) → tables ≡ [] → indexes ≡ [] → views ≡ []
    → record { tables = tables; indexes = indexes; views = views } ≡ no_schema
of_none tables indexes views a b c = rw a (rw b (rw c refl))

pub nothing_listed : (schema : Schema) (trees : Trees) → trees catalog_tree ≡ [] → IsSound schema trees → schema ≡ no_schema
nothing_listed schema trees none sound =
    let lists = subst (λ rows. Lists rows schema) none sound.lists in
    of_none schema.tables schema.indexes schema.views (beside_none IsTableRow schema.tables lists.listed.tables)
    (beside_none (IsIndexRow schema.tables) schema.indexes lists.listed.indexes) (beside_none IsViewRow schema.views lists.listed.views)

-- it is no other's, so what is met in opening a store over it is a circumstance
pub only_circumstances : (s : State) (why : Refusal) → IsEmptyAndIdle s → IsNotTaken s why → IsTrue (is_circumstance why)
only_circumstances s why empty cause = elim cause [
  | inl foreign ↦ elim foreign.1 [
    | inl inside ↦ absurd (let outside = sym empty.idle ∙ inside in cc)
    | inr tables ↦ absurd (tables.0 empty.none)
  ]
  | inr circumstance ↦ circumstance
]

-- ---- why none was made

pub unmade_by : {A : Type 0} (e : Refusal) (r : Result A Refusal) → IsErrAnd r (λ why. why ≡ e) → TellsUnmade e → IfErr r TellsUnmade
unmade_by e (Ok x) gives tells = absurd gives
unmade_by e (Err why) gives tells = subst TellsUnmade (sym gives) tells

-- the connection was not opened
pub unopened_unmade : (error : Error) → IsTrue (is_open_error error) → TellsUnmade (StatementRefused error)
unopened_unmade error named cause is = let same : error ≡ cause = cc in subst (λ (e : Error). IsTrue (is_open_error e)) same named

disk_opens : (e : Error) → IsTrue (is_disk_error e) → IsTrue (is_open_error e)
disk_opens (SqliteFailure code.SystemIoFailure) is = refl
disk_opens (SqliteFailure code.DatabaseCorrupt) is = refl
disk_opens (SqliteFailure code.DiskFull) is = refl
disk_opens e is = cc

shut_opens : (e : Error) → IsTrue (is_shut_error e) → IsTrue (is_open_error e)
shut_opens (SqliteFailure code.Closed) is = refl
shut_opens (SqliteFailure code.TooBig) is = refl
shut_opens e is = cc

cause_unmade : (old new : State) (cause : Error) → old.step_limit ≡ None → IsCause old new cause → IsTrue (is_open_error cause)
unfolding IsCause
cause_unmade old new cause unlimited (inl memory) = subst (λ (e : Error). IsTrue (is_open_error e)) (sym memory) refl
cause_unmade old new cause unlimited (inr (inl disk)) = disk_opens cause disk.0
cause_unmade old new cause unlimited (inr (inr (inl shut))) = shut_opens cause shut.0
cause_unmade old new cause unlimited (inr (inr (inr limit))) = let none : IsSome {T = ℕ} None = subst (λ (o : Option ℕ). IsSome o) unlimited limit.1 in cc

-- the connection was opened, and no store over it
pub refused_unmade : (old new : State) (why : Refusal) → old.step_limit ≡ None → HasCleanDisk new → TellsCause old new why → TellsUnmade why
refused_unmade old new why unlimited clean tells cause is = cause_unmade old new cause unlimited (tells clean cause is)
