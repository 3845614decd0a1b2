-- Why a file is not taken.
use Rattle.std.specs.Prelude.{◌≡◌, ◌⊎◌, Bool, true, false, ℕ, List, [], pos, IsTrue, Result, Ok, Err, codes}
use Rattle.sqlite_value.specs.declared.value.Value.TheVariants.{Int}
use Rattle.sqlite_value.specs.Order.{Row, column}
use Rattle.sqlite.specs.declared.error.Error.{Error}
use Rattle.sqlite.specs.declared.error.Error.TheVariants.{SqliteFailure}
use Rattle.sqlite.specs.declared.error.ErrorCode.TheVariants.{CannotOpen, DatabaseBusy, DatabaseCorrupt, NotADatabase, OutOfMemory, TooBig}
use Rattle.sqlite.specs.State.{State, HasCleanDisk, QueriesRow}
use Rattle.store_refusals.specs.declared.refusal.Refusal.{Refusal}
use Rattle.store_refusals.specs.declared.refusal.Refusal.TheVariants as refusal
use Rattle.store_files.specs.declared.why.Reason.{Reason}
use Rattle.store_files.specs.declared.why.Reason.TheVariants as reason

-- as a user is told it
abbrev pub reason_text : Reason → List ℕ
reason_text reason.Held = codes "another process has it open"
reason_text reason.NotFound = codes "it is not there, and cannot be made"
reason_text reason.NotPermitted = codes "it may not be read and written"
reason_text reason.NotRegular = codes "it is a folder or a device"
reason_text reason.SecondName = codes "it has a second name, a hard link"
reason_text reason.HasJournal = codes "a rollback journal stands beside it"
reason_text reason.NotGiven = codes "the system does not give it, or not its log"
reason_text reason.NoDatabase = codes "it is no database"
reason_text reason.AutoVacuum = codes "it is a database with auto_vacuum, which PRAGMA auto_vacuum = 0 and VACUUM take away"
reason_text reason.Damaged = codes "it is a database that is damaged, or of a kind that is not read"
reason_text reason.NoStore = codes "it is a database, and no store's"
reason_text reason.OtherVersion = codes "it is a store's, of another version"
reason_text reason.Changed = codes "it is a store's, with other tables, indexes or rows than a store makes; what ANALYZE makes DROP TABLE sqlite_stat1 takes away"
reason_text reason.DiskFailed = codes "the disk failed or is full"
reason_text reason.OutOfMemory = codes "memory was refused"

-- what an error says by itself
abbrev pub told_by : Error → Reason
told_by (SqliteFailure DatabaseBusy) = reason.Held
told_by (SqliteFailure OutOfMemory) = reason.OutOfMemory
told_by (SqliteFailure DatabaseCorrupt) = reason.Damaged
told_by (SqliteFailure TooBig) = reason.Damaged
told_by (SqliteFailure NotADatabase) = reason.Damaged
told_by _ = reason.DiskFailed

-- what can be seen of a path at which the system gives no file
abbrev pub is_seen : Reason → Bool
is_seen reason.NotFound = true
is_seen reason.NotPermitted = true
is_seen reason.NotRegular = true
is_seen reason.SecondName = true
is_seen reason.HasJournal = true
is_seen reason.NoDatabase = true
is_seen reason.NotGiven = true
is_seen _ = false

-- Why no connection was opened. Three errors have several causes: that the system gave no files, that they hold no database or not one that
-- is read, and that it is damaged. Each of the last two is told of a database with auto_vacuum too. Then what stands at the path decides.
abbrev pub ErrorTells : Error → Reason → Type 0
ErrorTells (SqliteFailure CannotOpen) why = IsTrue (is_seen why)
ErrorTells (SqliteFailure NotADatabase) why = (why ≡ reason.NoDatabase) ⊎ ((why ≡ reason.AutoVacuum) ⊎ (why ≡ reason.Damaged))
ErrorTells (SqliteFailure DatabaseCorrupt) why = (why ≡ reason.AutoVacuum) ⊎ (why ≡ reason.Damaged)
ErrorTells error why = why ≡ told_by error

-- the question for the mark of a store, of any version
abbrev pub mark_question : List ℕ
mark_question = codes "SELECT version FROM meta WHERE name = 'journal_store'"

abbrev pub IsThisVersion : Row → Type 0
IsThisVersion row = column row 0 ≡ Int (pos 1)

abbrev pub VersionTells : Row → Reason → Type 0
VersionTells row why = (IsThisVersion row × (why ≡ reason.Changed)) ⊎ ((IsThisVersion row → ⊥) × (why ≡ reason.OtherVersion))

-- what the answer to it tells, or that there is none
abbrev pub MarkTells : Result Row Error → Reason → Type 0
MarkTells (Ok row) why = VersionTells row why
MarkTells (Err (SqliteFailure code)) why = why ≡ told_by (SqliteFailure code)
MarkTells (Err _) why = why ≡ reason.NoStore

-- what a database answers that is asked for its mark
abbrev pub IsMarkAsked : State → State → Reason → Type 0
IsMarkAsked s t why = (answer : Result Row Error) × QueriesRow mark_question [] s t answer × MarkTells answer why

-- why no store was opened over a connection, which is asked where its tables or rows are not a store's
pub record StoreTells (s t : State) (refused : Refusal) (why : Reason) : Type 0 where
  pub memory : refused ≡ refusal.OutOfMemory → why ≡ reason.OutOfMemory
  pub statement : (error : Error) → refused ≡ refusal.StatementRefused error → why ≡ told_by error
  pub foreign : refused ≡ refusal.ForeignRow → HasCleanDisk t → IsMarkAsked s t why
