-- Why the database refuses a statement, by the connection before it and behind it.
use Rattle.std.specs.Prelude.{◌≡◌, ◌⊎◌, ℕ, ◌≤◌, length, Bool, true, false, List, [], ◌∷◌, None, Option, Some, Ok, Err, IsTrue, IsSome, MatchBool}
use Rattle.sqlite_disk.specs.Disk.{MoreFaults}
use Rattle.sqlite_value.specs.Order.{Row}
use Rattle.sqlite_resolve.specs.declared.compiled.Compiled.{Compiled}
use Rattle.sqlite_schema.specs.declared.schema.Keys.TheVariants.{Enforced}
use Rattle.sqlite.specs.Schema.{Schema}
use Rattle.sqlite.specs.declared.run.Mode.{Mode}
use Rattle.sqlite.specs.Does.{Does, Tally}
use Rattle.sqlite.specs.Rows.{Part}
use Rattle.sqlite.specs.declared.error.Error.{Error}
use Rattle.sqlite.specs.declared.error.Error.TheVariants.{SqliteFailure}
use Rattle.sqlite.specs.declared.error.ErrorCode.TheVariants as code
use Rattle.sqlite.specs.Effect.{Database, RefusesToRead}
use Rattle.sqlite.specs.Listing.{reads_listing, understood}
use Rattle.sqlite.specs.State.{State, ExecutesInside, HasCleanDisk, is_disk_error, text_of}
use Rattle.sql_tables.specs.declared.read.ReadError.{ReadError}
use Rattle.sql_tables.specs.declared.read.ReadError.TheVariants.{Refused}

-- the disk has failed since
abbrev pub HasFailed : State → State → Type 0
HasFailed old new = MoreFaults old.faults new.faults

-- it is shut; of a shut one the database's own relation leaves open that it tells of a row too big to be stored
abbrev pub is_shut_error : Error → Bool
is_shut_error (SqliteFailure code.Closed) = true
is_shut_error (SqliteFailure code.TooBig) = true
is_shut_error _ = false

-- It wants memory; or its disk has failed since; or it is shut, and was so before or its disk has failed since; or it was interrupted,
-- and a limit on steps is set.
unfoldable pub IsCause : State → State → Error → Type 0
IsCause old new cause =
    (cause ≡ SqliteFailure code.OutOfMemory)
    ⊎ ((IsTrue (is_disk_error cause) × HasFailed old new)
    ⊎ ((IsTrue (is_shut_error cause) × (IsTrue old.is_open → HasFailed old new))
    ⊎ ((cause ≡ SqliteFailure code.OperationInterrupted) × IsSome old.step_limit)))

-- ---- of a question

-- The text is one statement, with as many parameters as there are values; it has no RETURNING, and reads no clock.
pub record IsStatementText (schema : Schema) (sql : List ℕ) (params : Row) : Type 0 where
  pub compiled : Compiled
  pub is : understood schema sql ≡ Ok compiled
  pub whole : length sql ≤ compiled.tail
  pub given : length params ≡ length compiled.names
  pub plain : (compiled.returning ≡ None) × (compiled.formats ≡ [])

-- It asks for rows of these tables, and has nothing of its own to be refused for but a limit on steps.
pub record IsReadable (schema : Schema) (sql : List ℕ) (params : Row) : Type 0 where
  pub text : IsStatementText schema sql params
  pub unlisted : reads_listing schema sql ≡ false
  pub accepted : (limit : Option ℕ) (db : Database) (cause : Error) → db.schema ≡ schema → RefusesToRead limit text.compiled.command db params cause
      → (cause ≡ SqliteFailure code.OperationInterrupted) × IsSome limit

-- the text is such a question about the tables that the connection has, where it is open
abbrev pub IsQuestion : List ℕ → Row → State → Type 0
IsQuestion sql params s = (schema : Schema) × (IsTrue s.is_open → s.now.schema ≡ schema) × IsReadable schema sql params

-- a question that the database refused tells why
abbrev pub TellsReadCause : State → State → ReadError → Type 0
TellsReadCause old new error = HasCleanDisk new → (cause : Error) → error ≡ Refused cause → IsCause old new cause

-- ---- of a change

-- a text, and the values of its parameters
pub record Statement : Type 0 where
  pub sql : List ℕ
  pub params : Row

-- as a connection runs it: each foreign key holds behind it
abbrev pub enforced : Mode
enforced = record { keys = Enforced; in_doubt = false; may_wait = false }

-- what SQL's own rules make of it over a database: another database, or a refusal
abbrev pub StatementComesTo : Option ℕ → Statement → Database → Part (Tally × Database)
StatementComesTo limit one db out = (c : Compiled) × (understood db.schema one.sql ≡ Ok c) × Does limit enforced one.params db (text_of one.sql c) c.returning c.command out

-- they refuse it for this; that a row cannot be stored is told as one too big
abbrev pub IsRefusedFor : Option ℕ → Statement → Database → Error → Type 0
IsRefusedFor limit one db cause = StatementComesTo limit one db (Err (Some cause)) ⊎ ((cause ≡ SqliteFailure code.TooBig) × StatementComesTo limit one db (Err None))

-- each in turn makes this of what the one before it made
abbrev pub AreMade : Option ℕ → List Statement → Database → Database → Type 0
AreMade limit [] old new = new ≡ old
AreMade limit (one ∷ more) old new = (tally : Tally) × (mid : Database) × StatementComesTo limit one old (Ok (tally, mid)) × AreMade limit more mid new

-- one of them is refused for this, over what those before it made
abbrev pub AreRefused : Option ℕ → List Statement → Database → Error → Type 0
AreRefused limit [] db cause = ⊥
AreRefused limit (one ∷ more) db cause =
    IsRefusedFor limit one db cause ⊎ ((tally : Tally) × (mid : Database) × StatementComesTo limit one db (Ok (tally, mid)) × AreRefused limit more mid cause)

-- what a question may be refused for; or the connection was open, and SQL's rules refuse one of these statements over its tables
unfoldable pub IsCauseToWrite : List Statement → State → State → Error → Type 0
IsCauseToWrite statements old new cause = IsCause old new cause ⊎ (IsTrue old.is_open × AreRefused old.step_limit statements old.now cause)

-- these statements were run in turn, up to one that the database refused
abbrev pub TellsWriteCause : List Statement → State → State → Error → Type 0
TellsWriteCause statements old new cause = HasCleanDisk new → IsCauseToWrite statements old new cause

-- statements were run that SQL's rules do not refuse
abbrev pub TellsErrorCause : State → State → Error → Type 0
TellsErrorCause old new cause = HasCleanDisk new → IsCause old new cause

-- a transaction that is over runs nothing; in one that is not the statement was refused so
abbrev pub RefusesToRun : List ℕ → Row → State → State → Error → Type 0
RefusesToRun sql params old new cause = MatchBool old.in_transaction (ExecutesInside 0 sql params old new (Err cause)) (cause ≡ SqliteFailure code.TransactionState)
