-- The cause that a refusal tells, where the database refused a statement.
use Rattle.std.specs.Prelude.{◌≡◌, List}
use Rattle.sqlite.specs.declared.error.Error.{Error}
use Rattle.sqlite.specs.State.{State, HasCleanDisk}
use Rattle.sql_tables.specs.Causes.{IsCause, IsCauseToWrite, Statement}
use Rattle.store_refusals.specs.declared.refusal.Refusal.{Refusal}
use Rattle.store_refusals.specs.declared.refusal.Refusal.TheVariants.{StatementRefused}

-- the database was asked, and refused for this cause
abbrev pub TellsCause : State → State → Refusal → Type 0
TellsCause old new why = HasCleanDisk new → (cause : Error) → why ≡ StatementRefused cause → IsCause old new cause

-- it was asked, or these statements were run
abbrev pub TellsCauseToWrite : List Statement → State → State → Refusal → Type 0
TellsCauseToWrite statements old new why = HasCleanDisk new → (cause : Error) → why ≡ StatementRefused cause → IsCauseToWrite statements old new cause

-- the database was not asked
abbrev pub IsUnasked : Refusal → Type 0
IsUnasked why = (cause : Error) → why ≡ StatementRefused cause → ⊥
