-- What SQL's rules can refuse a change of a table of columns and keys for, whose new rows pass each rule on a row alone.
use Rattle.std.specs.Prelude.{◌≡◌, ◌⊎◌, Bool, true, false, IsSome, IsTrue, Option, ℕ}
use Rattle.sqlite_schema.specs.declared.schema.Constraint.TheVariants.{PrimaryKey, Unique}
use Rattle.sqlite.specs.declared.error.Error.{Error}
use Rattle.sqlite.specs.declared.error.Error.TheVariants.{SqliteFailure}
use Rattle.sqlite.specs.declared.error.ErrorCode.TheVariants as code

-- A row finds no place: it is too big to be stored, no rowid is left for it, or its rowid or one of its keys is taken.
abbrev pub has_no_place : Error → Bool
has_no_place (SqliteFailure code.TooBig) = true
has_no_place (SqliteFailure code.NoRowid) = true
has_no_place (SqliteFailure (code.ConstraintViolation PrimaryKey)) = true
has_no_place (SqliteFailure (code.ConstraintViolation Unique)) = true
has_no_place _ = false

-- so it is, or a limit on steps was set and is met
abbrev pub IsPlaceCause : Option ℕ → Error → Type 0
IsPlaceCause limit cause = IsTrue (has_no_place cause) ⊎ ((cause ≡ SqliteFailure code.OperationInterrupted) × IsSome limit)
