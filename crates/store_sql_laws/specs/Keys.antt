-- Writes by which no key comes twice, and that SQL's rules refuse none of them for a key.
use Rattle.std.specs.Prelude.{◌≡◌, ⊤, ℕ, ◌≤◌, List, [], ◌∷◌, length, filter, Option}
use Rattle.sqlite_schema.specs.declared.schema.Constraint.TheVariants.{Unique}
use Rattle.sqlite.specs.declared.error.Error.{Error}
use Rattle.sqlite.specs.declared.error.Error.TheVariants.{SqliteFailure}
use Rattle.sqlite.specs.declared.error.ErrorCode.TheVariants as code
use Rattle.sqlite.specs.Effect.{Database}
use Rattle.sql_tables.specs.Causes.{AreRefused}
use Rattle.store_tables.specs.Tables.{store_schema}
use Rattle.store_tables.specs.Questions.{has_id}
use Rattle.store_tables.specs.Records.{Holds, Records, applied, is_at_key}
use Rattle.store_tables.specs.declared.row.Write.{Write}
use Rattle.store_tables.specs.Statements.{statements_of_all}
use Rattle.store_tables.specs.declared.row.Write.TheVariants.{AddInvocation}

-- no two invocations have one id, and no two values of an object one key
pub record KeysAreApart (r : Records) : Type 0 where
  pub ids : (id : List ℕ) → length (filter (has_id id) r.invocations) ≤ 1
  pub keys : (object key : List ℕ) → length (filter (is_at_key object key) r.states) ≤ 1

-- an invocation that is added has an id that none has
abbrev pub IsNewIn : Records → Write → Type 0
IsNewIn r (AddInvocation i) = filter (has_id i.id) r.invocations ≡ []
IsNewIn r _ = ⊤

abbrev pub AreNew : List Write → Records → Type 0
AreNew [] r = ⊤
AreNew (write ∷ writes) r = IsNewIn r write × AreNew writes (applied write r)

-- a key that stands already
abbrev pub key_taken : Error
key_taken = SqliteFailure (code.ConstraintViolation Unique)

-- Over tables whose keys are apart, no write is refused for a key, where each invocation that is added is new.
abbrev pub NoKeyIsTaken : Type 0
NoKeyIsTaken =
    (limit : Option ℕ) (writes : List Write) (before : Database) (records : Records) → before.schema ≡ store_schema → Holds before.trees records → KeysAreApart records → AreNew writes records
    → AreRefused limit (statements_of_all writes) before key_taken → ⊥
