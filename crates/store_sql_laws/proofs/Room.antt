-- A row that finds no place, where no key and no rowid is taken, lacks room.
use Rattle.std.proofs.Common.{◌≡◌, ◌⊎◌, ℕ, inl, inr, Option, IsTrue, refl, subst}
use Rattle.sqlite_schema.specs.declared.schema.Constraint.TheVariants.{PrimaryKey, Unique}
use Rattle.sqlite.specs.declared.error.Error.{Error}
use Rattle.sqlite.specs.declared.error.Error.TheVariants.{SqliteFailure}
use Rattle.sqlite.specs.declared.error.ErrorCode.TheVariants as code
use Rattle.sql_tables.specs.Causes.{AreRefused}
use Rattle.store_tables.specs.Statements.{statements_of_all}
use Rattle.sql_tables.specs.Refusals.{IsPlaceCause, has_no_place}
use Rattle.store_tables.proofs.Ruled.{rules_refuse}
use Rattle.store_sql_laws.specs.Keys.{key_taken}
use Rattle.store_sql_laws.specs.Room.{EventsWantRoom, IsWantOfRoom, WritesWantRoom}
use Rattle.store_sql_laws.specs.Rowids.{rowid_taken}
use Rattle.store_sql_laws.proofs.Events.{no_event_takes_a_key}
use Rattle.store_sql_laws.proofs.Laws.{no_key_is_taken}
use Rattle.store_sql_laws.proofs.Rowids.{no_rowid_is_taken}

-- which they are
place_is : (cause : Error) → IsTrue (has_no_place cause)
    → (cause ≡ SqliteFailure code.TooBig) ⊎ ((cause ≡ SqliteFailure code.NoRowid) ⊎ ((cause ≡ rowid_taken) ⊎ (cause ≡ key_taken)))
place_is (SqliteFailure code.TooBig) h = inl refl
place_is (SqliteFailure code.NoRowid) h = inr (inl refl)
place_is (SqliteFailure (code.ConstraintViolation PrimaryKey)) h = inr (inr (inl refl))
place_is (SqliteFailure (code.ConstraintViolation Unique)) h = inr (inr (inr refl))
place_is cause h = absurd (cc)

room_left : (limit : Option ℕ) (cause : Error) → IsPlaceCause limit cause → (cause ≡ rowid_taken → ⊥) → (cause ≡ key_taken → ⊥) → IsWantOfRoom limit cause
room_left limit cause (inr met) no_rowid no_key = inr (inr met)
room_left limit cause (inl placed) no_rowid no_key = elim (place_is cause placed) [
  | inl big ↦ inl big
  | inr other ↦ elim other [
    | inl full ↦ inr (inl full)
    | inr taken ↦ elim taken [ inl rowid ↦ absurd (no_rowid rowid) | inr key ↦ absurd (no_key key) ]
  ]
]

pub writes_want_room : WritesWantRoom
writes_want_room limit writes before records cause has held up apart new refused =
    room_left limit cause (rules_refuse limit writes before records cause has held refused)
    (λ is. no_rowid_is_taken limit writes before records has held up (subst (AreRefused limit (statements_of_all writes) before) is refused))
    (λ is. no_key_is_taken limit writes before records has held apart new (subst (AreRefused limit (statements_of_all writes) before) is refused))

pub events_want_room : EventsWantRoom
events_want_room limit events event writes before records cause accepted has held up kept written refused =
    room_left limit cause (rules_refuse limit writes before records cause has held refused)
    (λ is. no_rowid_is_taken limit writes before records has held up (subst (AreRefused limit (statements_of_all writes) before) is refused))
    (λ is. no_event_takes_a_key limit events event writes before records accepted has held kept written (subst (AreRefused limit (statements_of_all writes) before) is refused))
