-- What decoding answers.
use Rattle.std.specs.Prelude.{◌≡◌, ℕ, List, Option, Some, None, Result, Ok, Err}
use Rattle.protocol_wire.specs.Wire.{Field}
use Rattle.protocol_wire.specs.Fields.{fields}
use Rattle.protocol_wire.specs.Check.{payload_fault}
use Rattle.protocol_table.specs.declared.table.RecordType.{RecordType}
use Rattle.protocol_wire.specs.declared.check.Fault.{Fault as Faults}
use Rattle.protocol_wire.specs.declared.record.DecodeError.{DecodeError}
use Rattle.protocol_wire.specs.declared.record.DecodeError.TheVariants.{Memory, Fault}
use Rattle.protocol_wire.specs.declared.record.TheConstants.{LEVELS}

-- Nothing is wrong with the payload where so many levels are left, and this is the record that its fields are.
pub record IsRead {R : Type 0} (levels : ℕ) (t : RecordType) (of : ℕ → List Field → R) (payload : List ℕ) (r : R) : Type 0 where
  pub sound : payload_fault levels t payload ≡ None
  pub value : r ≡ of levels (fields payload)

-- An error is this fault, unless memory ran out.
abbrev pub ErrIs : DecodeError → Option Faults → Type 0
ErrIs Memory fault = Unit {0}
ErrIs (Fault f) fault = fault ≡ Some f

abbrev pub Decodes : {R : Type 0} → RecordType → (ℕ → List Field → R) → List ℕ → Result R DecodeError → Type 0
Decodes t of payload (Ok r) = IsRead LEVELS t of payload r
Decodes t of payload (Err e) = ErrIs e (payload_fault LEVELS t payload)
