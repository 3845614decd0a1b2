-- Which payloads are refused, and why.
use Rattle.std.specs.Prelude.{ℕ, zero, suc, List, [], ◌∷◌, Option, Some, None, Bool, true, false}
use Rattle.std.specs.Str.{is_utf8}
use Rattle.protocol_wire.specs.Wire.{Wire, varint, bytes, fixed, Field}
use Rattle.protocol_wire.specs.Fields.{fields, are_fields, are_varints}
use Rattle.protocol_table.specs.Table.{descriptors_of, kind_in}
use Rattle.protocol_table.specs.declared.table.RecordType.{RecordType}
use Rattle.protocol_table.specs.declared.table.Kind.{Kind}
use Rattle.protocol_table.specs.declared.table.Kind.TheVariants as kinds
use Rattle.protocol_table.specs.declared.table.FieldDescriptor.{FieldDescriptor}
use Rattle.protocol_wire.specs.declared.check.Fault.{Fault}
use Rattle.protocol_wire.specs.declared.check.Fault.TheVariants.{BadPayload, TooDeep}

-- Of two faults a bad payload comes first.
abbrev pub worse : Option Fault → Option Fault → Option Fault
worse None v = v
worse (Some BadPayload) v = Some BadPayload
worse (Some TooDeep) None = Some TooDeep
worse (Some TooDeep) (Some f) = Some f

abbrev pub bad_unless : Bool → Option Fault
bad_unless true = None
bad_unless false = Some BadPayload

-- A value of the kind, where below says what is wrong with a record one level below.
abbrev pub value_fault : (RecordType → List ℕ → Option Fault) → Kind → Wire → Option Fault
value_fault below kinds.Number (varint n) = None
value_fault below kinds.Number (bytes b) = Some BadPayload
value_fault below kinds.Number fixed = Some BadPayload
value_fault below kinds.Numbers (varint n) = None
value_fault below kinds.Numbers (bytes b) = bad_unless (are_varints b)
value_fault below kinds.Numbers fixed = Some BadPayload
value_fault below kinds.Bytes (varint n) = Some BadPayload
value_fault below kinds.Bytes (bytes b) = None
value_fault below kinds.Bytes fixed = Some BadPayload
value_fault below kinds.Text (varint n) = Some BadPayload
value_fault below kinds.Text (bytes b) = bad_unless (is_utf8 b)
value_fault below kinds.Text fixed = Some BadPayload
value_fault below (kinds.Record r) (varint n) = Some BadPayload
value_fault below (kinds.Record r) (bytes b) = below r b
value_fault below (kinds.Record r) fixed = Some BadPayload

-- Unknown fields are skipped.
abbrev pub fault_by : (RecordType → List ℕ → Option Fault) → Option Kind → Wire → Option Fault
fault_by below None v = None
fault_by below (Some kind) v = value_fault below kind v

abbrev pub field_fault : (RecordType → List ℕ → Option Fault) → List FieldDescriptor → Field → Option Fault
field_fault below descriptors f = fault_by below (kind_in descriptors f.number) f.value

abbrev pub fields_fault : (RecordType → List ℕ → Option Fault) → List FieldDescriptor → List Field → Option Fault
fields_fault below descriptors [] = None
fields_fault below descriptors (f ∷ fs) = worse (field_fault below descriptors f) (fields_fault below descriptors fs)

-- What is wrong with a payload of a record, where so many levels are left.
unfoldable pub payload_fault : ℕ → RecordType → List ℕ → Option Fault
payload_fault zero r bs = Some TooDeep
payload_fault (suc k) r bs = worse (fields_fault (payload_fault k) (descriptors_of r) (fields bs)) (bad_unless (are_fields bs))
