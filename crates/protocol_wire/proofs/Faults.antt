-- What is wrong with the rest of a payload, field by field.
use Rattle.std.proofs.Common.{◌≡◌, ℕ, zero, suc, ◌-◌, ◌<◌, List, [], ◌∷◌, ◌++◌, Option, Some, None, refl, sym, ap, ◌∙◌, arith}
use Rattle.protocol_wire.specs.Wire.{Field, field_at}
use Rattle.protocol_wire.specs.Items.{is_end}
use Rattle.protocol_wire.specs.Fields.{fields, are_fields}
use Rattle.protocol_table.specs.Table.{descriptors_of}
use Rattle.protocol_wire.specs.ComingFields.{coming, are_all}
use Rattle.protocol_wire.specs.declared.listed.Fields.{Fields}
use Rattle.protocol_wire.specs.Check.{worse, bad_unless, field_fault, fields_fault, payload_fault}
use Rattle.protocol_table.specs.declared.table.RecordType.{RecordType}
use Rattle.protocol_table.specs.declared.table.FieldDescriptor.{FieldDescriptor}
use Rattle.protocol_wire.specs.declared.check.Fault.{Fault}
use Rattle.protocol_wire.specs.declared.check.Fault.TheVariants.{BadPayload, TooDeep}
use Rattle.protocol_wire.proofs.Steps.{fields_read, fields_ended, are_fields-some, are_fields-none}

unfoldable pub rest_fault : (RecordType → List ℕ → Option Fault) → List FieldDescriptor → List ℕ → Option Fault
rest_fault below descriptors bs = worse (fields_fault below descriptors (fields bs)) (bad_unless (are_fields bs))

pub worse_assoc : (a b c : Option Fault) → worse (worse a b) c ≡ worse a (worse b c)
worse_assoc None b c = refl
worse_assoc (Some BadPayload) b c = refl
worse_assoc (Some TooDeep) None c = refl
worse_assoc (Some TooDeep) (Some BadPayload) c = refl
worse_assoc (Some TooDeep) (Some TooDeep) None = refl
worse_assoc (Some TooDeep) (Some TooDeep) (Some f) = refl

pub rest_fault_read : (below : RecordType → List ℕ → Option Fault) (descriptors : List FieldDescriptor) (before : Option Fault) (bs : List ℕ) (f : Field) (rest : List ℕ) → Some (f, rest) ≡ field_at bs
    → worse (worse before (field_fault below descriptors f)) (rest_fault below descriptors rest) ≡ worse before (rest_fault below descriptors bs)
unfolding rest_fault
rest_fault_read below descriptors before bs f rest e =
    rw (fields_read bs f rest e, are_fields-some bs f rest (sym e)) (worse_assoc before (field_fault below descriptors f) (worse (fields_fault below descriptors (fields rest)) (bad_unless (are_fields rest))) ∙ ap (worse before) (sym (worse_assoc (field_fault below descriptors f) (fields_fault below descriptors (fields rest)) (bad_unless (are_fields rest)))))

pub rest_fault_ended : (below : RecordType → List ℕ → Option Fault) (descriptors : List FieldDescriptor) (bs : List ℕ) → None ≡ field_at bs → rest_fault below descriptors bs ≡ bad_unless (is_end bs)
unfolding rest_fault
rest_fault_ended below descriptors bs e = rw (fields_ended bs e, are_fields-none bs (sym e)) refl

pub payload_fault_is : (levels : ℕ) (of : RecordType) (bs : List ℕ) → 0 < levels → payload_fault levels of bs ≡ rest_fault (payload_fault (levels - 1)) (descriptors_of of) bs
unfolding payload_fault rest_fault
payload_fault_is zero of bs lt = absurd (omega arith)
payload_fault_is (suc k) of bs lt = rw (sub_one_suc k) refl
  where
    sub_one_suc : (k : ℕ) → suc k - 1 ≡ k
    sub_one_suc k = omega arith

pub payload_fault_zero : (of : RecordType) (bs : List ℕ) → payload_fault zero of bs ≡ Some TooDeep
unfolding payload_fault
payload_fault_zero of bs = refl

-- ---- where the fields are listed

unfoldable pub left_fault : (RecordType → List ℕ → Option Fault) → List FieldDescriptor → Fields → Option Fault
left_fault below descriptors left = worse (fields_fault below descriptors (coming left)) (bad_unless (are_all left))

pub left_fault_read : (below : RecordType → List ℕ → Option Fault) (descriptors : List FieldDescriptor) (before : Option Fault) (left after : Fields) (f : Field) → coming left ≡ f ∷ coming after → are_all left ≡ are_all after
    → worse (worse before (field_fault below descriptors f)) (left_fault below descriptors after) ≡ worse before (left_fault below descriptors left)
unfolding left_fault
left_fault_read below descriptors before left after f e k =
    rw (e, k) (worse_assoc before (field_fault below descriptors f) (worse (fields_fault below descriptors (coming after)) (bad_unless (are_all after))) ∙ ap (worse before) (sym (worse_assoc (field_fault below descriptors f) (fields_fault below descriptors (coming after)) (bad_unless (are_all after)))))

pub left_fault_ended : (below : RecordType → List ℕ → Option Fault) (descriptors : List FieldDescriptor) (left : Fields) → coming left ≡ [] → left_fault below descriptors left ≡ bad_unless (are_all left)
unfolding left_fault
left_fault_ended below descriptors left e = rw e refl

pub left_fault_is : (levels : ℕ) (of : RecordType) (bs : List ℕ) (left : Fields) → 0 < levels → coming left ≡ fields bs → are_all left ≡ are_fields bs → left_fault (payload_fault (levels - 1)) (descriptors_of of) left ≡ payload_fault levels of bs
unfolding left_fault rest_fault
left_fault_is levels of bs left lt e k = rw (e, k) (sym (payload_fault_is levels of bs lt))

-- Where no field is left, what is left is fields alone if it is nothing.
pub are_fields_ended : (bs : List ℕ) → fields bs ≡ [] → are_fields bs ≡ is_end bs
are_fields_ended bs e = go (field_at bs) refl
  where
    go : (r : Option (Field × List ℕ)) → field_at bs ≡ r → are_fields bs ≡ is_end bs
    go None k = are_fields-none bs k
    go (Some x) k = absurd (let more = fields_read bs x.0 x.1 (sym k) in cc)

pub none_behind : (one : List Field) (bs : List ℕ) → one ++ fields bs ≡ [] → fields bs ≡ []
none_behind [] bs e = e
none_behind (f ∷ fs) bs e = absurd cc
