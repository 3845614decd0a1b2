-- Payloads of one record, one after the other.
use Rattle.std.proofs.Common.{◌≡◌, ℕ, zero, suc, Bool, true, false, List, [], ◌∷◌, ◌++◌, Option, Some, None, refl, sym, ap, ◌∙◌, append_assoc, eqb, eq-eqb}
use Rattle.protocol_wire.specs.Wire.{Wire, varint, bytes, fixed, Field}
use Rattle.protocol_wire.specs.Fields.{fields, are_fields}
use Rattle.protocol_table.specs.Table.{descriptors_of}
use Rattle.protocol_wire.specs.Check.{worse, bad_unless, field_fault, fields_fault, payload_fault}
use Rattle.protocol_wire.specs.Sound.{AreSound}
use Rattle.protocol_wire.specs.Selection.{joined_bytes, concat, each_bytes, values}
use Rattle.protocol_table.specs.declared.table.RecordType.{RecordType}
use Rattle.protocol_table.specs.declared.table.FieldDescriptor.{FieldDescriptor}
use Rattle.protocol_wire.specs.declared.check.Fault.{Fault}
use Rattle.protocol_wire.specs.declared.check.Fault.TheVariants.{BadPayload, TooDeep}
use Rattle.protocol_wire.proofs.Steps.{field_at_nil, fields-none, are_fields-none}
use Rattle.protocol_wire.proofs.Extends.{fields-append, are_fields-append}
use Rattle.protocol_wire.proofs.Faults.{worse_assoc}

abbrev pub joined_from : Bool → List ℕ → List (List ℕ) → Option (List ℕ)
joined_from false before ps = joined_bytes ps
joined_from true before ps = Some (before ++ concat ps)

abbrev some : List ℕ → Option (List ℕ)
some x = Some x

pub joined_push : (found : Bool) (before b : List ℕ) (ps : List (List ℕ)) → (found ≡ false → before ≡ []) → some ((before ++ b) ++ concat ps) ≡ joined_from found before (b ∷ ps)
joined_push false before b ps empty = rw (empty refl) refl
joined_push true before b ps empty = ap some (append_assoc before b (concat ps))

-- ---- what is sound each alone is sound together

pub worse_none : (a b : Option Fault) → worse a b ≡ None → (a ≡ None) × (b ≡ None)
worse_none None b e = (refl, e)
worse_none (Some BadPayload) b e = absurd cc
worse_none (Some TooDeep) None e = absurd cc
worse_none (Some TooDeep) (Some f) e = absurd cc

pub bad_unless_none : (b : Bool) → bad_unless b ≡ None → b ≡ true
bad_unless_none true e = refl
bad_unless_none false e = absurd cc

fields_fault-append : (below : RecordType → List ℕ → Option Fault) (descriptors : List FieldDescriptor) (fs gs : List Field) → fields_fault below descriptors (fs ++ gs) ≡ worse (fields_fault below descriptors fs) (fields_fault below descriptors gs)
fields_fault-append below descriptors [] gs = refl
fields_fault-append below descriptors (f ∷ fs) gs = ap (worse (field_fault below descriptors f)) (fields_fault-append below descriptors fs gs) ∙ sym (worse_assoc (field_fault below descriptors f) (fields_fault below descriptors fs) (fields_fault below descriptors gs))

pub sound_fields : (levels : ℕ) (t : RecordType) (bs : List ℕ) → payload_fault (suc levels) t bs ≡ None → (fields_fault (payload_fault levels) (descriptors_of t) (fields bs) ≡ None) × (are_fields bs ≡ true)
unfolding payload_fault
sound_fields levels t bs e =
    let w = worse_none (fields_fault (payload_fault levels) (descriptors_of t) (fields bs)) (bad_unless (are_fields bs)) e in
    (w.0, bad_unless_none (are_fields bs) w.1)

pub sound_append : (levels : ℕ) (t : RecordType) (a b : List ℕ) → payload_fault (suc levels) t a ≡ None → payload_fault (suc levels) t b ≡ None → payload_fault (suc levels) t (a ++ b) ≡ None
unfolding payload_fault
sound_append levels t a b p q =
    let x = sound_fields levels t a p in
    let y = sound_fields levels t b q in
    rw (fields-append a b x.1, are_fields-append a b x.1, fields_fault-append (payload_fault levels) (descriptors_of t) (fields a) (fields b), x.0, y.0, y.1) refl

sound_nil : (levels : ℕ) (t : RecordType) → payload_fault (suc levels) t [] ≡ None
unfolding payload_fault
sound_nil levels t = rw (fields-none [] field_at_nil, are_fields-none [] field_at_nil) refl

sound_concat : (levels : ℕ) (t : RecordType) (ws : List Wire) → AreSound (payload_fault (suc levels) t) ws → payload_fault (suc levels) t (concat (each_bytes ws)) ≡ None
sound_concat levels t [] h = sound_nil levels t
sound_concat levels t (varint n ∷ ws) h = sound_concat levels t ws h
sound_concat levels t (bytes b ∷ ws) h = sound_append levels t b (concat (each_bytes ws)) h.0 (sound_concat levels t ws h.1)
sound_concat levels t (fixed ∷ ws) h = sound_concat levels t ws h

none_at_zero : (t : RecordType) (ws : List Wire) (b : List ℕ) → AreSound (payload_fault zero t) ws → joined_bytes (each_bytes ws) ≡ Some b → ⊥
unfolding payload_fault
none_at_zero t [] b h e = cc
none_at_zero t (varint n ∷ ws) b h e = none_at_zero t ws b h e
none_at_zero t (bytes c ∷ ws) b h e = let k = h.0 in cc
none_at_zero t (fixed ∷ ws) b h e = none_at_zero t ws b h e

joined_is : (ps : List (List ℕ)) (b : List ℕ) → joined_bytes ps ≡ Some b → b ≡ concat ps
joined_is [] b e = absurd cc
joined_is (p ∷ ps) b e = cc

pub sound_joined : (levels : ℕ) (t : RecordType) (ws : List Wire) (b : List ℕ) → AreSound (payload_fault levels t) ws → joined_bytes (each_bytes ws) ≡ Some b → payload_fault levels t b ≡ None
sound_joined zero t ws b h e = absurd (none_at_zero t ws b h e)
sound_joined (suc levels) t ws b h e = rw (joined_is (each_bytes ws) b e) (sound_concat levels t ws h)

pub joined_step : (found : Bool) (before b : List ℕ) (number : ℕ) (f : Field) (fs gs : List Field) → (found ≡ false → before ≡ []) → fs ≡ f ∷ gs → f.number ≡ number → f.value ≡ bytes b
    → some ((before ++ b) ++ concat (each_bytes (values number gs))) ≡ joined_from found before (each_bytes (values number fs))
joined_step found before b number f fs gs empty e t v =
    let hit : eqb f.number number ≡ true = eq-eqb f.number number t in
    rw (e, hit, v) (joined_push found before b (each_bytes (values number gs)) empty)

-- ---- a payload that is there alone

pub sole_sound : (levels : ℕ) (t : RecordType) (ws : List Wire) (b : List ℕ) → AreSound (payload_fault levels t) ws → each_bytes ws ≡ b ∷ [] → payload_fault levels t b ≡ None
sole_sound levels t [] b h e = absurd cc
sole_sound levels t (varint n ∷ ws) b h e = sole_sound levels t ws b h e
sole_sound levels t (bytes c ∷ ws) b h e = let k = h.0 in cc
sole_sound levels t (fixed ∷ ws) b h e = sole_sound levels t ws b h e
