-- What is known of one field of a payload with which nothing is wrong.
use Rattle.std.proofs.Common.{◌≡◌, ℕ, zero, suc, ◌-◌, ◌<◌, Bool, true, false, cond, eqb, List, [], ◌∷◌, Option, Some, None, refl, sym, subst, arith, eq-eqb}
use Rattle.std.specs.Str.{is_utf8}
use Rattle.std.proofs.lemmas.Str.{IsUtf8-from_is_utf8}
use Rattle.std.proofs.lemmas.Bool.{eqb-true}
use Rattle.protocol_wire.specs.Wire.{Wire, varint, bytes, fixed, Field}
use Rattle.protocol_wire.specs.Fields.{fields}
use Rattle.protocol_table.specs.Table.{descriptors_of, kind_in}
use Rattle.protocol_wire.specs.Check.{value_fault, fault_by, field_fault, fields_fault, payload_fault}
use Rattle.protocol_wire.specs.Sound.{AreTexts, AreSound}
use Rattle.protocol_wire.specs.Selection.{values}
use Rattle.protocol_table.specs.declared.table.RecordType.{RecordType}
use Rattle.protocol_table.specs.declared.table.Kind.{Kind}
use Rattle.protocol_table.specs.declared.table.Kind.TheVariants as kinds
use Rattle.protocol_table.specs.declared.table.FieldDescriptor.{FieldDescriptor}
use Rattle.protocol_wire.specs.declared.check.Fault.{Fault}
use Rattle.protocol_wire.proofs.Joined.{worse_none, bad_unless_none, sound_fields}

module _ (below : RecordType → List ℕ → Option Fault) (descriptors : List FieldDescriptor) (number : ℕ) where
  -- the values of a known field are of its kind
  abbrev pub AreOf : Kind → List Wire → Type 0
  AreOf kind [] = Unit {0}
  AreOf kind (w ∷ ws) = (value_fault below kind w ≡ None) × AreOf kind ws

  pub are_of : (kind : Kind) (fs : List Field) → kind_in descriptors number ≡ Some kind → fields_fault below descriptors fs ≡ None → AreOf kind (values number fs)
  are_of kind [] k e = tt
  are_of kind (f ∷ fs) k e =
      let w = worse_none (field_fault below descriptors f) (fields_fault below descriptors fs) e in
      go (eqb f.number number) refl w.0 (are_of kind fs k w.1)
    where
      go : (b : Bool) → eqb f.number number ≡ b → field_fault below descriptors f ≡ None → AreOf kind (values number fs) → AreOf kind (cond b (f.value ∷ values number fs) (values number fs))
      go false t one others = others
      go true t one others =
          let same : f.number ≡ number = eqb-true f.number number t in
          let known : kind_in descriptors f.number ≡ Some kind = subst (λ (n : ℕ). kind_in descriptors n ≡ Some kind) (sym same) k in
          (subst (λ (o : Option Kind). fault_by below o f.value ≡ None) known one, others)

  texts : (ws : List Wire) → AreOf kinds.Text ws → AreTexts ws
  texts [] h = tt
  texts (varint n ∷ ws) h = let k = h.0 in absurd cc
  texts (bytes b ∷ ws) h = (IsUtf8-from_is_utf8 b (bad_unless_none (is_utf8 b) h.0), texts ws h.1)
  texts (fixed ∷ ws) h = let k = h.0 in absurd cc

  pub records : (r : RecordType) (ws : List Wire) → AreOf (kinds.Record r) ws → AreSound (below r) ws
  records r [] h = tt
  records r (varint n ∷ ws) h = let k = h.0 in absurd cc
  records r (bytes b ∷ ws) h = (h.0, records r ws h.1)
  records r (fixed ∷ ws) h = let k = h.0 in absurd cc

zero_is_deep : (t : RecordType) (bs : List ℕ) → payload_fault zero t bs ≡ None → ⊥
unfolding payload_fault
zero_is_deep t bs e = cc

pub texts_sound : (levels : ℕ) (t : RecordType) (number : ℕ) (bs : List ℕ) → payload_fault levels t bs ≡ None → kind_in (descriptors_of t) number ≡ Some kinds.Text → AreTexts (values number (fields bs))
texts_sound zero t number bs e k = absurd (zero_is_deep t bs e)
texts_sound (suc levels) t number bs e k = texts (payload_fault levels) (descriptors_of t) number (values number (fields bs)) (are_of (payload_fault levels) (descriptors_of t) number kinds.Text (fields bs) k (sound_fields levels t bs e).0)

pub records_sound : (levels : ℕ) (t r : RecordType) (number : ℕ) (bs : List ℕ) → payload_fault levels t bs ≡ None → kind_in (descriptors_of t) number ≡ Some (kinds.Record r) → AreSound (payload_fault (levels - 1) r) (values number (fields bs))
records_sound zero t r number bs e k = absurd (zero_is_deep t bs e)
records_sound (suc levels) t r number bs e k =
    let one : suc levels - 1 ≡ levels = omega arith in
    rw one (records (payload_fault levels) (descriptors_of t) number r (values number (fields bs)) (are_of (payload_fault levels) (descriptors_of t) number (kinds.Record r) (fields bs) k (sound_fields levels t bs e).0))

pub level_left : (levels : ℕ) (t : RecordType) (bs : List ℕ) → payload_fault levels t bs ≡ None → 0 < levels
level_left zero t bs e = absurd (zero_is_deep t bs e)
level_left (suc levels) t bs e = omega arith

pub sound_first : (fault : List ℕ → Option Fault) (number : ℕ) (f : Field) (fs gs : List Field) (b : List ℕ) → AreSound fault (values number fs) → fs ≡ f ∷ gs → f.number ≡ number → f.value ≡ bytes b → fault b ≡ None
sound_first fault number f fs gs b h e t v =
    let hit : eqb f.number number ≡ true = eq-eqb f.number number t in
    let one : AreSound fault (bytes b ∷ values number gs) = rw (e, hit, v) at h in
    one.0
