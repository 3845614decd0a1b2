-- A canonical payload is one with which nothing is wrong, and its fields are those that were spelled.
use Rattle.std.proofs.Common.{◌≡◌, ℕ, suc, ◌*◌, ◌+◌, ◌-◌, ◌^◌, ◌<◌, Bool, true, false, cond, eqb, ltb, List, [], ◌∷◌, ◌++◌, length, map, Option, Some, None, refl, sym, ap, subst, ◌∙◌, arith}
use Rattle.std.specs.Prelude.{option_map, IsUtf8, IfSome}
use Rattle.std.specs.List.{flat_map, AllByRecursion}
use Rattle.std.proofs.lemmas.Str.{is_utf8-from_IsUtf8}
use Rattle.std.proofs.lemmas.Bool.{ltb-true}
use Rattle.std.proofs.lemmas.List.{append-nil, length-append}
use Rattle.std.proofs.lemmas.List.Concat.{flat_map-cons}
use Rattle.protocol_wire.specs.Wire.{Wire, varint, bytes, fixed, Field}
use Rattle.protocol_wire.specs.Fields.{fields, are_fields, are_varints}
use Rattle.protocol_wire.specs.Spelling.{varint_spelling, tagged, ValueFits, FieldFits}
use Rattle.protocol_table.specs.Table.{descriptors_of, kind_in}
use Rattle.protocol_wire.specs.Check.{worse, bad_unless, fault_by, fields_fault, payload_fault}
use Rattle.protocol_wire.specs.Parts.{Part, plain_number, bool_number, enum_number, optional_number, nonempty, plain_bytes, bytes_if, optional_bytes, repeated_bytes, packed, part_spelling, payload_of, parts_numbered, fields_of}
use Rattle.protocol_table.specs.declared.table.RecordType.{RecordType}
use Rattle.protocol_table.specs.declared.table.Kind.{Kind}
use Rattle.protocol_table.specs.declared.table.Kind.TheVariants as kinds
use Rattle.protocol_table.specs.declared.table.FieldDescriptor.{FieldDescriptor}
use Rattle.protocol_wire.specs.declared.check.Fault.{Fault}
use Rattle.protocol_wire.proofs.Steps.{field_at_nil, are_fields-none}
use Rattle.protocol_wire.specs.DecodingAnswers.{IsRead}
use Rattle.protocol_wire.proofs.Back.{ReadsBack, Below32, are_varints_spelled}
use Rattle.protocol_wire.proofs.Laws.{Fit, are_fields-payload, fields-payload_alone}

-- ---- sizes

abbrev pub NumberFits : Wire → Type 0
NumberFits (varint n) = n < 2 ^ 64
NumberFits (bytes b) = Unit {0}
NumberFits fixed = ⊥

abbrev pub LengthFits : Wire → Type 0
LengthFits (varint n) = Unit {0}
LengthFits (bytes b) = length b < 2 ^ 64
LengthFits fixed = Unit {0}

value_fits : (w : Wire) → NumberFits w → LengthFits w → ValueFits w
value_fits (varint n) p q = p
value_fits (bytes b) p q = q
value_fits fixed p q = p

tagged_fits : (number : ℕ) (w : Wire) (more : List ℕ) → length (tagged number w ++ more) < 2 ^ 64 → LengthFits w
unfolding tagged
tagged_fits number (varint n) more h = tt
tagged_fits number (bytes b) more h =
    omega (arith, length-append (varint_spelling (8 * number + 2) ++ (varint_spelling (length b) ++ b)) more, length-append (varint_spelling (8 * number + 2)) (varint_spelling (length b) ++ b), length-append (varint_spelling (length b)) b)
tagged_fits number fixed more h = tt

less : (a b : List ℕ) → length (a ++ b) < 2 ^ 64 → length b < 2 ^ 64
less a b h = omega (arith, length-append a b)

lengths_fit_in : (number : ℕ) (ws : List Wire) → length (flat_map (tagged number) ws) < 2 ^ 64 → AllByRecursion LengthFits ws
lengths_fit_in number [] h = tt
lengths_fit_in number (w ∷ ws) h =
    let k : length (tagged number w ++ flat_map (tagged number) ws) < 2 ^ 64 = subst (λ (x : List ℕ). length x < 2 ^ 64) (flat_map-cons (tagged number) w ws) h in
    (tagged_fits number w (flat_map (tagged number) ws) k, lengths_fit_in number ws (less (tagged number w) (flat_map (tagged number) ws) k))

abbrev pub PartLengthsFit : Part → Type 0
PartLengthsFit p = AllByRecursion LengthFits p.1

first_fits : (a b : List ℕ) → length (a ++ b) < 2 ^ 64 → length a < 2 ^ 64
first_fits a b h = omega (arith, length-append a b)

-- What a payload holds is no longer than the payload.
pub lengths_fit : (ps : List Part) → length (payload_of ps) < 2 ^ 64 → AllByRecursion PartLengthsFit ps
lengths_fit [] h = tt
lengths_fit (p ∷ ps) h =
    (lengths_fit_in p.0 p.1 (first_fits (part_spelling p) (payload_of ps) h), lengths_fit ps (less (part_spelling p) (payload_of ps) h))

-- ---- parts that hold nothing wrong

-- a field number
abbrev pub is_field_number : ℕ → Bool
is_field_number n = cond (ltb 0 n) (ltb n (2 ^ 29)) false

module _ (below : RecordType → List ℕ → Option Fault) (descriptors : List FieldDescriptor) where
  abbrev pub WireHolds : ℕ → Wire → Type 0
  WireHolds number w = NumberFits w × (fault_by below (kind_in descriptors number) w ≡ None)

  abbrev pub PartHolds : Part → Type 0
  PartHolds p = (is_field_number p.0 ≡ true) × AllByRecursion (WireHolds p.0) p.1

  abbrev pub Hold : List Part → Type 0
  Hold ps = AllByRecursion PartHolds ps

  both_true : (a b : Bool) → cond a b false ≡ true → (a ≡ true) × (b ≡ true)
  both_true true b h = (refl, h)
  both_true false b h = absurd cc

  numbered_fit : (number : ℕ) (ws : List Wire) (fs : List Field) → is_field_number number ≡ true → AllByRecursion (WireHolds number) ws → AllByRecursion LengthFits ws → AllByRecursion FieldFits fs → AllByRecursion FieldFits (parts_numbered number ws ++ fs)
  numbered_fit number [] fs valid h k others = others
  numbered_fit number (w ∷ ws) fs valid h k others =
      let v = both_true (ltb 0 number) (ltb number (2 ^ 29)) valid in
      (record { named = ltb-true 0 number v.0; number = ltb-true number (2 ^ 29) v.1; value = value_fits w h.0.0 k.0 }, numbered_fit number ws fs valid h.1 k.1 others)

  pub fit : (ps : List Part) → Hold ps → AllByRecursion PartLengthsFit ps → Fit ps
  fit [] h k = tt
  fit (p ∷ ps) h k = numbered_fit p.0 p.1 (fields_of ps) h.0.0 h.0.1 k.0 (fit ps h.1 k.1)

  worse_of : (a b : Option Fault) → a ≡ None → b ≡ None → worse a b ≡ None
  worse_of a b p q = rw (p, q) refl

  numbered_sound : (number : ℕ) (ws : List Wire) (fs : List Field) → AllByRecursion (WireHolds number) ws → fields_fault below descriptors fs ≡ None → fields_fault below descriptors (parts_numbered number ws ++ fs) ≡ None
  numbered_sound number [] fs h others = others
  numbered_sound number (w ∷ ws) fs h others = worse_of (fault_by below (kind_in descriptors number) w) (fields_fault below descriptors (parts_numbered number ws ++ fs)) h.0.1 (numbered_sound number ws fs h.1 others)

  pub parts_sound : (ps : List Part) → Hold ps → fields_fault below descriptors (fields_of ps) ≡ None
  parts_sound [] h = refl
  parts_sound (p ∷ ps) h = numbered_sound p.0 p.1 (fields_of ps) h.0.1 (parts_sound ps h.1)

  -- ---- by kind: the number is one of a field, and the table has it as a field of the kind

  abbrev pub Is : ℕ → Kind → Type 0
  Is number kind = (is_field_number number ≡ true) × (kind_in descriptors number ≡ Some kind)

  known : (number : ℕ) (kind : Kind) (w : Wire) → kind_in descriptors number ≡ Some kind → fault_by below (Some kind) w ≡ None → fault_by below (kind_in descriptors number) w ≡ None
  known number kind w k e = rw k e

  pub u64_holds : (number n : ℕ) → Is number kinds.Number → n < 2 ^ 64 → PartHolds (plain_number number n)
  u64_holds number n is lt = (is.0, go (eqb n 0))
    where
      go : (b : Bool) → AllByRecursion (WireHolds number) (cond b [] (varint n ∷ []))
      go true = tt
      go false = ((lt, known number kinds.Number (varint n) is.1 refl), tt)

  pub u32_holds : (number n : ℕ) → Is number kinds.Number → n < 2 ^ 32 → PartHolds (plain_number number n)
  u32_holds number n is lt = u64_holds number n is (omega arith)

  pub bool_holds : (number : ℕ) (b : Bool) → Is number kinds.Number → PartHolds (plain_number number (bool_number b))
  bool_holds number true is = u64_holds number 1 is (omega arith)
  bool_holds number false is = u64_holds number 0 is (omega arith)

  pub enum_holds : (number n : ℕ) → Is number kinds.Number → n < 2 ^ 32 → PartHolds (plain_number number (enum_number n))
  enum_holds number n is lt = go (ltb n (2 ^ 31))
    where
      go : (b : Bool) → PartHolds (plain_number number (cond b n (n + 18446744069414584320)))
      go true = u64_holds number n is (omega (arith, lt))
      go false = u64_holds number (n + 18446744069414584320) is (omega (arith, lt))

  pub optional_u64_holds : (number : ℕ) (o : Option ℕ) → Is number kinds.Number → IfSome o (λ n. n < 2 ^ 64) → PartHolds (optional_number number o)
  optional_u64_holds number None is small = (is.0, tt)
  optional_u64_holds number (Some n) is small = (is.0, ((small, known number kinds.Number (varint n) is.1 refl), tt))

  pub optional_u32_holds : (number : ℕ) (o : Option ℕ) → Is number kinds.Number → IfSome o (λ n. n < 2 ^ 32) → PartHolds (optional_number number o)
  optional_u32_holds number None is small = (is.0, tt)
  optional_u32_holds number (Some n) is small = optional_u64_holds number (Some n) is (omega (arith, small))

  pub optional_bytes_holds : (number : ℕ) (o : Option (List ℕ)) → Is number kinds.Bytes → PartHolds (optional_bytes number o)
  optional_bytes_holds number None is = (is.0, tt)
  optional_bytes_holds number (Some b) is = (is.0, ((tt, known number kinds.Bytes (bytes b) is.1 refl), tt))

  pub repeated_bytes_hold : (number : ℕ) (bs : List (List ℕ)) → Is number kinds.Bytes → PartHolds (repeated_bytes number bs)
  repeated_bytes_hold number bs is = (is.0, go bs)
    where
      go : (bs : List (List ℕ)) → AllByRecursion (WireHolds number) (map bytes bs)
      go [] = tt
      go (b ∷ bs) = ((tt, known number kinds.Bytes (bytes b) is.1 refl), go bs)

  pub bytes_holds : (number : ℕ) (b : List ℕ) → Is number kinds.Bytes → PartHolds (plain_bytes number b)
  bytes_holds number [] is = (is.0, tt)
  bytes_holds number (c ∷ b) is = (is.0, ((tt, known number kinds.Bytes (bytes (c ∷ b)) is.1 refl), tt))

  text_wire : (number : ℕ) (b : List ℕ) → Is number kinds.Text → IsUtf8 b → WireHolds number (bytes b)
  text_wire number b is utf8 = (tt, known number kinds.Text (bytes b) is.1 (ap bad_unless (is_utf8-from_IsUtf8 b utf8)))

  pub text_holds : (number : ℕ) (b : List ℕ) → Is number kinds.Text → IsUtf8 b → PartHolds (plain_bytes number b)
  text_holds number [] is utf8 = (is.0, tt)
  text_holds number (c ∷ b) is utf8 = (is.0, (text_wire number (c ∷ b) is utf8, tt))

  pub optional_text_holds : (number : ℕ) (o : Option (List ℕ)) → Is number kinds.Text → IfSome o IsUtf8 → PartHolds (optional_bytes number o)
  optional_text_holds number None is utf8 = (is.0, tt)
  optional_text_holds number (Some b) is utf8 = (is.0, (text_wire number b is utf8, tt))

  pub texts_hold : (number : ℕ) (bs : List (List ℕ)) → Is number kinds.Text → AllByRecursion IsUtf8 bs → PartHolds (repeated_bytes number bs)
  texts_hold number bs is utf8 = (is.0, go bs utf8)
    where
      go : (bs : List (List ℕ)) → AllByRecursion IsUtf8 bs → AllByRecursion (WireHolds number) (map bytes bs)
      go [] h = tt
      go (b ∷ bs) h = (text_wire number b is h.0, go bs h.1)

  pub numbers_hold : (number : ℕ) (ns : List ℕ) → Is number kinds.Numbers → AllByRecursion Below32 ns → PartHolds (packed number ns)
  numbers_hold number ns is small = (is.0, go (flat_map varint_spelling ns) (are_varints_spelled ns small))
    where
      go : (b : List ℕ) → are_varints b ≡ true → AllByRecursion (WireHolds number) (nonempty b)
      go [] e = tt
      go (c ∷ b) e = ((tt, known number kinds.Numbers (bytes (c ∷ b)) is.1 (ap bad_unless e)), tt)

  pub optional_record_holds : (number : ℕ) (of : RecordType) (o : Option (List ℕ)) → Is number (kinds.Record of) → IfSome o (λ b. below of b ≡ None) → PartHolds (optional_bytes number o)
  optional_record_holds number of None is sound = (is.0, tt)
  optional_record_holds number of (Some b) is sound = (is.0, ((tt, known number (kinds.Record of) (bytes b) is.1 sound), tt))

  pub records_hold : (number : ℕ) (of : RecordType) (bs : List (List ℕ)) → Is number (kinds.Record of) → AllByRecursion (λ b. below of b ≡ None) bs → PartHolds (repeated_bytes number bs)
  records_hold number of bs is sound = (is.0, go bs sound)
    where
      go : (bs : List (List ℕ)) → AllByRecursion (λ b. below of b ≡ None) bs → AllByRecursion (WireHolds number) (map bytes bs)
      go [] h = tt
      go (b ∷ bs) h = ((tt, known number (kinds.Record of) (bytes b) is.1 h.0), go bs h.1)

-- ---- the payload

-- Nothing is wrong with what the parts spell, and its fields are those of the parts.
pub payload_holds_above : (levels : ℕ) (t : RecordType) (ps : List Part) → Hold (payload_fault levels) (descriptors_of t) ps → length (payload_of ps) < 2 ^ 64
    → (payload_fault (suc levels) t (payload_of ps) ≡ None) × (fields (payload_of ps) ≡ fields_of ps)
unfolding payload_fault
payload_holds_above levels t ps h small =
    let fits = fit (payload_fault levels) (descriptors_of t) ps h (lengths_fit ps small) in
    let read = fields-payload_alone ps fits in
    let whole : are_fields (payload_of ps) ≡ true = ap are_fields (sym (append-nil (payload_of ps))) ∙ are_fields-payload ps [] fits ∙ are_fields-none [] field_at_nil in
    (rw (read, whole, parts_sound (payload_fault levels) (descriptors_of t) ps h) refl, read)

-- The same, in terms of the levels that are left.
pub payload_holds : (levels : ℕ) (t : RecordType) (ps : List Part) → 0 < levels → Hold (payload_fault (levels - 1)) (descriptors_of t) ps → length (payload_of ps) < 2 ^ 64
    → (payload_fault levels t (payload_of ps) ≡ None) × (fields (payload_of ps) ≡ fields_of ps)
payload_holds levels t ps some h small =
    let one : suc (levels - 1) ≡ levels = omega (arith, some) in
    let above = payload_holds_above (levels - 1) t ps h small in
    (subst (λ (n : ℕ). payload_fault n t (payload_of ps) ≡ None) one above.0, above.1)

-- A value that fits is read again from its canonical payload, where that is shorter than 2^64 bytes.
abbrev pub Reads : {R : Type 0} → RecordType → (ℕ → List Field → R) → (R → List Part) → (ℕ → R → Type 0) → Type 0
Reads {R = R} t of parts Fits = (levels : ℕ) (v : R) → Fits levels v → length (payload_of (parts v)) < 2 ^ 64 → IsRead levels t of (payload_of (parts v)) v

-- It is, where nothing is wrong with its parts, and it is read from the fields that they are.
pub read_back : {R : Type 0} (levels : ℕ) (t : RecordType) (of : ℕ → List Field → R) (ps : List Part) (v : R) → 0 < levels → length (payload_of ps) < 2 ^ 64 → Hold (payload_fault (levels - 1)) (descriptors_of t) ps → of levels (fields_of ps) ≡ v → IsRead levels t of (payload_of ps) v
read_back levels t of ps v some small h same =
    let read = payload_holds levels t ps some h small in
    record { sound = read.0; value = sym (ap (of levels) read.1 ∙ same) }

-- ---- records in records, where each is read again

module _ {R : Type 0} (levels : ℕ) (t : RecordType) (of : ℕ → List Field → R) (write : R → List ℕ) (fits : R → Type 0)
    (reads : (r : R) → fits r → length (write r) < 2 ^ 64 → IsRead levels t of (write r) r) where
  pub optional_sound : (o : Option R) → IfSome o fits → AllByRecursion LengthFits (bytes_if (option_map write o)) → IfSome (option_map write o) (λ b. payload_fault levels t b ≡ None)
  optional_sound None h k = tt
  optional_sound (Some r) h k = (reads r h k.0).sound

  pub optional_reads_back : (o : Option R) → IfSome o fits → AllByRecursion LengthFits (bytes_if (option_map write o)) → IfSome o (ReadsBack (of levels) write)
  optional_reads_back None h k = tt
  optional_reads_back (Some r) h k = sym (reads r h k.0).value

  pub each_sound : (rs : List R) → AllByRecursion fits rs → AllByRecursion LengthFits (map bytes (map write rs)) → AllByRecursion (λ b. payload_fault levels t b ≡ None) (map write rs)
  each_sound [] h k = tt
  each_sound (r ∷ rs) h k = ((reads r h.0 k.0).sound, each_sound rs h.1 k.1)

  pub each_reads_back : (rs : List R) → AllByRecursion fits rs → AllByRecursion LengthFits (map bytes (map write rs)) → AllByRecursion (ReadsBack (of levels) write) rs
  each_reads_back [] h k = tt
  each_reads_back (r ∷ rs) h k = (sym (reads r h.0 k.0).value, each_reads_back rs h.1 k.1)
