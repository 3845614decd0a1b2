-- What is read of one field fits, where nothing is wrong with the payload.
use Rattle.std.specs.Prelude.{◌≡◌, ℕ, zero, suc, ◌+◌, ◌-◌, ◌*◌, ◌/◌, ◌%◌, ◌^◌, ◌<◌, Bool, true, false, cond, eqb, ltb, nat_le, List, [], ◌∷◌, map, take, drop, length, Option, Some, None, IfSome, IsUtf8, option_map, unwrap_or, refl}
use Rattle.std.specs.List.{AllByRecursion}
use Rattle.std.proofs.Common.{arith, sym, subst}
use Rattle.std.proofs.lemmas.Str.{IsUtf8-nil}
use Rattle.std.proofs.lemmas.Bool.{ltb-true}
use Rattle.protocol_wire.specs.Wire.{Wire, varint, bytes, fixed, Field, ◌>>=◌, varint_within, varint_at, bytes_at, wire_value, field_at}
use Rattle.protocol_wire.specs.Items.{first_and, items_within, items}
use Rattle.protocol_wire.specs.Fields.{fields}
use Rattle.protocol_wire.specs.Sound.{AreTexts, AreSound}
use Rattle.protocol_wire.specs.Check.{payload_fault}
use Rattle.protocol_wire.specs.Selection.{values, last_number_or, last_number, last_bytes_or, last_bytes, u64, u32, text, optional_u64, optional_u32, optional_text, each_bytes, texts, low, each_number, numbers, joined_bytes, optional_record, records, is_among, among, all_numbered, last_run, run, first_present}
use Rattle.protocol_table.specs.Table.{descriptors_of, kind_in}
use Rattle.protocol_table.specs.declared.table.RecordType.{RecordType}
use Rattle.protocol_table.specs.declared.table.Kind.TheVariants as kinds
use Rattle.protocol_wire.proofs.Joins.{IsFine}
use Rattle.protocol_wire.proofs.Joined.{sound_joined}
use Rattle.protocol_wire.proofs.SoundAt.{texts_sound}
use Rattle.protocol_wire.proofs.Runs.{values-among}
use Rattle.protocol_wire.proofs.Standing.{run_sound}

-- ---- numbers

abbrev pub AreBytes : List ℕ → Type 0
AreBytes bs = AllByRecursion (λ b. b < 256) bs

abbrev IsSmall : Wire → Type 0
IsSmall (varint n) = n < 2 ^ 64
IsSmall (bytes b) = Unit {0}
IsSmall fixed = Unit {0}

bytes_dropped : (n : ℕ) (bs : List ℕ) → AreBytes bs → AreBytes (drop n bs)
bytes_dropped zero bs h = h
bytes_dropped (suc n) [] h = tt
bytes_dropped (suc n) (b ∷ bs) h = bytes_dropped n bs h.1

varint_small : (k : ℕ) (bs : List ℕ) → AreBytes bs → IfSome (varint_within k bs) (λ x. (x.0 < 2 ^ 64) × AreBytes x.1)
unfolding varint_within
varint_small zero bs h = tt
varint_small (suc k) [] h = tt
varint_small (suc k) (b ∷ bs) h = first (varint_small k bs h.1) (ltb b 128)
  where
    Small : Option (ℕ × List ℕ) → Type 0
    Small o = IfSome o (λ x. (x.0 < 2 ^ 64) × AreBytes x.1)

    above : (high : ℕ × List ℕ) → AreBytes high.1 → (t : Bool) → ltb high.0 (2 ^ 57) ≡ t → Small (cond t (Some (b - 128 + 128 * high.0, high.1)) None)
    above high rest true e = let lt = ltb-true high.0 (2 ^ 57) e in (omega (arith, lt, h.0), rest)
    above high rest false e = tt

    more : (o : Option (ℕ × List ℕ)) → Small o → Small (o >>= λ high. cond (ltb high.0 (2 ^ 57)) (Some (b - 128 + 128 * high.0, high.1)) None)
    more None s = tt
    more (Some high) s = above high s.1 (ltb high.0 (2 ^ 57)) refl

    first : Small (varint_within k bs) → (t : Bool) → Small (cond t (Some (b, bs)) (varint_within k bs >>= λ high. cond (ltb high.0 (2 ^ 57)) (Some (b - 128 + 128 * high.0, high.1)) None))
    first others true = (omega (arith, h.0), h.1)
    first others false = more (varint_within k bs) others

abbrev ValueSmall : Option (Wire × List ℕ) → Type 0
ValueSmall o = IfSome o (λ x. IsSmall x.0 × AreBytes x.1)

abbrev as_varint : ℕ × List ℕ → Option (Wire × List ℕ)
as_varint x = Some (varint x.0, x.1)

abbrev as_bytes : List ℕ × List ℕ → Option (Wire × List ℕ)
as_bytes x = Some (bytes x.0, x.1)

abbrev as_fixed : List ℕ × List ℕ → Option (Wire × List ℕ)
as_fixed x = Some (fixed, x.1)

bytes_small : (n : ℕ) (bs : List ℕ) → AreBytes bs → (t : Bool) → ValueSmall (cond t (Some (take n bs, drop n bs)) None >>= as_bytes)
bytes_small n bs h true = (tt, bytes_dropped n bs h)
bytes_small n bs h false = tt

fixed_small : (n : ℕ) (bs : List ℕ) → AreBytes bs → (t : Bool) → ValueSmall (cond t (Some (take n bs, drop n bs)) None >>= as_fixed)
fixed_small n bs h true = (tt, bytes_dropped n bs h)
fixed_small n bs h false = tt

plain_small : (o : Option (ℕ × List ℕ)) → IfSome o (λ x. (x.0 < 2 ^ 64) × AreBytes x.1) → ValueSmall (o >>= as_varint)
plain_small None s = tt
plain_small (Some n) s = s

sized_small : (o : Option (ℕ × List ℕ)) → IfSome o (λ x. (x.0 < 2 ^ 64) × AreBytes x.1) → ValueSmall (o >>= λ n. bytes_at n.0 n.1 >>= as_bytes)
sized_small None s = tt
sized_small (Some n) s = bytes_small n.0 n.1 s.1 (nat_le n.0 (length n.1))

either : (t : Bool) (o p : Option (Wire × List ℕ)) → ValueSmall o → ValueSmall p → ValueSmall (cond t o p)
either true o p a b = a
either false o p a b = b

value_small : (kind : ℕ) (bs : List ℕ) → AreBytes bs → ValueSmall (wire_value kind bs)
unfolding wire_value varint_at
value_small kind bs h =
    let number = plain_small (varint_within 10 bs) (varint_small 10 bs h) in
    let counted = sized_small (varint_within 10 bs) (varint_small 10 bs h) in
    let eight = fixed_small 8 bs h (nat_le 8 (length bs)) in
    let four = fixed_small 4 bs h (nat_le 4 (length bs)) in
    either (eqb kind 0) _ _ number (either (eqb kind 2) _ _ counted (either (eqb kind 1) _ _ eight (either (eqb kind 5) _ None four tt)))

abbrev FieldSmall : Option (Field × List ℕ) → Type 0
FieldSmall o = IfSome o (λ x. IsSmall x.0.value × AreBytes x.1)

abbrev field_numbered : ℕ → Wire × List ℕ → Option (Field × List ℕ)
field_numbered n v = Some (record { number = n; value = v.0 }, v.1)

abbrev valued : ℕ × List ℕ → Option (Field × List ℕ)
valued t = wire_value (t.0 % 8) t.1 >>= field_numbered (t.0 / 8)

numbered_small : (n : ℕ) (o : Option (Wire × List ℕ)) → ValueSmall o → FieldSmall (o >>= field_numbered n)
numbered_small n None s = tt
numbered_small n (Some v) s = s

tag_small : (o : Option (Field × List ℕ)) (low high : Bool) → FieldSmall o → FieldSmall (cond low None (cond high o None))
tag_small o true high s = tt
tag_small o false true s = s
tag_small o false false s = tt

field_small : (bs : List ℕ) → AreBytes bs → FieldSmall (field_at bs)
unfolding field_at varint_at
field_small bs h = go (varint_within 10 bs) (varint_small 10 bs h)
  where
    go : (o : Option (ℕ × List ℕ)) → IfSome o (λ x. (x.0 < 2 ^ 64) × AreBytes x.1) → FieldSmall (o >>= λ t. cond (ltb t.0 8) None (cond (ltb t.0 (2 ^ 32)) (valued t) None))
    go None s = tt
    go (Some t) s = tag_small (valued t) (ltb t.0 8) (ltb t.0 (2 ^ 32)) (numbered_small (t.0 / 8) (wire_value (t.0 % 8) t.1) (value_small (t.0 % 8) t.1 s.1))

items_small : (k : ℕ) (bs : List ℕ) → AreBytes bs → AllByRecursion (λ f. IsSmall f.value) (items_within field_at k bs)
unfolding items_within
items_small zero bs h = tt
items_small (suc k) bs h = go (field_at bs) (field_small bs h) (items_small k)
  where
    go : (o : Option (Field × List ℕ)) → FieldSmall o → ((cs : List ℕ) → AreBytes cs → AllByRecursion (λ f. IsSmall f.value) (items_within field_at k cs)) → AllByRecursion (λ f. IsSmall f.value) (first_and o (items_within field_at k))
    go None s others = tt
    go (Some x) s others = (s.0, others x.1 s.1)

fields_small : (bs : List ℕ) → AreBytes bs → AllByRecursion (λ f. IsSmall f.value) (fields bs)
unfolding items
fields_small bs h = items_small (length bs) bs h

values_small : (number : ℕ) (fs : List Field) → AllByRecursion (λ f. IsSmall f.value) fs → AllByRecursion IsSmall (values number fs)
values_small number [] h = tt
values_small number (f ∷ fs) h = go (eqb f.number number) (values_small number fs h.1)
  where
    go : (t : Bool) → AllByRecursion IsSmall (values number fs) → AllByRecursion IsSmall (cond t (f.value ∷ values number fs) (values number fs))
    go true s = (h.0, s)
    go false s = s

last_small : (o : Option ℕ) (ws : List Wire) → IfSome o (λ n. n < 2 ^ 64) → AllByRecursion IsSmall ws → IfSome (last_number_or o ws) (λ n. n < 2 ^ 64)
last_small o [] s h = s
last_small o (varint n ∷ ws) s h = last_small (Some n) ws h.0 h.1
last_small o (bytes b ∷ ws) s h = last_small o ws s h.1
last_small o (fixed ∷ ws) s h = last_small o ws s h.1

pub optional_u64_fits : (number : ℕ) (bs : List ℕ) → AreBytes bs → IfSome (optional_u64 number (fields bs)) (λ n. n < 2 ^ 64)
unfolding last_number
optional_u64_fits number bs h = last_small None (values number (fields bs)) tt (values_small number (fields bs) (fields_small bs h))

pub u64_fits : (number : ℕ) (bs : List ℕ) → AreBytes bs → u64 number (fields bs) < 2 ^ 64
u64_fits number bs h = go (last_number number (fields bs)) (optional_u64_fits number bs h)
  where
    go : (o : Option ℕ) → IfSome o (λ n. n < 2 ^ 64) → unwrap_or o 0 < 2 ^ 64
    go None s = omega arith
    go (Some n) s = s

pub u32_fits : (number : ℕ) (fs : List Field) → u32 number fs < 2 ^ 32
u32_fits number fs = omega arith

pub optional_u32_fits : (number : ℕ) (fs : List Field) → IfSome (optional_u32 number fs) (λ n. n < 2 ^ 32)
optional_u32_fits number fs = go (last_number number fs)
  where
    go : (o : Option ℕ) → IfSome (option_map (λ n. n % 2 ^ 32) o) (λ n. n < 2 ^ 32)
    go None = tt
    go (Some n) = omega arith

pub numbers_fit : (number : ℕ) (fs : List Field) → AllByRecursion (λ n. n < 2 ^ 32) (numbers number fs)
unfolding numbers
numbers_fit number fs = go (each_number (values number fs))
  where
    go : (ns : List ℕ) → AllByRecursion (λ n. n < 2 ^ 32) (map low ns)
    go [] = tt
    go (n ∷ ns) = (omega arith, go ns)

-- ---- texts

last_text : (o : Option (List ℕ)) (ws : List Wire) → IfSome o IsUtf8 → AreTexts ws → IfSome (last_bytes_or o ws) IsUtf8
last_text o [] s h = s
last_text o (varint n ∷ ws) s h = last_text o ws s h
last_text o (bytes b ∷ ws) s h = last_text (Some b) ws h.0 h.1
last_text o (fixed ∷ ws) s h = last_text o ws s h

found_text : (number : ℕ) (fs : List Field) → AreTexts (values number fs) → IfSome (last_bytes number fs) IsUtf8
unfolding last_bytes
found_text number fs h = last_text None (values number fs) tt h

text_of : (o : Option (List ℕ)) → IfSome o IsUtf8 → IsUtf8 (unwrap_or o [])
text_of None h = IsUtf8-nil
text_of (Some b) h = h

each_text : (ws : List Wire) → AreTexts ws → AllByRecursion IsUtf8 (each_bytes ws)
each_text [] h = tt
each_text (varint n ∷ ws) h = each_text ws h
each_text (bytes b ∷ ws) h = (h.0, each_text ws h.1)
each_text (fixed ∷ ws) h = each_text ws h

behind_one : (t : Bool) (w : Wire) (ws : List Wire) → AreTexts (cond t (w ∷ ws) ws) → AreTexts ws
behind_one false w ws h = h
behind_one true (varint n) ws h = h
behind_one true (bytes b) ws h = h.1
behind_one true fixed ws h = h

run_texts : (number : ℕ) (fs : List Field) → AreTexts (values number fs) → AreTexts (values number (last_run fs))
run_texts number [] h = h
run_texts number (f ∷ fs) h = go (all_numbered f.number fs) (run_texts number fs (behind_one (eqb f.number number) f.value (values number fs) h))
  where
    go : (t : Bool) → AreTexts (values number (last_run fs)) → AreTexts (values number (cond t (f ∷ fs) (last_run fs)))
    go true others = h
    go false others = others

module _ (levels : ℕ) (t : RecordType) (number : ℕ) (bs : List ℕ) (fine : IsFine levels t bs) (kind : kind_in (descriptors_of t) number ≡ Some kinds.Text) where
  texts_here : AreTexts (values number (fields bs))
  texts_here = texts_sound levels t number bs fine kind

  pub optional_text_fits : IfSome (optional_text number (fields bs)) IsUtf8
  optional_text_fits = found_text number (fields bs) texts_here

  pub text_fits : IsUtf8 (text number (fields bs))
  text_fits = text_of (last_bytes number (fields bs)) optional_text_fits

  pub texts_fit : AllByRecursion IsUtf8 (texts number (fields bs))
  unfolding texts
  texts_fit = each_text (values number (fields bs)) texts_here

  -- of a choice
  pub chosen_text_fits : (variants : List ℕ) → is_among variants number ≡ true → IfSome (optional_text number (run variants (fields bs))) IsUtf8
  unfolding run
  chosen_text_fits variants member =
      found_text number (last_run (among variants (fields bs))) (run_texts number (among variants (fields bs)) (subst AreTexts (sym (values-among variants number (fields bs) member)) texts_here))

-- ---- records

module _ {R : Type 0} (levels : ℕ) (t : RecordType) (of : List Field → R) (Fits : R → Type 0) (each : (p : List ℕ) → IsFine levels t p → Fits (of (fields p))) where
  pub optional_record_fits : (number : ℕ) (fs : List Field) → AreSound (payload_fault levels t) (values number fs) → IfSome (optional_record of number fs) Fits
  unfolding texts
  optional_record_fits number fs h = go (joined_bytes (each_bytes (values number fs))) refl
    where
      go : (o : Option (List ℕ)) → joined_bytes (each_bytes (values number fs)) ≡ o → IfSome (option_map (λ payload. of (fields payload)) o) Fits
      go None e = tt
      go (Some p) e = each p (sound_joined levels t (values number fs) p h e)

  pub records_fit : (number : ℕ) (fs : List Field) → AreSound (payload_fault levels t) (values number fs) → AllByRecursion Fits (records of number fs)
  unfolding texts
  records_fit number fs h = go (values number fs) h
    where
      go : (ws : List Wire) → AreSound (payload_fault levels t) ws → AllByRecursion Fits (map (λ payload. of (fields payload)) (each_bytes ws))
      go [] h = tt
      go (varint n ∷ ws) h = go ws h
      go (bytes b ∷ ws) h = (each b h.0, go ws h.1)
      go (fixed ∷ ws) h = go ws h

-- What was read of a record fits.
abbrev pub ReadFits : {R : Type 0} → RecordType → (ℕ → List Field → R) → (ℕ → R → Type 0) → Type 0
ReadFits t of Fits = (levels : ℕ) (a : List ℕ) → IsFine levels t a → Fits levels (of levels (fields a))

-- The same, where the payload has to be one of bytes: a number of 64 bits is read.
abbrev pub ReadOfBytesFits : {R : Type 0} → RecordType → (ℕ → List Field → R) → (ℕ → R → Type 0) → Type 0
ReadOfBytesFits t of Fits = (levels : ℕ) (a : List ℕ) → AreBytes a → IsFine levels t a → Fits levels (of levels (fields a))

-- ---- a choice

pub chosen_record_fits : {R : Type 0} (levels : ℕ) (t : RecordType) (variants : List ℕ) (number : ℕ) (a : List ℕ) → IsFine levels t a → is_among variants number ≡ true → (r : RecordType) → kind_in (descriptors_of t) number ≡ Some (kinds.Record r)
    → (of : ℕ → List Field → R) (Fits : ℕ → R → Type 0) → ReadFits r of Fits → IfSome (optional_record (of (levels - 1)) number (run variants (fields a))) (Fits (levels - 1))
chosen_record_fits levels t variants number a fine member r kind of Fits each =
    optional_record_fits (levels - 1) r (of (levels - 1)) (Fits (levels - 1)) (each (levels - 1)) number (run variants (fields a)) (run_sound levels t variants number a fine member r kind)

module _ {A E : Type 0} (make : A → E) (Fits : Option E → Type 0) where
  pub first_fits : (o : Option A) (other : Option E) → IfSome o (λ x. Fits (Some (make x))) → Fits other → Fits (first_present (option_map make o) other)
  first_fits None other h others = others
  first_fits (Some x) other h others = h

  pub last_fits : (o : Option A) → IfSome o (λ x. Fits (Some (make x))) → Fits None → Fits (option_map make o)
  last_fits None h none = none
  last_fits (Some x) h none = h

pub any_fits : {A : Type 0} (o : Option A) → IfSome o (λ x. Unit {0})
any_fits None = tt
any_fits (Some x) = tt
