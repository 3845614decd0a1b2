-- What is selected of fields with others behind them depends on what is selected of the first, and on the others.
use Rattle.std.proofs.Common.{◌≡◌, ℕ, zero, suc, List, [], ◌∷◌, ◌++◌, map, Option, Some, None, refl, sym, ap, ◌∙◌, append_assoc}
use Rattle.std.specs.Prelude.{option_map, unwrap_or}
use Rattle.protocol_wire.specs.Wire.{Wire, varint, bytes, fixed, Field}
use Rattle.protocol_wire.specs.Fields.{fields, varints}
use Rattle.protocol_wire.specs.Check.{payload_fault}
use Rattle.protocol_wire.specs.Sound.{AreSound}
use Rattle.protocol_wire.specs.Selection.{values, last_number_or, last_number, last_bytes_or, last_bytes, u64, u32, bool, text, low, optional_u64, optional_u32, optional_text, texts, each_number, numbers, concat, joined_bytes, optional_record, records}
use Rattle.protocol_table.specs.declared.table.RecordType.{RecordType}
use Rattle.protocol_wire.proofs.Laws.{values-append, last_number_or-append, same_number, last_bytes_or-append, same_bytes, texts-append, flag}
use Rattle.protocol_wire.proofs.Joined.{sound_fields, sound_joined}
use Rattle.protocol_wire.proofs.Extends.{fields-append}

module _ (number : ℕ) (a b c : List Field) where
  -- by a view of the last number
  pub number_joins : {A : Type 0} (view : Option ℕ → A) → view (last_number number a) ≡ view (last_number number b) → view (last_number number (a ++ c)) ≡ view (last_number number (b ++ c))
  unfolding last_number
  number_joins view h =
      ap (λ (ws : List Wire). view (last_number_or None ws)) (values-append number a c)
      ∙ ap view (last_number_or-append None (values number a) (values number c))
      ∙ same_number view (last_number_or None (values number a)) (last_number_or None (values number b)) (values number c) h
      ∙ ap view (sym (last_number_or-append None (values number b) (values number c)))
      ∙ ap (λ (ws : List Wire). view (last_number_or None ws)) (sym (values-append number b c))

  pub u64_joins : u64 number a ≡ u64 number b → u64 number (a ++ c) ≡ u64 number (b ++ c)
  u64_joins = number_joins (λ o. unwrap_or o 0)

  pub u32_joins : u32 number a ≡ u32 number b → u32 number (a ++ c) ≡ u32 number (b ++ c)
  u32_joins = number_joins (λ o. low (unwrap_or o 0))

  pub bool_joins : bool number a ≡ bool number b → bool number (a ++ c) ≡ bool number (b ++ c)
  bool_joins = number_joins (λ o. flag (unwrap_or o 0))

  pub optional_u64_joins : optional_u64 number a ≡ optional_u64 number b → optional_u64 number (a ++ c) ≡ optional_u64 number (b ++ c)
  optional_u64_joins = number_joins (λ o. o)

  pub optional_u32_joins : optional_u32 number a ≡ optional_u32 number b → optional_u32 number (a ++ c) ≡ optional_u32 number (b ++ c)
  optional_u32_joins = number_joins (option_map low)

  -- by a view of the last bytes
  bytes_join : {A : Type 0} (view : Option (List ℕ) → A) → view (last_bytes number a) ≡ view (last_bytes number b) → view (last_bytes number (a ++ c)) ≡ view (last_bytes number (b ++ c))
  unfolding last_bytes
  bytes_join view h =
      ap (λ (ws : List Wire). view (last_bytes_or None ws)) (values-append number a c)
      ∙ ap view (last_bytes_or-append None (values number a) (values number c))
      ∙ same_bytes view (last_bytes_or None (values number a)) (last_bytes_or None (values number b)) (values number c) h
      ∙ ap view (sym (last_bytes_or-append None (values number b) (values number c)))
      ∙ ap (λ (ws : List Wire). view (last_bytes_or None ws)) (sym (values-append number b c))

  pub text_joins : text number a ≡ text number b → text number (a ++ c) ≡ text number (b ++ c)
  text_joins = bytes_join (λ o. unwrap_or o [])

  pub optional_text_joins : optional_text number a ≡ optional_text number b → optional_text number (a ++ c) ≡ optional_text number (b ++ c)
  optional_text_joins = bytes_join (λ o. o)

  pub texts_join : texts number a ≡ texts number b → texts number (a ++ c) ≡ texts number (b ++ c)
  texts_join h = texts-append number a c ∙ ap (λ (ts : List (List ℕ)). ts ++ texts number c) h ∙ sym (texts-append number b c)

-- ---- numbers

each_number-append : (u w : List Wire) → each_number (u ++ w) ≡ each_number u ++ each_number w
each_number-append [] w = refl
each_number-append (varint n ∷ u) w = ap (λ (ns : List ℕ). n ∷ ns) (each_number-append u w)
each_number-append (bytes b ∷ u) w = ap (λ (ns : List ℕ). varints b ++ ns) (each_number-append u w) ∙ sym (append_assoc (varints b) (each_number u) (each_number w))
each_number-append (fixed ∷ u) w = each_number-append u w

map-append : {A B : Type 0} (f : A → B) (xs ys : List A) → map f (xs ++ ys) ≡ map f xs ++ map f ys
map-append f [] ys = refl
map-append {B = B} f (x ∷ xs) ys = ap (λ (zs : List B). f x ∷ zs) (map-append f xs ys)

numbers-append : (number : ℕ) (a c : List Field) → numbers number (a ++ c) ≡ numbers number a ++ numbers number c
unfolding numbers
numbers-append number a c =
    ap (λ (ws : List Wire). map low (each_number ws)) (values-append number a c)
    ∙ ap (map low) (each_number-append (values number a) (values number c))
    ∙ map-append low (each_number (values number a)) (each_number (values number c))

pub numbers_join : (number : ℕ) (a b c : List Field) → numbers number a ≡ numbers number b → numbers number (a ++ c) ≡ numbers number (b ++ c)
numbers_join number a b c h = numbers-append number a c ∙ ap (λ (ns : List ℕ). ns ++ numbers number c) h ∙ sym (numbers-append number b c)

-- ---- records in records

pub records_join : {R : Type 0} (of : List Field → R) (number : ℕ) (a b c : List Field) → records of number a ≡ records of number b → records of number (a ++ c) ≡ records of number (b ++ c)
records_join {R = R} of number a b c h = split a ∙ ap (λ (rs : List R). rs ++ records of number c) h ∙ sym (split b)
  where
    split : (x : List Field) → records of number (x ++ c) ≡ records of number x ++ records of number c
    split x = ap (map (λ payload. of (fields payload))) (texts-append number x c) ∙ map-append (λ payload. of (fields payload)) (texts number x) (texts number c)

concat-append : (a b : List (List ℕ)) → concat (a ++ b) ≡ concat a ++ concat b
concat-append [] b = refl
concat-append (x ∷ a) b = ap (λ (y : List ℕ). x ++ y) (concat-append a b) ∙ sym (append_assoc x (concat a) (concat b))

-- Payloads that stand for one record lead to one record with the same bytes behind them.
abbrev pub Joins : {R : Type 0} → (ℕ → RecordType → List ℕ → Type 0) → ℕ → RecordType → (List Field → R) → Type 0
Joins Fine levels t of = (a b c : List ℕ) → Fine levels t a → Fine levels t b → of (fields a) ≡ of (fields b) → of (fields (a ++ c)) ≡ of (fields (b ++ c))

abbrev pub IsFine : ℕ → RecordType → List ℕ → Type 0
IsFine levels t p = payload_fault levels t p ≡ None

module _ {R : Type 0} (levels : ℕ) (t : RecordType) (of : List Field → R) (joins : Joins IsFine levels t of) where
  abbrev read : List (List ℕ) → Option R
  read ts = option_map (λ payload. of (fields payload)) (joined_bytes ts)

  abbrev Fine : List (List ℕ) → Type 0
  Fine ts = (p : List ℕ) → joined_bytes ts ≡ Some p → IsFine levels t p

  injective : (x y : R) → Some x ≡ Some y → x ≡ y
  injective x y h = ap (λ o. unwrap_or o x) h

  joined : (ts us vs : List (List ℕ)) → Fine ts → Fine us → read ts ≡ read us → read (ts ++ vs) ≡ read (us ++ vs)
  joined [] [] vs p q h = refl
  joined [] (u ∷ us) vs p q h = absurd cc
  joined (s ∷ ts) [] vs p q h = absurd cc
  joined (s ∷ ts) (u ∷ us) vs p q h =
      let one = injective (of (fields (concat (s ∷ ts)))) (of (fields (concat (u ∷ us)))) h in
      ap (λ (x : List ℕ). some (of (fields x))) (concat-append (s ∷ ts) vs)
      ∙ ap some (joins (concat (s ∷ ts)) (concat (u ∷ us)) (concat vs) (p (concat (s ∷ ts)) refl) (q (concat (u ∷ us)) refl) one)
      ∙ ap (λ (x : List ℕ). some (of (fields x))) (sym (concat-append (u ∷ us) vs))
    where
      some : R → Option R
      some r = Some r

  fine_of : (number : ℕ) (a : List Field) → AreSound (payload_fault levels t) (values number a) → Fine (texts number a)
  unfolding texts
  fine_of number a h p e = sound_joined levels t (values number a) p h e

  pub optional_record_joins : (number : ℕ) (a b c : List Field) → AreSound (payload_fault levels t) (values number a) → AreSound (payload_fault levels t) (values number b)
      → optional_record of number a ≡ optional_record of number b → optional_record of number (a ++ c) ≡ optional_record of number (b ++ c)
  optional_record_joins number a b c p q h =
      ap read (texts-append number a c)
      ∙ joined (texts number a) (texts number b) (texts number c) (fine_of number a p) (fine_of number b q) h
      ∙ ap read (sym (texts-append number b c))

-- ---- the payload

-- Behind a payload with which nothing is wrong, other fields come behind its own.
pub fields_behind : (levels : ℕ) (t : RecordType) (a c : List ℕ) → IsFine levels t a → fields (a ++ c) ≡ fields a ++ fields c
unfolding payload_fault
fields_behind zero t a c h = absurd cc
fields_behind (suc levels) t a c h = fields-append a c (sound_fields levels t a h).1
