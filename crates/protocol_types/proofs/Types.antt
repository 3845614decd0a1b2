-- Types and numbers, there and back.
use Rattle.std.proofs.Common.{◌≡◌, ◌≢◌, ℕ, Bool, true, false, cond, List, [], ◌∷◌, Option, Some, None, Result, Ok, Err, refl, sym, ap, ◌∙◌, nat_eq, bit_and, lit<}
use Rattle.std.specs.Prelude.{find}
use Rattle.std.specs.List.{AllByRecursion}
use Rattle.std.proofs.lemmas.Bool.{eqb-true, eqb-false}
use Rattle.protocol_types.specs.declared.message_type.MessageType.{MessageType}
use Rattle.protocol_types.specs.declared.message_type.MessageType.TheVariants.{CustomEntry}
use Rattle.protocol_types.specs.declared.message_type.UnknownMessageType.{UnknownMessageType}
use Rattle.protocol_types.specs.MessageType.{type_number, named_types, named_type, named_or_custom, type_numbered, IsWireType}
use Rattle.protocol_types.specs.Laws.{IsUnlisted, NamesReadBack, CustomEntriesReadBack, NumbersReadBack, RestIsUnknown}

-- whether a type is no custom entry
abbrev pub is_named : MessageType → Bool
is_named (CustomEntry number) = false
is_named _ = true

-- A named type is read back from its number.
pub named_is_wire : (ty : MessageType) → is_named ty ≡ true → IsWireType ty
unfolding named_type
named_is_wire (CustomEntry number) h = absurd cc
named_is_wire _ h = record { number = lit< tt; read = refl }

abbrev all_named : List MessageType → Bool
all_named [] = true
all_named (ty ∷ tys) = cond (is_named ty) (all_named tys) false

both : (b c : Bool) → cond b c false ≡ true → (b ≡ true) × (c ≡ true)
both true c e = (refl, e)
both false c e = absurd cc

all_wire : (tys : List MessageType) → all_named tys ≡ true → AllByRecursion IsWireType tys
all_wire [] e = tt
all_wire (ty ∷ tys) e = let h = both (is_named ty) (all_named tys) e in (named_is_wire ty h.0, all_wire tys h.1)

pub names_read_back : NamesReadBack
names_read_back = all_wire named_types refl

-- ---- what is found in a list of types

abbrev with_number : ℕ → List MessageType → Option MessageType
with_number number tys = find (λ ty. nat_eq (type_number ty) number) tys

abbrev Unlisted : ℕ → List MessageType → Type 0
Unlisted number tys = AllByRecursion (λ ty. type_number ty ≢ number) tys

none_with : (number : ℕ) (tys : List MessageType) → with_number number tys ≡ None → Unlisted number tys
none_with number [] e = tt
none_with number (ty ∷ tys) e = go (nat_eq (type_number ty) number) refl e (λ more. none_with number tys more)
  where
    go : (b : Bool) → nat_eq (type_number ty) number ≡ b → cond b (Some ty) (with_number number tys) ≡ None → (with_number number tys ≡ None → Unlisted number tys) → Unlisted number (ty ∷ tys)
    go true is e others = absurd cc
    go false is e others = (eqb-false _ _ is, others e)

with_none : (number : ℕ) (tys : List MessageType) → Unlisted number tys → with_number number tys ≡ None
with_none number [] h = refl
with_none number (ty ∷ tys) h = go (nat_eq (type_number ty) number) refl (with_none number tys h.1)
  where
    go : (b : Bool) → nat_eq (type_number ty) number ≡ b → with_number number tys ≡ None → cond b (Some ty) (with_number number tys) ≡ None
    go true is others = absurd (h.0 (eqb-true _ _ is))
    go false is others = others

found_with : (number : ℕ) (tys : List MessageType) (found : MessageType) → all_named tys ≡ true → with_number number tys ≡ Some found → (type_number found ≡ number) × (is_named found ≡ true)
found_with number [] found a e = absurd cc
found_with number (ty ∷ tys) found a e = go (nat_eq (type_number ty) number) refl e (λ more. found_with number tys found (both (is_named ty) (all_named tys) a).1 more)
  where
    go : (b : Bool) → nat_eq (type_number ty) number ≡ b → cond b (Some ty) (with_number number tys) ≡ Some found → (with_number number tys ≡ Some found → (type_number found ≡ number) × (is_named found ≡ true))
        → (type_number found ≡ number) × (is_named found ≡ true)
    go true is e others =
        let same : ty ≡ found = cc in
        (sym (ap type_number same) ∙ eqb-true _ _ is, sym (ap is_named same) ∙ (both (is_named ty) (all_named tys) a).0)
    go false is e others = others e

named_type_none : (number : ℕ) → named_type number ≡ None → IsUnlisted number
unfolding named_type
named_type_none number e = none_with number named_types e

named_type_unlisted : (number : ℕ) → IsUnlisted number → named_type number ≡ None
unfolding named_type
named_type_unlisted number h = with_none number named_types h

pub named_type_some : (number : ℕ) (found : MessageType) → named_type number ≡ Some found → (type_number found ≡ number) × (is_named found ≡ true)
unfolding named_type
named_type_some number found e = found_with number named_types found refl e

-- ---- the laws

abbrev ok : MessageType → Result MessageType UnknownMessageType
ok ty = Ok ty

abbrev err : ℕ → Result MessageType UnknownMessageType
err number = Err (record { 0 = number })

ok_is : (x y : MessageType) → ok x ≡ ok y → x ≡ y
ok_is x y e = cc

pub numbers_read_back : NumbersReadBack
numbers_read_back number ty e = go (named_type number) refl e
  where
    custom : (b : Bool) → cond b (Err (record { 0 = number })) (Ok (CustomEntry number)) ≡ ok ty → type_number ty ≡ number
    custom true e = absurd cc
    custom false e = sym (ap type_number (ok_is _ _ e))

    go : (r : Option MessageType) → named_type number ≡ r → named_or_custom number r ≡ ok ty → type_number ty ≡ number
    go (Some found) is e = sym (ap type_number (ok_is _ _ e)) ∙ (named_type_some number found is).0
    go None is e = custom (nat_eq (bit_and number 0xFC00) 0) e

pub custom_entries_read_back : CustomEntriesReadBack
custom_entries_read_back number = (to, from)
  where
    bits : (b : Bool) → nat_eq (bit_and number 0xFC00) 0 ≡ b → cond b (Err (record { 0 = number })) (Ok (CustomEntry number)) ≡ ok (CustomEntry number) → bit_and number 0xFC00 ≢ 0
    bits true is e = absurd cc
    bits false is e = eqb-false _ _ is

    go : (r : Option MessageType) → named_type number ≡ r → named_or_custom number r ≡ ok (CustomEntry number) → IsUnlisted number × (bit_and number 0xFC00 ≢ 0)
    go (Some found) is e = let n = (named_type_some number found is).1 in let c : found ≡ CustomEntry number = ok_is _ _ e in let clash = sym (ap is_named c) ∙ n in absurd cc
    go None is e = (named_type_none number is, bits (nat_eq (bit_and number 0xFC00) 0) refl e)

    to : type_numbered number ≡ Ok (CustomEntry number) → IsUnlisted number × (bit_and number 0xFC00 ≢ 0)
    to e = go (named_type number) refl e

    set : (b : Bool) → nat_eq (bit_and number 0xFC00) 0 ≡ b → bit_and number 0xFC00 ≢ 0 → cond b (Err (record { 0 = number })) (Ok (CustomEntry number)) ≡ ok (CustomEntry number)
    set true is ne = absurd (ne (eqb-true _ _ is))
    set false is ne = refl

    from : IsUnlisted number × (bit_and number 0xFC00 ≢ 0) → type_numbered number ≡ Ok (CustomEntry number)
    from h = rw (named_type_unlisted number h.0) (set (nat_eq (bit_and number 0xFC00) 0) refl h.1)

pub rest_is_unknown : RestIsUnknown
rest_is_unknown number = (to, from)
  where
    bits : (b : Bool) → nat_eq (bit_and number 0xFC00) 0 ≡ b → cond b (err number) (Ok (CustomEntry number)) ≡ err number → bit_and number 0xFC00 ≡ 0
    bits true is e = eqb-true _ _ is
    bits false is e = absurd cc

    go : (r : Option MessageType) → named_type number ≡ r → named_or_custom number r ≡ err number → IsUnlisted number × (bit_and number 0xFC00 ≡ 0)
    go (Some found) is e = absurd cc
    go None is e = (named_type_none number is, bits (nat_eq (bit_and number 0xFC00) 0) refl e)

    to : type_numbered number ≡ Err (record { 0 = number }) → IsUnlisted number × (bit_and number 0xFC00 ≡ 0)
    to e = go (named_type number) refl e

    clear : (b : Bool) → nat_eq (bit_and number 0xFC00) 0 ≡ b → bit_and number 0xFC00 ≡ 0 → cond b (err number) (Ok (CustomEntry number)) ≡ err number
    clear true is e = refl
    clear false is e = absurd (eqb-false _ _ is e)

    from : IsUnlisted number × (bit_and number 0xFC00 ≡ 0) → type_numbered number ≡ Err (record { 0 = number })
    from h = rw (named_type_unlisted number h.0) (clear (nat_eq (bit_and number 0xFC00) 0) refl h.1)
