-- Types of entries, there and back.
use Rattle.std.proofs.Common.{◌≡◌, ◌≢◌, ◌≤◌, ◌<◌, ◌+◌, ◌-◌, ◌^◌, ◌∙◌, nat_lt, ℕ, Bool, true, false, if◌then◌else◌, Some, None, refl, sym, ap, subst, arith}
use Rattle.std.proofs.lemmas.Bool.{le-ltb, lt-ltb, ltb-true, ltb-false}
use Rattle.protocol_types.specs.declared.message_type.MessageType.{MessageType}
use Rattle.protocol_types.specs.declared.message_type.MessageType.TheVariants.{CustomEntry}
use Rattle.protocol_types.specs.MessageType.{type_number, named_type}
use Rattle.protocol_types.proofs.Types.{is_named, named_type_some}
use Rattle.sql_tables.specs.Cells.{IsShort}
use Rattle.store_tables.specs.Kinds.{kept_kind, kind_kept}

custom_back : (n : ℕ) → n < 2 ^ 16 → kind_kept (2 ^ 16 + n) ≡ Some (CustomEntry n)
custom_back n small =
    let above : nat_lt (2 ^ 16 + n) (2 ^ 16) ≡ false = le-ltb _ _ (omega arith) in
    let below : nat_lt (2 ^ 16 + n) (2 ^ 17) ≡ true = lt-ltb _ _ (omega (arith, small)) in
    let back : 2 ^ 16 + n - 2 ^ 16 ≡ n = omega arith in
    rw (above, below, back) refl

pub kind_back : (kind : MessageType) → type_number kind < 2 ^ 16 → kind_kept (kept_kind kind) ≡ Some kind
unfolding named_type
kind_back (CustomEntry number) small = custom_back number small
kind_back _ small = refl

pub kind_fits : (kind : MessageType) → type_number kind < 2 ^ 16 → IsShort (kept_kind kind)
kind_fits (CustomEntry number) small = omega (arith, small)
kind_fits _ small = omega arith

-- ---- what is read has this number

named_kept : (kind : MessageType) → is_named kind ≡ true → kept_kind kind ≡ type_number kind
named_kept (CustomEntry number) h = absurd cc
named_kept _ h = refl

pub kept_of : (number : ℕ) (kind : MessageType) → kind_kept number ≡ Some kind → (kept_kind kind ≡ number) × (type_number kind < 2 ^ 16)
kept_of number kind e = by_size (nat_lt number (2 ^ 16)) refl (nat_lt number (2 ^ 17)) refl e
  where
    by_size : (a : Bool) → nat_lt number (2 ^ 16) ≡ a → (b : Bool) → nat_lt number (2 ^ 17) ≡ b
        → (if a then named_type number else if b then Some (CustomEntry (number - 2 ^ 16)) else None) ≡ Some kind → (kept_kind kind ≡ number) × (type_number kind < 2 ^ 16)
    by_size true small b is e =
        let found = named_type_some number kind e in
        (named_kept kind found.1 ∙ found.0, omega (arith, found.0, ltb-true number (2 ^ 16) small))
    by_size false large true is e =
        let same : CustomEntry (number - 2 ^ 16) ≡ kind = cc in
        let low : 2 ^ 16 ≤ number = ltb-false number (2 ^ 16) large in
        let high : number < 2 ^ 17 = ltb-true number (2 ^ 17) is in
        let whole : 2 ^ 16 + (number - 2 ^ 16) ≡ number = omega (arith, low) in
        let small : number - 2 ^ 16 < 2 ^ 16 = omega (arith, low, high) in
        (sym (ap kept_kind same) ∙ whole, subst (λ (k : MessageType). type_number k < 2 ^ 16) same small)
    by_size false large false is e = absurd cc

-- a number that is no type's is not kept of one
pub none_kept : (number : ℕ) → kind_kept number ≡ None → (kind : MessageType) → type_number kind < 2 ^ 16 → kept_kind kind ≢ number
none_kept number none kind small e = let clash : None ≡ Some kind = sym none ∙ sym (ap kind_kept e) ∙ kind_back kind small in absurd cc
