-- What is read at the front is read there whatever follows.
use Rattle.std.proofs.Common.{◌≡◌, ℕ, zero, suc, ◌+◌, ◌-◌, ◌*◌, ◌%◌, ◌^◌, ◌<◌, ◌≤◌, Bool, true, false, cond, ltb, leb, eqb, List, [], ◌∷◌, ◌++◌, length, take, drop, Option, Some, None, refl, sym, ap, subst, ◌∙◌, arith}
use Rattle.std.proofs.lemmas.List.{length-append, take-append-le, drop-append-le}
use Rattle.std.proofs.lemmas.Bool.{le-leb, leb-true}
use Rattle.protocol_wire.specs.Wire.{Field, ◌>>=◌, varint_within, varint_at, bytes_at, wire_value, field_at}
use Rattle.protocol_wire.specs.Items.{is_end}
use Rattle.protocol_wire.specs.Fields.{fields, are_fields}
use Rattle.protocol_wire.proofs.Steps.{Shrinks, field_at_nil, field_at_shrinks, fields-some, fields-none, are_fields-some, are_fields-none}

-- a reader's answer, with more bytes behind what it leaves
abbrev pub with_more : {A : Type 0} → List ℕ → Option (A × List ℕ) → Option (A × List ℕ)
with_more c None = None
with_more c (Some x) = Some (x.0, x.1 ++ c)

-- The second answer is the first, with more bytes behind, if there is a first.
abbrev pub Extends : {A : Type 0} → List ℕ → Option (A × List ℕ) → Option (A × List ℕ) → Type 0
Extends c None s = Unit {0}
Extends c (Some x) s = s ≡ Some (x.0, x.1 ++ c)

extends_then : {A B : Type 0} (c : List ℕ) (r s : Option (A × List ℕ)) (f g : A × List ℕ → Option (B × List ℕ)) → Extends c r s → ((x : A × List ℕ) → Extends c (f x) (g (x.0, x.1 ++ c))) → Extends c (r >>= f) (s >>= g)
extends_then c None s f g h k = tt
extends_then {A = A} c (Some x) s f g h k = subst (λ (s' : Option (A × List ℕ)). Extends c (f x) (s' >>= g)) (sym h) (k x)

extends_if : {A : Type 0} (c : List ℕ) (b : Bool) (r s p q : Option (A × List ℕ)) → Extends c r p → Extends c s q → Extends c (cond b r s) (cond b p q)
extends_if c true r s p q h k = h
extends_if c false r s p q h k = k

varint_within_extends : (c : List ℕ) (k : ℕ) (bs : List ℕ) → Extends c (varint_within k bs) (varint_within k (bs ++ c))
unfolding varint_within
varint_within_extends c zero bs = tt
varint_within_extends c (suc k) [] = tt
varint_within_extends c (suc k) (b ∷ bs) =
    extends_if c (ltb b 128) (Some (b, bs)) _ (Some (b, bs ++ c)) _ refl
    (extends_then c (varint_within k bs) (varint_within k (bs ++ c)) _ _ (varint_within_extends c k bs)
    (λ x. extends_if c (ltb x.0 (2 ^ 57)) (Some (b - 128 + 128 * x.0, x.1)) None (Some (b - 128 + 128 * x.0, x.1 ++ c)) None refl tt))

varint_at_extends : (c : List ℕ) (bs : List ℕ) → Extends c (varint_at bs) (varint_at (bs ++ c))
unfolding varint_at
varint_at_extends c bs = varint_within_extends c 10 bs

bytes_at_extends : (c : List ℕ) (n : ℕ) (bs : List ℕ) → Extends c (bytes_at n bs) (bytes_at n (bs ++ c))
bytes_at_extends c n bs = go (leb n (length bs)) refl
  where
    go : (b : Bool) → leb n (length bs) ≡ b → Extends {A = List ℕ} c (cond b (Some (take n bs, drop n bs)) None) (bytes_at n (bs ++ c))
    go false e = tt
    go true e =
        let le : n ≤ length bs = leb-true _ _ e in
        let more : leb n (length (bs ++ c)) ≡ true = le-leb _ _ (omega (arith, length-append bs c)) in
        rw (more, take-append-le n bs c le, drop-append-le n bs c le) refl

value_at_extends : (c : List ℕ) (kind : ℕ) (bs : List ℕ) → Extends c (wire_value kind bs) (wire_value kind (bs ++ c))
unfolding wire_value
value_at_extends c kind bs =
    extends_if c (eqb kind 0) _ _ _ _ (extends_then c (varint_at bs) _ _ _ (varint_at_extends c bs) (λ x. refl))
    (extends_if c (eqb kind 2) _ _ _ _ (extends_then c (varint_at bs) _ _ _ (varint_at_extends c bs) (λ n. extends_then c (bytes_at n.0 n.1) _ _ _ (bytes_at_extends c n.0 n.1) (λ x. refl)))
    (extends_if c (eqb kind 1) _ _ _ _ (extends_then c (bytes_at 8 bs) _ _ _ (bytes_at_extends c 8 bs) (λ x. refl))
    (extends_if c (eqb kind 5) _ _ _ _ (extends_then c (bytes_at 4 bs) _ _ _ (bytes_at_extends c 4 bs) (λ x. refl)) tt)))

field_at_extends : (c : List ℕ) (bs : List ℕ) → Extends c (field_at bs) (field_at (bs ++ c))
unfolding field_at
field_at_extends c bs = extends_then c (varint_at bs) _ _ _ (varint_at_extends c bs) (λ t. extends_if c (ltb t.0 8) None _ None _ tt (extends_if c (ltb t.0 (2 ^ 32)) _ None _ None (extends_then c (wire_value (t.0 % 8) t.1) _ _ _ (value_at_extends c (t.0 % 8) t.1) (λ v. refl)) tt))

-- ---- payloads one behind the other

is_end_nil : (a : List ℕ) → is_end a ≡ true → a ≡ []
is_end_nil [] e = refl
is_end_nil (x ∷ a) e = absurd cc

-- by the length of the first
fields-append_within : (k : ℕ) (a b : List ℕ) → length a ≤ k → are_fields a ≡ true → (fields (a ++ b) ≡ fields a ++ fields b) × (are_fields (a ++ b) ≡ are_fields b)
fields-append_within zero [] b le whole = (rw (fields-none [] field_at_nil) refl, refl)
fields-append_within zero (x ∷ a) b le whole = absurd (omega arith)
fields-append_within (suc k) a b le whole = go (field_at a) refl (λ rest p w. fields-append_within k rest b p w)
  where
    go : (r : Option (Field × List ℕ)) → field_at a ≡ r → ((rest : List ℕ) → length rest ≤ k → are_fields rest ≡ true → (fields (rest ++ b) ≡ fields rest ++ fields b) × (are_fields (rest ++ b) ≡ are_fields b)) → (fields (a ++ b) ≡ fields a ++ fields b) × (are_fields (a ++ b) ≡ are_fields b)
    go None e again =
        let ended : a ≡ [] = is_end_nil a (sym (are_fields-none a e) ∙ whole) in
        rw ended (rw (fields-none [] field_at_nil) refl, refl)
    go (Some x) e again =
        let shorter : length x.1 < length a = subst (λ (r : Option (Field × List ℕ)). Shrinks a r) e (field_at_shrinks a) in
        let more : field_at (a ++ b) ≡ Some (x.0, x.1 ++ b) = subst (λ (r : Option (Field × List ℕ)). Extends b r (field_at (a ++ b))) e (field_at_extends b a) in
        let rest_whole : are_fields x.1 ≡ true = sym (are_fields-some a x.0 x.1 e) ∙ whole in
        let h = again x.1 (omega arith) rest_whole in (
          fields-some (a ++ b) x.0 (x.1 ++ b) more ∙ ap (λ (fs : List Field). x.0 ∷ fs) h.0 ∙ ap (λ (fs : List Field). fs ++ fields b) (sym (fields-some a x.0 x.1 e)),
          are_fields-some (a ++ b) x.0 (x.1 ++ b) more ∙ h.1,
        )

pub fields-append : (a b : List ℕ) → are_fields a ≡ true → fields (a ++ b) ≡ fields a ++ fields b
fields-append a b whole = (fields-append_within (length a) a b (omega arith) whole).0

pub are_fields-append : (a b : List ℕ) → are_fields a ≡ true → are_fields (a ++ b) ≡ are_fields b
are_fields-append a b whole = (fields-append_within (length a) a b (omega arith) whole).1
