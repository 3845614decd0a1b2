-- What is spelled is read again, whatever follows.
use Rattle.std.proofs.Common.{◌≡◌, ℕ, zero, suc, ◌+◌, ◌-◌, ◌*◌, ◌/◌, ◌%◌, ◌^◌, ◌<◌, ◌≤◌, Bool, true, false, cond, ltb, leb, List, [], ◌∷◌, ◌++◌, length, Option, Some, refl, ap, subst, ◌∙◌, arith, append_assoc}
use Rattle.std.specs.List.{AllByRecursion}
use Rattle.std.proofs.lemmas.List.{length-append, take_at, drop_at}
use Rattle.std.proofs.lemmas.Bool.{ltb-false, le-ltb, lt-ltb, le-leb}
use Rattle.protocol_wire.specs.Wire.{Wire, varint, bytes, fixed, Field, varint_within, varint_at, bytes_at, wire_value, field_at}
use Rattle.protocol_wire.specs.Fields.{fields, are_fields}
use Rattle.protocol_wire.specs.Spelling.{varint_spelling_within, varint_spelling, tagged, field_spelling, spelling, ValueFits, FieldFits}
use Rattle.protocol_wire.proofs.Steps.{fields-some, are_fields-some}

abbrev limit : ℕ → ℕ
limit zero = 1
limit (suc k) = 128 * limit k

by_lt : (n m : ℕ) (x y z : List ℕ) (rest : List ℕ) (f : List ℕ → Option (ℕ × List ℕ)) (w : Option (ℕ × List ℕ)) → (ltb n m ≡ true → f (x ++ rest) ≡ w) → (ltb n m ≡ false → f (y ++ rest) ≡ w) → f (cond (ltb n m) x y ++ rest) ≡ w
by_lt n m x y z rest f w p q = split (ltb n m) p q
  where
    split : (b : Bool) → (b ≡ true → f (x ++ rest) ≡ w) → (b ≡ false → f (y ++ rest) ≡ w) → f (cond b x y ++ rest) ≡ w
    split true p q = p refl
    split false p q = q refl

varint_within-spelled : (k n : ℕ) (rest : List ℕ) → n < 2 ^ 64 → n < 128 * limit k → varint_within (suc k) (varint_spelling_within (suc k) n ++ rest) ≡ Some (n, rest)
unfolding varint_within varint_spelling_within
varint_within-spelled zero n rest fits below =
    let lt : ltb n 128 ≡ true = lt-ltb n 128 (omega arith) in
    rw (lt, lt) refl
varint_within-spelled (suc k) n rest fits below =
    by_lt n 128 (n ∷ []) ((n % 128 + 128) ∷ varint_spelling_within (suc k) (n / 128)) [] rest (varint_within (suc (suc k))) (Some (n, rest))
    (λ lt. rw lt refl)
    (λ ge.
    let le : 128 ≤ n = ltb-false n 128 ge in
    let high : ltb (n % 128 + 128) 128 ≡ false = le-ltb _ _ (omega arith) in
    let again = varint_within-spelled k (n / 128) rest (omega arith) (omega arith) in
    let small : ltb (n / 128) (2 ^ 57) ≡ true = lt-ltb _ _ (omega arith) in
    let value : n % 128 + 128 - 128 + 128 * (n / 128) ≡ n = omega arith in
    rw (high, again, small, value) refl)

pub varint-spelled : (n : ℕ) (rest : List ℕ) → n < 2 ^ 64 → varint_at (varint_spelling n ++ rest) ≡ Some (n, rest)
unfolding varint_at varint_spelling
varint-spelled n rest fits = varint_within-spelled 9 n rest fits (omega arith)

pub bytes_at-append : (a b : List ℕ) → bytes_at (length a) (a ++ b) ≡ Some (a, b)
bytes_at-append a b =
    let long : leb (length a) (length (a ++ b)) ≡ true = le-leb _ _ (omega (arith, length-append a b)) in
    rw (long, take_at a b (length a) refl, drop_at a b (length a) refl) refl

-- a tag is read again
tag_read : (number kind : ℕ) (rest : List ℕ) (v : Wire) (after : List ℕ) → 0 < number → number < 2 ^ 29 → kind < 8 → wire_value kind rest ≡ Some (v, after) → field_at (varint_spelling (8 * number + kind) ++ rest) ≡ Some (record { number = number; value = v }, after)
unfolding field_at
tag_read number kind rest v after named below small e =
    let t = varint-spelled (8 * number + kind) rest (omega arith) in
    let not_zero : ltb (8 * number + kind) 8 ≡ false = le-ltb _ _ (omega arith) in
    let fits : ltb (8 * number + kind) (2 ^ 32) ≡ true = lt-ltb _ _ (omega arith) in
    let k : (8 * number + kind) % 8 ≡ kind = omega arith in
    let n : (8 * number + kind) / 8 ≡ number = omega arith in
    rw (t, not_zero, fits, k, e, n) refl

number_read : (n : ℕ) (rest : List ℕ) → n < 2 ^ 64 → wire_value 0 (varint_spelling n ++ rest) ≡ Some (varint n, rest)
unfolding wire_value
number_read n rest fits = rw (varint-spelled n rest fits) refl

bytes_read : (b rest : List ℕ) → length b < 2 ^ 64 → wire_value 2 (varint_spelling (length b) ++ (b ++ rest)) ≡ Some (bytes b, rest)
unfolding wire_value
bytes_read b rest fits = rw (varint-spelled (length b) (b ++ rest) fits, bytes_at-append b rest) refl

tagged-spelled : (number : ℕ) (v : Wire) (rest : List ℕ) → 0 < number → number < 2 ^ 29 → ValueFits v → field_at (tagged number v ++ rest) ≡ Some (record { number = number; value = v }, rest)
unfolding tagged
tagged-spelled number (varint n) rest named below h =
    let regroup : (varint_spelling (8 * number) ++ varint_spelling n) ++ rest ≡ varint_spelling (8 * number) ++ (varint_spelling n ++ rest) = append_assoc (varint_spelling (8 * number)) (varint_spelling n) rest in
    let zero_kind : 8 * number + 0 ≡ 8 * number = omega arith in
    let r = tag_read number 0 (varint_spelling n ++ rest) (varint n) rest named below (omega arith) (number_read n rest h) in
    rw regroup (subst (λ (t : ℕ). field_at (varint_spelling t ++ (varint_spelling n ++ rest)) ≡ Some (record { number = number; value = varint n }, rest)) zero_kind r)
tagged-spelled number (bytes b) rest named below h =
    let regroup : (varint_spelling (8 * number + 2) ++ (varint_spelling (length b) ++ b)) ++ rest ≡ varint_spelling (8 * number + 2) ++ (varint_spelling (length b) ++ (b ++ rest)) = append_assoc (varint_spelling (8 * number + 2)) (varint_spelling (length b) ++ b) rest ∙ ap (λ (x : List ℕ). varint_spelling (8 * number + 2) ++ x) (append_assoc (varint_spelling (length b)) b rest) in
    rw regroup (tag_read number 2 (varint_spelling (length b) ++ (b ++ rest)) (bytes b) rest named below (omega arith) (bytes_read b rest h))
tagged-spelled number fixed rest named below h = absurd h

pub field-spelled : (f : Field) (rest : List ℕ) → FieldFits f → field_at (field_spelling f ++ rest) ≡ Some (f, rest)
field-spelled f rest fits = tagged-spelled f.number f.value rest fits.named fits.number fits.value

pub fields-spelling : (fs : List Field) (rest : List ℕ) → AllByRecursion FieldFits fs → fields (spelling fs ++ rest) ≡ fs ++ fields rest
unfolding spelling
fields-spelling [] rest fits = refl
fields-spelling (f ∷ fs) rest fits =
    let regroup : (field_spelling f ++ spelling fs) ++ rest ≡ field_spelling f ++ (spelling fs ++ rest) = append_assoc (field_spelling f) (spelling fs) rest in
    rw regroup (fields-some (field_spelling f ++ (spelling fs ++ rest)) f (spelling fs ++ rest) (field-spelled f (spelling fs ++ rest) fits.0) ∙ ap (λ (x : List Field). f ∷ x) (fields-spelling fs rest fits.1))

pub are_fields-spelling : (fs : List Field) (rest : List ℕ) → AllByRecursion FieldFits fs → are_fields (spelling fs ++ rest) ≡ are_fields rest
unfolding spelling
are_fields-spelling [] rest fits = refl
are_fields-spelling (f ∷ fs) rest fits =
    let regroup : (field_spelling f ++ spelling fs) ++ rest ≡ field_spelling f ++ (spelling fs ++ rest) = append_assoc (field_spelling f) (spelling fs) rest in
    rw regroup (are_fields-some (field_spelling f ++ (spelling fs ++ rest)) f (spelling fs ++ rest) (field-spelled f (spelling fs ++ rest) fits.0) ∙ are_fields-spelling fs rest fits.1)
