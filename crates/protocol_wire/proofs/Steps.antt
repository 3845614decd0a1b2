-- Reading one field after the other.
use Rattle.std.proofs.Common.{◌≡◌, ℕ, zero, suc, ◌+◌, ◌-◌, ◌*◌, ◌%◌, ◌^◌, ◌<◌, ◌≤◌, Bool, true, false, cond, ltb, leb, eqb, List, [], ◌∷◌, length, take, drop, Option, Some, None, refl, sym, ap, subst, arith}
use Rattle.std.proofs.lemmas.List.{length-drop}
use Rattle.std.proofs.lemmas.Bool.{eqb-true}
use Rattle.protocol_wire.specs.Wire.{Field, ◌>>=◌, varint_within, varint_at, bytes_at, wire_value, field_at}
use Rattle.protocol_wire.specs.Items.{first_and, items_within, items, left_behind, left_within, left, is_end}
use Rattle.protocol_wire.specs.Fields.{fields, are_fields, varints, are_varints}

pub bind_some : {A B : Type 0} (r : Option A) (f : A → Option B) (y : B) → (r >>= f) ≡ Some y → (x : A) × (r ≡ Some x) × (f x ≡ Some y)
bind_some (Some x) f y e = (x, refl, e)
bind_some None f y e = absurd cc

pub chosen : {A : Type 0} (b : Bool) (x y z : Option A) (w : A) → cond b x y ≡ Some w → (b ≡ true → x ≡ Some w → z ≡ Some w) → (b ≡ false → y ≡ Some w → z ≡ Some w) → z ≡ Some w
chosen true x y z w e f g = f refl e
chosen false x y z w e f g = g refl e

pub guard_some : {A : Type 0} (b : Bool) (x y : A) → cond b (Some x) None ≡ Some y → (b ≡ true) × (x ≡ y)
guard_some true x y e = (refl, cc)
guard_some false x y e = absurd cc

-- a test that leads to nothing was false
pub unless_some : {A : Type 0} (b : Bool) (r : Option A) (y : A) → cond b None r ≡ Some y → (b ≡ false) × (r ≡ Some y)
unless_some true r y e = absurd cc
unless_some false r y e = (refl, e)

pub when_some : {A : Type 0} (b : Bool) (r : Option A) (y : A) → cond b r None ≡ Some y → (b ≡ true) × (r ≡ Some y)
when_some true r y e = (refl, e)
when_some false r y e = absurd cc

abbrev some : {A : Type 0} → A → Option A
some x = Some x

some_is : {A : Type 0} (x y : A) → some x ≡ some y → x ≡ y
some_is x y e = cc

-- what is left is shorter
abbrev pub Shrinks : {A : Type 0} → List ℕ → Option (A × List ℕ) → Type 0
Shrinks bs None = Unit {0}
Shrinks bs (Some x) = length x.1 < length bs

abbrev pub NoLonger : {A : Type 0} → List ℕ → Option (A × List ℕ) → Type 0
NoLonger bs None = Unit {0}
NoLonger bs (Some x) = length x.1 ≤ length bs

pub varint_within_shrinks : (k : ℕ) (bs : List ℕ) → Shrinks bs (varint_within k bs)
unfolding varint_within
varint_within_shrinks zero bs = tt
varint_within_shrinks (suc k) [] = tt
varint_within_shrinks (suc k) (b ∷ bs) =
    elim (ltb b 128) as (λ t. Shrinks (b ∷ bs) (cond t (Some (b, bs)) (varint_within k bs >>= λ high. cond (ltb high.0 (2 ^ 57)) (Some (b - 128 + 128 * high.0, high.1)) None))) [
      | true ↦ omega arith
      | false ↦ after (varint_within k bs) (varint_within_shrinks k bs)
    ]
  where
    after : (r : Option (ℕ × List ℕ)) → Shrinks bs r → Shrinks (b ∷ bs) (r >>= λ high. cond (ltb high.0 (2 ^ 57)) (Some (b - 128 + 128 * high.0, high.1)) None)
    after None h = tt
    after (Some x) h = elim (ltb x.0 (2 ^ 57)) as (λ t. Shrinks {A = ℕ} (b ∷ bs) (cond t (Some (b - 128 + 128 * x.0, x.1)) None)) [ true ↦ omega arith | false ↦ tt ]

pub varint_at_shrinks : (bs : List ℕ) → Shrinks bs (varint_at bs)
unfolding varint_at
varint_at_shrinks bs = varint_within_shrinks 10 bs

pub bytes_at_no_longer : (n : ℕ) (bs : List ℕ) → NoLonger bs (bytes_at n bs)
bytes_at_no_longer n bs = elim (leb n (length bs)) as (λ t. NoLonger {A = List ℕ} bs (cond t (Some (take n bs, drop n bs)) None)) [ true ↦ omega (arith, length-drop n bs) | false ↦ tt ]

no_longer_then : {A B : Type 0} (bs : List ℕ) (r : Option (A × List ℕ)) (f : A × List ℕ → Option (B × List ℕ)) → NoLonger bs r → ((x : A × List ℕ) → NoLonger x.1 (f x)) → NoLonger bs (r >>= f)
no_longer_then bs None f h g = tt
no_longer_then bs (Some x) f h g = within (f x) (g x)
  where
    within : {B : Type 0} (s : Option (B × List ℕ)) → NoLonger x.1 s → NoLonger bs s
    within None k = tt
    within (Some y) k = omega arith

shrinks_then : {A B : Type 0} (bs : List ℕ) (r : Option (A × List ℕ)) (f : A × List ℕ → Option (B × List ℕ)) → Shrinks bs r → ((x : A × List ℕ) → NoLonger x.1 (f x)) → Shrinks bs (r >>= f)
shrinks_then bs None f h g = tt
shrinks_then bs (Some x) f h g = within (f x) (g x)
  where
    within : {B : Type 0} (s : Option (B × List ℕ)) → NoLonger x.1 s → Shrinks bs s
    within None k = tt
    within (Some y) k = omega arith

no_longer_if : {A : Type 0} (bs : List ℕ) (b : Bool) (r s : Option (A × List ℕ)) → NoLonger bs r → NoLonger bs s → NoLonger bs (cond b r s)
no_longer_if bs true r s p q = p
no_longer_if bs false r s p q = q

weaker : {A : Type 0} (bs : List ℕ) (r : Option (A × List ℕ)) → Shrinks bs r → NoLonger bs r
weaker bs None h = tt
weaker bs (Some x) h = omega arith

pub value_at_no_longer : (kind : ℕ) (bs : List ℕ) → NoLonger bs (wire_value kind bs)
unfolding wire_value
value_at_no_longer kind bs =
    no_longer_if bs (eqb kind 0) _ _ (no_longer_then bs (varint_at bs) _ (weaker bs (varint_at bs) (varint_at_shrinks bs)) (λ x. omega arith))
    (no_longer_if bs (eqb kind 2) _ _ (no_longer_then bs (varint_at bs) _ (weaker bs (varint_at bs) (varint_at_shrinks bs)) (λ n. no_longer_then n.1 (bytes_at n.0 n.1) _ (bytes_at_no_longer n.0 n.1) (λ x. omega arith)))
    (no_longer_if bs (eqb kind 1) _ _ (no_longer_then bs (bytes_at 8 bs) _ (bytes_at_no_longer 8 bs) (λ x. omega arith))
    (no_longer_if bs (eqb kind 5) _ _ (no_longer_then bs (bytes_at 4 bs) _ (bytes_at_no_longer 4 bs) (λ x. omega arith)) tt)))

pub field_at_shrinks : (bs : List ℕ) → Shrinks bs (field_at bs)
unfolding field_at
field_at_shrinks bs = shrinks_then bs (varint_at bs) _ (varint_at_shrinks bs) (λ t. no_longer_if t.1 (ltb t.0 8) None _ tt (no_longer_if t.1 (ltb t.0 (2 ^ 32)) _ None (no_longer_then t.1 (wire_value (t.0 % 8) t.1) _ (value_at_no_longer (t.0 % 8) t.1) (λ v. omega arith)) tt))

-- ---- how many steps are allowed makes no difference, once they are enough

module _ {A : Type 0} (read : List ℕ → Option (A × List ℕ)) (shrinks : (bs : List ℕ) → Shrinks bs (read bs)) where
  read_nil : (r : Option (A × List ℕ)) → Shrinks [] r → r ≡ None
  read_nil None h = refl
  read_nil (Some x) h = absurd (omega arith)

  pub nil_ended : read [] ≡ None
  nil_ended = read_nil (read []) (shrinks [])

  enough : (j k : ℕ) (bs : List ℕ) → length bs ≤ j → length bs ≤ k → items_within read j bs ≡ items_within read k bs
  unfolding items_within
  enough zero zero bs p q = refl
  enough zero (suc k) [] p q = rw nil_ended refl
  enough zero (suc k) (b ∷ bs) p q = absurd (omega arith)
  enough (suc j) zero [] p q = rw nil_ended refl
  enough (suc j) zero (b ∷ bs) p q = absurd (omega arith)
  enough (suc j) (suc k) bs p q = after (read bs) (shrinks bs) (λ rest p' q'. enough j k rest p' q')
    where
      after : (r : Option (A × List ℕ)) → Shrinks bs r → ((rest : List ℕ) → length rest ≤ j → length rest ≤ k → items_within read j rest ≡ items_within read k rest) → first_and r (items_within read j) ≡ first_and r (items_within read k)
      after None h same = refl
      after (Some x) h same = ap (λ (fs : List A). x.0 ∷ fs) (same x.1 (omega arith) (omega arith))

  enough_left : (j k : ℕ) (bs : List ℕ) → length bs ≤ j → length bs ≤ k → left_within read j bs ≡ left_within read k bs
  unfolding left_within
  enough_left zero zero bs p q = refl
  enough_left zero (suc k) [] p q = rw nil_ended refl
  enough_left zero (suc k) (b ∷ bs) p q = absurd (omega arith)
  enough_left (suc j) zero [] p q = rw nil_ended refl
  enough_left (suc j) zero (b ∷ bs) p q = absurd (omega arith)
  enough_left (suc j) (suc k) bs p q = after (read bs) (shrinks bs) (λ rest p' q'. enough_left j k rest p' q')
    where
      after : (r : Option (A × List ℕ)) → Shrinks bs r → ((rest : List ℕ) → length rest ≤ j → length rest ≤ k → left_within read j rest ≡ left_within read k rest) → left_behind bs r (left_within read j) ≡ left_behind bs r (left_within read k)
      after None h same = refl
      after (Some x) h same = same x.1 (omega arith) (omega arith)

  -- ---- one step

  pub items_ended : (bs : List ℕ) → read bs ≡ None → items read bs ≡ []
  unfolding items items_within
  items_ended [] e = refl
  items_ended (b ∷ bs) e = rw e refl

  pub items_read : (bs : List ℕ) (f : A) (rest : List ℕ) → read bs ≡ Some (f, rest) → items read bs ≡ f ∷ items read rest
  unfolding items items_within
  items_read [] f rest e = absurd (let n = nil_ended in cc)
  items_read (b ∷ bs) f rest e =
      let shorter : Shrinks (b ∷ bs) (some (f, rest)) = subst (λ (r : Option (A × List ℕ)). Shrinks (b ∷ bs) r) e (shrinks (b ∷ bs)) in
      rw e (ap (λ (fs : List A). f ∷ fs) (enough (length bs) (length rest) rest (omega arith) (omega arith)))

  pub left_ended : (bs : List ℕ) → read bs ≡ None → left read bs ≡ bs
  unfolding left left_within
  left_ended [] e = refl
  left_ended (b ∷ bs) e = rw e refl

  pub left_read : (bs : List ℕ) (f : A) (rest : List ℕ) → read bs ≡ Some (f, rest) → left read bs ≡ left read rest
  unfolding left left_within
  left_read [] f rest e = absurd (let n = nil_ended in cc)
  left_read (b ∷ bs) f rest e =
      let shorter : Shrinks (b ∷ bs) (some (f, rest)) = subst (λ (r : Option (A × List ℕ)). Shrinks (b ∷ bs) r) e (shrinks (b ∷ bs)) in
      rw e (enough_left (length bs) (length rest) rest (omega arith) (omega arith))

-- ---- at fields and at varints

pub fields-some : (bs : List ℕ) (f : Field) (rest : List ℕ) → field_at bs ≡ Some (f, rest) → fields bs ≡ f ∷ fields rest
fields-some = items_read field_at field_at_shrinks

pub fields-none : (bs : List ℕ) → field_at bs ≡ None → fields bs ≡ []
fields-none = items_ended field_at field_at_shrinks

pub are_fields-some : (bs : List ℕ) (f : Field) (rest : List ℕ) → field_at bs ≡ Some (f, rest) → are_fields bs ≡ are_fields rest
are_fields-some bs f rest e = ap is_end (left_read field_at field_at_shrinks bs f rest e)

pub are_fields-none : (bs : List ℕ) → field_at bs ≡ None → are_fields bs ≡ is_end bs
are_fields-none bs e = ap is_end (left_ended field_at field_at_shrinks bs e)

pub field_at_nil : field_at [] ≡ None
field_at_nil = nil_ended field_at field_at_shrinks

-- ---- the same, as the code learns it

pub fields_read : (bs : List ℕ) (f : Field) (rest : List ℕ) → Some (f, rest) ≡ field_at bs → fields bs ≡ f ∷ fields rest
fields_read bs f rest e = fields-some bs f rest (sym e)

pub fields_ended : (bs : List ℕ) → None ≡ field_at bs → fields bs ≡ []
fields_ended bs e = fields-none bs (sym e)

pub field_is_shorter : (bs : List ℕ) (f : Field) (rest : List ℕ) → Some (f, rest) ≡ field_at bs → length rest < length bs
field_is_shorter bs f rest e = subst (λ (r : Option (Field × List ℕ)). Shrinks bs r) (sym e) (field_at_shrinks bs)

pub varints_read : (bs : List ℕ) (n : ℕ) (rest : List ℕ) → Some (n, rest) ≡ varint_at bs → varints bs ≡ n ∷ varints rest
varints_read bs n rest e = items_read varint_at varint_at_shrinks bs n rest (sym e)

pub varints_ended : (bs : List ℕ) → None ≡ varint_at bs → varints bs ≡ []
varints_ended bs e = items_ended varint_at varint_at_shrinks bs (sym e)

pub are_varints_read : (bs : List ℕ) (n : ℕ) (rest : List ℕ) → Some (n, rest) ≡ varint_at bs → are_varints bs ≡ are_varints rest
are_varints_read bs n rest e = ap is_end (left_read varint_at varint_at_shrinks bs n rest (sym e))

pub are_varints_ended : (bs : List ℕ) → None ≡ varint_at bs → are_varints bs ≡ is_end bs
are_varints_ended bs e = ap is_end (left_ended varint_at varint_at_shrinks bs (sym e))

pub varint_is_shorter : (bs : List ℕ) (n : ℕ) (rest : List ℕ) → Some (n, rest) ≡ varint_at bs → length rest < length bs
varint_is_shorter bs n rest e = subst (λ (r : Option (ℕ × List ℕ)). Shrinks bs r) (sym e) (varint_at_shrinks bs)

neq-eqb : (m n : ℕ) → (m ≡ n → ⊥) → eqb m n ≡ false
neq-eqb m n h = go (eqb m n) refl
  where
    go : (b : Bool) → eqb m n ≡ b → b ≡ false
    go true e = absurd (h (eqb-true m n e))
    go false e = refl

pub is_end_is : (bs : List ℕ) → eqb (length bs) 0 ≡ is_end bs
is_end_is [] = refl
is_end_is (b ∷ bs) = neq-eqb (suc (length bs)) 0 (λ e. omega arith)

pub is_shorter : (fs gs : List Field) (f : Field) → fs ≡ f ∷ gs → length gs < length fs
is_shorter fs gs f e = let n = ap length e in omega (arith, n)
