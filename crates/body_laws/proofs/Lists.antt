-- Lists of bodies and of outcomes: what is among them, and how many ask for a completion.
use Rattle.std.proofs.Common.{◌≡◌, refl, sym, ap, ap₂, ◌∙◌, subst, ℕ, ◌+◌, ◌≤◌, ◌<◌, ◌==◌, arith, Bool, true, false, ◌&&◌, ◌||◌, if◌then◌else◌, List, [], ◌∷◌, ◌++◌, Some, None, ◌⊎◌, inl, inr, eqb-true, eq-eqb}
use Rattle.std.specs.List.{find, list_any}
use Rattle.journal_model.specs.declared.value.NonEmptyValue.{NonEmptyValue}
use Rattle.body_laws.specs.Bodies.{Body, is_body, without_body}
use Rattle.body_laws.specs.BodySimulation.{Among, count_bodies, count_proposed, Ascends}

-- an outcome
abbrev pub outcome : ℕ → NonEmptyValue → ℕ × NonEmptyValue
outcome n value = (n, value)

pub among-left : {A : Type 0} (x : A) (xs ys : List A) → Among x xs → Among x (xs ++ ys)
among-left x [] ys h = absurd h
among-left x (y ∷ xs) ys (inl e) = inl e
among-left x (y ∷ xs) ys (inr h) = inr (among-left x xs ys h)

pub among-right : {A : Type 0} (x : A) (xs ys : List A) → Among x ys → Among x (xs ++ ys)
among-right x [] ys h = h
among-right x (y ∷ xs) ys h = inr (among-right x xs ys h)

pub among-split : {A : Type 0} (x : A) (xs ys : List A) → Among x (xs ++ ys) → Among x xs ⊎ Among x ys
among-split x [] ys h = inr h
among-split x (y ∷ xs) ys (inl e) = inl (inl e)
among-split x (y ∷ xs) ys (inr h) = elim (among-split x xs ys h) [ inl a ↦ inl (inr a) | inr b ↦ inr b ]

both-true : (a b : Bool) → (a && b) ≡ true → (a ≡ true) × (b ≡ true)
both-true true true e = (refl, refl)
both-true true false e = cc
both-true false b e = cc

pub is_body-same : (a b : Body) → is_body a b ≡ true → a ≡ b
is_body-same a b e =
    let (h, n) = both-true (a.handle == b.handle) (a.completion == b.completion) e in
    ap₂ (λ (handle completion : ℕ). record { handle = handle; completion = completion }) (eqb-true a.handle b.handle h) (eqb-true a.completion b.completion n)

pub is_body-refl : (a : Body) → is_body a a ≡ true
is_body-refl a = ap₂ (λ (x y : Bool). x && y) (eq-eqb a.handle a.handle refl) (eq-eqb a.completion a.completion refl)

pub find-some : {A : Type 0} (p : A → Bool) (xs : List A) (x : A) → find p xs ≡ Some x → Among x xs × (p x ≡ true)
find-some p [] x e = cc
find-some {A} p (y ∷ xs) x e = by_test (p y) refl e (λ f. find-some p xs x f)
  where
    by_test : (b : Bool) → p y ≡ b → (if b then Some y else find p xs) ≡ Some x → (find p xs ≡ Some x → Among x xs × (p x ≡ true)) → Among x (y ∷ xs) × (p x ≡ true)
    by_test true f g later = let same : y ≡ x = cc in (inl (sym same), ap p (sym same) ∙ f)
    by_test false f g later = let (a, b) = later g in (inr a, b)

pub find-none : {A : Type 0} (p : A → Bool) (xs : List A) → find p xs ≡ None → (x : A) → Among x xs → p x ≡ false
find-none p [] e x h = absurd h
find-none {A} p (y ∷ xs) e x h = by_test (p y) refl e h (λ f a. find-none p xs f x a)
  where
    by_test : (b : Bool) → p y ≡ b → (if b then Some y else find p xs) ≡ None → (x ≡ y) ⊎ Among x xs → (find p xs ≡ None → Among x xs → p x ≡ false) → p x ≡ false
    by_test true f g a later = cc
    by_test false f g (inl same) later = ap p same ∙ f
    by_test false f g (inr a) later = later g a

pub any-false : {A : Type 0} (p : A → Bool) (xs : List A) → list_any p xs ≡ false → (x : A) → Among x xs → p x ≡ false
any-false p [] e x h = absurd h
any-false {A} p (y ∷ xs) e x h = by_test (p y) refl e h (λ f a. any-false p xs f x a)
  where
    by_test : (b : Bool) → p y ≡ b → (b || list_any p xs) ≡ false → (x ≡ y) ⊎ Among x xs → (list_any p xs ≡ false → Among x xs → p x ≡ false) → p x ≡ false
    by_test true f g a later = cc
    by_test false f g (inl same) later = ap p same ∙ f
    by_test false f g (inr a) later = later g a

-- bodies without one of them
pub among-kept : (body : Body) (xs : List Body) (x : Body) → Among x xs → (body ≡ x) ⊎ Among x (without_body body xs)
among-kept body [] x h = absurd h
among-kept body (y ∷ xs) x h = by_test (is_body body y) refl h (λ a. among-kept body xs x a)
  where
    by_test : (b : Bool) → is_body body y ≡ b → (x ≡ y) ⊎ Among x xs → (Among x xs → (body ≡ x) ⊎ Among x (without_body body xs))
        → (body ≡ x) ⊎ Among x (if b then xs else y ∷ without_body body xs)
    by_test true e (inl same) later = inl (is_body-same body y e ∙ sym same)
    by_test true e (inr a) later = inr a
    by_test false e (inl same) later = inr (inl same)
    by_test false e (inr a) later = elim (later a) [ inl f ↦ inl f | inr g ↦ inr (inr g) ]

pub among-without : (body : Body) (xs : List Body) (x : Body) → Among x (without_body body xs) → Among x xs
among-without body [] x h = absurd h
among-without body (y ∷ xs) x h = by_test (is_body body y) h (λ a. among-without body xs x a)
  where
    by_test : (b : Bool) → Among x (if b then xs else y ∷ without_body body xs) → (Among x (without_body body xs) → Among x xs) → Among x (y ∷ xs)
    by_test true a later = inr a
    by_test false (inl same) later = inl same
    by_test false (inr a) later = inr (later a)

abbrev pub one_if : Bool → ℕ
one_if b = if b then 1 else 0

pub count-without : (n : ℕ) (body : Body) (xs : List Body) → count_bodies n (without_body body xs) ≤ count_bodies n xs
count-without n body [] = omega arith
count-without n body (y ∷ xs) = by_test (is_body body y) (count-without n body xs)
  where
    by_test : (b : Bool) → count_bodies n (without_body body xs) ≤ count_bodies n xs
        → count_bodies n (if b then xs else y ∷ without_body body xs) ≤ (if y.completion == n then 1 else 0) + count_bodies n xs
    by_test true h = omega (arith, h)
    by_test false h = omega (arith, h)

pub count-removed : (n : ℕ) (body : Body) (xs : List Body) → Among body xs → count_bodies n (without_body body xs) + (if body.completion == n then 1 else 0) ≤ count_bodies n xs
count-removed n body [] h = absurd h
count-removed n body (y ∷ xs) h = by_test (is_body body y) refl h (λ a. count-removed n body xs a)
  where
    by_test : (b : Bool) → is_body body y ≡ b → (body ≡ y) ⊎ Among body xs → (Among body xs → count_bodies n (without_body body xs) + (if body.completion == n then 1 else 0) ≤ count_bodies n xs)
        → count_bodies n (if b then xs else y ∷ without_body body xs) + (if body.completion == n then 1 else 0) ≤ (if y.completion == n then 1 else 0) + count_bodies n xs
    by_test true e a later =
        let same : one_if (body.completion == n) ≡ one_if (y.completion == n) = ap (λ (one : Body). one_if (one.completion == n)) (is_body-same body y e) in
        omega (arith, same)
    by_test false e (inl same) later = let wrong : true ≡ false = sym (is_body-refl body) ∙ ap (is_body body) same ∙ e in cc
    by_test false e (inr a) later = let h : count_bodies n (without_body body xs) + (if body.completion == n then 1 else 0) ≤ count_bodies n xs = later a in omega (arith, h)

pub count-append : (n : ℕ) (xs ys : List Body) → count_bodies n (xs ++ ys) ≡ count_bodies n xs + count_bodies n ys
count-append n [] ys = omega arith
count-append n (x ∷ xs) ys = let e : count_bodies n (xs ++ ys) ≡ count_bodies n xs + count_bodies n ys = count-append n xs ys in omega (arith, e)

pub proposed-append : (n : ℕ) (xs ys : List (ℕ × NonEmptyValue)) → count_proposed n (xs ++ ys) ≡ count_proposed n xs + count_proposed n ys
proposed-append n [] ys = omega arith
proposed-append n (x ∷ xs) ys = let e : count_proposed n (xs ++ ys) ≡ count_proposed n xs + count_proposed n ys = proposed-append n xs ys in omega (arith, e)

pub one-same : (n m : ℕ) → n ≡ m → one_if (n == m) ≡ 1
one-same n m e = rw (eq-eqb n m e) refl

pub count-among : (body : Body) (xs : List Body) → Among body xs → 1 ≤ count_bodies body.completion xs
count-among body [] h = absurd h
count-among body (x ∷ xs) (inl same) = let e : one_if (x.completion == body.completion) ≡ 1 = one-same x.completion body.completion (ap (λ (one : Body). one.completion) (sym same)) in omega (arith, e)
count-among body (x ∷ xs) (inr a) = let h : 1 ≤ count_bodies body.completion xs = count-among body xs a in omega (arith, h)

pub proposed-among : (n : ℕ) (value : NonEmptyValue) (xs : List (ℕ × NonEmptyValue)) → Among (n, value) xs → 1 ≤ count_proposed n xs
proposed-among n value [] h = absurd h
proposed-among n value (x ∷ xs) (inl same) = let e : one_if (x.0 == n) ≡ 1 = one-same x.0 n (ap (λ (one : ℕ × NonEmptyValue). one.0) (sym same)) in omega (arith, e)
proposed-among n value (x ∷ xs) (inr a) = let h : 1 ≤ count_proposed n xs = proposed-among n value xs a in omega (arith, h)

pub one-at-most : (b : Bool) → (if b then 1 else 0) ≤ 1
one-at-most true = omega arith
one-at-most false = omega arith

-- handles that ascend
pub ascends-without : (body : Body) (xs : List Body) → Ascends xs → Ascends (without_body body xs)
ascends-without body [] up = tt
ascends-without body (x ∷ xs) up = by_test (is_body body x) (ascends-without body xs up.1)
  where
    by_test : (b : Bool) → Ascends (without_body body xs) → Ascends (if b then xs else x ∷ without_body body xs)
    by_test true later = up.1
    by_test false later = (λ other a. up.0 other (among-without body xs other a), later)

pub ascends-append : (xs ys : List Body) → Ascends xs → Ascends ys → ((x y : Body) → Among x xs → Among y ys → x.handle < y.handle) → Ascends (xs ++ ys)
ascends-append [] ys up more below = more
ascends-append (x ∷ xs) ys up more below = (
  λ other a. elim (among-split other xs ys a) [ inl b ↦ up.0 other b | inr b ↦ below x other (inl refl) b ],
  ascends-append xs ys up.1 more (λ some other a b. below some other (inr a) b),
)

-- the first that passes is the least of those that pass
pub least-found : (p : Body → Bool) (xs : List Body) (body : Body) → find p xs ≡ Some body → Ascends xs → (other : Body) → Among other (without_body body xs) → p other ≡ true → body.handle < other.handle
least-found p [] body e up other a h = cc
least-found p (x ∷ xs) body e up other a h = by_test (p x) refl e (is_body body x) refl a (λ f b. least-found p xs body f up.1 other b h)
  where
    by_test : (b : Bool) → p x ≡ b → (if b then Some x else find p xs) ≡ Some body → (t : Bool) → is_body body x ≡ t
        → Among other (if t then xs else x ∷ without_body body xs)
        → (find p xs ≡ Some body → Among other (without_body body xs) → body.handle < other.handle) → body.handle < other.handle
    by_test true f g true k b later = let same : x ≡ body = cc in subst (λ (one : Body). one.handle < other.handle) same (up.0 other b)
    by_test true f g false k b later =
        let same : x ≡ body = cc in
        let wrong : true ≡ false = sym (is_body-refl body) ∙ ap (is_body body) (sym same) ∙ k in
        cc
    by_test false f g true k b later =
        let wrong : true ≡ false = sym (find-some p xs body g).1 ∙ ap p (is_body-same body x k) ∙ f in
        cc
    by_test false f g false k (inl same) later = let wrong : true ≡ false = sym h ∙ ap p same ∙ f in cc
    by_test false f g false k (inr b) later = later g b
