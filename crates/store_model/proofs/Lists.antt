-- Lemmas on lists.
use Rattle.std.proofs.Common.{◌≡◌, refl, ap, ap₂, inl, inr, Bool, false, List, [], ◌∷◌, map, filter}
use Rattle.std.specs.List.{AllByRecursion}
use Rattle.std.proofs.lemmas.Bool.{cases_Bool}

pub map_on : {A B : Type 0} (f g : A → B) (xs : List A) → AllByRecursion (λ x. f x ≡ g x) xs → map f xs ≡ map g xs
map_on f g [] h = refl
map_on {B = B} f g (x ∷ xs) h = ap₂ (λ (y : B) (ys : List B). y ∷ ys) h.0 (map_on f g xs h.1)

pub filter_swap : {A : Type 0} (p q : A → Bool) (xs : List A) → filter p (filter q xs) ≡ filter q (filter p xs)
filter_swap p q [] = refl
filter_swap p q (x ∷ xs) = elim (cases_Bool (p x)) [
  | inl a ↦ elim (cases_Bool (q x)) [ inl b ↦ rw (b, a, b) (ap (λ rest. x ∷ rest) (filter_swap p q xs)) | inr b ↦ rw (b, a, b) (filter_swap p q xs) ]
  | inr a ↦ elim (cases_Bool (q x)) [ inl b ↦ rw (b, a) (filter_swap p q xs) | inr b ↦ rw (b, a) (filter_swap p q xs) ]
]

-- what fails a test whatever it is passes none
pub filter_nothing : {A : Type 0} (p : A → Bool) (xs : List A) → AllByRecursion (λ x. p x ≡ false) xs → filter p xs ≡ []
filter_nothing p [] h = refl
filter_nothing p (x ∷ xs) h = rw h.0 (filter_nothing p xs h.1)
