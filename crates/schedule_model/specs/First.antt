-- The first element of a list that passes a test.
use Rattle.std.specs.Prelude.{◌≡◌, ℕ, ◌<◌, Bool, true, false, if◌then◌else◌, List, [], ◌∷◌, length, slice_index_or}

-- the list with another element in its place
abbrev pub with_first : {A : Type 0} → (A → Bool) → List A → A → List A
with_first test [] y = []
with_first test (x ∷ xs) y = if test x then y ∷ xs else x ∷ with_first test xs y

-- this element stands at this place, and is the first that passes
pub record IsFirstAt {A : Type 0} (test : A → Bool) (xs : List A) (place : ℕ) (x : A) : Type 0 where
  pub within : place < length xs
  pub at : (d : A) → slice_index_or xs place d ≡ x
  pub passes : test x ≡ true
  pub none_before : (k : ℕ) (d : A) → k < place → test (slice_index_or xs k d) ≡ false
