-- What holds of each item of a list, one after another.
use Rattle.std.proofs.Common.{◌≡◌, ◌<◌, ◌+◌, ℕ, List, [], ◌∷◌, ◌++◌, length, take, add-one, subst, slice_index_or}
use Rattle.std.specs.List.{AllByRecursion}
use Rattle.std.proofs.Math.Seq.{take-suc}

all_snoc : {A : Type 0} (P : A → Type 0) (xs : List A) (x : A) → AllByRecursion P xs → P x → AllByRecursion P (xs ++ x ∷ [])
all_snoc P [] x all it = (it, tt)
all_snoc P (y ∷ ys) x all it = (all.0, all_snoc P ys x all.1 it)

-- the next item of a loop over the list
pub all_next : {A : Type 0} (P : A → Type 0) (xs : List A) (place : ℕ) (x : A) → place < length xs → x ≡ slice_index_or xs place x → AllByRecursion P (take place xs) → P x → AllByRecursion P (take (place + 1) xs)
all_next P xs place x within is all it = rw (add-one, take-suc xs place x within) (all_snoc P (take place xs) (slice_index_or xs place x) all (subst P is it))
