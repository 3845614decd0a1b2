-- What holds of an option, and of an error that a `?` lets out.
use Rattle.std.proofs.Common.{arith, ◌≡◌, ℕ, ◌-◌, length, take, drop, List, [], ◌∷◌, Option, Some, None, IfNone, Result, Ok, Err, IfOk, IsErrAnd, inr, refl, sym, subst, ◌∙◌, option_map}
use Rattle.std.specs.List.{AllByRecursion, find}
use Rattle.std.proofs.lemmas.List.{length-drop, take_all}
use Rattle.std.specs.Prelude.{Bool, true, false, if◌then◌else◌}
use Rattle.store_refusals.specs.declared.refusal.Refusal.{Refusal}
use Rattle.store_refusals.specs.declared.refusal.Refusal.TheVariants.{OutOfMemory}
use Rattle.store_refusals.specs.RefusalConditions.{IsRefused}
use Rattle.store_refusals.specs.Preparations.{TellsOrRefuses}

pub if_none : {A : Type 0} {P : Type 0} (r : Option A) → P → IfNone r P
if_none None p = p
if_none (Some x) p = tt

-- memory was refused
pub memory_told : {A : Type 0} (IsAnswer : A → Type 0) (r : Result A Refusal) → IsErrAnd r (λ why. why ≡ OutOfMemory) → TellsOrRefuses IsAnswer r
memory_told IsAnswer (Ok x) gives = absurd gives
memory_told IsAnswer (Err why) gives = subst (IsRefused []) (sym gives) (inr refl)

-- another's refusal is passed on
pub passed_on : {A : Type 0} (IsAnswer : A → Type 0) (e : Refusal) (r : Result A Refusal) → IsErrAnd r (λ why. why ≡ e) → IsRefused [] e → TellsOrRefuses IsAnswer r
passed_on IsAnswer e (Ok x) gives refused = absurd gives
passed_on IsAnswer e (Err why) gives refused = subst (IsRefused []) (sym gives) refused

-- all that stands behind a place
pub rest_of : {A : Type 0} (at : ℕ) (xs : List A) → take (length xs - at) (drop at xs) ≡ drop at xs
rest_of at xs = take_all (length xs - at) (drop at xs) (omega (arith, length-drop at xs))

-- what holds of all holds of one that is found
pub all_of_found : {A : Type 0} (P : A → Type 0) (test : A → Bool) (xs : List A) (x : A) → AllByRecursion P xs → find test xs ≡ Some x → P x
all_of_found P test [] x all e = cc
all_of_found P test (y ∷ xs) x all e = by_test (test y) e (all_of_found P test xs x all.1)
  where
    by_test : (b : Bool) → (if b then Some y else find test xs) ≡ Some x → (find test xs ≡ Some x → P x) → P x
    by_test true f later = let same : y ≡ x = cc in subst P same all.0
    by_test false f later = later f

-- what is told of the value in an `Ok` is told of what equals it
pub ok_then : {A B : Type 0} {E : Type 0} (told : A → B) (x y : Option B) (r : Result (Option A) E) → IfOk r (λ o. option_map told o ≡ x) → x ≡ y → IfOk r (λ o. option_map told o ≡ y)
ok_then told x y (Ok o) is e = is ∙ e
ok_then told x y (Err why) is e = tt
