-- The first test that holds, among tests in turn.
use Rattle.std.proofs.Common.{◌≡◌, refl, sym, ap, subst, ◌∙◌, inl, inr, Bool, true, false, List, [], ◌∷◌, ◌++◌, Some, Result, Ok, Err, IsErrAnd}
use Rattle.journal_model.specs.Cause.{Tests, those_that_hold}
use Rattle.journal_model.specs.declared.cause.Cause.{Cause}
use Rattle.store_refusals.specs.declared.refusal.Refusal.{Refusal}
use Rattle.store_refusals.specs.declared.refusal.Refusal.TheVariants.{OutOfMemory}
use Rattle.store_refusals.specs.declared.refusal.Refusal.TheVariants as refusal
use Rattle.store_refusals.specs.RefusalConditions.{refusal_of_first_cause, refusal_by, IsRefused}
use Rattle.store_refusals.proofs.First.{first_holds}
use Rattle.store_invocations.specs.Rows.{Decides}

pub holds-append : (a b : Tests) → those_that_hold (a ++ b) ≡ those_that_hold a ++ those_that_hold b
holds-append [] b = refl
holds-append ((true, cause) ∷ a) b = ap (λ (causes : List Cause). cause ∷ causes) (holds-append a b)
holds-append ((false, cause) ∷ a) b = holds-append a b

first_more : (xs ys : List Cause) (why : Refusal) → refusal_of_first_cause xs ≡ Some why → refusal_of_first_cause (xs ++ ys) ≡ Some why
first_more [] ys why e = cc
first_more (x ∷ xs) ys why e = e

-- a refusal by earlier tests is one by all
pub refused_more : (a b : Tests) (why : Refusal) → IsRefused (those_that_hold a) why → IsRefused (those_that_hold (a ++ b)) why
refused_more a b why (inl e) = inl (ap refusal_of_first_cause (holds-append a b) ∙ first_more (those_that_hold a) (those_that_hold b) why e)
refused_more a b why (inr e) = inr e

-- and one by later tests, where no earlier one holds
pub refused_later : (a b : Tests) (why : Refusal) → those_that_hold a ≡ [] → IsRefused (those_that_hold b) why → IsRefused (those_that_hold (a ++ b)) why
refused_later a b why none (inl e) = inl (ap refusal_of_first_cause (holds_later a b none) ∙ e)
  where
    holds_later : (a b : Tests) → those_that_hold a ≡ [] → those_that_hold (a ++ b) ≡ those_that_hold b
    holds_later a b none = holds-append a b ∙ ap (λ (causes : List Cause). causes ++ those_that_hold b) none
refused_later a b why none (inr e) = inr e

pub none_of_both : (a b : Tests) → those_that_hold a ≡ [] → those_that_hold b ≡ [] → those_that_hold (a ++ b) ≡ []
none_of_both a b first later = holds-append a b ∙ ap (λ (causes : List Cause). causes ++ those_that_hold b) first ∙ later

pub refused_by : (tests : Tests) (why : Refusal) → refusal_by tests ≡ Some why → IsRefused (those_that_hold tests) why
refused_by tests why e = inl (first_holds tests ∙ e)

-- a refusal that no test causes
pub refused_anyway : (tests : Tests) (why : Refusal) → IsRefused [] why → IsRefused (those_that_hold tests) why
refused_anyway tests why (inl e) = cc
refused_anyway tests why (inr e) = inr e

-- ---- of one test, and of two

pub first_of_one : (a : Bool) (x : Cause) → a ≡ true → IsRefused (those_that_hold ((a, x) ∷ [])) (refusal.Cause x)
first_of_one true x e = inl refl
first_of_one false x e = cc

pub none_of_one : (a : Bool) (x : Cause) → a ≡ false → those_that_hold ((a, x) ∷ []) ≡ []
none_of_one true x e = cc
none_of_one false x e = refl

pub first_of_two : (a b : Bool) (x y : Cause) → a ≡ true → IsRefused (those_that_hold ((a, x) ∷ (b, y) ∷ [])) (refusal.Cause x)
first_of_two true b x y e = inl refl
first_of_two false b x y e = cc

pub second_of_two : (a b : Bool) (x y : Cause) → a ≡ false → b ≡ true → IsRefused (those_that_hold ((a, x) ∷ (b, y) ∷ [])) (refusal.Cause y)
second_of_two true b x y e f = cc
second_of_two false true x y e f = inl refl
second_of_two false false x y e f = cc

pub none_of_two : (a b : Bool) (x y : Cause) → a ≡ false → b ≡ false → those_that_hold ((a, x) ∷ (b, y) ∷ []) ≡ []
none_of_two true b x y e f = cc
none_of_two false true x y e f = cc
none_of_two false false x y e f = refl

-- want of memory is answered whatever tests hold
pub refused_memory : {A : Type 0} (tests : Tests) (IsMade : A → Type 0) (r : Result A Refusal) → IsErrAnd r (λ why. why ≡ OutOfMemory) → Decides tests IsMade r
refused_memory tests IsMade (Ok x) e = absurd e
refused_memory tests IsMade (Err why) e = subst (IsRefused (those_that_hold tests)) (sym e) (inr refl)

pub decided_later : {A : Type 0} (a b : Tests) (IsMade : A → Type 0) (r : Result A Refusal) → those_that_hold a ≡ [] → Decides b IsMade r → Decides (a ++ b) IsMade r
decided_later a b IsMade (Ok made) none decided = (none_of_both a b none decided.0, decided.1)
decided_later a b IsMade (Err why) none refused = refused_later a b why none refused
