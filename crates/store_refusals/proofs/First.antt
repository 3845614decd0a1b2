-- The first test that holds.
use Rattle.std.proofs.Common.{◌≡◌, refl, true, false, [], ◌∷◌, None}
use Rattle.journal_model.specs.Cause.{Tests, those_that_hold}
use Rattle.store_refusals.specs.RefusalConditions.{refusal_of_first_cause, refusal_by}

-- the least cause is that of the first test that holds
pub first_holds : (tests : Tests) → refusal_of_first_cause (those_that_hold tests) ≡ refusal_by tests
first_holds [] = refl
first_holds ((true, cause) ∷ tests) = refl
first_holds ((false, cause) ∷ tests) = first_holds tests

-- none holds
pub none_holds : (tests : Tests) → refusal_by tests ≡ None → those_that_hold tests ≡ []
none_holds [] eq = refl
none_holds ((true, cause) ∷ tests) eq = cc
none_holds ((false, cause) ∷ tests) eq = none_holds tests eq
