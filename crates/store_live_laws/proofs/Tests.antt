-- Why an event of an attempt is refused.
use Rattle.std.proofs.Common.{ℕ, ◌≡◌, refl, sym, ap, ◌∙◌, Bool, true, false, ◌&&◌, not, if◌then◌else◌, List, [], ◌∷◌, ◌++◌, Some, None, is_some}
use Rattle.std.proofs.lemmas.Bool.{eq-eqb}
use Rattle.journal_model.specs.Notification.{Text}
use Rattle.journal_model.specs.Event.{Event}
use Rattle.journal_model.specs.Journal.{invocation_begun, is_open}
use Rattle.journal_model.specs.Attempt.{is_live, is_input_closed, input_left}
use Rattle.journal_model.specs.Cause.{is_empty, those_that_hold, frame_tests, adding_tests}
use Rattle.journal_model.specs.declared.cause.Cause.{Cause}
use Rattle.journal_model.specs.declared.cause.Cause.TheVariants.{UnknownInvocation, InvocationClosed, AttemptNotLive, InputRemains, InputAlreadyClosed}
use Rattle.due_laws.proofs.Opened.{live_open}
use Rattle.store_live_laws.specs.LiveAttempts.{LiveIsTold, LiveIsOpen, CausesAreTold, IsFirstCause, StaleIsTold}

pub live_told : LiveIsTold
live_told events id number None e = rw e refl
live_told events id number (Some attempt) kept = let is = kept.number in rw is refl

pub live_is_open : LiveIsOpen
live_is_open events id attempt accepted kept = live_open events id attempt.number accepted kept.number

-- ---- of a live attempt

passed : (known opened live : Bool) (others : List Cause) → known ≡ true → opened ≡ true → live ≡ true
    → ((if not known then UnknownInvocation ∷ [] else []) ++ ((if known && not opened then InvocationClosed ∷ [] else []) ++ ((if not live then AttemptNotLive ∷ [] else []) ++ others))) ≡ others
passed false opened live others a b c = cc
passed true false live others a b c = cc
passed true true false others a b c = cc
passed true true true others a b c = refl

known_when_open : (events : List Event) (id : Text) → is_open events id ≡ true → is_some (invocation_begun events id) ≡ true
known_when_open events id opened = and_first (is_some (invocation_begun events id)) _ opened
  where
    and_first : (a b : Bool) → (a && b) ≡ true → a ≡ true
    and_first true b e = refl
    and_first false b e = cc

pub causes_told : CausesAreTold
causes_told events id attempt accepted kept =
    let opened = live_is_open events id attempt accepted kept in
    let known = known_when_open events id opened in
    let live : is_live events id attempt.number ≡ true = live_told events id attempt.number (Some attempt) kept ∙ eq-eqb attempt.number attempt.number refl in
    let pass = λ (others : List Cause). passed (is_some (invocation_begun events id)) (is_open events id) (is_live events id attempt.number) others known opened live in
    record {
      of_hand_out = λ most.
          pass (those_that_hold ((is_input_closed events id, InputAlreadyClosed) ∷ []))
          ∙ ap (λ (b : Bool). those_that_hold ((b, InputAlreadyClosed) ∷ [])) (sym kept.closed);
      of_close =
          pass (those_that_hold ((not (is_empty (input_left events id)), InputRemains) ∷ (is_input_closed events id, InputAlreadyClosed) ∷ []))
          ∙ ap (λ (b : Bool). those_that_hold ((not (is_empty (input_left events id)), InputRemains) ∷ (b, InputAlreadyClosed) ∷ [])) (sym kept.closed);
      of_stop = pass [];
    }

-- ---- of one that is not live

first_stale : (known opened live : Bool) (others : List Cause) → live ≡ false
    → IsFirstCause (if known then (if opened then AttemptNotLive else InvocationClosed) else UnknownInvocation)
    ((if not known then UnknownInvocation ∷ [] else []) ++ ((if known && not opened then InvocationClosed ∷ [] else []) ++ ((if not live then AttemptNotLive ∷ [] else []) ++ others)))
first_stale false opened live others e = ((if not live then AttemptNotLive ∷ [] else []) ++ others, refl)
first_stale true false live others e = ((if not live then AttemptNotLive ∷ [] else []) ++ others, refl)
first_stale true true false others e = (others, refl)
first_stale true true true others e = cc

pub stale_told : StaleIsTold
stale_told events id number attempt agrees other =
    let stale : is_live events id number ≡ false = live_told events id number attempt agrees ∙ other in
    let first = λ (others : List Cause). first_stale (is_some (invocation_begun events id)) (is_open events id) (is_live events id number) others stale in
    record {
      of_hand_out = λ most. first (those_that_hold ((is_input_closed events id, InputAlreadyClosed) ∷ []));
      of_close = first (those_that_hold ((not (is_empty (input_left events id)), InputRemains) ∷ (is_input_closed events id, InputAlreadyClosed) ∷ []));
      of_take = λ frame. first (those_that_hold (frame_tests events id frame ++ adding_tests events id (Event.Move id number frame)));
      of_stop = first [];
    }
