-- What is left once closed invocations are forgotten.
use Rattle.std.proofs.Common.{true≢false, ◌≡◌, refl, sym, ap, subst, ◌∙◌, ℕ, Bool, true, false, not, ◌&&◌, List, [], ◌∷◌, Option, Some, None, is_some, bytes_eq}
use Rattle.std.specs.List.{AllByRecursion, list_any}
use Rattle.std.proofs.lemmas.Slice.Eq.{bytes_eq-Decides}
use Rattle.journal_model.specs.Notification.{Text}
use Rattle.journal_model.specs.declared.invocation.NewInvocation.{NewInvocation}
use Rattle.journal_model.specs.declared.cause.Cause.{Cause}
use Rattle.journal_model.specs.Event.{Event}
use Rattle.journal_model.specs.Journal.{closes, frames_of, invocation_begun, is_open, version_of}
use Rattle.journal_model.specs.Attempt.{live_attempt}
use Rattle.journal_model.specs.Cause.{IsAccepted, Tests, those_that_hold}
use Rattle.journal_model.specs.Forgetting.{without}
use Rattle.journal_laws.specs.Forgetting.{without_all}
use Rattle.journal_laws.proofs.Forgetting.{not_known, still_accepted}
use Rattle.journal_laws.proofs.Several.{several_forget}
use Rattle.journal_laws.proofs.Staying.{told}
use Rattle.due_laws.proofs.Opened.{live_open, unknown_dead}
use Rattle.store_refusals.specs.Forgetting.{forget_tests_of_all}
use Rattle.store_calls.specs.AbstractStore.{Standing}
use Rattle.store_calls.specs.Forgetting.{LeavesOthers}

-- ---- one

pub closed_dead : (events : List Event) (id : Text) → IsAccepted events → is_open events id ≡ false → live_attempt events id ≡ None
closed_dead events id accepted closed = by_live (live_attempt events id) refl
  where
    by_live : (o : Option ℕ) → live_attempt events id ≡ o → o ≡ None
    by_live None e = refl
    by_live (Some n) e = absurd (true≢false (sym (live_open events id n accepted e) ∙ closed))

module _ (events : List Event) (id : Text) where
  forgotten_closed : is_open (without id events) id ≡ false
  forgotten_closed =
      ap (λ (new : Option NewInvocation). is_some new && not (list_any (closes (version_of (without id events) id)) (frames_of (without id events) id))) (not_known id events)

  -- one that is closed stays so, or is not known any more
  pub closed_left : (other : Text) → is_open events other ≡ false → is_open (without id events) other ≡ false
  closed_left other closed = by_id (bytes_eq id other) refl
    where
      by_id : (b : Bool) → bytes_eq id other ≡ b → is_open (without id events) other ≡ false
      by_id true e = subst (λ (x : Text). is_open (without id events) x ≡ false) ((bytes_eq-Decides id other).0 e) forgotten_closed
      by_id false e = (told id other e events).openness ∙ closed

  -- where a closed one is forgotten, the attempts stay that are live
  pub live_left : IsAccepted events → is_open events id ≡ false → (other : Text) → live_attempt (without id events) other ≡ live_attempt events other
  live_left accepted closed other = by_id (bytes_eq id other) refl
    where
      by_id : (b : Bool) → bytes_eq id other ≡ b → live_attempt (without id events) other ≡ live_attempt events other
      by_id true e =
          subst (λ (x : Text). live_attempt (without id events) x ≡ live_attempt events x) ((bytes_eq-Decides id other).0 e)
          (unknown_dead (without id events) id (still_accepted id events accepted) (ap (λ (new : Option NewInvocation). is_some new) (not_known id events)) ∙ sym (closed_dead events id accepted closed))
      by_id false e = (told id other e events).live

-- ---- each of several

abbrev pub AreClosed : List Event → List Text → Type 0
AreClosed events ids = AllByRecursion (λ id. is_open events id ≡ false) ids

first_none : (opened unknown : Bool) (more : Tests) → those_that_hold ((opened, Cause.ObjectBusy) ∷ (unknown, Cause.UnknownInvocation) ∷ more) ≡ [] → (opened ≡ false) × (those_that_hold more ≡ [])
first_none true unknown more e = cc
first_none false true more e = cc
first_none false false more e = (refl, e)

pub are_closed : (events : List Event) (ids : List Text) → those_that_hold (forget_tests_of_all events ids) ≡ [] → AreClosed events ids
are_closed events [] none = tt
are_closed events (id ∷ ids) none =
    let (closed, others) = first_none (is_open events id) (not (is_some (invocation_begun events id))) (forget_tests_of_all events ids) none in
    (closed, are_closed events ids others)

pub all_left_closed : (events : List Event) (id : Text) (ids : List Text) → AreClosed events ids → AreClosed (without id events) ids
all_left_closed events id [] closed = tt
all_left_closed events id (other ∷ others) closed = (closed_left events id other closed.0, all_left_closed events id others closed.1)

pub all_live_left : (ids : List Text) (events : List Event) → IsAccepted events → AreClosed events ids → (other : Text) → live_attempt (without_all ids events) other ≡ live_attempt events other
all_live_left [] events accepted closed other = refl
all_live_left (id ∷ ids) events accepted closed other =
    all_live_left ids (without id events) (still_accepted id events accepted) (all_left_closed events id ids closed.1) other ∙ live_left events id accepted closed.0 other

-- they are forgotten, of whatever a store stood for
pub forgotten : (ids : List Text) (s : Standing) → those_that_hold (forget_tests_of_all s.events ids) ≡ [] → (t : Standing) × LeavesOthers ids s t
forgotten ids s none = (
  record {
    events = without_all ids s.events;
    accepted = (several_forget s.events ids).accepted s.accepted;
    outputs = s.outputs;
    live = λ id. s.live id ∙ ap (λ (live : Option ℕ). is_some live) (sym (all_live_left ids s.events s.accepted (are_closed s.events ids none) id));
  },
  record { closed = none; events = refl; outputs = λ id. refl },
)
