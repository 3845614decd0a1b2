-- What an event that begins no attempt makes of the last one.
use Rattle.std.proofs.Common.{ℕ, ◌≡◌, refl, sym, ap, ◌∙◌, false, ◌&&◌, ◌||◌, Bool, List, ◌∷◌, Option, Some, None, option_map, unwrap_or}
use Rattle.journal_model.specs.Notification.{Text}
use Rattle.journal_model.specs.declared.invocation.NewInvocation.{NewInvocation}
use Rattle.journal_model.specs.Event.{Event}
use Rattle.journal_model.specs.Journal.{is_of, invocation_begun, version_of}
use Rattle.journal_model.specs.Attempt.{begins_attempt, ends_live, live_attempt, closes_input, is_input_closed}
use Rattle.store_live.specs.declared.attempt.LiveAttempt.{LiveAttempt}
use Rattle.store_live.specs.Input.{InputKept}
use Rattle.store_live_laws.specs.Memory.{IsInputOf}
use Rattle.store_live_laws.specs.LiveAttempts.{IsKeptLive}

pub version_same : (events : List Event) (event : Event) (id : Text) → invocation_begun (event ∷ events) id ≡ invocation_begun events id
    → version_of (event ∷ events) id ≡ version_of events id
version_same events event id same = ap (λ (o : Option NewInvocation). unwrap_or (option_map (λ (new : NewInvocation). new.version) o) 0) same

module _ (events : List Event) (event : Event) (id : Text) (going : begins_attempt id event ≡ false) where
  pub live_now : (is_of id event && ends_live event) ≡ false → live_attempt (event ∷ events) id ≡ live_attempt events id
  live_now ends = rw (going, ends) refl

  pub closed_now : is_input_closed (event ∷ events) id ≡ ((is_of id event && closes_input event) || is_input_closed events id)
  closed_now = rw going refl

  -- with another input, and closed where the event closes it
  pub goes_on : (attempt : LiveAttempt) (input : InputKept) (closed : Bool) → invocation_begun (event ∷ events) id ≡ invocation_begun events id → (is_of id event && ends_live event) ≡ false
      → closed ≡ ((is_of id event && closes_input event) || attempt.is_input_closed) → IsKeptLive events id attempt → IsInputOf (event ∷ events) id input
      → IsKeptLive (event ∷ events) id (record attempt { input = input; is_input_closed = closed })
  goes_on attempt input closed same ends closing kept is = record {
    number = live_now ends ∙ kept.number;
    version = kept.version ∙ sym (version_same events event id same);
    input = is;
    closed = closing ∙ ap (λ (b : Bool). (is_of id event && closes_input event) || b) kept.closed ∙ sym closed_now;
  }
