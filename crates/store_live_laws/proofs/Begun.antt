-- A new invocation has no live attempt; of one that is begun nothing was read.
use Rattle.std.proofs.Common.{ℕ, ◌+◌, ◌≡◌, refl, sym, ap, subst, ◌∙◌, Bool, false, if◌then◌else◌, List, ◌∷◌, length, Some, None, bytes_eq}
use Rattle.journal_model.specs.Notification.{Text}
use Rattle.journal_model.specs.Event.{Event}
use Rattle.journal_model.specs.Attempt.{attempts_begun, live_attempt, is_input_closed}
use Rattle.journal_laws.proofs.ObjectState.{begin_when_new, begun_before}
use Rattle.input_laws.proofs.Events.{itself}
use Rattle.due_laws.proofs.Opened.{and_false, unknown_dead}
use Rattle.store_live.specs.Input.{InputKept}
use Rattle.store_live_laws.specs.Memory.{IsInputOf}
use Rattle.store_live_laws.proofs.Reading.{input_agrees}
use Rattle.store_live_laws.specs.LiveAttempts.{AgreesInvoked, AgreesBegun}
use Rattle.store_live_laws.proofs.Growing.{version_same}

pub invoked : AgreesInvoked
invoked events new accepted e =
    let none : live_attempt events new.id ≡ None = unknown_dead events new.id accepted (begin_when_new events new e) in
    (none, ap (λ (b : Bool). if b then None else live_attempt events new.id) (and_false (bytes_eq new.id new.id)) ∙ none)

module _ (events : List Event) (id : Text) (now : ℕ) where
  number_begun : live_attempt (Event.Begin id now ∷ events) id ≡ Some (1 + attempts_begun events id)
  number_begun = rw (itself id) refl

  open_begun : is_input_closed (Event.Begin id now ∷ events) id ≡ false
  open_begun = rw (itself id) refl

pub begun : AgreesBegun
begun events id now attempt is = record {
  number = number_begun events id now ∙ ap (λ (n : ℕ). Some n) (sym is.number);
  version = is.version ∙ sym (version_same events (Event.Begin id now) id (begun_before (Event.Begin id now) events id refl));
  input = subst (λ (input : InputKept). IsInputOf (Event.Begin id now ∷ events) id input) (sym is.input) (input_agrees.begun events id now);
  closed = is.closed ∙ sym (open_begun events id now);
}
