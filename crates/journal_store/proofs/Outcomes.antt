-- What the outcome of a run leaves of the attempt that proposed it: it is to be acknowledged, or nothing.
use Rattle.std.proofs.Common.{◌≡◌, ℕ, refl, sym, ap, ap₂, subst, ◌∙◌, Bool, true, false, ◌&&◌, if◌then◌else◌, List, ◌∷◌, Option, Some, None, bytes_eq}
use Rattle.journal_model.specs.Notification.{Text}
use Rattle.journal_model.specs.declared.value.NonEmptyValue.{NonEmptyValue}
use Rattle.journal_model.specs.Event.{Event, Frame}
use Rattle.journal_model.specs.Journal.{version_of}
use Rattle.journal_model.specs.Attempt.{acknowledged}
use Rattle.journal_model.specs.Cause.{IsAccepted}
use Rattle.protocol_types.specs.declared.feature.Feature.TheVariants.{Acknowledgement}
use Rattle.protocol_types.specs.Feature.{has_feature}
use Rattle.store_live.specs.declared.attempt.LiveAttempt.{LiveAttempt}
use Rattle.store_live_laws.specs.LiveAttempts.{Agrees}
use Rattle.store_live_laws.proofs.Steps.{recorded, is_acknowledged}
use Rattle.store_model.proofs.States.{itself}
use Rattle.journal_store.specs.FrameAcceptance.{after_noted}

pub outcome_left : (events : List Event) (id : Text) (number n : ℕ) (value : NonEmptyValue) (asks : Bool) (noted : Option ℕ) (attempt : LiveAttempt)
    → IsAccepted (Event.Move id number (Frame.RunOutcome n value asks) ∷ events) → noted ≡ acknowledged (version_of events id) id (Event.Move id number (Frame.RunOutcome n value asks))
    → Agrees events id (Some attempt) → Agrees (Event.Move id number (Frame.RunOutcome n value asks) ∷ events) id (Some (after_noted noted attempt))
outcome_left events id number n value false noted attempt accepted told agrees =
    subst (λ (o : Option ℕ). Agrees (Event.Move id number (Frame.RunOutcome n value false) ∷ events) id (Some (after_noted o attempt))) (sym told)
    (recorded events (Event.Move id number (Frame.RunOutcome n value false)) id (Some attempt) accepted refl refl agrees)
outcome_left events id number n value true noted attempt accepted told agrees = by_version (has_feature (version_of events id) Acknowledgement) refl
  where
    by_version : (has : Bool) → has_feature (version_of events id) Acknowledgement ≡ has → Agrees (Event.Move id number (Frame.RunOutcome n value true) ∷ events) id (Some (after_noted noted attempt))
    by_version true late =
        let is : noted ≡ Some n = told ∙ ap₂ (λ (a b : Bool). if a && b then Some n else None) late (itself id) in
        subst (λ (o : Option ℕ). Agrees (Event.Move id number (Frame.RunOutcome n value true) ∷ events) id (Some (after_noted o attempt))) (sym is)
        (is_acknowledged events id number n value (Some attempt) accepted late agrees)
    by_version false early =
        let plain : acknowledged (version_of events id) id (Event.Move id number (Frame.RunOutcome n value true)) ≡ None = ap (λ (a : Bool). if a && bytes_eq id id then Some n else None) early in
        subst (λ (o : Option ℕ). Agrees (Event.Move id number (Frame.RunOutcome n value true) ∷ events) id (Some (after_noted o attempt))) (sym (told ∙ plain))
        (recorded events (Event.Move id number (Frame.RunOutcome n value true)) id (Some attempt) accepted refl plain agrees)
