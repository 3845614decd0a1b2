-- An event that is none of an invocation's keeps it in its run; so does what is done with an attempt of another one.
use Rattle.std.proofs.Common.{◌≡◌, Bool, false, true≢false, ◌&&◌, List, ◌∷◌, Option, refl, sym, ap, subst, ◌∙◌}
use Rattle.journal_model.specs.Notification.{Bytes, Text}
use Rattle.journal_model.specs.Event.{Event, Frame}
use Rattle.journal_model.specs.Journal.{is_of, begins}
use Rattle.journal_model.specs.Attempt.{closes_input}
use Rattle.journal_model.specs.Cause.{IsAccepted}
use Rattle.journal_model.specs.Run.{Handler}
use Rattle.input_laws.proofs.Handed.{other_begins, other_asks}
use Rattle.live_laws.specs.RequestsInFlight.{PassesOn}
use Rattle.vm_types.specs.declared.options.VMOptions.{VMOptions}
use Rattle.store_calls.specs.AbstractStore.{Standing, StaysStanding}
use Rattle.schedule_model.specs.declared.held.HeldAttempt.{HeldAttempt}
use Rattle.schedule_laws.specs.InvocationInRun.{FollowsIn, FollowsTold, ToldOf}
use Rattle.schedule_laws.proofs.Events.{IsPlain, where_on}
use Rattle.schedule_laws.proofs.Fits.{other_fits}
use Rattle.schedule_laws.proofs.Serving.{ServingLaws}
use Rattle.schedule_laws.proofs.Unfailed.{other_unfailed}

other_invokes : (id : Text) (event : Event) → is_of id event ≡ false → begins id event ≡ false
other_invokes id (Event.Invoke new) e = e
other_invokes id event e = refl

pub other_plain : (id : Text) (event : Event) → is_of id event ≡ false → IsPlain id event
other_plain id event e = record {
  old = other_invokes id event e;
  going = other_begins event id e;
  asks = other_asks event id e;
  closes = ap (λ (b : Bool). b && closes_input event) e;
}

other_passes : (id : Text) (event : Event) → is_of id event ≡ false → (frames : List Frame) → PassesOn id event frames frames
other_passes id (Event.Begin other now) e frames = (λ same. absurd (true≢false (sym same ∙ e)), λ far. refl)
other_passes id (Event.Move other attempt frame) e frames = (λ same. absurd (true≢false (sym same ∙ e)), λ far. refl)
other_passes id event e frames = refl

module _ {H : Type 0} (function : H → Handler) (next : Handler) (options : VMOptions) (id : Text) (told : ToldOf) where
  -- what the store stands for, as it is known
  pub into : (t : Standing) (events : List Event) (output : Option Bytes) (held : List (HeldAttempt H)) → t.events ≡ events → t.outputs id ≡ output
      → FollowsIn function next options id told events output held → FollowsTold function next options id told t held
  into t events output held e o f =
      subst (λ (some : Option Bytes). FollowsIn function next options id told t.events some held) (sym o)
      (subst (λ (some : List Event). FollowsIn function next options id told some output held) (sym e) f)

  -- nothing has changed
  pub stands_still : (s t : Standing) (held : List (HeldAttempt H)) → StaysStanding s t → FollowsTold function next options id told s held → FollowsTold function next options id told t held
  stands_still s t held stays f = into t s.events (s.outputs id) held stays.events (stays.outputs id) f

  module _ (laws : ServingLaws function next options) where
    -- an event of another invocation, or of none
    pub other_on : (event : Event) (s t : Standing) (held : List (HeldAttempt H)) → is_of id event ≡ false → t.events ≡ event ∷ s.events → t.outputs id ≡ s.outputs id
        → FollowsTold function next options id told s held → FollowsTold function next options id told t held
    other_on event s t held other e o f =
        let accepted : IsAccepted (event ∷ s.events) = subst IsAccepted e t.accepted in
        into t (event ∷ s.events) (s.outputs id) held e o
        (where_on function next options id event s.events (other_plain id event other) accepted.0 accepted.1 (other_fits id event other) (other_unfailed id event other) laws told (s.outputs id) (s.outputs id) held
        (other_passes id event other) (λ now is. is) f)
