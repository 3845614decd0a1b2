-- An invocation that was not begun is in every run.
use Rattle.std.proofs.Common.{◌≡◌, refl, sym, ◌∙◌, Bool, true, false, true≢false, if◌then◌else◌, List, [], ◌∷◌, Some, None, bytes_eq}
use Rattle.std.proofs.lemmas.Slice.Eq.{bytes_eq-Decides}
use Rattle.journal_model.specs.Notification.{Text}
use Rattle.journal_model.specs.Event.{Event}
use Rattle.journal_model.specs.Journal.{invocation_begun}
use Rattle.journal_model.specs.Cause.{causes_of, IsAccepted}
use Rattle.journal_model.specs.Run.{Handler, Invocation}
use Rattle.journal_laws.proofs.ObjectState.{open_when_accepted, begun_before}
use Rattle.run_laws.specs.TakenFrames.{TakesOfRun, AllOfRun}
use Rattle.run_laws.specs.HeldInvocations.{Holds}
use Rattle.run_laws.proofs.Holding.{all_holds}
use Rattle.input_laws.proofs.Events.{unborn_open}

module _ (next : Handler) (given : Invocation) (id : Text) where
  unborn_takes : (event : Event) (earlier : List Event) → causes_of earlier event ≡ [] → invocation_begun earlier id ≡ None → TakesOfRun next given id earlier event
  unborn_takes (Event.Move other attempt frame) earlier causes unborn = λ same.
      absurd (true≢false (sym (open_when_accepted earlier (Event.Move other attempt frame) id refl ((bytes_eq-Decides other id).1 same) causes) ∙ unborn_open earlier id unborn))
  unborn_takes event earlier causes unborn = tt

  pub unborn_of_run : (events : List Event) → IsAccepted events → invocation_begun events id ≡ None → AllOfRun next given id events
  unborn_of_run [] accepted unborn = tt
  unborn_of_run (Event.Invoke new ∷ earlier) accepted unborn = (tt, by_id (bytes_eq new.id id) unborn (unborn_of_run earlier accepted.1))
    where
      by_id : (b : Bool) → (if b then Some new else invocation_begun earlier id) ≡ None → (invocation_begun earlier id ≡ None → AllOfRun next given id earlier) → AllOfRun next given id earlier
      by_id true e later = cc
      by_id false e later = later e
  unborn_of_run (event ∷ earlier) accepted unborn =
      let before : invocation_begun earlier id ≡ None = sym (begun_before event earlier id refl) ∙ unborn in
      (unborn_takes event earlier accepted.0 before, unborn_of_run earlier accepted.1 before)

  pub unborn_holds : (events : List Event) → IsAccepted events → invocation_begun events id ≡ None → Holds next given id events
  unborn_holds events accepted unborn = all_holds next given id events accepted (unborn_of_run events accepted unborn)
