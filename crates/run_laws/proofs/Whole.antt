-- At each suspension and at the end all of the run is recorded, where every frame that was taken is of the run.
use Rattle.std.proofs.Common.{◌≡◌, refl, sym, ap, subst, ◌∙◌, ℕ, List, [], ◌∷◌, ◌++◌, append-nil}
use Rattle.journal_model.specs.Notification.{Text, Arrival}
use Rattle.journal_model.specs.Request.{Request}
use Rattle.journal_model.specs.Event.{Event, Frame}
use Rattle.journal_model.specs.Journal.{recorded_requests}
use Rattle.journal_model.specs.Cause.{IsAccepted}
use Rattle.journal_model.specs.Run.{Handler, Invocation, Ending, Ended}
use Rattle.journal_model.specs.Headline.{IsWaiting, IsWholeRun, IsWholeAt, IsWholeAlong, arrivals_handed}
use Rattle.run_laws.specs.TakenFrames.{TakesOfRun, AllOfRun}
use Rattle.input_laws.proofs.Events.{no_request, requests_now}
use Rattle.input_laws.proofs.Handed.{handed_same}

module _ (next : Handler) (given : Invocation) (id : Text) where
  whole_now : (events : List Event) → IsAccepted events → (attempt : ℕ) (other : Text) (frame : Frame) (IsOver : Ending → Type 0)
      → recorded_requests (Event.Move other attempt frame ∷ events) id ≡ recorded_requests events id
      → IsWholeRun next given (arrivals_handed events id) (recorded_requests events id) IsOver
      → IsWholeRun next given (arrivals_handed (Event.Move other attempt frame ∷ events) id) (recorded_requests (Event.Move other attempt frame ∷ events) id) IsOver
  whole_now events accepted attempt other frame IsOver same whole =
      subst (λ (arrivals : List Arrival). IsWholeRun next given arrivals (recorded_requests (Event.Move other attempt frame ∷ events) id) IsOver)
      (sym (handed_same events (Event.Move other attempt frame) id accepted refl refl refl))
      (subst (λ (requests : List Request). IsWholeRun next given (arrivals_handed events id) requests IsOver) (sym same) whole)

  pub whole_step : (event : Event) (events : List Event) → IsAccepted events → TakesOfRun next given id events event → IsWholeAt next given id (event ∷ events)
  whole_step (Event.Move other attempt (Frame.Suspend suspension)) events accepted of_run = λ same.
      let waiting = of_run same in
      whole_now events accepted attempt other (Frame.Suspend suspension) IsWaiting
      (requests_now (Event.Move other attempt (Frame.Suspend suspension)) events id refl
      ∙ ap (λ (some : List Request). recorded_requests events id ++ some) (no_request events id (Event.Move other attempt (Frame.Suspend suspension)) refl)
      ∙ append-nil (recorded_requests events id))
      (record { calls = waiting.calls; over = subst IsWaiting (sym waiting.waits) tt; exactly = waiting.exactly })
  whole_step (Event.Move other attempt Frame.End) events accepted of_run = λ same.
      whole_now events accepted attempt other Frame.End (λ ending. ending ≡ Ended)
      (requests_now (Event.Move other attempt Frame.End) events id refl
      ∙ ap (λ (some : List Request). recorded_requests events id ++ some) (no_request events id (Event.Move other attempt Frame.End) refl)
      ∙ append-nil (recorded_requests events id))
      (of_run same)
  whole_step (Event.Move other attempt frame) events accepted of_run = tt
  whole_step event events accepted of_run = tt

  pub all-whole : (events : List Event) → IsAccepted events → AllOfRun next given id events → IsWholeAlong next given id events
  all-whole [] accepted of_run = tt
  all-whole (event ∷ events) accepted of_run = (whole_step event events accepted.1 of_run.0, all-whole events accepted.1 of_run.1)
