-- Of an invocation that has ended all of the run over its arrivals is recorded.
use Rattle.std.proofs.Common.{◌≡◌, refl, sym, subst, ◌∙◌, Bool, true, false, List, [], ◌∷◌, Some}
use Rattle.std.proofs.lemmas.Slice.Eq.{bytes_eq-Decides}
use Rattle.journal_model.specs.Notification.{Text, Arrival}
use Rattle.journal_model.specs.Request.{Request}
use Rattle.journal_model.specs.Event.{Event, Frame}
use Rattle.journal_model.specs.Journal.{is_of, begins, is_open, recorded_requests, recorded_arrivals, Closing, closing_of}
use Rattle.journal_model.specs.Cause.{IsAccepted}
use Rattle.journal_model.specs.Run.{Handler, Invocation, Ending, Ended}
use Rattle.journal_model.specs.Headline.{IsWholeRun, IsWholeAt, IsWholeAlong, arrivals_handed}
use Rattle.run_laws.proofs.Extending.{ended-more}
use Rattle.run_laws.proofs.Closing.{no_end, requests_stay, arrivals_stay, closing_stays, none_added, no_end_by, first_unclosed, open_before}
use Rattle.run_laws.proofs.Following.{handed_first}

abbrev pub has_ended : Ending → Type 0
has_ended ending = ending ≡ Ended

module _ (next : Handler) (given : Invocation) (id : Text) where
  abbrev EndedWhole : List Event → Type 0
  EndedWhole events = closing_of events id ≡ Some Closing.ByEnd → IsWholeRun next given (recorded_arrivals events id) (recorded_requests events id) has_ended

  -- nothing is added to what is closed by what is none of its own events
  other_same : (event : Event) (events : List Event) → begins id event ≡ false → is_of id event ≡ false → EndedWhole events → EndedWhole (event ∷ events)
  other_same event events old f before = λ closing.
      let closed : closing_of events id ≡ Some Closing.ByEnd = sym (closing_stays event events id old f) ∙ closing in
      let nothing = none_added event events id f closed in
      subst (λ (arrivals : List Arrival). IsWholeRun next given arrivals (recorded_requests (event ∷ events) id) has_ended) (sym (arrivals_stay event events id old nothing))
      (subst (λ (requests : List Request). IsWholeRun next given (recorded_arrivals events id) requests has_ended) (sym (requests_stay event events id old nothing)) (before closed))

  -- all of the run was recorded when the end was taken, over what was handed out, and so over all that is recorded
  whole_at_end : (events : List Event) → IsWholeRun next given (arrivals_handed events id) (recorded_requests events id) has_ended
      → IsWholeRun next given (recorded_arrivals events id) (recorded_requests events id) has_ended
  whole_at_end events whole =
      let (rest, e) = handed_first next given id events in
      subst (λ (arrivals : List Arrival). IsWholeRun next given arrivals (recorded_requests events id) has_ended) (sym e)
      (ended-more next given (arrivals_handed events id) rest (recorded_requests events id) whole)

  own_step : (event : Event) (events : List Event) → begins id event ≡ false → is_of id event ≡ true → is_open events id ≡ true → IsWholeAt next given id (event ∷ events) → EndedWhole (event ∷ events)
  own_step (Event.Move other attempt Frame.End) events old f opened whole = λ closing.
      whole_at_end (Event.Move other attempt Frame.End ∷ events) (whole ((bytes_eq-Decides other id).0 f))
  own_step (Event.Move other attempt frame) events old f opened whole = λ closing.
      absurd (no_end_by (Event.Move other attempt frame) events id old f opened refl closing)
  own_step event events old f opened whole = λ closing. absurd (no_end_by event events id old f opened refl closing)

  pub ended_whole : (events : List Event) → IsAccepted events → IsWholeAlong next given id events → EndedWhole events
  ended_whole [] accepted whole = λ closing. absurd (no_end closing)
  ended_whole (event ∷ events) accepted whole = by_begin (begins id event) refl (is_of id event) refl (ended_whole events accepted.1 whole.1)
    where
      by_begin : (a : Bool) → begins id event ≡ a → (b : Bool) → is_of id event ≡ b → EndedWhole events → EndedWhole (event ∷ events)
      by_begin true e b f before = λ closing. absurd (no_end (sym (first_unclosed event events id accepted e) ∙ closing))
      by_begin false e false f before = other_same event events e f before
      by_begin false e true f before = own_step event events e f (open_before event events id e f accepted.0) whole.0
