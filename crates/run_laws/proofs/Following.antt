-- Where every frame that was taken is of the run, what is recorded follows the run.
use Rattle.std.proofs.Common.{◌≡◌, refl, sym, ap, ap₂, subst, ◌∙◌, ℕ, Bool, true, false, ◌||◌, if◌then◌else◌, List, [], ◌∷◌, ◌++◌, append-nil, drop, Option, Some, bytes_eq}
use Rattle.std.proofs.lemmas.List.{take-append-drop}
use Rattle.std.proofs.lemmas.Slice.Eq.{bytes_eq-Decides}
use Rattle.journal_model.specs.Notification.{Text, Arrival}
use Rattle.journal_model.specs.Request.{Request, answer_of}
use Rattle.journal_model.specs.declared.value.NonEmptyValue.{NonEmptyValue}
use Rattle.journal_model.specs.Event.{Event, Frame}
use Rattle.journal_model.specs.Journal.{Entry, is_of, begins, is_open, requests_in, arrivals_in, recorded_requests, recorded_arrivals, recorded_answer, answer_at_close, Closing, closing_of}
use Rattle.journal_model.specs.Attempt.{arrivals_within, input_pieces, bytes_handed}
use Rattle.journal_model.specs.Cause.{causes_of, IsAccepted}
use Rattle.journal_model.specs.Run.{Handler, Invocation, Ended, BeginsRun}
use Rattle.journal_model.specs.Headline.{IsWholeRun, IsRunAnswer, arrivals_handed}
use Rattle.run_laws.specs.TakenFrames.{TakesOfRun, AllOfRun}
use Rattle.run_laws.proofs.Extending.{begins-more, ended-more}
use Rattle.run_laws.proofs.Closing.{no_end, requests_stay, arrivals_stay, closing_stays, none_added, no_end_by, first_unclosed, open_before}
use Rattle.input_laws.proofs.Events.{added_by, requests_now, arrivals_now, no_request, one_request, nothing_added, entries_first}

module _ (next : Handler) (given : Invocation) (id : Text) where
  -- what was handed out is a beginning of what is recorded
  pub handed_first : (events : List Event) → (rest : List Arrival) × (recorded_arrivals events id ≡ arrivals_handed events id ++ rest)
  handed_first events =
      let k = arrivals_within (input_pieces events id) (bytes_handed events id) in
      (drop k (recorded_arrivals events id), sym (take-append-drop k (recorded_arrivals events id)))

  pub begins-handed : (events : List Event) (requests : List Request) → BeginsRun next given (arrivals_handed events id) requests → BeginsRun next given (recorded_arrivals events id) requests
  begins-handed events requests begins =
      let (rest, e) = handed_first events in
      subst (λ (arrivals : List Arrival). BeginsRun next given arrivals requests) (sym e) (begins-more next given (arrivals_handed events id) rest requests begins)

  -- what is recorded then, by what the event adds
  begins_now : (event : Event) (events : List Event) → begins id event ≡ false → (requests : List Request) → requests_in (added_by events id event) ≡ requests
      → BeginsRun next given (recorded_arrivals events id) (recorded_requests events id ++ requests)
      → BeginsRun next given (recorded_arrivals (event ∷ events) id) (recorded_requests (event ∷ events) id)
  begins_now event events e requests is begins =
      let later = arrivals_in (added_by events id event) in
      subst (λ (some : List Request). BeginsRun next given (recorded_arrivals (event ∷ events) id) some)
      (sym (requests_now event events id e ∙ ap (λ (more : List Request). recorded_requests events id ++ more) is))
      (subst (λ (arrivals : List Arrival). BeginsRun next given arrivals (recorded_requests events id ++ requests)) (sym (arrivals_now event events id e))
      (begins-more next given (recorded_arrivals events id) later (recorded_requests events id ++ requests) begins))

  quiet_now : (event : Event) (events : List Event) → begins id event ≡ false → requests_in (added_by events id event) ≡ []
      → BeginsRun next given (recorded_arrivals events id) (recorded_requests events id)
      → BeginsRun next given (recorded_arrivals (event ∷ events) id) (recorded_requests (event ∷ events) id)
  quiet_now event events e is begins =
      begins_now event events e [] is
      (subst (λ (some : List Request). BeginsRun next given (recorded_arrivals events id) some) (sym (append-nil (recorded_requests events id))) begins)

  begins_step : (event : Event) (events : List Event) → begins id event ≡ false → TakesOfRun next given id events event
      → BeginsRun next given (recorded_arrivals events id) (recorded_requests events id)
      → BeginsRun next given (recorded_arrivals (event ∷ events) id) (recorded_requests (event ∷ events) id)
  begins_step (Event.Move other attempt (Frame.Command request)) events e of_run begins = by_id (bytes_eq other id) refl
    where
      by_id : (b : Bool) → bytes_eq other id ≡ b
          → BeginsRun next given (recorded_arrivals (Event.Move other attempt (Frame.Command request) ∷ events) id) (recorded_requests (Event.Move other attempt (Frame.Command request) ∷ events) id)
      by_id true f =
          begins_now (Event.Move other attempt (Frame.Command request)) events e (request ∷ [])
          (one_request events id (Event.Move other attempt (Frame.Command request)) request f refl)
          (begins-handed events (recorded_requests events id ++ request ∷ []) (of_run ((bytes_eq-Decides other id).0 f)))
      by_id false f =
          quiet_now (Event.Move other attempt (Frame.Command request)) events e
          (ap requests_in (nothing_added events id (Event.Move other attempt (Frame.Command request)) f refl)) begins
  begins_step (Event.Move other attempt frame) events e of_run begins =
      quiet_now (Event.Move other attempt frame) events e (no_request events id (Event.Move other attempt frame) refl) begins
  begins_step event events e of_run begins = quiet_now event events e (no_request events id event refl) begins

  none-begins : (events : List Event) → recorded_requests events id ≡ [] → BeginsRun next given (recorded_arrivals events id) (recorded_requests events id)
  none-begins events e = record { calls = 0; beginning = ([], ap (λ (some : List Request). some ++ []) e) }

  -- the recorded requests are the first of the run over the recorded arrivals
  pub begins_next : (event : Event) (events : List Event) → IsAccepted (event ∷ events) → TakesOfRun next given id events event
      → BeginsRun next given (recorded_arrivals events id) (recorded_requests events id)
      → BeginsRun next given (recorded_arrivals (event ∷ events) id) (recorded_requests (event ∷ events) id)
  begins_next event events accepted of_run before = by_begin (begins id event) refl
    where
      by_begin : (b : Bool) → begins id event ≡ b → BeginsRun next given (recorded_arrivals (event ∷ events) id) (recorded_requests (event ∷ events) id)
      by_begin true e = none-begins (event ∷ events) (ap requests_in (entries_first event events id accepted e))
      by_begin false e = begins_step event events e of_run before

  pub all-begin : (events : List Event) → IsAccepted events → AllOfRun next given id events → BeginsRun next given (recorded_arrivals events id) (recorded_requests events id)
  all-begin [] accepted of_run = none-begins [] refl
  all-begin (event ∷ events) accepted of_run = by_begin (begins id event) refl (all-begin events accepted.1 of_run.1)
    where
      by_begin : (b : Bool) → begins id event ≡ b → BeginsRun next given (recorded_arrivals events id) (recorded_requests events id)
          → BeginsRun next given (recorded_arrivals (event ∷ events) id) (recorded_requests (event ∷ events) id)
      by_begin true e begins = none-begins (event ∷ events) (ap requests_in (entries_first event events id accepted e))
      by_begin false e begins = begins_step event events e of_run.0 begins

  -- ---- the end

  abbrev IsAnswered : List Event → Type 0
  IsAnswered events = closing_of events id ≡ Some Closing.ByEnd → IsRunAnswer next given (recorded_arrivals events id) (recorded_answer events id)

  answered_still : (event : Event) (events : List Event) → begins id event ≡ false → is_of id event ≡ false → IsAnswered events → IsAnswered (event ∷ events)
  answered_still event events e f before closing =
      let closing_same = closing_stays event events id e f in
      let nothing = none_added event events id f (sym closing_same ∙ closing) in
      subst (λ (arrivals : List Arrival). IsRunAnswer next given arrivals (recorded_answer (event ∷ events) id)) (sym (arrivals_stay event events id e nothing))
      (subst (λ (answer : Option NonEmptyValue). IsRunAnswer next given (recorded_arrivals events id) answer) (sym (ap₂ answer_at_close (requests_stay event events id e nothing) closing_same))
      (before (sym closing_same ∙ closing)))

  -- the run has ended over what was handed out, and so over all that is recorded
  ended_now : (other : Text) (attempt : ℕ) (events : List Event) → other ≡ id
      → IsWholeRun next given (arrivals_handed events id) (recorded_requests events id) (λ ending. ending ≡ Ended) → IsAnswered (Event.Move other attempt Frame.End ∷ events)
  ended_now other attempt events same whole closing =
      let event = Event.Move other attempt Frame.End in
      let (rest, e) = handed_first events in
      let over_all : IsWholeRun next given (recorded_arrivals events id) (recorded_requests events id) (λ ending. ending ≡ Ended) =
      subst (λ (arrivals : List Arrival). IsWholeRun next given arrivals (recorded_requests events id) (λ ending. ending ≡ Ended)) (sym e)
      (ended-more next given (arrivals_handed events id) rest (recorded_requests events id) whole) in
      let nothing : added_by events id event ≡ [] = both (bytes_eq other id || false) in
      subst (λ (arrivals : List Arrival). IsRunAnswer next given arrivals (recorded_answer (event ∷ events) id)) (sym (arrivals_stay event events id refl nothing))
      (record {
        calls = over_all.calls;
        over = over_all.over;
        same = ap (λ (o : Option Closing). answer_at_close (recorded_requests (event ∷ events) id) o) closing ∙ ap answer_of (requests_stay event events id refl nothing ∙ over_all.exactly);
      })
    where
      both : (b : Bool) → ◌≡◌ {A = List Entry} (if b then [] else []) []
      both true = refl
      both false = refl

  answered_step : (event : Event) (events : List Event) → causes_of events event ≡ [] → begins id event ≡ false → is_of id event ≡ true → is_open events id ≡ true
      → TakesOfRun next given id events event → IsAnswered (event ∷ events)
  answered_step (Event.Move other attempt Frame.End) events causes e f opened of_run = ended_now other attempt events ((bytes_eq-Decides other id).0 f) (of_run ((bytes_eq-Decides other id).0 f))
  answered_step (Event.Move other attempt frame) events causes e f opened of_run = λ closing. absurd (no_end_by (Event.Move other attempt frame) events id e f opened refl closing)
  answered_step event events causes e f opened of_run = λ closing. absurd (no_end_by event events id e f opened refl closing)

  IsAnswered-start : IsAnswered []
  IsAnswered-start closing = cc

  pub answered_next : (event : Event) (events : List Event) → IsAccepted (event ∷ events) → TakesOfRun next given id events event → IsAnswered events → IsAnswered (event ∷ events)
  answered_next event events accepted of_run before = by_begin (begins id event) refl (is_of id event) refl before
    where
      by_begin : (a : Bool) → begins id event ≡ a → (b : Bool) → is_of id event ≡ b → IsAnswered events → IsAnswered (event ∷ events)
      by_begin true e b f before = λ closing. absurd (no_end (sym (first_unclosed event events id accepted e) ∙ closing))
      by_begin false e false f before = answered_still event events e f before
      by_begin false e true f before = answered_step event events accepted.0 e f (open_before event events id e f accepted.0) of_run

  pub all-answered : (events : List Event) → IsAccepted events → AllOfRun next given id events → IsAnswered events
  all-answered [] accepted of_run = IsAnswered-start
  all-answered (event ∷ events) accepted of_run = answered_next event events accepted of_run.0 (all-answered events accepted.1 of_run.1)
