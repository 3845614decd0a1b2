-- What is on its way stays of the run, whatever event is accepted.
use Rattle.std.proofs.Common.{◌≡◌, refl, sym, ap, subst, ◌∙◌, ℕ, Bool, true, false, true≢false, ◌&&◌, ◌||◌, List, [], ◌∷◌, ◌++◌, append_assoc, append-nil, None, bytes_eq, is_some}
use Rattle.std.proofs.lemmas.Slice.Eq.{bytes_eq-Decides}
use Rattle.journal_model.specs.Notification.{Text, Arrival}
use Rattle.journal_model.specs.Request.{Request}
use Rattle.journal_model.specs.Run.{Handler, Invocation}
use Rattle.journal_model.specs.Event.{Event, Frame}
use Rattle.journal_model.specs.Journal.{is_of, begins, requests_in, recorded_requests}
use Rattle.journal_model.specs.Attempt.{begins_attempt, ends_live, live_attempt, closes_input, is_input_closed, bytes_asked}
use Rattle.journal_model.specs.Cause.{causes_of, IsAccepted}
use Rattle.journal_model.specs.Headline.{arrivals_handed}
use Rattle.run_laws.specs.TakenFrames.{IsOfRun, TakesOfRun}
use Rattle.live_laws.specs.RequestsInFlight.{request_sent, requests_sent, SendsOneOfRun, SendsOfRun, FliesOfRun, PassesOn}
use Rattle.run_laws.proofs.Extending.{begins-more, ended-more}
use Rattle.input_laws.proofs.Events.{added_by, itself, requests_now, no_request, all_requests, nothing_added, not_begun}
use Rattle.input_laws.proofs.Handed.{other_begins, other_asks, handed_same, handed_more}
use Rattle.input_laws.proofs.LiveAttempts.{closed_now, handed_open, none_live, live_now, numbered, some_is, taken_live, unborn_live}

module _ (next : Handler) (given : Invocation) where
  -- ---- more arrivals, and a closed input

  one-more : (arrivals later : List Arrival) (requests : List Request) (frame : Frame)
      → SendsOneOfRun next given arrivals false requests frame → SendsOneOfRun next given (arrivals ++ later) false requests frame
  one-more arrivals later requests (Frame.Command request) sends = begins-more next given arrivals later (requests ++ request ∷ []) sends
  one-more arrivals later requests (Frame.Suspend suspension) sends = absurd (true≢false (sym sends.0))
  one-more arrivals later requests Frame.End sends = ended-more next given arrivals later requests sends
  one-more arrivals later requests frame sends = sends

  pub sends-more : (arrivals later : List Arrival) (requests : List Request) (frames : List Frame)
      → SendsOfRun next given arrivals false requests frames → SendsOfRun next given (arrivals ++ later) false requests frames
  sends-more arrivals later requests [] sends = tt
  sends-more arrivals later requests (frame ∷ frames) sends =
      (one-more arrivals later requests frame sends.0, sends-more arrivals later (requests ++ request_sent frame) frames sends.1)

  one-closes : (arrivals : List Arrival) (is_closed : Bool) (requests : List Request) (frame : Frame)
      → SendsOneOfRun next given arrivals is_closed requests frame → SendsOneOfRun next given arrivals true requests frame
  one-closes arrivals is_closed requests (Frame.Suspend suspension) sends = (refl, sends.1)
  one-closes arrivals is_closed requests frame sends = sends

  pub sends-closes : (arrivals : List Arrival) (is_closed : Bool) (requests : List Request) (frames : List Frame)
      → SendsOfRun next given arrivals is_closed requests frames → SendsOfRun next given arrivals true requests frames
  sends-closes arrivals is_closed requests [] sends = tt
  sends-closes arrivals is_closed requests (frame ∷ frames) sends =
      (one-closes arrivals is_closed requests frame sends.0, sends-closes arrivals is_closed (requests ++ request_sent frame) frames sends.1)

  -- ---- frames behind frames

  pub sends-append : (arrivals : List Arrival) (is_closed : Bool) (requests : List Request) (frames more : List Frame)
      → SendsOfRun next given arrivals is_closed requests frames → SendsOfRun next given arrivals is_closed (requests ++ requests_sent frames) more
      → SendsOfRun next given arrivals is_closed requests (frames ++ more)
  sends-append arrivals is_closed requests [] more sends later =
      subst (λ (some : List Request). SendsOfRun next given arrivals is_closed some more) (append-nil requests) later
  sends-append arrivals is_closed requests (frame ∷ frames) more sends later = (
    sends.0,
    sends-append arrivals is_closed (requests ++ request_sent frame) frames more sends.1
        (subst (λ (some : List Request). SendsOfRun next given arrivals is_closed some more) (sym (append_assoc requests (request_sent frame) (requests_sent frames))) later),
  )

  one-is : (arrivals : List Arrival) (is_closed : Bool) (requests : List Request) (frame : Frame)
      → SendsOneOfRun next given arrivals is_closed requests frame → IsOfRun next given arrivals requests frame
  one-is arrivals is_closed requests (Frame.Suspend suspension) sends = sends.1
  one-is arrivals is_closed requests frame sends = sends

  -- the same, of what is the same
  pub sends-same : (arrivals arrivals' : List Arrival) (is_closed is_closed' : Bool) (requests requests' : List Request) (frames : List Frame)
      → arrivals' ≡ arrivals → is_closed' ≡ is_closed → requests' ≡ requests
      → SendsOfRun next given arrivals is_closed requests frames → SendsOfRun next given arrivals' is_closed' requests' frames
  sends-same arrivals arrivals' is_closed is_closed' requests requests' frames a c r sends =
      subst (λ (x : List Arrival). SendsOfRun next given x is_closed' requests' frames) (sym a)
      (subst (λ (x : Bool). SendsOfRun next given arrivals x requests' frames) (sym c)
      (subst (λ (x : List Request). SendsOfRun next given arrivals is_closed x frames) (sym r) sends))

-- ---- one more event

module _ (next : Handler) (given : Invocation) (id : Text) where
  -- what is asked of the frames on their way
  abbrev Behind : List Event → List Frame → Type 0
  Behind events coming = SendsOfRun next given (arrivals_handed events id) (is_input_closed events id) (recorded_requests events id) coming

  -- an event that hands nothing out, closes nothing and records no request leaves them as they are
  kept : (event : Event) (events : List Event) (coming : List Frame) → IsAccepted events → begins id event ≡ false → begins_attempt id event ≡ false
      → bytes_asked id event ≡ None → (is_of id event && closes_input event) ≡ false → requests_in (added_by events id event) ≡ []
      → Behind events coming → Behind (event ∷ events) coming
  kept event events coming accepted old going asks closes adds sends =
      sends-same next given (arrivals_handed events id) (arrivals_handed (event ∷ events) id) (is_input_closed events id) (is_input_closed (event ∷ events) id)
      (recorded_requests events id) (recorded_requests (event ∷ events) id) coming
      (handed_same events event id accepted old going asks)
      (closed_now event events id going ∙ ap (λ (b : Bool). b || is_input_closed events id) closes)
      (requests_now event events id old ∙ ap (λ (more : List Request). recorded_requests events id ++ more) adds ∙ append-nil (recorded_requests events id))
      sends

  -- one that hands bytes out
  handed : (events : List Event) (attempt most : ℕ) (coming : List Frame) → IsAccepted events → causes_of events (Event.Feed id attempt most) ≡ []
      → Behind events coming → Behind (Event.Feed id attempt most ∷ events) coming
  handed events attempt most coming accepted causes sends =
      let event = Event.Feed id attempt most in
      let open_still : is_input_closed events id ≡ false = handed_open events id attempt most causes in
      let (rest, more) = handed_more events event id accepted refl refl in
      sends-same next given (arrivals_handed events id ++ rest) (arrivals_handed (event ∷ events) id) false (is_input_closed (event ∷ events) id)
      (recorded_requests events id) (recorded_requests (event ∷ events) id) coming
      more
      (closed_now event events id refl ∙ ap (λ (b : Bool). b || is_input_closed events id) (never (is_of id event)) ∙ open_still)
      (requests_now event events id refl ∙ ap (λ (some : List Request). recorded_requests events id ++ some) (no_request events id event refl) ∙ append-nil (recorded_requests events id))
      (sends-more next given (arrivals_handed events id) rest (recorded_requests events id) coming
      (subst (λ (b : Bool). SendsOfRun next given (arrivals_handed events id) b (recorded_requests events id) coming) open_still sends))
    where
      never : (b : Bool) → (b && false) ≡ false
      never true = refl
      never false = refl

  -- one that closes the input
  closed : (events : List Event) (attempt : ℕ) (coming : List Frame) → IsAccepted events
      → Behind events coming → Behind (Event.Close id attempt ∷ events) coming
  closed events attempt coming accepted sends =
      let event = Event.Close id attempt in
      sends-same next given (arrivals_handed events id) (arrivals_handed (event ∷ events) id) true (is_input_closed (event ∷ events) id)
      (recorded_requests events id) (recorded_requests (event ∷ events) id) coming
      (handed_same events event id accepted refl refl refl)
      (closed_now event events id refl ∙ ap (λ (b : Bool). (b && true) || is_input_closed events id) (itself id))
      (requests_now event events id refl ∙ ap (λ (some : List Request). recorded_requests events id ++ some) (no_request events id event refl) ∙ append-nil (recorded_requests events id))
      (sends-closes next given (arrivals_handed events id) (is_input_closed events id) (recorded_requests events id) coming sends)

  -- one that takes the first of them
  took : (events : List Event) (attempt : ℕ) (frame : Frame) (left : List Frame) → IsAccepted events
      → Behind events (frame ∷ left) → Behind (Event.Move id attempt frame ∷ events) left
  took events attempt frame left accepted sends =
      let event = Event.Move id attempt frame in
      sends-same next given (arrivals_handed events id) (arrivals_handed (event ∷ events) id) (is_input_closed events id) (is_input_closed (event ∷ events) id)
      (recorded_requests events id ++ request_sent frame) (recorded_requests (event ∷ events) id) left
      (handed_same events event id accepted refl refl refl)
      (closed_now event events id refl ∙ ap (λ (b : Bool). b || is_input_closed events id) (never (is_of id event)))
      (requests_now event events id refl ∙ ap (λ (some : List Request). recorded_requests events id ++ some) (own_requests (itself id)))
      sends.1
    where
      never : (b : Bool) → (b && false) ≡ false
      never true = refl
      never false = refl

      own_requests : bytes_eq id id ≡ true → requests_in (added_by events id (Event.Move id attempt frame)) ≡ request_sent frame
      own_requests e = all_requests events id (Event.Move id attempt frame) e

  -- nothing is said where no attempt is live
  pub none_flies : (events : List Event) (coming : List Frame) → live_attempt events id ≡ None → FliesOfRun next given id events coming
  none_flies events coming e attempt f = absurd (true≢false (sym (ap is_some (sym e ∙ f))))

  -- an event with which no attempt begins
  flies_on : (event : Event) (events : List Event) (coming left : List Frame) → begins_attempt id event ≡ false
      → ((is_of id event && ends_live event) ≡ false → Behind events coming → Behind (event ∷ events) left)
      → FliesOfRun next given id events coming → FliesOfRun next given id (event ∷ events) left
  flies_on event events coming left going on flies = by_end (is_of id event && ends_live event) refl
    where
      by_end : (b : Bool) → (is_of id event && ends_live event) ≡ b → FliesOfRun next given id (event ∷ events) left
      by_end true e = none_flies (event ∷ events) left (none_live event events id going e)
      by_end false e = λ attempt live. on e (flies attempt (sym (live_now event events id going e) ∙ live))

  same_left : (event : Event) (events : List Event) (coming left : List Frame) → left ≡ coming → FliesOfRun next given id (event ∷ events) coming → FliesOfRun next given id (event ∷ events) left
  same_left event events coming left e flies = subst (λ (some : List Frame). FliesOfRun next given id (event ∷ events) some) (sym e) flies

  other_closes : (event : Event) → is_of id event ≡ false → (is_of id event && closes_input event) ≡ false
  other_closes event e = ap (λ (b : Bool). b && closes_input event) e

  other_quiet : (events : List Event) (event : Event) → is_of id event ≡ false → requests_in (added_by events id event) ≡ []
  other_quiet events (Event.Tick now) e = no_request events id (Event.Tick now) refl
  other_quiet events event e = ap requests_in (nothing_added events id event e refl)

  never : (b : Bool) → (b && false) ≡ false
  never true = refl
  never false = refl

  -- an event of another invocation
  other_flies : (event : Event) (events : List Event) (coming : List Frame) → IsAccepted events → begins id event ≡ false → is_of id event ≡ false
      → FliesOfRun next given id events coming → FliesOfRun next given id (event ∷ events) coming
  other_flies event events coming accepted old e flies =
      flies_on event events coming coming (other_begins event id e)
      (λ on. kept event events coming accepted old (other_begins event id e) (other_asks event id e) (other_closes event e) (other_quiet events event e)) flies

  -- by whether it is an event of this invocation
  flies_by : (event : Event) (events : List Event) (coming left : List Frame) → IsAccepted events → begins id event ≡ false → (other : Text) → is_of id event ≡ bytes_eq other id
      → (bytes_eq other id ≡ false → left ≡ coming) → (bytes_eq other id ≡ true → FliesOfRun next given id (event ∷ events) left)
      → FliesOfRun next given id events coming → FliesOfRun next given id (event ∷ events) left
  flies_by event events coming left accepted old other of elsewhere here flies = by_id (bytes_eq other id) refl
    where
      by_id : (b : Bool) → bytes_eq other id ≡ b → FliesOfRun next given id (event ∷ events) left
      by_id true e = here e
      by_id false e = same_left event events coming left (elsewhere e) (other_flies event events coming accepted old (of ∙ e) flies)

  pub flies_step : (event : Event) (events : List Event) (coming left : List Frame) → IsAccepted (event ∷ events) → PassesOn id event coming left
      → FliesOfRun next given id events coming → FliesOfRun next given id (event ∷ events) left
  flies_step (Event.Invoke new) events coming left accepted passes flies = by_id (bytes_eq new.id id) refl
    where
      by_id : (b : Bool) → bytes_eq new.id id ≡ b → FliesOfRun next given id (Event.Invoke new ∷ events) left
      by_id true e =
          none_flies (Event.Invoke new ∷ events) left
          (live_now (Event.Invoke new) events id refl (never (bytes_eq new.id id))
          ∙ unborn_live events accepted.1 id (not_begun (Event.Invoke new) events id accepted e))
      by_id false e = same_left (Event.Invoke new) events coming left passes (other_flies (Event.Invoke new) events coming accepted.1 e e flies)
  flies_step (Event.Begin other now) events coming left accepted passes flies =
      flies_by (Event.Begin other now) events coming left accepted.1 refl other refl passes.1
      (λ e. same_left (Event.Begin other now) events [] left (passes.0 e) (λ attempt live. tt)) flies
  flies_step (Event.Move other attempt frame) events coming left accepted passes flies =
      flies_by (Event.Move other attempt frame) events coming left accepted.1 refl other refl passes.1
      (λ e. flies_on (Event.Move other attempt frame) events coming left refl
      (λ on sends.
      subst (λ (x : Text). Behind (Event.Move x attempt frame ∷ events) left) (sym ((bytes_eq-Decides other id).0 e))
      (took events attempt frame left accepted.1 (subst (λ (some : List Frame). Behind events some) (passes.0 e) sends))) flies) flies
  flies_step (Event.Feed other attempt most) events coming left accepted passes flies =
      flies_by (Event.Feed other attempt most) events coming left accepted.1 refl other refl (λ e. passes)
      (λ e. let same : other ≡ id = (bytes_eq-Decides other id).0 e in
      same_left (Event.Feed other attempt most) events coming left passes
      (flies_on (Event.Feed other attempt most) events coming coming refl
      (λ on sends.
      subst (λ (x : Text). Behind (Event.Feed x attempt most ∷ events) coming) (sym same)
      (handed events attempt most coming accepted.1 (subst (λ (x : Text). causes_of events (Event.Feed x attempt most) ≡ []) same accepted.0) sends)) flies)) flies
  flies_step (Event.Close other attempt) events coming left accepted passes flies =
      flies_by (Event.Close other attempt) events coming left accepted.1 refl other refl (λ e. passes)
      (λ e. same_left (Event.Close other attempt) events coming left passes
      (flies_on (Event.Close other attempt) events coming coming refl
      (λ on sends.
      subst (λ (x : Text). Behind (Event.Close x attempt ∷ events) coming) (sym ((bytes_eq-Decides other id).0 e)) (closed events attempt coming accepted.1 sends)) flies)) flies
  flies_step event events coming left accepted passes flies =
      same_left event events coming left passes
      (flies_on event events coming coming refl
      (λ on. kept event events coming accepted.1 refl refl refl (never (is_of id event)) (no_request events id event refl)) flies)

  pub takes_step : (event : Event) (events : List Event) (coming left : List Frame) → causes_of events event ≡ [] → PassesOn id event coming left
      → FliesOfRun next given id events coming → TakesOfRun next given id events event
  takes_step (Event.Move other attempt frame) events coming left causes passes flies = λ same.
      let e : bytes_eq other id ≡ true = (bytes_eq-Decides other id).1 same in
      let live : is_some (live_attempt events id) ≡ true =
      subst (λ (x : Text). is_some (live_attempt events x) ≡ true) same (numbered events other attempt (taken_live events other attempt frame causes)) in
      let (n, is) = some_is (live_attempt events id) live in
      let sends : Behind events (frame ∷ left) = subst (λ (some : List Frame). Behind events some) (passes.0 e) (flies n is) in
      one-is next given (arrivals_handed events id) (is_input_closed events id) (recorded_requests events id) frame sends.0
  takes_step event events coming left causes passes flies = tt
