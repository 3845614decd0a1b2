-- What is recorded of a settled invocation is the whole of the run over its arrivals, and so is its answer.
use Rattle.std.proofs.Common.{◌≡◌, refl, sym, ap, ap₂, subst, ◌∙◌, inl, inr, ℕ, true, false, List, Option, Some, None, is_some}
use Rattle.journal_model.specs.Notification.{Text, Arrival}
use Rattle.journal_model.specs.Request.{Request}
use Rattle.journal_model.specs.History.{requests_of}
use Rattle.journal_model.specs.Event.{Event, Suspension}
use Rattle.journal_model.specs.Journal.{recorded_requests, recorded_arrivals, answer_at_close, Closing, closing_of}
use Rattle.journal_model.specs.Attempt.{suspension_of}
use Rattle.journal_model.specs.Cause.{IsAccepted}
use Rattle.journal_model.specs.Run.{Handler, Invocation, Progress, Ending, Ended, is_going, run}
use Rattle.journal_model.specs.Headline.{IsWholeRun, arrivals_handed}
use Rattle.run_laws.proofs.WaitingRuns.{stopped_same}
use Rattle.run_laws.specs.HeldInvocations.{Holds}
use Rattle.run_laws.specs.SuspensionContent.{WaitsAll}
use Rattle.run_laws.specs.SettledInvocations.{IsSettled, SettledRecordTheSame}
use Rattle.run_laws.proofs.Closing.{open_not_ended}
use Rattle.run_laws.proofs.Ended.{has_ended, ended_whole}

-- how an invocation is closed whose run is over in this way
abbrev closing_told : Ending → Option Closing
closing_told Ended = Some Closing.ByEnd
closing_told _ = None

-- these requests are all of a run over these arrivals that goes no further, and how the invocation is closed tells how that is over
record IsAll (next : Handler) (given : Invocation) (arrivals : List Arrival) (requests : List Request) (closing : Option Closing) : Type 0 where
  calls : ℕ
  over : is_going (run next given arrivals calls).ending ≡ false
  exactly : requests ≡ requests_of (run next given arrivals calls).steps
  closed : closing ≡ closing_told (run next given arrivals calls).ending

module _ (next : Handler) (given : Invocation) (id : Text) where
  all_of_end : (events : List Event) → IsWholeRun next given (recorded_arrivals events id) (recorded_requests events id) has_ended → closing_of events id ≡ Some Closing.ByEnd
      → IsAll next given (recorded_arrivals events id) (recorded_requests events id) (closing_of events id)
  all_of_end events whole closing = record {
    calls = whole.calls;
    over = ap is_going whole.over;
    exactly = whole.exactly;
    closed = closing ∙ sym (ap closing_told whole.over);
  }

  all_of_waiting : (events : List Event) (suspension : Option Suspension) → WaitsAll next given (arrivals_handed events id) (recorded_requests events id) suspension → closing_of events id ≡ None
      → IsAll next given (arrivals_handed events id) (recorded_requests events id) (closing_of events id)
  all_of_waiting events suspension waits closing = record {
    calls = waits.calls;
    over = ap is_going waits.waits;
    exactly = waits.exactly;
    closed = closing ∙ sym (ap closing_told waits.waits);
  }

  suspended_on : (suspension : Option Suspension) → is_some suspension ≡ true → (one : Suspension) × (suspension ≡ Some one)
  suspended_on None e = cc
  suspended_on (Some one) e = (one, refl)

  settled_all : (events : List Event) → IsAccepted events → Holds next given id events → IsSettled events id
      → IsAll next given (recorded_arrivals events id) (recorded_requests events id) (closing_of events id)
  settled_all events accepted holds (inl closing) = all_of_end events (ended_whole next given id events accepted holds.whole closing) closing
  settled_all events accepted holds (inr waits) =
      let (one, e) = suspended_on (suspension_of events id) waits.suspended.suspended in
      subst (λ (arrivals : List Arrival). IsAll next given arrivals (recorded_requests events id) (closing_of events id)) waits.handed
      (all_of_waiting events (Some one) ((holds.waits one e).waits) (open_not_ended events id waits.suspended.open_still))

  -- two of the same run over the same arrivals are the same
  all_same : (arrivals : List Arrival) (requests others : List Request) (closing closed : Option Closing) → IsAll next given arrivals requests closing → IsAll next given arrivals others closed
      → (requests ≡ others) × (closing ≡ closed)
  all_same arrivals requests others closing closed a b =
      let same : run next given arrivals a.calls ≡ run next given arrivals b.calls = stopped_same next given arrivals a.calls b.calls a.over b.over in
      (a.exactly ∙ ap (λ (p : Progress). requests_of p.steps) same ∙ sym b.exactly, a.closed ∙ ap (λ (p : Progress). closing_told p.ending) same ∙ sym b.closed)

pub settled_same : SettledRecordTheSame
settled_same next given id events others accepted also holds too arrivals settled is =
    let (requests_same, closing_same) = all_same next given id (recorded_arrivals others id) (recorded_requests events id) (recorded_requests others id) (closing_of events id) (closing_of others id)
    (subst (λ (some : List Arrival). IsAll next given some (recorded_requests events id) (closing_of events id)) arrivals (settled_all next given id events accepted holds settled))
    (settled_all next given id others also too is) in
    (requests_same, ap₂ answer_at_close requests_same closing_same)
