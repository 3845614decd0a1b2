-- What is recorded of an invocation that was settled once is the whole of the run over its arrivals.
use Rattle.std.proofs.Common.{◌≡◌, ◌⊎◌, refl, sym, ap, ap₂, subst, ◌∙◌, inl, inr, ℕ, zero, suc, ◌≤◌, ◌<◌, arith, false, List, [], ◌∷◌, ◌++◌, append_assoc, append-nil, Option, Some, None, IfSome}
use Rattle.std.specs.List.{AllByRecursion}
use Rattle.std.proofs.lemmas.List.{append_cancel_left}
use Rattle.journal_model.specs.Notification.{Text, Arrival}
use Rattle.journal_model.specs.Request.{Request}
use Rattle.journal_model.specs.Event.{Event, Frame}
use Rattle.journal_model.specs.Journal.{answer_at_close, ByEnd, ByFailure, Closing, closing_of, entries_of, recorded_arrivals, recorded_requests, requests_in}
use Rattle.journal_model.specs.Cause.{IsAccepted}
use Rattle.journal_model.specs.Run.{Handler, Invocation, Progress, Ending, Ended, Waits, is_going, run, run_requests, IsBeginning}
use Rattle.journal_model.specs.History.{requests_of}
use Rattle.journal_model.specs.Headline.{IsWaiting, IsWholeAlong, IsWholeRun}
use Rattle.journal_model.proofs.Continuing.{run-stopped, run_requests-beginning}
use Rattle.journal_laws.proofs.ObjectState.{requests_in-append}
use Rattle.run_laws.proofs.Ended.{ended_whole}
use Rattle.run_laws.proofs.WaitingRuns.{stopped_same}
use Rattle.run_laws.specs.HeldInvocations.{Holds}
use Rattle.schedule_laws.specs.InvocationInRun.{FailsNot}
use Rattle.schedule_laws.specs.SettledOnce.{SettledOnceTheSame, WasSettled, WasSuspended}
use Rattle.schedule_laws.proofs.EntryPlaces.{entries_keep}
use Rattle.schedule_laws.proofs.Unfailed.{closed_by_end}

-- how an invocation is closed whose run is over in this way
abbrev closing_told : Ending → Option Closing
closing_told Ended = Some ByEnd
closing_told _ = None

-- these requests are all of a run over these arrivals that goes no further, and how the invocation is closed tells how that is over
record IsAll (next : Handler) (given : Invocation) (arrivals : List Arrival) (requests : List Request) (closing : Option Closing) : Type 0 where
  calls : ℕ
  over : is_going (run next given arrivals calls).ending ≡ false
  exactly : requests ≡ run_requests next given arrivals calls
  closed : closing ≡ closing_told (run next given arrivals calls).ending

order : (n m : ℕ) → (n ≤ m) ⊎ (m < n)
order zero m = inl (omega arith)
order (suc n) zero = inr (omega arith)
order (suc n) (suc m) = elim (order n m) [ inl low ↦ inl (omega arith) | inr high ↦ inr (omega arith) ]

nothing_behind : (xs ys : List Request) → xs ++ ys ≡ xs → ys ≡ []
nothing_behind xs ys e = append_cancel_left xs ys [] (e ∙ sym (append-nil xs))

none_first : (xs ys : List Request) → xs ++ ys ≡ [] → xs ≡ []
none_first [] ys e = refl
none_first (x ∷ xs) ys e = cc

waiting_over : (ending : Ending) → IsWaiting ending → (is_going ending ≡ false) × (closing_told ending ≡ None)
waiting_over (Waits tree) waits = (refl, refl)
waiting_over _ waits = absurd waits

accepted_before : (later events : List Event) → IsAccepted (later ++ events) → IsAccepted events
accepted_before [] events accepted = accepted
accepted_before (event ∷ later) events accepted = accepted_before later events accepted.1

module _ (next : Handler) (given : Invocation) (id : Text) where
  whole_before : (later events : List Event) → IsWholeAlong next given id (later ++ events) → IsWholeAlong next given id events
  whole_before [] events whole = whole
  whole_before (event ∷ later) events whole = whole_before later events whole.1

  -- the requests of more calls than it took to stop are the same, and those of fewer are their beginning
  begins_stopped : (arrivals : List Arrival) (n m : ℕ) → is_going (run next given arrivals n).ending ≡ false → IsBeginning (run_requests next given arrivals m) (run_requests next given arrivals n)
  begins_stopped arrivals n m stopped = by_order (order m n)
    where
      by_order : (m ≤ n) ⊎ (n < m) → IsBeginning (run_requests next given arrivals m) (run_requests next given arrivals n)
      by_order (inl low) = run_requests-beginning next given arrivals m n low
      by_order (inr high) = ([], append-nil (run_requests next given arrivals m) ∙ ap (λ (p : Progress). requests_of p.steps) (run-stopped next given arrivals n m (omega (arith, high)) stopped))

  module _ (events : List Event) (accepted : IsAccepted events) (holds : Holds next given id events) (unfailed : AllByRecursion (FailsNot id) events) where
    abbrev All : Type 0
    All = IsAll next given (recorded_arrivals events id) (recorded_requests events id) (closing_of events id)

    all_of_end : closing_of events id ≡ Some ByEnd → All
    all_of_end closing =
        let whole = ended_whole next given id events accepted holds.whole closing in
        record { calls = whole.calls; over = ap is_going whole.over; exactly = whole.exactly; closed = closing ∙ sym (ap closing_told whole.over) }

    -- where the run waits it is not closed
    open_still : (calls : ℕ) → IsWaiting (run next given (recorded_arrivals events id) calls).ending → closing_of events id ≡ None
    open_still calls waits = by_closing (closing_of events id) refl (closed_by_end events id unfailed).closed
      where
        by_closing : (o : Option Closing) → closing_of events id ≡ o → IfSome o (λ closing. closing ≡ ByEnd) → closing_of events id ≡ None
        by_closing None is end = is
        by_closing (Some (ByFailure code message)) is end = let clash : ByFailure code message ≡ ByEnd = end in absurd cc
        by_closing (Some ByEnd) is end =
            let whole = ended_whole next given id events accepted holds.whole is in
            let stopped = (waiting_over (run next given (recorded_arrivals events id) calls).ending waits).0 in
            let same : run next given (recorded_arrivals events id) calls ≡ run next given (recorded_arrivals events id) whole.calls =
            stopped_same next given (recorded_arrivals events id) calls whole.calls stopped (ap is_going whole.over) in
            absurd (subst IsWaiting (ap (λ (p : Progress). p.ending) same ∙ whole.over) waits)

    all_of_waiting : WasSuspended events id → All
    all_of_waiting w =
        let moment : List Event = Event.Move id w.attempt (Frame.Suspend w.suspension) ∷ w.earlier in
        let whole = (whole_before w.later moment (subst (IsWholeAlong next given id) w.parts holds.whole)).0 refl in
        let run_moment : IsWholeRun next given (recorded_arrivals events id) (recorded_requests moment id) IsWaiting =
        subst (λ (arrivals : List Arrival). IsWholeRun next given arrivals (recorded_requests moment id) IsWaiting) w.handed whole in
        let over = waiting_over (run next given (recorded_arrivals events id) run_moment.calls).ending run_moment.over in
        let kept = entries_keep moment w.later id (subst IsAccepted w.parts accepted) in
        let more : List Request = requests_in kept.0 in
        let grown : recorded_requests events id ≡ recorded_requests moment id ++ more =
        ap (λ (some : List Event). recorded_requests some id) w.parts ∙ ap requests_in kept.1 ∙ requests_in-append (entries_of moment id) kept.0 in
        let stopped = begins_stopped (recorded_arrivals events id) run_moment.calls holds.begins.calls over.0 in
        let begins = holds.begins.beginning in
        let none : more ≡ [] = none_first more (begins.0 ++ stopped.0)
        (nothing_behind (recorded_requests moment id) (more ++ (begins.0 ++ stopped.0))
        (sym (append_assoc (recorded_requests moment id) more (begins.0 ++ stopped.0)) ∙ ap (λ (requests : List Request). requests ++ (begins.0 ++ stopped.0)) (sym grown)
        ∙ sym (append_assoc (recorded_requests events id) begins.0 stopped.0) ∙ ap (λ (requests : List Request). requests ++ stopped.0) begins.1 ∙ stopped.1 ∙ sym run_moment.exactly)) in
        record {
          calls = run_moment.calls;
          over = over.0;
          exactly = grown ∙ ap (λ (requests : List Request). recorded_requests moment id ++ requests) none ∙ append-nil (recorded_requests moment id) ∙ run_moment.exactly;
          closed = open_still run_moment.calls run_moment.over ∙ sym over.1;
        }

    settled_all : WasSettled events id → All
    settled_all (inl closing) = all_of_end closing
    settled_all (inr waits) = all_of_waiting waits

  all_same : (arrivals : List Arrival) (requests others : List Request) (closing closed : Option Closing) → IsAll next given arrivals requests closing → IsAll next given arrivals others closed
      → (requests ≡ others) × (closing ≡ closed)
  all_same arrivals requests others closing closed a b =
      let same : run next given arrivals a.calls ≡ run next given arrivals b.calls = stopped_same next given arrivals a.calls b.calls a.over b.over in
      (a.exactly ∙ ap (λ (p : Progress). requests_of p.steps) same ∙ sym b.exactly, a.closed ∙ ap (λ (p : Progress). closing_told p.ending) same ∙ sym b.closed)

pub settled_once : SettledOnceTheSame
settled_once next given id events others accepted also holds too unfailed neither arrivals settled is =
    let (requests_same, closing_same) = all_same next given id (recorded_arrivals others id) (recorded_requests events id) (recorded_requests others id) (closing_of events id) (closing_of others id)
    (subst (λ (some : List Arrival). IsAll next given some (recorded_requests events id) (closing_of events id)) arrivals (settled_all next given id events accepted holds unfailed settled))
    (settled_all next given id others also too neither is) in
    (requests_same, ap₂ answer_at_close requests_same closing_same)
