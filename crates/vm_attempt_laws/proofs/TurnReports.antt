-- What each turn of an attempt tells of the run.
use Rattle.std.proofs.Common.{◌≡◌, ◌⊎◌, inl, inr, ◌∙◌, ℕ, suc, pred, Bool, false, List, [], ◌∷◌, ◌++◌, map, Option, Some, None, refl, sym, ap, subst}
use Rattle.journal_model.specs.History.{next_completion, next_handle, next_signal, Step}
use Rattle.live_laws.specs.MachinePosition.{entries_carried, IsMachineAt, with_messages}
use Rattle.journal_model.specs.Run.{GoesOn, RefusedCall, Ended, run, run_requests}
use Rattle.protocol_stream.specs.ErrorText.{too_long_text}
use Rattle.replay_laws.proofs.Asked.{journal_read}
use Rattle.replay_laws.proofs.Standing.{at}
use Rattle.vm_context.specs.Journal.{no_id_text}
use Rattle.vm_machine.specs.Causes.{TellsPlainError}
use Rattle.vm_outcomes.specs.Causes.{LacksNumber, moment_event}
use Rattle.vm_refusals.specs.Refusals.{refusal_code, text_of_refusal}
use Rattle.attempt_model.specs.Machine.{Mismatch, UncompletedInReplay, EndInReplay, KeysNotText, ChildNotId, Refused}
use Rattle.vm_attempt_laws.specs.Attempts.{Attempt, Turn}
use Rattle.vm_attempt_laws.specs.AttemptInvariants.{FailsWith}
use Rattle.vm_attempt_laws.specs.Bodies.{Body, by_policy, NonEmptyValue, RunOutcome}
use Rattle.vm_attempt_laws.specs.Machine.{Cause, ByFault, FailsWhen, NoNumber, TooLong, TooDeep, NoReplay, NoMemory}
use Rattle.vm_attempt_laws.specs.BodyExecution.{BodyCause, BodyFailsWhen, BodyTells, BodyToldAs, IsLong, Lacks, LacksMemory, Pauses, RunWaitsFor, TriedAgain, tried_by, WaitsForOthers, ExecutesFirst}
use Rattle.vm_attempt_laws.specs.OutputOfAttempt.{Sent, frame_meant}
use Rattle.vm_attempt_laws.specs.AttemptSimulation.{HasBodies, HasNotRead, HasRead, Serves}
use Rattle.vm_attempt_laws.specs.ArrivalsCome.{HasJournal}
use Rattle.vm_attempt_laws.specs.TurnReports.{Told, ProposesOutcomeOf, FailsSo, HasNoNumber, LacksNumbers, refused, of_body, lacks, next_call, too_deep, memory, numbers, room, TurnTellsOver, TurnTells, IsAttemptTold, TellsOne, TurnsTell}
use Rattle.vm_attempt_laws.specs.TurnsInRun.{RunsOne, turns_answered, IsOwnCause, IsToldAs, FailsBy, FailsFor, FailsForBody, TurnsBehind, TurnServes}
use Rattle.vm_attempt_laws.specs.Words.{Answer, answers_of, Arrival, Arrived, arrivals_carried, after_turn, Call, Entry, Error, Handler, HasReadJournal, Input, InputMessage, Invocation, AttemptInRun, Machine, machine_at_start, next_slot, Progress, Recorded, Request, requests_carried, Version, version_number, VMOptions, with_arrival, with_entries, with_entry}
use Rattle.vm_attempt_laws.proofs.ArrivalsCome.{arrivals_read, read_journal, requests_of_journal, told_journal}
use Rattle.vm_attempt_laws.proofs.Failing.{either_code, either_text}
use Rattle.vm_attempt_laws.proofs.Matching.{body_says}

-- ---- what a machine has counted

record Counts (m : Machine) (steps : List Step) : Type 0 where
  completions : m.completions ≡ next_completion steps
  signals : m.signals ≡ next_signal steps
  handles : next_slot m ≡ next_handle steps

entries_count : (m : Machine) (entries : List Entry) → Counts m [] → Counts (with_entries m entries) []
entries_count m [] c = c
entries_count m (Recorded request ∷ entries) c = entries_count (with_entry m (Recorded request)) entries (record { completions = c.completions; signals = c.signals; handles = c.handles })
entries_count m (Arrived arrival ∷ entries) c = entries_count (with_arrival m arrival) entries (record { completions = c.completions; signals = c.signals; handles = c.handles })

messages_count : (m : Machine) (messages : List InputMessage) → Counts m [] → Counts (with_messages m messages) []
messages_count m messages c = entries_count m (entries_carried messages) c

-- ---- what a turn tells

module _ (next : Handler) (live : AttemptInRun) (told : Told) (proposed : List (ℕ × NonEmptyValue)) (calls_are : pred told.answered ≡ live.calls) (proposed_are : told.proposed ≡ proposed) where
  abbrev own_requests : List Request
  own_requests = requests_carried live.read ++ live.machine.written

  abbrev arrivals : List Arrival
  arrivals = arrivals_carried live.read

  -- what the run waits for, by what was told
  told_waits : WaitsForOthers next live.start.given arrivals live.calls own_requests proposed
      → WaitsForOthers next live.start.given arrivals (pred told.answered) (run_requests next live.start.given arrivals (suc (pred told.answered))) told.proposed
  told_waits w =
      subst (λ (calls : ℕ). WaitsForOthers next live.start.given arrivals calls (run_requests next live.start.given arrivals (suc calls)) told.proposed) (sym calls_are)
      (subst (λ (requests : List Request). WaitsForOthers next live.start.given arrivals live.calls requests told.proposed) (sym w.waits.exactly)
      (subst (λ (some : List (ℕ × NonEmptyValue)). WaitsForOthers next live.start.given arrivals live.calls own_requests some) (sym proposed_are) w))

  told_first : (body : Body) → ExecutesFirst next live.start.given arrivals live.calls own_requests proposed body
      → ExecutesFirst next live.start.given arrivals (pred told.answered) (run_requests next live.start.given arrivals (suc (pred told.answered))) told.proposed body
  told_first body w =
      subst (λ (calls : ℕ). ExecutesFirst next live.start.given arrivals calls (run_requests next live.start.given arrivals (suc calls)) told.proposed body) (sym calls_are)
      (subst (λ (requests : List Request). ExecutesFirst next live.start.given arrivals live.calls requests told.proposed body) (sym w.waits.exactly)
      (subst (λ (some : List (ℕ × NonEmptyValue)). ExecutesFirst next live.start.given arrivals live.calls own_requests some body) (sym proposed_are) w))

module _ {H : Type 0} (function : H → Handler) (next : Handler) (version : Version) (options : VMOptions) (is_closed : Bool) (live : AttemptInRun) (before : Attempt H) (proposed : List (ℕ × NonEmptyValue)) (ran : RunOutcome)
    (told : Told) (own : HasBodies next live proposed before) (s : Serves function next version options live is_closed before) (t : IsAttemptTold live before is_closed proposed told) where
  abbrev come : List Arrival
  come = arrivals_carried live.read

  -- the first that has answered reads the input
  calls_so : HasNotRead function next version options live is_closed before ⊎ HasRead function next version options live before → pred (turns_answered before.input live.calls) ≡ live.calls
  calls_so (inl n) = ap (λ (input : Option Input). pred (turns_answered input live.calls)) n.input ∙ ap pred n.calls ∙ sym n.calls
  calls_so (inr r) = ap (λ (input : Option Input). pred (turns_answered input live.calls)) r.input

  calls_are : pred told.answered ≡ live.calls
  calls_are = ap pred t.answered ∙ calls_so s.stands

  -- the body that it has executed, and its outcome, by what was told
  told_outcome : (sent : List Sent) (after : Attempt H) (b : RunsOne function next version options is_closed live before proposed ran sent after)
      → ProposesOutcomeOf next live.start told come ran b.body b.value
  told_outcome sent after b = record {
    journal = told_journal function next version options is_closed live before proposed told own s t b.journal;
    first = told_first next live told proposed calls_are t.outcomes b.body b.first;
    written = live.machine.written;
    behind = ap (λ (calls : ℕ). run_requests next live.start.given (arrivals_carried live.read) (suc calls)) calls_are ∙ b.first.waits.exactly
        ∙ ap (λ (requests : List Request). requests ++ live.machine.written) (requests_of_journal live b.journal s.fed);
    shows = b.shows;
    outcome = b.outcome;
  }

  abbrev Tells : Turn → Told → Type 0
  Tells turn now = TurnTellsOver next live.start told come ran turn now

  -- by the arrivals that were read, which are those that have come
  as_told : (turn : Turn) (now : Told) → Tells turn now → TurnTells next live.start told ran turn now
  as_told turn now tells =
      subst (λ (arrivals : List Arrival). TurnTellsOver next live.start told arrivals ran turn now) (sym (arrivals_read function next version options is_closed live before proposed told own s t)) tells

  -- so of one that has executed a body
  pub told_ran : (sent : List Sent) (after : Attempt H) (b : RunsOne function next version options is_closed live before proposed ran sent after)
      → TurnTells next live.start told ran Turn.RanBody (record told { proposed = told.proposed ++ (b.body.completion, b.value) ∷ [] })
  told_ran sent after b = as_told Turn.RanBody (record told { proposed = told.proposed ++ (b.body.completion, b.value) ∷ [] }) (b.body, b.value, told_outcome sent after b, refl)

  -- ---- one more answer

  of_pred : (a b : ℕ) → suc a ≡ suc b → a ≡ b
  of_pred a b e = ap pred e

  goes_at : (calls : ℕ) → (a : Attempt H) → (sent : List Sent) → turns_answered a.input calls ≡ suc told.answered → (run next live.start.given (arrivals_carried live.read) calls).ending ≡ GoesOn
      → (input : Option Input) → a.input ≡ input → ((input ≡ None) → calls ≡ 0) → (told.answered ≡ 0) ⊎ ((run next live.start.given (arrivals_carried live.read) told.answered).ending ≡ GoesOn)
  goes_at calls a sent counted going None is none = absurd (no_suc told.answered (sym (sym (ap (λ (i : Option Input). turns_answered i calls) is ∙ none refl) ∙ counted)))
    where
      no_suc : (n : ℕ) → suc n ≡ 0 → ⊥
      no_suc n e = cc
  goes_at calls a sent counted going (Some input) is none =
      let same : calls ≡ told.answered = of_pred calls told.answered (sym (ap (λ (i : Option Input). turns_answered i calls) is) ∙ counted) in
      inr (subst (λ (n : ℕ). (run next live.start.given (arrivals_carried live.read) n).ending ≡ GoesOn) same going)

  unread_calls : (now : AttemptInRun) (a : Attempt H) → HasNotRead function next version options now is_closed a ⊎ HasRead function next version options now a → a.input ≡ None → now.calls ≡ 0
  unread_calls now a (inl n) none = n.calls
  unread_calls now a (inr r) none = absurd (some_none (sym r.input ∙ none))
    where
      some_none : {A : Type 0} {x : A} → Some x ≡ None → ⊥
      some_none e = cc

  -- ---- why it has failed

  of_version : live.start.given.version ≡ version_number version
  of_version = ap (λ (given : Invocation). given.version) s.of_run.given_is ∙ s.of_run.version_is

  -- the call that its handler makes next is that of the run
  answers_are : HasNotRead function next version options live is_closed before ⊎ HasRead function next version options live before → before.answers ≡ answers_of (run next live.start.given come live.calls).steps
  answers_are (inl n) = n.answers ∙ sym (ap (λ (calls : ℕ). answers_of (run next live.start.given come calls).steps) n.calls)
  answers_are (inr r) = r.answers

  call_is : next live.start.given.input before.answers ≡ next_call next live.start told come
  call_is =
      ap (λ (answers : List Answer). next live.start.given.input answers) (answers_are s.stands)
      ∙ sym (ap (λ (calls : ℕ). next live.start.given.input (answers_of (run next live.start.given come calls).steps)) calls_are)

  -- its machine has counted what the run has taken
  counted : IsMachineAt next live.start.given live.start.shown live.read live.unread live.calls live.machine → Counts live.machine (run next live.start.given come live.calls).steps
  counted (inl only) =
      subst (λ (calls : ℕ). Counts live.machine (run next live.start.given come calls).steps) (sym only.none_asked)
      (subst (λ (m : Machine). Counts m []) (sym only.reads) (messages_count (machine_at_start live.start.shown [] []) live.read (record { completions = refl; signals = refl; handles = refl })))
  counted (inr at) =
      subst (λ (p : Progress). Counts live.machine p.steps) (sym at.stands.going)
      (record { completions = at.stands.completions; signals = at.stands.signals; handles = at.stands.tables.next })

  abbrev call_now : Call
  call_now = next live.start.given.input before.answers

  abbrev steps_now : List Step
  steps_now = (run next live.start.given come live.calls).steps

  abbrev LacksAt : List Step → Type 0
  LacksAt steps = LacksNumbers (next_completion steps) (next_signal steps) (next_handle steps) (next live.start.given.input (answers_of steps))

  no_number : LacksNumber live.machine call_now → HasNoNumber next live.start told come
  no_number lacks_it =
      subst (λ (calls : ℕ). LacksAt (run next live.start.given come calls).steps) (sym calls_are)
      (subst (λ (answers : List Answer). LacksNumbers (next_completion steps_now) (next_signal steps_now) (next_handle steps_now) (next live.start.given.input answers)) (answers_are s.stands)
      (subst (λ (handle : ℕ). LacksNumbers (next_completion steps_now) (next_signal steps_now) handle call_now) counts.handles
      (subst (λ (signal : ℕ). LacksNumbers (next_completion steps_now) signal (next_slot live.machine) call_now) counts.signals
      (subst (λ (completion : ℕ). LacksNumbers completion live.machine.signals (next_slot live.machine) call_now) counts.completions lacks_it))))
    where
      counts : Counts live.machine steps_now
      counts = counted own.lives.stands

  for_call : (error : Error) (sent : List Sent) (after : Attempt H) → FailsBy next version live (next live.start.given.input before.answers) before.vm.state after.vm.state error sent → FailsSo next live.start told come ran error
  for_call error sent after by = by_why by.cause by.own by.when by.told
    where
      by_why : (cause : Cause) → IsOwnCause next live.start.given (arrivals_carried live.read) live.calls cause
          → FailsWhen live.start.given live.machine (next live.start.given.input before.answers) before.vm.state by.far cause
          → IsToldAs version live (next live.start.given.input before.answers) before.vm.state after.vm.state by.far.more cause error sent → FailsSo next live.start told come ran error
      by_why (ByFault (Refused refusal)) own when (tells, (by_call, (meant, says)), fails, is_sent) = refused refusal (record {
        refuses = subst (λ (calls : ℕ). (run next live.start.given (arrivals_carried live.read) (suc calls)).ending ≡ RefusedCall refusal) (sym calls_are) own;
        version = version;
        of_version = of_version;
        tells = tells;
        is_told = record {
          refused = by_call;
          meant = meant;
          says = subst (λ (call : Call). TellsPlainError (refusal_code by_call) (Some (text_of_refusal by_call version (moment_event call))) tells) call_is says;
        };
        answers = (before.vm.state.active.output, fails);
      })
      by_why (ByFault Mismatch) own when told_as = absurd own
      by_why (ByFault UncompletedInReplay) own when told_as = absurd own
      by_why (ByFault EndInReplay) own when told_as = absurd own
      by_why (ByFault KeysNotText) own when told_as = absurd own
      by_why (ByFault ChildNotId) own when told_as = absurd own
      by_why TooDeep own when (tells, is, fails, is_sent) =
          too_deep (subst (λ (calls : ℕ). RunWaitsFor next live.start.given (arrivals_carried live.read) calls) (sym calls_are) own)
          (before.vm.state.active.output, subst (λ (cause : Error). FailsWith cause before.vm.state.active.output error) is fails)
      by_why NoNumber own when (tells, either, fails, is_sent) =
          lacks (numbers (no_number when.1) tells (either_code after.vm.state (Some no_id_text) tells either) (either_text after.vm.state no_id_text tells either) (before.vm.state.active.output, fails))
      by_why TooLong own when (tells, either, fails, is_sent) =
          lacks (room tells (either_code after.vm.state (Some too_long_text) tells either) (either_text after.vm.state too_long_text tells either) (before.vm.state.active.output, fails))
      by_why NoReplay own when told_as = absurd own
      by_why NoMemory own when told_as = lacks (memory told_as)

  -- the body that it has executed has ended without an outcome that is written
  for_body : (error : Error) (sent : List Sent) → FailsForBody function next version options is_closed live before proposed ran error sent → FailsSo next live.start told come ran error
  for_body error sent by = by_why by.cause by.when by.told
    where
      journal : HasReadJournal live
      journal = journal_read next live own.lives.asked by.body by.first.to_execute.called

      ends : (cause : BodyCause) → BodyFailsWhen version (by_policy ran) (tried_by live by.shows) by.run.completion cause → (tells : Error) → BodyTells version options (by_policy ran) (tried_by live by.shows) before.vm.state by.run cause tells
          → FailsWith tells before.vm.state.active.output error → FailsSo next live.start told come ran error
      ends cause when tells is_told fails = of_body by.body (record {
        first = told_first next live told proposed calls_are t.outcomes by.body by.first;
        written = live.machine.written;
        behind = ap (λ (calls : ℕ). run_requests next live.start.given (arrivals_carried live.read) (suc calls)) calls_are ∙ by.first.waits.exactly
            ∙ ap (λ (requests : List Request). requests ++ live.machine.written) (requests_of_journal live journal s.fed);
        shows = by.shows;
        version = version;
        of_version = of_version;
        cause = cause;
        when = subst (λ (completion : ℕ). BodyFailsWhen version (by_policy ran) (tried_by live by.shows) completion cause) by.completion when;
        tells = tells;
        says = body_says version options (by_policy ran) (tried_by live by.shows) before.vm.state by.run cause tells is_told;
        answers = (before.vm.state.active.output, fails);
      })

      by_why : (cause : BodyCause) → BodyFailsWhen version (by_policy ran) (tried_by live by.shows) by.run.completion cause
          → BodyToldAs version options (by_policy ran) (tried_by live by.shows) before.vm.state by.run cause error sent → FailsSo next live.start told come ran error
      by_why LacksMemory when told_as = lacks (memory told_as)
      by_why (Lacks feature) when (tells, is_told, fails, is_sent) = ends (Lacks feature) when tells is_told fails
      by_why (TriedAgain own_error delay) when (tells, is_told, fails, is_sent) = ends (TriedAgain own_error delay) when tells is_told fails
      by_why (Pauses own_error) when (tells, is_told, fails, is_sent) = ends (Pauses own_error) when tells is_told fails
      by_why (IsLong value) when (tells, is_told, fails, is_sent) = ends (IsLong value) when tells is_told fails

  failed_so : (error : Error) (sent : List Sent) (after : Attempt H) → FailsFor function next version options is_closed live before error sent after
      ⊎ FailsForBody function next version options is_closed live before proposed ran error sent
      → FailsSo next live.start told come ran error
  failed_so error sent after (inl by) = for_call error sent after by
  failed_so error sent after (inr by) = for_body error sent by

  abbrev One : Turn → Attempt H → Type 0
  One turn after = TellsOne function next version options live.start is_closed told ran turn after

  by_turn : (sent : List Sent) (turn : Turn) (after : Attempt H) → TurnsBehind function next version options is_closed live before proposed ran sent turn after → One turn after
  by_turn sent Turn.Answered after b = record {
    now = record told { answered = suc told.answered };
    tells = as_told Turn.Answered (record told { answered = suc told.answered }) (
      refl,
      goes_at b.0 after sent (b.2 ∙ ap suc (sym t.answered)) (at next _ proposed b.3.bodies.executor b.3.bodies.lives).position.going after.input refl
          (λ none. unread_calls _ after b.3.serves.stands none),
    );
    goes_on = inr (record {
      live = after_turn live (map (frame_meant version) sent) b.0 b.1;
      proposed = proposed;
      start_is = refl;
      bodies = b.3.bodies;
      serves = b.3.serves;
      is_told = record { version = t.version; bytes = t.bytes; closed = t.closed; answered = ap suc t.answered ∙ sym b.2; outcomes = t.outcomes };
    });
  }
  by_turn sent Turn.RanBody after b = record {
    now = record told { proposed = told.proposed ++ (b.body.completion, b.value) ∷ [] };
    tells = told_ran sent after b;
    goes_on = inr (record {
      live = after_turn live (map (frame_meant version) sent) live.calls b.machine;
      proposed = proposed ++ (b.body.completion, b.value) ∷ [];
      start_is = refl;
      bodies = b.goes_on.bodies;
      serves = b.goes_on.serves;
      is_told = record {
        version = t.version;
        bytes = t.bytes;
        closed = t.closed;
        answered = t.answered ∙ sym (ap (λ (input : Option Input). turns_answered input live.calls) b.input);
        outcomes = ap (λ (some : List (ℕ × NonEmptyValue)). some ++ (b.body.completion, b.value) ∷ []) t.outcomes;
      };
    });
  }
  by_turn sent Turn.Waiting after b = record {
    now = told;
    tells = as_told Turn.Waiting told (refl, waits b.0);
    goes_on = inr (record {
      live = after_turn live (map (frame_meant version) sent) live.calls b.1.0;
      proposed = proposed;
      start_is = refl;
      bodies = b.1.1.bodies;
      serves = b.1.1.serves;
      is_told = record { version = t.version; bytes = t.bytes; closed = t.closed; answered = t.answered ∙ sym (ap (λ (input : Option Input). turns_answered input live.calls) b.1.2); outcomes = t.outcomes };
    });
  }
    where
      waits : (HasReadJournal live → ⊥) ⊎ ((is_closed ≡ false) × WaitsForOthers next live.start.given (arrivals_carried live.read) live.calls (requests_carried live.read ++ live.machine.written) proposed)
          → (HasJournal live.start told.bytes → ⊥) ⊎ ((told.is_closed ≡ false) × WaitsForOthers next live.start.given (arrivals_carried live.read) (pred told.answered)
          (run_requests next live.start.given (arrivals_carried live.read) (suc (pred told.answered))) told.proposed)
      waits (inl unread) = inl (λ journal. unread (read_journal function next version options is_closed live before proposed told own s t journal))
      waits (inr (opened, w)) = inr (t.closed ∙ opened, told_waits next live told proposed calls_are t.outcomes w)
  by_turn sent Turn.Suspended after b = record {
    now = record told { over = Some Turn.Suspended };
    tells = as_told Turn.Suspended (record told { over = Some Turn.Suspended }) (refl, t.closed ∙ b.0, told_waits next live told proposed calls_are t.outcomes b.1);
    goes_on = inl b.2;
  }
  by_turn sent Turn.Ended after b = record {
    now = record told { over = Some Turn.Ended };
    tells = as_told Turn.Ended (record told { over = Some Turn.Ended }) (refl, subst (λ (calls : ℕ). (run next live.start.given (arrivals_carried live.read) (suc calls)).ending ≡ Ended) (sym calls_are) b.0.over);
    goes_on = inl b.1;
  }
  by_turn sent (Turn.Failed error) after b =
      record { now = record told { over = Some (Turn.Failed error) }; tells = as_told (Turn.Failed error) (record told { over = Some (Turn.Failed error) }) (refl, failed_so error sent after b.0); goes_on = inl b.1 }

pub turns_tell : {H : Type 0} (function : H → Handler) (next : Handler) (version : Version) (options : VMOptions) → TurnServes function next version options → TurnsTell function next version options
turns_tell function next version options keeps is_closed live before proposed ran turn after told queued b s t turns =
    let k = keeps is_closed live before proposed ran turn after queued b s turns in
    by_turn function next version options is_closed live before proposed ran told b s t k.sent turn after k.behind
