-- A turn of an attempt, wherever it stands.
use Rattle.std.proofs.Common.{◌≡◌, ◌⊎◌, inl, inr, ◌∙◌, ℕ, suc, Bool, true, false, List, [], ◌++◌, append-nil, Option, Some, None, Result, Ok, refl, sym, ap, subst}
use Rattle.vm_outcomes.proofs.Failing.{none_put}
use Rattle.vm_attempt_laws.specs.Bodies.{ReplaysStand, ReplaysTurn, NonEmptyValue, RunOutcome}
use Rattle.vm_attempt_laws.specs.AttemptSimulation.{HasNumbers, kind_where, HasNotRead, HasRead, HasBodies, Serves, finished, machine_failed}
use Rattle.vm_attempt_laws.proofs.Executing.{WithBodies, with_bodies}
use Rattle.vm_attempt_laws.proofs.BodyExecution.{ran_body}
use Rattle.vm_attempt_laws.proofs.Bodies.{bodies_stay}
use Rattle.vm_attempt_laws.proofs.Driven.{begins_driven, messages_written, numbers_begin}
use Rattle.vm_attempt_laws.proofs.Messages.{read_input}
use Rattle.vm_attempt_laws.proofs.Notes.{no_turn}
use Rattle.vm_attempt_laws.proofs.Over.{waits_same}
use Rattle.vm_attempt_laws.proofs.Phases.{stage}
use Rattle.vm_attempt_laws.specs.Attempts.finishes
use Rattle.vm_attempt_laws.specs.Attempts.{output_of, FinishesBy, TakesOutcome, CarriesCall, GivesInput, ReadsInput, ReadsOrAsks, TurnsWhere, TurnsOn, TurnsUnless, Attempt, Finish, Turn}
use Rattle.vm_attempt_laws.specs.Machine.phases
use Rattle.vm_attempt_laws.specs.Machine.outcomes
use Rattle.vm_attempt_laws.specs.Machine.{CoreVM, MachineState, Written, out_of_memory, Phase, Comes, NoMemory, IsDriven, CallOutcome, TellsReady}
use Rattle.vm_attempt_laws.specs.InputOfAttempt.{AnswersInput, RefusesInput, InputsAreAnswered}
use Rattle.vm_attempt_laws.specs.Words.{item_at, Error, Version, Call, Input, answers_of, Handler, run, arrivals_carried, Machine, machine_at_start, with_messages, AttemptInRun, HasReadJournal, after_turn, VMOptions, Queued, Invocation}
use Rattle.vm_attempt_laws.specs.TurnsInRun.{turns_answered, GoesOnBehind, GoesOnWith, FailsFor, ProposesAs, TurnsBehind, TurnKeeps, TurnServes}
use Rattle.vm_attempt_laws.proofs.Now.{Now, call_of, now, called}
use Rattle.vm_attempt_laws.proofs.TurnsInRun.{answered, waiting, suspended, ended, failed}

-- ---- readiness

ready_where : (phase : Phase) (ready : Result Bool Error) → phase ≡ phases.Active → TellsReady phase ready → ready ≡ Ok true
ready_where phase ready active is = subst (λ (p : Phase). TellsReady p ready) active is

unready_where : (phase : Phase) (ready : Result Bool Error) (left : ℕ) → phase ≡ phases.WaitingReplayEntries left → TellsReady phase ready → ready ≡ Ok false
unready_where phase ready left waits is = subst (λ (p : Phase). TellsReady p ready) waits is

turns_new : {H : Type 0} (function : H → Handler) (ran : RunOutcome) (over : Option Finish) (before : Attempt H) (turn : Turn) (after : Attempt H) → before.over ≡ over → before.over ≡ None → TurnsUnless function ran over before turn after
    → TurnsOn function ran before turn after
turns_new function ran (Some finish) before turn after is none turns = cc
turns_new function ran None before turn after is none turns = turns

-- a turn that sends nothing leaves the live attempt as it is
nothing_sent : (live : AttemptInRun) → after_turn live [] live.calls live.machine ≡ live
nothing_sent live = λ i. record live { coming = append-nil live.coming i; proposed = append-nil live.proposed i }

module _ {H : Type 0} (function : H → Handler) (next : Handler) (version : Version) (options : VMOptions) (is_closed : Bool) (live : AttemptInRun) (before : Attempt H) (proposed : List (ℕ × NonEmptyValue)) (ran : RunOutcome) (turn : Turn) (after : Attempt H)
    (b : HasBodies next live proposed before)
    (s : Serves function next version options live is_closed before) where
  abbrev Keeps : Turn → Type 0
  Keeps some = TurnKeeps function next version options is_closed live before proposed ran some after

  lacks_memory : FailsFor function next version options is_closed live before out_of_memory [] after
  lacks_memory =
      record { far = none_put live.start.given live.machine (next live.start.given.input before.answers) before.vm.state; cause = NoMemory; own = tt; when = tt; told = refl }

  silent : output_of after ≡ output_of before → (some : Turn) → ProposesAs some [] → TurnsBehind function next version options is_closed live before proposed ran [] some after → Keeps some
  silent same some quiet behind = record {
    sent = [];
    fit = tt;
    of_store = tt;
    output = same ∙ sym (append-nil (output_of before));
    makes = no_turn next is_closed live;
    proposes = quiet;
    errors = tt;
    unfailed = λ may. tt;
    behind = behind;
  }

  -- nothing is done of a run
  stays_live : after.vm.state.runs ≡ before.vm.state.runs → Serves function next version options live is_closed after
      → GoesOnBehind function next version options is_closed live [] live.calls live.machine proposed after
  stays_live same serves =
      behind_nothing (subst (λ (some : AttemptInRun). GoesOnWith function next version options is_closed some proposed after) (sym (nothing_sent live))
      (record { bodies = bodies_stay function next version options before after same live proposed b; serves = serves }))
    where
      behind_nothing : GoesOnWith function next version options is_closed (after_turn live [] live.calls live.machine) proposed after
          → GoesOnBehind function next version options is_closed live [] live.calls live.machine proposed after
      behind_nothing g = record { bodies = g.bodies; serves = g.serves; written = sym (append-nil live.machine.written) }

  -- ---- its journal was not read

  unread : (HasReadJournal live → ⊥) → (turn ≡ Turn.Waiting) × (after ≡ before) → Keeps turn
  unread none is =
      subst Keeps (sym is.0)
      (silent (ap output_of is.1) Turn.Waiting refl
      (inl none, (live.machine, stays_live (ap (λ (a : Attempt H). a.vm.state.runs) is.1) (subst (Serves function next version options live is_closed) (sym is.1) s), ap (λ (a : Attempt H). a.input) is.1), inl refl))

  -- ---- its input is read

  module _ (n : HasNotRead function next version options live is_closed before) (journal : HasReadJournal live) (reads : ReadsInput before turn after) where
    no_bytes : before.vm.state.active.output.bytes ≡ []
    no_bytes = ap (λ (w : Written). w.bytes) n.started.output

    read_answers : AnswersInput live.start (kind_where version options is_closed) (with_messages (machine_at_start live.start.shown [] []) live.read) before.vm.state reads.read after.vm.state → Keeps turn
    read_answers a = subst Keeps (sym gives.0) (silent same Turn.Answered refl (live.calls, live.machine, counted, stays_live (ap (λ (vm : MachineState). vm.runs) a.others) serves, ([], refl)))
      where
        gives : (turn ≡ Turn.Answered) × (after ≡ record (record before { vm = after.vm }) { input = Some live.start.given.input })
        gives = subst (λ (r : Result Input Error). GivesInput r (record before { vm = after.vm }) turn after) a.answer reads.gives

        same : output_of after ≡ output_of before
        same =
            ap (λ (some : Attempt H). (some.front ++ some.behind) ++ after.vm.state.active.output.bytes) gives.1
            ∙ ap (λ (bytes : List ℕ). (before.front ++ before.behind) ++ bytes) (ap (λ (w : Written). w.bytes) a.written ∙ sym no_bytes)

        counted : turns_answered after.input live.calls ≡ suc (turns_answered before.input live.calls)
        counted =
            ap (λ (some : Attempt H). turns_answered some.input live.calls) gives.1
            ∙ sym (ap (λ (input : Option Input). suc (turns_answered input live.calls)) n.input)

        driven : IsDriven live.start.given live.machine after.vm.state
        driven =
            subst (λ (m : Machine). IsDriven live.start.given m after.vm.state) (sym n.machine)
            (begins_driven live.start n.shows version options is_closed (with_messages (machine_at_start live.start.shown [] []) live.read) live.read before.vm.state reads.read after.vm.state
            s.of_run n.started a (messages_written (machine_at_start live.start.shown [] []) live.read))

        serves : Serves function next version options live is_closed after
        serves = record {
          handler = ap (λ (some : Attempt H). function some.handler) gives.1 ∙ s.handler;
          going = ap (λ (some : Attempt H). some.over) gives.1 ∙ s.going;
          kind = a.asked.kind_is;
          of_run = s.of_run;
          fed = s.fed;
          started = s.started;
          bytes = ap (λ (vm : MachineState). vm.decoder) a.others ∙ s.bytes;
          whole = ap (λ (vm : MachineState). item_at vm.decoder) a.others ∙ s.whole;
          stands = inr (record {
            journal = journal;
            input = ap (λ (some : Attempt H). some.input) gives.1;
            answers =
                ap (λ (some : Attempt H). some.answers) gives.1 ∙ n.answers
                ∙ sym (ap (λ (calls : ℕ). answers_of (run next live.start.given (arrivals_carried live.read) calls).steps) n.calls);
            driven = driven;
            shows = n.shows;
            start_is = ap (λ (vm : MachineState). vm.start) a.others ∙ n.started.start_is;
            numbers = subst HasNumbers (sym n.machine) (numbers_begin live.start.shown live.read);
          });
        }

    read_refused : RefusesInput version reads.read after.vm.state → Keeps turn
    read_refused refused =
        let gives = subst (λ (r : Result Input Error). GivesInput r (record before { vm = after.vm }) turn after) refused.answer reads.gives in
        subst Keeps (sym gives.0)
        (silent (waits_same before after gives.1 (ap (λ (w : Written). w.bytes) refused.output ∙ sym no_bytes)) (Turn.Failed out_of_memory) refl (inl lacks_memory, machine_failed out_of_memory refused.phase, λ kept failed. inr refl))

    input_read : InputsAreAnswered → Keeps turn
    input_read answers =
        go (answers live.start n.shows (kind_where version options is_closed) live.read before.vm.state reads.read after.vm.state s.of_run (read_input live journal s.fed) n.started reads.reads)
      where
        go : AnswersInput live.start (kind_where version options is_closed) (with_messages (machine_at_start live.start.shown [] []) live.read) before.vm.state reads.read after.vm.state
            ⊎ RefusesInput version reads.read after.vm.state → Keeps turn
        go (inl a) = read_answers a
        go (inr refused) = read_refused refused

  not_read : InputsAreAnswered → (n : HasNotRead function next version options live is_closed before) → TurnsOn function ran before turn after → Keeps turn
  not_read answers n turns = go (stage live before.vm.state.phase s.fed n.started.phase)
    where
      go : (HasReadJournal live × (before.vm.state.phase ≡ phases.Active)) ⊎ ((HasReadJournal live → ⊥) × ((left : ℕ) × (before.vm.state.phase ≡ phases.WaitingReplayEntries left))) → Keeps turn
      go (inl read) =
          input_read n read.0
          (subst (λ (input : Option Input). ReadsOrAsks function ran input before turn after) n.input
          (subst (λ (ready : Result Bool Error). TurnsWhere function ran ready before turn after) (ready_where before.vm.state.phase turns.ready read.1 turns.is_ready) turns.turns)) answers
      go (inr waits) =
          unread waits.0
          (subst (λ (ready : Result Bool Error). TurnsWhere function ran ready before turn after) (unready_where before.vm.state.phase turns.ready waits.1.0 waits.1.1 turns.is_ready) turns.turns)

  -- ---- its handler is asked

  module _ (stand : ReplaysStand) (executors : ReplaysTurn) (queued : options.signal_delivery ≡ Queued)
      (r : HasRead function next version options live before) where
    abbrev asked : Call
    asked = function before.handler live.start.given.input before.answers

    with_them : (here : Now next version options is_closed live before.vm.state) → WithBodies next version options is_closed live before.vm.state here proposed b.executor
    with_them here = with_bodies next version options is_closed live before.vm.state here proposed b.executor executors (ap (λ (given : Invocation). given.options.signal_delivery) s.of_run.given_is ∙ queued) s.started r.journal b.lives b.keeps b.behind

    by_outcome : (here : Now next version options is_closed live before.vm.state) (outcome : CallOutcome) (between : CoreVM)
        → Comes live.start.given live.machine (call_of next live here.at) before.vm.state outcome between.state
        → TakesOutcome ran outcome (record before { vm = between }) turn after → Keeps turn
    by_outcome here (outcomes.Answered answer) between comes to =
        answered function next version options is_closed live before proposed ran b s r here (with_them here) between turn after answer comes to
    by_outcome here outcomes.Waiting between comes to = waiting function next version options is_closed live before proposed ran b s r here (with_them here) between turn after comes to.0 to.1
    by_outcome here (outcomes.Executes handle) between comes to =
        ran_body function next version options is_closed live before proposed ran b s r here (with_them here) between turn after handle comes to
    by_outcome here outcomes.Suspended between comes to = suspended function next version options is_closed live before proposed ran b s r here (with_them here) between turn after comes to
    by_outcome here outcomes.Ended between comes to = ended function next version options is_closed live before proposed ran b s r here (with_them here) between turn after comes to
    by_outcome here (outcomes.Failed error) between comes to =
        failed function next version options is_closed live before proposed ran b s r here (with_them here) between turn after error comes to.0 to.1

    carried : (here : Now next version options is_closed live before.vm.state) → CarriesCall ran asked before turn after → Keeps turn
    carried here c =
        by_outcome here c.outcome c.between
        (subst (λ (call : Call). Comes live.start.given live.machine call before.vm.state c.outcome c.between.state)
        (called function next version options stand is_closed live before queued proposed b.executor b.lives s r here.at)
        (c.carries live.start.given live.machine r.driven)) c.comes

    carries : CarriesCall ran asked before turn after ⊎ FinishesBy finishes.OutOfMemory before turn after → Keeps turn
    carries (inl c) = carried (now function next version options stand is_closed live before queued proposed b.executor b.lives s r c.typed) c
    carries (inr over) =
        subst Keeps (sym over.0) (silent (ap output_of over.1) (Turn.Failed out_of_memory) refl (inl lacks_memory, finished finishes.OutOfMemory (ap (λ (a : Attempt H). a.over) over.1), λ kept failed. inr refl))

    has_read : TurnsOn function ran before turn after → Keeps turn
    has_read turns =
        carries (subst (λ (input : Option Input). ReadsOrAsks function ran input before turn after) r.input
        (subst (λ (ready : Result Bool Error). TurnsWhere function ran ready before turn after) (ready_where before.vm.state.phase turns.ready r.driven.phase turns.is_ready) turns.turns))

pub turn_keeps : {H : Type 0} (function : H → Handler) (next : Handler) (version : Version) (options : VMOptions) → ReplaysStand → ReplaysTurn → InputsAreAnswered → TurnServes function next version options
turn_keeps function next version options stand executors answers is_closed live before proposed ran turn after queued b s turns = go s.stands
  where
    on : TurnsOn function ran before turn after
    on = turns_new function ran before.over before turn after refl s.going turns

    go : HasNotRead function next version options live is_closed before ⊎ HasRead function next version options live before → TurnKeeps function next version options is_closed live before proposed ran turn after
    go (inl n) = not_read function next version options is_closed live before proposed ran turn after b s answers n on
    go (inr r) = has_read function next version options is_closed live before proposed ran turn after b s stand executors queued r on
