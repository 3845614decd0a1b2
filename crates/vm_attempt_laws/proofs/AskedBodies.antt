-- A body that is asked for is the one that the run waits for first; its run was asked for, and nothing has come for it.
use Rattle.std.proofs.Common.{◌≡◌, ◌⊎◌, inl, inr, ◌∙◌, sym, ap, refl, subst, ℕ, ◌≤◌, arith, Bool, true, false, List, [], ◌++◌, append-nil, Some, None}
use Rattle.input_laws.proofs.AskedOnce.{kind_first}
use Rattle.input_laws.proofs.News.{requests_carried-append}
use Rattle.body_laws.proofs.BodySimulation.{arrived-once}
use Rattle.body_laws.proofs.Lists.{among-left}
use Rattle.journal_model.specs.Run.{run, run_requests}
use Rattle.live_laws.specs.MachineTurn.{HasPosition}
use Rattle.live_laws.specs.RequestsInFlight.{requests_sent}
use Rattle.replay_laws.specs.Outcomes.{asks_run, runs}
use Rattle.replay_laws.proofs.Asked.{body_asked, journal_come, journal_read}
use Rattle.replay_laws.proofs.Outcomes.{runs-asked}
use Rattle.replay_laws.proofs.Standing.{asked_once, at, none_unread}
use Rattle.journal_model.specs.Journal.{recorded_requests}
use Rattle.vm_attempt.specs.RunNames.{run_name}
use Rattle.vm_attempt_laws.specs.AskedBodies.{AsksForFirst, AsksForOpen, IsOpenBody, OpenIsRecorded}
use Rattle.vm_attempt_laws.specs.AttemptSimulation.{HasBodies, HasNotRead, HasRead, Serves}
use Rattle.vm_attempt_laws.specs.Attempts.{AsksForBody, Attempt}
use Rattle.vm_attempt_laws.specs.Bodies.{Among, bodies_of, Body, count_proposed, Executor, has_arrived, IsReplayed, NonEmptyValue, ReplaysStand, ReplaysTurn, requests_asked_by}
use Rattle.vm_attempt_laws.specs.BodyExecution.{IsToExecute}
use Rattle.vm_attempt_laws.specs.Machine.outcomes
use Rattle.vm_attempt_laws.specs.Machine.{Comes, Executes}
use Rattle.vm_attempt_laws.specs.Words.{Arrival, arrivals_carried, AttemptInRun, Call, Frame, Handler, Input, Invocation, IsTypedCall, Queued, Request, requests_carried, Version, VMOptions}
use Rattle.vm_attempt_laws.proofs.Executing.{ExecutesSo, executes_so, WithBodies, with_bodies}
use Rattle.vm_attempt_laws.proofs.Now.{call_of, called, Now, now}
use Rattle.vm_attempt_laws.proofs.RunNames.{IsNamed, run_named, says_name}

-- ---- a body of the run whose outcome the attempt has neither read nor proposed

module _ (next : Handler) (live : AttemptInRun) (proposed : List (ℕ × NonEmptyValue)) (e : Executor) (x : IsReplayed next live proposed e) where
  requested : (body : Body) → Among body (bodies_of (run next live.start.given (arrivals_carried live.read) live.calls).steps) → runs body.completion (requests_asked_by live) ≡ true
  requested body called = body_asked next live (at next live proposed e x) (none_unread next live proposed e x (journal_read next live x.asked body called)) body called

  -- where something has come for a run, it was asked for by then
  asked_first : (n : ℕ) → runs n (requests_asked_by live) ≡ true → has_arrived (arrivals_carried (live.read ++ live.unread)) n ≡ true → runs n x.comes.first ≡ true
  asked_first n asked come =
      kind_first n (asks_run n) (runs-asked n) x.comes.first x.comes.more (asked_once next live proposed e x n)
      (x.comes.come.asked n (arrived-once (arrivals_carried (live.read ++ live.unread)) n come)) (ap (runs n) x.comes.parts ∙ asked)

  -- what its run has asked for was asked for by it
  named : (body : Body) (n : IsNamed next live.start.given (run next live.start.given (arrivals_carried live.read) live.calls).steps body)
      → Among body (bodies_of (run next live.start.given (arrivals_carried live.read) live.calls).steps) → Among (Request.Run body.completion n.name) (requests_asked_by live)
  named body n called =
      subst (Among (Request.Run body.completion n.name)) (sym asked_all)
      (among-left (Request.Run body.completion n.name) (run_requests next live.start.given (arrivals_carried live.read) live.calls) here.left n.asked)
    where
      here : HasPosition next live.start.given live.start.shown live.read live.unread live.calls live.machine
      here = at next live proposed e x

      none : requests_carried live.unread ≡ []
      none = none_unread next live proposed e x (journal_read next live x.asked body called)

      asked_all : requests_asked_by live ≡ run_requests next live.start.given (arrivals_carried live.read) live.calls ++ here.left
      asked_all =
          ap (λ (some : List Request). some ++ live.machine.written)
          (requests_carried-append live.read live.unread ∙ ap (λ (some : List Request). requests_carried live.read ++ some) none ∙ append-nil (requests_carried live.read))
          ∙ sym here.position.requests

  pub is_open : (body : Body) (n : IsNamed next live.start.given (run next live.start.given (arrivals_carried live.read) live.calls).steps body)
      → IsToExecute next live.start.given (arrivals_carried live.read) live.calls proposed body → IsOpenBody live body n.name
  is_open body n to = record { asked = named body n to.called; none_come = by_test (has_arrived (arrivals_carried (live.read ++ live.unread)) body.completion) refl }
    where
      by_own : (has_arrived (arrivals_carried live.start.journal) body.completion ≡ true) ⊎ (1 ≤ count_proposed body.completion proposed) → ⊥
      by_own (inl journal) =
          let wrong : false ≡ true = sym to.not_come ∙ journal_come live (journal_read next live x.asked body to.called) body.completion journal in
          cc
      by_own (inr many) = omega (arith, many, to.not_proposed)

      by_test : (b : Bool) → has_arrived (arrivals_carried (live.read ++ live.unread)) body.completion ≡ b → b ≡ false
      by_test true come = absurd (by_own (x.comes.own body.completion (asked_first body.completion (requested body to.called) come) come))
      by_test false none = refl

pub open_is_recorded : OpenIsRecorded
open_is_recorded next options fallback_seed id events live proposed e body name x none opened = (
  subst (Among (Request.Run body.completion name))
      (sym x.is_live.asked ∙ ap (λ (coming : List Frame). recorded_requests events id ++ requests_sent coming) none ∙ append-nil (recorded_requests events id))
      opened.asked,
  ap (λ (arrivals : List Arrival). has_arrived arrivals body.completion) (sym x.is_live.reads.all.arrivals) ∙ opened.none_come,
)

-- ---- a body that is asked for

module _ {H : Type 0} (function : H → Handler) (next : Handler) (version : Version) (options : VMOptions) (stand : ReplaysStand) (executors : ReplaysTurn) (is_closed : Bool) (live : AttemptInRun) (before : Attempt H)
    (proposed : List (ℕ × NonEmptyValue)) (handle : ℕ) (between : Attempt H) (queued : options.signal_delivery ≡ Queued) (b : HasBodies next live proposed before)
    (s : Serves function next version options live is_closed before) (asks : AsksForBody function handle before between) where
  module _ (r : HasRead function next version options live before) where
    abbrev call_from : (input : Input) → Call
    call_from input = function before.handler input before.answers

    same_input : asks.input ≡ live.start.given.input
    same_input = some_is (sym asks.has_read ∙ r.input)
      where
        some_is : {A : Type 0} {x y : A} → Some x ≡ Some y → x ≡ y
        some_is e = cc

    typed : IsTypedCall (call_from live.start.given.input)
    typed = subst (λ (input : Input). IsTypedCall (call_from input)) same_input asks.comes.typed

    here : Now next version options is_closed live before.vm.state
    here = now function next version options stand is_closed live before queued proposed b.executor b.lives s r typed

    with_them : WithBodies next version options is_closed live before.vm.state here proposed b.executor
    with_them = with_bodies next version options is_closed live before.vm.state here proposed b.executor executors
        (ap (λ (given : Invocation). given.options.signal_delivery) s.of_run.given_is ∙ queued) s.started r.journal b.lives b.keeps b.behind

    comes : Comes live.start.given live.machine (call_of next live here.at) before.vm.state (outcomes.Executes handle) between.vm.state
    comes =
        subst (λ (call : Call). Comes live.start.given live.machine call before.vm.state (outcomes.Executes handle) between.vm.state)
        (ap call_from same_input ∙ called function next version options stand is_closed live before queued proposed b.executor b.lives s r here.at)
        (asks.comes.carries live.start.given live.machine r.driven)

    by_machine : (x : Executes live.start.given live.machine (call_of next live here.at) before.vm.state handle between.vm.state) → AsksForFirst next live proposed handle (run_name function handle before)
    by_machine x = first_of (executes_so next version options is_closed live before.vm.state here proposed b.executor with_them x.waits x.machine x.replies x.written handle between.vm.state.runs x.looks)
      where
        first_of : ExecutesSo next version options is_closed live before.vm.state proposed handle x.machine between.vm.state.runs → AsksForFirst next live proposed handle (run_name function handle before)
        first_of one = record {
          body = one.body;
          handle_is = one.handle_is;
          journal = r.journal;
          first = one.first;
          is_open = subst (IsOpenBody live one.body) (sym (says_name next live.start.given function before _ one.body handle s.handler r.input r.answers one.handle_is its_name))
              (is_open next live proposed b.executor b.lives one.body its_name one.first.to_execute);
        }
          where
            its_name : IsNamed next live.start.given (run next live.start.given (arrivals_carried live.read) live.calls).steps one.body
            its_name = (run_named next live.start.given (arrivals_carried live.read) live.calls).named one.body one.first.to_execute.called

  by_stand : HasNotRead function next version options live is_closed before ⊎ HasRead function next version options live before → AsksForFirst next live proposed handle (run_name function handle before)
  by_stand (inl n) = absurd (none_read (sym n.input ∙ asks.has_read))
    where
      none_read : None ≡ Some asks.input → ⊥
      none_read e = cc
  by_stand (inr r) = by_machine r (comes r)

pub asks_for_open : {H : Type 0} (function : H → Handler) (next : Handler) (version : Version) (options : VMOptions) → ReplaysStand → ReplaysTurn → AsksForOpen function next version options
asks_for_open function next version options stand executors is_closed live before proposed handle between queued b s asks =
    by_stand function next version options stand executors is_closed live before proposed handle between queued b s asks s.stands
