-- What is known of a machine of whose attempt the input was read, at a turn.
use Rattle.std.proofs.Common.{ℕ, ◌≡◌, ◌∙◌, suc, Bool, List, map, length, sym, ap, subst}
use Rattle.attempt_laws.proofs.Simulating.{simulates}
use Rattle.live_laws.proofs.MachineTurn.{machine_turns}
use Rattle.vm_commands.specs.HeaderEquality.{same_header}
use Rattle.vm_commands.proofs.Comparing.{compares_reflexively}
use Rattle.vm_attempt_laws.specs.AttemptSimulation.{IsOfStore, IsFedBy, HasNumbers, kind_where, HasRead, Serves}
use Rattle.vm_attempt_laws.specs.Bodies.{Executor, IsReplayed, NonEmptyValue, ReplaysStand, StandsReplayed}
use Rattle.vm_attempt_laws.proofs.Recorded.{stored}
use Rattle.vm_attempt_laws.proofs.Messages.{unread_fit}
use Rattle.vm_attempt_laws.proofs.InputAndOutput.{no_arrival_is_held}
use Rattle.vm_attempt_laws.specs.Attempts.{Attempt}
use Rattle.vm_attempt_laws.specs.Machine.{checks_off, MachineState, IsDriven}
use Rattle.vm_attempt_laws.specs.InputOfAttempt.{phase_kind}
use Rattle.vm_attempt_laws.specs.Words.{version_number, Version, Answer, Call, item_at, arrivals_within, answers_of, Request, Handler, Invocation, Progress, piece_of, arrivals_carried, requests_carried, Reply, reply_to, IsInRun, AttemptInRun, VMOptions, Queued, AreOfKind, Fits, next_call, RepliesAsRun, AsksByText, MakesTurns, IsTypedCall}
use Rattle.vm_attempt_laws.proofs.Texts.{HasTextKey, typed_key, asks_on}

-- what its requests are compared by
abbrev pub compares : MachineState → Call → Request → Request → Bool
compares vm = same_header (checks_off vm.options.non_determinism_checks)

-- the call that the handler makes next, and what the abstract machine replies
abbrev pub call_of : (next : Handler) (live : AttemptInRun) → IsInRun next live.start.given live.read live.unread live.calls live.machine → Call
call_of next live at = next_call next live.start.given at.stands.steps

abbrev pub reply_at : (next : Handler) (live : AttemptInRun) (vm : MachineState) → IsInRun next live.start.given live.read live.unread live.calls live.machine → Reply
reply_at next live vm at = reply_to (compares vm) live.start.given live.machine (call_of next live at)

pub record Now (next : Handler) (version : Version) (options : VMOptions) (is_closed : Bool) (live : AttemptInRun) (vm : MachineState) : Type 0 where
  pub at : IsInRun next live.start.given live.read live.unread live.calls live.machine
  pub makes : MakesTurns (compares vm) next live.start.given is_closed live.held live.read live.unread live.calls live.machine at
  pub whole : arrivals_within (map piece_of live.unread) (length live.held) ≡ 0
  pub kind : phase_kind vm ≡ kind_where version options is_closed
  pub driven : IsDriven live.start.given live.machine vm
  pub numbers : HasNumbers live.machine
  pub typed : IsTypedCall (call_of next live at)
  -- what its run has asked for with that call too is by keys that are text
  pub by_text : AsksByText next live.start.given (arrivals_carried live.read) (suc live.calls)
  pub recorded : IsOfStore (call_of next live at)
  pub of_version : live.start.given.version ≡ version_number version
  -- its messages fit
  pub fed : IsFedBy live
  pub fits : Fits next live.start.given (requests_carried live.read) (arrivals_carried live.read)
  pub kinds : AreOfKind next live.start.given (arrivals_carried live.read) live.calls
  pub as_run : RepliesAsRun next live.start.given (requests_carried live.read) (arrivals_carried live.read) live.calls (reply_at next live vm at)

-- ---- where the input was read

module _ {H : Type 0} (function : H → Handler) (next : Handler) (version : Version) (options : VMOptions) (stand : ReplaysStand) (is_closed : Bool) (live : AttemptInRun) (before : Attempt H)
    (queued : options.signal_delivery ≡ Queued) (proposed : List (ℕ × NonEmptyValue)) (e : Executor) (l : IsReplayed next live proposed e)
    (s : Serves function next version options live is_closed before)
    (r : HasRead function next version options live before) where
  stands : StandsReplayed next live
  stands = stand next live proposed e l r.journal

  fits : Fits next live.start.given (requests_carried live.read) (arrivals_carried live.read)
  fits = stands.fits (ap (λ (given : Invocation). given.options.signal_delivery) s.of_run.given_is ∙ queued)

  by_text : AsksByText next live.start.given (arrivals_carried live.read) live.calls
  by_text = stands.by_text

  kinds : AreOfKind next live.start.given (arrivals_carried live.read) live.calls
  kinds = stands.kinds

  abbrev asked : Call
  asked = function before.handler live.start.given.input before.answers

  -- its call is the next one of the run
  pub called : (at : IsInRun next live.start.given live.read live.unread live.calls live.machine) → asked ≡ call_of next live at
  called at =
      ap (λ (handler : Handler). handler live.start.given.input before.answers) s.handler
      ∙ ap (λ (answers : List Answer). next live.start.given.input answers) (r.answers ∙ ap (λ (p : Progress). answers_of p.steps) at.stands.going)

  pub now : IsTypedCall asked → Now next version options is_closed live before.vm.state
  now typed = record {
    at = stands.at;
    makes = machine_turns (compares before.vm.state) next live.start.given is_closed live.held live.read live.unread live.calls live.machine
        (compares_reflexively (checks_off before.vm.state.options.non_determinism_checks)) fits kinds stands.at;
    whole = no_arrival_is_held live.unread live.held l.rest (unread_fit live r.journal s.fed) l.bytes
        (ap item_at (sym s.bytes) ∙ s.whole);
    kind = s.kind;
    driven = r.driven;
    numbers = r.numbers;
    typed = subst IsTypedCall (called stands.at) typed;
    by_text = asks_on next live.start.given l.start.keys (arrivals_carried live.read) live.calls
        (subst (λ (p : Progress). HasTextKey (next live.start.given.input (answers_of p.steps))) (sym stands.at.stands.going)
        (typed_key (call_of next live stands.at) (subst IsTypedCall (called stands.at) typed))) by_text;
    recorded = stored (call_of next live stands.at);
    of_version = ap (λ (given : Invocation). given.version) s.of_run.given_is ∙ s.of_run.version_is;
    fed = s.fed;
    fits = fits;
    kinds = kinds;
    as_run = simulates (compares before.vm.state) next live.start.given (requests_carried live.read) (arrivals_carried live.read) live.calls live.machine
        (compares_reflexively (checks_off before.vm.state.options.non_determinism_checks)) fits kinds stands.at.stands;
  }
