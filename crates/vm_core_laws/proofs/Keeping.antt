-- What is kept of a machine by each call, and that its clauses speak of it then.
use Rattle.std.proofs.Common.{◌≡◌, ◌⊎◌, ◌≤◌, ◌<◌, ◌+◌, ◌^◌, inl, inr, ℕ, zero, suc, Bool, true, false, List, [], Option, Some, None, Result, Ok, Err, refl, sym, ap, subst, ◌∙◌, arith}
use Rattle.std.proofs.lemmas.Bool.{cases_lt}
use Rattle.std.specs.declared.alloc.AllocError.{AllocError}
use Rattle.journal_model.specs.History.{completions_of}
use Rattle.journal_model.specs.Refusal.{Refusal, refusal_of}
use Rattle.journal_model.specs.Request.{Request}
use Rattle.journal_model.specs.Run.{Invocation}
use Rattle.journal_model.specs.State.{StartState}
use Rattle.journal_model.specs.declared.call.Answer.{Answer}
use Rattle.journal_model.specs.declared.call.Call.{Call}
use Rattle.journal_model.specs.declared.options.SignalDelivery.{SignalDelivery}
use Rattle.attempt_model.specs.Children.{Child}
use Rattle.attempt_model.specs.Machine.{Machine, Reply, Answered, Work, ToMake, work_of, reply_to_make, reply_to_work, reply_unless_refused, reply_to}
use Rattle.attempt_model.specs.Requests.{PutState, put_all, requests_by}
use Rattle.protocol_errors.specs.declared.error.Error.{Error}
use Rattle.protocol_stream.specs.declared.decoder.RawMessage.{RawMessage}
use Rattle.protocol_types.specs.Version.{version_number}
use Rattle.protocol_types.specs.declared.version.Version.{Version}
use Rattle.vm_awaits.specs.Views.{AsyncResults, delivery_of, queue_of, ready_of, slots_of}
use Rattle.vm_awaits.specs.Children.{AreMade}
use Rattle.vm_commands.specs.HeaderEquality.{same_header}
use Rattle.vm_calls.specs.Active.{Sees, left_of, has_left, HasCompletions}
use Rattle.vm_calls.specs.CommandCalls.{Replies}
use Rattle.vm_commands.specs.RecordedCommands.{commands_of}
use Rattle.vm_calls.specs.SpentReplay.{IsSpent}
use Rattle.vm_calls.specs.declared.active.Active.{Active}
use Rattle.vm_context.specs.Eager.{KnownState}
use Rattle.vm_context.specs.StateKnowledge.{KnowsState}
use Rattle.vm_context.specs.Output.{Written}
use Rattle.vm_start.specs.FailureReport.{FailsMachine}
use Rattle.vm_start.specs.Phases.{kept_error}
use Rattle.vm_start.specs.declared.phase.Phase.{Phase}
use Rattle.vm_start.specs.declared.phase.Phase.TheVariants as phases
use Rattle.vm_machine.specs.MachineFailure.{MachineFails}
use Rattle.vm_machine.specs.CallAdmission.{is_active, AdmitsWhere}
use Rattle.vm_machine.specs.Steps.{GoesOn, Steps}
use Rattle.vm_machine.specs.declared.admitting.Admission.{Admission}
use Rattle.vm_machine.specs.declared.admitting.Admission.TheVariants.{Admitted, Elsewhere, Stopped}
use Rattle.vm_machine.specs.Calls.{IsOf}
use Rattle.vm_machine.specs.declared.machine_state.MachineState.{MachineState}
use Rattle.vm_feeding.specs.Handles.{started_id}
use Rattle.vm_refusals.specs.declared.refusal_error.RefusalError.{RefusalError}
use Rattle.vm_types.specs.declared.options.JournalMismatchRetryBehavior.{JournalMismatchRetryBehavior}
use Rattle.vm_core_laws.specs.CallPreconditions.{IsSpokenOf}

-- ---- what is kept

-- what is known of the state is known of some start and requests, frames can be written, signals are delivered so, and each child is a
-- completion that was made; so many completions there are at most
pub record Keeps (delivery : SignalDelivery) (active : Active) : Type 0 where
  pub start : StartState
  pub done : List Request
  pub state : KnowsState active.state start done
  pub opened : active.output.is_closed ≡ false
  pub delivers : delivery_of active.results ≡ delivery
  pub made : AreMade active.journal.completions active.children
  pub counted : active.journal.completions ≤ 2 ^ 32

-- so it is where completions and children are as before
pub made_like : (old new : Active) → new.journal.completions ≡ old.journal.completions → new.children ≡ old.children → AreMade old.journal.completions old.children
    → AreMade new.journal.completions new.children
made_like old new completions children made =
    subst (λ (n : ℕ). AreMade n new.children) (sym completions) (subst (λ (cs : List Child). AreMade old.journal.completions cs) (sym children) made)

pub counted_like : (old new : Active) → new.journal.completions ≡ old.journal.completions → old.journal.completions ≤ 2 ^ 32 → new.journal.completions ≤ 2 ^ 32
counted_like old new completions counted = subst (λ (n : ℕ). n ≤ 2 ^ 32) (sym completions) counted

-- it replays where something is left; or nothing is, and it does
abbrev pub Replays : Active → Type 0
Replays active = IsSpent active ⊎ (active.is_replaying ≡ has_left (left_of active))

abbrev pub StandsIn : Phase → SignalDelivery → Active → Type 0
StandsIn phases.WaitingStart delivery active = Keeps delivery active × (active.is_replaying ≡ true)
StandsIn (phases.WaitingReplayEntries left) delivery active = Keeps delivery active × (active.is_replaying ≡ true)
StandsIn phases.Active delivery active = Keeps delivery active × Replays active
StandsIn phases.Closed delivery active = Unit {0}
StandsIn (phases.Failed error) delivery active = Unit {0}

abbrev pub Stands : MachineState → Type 0
Stands vm = StandsIn vm.phase vm.options.signal_delivery vm.active

pub moved : (old new : MachineState) → new ≡ old → Stands old → Stands new
moved old new is stands = subst (λ (vm : MachineState). Stands vm) (sym is) stands

-- ---- where calls are made

pub when_active : (phase : Phase) (delivery : SignalDelivery) (active : Active) → is_active phase ≡ true → StandsIn phase delivery active → Keeps delivery active × Replays active
when_active phases.WaitingStart delivery active is stands = cc
when_active (phases.WaitingReplayEntries left) delivery active is stands = cc
when_active phases.Active delivery active is stands = stands
when_active phases.Closed delivery active is stands = cc
when_active (phases.Failed error) delivery active is stands = cc

pub in_active : (phase : Phase) (delivery : SignalDelivery) (active : Active) → is_active phase ≡ true → Keeps delivery active → Replays active → StandsIn phase delivery active
in_active phases.WaitingStart delivery active is keeps replays = cc
in_active (phases.WaitingReplayEntries left) delivery active is keeps replays = cc
in_active phases.Active delivery active is keeps replays = (keeps, replays)
in_active phases.Closed delivery active is keeps replays = tt
in_active (phases.Failed error) delivery active is keeps replays = tt

pub active_again : (old : MachineState) (active : Active) (new : MachineState) → new ≡ record old { active = active } → is_active old.phase ≡ true
    → Keeps old.options.signal_delivery active → Replays active → Stands new
active_again old active new is calls keeps replays =
    moved (record old { active = active }) new is (in_active old.phase old.options.signal_delivery active calls keeps replays)

-- ---- what a call changes that puts no command

-- what is told of replaying, state, output, delivery and completions is as before, and children stay completions that were made
pub record IsLike (old new : Active) : Type 0 where
  pub replaying : new.is_replaying ≡ old.is_replaying
  pub commands : new.commands.items ≡ old.commands.items
  pub state : new.state ≡ old.state
  pub closed : new.output.is_closed ≡ old.output.is_closed
  pub delivers : delivery_of new.results ≡ delivery_of old.results
  pub completions : new.journal.completions ≡ old.journal.completions
  pub made : AreMade old.journal.completions old.children → AreMade new.journal.completions new.children

pub keeps_like : (delivery : SignalDelivery) (old new : Active) → IsLike old new → Keeps delivery old → Keeps delivery new
keeps_like delivery old new like keeps = record {
  start = keeps.start;
  done = keeps.done;
  state = subst (λ (state : KnownState). KnowsState state keeps.start keeps.done) (sym like.state) keeps.state;
  opened = like.closed ∙ keeps.opened;
  delivers = like.delivers ∙ keeps.delivers;
  made = like.made keeps.made;
  counted = counted_like old new like.completions keeps.counted;
}

pub replays_like : (old new : Active) → IsLike old new → Replays old → Replays new
replays_like old new like (inl spent) = inl (record { replaying = like.replaying ∙ spent.replaying; none = like.commands ∙ spent.none })
replays_like old new like (inr replaying) = inr (like.replaying ∙ replaying ∙ ap (λ (messages : List RawMessage). has_left (commands_of messages)) (sym like.commands))

stands_like : (phase : Phase) (delivery : SignalDelivery) (old new : Active) → IsLike old new → StandsIn phase delivery old → StandsIn phase delivery new
stands_like phases.WaitingStart delivery old new like stands = (keeps_like delivery old new like stands.0, like.replaying ∙ stands.1)
stands_like (phases.WaitingReplayEntries left) delivery old new like stands = (keeps_like delivery old new like stands.0, like.replaying ∙ stands.1)
stands_like phases.Active delivery old new like stands = (keeps_like delivery old new like stands.0, replays_like old new like stands.1)
stands_like phases.Closed delivery old new like stands = tt
stands_like (phases.Failed error) delivery old new like stands = tt

pub like_again : (old : MachineState) (active : Active) (new : MachineState) → new ≡ record old { active = active } → IsLike old.active active → Stands old → Stands new
like_again old active new is like stands =
    moved (record old { active = active }) new is (stands_like old.phase old.options.signal_delivery old.active active like stands)

-- what has come and what handles stand for changes alone
pub results_like : (old new : Active) → new ≡ record old { results = new.results } → delivery_of new.results ≡ delivery_of old.results → IsLike old new
results_like old new is delivers = record {
  replaying = ap (λ (a : Active). a.is_replaying) is;
  commands = ap (λ (a : Active). a.commands.items) is;
  state = ap (λ (a : Active). a.state) is;
  closed = ap (λ (a : Active). a.output.is_closed) is;
  delivers = delivers;
  completions = ap (λ (a : Active). a.journal.completions) is;
  made = made_like old new (ap (λ (a : Active). a.journal.completions) is) (ap (λ (a : Active). a.children) is);
}

-- nothing changes
pub same_like : (old new : Active) → new ≡ old → IsLike old new
same_like old new is = record {
  replaying = ap (λ (a : Active). a.is_replaying) is;
  commands = ap (λ (a : Active). a.commands.items) is;
  state = ap (λ (a : Active). a.state) is;
  closed = ap (λ (a : Active). a.output.is_closed) is;
  delivers = ap (λ (a : Active). delivery_of a.results) is;
  completions = ap (λ (a : Active). a.journal.completions) is;
  made = made_like old new (ap (λ (a : Active). a.journal.completions) is) (ap (λ (a : Active). a.children) is);
}

-- what is written changes alone
pub output_like : (old new : Active) → new ≡ record old { output = new.output } → new.output.is_closed ≡ old.output.is_closed → IsLike old new
output_like old new is closed = record {
  replaying = ap (λ (a : Active). a.is_replaying) is;
  commands = ap (λ (a : Active). a.commands.items) is;
  state = ap (λ (a : Active). a.state) is;
  closed = closed;
  delivers = ap (λ (a : Active). delivery_of a.results) is;
  completions = ap (λ (a : Active). a.journal.completions) is;
  made = made_like old new (ap (λ (a : Active). a.journal.completions) is) (ap (λ (a : Active). a.children) is);
}

-- ---- machines that fail

fails_in : (version : Version) (asked : JournalMismatchRetryBehavior) (cause : Result Error AllocError) (old : Phase) (before : Written) (answer : Error) (new : Phase) (after : Written)
    (delivery : SignalDelivery) (active : Active) → FailsMachine version asked cause old before answer new after → StandsIn new delivery active
fails_in version asked cause phases.WaitingStart before answer new after delivery active fails = subst (λ (p : Phase). StandsIn p delivery active) (sym fails.phase_is) tt
fails_in version asked cause (phases.WaitingReplayEntries left) before answer new after delivery active fails = subst (λ (p : Phase). StandsIn p delivery active) (sym fails.phase_is) tt
fails_in version asked cause phases.Active before answer new after delivery active fails = subst (λ (p : Phase). StandsIn p delivery active) (sym fails.phase_is) tt
fails_in version asked cause phases.Closed before answer new after delivery active fails = subst (λ (p : Phase). StandsIn p delivery active) (sym fails.phase_is) tt
fails_in version asked cause (phases.Failed kept) before answer new after delivery active fails = subst (λ (p : Phase). StandsIn p delivery active) (sym fails.0) tt

pub failed : (cause : Result Error AllocError) (old : MachineState) (answer : Error) (new : MachineState) → MachineFails cause old answer new → Stands new
failed cause old answer new fails =
    fails_in old.version old.options.journal_mismatch_retry_behavior cause old.phase old.active.output answer new.phase new.active.output new.options.signal_delivery new.active fails.fails

-- ---- the steps of a call

module _ {Taken : Type 0} (Makes : MachineState → Result Taken Error → MachineState → Type 0) (Misses : MachineState → Error → MachineState → Type 0) (old new : MachineState) (stands : Stands old)
    (made : (result : Result Taken Error) → is_active old.phase ≡ true → Makes old result new → Stands new) (missed : (answer : Error) → Misses old answer new → Stands new) where
  step_by : (kept : Option Error) (refusal : Option RefusalError) (admission : Admission) (between : MachineState) (result : Result Taken Error) → AdmitsWhere kept refusal old admission between
      → GoesOn Makes Misses admission between result new → Stands new
  step_by (Some kept) refusal Admitted between result admits goes_on = absurd admits
  step_by (Some kept) refusal Elsewhere between result admits goes_on = absurd admits
  step_by (Some kept) refusal (Stopped answer) between result admits goes_on = moved old new (goes_on.1 ∙ admits.0) stands
  step_by None (Some error) Admitted between result admits goes_on = absurd admits
  step_by None (Some error) Elsewhere between result admits goes_on = absurd admits
  step_by None (Some error) (Stopped answer) between result admits goes_on = moved between new goes_on.1 (failed admits.cause old answer between admits.fails)
  step_by None None Admitted between result admits goes_on = made result admits.0 (subst (λ (vm : MachineState). Makes vm result new) admits.1 goes_on)
  step_by None None Elsewhere between (Ok taken) admits goes_on = absurd goes_on
  step_by None None Elsewhere between (Err answer) admits goes_on = missed answer (subst (λ (vm : MachineState). Misses vm answer new) admits.1 goes_on)
  step_by None None (Stopped answer) between result admits goes_on = absurd admits

  pub steps_stand : (refusal : Option RefusalError) (result : Result Taken Error) → Steps Makes Misses refusal old result new → Stands new
  steps_stand refusal result steps = step_by (kept_error old.phase) refusal steps.admission steps.between result steps.admits steps.goes_on

-- ---- the abstract machine that is seen

-- an invocation of the machine's version, id and options
abbrev pub given_of : MachineState → Invocation
given_of vm = record {
  version = version_number vm.version;
  options = record { implicit_cancellation = vm.options.implicit_cancellation; signal_delivery = vm.options.signal_delivery };
  input = record { invocation_id = started_id vm.start; key = []; random_seed = 0; headers = []; input = []; scope = None; limit_key = None; idempotency_key = None };
  start = record { is_whole = false; entries = [] };
}

pub is_of : (vm : MachineState) → IsOf (given_of vm) vm
is_of vm = record { version = refl; cancellation = refl }

abbrev pub machine_in : StartState → List Request → Active → Machine
machine_in start done active = record {
  left = left_of active;
  written = [];
  completions = active.journal.completions;
  signals = active.journal.signals;
  queue = queue_of active.results;
  ready = ready_of active.results;
  slots = slots_of active.results;
  start = start;
  done = done;
  children = active.children;
}

abbrev delivered : Active → SignalDelivery → AsyncResults
delivered active delivery = record { delivery = delivery; queue = queue_of active.results; ready = ready_of active.results; slots = slots_of active.results }

pub seen : (given : Invocation) (active : Active) (keeps : Keeps given.options.signal_delivery active) → active.is_replaying ≡ has_left (left_of active)
    → Sees given active (machine_in keeps.start keeps.done active)
seen given active keeps replaying = record {
  left = refl;
  replaying = replaying;
  results = ap (delivered active) keeps.delivers;
  state = keeps.state;
  completions = refl;
  signals = refl;
  opened = keeps.opened;
  children = refl;
  made = keeps.made;
}

-- a machine that is seen is kept, where its completions are so many at most
pub seen_keeps : (given : Invocation) (active : Active) (m : Machine) → Sees given active m → m.completions ≤ 2 ^ 32 → Keeps given.options.signal_delivery active
seen_keeps given active m sees counted = record {
  start = m.start;
  done = m.done;
  state = sees.state;
  opened = sees.opened;
  delivers = ap (λ (results : AsyncResults). results.delivery) sees.results;
  made = subst (λ (n : ℕ). AreMade n active.children) (sym sees.completions) (subst (λ (cs : List Child). AreMade m.completions cs) (sym sees.children) sees.made);
  counted = subst (λ (n : ℕ). n ≤ 2 ^ 32) (sym sees.completions) counted;
}

pub seen_replays : (given : Invocation) (active : Active) (m : Machine) → Sees given active m → Replays active
seen_replays given active m sees = inr (sees.replaying ∙ ap has_left (sym sees.left))

-- where calls are made, their clauses speak of the machine
pub spoken_of : (vm : MachineState) → Keeps vm.options.signal_delivery vm.active → Replays vm.active → IsSpokenOf vm
spoken_of vm keeps (inl spent) = inr spent
spoken_of vm keeps (inr replaying) = inl (record {
  machine = machine_in keeps.start keeps.done vm.active;
  given = given_of vm;
  is_of = is_of vm;
  id = refl;
  sees = seen (given_of vm) vm.active keeps replaying;
})

-- ---- completions

-- a call that makes what it answers takes its completions
abbrev counted_in : Reply → ℕ
counted_in (Answered answer machine) = machine.completions
counted_in _ = 0

module _ (same : Call → Request → Request → Bool) (given : Invocation) (m : Machine) (call : Call) (answer : Answer) (machine : Machine) where
  by_put : (requests : List Request) (put : Option PutState) → reply_to_make (same call) given m call requests put ≡ Answered answer machine → machine.completions ≡ m.completions + completions_of call
  by_put requests None is = absurd cc
  by_put requests (Some put) is = sym (ap counted_in is)

  by_refusal : (refusal : Option Refusal) → work_of call ≡ ToMake → reply_unless_refused (same call) given m call refusal ≡ Answered answer machine → machine.completions ≡ m.completions + completions_of call
  by_refusal (Some refusal) work is = absurd cc
  by_refusal None work is =
      let requests = requests_by m.start m.done m.left m.completions call in
      by_put requests (put_all (same call) requests (record { left = m.left; written = m.written })) (sym (ap (λ (w : Work). reply_to_work (same call) given m call w) work) ∙ is)

  pub takes_completions : work_of call ≡ ToMake → reply_to same given m call ≡ Answered answer machine → machine.completions ≡ m.completions + completions_of call
  takes_completions work is = by_refusal (refusal_of given.version call) work is

within : (count taken : ℕ) (old : Active) → count ≡ old.journal.completions → HasCompletions taken old → count ≤ 2 ^ 32 → count + taken ≤ 2 ^ 32
within count zero old is has counted = omega (arith, counted)
within count (suc more) old is has counted = elim (cases_lt (2 ^ 32) (count + suc more)) [
  | inl lt ↦ absurd (has (inl (subst (λ (n : ℕ). 2 ^ 32 < n + suc more) is lt)))
  | inr ge ↦ ge
]

-- so many there are then
pub counts_on : (checks_off : Bool) (given : Invocation) (call : Call) (answer : Answer) (start : StartState) (done : List Request) (old new : Active) → work_of call ≡ ToMake → old.journal.completions ≤ 2 ^ 32
    → (replies : Replies checks_off given (machine_in start done old) call answer old new) → replies.machine.completions ≤ 2 ^ 32
counts_on checks_off given call answer start done old new work counted replies =
    subst (λ (n : ℕ). n ≤ 2 ^ 32) (sym (takes_completions (same_header checks_off) given (machine_in start done old) call answer replies.machine work replies.replies))
    (within old.journal.completions (completions_of call) old refl replies.has counted)
