-- Calls that put one command, reads of the state, and calls that put none.
use Rattle.std.proofs.Common.{◌≡◌, inl, inr, ℕ, Bool, true, List, Option, Some, None, Result, Ok, Err, sym, ap, subst, ◌∙◌, codes}
use Rattle.std.specs.declared.alloc.AllocError.{AllocError}
use Rattle.journal_model.specs.History.{completions_of}
use Rattle.journal_model.specs.Notification.{Bytes, Text}
use Rattle.journal_model.specs.Run.{Invocation}
use Rattle.journal_model.specs.declared.call.Answer.{Answer}
use Rattle.journal_model.specs.declared.call.Call.{Call}
use Rattle.journal_model.specs.declared.value.Value.{Value}
use Rattle.journal_model.specs.declared.notification.NotificationId.TheVariants.{CompletionId}
use Rattle.attempt_model.specs.Children.{Child}
use Rattle.attempt_model.specs.Machine.{Machine, ToMake, work_of}
use Rattle.attempt_model.specs.Results.{slot_of}
use Rattle.vm_awaits.specs.Children.{AreMade}
use Rattle.vm_waiting.specs.TrackedChildren.{child_of_id, with_taken}
use Rattle.protocol_errors.specs.declared.error.Error.{Error}
use Rattle.protocol_types.specs.declared.message_type.MessageType.{MessageType}
use Rattle.vm_awaits.specs.Views.{AsyncResults, slots_of}
use Rattle.vm_calls.specs.Active.{Sees}
use Rattle.vm_calls.specs.Handles.{LacksHandle, LacksSignal}
use Rattle.vm_calls.specs.CommandCalls.{MakesCommand}
use Rattle.vm_calls.specs.SpentReplay.{IsSpent, FailsSpent}
use Rattle.vm_calls.specs.declared.active.Active.{Active}
use Rattle.vm_calls.specs.declared.call_error.CallError.{CallError}
use Rattle.vm_machine.specs.Calls.{checks_off, IsMade, IsOf, Calls}
use Rattle.vm_machine.specs.CallAdmission.{is_active, IsElsewhere}
use Rattle.vm_machine.specs.Steps.{IsUnexpected, Steps, IsMissed}
use Rattle.vm_machine.specs.declared.machine_state.MachineState.{MachineState}
use Rattle.vm_machine.specs.Causes.{NumberCauses}
use Rattle.vm_machine.specs.CallAnswers.{Settles}
use Rattle.vm_feeding.specs.CommandlessCalls.{AnswersBy, IsCalled}
use Rattle.vm_feeding.specs.Handles.{started_id, MakesSignal, IsNoSignal, MakesAwakeable, IsAwakeableWhere, IsAwakeable, IsNoAwakeableWhere, IsNoAwakeable, TakesFirstResult, TakeCauses}
use Rattle.vm_progress.specs.StateReadEffects.{ReadKind, IsStateRead, MissesNext, SettlesRead, StepsOfRead}
use Rattle.vm_state_reads.specs.ReadAnswers.{Reads}
use Rattle.vm_state_reads.specs.SpentReplay.{ReadFailsSpent}
use Rattle.vm_state_reads.specs.declared.read_error.ReadError.{ReadError}
use Rattle.vm_types.specs.declared.handles.AwakeableHandle.{AwakeableHandle}
use Rattle.vm_types.specs.declared.options.JournalReplay.{JournalReplay}
use Rattle.vm_types.specs.declared.options.JournalReplay.TheVariants.{Enabled, Disabled}
use Rattle.vm_waiting.proofs.TrackLemmas.{taken_made}
use Rattle.vm_core_laws.proofs.Keeping.{Keeps, made_like, Replays, Stands, when_active, active_again, IsLike, like_again, results_like, failed, steps_stand, given_of, is_of, machine_in, seen, seen_keeps, seen_replays, counts_on}

-- ---- calls that put one command

module _ {M Taken : Type 0} (difference : M → M → List ℕ) (call : Call) (work : work_of call ≡ ToMake) (answer : Taken → Answer) (old : MachineState) (calls : is_active old.phase ≡ true)
    (keeps : Keeps old.options.signal_delivery old.active) where
  settled : (replays : Replays old.active) (made : Result Taken (CallError M)) (between : MachineState) (result : Result Taken Error) (new : MachineState) → between ≡ record old { active = between.active }
      → ((given : Invocation) (m : Machine) → IsOf given old → Sees given old.active m
      → MakesCommand (checks_off old.options.non_determinism_checks) given m call answer old.active made between.active)
      → (IsSpent old.active → FailsSpent (completions_of call) old.active made between.active) → Settles difference made between result new → Stands new
  settled replays (Ok taken) between (Err error) new others makes spent settles = absurd settles
  settled replays (Err error) between (Ok taken) new others makes spent settles = absurd settles
  settled replays (Err error) between (Err told) new others makes spent settles = failed settles.cause between told new settles.fails
  settled (inl none) (Ok taken) between (Ok told) new others makes spent settles = absurd (spent none)
  settled (inr replaying) (Ok taken) between (Ok told) new others makes spent settles =
      let given : Invocation = given_of old in
      let replies = makes given (machine_in keeps.start keeps.done old.active) (is_of old) (seen given old.active keeps replaying) in
      active_again old between.active new (settles.1 ∙ others) calls
      (seen_keeps given between.active replies.machine replies.sees
      (counts_on (checks_off old.options.non_determinism_checks) given call (answer taken) keeps.start keeps.done old.active between.active work keeps.counted replies))
      (seen_replays given between.active replies.machine replies.sees)

pub commands_stand : {M Taken : Type 0} (difference : M → M → List ℕ) (call : Call) → work_of call ≡ ToMake → (answer : Taken → Answer) (event : List ℕ) (ty : MessageType) (name : Text) (old : MachineState)
    (result : Result Taken Error) (new : MachineState) → Calls difference call answer event ty name old result new → Stands old → Stands new
commands_stand {Taken = Taken} difference call work answer event ty name old result new made stands =
    steps_stand (IsMade difference call answer ty name) (IsElsewhere (completions_of call) ty name) old new stands make miss made.refusal result made.steps where
      make : (result : Result Taken Error) → is_active old.phase ≡ true → IsMade difference call answer ty name old result new → Stands new
      make result calls is =
          let kept = when_active old.phase old.options.signal_delivery old.active calls stands in
          settled difference call work answer old calls kept.0 kept.1 is.made is.between result new is.others is.makes is.spent is.settles

      miss : (told : Error) → IsElsewhere (completions_of call) ty name old told new → Stands new
      miss told is = failed is.cause _ told new is.fails

-- ---- reads of the state

module _ {L E : Type 0} (kind : ReadKind L E) (call : Call) (work : work_of call ≡ ToMake) (old : MachineState) (calls : is_active old.phase ≡ true) (keeps : Keeps old.options.signal_delivery old.active) where
  settled_read : (replays : Replays old.active) (made : Result ℕ (ReadError L E)) (between : MachineState) (result : Result ℕ Error) (new : MachineState) → between ≡ record old { active = between.active }
      → ((given : Invocation) (m : Machine) → IsOf given old → Sees given old.active m → Reads (checks_off old.options.non_determinism_checks) given m call old.active made between.active)
      → (IsSpent old.active → ReadFailsSpent old.active made between.active) → SettlesRead kind.lazy_difference kind.eager_difference kind.empty made between result new → Stands new
  settled_read replays (Ok taken) between (Err error) new others makes spent settles = absurd settles
  settled_read replays (Err error) between (Ok taken) new others makes spent settles = absurd settles
  settled_read replays (Err error) between (Err told) new others makes spent settles = failed settles.cause between told new settles.fails
  settled_read (inl none) (Ok taken) between (Ok told) new others makes spent settles = absurd (spent none)
  settled_read (inr replaying) (Ok taken) between (Ok told) new others makes spent settles =
      let given : Invocation = given_of old in
      let replies = makes given (machine_in keeps.start keeps.done old.active) (is_of old) (seen given old.active keeps replaying) in
      active_again old between.active new (settles.1 ∙ others) calls
      (seen_keeps given between.active replies.machine replies.sees
      (counts_on (checks_off old.options.non_determinism_checks) given call (Answer.Handle taken) keeps.start keeps.done old.active between.active work keeps.counted replies))
      (seen_replays given between.active replies.machine replies.sees)

pub reads_stand : {L E : Type 0} (kind : ReadKind L E) (call : Call) → work_of call ≡ ToMake → (known : Active → Bool) (name : Text) (old : MachineState) (result : Result ℕ Error) (new : MachineState)
    → StepsOfRead kind call known name old result new → Stands old → Stands new
reads_stand kind call work known name old result new steps stands =
    steps_stand (IsStateRead kind call known name) (MissesNext kind.ty) old new stands make miss None result steps where
      make : (result : Result ℕ Error) → is_active old.phase ≡ true → IsStateRead kind call known name old result new → Stands new
      make result calls is =
          let kept = when_active old.phase old.options.signal_delivery old.active calls stands in
          settled_read kind call work old calls kept.0 kept.1 is.made is.between result new is.others is.reads is.spent is.settles

      miss : (told : Error) → MissesNext kind.ty old told new → Stands new
      miss told is = failed is.cause old told new is.fails

-- ---- calls that put none

called_stand : {Taken Lack : Type 0} (Does : Active → Result Taken Lack → Active → Type 0) (Causes : Lack → Result Error AllocError → Type 0) (old : MachineState)
    → ((taken : Taken) (active : Active) → Does old.active (Ok taken) active → IsLike old.active active) → (made : Result Taken Lack) (active : Active) (result : Result Taken Error) (new : MachineState)
    → Does old.active made active → AnswersBy Causes made (record old { active = active }) result new → Stands old → Stands new
called_stand Does Causes old like (Ok taken) active (Err told) new does answers stands = absurd answers
called_stand Does Causes old like (Err lack) active (Ok taken) new does answers stands = absurd answers
called_stand Does Causes old like (Err lack) active (Err told) new does answers stands = failed answers.cause _ told new answers.fails
called_stand Does Causes old like (Ok taken) active (Ok told) new does answers stands = like_again old active new answers.1 (like taken active does) stands

missed_stand : (Lacks : Type 0) (event : List ℕ) (old : MachineState) (told : Error) (new : MachineState) → IsMissed Lacks event old told new → Stands new
missed_stand Lacks event old told new (inl is) = failed is.1.cause old told new is.1.fails
missed_stand Lacks event old told new (inr is) = failed is.1.cause old told new is.1.fails

signal_like : (name : Text) (old : Active) (handle : ℕ) (new : Active) → MakesSignal name old (Ok handle) new → IsLike old new
signal_like name old handle new made = results_like old new made.2.others (ap (λ (results : AsyncResults). results.delivery) made.2.results)

pub signals_stand : (name : Text) (old : MachineState) (result : Result ℕ Error) (new : MachineState) → Steps (IsCalled (MakesSignal name) NumberCauses) IsNoSignal None old result new
    → Stands old → Stands new
signals_stand name old result new steps stands =
    steps_stand (IsCalled (MakesSignal name) NumberCauses) IsNoSignal old new stands
    (λ result calls is. called_stand (MakesSignal name) NumberCauses old (λ handle active does. signal_like name old.active handle active does) is.made is.active result new is.does is.answers stands)
    (λ told is. missed_stand (LacksHandle old.active) (codes "named awakeable") old told new is) None result steps

awakeable_like : (id : Bytes) (old : Active) (made : AwakeableHandle) (new : Active) → MakesAwakeable id old (Ok made) new → IsLike old new
awakeable_like id old made new makes =
    let takes = makes.2.takes in
    record {
      replaying = ap (λ (a : Active). a.is_replaying) takes.others;
      commands = ap (λ (a : Active). a.commands.items) takes.others;
      state = ap (λ (a : Active). a.state) takes.others;
      closed = ap (λ (a : Active). a.output.is_closed) takes.others;
      delivers = ap (λ (results : AsyncResults). results.delivery) takes.results;
      completions = ap (λ (a : Active). a.journal.completions) takes.others;
      made = made_like old new (ap (λ (a : Active). a.journal.completions) takes.others) (ap (λ (a : Active). a.children) takes.others);
    }

awakeable_where : (replay : JournalReplay) (old : MachineState) (result : Result AwakeableHandle Error) (new : MachineState) → IsAwakeableWhere replay old result new → Stands old → Stands new
awakeable_where Enabled old result new is stands =
    called_stand (MakesAwakeable (started_id old.start)) NumberCauses old (λ made active does. awakeable_like (started_id old.start) old.active made active does) is.made is.active result new is.does is.answers stands
awakeable_where Disabled old (Ok made) new is stands = absurd is
awakeable_where Disabled old (Err told) new is stands = failed _ old told new is

no_awakeable_where : (replay : JournalReplay) (old : MachineState) (told : Error) (new : MachineState) → IsNoAwakeableWhere replay old told new → Stands new
no_awakeable_where Enabled old told new is = missed_stand (LacksSignal old.active) (codes "awakeable") old told new is
no_awakeable_where Disabled old told new is = failed _ old told new is

pub awakeables_stand : (old : MachineState) (result : Result AwakeableHandle Error) (new : MachineState) → Steps IsAwakeable IsNoAwakeable None old result new → Stands old → Stands new
awakeables_stand old result new steps stands =
    steps_stand IsAwakeable IsNoAwakeable old new stands (λ result calls is. awakeable_where old.options.journal_replay old result new is stands)
    (λ told is. no_awakeable_where old.options.journal_replay old told new is) None result steps

-- the invocation id of a child is remembered
remembered_of : (count : ℕ) (child : Option ℕ) (taken : Option Value) (children : List Child) → AreMade count children → AreMade count (with_taken child taken children)
remembered_of count None taken children made = made
remembered_of count (Some n) None children made = made
remembered_of count (Some n) (Some (Value.InvocationId id)) children made = taken_made count (Some (CompletionId n)) (Value.InvocationId id) children made
remembered_of count (Some n) (Some Value.Void) children made = made
remembered_of count (Some n) (Some (Value.Success bytes)) children made = made
remembered_of count (Some n) (Some (Value.Failure failure)) children made = made
remembered_of count (Some n) (Some (Value.StateKeys keys)) children made = made

take_like : (handle : ℕ) (old : Active) (taken : Option Value) (new : Active) → TakesFirstResult handle old (Ok taken) new → IsLike old new
take_like handle old taken new takes = record {
  replaying = ap (λ (a : Active). a.is_replaying) takes.others;
  commands = ap (λ (a : Active). a.commands.items) takes.others;
  state = ap (λ (a : Active). a.state) takes.others;
  closed = ap (λ (a : Active). a.output.is_closed) takes.others;
  delivers = ap (λ (results : AsyncResults). results.delivery) takes.rest;
  completions = ap (λ (a : Active). a.journal.completions) takes.others;
  made = λ made.
      subst (λ (children : List Child). AreMade new.journal.completions children) (sym takes.children)
      (subst (λ (n : ℕ). AreMade n (with_taken (child_of_id (slot_of (slots_of old.results) handle) old.children) taken old.children)) (sym (ap (λ (a : Active). a.journal.completions) takes.others))
      (remembered_of old.journal.completions (child_of_id (slot_of (slots_of old.results) handle) old.children) taken old.children made));
}

pub takes_stand : (handle : ℕ) (old : MachineState) (result : Result (Option Value) Error) (new : MachineState)
    → Steps (IsCalled (TakesFirstResult handle) TakeCauses) (IsUnexpected (codes "TakeNotification")) None old result new → Stands old → Stands new
takes_stand handle old result new steps stands =
    steps_stand (IsCalled (TakesFirstResult handle) TakeCauses) (IsUnexpected (codes "TakeNotification")) old new stands
    (λ result calls is. called_stand (TakesFirstResult handle) TakeCauses old (λ taken active does. take_like handle old.active taken active does) is.made is.active result new is.does is.answers stands)
    (λ told is. failed is.cause old told new is.fails) None result steps
