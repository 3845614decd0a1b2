-- A message that is taken is kept, or memory was refused.
use Rattle.std.proofs.Common.{◌≡◌, ◌≢◌, ◌⊎◌, inl, inr, ◌∙◌, ℕ, ◌<◌, ◌^◌, Bool, false, List, [], ◌∷◌, ◌++◌, append-nil, Option, Some, None, Result, Ok, Err, refl, sym, ap, subst}
use Rattle.std.specs.Prelude.{pos}
use Rattle.std.specs.declared.alloc.AllocError.{AllocError}
use Rattle.protocol_errors.specs.Code.{internal}
use Rattle.protocol_errors.specs.declared.error.Error.{Error}
use Rattle.protocol_types.specs.declared.message_type.MessageType.{MessageType}
use Rattle.protocol_stream.specs.Decoder.{ConsumesNext}
use Rattle.protocol_stream.specs.declared.decoder.RawMessage.{RawMessage}
use Rattle.protocol_stream.specs.declared.decoder.DecodingError.{DecodingError}
use Rattle.protocol_stream.specs.declared.decoder.DecodingError.TheVariants as unread
use Rattle.protocol_controls.specs.ProposeRunCompletionAck.{propose_run_completion_ack_of}
use Rattle.protocol_controls.specs.declared.propose_run_completion_ack.ProposeRunCompletionAckMessage.{ProposeRunCompletionAckMessage}
use Rattle.protocol_messages.specs.Decodings.{DecodesNotification}
use Rattle.protocol_table.specs.declared.table.RecordType.TheVariants as records
use Rattle.journal_model.specs.declared.invocation.NewInvocation.{NewInvocation}
use Rattle.journal_model.specs.declared.value.NonEmptyValue.{NonEmptyValue}
use Rattle.journal_model.specs.Notification.{Arrival}
use Rattle.journal_model.specs.Value.{result_of_value}
use Rattle.journal_model.specs.Journal.{completion}
use Rattle.journal_model.specs.Request.{Request}
use Rattle.journal_model.specs.Run.{Invocation}
use Rattle.journal_model.specs.Spelling.{request_type}
use Rattle.input_laws.specs.Message.{InputMessage, CarriesInput, CarriesRequest, CarriesArrival, CarriesOutcome}
use Rattle.attempt_model.specs.Machine.{Machine}
use Rattle.body_laws.specs.Bodies.{Executor}
use Rattle.replay_laws.specs.AttemptWithBodies.{reads_message}
use Rattle.vm_runs.specs.Runs.{Runs, outcome_at}
use Rattle.vm_runs.specs.KeptBodies.{KeepsBodies}
use Rattle.vm_commands.specs.RecordedCommands.{command_of}
use Rattle.vm_calls.specs.declared.active.Active.{Active}
use Rattle.vm_awaits.specs.Views.{results_of}
use Rattle.vm_awaits.specs.Calls.{with_queued}
use Rattle.vm_machine.specs.Causes.{TellsPlainError}
use Rattle.vm_start.specs.Phases.{phase_after_entry}
use Rattle.vm_start.specs.declared.phase.Phase.{Phase}
use Rattle.vm_start.specs.declared.phase.Phase.TheVariants as phases
use Rattle.vm_machine.specs.Entries.{ComesCommand, ComesNotification, Pushes, QueuesIn}
use Rattle.vm_machine.specs.AcknowledgementReceipt.{TellsOutcome, ComesOutcome, ReadsOutcome, TakesTold, TakesAcknowledgement, ComesAcknowledgement}
use Rattle.vm_machine.specs.Answers.{stage_of}
use Rattle.vm_machine.specs.MessageKinds.{incoming_of}
use Rattle.vm_machine.specs.declared.incoming.Incoming.{Incoming}
use Rattle.vm_machine.specs.declared.incoming.Incoming.TheVariants as incoming
use Rattle.vm_machine.specs.declared.entry_error.EntryError.{EntryError}
use Rattle.vm_machine.specs.declared.entry_error.EntryError.TheVariants as entries
use Rattle.vm_machine.specs.StateBeforeInput.{Gathers, with_command, GathersCommands, GathersNotifications}
use Rattle.vm_machine.specs.MessageReceipt.{ReceivesAcknowledgement, TakesMessage, TakesAs, TakesNot, Receives, ReceivesCommand, ReceivesNotification}
use Rattle.vm_feeding.specs.InputBytes.{with_bytes, TakesNext}
use Rattle.vm_machine.specs.MachineFailure.{MachineFails}
use Rattle.vm_machine.specs.declared.machine_state.MachineState.{MachineState}
use Rattle.vm_input_laws.specs.Messages.{raw_of, command_in, runs_then, KeepsMessage, phase_then, Kept, Unkept, IsWaitedFor, MessagesAreKept}
use Rattle.vm_input_laws.proofs.Acknowledging.{acknowledgement_decoded}
use Rattle.vm_input_laws.proofs.Arrivals.{decodes}
use Rattle.vm_input_laws.proofs.MessagesRead.{same_read, not_unread as not_unread_as}
use Rattle.vm_request_laws.proofs.Requests.{payload_read}
use Rattle.vm_input_laws.proofs.Memory.{unless_refused}

-- ---- memory was refused

unkept : (old between new : MachineState) → between.phase ≡ old.phase → between.active.output ≡ old.active.output → TakesNot between entries.OutOfMemory new → Unkept old new
unkept old between new phase output not =
    let refused = unless_refused (TellsPlainError internal None) not.cause not.causes in record {
      between = between;
      phase = phase;
      output = output;
      lacks = record { refused = refused.0; fails = record { answer = not.answer; fails = subst (λ (cause : Result Error AllocError). MachineFails cause between not.answer new) refused.1 not.fails } };
    }

-- the phase, what is kept for the calls and of runs, and the bytes that were not read alone have changed
with_bytes_left : (rest : List ℕ) (old new : MachineState) → new ≡ record old { decoder = rest; phase = new.phase; active = new.active; runs = new.runs }
    → new ≡ record old { decoder = new.decoder; phase = new.phase; active = new.active; runs = new.runs }
with_bytes_left rest old new others =
    others ∙ ap (λ (bytes : List ℕ). record old { decoder = bytes; phase = new.phase; active = new.active; runs = new.runs }) (sym (ap (λ (vm : MachineState). vm.decoder) others))

-- nothing of runs has changed
with_runs : (old new : MachineState) → new ≡ record old { phase = new.phase; active = new.active } → new ≡ record old { phase = new.phase; active = new.active; runs = new.runs }
with_runs old new others =
    others ∙ ap (λ (runs : Runs). record old { phase = new.phase; active = new.active; runs = runs }) (sym (ap (λ (vm : MachineState). vm.runs) others))

-- a message that is no acknowledgement tells nothing of bodies
record TellsNoRun (message : InputMessage) : Type 0 where
  pub runs : (runs : Runs) → runs_then message runs ≡ runs
  pub bodies : (runs : Runs) (e : Executor) → KeepsBodies runs e → KeepsBodies runs (reads_message e message)

of_input : (new : NewInvocation) → TellsNoRun (CarriesInput new)
of_input new = record { runs = λ runs. refl; bodies = λ runs e k. k }

of_recorded : (request : Request) → TellsNoRun (CarriesRequest request)
of_recorded request = record { runs = λ runs. refl; bodies = λ runs e k. record { left = k.left; executing = k.executing; cached = k.cached } }

of_arrival : (ty : MessageType) (arrival : Arrival) → TellsNoRun (CarriesArrival ty arrival)
of_arrival ty arrival = record { runs = λ runs. refl; bodies = λ runs e k. record { left = k.left; executing = k.executing; cached = k.cached } }

-- it is kept, whatever bytes were not read
record KeptBy (given : Invocation) (message : InputMessage) (old new : MachineState) : Type 0 where
  pub phase : new.phase ≡ phase_then old.phase
  pub output : new.active.output ≡ old.active.output
  pub commands : new.active.commands.items ≡ old.active.commands.items ++ command_in message
  pub keeps : KeepsMessage given message old.active new.active
  pub replaying : new.active.is_replaying ≡ old.active.is_replaying
  pub runs : new.runs ≡ runs_then message old.runs
  pub bodies : (e : Executor) → KeepsBodies old.runs e → KeepsBodies new.runs (reads_message e message)
  pub others : new ≡ record old { phase = new.phase; active = new.active; runs = new.runs }

-- where nothing of runs has changed
module _ (message : InputMessage) (none : TellsNoRun message) (old new : MachineState) (same : new.runs ≡ old.runs) where
  runs_same : new.runs ≡ runs_then message old.runs
  runs_same = same ∙ sym (none.runs old.runs)

  bodies_same : (e : Executor) → KeepsBodies old.runs e → KeepsBodies new.runs (reads_message e message)
  bodies_same e k = subst (λ (runs : Runs). KeepsBodies runs (reads_message e message)) (sym same) (none.bodies old.runs e k)

-- the phase once a message was taken, or was not
abbrev phase_after : Result (Unit {0}) EntryError → Phase → Phase
phase_after (Ok done) phase = phase_then phase
phase_after (Err error) phase = phase

-- ---- a command

module _ (gathers_commands : GathersCommands) (given : Invocation) (message : InputMessage) (none : TellsNoRun message) (raw : RawMessage) (command : Option Request) (is : command_of raw ≡ command) (is_left : command_in message ≡ raw ∷ []) (old : MachineState) (left : ℕ) (at : old.phase ≡ phases.WaitingReplayEntries left)
    (keeps : (new : Active) → ((m : Machine) → Gathers given old.active m → Gathers given new (with_command m command)) → KeepsMessage given message old.active new) where
  pushed : (between : MachineState) → (between.phase ≡ phase_after_entry left) × Pushes raw old.active (Ok tt) between.active
      → between ≡ record old { phase = between.phase; active = between.active } → KeptBy given message old between
  pushed between comes others = record {
    phase = comes.0 ∙ ap phase_then (sym at);
    output = ap (λ (a : Active). a.output) comes.1.1;
    commands = comes.1.0 ∙ ap (λ (commands : List RawMessage). old.active.commands.items ++ commands) (sym is_left);
    keeps = keeps between.active (λ m h. subst (λ (c : Option Request). Gathers given between.active (with_command m c)) is (gathers_commands given m raw old.active between.active comes.1 h));
    replaying = ap (λ (a : Active). a.is_replaying) comes.1.1;
    runs = runs_same message none old between (ap (λ (vm : MachineState). vm.runs) others);
    bodies = bodies_same message none old between (ap (λ (vm : MachineState). vm.runs) others);
    others = with_runs old between others;
  }

  command_step : (result : Result (Unit {0}) EntryError) (between new : MachineState) → ComesCommand raw (phases.WaitingReplayEntries left) old.active result between.phase between.active
      → between ≡ record old { phase = between.phase; active = between.active } → TakesAs between result new → KeptBy given message old new ⊎ Unkept old new
  command_step (Ok done) between new comes others same = inl (subst (λ (vm : MachineState). KeptBy given message old vm) (sym same) (pushed between comes others))
  command_step (Err entries.OutOfMemory) between new comes others not = inr (unkept old between new (comes.0 ∙ sym at) (ap (λ (a : Active). a.output) comes.1.1) not)
  command_step (Err _) between new comes others not = absurd comes.1

  command_taken : (new : MachineState) → incoming_of raw.header.ty ≡ incoming.Command → TakesMessage raw old new → KeptBy given message old new ⊎ Unkept old new
  command_taken new kind takes =
      let receives : ReceivesCommand raw old takes.received takes.between = subst (λ (k : Incoming). Receives raw k old takes.received takes.between) kind takes.receives in
      command_step takes.received takes.between new (subst (λ (p : Phase). ComesCommand raw p old.active takes.received takes.between.phase takes.between.active) at receives.comes) receives.others takes.takes

-- ---- an arrival

same_arrival : (raw : RawMessage) (found arrival : Arrival) → DecodesNotification raw (Ok found) → DecodesNotification raw (Ok arrival) → found ≡ arrival
same_arrival raw found arrival one other =
    let same : Ok found ≡ Ok arrival = sym one.1 ∙ other.1 in
    cc

-- what cannot be read is no arrival
not_unread : (raw : RawMessage) (arrival : Arrival) (error : DecodingError) → DecodesNotification raw (Ok arrival) → DecodesNotification raw (Err error) → error ≢ unread.OutOfMemory → ⊥
not_unread raw arrival (unread.MissingField field) read h differs =
    let same : Ok arrival ≡ Err field = sym read.1 ∙ h.1 in
    cc
not_unread raw arrival (unread.DecodeMessage ty fault) read h differs =
    let same : None ≡ Some fault = sym read.0 ∙ h.is_wrong in
    cc
not_unread raw arrival unread.OutOfMemory read h differs = differs refl
not_unread raw arrival _ read h differs = h

module _ (gathers_notifications : GathersNotifications) (given : Invocation) (ty : MessageType) (arrival : Arrival) (raw : RawMessage) (reads : DecodesNotification raw (Ok arrival)) (old : MachineState) where
  queued : (between : MachineState) → between.phase ≡ phase_then old.phase → QueuesIn raw old.active (Ok tt) between.active
      → between ≡ record old { phase = between.phase; active = between.active } → KeptBy given (CarriesArrival ty arrival) old between
  queued between phase queues others =
      let same : queues.queues.notification ≡ arrival = same_arrival raw queues.queues.notification arrival queues.queues.told reads in record {
        phase = phase;
        output = ap (λ (a : Active). a.output) queues.others;
        commands = ap (λ (a : Active). a.commands.items) queues.others ∙ sym (append-nil old.active.commands.items);
        keeps = λ m. gathers_notifications given m arrival old.active between.active
            (queues.queues.queued ∙ ap (λ (a : Arrival). with_queued a (results_of old.active.results)) same) queues.others;
        replaying = ap (λ (a : Active). a.is_replaying) queues.others;
        runs = runs_same (CarriesArrival ty arrival) (of_arrival ty arrival) old between (ap (λ (vm : MachineState). vm.runs) others);
        bodies = bodies_same (CarriesArrival ty arrival) (of_arrival ty arrival) old between (ap (λ (vm : MachineState). vm.runs) others);
        others = with_runs old between others;
      }

  arrival_step : (result : Result (Unit {0}) EntryError) (between new : MachineState) → between.phase ≡ phase_after result old.phase → QueuesIn raw old.active result between.active
      → between ≡ record old { phase = between.phase; active = between.active } → TakesAs between result new → KeptBy given (CarriesArrival ty arrival) old new ⊎ Unkept old new
  arrival_step (Ok done) between new phase queues others same = inl (subst (λ (vm : MachineState). KeptBy given (CarriesArrival ty arrival) old vm) (sym same) (queued between phase queues others))
  arrival_step (Err entries.OutOfMemory) between new phase queues others not = inr (unkept old between new phase (ap (λ (a : Active). a.output) queues.others) not)
  arrival_step (Err (entries.Decoding error)) between new phase queues others not = absurd (not_unread raw arrival error reads queues.queues.0 queues.queues.1)
  arrival_step (Err _) between new phase queues others not = absurd queues.queues

  comes_so : (phase : Phase) (result : Result (Unit {0}) EntryError) (between : MachineState) → IsWaitedFor (CarriesArrival ty arrival) phase
      → ComesNotification raw phase old.active result between.phase between.active → (between.phase ≡ phase_after result phase) × QueuesIn raw old.active result between.active
  comes_so (phases.WaitingReplayEntries left) (Ok done) between waited comes = comes
  comes_so (phases.WaitingReplayEntries left) (Err error) between waited comes = comes
  comes_so phases.Active (Ok done) between waited comes = comes
  comes_so phases.Active (Err error) between waited comes = comes
  comes_so _ result between waited comes = absurd waited

  arrival_taken : (new : MachineState) → IsWaitedFor (CarriesArrival ty arrival) old.phase → incoming_of raw.header.ty ≡ incoming.Notification → TakesMessage raw old new
      → KeptBy given (CarriesArrival ty arrival) old new ⊎ Unkept old new
  arrival_taken new waited kind takes =
      let receives : ReceivesNotification raw old takes.received takes.between = subst (λ (k : Incoming). Receives raw k old takes.received takes.between) kind takes.receives in
      let comes = comes_so old.phase takes.received takes.between waited receives.comes in
      arrival_step takes.received takes.between new comes.0 comes.1 receives.others takes.takes

-- ---- an acknowledgement

module _ (gathers_notifications : GathersNotifications) (given : Invocation) (number : ℕ) (value : NonEmptyValue) (old : MachineState) (small : number < 2 ^ 32) (kept : outcome_at old.runs.cached number ≡ Some value) where
  abbrev raw : RawMessage
  raw = raw_of (CarriesOutcome number value)

  abbrev After : MachineState → Type 0
  After new = KeptBy given (CarriesOutcome number value) old new ⊎ Unkept old new

  -- it comes, or it is lost for want of memory
  come : (result : Result (Unit {0}) EntryError) (between new : MachineState) → phase_then old.phase ≡ old.phase → between ≡ record old { active = between.active; runs = between.runs }
      → between.active ≡ record old.active { results = between.active.results } → ReadsOutcome number old.runs (results_of old.active.results) result between.runs (results_of between.active.results)
      → ComesOutcome number (Some value) (results_of old.active.results) result (results_of between.active.results) → TakesAs between result new → After new
  come (Ok done) between new same others active reads comes is = inl (subst (λ (vm : MachineState). KeptBy given (CarriesOutcome number value) old vm) (sym is) (record {
    phase = ap (λ (vm : MachineState). vm.phase) others ∙ sym same;
    output = ap (λ (a : Active). a.output) active;
    commands = ap (λ (a : Active). a.commands.items) active ∙ sym (append-nil old.active.commands.items);
    keeps = λ m. gathers_notifications given m (completion number (result_of_value value)) old.active between.active comes active;
    replaying = ap (λ (a : Active). a.is_replaying) active;
    runs = reads.left;
    bodies = λ e k. (reads.bodies e k).1 value;
    others = others ∙ ap (λ (phase : Phase). record old { phase = phase; active = between.active; runs = between.runs }) (sym (ap (λ (vm : MachineState). vm.phase) others));
  }))
  come (Err entries.OutOfMemory) between new same others active reads comes not =
      inr (unkept old between new (ap (λ (vm : MachineState). vm.phase) others) (ap (λ (a : Active). a.output) active) not)
  come (Err _) between new same others active reads comes not = absurd comes

  told_so : (told : Result ℕ EntryError) (result : Result (Unit {0}) EntryError) (between new : MachineState) → phase_then old.phase ≡ old.phase → between ≡ record old { active = between.active; runs = between.runs }
      → between.active ≡ record old.active { results = between.active.results } → TellsOutcome raw told
      → TakesTold told old.runs (results_of old.active.results) result between.runs (results_of between.active.results) → TakesAs between result new → After new
  told_so (Ok found) result between new same others active tells takes is =
      let number_is : found ≡ number = tells.id ∙ ap (λ (whole : ProposeRunCompletionAckMessage). whole.completion_id)
      (same_read records.ProposeRunCompletionAck propose_run_completion_ack_of (pos 0) raw (record { completion_id = number }) (acknowledgement_decoded number small) tells.whole tells.decoded) in
      let reads = subst (λ (n : ℕ). ReadsOutcome n old.runs (results_of old.active.results) result between.runs (results_of between.active.results)) number_is takes in
      come result between new same others active reads
      (subst (λ (found : Option NonEmptyValue). ComesOutcome number found (results_of old.active.results) result (results_of between.active.results)) kept reads.comes) is
  told_so (Err (entries.Decoding error)) result between new same others active tells takes is =
      absurd (not_unread_as records.ProposeRunCompletionAck propose_run_completion_ack_of (pos 0) raw (record { completion_id = number }) (acknowledgement_decoded number small) error tells.0 tells.1)
  told_so (Err entries.OutOfMemory) result between new same others active tells takes is =
      inr (unkept old between new (ap (λ (vm : MachineState). vm.phase) others) (ap (λ (a : Active). a.output) active)
      (subst (λ (r : Result (Unit {0}) EntryError). TakesAs between r new) takes.0 is))
  told_so (Err _) result between new same others active tells takes is = absurd tells

  outcome_taken : (new : MachineState) → old.phase ≡ phases.Active → old.active.is_replaying ≡ false → TakesMessage raw old new → After new
  outcome_taken new at behind takes =
      let receives : ReceivesAcknowledgement raw old takes.received takes.between = takes.receives in
      let comes : TakesAcknowledgement raw old.runs old.active takes.received takes.between.runs takes.between.active =
      subst (λ (b : Bool). ComesAcknowledgement raw (stage_of phases.Active b) old.runs old.active takes.received takes.between.runs takes.between.active) behind
      (subst (λ (p : Phase). ComesAcknowledgement raw (stage_of p old.active.is_replaying) old.runs old.active takes.received takes.between.runs takes.between.active) at receives.comes) in
      told_so comes.told takes.received takes.between new (ap phase_then at ∙ sym at) receives.others comes.others comes.tells comes.takes takes.takes

outcome_at_active : (number : ℕ) (value : NonEmptyValue) (phase : Phase) → IsWaitedFor (CarriesOutcome number value) phase → phase ≡ phases.Active
outcome_at_active number value phases.Active waited = refl
outcome_at_active number value _ waited = absurd waited

-- ---- any message

of_request : (request : Request) → incoming_of (request_type request) ≡ incoming.Command
of_request (Request.Output value name) = refl
of_request _ = refl

waits_input : (new : NewInvocation) (phase : Phase) → IsWaitedFor (CarriesInput new) phase → (left : ℕ) × (phase ≡ phases.WaitingReplayEntries left)
waits_input new (phases.WaitingReplayEntries left) waited = (left, refl)
waits_input new _ waited = absurd waited

waits_request : (request : Request) (phase : Phase) → IsWaitedFor (CarriesRequest request) phase → (left : ℕ) × (phase ≡ phases.WaitingReplayEntries left)
waits_request request (phases.WaitingReplayEntries left) waited = (left, refl)
waits_request request _ waited = absurd waited

-- the bytes behind it stay
over : (given : Invocation) (message : InputMessage) (old new : MachineState) (next : TakesNext (raw_of message) old new)
    → KeptBy given message (with_bytes next.rest old) new ⊎ Unkept (with_bytes next.rest old) new → Kept given message old new ⊎ Unkept old new
over given message old new next (inl h) = inl (record {
  bytes = subst (λ (bytes : List ℕ). ConsumesNext old.decoder (Ok (Some (raw_of message))) bytes) (sym (ap (λ (vm : MachineState). vm.decoder) h.others)) next.consumes;
  phase = h.phase;
  output = h.output;
  commands = h.commands;
  keeps = h.keeps;
  replaying = h.replaying;
  runs = h.runs;
  bodies = h.bodies;
  others = with_bytes_left next.rest old new h.others;
})
over given message old new next (inr h) = inr (record { between = h.between; phase = h.phase; output = h.output; lacks = h.lacks })

pub messages_are_kept : GathersCommands → GathersNotifications → MessagesAreKept
messages_are_kept commands notifications given (CarriesInput new_invocation) old new fits waited expected next =
    let at = waits_input new_invocation old.phase waited in
    over given (CarriesInput new_invocation) old new next (command_taken commands given (CarriesInput new_invocation) (of_input new_invocation) (raw_of (CarriesInput new_invocation)) None refl refl (with_bytes next.rest old) at.0 at.1 (λ active h. h) new refl next.takes)
messages_are_kept commands notifications given (CarriesRequest request) old new fits waited expected next =
    let at = waits_request request old.phase waited in
    over given (CarriesRequest request) old new next (command_taken commands given (CarriesRequest request) (of_recorded request) (raw_of (CarriesRequest request)) (Some request) (payload_read request fits) refl (with_bytes next.rest old) at.0 at.1 (λ active h. h) new (of_request request) next.takes)
messages_are_kept commands notifications given (CarriesArrival ty arrival) old new fits waited expected next =
    over given (CarriesArrival ty arrival) old new next (arrival_taken notifications given ty arrival (raw_of (CarriesArrival ty arrival)) (decodes ty arrival fits.0) (with_bytes next.rest old) new waited fits.1.kind next.takes)
messages_are_kept commands notifications given (CarriesOutcome number value) old new fits waited expected next =
    over given (CarriesOutcome number value) old new next
    (outcome_taken notifications given number value (with_bytes next.rest old) fits expected.0 new (outcome_at_active number value old.phase waited) expected.1 next.takes)
