-- A message that is taken leaves the bytes behind it, and does the same whatever they are.
use Rattle.std.proofs.Common.{◌≡◌, ℕ, List, true, Result, Ok, Err, ap, ◌∙◌}
use Rattle.std.specs.declared.alloc.AllocError.{AllocError}
use Rattle.protocol_errors.specs.declared.error.Error.{Error}
use Rattle.protocol_stream.specs.declared.decoder.RawMessage.{RawMessage}
use Rattle.protocol_stream.specs.Header.{message_type}
use Rattle.vm_start.specs.FailureReport.{FailsAs}
use Rattle.vm_start.specs.Phases.{kept_error}
use Rattle.vm_start.specs.declared.phase.Phase.{Phase}
use Rattle.vm_start.specs.declared.phase.Phase.TheVariants as phases
use Rattle.vm_feeding.specs.UnansweredFailure.{HasFailed}
use Rattle.vm_feeding.specs.InputBytes.{has_failed, with_bytes}
use Rattle.vm_machine.specs.MachineFailure.{MachineFails}
use Rattle.vm_machine.specs.MessageKinds.{incoming_of}
use Rattle.vm_machine.specs.declared.entry_error.EntryError.{EntryError}
use Rattle.vm_machine.specs.declared.incoming.Incoming.TheVariants as incoming
use Rattle.vm_machine.specs.declared.incoming.Incoming.{Incoming}
use Rattle.vm_machine.specs.MessageReceipt.{Receives, TakesMessage, TakesAs}
use Rattle.vm_machine.specs.declared.machine_state.MachineState.{MachineState}

-- ---- the bytes that were not read stay

receives_keeps : (message : RawMessage) (kind : Incoming) (old : MachineState) (result : Result (Unit {0}) EntryError) (new : MachineState)
    → Receives message kind old result new → new.decoder ≡ old.decoder
receives_keeps message incoming.Start old (Ok done) new h = ap (λ (vm : MachineState). vm.decoder) h.others
receives_keeps message incoming.Start old (Err error) new h = ap (λ (vm : MachineState). vm.decoder) h.others
receives_keeps message incoming.Command old result new h = ap (λ (vm : MachineState). vm.decoder) h.others
receives_keeps message incoming.Notification old result new h = ap (λ (vm : MachineState). vm.decoder) h.others
receives_keeps message incoming.EphemeralAnswer old result new h = ap (λ (vm : MachineState). vm.decoder) h.others
receives_keeps message incoming.RunAcknowledgement old result new h = ap (λ (vm : MachineState). vm.decoder) h.others
receives_keeps message incoming.Other old result new h = ap (λ (vm : MachineState). vm.decoder) h.1

pub fails_keeps : (cause : Result Error AllocError) (old : MachineState) (answer : Error) (new : MachineState) → MachineFails cause old answer new → new.decoder ≡ old.decoder
fails_keeps cause old answer new h = ap (λ (vm : MachineState). vm.decoder) h.others

taken_keeps : (between : MachineState) (result : Result (Unit {0}) EntryError) (new : MachineState) → TakesAs between result new → new.decoder ≡ between.decoder
taken_keeps between (Ok done) new h = ap (λ (vm : MachineState). vm.decoder) h
taken_keeps between (Err error) new h = fails_keeps h.cause between h.answer new h.fails

pub takes_keeps : (message : RawMessage) (old new : MachineState) → TakesMessage message old new → new.decoder ≡ old.decoder
takes_keeps message old new h =
    taken_keeps h.between h.received new h.takes ∙ receives_keeps message (incoming_of (message_type message.header)) old h.received h.between h.receives

-- ---- with other bytes the same is done

module _ (bytes : List ℕ) where
  receives_over : (message : RawMessage) (kind : Incoming) (old : MachineState) (result : Result (Unit {0}) EntryError) (new : MachineState)
      → Receives message kind old result new → Receives message kind (with_bytes bytes old) result (with_bytes bytes new)
  receives_over message incoming.Start old (Ok done) new h = record { start = h.start; comes = h.comes; others = ap (with_bytes bytes) h.others }
  receives_over message incoming.Start old (Err error) new h = record { comes = h.comes; others = ap (with_bytes bytes) h.others }
  receives_over message incoming.Command old result new h = record { comes = h.comes; others = ap (with_bytes bytes) h.others }
  receives_over message incoming.Notification old result new h = record { comes = h.comes; others = ap (with_bytes bytes) h.others }
  receives_over message incoming.EphemeralAnswer old result new h = record { comes = h.comes; others = ap (with_bytes bytes) h.others }
  receives_over message incoming.RunAcknowledgement old result new h = record { comes = h.comes; others = ap (with_bytes bytes) h.others }
  receives_over message incoming.Other old result new h = (h.0, ap (with_bytes bytes) h.1)

  fails_over : (cause : Result Error AllocError) (old : MachineState) (answer : Error) (new : MachineState)
      → MachineFails cause old answer new → MachineFails cause (with_bytes bytes old) answer (with_bytes bytes new)
  fails_over cause old answer new h = record { fails = h.fails; others = ap (with_bytes bytes) h.others }

  taken_over : (between : MachineState) (result : Result (Unit {0}) EntryError) (new : MachineState)
      → TakesAs between result new → TakesAs (with_bytes bytes between) result (with_bytes bytes new)
  taken_over between (Ok done) new h = ap (with_bytes bytes) h
  taken_over between (Err error) new h = record { cause = h.cause; causes = h.causes; answer = h.answer; fails = fails_over h.cause between h.answer new h.fails }

  pub takes_over : (message : RawMessage) (old new : MachineState) → TakesMessage message old new → TakesMessage message (with_bytes bytes old) (with_bytes bytes new)
  takes_over message old new h = record {
    received = h.received;
    between = with_bytes bytes h.between;
    receives = receives_over message (incoming_of (message_type message.header)) old h.received h.between h.receives;
    takes = taken_over h.between h.received new h.takes;
  }

  pub has_failed_over : (cause : Result Error AllocError) (old new : MachineState) → HasFailed cause old new → HasFailed cause (with_bytes bytes old) (with_bytes bytes new)
  has_failed_over cause old new h = record { answer = h.answer; fails = fails_over cause old h.answer new h.fails }

-- ---- what has failed

failed_is : (cause : Result Error AllocError) (old : MachineState) (answer : Error) (new : MachineState) (before : Phase)
    → FailsAs old.version old.options.journal_mismatch_retry_behavior cause (kept_error before) before old.active.output answer new.phase new.active.output
    → has_failed new.phase ≡ true
failed_is cause old answer new (phases.Failed kept) h = ap has_failed h.0
failed_is cause old answer new phases.WaitingStart h = ap has_failed h.phase_is
failed_is cause old answer new (phases.WaitingReplayEntries left) h = ap has_failed h.phase_is
failed_is cause old answer new phases.Active h = ap has_failed h.phase_is
failed_is cause old answer new phases.Closed h = ap has_failed h.phase_is

pub has_failed_then : (cause : Result Error AllocError) (old new : MachineState) → HasFailed cause old new → has_failed new.phase ≡ true
has_failed_then cause old new h = failed_is cause old h.answer new old.phase h.fails.fails
