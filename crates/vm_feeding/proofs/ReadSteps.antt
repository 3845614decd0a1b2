-- What each step of an ephemeral read shows of the machine.
use Rattle.std.proofs.Common.{◌≡◌, ◌≤◌, ◌<◌, ◌^◌, ◌↔◌, inl, inr, ℕ, true, Result, Ok, Err, refl, ap, subst}
use Rattle.std.proofs.lemmas.Bool.{cases_lt}
use Rattle.std.specs.declared.alloc.AllocError.{AllocError}
use Rattle.journal_model.specs.Notification.{Text}
use Rattle.journal_model.specs.declared.value.Value.{Value}
use Rattle.protocol_errors.specs.declared.error.Error.{Error}
use Rattle.protocol_stream.specs.Frame.{spelled}
use Rattle.protocol_stream.specs.declared.encoder.EncodingError.{EncodingError}
use Rattle.protocol_stream.specs.declared.encoder.EncodingError.TheVariants as unsent
use Rattle.vm_context.specs.Eager.{tells_value}
use Rattle.vm_context.specs.Output.{Written, with_frame}
use Rattle.vm_context.specs.declared.eager_state.EagerGetState.{EagerGetState}
use Rattle.vm_context.specs.declared.eager_state.EagerGetState.TheVariants as told
use Rattle.vm_types.specs.Reads.{EphemeralReads, known, asked}
use Rattle.vm_types.specs.declared.commands.RegisterError.{RegisterError}
use Rattle.vm_types.specs.declared.commands.RegisterError.TheVariants as unregistered
use Rattle.vm_machine.specs.MachineFailure.{MachineFails}
use Rattle.vm_machine.specs.declared.machine_state.MachineState.{MachineState}
use Rattle.vm_types.specs.declared.handles.EphemeralCompletionId.{EphemeralCompletionId}
use Rattle.vm_feeding.specs.EphemeralStateReads.{read_message, IsReadTooLong, RegisterCauses, SendCauses, LacksNumber, Registers, Sends, AsksNext, AsksRead, Gets}

-- ---- numbers

-- it is told exactly where it is so
abbrev IsExhausted : Result EphemeralCompletionId RegisterError → (next : ℕ) → Type 0
IsExhausted made next = (made ≡ Err unregistered.IdsExhausted) ↔ (2 ^ 32 ≤ next)

left_over : (next : ℕ) (id : EphemeralCompletionId) → IsExhausted (Ok id) next → next < 2 ^ 32
left_over next id exhausted = elim (cases_lt next (2 ^ 32)) [
  | inl lt ↦ lt
  | inr ge ↦ cc (exhausted.1 ge)
]

pub registered : (value : Value) (old : MachineState) (id : EphemeralCompletionId) (reads : EphemeralReads) → IsExhausted (Ok id) old.reads.next
    → id.number ≡ old.reads.next → reads ≡ known value old.reads → Registers value old (Ok id) (record old { reads = reads })
registered value old id reads exhausted next is = (left_over old.reads.next id exhausted, next, ap (λ (reads : EphemeralReads). record old { reads = reads }) is)

pub unregistered_for : (error : RegisterError) (cause : Result Error AllocError) (old between : MachineState) (answer : Error) (new : MachineState) → between ≡ old
    → IsExhausted (Err error) old.reads.next → RegisterCauses error cause → MachineFails cause between answer new → LacksNumber old answer new
unregistered_for unregistered.IdsExhausted (Ok told) old between answer new same exhausted causes fails = record { cause = Ok told; causes = (exhausted.0 refl, causes); fails = subst (λ (vm : MachineState). MachineFails (Ok told) vm answer new) same fails }
unregistered_for unregistered.IdsExhausted (Err refused) old between answer new same exhausted causes fails = record { cause = Err refused; causes = tt; fails = subst (λ (vm : MachineState). MachineFails (Err refused) vm answer new) same fails }
unregistered_for unregistered.OutOfMemory (Ok told) old between answer new same exhausted causes fails = absurd causes
unregistered_for unregistered.OutOfMemory (Err refused) old between answer new same exhausted causes fails = record { cause = Err refused; causes = tt; fails = subst (λ (vm : MachineState). MachineFails (Err refused) vm answer new) same fails }

-- ---- frames

abbrev TellsLong : Result (Unit {0}) EncodingError → (long : Type 0) → Type 0
TellsLong written long = (written ≡ Err unsent.PayloadTooLong) ↔ long

module _ (id : EphemeralCompletionId) (key : Text) (old : MachineState) where
  pub sent : (output : Written) → TellsLong (Ok tt) (IsReadTooLong id.number key old.active.output) → output ≡ with_frame (spelled (read_message old.active.output.version id.number key)) old.active.output
      → Sends id key old (Ok id) (record old { active = record old.active { output = output } })
  sent output long is = ((λ wrong. cc (long.1 wrong)), refl, ap (λ (output : Written). record old { active = record old.active { output = output } }) is)

  pub unsent_for : (error : EncodingError) (cause : Result Error AllocError) (between : MachineState) (answer : Error) (new : MachineState) → between ≡ old
      → TellsLong (Err error) (IsReadTooLong id.number key old.active.output) → SendCauses error cause → MachineFails cause between answer new → Sends id key old (Err answer) new
  unsent_for unsent.PayloadTooLong (Ok told) between answer new same long causes fails = record { cause = Ok told; causes = (long.0 refl, causes); fails = subst (λ (vm : MachineState). MachineFails (Ok told) vm answer new) same fails }
  unsent_for unsent.PayloadTooLong (Err refused) between answer new same long causes fails = record { cause = Err refused; causes = tt; fails = subst (λ (vm : MachineState). MachineFails (Err refused) vm answer new) same fails }
  unsent_for unsent.OutOfMemory (Ok told) between answer new same long causes fails = absurd causes
  unsent_for unsent.OutOfMemory (Err refused) between answer new same long causes fails = record { cause = Err refused; causes = tt; fails = subst (λ (vm : MachineState). MachineFails (Err refused) vm answer new) same fails }

-- ---- the runtime is asked

pub asks : (key : Text) (old : MachineState) (id : EphemeralCompletionId) (reads : EphemeralReads) (result : Result EphemeralCompletionId Error) (new : MachineState)
    → IsExhausted (Ok id) old.reads.next → id.number ≡ old.reads.next → reads ≡ asked old.reads
    → Sends id key (record old { reads = reads }) result new → AsksRead key old result new
asks key old id reads result new exhausted next is sends = as_asked result (record {
  left = left_over old.reads.next id exhausted;
  id = id;
  next = next;
  sends = subst (λ (reads : EphemeralReads). Sends id key (record old { reads = reads }) result new) is sends;
}) where
  as_asked : (result : Result EphemeralCompletionId Error) → AsksNext key old result new → AsksRead key old result new
  as_asked (Ok id) h = h
  as_asked (Err answer) h = inl h

-- ---- what is known

-- memory is refused to a value alone
pub unread : (known : EagerGetState) (key : Text) (old : MachineState) (refused : AllocError) (answer : Error) (new : MachineState) → tells_value known ≡ true → MachineFails (Err refused) old answer new
    → Gets known key old (Err answer) new
unread (told.Value value) key old refused answer new tells fails = record { cause = Err refused; causes = tt; fails = fails }
unread told.Empty key old refused answer new tells fails = cc
unread told.Unknown key old refused answer new tells fails = cc
