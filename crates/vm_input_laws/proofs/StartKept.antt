-- A start that is taken is kept, or memory was refused.
use Rattle.std.proofs.Common.{◌≡◌, ◌≢◌, ◌⊎◌, inl, inr, ◌∙◌, arith, ℕ, ◌<◌, true, List, [], ◌∷◌, Option, Some, None, Result, Ok, Err, refl, sym, ap, subst}
use Rattle.std.specs.Prelude.{pos}
use Rattle.protocol_table.specs.declared.table.RecordType.TheVariants as records
use Rattle.protocol_errors.specs.Code.{internal}
use Rattle.protocol_errors.specs.declared.typed.BadEagerStateKeyError.{BadEagerStateKeyError}
use Rattle.protocol_records.specs.Start.{start_message_of}
use Rattle.protocol_records.specs.declared.start.StartMessage.{StartMessage}
use Rattle.protocol_records.specs.declared.start.StateEntry.{StateEntry}
use Rattle.protocol_messages.specs.Decodings.{DecodesTo}
use Rattle.protocol_stream.specs.Decoder.{ConsumesNext}
use Rattle.protocol_stream.specs.Records.{start_record}
use Rattle.protocol_stream.specs.Frame.{message_of}
use Rattle.protocol_stream.specs.declared.decoder.RawMessage.{RawMessage}
use Rattle.protocol_types.specs.declared.message_type.MessageType.TheVariants as types
use Rattle.attempt_model.specs.Machine.{machine_at_start}
use Rattle.journal_model.specs.Run.{Invocation}
use Rattle.journal_model.specs.Start.{start_payload_of}
use Rattle.journal_model.specs.State.{StartState}
use Rattle.journal_model.specs.Headline.{shown_state}
use Rattle.vm_calls.specs.declared.active.Active.{Active}
use Rattle.vm_machine.specs.Causes.{TellsPlainError, Unless}
use Rattle.vm_context.specs.Eager.{KnownState}
use Rattle.vm_context.specs.StateKnowledge.{KnowsState, start_state_of}
use Rattle.vm_start.specs.declared.phase.Phase.{Phase}
use Rattle.vm_start.specs.declared.phase.Phase.TheVariants as phases
use Rattle.vm_machine.specs.StateBeforeInput.{Gathers, BeginsGathering}
use Rattle.vm_machine.specs.StartReceipt.{BeginsWith, ReadsStartMessage, ComesStart}
use Rattle.vm_machine.specs.declared.entry_error.EntryError.{EntryError}
use Rattle.vm_machine.specs.declared.entry_error.EntryError.TheVariants as entries
use Rattle.vm_feeding.specs.InputBytes.{has_failed, with_bytes}
use Rattle.vm_machine.specs.MessageReceipt.{TakesAs, TakesNot, ReceivesStart}
use Rattle.vm_machine.specs.declared.machine_state.MachineState.{MachineState}
use Rattle.vm_start.specs.Starts.{pairs_of, AreText, FirstNotText, StartFails, without_state}
use Rattle.vm_start.specs.declared.error.StartError.{StartError}
use Rattle.vm_start.specs.declared.error.StartError.TheVariants as starts
use Rattle.vm_input_laws.specs.Memory.{FailsForMemory}
use Rattle.vm_input_laws.specs.MachineStart.{WaitsForStart, HasAttemptBegun, StartsAreKept}
use Rattle.vm_input_laws.proofs.StartSpelled.{starts_read_back}
use Rattle.vm_input_laws.proofs.Memory.{unless_refused, fails_for_memory, memory_over}
use Rattle.vm_input_laws.proofs.MessagesRead.{same_read, not_unread}

-- keys that are text have none that is not
no_key_fails : (state : List StateEntry) (error : BadEagerStateKeyError) → AreText state → FirstNotText state error → ⊥
no_key_fails [] error text h = h
no_key_fails (entry ∷ state) error text (inl h) = h.0 text.0
no_key_fails (entry ∷ state) error text (inr h) = no_key_fails state error text.1 h.1

-- nothing but its phase, what it keeps, its start and the bytes that were not read has changed
with_start : (rest : List ℕ) (old new : MachineState) → new ≡ record old { decoder = rest; phase = new.phase; active = new.active; start = new.start }
    → new ≡ record old { decoder = new.decoder; phase = new.phase; active = new.active; start = new.start }
with_start rest old new others =
    others ∙ ap (λ (bytes : List ℕ). record old { decoder = bytes; phase = new.phase; active = new.active; start = new.start }) (sym (ap (λ (vm : MachineState). vm.decoder) others))

-- it has begun, whatever bytes were not read
record BegunBy (given : Invocation) (shown : StartState) (told : StartMessage) (old new : MachineState) : Type 0 where
  pub phase : new.phase ≡ phases.WaitingReplayEntries told.known_entries
  pub start : new.start ≡ Some (without_state told)
  pub output : new.active.output ≡ old.active.output
  pub commands : new.active.commands.items ≡ []
  pub gathers : Gathers given new.active (machine_at_start shown [] [])
  pub others : new ≡ record old { phase = new.phase; active = new.active; start = new.start }

module _ (begins : BeginsGathering) (given : Invocation) (shown : StartState) (told : StartMessage) (raw : RawMessage) (decoded : DecodesTo records.Start start_message_of (pos 0) raw (Ok told)) (text : AreText told.state_map)
    (announced : 0 < told.known_entries) (shows : start_state_of told.partial_state (pairs_of told.state_map) ≡ shown) (old : MachineState) (waits : WaitsForStart given old) where
  kept : (between : MachineState) (start : StartMessage) → BeginsWith raw old.active start between.phase between.active
      → between ≡ record old { phase = between.phase; active = between.active; start = Some start } → BegunBy given shown told old between
  kept between start h others =
      let whole : h.reads.whole ≡ told = same_read records.Start start_message_of (pos 0) raw told decoded h.reads.whole h.reads.decoded in
      let start_is : start ≡ without_state told = h.rest ∙ h.reads.begins.rest ∙ ap without_state whole in
      let state : between.active.state ≡ h.started.state = ap (λ (a : Active). a.state) h.others in
      let state_shown : start_state_of h.reads.whole.partial_state (pairs_of h.reads.whole.state_map) ≡ shown =
      ap (λ (w : StartMessage). start_state_of w.partial_state (pairs_of w.state_map)) whole ∙ shows in
      let knows : KnowsState h.started.state shown [] = subst (λ (s : StartState). KnowsState h.started.state s []) state_shown h.reads.begins.knows in
      record {
        phase = h.waits ∙ ap (λ (s : StartMessage). phases.WaitingReplayEntries s.known_entries) start_is;
        start = ap (λ (vm : MachineState). vm.start) others ∙ ap (λ (s : StartMessage). Some s) start_is;
        output = ap (λ (a : Active). a.output) h.others;
        commands = ap (λ (a : Active). a.commands.items) h.others ∙ waits.active.commands;
        gathers = begins old.version given shown old.active between.active waits.active
            (h.others ∙ ap (λ (s : KnownState). record old.active { state = s }) (sym state)) (subst (λ (s : KnownState). KnowsState s shown []) (sym state) knows);
        others = others ∙ ap (λ (s : Option StartMessage). record old { phase = between.phase; active = between.active; start = s }) (sym (ap (λ (vm : MachineState). vm.start) others));
      }

  -- a start with which it would not begin is another
  begins_so : (whole : StartMessage) (error : StartError) → whole ≡ told → StartFails whole error → error ≢ starts.OutOfMemory → ⊥
  begins_so whole (starts.BadStateKey error) same fails differs =
      no_key_fails told.state_map error text (subst (λ (w : StartMessage). FirstNotText w.state_map error) same fails)
  begins_so whole starts.KnownEntriesIsZero same fails differs =
      let none : told.known_entries ≡ 0 = sym (ap (λ (w : StartMessage). w.known_entries) same) ∙ fails.1 in
      absurd (let never : ⊥ = omega (arith, announced, none) in never)
  begins_so whole starts.OutOfMemory same fails differs = differs refl

  refused : (between new : MachineState) (error : EntryError) (not : TakesNot between error new) → Unless true (TellsPlainError internal None) not.cause → between.phase ≡ phases.WaitingStart → between.active ≡ old.active
      → FailsForMemory old new
  refused between new error not causes phase active =
      memory_over old between new (ap (λ (a : Active). a.output) active)
      (fails_for_memory not.cause between new (unless_refused (TellsPlainError internal None) not.cause causes) (ap has_failed phase) (record { answer = not.answer; fails = not.fails }))

  fails : (between new : MachineState) (error : EntryError) → ReadsStartMessage raw (Err error) → between.phase ≡ phases.WaitingStart → between.active ≡ old.active → TakesNot between error new → FailsForMemory old new
  fails between new (entries.Decoding error) reads phase active not = absurd (not_unread records.Start start_message_of (pos 0) raw told decoded error reads.0 reads.1)
  fails between new (entries.Start (starts.BadStateKey error)) reads phase active not =
      absurd (begins_so reads.whole (starts.BadStateKey error) (same_read records.Start start_message_of (pos 0) raw told decoded reads.whole reads.decoded) reads.fails (λ e. cc))
  fails between new (entries.Start starts.KnownEntriesIsZero) reads phase active not =
      absurd (begins_so reads.whole starts.KnownEntriesIsZero (same_read records.Start start_message_of (pos 0) raw told decoded reads.whole reads.decoded) reads.fails (λ e. cc))
  fails between new (entries.Start starts.OutOfMemory) reads phase active not = refused between new (entries.Start starts.OutOfMemory) not not.causes phase active
  fails between new entries.OutOfMemory reads phase active not = refused between new entries.OutOfMemory not not.causes phase active
  fails between new _ reads phase active not = absurd reads

  step : (received : Result (Unit {0}) EntryError) (between new : MachineState) → ReceivesStart raw old received between → TakesAs between received new
      → BegunBy given shown told old new ⊎ FailsForMemory old new
  step (Ok done) between new receives same =
      let comes : BeginsWith raw old.active receives.start between.phase between.active =
      subst (λ (p : Phase). ComesStart raw p old.active (Ok receives.start) between.phase between.active) waits.phase receives.comes in
      inl (subst (λ (vm : MachineState). BegunBy given shown told old vm) (sym same) (kept between receives.start comes receives.others))
  step (Err error) between new receives not =
      let comes = subst (λ (p : Phase). ComesStart raw p old.active (Err error) between.phase between.active) waits.phase receives.comes in
      inr (fails between new error comes.0 comes.1.0 comes.1.1 not)

-- the bytes that are left are none of what is kept
pub starts_are_kept : BeginsGathering → StartsAreKept
starts_are_kept begins given begun state known_entries retry_count duration old new ordered well waits next =
    let told = start_record begun state known_entries retry_count duration in
    let payload = start_payload_of begun state known_entries retry_count duration in
    let read = starts_read_back begun state known_entries retry_count duration [] ordered well.fits in
    let before = with_bytes next.rest old in
    over (step begins given (shown_state begun.state state) told (message_of types.Start payload) read.0.decoded well.text well.announced read.1 before
    (record { phase = waits.phase; active = waits.active }) next.takes.received next.takes.between new next.takes.receives next.takes.takes)
  where
    over : BegunBy given (shown_state begun.state state) (start_record begun state known_entries retry_count duration) (with_bytes next.rest old) new ⊎ FailsForMemory (with_bytes next.rest old) new
        → HasAttemptBegun given (shown_state begun.state state) (start_record begun state known_entries retry_count duration) (start_payload_of begun state known_entries retry_count duration) old new ⊎ FailsForMemory old new
    over (inl h) = inl (record {
      bytes = subst (λ (bytes : List ℕ). ConsumesNext old.decoder (Ok (Some (message_of types.Start (start_payload_of begun state known_entries retry_count duration)))) bytes)
          (sym (ap (λ (vm : MachineState). vm.decoder) h.others)) next.consumes;
      phase = h.phase;
      start = h.start;
      output = h.output;
      commands = h.commands;
      gathers = h.gathers;
      others = with_start next.rest old new h.others;
    })
    over (inr h) = inr (record { phase = h.phase; output = h.output })
