-- The input that is first among the recorded commands is given, or memory was refused.
use Rattle.std.proofs.Common.{◌≡◌, ◌⊎◌, inl, inr, ◌∙◌, Bool, true, false, List, [], Option, Some, None, Result, Ok, Err, refl, sym, ap, subst}
use Rattle.std.specs.Prelude.{ℤ, pos, ◌-ℤ◌}
use Rattle.std.specs.declared.alloc.AllocError.{AllocError}
use Rattle.journal_model.specs.Request.{Request}
use Rattle.journal_model.specs.Run.{Invocation}
use Rattle.journal_model.specs.declared.handler.Input.{Input}
use Rattle.attempt_model.specs.Machine.{Machine}
use Rattle.protocol_errors.specs.Code.{internal}
use Rattle.protocol_errors.specs.declared.error.Error.{Error}
use Rattle.protocol_records.specs.InputCommand.{input_command_of}
use Rattle.protocol_records.specs.declared.input_command.InputCommandMessage.{InputCommandMessage}
use Rattle.protocol_records.specs.declared.start.StartMessage.{StartMessage}
use Rattle.protocol_stream.specs.declared.decoder.RawMessage.{RawMessage}
use Rattle.protocol_table.specs.declared.table.RecordType.TheVariants as records
use Rattle.protocol_types.specs.Version.{version_number}
use Rattle.protocol_types.specs.declared.message_type.MessageType.TheVariants.{InputCommand}
use Rattle.vm_calls.specs.declared.active.Active.{Active}
use Rattle.vm_machine.specs.Causes.{TellsPlainError, Unless}
use Rattle.vm_machine.specs.StateBeforeInput.{SeesBehindInput}
use Rattle.vm_machine.specs.Input.{TakesInput, LeavesInput, at_input}
use Rattle.vm_machine.specs.declared.input.InputError.{InputError}
use Rattle.vm_machine.specs.declared.input.InputError.TheVariants as inputs
use Rattle.vm_start.specs.Phases.{kept_error}
use Rattle.vm_feeding.specs.Input.{input_given}
use Rattle.vm_machine.specs.CallAdmission.{IsElsewhere, is_active, AdmitsWhere}
use Rattle.vm_machine.specs.Steps.{GoesOn}
use Rattle.vm_machine.specs.declared.admitting.Admission.{Admission}
use Rattle.vm_machine.specs.declared.admitting.Admission.TheVariants as admissions
use Rattle.vm_machine.specs.declared.machine_state.MachineState.{MachineState}
use Rattle.vm_types.specs.declared.options.JournalReplay.{JournalReplay}
use Rattle.vm_types.specs.declared.options.JournalReplay.TheVariants.{Enabled}
use Rattle.vm_input_laws.proofs.MessagesRead.{not_unread}
use Rattle.vm_input_laws.specs.InputAnswers.{IsInputReady, IsGiven, LacksMemoryForInput, InputsAreRead}
use Rattle.vm_feeding.specs.InputAnswer.{Gives, ReadsAs, AnswersReading, ReadsInputs}
use Rattle.vm_feeding.specs.declared.reading.Reading.{Reading}
use Rattle.vm_feeding.specs.declared.reading.Reading.TheVariants.{Given, Fails, Elsewhere}

-- one of which calls are made is not found elsewhere
never_elsewhere : true ≡ false → ⊥
never_elsewhere e = cc

module _ (follows : SeesBehindInput) (given : Invocation) (m : Machine) (left : List (Option Request)) (told : StartMessage) (input : InputCommandMessage) (old : MachineState) (at : IsInputReady given m left told input old)
    (result : Result Input Error) (new : MachineState) where
  abbrev index : ℤ
  index = pos (at_input old.active).commands -ℤ pos 1

  lacks : (between : MachineState) (cause : Result Error AllocError) (answered : Result Input Error) → answered ≡ result → between ≡ record old { active = between.active } → between.active.output ≡ old.active.output
      → Unless true (TellsPlainError internal None) cause → AnswersReading (Fails cause) between answered new → LacksMemoryForInput old result new
  lacks between (Ok error) answered same others output causes answers = absurd causes
  lacks between (Err refused) (Ok given_input) same others output causes answers = absurd answers
  lacks between (Err refused) (Err answer) same others output causes answers = record {
    between = between;
    phase = ap (λ (vm : MachineState). vm.phase) others;
    output = output;
    refused = refused;
    answer = answer;
    answered = sym same;
    fails = answers;
  }

  module _ (between : MachineState) (others : between ≡ record old { active = between.active }) where
    given_of : (message : InputCommandMessage) (reading : Reading) → message ≡ input → LeavesInput Enabled old.active (Ok message) between.active
        → Gives old.version old.options told between.active (Ok message) reading → AnswersReading reading between result new → IsGiven given m left told input old result new ⊎ LacksMemoryForInput old result new
    given_of message (Given taken) same leaves gives answers = inl (record {
      answer = answers.0 ∙ ap (λ (i : Input). Ok i) (gives ∙ ap (input_given (version_number old.version) old.options.fallback_random_seed told) same);
      sees = follows given m left old.active new.active (subst (λ (vm : MachineState). LeavesInput Enabled old.active (Ok message) vm.active) (sym answers.1) leaves) at.behind at.gathers;
      output = ap (λ (vm : MachineState). vm.active.output) answers.1 ∙ ap (λ (a : Active). a.output) leaves.others;
      others = answers.1 ∙ others ∙ ap (λ (a : Active). record old { active = a }) (sym (ap (λ (vm : MachineState). vm.active) answers.1));
    })
    given_of message (Fails (Ok error)) same leaves gives answers = absurd gives
    given_of message (Fails (Err refused)) same leaves gives answers = inr (lacks between (Err refused) result refl others (ap (λ (a : Active). a.output) leaves.others) tt answers)
    given_of message Elsewhere same leaves gives answers = absurd gives

    unread_of : (error : InputError) (reading : Reading) → TakesInput index (Some at.has_input.message) (Err error) → LeavesInput Enabled old.active (Err error) between.active
        → Gives old.version old.options told between.active (Err error) reading → AnswersReading reading between result new → LacksMemoryForInput old result new
    unread_of (inputs.Decoding error) reading takes leaves gives answers = absurd (not_unread records.InputCommand input_command_of index at.has_input.message input (at.has_input.decoded index) error takes.0 takes.1)
    unread_of (inputs.Unavailable error) reading takes leaves gives answers = absurd takes
    unread_of inputs.OutOfMemory (Given taken) takes leaves gives answers = absurd gives
    unread_of inputs.OutOfMemory (Fails cause) takes leaves gives answers = lacks between cause result refl others (ap (λ (a : Active). a.output) leaves.1) gives answers
    unread_of inputs.OutOfMemory Elsewhere takes leaves gives answers = absurd gives

    read_of : (read : Result InputCommandMessage InputError) (reading : Reading) → TakesInput index (Some at.has_input.message) read → LeavesInput Enabled old.active read between.active
        → Gives old.version old.options told between.active read reading → AnswersReading reading between result new → IsGiven given m left told input old result new ⊎ LacksMemoryForInput old result new
    read_of (Ok message) reading takes leaves gives answers =
        given_of message reading (takes.1.value ∙ sym (at.has_input.decoded index).1.value) leaves gives answers
    read_of (Err error) reading takes leaves gives answers = inr (unread_of error reading takes leaves gives answers)

  made : ReadsInputs old result new → IsGiven given m left told input old result new ⊎ LacksMemoryForInput old result new
  made h =
      let starts : ReadsAs old.version old.options true (Some told) old.active h.reading h.between.active =
      subst (λ (start : Option StartMessage). ReadsAs old.version old.options true start old.active h.reading h.between.active) at.start
      (subst (λ (replaying : Bool). ReadsAs old.version old.options replaying old.start old.active h.reading h.between.active) at.gathers.replaying h.reads) in
      read_of h.between h.others starts.read h.reading
      (subst (λ (next : Option RawMessage). TakesInput index next starts.read) at.has_input.first starts.reads.takes)
      (subst (λ (replay : JournalReplay). LeavesInput replay old.active starts.read h.between.active) at.replays starts.reads.leaves)
      starts.gives h.answers

  stepped : (admission : Admission) (between : MachineState) → AdmitsWhere None None old admission between → GoesOn ReadsInputs (IsElsewhere 0 InputCommand []) admission between result new
      → IsGiven given m left told input old result new ⊎ LacksMemoryForInput old result new
  stepped admissions.Admitted between admits goes = made (subst (λ (vm : MachineState). ReadsInputs vm result new) admits.1 goes)
  stepped admissions.Elsewhere between admits goes = absurd (never_elsewhere (ap is_active (sym at.phase) ∙ admits.0))
  stepped (admissions.Stopped answer) between admits goes = absurd admits

pub inputs_are_read : SeesBehindInput → InputsAreRead
inputs_are_read follows given m left told input old result new at steps =
    stepped follows given m left told input old at result new steps.admission steps.between
    (subst (λ (kept : Option Error). AdmitsWhere kept None old steps.admission steps.between) (ap kept_error at.phase) steps.admits) steps.goes_on
