-- A new machine that was told all, and was asked for its input.
use Rattle.std.proofs.Common.{◌≡◌, ◌⊎◌, inl, inr, ◌∙◌, ℕ, ◌+◌, false, List, [], ◌∷◌, ◌++◌, append-nil, map, length, Option, Some, None, Result, Err, refl, sym, ap, subst}
use Rattle.std.specs.List.{AllByRecursion}
use Rattle.protocol_errors.specs.declared.error.Error.{Error}
use Rattle.protocol_stream.specs.Frame.{message_of}
use Rattle.protocol_stream.specs.Item.{item_at, message}
use Rattle.protocol_types.specs.declared.message_type.MessageType.TheVariants.{InputCommand, Start}
use Rattle.protocol_types.specs.declared.version.Version.{Version}
use Rattle.journal_model.specs.declared.handler.Input.{Input}
use Rattle.journal_model.specs.declared.options.SignalDelivery.{SignalDelivery}
use Rattle.journal_model.specs.Attempt.{input_bytes}
use Rattle.journal_model.specs.Notification.{Bytes}
use Rattle.journal_model.specs.Run.{Invocation}
use Rattle.journal_model.specs.Start.{start_payload_of}
use Rattle.input_laws.specs.Message.{InputMessage, piece_of, arrivals_carried, requests_carried}
use Rattle.attempt_model.specs.Machine.{Machine, machine_at_start}
use Rattle.body_laws.specs.Bodies.{Executor}
use Rattle.live_laws.specs.StartFrame.{AttemptStart, ShowsStart}
use Rattle.live_laws.specs.MachinePosition.{with_messages}
use Rattle.live_laws.proofs.MachinePosition.{only_read}
use Rattle.vm_feeding.specs.NewMachine.{IsNew}
use Rattle.vm_feeding.specs.InputAnswer.{IsInputRead, ReadsInputs}
use Rattle.vm_machine.specs.StartReceipt.{IsFresh}
use Rattle.vm_start.specs.FailureReport.{out_of_memory, ended}
use Rattle.vm_start.specs.Phases.{kept_error}
use Rattle.vm_start.specs.declared.phase.Phase.TheVariants as phases
use Rattle.vm_machine.specs.CallAdmission.{AdmitsWhere, IsElsewhere}
use Rattle.vm_machine.specs.Steps.{GoesOn}
use Rattle.vm_machine.specs.declared.admitting.Admission.{Admission}
use Rattle.vm_machine.specs.declared.admitting.Admission.TheVariants as admissions
use Rattle.vm_machine.specs.declared.machine_state.MachineState.{MachineState}
use Rattle.vm_types.specs.declared.options.VMOptions.{VMOptions}
use Rattle.vm_input_laws.specs.Memory.{FailsForMemory}
use Rattle.vm_input_laws.specs.Messages.{raw_of, MessageFits}
use Rattle.vm_input_laws.specs.InputMessages.{bytes_of}
use Rattle.vm_input_laws.proofs.Inputs.{front, nothing_at, some_is_none}
use Rattle.vm_input_laws.proofs.StartSpelled.{starts_read_back}
use Rattle.vm_input_laws.specs.InputPhases.{IsInputOf, start_told, CanBegin, IsRunOf, phase_kind, new_kind, HasStarted}
use Rattle.vm_input_laws.specs.Laws.{KnowsNoRuns, HoldsStart, ReadsOn, StartsAreRead, AnswersInput, RefusesInput, InputsAreAnswered, BeginsAttempt, AttemptsBegin}
use Rattle.vm_input_laws.proofs.Messages.{all_behind}

-- one that has failed answers that again, with nothing written
asked_again : (version : Version) (first old : MachineState) (result : Result Input Error) (new : MachineState) → first.active.output ≡ record { version = version; bytes = []; is_closed = false; has_commands = false }
    → FailsForMemory first old → IsInputRead old result new → RefusesInput version result new
asked_again version first old result new nothing failed steps =
    go steps.admission (subst (λ (kept : Option Error). AdmitsWhere kept None old steps.admission steps.between) (ap kept_error failed.phase) steps.admits) steps.goes_on
  where
    same_answer : (answer : Error) → (answer ≡ out_of_memory) ⊎ (answer ≡ out_of_memory) → answer ≡ out_of_memory
    same_answer answer (inl same) = same
    same_answer answer (inr same) = same

    go : (admission : Admission) → AdmitsWhere (Some out_of_memory) None old admission steps.between → GoesOn ReadsInputs (IsElsewhere 0 InputCommand []) admission steps.between result new
        → RefusesInput version result new
    go (admissions.Stopped answer) admits goes =
        let same : new ≡ old = goes.1 ∙ admits.0 in
        record {
          answer = goes.0 ∙ ap (λ (error : Error). Err error) (same_answer answer admits.1);
          phase = ap (λ (vm : MachineState). vm.phase) same ∙ failed.phase;
          output = ap (λ (vm : MachineState). vm.active.output) same ∙ failed.output ∙ ap ended nothing;
        }
    go admissions.Admitted admits goes = absurd admits
    go admissions.Elsewhere admits goes = absurd admits

-- where all bytes have come, and none is a whole message, all messages were read
all_read : (still : List InputMessage) (held : List ℕ) → AllByRecursion MessageFits still → held ++ [] ≡ input_bytes (map piece_of still) → item_at held ≡ None → still ≡ []
all_read [] held fit bytes none = refl
all_read (one ∷ still) held fit bytes none =
    absurd (some_is_none (message (raw_of one), input_bytes (map piece_of still))
    (sym (front one fit.0 (input_bytes (map piece_of still))) ∙ ap item_at (sym bytes ∙ append-nil held) ∙ none))

module _ (starts : StartsAreRead) (inputs : InputsAreAnswered) (start : AttemptStart) (shows : ShowsStart start) (version : Version) (options : VMOptions) (messages : List InputMessage) (cuts : List Bytes)
    (old fed : MachineState) (result : Result Input Error) (new : MachineState) (of_run : IsRunOf start version options) (e : Executor) (can : CanBegin start shows) (is : IsInputOf start messages) (known : KnowsNoRuns e messages) (is_new : IsNew version options old)
    (bytes : bytes_of cuts ≡ start.frame ++ input_bytes (map piece_of messages)) (asks : IsInputRead fed result new) where
  abbrev Outcome : Type 0
  Outcome = BeginsAttempt start version options messages fed result new ⊎ RefusesInput version result new

  fresh : IsFresh old.version start.given.options.signal_delivery old.active
  fresh =
      subst (λ (delivery : SignalDelivery). IsFresh old.version delivery old.active) (sym (ap (λ (given : Invocation). given.options.signal_delivery) of_run.given_is))
      (subst (λ (v : Version). IsFresh v options.signal_delivery old.active) (sym is_new.version_is) is_new.active)

  is_kind : phase_kind old ≡ new_kind version options
  is_kind = λ i. record { version = is_new.version_is i; options = is_new.options_are i; is_input_closed = is_new.opened i; reads = is_new.reads i }

  nothing : old.active.output ≡ record { version = version; bytes = []; is_closed = false; has_commands = false }
  nothing = is_new.active.output

  holds : HoldsStart start (new_kind version options) messages (bytes_of cuts ++ []) old
  holds = record {
    awaits = record { kind_is = is_kind; waits = record { phase = is_new.phase; active = fresh }; runs = is_new.runs };
    bytes = ap (λ (held : List ℕ). held ++ (bytes_of cuts ++ [])) is_new.decoder ∙ append-nil (bytes_of cuts) ∙ bytes;
    whole = ap item_at is_new.decoder ∙ nothing_at;
  }

  -- the start has come whole
  not_held : HoldsStart start (new_kind version options) messages [] fed → ⊥
  not_held held =
      let payload = start_payload_of start.new shows.state (1 + length start.journal) shows.shows.retry_count shows.shows.duration in
      let others = input_bytes (map piece_of messages) in
      some_is_none (message (message_of Start payload), others)
      (sym (starts_read_back start.new shows.state (1 + length start.journal) shows.shows.retry_count shows.shows.duration others can.ordered can.well.fits).0.front
      ∙ ap (λ (frame : Bytes). item_at (frame ++ others)) (sym shows.shows.frame_is) ∙ ap item_at (sym held.bytes ∙ append-nil fed.decoder) ∙ held.whole)

  answered : ReadsOn start (start_told start shows) (new_kind version options) [] messages [] fed → Outcome
  answered on = go (inputs start shows (new_kind version options) messages fed result new of_run is started asks)
    where
      none : on.still ≡ []
      none = all_read on.still fed.decoder (all_behind MessageFits on.some on.still (subst (AllByRecursion MessageFits) on.parts is.fit)) on.bytes on.whole

      all : on.some ≡ messages
      all = sym (append-nil on.some) ∙ ap (λ (still : List InputMessage). on.some ++ still) (sym none) ∙ sym on.parts

      started : HasStarted start (start_told start shows) (new_kind version options) messages fed
      started = subst (λ (read : List InputMessage). HasStarted start (start_told start shows) (new_kind version options) read fed) all on.started

      none_held : fed.decoder ≡ []
      none_held = sym (append-nil fed.decoder) ∙ on.bytes ∙ ap (λ (still : List InputMessage). input_bytes (map piece_of still)) none

      at_start : with_messages (machine_at_start start.shown [] []) messages ≡ machine_at_start start.shown (map Some (requests_carried messages)) (arrivals_carried messages)
      at_start = only_read start.shown messages 0 (with_messages (machine_at_start start.shown [] []) messages) (record { none_asked = refl; reads = refl })

      go : AnswersInput start (new_kind version options) (with_messages (machine_at_start start.shown [] []) messages) fed result new ⊎ RefusesInput version result new → Outcome
      go (inl a) = inl (record {
        answers = subst (λ (m : Machine). AnswersInput start (new_kind version options) m fed result new) at_start a;
        held = ap (λ (vm : MachineState). vm.decoder) a.others ∙ none_held;
        runs = ap (λ (vm : MachineState). vm.runs) a.others ∙ on.started.runs;
      })
      go (inr refused) = inr refused

  begun : HoldsStart start (new_kind version options) messages [] fed ⊎ (ReadsOn start (start_told start shows) (new_kind version options) [] messages [] fed ⊎ FailsForMemory old fed) → Outcome
  begun (inl held) = absurd (not_held held)
  begun (inr (inl on)) = answered on
  begun (inr (inr failed)) = inr (asked_again version old fed result new nothing failed asks)

pub attempts_begin : StartsAreRead → InputsAreAnswered → AttemptsBegin
attempts_begin starts inputs start shows version options messages cuts old fed result new e of_run can is known is_new bytes feds asks =
    begun starts inputs start shows version options messages cuts old fed result new of_run e can is known is_new bytes asks
    (starts start shows (new_kind version options) messages cuts [] old fed e can is known
    (holds starts inputs start shows version options messages cuts old fed result new of_run e can is known is_new bytes asks) feds)
