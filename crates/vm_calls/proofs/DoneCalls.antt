-- What each call asks for that is answered at once.
use Rattle.std.proofs.Common.{◌≡◌, ◌∷◌, [], Option, Some, None, refl, sym, ap, ◌∙◌}
use Rattle.journal_model.specs.declared.call.Call.{Call}
use Rattle.journal_model.specs.declared.call.PayloadOptions.{PayloadOptions}
use Rattle.journal_model.specs.declared.value.NonEmptyValue.{NonEmptyValue}
use Rattle.journal_model.specs.Notification.{Text, Bytes}
use Rattle.journal_model.specs.Refusal.{refusal_of}
use Rattle.journal_model.specs.Request.{Request, SignalValue}
use Rattle.journal_model.specs.declared.notification.SignalKey.{SignalKey}
use Rattle.journal_model.specs.Run.{Invocation, name_or_empty}
use Rattle.attempt_model.specs.Machine.{Machine}
use Rattle.protocol_records.specs.declared.output_command.OutputCommandResult.{OutputCommandResult}
use Rattle.protocol_calls.specs.declared.send_signal_command.SendSignalCommandResult.{SendSignalCommandResult}
use Rattle.protocol_calls.specs.declared.send_signal_command.SendSignalCommandSignalId.TheVariants as signal_ids
use Rattle.protocol_calls.specs.declared.complete_awakeable_command.CompleteAwakeableCommandResult.{CompleteAwakeableCommandResult}
use Rattle.protocol_stream.specs.Records.{result_record}
use Rattle.protocol_laws.specs.Records.{signal_record, signal_result, awakeable_result}
use Rattle.protocol_laws.specs.Requests.{request_of_output, request_of_send_signal, request_of_complete_awakeable}
use Rattle.protocol_laws.proofs.Told.{requests_told}
use Rattle.vm_calls.specs.ImmediateCalls.{DoesOne}
use Rattle.vm_calls.proofs.Calls.{brings_none}

module _ (given : Invocation) (m : Machine) where
  pub clear_all_does : (name : Option Text) (copy : Text) → copy ≡ name_or_empty name → DoesOne given m (Call.StateClearAll name) (Request.ClearAllState copy)
  clear_all_does name copy copied = record { asks = record { refused = refl; work = refl; requests = λ i. Request.ClearAllState (sym copied i) ∷ [] }; children = brings_none (Call.StateClearAll name) m.completions refl refl refl refl refl given.options.implicit_cancellation; completions = refl; signals = refl; ids = refl; known = refl; answer = λ id handle signal. refl }

  pub clear_does : (key : Bytes) (name : Option Text) (bytes : Bytes) (copy : Text) → bytes ≡ key → copy ≡ name_or_empty name
      → DoesOne given m (Call.StateClear key name) (Request.ClearState bytes copy)
  clear_does key name bytes copy same copied = record { asks = record { refused = refl; work = refl; requests = λ i. Request.ClearState (sym same i) (sym copied i) ∷ [] }; children = brings_none (Call.StateClear key name) m.completions refl refl refl refl refl given.options.implicit_cancellation; completions = refl; signals = refl; ids = refl; known = refl; answer = λ id handle signal. refl }

  pub set_does : (key value : Bytes) (name : Option Text) (options : PayloadOptions) (bytes : Bytes) (copy : Text) → bytes ≡ key → copy ≡ name_or_empty name
      → DoesOne given m (Call.StateSet key value name options) (Request.SetState bytes value copy)
  set_does key value name options bytes copy same copied = record { asks = record { refused = refl; work = refl; requests = λ i. Request.SetState (sym same i) value (sym copied i) ∷ [] }; children = brings_none (Call.StateSet key value name options) m.completions refl refl refl refl refl given.options.implicit_cancellation; completions = refl; signals = refl; ids = refl; known = refl; answer = λ id handle signal. refl }

  pub cancel_does : (target copy : Text) → copy ≡ [] → DoesOne given m (Call.Cancel target) (Request.SendSignal target (SignalKey.ByIndex 1) SignalValue.Empty copy)
  cancel_does target copy copied = record { asks = record { refused = refl; work = refl; requests = λ i. Request.SendSignal target (SignalKey.ByIndex 1) SignalValue.Empty (sym copied i) ∷ [] }; children = brings_none (Call.Cancel target) m.completions refl refl refl refl refl given.options.implicit_cancellation; completions = refl; signals = refl; ids = refl; known = refl; answer = λ id handle signal. refl }

  pub signal_does : (target name : Text) (value : NonEmptyValue) (copy : Text) → refusal_of given.version (Call.CompleteSignal target name value) ≡ None → copy ≡ []
      → DoesOne given m (Call.CompleteSignal target name value) (Request.SendSignal target (SignalKey.ByName name) (SignalValue.Carries value) copy)
  signal_does target name value copy refused copied = record { asks = record { refused = refused; work = refl; requests = λ i. Request.SendSignal target (SignalKey.ByName name) (SignalValue.Carries value) (sym copied i) ∷ [] }; children = brings_none (Call.CompleteSignal target name value) m.completions refl refl refl refl refl given.options.implicit_cancellation; completions = refl; signals = refl; ids = refl; known = refl; answer = λ id handle signal. refl }

  pub output_does : (value : NonEmptyValue) (options : PayloadOptions) (copy : Text) → refusal_of given.version (Call.Output value options) ≡ None → copy ≡ []
      → DoesOne given m (Call.Output value options) (Request.Output value copy)
  output_does value options copy refused copied = record { asks = record { refused = refused; work = refl; requests = λ i. Request.Output value (sym copied i) ∷ [] }; children = brings_none (Call.Output value options) m.completions refl refl refl refl refl given.options.implicit_cancellation; completions = refl; signals = refl; ids = refl; known = refl; answer = λ id handle signal. refl }

  pub awakeable_does : (awakeable : Text) (value : NonEmptyValue) (options : PayloadOptions) (copy : Text)
      → refusal_of given.version (Call.CompleteAwakeable awakeable value options) ≡ None → copy ≡ []
      → DoesOne given m (Call.CompleteAwakeable awakeable value options) (Request.CompleteAwakeable awakeable value copy)
  awakeable_does awakeable value options copy refused copied = record { asks = record { refused = refused; work = refl; requests = λ i. Request.CompleteAwakeable awakeable value (sym copied i) ∷ [] }; children = brings_none (Call.CompleteAwakeable awakeable value options) m.completions refl refl refl refl refl given.options.implicit_cancellation; completions = refl; signals = refl; ids = refl; known = refl; answer = λ id handle signal. refl }

-- ---- what is handed out is in the request

signal_carries : (value : NonEmptyValue) → signal_record value ≡ signal_result (SignalValue.Carries value)
signal_carries (NonEmptyValue.Success bytes) = refl
signal_carries (NonEmptyValue.Failure failure) = refl

pub signal_requested : (target name : Text) (value : NonEmptyValue) (carried : SendSignalCommandResult) (copy : Text) → carried ≡ signal_record value
    → request_of_send_signal (record { target_invocation_id = target; signal_id = Some (signal_ids.Name name); result = Some carried; entry_name = copy })
    ≡ Some (Request.SendSignal target (SignalKey.ByName name) (SignalValue.Carries value) copy)
signal_requested target name value carried copy is =
    ap (λ (one : SendSignalCommandResult). request_of_send_signal (record { target_invocation_id = target; signal_id = Some (signal_ids.Name name); result = Some one; entry_name = copy })) (is ∙ signal_carries value)
    ∙ requests_told (Request.SendSignal target (SignalKey.ByName name) (SignalValue.Carries value) copy)

pub output_requested : (value : NonEmptyValue) (carried : OutputCommandResult) (copy : Text) → carried ≡ result_record value
    → request_of_output (record { name = copy; result = Some carried }) ≡ Some (Request.Output value copy)
output_requested value carried copy is =
    ap (λ (one : OutputCommandResult). request_of_output (record { name = copy; result = Some one })) is ∙ requests_told (Request.Output value copy)

pub awakeable_requested : (awakeable : Text) (value : NonEmptyValue) (carried : CompleteAwakeableCommandResult) (copy : Text) → carried ≡ awakeable_result value
    → request_of_complete_awakeable (record { awakeable_id = awakeable; result = Some carried; name = copy }) ≡ Some (Request.CompleteAwakeable awakeable value copy)
awakeable_requested awakeable value carried copy is =
    ap (λ (one : CompleteAwakeableCommandResult). request_of_complete_awakeable (record { awakeable_id = awakeable; result = Some one; name = copy })) is
    ∙ requests_told (Request.CompleteAwakeable awakeable value copy)
