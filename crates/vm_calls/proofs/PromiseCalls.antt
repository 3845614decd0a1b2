-- What the calls about promises ask for.
use Rattle.std.proofs.Common.{◌≡◌, ◌∷◌, ℕ, [], Some, None, refl, sym, ap, ◌∙◌}
use Rattle.journal_model.specs.declared.call.Call.{Call}
use Rattle.journal_model.specs.declared.call.PayloadOptions.{PayloadOptions}
use Rattle.journal_model.specs.declared.value.NonEmptyValue.{NonEmptyValue}
use Rattle.journal_model.specs.Notification.{Text}
use Rattle.journal_model.specs.Refusal.{refusal_of}
use Rattle.journal_model.specs.Request.{Request}
use Rattle.journal_model.specs.Run.{Invocation}
use Rattle.attempt_model.specs.Machine.{Machine}
use Rattle.protocol_commands.specs.declared.complete_promise_command.CompletePromiseCommandCompletion.{CompletePromiseCommandCompletion}
use Rattle.protocol_laws.specs.Records.{promise_completion}
use Rattle.protocol_laws.specs.Requests.{request_of_complete_promise}
use Rattle.protocol_laws.proofs.Told.{requests_told}
use Rattle.vm_calls.proofs.Calls.{brings_none}
use Rattle.vm_calls.specs.CommandCalls.{CompletesOne}

pub get_completes : (given : Invocation) (m : Machine) (key : Text) (copy : Text) (id : ℕ) → copy ≡ [] → id ≡ m.completions
    → CompletesOne given m (Call.GetPromise key) (Request.GetPromise key id copy)
get_completes given m key copy id copied taken = record { asks = record { refused = refl; work = refl; requests = λ i. Request.GetPromise key (sym taken i) (sym copied i) ∷ [] }; children = brings_none (Call.GetPromise key) m.completions refl refl refl refl refl given.options.implicit_cancellation; completions = refl; signals = refl; ids = refl; known = refl; keeps = refl; answer = λ text handle signal. refl }

pub peek_completes : (given : Invocation) (m : Machine) (key : Text) (copy : Text) (id : ℕ) → copy ≡ [] → id ≡ m.completions
    → CompletesOne given m (Call.PeekPromise key) (Request.PeekPromise key id copy)
peek_completes given m key copy id copied taken = record { asks = record { refused = refl; work = refl; requests = λ i. Request.PeekPromise key (sym taken i) (sym copied i) ∷ [] }; children = brings_none (Call.PeekPromise key) m.completions refl refl refl refl refl given.options.implicit_cancellation; completions = refl; signals = refl; ids = refl; known = refl; keeps = refl; answer = λ text handle signal. refl }

pub promise_completes : (given : Invocation) (m : Machine) (key : Text) (value : NonEmptyValue) (options : PayloadOptions) (copy : Text) (id : ℕ)
    → refusal_of given.version (Call.CompletePromise key value options) ≡ None → copy ≡ [] → id ≡ m.completions
    → CompletesOne given m (Call.CompletePromise key value options) (Request.CompletePromise key value id copy)
promise_completes given m key value options copy id refused copied taken = record { asks = record { refused = refused; work = refl; requests = λ i. Request.CompletePromise key value (sym taken i) (sym copied i) ∷ [] }; children = brings_none (Call.CompletePromise key value options) m.completions refl refl refl refl refl given.options.implicit_cancellation; completions = refl; signals = refl; ids = refl; known = refl; keeps = refl; answer = λ text handle signal. refl }

-- the command that holds the value's record is its request's
pub promise_told : (key : Text) (value : NonEmptyValue) (held : CompletePromiseCommandCompletion) (id : ℕ) (name : Text) → held ≡ promise_completion value
    → request_of_complete_promise (record { key = key; completion = Some held; result_completion_id = id; name = name }) ≡ Some (Request.CompletePromise key value id name)
promise_told key value held id name is =
    ap (λ (one : CompletePromiseCommandCompletion). request_of_complete_promise (record { key = key; completion = Some one; result_completion_id = id; name = name })) is
    ∙ requests_told (Request.CompletePromise key value id name)
