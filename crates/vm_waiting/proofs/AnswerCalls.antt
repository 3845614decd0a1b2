-- What the calls about the answer of another invocation ask for.
use Rattle.std.proofs.Common.{◌≡◌, ◌∷◌, ℕ, [], Some, None, refl, sym, ap, ◌∙◌}
use Rattle.journal_model.specs.declared.call.Call.{Call}
use Rattle.journal_model.specs.declared.call.AttachInvocationTarget.{AttachInvocationTarget}
use Rattle.journal_model.specs.Notification.{Text}
use Rattle.journal_model.specs.Refusal.{refusal_of}
use Rattle.journal_model.specs.Request.{Request}
use Rattle.journal_model.specs.Run.{Invocation}
use Rattle.attempt_model.specs.Machine.{Machine}
use Rattle.protocol_calls.specs.declared.invocation_target.InvocationTarget.{InvocationTarget}
use Rattle.protocol_laws.specs.Commands.{CommandRecord}
use Rattle.protocol_laws.specs.Records.{target_record}
use Rattle.protocol_laws.specs.Requests.{request_told}
use Rattle.protocol_laws.proofs.Told.{requests_told}
use Rattle.vm_calls.specs.CommandCalls.{CompletesOne}
use Rattle.vm_calls.proofs.Calls.{brings_none}

pub attach_completes : (given : Invocation) (m : Machine) (target : AttachInvocationTarget) (copy : Text) (id : ℕ)
    → refusal_of given.version (Call.Attach target) ≡ None → copy ≡ [] → id ≡ m.completions → CompletesOne given m (Call.Attach target) (Request.AttachInvocation target id copy)
attach_completes given m target copy id refused copied taken = record { asks = record { refused = refused; work = refl; requests = λ i. Request.AttachInvocation target (sym taken i) (sym copied i) ∷ [] }; children = brings_none (Call.Attach target) m.completions refl refl refl refl refl given.options.implicit_cancellation; completions = refl; signals = refl; ids = refl; known = refl; keeps = refl; answer = λ text handle signal. refl }

-- the command that holds its target's record is its request's
pub attach_told : (target : AttachInvocationTarget) (held : InvocationTarget) (id : ℕ) (name : Text) → held ≡ target_record target
    → request_told (CommandRecord.AttachInvocation (record { target = Some held; result_completion_id = id; name = name })) ≡ Some (Request.AttachInvocation target id name)
attach_told target held id name is =
    ap (λ (one : InvocationTarget). request_told (CommandRecord.AttachInvocation (record { target = Some one; result_completion_id = id; name = name }))) is
    ∙ requests_told (Request.AttachInvocation target id name)

pub get_output_told : (target : AttachInvocationTarget) (held : InvocationTarget) (id : ℕ) (name : Text) → held ≡ target_record target
    → request_told (CommandRecord.GetInvocationOutput (record { target = Some held; result_completion_id = id; name = name })) ≡ Some (Request.GetInvocationOutput target id name)
get_output_told target held id name is =
    let spelled : request_told (CommandRecord.GetInvocationOutput (record { target = Some (target_record target); result_completion_id = id; name = name })) ≡ Some (Request.GetInvocationOutput target id name) =
    requests_told (Request.GetInvocationOutput target id name) in
    (λ i. request_told (CommandRecord.GetInvocationOutput (record { target = Some (is i); result_completion_id = id; name = name }))) ∙ spelled

pub get_output_completes : (given : Invocation) (m : Machine) (target : AttachInvocationTarget) (copy : Text) (id : ℕ)
    → refusal_of given.version (Call.GetOutput target) ≡ None → copy ≡ [] → id ≡ m.completions → CompletesOne given m (Call.GetOutput target) (Request.GetInvocationOutput target id copy)
get_output_completes given m target copy id refused copied taken = record { asks = record { refused = refused; work = refl; requests = λ i. Request.GetInvocationOutput target (sym taken i) (sym copied i) ∷ [] }; children = brings_none (Call.GetOutput target) m.completions refl refl refl refl refl given.options.implicit_cancellation; completions = refl; signals = refl; ids = refl; known = refl; keeps = refl; answer = λ text handle signal. refl }
