-- What names other invocations is read back from its words.
use Rattle.std.proofs.Common.{◌≡◌, Some, refl}
use Rattle.journal_model.specs.declared.call.AttachInvocationTarget.{AttachInvocationTarget}
use Rattle.journal_model.specs.declared.call.AttachInvocationTarget.TheVariants.{InvocationId, WorkflowId, IdempotencyId}
use Rattle.journal_model.specs.declared.call.Target.{Target}
use Rattle.script_lines.specs.LineReader.{then_read}
use Rattle.server_lines.specs.Request.{header_words}
use Rattle.server_lines.specs.Word.{text_word}
use Rattle.server_lines.proofs.RequestLaws.{headers_again}
use Rattle.server_lines.proofs.WordLaws.{text_again}
use Rattle.call_lines.specs.Call.{IsAttached, IsTarget, attached_words}
use Rattle.call_lines.specs.TargetReader.{attached_by, attached_of, id_of, idempotent_of, optionals_of, target_of, workflow_of}
use Rattle.call_lines.specs.Word.{optional_word}
use Rattle.call_lines.specs.WordReader.{pair_read}
use Rattle.call_lines.proofs.WordLaws.{optional_again}

pub target_again : (target : Target) → IsTarget target
    → target_of (text_word target.service) (text_word target.handler) (optional_word target.key) (optional_word target.idempotency_key) (optional_word target.scope) (optional_word target.limit_key) (header_words target.headers) ≡ Some target
unfolding target_of pair_read optionals_of then_read
target_again target h =
    rw (text_again target.service h.service, text_again target.handler h.handler, optional_again target.key h.key, optional_again target.idempotency_key h.idempotency_key, optional_again target.scope h.scope, optional_again target.limit_key h.limit_key, headers_again target.headers h.headers) refl

pub attached_again : (target : AttachInvocationTarget) → IsAttached target → attached_of (attached_words target) ≡ Some target
unfolding attached_of attached_by id_of workflow_of idempotent_of pair_read optionals_of then_read
attached_again (InvocationId id) h = rw (text_again id h) refl
attached_again (WorkflowId name key scope) h = rw (text_again name h.0, text_again key h.1, optional_again scope h.2) refl
attached_again (IdempotencyId service handler idempotency_key key scope) h =
    rw (text_again service h.0, text_again handler h.1, text_again idempotency_key h.2, optional_again key h.3, optional_again scope h.4) refl
