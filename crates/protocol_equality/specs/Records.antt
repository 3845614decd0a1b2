-- When records, and what they hold, are the same: every field is.
use Rattle.std.specs.Prelude.{ℕ, Bool, true, ◌&&◌, List, Option, nat_eq, refl}
use Rattle.std.proofs.Common.{ap}
use Rattle.std.specs.Cmp.Lexicographic.{pointwise, pointwise_decides, bytes_decides}
use Rattle.protocol_equality.specs.EqualityTests.{DecidesErased, whole, in_full, deciding, both_tell, parts_tell}
use Rattle.protocol_equality.specs.Parts.{same_text, same_optional_text, numbers_tell, texts_tell, optional_texts_tell}
use Rattle.protocol_records.specs.declared.header.Header.{Header}
use Rattle.protocol_records.specs.declared.failure.FailureMetadata.{FailureMetadata}
use Rattle.protocol_records.specs.declared.failure.Failure.{Failure}
use Rattle.protocol_records.specs.declared.value.Value.{Value}
use Rattle.protocol_records.specs.declared.void.Void.{Void}
use Rattle.protocol_records.specs.declared.state_keys.StateKeys.{StateKeys}
use Rattle.protocol_calls.specs.declared.workflow_target.WorkflowTarget.{WorkflowTarget}
use Rattle.protocol_calls.specs.declared.idempotent_request_target.IdempotentRequestTarget.{IdempotentRequestTarget}

abbrev pub same_header : Header → Header → Bool
same_header x y = same_text x.key y.key && same_text x.value y.value

abbrev header_parts : Header → (List ℕ) × (List ℕ)
header_parts x = (x.key, x.value)

pub header_tells : DecidesErased same_header (whole {A = Header})
header_tells = parts_tell header_parts whole (λ x y h i. record { key = (h i).0; value = (h i).1 }) (λ x y h. ap header_parts h) (both_tell texts_tell texts_tell)

abbrev pub same_failure_metadata : FailureMetadata → FailureMetadata → Bool
same_failure_metadata x y = same_text x.key y.key && same_text x.value y.value

abbrev failure_metadata_parts : FailureMetadata → (List ℕ) × (List ℕ)
failure_metadata_parts x = (x.key, x.value)

pub failure_metadata_tells : DecidesErased same_failure_metadata (whole {A = FailureMetadata})
failure_metadata_tells = parts_tell failure_metadata_parts whole (λ x y h i. record { key = (h i).0; value = (h i).1 }) (λ x y h. ap failure_metadata_parts h) (both_tell texts_tell texts_tell)

abbrev pub same_failure : Failure → Failure → Bool
same_failure x y = nat_eq x.code y.code && same_text x.message y.message && pointwise same_failure_metadata x.metadata y.metadata

abbrev failure_parts : Failure → (ℕ × (List ℕ)) × (List FailureMetadata)
failure_parts x = ((x.code, x.message), x.metadata)

pub failure_tells : DecidesErased same_failure (whole {A = Failure})
failure_tells = parts_tell failure_parts whole (λ x y h i. record { code = (h i).0.0; message = (h i).0.1; metadata = (h i).1 }) (λ x y h. ap failure_parts h) (both_tell (both_tell numbers_tell texts_tell) (in_full (pointwise_decides (deciding failure_metadata_tells))))

abbrev pub same_value : Value → Value → Bool
same_value x y = same_text x.content y.content

pub value_tells : DecidesErased same_value (whole {A = Value})
value_tells = parts_tell (λ (x : Value). x.content) whole (λ x y h i. record { content = h i }) (λ x y h. ap (λ (x : Value). x.content) h) (texts_tell)

abbrev pub same_void : Void → Void → Bool
same_void x y = true

pub void_tells : DecidesErased same_void (whole {A = Void})
void_tells = record { alike = λ x y h. refl; found = λ x y h. refl }

abbrev pub same_state_keys : StateKeys → StateKeys → Bool
same_state_keys x y = pointwise same_text x.keys y.keys

pub state_keys_tells : DecidesErased same_state_keys (whole {A = StateKeys})
state_keys_tells = parts_tell (λ (x : StateKeys). x.keys) whole (λ x y h i. record { keys = h i }) (λ x y h. ap (λ (x : StateKeys). x.keys) h) (in_full (pointwise_decides bytes_decides))

abbrev pub same_workflow_target : WorkflowTarget → WorkflowTarget → Bool
same_workflow_target x y = same_text x.workflow_name y.workflow_name && same_text x.workflow_key y.workflow_key && same_optional_text x.scope y.scope

abbrev workflow_target_parts : WorkflowTarget → ((List ℕ) × (List ℕ)) × (Option (List ℕ))
workflow_target_parts x = ((x.workflow_name, x.workflow_key), x.scope)

pub workflow_target_tells : DecidesErased same_workflow_target (whole {A = WorkflowTarget})
workflow_target_tells = parts_tell workflow_target_parts whole (λ x y h i. record { workflow_name = (h i).0.0; workflow_key = (h i).0.1; scope = (h i).1 }) (λ x y h. ap workflow_target_parts h) (both_tell (both_tell texts_tell texts_tell) optional_texts_tell)

abbrev pub same_idempotent_request_target : IdempotentRequestTarget → IdempotentRequestTarget → Bool
same_idempotent_request_target x y = same_text x.service_name y.service_name && same_optional_text x.service_key y.service_key && same_text x.handler_name y.handler_name && same_text x.idempotency_key y.idempotency_key && same_optional_text x.scope y.scope

abbrev idempotent_request_target_parts : IdempotentRequestTarget → ((((List ℕ) × (Option (List ℕ))) × (List ℕ)) × (List ℕ)) × (Option (List ℕ))
idempotent_request_target_parts x = ((((x.service_name, x.service_key), x.handler_name), x.idempotency_key), x.scope)

pub idempotent_request_target_tells : DecidesErased same_idempotent_request_target (whole {A = IdempotentRequestTarget})
idempotent_request_target_tells = parts_tell idempotent_request_target_parts whole (λ x y h i. record { service_name = (h i).0.0.0.0; service_key = (h i).0.0.0.1; handler_name = (h i).0.0.1; idempotency_key = (h i).0.1; scope = (h i).1 }) (λ x y h. ap idempotent_request_target_parts h) (both_tell (both_tell (both_tell (both_tell texts_tell optional_texts_tell) texts_tell) texts_tell) optional_texts_tell)
