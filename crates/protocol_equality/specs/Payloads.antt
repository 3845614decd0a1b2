-- When what holds a payload is the same, where the payload may be ignored.
use Rattle.std.specs.Prelude.{◌≡◌, ℕ, Bool, true, false, List, [], Option, Some, None, refl}
use Rattle.std.proofs.Common.{ap}
use Rattle.std.specs.Option.{option_map}
use Rattle.protocol_equality.specs.EqualityTests.{DecidesErased, parts_tell}
use Rattle.protocol_equality.specs.Parts.{same_text, texts_tell}
use Rattle.protocol_equality.specs.Records.{same_void, void_tells, same_failure, failure_tells}
use Rattle.protocol_records.specs.declared.value.Value.{Value}
use Rattle.protocol_records.specs.declared.output_command.OutputCommandResult.{OutputCommandResult}
use Rattle.protocol_records.specs.declared.output_command.OutputCommandResult.TheVariants as outputs
use Rattle.protocol_commands.specs.declared.get_eager_state_command.GetEagerStateCommandResult.{GetEagerStateCommandResult}
use Rattle.protocol_commands.specs.declared.get_eager_state_command.GetEagerStateCommandResult.TheVariants as states
use Rattle.protocol_commands.specs.declared.complete_promise_command.CompletePromiseCommandCompletion.{CompletePromiseCommandCompletion}
use Rattle.protocol_commands.specs.declared.complete_promise_command.CompletePromiseCommandCompletion.TheVariants as completions
use Rattle.protocol_calls.specs.declared.complete_awakeable_command.CompleteAwakeableCommandResult.{CompleteAwakeableCommandResult}
use Rattle.protocol_calls.specs.declared.complete_awakeable_command.CompleteAwakeableCommandResult.TheVariants as awakeables

abbrev pub erased_payload : Bool → List ℕ → List ℕ
erased_payload true bytes = []
erased_payload false bytes = bytes

abbrev pub same_payload : Bool → List ℕ → List ℕ → Bool
same_payload true x y = true
same_payload false x y = same_text x y

pub payload_tells : (ignoring : Bool) → DecidesErased (same_payload ignoring) (erased_payload ignoring)
payload_tells true = record { alike = λ x y h. refl; found = λ x y h. refl }
payload_tells false = texts_tell

abbrev pub erased_value : Bool → Value → Value
erased_value ignoring value = record { content = erased_payload ignoring value.content }

abbrev pub same_content : Bool → Value → Value → Bool
same_content ignoring x y = same_payload ignoring x.content y.content

pub content_tells : (ignoring : Bool) → DecidesErased (same_content ignoring) (erased_value ignoring)
content_tells ignoring = parts_tell (λ (x : Value). x.content) (erased_value ignoring) (λ x y h i. record { content = h i }) (λ x y h. ap (λ (x : Value). x.content) h) (payload_tells ignoring)

pub value_erased : (x : Value) → erased_value true (erased_value false x) ≡ erased_value true x
value_erased x = refl

-- the same of what may be absent
pub options_erased : {A : Type 0} (f g : A → A) → ((x : A) → f (g x) ≡ f x) → (x : Option A) → option_map f (option_map g x) ≡ option_map f x
options_erased f g again None = refl
options_erased f g again (Some x) = ap Some (again x)

abbrev pub same_output_result : Bool → OutputCommandResult → OutputCommandResult → Bool
same_output_result ignoring (outputs.Value x) (outputs.Value y) = same_content ignoring x y
same_output_result ignoring (outputs.Failure x) (outputs.Failure y) = same_failure x y
same_output_result ignoring _ _ = false

abbrev pub erased_output_result : Bool → OutputCommandResult → OutputCommandResult
erased_output_result ignoring (outputs.Value x) = outputs.Value (erased_value ignoring x)
erased_output_result ignoring (outputs.Failure x) = outputs.Failure x

pub output_result_tells : (ignoring : Bool) → DecidesErased (same_output_result ignoring) (erased_output_result ignoring)
output_result_tells ignoring = record { alike = alike; found = found }
  where
    alike : (x y : OutputCommandResult) → same_output_result ignoring x y ≡ true → erased_output_result ignoring x ≡ erased_output_result ignoring y
    alike (outputs.Value x) (outputs.Value y) h = ap outputs.Value ((content_tells ignoring).alike x y h)
    alike (outputs.Value x) (outputs.Failure y) h = cc
    alike (outputs.Failure x) (outputs.Value y) h = cc
    alike (outputs.Failure x) (outputs.Failure y) h = ap outputs.Failure (failure_tells.alike x y h)

    found : (x y : OutputCommandResult) → erased_output_result ignoring x ≡ erased_output_result ignoring y → same_output_result ignoring x y ≡ true
    found (outputs.Value x) (outputs.Value y) h = (content_tells ignoring).found x y (cc)
    found (outputs.Value x) (outputs.Failure y) h = cc
    found (outputs.Failure x) (outputs.Value y) h = cc
    found (outputs.Failure x) (outputs.Failure y) h = failure_tells.found x y (cc)

pub output_result_erased : (x : OutputCommandResult) → erased_output_result true (erased_output_result false x) ≡ erased_output_result true x
output_result_erased (outputs.Value x) = refl
output_result_erased (outputs.Failure x) = refl

abbrev pub same_state_result : Bool → GetEagerStateCommandResult → GetEagerStateCommandResult → Bool
same_state_result ignoring (states.Void x) (states.Void y) = same_void x y
same_state_result ignoring (states.Value x) (states.Value y) = same_content ignoring x y
same_state_result ignoring _ _ = false

abbrev pub erased_state_result : Bool → GetEagerStateCommandResult → GetEagerStateCommandResult
erased_state_result ignoring (states.Void x) = states.Void x
erased_state_result ignoring (states.Value x) = states.Value (erased_value ignoring x)

pub state_result_tells : (ignoring : Bool) → DecidesErased (same_state_result ignoring) (erased_state_result ignoring)
state_result_tells ignoring = record { alike = alike; found = found }
  where
    alike : (x y : GetEagerStateCommandResult) → same_state_result ignoring x y ≡ true → erased_state_result ignoring x ≡ erased_state_result ignoring y
    alike (states.Void x) (states.Void y) h = ap states.Void (void_tells.alike x y h)
    alike (states.Void x) (states.Value y) h = cc
    alike (states.Value x) (states.Void y) h = cc
    alike (states.Value x) (states.Value y) h = ap states.Value ((content_tells ignoring).alike x y h)

    found : (x y : GetEagerStateCommandResult) → erased_state_result ignoring x ≡ erased_state_result ignoring y → same_state_result ignoring x y ≡ true
    found (states.Void x) (states.Void y) h = void_tells.found x y (cc)
    found (states.Void x) (states.Value y) h = cc
    found (states.Value x) (states.Void y) h = cc
    found (states.Value x) (states.Value y) h = (content_tells ignoring).found x y (cc)

pub state_result_erased : (x : GetEagerStateCommandResult) → erased_state_result true (erased_state_result false x) ≡ erased_state_result true x
state_result_erased (states.Void x) = refl
state_result_erased (states.Value x) = refl

abbrev pub same_completion : Bool → CompletePromiseCommandCompletion → CompletePromiseCommandCompletion → Bool
same_completion ignoring (completions.CompletionValue x) (completions.CompletionValue y) = same_content ignoring x y
same_completion ignoring (completions.CompletionFailure x) (completions.CompletionFailure y) = same_failure x y
same_completion ignoring _ _ = false

abbrev pub erased_completion : Bool → CompletePromiseCommandCompletion → CompletePromiseCommandCompletion
erased_completion ignoring (completions.CompletionValue x) = completions.CompletionValue (erased_value ignoring x)
erased_completion ignoring (completions.CompletionFailure x) = completions.CompletionFailure x

pub completion_tells : (ignoring : Bool) → DecidesErased (same_completion ignoring) (erased_completion ignoring)
completion_tells ignoring = record { alike = alike; found = found }
  where
    alike : (x y : CompletePromiseCommandCompletion) → same_completion ignoring x y ≡ true → erased_completion ignoring x ≡ erased_completion ignoring y
    alike (completions.CompletionValue x) (completions.CompletionValue y) h = ap completions.CompletionValue ((content_tells ignoring).alike x y h)
    alike (completions.CompletionValue x) (completions.CompletionFailure y) h = cc
    alike (completions.CompletionFailure x) (completions.CompletionValue y) h = cc
    alike (completions.CompletionFailure x) (completions.CompletionFailure y) h = ap completions.CompletionFailure (failure_tells.alike x y h)

    found : (x y : CompletePromiseCommandCompletion) → erased_completion ignoring x ≡ erased_completion ignoring y → same_completion ignoring x y ≡ true
    found (completions.CompletionValue x) (completions.CompletionValue y) h = (content_tells ignoring).found x y (cc)
    found (completions.CompletionValue x) (completions.CompletionFailure y) h = cc
    found (completions.CompletionFailure x) (completions.CompletionValue y) h = cc
    found (completions.CompletionFailure x) (completions.CompletionFailure y) h = failure_tells.found x y (cc)

pub completion_erased : (x : CompletePromiseCommandCompletion) → erased_completion true (erased_completion false x) ≡ erased_completion true x
completion_erased (completions.CompletionValue x) = refl
completion_erased (completions.CompletionFailure x) = refl

abbrev pub same_awakeable_result : Bool → CompleteAwakeableCommandResult → CompleteAwakeableCommandResult → Bool
same_awakeable_result ignoring (awakeables.Value x) (awakeables.Value y) = same_content ignoring x y
same_awakeable_result ignoring (awakeables.Failure x) (awakeables.Failure y) = same_failure x y
same_awakeable_result ignoring _ _ = false

abbrev pub erased_awakeable_result : Bool → CompleteAwakeableCommandResult → CompleteAwakeableCommandResult
erased_awakeable_result ignoring (awakeables.Value x) = awakeables.Value (erased_value ignoring x)
erased_awakeable_result ignoring (awakeables.Failure x) = awakeables.Failure x

pub awakeable_result_tells : (ignoring : Bool) → DecidesErased (same_awakeable_result ignoring) (erased_awakeable_result ignoring)
awakeable_result_tells ignoring = record { alike = alike; found = found }
  where
    alike : (x y : CompleteAwakeableCommandResult) → same_awakeable_result ignoring x y ≡ true → erased_awakeable_result ignoring x ≡ erased_awakeable_result ignoring y
    alike (awakeables.Value x) (awakeables.Value y) h = ap awakeables.Value ((content_tells ignoring).alike x y h)
    alike (awakeables.Value x) (awakeables.Failure y) h = cc
    alike (awakeables.Failure x) (awakeables.Value y) h = cc
    alike (awakeables.Failure x) (awakeables.Failure y) h = ap awakeables.Failure (failure_tells.alike x y h)

    found : (x y : CompleteAwakeableCommandResult) → erased_awakeable_result ignoring x ≡ erased_awakeable_result ignoring y → same_awakeable_result ignoring x y ≡ true
    found (awakeables.Value x) (awakeables.Value y) h = (content_tells ignoring).found x y (cc)
    found (awakeables.Value x) (awakeables.Failure y) h = cc
    found (awakeables.Failure x) (awakeables.Value y) h = cc
    found (awakeables.Failure x) (awakeables.Failure y) h = failure_tells.found x y (cc)

pub awakeable_result_erased : (x : CompleteAwakeableCommandResult) → erased_awakeable_result true (erased_awakeable_result false x) ≡ erased_awakeable_result true x
awakeable_result_erased (awakeables.Value x) = refl
awakeable_result_erased (awakeables.Failure x) = refl
