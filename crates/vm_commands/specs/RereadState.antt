-- The reads of a key and of all keys: how one whose answer was known stands to the one whose answer is to come.
use Rattle.std.specs.Prelude.{◌≡◌, ◌≢◌, ◌↔◌, ℕ, Bool, List, ◌∷◌, Option, Some, None, refl}
use Rattle.std.specs.Option.{option_map}
use Rattle.std.proofs.Common.{subst}
use Rattle.protocol_table.specs.declared.table.RecordType.TheVariants as records
use Rattle.journal_model.specs.Request.{Request}
use Rattle.journal_model.specs.Spelling.{request_type}
use Rattle.attempt_model.specs.Requests.{Commands}
use Rattle.protocol_records.specs.declared.state_keys.StateKeys.{StateKeys}
use Rattle.protocol_commands.specs.declared.get_eager_state_command.GetEagerStateCommandResult.{GetEagerStateCommandResult}
use Rattle.protocol_commands.specs.declared.get_eager_state_command.GetEagerStateCommandMessage.{GetEagerStateCommandMessage}
use Rattle.protocol_commands.specs.declared.get_eager_state_keys_command.GetEagerStateKeysCommandMessage.{GetEagerStateKeysCommandMessage}
use Rattle.protocol_commands.specs.declared.get_lazy_state_command.GetLazyStateCommandMessage.{GetLazyStateCommandMessage}
use Rattle.protocol_commands.specs.declared.get_lazy_state_keys_command.GetLazyStateKeysCommandMessage.{GetLazyStateKeysCommandMessage}
use Rattle.protocol_messages.specs.RecordMessage.{type_of_record}
use Rattle.protocol_equality.specs.Laws.{AreHeaderEqual}
use Rattle.protocol_equality.specs.Payloads.{erased_state_result}
use Rattle.protocol_equality.specs.Commands.{erased_get_eager_state_command, erased_get_eager_state_keys_command}
use Rattle.protocol_laws.specs.Requests.{state_told, request_of_get_lazy_state, request_of_get_eager_state, request_of_get_lazy_state_keys, request_of_get_eager_state_keys}
use Rattle.vm_commands.specs.RecordedCommands.{as_recorded}
use Rattle.vm_commands.specs.StateReads.{IsRetold}

none_mapped : {A B : Type 0} (f : A → B) (o : Option A) → (o ≡ None) ↔ (option_map f o ≡ None)
none_mapped f None = (λ h. refl, λ h. refl)
none_mapped f (Some x) = (λ h. cc, λ h. cc)

-- ---- of a key

value_taken_over : (ignoring : Bool) (read : GetEagerStateCommandMessage) (other : GetLazyStateCommandMessage)
    → AreHeaderEqual erased_get_eager_state_command ignoring (record read { result = None }) (record { key = other.key; name = other.name; result = None })
    ↔ AreHeaderEqual erased_get_eager_state_command ignoring read (record { key = other.key; name = other.name; result = read.result })
value_taken_over ignoring read other = (
  λ h i. record { key = (h i).key; name = (h i).name; result = option_map (erased_state_result ignoring) read.result },
  λ h i. record { key = (h i).key; name = (h i).name; result = None },
)

value_requested : (found : Option GetEagerStateCommandResult) (key name : List ℕ) (other : GetLazyStateCommandMessage) (recorded made : Request) (left : Commands)
    → option_map (λ result. Request.GetEagerState key (state_told result) name) found ≡ Some recorded → Some (request_of_get_lazy_state other) ≡ Some made
    → option_map (λ result. Request.GetEagerState other.key (state_told result) other.name) found ≡ Some (as_recorded (Some recorded ∷ left) made)
value_requested None key name other recorded made left is asks = cc
value_requested (Some result) key name other recorded made left is asks =
    let there : Request.GetEagerState key (state_told result) name ≡ recorded = cc in
    let asked : request_of_get_lazy_state other ≡ made = cc in
    λ i. Some (as_recorded (Some (there i) ∷ left) (asked i))

value_stays : (other : GetLazyStateCommandMessage) (recorded : Request) (left : Commands) → type_of_record records.GetEagerStateCommand ≢ Some (request_type recorded)
    → as_recorded (Some recorded ∷ left) (request_of_get_lazy_state other) ≡ request_of_get_lazy_state other
value_stays other (Request.GetEagerState key value name) left differs = absurd (differs refl)
value_stays other _ left differs = refl

pub value_retold : IsRetold records.GetEagerStateCommand records.GetLazyStateCommand (λ (read : GetEagerStateCommandMessage). read.result) (λ read. record read { result = None })
    (λ (other : GetLazyStateCommandMessage). record { key = other.key; name = other.name; result = None }) (λ read other. record { key = other.key; name = other.name; result = read.result })
    erased_get_eager_state_command request_of_get_eager_state (λ one. Some (request_of_get_lazy_state one))
value_retold = record {
  apart = λ h. cc;
  taken_over = value_taken_over;
  requested = λ read other recorded made left is asks. value_requested read.result read.key read.name other recorded made left is asks;
  stays = λ other recorded made left asks differs.
      let asked : request_of_get_lazy_state other ≡ made = cc in
      subst (λ (r : Request). as_recorded (Some recorded ∷ left) r ≡ r) asked (value_stays other recorded left differs);
  unknown = λ read. none_mapped (λ result. Request.GetEagerState read.key (state_told result) read.name) read.result;
}

-- ---- of all keys

keys_taken_over : (ignoring : Bool) (read : GetEagerStateKeysCommandMessage) (other : GetLazyStateKeysCommandMessage)
    → AreHeaderEqual erased_get_eager_state_keys_command ignoring (record read { value = None }) (record { name = other.name; value = None })
    ↔ AreHeaderEqual erased_get_eager_state_keys_command ignoring read (record { name = other.name; value = read.value })
keys_taken_over ignoring read other = (λ h i. record { name = (h i).name; value = read.value }, λ h i. record { name = (h i).name; value = None })

keys_requested : (found : Option StateKeys) (name : List ℕ) (other : GetLazyStateKeysCommandMessage) (recorded made : Request) (left : Commands)
    → option_map (λ (keys : StateKeys). Request.GetEagerStateKeys keys.keys name) found ≡ Some recorded → Some (request_of_get_lazy_state_keys other) ≡ Some made
    → option_map (λ (keys : StateKeys). Request.GetEagerStateKeys keys.keys other.name) found ≡ Some (as_recorded (Some recorded ∷ left) made)
keys_requested None name other recorded made left is asks = cc
keys_requested (Some keys) name other recorded made left is asks =
    let there : Request.GetEagerStateKeys keys.keys name ≡ recorded = cc in
    let asked : request_of_get_lazy_state_keys other ≡ made = cc in
    λ i. Some (as_recorded (Some (there i) ∷ left) (asked i))

keys_stay : (other : GetLazyStateKeysCommandMessage) (recorded : Request) (left : Commands) → type_of_record records.GetEagerStateKeysCommand ≢ Some (request_type recorded)
    → as_recorded (Some recorded ∷ left) (request_of_get_lazy_state_keys other) ≡ request_of_get_lazy_state_keys other
keys_stay other (Request.GetEagerStateKeys keys name) left differs = absurd (differs refl)
keys_stay other _ left differs = refl

pub keys_retold : IsRetold records.GetEagerStateKeysCommand records.GetLazyStateKeysCommand (λ (read : GetEagerStateKeysCommandMessage). read.value) (λ read. record read { value = None })
    (λ (other : GetLazyStateKeysCommandMessage). record { name = other.name; value = None }) (λ read other. record { name = other.name; value = read.value })
    erased_get_eager_state_keys_command request_of_get_eager_state_keys (λ one. Some (request_of_get_lazy_state_keys one))
keys_retold = record {
  apart = λ h. cc;
  taken_over = keys_taken_over;
  requested = λ read other recorded made left is asks. keys_requested read.value read.name other recorded made left is asks;
  stays = λ other recorded made left asks differs.
      let asked : request_of_get_lazy_state_keys other ≡ made = cc in
      subst (λ (r : Request). as_recorded (Some recorded ∷ left) r ≡ r) asked (keys_stay other recorded left differs);
  unknown = λ read. none_mapped (λ (keys : StateKeys). Request.GetEagerStateKeys keys.keys read.name) read.value;
}
