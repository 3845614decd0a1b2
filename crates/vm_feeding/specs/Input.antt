-- What a handler is given before its first call.
use Rattle.std.specs.Prelude.{ℕ, if◌then◌else◌, List, [], map, Option, Some, None}
use Rattle.journal_model.specs.declared.handler.Input.{Input}
use Rattle.protocol_types.specs.Feature.{lacks_feature}
use Rattle.protocol_types.specs.declared.feature.Feature.TheVariants.{RandomSeed, Scope}
use Rattle.protocol_records.specs.declared.value.Value.{Value}
use Rattle.protocol_records.specs.declared.start.StartMessage.{StartMessage}
use Rattle.protocol_records.specs.declared.input_command.InputCommandMessage.{InputCommandMessage}
use Rattle.protocol_stream.specs.Records.{header_told}

-- an absent value is read as empty
abbrev pub content_of : Option Value → List ℕ
content_of None = []
content_of (Some value) = value.content

-- before the version that brings scopes there is no scope, limit key or idempotency key
abbrev pub where_scoped : ℕ → Option (List ℕ) → Option (List ℕ)
where_scoped version text = if lacks_feature version Scope then None else text

-- before the version that brings one the seed is that of the options
abbrev pub random_seed : ℕ → ℕ → ℕ → ℕ
random_seed version fallback seed = if lacks_feature version RandomSeed then fallback else seed

-- what a handler is given
abbrev pub input_given : ℕ → ℕ → StartMessage → InputCommandMessage → Input
input_given version fallback_random_seed start command = record {
  invocation_id = start.debug_id;
  key = start.key;
  random_seed = random_seed version fallback_random_seed start.random_seed;
  headers = map header_told command.headers;
  input = content_of command.value;
  scope = where_scoped version start.scope;
  limit_key = where_scoped version start.limit_key;
  idempotency_key = where_scoped version start.idempotency_key;
}
