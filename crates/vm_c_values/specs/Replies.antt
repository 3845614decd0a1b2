-- What C is told of what has come, and of an input.
use Rattle.std.specs.Prelude.{ℕ, ◌==◌, if◌then◌else◌, [], Option, Some, None, option_map, slice_get}
use Rattle.journal_model.specs.Notification.{Bytes}
use Rattle.journal_model.specs.declared.handler.Input.{Input}
use Rattle.journal_model.specs.declared.value.Value.{Value}
use Rattle.journal_model.specs.declared.value.Value.TheVariants as values
use Rattle.protocol_records.specs.Failure.{failure_parts}
use Rattle.protocol_records.specs.StateKeys.{state_keys_parts}
use Rattle.protocol_stream.specs.Records.{failure_record}
use Rattle.protocol_wire.specs.Parts.{payload_of}

abbrev pub kind_of : Option Value → ℕ
kind_of None = 0
kind_of (Some values.Void) = 1
kind_of (Some (values.Success bytes)) = 2
kind_of (Some (values.Failure failure)) = 3
kind_of (Some (values.StateKeys keys)) = 4
kind_of (Some (values.InvocationId id)) = 5

abbrev pub reply_of : Option Value → Bytes
reply_of None = []
reply_of (Some values.Void) = []
reply_of (Some (values.Success bytes)) = bytes
reply_of (Some (values.Failure failure)) = payload_of (failure_parts (failure_record failure))
reply_of (Some (values.StateKeys keys)) = payload_of (state_keys_parts (record { keys = keys }))
reply_of (Some (values.InvocationId id)) = id

-- a part of an input by its number, and a header by its index too
abbrev pub part_of : Input → (part index : ℕ) → Option Bytes
part_of input part index =
    if part == 0 then Some input.input
    else (if part == 1 then Some input.invocation_id
    else (if part == 2 then Some input.key
    else (if part == 3 then input.scope
    else (if part == 4 then input.limit_key
    else (if part == 5 then input.idempotency_key
    else (if part == 6 then option_map (λ header. header.key) (slice_get input.headers index)
    else (if part == 7 then option_map (λ header. header.value) (slice_get input.headers index)
    else None)))))))
