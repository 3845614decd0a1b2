-- Errors whose text is always the same.
use Rattle.std.specs.Prelude.{ℕ, List, codes}
use Rattle.protocol_errors.specs.declared.fixed.FixedError.{FixedError}
use Rattle.protocol_errors.specs.declared.fixed.FixedError.TheVariants.{MissingContentType, UnexpectedInputMessage, KnownEntriesIsZero, UnexpectedEntryMessage, InputClosedWhileWaitingEntries, EmptyIdempotencyKey, EmptyLimitKey, EmptyScope, Suspended, EmptyGetEagerState, EmptyGetEagerStateKeys, EmptyGetStateEphemeralNotification, InputClosedWhileWaitingEphemeralNotifications, EphemeralCommandDuringReplay}
use Rattle.protocol_errors.specs.Code.{unsupported_media_type, internal, protocol_violation, suspended}

abbrev pub fixed_code : FixedError → ℕ
fixed_code MissingContentType = unsupported_media_type
fixed_code UnexpectedInputMessage = protocol_violation
fixed_code KnownEntriesIsZero = protocol_violation
fixed_code UnexpectedEntryMessage = protocol_violation
fixed_code InputClosedWhileWaitingEntries = protocol_violation
fixed_code EmptyIdempotencyKey = internal
fixed_code EmptyLimitKey = internal
fixed_code EmptyScope = internal
fixed_code Suspended = suspended
fixed_code EmptyGetEagerState = protocol_violation
fixed_code EmptyGetEagerStateKeys = protocol_violation
fixed_code EmptyGetStateEphemeralNotification = protocol_violation
fixed_code InputClosedWhileWaitingEphemeralNotifications = internal
fixed_code EphemeralCommandDuringReplay = protocol_violation

abbrev pub fixed_text : FixedError → List ℕ
fixed_text MissingContentType = codes "Missing content type when invoking the service deployment"
fixed_text UnexpectedInputMessage = codes "Expected incoming message to be an entry"
fixed_text KnownEntriesIsZero = codes "Known entries is zero, expected >= 1"
fixed_text UnexpectedEntryMessage = codes "Expected entry messages only when waiting replay entries"
fixed_text InputClosedWhileWaitingEntries = codes "The input was closed while still waiting to receive all journal to replay"
fixed_text EmptyIdempotencyKey = codes "The idempotency key must be non-empty"
fixed_text EmptyLimitKey = codes "The limit key must be non-empty"
fixed_text EmptyScope = codes "The scope must be non-empty"
fixed_text Suspended = codes "Suspended invocation"
fixed_text EmptyGetEagerState = codes "Unexpected empty value variant for get eager state"
fixed_text EmptyGetEagerStateKeys = codes "Unexpected empty value variant for state keys"
fixed_text EmptyGetStateEphemeralNotification = codes "Unexpected empty value variant for get state ephemeral"
fixed_text InputClosedWhileWaitingEphemeralNotifications = codes "The input was closed while still waiting for ephemeral notifications"
fixed_text EphemeralCommandDuringReplay = codes "Ephemeral commands are not allowed during replay"
