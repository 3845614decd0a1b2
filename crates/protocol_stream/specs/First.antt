-- What stands first among bytes.
use Rattle.std.specs.Prelude.{◌≡◌, ℕ, ◌+◌, ◌≤◌, List, length, drop, Some, None}
use Rattle.protocol_types.specs.declared.message_type.UnknownMessageType.{UnknownMessageType}
use Rattle.protocol_stream.specs.declared.first.FirstItem.{FirstItem}
use Rattle.protocol_stream.specs.declared.first.FirstItem.TheVariants.{Partial, Unknown, Frame}
use Rattle.protocol_stream.specs.declared.frame.TheConstants.{HEADER_LEN}
use Rattle.protocol_stream.specs.Item.{item_at, unknown, message}

-- the first item of the bytes, as it is seen in its place
abbrev pub IsFirst : List ℕ → FirstItem → Type 0
IsFirst bytes Partial = item_at bytes ≡ None
IsFirst bytes Unknown = (ty : UnknownMessageType) × (item_at bytes ≡ Some (unknown ty, drop HEADER_LEN bytes))
IsFirst bytes (Frame header payload) =
    (HEADER_LEN + length payload.now ≤ length bytes)
    × (item_at bytes ≡ Some (message (record { header = header; payload = payload.now }), drop (HEADER_LEN + length payload.now) bytes))
