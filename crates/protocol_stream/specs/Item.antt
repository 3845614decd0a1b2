-- The items of a stream of bytes.
use Rattle.std.specs.Prelude.{ℕ, List, length, take, drop, nat_lt, if◌then◌else◌, Option, Some, None, Result, Ok, Err}
use Rattle.std.specs.Int.{w64, from_be_bytes}
use Rattle.protocol_types.specs.declared.message_type.UnknownMessageType.{UnknownMessageType}
use Rattle.protocol_stream.specs.declared.header.MessageHeader.{MessageHeader}
use Rattle.protocol_stream.specs.declared.decoder.RawMessage.{RawMessage}
use Rattle.protocol_stream.specs.Header.{message_length, header_in}
use Rattle.protocol_stream.specs.declared.frame.TheConstants.{HEADER_LEN}

-- a header of unknown type, its bytes alone, or a header with its payload
pub data Item : Type 0 where
  unknown : UnknownMessageType → Item
  message : RawMessage → Item

-- the item whose header was read, and what follows it
abbrev pub item_behind : Result MessageHeader UnknownMessageType → List ℕ → Option (Item × List ℕ)
item_behind (Err ty) rest = Some (unknown ty, rest)
item_behind (Ok header) rest =
    if nat_lt (length rest) (message_length header) then None
    else Some (message (record { header = header; payload = take (message_length header) rest }), drop (message_length header) rest)

-- the item at the front and the bytes behind it, where a whole one is there
unfoldable pub item_at : List ℕ → Option (Item × List ℕ)
item_at bytes = if nat_lt (length bytes) HEADER_LEN then None else item_behind (header_in (from_be_bytes w64 (take HEADER_LEN bytes))) (drop HEADER_LEN bytes)
