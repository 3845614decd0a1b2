-- How the type of an entry is kept: by its number; that of a custom one, which no entry has, lies beyond those of all types.
use Rattle.std.specs.Prelude.{ℕ, ◌+◌, ◌-◌, ◌^◌, nat_lt, if◌then◌else◌, Option, Some, None}
use Rattle.protocol_types.specs.declared.message_type.MessageType.{MessageType}
use Rattle.protocol_types.specs.declared.message_type.MessageType.TheVariants.{CustomEntry}
use Rattle.protocol_types.specs.MessageType.{type_number, named_type}

abbrev pub kept_kind : MessageType → ℕ
kept_kind (CustomEntry number) = 2 ^ 16 + number
kept_kind kind = type_number kind

abbrev pub kind_kept : ℕ → Option MessageType
kind_kept number = if nat_lt number (2 ^ 16) then named_type number else if nat_lt number (2 ^ 17) then Some (CustomEntry (number - 2 ^ 16)) else None
