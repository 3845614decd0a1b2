-- Laws of types of messages and versions.
use Rattle.std.specs.Prelude.{◌≡◌, ◌≢◌, ◌↔◌, ℕ, false, bit_and, Some, Ok, Err}
use Rattle.std.specs.List.{AllByRecursion}
use Rattle.protocol_types.specs.declared.message_type.MessageType.{MessageType}
use Rattle.protocol_types.specs.declared.message_type.MessageType.TheVariants.{CustomEntry}
use Rattle.protocol_types.specs.declared.version.Version.{Version}
use Rattle.protocol_types.specs.MessageType.{type_number, named_types, type_numbered, IsWireType}
use Rattle.protocol_types.specs.Version.{version_number, version_content_type, version_at, is_unsupported, content_type_read}

abbrev pub NamesReadBack : Type 0
NamesReadBack = AllByRecursion IsWireType named_types

-- no named type has this number
abbrev pub IsUnlisted : ℕ → Type 0
IsUnlisted number = AllByRecursion (λ ty. type_number ty ≢ number) named_types

abbrev pub CustomEntriesReadBack : Type 0
CustomEntriesReadBack = (number : ℕ) → (type_numbered number ≡ Ok (CustomEntry number)) ↔ (IsUnlisted number × (bit_and number 0xFC00 ≢ 0))

abbrev pub NumbersReadBack : Type 0
NumbersReadBack = (number : ℕ) (ty : MessageType) → type_numbered number ≡ Ok ty → type_number ty ≡ number

abbrev pub RestIsUnknown : Type 0
RestIsUnknown = (number : ℕ) → (type_numbered number ≡ Err (record { 0 = number })) ↔ (IsUnlisted number × (bit_and number 0xFC00 ≡ 0))

abbrev pub ContentTypesReadBack : Type 0
ContentTypesReadBack = (version : Version) → content_type_read (version_content_type version) ≡ Ok version

abbrev pub VersionsReadBack : Type 0
VersionsReadBack = (version : Version) → version_at (version_number version) ≡ Some version

-- A number that is not unsupported is that of one version.
abbrev pub SpokenVersionsHaveNumbers : Type 0
SpokenVersionsHaveNumbers = (number : ℕ) → is_unsupported number ≡ false → (version : Version) × (version_at number ≡ Some version) × (version_number version ≡ number)
