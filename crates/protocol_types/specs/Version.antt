-- Versions of the protocol, and the content types that name them.
use Rattle.std.specs.Prelude.{ℕ, ◌==◌, nat_lt, ◌||◌, if◌then◌else◌, Bool, List, [], ◌∷◌, codes, find, bytes_eq, length, take, Option, Some, None, Result, Ok, Err}
use Rattle.protocol_types.specs.declared.version.Version.{Version}
use Rattle.protocol_types.specs.declared.version.Version.TheVariants.{V1, V2, V3, V4, V5, V6, V7, V8, V9}
use Rattle.protocol_types.specs.declared.version.ContentTypeError.{ContentTypeError}
use Rattle.protocol_types.specs.declared.version.ContentTypeError.TheVariants.{RestateContentType, OtherContentType}

abbrev pub version_number : Version → ℕ
version_number V1 = 1
version_number V2 = 2
version_number V3 = 3
version_number V4 = 4
version_number V5 = 5
version_number V6 = 6
version_number V7 = 7
version_number V8 = 8
version_number V9 = 9

abbrev pub version_name : Version → List ℕ
version_name V1 = codes "V1"
version_name V2 = codes "V2"
version_name V3 = codes "V3"
version_name V4 = codes "V4"
version_name V5 = codes "V5"
version_name V6 = codes "V6"
version_name V7 = codes "V7"
version_name V8 = codes "V8"
version_name V9 = codes "V9"

abbrev pub version_content_type : Version → List ℕ
version_content_type V1 = codes "application/vnd.restate.invocation.v1"
version_content_type V2 = codes "application/vnd.restate.invocation.v2"
version_content_type V3 = codes "application/vnd.restate.invocation.v3"
version_content_type V4 = codes "application/vnd.restate.invocation.v4"
version_content_type V5 = codes "application/vnd.restate.invocation.v5"
version_content_type V6 = codes "application/vnd.restate.invocation.v6"
version_content_type V7 = codes "application/vnd.restate.invocation.v7"
version_content_type V8 = codes "application/vnd.restate.invocation.v8"
version_content_type V9 = codes "application/vnd.restate.invocation.v9"

abbrev pub versions : List Version
versions = V1 ∷ V2 ∷ V3 ∷ V4 ∷ V5 ∷ V6 ∷ V7 ∷ V8 ∷ V9 ∷ []

-- the version with this number
abbrev pub version_at : ℕ → Option Version
version_at number = find (λ version. number == version_number version) versions

-- the versions that are spoken: from this one to that
abbrev pub oldest_version : Version
oldest_version = V5

abbrev pub newest_version : Version
newest_version = V9

abbrev pub is_unsupported : ℕ → Bool
is_unsupported number = nat_lt number (version_number oldest_version) || nat_lt (version_number newest_version) number

-- the version with this number, if it is spoken
abbrev pub version_spoken : ℕ → Option Version
version_spoken number = if is_unsupported number then None else version_at number

-- whether this is the content type of the version, to the letter
unfoldable pub has_content_type : List ℕ → Version → Bool
has_content_type text version = bytes_eq (version_content_type version) text

-- the version whose content type this is
unfoldable pub version_with : List ℕ → Option Version
version_with text = find (has_content_type text) versions

-- how each content type of the protocol begins
abbrev pub restate_prefix : List ℕ
restate_prefix = codes "application/vnd.restate.invocation."

unfoldable pub has_restate_prefix : List ℕ → Bool
has_restate_prefix text = bytes_eq restate_prefix (take (length restate_prefix) text)

-- why a text that names no version is refused
abbrev pub content_type_error : List ℕ → ContentTypeError
content_type_error text = if has_restate_prefix text then RestateContentType text else OtherContentType text

abbrev pub content_type_named : List ℕ → Option Version → Result Version ContentTypeError
content_type_named text (Some version) = Ok version
content_type_named text None = Err (content_type_error text)

-- what a content type says
abbrev pub content_type_read : List ℕ → Result Version ContentTypeError
content_type_read text = content_type_named text (version_with text)
