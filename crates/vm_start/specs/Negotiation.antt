-- Which version an attempt speaks, and why none is begun for a request.
use Rattle.std.specs.Prelude.{◌≡◌, ◌++◌, ℕ, List, Option, Some, None, Result, Ok, Err, codes}
use Rattle.protocol_types.specs.declared.version.ContentTypeError.{ContentTypeError}
use Rattle.protocol_types.specs.declared.version.ContentTypeError.TheVariants.{RestateContentType, OtherContentType}
use Rattle.protocol_types.specs.declared.version.Version.{Version}
use Rattle.protocol_types.specs.Version.{version_name, version_number, version_spoken, content_type_read, oldest_version, newest_version}
use Rattle.protocol_errors.specs.Code.{bad_request, internal, unsupported_media_type}
use Rattle.protocol_errors.specs.FixedErrors.{fixed_text}
use Rattle.protocol_errors.specs.declared.fixed.FixedError.TheVariants as fixed
use Rattle.vm_start.specs.declared.negotiation.NegotiationError.{NegotiationError}
use Rattle.vm_start.specs.declared.negotiation.NegotiationError.TheVariants.{UnreadableHeader, MissingContentType, UnknownContentType, UnsupportedVersion, OutOfMemory}

-- the header that says which version a request is in
abbrev pub content_type : List ℕ
content_type = codes "content-type"

-- The version that a content type names is spoken; or it names none, or one that is not spoken.
abbrev pub Speaks : {E : Type 0} → List ℕ → Result Version (NegotiationError E) → Type 0
Speaks text (Ok version) = (content_type_read text ≡ Ok version) × (version_spoken (version_number version) ≡ Some version)
Speaks text (Err (UnknownContentType error)) = content_type_read text ≡ Err error
Speaks text (Err (UnsupportedVersion version)) = (content_type_read text ≡ Ok version) × (version_spoken (version_number version) ≡ None)
Speaks text (Err _) = ⊥

-- Of a request whose header can be read: what its content type says, if it has one; of one that cannot be read, why.
abbrev pub Negotiates : {E : Type 0} → (E → Type 0) → Option (List ℕ) → Result Version (NegotiationError E) → Type 0
Negotiates Fails text (Err (UnreadableHeader error)) = Fails error
Negotiates Fails text (Err OutOfMemory) = Unit {0}
Negotiates Fails text (Err MissingContentType) = text ≡ None
Negotiates Fails (Some text) result = Speaks text result
Negotiates Fails None result = ⊥

abbrev pub negotiation_code : {E : Type 0} → NegotiationError E → ℕ
negotiation_code (UnreadableHeader error) = bad_request
negotiation_code OutOfMemory = internal
negotiation_code _ = unsupported_media_type

-- ---- what an error prints

-- the version is none from the oldest to the newest
unfoldable pub unsupported_version_text : (version oldest newest : Version) → List ℕ
unsupported_version_text version oldest newest =
    codes "Unsupported protocol version " ++ version_name version ++ codes ", not within [" ++ version_name oldest ++ codes " to " ++ version_name newest ++ codes "]"

unfoldable pub restate_content_type_text : List ℕ → List ℕ
restate_content_type_text text = codes "unsupported protocol version '" ++ text ++ codes "'"

unfoldable pub other_content_type_text : List ℕ → List ℕ
other_content_type_text text = codes "unrecognized content-type '" ++ text ++ codes "', this is not a restate protocol"

abbrev pub content_type_text : ContentTypeError → List ℕ
content_type_text (RestateContentType text) = restate_content_type_text text
content_type_text (OtherContentType text) = other_content_type_text text

-- what is printed of it; why a header cannot be read is told by the headers, and not here
abbrev pub negotiation_text : {E : Type 0} → NegotiationError E → Option (List ℕ)
negotiation_text (UnreadableHeader error) = None
negotiation_text MissingContentType = Some (fixed_text fixed.MissingContentType)
negotiation_text (UnknownContentType error) = Some (content_type_text error)
negotiation_text (UnsupportedVersion version) = Some (unsupported_version_text version oldest_version newest_version)
negotiation_text OutOfMemory = Some (codes "out of memory")
