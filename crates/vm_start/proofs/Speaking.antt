-- What a content type says, where there is one.
use Rattle.std.proofs.Common.{ℕ, List}
use Rattle.std.specs.Prelude.{Some, Result, Ok, Err}
use Rattle.protocol_types.specs.declared.version.Version.{Version}
use Rattle.vm_start.specs.declared.negotiation.NegotiationError.{NegotiationError}
use Rattle.vm_start.specs.declared.negotiation.NegotiationError.TheVariants.{UnreadableHeader, MissingContentType, UnknownContentType, UnsupportedVersion, OutOfMemory}
use Rattle.vm_start.specs.Negotiation.{Negotiates, Speaks}

pub speaks_so : {E : Type 0} (Fails : E → Type 0) (text : List ℕ) (result : Result Version (NegotiationError E)) → Speaks text result → Negotiates Fails (Some text) result
speaks_so Fails text (Ok version) says = says
speaks_so Fails text (Err (UnreadableHeader error)) says = absurd says
speaks_so Fails text (Err MissingContentType) says = absurd says
speaks_so Fails text (Err (UnknownContentType error)) says = says
speaks_so Fails text (Err (UnsupportedVersion version)) says = says
speaks_so Fails text (Err OutOfMemory) says = tt
