-- A law of this crate is one of a handler with each function, version and options.
use Rattle.vm_attempt_laws.specs.Words.{Version, Handler, VMOptions}

abbrev pub OfEach : (Handler → Version → VMOptions → Type 0) → Type 0
OfEach Holds = (next : Handler) (version : Version) (options : VMOptions) → Holds next version options
