-- The values that the handlers make and read.
use Rattle.std.specs.Prelude.{false, [], ◌∷◌, ◌++◌, Option, Some, None, codes}
use Rattle.durable_schedule.specs.Handlers.{AttachInvocationTarget, Bytes, NonEmptyValue, PayloadOptions, Target}

-- a card with one stamp more; where there was none, it is the first
abbrev pub stamped : Option Bytes → Bytes
stamped (Some card) = card ++ codes "*"
stamped None = codes "*"

-- the handler `h` of the service `s`
unfoldable pub service : Target
service = record { service = codes "s"; handler = codes "h"; key = None; idempotency_key = None; scope = None; limit_key = None; headers = [] }

-- the invocation `i`
unfoldable pub other : AttachInvocationTarget
other = AttachInvocationTarget.InvocationId (codes "i")

unfoldable pub one : NonEmptyValue
one = NonEmptyValue.Success (codes "1")

-- the same value has the same bytes in each attempt
unfoldable pub options : PayloadOptions
options = record { unstable_serialization = false }
