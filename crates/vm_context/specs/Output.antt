-- What an attempt has written and what of it was not taken.
use Rattle.std.specs.Prelude.{ℕ, Bool, true, false, ◌||◌, if◌then◌else◌, List, [], ◌++◌}
use Rattle.protocol_types.specs.declared.version.Version.{Version}
use Rattle.vm_context.specs.declared.output.Waiting.{Waiting}
use Rattle.vm_context.specs.declared.output.Waiting.TheVariants.{One, Several}

-- what waits to be taken
abbrev pub waiting_bytes : Waiting → List ℕ
waiting_bytes (One frame) = frame
waiting_bytes (Several bytes) = bytes.items

pub record Written : Type 0 where
  pub version : Version
  -- what waits to be taken, the first byte first
  pub bytes : List ℕ
  pub is_closed : Bool
  -- whether a command was written, since the attempt has begun
  pub has_commands : Bool

-- with this frame behind what waits; behind the end nothing is written
abbrev pub with_frame_of : (is_command : Bool) → List ℕ → Written → Written
with_frame_of is_command frame written =
    if written.is_closed then written else record written { bytes = written.bytes ++ frame; has_commands = is_command || written.has_commands }

-- with a frame of a command
abbrev pub with_command : List ℕ → Written → Written
with_command frame written = with_frame_of true frame written

-- with a frame of any other message
abbrev pub with_frame : List ℕ → Written → Written
with_frame frame written = with_frame_of false frame written

-- nothing waits
abbrev pub all_taken : Written → Written
all_taken written = record written { bytes = [] }
