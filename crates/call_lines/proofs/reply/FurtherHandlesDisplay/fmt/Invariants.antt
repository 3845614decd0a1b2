use Rattle.std.proofs.Common.{take}
use Rattle.std.specs.List.{flat_map}
use Rattle.std.specs.Fmt.{HasWritten, IsPlainFormatter}
use Rattle.call_lines.specs.Reply.{handle_text}
use Rattle.call_lines.proofs.reply.FurtherHandlesDisplay.fmt.Given as goal

abbrev pub invariant-loop-handle : goal.invariant-loop-handle
invariant-loop-handle g l =
    IsPlainFormatter l.initial.f → HasWritten g.W.Write.write_str_gives l.initial.f (flat_map handle_text (take l.handle-index l.handle-items)) l.f
