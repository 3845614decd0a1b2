use Rattle.std.proofs.Common.{take}
use Rattle.std.specs.List.{flat_map}
use Rattle.std.specs.Fmt.{HasWritten, IsPlainFormatter}
use Rattle.server_lines.specs.Reply.{further_frame}
use Rattle.server_lines.proofs.reply.FrameWordsDisplay.fmt.Given as goal

abbrev pub invariant-loop-frame : goal.invariant-loop-frame
invariant-loop-frame g l =
    IsPlainFormatter l.initial.f → HasWritten g.W.Write.write_str_gives l.initial.f (flat_map further_frame (take l.frame-index l.frame-items)) l.f
