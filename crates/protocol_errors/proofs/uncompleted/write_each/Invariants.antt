-- So far the lines of the ids before are written.
use Rattle.std.proofs.Common.{take}
use Rattle.std.specs.List.{flat_map}
use Rattle.std.specs.Fmt.{HasWritten, IsPlainFormatter}
use Rattle.protocol_errors.specs.Texts.{awaited_line}
use Rattle.protocol_errors.proofs.uncompleted.write_each.Given as goal

abbrev pub invariant-loop-id : goal.invariant-loop-id
invariant-loop-id g l =
    IsPlainFormatter l.initial.f → HasWritten g.W.Write.write_str_gives l.initial.f (flat_map (awaited_line l.known) (take l.id-index l.ids)) l.f
