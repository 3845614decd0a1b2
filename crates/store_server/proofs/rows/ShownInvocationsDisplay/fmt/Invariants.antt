use Rattle.std.proofs.Common.{take}
use Rattle.std.specs.List.{flat_map}
use Rattle.std.specs.Fmt.{HasWritten, IsPlainFormatter}
use Rattle.store_server.specs.Rows.{listed_text}
use Rattle.store_server.proofs.rows.ShownInvocationsDisplay.fmt.Given as goal

abbrev pub invariant-loop-listed : goal.invariant-loop-listed
invariant-loop-listed g l =
    IsPlainFormatter l.initial.f → HasWritten g.W.Write.write_str_gives l.initial.f (flat_map listed_text (take l.listed-index l.listed-items)) l.f
