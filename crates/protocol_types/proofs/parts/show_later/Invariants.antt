use Rattle.std.proofs.Common.{take}
use Rattle.std.specs.List.{flat_map}
use Rattle.std.specs.Fmt.{HasWritten, IsPlainFormatter}
use Rattle.protocol_types.specs.Texts.{later_text}
use Rattle.protocol_types.proofs.parts.show_later.Given as goal

-- the items before this one are written
abbrev pub invariant-loop-item : goal.invariant-loop-item
invariant-loop-item g l =
    IsPlainFormatter l.initial.f → HasWritten g.W.Write.write_str_gives l.initial.f (flat_map (later_text g.T.Shown.text) (take l.item-index l.items)) l.f
