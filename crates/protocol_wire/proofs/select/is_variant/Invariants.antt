-- Whether the number is among the variants that are left, is whether it is among all.
use Rattle.std.proofs.Common.{◌≡◌, drop}
use Rattle.protocol_wire.specs.Selection.{is_among}
use Rattle.protocol_wire.proofs.select.is_variant.Given as goal

abbrev pub invariant-loop-variant : goal.invariant-loop-variant
invariant-loop-variant l = is_among (drop l.variant-index l.variants) l.number ≡ is_among l.variants l.number
