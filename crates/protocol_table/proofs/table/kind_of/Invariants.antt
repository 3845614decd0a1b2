use Rattle.std.proofs.Common.{◌≡◌, drop}
use Rattle.protocol_table.specs.Table.{kind_in}
use Rattle.protocol_table.proofs.table.kind_of.Given as goal

abbrev pub invariant-loop-field : goal.invariant-loop-field
invariant-loop-field l = kind_in (drop l.field-index l.fields) l.number ≡ kind_in l.fields l.number
