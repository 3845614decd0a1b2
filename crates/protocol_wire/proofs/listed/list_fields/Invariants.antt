use Rattle.std.proofs.Common.{◌≡◌, ◌≤◌, ◌-◌, ◌++◌, map, take, length}
use Rattle.protocol_wire.specs.Fields.{fields, are_fields}
use Rattle.protocol_wire.specs.CodeFields.{field}
use Rattle.protocol_wire.proofs.listed.list_fields.Given as goal

abbrev pub invariant-loop-count : goal.invariant-loop-count
invariant-loop-count l = record {
  count : l.count ≤ 16;
  room : length l.room ≡ 16;
  all : map field (take l.count l.room) ++ fields l.rest ≡ fields l.bytes;
  whole : are_fields l.rest ≡ are_fields l.bytes;
}

abbrev pub decreases-loop-count : goal.decreases-loop-count
decreases-loop-count l = 16 - l.count
