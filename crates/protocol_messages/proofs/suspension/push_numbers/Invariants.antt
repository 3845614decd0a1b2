use Rattle.std.proofs.Common.{◌≡◌, ◌++◌, take}
use Rattle.protocol_messages.proofs.suspension.push_numbers.Given as goal

abbrev pub invariant-loop-number : goal.invariant-loop-number
invariant-loop-number l = l.out ≡ l.initial.out ++ take l.number-index l.more
