use Rattle.std.proofs.Common.{◌≡◌, ◌++◌, take}
use Rattle.protocol_messages.proofs.suspension.push_names.Given as goal

abbrev pub invariant-loop-name : goal.invariant-loop-name
invariant-loop-name l = l.out ≡ l.initial.out ++ take l.name-index l.more
