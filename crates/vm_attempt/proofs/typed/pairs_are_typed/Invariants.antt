use Rattle.std.proofs.Common.{take}
use Rattle.std.specs.List.{AllByRecursion}
use Rattle.vm_request_laws.specs.Calls.{IsTypedPair}
use Rattle.vm_attempt.proofs.typed.pairs_are_typed.Given as goal

abbrev pub invariant-loop-pair : goal.invariant-loop-pair
invariant-loop-pair l = AllByRecursion IsTypedPair (take l.pair-index l.pairs)
