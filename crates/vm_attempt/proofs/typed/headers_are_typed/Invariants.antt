use Rattle.std.proofs.Common.{take}
use Rattle.std.specs.List.{AllByRecursion}
use Rattle.vm_request_laws.specs.Calls.{IsTypedHeader}
use Rattle.vm_attempt.proofs.typed.headers_are_typed.Given as goal

abbrev pub invariant-loop-header : goal.invariant-loop-header
invariant-loop-header l = AllByRecursion IsTypedHeader (take l.header-index l.headers)
