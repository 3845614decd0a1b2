-- Messages were taken so far; each has left fewer bytes.
use Rattle.std.proofs.Common.{length}
use Rattle.vm_feeding.proofs.TakenMessages.{TookSome}
use Rattle.vm_feeding.proofs.feeding.take_each.Given as goal

abbrev pub invariant-loop-message : goal.invariant-loop-message
invariant-loop-message l = TookSome l.initial.vm l.vm

abbrev pub decreases-loop-message : goal.decreases-loop-message
decreases-loop-message l = length l.vm.decoder
