use Rattle.std.proofs.Common.{◌≡◌, take}
use Rattle.vm_state_reads.proofs.key_reads.to_bytes.Given as goal

abbrev pub invariant-loop-key : goal.invariant-loop-key
invariant-loop-key l = l.made ≡ take l.key-index l.keys
