use Rattle.std.proofs.Common.{◌≡◌, take}
use Rattle.vm_c_values.proofs.replies.to_bytes.Given as goal

abbrev pub invariant-loop-text : goal.invariant-loop-text
invariant-loop-text l = l.keys ≡ take l.text-index l.texts
