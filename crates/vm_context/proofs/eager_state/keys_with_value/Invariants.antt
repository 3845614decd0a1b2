-- The keys that were told, and those that are left.
use Rattle.std.proofs.Common.{◌≡◌, ◌++◌}
use Rattle.journal_model.specs.State.{state_keys}
use Rattle.vm_context.specs.Eager.{valued}
use Rattle.vm_context.proofs.eager_state.keys_with_value.Given as goal

abbrev pub invariant-loop-key : goal.invariant-loop-key
invariant-loop-key l = l.keys ++ state_keys (valued l.key-iterator) ≡ state_keys (valued l.values.entries)
