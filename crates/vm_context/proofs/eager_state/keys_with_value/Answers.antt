use Rattle.journal_model.specs.State.{state_keys}
use Rattle.vm_context.specs.Eager.{valued}
use Rattle.vm_context.proofs.Telling.{keys_left}
use Rattle.vm_context.proofs.eager_state.keys_with_value.Goals as goal

pub loop-key-preserved : goal.loop-key-preserved
loop-key-preserved c =
    keys_left c.loop-key.keys c.push_key.new.keys c.in-Some.key.now c.in-Some.value.now c.loop-key.key-iterator c.next.new.self (state_keys (valued c.args.values.now.entries))
    c.loop-key.invariant c.in-Some.ensures.steps c.in_ok-push_key.ensures
