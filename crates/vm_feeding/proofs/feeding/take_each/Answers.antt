use Rattle.vm_feeding.proofs.TakenMessages.{next_is_shorter, takes_more, took_all}
use Rattle.vm_feeding.proofs.feeding.take_each.Goals as goal

pub loop-message-smaller : goal.loop-message-smaller
loop-message-smaller c = next_is_shorter c.in-Some.message c.loop-message.vm c.next_message.new.vm c.take_message.new.self c.in-Some.ensures c.take_message.ensures

pub loop-message-preserved : goal.loop-message-preserved
loop-message-preserved c =
    takes_more c.in-Some.message c.args.vm.now c.loop-message.vm c.next_message.new.vm c.take_message.new.self c.loop-message.invariant c.in-Some.ensures c.take_message.ensures

pub returns : goal.returns
returns c = took_all c.args.vm.now c.loop-message.vm c.next_message.new.vm c.loop-message.invariant (rw c.in_default.is at c.next_message.ensures)
