use Rattle.vm_request_laws.specs.Calls.{IsTypedPair}
use Rattle.vm_attempt.proofs.Lists.{all_next}
use Rattle.vm_attempt.proofs.typed.pairs_are_typed.Goals as goal

pub loop-pair-preserved : goal.loop-pair-preserved
loop-pair-preserved c = all_next IsTypedPair c.args.pairs.now c.loop-pair.pair-index c.pair-item.result c.loop-pair-test.true c.pair-item.is c.loop-pair.invariant c.pair_is_typed.ensures
