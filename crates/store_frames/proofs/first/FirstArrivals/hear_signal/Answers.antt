use Rattle.std.proofs.Common.{◌∙◌, ap, arith, subst}
use Rattle.protocol_trees.specs.declared.tree.AwaitState.{AwaitState}
use Rattle.protocol_wire.specs.Fields.{fields}
use Rattle.store_frames.specs.First.{IsPut, first_state}
use Rattle.store_frames.specs.KeptArrivals.{ReadsKept}
use Rattle.store_frames.proofs.Hearing.{signal_found, signal_named, signal_state}
use Rattle.store_frames.proofs.first.FirstArrivals.hear_signal.Goals as goal

pub returns-in-Some : goal.returns-in-Some
returns-in-Some c = λ arrival none is fits.
    let named = signal_named arrival c.args.payload.now is (omega arith) _ (c.fields.ensures.all ∙ ap fields c.new-listed.ensures) none fits c.in-Some.named c.in-Some.brought c.in-Some.ensures in
    let state = signal_state arrival c.args.payload.now is (omega arith) _ (c.fields.ensures.all ∙ ap fields c.new-listed.ensures) none fits c.in-Some.named c.in-Some.brought c.state_by.result c.in-Some.ensures c.state_by.ensures in
    subst (λ (s : AwaitState). ReadsKept (λ _. IsPut (first_state c.args.self.now) arrival.id s (first_state c.put_named.new.self)) c.put_named.result) state (c.put_named.ensures arrival.id named fits)

pub returns-in-None : goal.returns-in-None
returns-in-None c = λ arrival none is fits.
    signal_found arrival c.args.payload.now is (omega arith) _ (c.fields.ensures.all ∙ ap fields c.new-listed.ensures) none fits c.in-None.ensures
