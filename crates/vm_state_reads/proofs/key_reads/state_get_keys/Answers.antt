use Rattle.std.proofs.Common.{◌≡◌, ◌∙◌, true, false, sym}
use Rattle.journal_model.specs.declared.call.Call.{Call}
use Rattle.vm_calls.proofs.Calls.{unchecked}
use Rattle.vm_state_reads.proofs.Asked.{replays_keys, writes_keys}
use Rattle.vm_state_reads.proofs.key_reads.state_get_keys.Goals as goal

pub returns-then-active-clause-made : goal.returns-then-active-clause-made
returns-then-active-clause-made c =
    λ given m sees.
    c.replay_keys.ensures.made c.if-active.true c.args.checks_off given m (Call.StateGetKeys c.args.name)
    (replays_keys given m c.args.name c.or_empty-name.result c.or_empty-name.ensures (sym sees.replaying ∙ c.if-active.true))
    (unchecked c.args.checks_off) sees

pub returns-clause-made : goal.returns-clause-made
returns-clause-made c =
    λ given m sees.
    c.write_keys.ensures.made c.args.checks_off given m (Call.StateGetKeys c.args.name)
    (writes_keys given m c.args.name c.or_empty-name.result c.or_empty-name.ensures (sym sees.replaying ∙ c.if-active.false))
    (unchecked c.args.checks_off) sees

pub returns-clause-spent : goal.returns-clause-spent
returns-clause-spent c = λ spent. let wrong : true ≡ false = sym spent.replaying ∙ c.if-active.false in cc
