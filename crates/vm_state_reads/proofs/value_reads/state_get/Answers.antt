use Rattle.std.proofs.Common.{◌≡◌, ◌∙◌, true, false, sym, subst}
use Rattle.journal_model.specs.declared.call.Call.{Call}
use Rattle.journal_model.specs.Notification.{Bytes}
use Rattle.journal_model.specs.Request.{Request}
use Rattle.vm_commands.specs.RecordedCommands.{as_recorded}
use Rattle.vm_state_reads.specs.ReadAnswers.{ReadsOne}
use Rattle.vm_state_reads.proofs.Asked.{replays_value, writes_value}
use Rattle.vm_state_reads.proofs.value_reads.state_get.Goals as goal

pub returns-then-active-clause-made : goal.returns-then-active-clause-made
returns-then-active-clause-made c =
    λ given m sees.
    let call = Call.StateGet c.args.key c.args.name c.args.options in
    c.replay_value.ensures.made c.if-active.true c.args.checks_off given m call
    (subst (λ (key : Bytes). ReadsOne given m call (as_recorded m.left (Request.GetLazyState key m.completions c.or_empty-name.result))) (sym c.into_bytes.ensures.value)
    (replays_value given m c.args.key c.args.name c.args.options c.or_empty-name.result c.or_empty-name.ensures (sym sees.replaying ∙ c.if-active.true)))
    c.ignores-ignoring.ensures sees

pub returns-clause-made : goal.returns-clause-made
returns-clause-made c =
    λ given m sees.
    let call = Call.StateGet c.args.key c.args.name c.args.options in
    c.write_value.ensures.made c.args.checks_off given m call
    (writes_value given m c.args.key c.args.name c.args.options c.or_empty-name.result c.or_empty-name.ensures (sym sees.replaying ∙ c.if-active.false))
    c.ignores-ignoring.ensures sees

pub returns-clause-spent : goal.returns-clause-spent
returns-clause-spent c = λ spent. let wrong : true ≡ false = sym spent.replaying ∙ c.if-active.false in cc
