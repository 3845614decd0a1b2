use Rattle.std.proofs.Common.{refl, sym, ◌∙◌, subst}
use Rattle.journal_model.specs.Notification.{Bytes}
use Rattle.journal_model.specs.Request.{Request}
use Rattle.protocol_types.specs.declared.message_type.MessageType.TheVariants.{ClearStateCommand}
use Rattle.vm_context.specs.StateKnowledge.{Follows}
use Rattle.vm_calls.proofs.Calls.{unchecked}
use Rattle.vm_calls.proofs.ImmediateCalls.{asks_to_change}
use Rattle.vm_calls.proofs.DoneCalls.{clear_does}
use Rattle.vm_calls.proofs.Spending.{changes_rest}
use Rattle.vm_calls.proofs.active.Active.state_clear.Goals as goal

pub returns-clause-made : goal.returns-clause-made
returns-clause-made c =
    λ given m sees.
    let copy = c.in_ok-name.name in
    c.put_done.ensures.makes c.args.checks_off given m _ _ c.args.self.now refl
    (clear_does given m c.args.key c.args.name c.into_bytes.result copy c.into_bytes.ensures.value (c.in_ok-name.ensures.copy ∙ c.or_empty.ensures))
    (unchecked c.args.checks_off)
    (asks_to_change given m c.args.self.now c.ask.new.self sees ClearStateCommand c.or_empty.result c.in_ok-name.ensures.journal
    (Request.ClearState c.into_bytes.result) copy c.clear_known.new.state
    (subst (λ (key : Bytes). Follows (Request.ClearState key) c.ask.new.self.state c.clear_known.new.state) (sym c.into_bytes.ensures.value) c.in_ok-clear_known.ensures))

pub returns-clause-spent : goal.returns-clause-spent
returns-clause-spent c = c.put_done.ensures.spent _ 0 c.args.self.now refl (changes_rest ClearStateCommand c.or_empty.result c.args.self.now c.in_ok-name.ensures.journal c.clear_known.new.state) (λ lacks. lacks)

pub returns-clause-found : goal.returns-clause-found
returns-clause-found c = c.put_done.ensures.found ClearStateCommand c.args.self.now refl (changes_rest ClearStateCommand c.or_empty.result c.args.self.now c.in_ok-name.ensures.journal c.clear_known.new.state)
