use Rattle.std.proofs.Common.{refl, ◌∙◌}
use Rattle.protocol_types.specs.declared.message_type.MessageType.TheVariants.{CompleteAwakeableCommand}
use Rattle.vm_calls.proofs.ImmediateCalls.{asks_to_keep}
use Rattle.vm_calls.proofs.DoneCalls.{awakeable_does, awakeable_requested}
use Rattle.vm_calls.proofs.Spending.{asks_rest}
use Rattle.vm_calls.proofs.active.Active.complete_awakeable.Goals as goal

pub returns-clause-made : goal.returns-clause-made
returns-clause-made c =
    λ given m refused sees.
    let copy = c.in_ok-name.name in
    c.put_done.ensures.makes c.args.checks_off given m _ _ c.args.self.now (awakeable_requested c.args.id c.args.value c.in_ok-carried.carried copy c.in_ok-carried.ensures)
    (awakeable_does given m c.args.id c.args.value c.args.options copy refused (c.in_ok-name.ensures.copy ∙ c.new.ensures))
    c.ignores.ensures
    (asks_to_keep given m c.args.self.now c.ask.new.self sees CompleteAwakeableCommand c.new.result c.in_ok-name.ensures.journal _ refl)

pub returns-clause-spent : goal.returns-clause-spent
returns-clause-spent c = c.put_done.ensures.spent _ 0 c.args.self.now (awakeable_requested c.args.id c.args.value c.in_ok-carried.carried c.in_ok-name.name c.in_ok-carried.ensures) (asks_rest CompleteAwakeableCommand c.new.result c.args.self.now c.in_ok-name.ensures.journal) (λ lacks. lacks)

pub returns-clause-found : goal.returns-clause-found
returns-clause-found c = c.put_done.ensures.found CompleteAwakeableCommand c.args.self.now refl (asks_rest CompleteAwakeableCommand c.new.result c.args.self.now c.in_ok-name.ensures.journal)
