use Rattle.std.proofs.Common.{refl, ◌∙◌}
use Rattle.protocol_types.specs.declared.message_type.MessageType.TheVariants.{SendSignalCommand}
use Rattle.vm_calls.proofs.Calls.{unchecked}
use Rattle.vm_calls.proofs.ImmediateCalls.{asks_to_keep}
use Rattle.vm_calls.proofs.DoneCalls.{signal_does, signal_requested}
use Rattle.vm_calls.proofs.Spending.{asks_rest}
use Rattle.vm_calls.proofs.active.Active.complete_signal.Goals as goal

pub returns-clause-made : goal.returns-clause-made
returns-clause-made c =
    λ given m refused sees.
    let copy = c.in_ok-entry_name.entry_name in
    c.put_done.ensures.makes c.args.checks_off given m _ _ c.args.self.now (signal_requested c.args.target_id c.args.name c.args.value c.in_ok-carried.carried copy c.in_ok-carried.ensures)
    (signal_does given m c.args.target_id c.args.name c.args.value copy refused (c.in_ok-entry_name.ensures.copy ∙ c.new.ensures))
    (unchecked c.args.checks_off)
    (asks_to_keep given m c.args.self.now c.ask.new.self sees SendSignalCommand c.new.result c.in_ok-entry_name.ensures.journal _ refl)

pub returns-clause-spent : goal.returns-clause-spent
returns-clause-spent c = c.put_done.ensures.spent _ 0 c.args.self.now (signal_requested c.args.target_id c.args.name c.args.value c.in_ok-carried.carried c.in_ok-entry_name.entry_name c.in_ok-carried.ensures) (asks_rest SendSignalCommand c.new.result c.args.self.now c.in_ok-entry_name.ensures.journal) (λ lacks. lacks)

pub returns-clause-found : goal.returns-clause-found
returns-clause-found c = c.put_done.ensures.found SendSignalCommand c.args.self.now refl (asks_rest SendSignalCommand c.new.result c.args.self.now c.in_ok-entry_name.ensures.journal)
