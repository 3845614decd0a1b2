use Rattle.std.proofs.Common.{◌≡◌, ◌++◌, drop, map}
use Rattle.protocol_errors.specs.declared.uncompleted.AwaitedId.TheVariants.{SignalId}
use Rattle.vm_progress.proofs.lists.push_signals.Given as goal

abbrev pub invariant-loop-number : goal.invariant-loop-number
invariant-loop-number l = l.ids.items ++ map SignalId (drop l.number-index l.signals) ≡ l.initial.ids.items ++ map SignalId l.signals
