use Rattle.std.proofs.Common.{◌≡◌, ◌++◌, drop, map}
use Rattle.protocol_errors.specs.declared.uncompleted.AwaitedId.TheVariants.{SignalName}
use Rattle.vm_progress.proofs.lists.push_names.Given as goal

abbrev pub invariant-loop-name : goal.invariant-loop-name
invariant-loop-name l = l.ids.items ++ map SignalName (drop l.name-index l.names) ≡ l.initial.ids.items ++ map SignalName l.names
