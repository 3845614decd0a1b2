use Rattle.std.proofs.Common.{◌≡◌, ◌++◌, drop, map}
use Rattle.protocol_errors.specs.declared.uncompleted.AwaitedId.TheVariants.{CompletionId}
use Rattle.vm_progress.proofs.lists.push_completions.Given as goal

abbrev pub invariant-loop-number : goal.invariant-loop-number
invariant-loop-number l = l.ids.items ++ map CompletionId (drop l.number-index l.completions) ≡ l.initial.ids.items ++ map CompletionId l.completions
