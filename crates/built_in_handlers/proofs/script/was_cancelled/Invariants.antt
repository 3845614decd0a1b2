-- Whether one of the answers that are left is cancelled, is whether one of them all is.
use Rattle.std.proofs.Common.{◌≡◌, drop}
use Rattle.std.specs.List.{list_any}
use Rattle.built_in_handlers.specs.Handlers as scripts
use Rattle.built_in_handlers.proofs.script.was_cancelled.Given as goal

abbrev pub invariant-loop-answer : goal.invariant-loop-answer
invariant-loop-answer l = list_any scripts.is_cancelled (drop l.answer-index l.answers) ≡ list_any scripts.is_cancelled l.answers
