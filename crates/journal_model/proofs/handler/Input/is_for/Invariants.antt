-- None of the headers so far tells of this handler.
use Rattle.std.proofs.Common.{◌≡◌, false, take}
use Rattle.std.specs.List.{list_any}
use Rattle.journal_model.specs.Headers.{tells_handler}
use Rattle.journal_model.proofs.handler.Input.is_for.Given as goal

abbrev pub invariant-loop-header : goal.invariant-loop-header
invariant-loop-header l = list_any (tells_handler l.fn.name) (take l.header-index l.header-items) ≡ false
