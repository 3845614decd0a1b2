-- So many of them are known and closed, and what removes their rows is made.
use Rattle.std.proofs.Common.{◌≡◌, [], take, List}
use Rattle.sqlite.specs.Held.{state}
use Rattle.sqlite.specs.State.{HasCleanDisk}
use Rattle.journal_model.specs.Event.{Event}
use Rattle.journal_model.specs.Cause.{those_that_hold}
use Rattle.store_tables.specs.Looks.{OnlyAsks}
use Rattle.store_refusals.specs.Forgetting.{forget_tests_of_all}
use Rattle.store_invocations.specs.Rows.{IsStoreOf}
use Rattle.store_invocations.specs.ForgottenRows.{forgetting_writes_of_all}
use Rattle.store_invocations.proofs.forget.prepare_forget.Given as goal

abbrev pub invariant-loop-id : goal.invariant-loop-id
invariant-loop-id g l = record {
  none : HasCleanDisk (state g.S.Store l.tables) → (events : List Event) → IsStoreOf events (state g.S.Store l.initial.tables) → those_that_hold (forget_tests_of_all events (take l.id-index l.ids)) ≡ [];
  made : l.writes.items ≡ forgetting_writes_of_all (take l.id-index l.ids);
  looks : OnlyAsks g.S.Store l.initial.tables l.tables;
}
