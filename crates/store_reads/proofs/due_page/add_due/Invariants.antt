-- So many ids of the page are there.
use Rattle.std.proofs.Common.{◌≡◌, [], List}
use Rattle.sqlite.specs.Held.{state}
use Rattle.sqlite.specs.State.{HasCleanDisk}
use Rattle.journal_model.specs.Event.{Event}
use Rattle.store_tables.specs.Looks.{OnlyAsks}
use Rattle.store_invocations.specs.Rows.{IsStoreOf}
use Rattle.store_reads.specs.Page.{rows_by_id}
use Rattle.store_reads.proofs.DuePage.{IsPaged}
use Rattle.store_reads.proofs.due_page.add_due.Given as goal

abbrev pub invariant-loop : goal.invariant-loop
invariant-loop g l = record {
  told : HasCleanDisk (state g.S.Store l.tables) → (events : List Event) → IsStoreOf events (state g.S.Store l.initial.tables) → l.initial.ids.items ≡ []
      → IsPaged l.live.attempts (rows_by_id events) l.after l.most l.behind l.ids.items;
  looks : OnlyAsks g.S.Store l.initial.tables l.tables;
}
