-- So many rows of the page are there.
use Rattle.std.proofs.Common.{◌≡◌, ◌-◌, [], length, List}
use Rattle.std.specs.Option.{option_copied}
use Rattle.sqlite.specs.Held.{state}
use Rattle.sqlite.specs.State.{HasCleanDisk}
use Rattle.journal_model.specs.Event.{Event}
use Rattle.store_tables.specs.Looks.{OnlyAsks}
use Rattle.store_invocations.specs.Rows.{IsStoreOf}
use Rattle.store_reads.specs.Page.{rows_by_id}
use Rattle.store_reads.proofs.PageRows.{IsBegun}
use Rattle.store_reads.proofs.page.add_rows.Given as goal

abbrev pub invariant-loop-tables : goal.invariant-loop-tables
invariant-loop-tables g l = record {
  told : HasCleanDisk (state g.S.Store l.tables) → (events : List Event) → IsStoreOf events (state g.S.Store l.initial.tables) → l.initial.rows.items ≡ []
      → IsBegun (rows_by_id events) (option_copied l.after) l.most l.rows.items;
  looks : OnlyAsks g.S.Store l.initial.tables l.tables;
}

abbrev pub decreases-loop-tables : goal.decreases-loop-tables
decreases-loop-tables g l = l.most - length l.rows.items
