-- What was taken so far, and what a crash would leave; each frame adds an answer, of which there are never 2^63.
use Rattle.std.proofs.Common.{◌≡◌, ◌-◌, ◌^◌, ◌≢◌, []}
use Rattle.std.specs.Prelude.{vec_len}
use Rattle.sqlite.specs.Held.{state}
use Rattle.sql_tables.specs.QueryAnswers.{AreTablesKept}
use Rattle.store_calls.specs.Frames.{TakesEach, TakesFirstFrames}
use Rattle.journal_store.specs.StoreStanding.{Endures, Leads, Settles}
use Rattle.journal_store.proofs.OutputAcceptance.{GoesOn}
use Rattle.journal_store.proofs.accept.take_all.Given as goal

abbrev pub invariant-loop-replies : goal.invariant-loop-replies
invariant-loop-replies g l = record {
  taken : Leads g.S.Store (GoesOn l.id l.attempt l.replies.items) l.fn.store l.store;
  settled : l.replies.items ≢ [] → Settles g.S.Store (TakesEach l.id l.attempt l.replies.items) l.fn.store l.store;
  kept : l.replies.items ≡ [] → AreTablesKept (state g.S.Store l.fn.store.connection) (state g.S.Store l.store.connection);
  crash : Endures g.S.Store (TakesFirstFrames l.id l.attempt) l.fn.store l.store;
}

abbrev pub decreases-loop-replies : goal.decreases-loop-replies
decreases-loop-replies g l = 2 ^ 63 - vec_len l.replies
