-- The frames so far are ready; each adds bytes to them.
use Rattle.std.proofs.Common.{◌-◌, ◌≤◌, length}
use Rattle.store_tables.specs.Looks.{OnlyAsks}
use Rattle.journal_store.specs.JoinedFrames.{AreReady}
use Rattle.journal_store.proofs.joined.join_frames.Given as goal

abbrev pub invariant-loop-frames : goal.invariant-loop-frames
invariant-loop-frames g l = record {
  within : l.frames.len ≤ length l.attempt.output;
  ready : AreReady g.S.Store l.id l.frames l.attempt l.initial.tables l.tables;
  looks : OnlyAsks g.S.Store l.initial.tables l.tables;
}

abbrev pub decreases-loop-frames : goal.decreases-loop-frames
decreases-loop-frames g l = length l.attempt.output - l.frames.len
