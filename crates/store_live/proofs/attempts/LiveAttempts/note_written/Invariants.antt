-- Those that were yielded so far were taken in.
use Rattle.store_live.specs.Rows.{AreNoted}
use Rattle.store_live.proofs.attempts.LiveAttempts.note_written.Given as goal

abbrev pub invariant-loop-write : goal.invariant-loop-write
invariant-loop-write l = AreNoted l.yielded l.initial.self.attempts l.self.attempts
