use Rattle.std.proofs.Common.{ℕ, subst, Option}
use Rattle.journal_store.specs.FrameAcceptance.{HasRoomToNote}
use Rattle.journal_store.proofs.step.note_acknowledged.Goals as goal

pub note_outcome-requires : goal.note_outcome-requires
note_outcome-requires c attempt is = subst (λ (noted : Option ℕ). HasRoomToNote noted attempt) c.in-Some.is (c.requires attempt is)
