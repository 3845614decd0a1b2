-- A frame, but where its tree asks for a number of successes in a version in which none does.
use Rattle.std.proofs.Common.{◌≡◌, ◌⊎◌, inl, inr, refl, Bool, true, false, ◌&&◌, Option, Some, None}
use Rattle.std.specs.Prelude.{if◌then◌else◌}
use Rattle.journal_model.specs.AwaitTree.{has_number}
use Rattle.journal_model.specs.Event.{Frame}
use Rattle.protocol_records.specs.declared.future.Future.{Future}
use Rattle.protocol_trees.specs.Future.{future_tree}
use Rattle.store_frames.specs.FrameMeanings.{unless_numbered}

pub numbered_or_not : (lacks : Bool) (awaited : Option Future) (frame : Frame) → (unless_numbered lacks awaited frame ≡ frame) ⊎ (unless_numbered lacks awaited frame ≡ Frame.Broken)
numbered_or_not lacks None frame = inl refl
numbered_or_not lacks (Some future) frame = by_test (lacks && has_number (future_tree future))
  where
    by_test : (b : Bool) → ((if b then Frame.Broken else frame) ≡ frame) ⊎ ((if b then Frame.Broken else frame) ≡ Frame.Broken)
    by_test true = inr refl
    by_test false = inl refl
