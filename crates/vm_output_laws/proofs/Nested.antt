-- A tree whose leaves fit, and which is nested no deeper than a frame can tell, fits.
use Rattle.std.proofs.Common.{◌≡◌, ◌-◌, ℕ, zero, suc, Bool, true, false, ◌&&◌, not, if◌then◌else◌, refl}
use Rattle.protocol_wire.specs.declared.record.TheConstants.{LEVELS}
use Rattle.journal_model.specs.declared.notification.NotificationId.{NotificationId}
use Rattle.journal_model.specs.AwaitTree.{AwaitTree, Single, Combined, AwaitTrees, no_trees, and_trees}
use Rattle.vm_waiting.specs.SuspensionFrames.{is_nested_within, are_nested_within, is_too_deep}
use Rattle.vm_request_laws.specs.Trees.{LeavesFit, IsWithin, AreWithin, TreeFits}
use Rattle.vm_output_laws.specs.SentFrames.{SuspendedFits}

and_true : (a b : Bool) → (a && b) ≡ true → (a ≡ true) × (b ≡ true)
and_true true b e = (refl, e)
and_true false b e = cc

mutual
  within_of : (levels : ℕ) (tree : AwaitTree NotificationId) → is_nested_within (suc levels) tree ≡ true → IsWithin (suc levels) tree
  within_of levels (Single leaf) e = tt
  within_of levels (Combined combinator children) e = are_within_of levels children e

  are_within_of : (levels : ℕ) (trees : AwaitTrees NotificationId) → are_nested_within levels trees ≡ true → AreWithin levels trees
  are_within_of levels no_trees e = tt
  are_within_of levels (and_trees (Single leaf) trees) e = are_within_of levels trees e
  are_within_of zero (and_trees (Combined combinator children) trees) e = cc
  are_within_of (suc levels) (and_trees (Combined combinator children) trees) e =
      let both = and_true (are_nested_within levels children) (are_nested_within (suc levels) trees) e in
      (within_of levels (Combined combinator children) both.0, are_within_of (suc levels) trees both.1)

not_deep : (b : Bool) → not b ≡ false → b ≡ true
not_deep true e = refl
not_deep false e = cc

pub shallow_fits : (tree : AwaitTree NotificationId) → LeavesFit tree → is_too_deep tree ≡ false → TreeFits tree
shallow_fits tree leaves shallow = record { leaves = leaves; levels = within_of (LEVELS - 2) tree (not_deep (is_nested_within (LEVELS - 1) tree) shallow) }

pub suspended_fits : (has_lists : Bool) (tree : AwaitTree NotificationId) → LeavesFit tree → (if has_lists then false else is_too_deep tree) ≡ false → SuspendedFits has_lists tree
suspended_fits true tree leaves shallow = leaves
suspended_fits false tree leaves shallow = shallow_fits tree leaves shallow
