-- What trees over handles tell, what is left of an awaited one, and which child a cancellation waits for.
use Rattle.std.specs.Prelude.{◌≡◌, ◌<◌, ◌≤◌, ◌^◌, ℕ, Bool, false}
use Rattle.journal_model.specs.declared.notification.NotificationId.{NotificationId}
use Rattle.journal_model.specs.declared.notification.NotificationId.TheVariants.{CompletionId}
use Rattle.journal_model.specs.declared.call.Call.{Call}
use Rattle.journal_model.specs.AwaitTree.{AwaitTree, Single, Pending, is_awake, map_leaves}
use Rattle.journal_model.specs.Request.{Request}
use Rattle.journal_model.specs.Run.{Invocation}
use Rattle.journal_model.specs.PrunedTrees.{only_leaves}
use Rattle.attempt_model.specs.Results.{Slots, slot_of}
use Rattle.attempt_model.specs.Machine.{Machine, AwaitsTree, AwaitsChild, reply_to}
use Rattle.protocol_records.specs.Future.{FutureFits}
use Rattle.protocol_stream.specs.Records.{future_record}
use Rattle.vm_awaits.specs.Children.{AreMade}
use Rattle.vm_request_laws.specs.Calls.{NumbersFit, IsTypedCall}
use Rattle.vm_request_laws.specs.Trees.{IsSpoken, LeavesFit, IsWithin, SlotsFit}

-- a tree whose ids fit has a record that fits, if it has no more levels
abbrev pub RecordsFit : Type 0
RecordsFit = (levels : ℕ) (tree : AwaitTree NotificationId) → LeavesFit tree → IsWithin levels tree → FutureFits levels (future_record tree)

-- the leaves of a tree over handles fit, over what these stand for, where its numbers do
abbrev pub HandlesFit : Type 0
HandlesFit = (slots : Slots) (tree : AwaitTree ℕ) → SlotsFit slots → NumbersFit tree → LeavesFit (only_leaves (slot_of slots) tree)

-- the handles of what is left of an awaited tree stand for what they stood for, it is not awake by itself, its numbers fit where the
-- tree's do, and it asks for none in a version in which none does
pub record IsLeft (version : ℕ) (tree : AwaitTree ℕ) (m after : Machine) (left : AwaitTree ℕ) : Type 0 where
  pub slots : after.slots ≡ m.slots
  pub numbers : IsTypedCall (Call.Await tree) → NumbersFit left
  pub spoken : IsSpoken version (only_leaves (slot_of after.slots) left)
  pub asleep : is_awake (map_leaves (slot_of after.slots) left) (λ leaf. Pending) ≡ false

abbrev pub AwaitsLeave : Type 0
AwaitsLeave = (same_header : Call → Request → Request → Bool) (given : Invocation) (m after : Machine) (tree left : AwaitTree ℕ) → reply_to same_header given m (Call.Await tree) ≡ AwaitsTree left after
    → IsLeft given.version tree m after left

-- it is one whose completion was made, so its id fits; and handles stand for what they stood for
pub record IsChildLeft (m after : Machine) (child : ℕ) : Type 0 where
  pub made : child < m.completions
  pub fits : m.completions ≤ 2 ^ 32 → LeavesFit (Single (CompletionId child))
  pub slots : after.slots ≡ m.slots

abbrev pub ChildrenLeave : Type 0
ChildrenLeave = (same_header : Call → Request → Request → Bool) (given : Invocation) (m after : Machine) (tree : AwaitTree ℕ) (child : ℕ) → AreMade m.completions m.children
    → reply_to same_header given m (Call.Await tree) ≡ AwaitsChild child after → IsChildLeft m after child

pub record AwaitedTreesFit : Type 0 where
  pub records : RecordsFit
  pub handles : HandlesFit
  pub awaits : AwaitsLeave
  pub children : ChildrenLeave
