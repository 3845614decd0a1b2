-- Which trees of ids the protocol can tell.
use Rattle.std.specs.Prelude.{◌≡◌, ℕ, zero, suc, ◌<◌, ◌-◌, ◌^◌, false, ◌&&◌, IsUtf8, IfSome}
use Rattle.std.specs.List.{AllByRecursion}
use Rattle.protocol_wire.specs.declared.record.TheConstants.{LEVELS}
use Rattle.journal_model.specs.declared.notification.NotificationId.{NotificationId}
use Rattle.journal_model.specs.declared.notification.NotificationId.TheVariants.{CompletionId, SignalId, SignalName}
use Rattle.journal_model.specs.AwaitTree.{AwaitTree, Single, Combined, AwaitTrees, no_trees, and_trees, has_number}
use Rattle.protocol_types.specs.declared.feature.Feature.TheVariants.{AtLeast}
use Rattle.protocol_types.specs.Feature.{lacks_feature}
use Rattle.journal_model.specs.Spelling.{required_by}
use Rattle.attempt_model.specs.Results.{Slots}

-- numbers of ids have 32 bits, names are text, and so have the numbers of successes that nodes ask for
abbrev pub IdFits : NotificationId → Type 0
IdFits (CompletionId n) = n < 2 ^ 32
IdFits (SignalId n) = n < 2 ^ 32
IdFits (SignalName name) = IsUtf8 name

abbrev mutual
  pub LeavesFit : AwaitTree NotificationId → Type 0
  LeavesFit (Single id) = IdFits id
  LeavesFit (Combined combinator children) = (required_by combinator < 2 ^ 32) × AllLeavesFit children

  pub AllLeavesFit : AwaitTrees NotificationId → Type 0
  AllLeavesFit no_trees = Unit {0}
  AllLeavesFit (and_trees tree trees) = LeavesFit tree × AllLeavesFit trees

-- nodes stand in no more than so many levels; a leaf alone takes one
abbrev mutual
  pub IsWithin : {Leaf : Type 0} → ℕ → AwaitTree Leaf → Type 0
  IsWithin zero tree = ⊥
  IsWithin (suc levels) (Single leaf) = Unit {0}
  IsWithin (suc levels) (Combined combinator children) = AreWithin levels children

  pub AreWithin : {Leaf : Type 0} → ℕ → AwaitTrees Leaf → Type 0
  AreWithin levels no_trees = Unit {0}
  AreWithin levels (and_trees (Single leaf) trees) = AreWithin levels trees
  AreWithin levels (and_trees (Combined combinator children) trees) = IsWithin levels (Combined combinator children) × AreWithin levels trees

-- it asks for no number of successes in a version in which none does
abbrev pub IsSpoken : {Leaf : Type 0} → ℕ → AwaitTree Leaf → Type 0
IsSpoken version tree = (has_number tree && lacks_feature version AtLeast) ≡ false

-- Its ids fit, and it is nested no deeper than a record below the one of its frame can be.
pub record TreeFits (tree : AwaitTree NotificationId) : Type 0 where
  pub leaves : LeavesFit tree
  pub levels : IsWithin (LEVELS - 1) tree

-- what handles stand for fits
abbrev pub SlotsFit : Slots → Type 0
SlotsFit slots = AllByRecursion (λ slot. IfSome slot IdFits) slots
