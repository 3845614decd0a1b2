-- Counts of children, and what a node has come to by them.
use Rattle.std.specs.Prelude.{ℕ, ◌+◌, ◌-◌, ◌==◌, Bool, false, not, ◌||◌, if◌then◌else◌, List, [], ◌∷◌}
use Rattle.journal_model.specs.AwaitTree as Trees
use Rattle.journal_model.specs.AwaitTree.{AwaitState, Pending, Succeeded, Failed, is_completed, at_least}
pub use Rattle.protocol_trees.specs.Shape.{state_meant}
use Rattle.vm_flat_trees.specs.declared.node.Kind.{Kind}
use Rattle.vm_flat_trees.specs.declared.node.Kind.TheVariants as kinds
use Rattle.vm_flat_trees.specs.declared.node.Counts.{Counts}

abbrev pub no_counts : Counts
no_counts = record { pending = 0; succeeded = 0; failed = 0 }

-- one child more, of this state
abbrev pub child_counted : AwaitState → Counts → Counts
child_counted Pending counts = record { pending = counts.pending + 1; succeeded = counts.succeeded; failed = counts.failed }
child_counted Succeeded counts = record { pending = counts.pending; succeeded = counts.succeeded + 1; failed = counts.failed }
child_counted Failed counts = record { pending = counts.pending; succeeded = counts.succeeded; failed = counts.failed + 1 }

-- children of these states, beside others
abbrev pub counted_all : List AwaitState → Counts → Counts
counted_all [] counts = counts
counted_all (state ∷ states) counts = child_counted state (counted_all states counts)

abbrev pub counts_of : List AwaitState → Counts
counts_of states = counted_all states no_counts

-- by whether none has succeeded, and none has failed
abbrev pub first_by : (is_none_succeeded is_none_failed : Bool) → AwaitState
first_by succeeded failed = if succeeded then (if failed then Pending else Failed) else Succeeded

-- of a node that asks for a number of successes
abbrev pub at_least_by : (required : ℕ) → Counts → AwaitState
at_least_by required counts = at_least required counts.succeeded (counts.pending + counts.succeeded)

-- what a node has come to. Of one that is completed with its first child it is said which of both only where its completed
-- children have all succeeded, or all failed: else it is taken for a success.
abbrev pub state_by : Kind → Counts → AwaitState
state_by (kinds.Leaf handle) counts = first_by (counts.succeeded == 0) (counts.failed == 0)
state_by kinds.Unknown counts = first_by (counts.succeeded == 0) (counts.failed == 0)
state_by kinds.FirstCompleted counts = first_by (counts.succeeded == 0) (counts.failed == 0)
state_by kinds.AllCompleted counts = if counts.pending == 0 then Succeeded else Pending
state_by kinds.FirstSucceededOrAllFailed counts = if counts.succeeded == 0 then (if counts.pending == 0 then Failed else Pending) else Succeeded
state_by kinds.AllSucceededOrFirstFailed counts = if counts.failed == 0 then (if counts.pending == 0 then Succeeded else Pending) else Failed
state_by (kinds.AtLeast required) counts = at_least_by required counts

-- whether the node has ended: by a child at once, or, where it asks for a number of successes, as soon as it is not pending
abbrev pub is_ended : Kind → Counts → Bool
is_ended (kinds.Leaf handle) counts = false
is_ended kinds.Unknown counts = not (counts.succeeded == 0) || not (counts.failed == 0)
is_ended kinds.FirstCompleted counts = not (counts.succeeded == 0) || not (counts.failed == 0)
is_ended kinds.AllCompleted counts = false
is_ended kinds.FirstSucceededOrAllFailed counts = not (counts.succeeded == 0)
is_ended kinds.AllSucceededOrFirstFailed counts = not (counts.failed == 0)
is_ended (kinds.AtLeast required) counts = is_completed (at_least_by required counts)

abbrev pub node_kind : Trees.Combinator → Kind
node_kind Trees.Unknown = kinds.Unknown
node_kind Trees.FirstCompleted = kinds.FirstCompleted
node_kind Trees.AllCompleted = kinds.AllCompleted
node_kind Trees.FirstSucceededOrAllFailed = kinds.FirstSucceededOrAllFailed
node_kind Trees.AllSucceededOrFirstFailed = kinds.AllSucceededOrFirstFailed
node_kind (Trees.AtLeast required) = kinds.AtLeast required

-- how it combines what is left of its children: a number of successes is lowered by those that have succeeded
abbrev pub lowered_kind : Kind → Counts → Kind
lowered_kind (kinds.AtLeast required) counts = kinds.AtLeast (required - counts.succeeded)
lowered_kind kind counts = kind
