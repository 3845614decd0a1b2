-- What the words of a tree of handles spell. They are read from the last one on: each takes its children from the top of a stack of trees.
use Rattle.std.specs.Prelude.{◌≡◌, ℕ, ◌^◌, ◌<◌, List, [], ◌∷◌, ◌++◌, length, map, take, drop, Option, Some, None, Result, Ok, Err, codes, if◌then◌else◌, bytes_eq, nat_le}
use Rattle.std.specs.declared.vec.Vec.{Vec}
use Rattle.journal_model.specs.AwaitTree as trees
use Rattle.journal_model.specs.AwaitTree.{AwaitTree, Combinator}
use Rattle.journal_model.specs.Future.{node, tree_of}
use Rattle.journal_model.specs.declared.future.UnresolvedFuture.{UnresolvedFuture}
use Rattle.script_lines.specs.declared.word.LineError.{LineError}
use Rattle.script_lines.specs.declared.word.LineError.TheVariants.{NotUnderstood, Memory}
use Rattle.script_lines.specs.LineReader.{◌>>=◌, at_colon, number_below}
use Rattle.call_lines.specs.declared.tree.NodeKind.{NodeKind}
use Rattle.call_lines.specs.declared.tree.NodeKind.TheVariants as kinds
use Rattle.call_lines.specs.declared.tree.TreeNode.{TreeNode}
use Rattle.call_lines.specs.declared.tree.TreeNode.TheVariants as nodes

-- ---- a word

unfoldable pub kind_of : List ℕ → Option NodeKind
kind_of word =
    if bytes_eq word (codes "any") then Some kinds.Any else
    (if bytes_eq word (codes "all") then Some kinds.All else
    (if bytes_eq word (codes "first-succeeded") then Some kinds.FirstSucceeded else
    (if bytes_eq word (codes "all-succeeded") then Some kinds.AllSucceeded else
    (if bytes_eq word (codes "unknown") then Some kinds.Unknown else None))))

-- how many are to succeed, and how many children there are
unfoldable pub numbered_of : List ℕ → Option TreeNode
numbered_of text = do
  parts ← at_colon text
  required ← number_below (2 ^ 32) parts.0
  count ← number_below (2 ^ 32) parts.1
  Some (nodes.Over (kinds.AtLeast required) count)

unfoldable pub over_kind : List ℕ → List ℕ → Option TreeNode
over_kind kind text = if bytes_eq kind (codes "at-least") then numbered_of text else (do
  kind ← kind_of kind
  count ← number_below (2 ^ 32) text
  Some (nodes.Over kind count))

unfoldable pub over_of : List ℕ → Option TreeNode
over_of word = do
  parts ← at_colon word
  over_kind parts.0 parts.1

unfoldable pub handle_or : Option ℕ → List ℕ → Option TreeNode
handle_or (Some handle) word = Some (nodes.Handle handle)
handle_or None word = over_of word

-- a handle, or a combinator and how many children it has
unfoldable pub node_of : List ℕ → Option TreeNode
node_of word = handle_or (number_below (2 ^ 32) word) word

-- ---- a stack of trees, whose top is first

abbrev pub Stack : Type 0
Stack = List (AwaitTree ℕ)

abbrev pub combinator_of : NodeKind → Combinator
combinator_of kinds.Any = trees.FirstCompleted
combinator_of kinds.All = trees.AllCompleted
combinator_of kinds.FirstSucceeded = trees.FirstSucceededOrAllFailed
combinator_of kinds.AllSucceeded = trees.AllSucceededOrFirstFailed
combinator_of (kinds.AtLeast required) = trees.AtLeast required
combinator_of kinds.Unknown = trees.Unknown

abbrev pub combined_by : NodeKind → List (AwaitTree ℕ) → AwaitTree ℕ
combined_by kind children = node (combinator_of kind) children

-- a node takes its children from the top, the first of them first
unfoldable pub joined : TreeNode → Stack → Option Stack
joined (nodes.Handle handle) stack = Some (trees.Single handle ∷ stack)
joined (nodes.Over kind count) stack = if nat_le count (length stack) then Some (combined_by kind (take count stack) ∷ drop count stack) else None

unfoldable pub onto : List ℕ → Option Stack → Option Stack
onto word read = do
  stack ← read
  node ← node_of word
  joined node stack

unfoldable pub all_onto : List (List ℕ) → Option Stack → Option Stack
all_onto [] read = read
all_onto (word ∷ words) read = onto word (all_onto words read)

unfoldable pub alone : Stack → Option (AwaitTree ℕ)
alone (tree ∷ []) = Some tree
alone stack = None

-- the one tree that the words spell
unfoldable pub tree_read : List (List ℕ) → Option (AwaitTree ℕ)
tree_read words = do
  stack ← all_onto words (Some [])
  alone stack

-- ---- what the reader holds: a stack whose top is last

abbrev pub from_top : List UnresolvedFuture → Stack
from_top [] = []
from_top (future ∷ futures) = from_top futures ++ tree_of future ∷ []

-- so many were taken, or there were fewer
abbrev pub TakesChildren : ℕ → (before : List UnresolvedFuture) → Result (List UnresolvedFuture) LineError → (after : List UnresolvedFuture) → Type 0
TakesChildren count before (Ok children) after = (length children ≡ count) × (from_top before ≡ map tree_of children ++ from_top after)
TakesChildren count before (Err NotUnderstood) after = length (from_top before) < count
TakesChildren count before (Err Memory) after = Unit {0}

abbrev pub GrowsBy : TreeNode → (before : List UnresolvedFuture) → Result UnresolvedFuture LineError → (after : List UnresolvedFuture) → Type 0
GrowsBy node before (Ok future) after = joined node (from_top before) ≡ Some (tree_of future ∷ from_top after)
GrowsBy node before (Err NotUnderstood) after = joined node (from_top before) ≡ None
GrowsBy node before (Err Memory) after = Unit {0}

-- it is on top, unless memory ran out
abbrev pub PutsOn : UnresolvedFuture → (before : List UnresolvedFuture) → Result (Unit {0}) LineError → (after : List UnresolvedFuture) → Type 0
PutsOn future before (Ok done) after = after ≡ before ++ future ∷ []
PutsOn future before (Err NotUnderstood) after = ⊥
PutsOn future before (Err Memory) after = Unit {0}

abbrev pub StacksBy : {A : Type 0} → List (List ℕ) → Result (Vec UnresolvedFuture A) LineError → Type 0
StacksBy words (Ok stack) = all_onto words (Some []) ≡ Some (from_top stack.items)
StacksBy words (Err NotUnderstood) = all_onto words (Some []) ≡ None
StacksBy words (Err Memory) = Unit {0}
