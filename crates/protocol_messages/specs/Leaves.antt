-- The leaves of a tree in preorder: a node's own before those of the nodes in it.
use Rattle.std.specs.Prelude.{ℕ, List, [], ◌++◌, Option, Some, None}
use Rattle.std.specs.List.{flat_map}
use Rattle.protocol_records.specs.declared.future.Future.{Future, fold-Future}
use Rattle.protocol_records.specs.declared.suspension.SuspensionMessage.{SuspensionMessage}
use Rattle.protocol_records.specs.declared.suspension_v6.SuspensionMessageV6.{SuspensionMessageV6}

-- a node's own leaves of one kind, and those of each node in it, in order
abbrev pub own_first : {Leaf : Type 0} → List Leaf → List (List Leaf) → List Leaf
own_first own nested = own ++ flat_map (λ found. found) nested

unfoldable pub completions_of : Future → List ℕ
completions_of = fold-Future (List ℕ) (λ f. own_first f.waiting_completions f.nested_futures)

unfoldable pub signals_of : Future → List ℕ
signals_of = fold-Future (List ℕ) (λ f. own_first f.waiting_signals f.nested_futures)

unfoldable pub named_signals_of : Future → List (List ℕ)
named_signals_of = fold-Future (List (List ℕ)) (λ f. own_first f.waiting_named_signals f.nested_futures)

-- the lists with the leaves of a tree behind them
abbrev pub with_leaves : SuspensionMessageV6 → Future → SuspensionMessageV6
with_leaves lists f = record {
  waiting_completions = lists.waiting_completions ++ completions_of f;
  waiting_signals = lists.waiting_signals ++ signals_of f;
  waiting_named_signals = lists.waiting_named_signals ++ named_signals_of f;
}

abbrev pub lists_of : Option Future → SuspensionMessageV6
lists_of None = record { waiting_completions = []; waiting_signals = []; waiting_named_signals = [] }
lists_of (Some f) = record { waiting_completions = completions_of f; waiting_signals = signals_of f; waiting_named_signals = named_signals_of f }

-- a suspension as three lists, without leaves where it has no tree
abbrev pub three_lists : SuspensionMessage → SuspensionMessageV6
three_lists suspension = lists_of suspension.awaiting_on
