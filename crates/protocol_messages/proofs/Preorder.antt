-- The leaves of a tree in preorder, one level at a time.
use Rattle.std.proofs.Common.{◌≡◌, ℕ, List, ◌++◌, map, ap, sym, ◌∙◌, append_assoc}
use Rattle.std.specs.List.{flat_map}
use Rattle.protocol_records.specs.declared.future.Future.{Future, out-Future, fold_out-Future}
use Rattle.protocol_records.specs.declared.suspension_v6.SuspensionMessageV6.{SuspensionMessageV6}
use Rattle.protocol_messages.specs.Leaves.{own_first, with_leaves, completions_of, signals_of, named_signals_of}

pub completions_is : (f : Future) → completions_of f ≡ own_first (out-Future f).waiting_completions (map completions_of (out-Future f).nested_futures)
unfolding completions_of
completions_is f = fold_out-Future (List ℕ) (λ f. own_first f.waiting_completions f.nested_futures) f

pub signals_is : (f : Future) → signals_of f ≡ own_first (out-Future f).waiting_signals (map signals_of (out-Future f).nested_futures)
unfolding signals_of
signals_is f = fold_out-Future (List ℕ) (λ f. own_first f.waiting_signals f.nested_futures) f

pub named_signals_is : (f : Future) → named_signals_of f ≡ own_first (out-Future f).waiting_named_signals (map named_signals_of (out-Future f).nested_futures)
unfolding named_signals_of
named_signals_is f = fold_out-Future (List (List ℕ)) (λ f. own_first f.waiting_named_signals f.nested_futures) f

-- the lists with the leaves of these trees behind them
abbrev pub with_nested : SuspensionMessageV6 → List Future → SuspensionMessageV6
with_nested lists fs = record {
  waiting_completions = lists.waiting_completions ++ flat_map (λ found. found) (map completions_of fs);
  waiting_signals = lists.waiting_signals ++ flat_map (λ found. found) (map signals_of fs);
  waiting_named_signals = lists.waiting_named_signals ++ flat_map (λ found. found) (map named_signals_of fs);
}

-- own leaves, and then those of the nodes in it, are all of a node's
leaves_behind : {Leaf : Type 0} (old mid own nested all : List Leaf) → mid ≡ old ++ own → all ≡ own ++ nested → mid ++ nested ≡ old ++ all
leaves_behind {Leaf} old mid own nested all e is = ap (λ (s : List Leaf). s ++ nested) e ∙ append_assoc old own nested ∙ ap (λ (s : List Leaf). old ++ s) (sym is)

pub leaves_pushed : (old mid : SuspensionMessageV6) (f : Future) (fs : List Future)
    → mid.waiting_completions ≡ old.waiting_completions ++ (out-Future f).waiting_completions
    → mid.waiting_signals ≡ old.waiting_signals ++ (out-Future f).waiting_signals
    → mid.waiting_named_signals ≡ old.waiting_named_signals ++ (out-Future f).waiting_named_signals
    → fs ≡ (out-Future f).nested_futures → with_nested mid fs ≡ with_leaves old f
leaves_pushed old mid f fs c s n e =
    let o = out-Future f in
    let whole = ap (with_nested mid) e in
    let c1 = leaves_behind old.waiting_completions mid.waiting_completions o.waiting_completions (flat_map (λ found. found) (map completions_of o.nested_futures)) (completions_of f) c (completions_is f) in
    let s1 = leaves_behind old.waiting_signals mid.waiting_signals o.waiting_signals (flat_map (λ found. found) (map signals_of o.nested_futures)) (signals_of f) s (signals_is f) in
    let n1 = leaves_behind old.waiting_named_signals mid.waiting_named_signals o.waiting_named_signals (flat_map (λ found. found) (map named_signals_of o.nested_futures)) (named_signals_of f) n (named_signals_is f) in
    whole ∙ (λ i. record { waiting_completions = c1 i; waiting_signals = s1 i; waiting_named_signals = n1 i })
