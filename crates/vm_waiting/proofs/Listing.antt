-- The leaves of a tree in three lists, as its record has them.
use Rattle.std.proofs.Common.{◌≡◌, refl, ap, ◌∙◌, Bool, true, false, List, [], ◌∷◌, ◌++◌, append-nil, map, Some}
use Rattle.std.specs.Prelude.{if◌then◌else◌}
use Rattle.std.specs.List.{flat_map}
use Rattle.journal_model.specs.declared.notification.NotificationId.{NotificationId}
use Rattle.journal_model.specs.declared.notification.NotificationId.TheVariants.{CompletionId, SignalId, SignalName}
use Rattle.journal_model.specs.AwaitTree.{AwaitTree, Single, Combined, AwaitTrees, no_trees, and_trees}
use Rattle.journal_model.specs.Spelling.{packed_numbers, repeated_bytes, completions_in, signals_in, names_in, required_by, suspension_payload}
use Rattle.protocol_wire.specs.Parts.{payload_of}
use Rattle.protocol_records.specs.declared.future.Future.{Future, out-Future, roll-Future}
use Rattle.protocol_records.specs.declared.future.Future.TheOpen.{Future-F}
use Rattle.protocol_records.specs.declared.future.Future.TheViews.{out-roll-Future}
use Rattle.protocol_records.specs.declared.future.CombinatorType.TheVariants as combinators
use Rattle.protocol_records.specs.declared.suspension_v6.SuspensionMessageV6.{SuspensionMessageV6}
use Rattle.protocol_records.specs.Suspension.{suspension_parts}
use Rattle.protocol_records.specs.SuspensionV6.{suspension_v6_parts}
use Rattle.protocol_stream.specs.Records.{combinator_record, future_record, nested_records}
use Rattle.protocol_stream.proofs.Spellings.{packed-is, repeated_bytes-is, spelled-cons, spelled-last, payload_is}
use Rattle.protocol_stream.proofs.RecordSpellings.{tree_spelled}
use Rattle.protocol_messages.specs.Encodings.{suspension_parts_as}
use Rattle.protocol_messages.specs.Leaves.{own_first, completions_of, signals_of, named_signals_of, three_lists}
use Rattle.protocol_messages.proofs.Preorder.{completions_is, signals_is, named_signals_is}
use Rattle.vm_waiting.specs.SuspensionFrames.{below, leaves_by_node, lists_payload}

-- one level of the record of a tree
abbrev layer_of : AwaitTree NotificationId → Future-F Future
layer_of (Single (CompletionId n)) = record { waiting_completions = n ∷ []; waiting_signals = []; waiting_named_signals = []; nested_futures = []; combinator_type = combinators.FirstCompleted; required = 0 }
layer_of (Single (SignalId n)) = record { waiting_completions = []; waiting_signals = n ∷ []; waiting_named_signals = []; nested_futures = []; combinator_type = combinators.FirstCompleted; required = 0 }
layer_of (Single (SignalName name)) = record { waiting_completions = []; waiting_signals = []; waiting_named_signals = name ∷ []; nested_futures = []; combinator_type = combinators.FirstCompleted; required = 0 }
layer_of (Combined combinator children) = record {
  waiting_completions = completions_in children;
  waiting_signals = signals_in children;
  waiting_named_signals = names_in children;
  nested_futures = nested_records children;
  combinator_type = combinator_record combinator;
  required = required_by combinator;
}

-- the trees among which a node's own leaves stand
abbrev top_of : AwaitTree NotificationId → AwaitTrees NotificationId
top_of (Single leaf) = and_trees (Single leaf) no_trees
top_of (Combined combinator children) = children

-- the leaves of one kind, of which a level has a node's own
module _ {Leaf : Type 0} (own : AwaitTrees NotificationId → List Leaf) (field : Future-F Future → List Leaf) (all : Future → List Leaf)
    (is : (f : Future) → all f ≡ own_first (field (out-Future f)) (map all (out-Future f).nested_futures))
    (owned : (tree : AwaitTree NotificationId) → field (layer_of tree) ≡ own (top_of tree)) where
  opened : (o : Future-F Future) → all (roll-Future o) ≡ own_first (field o) (map all o.nested_futures)
  opened o = is (roll-Future o) ∙ ap (λ (p : Future-F Future). own_first (field p) (map all p.nested_futures)) (out-roll-Future o)

  single : (leaf : NotificationId) → all (future_record (Single leaf)) ≡ own (and_trees (Single leaf) no_trees)
  single (CompletionId n) = opened (layer_of (Single (CompletionId n))) ∙ append-nil _ ∙ owned (Single (CompletionId n))
  single (SignalId n) = opened (layer_of (Single (SignalId n))) ∙ append-nil _ ∙ owned (Single (SignalId n))
  single (SignalName name) = opened (layer_of (Single (SignalName name))) ∙ append-nil _ ∙ owned (Single (SignalName name))

  mutual
    leaves_listed : (tree : AwaitTree NotificationId) → all (future_record tree) ≡ leaves_by_node own tree
    leaves_listed (Single leaf) = single leaf
    leaves_listed (Combined combinator children) =
        opened (layer_of (Combined combinator children))
        ∙ (λ i. owned (Combined combinator children) i ++ nested_listed children i)

    nested_listed : (trees : AwaitTrees NotificationId) → flat_map (λ (found : List Leaf). found) (map all (nested_records trees)) ≡ below own trees
    nested_listed no_trees = refl
    nested_listed (and_trees (Single leaf) trees) = nested_listed trees
    nested_listed (and_trees (Combined combinator children) trees) = λ i. leaves_listed (Combined combinator children) i ++ nested_listed trees i

completions_owned : (tree : AwaitTree NotificationId) → (layer_of tree).waiting_completions ≡ completions_in (top_of tree)
completions_owned (Single (CompletionId n)) = refl
completions_owned (Single (SignalId n)) = refl
completions_owned (Single (SignalName name)) = refl
completions_owned (Combined combinator children) = refl

signals_owned : (tree : AwaitTree NotificationId) → (layer_of tree).waiting_signals ≡ signals_in (top_of tree)
signals_owned (Single (CompletionId n)) = refl
signals_owned (Single (SignalId n)) = refl
signals_owned (Single (SignalName name)) = refl
signals_owned (Combined combinator children) = refl

names_owned : (tree : AwaitTree NotificationId) → (layer_of tree).waiting_named_signals ≡ names_in (top_of tree)
names_owned (Single (CompletionId n)) = refl
names_owned (Single (SignalId n)) = refl
names_owned (Single (SignalName name)) = refl
names_owned (Combined combinator children) = refl

completions_listed : (tree : AwaitTree NotificationId) → completions_of (future_record tree) ≡ leaves_by_node completions_in tree
completions_listed tree = leaves_listed completions_in (λ o. o.waiting_completions) completions_of completions_is completions_owned tree

signals_listed : (tree : AwaitTree NotificationId) → signals_of (future_record tree) ≡ leaves_by_node signals_in tree
signals_listed tree = leaves_listed signals_in (λ o. o.waiting_signals) signals_of signals_is signals_owned tree

names_listed : (tree : AwaitTree NotificationId) → named_signals_of (future_record tree) ≡ leaves_by_node names_in tree
names_listed tree = leaves_listed names_in (λ o. o.waiting_named_signals) named_signals_of named_signals_is names_owned tree

three_spelled : (lists : SuspensionMessageV6) → payload_of (suspension_v6_parts lists)
    ≡ packed_numbers 1 lists.waiting_completions ++ (packed_numbers 2 lists.waiting_signals ++ repeated_bytes 3 lists.waiting_named_signals)
three_spelled lists =
    payload_is (suspension_v6_parts lists) _
    (spelled-cons _ _ _ _ (packed-is 1 lists.waiting_completions) (spelled-cons _ _ _ _ (packed-is 2 lists.waiting_signals) (spelled-last _ _ _ refl (repeated_bytes-is 3 lists.waiting_named_signals))))

-- the record of a tree has the payload that is defined, as lists or as the tree
pub suspension_spelled : (before : Bool) (tree : AwaitTree NotificationId)
    → payload_of (suspension_parts_as before (record { awaiting_on = Some (future_record tree) })) ≡ (if before then lists_payload tree else suspension_payload tree)
suspension_spelled true tree =
    three_spelled (three_lists (record { awaiting_on = Some (future_record tree) }))
    ∙ (λ i. packed_numbers 1 (completions_listed tree i) ++ (packed_numbers 2 (signals_listed tree i) ++ repeated_bytes 3 (names_listed tree i)))
suspension_spelled false tree = payload_is (suspension_parts (record { awaiting_on = Some (future_record tree) })) _ (spelled-last _ _ _ refl (tree_spelled tree))
