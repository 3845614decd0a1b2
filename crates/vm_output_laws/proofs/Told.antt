-- The tree that a suspension tells is the tree of its ids but for the order of each node's children.
use Rattle.std.proofs.Common.{◌≡◌, Bool, ◌||◌, ap₂, List, [], ◌∷◌, ◌++◌, map, refl, sym, ap, ◌∙◌, subst}
use Rattle.journal_model.specs.declared.notification.NotificationId.{NotificationId}
use Rattle.journal_model.specs.declared.notification.NotificationId.TheVariants as ids
use Rattle.journal_model.specs.AwaitTree.{AwaitTree, Single, Combined, AwaitTrees, no_trees, and_trees, Combinator, Unknown, FirstCompleted, AllCompleted, FirstSucceededOrAllFailed, AllSucceededOrFirstFailed, AtLeast, asks_number, has_number, some_has_number}
use Rattle.journal_model.specs.Spelling.{completions_in, signals_in, names_in, required_by}
use Rattle.journal_model.specs.PrunedTrees.{SameTree, same_leaf, same_list, Puts, in_front, behind, Reordered, none, put}
use Rattle.protocol_records.specs.declared.future.Future.{Future, roll-Future}
use Rattle.protocol_records.specs.declared.future.Future.TheOpen.{Future-F}
use Rattle.protocol_records.specs.declared.future.Future.TheViews.{out-roll-Future}
use Rattle.protocol_stream.specs.Records.{combinator_record, future_record, nested_records}
use Rattle.protocol_trees.specs.Shape.{shape_combinator, forest, node}
use Rattle.protocol_trees.specs.Future.{shape_in, ids_in, future_tree}
use Rattle.protocol_trees.specs.FutureShape.{future_tree_is}

abbrev Tree : Type 0
Tree = AwaitTree NotificationId

abbrev Trees : Type 0
Trees = AwaitTrees NotificationId

-- ---- a node's tree

abbrev under : List NotificationId → List Tree → Trees
under leaves trees = forest (map (λ leaf. Single leaf) leaves ++ trees)

rolled_tree : (o : Future-F Future)
    → future_tree (roll-Future o) ≡ node (shape_combinator (shape_in o.combinator_type o.required)) (ids_in o.waiting_completions o.waiting_signals o.waiting_named_signals) (map future_tree o.nested_futures)
rolled_tree o =
    future_tree_is (roll-Future o)
    ∙ ap (λ (p : Future-F Future). node (shape_combinator (shape_in p.combinator_type p.required)) (ids_in p.waiting_completions p.waiting_signals p.waiting_named_signals) (map future_tree p.nested_futures)) (out-roll-Future o)

combinator_back : (combinator : Combinator) → shape_combinator (shape_in (combinator_record combinator) (required_by combinator)) ≡ combinator
combinator_back Unknown = refl
combinator_back FirstCompleted = refl
combinator_back AllCompleted = refl
combinator_back FirstSucceededOrAllFailed = refl
combinator_back AllSucceededOrFirstFailed = refl
combinator_back (AtLeast required) = refl

abbrev children_told : Trees → Trees
children_told children = under (ids_in (completions_in children) (signals_in children) (names_in children)) (map future_tree (nested_records children))

pub node_told : (combinator : Combinator) (children : Trees) → future_tree (future_record (Combined combinator children)) ≡ Combined combinator (children_told children)
node_told combinator children = rolled_tree _ ∙ ap (λ (c : Combinator). Combined c (children_told children)) (combinator_back combinator)

pub leaf_told : (id : NotificationId) → future_tree (future_record (Single id)) ≡ Combined FirstCompleted (and_trees (Single id) no_trees)
leaf_told (ids.CompletionId n) = rolled_tree _
leaf_told (ids.SignalId n) = rolled_tree _
leaf_told (ids.SignalName name) = rolled_tree _

-- ---- in some order

-- a tree is put behind leaves
past : {A : Type 0} (made : A → NotificationId) (tree : Tree) (xs : List A) (more others : List NotificationId) (trees those : List Tree)
    → Puts tree (under more trees) (under others those) → Puts tree (under (map made xs ++ more) trees) (under (map made xs ++ others) those)
past made tree [] more others trees those puts = puts
past made tree (x ∷ xs) more others trees those puts = behind (Single (made x)) (past made tree xs more others trees those puts)

past_last : {A : Type 0} (made : A → NotificationId) (tree : Tree) (xs : List A) (trees those : List Tree)
    → Puts tree (forest trees) (forest those) → Puts tree (under (map made xs) trees) (under (map made xs) those)
past_last made tree [] trees those puts = puts
past_last made tree (x ∷ xs) trees those puts = behind (Single (made x)) (past_last made tree xs trees those puts)

node_same_by : (combinator : Combinator) (children : Trees) → Reordered children (children_told children) → SameTree (Combined combinator children) (future_tree (future_record (Combined combinator children)))
node_same_by combinator children reordered =
    subst (λ (tree : Tree). SameTree (Combined combinator children) tree) (sym (node_told combinator children)) (same_list combinator reordered)

-- the trees that are told are a node's trees: completions first, then signals by number, then by name, then nodes
reorders : (children : Trees) → Reordered children (children_told children)
reorders no_trees = none
reorders (and_trees (Single (ids.CompletionId n)) trees) = put (same_leaf (ids.CompletionId n)) in_front (reorders trees)
reorders (and_trees (Single (ids.SignalId n)) trees) =
    put (same_leaf (ids.SignalId n)) (past ids.CompletionId (Single (ids.SignalId n)) (completions_in trees) _ _ _ _ in_front) (reorders trees)
reorders (and_trees (Single (ids.SignalName name)) trees) =
    put (same_leaf (ids.SignalName name))
    (past ids.CompletionId (Single (ids.SignalName name)) (completions_in trees) _ _ _ _ (past ids.SignalId (Single (ids.SignalName name)) (signals_in trees) _ _ _ _ in_front))
    (reorders trees)
reorders (and_trees (Combined combinator children) trees) =
    let told = future_tree (future_record (Combined combinator children)) in
    let nested = map future_tree (nested_records trees) in
    let names = map ids.SignalName (names_in trees) in
    let signals = map ids.SignalId (signals_in trees) in
    put (node_same_by combinator children (reorders children))
    (past ids.CompletionId told (completions_in trees) (signals ++ names) (signals ++ names) nested (told ∷ nested)
    (past ids.SignalId told (signals_in trees) names names nested (told ∷ nested) (past_last ids.SignalName told (names_in trees) nested (told ∷ nested) in_front)))
    (reorders trees)

pub node_same : (combinator : Combinator) (children : Trees) → SameTree (Combined combinator children) (future_tree (future_record (Combined combinator children)))
node_same combinator children = node_same_by combinator children (reorders children)

-- ---- the numbers of successes that are asked for

none_asked : (leaves : List NotificationId) (trees : List Tree) → some_has_number (under leaves trees) ≡ some_has_number (forest trees)
none_asked [] trees = refl
none_asked (leaf ∷ leaves) trees = none_asked leaves trees

node_number : (combinator : Combinator) (children : Trees) → some_has_number (forest (map future_tree (nested_records children))) ≡ some_has_number children
    → has_number (future_tree (future_record (Combined combinator children))) ≡ has_number (Combined combinator children)
node_number combinator children same =
    ap (λ (t : Tree). has_number t) (node_told combinator children)
    ∙ ap (λ (b : Bool). asks_number combinator || b)
    (none_asked (ids_in (completions_in children) (signals_in children) (names_in children)) (map future_tree (nested_records children)) ∙ same)

nested_number : (trees : Trees) → some_has_number (forest (map future_tree (nested_records trees))) ≡ some_has_number trees
nested_number no_trees = refl
nested_number (and_trees (Single leaf) trees) = nested_number trees
nested_number (and_trees (Combined combinator children) trees) = ap₂ (λ (a b : Bool). a || b) (node_number combinator children (nested_number children)) (nested_number trees)

-- the tree that is told asks for one where the tree does
pub told_number : (tree : Tree) → has_number (future_tree (future_record tree)) ≡ has_number tree
told_number (Single id) = ap (λ (t : Tree). has_number t) (leaf_told id)
told_number (Combined combinator children) = node_number combinator children (nested_number children)
