-- The payload of a future's tree, one level at a time.
use Rattle.std.proofs.Common.{◌≡◌, ℕ, Bool, ◌||◌, List, [], ◌∷◌, ◌++◌, map, refl, sym, ap, ◌∙◌, append-nil}
use Rattle.std.specs.List.{list_any}
use Rattle.protocol_wire.specs.Parts as parts
use Rattle.protocol_wire.specs.Parts.{Part, payload_of}
use Rattle.journal_model.specs.Spelling as model
use Rattle.journal_model.specs.AwaitTree.{AwaitTree, Single, Combined, AwaitTrees, no_trees, and_trees, Combinator, asks_number, has_number, some_has_number}
use Rattle.journal_model.specs.declared.notification.NotificationId.{NotificationId}
use Rattle.journal_model.specs.declared.notification.NotificationId.TheVariants as ids
use Rattle.protocol_records.specs.declared.future.Future.{Future, out-Future}
use Rattle.protocol_trees.specs.Shape.{shape_combinator, forest, node}
use Rattle.protocol_trees.specs.Future.{shape_in, ids_in, future_tree}
use Rattle.protocol_trees.specs.FutureShape.{future_tree_is}
use Rattle.protocol_stream.proofs.Spellings.{plain_number-is, packed-is, repeated_bytes-is, spelled-cons, spelled-last, payload_is}

abbrev pub Trees : Type 0
Trees = AwaitTrees NotificationId

abbrev pub Tree : Type 0
Tree = AwaitTree NotificationId

-- a forest of leaves, and trees behind them
abbrev pub under : List NotificationId → List Tree → Trees
under leaves trees = forest (map (λ leaf. Single leaf) leaves ++ trees)

-- leaves of a kind that is not picked
pub skips : {A B : Type 0} (pick : Trees → List A) (made : B → NotificationId) → ((x : B) (rest : Trees) → pick (and_trees (Single (made x)) rest) ≡ pick rest)
    → (xs : List B) (more : List NotificationId) (trees : List Tree) → pick (under (map made xs ++ more) trees) ≡ pick (under more trees)
skips pick made h [] more trees = refl
skips pick made h (x ∷ xs) more trees = h x (under (map made xs ++ more) trees) ∙ skips pick made h xs more trees

pub skips_last : {A B : Type 0} (pick : Trees → List A) (made : B → NotificationId) → ((x : B) (rest : Trees) → pick (and_trees (Single (made x)) rest) ≡ pick rest)
    → (xs : List B) (trees : List Tree) → pick (under (map made xs) trees) ≡ pick (forest trees)
skips_last pick made h [] trees = refl
skips_last pick made h (x ∷ xs) trees = h x (under (map made xs) trees) ∙ skips_last pick made h xs trees

-- leaves of the kind that is picked
takes : {A : Type 0} (pick : Trees → List A) (made : A → NotificationId) → ((x : A) (rest : Trees) → pick (and_trees (Single (made x)) rest) ≡ x ∷ pick rest)
    → (xs : List A) (more : List NotificationId) (trees : List Tree) → pick (under (map made xs ++ more) trees) ≡ xs ++ pick (under more trees)
takes pick made h [] more trees = refl
takes {A} pick made h (x ∷ xs) more trees = h x (under (map made xs ++ more) trees) ∙ ap (λ (picked : List A). x ∷ picked) (takes pick made h xs more trees)

takes_last : {A : Type 0} (pick : Trees → List A) (made : A → NotificationId) → ((x : A) (rest : Trees) → pick (and_trees (Single (made x)) rest) ≡ x ∷ pick rest)
    → (xs : List A) (trees : List Tree) → pick (under (map made xs) trees) ≡ xs ++ pick (forest trees)
takes_last pick made h [] trees = refl
takes_last {A} pick made h (x ∷ xs) trees = h x (under (map made xs) trees) ∙ ap (λ (picked : List A). x ∷ picked) (takes_last pick made h xs trees)

-- trees have no leaves of a node's own
none_in : {A : Type 0} (pick : Trees → List A) → pick no_trees ≡ [] → ((combinator : Combinator) (children rest : Trees) → pick (and_trees (Combined combinator children) rest) ≡ pick rest)
    → (nested : List Future) → pick (forest (map future_tree nested)) ≡ []
none_in pick none h [] = none
none_in pick none h (f ∷ nested) =
    ap (λ (tree : Tree). pick (and_trees tree (forest (map future_tree nested)))) (future_tree_is f)
    ∙ h _ _ (forest (map future_tree nested)) ∙ none_in pick none h nested

-- ---- what a node of ids and trees is spelled by

abbrev pub all : List ℕ → List ℕ → List (List ℕ) → List Future → Trees
all completions signals names nested = under (ids_in completions signals names) (map future_tree nested)

pub completions_of_all : (completions signals : List ℕ) (names : List (List ℕ)) (nested : List Future) → model.completions_in (all completions signals names nested) ≡ completions
completions_of_all completions signals names nested =
    takes model.completions_in ids.CompletionId (λ x rest. refl) completions (map ids.SignalId signals ++ map ids.SignalName names) (map future_tree nested)
    ∙ ap (λ (s : List ℕ). completions ++ s) (
    skips model.completions_in ids.SignalId (λ x rest. refl) signals (map ids.SignalName names) (map future_tree nested)
    ∙ skips_last model.completions_in ids.SignalName (λ x rest. refl) names (map future_tree nested)
    ∙ none_in model.completions_in refl (λ k c rest. refl) nested)
    ∙ append-nil completions

pub signals_of_all : (completions signals : List ℕ) (names : List (List ℕ)) (nested : List Future) → model.signals_in (all completions signals names nested) ≡ signals
signals_of_all completions signals names nested =
    skips model.signals_in ids.CompletionId (λ x rest. refl) completions (map ids.SignalId signals ++ map ids.SignalName names) (map future_tree nested)
    ∙ takes model.signals_in ids.SignalId (λ x rest. refl) signals (map ids.SignalName names) (map future_tree nested)
    ∙ ap (λ (s : List ℕ). signals ++ s) (
    skips_last model.signals_in ids.SignalName (λ x rest. refl) names (map future_tree nested)
    ∙ none_in model.signals_in refl (λ k c rest. refl) nested)
    ∙ append-nil signals

pub names_of_all : (completions signals : List ℕ) (names : List (List ℕ)) (nested : List Future) → model.names_in (all completions signals names nested) ≡ names
names_of_all completions signals names nested =
    skips model.names_in ids.CompletionId (λ x rest. refl) completions (map ids.SignalId signals ++ map ids.SignalName names) (map future_tree nested)
    ∙ skips model.names_in ids.SignalId (λ x rest. refl) signals (map ids.SignalName names) (map future_tree nested)
    ∙ takes_last model.names_in ids.SignalName (λ x rest. refl) names (map future_tree nested)
    ∙ ap (λ (s : List (List ℕ)). names ++ s) (none_in model.names_in refl (λ k c rest. refl) nested)
    ∙ append-nil names

abbrev pub tree_spelling : Future → List ℕ
tree_spelling f = model.future_payload (future_tree f)

nested_spelling : (nested : List Future) → model.nested_payload (forest (map future_tree nested)) ≡ model.repeated_bytes 4 (map tree_spelling nested)
nested_spelling [] = refl
nested_spelling (f ∷ nested) =
    ap (λ (tree : Tree). model.nested_payload (and_trees tree (forest (map future_tree nested)))) (future_tree_is f)
    ∙ ap (λ (tree : Tree). model.bytes_field 4 (model.future_payload tree) ++ model.nested_payload (forest (map future_tree nested))) (sym (future_tree_is f))
    ∙ ap (λ (s : List ℕ). model.bytes_field 4 (tree_spelling f) ++ s) (nested_spelling nested)

nested_of_all : (completions signals : List ℕ) (names : List (List ℕ)) (nested : List Future) → model.nested_payload (all completions signals names nested) ≡ model.repeated_bytes 4 (map tree_spelling nested)
nested_of_all completions signals names nested =
    skips model.nested_payload ids.CompletionId (λ x rest. refl) completions (map ids.SignalId signals ++ map ids.SignalName names) (map future_tree nested)
    ∙ skips model.nested_payload ids.SignalId (λ x rest. refl) signals (map ids.SignalName names) (map future_tree nested)
    ∙ skips_last model.nested_payload ids.SignalName (λ x rest. refl) names (map future_tree nested)
    ∙ nested_spelling nested

-- ---- one level

level : (combinator : Combinator) (completions signals : List ℕ) (names : List (List ℕ)) (nested : List Future)
    → model.future_payload (node combinator (ids_in completions signals names) (map future_tree nested))
    ≡ model.packed_numbers 1 completions ++ (model.packed_numbers 2 signals ++ (model.repeated_bytes 3 names
    ++ (model.repeated_bytes 4 (map tree_spelling nested) ++ (model.plain_number 5 (model.combinator_number combinator) ++ model.plain_number 6 (model.required_by combinator)))))
level combinator completions signals names nested = λ i.
    model.packed_numbers 1 (completions_of_all completions signals names nested i) ++ (model.packed_numbers 2 (signals_of_all completions signals names nested i)
    ++ (model.repeated_bytes 3 (names_of_all completions signals names nested i)
    ++ (nested_of_all completions signals names nested i ++ (model.plain_number 5 (model.combinator_number combinator) ++ model.plain_number 6 (model.required_by combinator)))))

-- the parts of a future as its tree has them
abbrev pub tree_parts : Future → List Part
tree_parts f =
    parts.packed 1 (out-Future f).waiting_completions ∷ parts.packed 2 (out-Future f).waiting_signals ∷ parts.repeated_bytes 3 (out-Future f).waiting_named_signals
    ∷ parts.repeated_bytes 4 (map tree_spelling (out-Future f).nested_futures)
    ∷ parts.plain_number 5 (model.combinator_number (shape_combinator (shape_in (out-Future f).combinator_type (out-Future f).required)))
    ∷ parts.plain_number 6 (model.required_by (shape_combinator (shape_in (out-Future f).combinator_type (out-Future f).required))) ∷ []

pub tree_parts_are : (f : Future) → payload_of (tree_parts f) ≡ model.future_payload (future_tree f)
tree_parts_are f =
    let o = out-Future f in
    payload_is (tree_parts f) _
    (spelled-cons _ _ _ _ (packed-is 1 o.waiting_completions)
    (spelled-cons _ _ _ _ (packed-is 2 o.waiting_signals)
    (spelled-cons _ _ _ _ (repeated_bytes-is 3 o.waiting_named_signals)
    (spelled-cons _ _ _ _ (repeated_bytes-is 4 (map tree_spelling o.nested_futures))
    (spelled-cons _ _ _ _ (plain_number-is 5 (model.combinator_number (shape_combinator (shape_in o.combinator_type o.required))))
    (spelled-last _ _ _ refl (plain_number-is 6 (model.required_by (shape_combinator (shape_in o.combinator_type o.required))))))))))
    ∙ sym (ap model.future_payload (future_tree_is f) ∙ level (shape_combinator (shape_in o.combinator_type o.required)) o.waiting_completions o.waiting_signals o.waiting_named_signals o.nested_futures)

-- ---- a number of successes that is asked for

none_asked : (leaves : List NotificationId) (trees : List Tree) → some_has_number (under leaves trees) ≡ some_has_number (forest trees)
none_asked [] trees = refl
none_asked (leaf ∷ leaves) trees = none_asked leaves trees

some_asked : (nested : List Future) → some_has_number (forest (map future_tree nested)) ≡ list_any (λ f. has_number (future_tree f)) nested
some_asked [] = refl
some_asked (f ∷ nested) = ap (λ (b : Bool). has_number (future_tree f) || b) (some_asked nested)

-- by the combinator of a future, or by one of those in it
pub number_asked : (f : Future) → has_number (future_tree f)
    ≡ (asks_number (shape_combinator (shape_in (out-Future f).combinator_type (out-Future f).required)) || list_any (λ g. has_number (future_tree g)) (out-Future f).nested_futures)
number_asked f =
    let o = out-Future f in
    ap (λ (tree : Tree). has_number tree) (future_tree_is f)
    ∙ ap (λ (b : Bool). asks_number (shape_combinator (shape_in o.combinator_type o.required)) || b)
    (none_asked (ids_in o.waiting_completions o.waiting_signals o.waiting_named_signals) (map future_tree o.nested_futures) ∙ some_asked o.nested_futures)
