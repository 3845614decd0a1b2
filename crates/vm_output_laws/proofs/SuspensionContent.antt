-- What suspensions tell: the tree that is left, or before version 7 all its ids.
use Rattle.std.proofs.Common.{◌≡◌, ℕ, Bool, true, false, true≢false, ◌||◌, List, [], ◌∷◌, ◌++◌, map, Option, Some, None, refl, sym, ap, ◌∙◌, subst}
use Rattle.std.specs.List.{AllByRecursion, list_any}
use Rattle.protocol_types.specs.declared.feature.Feature.TheVariants.{AwaitTree as TellsTrees}
use Rattle.protocol_types.specs.Feature.{lacks_feature}
use Rattle.journal_model.specs.declared.notification.NotificationId.{NotificationId}
use Rattle.journal_model.specs.declared.notification.NotificationId.TheVariants as ids
use Rattle.journal_model.specs.AwaitTree.{AwaitTree, AwaitState, Pending, Single, Combined, AwaitTrees, no_trees, and_trees, is_awake}
use Rattle.journal_model.specs.Event.{ForTree}
use Rattle.journal_model.specs.Spelling.{completions_in, signals_in, names_in}
use Rattle.journal_model.specs.PrunedTrees.{only_leaves, only_children}
use Rattle.journal_laws.proofs.Leaving.{or-false}
use Rattle.protocol_trees.specs.Future.{ids_in}
use Rattle.vm_waiting.specs.SuspensionFrames.{below, leaves_by_node}
use Rattle.run_laws.specs.SuspensionContent.{TellsAwaitedTree, leaf_ids, leaf_ids_of_trees}
use Rattle.run_laws.proofs.SameTrees.{same_awake}
use Rattle.run_laws.proofs.Suspending.{tells_leaf, tells_ids}
use Rattle.vm_output_laws.specs.SentFrames.{tree_told, suspension_told}
use Rattle.vm_output_laws.specs.SuspensionContent.{SuspensionsTell}
use Rattle.vm_output_laws.proofs.Told.{node_same, leaf_told}

-- ---- no id of a tree passes a test that none of its lists' ids passes

module _ (test : NotificationId → Bool) where
  abbrev NonePass : {A : Type 0} → (A → NotificationId) → List A → Type 0
  NonePass made xs = AllByRecursion (λ x. test (made x) ≡ false) xs

  -- of three lists
  pub record Silent (completions signals : List ℕ) (names : List (List ℕ)) : Type 0 where
    pub completions_silent : NonePass ids.CompletionId completions
    pub signals_silent : NonePass ids.SignalId signals
    pub names_silent : NonePass ids.SignalName names

  front : {A : Type 0} (made : A → NotificationId) (xs ys : List A) → NonePass made (xs ++ ys) → NonePass made xs
  front made [] ys h = tt
  front made (x ∷ xs) ys h = (h.0, front made xs ys h.1)

  behind : {A : Type 0} (made : A → NotificationId) (xs ys : List A) → NonePass made (xs ++ ys) → NonePass made ys
  behind made [] ys h = h
  behind made (x ∷ xs) ys h = behind made xs ys h.1

  fronts : (cs ds ss ts : List ℕ) (ns ms : List (List ℕ)) → Silent (cs ++ ds) (ss ++ ts) (ns ++ ms) → Silent cs ss ns
  fronts cs ds ss ts ns ms h = record {
    completions_silent = front ids.CompletionId cs ds h.completions_silent;
    signals_silent = front ids.SignalId ss ts h.signals_silent;
    names_silent = front ids.SignalName ns ms h.names_silent;
  }

  behinds : (cs ds ss ts : List ℕ) (ns ms : List (List ℕ)) → Silent (cs ++ ds) (ss ++ ts) (ns ++ ms) → Silent ds ts ms
  behinds cs ds ss ts ns ms h = record {
    completions_silent = behind ids.CompletionId cs ds h.completions_silent;
    signals_silent = behind ids.SignalId ss ts h.signals_silent;
    names_silent = behind ids.SignalName ns ms h.names_silent;
  }

  abbrev OwnSilent : AwaitTrees NotificationId → Type 0
  OwnSilent trees = Silent (completions_in trees) (signals_in trees) (names_in trees)

  abbrev BelowSilent : AwaitTrees NotificationId → Type 0
  BelowSilent trees = Silent (below completions_in trees) (below signals_in trees) (below names_in trees)

  neither : (a b : Bool) → a ≡ false → b ≡ false → (a || b) ≡ false
  neither true b p q = absurd (true≢false p)
  neither false b p q = q

  any_both : (xs ys : List NotificationId) → list_any test xs ≡ false → list_any test ys ≡ false → list_any test (xs ++ ys) ≡ false
  any_both [] ys p q = q
  any_both (x ∷ xs) ys p q =
      let (own, others) = or-false (test x) (list_any test xs) p in neither (test x) (list_any test (xs ++ ys)) own (any_both xs ys others q)

  abbrev some_ids : AwaitTrees (Option NotificationId) → AwaitTrees NotificationId
  some_ids trees = only_children (λ leaf. leaf) trees

  none_in : (trees : AwaitTrees (Option NotificationId)) → OwnSilent (some_ids trees) → BelowSilent (some_ids trees) → list_any test (leaf_ids_of_trees trees) ≡ false
  none_in no_trees own beneath = refl
  none_in (and_trees (Single None) trees) own beneath = none_in trees own beneath
  none_in (and_trees (Single (Some (ids.CompletionId n))) trees) own beneath =
      neither (test (ids.CompletionId n)) _ own.completions_silent.0
      (none_in trees (record { completions_silent = own.completions_silent.1; signals_silent = own.signals_silent; names_silent = own.names_silent }) beneath)
  none_in (and_trees (Single (Some (ids.SignalId n))) trees) own beneath =
      neither (test (ids.SignalId n)) _ own.signals_silent.0
      (none_in trees (record { completions_silent = own.completions_silent; signals_silent = own.signals_silent.1; names_silent = own.names_silent }) beneath)
  none_in (and_trees (Single (Some (ids.SignalName name))) trees) own beneath =
      neither (test (ids.SignalName name)) _ own.names_silent.0
      (none_in trees (record { completions_silent = own.completions_silent; signals_silent = own.signals_silent; names_silent = own.names_silent.1 }) beneath)
  none_in (and_trees (Combined combinator children) trees) own beneath =
      let inner = some_ids children in
      let rest = some_ids trees in
      let here = fronts (completions_in inner ++ below completions_in inner) (below completions_in rest) (signals_in inner ++ below signals_in inner) (below signals_in rest) (names_in inner ++ below names_in inner) (below names_in rest) beneath in
      let later = behinds (completions_in inner ++ below completions_in inner) (below completions_in rest) (signals_in inner ++ below signals_in inner) (below signals_in rest) (names_in inner ++ below names_in inner) (below names_in rest) beneath in
      any_both (leaf_ids_of_trees children) (leaf_ids_of_trees trees)
      (none_in children
      (fronts (completions_in inner) (below completions_in inner) (signals_in inner) (below signals_in inner) (names_in inner) (below names_in inner) here)
      (behinds (completions_in inner) (below completions_in inner) (signals_in inner) (below signals_in inner) (names_in inner) (below names_in inner) here))
      (none_in trees own later)

  none_in_tree : (tree : AwaitTree (Option NotificationId))
      → Silent (leaves_by_node completions_in (only_leaves (λ leaf. leaf) tree)) (leaves_by_node signals_in (only_leaves (λ leaf. leaf) tree)) (leaves_by_node names_in (only_leaves (λ leaf. leaf) tree)) → list_any test (leaf_ids tree) ≡ false
  none_in_tree (Single None) h = refl
  none_in_tree (Single (Some (ids.CompletionId n))) h = neither (test (ids.CompletionId n)) false h.completions_silent.0 refl
  none_in_tree (Single (Some (ids.SignalId n))) h = neither (test (ids.SignalId n)) false h.signals_silent.0 refl
  none_in_tree (Single (Some (ids.SignalName name))) h = neither (test (ids.SignalName name)) false h.names_silent.0 refl
  none_in_tree (Combined combinator children) h =
      let inner = some_ids children in
      none_in children
      (fronts (completions_in inner) (below completions_in inner) (signals_in inner) (below signals_in inner) (names_in inner) (below names_in inner) h)
      (behinds (completions_in inner) (below completions_in inner) (signals_in inner) (below signals_in inner) (names_in inner) (below names_in inner) h)

  -- the lists, where none of all their ids passes
  none_made : {A : Type 0} (made : A → NotificationId) (xs : List A) (more : List NotificationId) → list_any test (map made xs ++ more) ≡ false → NonePass made xs × (list_any test more ≡ false)
  none_made made [] more h = (tt, h)
  none_made made (x ∷ xs) more h =
      let (own, others) = or-false (test (made x)) (list_any test (map made xs ++ more)) h in
      let later = none_made made xs more others in ((own, later.0), later.1)

  none_last : {A : Type 0} (made : A → NotificationId) (xs : List A) → list_any test (map made xs) ≡ false → NonePass made xs
  none_last made [] h = tt
  none_last made (x ∷ xs) h =
      let (own, others) = or-false (test (made x)) (list_any test (map made xs)) h in (own, none_last made xs others)

  silent : (completions signals : List ℕ) (names : List (List ℕ)) → list_any test (ids_in completions signals names) ≡ false → Silent completions signals names
  silent completions signals names h =
      let first = none_made ids.CompletionId completions (map ids.SignalId signals ++ map ids.SignalName names) h in
      let second = none_made ids.SignalId signals (map ids.SignalName names) first.1 in
      record { completions_silent = first.0; signals_silent = second.0; names_silent = none_last ids.SignalName names second.1 }

  -- so all ids of the tree are among those that are listed
  all_listed : (tree : AwaitTree (Option NotificationId)) (told : AwaitTree NotificationId) → told ≡ only_leaves (λ leaf. leaf) tree → list_any test (leaf_ids tree) ≡ true
      → list_any test (ids_in (leaves_by_node completions_in told) (leaves_by_node signals_in told) (leaves_by_node names_in told)) ≡ true
  all_listed tree told is some = by_any (list_any test (ids_in (leaves_by_node completions_in told) (leaves_by_node signals_in told) (leaves_by_node names_in told))) refl
    where
      by_any : (b : Bool) → list_any test (ids_in (leaves_by_node completions_in told) (leaves_by_node signals_in told) (leaves_by_node names_in told)) ≡ b → b ≡ true
      by_any true e = refl
      by_any false e =
          let quiet = silent (leaves_by_node completions_in told) (leaves_by_node signals_in told) (leaves_by_node names_in told) e in
          absurd (true≢false (sym some ∙ none_in_tree tree (subst (λ (t : AwaitTree NotificationId). Silent (leaves_by_node completions_in t) (leaves_by_node signals_in t) (leaves_by_node names_in t)) is quiet)))

-- ---- both

-- the tree that is told is awake where the tree itself is
told_awake : (version : ℕ) (tree : AwaitTree NotificationId) (states : NotificationId → AwaitState) → is_awake (tree_told tree) states ≡ is_awake tree states
told_awake version (Single id) states =
    ap (λ (t : AwaitTree NotificationId). is_awake t states) (leaf_told id) ∙ tells_leaf version id states
told_awake version (Combined combinator children) states = sym (same_awake states (node_same combinator children))

pub trees_tell : (version : ℕ) (tree : AwaitTree (Option NotificationId)) → TellsAwaitedTree version tree (Some (ForTree (tree_told (only_leaves (λ leaf. leaf) tree))))
trees_tell version tree = λ states. told_awake version (only_leaves (λ leaf. leaf) tree) states

by_version : (version : ℕ) (has_lists : Bool) (tree : AwaitTree (Option NotificationId)) → lacks_feature version TellsTrees ≡ has_lists → is_awake tree (λ leaf. Pending) ≡ false
    → TellsAwaitedTree version tree (Some (suspension_told has_lists (only_leaves (λ leaf. leaf) tree)))
by_version version true tree lists asleep = tells_ids version tree _ lists asleep (λ test some. all_listed test tree (only_leaves (λ leaf. leaf) tree) refl some)
by_version version false tree lists asleep = trees_tell version tree

pub suspensions_tell : SuspensionsTell
suspensions_tell version tree asleep = by_version version (lacks_feature version TellsTrees) tree refl asleep
