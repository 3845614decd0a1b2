-- Trees that are put on a stack, and taken from it.
use Rattle.std.proofs.Common.{◌≡◌, ◌≢◌, ℕ, suc, ◌<◌, ◌≤◌, List, [], ◌∷◌, ◌++◌, length, map, take, get_or, ◌+◌, ◌-◌, Bor, Some, None, Ok, Err, refl, sym, ap, ◌∙◌, append_assoc, arith, length-append}
use Rattle.std.proofs.lemmas.Bool.{lt-leb}
use Rattle.std.proofs.lemmas.List.{take_more}
use Rattle.journal_model.specs.AwaitTree.{AwaitTree, Single}
use Rattle.journal_model.specs.Future.{tree_of}
use Rattle.journal_model.specs.declared.future.UnresolvedFuture.{UnresolvedFuture}
use Rattle.journal_model.specs.declared.future.UnresolvedFuture.TheVariants.{Single as SingleFuture}
use Rattle.journal_model.proofs.TreeLemmas.{tree_of-Single}
use Rattle.script_lines.specs.LineReader.{Gives, then_read}
use Rattle.script_lines.specs.declared.word.LineError.{LineError}
use Rattle.script_lines.specs.declared.word.LineError.TheVariants.{NotUnderstood, Memory}
use Rattle.call_lines.specs.TreeReader.{GrowsBy, Stack, StacksBy, TakesChildren, all_onto, alone, combined_by, from_top, joined, node_of, onto, tree_read}
use Rattle.call_lines.specs.declared.tree.NodeKind.{NodeKind}
use Rattle.call_lines.specs.declared.tree.TreeNode.{TreeNode}
use Rattle.call_lines.specs.declared.tree.TreeNode.TheVariants as nodes
use Rattle.call_lines.proofs.TreeLaws.{onto-append, takes}

-- ---- what a stack of futures is seen as

pub on_top : (trees : List UnresolvedFuture) (tree : UnresolvedFuture) → from_top (trees ++ tree ∷ []) ≡ tree_of tree ∷ from_top trees
on_top [] tree = refl
on_top (first ∷ trees) tree = ap (λ (stack : Stack). stack ++ tree_of first ∷ []) (on_top trees tree)

at_end : (trees : List UnresolvedFuture) (tree : UnresolvedFuture) → map tree_of (trees ++ tree ∷ []) ≡ map tree_of trees ++ tree_of tree ∷ []
at_end [] tree = refl
at_end (first ∷ trees) tree = ap (λ (stack : Stack). tree_of first ∷ stack) (at_end trees tree)

as_long : (trees : List UnresolvedFuture) → length (map tree_of trees) ≡ length trees
as_long [] = refl
as_long (tree ∷ trees) = ap suc (as_long trees)

-- ---- children

-- one more is taken from the top
pub takes_one : (all stack rest taken more : List UnresolvedFuture) (child : UnresolvedFuture) → from_top all ≡ map tree_of taken ++ from_top stack → stack ≡ rest ++ child ∷ [] → more ≡ taken ++ child ∷ []
    → from_top all ≡ map tree_of more ++ from_top rest
takes_one all stack rest taken more child before popped pushed =
    before ∙ ap (λ (futures : List UnresolvedFuture). map tree_of taken ++ from_top futures) popped ∙ ap (λ (trees : Stack). map tree_of taken ++ trees) (on_top rest child)
    ∙ sym (append_assoc (map tree_of taken) (tree_of child ∷ []) (from_top rest)) ∙ ap (λ (trees : Stack). trees ++ from_top rest) (sym (at_end taken child))
    ∙ ap (λ (futures : List UnresolvedFuture). map tree_of futures ++ from_top rest) (sym pushed)

-- there are no more
pub too_few : (all stack taken : List UnresolvedFuture) (many count : ℕ) → from_top all ≡ map tree_of taken ++ from_top stack → stack ≡ [] → length taken ≡ many → many < count → length (from_top all) < count
too_few all stack taken many count before none is less =
    let same : length (from_top all) ≡ length (map tree_of taken ++ from_top stack) = ap length before in
    let empty : length (from_top stack) ≡ 0 = ap (λ (futures : List UnresolvedFuture). length (from_top futures)) none in
    omega (arith, same, empty, is, less, as_long taken, length-append (map tree_of taken) (from_top stack))

-- a combinator over them
pub grows : (kind : NodeKind) (count : ℕ) (before children after : List UnresolvedFuture) (tree : UnresolvedFuture) → length children ≡ count → from_top before ≡ map tree_of children ++ from_top after
    → tree_of tree ≡ combined_by kind (map tree_of children) → joined (nodes.Over kind count) (from_top before) ≡ Some (tree_of tree ∷ from_top after)
grows kind count before children after tree long is made =
    ap (λ (stack : Stack). joined (nodes.Over kind count) stack) is
    ∙ ap (λ (n : ℕ). joined (nodes.Over kind n) (map tree_of children ++ from_top after)) (sym (as_long children ∙ long))
    ∙ takes kind (map tree_of children) (from_top after)
    ∙ ap (λ (t : AwaitTree ℕ). Some (t ∷ from_top after)) (sym made)

pub not_grown : (kind : NodeKind) (count : ℕ) (before : List UnresolvedFuture) → length (from_top before) < count → joined (nodes.Over kind count) (from_top before) ≡ None
unfolding joined
not_grown kind count before less = rw (lt-leb count (length (from_top before)) less) refl

pub grows_leaf : (handle : ℕ) (before : List UnresolvedFuture) (tree : UnresolvedFuture) → tree_of tree ≡ Single handle → joined (nodes.Handle handle) (from_top before) ≡ Some (tree_of tree ∷ from_top before)
unfolding joined
grows_leaf handle before tree is = ap (λ (t : AwaitTree ℕ). Some (t ∷ from_top before)) (sym is)

-- ---- a node

pub grows_handle : (node : TreeNode) (handle number : ℕ) (before : List UnresolvedFuture) → node ≡ nodes.Handle handle → number ≡ handle
    → joined node (from_top before) ≡ Some (tree_of (SingleFuture number) ∷ from_top before)
grows_handle node handle number before is same =
    ap (λ (n : TreeNode). joined n (from_top before)) is ∙ grows_leaf handle before (SingleFuture number) (tree_of-Single number ∙ ap Single same)

pub grows_over : (node : TreeNode) (kind : NodeKind) (count : ℕ) (before children after : List UnresolvedFuture) (tree : UnresolvedFuture) → node ≡ nodes.Over kind count → TakesChildren count before (Ok children) after
    → tree_of tree ≡ combined_by kind (map tree_of children) → joined node (from_top before) ≡ Some (tree_of tree ∷ from_top after)
grows_over node kind count before children after tree is took made =
    ap (λ (n : TreeNode). joined n (from_top before)) is ∙ grows kind count before children after tree took.0 took.1 made

pub grows_not : (node : TreeNode) (kind : NodeKind) (count : ℕ) (before after : List UnresolvedFuture) (error : LineError) → node ≡ nodes.Over kind count → TakesChildren count before (Err error) after
    → GrowsBy node before (Err error) after
grows_not node kind count before after NotUnderstood is few = ap (λ (n : TreeNode). joined n (from_top before)) is ∙ not_grown kind count before few
grows_not node kind count before after Memory is few = tt

-- ---- words

abbrev pub words_in : List (Bor (List ℕ)) → List (List ℕ)
words_in slice = map (λ word. word.now) slice

last_word : (before : List (Bor (List ℕ))) (word : Bor (List ℕ)) → words_in (before ++ word ∷ []) ≡ words_in before ++ word.now ∷ []
last_word [] word = refl
last_word (first ∷ before) word = ap (λ (words : List (List ℕ)). first.now ∷ words) (last_word before word)

-- so many words, and the last of them
pub last_of : (words : List (Bor (List ℕ))) (left : ℕ) (other : Bor (List ℕ)) → 0 < left → left ≤ length words → take left words ≡ take (left - 1) words ++ get_or words (left - 1) other ∷ []
last_of words left other some within =
    let same : left ≡ left - 1 + 1 = omega (arith, some) in
    ap (λ (n : ℕ). take n words) same ∙ take_more words (left - 1) other (omega (arith, some, within))

none_onto : (words : List (List ℕ)) → all_onto words None ≡ None
unfolding all_onto onto then_read
none_onto [] = refl
none_onto (word ∷ words) = rw (none_onto words) refl

module _ (all rest before : List (Bor (List ℕ))) (word : Bor (List ℕ)) (stack : List UnresolvedFuture) where
  -- the last word is read first
  first_read : rest ≡ before ++ word ∷ [] → all_onto (words_in rest) (Some (from_top stack)) ≡ all_onto (words_in before) (onto word.now (Some (from_top stack)))
  unfolding all_onto
  first_read split =
      ap (λ (words : List (Bor (List ℕ))). all_onto (words_in words) (Some (from_top stack))) split
      ∙ ap (λ (words : List (List ℕ)). all_onto words (Some (from_top stack))) (last_word before word)
      ∙ onto-append (words_in before) (word.now ∷ []) (Some (from_top stack))

  by_node : (node : TreeNode) → node_of word.now ≡ Some node → onto word.now (Some (from_top stack)) ≡ joined node (from_top stack)
  unfolding onto then_read
  by_node node is = rw is refl

  -- one more is read, and its tree is on top
  pub reads_one : (node : TreeNode) (left next : List UnresolvedFuture) (tree : UnresolvedFuture) → all_onto (words_in rest) (Some (from_top stack)) ≡ all_onto (words_in all) (Some [])
      → rest ≡ before ++ word ∷ [] → node_of word.now ≡ Some node → joined node (from_top stack) ≡ Some (tree_of tree ∷ from_top left) → next ≡ left ++ tree ∷ []
      → all_onto (words_in before) (Some (from_top next)) ≡ all_onto (words_in all) (Some [])
  reads_one node left next tree so split is grown pushed =
      ap (λ (futures : List UnresolvedFuture). all_onto (words_in before) (Some (from_top futures))) pushed
      ∙ ap (λ (trees : Stack). all_onto (words_in before) (Some trees)) (on_top left tree)
      ∙ ap (all_onto (words_in before)) (sym (by_node node is ∙ grown))
      ∙ sym (first_read split)
      ∙ so

  -- it is no node
  pub no_node : all_onto (words_in rest) (Some (from_top stack)) ≡ all_onto (words_in all) (Some []) → rest ≡ before ++ word ∷ [] → node_of word.now ≡ None → all_onto (words_in all) (Some []) ≡ None
  unfolding onto then_read
  no_node so split is =
      let none : onto word.now (Some (from_top stack)) ≡ None = rw is refl in
      sym so ∙ first_read split ∙ ap (all_onto (words_in before)) none ∙ none_onto (words_in before)

  -- or it has too few children
  pub no_tree : (node : TreeNode) → all_onto (words_in rest) (Some (from_top stack)) ≡ all_onto (words_in all) (Some []) → rest ≡ before ++ word ∷ [] → node_of word.now ≡ Some node
      → joined node (from_top stack) ≡ None → all_onto (words_in all) (Some []) ≡ None
  no_tree node so split is none = sym so ∙ first_read split ∙ ap (all_onto (words_in before)) (by_node node is ∙ none) ∙ none_onto (words_in before)

  -- so whatever its error is
  pub not_rooted : (node : TreeNode) (left : List UnresolvedFuture) (error : LineError) → all_onto (words_in rest) (Some (from_top stack)) ≡ all_onto (words_in all) (Some []) → rest ≡ before ++ word ∷ []
      → node_of word.now ≡ Some node → GrowsBy node stack (Err error) left → StacksBy {A = Unit {0}} (words_in all) (Err error)
  not_rooted node left NotUnderstood so split is none = no_tree node so split is none
  not_rooted node left Memory so split is none = tt

-- all are read
pub all_stacked : (words : List (Bor (List ℕ))) (left : ℕ) (stack : Stack) → left ≡ 0 → all_onto (words_in (take left words)) (Some stack) ≡ all_onto (words_in words) (Some []) → all_onto (words_in words) (Some []) ≡ Some stack
unfolding all_onto
all_stacked words left stack none so = sym so ∙ ap (λ (n : ℕ). all_onto (words_in (take n words)) (Some stack)) none

-- ---- the one tree

several : (root last : AwaitTree ℕ) (front : Stack) → alone (root ∷ front ++ last ∷ []) ≡ None
unfolding alone
several root last [] = refl
several root last (next ∷ front) = refl

module _ (words : List (List ℕ)) (stack : List UnresolvedFuture) (read : all_onto words (Some []) ≡ Some (from_top stack)) where
  -- there is none
  pub no_root : stack ≡ [] → tree_read words ≡ None
  unfolding tree_read then_read alone
  no_root none = rw (read, none) refl

  pub one_root : (rest : List UnresolvedFuture) (root : UnresolvedFuture) → stack ≡ rest ++ root ∷ [] → length rest ≡ 0 → tree_read words ≡ Some (tree_of root)
  unfolding tree_read then_read alone
  one_root [] root popped none = rw (read, popped) refl
  one_root (first ∷ rest) root popped none = absurd (omega (arith, none))

  -- there are more
  pub two_roots : (rest : List UnresolvedFuture) (root : UnresolvedFuture) → stack ≡ rest ++ root ∷ [] → length rest ≢ 0 → tree_read words ≡ None
  unfolding tree_read then_read
  two_roots [] root popped some = absurd (some refl)
  two_roots (first ∷ rest) root popped some = rw (read, popped, on_top (first ∷ rest) root) (several (tree_of root) (tree_of first) (from_top rest))

not_any : (words : List (List ℕ)) → all_onto words (Some []) ≡ None → tree_read words ≡ None
unfolding tree_read then_read
not_any words none = rw none refl

-- they were not read, whatever the error is
pub not_stacked : (words : List (List ℕ)) (error : LineError) → StacksBy {A = Unit {0}} words (Err error) → Gives {A = AwaitTree ℕ} (Err error) (tree_read words)
not_stacked words NotUnderstood none = not_any words none
not_stacked words Memory none = tt
