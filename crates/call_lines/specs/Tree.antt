-- The words by which a tree of handles is printed, each node before its children.
use Rattle.std.specs.Prelude.{ℕ, suc, ◌^◌, ◌<◌, List, [], ◌∷◌, ◌++◌, codes, decimal}
use Rattle.journal_model.specs.AwaitTree.{AwaitTree, Single, Combined, AwaitTrees, no_trees, and_trees, Combinator, Unknown, FirstCompleted, AllCompleted, FirstSucceededOrAllFailed, AllSucceededOrFirstFailed, AtLeast}

abbrev pub count : AwaitTrees ℕ → ℕ
count no_trees = 0
count (and_trees tree trees) = suc (count trees)

-- a combinator over so many children
abbrev pub combinator_word : Combinator → ℕ → List ℕ
combinator_word FirstCompleted count = codes "any:" ++ decimal count
combinator_word AllCompleted count = codes "all:" ++ decimal count
combinator_word FirstSucceededOrAllFailed count = codes "first-succeeded:" ++ decimal count
combinator_word AllSucceededOrFirstFailed count = codes "all-succeeded:" ++ decimal count
combinator_word (AtLeast required) count = codes "at-least:" ++ decimal required ++ 58 ∷ decimal count
combinator_word Unknown count = codes "unknown:" ++ decimal count

abbrev mutual
  pub tree_words : AwaitTree ℕ → List (List ℕ)
  tree_words (Single handle) = decimal handle ∷ []
  tree_words (Combined combinator children) = combinator_word combinator (count children) ∷ all_words children

  pub all_words : AwaitTrees ℕ → List (List ℕ)
  all_words no_trees = []
  all_words (and_trees tree trees) = tree_words tree ++ all_words trees

-- ---- which have words: those whose numbers fit

abbrev pub IsCombinator : Combinator → Type 0
IsCombinator (AtLeast required) = required < 2 ^ 32
IsCombinator combinator = Unit {0}

abbrev mutual
  pub IsTree : AwaitTree ℕ → Type 0
  IsTree (Single handle) = handle < 2 ^ 32
  IsTree (Combined combinator children) = IsCombinator combinator × (count children < 2 ^ 32) × AreTrees children

  pub AreTrees : AwaitTrees ℕ → Type 0
  AreTrees no_trees = Unit {0}
  AreTrees (and_trees tree trees) = IsTree tree × AreTrees trees
