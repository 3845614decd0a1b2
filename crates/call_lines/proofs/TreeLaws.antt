-- A tree of handles is read back from its words.
use Rattle.std.proofs.Common.{◌≡◌, ℕ, suc, ◌+◌, ◌^◌, ◌<◌, true, List, [], ◌∷◌, ◌++◌, length, drop, Option, Some, refl, sym, ap, ◌∙◌, arith, length-append, leb}
use Rattle.std.specs.Prelude.{codes, decimal}
use Rattle.std.proofs.Math.Seq.{take-append_seam}
use Rattle.std.proofs.lemmas.Bool.{le-leb}
use Rattle.journal_model.specs.AwaitTree.{AwaitTree, Single, Combined, AwaitTrees, no_trees, and_trees, Combinator, Unknown, FirstCompleted, AllCompleted, FirstSucceededOrAllFailed, AllSucceededOrFirstFailed, AtLeast}
use Rattle.journal_model.specs.Future.{trees_from}
use Rattle.script_lines.specs.LineReader.{at_colon, then_read}
use Rattle.script_lines.proofs.ValueLaws.{colon_again}
use Rattle.script_lines.proofs.WordLaws.{number_32}
use Rattle.server_lines.proofs.WordLaws.{digits-no_colon}
use Rattle.call_lines.specs.Tree.{AreTrees, IsCombinator, IsTree, all_words, combinator_word, count, tree_words}
use Rattle.call_lines.specs.TreeReader.{Stack, all_onto, alone, combinator_of, handle_or, joined, kind_of, node_of, numbered_of, onto, over_kind, over_of, tree_read}
use Rattle.call_lines.specs.declared.tree.NodeKind.{NodeKind}
use Rattle.call_lines.specs.declared.tree.NodeKind.TheVariants as kinds
use Rattle.call_lines.specs.declared.tree.TreeNode.TheVariants as nodes
use Rattle.call_lines.proofs.WordLaws.{decimal-digits, no_number}

-- ---- a word

handle_again : (handle : ℕ) → handle < 2 ^ 32 → node_of (decimal handle) ≡ Some (nodes.Handle handle)
unfolding node_of handle_or
handle_again handle h = rw (number_32.again handle h) refl

abbrev kind_for : Combinator → NodeKind
kind_for FirstCompleted = kinds.Any
kind_for AllCompleted = kinds.All
kind_for FirstSucceededOrAllFailed = kinds.FirstSucceeded
kind_for AllSucceededOrFirstFailed = kinds.AllSucceeded
kind_for (AtLeast required) = kinds.AtLeast required
kind_for Unknown = kinds.Unknown

kind_is : (combinator : Combinator) → combinator_of (kind_for combinator) ≡ combinator
kind_is FirstCompleted = refl
kind_is AllCompleted = refl
kind_is FirstSucceededOrAllFailed = refl
kind_is AllSucceededOrFirstFailed = refl
kind_is (AtLeast required) = refl
kind_is Unknown = refl

numbered_again : (required number : ℕ) → required < 2 ^ 32 → number < 2 ^ 32 → numbered_of (decimal required ++ 58 ∷ decimal number) ≡ Some (nodes.Over (kinds.AtLeast required) number)
unfolding numbered_of then_read
numbered_again required number r n =
    let parts : at_colon (decimal required ++ 58 ∷ decimal number) ≡ Some (decimal required, decimal number) =
    colon_again (decimal required) (decimal number) (digits-no_colon (decimal required) (decimal-digits required (omega arith))) in
    rw (parts, number_32.again required r, number_32.again number n) refl

over_again : (combinator : Combinator) (number : ℕ) → IsCombinator combinator → number < 2 ^ 32 → node_of (combinator_word combinator number) ≡ Some (nodes.Over (kind_for combinator) number)
unfolding node_of handle_or over_of over_kind kind_of then_read
over_again FirstCompleted number h n =
    let parts : at_colon (codes "any:" ++ decimal number) ≡ Some (codes "any", decimal number) = colon_again (codes "any") (decimal number) (refl, (refl, (refl, tt))) in
    rw (no_number 97 (codes "ny:" ++ decimal number) (omega arith), parts, number_32.again number n) refl
over_again AllCompleted number h n =
    let parts : at_colon (codes "all:" ++ decimal number) ≡ Some (codes "all", decimal number) = colon_again (codes "all") (decimal number) (refl, (refl, (refl, tt))) in
    rw (no_number 97 (codes "ll:" ++ decimal number) (omega arith), parts, number_32.again number n) refl
over_again FirstSucceededOrAllFailed number h n =
    let parts : at_colon (codes "first-succeeded:" ++ decimal number) ≡ Some (codes "first-succeeded", decimal number) =
    colon_again (codes "first-succeeded") (decimal number) (refl, (refl, (refl, (refl, (refl, (refl, (refl, (refl, (refl, (refl, (refl, (refl, (refl, (refl, (refl, tt))))))))))))))) in
    rw (no_number 102 (codes "irst-succeeded:" ++ decimal number) (omega arith), parts, number_32.again number n) refl
over_again AllSucceededOrFirstFailed number h n =
    let parts : at_colon (codes "all-succeeded:" ++ decimal number) ≡ Some (codes "all-succeeded", decimal number) =
    colon_again (codes "all-succeeded") (decimal number) (refl, (refl, (refl, (refl, (refl, (refl, (refl, (refl, (refl, (refl, (refl, (refl, (refl, tt))))))))))))) in
    rw (no_number 97 (codes "ll-succeeded:" ++ decimal number) (omega arith), parts, number_32.again number n) refl
over_again (AtLeast required) number h n =
    let text = decimal required ++ 58 ∷ decimal number in
    let parts : at_colon (codes "at-least:" ++ text) ≡ Some (codes "at-least", text) = colon_again (codes "at-least") text (refl, (refl, (refl, (refl, (refl, (refl, (refl, (refl, tt)))))))) in
    rw (no_number 97 (codes "t-least:" ++ text) (omega arith), parts, numbered_again required number h n) refl
over_again Unknown number h n =
    let parts : at_colon (codes "unknown:" ++ decimal number) ≡ Some (codes "unknown", decimal number) = colon_again (codes "unknown") (decimal number) (refl, (refl, (refl, (refl, (refl, (refl, (refl, tt))))))) in
    rw (no_number 117 (codes "nknown:" ++ decimal number) (omega arith), parts, number_32.again number n) refl

-- ---- trees

pub onto-append : (front back : List (List ℕ)) (read : Option Stack) → all_onto (front ++ back) read ≡ all_onto front (all_onto back read)
unfolding all_onto
onto-append [] back read = refl
onto-append (word ∷ front) back read = ap (onto word) (onto-append front back read)

abbrev list_of : AwaitTrees ℕ → Stack
list_of no_trees = []
list_of (and_trees tree trees) = tree ∷ list_of trees

from_list : (trees : AwaitTrees ℕ) → trees_from (list_of trees) ≡ trees
from_list no_trees = refl
from_list (and_trees tree trees) = ap (and_trees tree) (from_list trees)

counted : (trees : AwaitTrees ℕ) → length (list_of trees) ≡ count trees
counted no_trees = refl
counted (and_trees tree trees) = ap suc (counted trees)

drop_front : (front stack : Stack) → drop (length front) (front ++ stack) ≡ stack
drop_front [] stack = refl
drop_front (tree ∷ front) stack = drop_front front stack

-- a combinator takes so many from the top
pub takes : (kind : NodeKind) (front stack : Stack) → joined (nodes.Over kind (length front)) (front ++ stack) ≡ Some (Combined (combinator_of kind) (trees_from front) ∷ stack)
unfolding joined
takes kind front stack =
    let long = length-append front stack in
    let enough : leb (length front) (length (front ++ stack)) ≡ true = le-leb _ _ (omega arith) in
    rw (enough, take-append_seam front stack, drop_front front stack) refl

mutual
  unfolding all_onto onto then_read joined

  tree_onto : (tree : AwaitTree ℕ) → IsTree tree → (stack : Stack) → all_onto (tree_words tree) (Some stack) ≡ Some (tree ∷ stack)
  tree_onto (Single handle) h stack = rw (handle_again handle h) refl
  tree_onto (Combined combinator children) h stack =
      rw (trees_onto children h.2 stack, over_again combinator (count children) h.0 h.1)
      (
      ap (λ (number : ℕ). joined (nodes.Over (kind_for combinator) number) (list_of children ++ stack)) (sym (counted children))
      ∙ takes (kind_for combinator) (list_of children) stack
      ∙ (λ i. Some (Combined (kind_is combinator i) (from_list children i) ∷ stack))
      )

  trees_onto : (trees : AwaitTrees ℕ) → AreTrees trees → (stack : Stack) → all_onto (all_words trees) (Some stack) ≡ Some (list_of trees ++ stack)
  trees_onto no_trees h stack = refl
  trees_onto (and_trees tree trees) h stack =
      onto-append (tree_words tree) (all_words trees) (Some stack) ∙ ap (all_onto (tree_words tree)) (trees_onto trees h.1 stack) ∙ tree_onto tree h.0 (list_of trees ++ stack)

pub tree_again : (tree : AwaitTree ℕ) → IsTree tree → tree_read (tree_words tree) ≡ Some tree
unfolding tree_read then_read alone
tree_again tree h = rw (tree_onto tree h []) refl
