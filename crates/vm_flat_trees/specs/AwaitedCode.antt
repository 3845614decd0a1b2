-- A code of awaited trees, by which a proof tells them apart: a list of the constructors, the parts of each before it.
use Rattle.std.proofs.Common.{◌≡◌, refl, ap, ◌∙◌, ℕ, zero, suc, List, [], ◌∷◌, Option, ◌⊎◌, inl, inr}
use Rattle.std.specs.Coded.{Coded, code_by, coded×, coded⊎, coded_ℕ, coded_list, coded_option}
use Rattle.journal_model.specs.AwaitTree.{AwaitState, Pending, Succeeded, Failed, AwaitTree, Single, Combined, AwaitTrees, no_trees, and_trees, Unknown}
use Rattle.journal_model.specs.TreeCode.{number_of_combinator, of_number, of_number-number_of}
use Rattle.journal_model.specs.declared.notification.NotificationId.{NotificationId}
use Rattle.journal_model.specs.contracts.notification.NotificationId as ids
use Rattle.vm_flat_trees.specs.SleepingTree.{AwaitedLeaf}

-- a leaf, or the number of another constructor
abbrev pub Mark : Type 0
Mark = AwaitedLeaf ⊎ ℕ

-- a tree before what follows it
abbrev mutual
  pub listed : AwaitTree AwaitedLeaf → List Mark → List Mark
  listed (Single leaf) rest = inl leaf ∷ rest
  listed (Combined combinator children) rest = all_listed children (inr (suc (suc (number_of_combinator combinator))) ∷ rest)

  pub all_listed : AwaitTrees AwaitedLeaf → List Mark → List Mark
  all_listed no_trees rest = inr 0 ∷ rest
  all_listed (and_trees tree trees) rest = listed tree (all_listed trees (inr 1 ∷ rest))

-- the trees that were read and wait to be put into others
abbrev pub Read : Type 0
Read = List (AwaitTree AwaitedLeaf) × List (AwaitTrees AwaitedLeaf)

abbrev pub awaited_joined : List (AwaitTree AwaitedLeaf) → List (AwaitTrees AwaitedLeaf) → Read
awaited_joined (tree ∷ more) (trees ∷ others) = (more, and_trees tree trees ∷ others)
awaited_joined more others = (more, others)

abbrev pub combined : ℕ → List (AwaitTree AwaitedLeaf) → List (AwaitTrees AwaitedLeaf) → Read
combined number more [] = (more, [])
combined number more (children ∷ others) = (Combined (of_number number) children ∷ more, others)

abbrev pub read_number : ℕ → Read → Read
read_number zero read = (read.0, no_trees ∷ read.1)
read_number (suc zero) read = awaited_joined read.0 read.1
read_number (suc (suc number)) read = combined number read.0 read.1

abbrev pub read_one : Mark → Read → Read
read_one (inl leaf) read = (Single leaf ∷ read.0, read.1)
read_one (inr number) read = read_number number read

abbrev pub read_all : List Mark → Read → Read
read_all [] read = read
read_all (one ∷ rest) read = read_all rest (read_one one read)

mutual
  pub listed-read : (tree : AwaitTree AwaitedLeaf) (rest : List Mark) (read : Read) → read_all (listed tree rest) read ≡ read_all rest (tree ∷ read.0, read.1)
  listed-read (Single leaf) rest read = refl
  listed-read (Combined combinator children) rest read =
      all_listed-read children (inr (suc (suc (number_of_combinator combinator))) ∷ rest) read
      ∙ ap (λ c. read_all rest (Combined c children ∷ read.0, read.1)) (of_number-number_of combinator)

  pub all_listed-read : (trees : AwaitTrees AwaitedLeaf) (rest : List Mark) (read : Read) → read_all (all_listed trees rest) read ≡ read_all rest (read.0, trees ∷ read.1)
  all_listed-read no_trees rest read = refl
  all_listed-read (and_trees tree trees) rest read =
      listed-read tree (all_listed trees (inr 1 ∷ rest)) read
      ∙ all_listed-read trees (inr 1 ∷ rest) (tree ∷ read.0, read.1)

abbrev pub first_tree : List (AwaitTree AwaitedLeaf) → AwaitTree AwaitedLeaf
first_tree [] = Combined Unknown no_trees
first_tree (tree ∷ trees) = tree

abbrev pub tree_from : List Mark → AwaitTree AwaitedLeaf
tree_from list = first_tree (read_all list ([], [])).0

pub tree_from-listed : (tree : AwaitTree AwaitedLeaf) → tree_from (listed tree []) ≡ tree
tree_from-listed tree = ap (λ (read : Read). first_tree read.0) (listed-read tree [] ([], []))

abbrev pub state_number : AwaitState → ℕ
state_number Pending = 0
state_number Succeeded = 1
state_number Failed = 2

abbrev pub number_state : ℕ → AwaitState
number_state zero = Pending
number_state (suc zero) = Succeeded
number_state (suc (suc number)) = Failed

pub number_state-state_number : (state : AwaitState) → number_state (state_number state) ≡ state
number_state-state_number Pending = refl
number_state-state_number Succeeded = refl
number_state-state_number Failed = refl

abbrev pub state_code : Coded AwaitState
state_code = code_by ℕ coded_ℕ state_number number_state number_state-state_number

abbrev pub leaf_code : Coded AwaitedLeaf
leaf_code =
    code_by (ℕ × (Option NotificationId × AwaitState)) (coded× coded_ℕ (coded× (coded_option ids.the_row.coded) state_code))
    (λ leaf. (leaf.handle, (leaf.id, leaf.state))) (λ parts. record { handle = parts.0; id = parts.1.0; state = parts.1.1 }) (λ _. refl)

abbrev pub awaited_code : Coded (Option (AwaitTree AwaitedLeaf))
awaited_code = coded_option (code_by (List Mark) (coded_list (coded⊎ leaf_code coded_ℕ)) (λ tree. listed tree []) tree_from tree_from-listed)
