-- Worked rows: two runs that are awaited together, by computation.
use Rattle.std.proofs.Common.{◌≡◌, refl, ℕ, true, false, [], ◌∷◌, None, Some, codes}
use Rattle.journal_model.specs.declared.value.NonEmptyValue.{NonEmptyValue}
use Rattle.journal_model.specs.AwaitTree as Trees
use Rattle.journal_model.specs.AwaitTree.{AwaitTree, Single, Combined, no_trees, and_trees}
use Rattle.body_laws.specs.Bodies.{Body, body_awaited}
use Rattle.vm_runs.specs.declared.run.Run.{Run}
use Rattle.vm_runs.specs.Runs.{Runs, no_runs, with_run, run_handed_out, after_proposal, acknowledged, outcome_at, bodies_in}

abbrev called : (completion index : ℕ) → Run
called completion index = record { completion = completion; command_index = index; command_name = codes "r"; is_executing = false }

-- handles 17 and 18, completions 1 and 2
abbrev two : Runs
two = with_run 18 (called 2 2) (with_run 17 (called 1 1) no_runs)

abbrev both : AwaitTree ℕ
both = Combined Trees.AllCompleted (and_trees (Single 18) (and_trees (Single 17) no_trees))

abbrev body : (handle completion : ℕ) → Body
body handle completion = record { handle = handle; completion = completion }

are_left : bodies_in false two.table ≡ body 17 1 ∷ body 18 2 ∷ []
are_left = refl

-- the least handle is first, wherever it stands in the tree
least_first : body_awaited both (bodies_in false two.table) ≡ Some (body 17 1)
least_first = refl

one_executing : bodies_in true (run_handed_out (Some 17) two).table ≡ body 17 1 ∷ []
one_executing = refl

then_the_other : body_awaited both (bodies_in false (run_handed_out (Some 17) two).table) ≡ Some (body 18 2)
then_the_other = refl

abbrev value : NonEmptyValue
value = NonEmptyValue.Success (codes "v")

-- an outcome waits for its acknowledgement, and for that alone
abbrev proposed : Runs
proposed = after_proposal 17 (Some value) (run_handed_out (Some 17) two)

gone : bodies_in true proposed.table ≡ []
gone = refl

waits : outcome_at proposed.cached 1 ≡ Some value
waits = refl

comes_once : outcome_at (acknowledged 1 proposed).cached 1 ≡ None
comes_once = refl

-- none waits where none is acknowledged
waits_for_none : after_proposal 17 None (run_handed_out (Some 17) two) ≡ record { table = (18, called 2 2) ∷ []; cached = [] }
waits_for_none = refl

-- a proposal for a handle of no run, and a second one for the same
of_no_run : after_proposal 19 (Some value) two ≡ two
of_no_run = refl

no_second : after_proposal 17 (Some value) proposed ≡ proposed
no_second = refl
