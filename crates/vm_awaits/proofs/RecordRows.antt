-- Worked rows: the records of trees, as their combinator, completions, signals, names, and the records in them.
use Rattle.std.proofs.Common.{◌≡◌, refl, ℕ, ◌+◌, List, [], ◌∷◌, map, Some, None, codes}
use Rattle.journal_model.specs.declared.notification.NotificationId.TheVariants.{CompletionId, SignalId, SignalName}
use Rattle.journal_model.specs.AwaitTree as Trees
use Rattle.journal_model.specs.AwaitTree.{AwaitTree, Single}
use Rattle.journal_model.specs.Future.{node}
use Rattle.journal_model.specs.PrunedTrees.{only_leaves}
use Rattle.protocol_records.specs.declared.future.CombinatorType.{CombinatorType}
use Rattle.protocol_records.specs.declared.future.CombinatorType.TheVariants.{Unknown, FirstCompleted, AllCompleted, FirstSucceededOrAllFailed, AllSucceededOrFirstFailed, AtLeastSucceeded}
use Rattle.protocol_records.specs.declared.future.Future.{Future}
use Rattle.protocol_stream.specs.Records.{future_node, future_record}
use Rattle.attempt_model.specs.Results.{Slots, slot_of}

-- completions 1 to 3, signals 5 and 17, signal foo, and a handle whose notification was taken
abbrev slots : Slots
slots = Some (CompletionId 1) ∷ Some (CompletionId 2) ∷ Some (CompletionId 3) ∷ Some (SignalId 5) ∷ Some (SignalId 17) ∷ Some (SignalName (codes "foo")) ∷ None ∷ []

abbrev s5 : AwaitTree ℕ
s5 = Single 20

abbrev s17 : AwaitTree ℕ
s17 = Single 21

-- a completion, by its number
abbrev c : ℕ → AwaitTree ℕ
c id = Single (16 + id)

abbrev foo : AwaitTree ℕ
foo = Single 22

abbrev taken : AwaitTree ℕ
taken = Single 23

record Row : Type 0 where
  tree : AwaitTree ℕ
  told : Future

abbrev tells : AwaitTree ℕ → CombinatorType → List ℕ → List ℕ → List (List ℕ) → List Future → Row
tells tree combinator completions signals names nested = record { tree = tree; told = future_node completions signals names nested combinator 0 }

-- a record of completions alone, with these in it
abbrev over : CombinatorType → List ℕ → List Future → Future
over combinator completions nested = future_node completions [] [] nested combinator 0

abbrev asks : ℕ → List (AwaitTree ℕ) → List ℕ → ℕ → Row
asks required children completions told = record { tree = node (Trees.AtLeast required) children; told = future_node completions [] [] [] AtLeastSucceeded told }

abbrev table : List Row
table =
    tells (c 1) FirstCompleted (1 ∷ []) [] [] [] ∷
    tells s17 FirstCompleted [] (17 ∷ []) [] [] ∷
    tells foo FirstCompleted [] [] (codes "foo" ∷ []) [] ∷
    tells (node Trees.FirstCompleted (c 1 ∷ c 2 ∷ [])) FirstCompleted (1 ∷ 2 ∷ []) [] [] [] ∷
    tells (node Trees.FirstCompleted (c 1 ∷ s5 ∷ [])) FirstCompleted (1 ∷ []) (5 ∷ []) [] [] ∷
    tells (node Trees.AllCompleted (c 1 ∷ c 2 ∷ [])) AllCompleted (1 ∷ 2 ∷ []) [] [] [] ∷
    tells (node Trees.FirstSucceededOrAllFailed (c 1 ∷ c 2 ∷ [])) FirstSucceededOrAllFailed (1 ∷ 2 ∷ []) [] [] [] ∷
    tells (node Trees.AllSucceededOrFirstFailed (c 1 ∷ c 2 ∷ [])) AllSucceededOrFirstFailed (1 ∷ 2 ∷ []) [] [] [] ∷
    tells (node Trees.Unknown (c 1 ∷ s5 ∷ [])) Unknown (1 ∷ []) (5 ∷ []) [] [] ∷
    tells (node Trees.FirstCompleted (c 1 ∷ node Trees.AllCompleted (c 2 ∷ c 3 ∷ []) ∷ [])) FirstCompleted (1 ∷ []) [] [] (over AllCompleted (2 ∷ 3 ∷ []) [] ∷ []) ∷
    tells (node Trees.FirstCompleted (node Trees.Unknown (c 1 ∷ c 2 ∷ []) ∷ c 3 ∷ [])) FirstCompleted (3 ∷ []) [] [] (over Unknown (1 ∷ 2 ∷ []) [] ∷ []) ∷
    tells (node Trees.FirstCompleted (node Trees.Unknown (node Trees.AllCompleted (c 1 ∷ c 2 ∷ []) ∷ []) ∷ c 3 ∷ [])) FirstCompleted (3 ∷ []) [] [] (over Unknown [] (over AllCompleted (1 ∷ 2 ∷ []) [] ∷ []) ∷ []) ∷
    tells (node Trees.Unknown (node Trees.FirstSucceededOrAllFailed (c 1 ∷ c 2 ∷ []) ∷ s5 ∷ [])) Unknown [] (5 ∷ []) [] (over FirstSucceededOrAllFailed (1 ∷ 2 ∷ []) [] ∷ []) ∷
    tells (node Trees.AllCompleted (c 1 ∷ node Trees.Unknown (s17 ∷ []) ∷ [])) AllCompleted (1 ∷ []) [] [] (future_node [] (17 ∷ []) [] [] Unknown 0 ∷ []) ∷
    -- a handle that stands for nothing is left out; the handle of cancellations stands for signal 1
    tells taken FirstCompleted [] [] [] [] ∷
    tells (node Trees.FirstCompleted (node Trees.AllCompleted (taken ∷ foo ∷ []) ∷ Single 1 ∷ [])) FirstCompleted [] (1 ∷ []) [] (future_node [] [] (codes "foo" ∷ []) [] AllCompleted 0 ∷ []) ∷
    -- of a node that asks for a number of successes that is lowered to as many as are left; one that no children could reach stays out of reach
    asks 2 (c 1 ∷ c 2 ∷ []) (1 ∷ 2 ∷ []) 2 ∷
    asks 2 (c 1 ∷ taken ∷ []) (1 ∷ []) 1 ∷
    asks 1 (c 1 ∷ taken ∷ []) (1 ∷ []) 1 ∷
    asks 3 (taken ∷ c 1 ∷ taken ∷ []) (1 ∷ []) 1 ∷
    asks 3 (c 1 ∷ taken ∷ []) (1 ∷ []) 2 ∷
    asks 0 (taken ∷ []) [] 0 ∷
    []

rows_stand : map (λ row. future_record (only_leaves (slot_of slots) row.tree)) table ≡ map (λ row. row.told) table
rows_stand = refl
