-- Worked rows: which trees wake with which deliveries, and what the others still wait for. Leaf k stands for completion k.
use Rattle.std.proofs.Common.{◌≡◌, refl, ℕ, ◌+◌, List, [], ◌∷◌, map, Option, Some, None}
use Rattle.journal_model.specs.declared.notification.NotificationId.TheVariants.{CompletionId}
use Rattle.journal_model.specs.declared.notification.NotificationResult.TheVariants.{Void, Failure}
use Rattle.journal_model.specs.declared.options.SignalDelivery.TheVariants.{Queued}
use Rattle.journal_model.specs.Notification.{Arrival}
use Rattle.journal_model.specs.AwaitTree.{AwaitTree, Single, Unknown, FirstCompleted, AllCompleted, FirstSucceededOrAllFailed, AllSucceededOrFirstFailed}
use Rattle.journal_model.specs.Future.{node}
use Rattle.attempt_model.specs.Results.{Slots, Resolution, Awake, Asleep, resolution_of}
use Rattle.vm_awaits.specs.ReadyViews.{none_ready}

abbrev slots : Slots
slots = Some (CompletionId 1) ∷ Some (CompletionId 2) ∷ Some (CompletionId 3) ∷ Some (CompletionId 4) ∷ []

-- ---- trees

abbrev leaf : ℕ → AwaitTree ℕ
leaf k = Single (16 + k)

abbrev F : List (AwaitTree ℕ) → AwaitTree ℕ
F = node FirstCompleted

abbrev A : List (AwaitTree ℕ) → AwaitTree ℕ
A = node AllCompleted

abbrev S : List (AwaitTree ℕ) → AwaitTree ℕ
S = node FirstSucceededOrAllFailed

abbrev R : List (AwaitTree ℕ) → AwaitTree ℕ
R = node AllSucceededOrFirstFailed

abbrev U : List (AwaitTree ℕ) → AwaitTree ℕ
U = node Unknown

-- ---- deliveries

abbrev succeeds : ℕ → Arrival
succeeds k = record { id = CompletionId k; result = Void }

abbrev fails : ℕ → Arrival
fails k = record { id = CompletionId k; result = Failure (record { code = 500; message = []; metadata = [] }) }

-- ---- rows

record Row : Type 0 where
  tree : AwaitTree ℕ
  deliveries : List Arrival
  -- what it still waits for, where it does not wake
  left : Option (AwaitTree ℕ)

abbrev wakes : AwaitTree ℕ → List Arrival → Row
wakes tree deliveries = record { tree = tree; deliveries = deliveries; left = None }

abbrev waits : AwaitTree ℕ → List Arrival → AwaitTree ℕ → Row
waits tree deliveries left = record { tree = tree; deliveries = deliveries; left = Some left }

abbrev table : List Row
table =
    wakes (leaf 1) (succeeds 1 ∷ []) ∷
    wakes (leaf 1) (fails 1 ∷ []) ∷
    wakes (F (leaf 1 ∷ leaf 2 ∷ leaf 3 ∷ [])) (succeeds 2 ∷ []) ∷
    wakes (F (leaf 1 ∷ leaf 2 ∷ leaf 3 ∷ [])) (fails 1 ∷ []) ∷
    wakes (F (leaf 1 ∷ U (leaf 2 ∷ []) ∷ [])) (succeeds 2 ∷ []) ∷
    wakes (F (U (A (leaf 1 ∷ leaf 2 ∷ []) ∷ []) ∷ leaf 3 ∷ [])) (succeeds 3 ∷ []) ∷
    wakes (F (U (A (leaf 1 ∷ leaf 2 ∷ []) ∷ []) ∷ leaf 3 ∷ [])) (succeeds 1 ∷ succeeds 2 ∷ []) ∷
    waits (F (U (A (leaf 1 ∷ leaf 2 ∷ []) ∷ []) ∷ leaf 3 ∷ [])) (succeeds 1 ∷ []) (F (U (A (leaf 2 ∷ []) ∷ []) ∷ leaf 3 ∷ [])) ∷
    waits (F (U (A (leaf 1 ∷ U (leaf 2 ∷ []) ∷ []) ∷ []) ∷ [])) (succeeds 1 ∷ []) (F (U (A (U (leaf 2 ∷ []) ∷ []) ∷ []) ∷ [])) ∷
    wakes (F (U (A (leaf 1 ∷ U (leaf 2 ∷ []) ∷ []) ∷ []) ∷ [])) (succeeds 1 ∷ succeeds 2 ∷ []) ∷
    waits (A (leaf 1 ∷ leaf 2 ∷ leaf 3 ∷ [])) (succeeds 1 ∷ fails 3 ∷ []) (A (leaf 2 ∷ [])) ∷
    wakes (A (leaf 1 ∷ leaf 2 ∷ [])) (succeeds 1 ∷ fails 2 ∷ []) ∷
    waits (A (leaf 1 ∷ U (leaf 2 ∷ []) ∷ [])) (succeeds 1 ∷ []) (A (U (leaf 2 ∷ []) ∷ [])) ∷
    wakes (A (leaf 1 ∷ U (leaf 2 ∷ []) ∷ [])) (succeeds 1 ∷ succeeds 2 ∷ []) ∷
    wakes (S (leaf 1 ∷ leaf 2 ∷ leaf 3 ∷ [])) (succeeds 2 ∷ []) ∷
    waits (S (leaf 1 ∷ leaf 2 ∷ leaf 3 ∷ [])) (fails 1 ∷ []) (S (leaf 2 ∷ leaf 3 ∷ [])) ∷
    wakes (S (leaf 1 ∷ leaf 2 ∷ [])) (fails 1 ∷ fails 2 ∷ []) ∷
    wakes (S (leaf 1 ∷ R (leaf 2 ∷ U (leaf 3 ∷ []) ∷ []) ∷ [])) (succeeds 3 ∷ []) ∷
    wakes (S (leaf 1 ∷ R (leaf 2 ∷ U (leaf 3 ∷ []) ∷ []) ∷ [])) (fails 3 ∷ []) ∷
    waits (S (leaf 1 ∷ R (leaf 2 ∷ U (leaf 3 ∷ []) ∷ []) ∷ [])) (fails 1 ∷ []) (S (R (leaf 2 ∷ U (leaf 3 ∷ []) ∷ []) ∷ [])) ∷
    wakes (S (leaf 1 ∷ A (leaf 2 ∷ U (leaf 3 ∷ []) ∷ []) ∷ [])) (succeeds 3 ∷ []) ∷
    wakes (S (leaf 1 ∷ U (R (leaf 2 ∷ leaf 3 ∷ []) ∷ []) ∷ [])) (succeeds 2 ∷ succeeds 3 ∷ []) ∷
    wakes (S (leaf 1 ∷ U (R (leaf 2 ∷ leaf 3 ∷ []) ∷ []) ∷ [])) (fails 2 ∷ []) ∷
    waits (S (leaf 1 ∷ U (R (leaf 2 ∷ leaf 3 ∷ []) ∷ []) ∷ [])) (succeeds 2 ∷ []) (S (leaf 1 ∷ U (R (leaf 3 ∷ []) ∷ []) ∷ [])) ∷
    wakes (R (leaf 1 ∷ leaf 2 ∷ leaf 3 ∷ [])) (fails 2 ∷ []) ∷
    waits (R (leaf 1 ∷ leaf 2 ∷ leaf 3 ∷ [])) (succeeds 1 ∷ []) (R (leaf 2 ∷ leaf 3 ∷ [])) ∷
    wakes (R (R (leaf 1 ∷ leaf 2 ∷ []) ∷ leaf 3 ∷ [])) (fails 2 ∷ []) ∷
    wakes (R (leaf 1 ∷ U (leaf 2 ∷ []) ∷ [])) (fails 2 ∷ []) ∷
    wakes (R (F (leaf 1 ∷ leaf 2 ∷ []) ∷ F (leaf 3 ∷ leaf 4 ∷ []) ∷ [])) (fails 2 ∷ []) ∷
    wakes (R (leaf 1 ∷ U (leaf 2 ∷ S (leaf 3 ∷ leaf 4 ∷ []) ∷ []) ∷ [])) (succeeds 3 ∷ []) ∷
    wakes (R (leaf 1 ∷ U (leaf 2 ∷ S (leaf 3 ∷ leaf 4 ∷ []) ∷ []) ∷ [])) (fails 3 ∷ fails 4 ∷ []) ∷
    waits (R (leaf 1 ∷ U (leaf 2 ∷ S (leaf 3 ∷ leaf 4 ∷ []) ∷ []) ∷ [])) (succeeds 1 ∷ []) (R (U (leaf 2 ∷ S (leaf 3 ∷ leaf 4 ∷ []) ∷ []) ∷ [])) ∷
    waits (R (leaf 1 ∷ U (leaf 2 ∷ S (leaf 3 ∷ leaf 4 ∷ []) ∷ []) ∷ [])) (fails 3 ∷ []) (R (leaf 1 ∷ U (leaf 2 ∷ S (leaf 4 ∷ []) ∷ []) ∷ [])) ∷
    wakes (R (leaf 1 ∷ U (A (leaf 2 ∷ U (leaf 3 ∷ []) ∷ []) ∷ []) ∷ [])) (fails 1 ∷ []) ∷
    wakes (R (leaf 1 ∷ U (A (leaf 2 ∷ U (leaf 3 ∷ []) ∷ []) ∷ []) ∷ [])) (succeeds 2 ∷ succeeds 3 ∷ []) ∷
    waits (R (leaf 1 ∷ U (A (leaf 2 ∷ U (leaf 3 ∷ []) ∷ []) ∷ []) ∷ [])) (succeeds 1 ∷ []) (R (U (A (leaf 2 ∷ U (leaf 3 ∷ []) ∷ []) ∷ []) ∷ [])) ∷
    waits (R (leaf 1 ∷ U (A (leaf 2 ∷ U (leaf 3 ∷ []) ∷ []) ∷ []) ∷ [])) (succeeds 2 ∷ []) (R (leaf 1 ∷ U (A (U (leaf 3 ∷ []) ∷ []) ∷ []) ∷ [])) ∷
    waits (R (A (leaf 1 ∷ leaf 2 ∷ []) ∷ A (leaf 3 ∷ leaf 4 ∷ []) ∷ [])) (fails 1 ∷ []) (R (A (leaf 2 ∷ []) ∷ A (leaf 3 ∷ leaf 4 ∷ []) ∷ [])) ∷
    waits (R (A (leaf 1 ∷ leaf 2 ∷ []) ∷ A (leaf 3 ∷ leaf 4 ∷ []) ∷ [])) (fails 1 ∷ fails 2 ∷ []) (R (A (leaf 3 ∷ leaf 4 ∷ []) ∷ [])) ∷
    wakes (U (leaf 1 ∷ leaf 2 ∷ [])) (succeeds 2 ∷ []) ∷
    wakes (F (A (leaf 1 ∷ leaf 2 ∷ []) ∷ leaf 3 ∷ [])) (succeeds 3 ∷ []) ∷
    wakes (A (F (leaf 1 ∷ leaf 2 ∷ []) ∷ F (leaf 3 ∷ leaf 4 ∷ []) ∷ [])) (succeeds 1 ∷ []) ∷
    wakes (A (F (leaf 1 ∷ leaf 2 ∷ []) ∷ F (leaf 3 ∷ leaf 4 ∷ []) ∷ [])) (succeeds 1 ∷ succeeds 4 ∷ []) ∷
    wakes (A (R (leaf 1 ∷ leaf 2 ∷ []) ∷ F (leaf 3 ∷ leaf 4 ∷ []) ∷ [])) (fails 1 ∷ []) ∷
    wakes (R (leaf 1 ∷ leaf 1 ∷ leaf 2 ∷ [])) (fails 1 ∷ []) ∷
    wakes (A (S (leaf 1 ∷ leaf 2 ∷ []) ∷ F (leaf 3 ∷ leaf 4 ∷ []) ∷ [])) (succeeds 1 ∷ []) ∷
    wakes (A (leaf 1 ∷ leaf 1 ∷ [])) (succeeds 1 ∷ []) ∷
    wakes (F (leaf 1 ∷ leaf 1 ∷ leaf 2 ∷ [])) (succeeds 1 ∷ []) ∷
    wakes (S (leaf 1 ∷ leaf 1 ∷ [])) (succeeds 1 ∷ []) ∷
    wakes (A (F (leaf 1 ∷ leaf 2 ∷ []) ∷ F (leaf 1 ∷ leaf 3 ∷ []) ∷ [])) (succeeds 1 ∷ []) ∷
    wakes (A (leaf 1 ∷ U (leaf 1 ∷ leaf 2 ∷ []) ∷ [])) (succeeds 1 ∷ []) ∷
    wakes (A (R (leaf 1 ∷ leaf 2 ∷ []) ∷ R (leaf 1 ∷ leaf 2 ∷ []) ∷ [])) (succeeds 1 ∷ succeeds 2 ∷ []) ∷
    wakes (A (R (leaf 1 ∷ leaf 2 ∷ []) ∷ R (leaf 1 ∷ leaf 2 ∷ []) ∷ [])) (fails 1 ∷ []) ∷
    waits (A (leaf 1 ∷ leaf 2 ∷ leaf 1 ∷ [])) (succeeds 1 ∷ []) (A (leaf 2 ∷ [])) ∷
    []

abbrev resolved : AwaitTree ℕ → List Arrival → Resolution
resolved tree deliveries = resolution_of Queued slots tree deliveries none_ready

abbrev left_in : Resolution → Option (AwaitTree ℕ)
left_in (Awake queue ready) = None
left_in (Asleep tree ready) = Some tree

abbrev line_in : Resolution → Option (List Arrival)
line_in (Awake queue ready) = Some queue
line_in (Asleep tree ready) = None

rows_stand : map (λ row. left_in (resolved row.tree row.deliveries)) table ≡ map (λ row. row.left) table
rows_stand = refl

-- without deliveries each tree waits for itself
trees_wait : map (λ row. left_in (resolved row.tree [])) table ≡ map (λ row. Some row.tree) table
trees_wait = refl

-- what came behind the delivery that wakes a tree is not looked at
stops_at_once : line_in (resolved (A (F (leaf 1 ∷ leaf 2 ∷ []) ∷ F (leaf 3 ∷ leaf 4 ∷ []) ∷ [])) (succeeds 1 ∷ succeeds 4 ∷ [])) ≡ Some (succeeds 4 ∷ [])
stops_at_once = refl
