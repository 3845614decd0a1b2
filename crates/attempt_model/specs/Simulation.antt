-- How the machine stands to the run of its handler, and what each reply says of it.
use Rattle.std.specs.Prelude.{None, option_map, ◌==◌, Some, ◌≡◌, ◌≤◌, ◌<◌, ◌+◌, ◌⊎◌, ℕ, suc, Bool, true, false, if◌then◌else◌, List, [], ◌∷◌, ◌++◌, length, drop, map, filter, Option}
use Rattle.std.specs.List.{list_all, list_any}
use Rattle.journal_model.specs.declared.value.Value.{Value}
use Rattle.journal_model.specs.Value.{as_taken}
use Rattle.journal_model.specs.declared.notification.NotificationId.{NotificationId}
use Rattle.journal_model.specs.declared.notification.NotificationId.TheVariants.{CompletionId}
use Rattle.journal_model.specs.declared.notification.NotificationResult.{NotificationResult}
use Rattle.journal_model.specs.Notification.{same_id, Arrival}
use Rattle.journal_model.specs.AwaitTree.{AwaitTree, Single, map_leaves}
use Rattle.journal_model.specs.declared.call.Call.{Call}
use Rattle.journal_model.specs.declared.call.Answer.{Answer}
use Rattle.journal_model.specs.Request.{Request}
use Rattle.journal_model.specs.declared.options.RunOptions.{RunOptions}
use Rattle.journal_model.specs.declared.options.SignalDelivery.TheVariants.{Queued}
use Rattle.journal_model.specs.Options.{replaces}
use Rattle.journal_model.specs.History.{Step, answers_of, requests_of, place_of, next_completion, next_signal, next_handle, stands_for, ids_created, TakesBelow, WithinPlaces}
use Rattle.journal_model.specs.Delivery.{results_for, front, known_results, deliveries, takes_of, passed_at_take, leaf_state}
use Rattle.journal_model.specs.Await.{awaited_ids, is_awake_at, is_cancelled_at, all_known_at, last_taken, tracked_children, awake_place, awaited_tree}
use Rattle.journal_model.specs.declared.options.ImplicitCancellationOption.{ImplicitCancellationOption}
use Rattle.journal_model.specs.State.{StartState, state_after, IsOrdered}
use Rattle.journal_model.specs.PrunedTrees.{pruned}
use Rattle.journal_model.specs.Run.{Handler, Invocation, GoesOn, Waits, RefusedCall, Ended, run, run_requests, IsBeginning, BeginsRun}
use Rattle.attempt_model.specs.Children.{Child, is_id}
use Rattle.attempt_model.specs.Machine.{Machine, machine_at_start, with_arrival, Mismatch, UncompletedInReplay, EndInReplay, KeysNotText, ChildNotId, Refused, Reply, Answered, AwaitsTree, AwaitsChild, Finished, FailedBy, reply_to, StopsMidway}
use Rattle.attempt_model.specs.Requests.{Commands, PutState}
use Rattle.attempt_model.specs.Results.{Ready, Slots, slot_of, Resolution, Awake, Asleep, resolution_of, are_keys_text}

-- how many deliveries of an id calls have gone past
abbrev pub passed_deliveries : RunOptions → List Step → List Arrival → NotificationId → ℕ
passed_deliveries options steps arrivals id =
    if replaces options.signal_delivery id then passed_at_take (ids_created steps) arrivals id steps else takes_of steps id

abbrev pub only_last : List NotificationResult → List NotificationResult
only_last [] = []
only_last (result ∷ []) = result ∷ []
only_last (result ∷ next ∷ results) = only_last (next ∷ results)

-- what is kept of deliveries, where the next replaces one that waits or not
abbrev pub kept_results : Bool → List NotificationResult → List NotificationResult
kept_results replaced results = if replaced then only_last results else results

-- the deliveries of an id that wait to be taken
abbrev pub untaken_results : RunOptions → List Step → List Arrival → ℕ → NotificationId → List NotificationResult
untaken_results options steps arrivals place id =
    kept_results (replaces options.signal_delivery id) (drop (passed_deliveries options steps arrivals id) (deliveries steps arrivals place id))

-- what has come and what handles stand for is that of these steps, where so many arrivals were looked at
pub record TablesStand (options : RunOptions) (steps : List Step) (arrivals : List Arrival) (place : ℕ) (line : List Arrival) (waiting : Ready) (table : Slots) : Type 0 where
  pub within : place ≤ length arrivals
  pub before : WithinPlaces place steps
  pub queue : line ≡ drop place arrivals
  pub ready : (id : NotificationId) → waiting id ≡ untaken_results options steps arrivals place id
  pub taken : (id : NotificationId) → passed_deliveries options steps arrivals id ≤ length (deliveries steps arrivals place id)
  pub handles : (handle : ℕ) → slot_of table handle ≡ stands_for steps handle
  pub next : 17 + length table ≡ next_handle steps
  pub takes : TakesBelow (next_handle steps) steps

-- the commands that are left are requests; those that were matched and written are the steps', and nothing is written before all recorded
-- ones are matched
pub record RequestsStand (journal : List Request) (steps : List Step) (commands : Commands) (written : List Request) : Type 0 where
  pub left : List Request
  pub are_requests : commands ≡ map Some left
  pub requests : requests_of steps ++ left ≡ journal ++ written
  pub replays : (left ≡ []) ⊎ (written ≡ [])

-- how many arrivals were looked at: as many as the run has gone past, or, where the next call is an await that was asked before,
-- more, and at none of these is it awake
pub data Reached (handler : Handler) (given : Invocation) (arrivals : List Arrival) (steps : List Step) (place : ℕ) : Type 0 where
  here : place ≡ place_of steps → Reached handler given arrivals steps place
  -- asked before, and not awake at any place before this one
  ahead : (tree : AwaitTree ℕ) → handler given.input (answers_of steps) ≡ Call.Await tree → place_of steps ≤ place
      → ((q : ℕ) → place_of steps ≤ q → q < place → is_awake_at given.options steps arrivals (awaited_ids given.options steps tree) (place_of steps) q ≡ false)
      → Reached handler given arrivals steps place
  -- asked before, and awake by a cancellation, which waits for its children
  cancelling : (tree : AwaitTree ℕ) → handler given.input (answers_of steps) ≡ Call.Await tree → (wakes : ℕ) → place_of steps ≤ wakes → wakes ≤ place
      → is_awake_at given.options steps arrivals (awaited_ids given.options steps tree) (place_of steps) wakes ≡ true
      → ((q : ℕ) → place_of steps ≤ q → q < wakes → is_awake_at given.options steps arrivals (awaited_ids given.options steps tree) (place_of steps) q ≡ false)
      → is_cancelled_at given.options steps arrivals wakes ≡ true
      → ((q : ℕ) → wakes ≤ q → q < place → all_known_at given.options steps arrivals (tracked_children given.options.implicit_cancellation steps) q ≡ false)
      → Reached handler given arrivals steps place

-- the start shows the whole state, as the recorded requests have left it, or the state of which the run knows the same
pub data IsShown (given : StartState) (journal : List Request) (shown : StartState) : Type 0 where
  whole_state : given.is_whole ≡ true → shown.is_whole ≡ true → IsOrdered given.entries → shown.entries ≡ state_after journal given.entries → IsShown given journal shown
  same_state : shown ≡ given → IsShown given journal shown

-- the children that a cancellation is passed on to after these steps, each with what was taken of it
abbrev pub child_after : List Step → ℕ → Child
child_after steps n = record { completion = n; taken = last_taken (ids_created steps) (CompletionId n) steps }

abbrev pub children_of : ImplicitCancellationOption → List Step → List Child
children_of cancellation steps = map (child_after steps) (tracked_children cancellation steps)

abbrev pub is_id_if_known : Option Value → Bool
is_id_if_known None = true
is_id_if_known (Some value) = is_id value

-- the machine stands where the run over the arrivals that it has read has made so many calls and goes on
pub record Stands (handler : Handler) (given : Invocation) (journal : List Request) (arrivals : List Arrival) (calls : ℕ) (m : Machine) : Type 0 where
  pub steps : List Step
  pub place : ℕ
  pub going : run handler given arrivals calls ≡ record { steps = steps; ending = GoesOn }
  pub tables : TablesStand given.options steps arrivals place m.queue m.ready m.slots
  pub completions : m.completions ≡ next_completion steps
  pub signals : m.signals ≡ next_signal steps
  pub requests : RequestsStand journal steps m.left m.written
  pub start : IsShown given.start journal m.start
  pub done : m.done ≡ requests_of steps
  pub children : m.children ≡ children_of given.options.implicit_cancellation steps
  -- what was taken of a child is an invocation id
  pub ids : list_all (λ child. is_id_if_known child.taken) m.children ≡ true
  pub reached : Reached handler given arrivals steps place

-- each completion comes once
abbrev pub ComesOnce : Handler → Invocation → List Arrival → Type 0
ComesOnce handler given arrivals =
    (made n : ℕ) → length (results_for (known_results (run handler given arrivals made).steps ++ arrivals) (CompletionId n)) ≤ 1

-- what has come by so many calls is of the kind that was asked for: for a child that a cancellation is passed on to an invocation id, and
-- state keys are text
pub record AreOfKind (handler : Handler) (given : Invocation) (arrivals : List Arrival) (calls : ℕ) : Type 0 where
  pub ids : (place n : ℕ) → place ≤ length arrivals → let steps = (run handler given arrivals calls).steps in
      list_any (λ m. m == n) (tracked_children given.options.implicit_cancellation steps) ≡ true
      → is_id_if_known (option_map as_taken (front given.options steps arrivals place (CompletionId n))) ≡ true
  pub keys : (id : NotificationId) (result : NotificationResult) → let steps = (run handler given arrivals calls).steps in
      front given.options steps arrivals (place_of steps) id ≡ Some result → are_keys_text result ≡ true

-- what is fed to an attempt: recorded requests that are a beginning of the run's over these arrivals; signals wait in line,
-- and each completion comes once, as an arrival or as the answer of a known read
pub record Fits (handler : Handler) (given : Invocation) (journal : List Request) (arrivals : List Arrival) : Type 0 where
  pub calls : ℕ
  pub beginning : IsBeginning journal (run_requests handler given arrivals calls)
  pub queued : given.options.signal_delivery ≡ Queued
  pub once : ComesOnce handler given arrivals

-- the next call of a run that goes on
abbrev pub next_call : Handler → Invocation → List Step → Call
next_call handler given steps = handler given.input (answers_of steps)

-- an answer that is the run's next one
pub record AnswersNext (handler : Handler) (given : Invocation) (journal : List Request) (arrivals : List Arrival) (calls : ℕ) (answer : Answer) (m : Machine) : Type 0 where
  pub stands : Stands handler given journal arrivals (suc calls) m
  pub answers : answers_of (run handler given arrivals (suc calls)).steps ≡ answers_of (run handler given arrivals calls).steps ++ answer ∷ []

-- the run over what was read waits, all its requests were matched or written, and what is left of the tree is what it waits for
-- (the machine's own tree: what code tells of its tree is compared with it as a set of children)
pub record WaitsWithRun (handler : Handler) (given : Invocation) (journal : List Request) (arrivals : List Arrival) (calls : ℕ) (tree : AwaitTree ℕ) (m : Machine) : Type 0 where
  pub stands : Stands handler given journal arrivals calls m
  pub ids : AwaitTree (Option NotificationId)
  pub waits : (run handler given arrivals (suc calls)).ending ≡ Waits ids
  pub exactly : run_requests handler given arrivals (suc calls) ≡ journal ++ m.written
  pub rest : map_leaves (stands_for (run handler given arrivals calls).steps) tree
      ≡ pruned ids (leaf_state given.options (run handler given arrivals calls).steps arrivals (place_of (run handler given arrivals calls).steps) (length arrivals))

-- the same where a cancellation waits for a child
pub record WaitsForChild (handler : Handler) (given : Invocation) (journal : List Request) (arrivals : List Arrival) (calls : ℕ) (child : ℕ) (m : Machine) : Type 0 where
  pub stands : Stands handler given journal arrivals calls m
  pub waits : (run handler given arrivals (suc calls)).ending ≡ Waits (Single (Some (CompletionId child)))
  pub exactly : run_requests handler given arrivals (suc calls) ≡ journal ++ m.written

-- the run has ended, with exactly these requests
pub record EndsWithRun (handler : Handler) (given : Invocation) (journal : List Request) (arrivals : List Arrival) (calls : ℕ) (m : Machine) : Type 0 where
  pub ended : (run handler given arrivals (suc calls)).ending ≡ Ended
  pub exactly : run_requests handler given arrivals (suc calls) ≡ journal ++ m.written

-- what a reply says, where the machine stood at so many calls
abbrev pub RepliesAsRun : Handler → Invocation → List Request → List Arrival → ℕ → Reply → Type 0
RepliesAsRun handler given journal arrivals calls (Answered answer m) = AnswersNext handler given journal arrivals calls answer m
RepliesAsRun handler given journal arrivals calls (AwaitsTree tree m) = WaitsWithRun handler given journal arrivals calls tree m
RepliesAsRun handler given journal arrivals calls (AwaitsChild child m) = WaitsForChild handler given journal arrivals calls child m
RepliesAsRun handler given journal arrivals calls (Finished m) = EndsWithRun handler given journal arrivals calls m
RepliesAsRun handler given journal arrivals calls (FailedBy Mismatch) = ⊥
RepliesAsRun handler given journal arrivals calls (FailedBy UncompletedInReplay) = ⊥
RepliesAsRun handler given journal arrivals calls (FailedBy EndInReplay) = ⊥
RepliesAsRun handler given journal arrivals calls (FailedBy KeysNotText) = ⊥
RepliesAsRun handler given journal arrivals calls (FailedBy ChildNotId) = ⊥
RepliesAsRun handler given journal arrivals calls (FailedBy (Refused refusal)) = (run handler given arrivals (suc calls)).ending ≡ RefusedCall refusal

-- a request is header-equal to itself
abbrev pub IsReflexive : (Request → Request → Bool) → Type 0
IsReflexive same_header = (request : Request) → same_header request request ≡ true

-- whatever the call leaves out of the comparison
abbrev pub AreReflexive : (Call → Request → Request → Bool) → Type 0
AreReflexive same_header = (call : Call) → IsReflexive (same_header call)

-- the machine stands at the beginning
abbrev pub BeginsStanding : Type 0
BeginsStanding = (handler : Handler) (given : Invocation) (start : StartState) (journal : List Request) (arrivals : List Arrival)
    → IsShown given.start journal start → Stands handler given journal arrivals 0 (machine_at_start start (map Some journal) arrivals)

-- and where one more arrival is read
abbrev pub ReadsStanding : Type 0
ReadsStanding = (handler : Handler) (given : Invocation) (journal : List Request) (arrivals : List Arrival) (arrival : Arrival) (calls : ℕ) (m : Machine)
    → Stands handler given journal arrivals calls m → Stands handler given journal (arrivals ++ arrival ∷ []) calls (with_arrival m arrival)

-- what is fed fits with more arrivals too, where no completion comes again
abbrev pub FitsOn : Type 0
FitsOn = (handler : Handler) (given : Invocation) (journal : List Request) (arrivals later : List Arrival)
    → Fits handler given journal arrivals → ComesOnce handler given (arrivals ++ later) → Fits handler given journal (arrivals ++ later)

-- where what has come by now is of its kind, each call is answered as the run answers it, and the machine stands behind it
abbrev pub Simulates : Type 0
Simulates = (same_header : Call → Request → Request → Bool) (handler : Handler) (given : Invocation) (journal : List Request) (arrivals : List Arrival) (calls : ℕ) (m : Machine)
    → AreReflexive same_header → Fits handler given journal arrivals → AreOfKind handler given arrivals calls → (stands : Stands handler given journal arrivals calls m)
    → RepliesAsRun handler given journal arrivals calls (reply_to same_header given m (next_call handler given stands.steps))

-- where a call is stopped midway, what was recorded and what was written are a beginning of the run's requests
abbrev pub StopsWithRun : Type 0
StopsWithRun = (same_header : Call → Request → Request → Bool) (handler : Handler) (given : Invocation) (journal : List Request) (arrivals : List Arrival) (calls : ℕ) (m : Machine)
    → AreReflexive same_header → Fits handler given journal arrivals → AreOfKind handler given arrivals calls → (stands : Stands handler given journal arrivals calls m) → (stopped : PutState)
    → StopsMidway same_header given m (next_call handler given stands.steps) stopped → BeginsRun handler given arrivals (journal ++ stopped.written)

-- what an await comes to that is asked for the first time: it wakes at the least place, or what is left of it is what the run waits for
pub record WakesAt (options : RunOptions) (steps : List Step) (arrivals : List Arrival) (slots : Slots) (ids : AwaitTree (Option NotificationId)) (queue : List Arrival) (ready : Ready) : Type 0 where
  pub place : ℕ
  pub least : awake_place options steps arrivals ids ≡ Some place
  pub stands : TablesStand options steps arrivals place queue ready slots

pub record StaysAsleep (options : RunOptions) (steps : List Step) (arrivals : List Arrival) (slots : Slots) (ids : AwaitTree (Option NotificationId)) (left : AwaitTree ℕ) (ready : Ready) : Type 0 where
  pub never : awake_place options steps arrivals ids ≡ None
  pub rest : map_leaves (stands_for steps) left ≡ pruned ids (leaf_state options steps arrivals (place_of steps) (length arrivals))
  pub stands : TablesStand options steps arrivals (length arrivals) [] ready slots

abbrev pub ResolvesAsDefined : RunOptions → List Step → List Arrival → Slots → AwaitTree (Option NotificationId) → Resolution → Type 0
ResolvesAsDefined options steps arrivals slots ids (Awake queue ready) = WakesAt options steps arrivals slots ids queue ready
ResolvesAsDefined options steps arrivals slots ids (Asleep left ready) = StaysAsleep options steps arrivals slots ids left ready

-- whatever replaces what, and however often a completion comes, where no more was looked at than the run has gone past
abbrev pub FirstAsksResolve : Type 0
FirstAsksResolve = (options : RunOptions) (steps : List Step) (arrivals queue : List Arrival) (ready : Ready) (slots : Slots)
    → TablesStand options steps arrivals (place_of steps) queue ready slots → (tree : AwaitTree ℕ)
    → ResolvesAsDefined options steps arrivals slots (awaited_ids options steps tree) (resolution_of options.signal_delivery slots (awaited_tree options.implicit_cancellation tree) queue ready)
