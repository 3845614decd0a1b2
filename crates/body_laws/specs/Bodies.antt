-- The bodies of runs in an attempt: which are to be executed, which are being executed, and which outcomes are to be acknowledged; and what
-- calls, proposals and acknowledgements make of them, beside the machine that knows of none.
use Rattle.std.specs.Prelude.{ℕ, ◌==◌, Bool, false, not, ◌&&◌, ◌||◌, if◌then◌else◌, List, [], ◌∷◌, ◌++◌, Option, Some, None, is_some, option_map}
use Rattle.std.specs.List.{list_any, find}
use Rattle.protocol_types.specs.Feature.{has_feature}
use Rattle.protocol_types.specs.declared.feature.Feature.TheVariants.{Acknowledgement}
use Rattle.journal_model.specs.declared.notification.NotificationId.TheVariants.{CompletionId}
use Rattle.journal_model.specs.declared.value.NonEmptyValue.{NonEmptyValue}
use Rattle.journal_model.specs.Notification.{Arrival}
use Rattle.journal_model.specs.AwaitTree.{AwaitTree, Single, Combined, AwaitTrees, no_trees, and_trees}
use Rattle.journal_model.specs.declared.call.Call.{Call}
use Rattle.journal_model.specs.declared.call.Answer.{Answer}
use Rattle.journal_model.specs.Value.{result_of_value}
use Rattle.journal_model.specs.Request.{Request}
use Rattle.journal_model.specs.History.{Step, next_completion, next_handle}
use Rattle.journal_model.specs.Journal.{completes, completion}
use Rattle.journal_model.specs.Run.{Invocation}
use Rattle.attempt_model.specs.Machine.{Machine, with_arrival, next_slot, Fault, Reply, Answered, AwaitsTree, AwaitsChild, Finished, FailedBy, reply_to}
use Rattle.attempt_model.specs.Results.{first_waiting_result}

-- the body of a run: the handle that its call was given, and the completion by which its outcome comes
pub record Body : Type 0 where
  pub handle : ℕ
  pub completion : ℕ

-- a machine with its bodies
pub record Executor : Type 0 where
  pub machine : Machine
  -- the bodies that are to be executed, in the order of their calls
  pub left : List Body
  -- those that were handed out, whose outcomes are to be proposed
  pub executing : List Body
  -- by completion, the outcomes that were proposed and are to be acknowledged
  pub cached : ℕ → Option NonEmptyValue

-- one that was asked nothing
abbrev pub executor_over : Machine → Executor
executor_over m = record { machine = m; left = []; executing = []; cached = λ n. None }

abbrev pub is_body : Body → Body → Bool
is_body body other = (body.handle == other.handle) && (body.completion == other.completion)

-- bodies without the first one that is this
abbrev pub without_body : Body → List Body → List Body
without_body body [] = []
without_body body (other ∷ others) = if is_body body other then others else other ∷ without_body body others

-- ---- what comes

abbrev pub reads_arrival : Executor → Arrival → Executor
reads_arrival e arrival = record e { machine = with_arrival e.machine arrival }

-- an outcome is acknowledged, which was cached: it comes
abbrev pub reads_outcome : Executor → ℕ → NonEmptyValue → Executor
reads_outcome e n value = record {
  machine = with_arrival e.machine (completion n (result_of_value value));
  left = e.left;
  executing = e.executing;
  cached = λ k. if k == n then None else e.cached k;
}

-- none where no outcome was cached
abbrev pub after_acknowledgement : Executor → ℕ → Option Executor
after_acknowledgement e n = option_map (reads_outcome e n) (e.cached n)

-- ---- calls

-- whether something has come for a completion, looked at or not
abbrev pub has_come : Machine → ℕ → Bool
has_come m n = list_any (completes n) m.queue || is_some (first_waiting_result (m.ready (CompletionId n)))

-- the body of a call, by the next handle and completion, if it is one of a run
abbrev pub bodies_of_call : (handle n : ℕ) → Call → List Body
bodies_of_call handle n (Call.Run name) = record { handle = handle; completion = n } ∷ []
bodies_of_call handle n _ = []

-- the body that a call leaves to be executed: none where the outcome has come
abbrev pub bodies_left : Machine → Call → List Body
bodies_left m call = if has_come m m.completions then [] else bodies_of_call (next_slot m) m.completions call

-- whether a handle is a leaf of what is awaited
abbrev mutual
  pub has_handle : ℕ → AwaitTree ℕ → Bool
  has_handle handle (Single leaf) = leaf == handle
  has_handle handle (Combined combinator children) = some_has_handle handle children

  pub some_has_handle : ℕ → AwaitTrees ℕ → Bool
  some_has_handle handle no_trees = false
  some_has_handle handle (and_trees tree trees) = has_handle handle tree || some_has_handle handle trees

-- the first of the bodies that is awaited: the one with the least handle
abbrev pub body_awaited : AwaitTree ℕ → List Body → Option Body
body_awaited tree bodies = find (λ body. has_handle body.handle tree) bodies

-- what a call comes to
pub data ExecutorReply : Type 0 where
  Answers : Answer → Executor → ExecutorReply
  -- nothing is answered: this body of what is left of the awaited tree is to be executed now
  Executes : Body → Executor → ExecutorReply
  -- what is left of the tree is waited for, of which no body is to be executed
  AwaitsTreeOf : AwaitTree ℕ → Executor → ExecutorReply
  AwaitsChildOf : ℕ → Executor → ExecutorReply
  Finishes : Executor → ExecutorReply
  Fails : Fault → ExecutorReply

-- a body is handed out
abbrev pub handing_out : Executor → Body → Executor
handing_out e body = record { machine = e.machine; left = without_body body e.left; executing = e.executing ++ body ∷ []; cached = e.cached }

abbrev pub executes_or_awaits : AwaitTree ℕ → Executor → Option Body → ExecutorReply
executes_or_awaits tree e None = AwaitsTreeOf tree e
executes_or_awaits tree e (Some body) = Executes body (handing_out e body)

-- an await that waits executes a body that it waits for; all other replies are the machine's
abbrev pub reply_after : Executor → Call → Reply → ExecutorReply
reply_after e call (Answered answer m) = Answers answer (record { machine = m; left = e.left ++ bodies_left e.machine call; executing = e.executing; cached = e.cached })
reply_after e call (AwaitsTree tree m) = executes_or_awaits tree (record e { machine = m }) (body_awaited tree e.left)
reply_after e call (AwaitsChild child m) = AwaitsChildOf child (record e { machine = m })
reply_after e call (Finished m) = Finishes (record e { machine = m })
reply_after e call (FailedBy fault) = Fails fault

abbrev pub executor_reply : (Call → Request → Request → Bool) → Invocation → Executor → Call → ExecutorReply
executor_reply same_header invocation e call = reply_after e call (reply_to same_header invocation e.machine call)

-- whether a body of what is waited for is being executed: its outcome is to be proposed first
abbrev pub is_executing : AwaitTree ℕ → Executor → Bool
is_executing tree e = list_any (λ body. has_handle body.handle tree) e.executing

-- whether the attempt suspends: its input is closed, and nothing that is waited for is to be proposed still
abbrev pub suspends : (is_closed : Bool) → ExecutorReply → Bool
suspends is_closed (AwaitsTreeOf tree e) = is_closed && not (is_executing tree e)
suspends is_closed (AwaitsChildOf child e) = is_closed
suspends is_closed _ = false

-- ---- outcomes

-- whether outcomes are acknowledged: they come as notifications before
abbrev pub acknowledges : ℕ → Bool
acknowledges version = has_feature version Acknowledgement

-- the outcome of a body is proposed, and cached where it is to be acknowledged
abbrev pub proposing : ℕ → Executor → Body → NonEmptyValue → Executor
proposing version e body value = record {
  machine = e.machine;
  left = without_body body e.left;
  executing = without_body body e.executing;
  cached = λ k. if acknowledges version && (k == body.completion) then Some value else e.cached k;
}

-- ---- the bodies of the run

-- the bodies of all runs that these steps have called, in order
abbrev pub bodies_of : List Step → List Body
bodies_of [] = []
bodies_of (step ∷ earlier) = bodies_of earlier ++ bodies_of_call (next_handle earlier) (next_completion earlier) step.call
