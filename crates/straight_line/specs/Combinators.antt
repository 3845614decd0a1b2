-- Waiting for several at once, as steps.
use Rattle.std.specs.Prelude.{ℕ, ◌+◌, nat_le, nat_eq, if◌then◌else◌, List, [], ◌∷◌, ◌++◌, length, map, Option, Some, None, unwrap_or, Result, Ok, Err, codes}
use Rattle.journal_model.specs.Notification.{Bytes}
use Rattle.journal_model.specs.AwaitTree as Trees
use Rattle.journal_model.specs.Future.{node}
use Rattle.journal_model.specs.declared.call.Moment.{Moment}
use Rattle.journal_model.specs.declared.value.TerminalFailure.{TerminalFailure}
use Rattle.straight_line.specs.declared.handles.DurableFuture.{DurableFuture}
use Rattle.straight_line.specs.declared.combinators.Combinator.{Combinator}
use Rattle.straight_line.specs.declared.gathered.Gathered.{Gathered}
use Rattle.straight_line.specs.Steps.{Steps, ◌>>=◌, ◌>>◌, done, fail, or_fail}
use Rattle.straight_line.specs.Calls as told
use Rattle.straight_line.specs.Everyday.{value_of}

-- how a node combines its children
abbrev pub combines : Combinator → Trees.Combinator
combines Combinator.FirstCompleted = Trees.FirstCompleted
combines Combinator.AllCompleted = Trees.AllCompleted
combines Combinator.FirstSucceededOrAllFailed = Trees.FirstSucceededOrAllFailed
combines Combinator.AllSucceededOrFirstFailed = Trees.AllSucceededOrFirstFailed
combines (Combinator.AtLeast required) = Trees.AtLeast required

-- the tree over these handles
abbrev pub tree_over : Combinator → List ℕ → Trees.AwaitTree ℕ
tree_over combinator handles = node (combines combinator) (map Trees.Single handles)

unfoldable pub wait_until : Combinator → List ℕ → Steps Unit
wait_until combinator handles = told.wait_for (tree_over combinator handles)

-- the place of the first that has come, of handles from a place on; where none has, the place behind them
unfoldable pub first_come : ℕ → List ℕ → Steps ℕ
first_come place [] = done place
first_come place (handle ∷ handles) = do
  has_come ← told.is_completed handle
  if has_come then done place else first_come (place + 1) handles

unfoldable pub race : List ℕ → Steps ℕ
race handles = do
  wait_until Combinator.FirstCompleted handles
  first_come 0 handles

unfoldable pub timed_out : TerminalFailure
timed_out = record { code = 408; message = codes "timed out"; metadata = [] }

unfoldable pub or_timeout : DurableFuture → Moment → Steps Bytes
or_timeout outcome wake_up = do
  timer ← told.begin_sleep wake_up []
  place ← race (outcome.handle ∷ timer.handle ∷ [])
  if nat_eq place 0 then value_of outcome else fail timed_out

-- the values of those that have come, and the first failure among them
abbrev pub nothing : Gathered
nothing = record { values = []; failure = None }

abbrev pub noted : Gathered → Result Bytes TerminalFailure → Gathered
noted gathered (Ok value) = record { values = gathered.values ++ value ∷ []; failure = gathered.failure }
noted gathered (Err failure) = record { values = gathered.values; failure = Some (unwrap_or gathered.failure failure) }

-- one more is looked at, and taken if it has come, unless there are so many values
unfoldable pub one_more : ℕ → Gathered → ℕ → Steps Gathered
one_more required gathered handle =
    if nat_le required (length gathered.values)
    then done gathered
    else (do
      has_come ← told.is_completed handle
      if has_come
          then (do
            brought ← told.take_outcome handle
            done (noted gathered brought))
          else done gathered)

-- all are looked at, in their order
unfoldable pub gather : ℕ → Gathered → List ℕ → Steps Gathered
gather required gathered [] = done gathered
gather required gathered (handle ∷ handles) = do
  next ← one_more required gathered handle
  gather required next handles

unfoldable pub too_few : TerminalFailure
too_few = record { code = 500; message = codes "too few have succeeded"; metadata = [] }

-- so many values, or why there are fewer
abbrev pub enough : ℕ → Gathered → Result (List Bytes) TerminalFailure
enough required gathered = if nat_le required (length gathered.values) then Ok gathered.values else Err (unwrap_or gathered.failure too_few)

-- waits, and gives so many values of those that have come
unfoldable pub values_over : Combinator → ℕ → List ℕ → Steps (List Bytes)
values_over combinator required handles = do
  wait_until combinator handles
  gathered ← gather required nothing handles
  or_fail (enough required gathered)

abbrev pub handles_of : List DurableFuture → List ℕ
handles_of outcomes = map (λ outcome. outcome.handle) outcomes

unfoldable pub all : List DurableFuture → Steps (List Bytes)
all outcomes = values_over Combinator.AllSucceededOrFirstFailed (length outcomes) (handles_of outcomes)

unfoldable pub at_least : ℕ → List DurableFuture → Steps (List Bytes)
at_least required outcomes = values_over (Combinator.AtLeast required) required (handles_of outcomes)

abbrev pub first_of : List Bytes → Steps Bytes
first_of [] = fail too_few
first_of (value ∷ values) = done value

unfoldable pub first_succeeded : List DurableFuture → Steps Bytes
first_succeeded outcomes = do
  values ← values_over Combinator.FirstSucceededOrAllFailed 1 (handles_of outcomes)
  first_of values
