-- One attempt as a machine: what of the recorded requests it has to match still, what has come and was not looked at,
-- what waits to be taken, what handles stand for, and what it has written; and what a handler's call makes of it.
use Rattle.std.specs.Prelude.{◌≡◌, ℕ, ◌+◌, Bool, true, false, ◌&&◌, List, [], ◌∷◌, ◌++◌, length, map, Option, Some, None, is_some}
use Rattle.std.specs.List.{list_all}
use Rattle.journal_model.specs.declared.notification.NotificationResult.{NotificationResult}
use Rattle.journal_model.specs.Notification.{Arrival, cancel_id}
use Rattle.journal_model.specs.AwaitTree.{AwaitTree}
use Rattle.journal_model.specs.declared.call.Call.{Call}
use Rattle.journal_model.specs.declared.call.Answer.{Answer}
use Rattle.journal_model.specs.Value.{as_taken}
use Rattle.journal_model.specs.Request.{Request}
use Rattle.journal_model.specs.Refusal.{Refusal, refusal_of}
use Rattle.journal_model.specs.History.{completions_of, signals_of, ids_of, cancel_handle}
use Rattle.journal_model.specs.State.{StartState}
use Rattle.journal_model.specs.Delivery.{known_result}
use Rattle.journal_model.specs.Await.{child_of, awaited_tree, ends_awaits}
use Rattle.journal_model.specs.Run.{Invocation}
use Rattle.attempt_model.specs.Children.{Child, new_child, child_with_value, may_take, cancel_requests_for, ChildrenOutcome, AllKnown, FirstUnknown, OneIsNoId, children_outcome}
use Rattle.attempt_model.specs.Requests.{answer_by, Commands, requests_by, PutState, put_all}
use Rattle.attempt_model.specs.Results.{Ready, Slots, slot_of, waiting_for, ready_without_first, slots_without, Resolution, Awake, Asleep, resolution_of, ready_after_all, are_keys_text}

pub record Machine : Type 0 where
  -- the recorded commands that no call has matched yet; while there is one, the machine replays
  pub left : Commands
  -- the requests that it has written
  pub written : List Request
  -- the numbers of the next completion and of the next awakeable's signal
  pub completions : ℕ
  pub signals : ℕ
  -- the arrivals that were read and that no await has looked at, in their order
  pub queue : List Arrival
  pub ready : Ready
  pub slots : Slots
  -- the state that the start has shown, and the requests that were matched and written, which change it
  pub start : StartState
  pub done : List Request
  -- the children that a cancellation is passed on to
  pub children : List Child

-- before the first call, with what the start has shown, these recorded commands, and these arrivals between and behind them
abbrev pub machine_at_start : StartState → Commands → List Arrival → Machine
machine_at_start start commands arrivals = record {
  left = commands;
  written = [];
  completions = 1;
  signals = 17;
  queue = arrivals;
  ready = λ id. [];
  slots = [];
  start = start;
  done = [];
  children = [];
}

-- one more arrival is read: it waits in line
abbrev pub with_arrival : Machine → Arrival → Machine
with_arrival m arrival = record m { queue = m.queue ++ arrival ∷ [] }

-- what a call comes to
pub data Fault : Type 0 where
  Mismatch : Fault
  UncompletedInReplay : Fault
  EndInReplay : Fault
  -- a notification that is taken holds state keys that are no text
  KeysNotText : Fault
  -- what came for a child that a cancellation is passed on to is no invocation id
  ChildNotId : Fault
  Refused : Refusal → Fault

pub data Reply : Type 0 where
  Answered : Answer → Machine → Reply
  -- nothing is answered; what is left of the awaited tree is what is waited for
  AwaitsTree : AwaitTree ℕ → Machine → Reply
  -- a cancellation waits for the invocation id of this child alone
  AwaitsChild : ℕ → Machine → Reply
  Finished : Machine → Reply
  FailedBy : Fault → Reply

-- what there is to do at a call
pub data Work : Type 0 where
  ToAwait : AwaitTree ℕ → Work
  ToEnd : Work
  ToTake : ℕ → Work
  ToLook : ℕ → Work
  ToMake : Work

abbrev pub work_of : Call → Work
work_of (Call.Await tree) = ToAwait tree
work_of Call.End = ToEnd
work_of (Call.Take handle) = ToTake handle
work_of (Call.IsCompleted handle) = ToLook handle
work_of _ = ToMake

abbrev pub next_slot : Machine → ℕ
next_slot m = 17 + length m.slots

-- a take: what was first is taken, and its handle stands for nothing from then on
abbrev pub reply_where_taken : Machine → ℕ → NotificationResult → (keys_are_text is_id_of_child : Bool) → Reply
reply_where_taken m handle result false is_id_of_child = FailedBy KeysNotText
reply_where_taken m handle result true false = FailedBy ChildNotId
reply_where_taken m handle result true true =
    Answered (Answer.Taken (Some (as_taken result))) (record m {
      ready = ready_without_first m.ready (slot_of m.slots handle);
      slots = slots_without m.slots handle;
      children = map (child_with_value (slot_of m.slots handle) (as_taken result)) m.children;
    })

abbrev pub reply_to_take : Machine → ℕ → Option NotificationResult → Reply
reply_to_take m handle None = Answered (Answer.Taken None) m
reply_to_take m handle (Some result) = reply_where_taken m handle result (are_keys_text result) (list_all (may_take (slot_of m.slots handle) (as_taken result)) m.children)

-- whether a cancellation waits, and cancellations end awaits
abbrev pub is_cancelled : Invocation → Machine → Bool
is_cancelled invocation m = ends_awaits invocation.options.implicit_cancellation && is_some (waiting_for m.slots m.ready cancel_handle)

-- in replay an await that waits for a child fails; behind it, it waits for that child alone
abbrev pub reply_where_unknown : ℕ → Machine → Commands → Reply
reply_where_unknown child m [] = AwaitsChild child m
reply_where_unknown child m (command ∷ left) = FailedBy UncompletedInReplay

-- in replay an await that stays asleep fails; behind it, it waits
abbrev pub reply_where_asleep : AwaitTree ℕ → Machine → Commands → Reply
reply_where_asleep tree m [] = AwaitsTree tree m
reply_where_asleep tree m (command ∷ left) = FailedBy UncompletedInReplay

-- the end needs that nothing recorded is left
abbrev pub reply_to_end : Machine → Commands → Reply
reply_to_end m [] = Finished m
reply_to_end m (command ∷ left) = FailedBy EndInReplay

-- a cancellation that these requests have passed on: one delivery of it is taken, and the children are let go of
abbrev pub cancelled_by : List Request → PutState → Machine → Machine
cancelled_by requests put m = record m {
  left = put.left;
  written = put.written;
  ready = ready_without_first m.ready (Some cancel_id);
  done = m.done ++ requests;
  children = [];
}

module _ (same_header : Request → Request → Bool) (invocation : Invocation) where
  -- a call that makes handles or requests alone
  abbrev pub reply_to_make : Machine → Call → List Request → Option PutState → Reply
  reply_to_make m call requests None = FailedBy Mismatch
  reply_to_make m call requests (Some p) =
      Answered (answer_by invocation.input.invocation_id (next_slot m) m.signals call) (record {
        left = p.left;
        written = p.written;
        completions = m.completions + completions_of call;
        signals = m.signals + signals_of call;
        queue = m.queue;
        ready = ready_after_all invocation.options.signal_delivery m.ready (known_result m.completions requests);
        slots = m.slots ++ map Some (ids_of m.completions m.signals call);
        start = m.start;
        done = m.done ++ requests;
        children = m.children ++ map new_child (child_of invocation.options.implicit_cancellation m.completions call);
      })

  -- a cancellation: one request is made for each child
  abbrev pub reply_where_cancelled : Machine → List Request → Option PutState → Reply
  reply_where_cancelled m requests None = FailedBy Mismatch
  reply_where_cancelled m requests (Some put) = Answered Answer.Cancelled (cancelled_by requests put m)

  abbrev pub reply_to_children : Machine → ChildrenOutcome → Reply
  reply_to_children m (AllKnown queue ready) =
      reply_where_cancelled (record m { queue = queue; ready = ready }) (cancel_requests_for ready m.children)
      (put_all same_header (cancel_requests_for ready m.children) (record { left = m.left; written = m.written }))
  reply_to_children m (FirstUnknown child ready) = reply_where_unknown child (record m { queue = []; ready = ready }) m.left
  reply_to_children m OneIsNoId = FailedBy ChildNotId

  abbrev pub reply_where_awake : Machine → Bool → Reply
  reply_where_awake m false = Answered Answer.Woken m
  reply_where_awake m true = reply_to_children m (children_outcome invocation.options.signal_delivery m.children m.queue m.ready)

  abbrev pub reply_to_await : Machine → Resolution → Reply
  reply_to_await m (Awake queue ready) = reply_where_awake (record m { queue = queue; ready = ready }) (is_cancelled invocation (record m { queue = queue; ready = ready }))
  reply_to_await m (Asleep tree ready) = reply_where_asleep tree (record m { queue = []; ready = ready }) m.left

  abbrev pub reply_to_work : Machine → Call → Work → Reply
  reply_to_work m call (ToAwait tree) =
      reply_to_await m (resolution_of invocation.options.signal_delivery m.slots (awaited_tree invocation.options.implicit_cancellation tree) m.queue m.ready)
  reply_to_work m call ToEnd = reply_to_end m m.left
  reply_to_work m call (ToTake handle) = reply_to_take m handle (waiting_for m.slots m.ready handle)
  reply_to_work m call (ToLook handle) = Answered (Answer.Completed (is_some (waiting_for m.slots m.ready handle))) m
  reply_to_work m call ToMake =
      reply_to_make m call (requests_by m.start m.done m.left m.completions call)
      (put_all same_header (requests_by m.start m.done m.left m.completions call) (record { left = m.left; written = m.written }))

  abbrev pub reply_unless_refused : Machine → Call → Option Refusal → Reply
  reply_unless_refused m call (Some refusal) = FailedBy (Refused refusal)
  reply_unless_refused m call None = reply_to_work m call (work_of call)

-- what a handler's call makes of the machine; which parts of two requests have to be the same depends on the call
abbrev pub reply_to : (Call → Request → Request → Bool) → Invocation → Machine → Call → Reply
reply_to same_header invocation m call = reply_unless_refused (same_header call) invocation m call (refusal_of invocation.version call)

-- a call that is stopped midway, as by want of memory: a beginning of the requests that it would have put was matched or written
pub record StopsMidway (same_header : Call → Request → Request → Bool) (invocation : Invocation) (m : Machine) (call : Call) (stopped : PutState) : Type 0 where
  pub answer : Answer
  pub whole : Machine
  pub replies : reply_to same_header invocation m call ≡ Answered answer whole
  pub some : List Request
  pub others : List Request
  pub done : whole.done ≡ (m.done ++ some) ++ others
  pub puts : put_all (same_header call) some (record { left = m.left; written = m.written }) ≡ Some stopped
