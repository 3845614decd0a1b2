-- What a call that stops midway has put is a beginning of what the abstract machine puts where it answers it.
use Rattle.std.proofs.Common.{◌≡◌, ℕ, Bool, true, false, List, [], ◌∷◌, ◌++◌, append_assoc, append-nil, Option, Some, None, sym, ap, ◌∙◌}
use Rattle.journal_model.specs.Await.{awaited_tree}
use Rattle.journal_model.specs.AwaitTree.{AwaitTree}
use Rattle.journal_model.specs.Refusal.{Refusal, refusal_of}
use Rattle.journal_model.specs.Request.{Request}
use Rattle.journal_model.specs.Run.{Invocation}
use Rattle.journal_model.specs.declared.call.Answer.{Answer}
use Rattle.journal_model.specs.declared.call.Call.{Call}
use Rattle.journal_model.specs.declared.notification.NotificationResult.{NotificationResult}
use Rattle.attempt_model.specs.Children.{ChildrenOutcome, AllKnown, FirstUnknown, OneIsNoId, children_outcome, cancel_requests_for}
use Rattle.attempt_model.specs.Machine.{Machine, Reply, Answered, Work, ToAwait, ToEnd, ToTake, ToLook, ToMake, work_of, is_cancelled, reply_where_taken, reply_to_take, reply_where_unknown, reply_where_asleep, reply_to_end, reply_to_make, reply_where_cancelled, reply_to_children, reply_where_awake, reply_to_await, reply_to_work, reply_unless_refused, StopsMidway}
use Rattle.attempt_model.specs.Requests.{Commands, PutState, put_all, requests_by}
use Rattle.attempt_model.specs.Results.{Resolution, Awake, Asleep, resolution_of, waiting_for}
use Rattle.vm_commands.specs.HeaderEquality.{same_header}
use Rattle.vm_machine.specs.Calls.{checks_off}
use Rattle.vm_machine.specs.declared.machine_state.MachineState.{MachineState}
use Rattle.vm_outcomes.specs.DrivenMachine.{reply_of}
use Rattle.vm_outcomes.specs.PartialCalls.{children_requests, awake_requests, await_requests, unless_refused, requests_at, HasPut}

-- what was matched and written by a machine that answers
abbrev done_by : Reply → List Request
done_by (Answered answer whole) = whole.done
done_by _ = []

same_done : (answer other : Answer) (m whole : Machine) → Answered answer m ≡ Answered other whole → whole.done ≡ m.done
same_done answer other m whole same = sym (ap done_by same)

unknown_unanswered : {A : Type 0} (child : ℕ) (m whole : Machine) (answer : Answer) (left : Commands) → reply_where_unknown child m left ≡ Answered answer whole → A
unknown_unanswered child m whole answer [] same = cc
unknown_unanswered child m whole answer (command ∷ left) same = cc

asleep_unanswered : {A : Type 0} (tree : AwaitTree ℕ) (m whole : Machine) (answer : Answer) (left : Commands) → reply_where_asleep tree m left ≡ Answered answer whole → A
asleep_unanswered tree m whole answer [] same = cc
asleep_unanswered tree m whole answer (command ∷ left) same = cc

end_unanswered : {A : Type 0} (m whole : Machine) (answer : Answer) (left : Commands) → reply_to_end m left ≡ Answered answer whole → A
end_unanswered m whole answer [] same = cc
end_unanswered m whole answer (command ∷ left) same = cc

module _ (headers : Request → Request → Bool) (given : Invocation) (answer : Answer) (whole : Machine) where
  cancelled_done : (m : Machine) (requests : List Request) (put : Option PutState) → reply_where_cancelled headers given m requests put ≡ Answered answer whole → whole.done ≡ m.done ++ requests
  cancelled_done m requests None same = cc
  cancelled_done m requests (Some put) same = sym (ap done_by same)

  children_done : (m : Machine) (outcome : ChildrenOutcome) → reply_to_children headers given m outcome ≡ Answered answer whole → whole.done ≡ m.done ++ children_requests m.children outcome
  children_done m (AllKnown queue ready) same =
      cancelled_done (record m { queue = queue; ready = ready }) (cancel_requests_for ready m.children) (put_all headers (cancel_requests_for ready m.children) (record { left = m.left; written = m.written })) same
  children_done m (FirstUnknown child ready) same = unknown_unanswered child (record m { queue = []; ready = ready }) whole answer m.left same
  children_done m OneIsNoId same = cc

  awake_done : (m : Machine) (cancelled : Bool) → reply_where_awake headers given m cancelled ≡ Answered answer whole → whole.done ≡ m.done ++ awake_requests given m cancelled
  awake_done m false same = same_done Answer.Woken answer m whole same ∙ sym (append-nil m.done)
  awake_done m true same = children_done m (children_outcome given.options.signal_delivery m.children m.queue m.ready) same

  await_done : (m : Machine) (resolution : Resolution) → reply_to_await headers given m resolution ≡ Answered answer whole → whole.done ≡ m.done ++ await_requests given m resolution
  await_done m (Awake queue ready) same = awake_done (record m { queue = queue; ready = ready }) (is_cancelled given (record m { queue = queue; ready = ready })) same
  await_done m (Asleep tree ready) same = asleep_unanswered tree (record m { queue = []; ready = ready }) whole answer m.left same

  -- ---- by what there is to do

  abbrev Behind : Machine → List Request → Type 0
  Behind m front = (others : List Request) × (whole.done ≡ (m.done ++ front) ++ others)

  none_in_front : (m : Machine) (front behind others : List Request) → [] ≡ front ++ behind → whole.done ≡ m.done ++ others → Behind m front
  none_in_front m [] behind others parts is = (others, is ∙ ap (λ (done : List Request). done ++ others) (sym (append-nil m.done)))
  none_in_front m (request ∷ front) behind others parts is = cc

  unchanged : (m : Machine) (front behind : List Request) → [] ≡ front ++ behind → whole.done ≡ m.done → Behind m front
  unchanged m front behind parts is = none_in_front m front behind [] parts (is ∙ sym (append-nil m.done))

  made_done : (m : Machine) (call : Call) (requests : List Request) (put : Option PutState) → reply_to_make headers given m call requests put ≡ Answered answer whole → whole.done ≡ m.done ++ requests
  made_done m call requests None same = cc
  made_done m call requests (Some put) same = sym (ap done_by same)

  taken_done : (m : Machine) (handle : ℕ) (result : NotificationResult) (text id : Bool) → reply_where_taken m handle result text id ≡ Answered answer whole → whole.done ≡ m.done
  taken_done m handle result false id same = cc
  taken_done m handle result true false same = cc
  taken_done m handle result true true same = sym (ap done_by same)

  take_done : (m : Machine) (handle : ℕ) (first : Option NotificationResult) → reply_to_take m handle first ≡ Answered answer whole → whole.done ≡ m.done
  take_done m handle None same = sym (ap done_by same)
  take_done m handle (Some result) same = taken_done m handle result _ _ same

  work_done : (m : Machine) (call : Call) (work : Work) (front behind : List Request) → requests_at given m work ≡ front ++ behind → reply_to_work headers given m call work ≡ Answered answer whole → Behind m front
  work_done m call (ToAwait tree) front behind parts same = by_refusal (refusal_of given.version (Call.Await tree)) parts
    where
      resolution : Resolution
      resolution = resolution_of given.options.signal_delivery m.slots (awaited_tree given.options.implicit_cancellation tree) m.queue m.ready

      by_refusal : (refusal : Option Refusal) → unless_refused refusal (await_requests given m resolution) ≡ front ++ behind → Behind m front
      by_refusal None is = (behind, await_done m resolution same ∙ ap (λ (requests : List Request). m.done ++ requests) is ∙ sym (append_assoc m.done front behind))
      by_refusal (Some refusal) is = none_in_front m front behind (await_requests given m resolution) is (await_done m resolution same)
  work_done m call ToEnd front behind parts same = end_unanswered m whole answer m.left same
  work_done m call (ToTake handle) front behind parts same = unchanged m front behind parts (take_done m handle (waiting_for m.slots m.ready handle) same)
  work_done m call (ToLook handle) front behind parts same = unchanged m front behind parts (sym (ap done_by same))
  work_done m call ToMake front behind parts same =
      none_in_front m front behind (requests_by m.start m.done m.left m.completions call) parts (made_done m call (requests_by m.start m.done m.left m.completions call) _ same)

  unrefused_done : (m : Machine) (call : Call) (refusal : Option Refusal) (front behind : List Request) → requests_at given m (work_of call) ≡ front ++ behind
      → reply_unless_refused headers given m call refusal ≡ Answered answer whole → Behind m front
  unrefused_done m call (Some refusal) front behind parts same = cc
  unrefused_done m call None front behind parts same = work_done m call (work_of call) front behind parts same

-- where the call would have been answered, it is stopped midway
pub stops_midway : (given : Invocation) (m : Machine) (call : Call) (vm : MachineState) (far : HasPut given m call vm) (answer : Answer) (whole : Machine)
    → reply_of vm given m call ≡ Answered answer whole → StopsMidway (same_header (checks_off vm.options.non_determinism_checks)) given m call far.put
stops_midway given m call vm far answer whole replies =
    let behind = unrefused_done (same_header (checks_off vm.options.non_determinism_checks) call) given answer whole m call (refusal_of given.version call) far.front far.behind far.parts replies in
    record { answer = answer; whole = whole; replies = replies; some = far.front; others = behind.0; done = behind.1; puts = far.puts }
