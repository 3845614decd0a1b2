-- What handles stand for fits, call by call and in a run.
use Rattle.std.proofs.Common.{◌≡◌, ◌<◌, ◌≤◌, ◌+◌, ◌-◌, ◌^◌, ◌==◌, nat_lt, ℕ, zero, suc, arith, Bool, true, false, List, [], ◌∷◌, map, Option, Some, None, sym, ap, ◌∙◌, subst, slice_get, slice_set}
use Rattle.std.specs.Prelude.{if◌then◌else◌}
use Rattle.std.specs.List.{AllByRecursion, list_all, list_any}
use Rattle.journal_model.specs.declared.notification.NotificationId.{NotificationId}
use Rattle.journal_model.specs.declared.notification.NotificationResult.{NotificationResult}
use Rattle.journal_model.specs.declared.call.Call.{Call}
use Rattle.journal_model.specs.Notification.{cancel_id}
use Rattle.journal_model.specs.AwaitTree.{AwaitTree}
use Rattle.journal_model.specs.Await.{awaited_tree}
use Rattle.journal_model.specs.History.{Step, cancel_handle, completions_of, signals_of, next_completion, next_signal, ids_of, ids_created, id_of_handle, takes_handle, stands_for}
use Rattle.journal_model.specs.Refusal.{Refusal, refusal_of}
use Rattle.journal_model.specs.Request.{Request}
use Rattle.journal_model.specs.Run.{Invocation}
use Rattle.journal_model.specs.Value.{as_taken}
use Rattle.attempt_model.specs.Children.{ChildrenOutcome, AllKnown, FirstUnknown, OneIsNoId, children_outcome, cancel_requests_for, may_take}
use Rattle.attempt_model.specs.Requests.{Commands, PutState, put_all, requests_by}
use Rattle.attempt_model.specs.Results.{Slots, slot_in, slot_of, waiting_for, slots_without, Resolution, Awake, Asleep, resolution_of, are_keys_text}
use Rattle.attempt_model.specs.Machine.{Machine, Reply, Work, ToAwait, ToEnd, ToTake, ToLook, ToMake, work_of, is_cancelled, reply_to_take, reply_where_taken, reply_where_unknown, reply_where_asleep, reply_to_end, reply_to_make, reply_where_cancelled, reply_to_children, reply_where_awake, reply_to_await, reply_to_work, reply_unless_refused}
use Rattle.attempt_laws.proofs.Tables.{slot-high}
use Rattle.vm_request_laws.specs.Calls.{IsTypedCall}
use Rattle.vm_request_laws.specs.Trees.{IdFits, SlotsFit}
use Rattle.vm_request_laws.specs.Machines.{HasIds, LeavesMachine, CallsLeaveFitting, MachinesStandFitting, TreesStandFitting, MachinesFit}
use Rattle.vm_request_laws.proofs.RequestBounds.{all_append}
use Rattle.vm_request_laws.proofs.Handles.{FitsIfSome, chosen_fits, cancel_fits, handles_fit}

-- ---- the ids of a call

first_left : (n k : ℕ) → n + suc k ≤ 2 ^ 32 → n < 2 ^ 32
first_left n k h = omega (arith, h)

second_left : (n : ℕ) → n + 2 ≤ 2 ^ 32 → suc n < 2 ^ 32
second_left n h = omega (arith, h)

fewer_left : (n k : ℕ) → n + k ≤ 2 ^ 32 → n ≤ 2 ^ 32
fewer_left n k h = omega (arith, h)

ids_fit : (n signal : ℕ) (call : Call) → IsTypedCall call → n + completions_of call ≤ 2 ^ 32 → signal + signals_of call ≤ 2 ^ 32 → AllByRecursion IdFits (ids_of n signal call)
ids_fit n signal (Call.StateGet key name options) typed few some = (first_left n 0 few, tt)
ids_fit n signal (Call.StateGetKeys name) typed few some = (first_left n 0 few, tt)
ids_fit n signal (Call.Sleep name wake_up now) typed few some = (first_left n 0 few, tt)
ids_fit n signal (Call.Call target parameter name options) typed few some = (first_left n 1 few, (second_left n few, tt))
ids_fit n signal (Call.Send target parameter execution_time name options) typed few some = (first_left n 0 few, tt)
ids_fit n signal Call.Awakeable typed few some = (first_left signal 0 some, tt)
ids_fit n signal (Call.Signal name) typed few some = (typed, tt)
ids_fit n signal (Call.GetPromise key) typed few some = (first_left n 0 few, tt)
ids_fit n signal (Call.PeekPromise key) typed few some = (first_left n 0 few, tt)
ids_fit n signal (Call.CompletePromise key value options) typed few some = (first_left n 0 few, tt)
ids_fit n signal (Call.Run name) typed few some = (first_left n 0 few, tt)
ids_fit n signal (Call.Attach target) typed few some = (first_left n 0 few, tt)
ids_fit n signal (Call.GetOutput target) typed few some = (first_left n 0 few, tt)
ids_fit n signal _ typed few some = tt

-- ---- slots

new_slots : (ids : List NotificationId) → AllByRecursion IdFits ids → SlotsFit (map Some ids)
new_slots [] h = tt
new_slots (id ∷ ids) h = (h.0, new_slots ids h.1)

with_nothing : (slots : Slots) (place : ℕ) → SlotsFit slots → SlotsFit (slice_set slots place None)
with_nothing [] place h = tt
with_nothing (slot ∷ slots) zero h = (tt, h.1)
with_nothing (slot ∷ slots) (suc place) h = (h.0, with_nothing slots place h.1)

without : (slots : Slots) (handle : ℕ) → SlotsFit slots → SlotsFit (slots_without slots handle)
without slots handle h = go (handle == cancel_handle)
  where
    go : (b : Bool) → SlotsFit (if b then slots else slice_set slots (handle - 17) None)
    go true = h
    go false = with_nothing slots (handle - 17) h

-- ---- one call

abbrev After : Reply → Type 0
After reply = LeavesMachine (λ after. SlotsFit after.slots) reply

module _ (same : Request → Request → Bool) (given : Invocation) where
  made : (m : Machine) (call : Call) (requests : List Request) (put : Option PutState) → HasIds m call → SlotsFit m.slots → After (reply_to_make same given m call requests put)
  made m call requests None ids h = tt
  made m call requests (Some p) ids h =
      all_append FitsIfSome m.slots (map Some (ids_of m.completions m.signals call)) h
      (new_slots (ids_of m.completions m.signals call) (ids_fit m.completions m.signals call ids.typed ids.completions ids.signals))

  cancelled : (m : Machine) (requests : List Request) (put : Option PutState) → SlotsFit m.slots → After (reply_where_cancelled same given m requests put)
  cancelled m requests None h = tt
  cancelled m requests (Some p) h = h

  unknown : (child : ℕ) (m : Machine) (commands : Commands) → SlotsFit m.slots → After (reply_where_unknown child m commands)
  unknown child m [] h = h
  unknown child m (command ∷ commands) h = tt

  children : (m : Machine) (outcome : ChildrenOutcome) → SlotsFit m.slots → After (reply_to_children same given m outcome)
  children m (AllKnown queue ready) h =
      cancelled (record m { queue = queue; ready = ready }) (cancel_requests_for ready m.children)
      (put_all same (cancel_requests_for ready m.children) (record { left = m.left; written = m.written })) h
  children m (FirstUnknown child ready) h = unknown child (record m { queue = []; ready = ready }) m.left h
  children m OneIsNoId h = tt

  awake : (m : Machine) (is_cancelled : Bool) → SlotsFit m.slots → After (reply_where_awake same given m is_cancelled)
  awake m false h = h
  awake m true h = children m (children_outcome given.options.signal_delivery m.children m.queue m.ready) h

  asleep : (tree : AwaitTree ℕ) (m : Machine) (commands : Commands) → SlotsFit m.slots → After (reply_where_asleep tree m commands)
  asleep tree m [] h = h
  asleep tree m (command ∷ commands) h = tt

  awaited : (m : Machine) (resolution : Resolution) → SlotsFit m.slots → After (reply_to_await same given m resolution)
  awaited m (Awake queue ready) h = awake (record m { queue = queue; ready = ready }) (is_cancelled given (record m { queue = queue; ready = ready })) h
  awaited m (Asleep tree ready) h = asleep tree (record m { queue = []; ready = ready }) m.left h

  taken : (m : Machine) (handle : ℕ) (result : NotificationResult) (are_text may : Bool) → SlotsFit m.slots → After (reply_where_taken m handle result are_text may)
  taken m handle result false may h = tt
  taken m handle result true false h = tt
  taken m handle result true true h = without m.slots handle h

  asked : (m : Machine) (handle : ℕ) (waits : Option NotificationResult) → SlotsFit m.slots → After (reply_to_take m handle waits)
  asked m handle None h = h
  asked m handle (Some result) h = taken m handle result (are_keys_text result) (list_all (may_take (slot_of m.slots handle) (as_taken result)) m.children) h

  ended : (m : Machine) (commands : Commands) → SlotsFit m.slots → After (reply_to_end m commands)
  ended m [] h = h
  ended m (command ∷ commands) h = tt

  by_work : (m : Machine) (call : Call) (work : Work) → HasIds m call → SlotsFit m.slots → After (reply_to_work same given m call work)
  by_work m call (ToAwait tree) ids h =
      awaited m (resolution_of given.options.signal_delivery m.slots (awaited_tree given.options.implicit_cancellation tree) m.queue m.ready) h
  by_work m call ToEnd ids h = ended m m.left h
  by_work m call (ToTake handle) ids h = asked m handle (waiting_for m.slots m.ready handle) h
  by_work m call (ToLook handle) ids h = h
  by_work m call ToMake ids h =
      made m call (requests_by m.start m.done m.left m.completions call)
      (put_all same (requests_by m.start m.done m.left m.completions call) (record { left = m.left; written = m.written })) ids h

  unless_refused : (m : Machine) (call : Call) (refusal : Option Refusal) → HasIds m call → SlotsFit m.slots → After (reply_unless_refused same given m call refusal)
  unless_refused m call (Some refusal) ids h = tt
  unless_refused m call None ids h = by_work m call (work_of call) ids h

calls_fit : CallsLeaveFitting
calls_fit same_header given m call ids h = unless_refused (same_header call) given m call (refusal_of given.version call) ids h

-- ---- a run

created_fit : (steps : List Step) → AllByRecursion (λ step. IsTypedCall step.call) steps → next_completion steps ≤ 2 ^ 32 → next_signal steps ≤ 2 ^ 32 → AllByRecursion IdFits (ids_created steps)
created_fit [] typed few some = tt
created_fit (step ∷ earlier) typed few some =
    all_append IdFits (ids_created earlier) (ids_of (next_completion earlier) (next_signal earlier) step.call)
    (created_fit earlier typed.1 (fewer_left (next_completion earlier) (completions_of step.call) few) (fewer_left (next_signal earlier) (signals_of step.call) some))
    (ids_fit (next_completion earlier) (next_signal earlier) step.call typed.0 few some)

found_fits : (ids : List NotificationId) (place : ℕ) → AllByRecursion IdFits ids → FitsIfSome (slice_get ids place)
found_fits [] place h = tt
found_fits (id ∷ ids) zero h = h.0
found_fits (id ∷ ids) (suc place) h = found_fits ids place h.1

named_fits : (ids : List NotificationId) (handle : ℕ) → AllByRecursion IdFits ids → FitsIfSome (id_of_handle ids handle)
named_fits ids handle h =
    chosen_fits (handle == cancel_handle) (Some cancel_id) (if nat_lt handle 17 then None else slice_get ids (handle - 17)) cancel_fits
    (chosen_fits (nat_lt handle 17) None (slice_get ids (handle - 17)) tt (found_fits ids (handle - 17) h))

stands_fit : (steps : List Step) (handle : ℕ) → AllByRecursion IdFits (ids_created steps) → FitsIfSome (stands_for steps handle)
stands_fit steps handle h =
    chosen_fits (handle == cancel_handle) (Some cancel_id) (if list_any (takes_handle handle) steps then None else id_of_handle (ids_created steps) handle) cancel_fits
    (chosen_fits (list_any (takes_handle handle) steps) None (id_of_handle (ids_created steps) handle) tt (named_fits (ids_created steps) handle h))

each_fits : (slots : Slots) → ((place : ℕ) → FitsIfSome (slot_in (slice_get slots place))) → SlotsFit slots
each_fits [] all = tt
each_fits (slot ∷ slots) all = (all 0, each_fits slots (λ place. all (suc place)))

-- the handle of a place
at_place : (slots : Slots) (place : ℕ) → slot_of slots (17 + place) ≡ slot_in (slice_get slots place)
at_place slots place =
    let above : 17 ≤ 17 + place = omega arith in
    let back : 17 + place - 17 ≡ place = omega arith in
    slot-high slots (17 + place) above ∙ ap (λ (p : ℕ). slot_in (slice_get slots p)) back

machines_stand : MachinesStandFitting
machines_stand handler given journal arrivals calls m h =
    let few : next_completion h.stands.steps ≤ 2 ^ 32 = subst (λ (n : ℕ). n ≤ 2 ^ 32) h.stands.completions h.completions in
    let some : next_signal h.stands.steps ≤ 2 ^ 32 = subst (λ (n : ℕ). n ≤ 2 ^ 32) h.stands.signals h.signals in
    let created = created_fit h.stands.steps h.typed few some in
    each_fits m.slots (λ place. subst FitsIfSome (sym (h.stands.tables.handles (17 + place)) ∙ at_place m.slots place) (stands_fit h.stands.steps (17 + place) created))

trees_stand : TreesStandFitting
trees_stand handler given journal arrivals calls m tree h numbers = handles_fit m.slots tree (machines_stand handler given journal arrivals calls m h) numbers

pub machines_fit : MachinesFit
machines_fit = record { calls = calls_fit; machines = machines_stand; trees = trees_stand }
