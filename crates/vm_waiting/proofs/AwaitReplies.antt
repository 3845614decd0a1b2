-- What an await comes to, as the abstract machine's reply.
use Rattle.std.proofs.Common.{◌≡◌, inl, inr, refl, sym, ap, ◌∙◌, subst, ℕ, Bool, true, false, ◌&&◌, List, [], ◌∷◌, is_some, Option, None, Result, Ok, Err}
use Rattle.journal_model.specs.declared.call.Call.{Call}
use Rattle.journal_model.specs.declared.options.ImplicitCancellationOption.{ImplicitCancellationOption}
use Rattle.journal_model.specs.declared.options.SignalDelivery.{SignalDelivery}
use Rattle.journal_model.specs.Notification.{Arrival}
use Rattle.journal_model.specs.AwaitTree.{AwaitTree}
use Rattle.journal_model.specs.Future.{tree_of}
use Rattle.journal_model.specs.History.{cancel_handle}
use Rattle.journal_model.specs.Await.{ends_awaits, awaited_tree}
use Rattle.journal_model.specs.Request.{Request}
use Rattle.journal_model.specs.Run.{Invocation}
use Rattle.journal_model.specs.declared.future.UnresolvedFuture.{UnresolvedFuture}
use Rattle.attempt_model.specs.Children.{Child, ChildrenOutcome, children_outcome}
use Rattle.attempt_model.specs.Requests.{Commands}
use Rattle.attempt_model.specs.Results.{Ready, Slots, waiting_for, Resolution, resolution_of}
use Rattle.journal_model.specs.Refusal.{Refusal, refusal_of}
use Rattle.attempt_model.specs.Machine.{Machine, Reply, FailedBy, UncompletedInReplay, ChildNotId, is_cancelled, reply_where_asleep, reply_where_unknown, reply_where_awake, reply_to_children, reply_to_await, reply_unless_refused, reply_to}
use Rattle.vm_awaits.specs.Views.{AsyncResults, results_of}
use Rattle.vm_awaits.specs.FutureResolution.{resolution_as}
use Rattle.vm_awaits.specs.declared.resolving.ResolveFutureResult.{ResolveFutureResult}
use Rattle.vm_awaits.specs.declared.resolving.ResolveFutureResult.TheVariants as resolved
use Rattle.vm_commands.specs.HeaderEquality.{same_header}
use Rattle.vm_calls.specs.declared.active.Active.{Active}
use Rattle.vm_calls.specs.Active.{Sees, has_left}
use Rattle.vm_waiting.specs.declared.awaiting.Awaited.{Awaited}
use Rattle.vm_waiting.specs.declared.awaiting.Awaited.TheVariants.{AnyCompleted}
use Rattle.vm_waiting.specs.declared.awaiting.AwaitError.{AwaitError}
use Rattle.vm_waiting.specs.declared.awaiting.AwaitError.TheVariants as unawaited
use Rattle.vm_waiting.specs.declared.children.ChildrenKnown.{ChildrenKnown}
use Rattle.vm_waiting.specs.declared.children.ChildrenKnown.TheVariants as known
use Rattle.vm_waiting.specs.declared.waits_for.WaitsFor.{WaitsFor}
use Rattle.vm_waiting.specs.declared.waits_for.WaitsFor.TheVariants.{Future, Child as OfChild}
use Rattle.vm_waiting.specs.AwaitSteps.{is_cancelled_in, LooksAlone, asleep_as, PassesOnBy, RunsOut, PassesOn, WakesBy, Resolves, GoesOnBy, AwaitComesTo, Awaits, AwaitsSeen}
use Rattle.vm_waiting.specs.ChildCancellation.{outcome_as, LooksFor}
use Rattle.vm_waiting.specs.WaitsFor.{waits_as}
use Rattle.vm_waiting.proofs.Seeing.{seen_as, still_sees}
use Rattle.vm_waiting.proofs.CancelReplies.{cancels_as}

-- ---- what is seen where something was looked at

abbrev pub looked_as : Machine → AsyncResults → Machine
looked_as m results = record m { queue = results.queue; ready = results.ready }

module _ (given : Invocation) (m : Machine) (old looked : Active) (sees : Sees given old m) (others : LooksAlone old looked)
    (delivery : (results_of looked.results).delivery ≡ (results_of old.results).delivery) (slots : (results_of looked.results).slots ≡ (results_of old.results).slots) where
  slots_are : (results_of looked.results).slots ≡ m.slots
  slots_are = slots ∙ ap (λ (r : AsyncResults). r.slots) sees.results

  results_are : results_of looked.results ≡ seen_as given (results_of looked.results).queue (results_of looked.results).ready m.slots
  results_are =
      let middle = results_of looked.results in
      ap (λ (d : SignalDelivery). record middle { delivery = d }) (delivery ∙ ap (λ (r : AsyncResults). r.delivery) sees.results)
      ∙ ap (λ (s : Slots). seen_as given middle.queue middle.ready s) slots_are

  sees_looked : Sees given looked (looked_as m (results_of looked.results))
  sees_looked = still_sees given m old looked sees others (results_of looked.results).queue (results_of looked.results).ready m.slots results_are

  -- nothing is left in line
  sees_none : (results_of looked.results).queue ≡ [] → Sees given looked (record m { queue = []; ready = (results_of looked.results).ready })
  sees_none none = still_sees given m old looked sees others [] (results_of looked.results).ready m.slots
      (results_are ∙ ap (λ (queue : List Arrival). seen_as given queue (results_of looked.results).ready m.slots) none)

-- ---- one that stays asleep

abbrev stays : WaitsFor → Machine → Commands → Reply
stays waits machine [] = waits_as waits machine
stays waits machine (command ∷ left) = FailedBy UncompletedInReplay

stays_of_tree : (left : UnresolvedFuture) (machine : Machine) (commands : Commands) → reply_where_asleep (tree_of left) machine commands ≡ stays (Future left) machine commands
stays_of_tree left machine [] = refl
stays_of_tree left machine (command ∷ commands) = refl

stays_of_child : (n : ℕ) (machine : Machine) (commands : Commands) → reply_where_unknown n machine commands ≡ stays (OfChild n) machine commands
stays_of_child n machine [] = refl
stays_of_child n machine (command ∷ commands) = refl

module _ (checks_off : Bool) (given : Invocation) (m : Machine) (tree : AwaitTree ℕ) (old : Active) (unrefused : refusal_of given.version (Call.Await tree) ≡ None) where
  abbrev reply : Reply
  reply = reply_to (same_header checks_off) given m (Call.Await tree)

  abbrev headers : Request → Request → Bool
  headers = same_header checks_off (Call.Await tree)

  sleeps : (waits : WaitsFor) (machine : Machine) (new : Active) (left : Commands) (replaying : Bool) → replaying ≡ has_left left → reply ≡ stays waits machine left → Sees given new machine → machine.written ≡ m.written
      → Awaits checks_off given m tree old (asleep_as replaying waits) new
  sleeps waits machine new [] replaying is replies sees written =
      subst (λ (b : Bool). Awaits checks_off given m tree old (asleep_as b waits) new) (sym is) (record { machine = machine; replies = replies; sees = sees; written = written })
  sleeps waits machine new (command ∷ left) replaying is replies sees written =
      subst (λ (b : Bool). Awaits checks_off given m tree old (asleep_as b waits) new) (sym is) replies

  -- what is answered, and what stands then, are these
  answers_so : (result other : Result Awaited AwaitError) (new last : Active) → result ≡ other → last ≡ new → Awaits checks_off given m tree old other new → Awaits checks_off given m tree old result last
  answers_so result other new last is same answers =
      subst (λ (r : Result Awaited AwaitError). Awaits checks_off given m tree old r last) (sym is) (subst (λ (a : Active). Awaits checks_off given m tree old other a) (sym same) answers)

  runs_out : (between new : Active) (result : Result Awaited AwaitError) → between.output ≡ old.output → RunsOut between result new → Awaits checks_off given m tree old result new
  runs_out between new result unwritten out =
      answers_so result (Err unawaited.OutOfMemory) new new out.0 refl (inl (ap (λ (a : Active). a.output) out.1 ∙ unwritten))

  -- ---- a cancellation ends it

  module _ (queue : List Arrival) (ready : Ready) (between : Active) (sees : Sees given between (record m { queue = queue; ready = ready })) (unwritten : between.output ≡ old.output)
      (replies : reply ≡ reply_where_awake headers given (record m { queue = queue; ready = ready }) true) where
    abbrev awake : Machine
    awake = record m { queue = queue; ready = ready }

    module _ (found : ChildrenKnown) (looked : Active) (looks : LooksFor between.children (results_of between.results) found (results_of looked.results)) (others : LooksAlone between looked) where
      outcome_is : children_outcome given.options.signal_delivery m.children queue ready ≡ outcome_as (results_of looked.results).queue (results_of looked.results).ready found
      outcome_is =
          ap (λ (r : AsyncResults). children_outcome r.delivery m.children r.queue r.ready) (sym sees.results)
          ∙ ap (λ (cs : List Child). children_outcome (results_of between.results).delivery cs (results_of between.results).queue (results_of between.results).ready) (sym sees.children)
          ∙ looks.outcome

      replies_by : reply ≡ reply_to_children headers given awake (outcome_as (results_of looked.results).queue (results_of looked.results).ready found)
      replies_by = replies ∙ ap (λ (outcome : ChildrenOutcome). reply_to_children headers given awake outcome) outcome_is

    goes_on : (found : ChildrenKnown) (looked : Active) (looks : LooksFor between.children (results_of between.results) found (results_of looked.results)) (others : LooksAlone between looked)
        (result : Result Awaited AwaitError) (new : Active) → PassesOnBy found checks_off looked result new → Awaits checks_off given m tree old result new
    goes_on known.AllIds looked looks others result new passes =
        cancels_as checks_off given m tree old (results_of looked.results).queue (results_of looked.results).ready looked (sees_looked given awake between looked sees others looks.delivery looks.slots)
        (ap (λ (a : Active). a.output) others ∙ unwritten) (replies_by known.AllIds looked looks others) result new passes
    goes_on (known.Unknown n) looked looks others result new passes =
        let seen = sees_none given awake between looked sees others looks.delivery looks.slots looks.queue in
        answers_so result (asleep_as looked.is_replaying (OfChild n)) looked new passes.0 passes.1
        (sleeps (OfChild n) (record m { queue = []; ready = (results_of looked.results).ready }) looked m.left looked.is_replaying seen.replaying
        (replies_by (known.Unknown n) looked looks others ∙ stays_of_child n (record m { queue = []; ready = (results_of looked.results).ready }) m.left) seen refl)
    goes_on known.NoId looked looks others result new passes =
        answers_so result (Err unawaited.ChildNotId) new new passes.0 refl (replies_by known.NoId looked looks others)

    passes_on : (result : Result Awaited AwaitError) (new : Active) → PassesOn checks_off between result new → Awaits checks_off given m tree old result new
    passes_on result new (inl passes) = goes_on passes.found passes.looked passes.looks passes.others result new passes.goes_on
    passes_on result new (inr out) = runs_out between new result unwritten out

  -- ---- the tree is resolved

  module _ (sees : Sees given old m) (cancellation : ImplicitCancellationOption) (is : given.options.implicit_cancellation ≡ cancellation)
      (answer : ResolveFutureResult) (looked : Active) (resolves : Resolves cancellation tree (results_of old.results) answer (results_of looked.results)) (others : LooksAlone old looked) where
    abbrev middle : AsyncResults
    middle = results_of looked.results

    replies : reply ≡ reply_to_await headers given m (resolution_as middle.queue middle.ready answer)
    replies =
        ap (λ (o : Option Refusal). reply_unless_refused headers given m (Call.Await tree) o) unrefused
        ∙ ap (λ (r : AsyncResults). reply_to_await headers given m (resolution_of r.delivery r.slots (awaited_tree given.options.implicit_cancellation tree) r.queue r.ready)) (sym sees.results)
        ∙ ap (λ (c : ImplicitCancellationOption). reply_to_await headers given m (resolution_of (results_of old.results).delivery (results_of old.results).slots (awaited_tree c tree) (results_of old.results).queue (results_of old.results).ready)) is
        ∙ ap (λ (r : Resolution). reply_to_await headers given m r) resolves.resolution

    seen : Sees given looked (looked_as m middle)
    seen = sees_looked given m old looked sees others resolves.delivery resolves.slots

    unwritten : looked.output ≡ old.output
    unwritten = ap (λ (a : Active). a.output) others

    cancelled_is : is_cancelled_in cancellation middle ≡ is_cancelled given (looked_as m middle)
    cancelled_is =
        ap (λ (c : ImplicitCancellationOption). is_cancelled_in c middle) (sym is)
        ∙ ap (λ (s : Slots). ends_awaits given.options.implicit_cancellation && is_some (waiting_for s middle.ready cancel_handle)) (slots_are given m old looked sees others resolves.delivery resolves.slots)

  module _ (sees : Sees given old m) (cancellation : ImplicitCancellationOption) (is : given.options.implicit_cancellation ≡ cancellation) (looked : Active) (others : LooksAlone old looked) where
    abbrev now : AsyncResults
    now = results_of looked.results

    wakes_by : (resolves : Resolves cancellation tree (results_of old.results) resolved.AnyCompleted now) (cancelled : Bool) → is_cancelled_in cancellation now ≡ cancelled
        → (result : Result Awaited AwaitError) (new : Active) → WakesBy cancelled checks_off looked result new → Awaits checks_off given m tree old result new
    wakes_by resolves false e result new wakes =
        answers_so result (Ok AnyCompleted) looked new wakes.0 wakes.1 (record {
          machine = looked_as m now;
          replies = replies sees cancellation is resolved.AnyCompleted looked resolves others
              ∙ ap (λ (b : Bool). reply_where_awake headers given (looked_as m now) b) (sym (cancelled_is sees cancellation is resolved.AnyCompleted looked resolves others) ∙ e);
          sees = seen sees cancellation is resolved.AnyCompleted looked resolves others;
          written = refl;
        })
    wakes_by resolves true e result new wakes =
        passes_on now.queue now.ready looked (seen sees cancellation is resolved.AnyCompleted looked resolves others) (unwritten sees cancellation is resolved.AnyCompleted looked resolves others)
        (replies sees cancellation is resolved.AnyCompleted looked resolves others
        ∙ ap (λ (b : Bool). reply_where_awake headers given (looked_as m now) b) (sym (cancelled_is sees cancellation is resolved.AnyCompleted looked resolves others) ∙ e)) result new wakes

    by_answer : (answer : ResolveFutureResult) → Resolves cancellation tree (results_of old.results) answer now → (result : Result Awaited AwaitError) (new : Active)
        → GoesOnBy answer cancellation checks_off looked result new → Awaits checks_off given m tree old result new
    by_answer resolved.AnyCompleted resolves result new goes = wakes_by resolves (is_cancelled_in cancellation now) refl result new goes
    by_answer (resolved.WaitExternalInput left) resolves result new goes =
        let seen = sees_none given m old looked sees others resolves.delivery resolves.slots resolves.queue in
        answers_so result (asleep_as looked.is_replaying (Future left)) looked new goes.0 goes.1
        (sleeps (Future left) (record m { queue = []; ready = now.ready }) looked m.left looked.is_replaying seen.replaying
        (replies sees cancellation is (resolved.WaitExternalInput left) looked resolves others ∙ stays_of_tree left (record m { queue = []; ready = now.ready }) m.left) seen refl)

-- whatever it comes to, it is what the abstract machine's comes to
pub awaits_as : (cancellation : ImplicitCancellationOption) (checks_off : Bool) (tree : AwaitTree ℕ) (old : Active) (result : Result Awaited AwaitError) (new : Active)
    → AwaitComesTo cancellation checks_off tree old result new → AwaitsSeen cancellation checks_off tree old result new
awaits_as cancellation checks_off tree old result new (inl comes) given m is unrefused sees =
    by_answer checks_off given m tree old unrefused sees cancellation is comes.looked comes.others comes.answer comes.resolves result new comes.goes_on
awaits_as cancellation checks_off tree old result new (inr out) given m is unrefused sees = runs_out checks_off given m tree old unrefused old new result refl out
