-- How far an await has come that passes a cancellation on, and fails.
use Rattle.std.proofs.Common.{◌≡◌, ◌≤◌, ◌^◌, ◌⊎◌, inl, inr, Bool, true, false, ◌&&◌, List, [], ◌∷◌, length, Option, Some, None, Result, Ok, Err, refl, sym, ap, subst, ◌∙◌}
use Rattle.std.specs.Prelude.{ℕ, is_some}
use Rattle.journal_model.specs.Await.{ends_awaits, awaited_tree}
use Rattle.journal_model.specs.AwaitTree.{AwaitTree}
use Rattle.journal_model.specs.History.{cancel_handle}
use Rattle.journal_model.specs.Refusal.{Refusal, refusal_of}
use Rattle.journal_model.specs.Request.{Request}
use Rattle.journal_model.specs.Run.{Invocation}
use Rattle.journal_model.specs.Spelling.{request_payload}
use Rattle.journal_model.specs.declared.call.Call.{Call}
use Rattle.journal_model.specs.declared.options.SignalDelivery.{SignalDelivery}
use Rattle.attempt_model.specs.Children.{Child, cancel_requests_for, ChildrenOutcome, children_outcome}
use Rattle.attempt_model.specs.Machine.{Machine, is_cancelled}
use Rattle.attempt_model.specs.Requests.{Commands, PutState, put_one, put_all}
use Rattle.attempt_model.specs.Results.{Slots, Resolution, Awake, resolution_of, waiting_for}
use Rattle.protocol_stream.specs.declared.encoder.EncodingError.TheVariants as unsent
use Rattle.protocol_types.specs.declared.message_type.MessageType.TheVariants.{SendSignalCommand}
use Rattle.vm_awaits.specs.Views.{AsyncResults, results_of, ready_of}
use Rattle.vm_awaits.specs.declared.resolving.ResolveFutureResult.{ResolveFutureResult}
use Rattle.vm_awaits.specs.declared.resolving.ResolveFutureResult.TheVariants as resolved
use Rattle.vm_calls.proofs.Calls.{unchecked}
use Rattle.vm_calls.specs.Active.{Sees, IsActiveSettled, left_of, has_left, asking, writes_frames, PutFails}
use Rattle.vm_calls.specs.declared.active.Active.{Active}
use Rattle.vm_calls.specs.declared.put_error.PutError.{PutError}
use Rattle.vm_calls.specs.declared.put_error.PutError.TheVariants.{Replay, Encoding}
use Rattle.vm_commands.specs.HeaderEquality.{header_equal, same_header}
use Rattle.vm_commands.specs.NextCommand.{IsNextUnread}
use Rattle.vm_commands.specs.declared.replay_error.ReplayError.TheVariants as unmatched
use Rattle.vm_context.specs.Journal.{after_command}
use Rattle.vm_machine.specs.Calls.{checks_off}
use Rattle.vm_machine.specs.declared.machine_state.MachineState.{MachineState}
use Rattle.vm_waiting.specs.AwaitSteps.{is_cancelled_in, LooksAlone, asleep_as, Cancels, PassesOnBy, PassesOn, RunsOut, WakesBy, Resolves, GoesOnBy, AwaitComesTo}
use Rattle.vm_waiting.specs.ChildCancellation.{outcome_as, after_cancels, StopsAt, FailsPutting, LacksCommand}
use Rattle.vm_waiting.specs.declared.awaiting.Awaited.{Awaited}
use Rattle.vm_waiting.specs.declared.awaiting.Awaited.TheVariants.{AnyCompleted, Cancelled, Asleep}
use Rattle.vm_waiting.specs.declared.awaiting.AwaitError.{AwaitError}
use Rattle.vm_waiting.specs.declared.awaiting.AwaitError.TheVariants as unawaited
use Rattle.vm_waiting.specs.declared.children.ChildrenKnown.{ChildrenKnown}
use Rattle.vm_waiting.specs.declared.children.ChildrenKnown.TheVariants as known
use Rattle.vm_waiting.specs.declared.waits_for.WaitsFor.{WaitsFor}
use Rattle.vm_outcomes.specs.PartialCalls.{awake_requests, children_requests, await_requests, unless_refused, requests_passed_on, HasPut}

pub looks_on : (old between new : Active) → LooksAlone old between → LooksAlone between new → LooksAlone old new
looks_on old between new first others = others ∙ ap (λ (a : Active). record a { results = new.results }) first

module _ (given : Invocation) (m : Machine) (tree : AwaitTree ℕ) (vm : MachineState) where
  abbrev ignoring : Bool
  ignoring = checks_off vm.options.non_determinism_checks

  abbrev headers : Request → Request → Bool
  headers = same_header ignoring (Call.Await tree)

  -- the first of its requests were put, and the next was not
  pub record StopsBehind (new : Active) : Type 0 where
    pub far : HasPut given m (Call.Await tree) vm
    pub next : Request
    pub rest : List Request
    pub behind : far.behind ≡ next ∷ rest
    pub output : new.output ≡ writes_frames far.more vm.active.output
    pub journal : new.journal ≡ after_command SendSignalCommand [] (after_cancels far.front vm.active.journal)

  -- why the next is not put
  abbrev pub PutWhy : {M : Type 0} → PutError M → PutState → Request → Type 0
  PutWhy (Replay (unmatched.Unavailable error)) put next = ⊥
  PutWhy (Replay (unmatched.Decoding error)) put next = (put_one headers next put.left put.written ≡ None) × IsNextUnread error put.left
  PutWhy (Replay (unmatched.Mismatch error)) put next = put_one headers next put.left put.written ≡ None
  PutWhy (Replay unmatched.OutOfMemory) put next = Unit {0}
  PutWhy (Encoding unsent.PayloadTooLong) put next = (put.left ≡ []) × (2 ^ 32 ≤ length (request_payload next))
  PutWhy (Encoding unsent.OutOfMemory) put next = Unit {0}

  pub record StopsFor {M : Type 0} (error : PutError M) (new : Active) : Type 0 where
    pub stops : StopsBehind new
    pub why : PutWhy error stops.far.put stops.next

  -- what of the machine's is kept, by what the await has come to
  abbrev pub Keeps : Result Awaited AwaitError → Active → Type 0
  Keeps (Ok AnyCompleted) new = LooksAlone vm.active new
  Keeps (Ok Cancelled) new = Unit {0}
  Keeps (Ok (Asleep waits)) new = LooksAlone vm.active new
  Keeps (Err (unawaited.UncompletedInReplay waits)) new = LooksAlone vm.active new
  Keeps (Err unawaited.ChildNotId) new = LooksAlone vm.active new
  Keeps (Err (unawaited.Put error)) new = StopsFor error new
  Keeps (Err unawaited.OutOfMemory) new = LooksAlone vm.active new ⊎ StopsBehind new

  asleep_keeps : (replaying : Bool) (waits : WaitsFor) (new : Active) → LooksAlone vm.active new → Keeps (asleep_as replaying waits) new
  asleep_keeps true waits new looks = looks
  asleep_keeps false waits new looks = looks

  -- of an answer and what stands then that are these
  keeps_so : (result other : Result Awaited AwaitError) (last new : Active) → result ≡ other → last ≡ new → Keeps other new → Keeps result last
  keeps_so result other last new is same keeps =
      subst (λ (r : Result Awaited AwaitError). Keeps r last) (sym is) (subst (λ (a : Active). Keeps other a) (sym same) keeps)

  runs_out : (between new : Active) (result : Result Awaited AwaitError) → LooksAlone vm.active between → RunsOut between result new → Keeps result new
  runs_out between new result looks out = keeps_so result (Err unawaited.OutOfMemory) new new out.0 refl (inl (looks_on vm.active between new looks out.1))

  module _ (sees : Sees given vm.active m) where
    -- ---- the requests are put

    module _ (looked : Active) (looks : LooksAlone vm.active looked) (asked_is : requests_passed_on given m (Call.Await tree) ≡ cancel_requests_for (ready_of looked.results) looked.children) where
      abbrev asked : List Request
      asked = cancel_requests_for (ready_of looked.results) looked.children

      left_is : left_of looked ≡ m.left
      left_is = ap (λ (a : Active). left_of a) looks ∙ sees.left

      settled : IsActiveSettled looked
      settled = record {
        replaying = ap (λ (a : Active). a.is_replaying) looks ∙ sees.replaying ∙ ap has_left (sym left_is);
        opened = ap (λ (a : Active). a.output.is_closed) looks ∙ sees.opened;
      }

      -- headers are compared as each request compares them
      put_for : (requests : List Request) (put : Option PutState) → put_all (header_equal ignoring) requests (record { left = left_of looked; written = m.written }) ≡ put
          → put_all headers requests (record { left = m.left; written = m.written }) ≡ put
      put_for requests put puts =
          ap (λ (b : Bool). put_all (header_equal b) requests (record { left = m.left; written = m.written })) (sym (unchecked ignoring))
          ∙ ap (λ (left : Commands). put_all (header_equal ignoring) requests (record { left = left; written = m.written })) (sym left_is) ∙ puts

      one_for : (next : Request) (written : List Request) (one other : Commands) → one ≡ other → put_one (header_equal ignoring) next one written ≡ None → put_one headers next other written ≡ None
      one_for next written one other same none =
          ap (λ (b : Bool). put_one (header_equal b) next other written) (sym (unchecked ignoring))
          ∙ ap (λ (left : Commands). put_one (header_equal ignoring) next left written) (sym same) ∙ none

      abbrev stops_at : (stops : StopsAt ignoring asked m.written looked) (new : Active) → new.output ≡ stops.put.output → new.journal ≡ (asking SendSignalCommand [] stops.put).journal → StopsBehind new
      stops_at stops new same is = record {
        far = record {
          front = stops.front;
          behind = stops.next ∷ stops.behind;
          parts = asked_is ∙ stops.parts;
          put = stops.puts.put;
          puts = put_for stops.front (Some stops.puts.put) stops.puts.puts;
          more = stops.puts.more;
          written = stops.puts.wrote;
          fit = stops.puts.fit;
        };
        next = stops.next;
        rest = stops.behind;
        behind = refl;
        output = same ∙ stops.puts.frames ∙ ap (λ (a : Active). writes_frames stops.puts.more a.output) looks;
        journal = is ∙ ap (λ (a : Active). after_command SendSignalCommand [] a.journal) stops.puts.others
            ∙ ap (λ (a : Active). after_command SendSignalCommand [] (after_cancels stops.front a.journal)) looks;
      }

      put_why : {M : Type 0} (stops : StopsAt ignoring asked m.written looked) (error : PutError M) → PutFails ignoring stops.next stops.puts.put.written stops.put error
          → PutWhy error stops.puts.put stops.next
      put_why stops (Replay (unmatched.Unavailable error)) fails = fails
      put_why stops (Replay (unmatched.Decoding error)) fails = (
        one_for stops.next stops.puts.put.written (left_of stops.put) stops.puts.put.left stops.puts.left fails.0,
        subst (λ (left : Commands). IsNextUnread error left) stops.puts.left fails.1,
      )
      put_why stops (Replay (unmatched.Mismatch error)) fails = one_for stops.next stops.puts.put.written (left_of stops.put) stops.puts.put.left stops.puts.left fails
      put_why stops (Replay unmatched.OutOfMemory) fails = tt
      put_why stops (Encoding unsent.PayloadTooLong) fails = (sym stops.puts.left ∙ fails.0, fails.1)
      put_why stops (Encoding unsent.OutOfMemory) fails = tt

      fails_putting : {M : Type 0} (error : PutError M) (new : Active) → FailsPutting ignoring asked m.written looked error new → StopsFor error new
      fails_putting error new fails = record { stops = stops_at fails.stops new fails.output fails.journal; why = put_why fails.stops error fails.fails }

      lacks_command : (new : Active) → LacksCommand ignoring asked m.written looked new → StopsBehind new
      lacks_command new lacks = stops_at lacks.stops new (ap (λ (a : Active). a.output) lacks.asked) (ap (λ (a : Active). a.journal) lacks.asked)

      cancels_keep : (result : Result Awaited AwaitError) (new : Active) → Cancels ignoring looked result new → Keeps result new
      cancels_keep (Ok Cancelled) new all = tt
      cancels_keep (Ok AnyCompleted) new none = absurd none
      cancels_keep (Ok (Asleep waits)) new none = absurd none
      cancels_keep (Err (unawaited.Put error)) new among = fails_putting error new (among.puts m.written settled)
      cancels_keep (Err unawaited.OutOfMemory) new (inl same) = inl (subst (λ (a : Active). LooksAlone vm.active a) (sym same) looks)
      cancels_keep (Err unawaited.OutOfMemory) new (inr among) = inr (lacks_command new (among.puts m.written settled))
      cancels_keep (Err (unawaited.UncompletedInReplay waits)) new none = absurd none
      cancels_keep (Err unawaited.ChildNotId) new none = absurd none

    -- ---- the children are looked for

    module _ (before : Active) (looks : LooksAlone vm.active before)
        (awake_is : requests_passed_on given m (Call.Await tree)
        ≡ children_requests m.children (children_outcome (results_of before.results).delivery before.children (results_of before.results).queue (results_of before.results).ready)) where
      children_are : (looked : Active) → LooksAlone before looked → m.children ≡ looked.children
      children_are looked others = sym sees.children ∙ sym (ap (λ (a : Active). a.children) (looks_on vm.active before looked looks others))

      found_keeps : (found : ChildrenKnown) (looked : Active) (others : LooksAlone before looked)
          → children_outcome (results_of before.results).delivery before.children (results_of before.results).queue (results_of before.results).ready
          ≡ outcome_as (results_of looked.results).queue (results_of looked.results).ready found
          → (result : Result Awaited AwaitError) (new : Active) → PassesOnBy found ignoring looked result new → Keeps result new
      found_keeps known.AllIds looked others outcome result new passes =
          cancels_keep looked (looks_on vm.active before looked looks others)
          (awake_is ∙ ap (λ (o : ChildrenOutcome). children_requests m.children o) outcome ∙ ap (λ (cs : List Child). cancel_requests_for (ready_of looked.results) cs) (children_are looked others))
          result new passes
      found_keeps (known.Unknown n) looked others outcome result new passes =
          keeps_so result (asleep_as looked.is_replaying (WaitsFor.Child n)) new looked passes.0 passes.1 (asleep_keeps looked.is_replaying (WaitsFor.Child n) looked (looks_on vm.active before looked looks others))
      found_keeps known.NoId looked others outcome result new passes =
          keeps_so result (Err unawaited.ChildNotId) new looked passes.0 passes.1 (looks_on vm.active before looked looks others)

      passes_keep : (result : Result Awaited AwaitError) (new : Active) → PassesOn ignoring before result new → Keeps result new
      passes_keep result new (inl finds) = found_keeps finds.found finds.looked finds.others finds.looks.outcome result new finds.goes_on
      passes_keep result new (inr out) = runs_out before new result looks out

    -- ---- the tree is resolved

    module _ (unrefused : refusal_of given.version (Call.Await tree) ≡ None) (before : Active) (looks : LooksAlone vm.active before) where
      abbrev now : AsyncResults
      now = results_of before.results

      abbrev awake : Machine
      awake = record m { queue = now.queue; ready = now.ready }

      wakes_by : Resolves given.options.implicit_cancellation tree (results_of vm.active.results) resolved.AnyCompleted now → (cancelled : Bool) → is_cancelled_in given.options.implicit_cancellation now ≡ cancelled
          → (result : Result Awaited AwaitError) (new : Active) → WakesBy cancelled ignoring before result new → Keeps result new
      wakes_by resolves false is result new wakes = keeps_so result (Ok AnyCompleted) new before wakes.0 wakes.1 looks
      wakes_by resolves true is result new wakes = passes_keep before looks awake_is result new wakes
        where
          wakes_as : resolution_of given.options.signal_delivery m.slots (awaited_tree given.options.implicit_cancellation tree) m.queue m.ready ≡ Awake now.queue now.ready
          wakes_as = ap (λ (r : AsyncResults). resolution_of r.delivery r.slots (awaited_tree given.options.implicit_cancellation tree) r.queue r.ready) (sym sees.results) ∙ resolves.resolution

          cancelled_is : is_cancelled given awake ≡ true
          cancelled_is =
              ap (λ (s : Slots). ends_awaits given.options.implicit_cancellation && is_some (waiting_for s now.ready cancel_handle)) (sym (resolves.slots ∙ ap (λ (r : AsyncResults). r.slots) sees.results)) ∙ is

          delivery_is : given.options.signal_delivery ≡ now.delivery
          delivery_is = sym (resolves.delivery ∙ ap (λ (r : AsyncResults). r.delivery) sees.results)

          awake_is : requests_passed_on given m (Call.Await tree) ≡ children_requests m.children (children_outcome now.delivery before.children now.queue now.ready)
          awake_is =
              ap (λ (o : Option Refusal). unless_refused o (await_requests given m (resolution_of given.options.signal_delivery m.slots (awaited_tree given.options.implicit_cancellation tree) m.queue m.ready))) unrefused
              ∙ ap (λ (r : Resolution). await_requests given m r) wakes_as
              ∙ ap (λ (b : Bool). awake_requests given awake b) cancelled_is
              ∙ ap (λ (d : SignalDelivery). children_requests m.children (children_outcome d m.children now.queue now.ready)) delivery_is
              ∙ ap (λ (cs : List Child). children_requests m.children (children_outcome now.delivery cs now.queue now.ready)) (sym sees.children ∙ sym (ap (λ (a : Active). a.children) looks))

      answer_keeps : (answer : ResolveFutureResult) → Resolves given.options.implicit_cancellation tree (results_of vm.active.results) answer now
          → (result : Result Awaited AwaitError) (new : Active) → GoesOnBy answer given.options.implicit_cancellation ignoring before result new → Keeps result new
      answer_keeps resolved.AnyCompleted resolves result new goes = wakes_by resolves (is_cancelled_in given.options.implicit_cancellation now) refl result new goes
      answer_keeps (resolved.WaitExternalInput left) resolves result new goes =
          keeps_so result (asleep_as before.is_replaying (WaitsFor.Future left)) new before goes.0 goes.1 (asleep_keeps before.is_replaying (WaitsFor.Future left) before looks)

    pub await_keeps : refusal_of given.version (Call.Await tree) ≡ None → (result : Result Awaited AwaitError) (new : Active) → AwaitComesTo given.options.implicit_cancellation ignoring tree vm.active result new → Keeps result new
    await_keeps unrefused result new (inl comes) = answer_keeps unrefused comes.looked comes.others comes.answer comes.resolves result new comes.goes_on
    await_keeps unrefused result new (inr out) = runs_out vm.active new result refl out
