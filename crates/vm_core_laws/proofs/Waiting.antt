-- Awaits, the end, and reads of which nothing is recorded.
use Rattle.std.proofs.Common.{◌≡◌, inl, inr, ℕ, Bool, true, false, List, [], ◌++◌, if◌then◌else◌, Option, Some, None, Result, Ok, Err, refl, sym, ap, subst, ◌∙◌, codes}
use Rattle.journal_model.specs.AwaitTree.{AwaitTree}
use Rattle.journal_model.specs.declared.notification.NotificationId.{NotificationId}
use Rattle.journal_model.specs.declared.options.SignalDelivery.{SignalDelivery}
use Rattle.journal_model.specs.Notification.{Text}
use Rattle.journal_model.specs.declared.value.Value.{Value}
use Rattle.journal_model.specs.declared.value.Value.TheVariants as values
use Rattle.protocol_errors.specs.declared.error.Error.{Error}
use Rattle.protocol_stream.specs.Frame.{spelled}
use Rattle.protocol_stream.specs.declared.encoder.EncodingError.{EncodingError}
use Rattle.protocol_stream.specs.declared.encoder.EncodingError.TheVariants as unsent
use Rattle.attempt_model.specs.Children.{Child, cancel_requests_for}
use Rattle.vm_awaits.specs.Children.{AreMade}
use Rattle.vm_awaits.specs.Views.{AsyncResults, delivery_of, ready_of, results_of}
use Rattle.vm_awaits.specs.declared.resolving.ResolveFutureResult.{ResolveFutureResult}
use Rattle.vm_awaits.specs.declared.resolving.ResolveFutureResult.TheVariants as resolved
use Rattle.vm_awaits.specs.declared.state.AsyncResultsState.{AsyncResultsState}
use Rattle.vm_calls.specs.Active.{has_left, left_of}
use Rattle.vm_calls.specs.declared.active.Active.{Active}
use Rattle.vm_context.specs.Eager.{KnownState, told_value}
use Rattle.vm_context.specs.StateKnowledge.{KnowsState}
use Rattle.vm_context.specs.Output.{Written, with_frame}
use Rattle.vm_context.specs.declared.eager_state.EagerGetState.{EagerGetState}
use Rattle.vm_context.specs.declared.eager_state.EagerGetState.TheVariants as told
use Rattle.vm_types.specs.Reads.{asked, known as known_read, reads_after_take}
use Rattle.vm_feeding.specs.EphemeralStateReads.{read_message, Registers, Sends, AsksNext, AsksRead, AsksWhere, Gets, GetsBehind, GetsIn, MissesIn, IsGot, TakesWhere, IsReadTaken}
use Rattle.vm_feeding.specs.Refusals.{lacks_reads}
use Rattle.vm_start.specs.Phases.{kept_error}
use Rattle.vm_start.specs.declared.phase.Phase.TheVariants as phases
use Rattle.vm_machine.specs.Calls.{checks_off}
use Rattle.vm_machine.specs.CallAdmission.{is_active}
use Rattle.vm_machine.specs.Steps.{IsUnexpected}
use Rattle.vm_machine.specs.declared.machine_state.MachineState.{MachineState}
use Rattle.vm_progress.specs.SleepingAwaits.{too_deep_error, FailsUntold, SettlesStay, ClosesAs, SleepsAs, SleepsWhere}
use Rattle.vm_progress.specs.AwaitedRuns.{executes_any, is_executing_for, run_for}
use Rattle.vm_progress.specs.AwaitEffects.{ready_read, GoesOnAs, IsAwaited, DoesAwaitWhere, DoesAwait}
use Rattle.vm_progress.specs.EndEffects.{end_place, closed_active, ClosesEnd, EndsAt, EndsAs}
use Rattle.vm_progress.specs.declared.asleep.Sleep.{Sleep}
use Rattle.vm_progress.specs.declared.asleep.Sleep.TheVariants as sleeps
use Rattle.vm_progress.specs.declared.ending.EndPlace.{EndPlace}
use Rattle.vm_progress.specs.declared.ending.EndPlace.TheVariants as places
use Rattle.vm_types.specs.declared.answers.AwaitResponse.{AwaitResponse}
use Rattle.vm_types.specs.declared.handles.EphemeralCompletionId.{EphemeralCompletionId}
use Rattle.journal_model.specs.declared.options.ImplicitCancellationOption.{ImplicitCancellationOption}
use Rattle.vm_waiting.specs.SuspensionFrames.{TellsIf, tells_awaiting}
use Rattle.vm_waiting.specs.AwaitSteps.{is_cancelled_in, after_cancellation, LooksAlone, CancelsAll, Cancels, PassesOnBy, PassesOn, WakesBy, GoesOnBy, AwaitComesTo}
use Rattle.vm_waiting.specs.WaitsFor.{awaited_ids, waits_for_any}
use Rattle.vm_waiting.specs.declared.awaiting.Awaited.{Awaited}
use Rattle.vm_waiting.specs.declared.awaiting.Awaited.TheVariants as awaits
use Rattle.vm_waiting.specs.declared.awaiting.AwaitError.{AwaitError}
use Rattle.vm_waiting.specs.declared.awaiting.AwaitError.TheVariants as unawaited
use Rattle.vm_waiting.specs.declared.children.ChildrenKnown.{ChildrenKnown}
use Rattle.vm_waiting.specs.declared.children.ChildrenKnown.TheVariants as known
use Rattle.vm_waiting.specs.declared.suspending.TellError.{TellError}
use Rattle.vm_waiting.specs.declared.suspending.TellError.TheVariants.{TooDeep, Encoding}
use Rattle.vm_waiting.specs.declared.waits_for.WaitsFor.{WaitsFor}
use Rattle.vm_waiting.proofs.CancelReplies.{completions_stay}
use Rattle.vm_core_laws.proofs.Keeping.{Keeps, counted_like, Replays, Stands, moved, when_active, active_again, IsLike, keeps_like, replays_like, like_again, results_like, same_like, output_like, failed, steps_stand}

-- ---- frames

frame_closed : (closed : Bool) (frame : List ℕ) (written : Written) → written.is_closed ≡ closed
    → (if closed then written else record written { bytes = written.bytes ++ frame }).is_closed ≡ written.is_closed
frame_closed true frame written is = refl
frame_closed false frame written is = refl

-- one more frame does not end the output
pub frame_keeps : (frame : List ℕ) (written : Written) → (with_frame frame written).is_closed ≡ written.is_closed
frame_keeps frame written = frame_closed written.is_closed frame written refl

untold_stands : (error : TellError) (old : MachineState) (told : Error) (new : MachineState) → FailsUntold error old told new → Stands new
untold_stands TooDeep old told new is = failed (Ok too_deep_error) old told new is
untold_stands (Encoding unsent.PayloadTooLong) old told new is = failed is.cause old told new is.fails
untold_stands (Encoding unsent.OutOfMemory) old told new is = failed is.cause old told new is.fails

-- ---- awaits that wait

writes_like : (tells : Bool) (ids : AwaitTree NotificationId) (done : Unit {0}) (old new : Active) → TellsIf tells ids old (Ok done) new → IsLike old new
writes_like true ids done old new is = output_like old new is.1.1 (ap (λ (written : Written). written.is_closed) is.1.0.1 ∙ frame_keeps _ old.output)
writes_like false ids done old new is = same_like old new is

stay_settled : (tells executing : Bool) (ids : AwaitTree NotificationId) (old : MachineState) (written : Result (Unit {0}) TellError) (active : Active) (result : Result AwaitResponse Error) (new : MachineState)
    → TellsIf tells ids old.active written active → SettlesStay executing written (record old { active = active }) result new → Stands old → Stands new
stay_settled tells executing ids old (Ok done) active (Ok response) new is settles stands = like_again old active new settles.1 (writes_like tells ids done old.active active is) stands
stay_settled tells executing ids old (Ok done) active (Err told) new is settles stands = absurd settles
stay_settled tells executing ids old (Err error) active (Ok response) new is settles stands = absurd settles
stay_settled tells executing ids old (Err error) active (Err told) new is settles stands = untold_stands error (record old { active = active }) told new settles

closed_as : (written : Result (Unit {0}) TellError) (old : MachineState) (told : Error) (new : MachineState) → ClosesAs written old told new → Stands new
closed_as (Ok done) old told new closes = moved (record old { phase = phases.Closed }) new closes.1 tt
closed_as (Err error) old told new closes = untold_stands error old told new closes

sleep_goes_on : (sleep : Sleep) (waits : WaitsFor) (old : MachineState) (result : Result AwaitResponse Error) (new : MachineState) → SleepsAs sleep waits old result new → Stands old → Stands new
sleep_goes_on sleeps.Stays waits old result new is stands =
    stay_settled (tells_awaiting old.version old.options.awaiting_on_policy (executes_any old.runs) (waits_for_any waits)) (is_executing_for waits old.runs) (awaited_ids old.active waits) old is.told is.active result new is.tells is.settles stands
sleep_goes_on sleeps.Unanswered waits old (Ok response) new is stands = absurd is
sleep_goes_on sleeps.Unanswered waits old (Err told) new is stands = failed _ old told new is
sleep_goes_on sleeps.Proposal waits old (Ok response) new is stands = moved old new is.1 stands
sleep_goes_on sleeps.Proposal waits old (Err told) new is stands = absurd is
sleep_goes_on sleeps.Suspends waits old (Ok response) new is stands = absurd is
sleep_goes_on sleeps.Suspends waits old (Err told) new is stands = closed_as is.written (record old { active = is.active }) told new is.closes

-- a run of it is handed out, or none is
sleeps_where : (found : Option ℕ) (waits : WaitsFor) (old : MachineState) (result : Result AwaitResponse Error) (new : MachineState) → SleepsWhere found waits old result new → Stands old → Stands new
sleeps_where (Some handle) waits old (Ok response) new is stands = moved (record old { runs = new.runs }) new is.1.others stands
sleeps_where (Some handle) waits old (Err told) new is stands = absurd is
sleeps_where None waits old result new is stands = sleep_goes_on is.sleep waits old result new is.goes_on stands

-- ---- a cancellation that is passed on

abbrev KeepsOn : SignalDelivery → Active → Type 0
KeepsOn delivery active = Keeps delivery active × Replays active

on_like : (delivery : SignalDelivery) (old new : Active) → IsLike old new → KeepsOn delivery old → KeepsOn delivery new
on_like delivery old new like keeps = (keeps_like delivery old new like keeps.0, replays_like old new like keeps.1)

on_same : (delivery : SignalDelivery) (old new : Active) → new ≡ old → KeepsOn delivery old → KeepsOn delivery new
on_same delivery old new is keeps = subst (λ (active : Active). KeepsOn delivery active) (sym is) keeps

on_looked : (delivery : SignalDelivery) (old new : Active) → LooksAlone old new → (results_of new.results).delivery ≡ (results_of old.results).delivery → KeepsOn delivery old → KeepsOn delivery new
on_looked delivery old new others delivers keeps = on_like delivery old new (results_like old new others delivers) keeps

-- no child is left
module _ (delivery : SignalDelivery) (old put new : Active) (keeps : Keeps delivery old) (taken : results_of new.results ≡ after_cancellation (results_of put.results))
    (others : new ≡ record put { results = new.results; children = [] }) (state : put.state ≡ old.state) (results : put.results ≡ old.results) (opened : put.output.is_closed ≡ false)
    (completions : put.journal.completions ≡ old.journal.completions) where
  left_by : Keeps delivery new
  left_by = record {
    start = keeps.start;
    done = keeps.done;
    state = subst (λ (state : KnownState). KnowsState state keeps.start keeps.done) (sym (ap (λ (a : Active). a.state) others ∙ state)) keeps.state;
    opened = ap (λ (a : Active). a.output.is_closed) others ∙ opened;
    delivers = ap (λ (r : AsyncResults). r.delivery) taken ∙ ap (λ (r : AsyncResultsState). delivery_of r) results ∙ keeps.delivers;
    made = subst (λ (children : List Child). AreMade new.journal.completions children) (sym (ap (λ (a : Active). a.children) others)) tt;
    counted = counted_like old new (ap (λ (a : Active). a.journal.completions) others ∙ completions) keeps.counted;
  }

cancels_on : (delivery : SignalDelivery) (ignoring : Bool) (old new : Active) → CancelsAll ignoring old new → KeepsOn delivery old → KeepsOn delivery new
cancels_on delivery ignoring old new all (keeps, inl spent) =
    let same = (all.spent spent).1 in (
      left_by delivery old all.put new keeps all.taken all.others (ap (λ (a : Active). a.state) same) (ap (λ (a : Active). a.results) same) (ap (λ (a : Active). a.output.is_closed) same ∙ keeps.opened)
          (ap (λ (a : Active). a.journal.completions) same),
      inl (record {
        replaying = ap (λ (a : Active). a.is_replaying) all.others ∙ ap (λ (a : Active). a.is_replaying) same ∙ spent.replaying;
        none = ap (λ (a : Active). a.commands.items) all.others ∙ ap (λ (a : Active). a.commands.items) same ∙ spent.none;
      }),
    )
cancels_on delivery ignoring old new all (keeps, inr replaying) =
    let puts = all.puts [] (record { replaying = replaying; opened = keeps.opened }) in (
      left_by delivery old all.put new keeps all.taken all.others (ap (λ (a : Active). a.state) puts.others) (ap (λ (a : Active). a.results) puts.others) puts.settled.opened
          (ap (λ (a : Active). a.journal.completions) puts.others ∙ completions_stay (cancel_requests_for (ready_of old.results) old.children) old.journal),
      inr (ap (λ (a : Active). a.is_replaying) all.others ∙ puts.settled.replaying ∙ sym (ap (λ (a : Active). has_left (left_of a)) all.others)),
    )

-- ---- awaits

module _ (delivery : SignalDelivery) (ignoring : Bool) (awaited : Awaited) where
  passes_by : (found : ChildrenKnown) (old new : Active) → PassesOnBy found ignoring old (Ok awaited) new → KeepsOn delivery old → KeepsOn delivery new
  passes_by known.AllIds old new passes keeps = cancelled_by awaited passes
    where
      cancelled_by : (a : Awaited) → Cancels ignoring old (Ok a) new → KeepsOn delivery new
      cancelled_by awaits.Cancelled all = cancels_on delivery ignoring old new all keeps
      cancelled_by awaits.AnyCompleted none = absurd none
      cancelled_by (awaits.Asleep waits) none = absurd none
  passes_by (known.Unknown n) old new passes keeps = on_same delivery old new passes.1 keeps
  passes_by known.NoId old new passes keeps = on_same delivery old new passes.1 keeps

  passes_on : (old new : Active) → PassesOn ignoring old (Ok awaited) new → KeepsOn delivery old → KeepsOn delivery new
  passes_on old new (inl passes) keeps = passes_by passes.found passes.looked new passes.goes_on (on_looked delivery old passes.looked passes.others passes.looks.delivery keeps)
  passes_on old new (inr out) keeps = absurd (let wrong : Ok awaited ≡ Err unawaited.OutOfMemory = out.0 in cc)

  wakes_by : (cancelled : Bool) (old new : Active) → WakesBy cancelled ignoring old (Ok awaited) new → KeepsOn delivery old → KeepsOn delivery new
  wakes_by false old new wakes keeps = on_same delivery old new wakes.1 keeps
  wakes_by true old new wakes keeps = passes_on old new wakes keeps

  answered_by : (answer : ResolveFutureResult) (cancellation : ImplicitCancellationOption) (old new : Active) → GoesOnBy answer cancellation ignoring old (Ok awaited) new → KeepsOn delivery old
      → KeepsOn delivery new
  answered_by resolved.AnyCompleted cancellation old new goes keeps = wakes_by (is_cancelled_in cancellation (results_of old.results)) old new goes keeps
  answered_by (resolved.WaitExternalInput left) cancellation old new goes keeps = on_same delivery old new goes.1 keeps

  comes_on : (cancellation : ImplicitCancellationOption) (tree : AwaitTree ℕ) (old new : Active) → AwaitComesTo cancellation ignoring tree old (Ok awaited) new → KeepsOn delivery old → KeepsOn delivery new
  comes_on cancellation tree old new (inl comes) keeps =
      answered_by comes.answer cancellation comes.looked new comes.goes_on (on_looked delivery old comes.looked comes.others comes.resolves.delivery keeps)
  comes_on cancellation tree old new (inr out) keeps = absurd (let wrong : Ok awaited ≡ Err unawaited.OutOfMemory = out.0 in cc)

awaited_as : (awaited : Awaited) (between : MachineState) (result : Result AwaitResponse Error) (new : MachineState) → GoesOnAs (Ok awaited) between result new → Stands between → Stands new
awaited_as awaits.AnyCompleted between (Ok response) new goes_on stands = moved between new goes_on.1 stands
awaited_as awaits.AnyCompleted between (Err told) new goes_on stands = absurd goes_on
awaited_as awaits.Cancelled between (Ok response) new goes_on stands = moved between new goes_on.1 stands
awaited_as awaits.Cancelled between (Err told) new goes_on stands = absurd goes_on
awaited_as (awaits.Asleep waits) between result new goes_on stands = sleeps_where (run_for waits between.runs) waits between result new goes_on stands

unawaited_as : (error : AwaitError) (between : MachineState) (result : Result AwaitResponse Error) (new : MachineState) → GoesOnAs (Err error) between result new → Stands new
unawaited_as (unawaited.UncompletedInReplay waits) between (Ok response) new goes_on = absurd goes_on
unawaited_as unawaited.ChildNotId between (Ok response) new goes_on = absurd goes_on
unawaited_as (unawaited.Put error) between (Ok response) new goes_on = absurd goes_on
unawaited_as unawaited.OutOfMemory between (Ok response) new goes_on = absurd goes_on
unawaited_as (unawaited.UncompletedInReplay waits) between (Err told) new goes_on = failed goes_on.cause between told new goes_on.fails
unawaited_as unawaited.ChildNotId between (Err told) new goes_on = failed _ between told new goes_on
unawaited_as (unawaited.Put error) between (Err told) new goes_on = failed goes_on.cause between told new goes_on.fails
unawaited_as unawaited.OutOfMemory between (Err told) new goes_on = failed goes_on.cause between told new goes_on.fails

come_to : (tree : AwaitTree ℕ) (old : MachineState) → is_active old.phase ≡ true → (made : Result Awaited AwaitError) (between : MachineState) (result : Result AwaitResponse Error) (new : MachineState)
    → between ≡ record old { active = between.active }
    → AwaitComesTo old.options.implicit_cancellation (checks_off old.options.non_determinism_checks) tree old.active made between.active → GoesOnAs made between result new
    → Stands old → Stands new
come_to tree old calls (Err error) between result new others comes goes_on stands = unawaited_as error between result new goes_on
come_to tree old calls (Ok awaited) between result new others comes goes_on stands =
    let kept = comes_on old.options.signal_delivery (checks_off old.options.non_determinism_checks) awaited old.options.implicit_cancellation tree old.active between.active comes
    (when_active old.phase old.options.signal_delivery old.active calls stands) in
    awaited_as awaited between result new goes_on (active_again old between.active between others calls kept.0 kept.1)

await_where : (ready : Option EphemeralCompletionId) (tree : AwaitTree ℕ) (old : MachineState) (result : Result AwaitResponse Error) (new : MachineState) → DoesAwaitWhere ready tree old result new
    → Stands old → Stands new
await_where (Some id) tree old (Ok response) new is stands = moved old new is.1 stands
await_where (Some id) tree old (Err told) new is stands = absurd is
await_where None tree old result new unread stands =
    steps_stand (IsAwaited tree) (IsUnexpected (codes "await")) old new stands
    (λ result calls is. come_to tree old calls is.awaited is.between result new is.others is.held is.goes_on stands) (λ told is. failed is.cause old told new is.fails) unread.refusal result unread.steps

pub awaits_stand : (tree : AwaitTree ℕ) (old : MachineState) (result : Result AwaitResponse Error) (new : MachineState) → DoesAwait tree old result new → Stands old → Stands new
awaits_stand tree old result new is stands = await_where (ready_read old.phase old.active.is_replaying old.reads) tree old result new is stands

-- ---- the end

end_closed : (written : Result (Unit {0}) EncodingError) (old : MachineState) (result : Result (Unit {0}) Error) (new : MachineState) → ClosesEnd written old result new → Stands new
end_closed (Ok done) old (Ok ended) new closes = moved (record old { phase = phases.Closed; active = closed_active old.active }) new closes tt
end_closed (Ok done) old (Err told) new closes = absurd closes
end_closed (Err error) old (Ok ended) new closes = absurd closes
end_closed (Err error) old (Err told) new closes = failed closes.cause old told new closes.fails

end_at : (place : EndPlace) (old : MachineState) (result : Result (Unit {0}) Error) (new : MachineState) → EndsAt place old result new → Stands old → Stands new
end_at places.Behind old (Ok done) new is stands = moved old new is stands
end_at places.Behind old (Err told) new is stands = absurd is
end_at places.Processing old result new is stands = end_closed is.written (record old { active = record old.active { output = is.output } }) result new is.closes
end_at places.Elsewhere old (Ok done) new is stands = absurd is
end_at places.Elsewhere old (Err told) new is stands = failed is.cause old told new is.fails

end_as : (kept : Option Error) (old : MachineState) (result : Result (Unit {0}) Error) (new : MachineState) → EndsAs kept old result new → Stands old → Stands new
end_as (Some kept) old (Ok done) new is stands = absurd is
end_as (Some kept) old (Err told) new is stands = moved old new is.0 stands
end_as None old result new is stands = end_at (end_place old.phase old.active.is_replaying) old result new is stands

pub ends_stand : (old : MachineState) (result : Result (Unit {0}) Error) (new : MachineState) → EndsAs (kept_error old.phase) old result new → Stands old → Stands new
ends_stand old result new is stands = end_as (kept_error old.phase) old result new is stands

-- ---- reads of which nothing is recorded

registers_stand : (value : Value) (old : MachineState) (result : Result EphemeralCompletionId Error) (new : MachineState) → Registers value old result new → Stands old → Stands new
registers_stand value old (Ok id) new is stands = moved (record old { reads = known_read value old.reads }) new is.2 stands
registers_stand value old (Err told) new is stands = failed is.cause old told new is.fails

sends_stand : (id : EphemeralCompletionId) (key : Text) (old : MachineState) (result : Result EphemeralCompletionId Error) (new : MachineState) → Sends id key old result new → Stands old → Stands new
sends_stand id key old (Ok taken) new is stands =
    let frame : List ℕ = spelled (read_message old.active.output.version id.number key) in
    let active : Active = record old.active { output = with_frame frame old.active.output } in
    like_again old active new is.2 (output_like old.active active refl (frame_keeps frame old.active.output)) stands
sends_stand id key old (Err told) new is stands = failed is.cause old told new is.fails

asks_next : (key : Text) (old : MachineState) (result : Result EphemeralCompletionId Error) (new : MachineState) → AsksNext key old result new → Stands old → Stands new
asks_next key old result new is stands = sends_stand is.id key (record old { reads = asked old.reads }) result new is.sends stands

asks_stand : (key : Text) (old : MachineState) (result : Result EphemeralCompletionId Error) (new : MachineState) → AsksRead key old result new → Stands old → Stands new
asks_stand key old (Ok id) new is stands = asks_next key old (Ok id) new is stands
asks_stand key old (Err told) new (inl is) stands = asks_next key old (Err told) new is stands
asks_stand key old (Err told) new (inr is) stands = failed is.cause old told new is.fails

asks_where : (is_input_closed : Bool) (key : Text) (old : MachineState) (result : Result EphemeralCompletionId Error) (new : MachineState) → AsksWhere is_input_closed key old result new → Stands old
    → Stands new
asks_where true key old (Ok id) new is stands = absurd is
asks_where true key old (Err told) new is stands = failed is.cause old told new is.fails
asks_where false key old result new is stands = asks_stand key old result new is stands

gets_stand : (known : EagerGetState) (key : Text) (old : MachineState) (result : Result EphemeralCompletionId Error) (new : MachineState) → Gets known key old result new → Stands old → Stands new
gets_stand (told.Value value) key old result new is stands = registers_stand (values.Success value) old result new is stands
gets_stand told.Empty key old result new is stands = registers_stand values.Void old result new is stands
gets_stand told.Unknown key old result new is stands = asks_where old.is_input_closed key old result new is stands

gets_behind : (replaying : Bool) (key : Text) (old : MachineState) (result : Result EphemeralCompletionId Error) (new : MachineState) → GetsBehind replaying key old result new → Stands old → Stands new
gets_behind true key old (Ok id) new is stands = absurd is
gets_behind true key old (Err told) new is stands = failed _ old told new is
gets_behind false key old result new is stands = gets_stand (told_value old.active.state key) key old result new is stands

gets_in : (lacks : Bool) (key : Text) (old : MachineState) (result : Result EphemeralCompletionId Error) (new : MachineState) → GetsIn lacks key old result new → Stands old → Stands new
gets_in true key old (Ok id) new is stands = absurd is
gets_in true key old (Err told) new is stands = failed is.cause old told new is.fails
gets_in false key old result new is stands = gets_behind old.active.is_replaying key old result new is stands

misses_in : (lacks : Bool) (old : MachineState) (told : Error) (new : MachineState) → MissesIn lacks old told new → Stands new
misses_in true old told new is = failed is.cause old told new is.fails
misses_in false old told new (inl is) = failed is.1.cause old told new is.1.fails
misses_in false old told new (inr is) = failed is.1.cause old told new is.1.fails

pub gets_ephemeral : (key : Text) (old : MachineState) (result : Result EphemeralCompletionId Error) (new : MachineState) → IsGot key old result new → Stands old → Stands new
gets_ephemeral key old result new steps stands =
    steps_stand (λ (vm : MachineState). GetsIn (lacks_reads vm.version) key vm) (λ (vm : MachineState). MissesIn (lacks_reads vm.version) vm) old new stands
    (λ result calls is. gets_in (lacks_reads old.version) key old result new is stands) (λ told is. misses_in (lacks_reads old.version) old told new is) None result steps

takes_where : (replaying : Bool) (id : EphemeralCompletionId) (old : MachineState) (result : Result (Option Value) Error) (new : MachineState) → TakesWhere replaying id old result new → Stands old
    → Stands new
takes_where false id old result new is stands = moved (record old { reads = reads_after_take id.number old.reads }) new is.1 stands
takes_where true id old (Ok taken) new is stands = absurd is
takes_where true id old (Err told) new is stands = failed is.cause old told new is.fails

pub takes_ephemeral : (id : EphemeralCompletionId) (old : MachineState) (result : Result (Option Value) Error) (new : MachineState) → IsReadTaken id old result new → Stands old → Stands new
takes_ephemeral id old result new steps stands =
    steps_stand (λ (vm : MachineState). TakesWhere vm.active.is_replaying id vm) (IsUnexpected (codes "TakeEphemeralNotification")) old new stands
    (λ result calls is. takes_where old.active.is_replaying id old result new is stands) (λ told is. failed is.cause old told new is.fails) None result steps
