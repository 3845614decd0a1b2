-- An await is carried out.
use Rattle.std.proofs.Common.{◌≡◌, ◌⊎◌, ◌≤◌, ◌<◌, ◌^◌, ◌==◌, inl, inr, ℕ, Bool, true, false, not, ◌&&◌, List, [], ◌∷◌, ◌++◌, length, codes, Option, Some, None, Result, Ok, Err, IfOk, refl, sym, ap, subst, ◌∙◌, arith}
use Rattle.std.specs.declared.alloc.AllocError.{AllocError}
use Rattle.journal_model.specs.AwaitTree.{AwaitTree}
use Rattle.journal_model.specs.Notification.{Bytes}
use Rattle.journal_model.specs.Request.{Request}
use Rattle.journal_model.specs.Run.{Invocation}
use Rattle.journal_model.specs.declared.call.Answer.{Answer}
use Rattle.journal_model.specs.declared.call.Call.{Call}
use Rattle.journal_model.specs.declared.notification.NotificationId.{NotificationId}
use Rattle.journal_model.specs.declared.options.ImplicitCancellationOption.{ImplicitCancellationOption}
use Rattle.attempt_model.specs.Machine.{Machine, FailedBy, UncompletedInReplay, ChildNotId, reply_unless_refused}
use Rattle.attempt_model.specs.Requests.{put_one}
use Rattle.attempt_model.specs.Results.{Slots}
use Rattle.protocol_errors.specs.Code.{internal, suspended}
use Rattle.protocol_errors.specs.Error.{decoding_code}
use Rattle.protocol_errors.specs.declared.error.Error.{Error}
use Rattle.protocol_stream.specs.ErrorText.{too_long_text}
use Rattle.protocol_stream.specs.declared.decoder.DecodingError.{DecodingError}
use Rattle.protocol_stream.specs.declared.encoder.EncodingError.TheVariants as unsent
use Rattle.protocol_types.specs.declared.message_type.MessageType.TheVariants.{SendSignalCommand}
use Rattle.protocol_types.specs.declared.version.Version.{Version}
use Rattle.vm_awaits.specs.Views.{slots_of}
use Rattle.vm_calls.specs.Active.{Sees, writes_frames}
use Rattle.vm_calls.specs.declared.active.Active.{Active}
use Rattle.vm_calls.specs.declared.call_error.CallError.TheVariants as calls
use Rattle.vm_calls.specs.declared.put_error.PutError.{PutError}
use Rattle.vm_calls.specs.declared.put_error.PutError.TheVariants as puts
use Rattle.vm_commands.specs.HeaderEquality.{same_header}
use Rattle.vm_commands.specs.declared.replay_error.ReplayError.TheVariants as unmatched
use Rattle.vm_context.specs.Journal.{JournalCounts, after_command}
use Rattle.vm_context.specs.Output.{Written}
use Rattle.vm_types.specs.Reads.{EphemeralReads, no_reads}
use Rattle.vm_start.specs.declared.phase.Phase.{Phase}
use Rattle.vm_start.specs.declared.phase.Phase.TheVariants as phases
use Rattle.vm_machine.specs.Causes.{child_not_id_error, CallCauses, TellsPlainError, TellsLast, Unless}
use Rattle.vm_refusals.specs.Refusals.{refusal_code, refusal_text}
use Rattle.vm_refusals.specs.declared.refusal.CallRefusal.{CallRefusal}
use Rattle.vm_refusals.specs.declared.refusal_error.RefusalError.{RefusalError}
use Rattle.journal_model.specs.Refusal.{Refusal, refusal_of}
use Rattle.vm_machine.specs.CallAdmission.{IsRefused}
use Rattle.vm_machine.specs.Calls.{checks_off, IsRefusalOf}
use Rattle.vm_machine.specs.MachineFailure.{MachineFails}
use Rattle.vm_machine.specs.Steps.{IsUnexpected}
use Rattle.vm_machine.specs.declared.machine_state.MachineState.{MachineState}
use Rattle.vm_machine.specs.CallAnswers.{Settles}
use Rattle.vm_progress.specs.SleepingAwaits.{too_deep_error, LacksMemoryToAwait, FailsUntold, SettlesStay, ClosesAs, HandsOutRun, SleepIs, SleepsAs, SleepsWhere}
use Rattle.vm_progress.specs.AwaitEffects.{ready_read, AwaitsUnread, GoesOnAs, IsAwaited, DoesAwaitWhere, DoesAwait}
use Rattle.vm_progress.specs.AwaitedRuns.{executes_any, is_executing_for, run_for}
use Rattle.vm_progress.specs.UncompletedAwaits.{started_id, TellsUncompleted}
use Rattle.vm_progress.proofs.Naming.{uncompleted_code}
use Rattle.vm_progress.specs.declared.asleep.Sleep.{Sleep}
use Rattle.vm_progress.specs.declared.asleep.Sleep.TheVariants as sleeps
use Rattle.vm_runs.specs.Runs.{Runs}
use Rattle.vm_types.specs.declared.answers.AwaitResponse.{AwaitResponse}
use Rattle.vm_types.specs.declared.answers.AwaitResponse.TheVariants.{ExecuteRun, WaitingExternalProgress}
use Rattle.vm_types.specs.declared.handles.EphemeralCompletionId.{EphemeralCompletionId}
use Rattle.vm_waiting.specs.AwaitSteps.{LooksAlone, AwaitComesTo, FailsCancelling, Awaits}
use Rattle.vm_waiting.specs.ChildCancellation.{after_cancels}
use Rattle.vm_waiting.specs.SuspensionFrames.{suspension_payload_in, is_too_deep, Suspends, tells_awaiting, TellsIf}
use Rattle.vm_waiting.specs.TakeEffects.{Becomes}
use Rattle.vm_waiting.specs.WaitsFor.{awaited_ids, waits_for_any, waits_as}
use Rattle.vm_waiting.specs.declared.awaiting.Awaited.{Awaited}
use Rattle.vm_waiting.specs.declared.awaiting.Awaited.TheVariants.{AnyCompleted, Cancelled, Asleep}
use Rattle.vm_waiting.specs.declared.awaiting.AwaitError.{AwaitError}
use Rattle.vm_waiting.specs.declared.awaiting.AwaitError.TheVariants as unawaited
use Rattle.vm_waiting.specs.declared.suspending.TellError.{TellError}
use Rattle.vm_waiting.specs.declared.suspending.TellError.TheVariants.{TooDeep, Encoding}
use Rattle.vm_waiting.specs.declared.waits_for.WaitsFor.{WaitsFor}
use Rattle.vm_waiting.specs.declared.waits_for.WaitsFor.TheVariants as waitings
use Rattle.vm_outcomes.specs.CallOutcomes.{tells_waiting, Answers, Waits, Executes, Suspends as IsSuspended, Comes, CarriesOut}
use Rattle.vm_outcomes.specs.Causes.{ByFault, TooLong, TooDeep as Deep, Unread, Differs, AreRequestsAsked, IsLookedAt, IsAsleep, waiting_payload, is_wait_too_deep, HasCause}
use Rattle.vm_outcomes.specs.DrivenMachine.{IsDriven, reply_of}
use Rattle.vm_outcomes.specs.Outcomes.{awaited_as}
use Rattle.vm_outcomes.specs.PartialCalls.{unless_refused, HasPut, IsUnmatchedNext}
use Rattle.vm_outcomes.specs.declared.outcome.CallOutcome.{CallOutcome}
use Rattle.vm_outcomes.proofs.Answering.{leaves_runs, driven_on, commands_stay, answered, answered_quietly, none_taken, nothing_written}
use Rattle.vm_outcomes.proofs.Calling.{refusal_none, refusal_some}
use Rattle.vm_outcomes.proofs.Failing.{code_apart, plain_code, told_plain, told_last, looked_at, looked_asked, none_put, memory_lacks, mismatches_at, unless_ok, fails_of, failed_behind, refused_cause}
use Rattle.vm_outcomes.proofs.Steps.{steps_of}
use Rattle.vm_outcomes.proofs.PartialCalls.{StopsBehind, StopsFor, PutWhy, Keeps, await_keeps}
use Rattle.vm_outcomes.proofs.Telling.{tells_seen, untold, failed_unsuspended}

-- ---- what is told is no suspension

abbrev Apart : Result Error AllocError → Type 0
Apart told = IfOk told (λ error. (error.code.0 == suspended) ≡ false)

memory_apart : (told : Result Error AllocError) → IfOk told (λ error. ⊥) → Apart told
memory_apart (Ok error) none = absurd none
memory_apart (Err refused) none = tt

child_apart : (told : Result Error AllocError) → told ≡ Ok child_not_id_error → Apart told
child_apart told is = subst Apart (sym is) refl

uncompleted_apart : (invocation : Bytes) (slots : Slots) (runs : Runs) (waits : WaitsFor) (told : Result Error AllocError) → IfOk told (TellsUncompleted invocation slots runs waits) → Apart told
uncompleted_apart invocation slots runs waits (Ok error) uncompleted = ap (λ (code : ℕ). code == suspended) (uncompleted_code invocation slots runs waits error uncompleted)
uncompleted_apart invocation slots runs waits (Err refused) uncompleted = tt

refusal_apart : (refused : CallRefusal) → (refusal_code refused == suspended) ≡ false
refusal_apart CallRefusal.EmptyIdempotencyKey = refl
refusal_apart CallRefusal.EmptyScope = refl
refusal_apart CallRefusal.EmptyLimitKey = refl
refusal_apart CallRefusal.UnsupportedScope = refl
refusal_apart CallRefusal.UnsupportedLimitKey = refl
refusal_apart CallRefusal.UnsupportedFailureMetadata = refl
refusal_apart CallRefusal.UnsupportedAtLeast = refl
refusal_apart CallRefusal.AwaitTooDeep = refl
refusal_apart CallRefusal.OutOfBoundsDuration = refl

refused_apart : (refused : CallRefusal) (text : Option Bytes) (told : Result Error AllocError) → IfOk told (TellsPlainError (refusal_code refused) text) → Apart told
refused_apart refused text told causes = code_apart (refusal_code refused) told (refusal_apart refused) (plain_code (refusal_code refused) text told causes)

decoding_apart : (error : DecodingError) → (decoding_code error == suspended) ≡ false
decoding_apart (DecodingError.UnknownMessageType ty) = refl
decoding_apart (DecodingError.DecodeMessage ty fault) = refl
decoding_apart (DecodingError.UnexpectedMessageType expected actual index) = refl
decoding_apart (DecodingError.MissingField field) = refl
decoding_apart DecodingError.OutOfMemory = refl

last_apart : (journal : JournalCounts) (code : ℕ) (text : Option (List ℕ)) (told : Result Error AllocError) → (code == suspended) ≡ false → Unless false (TellsLast journal code text) told → Apart told
last_apart journal code text (Ok error) other tells = ap (λ (e : Error). e.code.0 == suspended) tells.about ∙ other
last_apart journal code text (Err refused) other tells = tt

put_apart : {M : Type 0} (difference : M → M → List ℕ) (journal : JournalCounts) (error : PutError M) (told : Result Error AllocError) → CallCauses difference journal (calls.Put error) told → Apart told
put_apart difference journal (puts.Replay (unmatched.Unavailable error)) told causes = last_apart journal _ _ told refl causes
put_apart difference journal (puts.Replay (unmatched.Decoding error)) told causes = last_apart journal _ _ told (decoding_apart error) causes
put_apart difference journal (puts.Replay (unmatched.Mismatch error)) told causes = last_apart journal _ _ told refl causes
put_apart difference journal (puts.Replay unmatched.OutOfMemory) (Ok error) causes = absurd causes
put_apart difference journal (puts.Replay unmatched.OutOfMemory) (Err refused) causes = tt
put_apart difference journal (puts.Encoding unsent.PayloadTooLong) told causes = last_apart journal _ _ told refl causes
put_apart difference journal (puts.Encoding unsent.OutOfMemory) (Ok error) causes = absurd causes
put_apart difference journal (puts.Encoding unsent.OutOfMemory) (Err refused) causes = tt

-- it is told of what is waited for
uncompleted_told : (invocation : Bytes) (slots : Slots) (runs : Runs) (waits : WaitsFor) (told : Result Error AllocError) → IfOk told (TellsUncompleted invocation slots runs waits)
    → IfOk told (λ error. (some : WaitsFor) × TellsUncompleted invocation slots runs some error)
uncompleted_told invocation slots runs waits (Ok error) uncompleted = (waits, uncompleted)
uncompleted_told invocation slots runs waits (Err refused) uncompleted = tt

asked_behind : (front : List Request) (old new : JournalCounts) → new ≡ after_command SendSignalCommand [] (after_cancels front old) → AreRequestsAsked front old new
asked_behind front old new is = inr (
  SendSignalCommand,
  ([], record { commands = ap (λ (j : JournalCounts). j.commands) is; last_type = ap (λ (j : JournalCounts). j.last_type) is; last_name = ap (λ (j : JournalCounts). j.last_name) is }),
)

-- an await that waits is not refused
unrefused_where : (given : Invocation) (m : Machine) (tree : AwaitTree ℕ) (headers : Request → Request → Bool) (refusal : Option Refusal) (waits : WaitsFor) (machine : Machine)
    → reply_unless_refused headers given m (Call.Await tree) refusal ≡ waits_as waits machine → refusal ≡ None
unrefused_where given m tree headers None waits machine replies = refl
unrefused_where given m tree headers (Some refused) (waitings.Future left) machine replies = cc
unrefused_where given m tree headers (Some refused) (waitings.Child completion) machine replies = cc

-- nor is one that makes a request
none_behind : (front behind : List Request) (next : Request) (rest : List Request) → [] ≡ front ++ behind → behind ≡ next ∷ rest → ⊥
none_behind [] behind next rest none is = let made : [] ≡ next ∷ rest = none ∙ is in cc
none_behind (request ∷ front) behind next rest none is = cc

unrefused_behind : (refusal : Option Refusal) (requests front behind : List Request) (next : Request) (rest : List Request)
    → unless_refused refusal requests ≡ front ++ behind → behind ≡ next ∷ rest → refusal ≡ None
unrefused_behind None requests front behind next rest parts is = refl
unrefused_behind (Some refused) requests front behind next rest parts is = absurd (none_behind front behind next rest parts is)

module _ (given : Invocation) (m : Machine) (tree : AwaitTree ℕ) (old : MachineState) (driven : IsDriven given m old) where
  -- the machine fails behind the requests that were put
  fails_behind : (told : Result Error AllocError) (far : HasPut given m (Call.Await tree) old) (active : Active) (answer : Error) (new : MachineState) → Apart told
      → HasCause given m (Call.Await tree) old far active told → active.output ≡ writes_frames far.more old.active.output → MachineFails told (record old { active = active }) answer new
      → Comes given m (Call.Await tree) old (awaited_as (Err answer)) new
  fails_behind told far active answer new apart has_cause written fails =
      subst (λ (o : CallOutcome). Comes given m (Call.Await tree) old o new)
      (sym (failed_unsuspended old.version old.options.journal_mismatch_retry_behavior told active.output answer new.phase new.active.output apart (fails_of told (record old { active = active }) answer new driven.phase fails)))
      (failed_behind given m (Call.Await tree) old driven.phase told far active answer new has_cause written fails)

  abbrev none : HasPut given m (Call.Await tree) old
  none = none_put given m (Call.Await tree) old

  -- it fails before any
  fails_awaiting : (told : Result Error AllocError) (active : Active) (answer : Error) (new : MachineState) → Apart told → HasCause given m (Call.Await tree) old none active told
      → active.output ≡ old.active.output → MachineFails told (record old { active = active }) answer new → Comes given m (Call.Await tree) old (awaited_as (Err answer)) new
  fails_awaiting told active answer new apart has_cause unwritten fails =
      fails_behind told none active answer new apart has_cause (unwritten ∙ nothing_written old.active.output) fails

  lacks_memory_behind : (far : HasPut given m (Call.Await tree) old) (active : Active) (answer : Error) (new : MachineState) → AreRequestsAsked far.front old.active.journal active.journal
      → active.output ≡ writes_frames far.more old.active.output → LacksMemoryToAwait (record old { active = active }) answer new → Comes given m (Call.Await tree) old (awaited_as (Err answer)) new
  lacks_memory_behind far active answer new asked written lacks =
      fails_behind lacks.cause far active answer new (memory_apart lacks.cause lacks.causes) (memory_lacks given m (Call.Await tree) old far active asked lacks.cause lacks.causes) written lacks.fails

  -- ---- nothing but what has come was looked at

  module _ (resolved : Active) (looks : LooksAlone old.active resolved) where
    looked : IsLookedAt old.active resolved
    looked = looked_at old.active resolved looks

    unwritten : resolved.output ≡ old.active.output
    unwritten = ap (λ (a : Active). a.output) looks

    lacks_memory : (answer : Error) (new : MachineState) → LacksMemoryToAwait (record old { active = resolved }) answer new → Comes given m (Call.Await tree) old (awaited_as (Err answer)) new
    lacks_memory answer new lacks =
        lacks_memory_behind none resolved answer new (looked_asked old.active resolved looked) (unwritten ∙ nothing_written old.active.output) lacks

    child_fails : (told : Result Error AllocError) (answer : Error) (new : MachineState) → told ≡ Ok child_not_id_error → reply_of old given m (Call.Await tree) ≡ FailedBy ChildNotId
        → MachineFails told (record old { active = resolved }) answer new → Comes given m (Call.Await tree) old (awaited_as (Err answer)) new
    child_fails told answer new is replies fails =
        fails_awaiting told resolved answer new (child_apart told is) (record {
          cause = ByFault ChildNotId;
          when = replies;
          at = tt;
          tells = subst (λ (r : Result Error AllocError). IfOk r (λ error. error ≡ child_not_id_error)) (sym is) refl;
          leaves = looked;
        }) unwritten fails

    uncompleted_fails : (waits : WaitsFor) (told : Result Error AllocError) (answer : Error) (new : MachineState) → IfOk told (TellsUncompleted (started_id old.start) (slots_of resolved.results) old.runs waits)
        → reply_of old given m (Call.Await tree) ≡ FailedBy UncompletedInReplay → MachineFails told (record old { active = resolved }) answer new → Comes given m (Call.Await tree) old (awaited_as (Err answer)) new
    uncompleted_fails waits told answer new causes replies fails =
        fails_awaiting told resolved answer new (uncompleted_apart (started_id old.start) (slots_of resolved.results) old.runs waits told causes)
        (record { cause = ByFault UncompletedInReplay; when = replies; at = tt; tells = uncompleted_told (started_id old.start) (slots_of resolved.results) old.runs waits told causes; leaves = looked }) unwritten fails

    module _ (waits : WaitsFor) (becomes : Becomes given m (reply_of old given m (Call.Await tree)) (waits_as waits) resolved) where
      abbrev ids : AwaitTree NotificationId
      ids = awaited_ids resolved waits

      -- what was looked at, and nothing else of it, is kept for calls
      driven_asleep : (active : Active) (runs : Runs) → Sees given active becomes.machine → active.output.version ≡ resolved.output.version → active.output.has_commands ≡ resolved.output.has_commands
          → IsDriven given becomes.machine (record old { active = active; runs = runs })
      driven_asleep active runs sees version commands =
          driven_on given m becomes.machine old active runs driven sees (version ∙ ap (λ (w : Written). w.version) unwritten)
          (commands_stay m becomes.machine old.active.output active.output becomes.written (commands ∙ ap (λ (w : Written). w.has_commands) unwritten) driven.commands)

      -- a run of it is executed
      executes : (handle : ℕ) (response : AwaitResponse) (new : MachineState) → response ≡ ExecuteRun handle → HandsOutRun waits handle (record old { active = resolved }) new
          → Comes given m (Call.Await tree) old (awaited_as (Ok response)) new
      executes handle response new is hands =
          subst (λ (r : AwaitResponse). Comes given m (Call.Await tree) old (awaited_as (Ok r)) new) (sym is)
          (subst (λ (vm : MachineState). Executes given m (Call.Await tree) old handle vm) (sym hands.others) (record {
            waits = waits;
            machine = becomes.machine;
            replies = becomes.replies;
            driven = driven_asleep resolved new.runs becomes.sees refl refl;
            written = becomes.written;
            unwritten = unwritten;
            looks = hands.looks;
            others = refl;
          }))

      -- ---- no run of it is to be executed

      module _ (no_run : run_for waits old.runs ≡ None) where
        abbrev is_told : Bool
        is_told = tells_awaiting old.version old.options.awaiting_on_policy (executes_any old.runs) (waits_for_any waits)

        abbrev asleep : (old.is_input_closed ≡ true → is_executing_for waits old.runs ≡ false) → IsAsleep given m (Call.Await tree) old
        asleep idle = record { waits = waits; machine = becomes.machine; replies = becomes.replies; none = no_run; idle = idle; resolved = resolved; sees = becomes.sees }

        -- a frame that tells it would be too long
        fails_long : (answer : Error) (new : MachineState) → 2 ^ 32 ≤ length (waiting_payload old.is_input_closed old.version ids) → (old.is_input_closed ≡ true → is_executing_for waits old.runs ≡ false)
            → FailsUntold (Encoding unsent.PayloadTooLong) (record old { active = resolved }) answer new → Comes given m (Call.Await tree) old (awaited_as (Err answer)) new
        fails_long answer new long idle fails =
            fails_awaiting fails.cause resolved answer new (code_apart internal fails.cause refl (plain_code internal (Some too_long_text) fails.cause fails.causes)) (record {
              cause = TooLong;
              when = (unrefused_where given m tree (same_header (checks_off old.options.non_determinism_checks) (Call.Await tree)) (refusal_of given.version (Call.Await tree)) waits becomes.machine becomes.replies, inr (inl (asleep idle, long)));
              at = tt;
              tells = told_plain resolved.journal internal (Some too_long_text) fails.cause fails.causes;
              leaves = looked_asked old.active resolved looked;
            }) unwritten fails.fails

        -- it is nested too deep for one
        fails_deep : (answer : Error) (new : MachineState) → is_wait_too_deep old.is_input_closed old.version is_told ids ≡ true → (old.is_input_closed ≡ true → is_executing_for waits old.runs ≡ false)
            → FailsUntold TooDeep (record old { active = resolved }) answer new → Comes given m (Call.Await tree) old (awaited_as (Err answer)) new
        fails_deep answer new deep idle fails =
            fails_awaiting (Ok too_deep_error) resolved answer new refl
            (record { cause = Deep; when = (asleep idle, deep); at = tt; tells = refl; leaves = looked }) unwritten fails

        never_closed : old.is_input_closed ≡ false → old.is_input_closed ≡ true → is_executing_for waits old.runs ≡ false
        never_closed is_open is_closed = (let wrong : true ≡ false = sym is_closed ∙ is_open in cc)

        -- it waits, and tells of it or does not
        waits_with : (told : Bool) (active : Active) (response : AwaitResponse) (new : MachineState) (input run : Bool) → response ≡ WaitingExternalProgress input run → new ≡ record old { active = active }
            → TellsIf told ids resolved (Ok tt) active → tells_waiting old waits ≡ told → (old.is_input_closed ≡ false) ⊎ (is_executing_for waits old.runs ≡ true)
            → Comes given m (Call.Await tree) old (awaited_as (Ok response)) new
        waits_with told active response new input run is others tells same still =
            let seen = tells_seen given becomes.machine told ids resolved active tells becomes.sees in
            subst (λ (r : AwaitResponse). Comes given m (Call.Await tree) old (awaited_as (Ok r)) new) (sym is)
            (subst (λ (vm : MachineState). Waits given m (Call.Await tree) old vm) (sym others) (record {
              waits = waits;
              is_open = still;
              none = no_run;
              machine = becomes.machine;
              replies = becomes.replies;
              driven = driven_asleep active old.runs seen.sees seen.version seen.commands;
              written = becomes.written;
              resolved = resolved;
              unwritten = unwritten;
              tells = subst (λ (b : Bool). TellsIf b ids resolved (Ok tt) active) (sym same) tells;
              others = refl;
            }))

        -- it stays for more input, and cannot tell of it
        stays_untold : (is_open : old.is_input_closed ≡ false) (told : Bool) (error : TellError) (active : Active) (answer : Error) (new : MachineState) → is_told ≡ told
            → TellsIf told ids resolved (Err error) active → FailsUntold error (record old { active = resolved }) answer new → Comes given m (Call.Await tree) old (awaited_as (Err answer)) new
        stays_untold is_open true TooDeep active answer new same tells fails =
            fails_deep answer new (ap (λ (b : Bool). is_wait_too_deep b old.version is_told ids) is_open ∙ ap (λ (b : Bool). b && is_too_deep ids) same ∙ tells.0) (never_closed is_open) fails
        stays_untold is_open true (Encoding unsent.PayloadTooLong) active answer new same tells fails =
            fails_long answer new (subst (λ (b : Bool). 2 ^ 32 ≤ length (waiting_payload b old.version ids)) (sym is_open) tells.1.0.0) (never_closed is_open) fails
        stays_untold is_open true (Encoding unsent.OutOfMemory) active answer new same tells fails = lacks_memory answer new fails
        stays_untold is_open false error active answer new same tells fails = absurd tells

        -- it stays for more input
        stays : (is_open : old.is_input_closed ≡ false) (executing : Bool) (told : Result (Unit {0}) TellError) (active : Active) (result : Result AwaitResponse Error) (new : MachineState)
            → TellsIf is_told ids resolved told active → SettlesStay executing told (record old { active = active }) result new → Comes given m (Call.Await tree) old (awaited_as result) new
        stays is_open executing (Ok done) active (Ok response) new tells settles =
            waits_with is_told active response new true executing settles.0 settles.1 tells (ap (λ (b : Bool). not b && is_told) is_open) (inl is_open)
        stays is_open executing (Ok done) active (Err answer) new tells settles = absurd settles
        stays is_open executing (Err error) active (Ok response) new tells settles = absurd settles
        stays is_open executing (Err error) active (Err answer) new tells settles =
            stays_untold is_open is_told error active answer new refl tells
            (subst (λ (a : Active). FailsUntold error (record old { active = a }) answer new) (untold is_told ids resolved active error tells) settles)

        -- it is suspended
        suspends : (is_closed : old.is_input_closed ≡ true) (idle : is_executing_for waits old.runs ≡ false) (written : Result (Unit {0}) TellError) (active : Active) (answer : Error) (new : MachineState)
            → Suspends old.version ids resolved written active → ClosesAs written (record old { active = active }) answer new → Comes given m (Call.Await tree) old (awaited_as (Err answer)) new
        suspends is_closed idle (Ok done) active answer new suspended closes =
            subst (λ (e : Error). Comes given m (Call.Await tree) old (awaited_as (Err e)) new) (sym closes.0)
            (subst (λ (vm : MachineState). IsSuspended given m (Call.Await tree) old vm) (sym closes.1) (record {
              is_closed = is_closed;
              waits = waits;
              none = no_run;
              idle = idle;
              machine = becomes.machine;
              replies = becomes.replies;
              written = becomes.written;
              resolved = resolved;
              sees = becomes.sees;
              unwritten = unwritten;
              shallow = suspended.0;
              suspended = suspended.1;
              others = refl;
            }))
        suspends is_closed idle (Err TooDeep) active answer new suspended closes =
            fails_deep answer new (ap (λ (b : Bool). is_wait_too_deep b old.version is_told ids) is_closed ∙ suspended.0) (λ closed. idle)
            (subst (λ (a : Active). FailsUntold TooDeep (record old { active = a }) answer new) suspended.1 closes)
        suspends is_closed idle (Err (Encoding unsent.PayloadTooLong)) active answer new suspended closes =
            fails_long answer new
            (subst (λ (b : Bool). 2 ^ 32 ≤ length (waiting_payload b old.version ids)) (sym is_closed)
            (subst (λ (v : Version). 2 ^ 32 ≤ length (suspension_payload_in v ids)) (ap (λ (w : Written). w.version) unwritten ∙ driven.written) suspended.1.0))
            (λ closed. idle)
            (subst (λ (a : Active). FailsUntold (Encoding unsent.PayloadTooLong) (record old { active = a }) answer new) suspended.1.1 closes)
        suspends is_closed idle (Err (Encoding unsent.OutOfMemory)) active answer new suspended closes =
            lacks_memory answer new (subst (λ (a : Active). LacksMemoryToAwait (record old { active = a }) answer new) suspended.1 closes)

        sleeps_as : (sleep : Sleep) (result : Result AwaitResponse Error) (new : MachineState) → SleepIs sleep waits (record old { active = resolved }) → SleepsAs sleep waits (record old { active = resolved }) result new
            → Comes given m (Call.Await tree) old (awaited_as result) new
        sleeps_as sleeps.Stays result new is goes_on = stays is (is_executing_for waits old.runs) goes_on.told goes_on.active result new goes_on.tells goes_on.settles
        sleeps_as sleeps.Unanswered result new is goes_on =
            let flying : 0 < length no_reads.in_flight = subst (λ (reads : EphemeralReads). 0 < length reads.in_flight) driven.reads is.1 in
            absurd (omega (arith, flying))
        sleeps_as sleeps.Proposal (Ok response) new is goes_on =
            waits_with false resolved response new false true goes_on.0 goes_on.1 refl (ap (λ (b : Bool). not b && is_told) is.0) (inr is.2)
        sleeps_as sleeps.Proposal (Err answer) new is goes_on = absurd goes_on
        sleeps_as sleeps.Suspends (Ok response) new is goes_on = absurd goes_on
        sleeps_as sleeps.Suspends (Err answer) new is goes_on = suspends is.0 is.2 goes_on.written goes_on.active answer new goes_on.suspends goes_on.closes

      sleeps_where : (found : Option ℕ) (result : Result AwaitResponse Error) (new : MachineState) → run_for waits old.runs ≡ found → SleepsWhere found waits (record old { active = resolved }) result new
          → Comes given m (Call.Await tree) old (awaited_as result) new
      sleeps_where (Some handle) (Ok response) new is hands = executes handle response new hands.0 hands.1
      sleeps_where (Some handle) (Err answer) new is hands = absurd hands
      sleeps_where None result new is goes_on = sleeps_as is goes_on.sleep result new goes_on.is goes_on.goes_on

  -- ---- a cancellation stops among its requests

  module _ (active : Active) (stops : StopsBehind given m tree old active) where
    command_asked : AreRequestsAsked stops.far.front old.active.journal active.journal
    command_asked = asked_behind stops.far.front old.active.journal active.journal stops.journal

    unmatched_next : put_one (same_header (checks_off old.options.non_determinism_checks) (Call.Await tree)) stops.next stops.far.put.left stops.far.put.written ≡ None → IsUnmatchedNext given m (Call.Await tree) old stops.far.behind stops.far.put
    unmatched_next is = subst (λ (behind : List Request). IsUnmatchedNext given m (Call.Await tree) old behind stops.far.put) (sym stops.behind) is

    -- why the next request is not put is why the machine fails
    cancel_cause : {M : Type 0} (difference : M → M → List ℕ) (error : PutError M) → PutWhy given m tree old error stops.far.put stops.next
        → FailsCancelling (checks_off old.options.non_determinism_checks) given m tree error old.active active → (told : Result Error AllocError)
        → CallCauses difference active.journal (calls.Put error) told → HasCause given m (Call.Await tree) old stops.far active told
    cancel_cause difference (puts.Replay (unmatched.Unavailable error)) why awaits told causes = absurd why
    cancel_cause difference (puts.Replay (unmatched.Decoding error)) why awaits told causes =
        mismatches_at given m (Call.Await tree) old stops.far active command_asked (Unread error) told awaits.1.0 (unmatched_next why.0) why.1 causes
    cancel_cause difference (puts.Replay (unmatched.Mismatch error)) why awaits told causes =
        mismatches_at given m (Call.Await tree) old stops.far active command_asked (Differs error.command_index (difference error.actual error.expected)) told awaits.1 (unmatched_next why) tt causes
    cancel_cause difference (puts.Replay unmatched.OutOfMemory) why awaits told causes = memory_lacks given m (Call.Await tree) old stops.far active command_asked told (unless_ok told causes)
    cancel_cause difference (puts.Encoding unsent.PayloadTooLong) why awaits told causes = record {
      cause = TooLong;
      when = (unrefused_behind (refusal_of given.version (Call.Await tree)) _ stops.far.front stops.far.behind stops.next stops.rest stops.far.parts stops.behind, inr (inr (record { next = stops.next; rest = stops.rest; behind = stops.behind; left = why.0; long = why.1 })));
      at = tt;
      tells = told_last active.journal internal (Some too_long_text) told causes;
      leaves = command_asked;
    }
    cancel_cause difference (puts.Encoding unsent.OutOfMemory) why awaits told causes = memory_lacks given m (Call.Await tree) old stops.far active command_asked told (unless_ok told causes)

  cancel_fails : {M : Type 0} (difference : M → M → List ℕ) (error : PutError M) (active : Active) (result : Result AwaitResponse Error) (new : MachineState) → StopsFor given m tree old error active
      → FailsCancelling (checks_off old.options.non_determinism_checks) given m tree error old.active active → Settles difference (Err (calls.Put error)) (record old { active = active }) result new
      → Comes given m (Call.Await tree) old (awaited_as result) new
  cancel_fails difference error active (Ok response) new stops awaits fails = absurd fails
  cancel_fails difference error active (Err answer) new stops awaits fails =
      fails_behind fails.cause stops.stops.far active answer new (put_apart difference active.journal error fails.cause fails.causes)
      (cancel_cause active stops.stops difference error stops.why awaits fails.cause fails.causes) stops.stops.output fails.fails

  -- ---- what it has come to

  -- it goes on from there
  goes_on_as : (awaited : Result Awaited AwaitError) (resolved : Active) (result : Result AwaitResponse Error) (new : MachineState) → Keeps given m tree old awaited resolved
      → Awaits (checks_off old.options.non_determinism_checks) given m tree old.active awaited resolved → GoesOnAs awaited (record old { active = resolved }) result new
      → Comes given m (Call.Await tree) old (awaited_as result) new
  goes_on_as (Ok AnyCompleted) resolved (Ok response) new looks awaits goes_on =
      subst (λ (r : AwaitResponse). Comes given m (Call.Await tree) old (awaited_as (Ok r)) new) (sym goes_on.0)
      (subst (λ (vm : MachineState). Answers given m (Call.Await tree) old Answer.Woken vm) (sym goes_on.1)
      (answered_quietly given m (Call.Await tree) old driven old.runs (leaves_runs m (Call.Await tree) old refl) (none_taken m (Call.Await tree) refl refl) Answer.Woken resolved awaits (unwritten resolved looks)))
  goes_on_as (Ok AnyCompleted) resolved (Err answer) new looks awaits goes_on = absurd goes_on
  goes_on_as (Ok Cancelled) resolved (Ok response) new keeps awaits goes_on =
      subst (λ (r : AwaitResponse). Comes given m (Call.Await tree) old (awaited_as (Ok r)) new) (sym goes_on.0)
      (subst (λ (vm : MachineState). Answers given m (Call.Await tree) old Answer.Cancelled vm) (sym goes_on.1)
      (answered given m (Call.Await tree) old driven old.runs (leaves_runs m (Call.Await tree) old refl) (inl refl) Answer.Cancelled resolved awaits))
  goes_on_as (Ok Cancelled) resolved (Err answer) new keeps awaits goes_on = absurd goes_on
  goes_on_as (Ok (Asleep waits)) resolved result new looks awaits goes_on = sleeps_where resolved looks waits awaits (run_for waits old.runs) result new refl goes_on
  goes_on_as (Err (unawaited.UncompletedInReplay waits)) resolved (Ok response) new looks awaits goes_on = absurd goes_on
  goes_on_as (Err (unawaited.UncompletedInReplay waits)) resolved (Err answer) new looks awaits goes_on =
      uncompleted_fails resolved looks waits goes_on.cause answer new goes_on.causes awaits goes_on.fails
  goes_on_as (Err unawaited.ChildNotId) resolved (Ok response) new looks awaits goes_on = absurd goes_on
  goes_on_as (Err unawaited.ChildNotId) resolved (Err answer) new looks awaits goes_on = child_fails resolved looks (Ok child_not_id_error) answer new refl awaits goes_on
  goes_on_as (Err (unawaited.Put error)) resolved result new stops awaits goes_on = cancel_fails _ error resolved result new stops awaits goes_on
  goes_on_as (Err unawaited.OutOfMemory) resolved (Ok response) new keeps awaits goes_on = absurd goes_on
  goes_on_as (Err unawaited.OutOfMemory) resolved (Err answer) new (inl looks) awaits goes_on = lacks_memory resolved looks answer new goes_on
  goes_on_as (Err unawaited.OutOfMemory) resolved (Err answer) new (inr stops) awaits goes_on =
      lacks_memory_behind stops.far resolved answer new (command_asked resolved stops) stops.output goes_on

  await_made : refusal_of given.version (Call.Await tree) ≡ None → (result : Result AwaitResponse Error) (new : MachineState) → IsAwaited tree old result new → Comes given m (Call.Await tree) old (awaited_as result) new
  await_made unrefused result new made =
      goes_on_as made.awaited made.between.active result new
      (await_keeps given m tree old driven.sees unrefused made.awaited made.between.active
      (subst (λ (c : ImplicitCancellationOption). AwaitComesTo c (checks_off old.options.non_determinism_checks) tree old.active made.awaited made.between.active) (sym driven.version.cancellation) made.held))
      (made.awaits given m driven.version.cancellation unrefused driven.sees)
      (subst (λ (vm : MachineState). GoesOnAs made.awaited vm result new) made.others made.goes_on)

  no_read_ready : (is_replaying : Bool) → ready_read phases.Active is_replaying no_reads ≡ None
  no_read_ready true = refl
  no_read_ready false = refl

  none_ready : ready_read old.phase old.active.is_replaying old.reads ≡ None
  none_ready =
      ap (λ (p : Phase). ready_read p old.active.is_replaying old.reads) driven.phase
      ∙ ap (λ (reads : EphemeralReads). ready_read phases.Active old.active.is_replaying reads) driven.reads ∙ no_read_ready old.active.is_replaying

  await_refused : (error : RefusalError) (answer : Error) (new : MachineState) → IsRefusalOf old.version (Call.Await tree) [] (Some error) → IsRefused error old answer new
      → Comes given m (Call.Await tree) old (awaited_as (Err answer)) new
  await_refused error answer new refuses is_refused =
      fails_awaiting is_refused.cause old.active answer new (refused_apart error.refusal (Some (refusal_text error)) is_refused.cause is_refused.causes)
      (refused_cause given m (Call.Await tree) old driven.phase error answer old.runs new (ap (λ (n : ℕ). refusal_of n (Call.Await tree)) driven.version.version ∙ refuses.0) refuses.1 refuses.2 is_refused) refl is_refused.fails

  await_comes : (result : Result AwaitResponse Error) (new : MachineState) → DoesAwait tree old result new → Comes given m (Call.Await tree) old (awaited_as result) new
  await_comes result new does =
      let unread : AwaitsUnread tree old result new = subst (λ (ready : Option EphemeralCompletionId). DoesAwaitWhere ready tree old result new) none_ready does in
      steps_of (IsAwaited tree) (IsUnexpected (codes "await")) unread.refusal old driven.phase (λ (r : Result AwaitResponse Error) (vm : MachineState). Comes given m (Call.Await tree) old (awaited_as r) vm)
      (λ r vm free made. await_made (refusal_none given (Call.Await tree) [] unread.refusal old driven.version unread.refuses free) r vm made)
      (λ error told vm some refused. await_refused error told vm (refusal_some (Call.Await tree) [] unread.refusal error old unread.refuses some) refused) result new unread.steps

-- an await is carried out
pub await_carried : (tree : AwaitTree ℕ) (asked : AwaitTree ℕ) (old : MachineState) (result : Result AwaitResponse Error) (new : MachineState) (outcome : CallOutcome) → asked ≡ tree
    → outcome ≡ awaited_as result → DoesAwait asked old result new → CarriesOut (Call.Await tree) old outcome new
await_carried tree asked old result new outcome same is does = λ given m driven.
    subst (λ (o : CallOutcome). Comes given m (Call.Await tree) old o new) (sym is)
    (await_comes given m tree old driven result new (subst (λ (t : AwaitTree ℕ). DoesAwait t old result new) same does))
