-- What calls make fits the records.
use Rattle.std.proofs.Common.{◌≡◌, ◌<◌, ◌≤◌, ◌+◌, ◌-◌, ◌^◌, ℕ, suc, arith, Bool, true, false, List, [], ◌∷◌, ◌++◌, length, Option, Some, None, refl, sym, subst}
use Rattle.std.specs.Prelude.{IsUtf8, IfSome, if◌then◌else◌, nat_le}
use Rattle.std.specs.List.{AllByRecursion}
use Rattle.std.proofs.lemmas.Bool.{leb-false}
use Rattle.std.proofs.lemmas.Str.{IsUtf8-nil}
use Rattle.protocol_wire.specs.declared.record.TheConstants.{LEVELS}
use Rattle.journal_model.specs.Notification.{Bytes, Text, Arrival}
use Rattle.journal_model.specs.declared.value.NonEmptyValue.{NonEmptyValue}
use Rattle.journal_model.specs.declared.call.Call.{Call}
use Rattle.journal_model.specs.declared.call.Moment.{Moment}
use Rattle.journal_model.specs.declared.call.Target.{Target}
use Rattle.journal_model.specs.declared.call.AttachInvocationTarget.{AttachInvocationTarget}
use Rattle.journal_model.specs.declared.value.Value.{Value}
use Rattle.journal_model.specs.Request.{Request, SignalValue}
use Rattle.journal_model.specs.declared.notification.SignalKey.{SignalKey}
use Rattle.journal_model.specs.Refusal.{Refusal, milliseconds, first_refusal, moment_tests, target_tests, send_tests, refusal_of}
use Rattle.journal_model.specs.declared.options.RunOptions.{RunOptions}
use Rattle.journal_model.specs.State.{StartState, knows_key, knows_all_keys, known_value, known_keys}
use Rattle.journal_model.specs.History.{Step, completions_of, next_completion, requests_of}
use Rattle.journal_model.specs.Await.{child_result, cancel_request, cancel_requests}
use Rattle.journal_model.specs.Run.{Invocation, requests_to, name_or_empty, invoke_time}
use Rattle.attempt_model.specs.Requests.{Commands, requests_by, read_value, read_keys, fresh_value, fresh_keys}
use Rattle.attempt_model.specs.Results.{Ready}
use Rattle.attempt_model.specs.Children.{Child, child_value, cancel_requests_for}
use Rattle.protocol_laws.specs.Commands.{command_record}
use Rattle.vm_request_laws.specs.RequestBounds.{RecordFits, RequestFits}
use Rattle.vm_request_laws.specs.MadeRequests.{FitsWhereShort, MayBeMade, IsTextId, RunsMakeFit, RunsCancelFit, MachinesMakeFit, MachinesCancelFit, CallsMakeFit}
use Rattle.vm_request_laws.proofs.Records.{first_level, second_level, name_fits, value_fits, output_fits, eager_fits, promise_fits, awakeable_fits, signal_fits, call_fits, send_fits, target_fits}

-- ---- requests

where_short : (request : Request) → RecordFits (command_record request) → FitsWhereShort request
where_short request fits short = record { fits = fits; short = short }

alone : (request : Request) → RecordFits (command_record request) → AllByRecursion FitsWhereShort (request ∷ [])
alone request fits = (where_short request fits, tt)

-- ---- moments

abbrev Tests : Type 0
Tests = List (Bool × Refusal)

-- where no test holds, none of the later ones does
later_fail : (tests later : Tests) → first_refusal (tests ++ later) ≡ None → first_refusal later ≡ None
later_fail [] later h = h
later_fail ((true, refusal) ∷ tests) later h = absurd cc
later_fail ((false, refusal) ∷ tests) later h = later_fail tests later h

moment_fits : (moment : Moment) → first_refusal (moment_tests moment) ≡ None → milliseconds moment < 2 ^ 64
moment_fits moment h = by_test (nat_le (2 ^ 64) (milliseconds moment)) refl h
  where
    by_test : (b : Bool) → nat_le (2 ^ 64) (milliseconds moment) ≡ b → first_refusal ((b, Refusal.OutOfBoundsDuration) ∷ []) ≡ None → milliseconds moment < 2 ^ 64
    by_test true is h = absurd cc
    by_test false is h = let below = leb-false (2 ^ 64) (milliseconds moment) is in omega (arith, below)

time_fits : (time : Option Moment) → first_refusal (send_tests time) ≡ None → invoke_time time < 2 ^ 64
time_fits None h = omega arith
time_fits (Some moment) h = moment_fits moment h

-- the moment of a send is tested behind its target
send_moment : (version : ℕ) (target : Target) (time : Option Moment) → first_refusal (target_tests version target (send_tests time)) ≡ None → invoke_time time < 2 ^ 64
send_moment version target time h =
    time_fits time (later_fail (target_tests version target []) (send_tests time) h)

-- ---- reads

lazy_fits : (key : Bytes) (n : ℕ) (name : Text) → n < 2 ^ 32 → IsUtf8 name → RecordFits (command_record (Request.GetLazyState key n name))
lazy_fits key n name few text = record { level = first_level; result_completion_id = few; name = text }

eager_read_fits : (key : Bytes) (value : Option Bytes) (name : Text) → IsUtf8 name → RecordFits (command_record (Request.GetEagerState key value name))
eager_read_fits key value name text = record { level = first_level; name = text; result = eager_fits value }

lazy_keys_fit : (n : ℕ) (name : Text) → n < 2 ^ 32 → IsUtf8 name → RecordFits (command_record (Request.GetLazyStateKeys n name))
lazy_keys_fit n name few text = record { level = first_level; result_completion_id = few; name = text }

eager_keys_fit : (keys : List Bytes) (name : Text) → IsUtf8 name → RecordFits (command_record (Request.GetEagerStateKeys keys name))
eager_keys_fit keys name text = record { level = first_level; name = text; value = record { level = second_level } }

either_fits : (known : Bool) (one other : Request) → RecordFits (command_record one) → RecordFits (command_record other) → RecordFits (command_record (if known then one else other))
either_fits true one other first second = first
either_fits false one other first second = second

value_read_fits : (left : Commands) (fresh : Request) (n : ℕ) (key : Bytes) (name : Text) → n < 2 ^ 32 → IsUtf8 name → RecordFits (command_record fresh)
    → RecordFits (command_record (read_value left fresh n key name))
value_read_fits [] fresh n key name few text fits = fits
value_read_fits (Some (Request.GetEagerState recorded value other) ∷ left) fresh n key name few text fits = eager_read_fits key value name text
value_read_fits (_ ∷ left) fresh n key name few text fits = lazy_fits key n name few text

keys_read_fit : (left : Commands) (fresh : Request) (n : ℕ) (name : Text) → n < 2 ^ 32 → IsUtf8 name → RecordFits (command_record fresh)
    → RecordFits (command_record (read_keys left fresh n name))
keys_read_fit [] fresh n name few text fits = fits
keys_read_fit (Some (Request.GetEagerStateKeys keys other) ∷ left) fresh n name few text fits = eager_keys_fit keys name text
keys_read_fit (_ ∷ left) fresh n name few text fits = lazy_keys_fit n name few text

fresh_value_fits : (start : StartState) (done : List Request) (n : ℕ) (key : Bytes) (name : Text) → n < 2 ^ 32 → IsUtf8 name → RecordFits (command_record (fresh_value start done n key name))
fresh_value_fits start done n key name few text =
    either_fits (knows_key start done key) _ _ (eager_read_fits key (known_value start done key) name text) (lazy_fits key n name few text)

fresh_keys_fit : (start : StartState) (done : List Request) (n : ℕ) (name : Text) → n < 2 ^ 32 → IsUtf8 name → RecordFits (command_record (fresh_keys start done n name))
fresh_keys_fit start done n name few text =
    either_fits (knows_all_keys start done) _ _ (eager_keys_fit (known_keys start done) name text) (lazy_keys_fit n name few text)

-- ---- calls

one_left : (n : ℕ) → n + 1 ≤ 2 ^ 32 → n < 2 ^ 32
one_left n h = omega (arith, h)

first_left : (n : ℕ) → n + 2 ≤ 2 ^ 32 → n < 2 ^ 32
first_left n h = omega (arith, h)

second_left : (n : ℕ) → n + 2 ≤ 2 ^ 32 → suc n < 2 ^ 32
second_left n h = omega (arith, h)

machines_make : MachinesMakeFit
machines_make version start done left n (Call.StateGet key name options) h =
    let text = name_fits name h.typed.1 in
    alone _ (value_read_fits left _ n key (name_or_empty name) (one_left n h.ids) text (fresh_value_fits start done n key (name_or_empty name) (one_left n h.ids) text))
machines_make version start done left n (Call.StateGetKeys name) h =
    let text = name_fits name h.typed in
    alone _ (keys_read_fit left _ n (name_or_empty name) (one_left n h.ids) text (fresh_keys_fit start done n (name_or_empty name) (one_left n h.ids) text))
machines_make version start done left n (Call.StateSet key value name options) h = alone _ (record { level = first_level; value = value_fits value; name = name_fits name h.typed.1 })
machines_make version start done left n (Call.StateClear key name) h = alone _ (record { level = first_level; name = name_fits name h.typed.1 })
machines_make version start done left n (Call.StateClearAll name) h = alone _ (record { level = first_level; name = name_fits name h.typed })
machines_make version start done left n (Call.Sleep name wake_up now) h =
    alone _ (record { level = first_level; wake_up_time = moment_fits wake_up h.allowed; result_completion_id = one_left n h.ids; name = h.typed })
machines_make version start done left n (Call.Call target parameter name options) h =
    alone _ (call_fits target parameter n (suc n) (name_or_empty name) h.typed.0 (first_left n h.ids) (second_left n h.ids) (name_fits name h.typed.1))
machines_make version start done left n (Call.Send target parameter execution_time name options) h =
    alone _ (send_fits target parameter (invoke_time execution_time) n (name_or_empty name) h.typed.0 (send_moment version target execution_time h.allowed) (one_left n h.ids) (name_fits name h.typed.1))
machines_make version start done left n Call.Awakeable h = tt
machines_make version start done left n (Call.CompleteAwakeable id value options) h = alone _ (record { level = first_level; awakeable_id = h.typed.0; result = awakeable_fits value h.typed.1; name = IsUtf8-nil })
machines_make version start done left n (Call.Signal name) h = tt
machines_make version start done left n (Call.CompleteSignal target name value) h =
    alone _ (record { level = first_level; target_invocation_id = h.typed.0; signal_id = h.typed.1; result = signal_fits value h.typed.2; entry_name = IsUtf8-nil })
machines_make version start done left n (Call.GetPromise key) h = alone _ (record { level = first_level; key = h.typed; result_completion_id = one_left n h.ids; name = IsUtf8-nil })
machines_make version start done left n (Call.PeekPromise key) h = alone _ (record { level = first_level; key = h.typed; result_completion_id = one_left n h.ids; name = IsUtf8-nil })
machines_make version start done left n (Call.CompletePromise key value options) h =
    alone _ (record { level = first_level; key = h.typed.0; completion = promise_fits value h.typed.1; result_completion_id = one_left n h.ids; name = IsUtf8-nil })
machines_make version start done left n (Call.Run name) h = alone _ (record { level = first_level; result_completion_id = one_left n h.ids; name = h.typed })
machines_make version start done left n (Call.Cancel target) h =
    alone _ (record { level = first_level; target_invocation_id = h.typed; signal_id = omega arith; result = record { level = second_level }; entry_name = IsUtf8-nil })
machines_make version start done left n (Call.Attach target) h = alone _ (record { level = first_level; target = target_fits target h.typed; result_completion_id = one_left n h.ids; name = IsUtf8-nil })
machines_make version start done left n (Call.GetOutput target) h = alone _ (record { level = first_level; target = target_fits target h.typed; result_completion_id = one_left n h.ids; name = IsUtf8-nil })
machines_make version start done left n (Call.IsCompleted handle) h = tt
machines_make version start done left n (Call.Take handle) h = tt
machines_make version start done left n (Call.Await tree) h = tt
machines_make version start done left n (Call.Output value options) h = alone _ (record { level = first_level; name = IsUtf8-nil; result = output_fits value h.typed })
machines_make version start done left n Call.End h = tt

-- a run's are those of a machine that has nothing left to match
as_fresh : (given : Invocation) (steps : List Step) (call : Call) → requests_to given steps call ≡ requests_by given.start (requests_of steps) [] (next_completion steps) call
as_fresh given steps (Call.StateGet key name options) = refl
as_fresh given steps (Call.StateGetKeys name) = refl
as_fresh given steps (Call.StateSet key value name options) = refl
as_fresh given steps (Call.StateClear key name) = refl
as_fresh given steps (Call.StateClearAll name) = refl
as_fresh given steps (Call.Sleep name wake_up now) = refl
as_fresh given steps (Call.Call target parameter name options) = refl
as_fresh given steps (Call.Send target parameter execution_time name options) = refl
as_fresh given steps (Call.CompleteAwakeable id value options) = refl
as_fresh given steps (Call.CompleteSignal target name value) = refl
as_fresh given steps (Call.GetPromise key) = refl
as_fresh given steps (Call.PeekPromise key) = refl
as_fresh given steps (Call.CompletePromise key value options) = refl
as_fresh given steps (Call.Run name) = refl
as_fresh given steps (Call.Cancel target) = refl
as_fresh given steps (Call.Attach target) = refl
as_fresh given steps (Call.GetOutput target) = refl
as_fresh given steps (Call.Output value options) = refl
as_fresh given steps _ = refl

runs_make : RunsMakeFit
runs_make given steps call h =
    subst (AllByRecursion FitsWhereShort) (sym (as_fresh given steps call)) (machines_make given.version given.start (requests_of steps) [] (next_completion steps) call h)

-- ---- cancellations

cancel_fits : (value : Option Value) (others : List Request) → IsTextId value → AllByRecursion FitsWhereShort others → AllByRecursion FitsWhereShort (cancel_request value ++ others)
cancel_fits (Some (Value.InvocationId id)) others text more = (
  where_short (Request.SendSignal id (SignalKey.ByIndex 1) SignalValue.Empty [])
      (record { level = first_level; target_invocation_id = text; signal_id = omega arith; result = record { level = second_level }; entry_name = IsUtf8-nil }),
  more,
)
cancel_fits _ others text more = more

runs_cancel : RunsCancelFit
runs_cancel options steps arrivals place [] h = tt
runs_cancel options steps arrivals place (n ∷ children) h =
    cancel_fits (child_result options steps arrivals place n) _ h.0 (runs_cancel options steps arrivals place children h.1)

machines_cancel : MachinesCancelFit
machines_cancel ready [] h = tt
machines_cancel ready (child ∷ children) h = cancel_fits (child_value ready child) _ h.0 (machines_cancel ready children h.1)

pub calls_make_fit : CallsMakeFit
calls_make_fit = record { runs = runs_make; runs_cancel = runs_cancel; machines = machines_make; machines_cancel = machines_cancel }
