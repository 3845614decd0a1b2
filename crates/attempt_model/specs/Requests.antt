-- The answer of a call that makes handles or requests alone, and its requests: which they are, and how they are matched or written.
use Rattle.std.specs.Prelude.{ℕ, suc, Bool, if◌then◌else◌, List, [], ◌∷◌, ◌++◌, Option, Some, None, option_and_then}
use Rattle.journal_model.specs.Notification.{Bytes, Text}
use Rattle.journal_model.specs.declared.call.Call.{Call}
use Rattle.journal_model.specs.declared.call.Answer.{Answer}
use Rattle.journal_model.specs.Request.{Request, SignalValue}
use Rattle.journal_model.specs.declared.notification.SignalKey.{SignalKey}
use Rattle.journal_model.specs.Refusal.{milliseconds}
use Rattle.journal_model.specs.Awakeable.{awakeable_id}
use Rattle.journal_model.specs.State.{StartState, knows_key, knows_all_keys, known_value, known_keys}
use Rattle.journal_model.specs.Run.{call_record, invoke_time, name_or_empty}

-- the answer of a call that makes handles or requests alone, from these next numbers
abbrev pub answer_by : Text → (handle signal : ℕ) → Call → Answer
answer_by id handle signal (Call.Call target parameter name options) = Answer.Handles handle (suc handle)
answer_by id handle signal (Call.StateGet key name options) = Answer.Handle handle
answer_by id handle signal (Call.StateGetKeys name) = Answer.Handle handle
answer_by id handle signal (Call.Sleep name wake_up now) = Answer.Handle handle
answer_by id handle signal (Call.Send target parameter execution_time name options) = Answer.Handle handle
answer_by id handle signal Call.Awakeable = Answer.Awakeable (awakeable_id id signal) handle
answer_by id handle signal (Call.Signal name) = Answer.Handle handle
answer_by id handle signal (Call.GetPromise key) = Answer.Handle handle
answer_by id handle signal (Call.PeekPromise key) = Answer.Handle handle
answer_by id handle signal (Call.CompletePromise key value options) = Answer.Handle handle
answer_by id handle signal (Call.Run name) = Answer.Handle handle
answer_by id handle signal (Call.Attach target) = Answer.Handle handle
answer_by id handle signal (Call.GetOutput target) = Answer.Handle handle
answer_by id handle signal _ = Answer.Done

-- recorded commands, as calls have to match them: each the request that it is, or none where no call makes such a command
abbrev pub Commands : Type 0
Commands = List (Option Request)

-- a read, as it is recorded: behind the journal eager where the value is known, in replay of the kind that the record has
abbrev pub read_value : Commands → Request → ℕ → Bytes → Text → Request
read_value [] fresh n key name = fresh
read_value (Some (Request.GetEagerState recorded value other) ∷ left) fresh n key name = Request.GetEagerState key value name
read_value (_ ∷ left) fresh n key name = Request.GetLazyState key n name

abbrev pub read_keys : Commands → Request → ℕ → Text → Request
read_keys [] fresh n name = fresh
read_keys (Some (Request.GetEagerStateKeys keys other) ∷ left) fresh n name = Request.GetEagerStateKeys keys name
read_keys (_ ∷ left) fresh n name = Request.GetLazyStateKeys n name

abbrev pub fresh_value : StartState → List Request → ℕ → Bytes → Text → Request
fresh_value start done n key name = if knows_key start done key then Request.GetEagerState key (known_value start done key) name else Request.GetLazyState key n name

abbrev pub fresh_keys : StartState → List Request → ℕ → Text → Request
fresh_keys start done n name = if knows_all_keys start done then Request.GetEagerStateKeys (known_keys start done) name else Request.GetLazyStateKeys n name

-- the requests of a call, with this next completion
abbrev pub requests_by : StartState → (done : List Request) → Commands → ℕ → Call → List Request
requests_by start done left n (Call.StateGet key name options) = read_value left (fresh_value start done n key (name_or_empty name)) n key (name_or_empty name) ∷ []
requests_by start done left n (Call.StateGetKeys name) = read_keys left (fresh_keys start done n (name_or_empty name)) n (name_or_empty name) ∷ []
requests_by start done left n (Call.StateSet key value name options) = Request.SetState key value (name_or_empty name) ∷ []
requests_by start done left n (Call.StateClear key name) = Request.ClearState key (name_or_empty name) ∷ []
requests_by start done left n (Call.StateClearAll name) = Request.ClearAllState (name_or_empty name) ∷ []
requests_by start done left n (Call.Sleep name wake_up now) = Request.Sleep (milliseconds wake_up) n name ∷ []
requests_by start done left n (Call.Call target parameter name options) = Request.CallService (call_record target parameter) n (suc n) (name_or_empty name) ∷ []
requests_by start done left n (Call.Send target parameter execution_time name options) = Request.OneWayCall (call_record target parameter) (invoke_time execution_time) n (name_or_empty name) ∷ []
requests_by start done left n (Call.CompleteAwakeable id value options) = Request.CompleteAwakeable id value [] ∷ []
requests_by start done left n (Call.CompleteSignal target name value) = Request.SendSignal target (SignalKey.ByName name) (SignalValue.Carries value) [] ∷ []
requests_by start done left n (Call.GetPromise key) = Request.GetPromise key n [] ∷ []
requests_by start done left n (Call.PeekPromise key) = Request.PeekPromise key n [] ∷ []
requests_by start done left n (Call.CompletePromise key value options) = Request.CompletePromise key value n [] ∷ []
requests_by start done left n (Call.Run name) = Request.Run n name ∷ []
requests_by start done left n (Call.Cancel target) = Request.SendSignal target (SignalKey.ByIndex 1) SignalValue.Empty [] ∷ []
requests_by start done left n (Call.Attach target) = Request.AttachInvocation target n [] ∷ []
requests_by start done left n (Call.GetOutput target) = Request.GetInvocationOutput target n [] ∷ []
requests_by start done left n (Call.Output value options) = Request.Output value [] ∷ []
requests_by start done left n _ = []

-- what is left to match, and what was written
pub record PutState : Type 0 where
  pub left : Commands
  pub written : List Request

module _ (same_header : Request → Request → Bool) where
  -- a request is matched with the next recorded command, and nothing is written; where none is left it is written
  abbrev pub put_one : Request → Commands → List Request → Option PutState
  put_one request [] written = Some (record { left = []; written = written ++ request ∷ [] })
  put_one request (None ∷ left) written = None
  put_one request (Some recorded ∷ left) written = if same_header recorded request then Some (record { left = left; written = written }) else None

  abbrev pub put_all : List Request → PutState → Option PutState
  put_all [] p = Some p
  put_all (request ∷ requests) p = option_and_then (put_all requests) (put_one request p.left p.written)
