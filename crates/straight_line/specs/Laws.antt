-- What holds of straight-line handlers, and of the answers that they are given.
use Rattle.std.specs.Prelude.{◌≡◌, ℕ, Bool, true, false, List, [], ◌∷◌, Option, Some, None}
use Rattle.journal_model.specs.Notification.{Bytes, Text, Arrival}
use Rattle.journal_model.specs.AwaitTree.{AwaitTree}
use Rattle.journal_model.specs.declared.call.Moment.{Moment}
use Rattle.journal_model.specs.declared.call.Target.{Target}
use Rattle.journal_model.specs.declared.call.AttachInvocationTarget.{AttachInvocationTarget}
use Rattle.journal_model.specs.declared.call.PayloadOptions.{PayloadOptions}
use Rattle.journal_model.specs.declared.call.Call.{Call}
use Rattle.journal_model.specs.declared.call.Answer.{Answer}
use Rattle.journal_model.specs.declared.value.NonEmptyValue.{NonEmptyValue}
use Rattle.journal_model.specs.declared.value.Value.{Value}
use Rattle.journal_model.specs.History.{Step}
use Rattle.journal_model.specs.Run.{Handler, Invocation, run}
use Rattle.straight_line.specs.declared.stop.Stop.{Stop}
use Rattle.straight_line.specs.Steps.{Steps, Turn, Goes, Stops, ◌>>=◌, next_of, make}
use Rattle.straight_line.specs.Calls as told

-- a call is the next one until it has an answer; then what follows it is executed, over the other answers
pub record CallsComeInOrder : Type 0 where
  pub first : (call : Call) (rest : Answer → Steps Bytes) → next_of (make call >>= rest) [] ≡ call
  pub later : (call : Call) (rest : Answer → Steps Bytes) (answer : Answer) (answers : List Answer)
      → next_of (make call >>= rest) (answer ∷ answers) ≡ next_of (rest answer) answers

-- what a call is answered
pub data AnswerKind : Type 0 where
  OneHandle : AnswerKind
  TwoHandles : AnswerKind
  TextAndHandle : AnswerKind
  Nothing : AnswerKind
  Whether : AnswerKind
  WhatWasTaken : AnswerKind
  EndOfAwait : AnswerKind

abbrev pub kind_of_answer : Answer → AnswerKind
kind_of_answer (Answer.Handle handle) = OneHandle
kind_of_answer (Answer.Handles id_handle result_handle) = TwoHandles
kind_of_answer (Answer.Awakeable id handle) = TextAndHandle
kind_of_answer Answer.Done = Nothing
kind_of_answer (Answer.Completed is_completed) = Whether
kind_of_answer (Answer.Taken value) = WhatWasTaken
kind_of_answer Answer.Woken = EndOfAwait
kind_of_answer Answer.Cancelled = EndOfAwait

abbrev pub kind_of_call : Call → AnswerKind
kind_of_call (Call.Call target parameter name options) = TwoHandles
kind_of_call Call.Awakeable = TextAndHandle
kind_of_call (Call.StateSet key value name options) = Nothing
kind_of_call (Call.StateClear key name) = Nothing
kind_of_call (Call.StateClearAll name) = Nothing
kind_of_call (Call.CompleteAwakeable id value options) = Nothing
kind_of_call (Call.CompleteSignal target_id name value) = Nothing
kind_of_call (Call.Cancel target_id) = Nothing
kind_of_call (Call.Output value options) = Nothing
kind_of_call Call.End = Nothing
kind_of_call (Call.IsCompleted handle) = Whether
kind_of_call (Call.Take handle) = WhatWasTaken
kind_of_call (Call.Await tree) = EndOfAwait
kind_of_call _ = OneHandle

abbrev pub AllAreOfKind : List Step → Type 0
AllAreOfKind [] = Unit {0}
AllAreOfKind (step ∷ earlier) = (kind_of_answer step.answer ≡ kind_of_call step.call) × AllAreOfKind earlier

-- each answer of a run is of its call's kind
abbrev pub AnswersAreOfKind : Type 0
AnswersAreOfKind = (handler : Handler) (invocation : Invocation) (arrivals : List Arrival) (calls : ℕ)
    → AllAreOfKind (run handler invocation arrivals calls).steps

abbrev pub is_astray : {A : Type 0} → Turn A → Bool
is_astray (Stops Stop.Astray answers) = true
is_astray _ = false

-- steps that make this call first, and go astray on no answer of its kind
pub record MakesFirst {A : Type 0} (call : Call) (steps : Steps A) : Type 0 where
  pub first : steps [] ≡ Stops (Stop.Call call) []
  pub answered : (answer : Answer) (answers : List Answer) → kind_of_answer answer ≡ kind_of_call call → is_astray (steps (answer ∷ answers)) ≡ false

-- so does each call, but what takes: there it is what has come that is of another kind
pub record CallsStayOn : Type 0 where
  pub gets : (key : Bytes) (name : Option Text) (options : PayloadOptions) → MakesFirst (Call.StateGet key name options) (told.begin_get key name options)
  pub gets_keys : (name : Option Text) → MakesFirst (Call.StateGetKeys name) (told.begin_get_keys name)
  pub sets : (key value : Bytes) (name : Option Text) (options : PayloadOptions)
      → MakesFirst (Call.StateSet key value name options) (told.set_with key value name options)
  pub clears : (key : Bytes) (name : Option Text) → MakesFirst (Call.StateClear key name) (told.clear_with key name)
  pub clears_all : (name : Option Text) → MakesFirst (Call.StateClearAll name) (told.clear_all_with name)
  pub sleeps : (wake_up : Moment) (name : Text) → MakesFirst (Call.Sleep name wake_up None) (told.begin_sleep wake_up name)
  pub runs : (name : Text) → MakesFirst (Call.Run name) (told.begin_run name)
  pub calls : (target : Target) (parameter : Bytes) (name : Option Text) (options : PayloadOptions)
      → MakesFirst (Call.Call target parameter name options) (told.begin_call target parameter name options)
  pub sends : (target : Target) (parameter : Bytes) (execution_time : Option Moment) (name : Option Text) (options : PayloadOptions)
      → MakesFirst (Call.Send target parameter execution_time name options) (told.send_with target parameter execution_time name options)
  pub cancels : (target_id : Text) → MakesFirst (Call.Cancel target_id) (told.cancel target_id)
  pub attaches : (target : AttachInvocationTarget) → MakesFirst (Call.Attach target) (told.begin_attach target)
  pub gets_output : (target : AttachInvocationTarget) → MakesFirst (Call.GetOutput target) (told.begin_get_output target)
  pub awakens : MakesFirst Call.Awakeable told.awakeable
  pub completes_awakeable : (id : Text) (value : NonEmptyValue) (options : PayloadOptions)
      → MakesFirst (Call.CompleteAwakeable id value options) (told.complete_awakeable id value options)
  pub signals : (name : Text) → MakesFirst (Call.Signal name) (told.begin_signal name)
  pub completes_signal : (target_id name : Text) (value : NonEmptyValue)
      → MakesFirst (Call.CompleteSignal target_id name value) (told.complete_signal target_id name value)
  pub gets_promise : (key : Text) → MakesFirst (Call.GetPromise key) (told.begin_promise key)
  pub peeks : (key : Text) → MakesFirst (Call.PeekPromise key) (told.begin_peek_promise key)
  pub completes_promise : (key : Text) (value : NonEmptyValue) (options : PayloadOptions)
      → MakesFirst (Call.CompletePromise key value options) (told.begin_complete_promise key value options)
  pub looks : (handle : ℕ) → MakesFirst (Call.IsCompleted handle) (told.is_completed handle)
  pub waits : (tree : AwaitTree ℕ) → MakesFirst (Call.Await tree) (told.wait_for tree)
  pub puts_out : (value : NonEmptyValue) (options : PayloadOptions) → MakesFirst (Call.Output value options) (told.output value options)
