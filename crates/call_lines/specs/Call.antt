-- The words by which a call is printed.
use Rattle.std.specs.Prelude.{◌≡◌, ℕ, ◌^◌, ◌<◌, List, [], ◌∷◌, All, None, codes, decimal, if◌then◌else◌}
use Rattle.std.specs.List.{AllByRecursion}
use Rattle.journal_model.specs.declared.call.AttachInvocationTarget.{AttachInvocationTarget}
use Rattle.journal_model.specs.declared.call.AttachInvocationTarget.TheVariants.{InvocationId, WorkflowId, IdempotencyId}
use Rattle.journal_model.specs.declared.call.Call.{Call}
use Rattle.journal_model.specs.declared.call.Call.TheVariants as calls
use Rattle.journal_model.specs.declared.call.PayloadOptions.{PayloadOptions}
use Rattle.journal_model.specs.declared.call.Target.{Target}
use Rattle.server_lines.specs.Request.{IsHeader, header_words}
use Rattle.server_lines.specs.Word.{IsByte, IsText, text_word}
use Rattle.call_lines.specs.Tree.{IsTree, tree_words}
use Rattle.call_lines.specs.Word.{IsGiven, IsMoment, IsOptional, IsTime, moment_word, name_words, optional_word, time_word, value_words}
use Rattle.call_lines.specs.declared.call.Said.{Said}
use Rattle.call_lines.specs.declared.call.Said.TheVariants as said

abbrev pub target_words : Target → List (List ℕ) → List (List ℕ)
target_words target more =
    text_word target.service ∷ text_word target.handler ∷ optional_word target.key ∷ optional_word target.idempotency_key ∷ optional_word target.scope ∷ optional_word target.limit_key ∷ more

abbrev pub attached_words : AttachInvocationTarget → List (List ℕ)
attached_words (InvocationId id) = codes "id" ∷ text_word id ∷ []
attached_words (WorkflowId name key scope) = codes "workflow" ∷ text_word name ∷ text_word key ∷ optional_word scope ∷ []
attached_words (IdempotencyId service handler idempotency_key key scope) =
    codes "idempotent" ∷ text_word service ∷ text_word handler ∷ text_word idempotency_key ∷ optional_word key ∷ optional_word scope ∷ []

-- a word before a call whose payload's bytes may differ
abbrev pub by_options : PayloadOptions → List (List ℕ) → List (List ℕ)
by_options options words = if options.unstable_serialization then codes "unstable" ∷ words else words

abbrev pub call_words : Call → List (List ℕ)
call_words (calls.StateGet key name options) = by_options options (codes "get" ∷ text_word key ∷ name_words name)
call_words (calls.StateGetKeys name) = codes "keys" ∷ name_words name
call_words (calls.StateSet key value name options) = by_options options (codes "set" ∷ text_word key ∷ text_word value ∷ name_words name)
call_words (calls.StateClear key name) = codes "clear" ∷ text_word key ∷ name_words name
call_words (calls.StateClearAll name) = codes "clear-all" ∷ name_words name
call_words (calls.Sleep name wake_up now) = codes "sleep" ∷ moment_word wake_up ∷ text_word name ∷ []
call_words (calls.Call target input name options) = by_options options (codes "call" ∷ target_words target (text_word input ∷ optional_word name ∷ header_words target.headers))
call_words (calls.Send target input time name options) = by_options options (codes "send" ∷ time_word time ∷ target_words target (text_word input ∷ optional_word name ∷ header_words target.headers))
call_words calls.Awakeable = codes "awakeable" ∷ []
call_words (calls.CompleteAwakeable id value options) = by_options options (codes "complete-awakeable" ∷ text_word id ∷ value_words value)
call_words (calls.Signal name) = codes "signal" ∷ text_word name ∷ []
call_words (calls.CompleteSignal target name value) = codes "complete-signal" ∷ text_word target ∷ text_word name ∷ value_words value
call_words (calls.GetPromise key) = codes "promise" ∷ text_word key ∷ []
call_words (calls.PeekPromise key) = codes "peek-promise" ∷ text_word key ∷ []
call_words (calls.CompletePromise key value options) = by_options options (codes "complete-promise" ∷ text_word key ∷ value_words value)
call_words (calls.Run name) = codes "run" ∷ text_word name ∷ []
call_words (calls.Cancel target) = codes "cancel" ∷ text_word target ∷ []
call_words (calls.Attach target) = codes "attach" ∷ attached_words target
call_words (calls.GetOutput target) = codes "output-of" ∷ attached_words target
call_words (calls.IsCompleted handle) = codes "completed" ∷ decimal handle ∷ []
call_words (calls.Take handle) = codes "take" ∷ decimal handle ∷ []
call_words (calls.Await tree) = codes "await" ∷ tree_words tree
call_words (calls.Output value options) = by_options options (codes "output" ∷ value_words value)
call_words calls.End = codes "end" ∷ []

abbrev pub said_words : Said → List (List ℕ)
said_words (said.Call call) = call_words call
said_words (said.Wait tree) = codes "wait" ∷ tree_words tree

-- ---- which have words: those whose texts, bytes and numbers are such. A sleep's own moment is not looked at, and has none.

pub record IsTarget (target : Target) : Type 0 where
  pub service : IsText target.service
  pub handler : IsText target.handler
  pub key : IsOptional target.key
  pub idempotency_key : IsOptional target.idempotency_key
  pub scope : IsOptional target.scope
  pub limit_key : IsOptional target.limit_key
  pub headers : AllByRecursion IsHeader target.headers

abbrev pub IsAttached : AttachInvocationTarget → Type 0
IsAttached (InvocationId id) = IsText id
IsAttached (WorkflowId name key scope) = IsText name × IsText key × IsOptional scope
IsAttached (IdempotencyId service handler idempotency_key key scope) = IsText service × IsText handler × IsText idempotency_key × IsOptional key × IsOptional scope

abbrev pub IsCall : Call → Type 0
IsCall (calls.StateGet key name options) = IsText key × IsOptional name
IsCall (calls.StateGetKeys name) = IsOptional name
IsCall (calls.StateSet key value name options) = IsText key × All IsByte value × IsOptional name
IsCall (calls.StateClear key name) = IsText key × IsOptional name
IsCall (calls.StateClearAll name) = IsOptional name
IsCall (calls.Sleep name wake_up now) = IsText name × IsMoment wake_up × (now ≡ None)
IsCall (calls.Call target input name options) = IsTarget target × All IsByte input × IsOptional name
IsCall (calls.Send target input time name options) = IsTarget target × All IsByte input × IsTime time × IsOptional name
IsCall calls.Awakeable = Unit {0}
IsCall (calls.CompleteAwakeable id value options) = IsText id × IsGiven value
IsCall (calls.Signal name) = IsText name
IsCall (calls.CompleteSignal target name value) = IsText target × IsText name × IsGiven value
IsCall (calls.GetPromise key) = IsText key
IsCall (calls.PeekPromise key) = IsText key
IsCall (calls.CompletePromise key value options) = IsText key × IsGiven value
IsCall (calls.Run name) = IsText name
IsCall (calls.Cancel target) = IsText target
IsCall (calls.Attach target) = IsAttached target
IsCall (calls.GetOutput target) = IsAttached target
IsCall (calls.IsCompleted handle) = handle < 2 ^ 32
IsCall (calls.Take handle) = handle < 2 ^ 32
IsCall (calls.Await tree) = IsTree tree
IsCall (calls.Output value options) = IsGiven value
IsCall calls.End = Unit {0}

abbrev pub IsSaid : Said → Type 0
IsSaid (said.Call call) = IsCall call
IsSaid (said.Wait tree) = IsTree tree
