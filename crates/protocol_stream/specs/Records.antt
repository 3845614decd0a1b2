-- The records that stand for what the definitions speak of.
use Rattle.std.specs.Prelude.{ℕ, Bool, true, false, List, [], ◌∷◌, map, Some, None}
use Rattle.journal_model.specs.declared.notification.NotificationId.TheVariants.{CompletionId, SignalId, SignalName}
use Rattle.journal_model.specs.Notification.{Bytes, Text}
use Rattle.journal_model.specs.declared.notification.NotificationId.{NotificationId}
use Rattle.journal_model.specs.declared.notification.Failure.{Failure}
use Rattle.journal_model.specs.declared.value.NonEmptyValue.{NonEmptyValue}
use Rattle.journal_model.specs.declared.value.TerminalFailure.{TerminalFailure}
use Rattle.journal_model.specs.Value.{failure_taken}
use Rattle.journal_model.specs.declared.call.Header.{Header}
use Rattle.journal_model.specs.State.{StateMap}
use Rattle.journal_model.specs.declared.invocation.NewInvocation.{NewInvocation}
use Rattle.journal_model.specs.declared.invocation.StateMode.{StateMode}
use Rattle.journal_model.specs.AwaitTree.{AwaitTree, Single, Combined, AwaitTrees, no_trees, and_trees, Combinator, Unknown, FirstCompleted, AllCompleted, FirstSucceededOrAllFailed, AllSucceededOrFirstFailed, AtLeast}
use Rattle.journal_model.specs.Spelling.{completions_in, signals_in, names_in, required_by}
use Rattle.protocol_records.specs.declared.header.Header.{Header as HeaderRecord}
use Rattle.protocol_records.specs.declared.value.Value.{Value as ValueRecord}
use Rattle.protocol_records.specs.declared.failure.Failure.{Failure as FailureRecord}
use Rattle.protocol_records.specs.declared.failure.FailureMetadata.{FailureMetadata}
use Rattle.protocol_records.specs.declared.input_command.InputCommandMessage.{InputCommandMessage}
use Rattle.protocol_records.specs.declared.output_command.OutputCommandMessage.{OutputCommandMessage}
use Rattle.protocol_records.specs.declared.output_command.OutputCommandResult.{OutputCommandResult}
use Rattle.protocol_records.specs.declared.output_command.OutputCommandResult.TheVariants as results
use Rattle.protocol_records.specs.declared.sleep_command.SleepCommandMessage.{SleepCommandMessage}
use Rattle.protocol_records.specs.declared.start.StartMessage.{StartMessage}
use Rattle.protocol_records.specs.declared.start.StateEntry.{StateEntry}
use Rattle.protocol_records.specs.declared.awaiting_on.AwaitingOnMessage.{AwaitingOnMessage}
use Rattle.protocol_records.specs.declared.future.Future.{Future, roll-Future}
use Rattle.protocol_records.specs.declared.future.CombinatorType.{CombinatorType}
use Rattle.protocol_records.specs.declared.future.CombinatorType.TheVariants as combinators

-- ---- headers, values and failures

abbrev pub header_record : Header → HeaderRecord
header_record header = record { key = header.key; value = header.value }

abbrev pub header_told : HeaderRecord → Header
header_told header = record { key = header.key; value = header.value }

abbrev pub value_record : Bytes → ValueRecord
value_record bytes = record { content = bytes }

abbrev pub pair_record : Text × Text → FailureMetadata
pair_record pair = record { key = pair.0; value = pair.1 }

abbrev pub pair_told : FailureMetadata → Text × Text
pair_told metadata = (metadata.key, metadata.value)

abbrev pub failure_record : TerminalFailure → FailureRecord
failure_record failure = record { code = failure.code; message = failure.message; metadata = map pair_record failure.metadata }

-- a failure that has arrived
abbrev pub arrived_failure_record : Failure → FailureRecord
arrived_failure_record failure = record { code = failure.code; message = failure.message; metadata = map pair_record failure.metadata }

-- what a recorded failure says
abbrev pub failure_told : FailureRecord → Failure
failure_told failure = record { code = failure.code; message = failure.message; metadata = map pair_told failure.metadata }

-- the failure that is taken of it: a code of more than sixteen bits becomes 500
abbrev pub terminal_failure_told : FailureRecord → TerminalFailure
terminal_failure_told failure = failure_taken (failure_told failure)

abbrev pub result_record : NonEmptyValue → OutputCommandResult
result_record (NonEmptyValue.Success bytes) = results.Value (value_record bytes)
result_record (NonEmptyValue.Failure failure) = results.Failure (failure_record failure)

abbrev pub result_told : OutputCommandResult → NonEmptyValue
result_told (results.Value value) = NonEmptyValue.Success value.content
result_told (results.Failure failure) = NonEmptyValue.Failure (terminal_failure_told failure)

-- ---- commands, and the start

abbrev pub input_record : List Header → Bytes → InputCommandMessage
input_record headers input = record { headers = map header_record headers; name = []; value = Some (value_record input) }

abbrev pub output_record : NonEmptyValue → Text → OutputCommandMessage
output_record value name = record { name = name; result = Some (result_record value) }

abbrev pub sleep_record : ℕ → ℕ → Text → SleepCommandMessage
sleep_record time completion name = record { wake_up_time = time; result_completion_id = completion; name = name }

abbrev pub state_entry_record : Bytes × Bytes → StateEntry
state_entry_record entry = record { key = entry.0; value = entry.1 }

abbrev pub state_shown : StateMode → StateMap → List StateEntry
state_shown StateMode.Whole state = map state_entry_record state
state_shown StateMode.None state = []

abbrev pub is_partial : StateMode → Bool
is_partial StateMode.Whole = false
is_partial StateMode.None = true

abbrev pub start_record : NewInvocation → StateMap → ℕ → ℕ → ℕ → StartMessage
start_record new state known_entries retry_count duration = record {
  id = new.id;
  debug_id = new.id;
  known_entries = known_entries;
  state_map = state_shown new.state state;
  partial_state = is_partial new.state;
  key = new.object;
  retry_count_since_last_stored_entry = retry_count;
  duration_since_last_stored_entry = duration;
  random_seed = new.seed;
  scope = None;
  limit_key = None;
  idempotency_key = None;
}

-- ---- trees

abbrev pub combinator_record : Combinator → CombinatorType
combinator_record Unknown = combinators.Unknown
combinator_record FirstCompleted = combinators.FirstCompleted
combinator_record AllCompleted = combinators.AllCompleted
combinator_record FirstSucceededOrAllFailed = combinators.FirstSucceededOrAllFailed
combinator_record AllSucceededOrFirstFailed = combinators.AllSucceededOrFirstFailed
combinator_record (AtLeast required) = combinators.AtLeastSucceeded

abbrev pub future_node : List ℕ → List ℕ → List Text → List Future → CombinatorType → ℕ → Future
future_node completions signals names nested combinator required =
    roll-Future (record { waiting_completions = completions; waiting_signals = signals; waiting_named_signals = names; nested_futures = nested; combinator_type = combinator; required = required })

-- a single leaf is a first-completed node of it
abbrev mutual
  pub future_record : AwaitTree NotificationId → Future
  future_record (Single (CompletionId n)) = future_node (n ∷ []) [] [] [] combinators.FirstCompleted 0
  future_record (Single (SignalId n)) = future_node [] (n ∷ []) [] [] combinators.FirstCompleted 0
  future_record (Single (SignalName name)) = future_node [] [] (name ∷ []) [] combinators.FirstCompleted 0
  future_record (Combined combinator children) = future_node (completions_in children) (signals_in children) (names_in children) (nested_records children) (combinator_record combinator) (required_by combinator)

  pub nested_records : AwaitTrees NotificationId → List Future
  nested_records no_trees = []
  nested_records (and_trees (Single leaf) trees) = nested_records trees
  nested_records (and_trees (Combined combinator children) trees) = future_record (Combined combinator children) ∷ nested_records trees

abbrev pub awaiting_on_record : AwaitTree NotificationId → Bool → AwaitingOnMessage
awaiting_on_record tree executing = record { awaiting_on = Some (future_record tree); executing_side_effects = executing }
