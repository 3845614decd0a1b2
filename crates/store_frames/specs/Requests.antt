-- What is waited for, what becomes of an attempt, and what a run has come to, that records stand for.
use Rattle.std.specs.Prelude.{ℕ, ◌==◌, if◌then◌else◌, Option, option_map}
use Rattle.journal_model.specs.declared.notification.NotificationId.{NotificationId}
use Rattle.journal_model.specs.declared.value.NonEmptyValue.{NonEmptyValue}
use Rattle.journal_model.specs.AwaitTree as Trees
use Rattle.journal_model.specs.Event.{Behavior, Retry, Pause, Fail, Suspension, ForTree, ForAny}
use Rattle.protocol_records.specs.declared.awaiting_on.AwaitingOnMessage.{AwaitingOnMessage}
use Rattle.protocol_records.specs.declared.suspension.SuspensionMessage.{SuspensionMessage}
use Rattle.protocol_records.specs.declared.suspension_v6.SuspensionMessageV6.{SuspensionMessageV6}
use Rattle.protocol_types.specs.declared.feature.Feature.TheVariants.{ErrorBehavior}
use Rattle.protocol_types.specs.Feature.{lacks_feature}
use Rattle.protocol_controls.specs.declared.propose_run_completion.ProposeRunCompletionMessage.{ProposeRunCompletionMessage}
use Rattle.protocol_controls.specs.declared.propose_run_completion.ProposeRunCompletionResult.{ProposeRunCompletionResult}
use Rattle.protocol_controls.specs.declared.propose_run_completion.ProposeRunCompletionResult.TheVariants as proposals
use Rattle.protocol_laws.specs.Requests.{failure_put_out}
use Rattle.protocol_trees.specs.Future.{ids_in, future_tree}

-- from version 7 on a suspension waits for a tree, which it must have
abbrev pub suspension_of_tree : SuspensionMessage → Option Suspension
suspension_of_tree one = option_map (λ future. ForTree (future_tree future)) one.awaiting_on

-- what an attempt waits for while its input is open, where it tells that
abbrev pub awaited_tree : AwaitingOnMessage → Option (Trees.AwaitTree NotificationId)
awaited_tree one = option_map future_tree one.awaiting_on

-- before version 7 it waits for any of the ids in three lists
abbrev pub suspension_of_lists : SuspensionMessageV6 → Suspension
suspension_of_lists one = ForAny (ids_in one.waiting_completions one.waiting_signals one.waiting_named_signals)

-- a number without a name is a retry
abbrev pub behavior_numbered : ℕ → Behavior
behavior_numbered number = if number == 1 then Pause else (if number == 2 then Fail else Retry)

-- before version 7 each is
abbrev pub behavior_in : ℕ → ℕ → Behavior
behavior_in version number = if lacks_feature version ErrorBehavior then Retry else behavior_numbered number

-- a failure that is proposed keeps its code, also one of more than sixteen bits
abbrev pub outcome_told : ProposeRunCompletionResult → NonEmptyValue
outcome_told (proposals.Value bytes) = NonEmptyValue.Success bytes
outcome_told (proposals.Failure failure) = NonEmptyValue.Failure (failure_put_out failure)

-- the completion, and the outcome that is proposed for it; a proposal must have one
abbrev pub proposal_told : ProposeRunCompletionMessage → Option (ℕ × NonEmptyValue)
proposal_told one = option_map (λ result. (one.result_completion_id, outcome_told result)) one.result
