-- What a suspended attempt waits for, as it is read of what is kept.
use Rattle.std.specs.Prelude.{◌≡◌, ◌-◌, List, [], ◌++◌, Some, true, false}
use Rattle.journal_model.specs.Notification.{Bytes, Arrival}
use Rattle.journal_model.specs.AwaitTree.{is_awake}
use Rattle.journal_model.specs.Attempt.{is_woken}
use Rattle.journal_model.specs.Event.{Suspension, ForTree, ForAny}
use Rattle.journal_model.specs.Spelling.{packed_numbers, repeated_bytes, suspension_payload}
use Rattle.protocol_wire.specs.declared.record.TheConstants.{LEVELS}
use Rattle.protocol_records.specs.declared.future.Future.{Future, roll-Future}
use Rattle.protocol_records.specs.declared.future.CombinatorType.TheVariants as combinators
use Rattle.protocol_records.specs.declared.suspension_v6.SuspensionMessageV6.{SuspensionMessageV6}
use Rattle.protocol_records.specs.Future.{FutureFits}
use Rattle.protocol_records.specs.SuspensionV6.{SuspensionV6Fits}
use Rattle.protocol_stream.specs.Records.{future_node}
use Rattle.protocol_trees.specs.Future.{future_tree}
use Rattle.store_frames.specs.Requests.{suspension_of_lists}
use Rattle.store_frames.specs.First.{arrived_state}

-- this future is awake exactly where the suspension is woken, whatever has arrived
abbrev pub IsAwaited : Suspension → Future → Type 0
IsAwaited suspension future = (arrivals : List Arrival) → is_awake (future_tree future) (arrived_state arrivals) ≡ is_woken arrivals (Some suspension)

-- any of the ids in three lists
abbrev pub any_of : SuspensionMessageV6 → Future
any_of one = future_node one.waiting_completions one.waiting_signals one.waiting_named_signals [] combinators.FirstCompleted 0

-- the payload is that of a suspension that waits for the tree of a future which a message can hold
pub record TellsTree (suspension : Suspension) (payload : Bytes) : Type 0 where
  pub future : Future
  pub fits : FutureFits (LEVELS - 1) future
  pub waits : suspension ≡ ForTree (future_tree future)
  pub payload_is : payload ≡ suspension_payload (future_tree future)

-- the payload is that of three lists which a message can hold
pub record TellsLists (suspension : Suspension) (payload : Bytes) : Type 0 where
  pub lists : SuspensionMessageV6
  pub fits : SuspensionV6Fits LEVELS lists
  pub waits : suspension ≡ suspension_of_lists lists
  pub payload_is : payload ≡ packed_numbers 1 lists.waiting_completions ++ (packed_numbers 2 lists.waiting_signals ++ repeated_bytes 3 lists.waiting_named_signals)
