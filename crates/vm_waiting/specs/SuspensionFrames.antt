-- What an attempt that waits behind the journal writes: its suspension, or what it waits for while it stays.
use Rattle.std.specs.Prelude.{◌≡◌, ◌≤◌, ◌<◌, ◌-◌, ◌^◌, ℕ, zero, suc, Bool, true, false, not, ◌&&◌, ◌||◌, if◌then◌else◌, List, [], ◌++◌, length, Result, Ok, Err}
use Rattle.journal_model.specs.Notification.{Bytes}
use Rattle.journal_model.specs.declared.notification.NotificationId.{NotificationId}
use Rattle.journal_model.specs.AwaitTree.{AwaitTree, Single, Combined, AwaitTrees, no_trees, and_trees}
use Rattle.journal_model.specs.PrunedTrees.{only_leaves}
use Rattle.journal_model.specs.Spelling.{packed_numbers, repeated_bytes, completions_in, signals_in, names_in, suspension_payload, awaiting_on_payload, frame_bytes}
use Rattle.attempt_model.specs.Results.{slot_of}
use Rattle.protocol_wire.specs.declared.record.TheConstants.{LEVELS}
use Rattle.protocol_types.specs.declared.message_type.MessageType.{MessageType}
use Rattle.protocol_types.specs.declared.message_type.MessageType.TheVariants as messages
use Rattle.protocol_types.specs.declared.version.Version.{Version}
use Rattle.protocol_types.specs.declared.feature.Feature.TheVariants as features
use Rattle.protocol_types.specs.Version.{version_number}
use Rattle.protocol_types.specs.Feature.{has_feature, lacks_feature}
use Rattle.protocol_stream.specs.declared.encoder.EncodingError.{EncodingError}
use Rattle.protocol_stream.specs.declared.encoder.EncodingError.TheVariants.{PayloadTooLong, OutOfMemory}
use Rattle.vm_types.specs.declared.options.AwaitingOnPolicy.{AwaitingOnPolicy}
use Rattle.vm_types.specs.declared.options.AwaitingOnPolicy.TheVariants.{SendAlways, DontSendWhenExecutingRun, DontSend}
use Rattle.vm_awaits.specs.Views.{slots_of}
use Rattle.vm_context.specs.Output.{Written, with_frame}
use Rattle.vm_calls.specs.declared.active.Active.{Active}
use Rattle.vm_waiting.specs.declared.suspending.TellError.{TellError}
use Rattle.vm_waiting.specs.declared.suspending.TellError.TheVariants.{TooDeep, Encoding}

-- ---- trees

-- whether there is a leaf in a tree
abbrev mutual
  pub holds_a_leaf : {Leaf : Type 0} → AwaitTree Leaf → Bool
  holds_a_leaf (Single leaf) = true
  holds_a_leaf (Combined combinator children) = some_holds_a_leaf children

  pub some_holds_a_leaf : {Leaf : Type 0} → AwaitTrees Leaf → Bool
  some_holds_a_leaf no_trees = false
  some_holds_a_leaf (and_trees tree trees) = holds_a_leaf tree || some_holds_a_leaf trees

-- whether the nodes of a tree stand in no more than so many levels
abbrev mutual
  pub is_nested_within : {Leaf : Type 0} → (levels : ℕ) → AwaitTree Leaf → Bool
  is_nested_within levels (Single leaf) = true
  is_nested_within zero (Combined combinator children) = false
  is_nested_within (suc levels) (Combined combinator children) = are_nested_within levels children

  pub are_nested_within : {Leaf : Type 0} → (levels : ℕ) → AwaitTrees Leaf → Bool
  are_nested_within levels no_trees = true
  are_nested_within levels (and_trees tree trees) = is_nested_within levels tree && are_nested_within levels trees

-- whether it is nested deeper than the record of a frame can tell, which stands one level below that of the frame
abbrev pub is_too_deep : {Leaf : Type 0} → AwaitTree Leaf → Bool
is_too_deep tree = not (is_nested_within (LEVELS - 1) tree)

-- a tree over the ids that its handles stand for; a handle that stands for none is left out
abbrev pub over_ids : Active → AwaitTree ℕ → AwaitTree NotificationId
over_ids active tree = only_leaves (slot_of (slots_of active.results)) tree

module _ {Leaf : Type 0} (own : AwaitTrees NotificationId → List Leaf) where
  -- the leaves of one kind of the nodes below, the own ones of each first
  abbrev pub below : AwaitTrees NotificationId → List Leaf
  below no_trees = []
  below (and_trees (Single leaf) trees) = below trees
  below (and_trees (Combined combinator children) trees) = (own children ++ below children) ++ below trees

  -- the leaves of one kind of a tree, in this order
  abbrev pub leaves_by_node : AwaitTree NotificationId → List Leaf
  leaves_by_node (Single leaf) = own (and_trees (Single leaf) no_trees)
  leaves_by_node (Combined combinator children) = own children ++ below children

-- ---- payloads

-- before version 7 a suspension is a list of the tree's ids for each kind of them
abbrev pub lists_payload : AwaitTree NotificationId → Bytes
lists_payload tree = packed_numbers 1 (leaves_by_node completions_in tree) ++ (packed_numbers 2 (leaves_by_node signals_in tree) ++ repeated_bytes 3 (leaves_by_node names_in tree))

abbrev pub suspension_payload_in : Version → AwaitTree NotificationId → Bytes
suspension_payload_in version tree = if lacks_feature (version_number version) features.AwaitTree then lists_payload tree else suspension_payload tree

-- whether a suspension cannot tell it: a list is never too deep
abbrev pub is_suspension_too_deep : Version → AwaitTree NotificationId → Bool
is_suspension_too_deep version tree = if lacks_feature (version_number version) features.AwaitTree then false else is_too_deep tree

-- ---- frames

-- One frame is written, whole or not at all; behind the end nothing is.
abbrev pub WritesFrame : MessageType → (payload : Bytes) → (old : Written) → Result (Unit {0}) EncodingError → (new : Written) → Type 0
WritesFrame ty payload old (Ok done) new = (old.is_closed ≡ false → length payload < 2 ^ 32) × (new ≡ with_frame (frame_bytes ty payload) old)
WritesFrame ty payload old (Err PayloadTooLong) new = (2 ^ 32 ≤ length payload) × (new ≡ old)
WritesFrame ty payload old (Err OutOfMemory) new = new ≡ old

-- a suspension over these ids is written, and the output ends with it
pub record IsSuspended (ids : AwaitTree NotificationId) (old new : Active) : Type 0 where
  pub fits : old.output.is_closed ≡ false → length (suspension_payload_in old.output.version ids) < 2 ^ 32
  pub suspended : new ≡ record old {
    output = record (with_frame (frame_bytes messages.Suspension (suspension_payload_in old.output.version ids)) old.output) { is_closed = true };
  }

-- or nothing is written, since its frame cannot be made
abbrev pub IsSuspensionWritten : AwaitTree NotificationId → (old : Active) → Result (Unit {0}) EncodingError → (new : Active) → Type 0
IsSuspensionWritten ids old (Ok done) new = IsSuspended ids old new
IsSuspensionWritten ids old (Err PayloadTooLong) new = (2 ^ 32 ≤ length (suspension_payload_in old.output.version ids)) × (new ≡ old)
IsSuspensionWritten ids old (Err OutOfMemory) new = new ≡ old

-- Where this version's suspension cannot tell these ids, that is what it fails by.
abbrev pub Suspends : Version → AwaitTree NotificationId → (old : Active) → Result (Unit {0}) TellError → (new : Active) → Type 0
Suspends version ids old (Ok done) new = (is_suspension_too_deep version ids ≡ false) × IsSuspended ids old new
Suspends version ids old (Err TooDeep) new = (is_suspension_too_deep version ids ≡ true) × (new ≡ old)
Suspends version ids old (Err (Encoding error)) new = (is_suspension_too_deep version ids ≡ false) × IsSuspensionWritten ids old (Err error) new

-- ---- while it stays

-- whether a policy lets it be told
abbrev pub allows_telling : AwaitingOnPolicy → (executes_run : Bool) → Bool
allows_telling SendAlways executes_run = true
allows_telling DontSendWhenExecutingRun executes_run = not executes_run
allows_telling DontSend executes_run = false

-- from version 7 on it is told, where anything is waited for that can be told, and where the policy lets it
abbrev pub tells_awaiting : Version → AwaitingOnPolicy → (executes_run waits_for_any : Bool) → Bool
tells_awaiting version policy executes_run waits_for_any = has_feature (version_number version) features.AwaitTree && (allows_telling policy executes_run && waits_for_any)

-- a frame that tells these ids is written, or cannot be made
abbrev pub WritesAwaited : AwaitTree NotificationId → (old : Active) → Result (Unit {0}) EncodingError → (new : Active) → Type 0
WritesAwaited ids old result new = WritesFrame messages.AwaitingOn (awaiting_on_payload ids false) old.output result new.output × (new ≡ record old { output = new.output })

-- Exactly where these ids are to be told a frame is written, which fails by name where none can tell them; else nothing is done, which
-- cannot fail.
abbrev pub TellsIf : (told : Bool) → AwaitTree NotificationId → (old : Active) → Result (Unit {0}) TellError → (new : Active) → Type 0
TellsIf true ids old (Ok done) new = (is_too_deep ids ≡ false) × WritesAwaited ids old (Ok done) new
TellsIf true ids old (Err TooDeep) new = (is_too_deep ids ≡ true) × (new ≡ old)
TellsIf true ids old (Err (Encoding error)) new = (is_too_deep ids ≡ false) × WritesAwaited ids old (Err error) new
TellsIf false ids old (Ok done) new = new ≡ old
TellsIf false ids old (Err error) new = ⊥
