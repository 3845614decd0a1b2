-- What arguments of a host have to be, and what is said where one is not read.
use Rattle.std.specs.Prelude.{◌≡◌, ◌≤◌, ℕ, ◌==◌, ◌||◌, ◌&&◌, not, Bool, true, List, None, IsSome, Result, Ok, Err}
use Rattle.journal_model.specs.AwaitTree.{AwaitTree, levels_of}
use Rattle.journal_model.specs.Notification.{Bytes}
use Rattle.protocol_table.specs.declared.table.RecordType.{RecordType}
use Rattle.protocol_table.specs.declared.table.RecordType.TheVariants as types
use Rattle.protocol_wire.specs.Check.{payload_fault}
use Rattle.protocol_wire.specs.declared.record.TheConstants.{LEVELS}
use Rattle.vm_c_values.specs.Nodes.{nodes_of}
use Rattle.vm_c_values.specs.Options.{is_set}
use Rattle.vm_c_values.specs.Records.{attach_target_in}
use Rattle.vm_c_values.specs.declared.levels.TheConstants.{NODE_LEVELS}
use Rattle.vm_c_values.specs.declared.node.Node.{Node}
use Rattle.vm_c_values.specs.declared.not_done.Unread.{Unread}
use Rattle.vm_c_values.specs.declared.not_done.Unread.TheVariants.{Memory, Malformed}
use Rattle.vm_c_values.specs.declared.policy.Policy.{Policy}

-- That one is malformed says that it is not what it has to be; that memory was refused says nothing of it.
abbrev pub IsUnread : (IsWellFormed : Type 0) → Unread → Type 0
IsUnread IsWellFormed Memory = Unit {0}
IsUnread IsWellFormed Malformed = IsWellFormed → ⊥

-- One that is what it has to be is read as what it tells.
abbrev pub Reads : {A : Type 0} → (IsWellFormed : Type 0) → (Tells : A → Type 0) → Result A Unread → Type 0
Reads IsWellFormed Tells (Ok value) = IsWellFormed × Tells value
Reads IsWellFormed Tells (Err why) = IsUnread IsWellFormed why

-- any bytes are
abbrev pub AnyBytes : Type 0
AnyBytes = Unit {0}

-- ---- records: a text is one by `IsUtf8`

-- fields alone, those that are known of their types, texts UTF-8, and no record more than a hundred levels below the payload
abbrev pub IsRecord : RecordType → (payload : Bytes) → Type 0
IsRecord of payload = payload_fault LEVELS of payload ≡ None

abbrev pub IsFailure : (payload : Bytes) → Type 0
IsFailure payload = IsRecord types.Failure payload

-- a value is any bytes, and of a failure the payload
abbrev pub IsValue : (failed : ℕ) → Bytes → Type 0
IsValue failed bytes = is_set failed ≡ true → IsFailure bytes

abbrev pub IsCallTarget : (payload : Bytes) → Type 0
IsCallTarget payload = IsRecord types.CallCommand payload

-- one that tells no target is none
abbrev pub IsAttachTarget : (payload : Bytes) → Type 0
IsAttachTarget payload = IsRecord types.AttachInvocationCommand payload × IsSome (attach_target_in payload)

-- ---- trees and policies

-- the nodes are those of some tree, of one alone, which is not nested too deep
abbrev pub IsTree : List Node → Type 0
IsTree nodes = (tree : AwaitTree ℕ) × ((nodes_of tree ≡ nodes) × (levels_of tree ≤ NODE_LEVELS))

-- the kind is one of the four, and no factor is over 0
abbrev pub is_policy : Policy → Bool
is_policy policy = policy.kind == 0 || policy.kind == 1 || policy.kind == 2 || (policy.kind == 3 && not (policy.factor_denominator == 0))
