-- Worked rows: what is told of a state that was shown in part, and of what was written since; which command an error is about.
use Rattle.std.proofs.Common.{◌≡◌, refl, true, [], ◌∷◌, Some, None, codes}
use Rattle.protocol_types.specs.declared.message_type.MessageType.TheVariants.{Start, SleepCommand, SetStateCommand}
use Rattle.protocol_stream.specs.declared.command_type.CommandType.{CommandType}
use Rattle.protocol_differences.specs.declared.relationship.CommandRelationship.{CommandRelationship}
use Rattle.vm_context.specs.declared.eager_state.EagerGetState.{EagerGetState}
use Rattle.vm_context.specs.declared.eager_state.EagerGetStateKeys.{EagerGetStateKeys}
use Rattle.vm_context.specs.Eager.{KnownState, known_from, with_known, all_cleared, told_value, told_keys}
use Rattle.vm_context.specs.Journal.{no_commands, after_command, command_told}

-- `b` is `2`, and then `a` is `1`; `b` came once more, as `3`
abbrev shown : KnownState
shown = known_from true ((codes "b", codes "2") ∷ (codes "a", codes "1") ∷ (codes "b", codes "3") ∷ [])

known_key : told_value shown (codes "b") ≡ EagerGetState.Value (codes "3")
known_key = refl

unknown_key : told_value shown (codes "c") ≡ EagerGetState.Unknown
unknown_key = refl

unknown_keys : told_keys shown ≡ EagerGetStateKeys.Unknown
unknown_keys = refl

cleared_key : told_value (with_known shown (codes "c") None) (codes "c") ≡ EagerGetState.Empty
cleared_key = refl

-- what is cleared and set again is all that is known
set_again : told_keys (with_known (with_known all_cleared (codes "z") (Some (codes "9"))) (codes "d") (Some (codes "4"))) ≡ EagerGetStateKeys.Keys (codes "d" ∷ codes "z" ∷ [])
set_again = refl

none_left : told_value all_cleared (codes "b") ≡ EagerGetState.Empty
none_left = refl

-- ---- the command that an error is about

before_first : command_told no_commands CommandRelationship.Last ≡ record { index = 0; ty = Start; name = None }
before_first = refl

behind_none : command_told no_commands (CommandRelationship.Next CommandType.Sleep None) ≡ record { index = 1; ty = SleepCommand; name = None }
behind_none = refl

second : command_told (after_command SetStateCommand (codes "s") (after_command SleepCommand [] no_commands)) CommandRelationship.Last ≡ record { index = 1; ty = SetStateCommand; name = Some (codes "s") }
second = refl

behind_second : command_told (after_command SetStateCommand (codes "s") (after_command SleepCommand [] no_commands)) (CommandRelationship.Next CommandType.Sleep None) ≡ record { index = 2; ty = SleepCommand; name = None }
behind_second = refl
