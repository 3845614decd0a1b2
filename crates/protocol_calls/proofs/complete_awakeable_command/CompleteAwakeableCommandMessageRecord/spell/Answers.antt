use Rattle.std.proofs.Common.{refl, [], ◌∷◌}
use Rattle.protocol_wire.specs.Parts.{plain_bytes}
use Rattle.protocol_wire.proofs.Puts.{chained, chain_block}
use Rattle.protocol_table.specs.declared.table.complete_awakeable_command.TheConstants.{NAME}
use Rattle.protocol_records.specs.Choice.{choice_parts}
use Rattle.protocol_calls.specs.CompleteAwakeableCommand.{complete_awakeable_command_parts}
use Rattle.protocol_calls.specs.Choices.{awakeable_choice}
use Rattle.protocol_calls.proofs.complete_awakeable_command.CompleteAwakeableCommandMessageRecord.spell.Goals as goal

pub returns : goal.returns
returns c = chained (complete_awakeable_command_parts c.args.self.now) c.args.out.now.items _ (_, c.in_ok-put_text.ensures, chain_block (choice_parts awakeable_choice c.args.self.now.result) (plain_bytes NAME.number c.args.self.now.name ∷ []) _ _ _ c.in_ok-put_result.ensures (_, c.in_ok-put_text-2.ensures, refl))
