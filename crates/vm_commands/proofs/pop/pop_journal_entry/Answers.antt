-- What is taken is the first message, and is matched as a request: in `Popping`.
use Rattle.std.proofs.Common.{◌≡◌, ℤ, subst, to_z, of_z, to_z-of_z, w64}
use Rattle.vm_commands.specs.NextCommand.{TakesAs}
use Rattle.vm_commands.proofs.NextCommand.{first_taken, matches}
use Rattle.vm_commands.proofs.pop.pop_journal_entry.Goals as goal

pub returns-clause-taken : goal.returns-clause-taken
returns-clause-taken g c =
    let same : to_z w64 (of_z w64 c.args.command_index) ≡ c.args.command_index = to_z-of_z c.ranges.command_index in
    first_taken g.M.Record.record_type g.M.Record.of g.M.CommandMessageHeaderEq.erased c.args.command_index c.args.ignore_payload_equality c.args.expected _ _ _ c.take_first-next.ensures.first
    (subst (λ (i : ℤ). TakesAs g.M.Record.record_type g.M.Record.of g.M.CommandMessageHeaderEq.erased i c.args.ignore_payload_equality c.args.expected c.take_first-next.result c.take_next.result) same c.take_next.ensures)

pub returns-clause-matched : goal.returns-clause-matched
returns-clause-matched g c = λ made written e.
    let same : to_z w64 (of_z w64 c.args.command_index) ≡ c.args.command_index = to_z-of_z c.ranges.command_index in
    matches g.met.M.Command.means c.args.command_index c.args.ignore_payload_equality c.args.expected _ _ _
    (first_taken g.M.Record.record_type g.M.Record.of g.M.CommandMessageHeaderEq.erased c.args.command_index c.args.ignore_payload_equality c.args.expected _ _ _ c.take_first-next.ensures.first
    (subst (λ (i : ℤ). TakesAs g.M.Record.record_type g.M.Record.of g.M.CommandMessageHeaderEq.erased i c.args.ignore_payload_equality c.args.expected c.take_first-next.result c.take_next.result) same c.take_next.ensures))
    c.take_first-next.ensures.left made written e
