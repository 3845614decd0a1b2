-- What is taken is the first message, and is matched as a request: in `Retelling`.
use Rattle.std.proofs.Common.{to_z-of_z}
use Rattle.vm_commands.proofs.Retelling.{first_read, matches_read}
use Rattle.vm_commands.proofs.state_read.pop_state_read.Goals as goal

pub returns-clause-read : goal.returns-clause-read
returns-clause-read g c =
    first_read g.E.Record.record_type g.E.Lazy.Record.record_type g.E.Record.of g.E.Lazy.Record.of g.E.CommandMessageHeaderEq.erased g.E.Lazy.CommandMessageHeaderEq.erased g.E.EagerRead.known g.E.EagerRead.bare g.E.EagerRead.asked c.args.command_index c.args.ignore_payload_equality c.args.expected _ _ _ _ c.take_first-next.ensures.first (to_z-of_z c.ranges.command_index) c.take_read.ensures

pub returns-clause-matched : goal.returns-clause-matched
returns-clause-matched g c = λ made written asks.
    matches_read g.met.E.Command.means g.met.E.Lazy.Command.means g.met.E.EagerRead.takes_over c.args.command_index c.args.ignore_payload_equality c.args.expected _ _ _
    (first_read g.E.Record.record_type g.E.Lazy.Record.record_type g.E.Record.of g.E.Lazy.Record.of g.E.CommandMessageHeaderEq.erased g.E.Lazy.CommandMessageHeaderEq.erased g.E.EagerRead.known g.E.EagerRead.bare g.E.EagerRead.asked c.args.command_index c.args.ignore_payload_equality c.args.expected _ _ _ _ c.take_first-next.ensures.first (to_z-of_z c.ranges.command_index) c.take_read.ensures)
    c.take_first-next.ensures.left made written asks
