-- What is wrong with a message is told: in `Retelling`.
use Rattle.std.proofs.Common.{to_z-of_z}
use Rattle.vm_commands.proofs.Retelling.{tells_other, tells_unread_read}
use Rattle.vm_commands.proofs.state_read.take_read.Goals as goal

pub returns-then-is_of_another_type : goal.returns-then-is_of_another_type
returns-then-is_of_another_type g c =
    tells_other g.E.Record.record_type g.E.Lazy.Record.record_type g.E.Record.of g.E.Lazy.Record.of g.E.CommandMessageHeaderEq.erased g.E.Lazy.CommandMessageHeaderEq.erased g.E.EagerRead.known g.E.EagerRead.bare g.E.EagerRead.asked c.args.command_index c.args.ignore_payload_equality c.args.expected
    c.in-Some.message c.args.next c.in-Err.error c.decode_to.result _ c.is_of_another_type.result c.take_lazy.result
    c.in-Some.is c.in-Err.is (to_z-of_z c.ranges.command_index) c.decode_to.ensures c.is_of_another_type.ensures c.if-is_of_another_type.true c.take_lazy.ensures

pub returns-else-is_of_another_type : goal.returns-else-is_of_another_type
returns-else-is_of_another_type g c =
    tells_unread_read g.E.Record.record_type g.E.Lazy.Record.record_type g.E.Record.of g.E.Lazy.Record.of g.E.CommandMessageHeaderEq.erased g.E.Lazy.CommandMessageHeaderEq.erased g.E.EagerRead.known g.E.EagerRead.bare g.E.EagerRead.asked c.args.command_index c.args.ignore_payload_equality c.args.expected
    c.in-Some.message c.args.next c.in-Err.error c.decode_to.result _ c.is_of_another_type.result c.unread.result
    c.in-Some.is c.in-Err.is (to_z-of_z c.ranges.command_index) c.decode_to.ensures c.is_of_another_type.ensures c.if-is_of_another_type.false c.unread.ensures
