-- What is wrong with a message is told: in `Popping`.
use Rattle.std.proofs.Common.{◌≡◌, ℤ, subst, to_z, of_z, to_z-of_z, w64}
use Rattle.protocol_messages.specs.Decodings.{DecodesTo}
use Rattle.vm_commands.proofs.NextCommand.{tells_next}
use Rattle.vm_commands.proofs.pop.take_next.Goals as goal

pub returns-in-Err : goal.returns-in-Err
returns-in-Err g c =
    let same : to_z w64 (of_z w64 c.args.command_index) ≡ c.args.command_index = to_z-of_z c.ranges.command_index in
    tells_next g.M.Record.record_type g.M.Record.of g.M.CommandMessageHeaderEq.erased c.args.command_index c.args.ignore_payload_equality c.args.expected c.in-Some.message c.args.next c.in-Err.error
    c.decode_to-read.result c.unread.result c.in-Some.is c.in-Err.is
    (subst (λ (i : ℤ). DecodesTo g.M.Record.record_type g.M.Record.of i c.in-Some.message c.decode_to-read.result) same c.decode_to-read.ensures) c.unread.ensures
