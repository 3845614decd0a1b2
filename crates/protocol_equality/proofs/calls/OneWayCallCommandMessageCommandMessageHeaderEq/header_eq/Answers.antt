use Rattle.protocol_equality.proofs.Told.{told}
use Rattle.protocol_equality.specs.Calls.{one_way_call_command_tells}
use Rattle.protocol_equality.proofs.calls.OneWayCallCommandMessageCommandMessageHeaderEq.header_eq.Goals as goal

pub returns : goal.returns
returns c = told (one_way_call_command_tells c.args.ignore_payload_equality) c.args.self.now c.args.other.now _ c.is_same_one_way_call.ensures
