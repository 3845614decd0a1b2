use Rattle.std.proofs.Common.{take}
use Rattle.std.specs.List.{flat_map}
use Rattle.std.specs.Fmt.{HasWritten, IsPlainFormatter}
use Rattle.store_server.specs.Rows.{open_request_shown}
use Rattle.store_server.proofs.rows.ShownRequestsDisplay.fmt.Given as goal

abbrev pub invariant-loop-request : goal.invariant-loop-request
invariant-loop-request g l =
    IsPlainFormatter l.initial.f → HasWritten g.W.Write.write_str_gives l.initial.f (flat_map (open_request_shown l.self.id) (take l.request-index l.request-items)) l.f
