use Rattle.std.proofs.Common.{◌∷◌, [], ◌^◌, ◌-◌, nat_lt}
use Rattle.journal_model.specs.Spelling.{notification_payload}
use Rattle.journal_model.specs.Cause.{is_too_long}
use Rattle.journal_model.specs.declared.cause.Cause.{Cause}
use Rattle.protocol_types.specs.MessageType.{type_number}
use Rattle.store_invocations.proofs.Refusing.{decided_later, first_of_two, none_of_one}
use Rattle.store_invocations.specs.Rows.{payload_tests}
use Rattle.store_arrivals.specs.Arrivals.{IsArrival}
use Rattle.store_arrivals.proofs.Places.{not_used_up, used_up}
use Rattle.store_arrivals.proofs.arrival.prepare_arrival.Goals as goal

pub returns-then-has_room-clause-decided : goal.returns-then-has_room-clause-decided
returns-then-has_room-clause-decided c =
    decided_later ((nat_lt (2 ^ 32 - 2) c.args.row.progress.entries, Cause.NumbersUsedUp) ∷ []) (payload_tests (notification_payload c.args.arrival))
    (IsArrival c.args.row c.args.ty c.args.arrival) c.arrival_in.result
    (none_of_one _ Cause.NumbersUsedUp (not_used_up c.args.row.progress.entries c.if-has_room.true)) c.arrival_in.ensures.decided

pub returns-else-has_room-clause-decided : goal.returns-else-has_room-clause-decided
returns-else-has_room-clause-decided c =
    first_of_two _ (is_too_long (notification_payload c.args.arrival)) Cause.NumbersUsedUp Cause.PayloadTooLong (used_up c.args.row.progress.entries c.if-has_room.false)
