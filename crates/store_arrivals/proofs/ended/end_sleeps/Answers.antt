use Rattle.std.proofs.Common.{refl, inr, length}
use Rattle.journal_model.specs.declared.cause.Cause.{Cause}
use Rattle.store_invocations.proofs.Refusing.{first_of_one}
use Rattle.store_arrivals.proofs.Ends.{ends_decided, has_no_places}
use Rattle.store_arrivals.proofs.ended.end_sleeps.Goals as goal

pub returns-then-is_full-clause-decided : goal.returns-then-is_full-clause-decided
returns-then-is_full-clause-decided c =
    first_of_one _ Cause.NumbersUsedUp (has_no_places c.args.row.progress.entries (length c.args.completions.now) (c.lacks_places-is_full.ensures.yes c.if-is_full.true))

pub returns-in-Ok-clause-decided : goal.returns-in-Ok-clause-decided
returns-in-Ok-clause-decided c =
    ends_decided c.args.row c.args.completions.now c.args.writes.now.items c.end_in_room.new.writes.items (c.lacks_places-is_full.ensures.no c.if-is_full.false) c.in-Ok.ensures

pub returns-in-Err-clause-decided : goal.returns-in-Err-clause-decided
returns-in-Err-clause-decided c = inr refl
