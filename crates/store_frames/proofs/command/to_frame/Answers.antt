use Rattle.std.proofs.Common.{◌∙◌}
use Rattle.store_frames.proofs.Commanding.{told_so}
use Rattle.store_frames.proofs.command.to_frame.Goals as goal

pub returns-in-Ok : goal.returns-in-Ok
returns-in-Ok g c =
    c.with_payload.ensures
    ∙ told_so c.in-Ok.payload c.in-Some.asked (g.R.CommandRecord.request_of c.args.one.now) c.in_ok-asked.field-0 c.in_ok-asked.ensures c.in-Some.is
    (λ request h. c.in-Ok.ensures ∙ g.met.R.CommandRecord.spelled.payload c.args.one.now request h)
