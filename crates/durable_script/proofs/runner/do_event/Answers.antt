use Rattle.std.proofs.Common.{◌≡◌, ℕ, List, ◌∷◌, [], ◌++◌, refl, subst}
use Rattle.std.specs.Prelude.{string_bytes, IfOk}
use Rattle.durable_script.specs.ReplyTexts.{printed}
use Rattle.durable_script.proofs.Lasting.{lasts_by}
use Rattle.durable_script.proofs.Printing.{event_printed}
use Rattle.durable_script.proofs.SchedulerChanges.{reaches_applied}
use Rattle.durable_script.proofs.runner.do_event.Goals as goal

pub returns : goal.returns
returns g c =
    let reply = c.apply-reply.result in
    let old = c.args.scheduler.now in
    let new = c.apply-reply.new.self in
    let applied = reaches_applied g.S.Store c.args.event reply old new c.apply-reply.ensures.crash c.apply-reply.ensures.does c.apply-reply.ensures.fits c.apply-reply.ensures.options in
    let text = printed 1 reply ++ 10 ∷ [] in (
      text,
      subst (λ (t : List ℕ). IfOk c.reply_line-text.result (λ s. string_bytes s ≡ t ++ 10 ∷ [])) c.line_reply.ensures c.reply_line-text.ensures,
      record {
        does = event_printed g.S.Store old new c.args.event reply applied text refl;
        lasts = lasts_by g.S.Store old new c.args.event reply c.apply-reply.ensures.does c.apply-reply.ensures.settled c.apply-reply.ensures.fits;
      },
    )
