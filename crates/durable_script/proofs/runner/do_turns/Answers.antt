use Rattle.std.proofs.Common.{◌≡◌, ℕ, List, ◌∷◌, [], ◌++◌, refl, subst}
use Rattle.std.specs.Prelude.{string_bytes, IfOk}
use Rattle.durable_script.specs.ReplyTexts.{printed}
use Rattle.durable_script.proofs.Printing.{turns_printed}
use Rattle.durable_script.proofs.runner.do_turns.Goals as goal

pub returns : goal.returns
returns g c =
    let taken = c.take_turns-taken.result.0 in
    let last = c.take_turns-taken.result.1 in
    let text = printed taken last ++ 10 ∷ [] in (
      text,
      subst (λ (t : List ℕ). IfOk c.reply_line-text.result (λ s. string_bytes s ≡ t ++ 10 ∷ [])) c.line_reply.ensures c.reply_line-text.ensures,
      turns_printed g.S.Store c.args.scheduler.now c.take_turns-taken.new.scheduler c.args.id.now c.args.attempt c.args.count c.args.outcome taken last c.take_turns-taken.ensures text refl,
    )
