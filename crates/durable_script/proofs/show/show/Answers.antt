use Rattle.std.proofs.Common.{◌≡◌, ℕ, List, ◌∷◌, [], ◌++◌, subst}
use Rattle.std.specs.Prelude.{string_bytes, IfOk}
use Rattle.store_refusals.specs.Names.{refusal_name_of}
use Rattle.script_lines.specs.Text.{refused_text}
use Rattle.shown_records.specs.Invocation.{shown_text}
use Rattle.durable_script.proofs.Showing.{records_printed, refusal_printed}
use Rattle.durable_script.proofs.show.show.Goals as goal

pub returns-in-Ok : goal.returns-in-Ok
returns-in-Ok g c =
    let shown = c.in-Ok.shown in (
      shown_text shown.entries.items shown.answer shown.is_open,
      c.format-text.ensures.ok,
      records_printed g.S.Store c.args.id.now c.args.scheduler.now c.shown.new.scheduler shown.entries.items shown.answer shown.is_open c.in-Ok.ensures.ok,
    )

pub returns-in-Err : goal.returns-in-Err
returns-in-Err g c = (
  refused_text (refusal_name_of c.in-Err.refusal) ++ 10 ∷ [],
  subst (λ (name : List ℕ). IfOk c.reply_line.result (λ s. string_bytes s ≡ refused_text name ++ 10 ∷ [])) c.name.ensures c.reply_line.ensures,
  refusal_printed g.S.Store c.args.id.now c.args.scheduler.now c.shown.new.scheduler c.in-Err.refusal c.in-Err.ensures.err,
)
