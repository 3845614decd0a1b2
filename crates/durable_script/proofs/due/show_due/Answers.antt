use Rattle.std.proofs.Common.{◌≡◌, ℕ, List, ◌∷◌, [], ◌++◌, subst}
use Rattle.std.specs.Prelude.{string_bytes, IfOk}
use Rattle.store_refusals.specs.Names.{refusal_name_of}
use Rattle.script_lines.specs.Text.{due_line, refused_text}
use Rattle.durable_script.proofs.Dues.{due_printed, no_due_printed}
use Rattle.durable_script.proofs.due.show_due.Goals as goal

pub returns-in-Ok : goal.returns-in-Ok
returns-in-Ok g c = (
  due_line c.in-Ok.ids.items ++ 10 ∷ [],
  subst (λ (ids : List (List ℕ)). IfOk c.ids_line-text.result (λ s. string_bytes s ≡ due_line ids ++ 10 ∷ [])) c.as_slice.ensures.value c.ids_line-text.ensures,
  due_printed g.S.Store c.args.scheduler.now c.due.new.self c.due.ensures.crash c.due.ensures.kept c.in-Ok.ids.items c.in-Ok.ensures.told,
)

pub returns-in-Err : goal.returns-in-Err
returns-in-Err g c = (
  refused_text (refusal_name_of c.in-Err.refusal) ++ 10 ∷ [],
  subst (λ (name : List ℕ). IfOk c.reply_line.result (λ s. string_bytes s ≡ refused_text name ++ 10 ∷ [])) c.name.ensures c.reply_line.ensures,
  no_due_printed g.S.Store c.args.scheduler.now c.due.new.self c.due.ensures.crash c.due.ensures.kept c.in-Err.refusal c.in-Err.ensures.told,
)
