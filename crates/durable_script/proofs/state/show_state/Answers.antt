use Rattle.std.proofs.Common.{◌≡◌, ℕ, List, ◌∷◌, [], ◌++◌, subst}
use Rattle.std.specs.Prelude.{string_bytes, IfOk}
use Rattle.store_refusals.specs.Names.{refusal_name_of}
use Rattle.script_lines.specs.Text.{refused_text}
use Rattle.shown_records.specs.Rows.{rows_text}
use Rattle.durable_script.proofs.States.{states_printed, no_states_printed}
use Rattle.durable_script.proofs.state.show_state.Goals as goal

pub returns-in-Ok : goal.returns-in-Ok
returns-in-Ok g c = (
  rows_text c.in-Ok.rows.items,
  c.format-text.ensures.ok,
  states_printed g.S.Store c.args.object.now c.args.scheduler.now c.state.new.self c.state.ensures.crash c.state.ensures.kept c.in-Ok.rows.items c.in-Ok.ensures.told,
)

pub returns-in-Err : goal.returns-in-Err
returns-in-Err g c = (
  refused_text (refusal_name_of c.in-Err.refusal) ++ 10 ∷ [],
  subst (λ (name : List ℕ). IfOk c.reply_line.result (λ s. string_bytes s ≡ refused_text name ++ 10 ∷ [])) c.name.ensures c.reply_line.ensures,
  no_states_printed g.S.Store c.args.object.now c.args.scheduler.now c.state.new.self c.state.ensures.crash c.state.ensures.kept c.in-Err.refusal c.in-Err.ensures.told,
)
