use Rattle.std.proofs.Common.{[]}
use Rattle.store_refusals.specs.RefusalConditions.{IsRefused}
use Rattle.shown_records.specs.Rows.{rows_text}
use Rattle.store_server.specs.RequestAnswers.{refusal_line}
use Rattle.store_server.proofs.Reaching.{reaches_told}
use Rattle.store_server.proofs.Showing.{AreStates, no_states_printed, states_printed}
use Rattle.store_server.proofs.asks.state.Goals as goal

pub returns-in-Ok : goal.returns-in-Ok
returns-in-Ok g c =
    let asked = c.state in
    let object = c.args.object.now in
    let rows = c.in-Ok.rows.items in (
      rows_text rows,
      c.format-text.ensures.ok,
      states_printed g.S.Store object c.args.store.now asked.new.self rows
          (reaches_told g.S.Store c.args.store.now asked.new.self asked.ensures.crash asked.ensures.live (AreStates object rows) c.in-Ok.ensures.told),
    )

pub returns-in-Err : goal.returns-in-Err
returns-in-Err g c =
    let asked = c.state in
    let why = c.in-Err.refusal in (
      refusal_line why,
      c.refused.ensures,
      no_states_printed g.S.Store c.args.object.now c.args.store.now asked.new.self why
          (reaches_told g.S.Store c.args.store.now asked.new.self asked.ensures.crash asked.ensures.live (λ events. IsRefused [] why) c.in-Err.ensures.told),
    )
