use Rattle.shown_records.specs.Invocation.{shown_text}
use Rattle.store_server.specs.RequestAnswers.{refusal_line}
use Rattle.store_server.proofs.Showing.{records_printed, refusal_printed}
use Rattle.store_server.proofs.asks.show.Goals as goal

pub returns-in-Ok : goal.returns-in-Ok
returns-in-Ok g c =
    let shown = c.in-Ok.shown in (
      shown_text shown.entries.items shown.answer shown.is_open,
      c.format-text.ensures.ok,
      records_printed g.S.Store c.args.id.now c.args.store.now c.shown.new.store shown.entries.items shown.answer shown.is_open c.in-Ok.ensures.ok,
    )

pub returns-in-Err : goal.returns-in-Err
returns-in-Err g c = (
  refusal_line c.in-Err.refusal,
  c.refused.ensures,
  refusal_printed g.S.Store c.args.id.now c.args.store.now c.shown.new.store c.in-Err.refusal c.in-Err.ensures.err,
)
