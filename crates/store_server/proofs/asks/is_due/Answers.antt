use Rattle.store_server.specs.RequestAnswers.{IsUnknown}
use Rattle.store_server.proofs.Asking.{known_refused, not_due, told_due}
use Rattle.store_server.proofs.Reaching.{reaches_told}
use Rattle.store_server.proofs.Showing.{KnownOpen}
use Rattle.store_server.proofs.asks.is_due.Goals as goal

pub returns-in_err-is_open : goal.returns-in_err-is_open
returns-in_err-is_open g c =
    let id = c.args.id.now in
    let asked = c.is_open in
    let why = c.in_err-is_open.field-0.0 in
    known_refused g.S.Store id c.args.store.now asked.new.self c.from_residual.result why c.from_residual.ensures.1
    (reaches_told g.S.Store c.args.store.now asked.new.self asked.ensures.crash asked.ensures.live (IsUnknown id why) c.in_err-is_open.ensures.told)

pub returns-then-is_open : goal.returns-then-is_open
returns-then-is_open g c =
    let id = c.args.id.now in
    let first = c.is_open in
    let now = c.in_ok-is_open.is_open in
    told_due g.S.Store id c.args.store.now first.new.self c.is_listed.new.store now
    (reaches_told g.S.Store c.args.store.now first.new.self first.ensures.crash first.ensures.live (KnownOpen id now) c.in_ok-is_open.ensures.told)
    c.is_listed.result c.is_listed.ensures

pub returns-else-is_open : goal.returns-else-is_open
returns-else-is_open g c =
    let id = c.args.id.now in
    let first = c.is_open in
    let now = c.in_ok-is_open.is_open in
    not_due g.S.Store id c.args.store.now first.new.self now c.if-is_open.false
    (reaches_told g.S.Store c.args.store.now first.new.self first.ensures.crash first.ensures.live (KnownOpen id now) c.in_ok-is_open.ensures.told)
