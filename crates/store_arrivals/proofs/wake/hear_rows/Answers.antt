use Rattle.std.proofs.Common.{◌≡◌, ◌≤◌, ◌∙◌, sym, subst, arith, length, List, [], ◌∷◌, ◌++◌, take}
use Rattle.std.proofs.lemmas.List.{take_all}
use Rattle.journal_model.specs.Notification.{Arrival}
use Rattle.store_frames.specs.First.{AreFirst, first_state}
use Rattle.store_frames.proofs.Waking.{heard_more}
use Rattle.store_arrivals.proofs.Hearing.{as_many, is_next}
use Rattle.store_arrivals.proofs.wake.hear_rows.Goals as goal

pub loop-row-preserved : goal.loop-row-preserved
loop-row-preserved c = λ arrivals are.
    let i = c.loop-row.row-index in
    let next = is_next arrivals c.args.rows.now i c.row-item.result are c.loop-row-test.true c.row-item.is in
    subst (AreFirst c.hear_kept.new.self) (sym next.more)
    (heard_more (first_state c.loop-row.first) (first_state c.hear_kept.new.self) (take i arrivals) next.arrival (c.loop-row.invariant arrivals are)
    (c.in-Ok.ensures next.arrival next.heard.answered (c.as_slice.ensures ∙ next.heard.payload) next.heard.fits))

pub returns-in-Err : goal.returns-in-Err
returns-in-Err c = λ arrivals are.
    let next = is_next arrivals c.args.rows.now c.loop-row.row-index c.row-item.result are c.loop-row-test.true c.row-item.is in
    c.in-Err.ensures next.arrival next.heard.answered (c.as_slice.ensures ∙ next.heard.payload) next.heard.fits

pub returns : goal.returns
returns c = λ arrivals are.
    let all : length arrivals ≤ c.loop-row.row-index = omega (arith, as_many arrivals c.args.rows.now are, c.loop-row-test.false) in
    subst (AreFirst c.loop-row.first) (take_all c.loop-row.row-index arrivals all) (c.loop-row.invariant arrivals are)
