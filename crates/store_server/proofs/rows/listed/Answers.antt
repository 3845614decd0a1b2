use Rattle.std.proofs.Common.{◌∙◌, Err, Ok, refl, subst, sym}
use Rattle.std.proofs.lemmas.Result.{err_from_is_err_and}
use Rattle.std.proofs.lemmas.Iterator.Consumers.{YieldsList-end, YieldsList-turn}
use Rattle.std.proofs.lemmas.Iterator.Adapters.{YieldsList-from_vec}
use Rattle.store_live.specs.Attempts.{Attempts}
use Rattle.store_server.specs.Rows.{ListsRow}
use Rattle.store_server.specs.StoreChanges.{CommitsNothing, ReachesStore}
use Rattle.store_server.specs.RequestAnswers.{Shown}
use Rattle.store_server.proofs.ListedRows.{all_listed, as_they_are, none_listed, one_dropped, one_listed, one_unlisted, unlisted_first}
use Rattle.store_server.proofs.rows.listed.Goals as goal

pub returns-in_err-invocations : goal.returns-in_err-invocations
returns-in_err-invocations g c =
    let p = err_from_is_err_and c.from_residual.result c.from_residual.ensures.1 in
    rw p.1 (unlisted_first g.S.Store c.args.store.now.live.attempts c.args.rows.items c.args.store.now p.0 p.2)

pub loop-row-init : goal.loop-row-init
loop-row-init g c = (
  refl,
  none_listed g.S.Store c.args.store.now.live.attempts c.args.rows.items c.args.store.now c.in_ok-invocations.invocations.items c.in_ok-invocations.ensures.items,
)

pub returns-in_err-one : goal.returns-in_err-one
returns-in_err-one g c =
    let h = c.into_iter-row-iterator.ensures.into_iter_gives in
    let rows = c.args.rows.items in
    let turn = YieldsList-turn (YieldsList-from_vec {s = c.into_iter-row-iterator.result} rows h.0 (h.1 ∙ c.args.rows.ok.0)) c.loop-row.yielded c.loop-row.row-iterator c.loop-row.yielded_by c.next.result c.next.new.self c.in-Some.row c.in-Some.is c.next.ensures.steps in
    let p = err_from_is_err_and c.from_residual-in_err-one.result c.from_residual-in_err-one.ensures.1 in
    let b = c.loop-row.store in
    let d = c.listed_row.new.store in
    let why = c.in_err-one.field-0.0 in
    rw (p.1, p.2)
    (one_unlisted g.S.Store c.args.store.now.live.attempts rows c.args.store.now b d c.loop-row.yielded c.loop-row.invocations.items c.in-Some.row c.in-Some.row turn.0 (sym turn.1) c.loop-row.invariant.1 why
    (subst (λ (live : Attempts). ReachesStore g.S.Store CommitsNothing (Shown (ListsRow live.attempts c.in-Some.row (Err why))) b d) c.loop-row.invariant.0 c.in_err-one.ensures.told))

pub loop-row-preserved : goal.loop-row-preserved
loop-row-preserved g c =
    let h = c.into_iter-row-iterator.ensures.into_iter_gives in
    let rows = c.args.rows.items in
    let turn = YieldsList-turn (YieldsList-from_vec {s = c.into_iter-row-iterator.result} rows h.0 (h.1 ∙ c.args.rows.ok.0)) c.loop-row.yielded c.loop-row.row-iterator c.loop-row.yielded_by c.next.result c.next.new.self c.in-Some.row c.in-Some.is c.next.ensures.steps in
    let b = c.loop-row.store in
    let d = c.listed_row.new.store in
    let one = c.in_ok-one.one in (
      c.in_ok-one.ensures.live ∙ c.loop-row.invariant.0,
      one_listed g.S.Store c.args.store.now.live.attempts rows c.args.store.now b d c.loop-row.yielded c.loop-row.invocations.items c.in-Some.row c.in-Some.row turn.0 (sym turn.1) c.loop-row.invariant.1 one c.push.new.self.items c.in_ok-push.ensures.items
          (subst (λ (live : Attempts). ReachesStore g.S.Store CommitsNothing (Shown (ListsRow live.attempts c.in-Some.row (Ok one))) b d) c.loop-row.invariant.0 c.in_ok-one.ensures.told),
    )

pub returns-in_err-push : goal.returns-in_err-push
returns-in_err-push g c =
    let h = c.into_iter-row-iterator.ensures.into_iter_gives in
    let rows = c.args.rows.items in
    let turn = YieldsList-turn (YieldsList-from_vec {s = c.into_iter-row-iterator.result} rows h.0 (h.1 ∙ c.args.rows.ok.0)) c.loop-row.yielded c.loop-row.row-iterator c.loop-row.yielded_by c.next.result c.next.new.self c.in-Some.row c.in-Some.is c.next.ensures.steps in
    let p = err_from_is_err_and c.from_residual-in_err-push.result c.from_residual-in_err-push.ensures.1 in
    let b = c.loop-row.store in
    let d = c.listed_row.new.store in
    let one = c.in_ok-one.one in
    rw p.1
    (one_dropped g.S.Store c.args.store.now.live.attempts rows c.args.store.now b d c.loop-row.yielded c.loop-row.invocations.items c.in-Some.row c.in-Some.row turn.0 (sym turn.1) c.loop-row.invariant.1 one p.0 p.2
    (subst (λ (live : Attempts). ReachesStore g.S.Store CommitsNothing (Shown (ListsRow live.attempts c.in-Some.row (Ok one))) b d) c.loop-row.invariant.0 c.in_ok-one.ensures.told))

pub returns : goal.returns
returns g c =
    let h = c.into_iter-row-iterator.ensures.into_iter_gives in
    let rows = c.args.rows.items in
    let some = c.loop-row.yielded in
    let end = YieldsList-end (YieldsList-from_vec {s = c.into_iter-row-iterator.result} rows h.0 (h.1 ∙ c.args.rows.ok.0)) some c.loop-row.row-iterator c.loop-row.yielded_by c.next.result c.next.new.self c.in-None.is c.next.ensures.steps in
    all_listed g.S.Store c.args.store.now.live.attempts rows c.args.store.now c.loop-row.store some c.loop-row.invocations.items (sym (as_they_are some) ∙ end.0) c.loop-row.invariant.1
