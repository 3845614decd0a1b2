use Rattle.std.proofs.Common.{◌≡◌, ◌∷◌, [], sym, ap, subst, map, arith, rules, List}
use Rattle.sqlite.specs.Held.{state}
use Rattle.sqlite.specs.State.{State, HasCleanDisk}
use Rattle.journal_model.specs.Cause.{those_that_hold}
use Rattle.store_tables.proofs.Chained.{looks_on}
use Rattle.store_refusals.specs.RefusalConditions.{IsRefused}
use Rattle.store_refusals.proofs.Causes.{cause_by, err_later}
use Rattle.store_invocations.proofs.Reading.{decided_err}
use Rattle.store_invocations.proofs.Standing.{store_kept}
use Rattle.store_arrivals.specs.SleepGroups.{as_group}
use Rattle.store_arrivals.specs.PreparedTicks.{AreGroupsEnded, tests_of}
use Rattle.store_arrivals.proofs.Rowed.{ends_all, goes_on, looks_first, none_ended, stops}
use Rattle.store_arrivals.proofs.tick.end_groups.Goals as goal

pub loop-group-init : goal.loop-group-init
loop-group-init g c = record {
  ended = λ clean events store opened. none_ended events (map as_group c.args.groups.items) c.args.writes.now.items;
  looks = looks_first g.S.Store c.args.tables.now;
}

pub loop-group-preserved : goal.loop-group-preserved
loop-group-preserved g c =
    let old : State = state g.S.Store c.args.tables.now in
    let mid : State = state g.S.Store c.loop-group.tables in
    let all = map as_group c.args.groups.items in
    let left = map as_group c.pop_front.new.self.items in
    let lefts : map as_group c.loop-group.groups.items ≡ as_group c.in-Some.group ∷ left = ap (map as_group) c.in-Some.ensures.items in
    record {
      ended = λ clean events store opened.
          let early : HasCleanDisk mid = omega (arith, c.end_group.ensures.looks.crash.clean, clean) in
          let now = store_kept events old mid c.loop-group.invariant.looks.crash c.loop-group.invariant.looks.kept store in
          goes_on events all (map as_group c.loop-group.groups.items) left (as_group c.in-Some.group) c.args.writes.now.items c.loop-group.writes.items lefts
          (c.loop-group.invariant.ended early events store opened) opened c.end_group.new.writes.items
          (λ is_open. c.in_ok-end_group.ensures.decided clean events now is_open);
      looks = looks_on g.S.Store c.args.tables.now c.loop-group.tables c.end_group.new.tables c.loop-group.invariant.looks c.end_group.ensures.looks;
    }

pub returns-clause-decided : goal.returns-clause-decided
returns-clause-decided g c clean events store opened =
    let none : map as_group c.loop-group.groups.items ≡ [] = search rules in
    ends_all events (map as_group c.args.groups.items) (map as_group c.loop-group.groups.items) c.args.writes.now.items c.loop-group.writes.items none
    (c.loop-group.invariant.ended clean events store opened)

pub returns-in_err-end_group-clause-decided : goal.returns-in_err-end_group-clause-decided
returns-in_err-end_group-clause-decided g c clean events store opened =
    let old : State = state g.S.Store c.args.tables.now in
    let mid : State = state g.S.Store c.loop-group.tables in
    let all = map as_group c.args.groups.items in
    let left = map as_group c.pop_front.new.self.items in
    let lefts : map as_group c.loop-group.groups.items ≡ as_group c.in-Some.group ∷ left = ap (map as_group) c.in-Some.ensures.items in
    let early : HasCleanDisk mid = omega (arith, c.end_group.ensures.looks.crash.clean, clean) in
    let now = store_kept events old mid c.loop-group.invariant.looks.crash c.loop-group.invariant.looks.kept store in
    decided_err (tests_of events all) (λ done. AreGroupsEnded events all c.args.writes.now.items c.end_group.new.writes.items) c.from_residual.result c.from_residual.ensures.1 (λ why gives.
    subst (IsRefused (those_that_hold (tests_of events all))) (sym gives)
    (stops events all (map as_group c.loop-group.groups.items) left (as_group c.in-Some.group) c.args.writes.now.items c.loop-group.writes.items lefts
    (c.loop-group.invariant.ended early events store opened) opened _ (λ is_open. c.in_err-end_group.ensures.decided clean events now is_open)))

pub returns-in_err-end_group-clause-looks : goal.returns-in_err-end_group-clause-looks
returns-in_err-end_group-clause-looks g c =
    looks_on g.S.Store c.args.tables.now c.loop-group.tables c.end_group.new.tables c.loop-group.invariant.looks c.end_group.ensures.looks

pub returns-in_err-end_group-clause-cause : goal.returns-in_err-end_group-clause-cause
returns-in_err-end_group-clause-cause g c =
    err_later (state g.S.Store c.args.tables.now) (state g.S.Store c.loop-group.tables) (state g.S.Store c.end_group.new.tables) _ _ c.loop-group.invariant.looks.crash c.end_group.ensures.looks.crash _
    (cause_by (state g.S.Store c.loop-group.tables) (state g.S.Store c.end_group.new.tables) _ c.from_residual.result c.from_residual.ensures.1 c.in_err-end_group.ensures.cause)
