use Rattle.std.proofs.Common.{◌≡◌, ◌∙◌, [], refl, sym, ap, subst, map, not, ◌==◌, ℕ, length, arith, List}
use Rattle.std.specs.VecDeque.{deque_len}
use Rattle.std.proofs.lemmas.List.{length-map}
use Rattle.sqlite.specs.Held.{state}
use Rattle.journal_model.specs.Cause.{those_that_hold}
use Rattle.store_tables.specs.declared.row.Write.{Write}
use Rattle.store_refusals.specs.RefusalConditions.{IsRefused}
use Rattle.store_refusals.proofs.Causes.{cause_by, memory_tells}
use Rattle.store_invocations.proofs.Reading.{decided_err}
use Rattle.store_invocations.proofs.Refusing.{refused_memory}
use Rattle.store_arrivals.specs.SleepGroups.{as_group}
use Rattle.store_arrivals.specs.PreparedTicks.{AreGroupsEnded, IsEndedUntil, tests_of}
use Rattle.store_arrivals.proofs.Rowed.{closed_with}
use Rattle.store_arrivals.proofs.tick.end_due.Goals as goal

pub returns-clause-decided : goal.returns-clause-decided
returns-clause-decided g c clean events store opened =
    let groups = map as_group c.args.groups.items in
    let made = c.in_ok-end_groups.ensures.decided clean events store opened in
    let nothing : c.new-writes.result.items ≡ [] = c.new-writes.ensures.items in
    let counted : deque_len c.args.groups ≡ length groups = omega (arith, c.args.groups.ok.0, length-map c.args.groups.items as_group) in
    let are : AreGroupsEnded events groups [] c.end_groups.new.writes.items =
    subst (λ (before : List Write). AreGroupsEnded events groups before c.end_groups.new.writes.items) nothing made.1 in (
      made.0,
      record {
        writes = closed_with events c.args.until groups c.end_groups.new.writes.items c.close_due.new.writes.items _ are (ap not (c.is_empty-is_any.ensures ∙ ap (λ (n : ℕ). n == 0) counted)) c.in_ok-close_due.ensures;
        counted = refl;
      },
    )

pub returns-in_err-end_groups-clause-decided : goal.returns-in_err-end_groups-clause-decided
returns-in_err-end_groups-clause-decided g c clean events store opened =
    let groups = map as_group c.args.groups.items in
    decided_err (tests_of events groups) (IsEndedUntil events c.args.until c.args.count groups) c.from_residual.result c.from_residual.ensures.1 (λ why gives.
    subst (IsRefused (those_that_hold (tests_of events groups))) (sym gives) (c.in_err-end_groups.ensures.decided clean events store opened))

pub returns-in_err-close_due-clause-decided : goal.returns-in_err-close_due-clause-decided
returns-in_err-close_due-clause-decided g c clean events store opened =
    let groups = map as_group c.args.groups.items in
    refused_memory (tests_of events groups) (IsEndedUntil events c.args.until c.args.count groups) c.from_residual-in_err-close_due.result c.from_residual-in_err-close_due.ensures.1

pub returns-in_err-end_groups-clause-cause : goal.returns-in_err-end_groups-clause-cause
returns-in_err-end_groups-clause-cause g c =
    cause_by (state g.S.Store c.args.tables.now) (state g.S.Store c.end_groups.new.tables) _ c.from_residual.result c.from_residual.ensures.1 c.in_err-end_groups.ensures.cause

pub returns-in_err-close_due-clause-cause : goal.returns-in_err-close_due-clause-cause
returns-in_err-close_due-clause-cause g c =
    memory_tells (state g.S.Store c.args.tables.now) (state g.S.Store c.end_groups.new.tables) c.from_residual-in_err-close_due.result c.from_residual-in_err-close_due.ensures.1
