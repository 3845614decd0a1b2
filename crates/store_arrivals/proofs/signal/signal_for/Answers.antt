use Rattle.std.proofs.Common.{sym}
use Rattle.sqlite.specs.Held.{state}
use Rattle.store_arrivals.proofs.Signalling.{signal_ready, signal_refused}
use Rattle.store_refusals.proofs.First.{none_holds}
use Rattle.store_refusals.proofs.Causes.{unasked_tells, test_unasked}
use Rattle.store_arrivals.specs.Signals.{signal_tests}
use Rattle.store_arrivals.proofs.signal.signal_for.Goals as goal

pub returns-in-Some-clause-decided : goal.returns-in-Some-clause-decided
returns-in-Some-clause-decided g c clean events id store of = signal_refused events id c.args.key c.args.brought c.in-Some.why (sym c.in-Some.ensures)

pub returns-in-None-clause-decided : goal.returns-in-None-clause-decided
returns-in-None-clause-decided g c clean events id store of =
    signal_ready events id c.args.key c.args.brought c.args.row store.accepted of (none_holds (signal_tests c.args.key c.args.brought) (sym c.in-None.ensures)) c.prepare_woken.result
    (rw c.into_id.ensures at (c.prepare_woken.ensures.decided clean events id store of))

pub returns-in-Some-clause-cause : goal.returns-in-Some-clause-cause
returns-in-Some-clause-cause g c =
    unasked_tells (state g.S.Store c.args.tables.now) (state g.S.Store c.args.tables.now) c.in-Some.why (test_unasked (signal_tests c.args.key c.args.brought) c.in-Some.why (sym c.in-Some.ensures))
