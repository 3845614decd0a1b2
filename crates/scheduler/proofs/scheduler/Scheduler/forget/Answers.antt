use Rattle.std.proofs.Common.{Ok, Err}
use Rattle.store_calls.specs.Forgetting.{LeavesOthers}
use Rattle.scheduler.proofs.LettingGo.{forgets_closed, same_always, same_tables, unroomed, unroomed_cause}
use Rattle.scheduler.proofs.scheduler.Scheduler.forget.Goals as goal

pub returns-in_default-clause-does : goal.returns-in_default-clause-does
returns-in_default-clause-does g c = unroomed g.S.Store c.args.ids.now c.args.self.now.store

pub returns-in_default-clause-kept : goal.returns-in_default-clause-kept
returns-in_default-clause-kept g c = same_tables g.S.Store c.args.ids.now c.args.self.now.store

pub returns-in_default-clause-cause : goal.returns-in_default-clause-cause
returns-in_default-clause-cause g c = unroomed_cause g.S.Store c.args.ids.now c.args.self.now.store

pub returns-in_default-clause-crash : goal.returns-in_default-clause-crash
returns-in_default-clause-crash g c = same_always g.S.Store c.args.ids.now (LeavesOthers c.args.ids.now) c.args.self.now.store

pub returns-in-Ok-forget-clause-does : goal.returns-in-Ok-forget-clause-does
returns-in-Ok-forget-clause-does g c = forgets_closed g.S.Store c.args.ids.now (Ok tt) c.args.self.now.store c.forget.new.self c.in-Ok-forget.ensures.does

pub returns-in-Ok-forget-clause-crash : goal.returns-in-Ok-forget-clause-crash
returns-in-Ok-forget-clause-crash g c = c.forget.ensures.crash

pub returns-in-Err-clause-does : goal.returns-in-Err-clause-does
returns-in-Err-clause-does g c = forgets_closed g.S.Store c.args.ids.now (Err c.in-Err.why) c.args.self.now.store c.forget.new.self c.in-Err.ensures.does

pub returns-in-Err-clause-crash : goal.returns-in-Err-clause-crash
returns-in-Err-clause-crash g c = c.forget.ensures.crash
