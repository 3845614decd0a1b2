use Rattle.std.proofs.Common.{refl}
use Rattle.store_refusals.specs.declared.refusal.Refusal.TheVariants.{OutOfMemory}
use Rattle.scheduler.proofs.Alone.{not_begun, not_copied, numbered, unheld}
use Rattle.scheduler.proofs.Begun.{begins}
use Rattle.scheduler.proofs.scheduler.Scheduler.go_alone.Goals as goal

pub returns-in_default : goal.returns-in_default
returns-in_default g c empty = not_copied g.S.Store g.E.Effects.executes g.H.Handler.next_call c.args.id.now c.args.handler c.args.now c.no_memory.result c.args.self.now c.args.effects.now c.no_memory.ensures

pub returns-in-Held : goal.returns-in-Held
returns-in-Held g c empty =
    let did = c.begin_numbered in
    let id = c.in-Ok.ensures.cases in
    let does = rw (id, c.in-Held.is) at (begins g.S.Store g.H.Handler.next_call c.in-Ok.invocation c.args.handler c.args.now c.args.self.now did.new.self did.result did.ensures.does did.ensures.options
    did.ensures.settled did.ensures.moment did.ensures.cause did.ensures.crash) in
    numbered g.S.Store g.E.Effects.executes g.H.Handler.next_call c.args.id.now c.args.handler c.args.now c.in-Held.attempt c.run_and_stop.result c.args.self.now did.new.self c.run_and_stop.new.self c.args.effects.now
    c.run_and_stop.new.effects empty does c.run_and_stop.ensures

pub returns-in-Unheld : goal.returns-in-Unheld
returns-in-Unheld g c empty =
    let did = c.begin_numbered in
    let id = c.in-Ok.ensures.cases in
    let does = rw (id, c.in-Unheld.is) at (begins g.S.Store g.H.Handler.next_call c.in-Ok.invocation c.args.handler c.args.now c.args.self.now did.new.self did.result did.ensures.does did.ensures.options
    did.ensures.settled did.ensures.moment did.ensures.cause did.ensures.crash) in
    let left = rw (id, c.in-Unheld.is) at did.ensures.unheld in
    rw c.no_memory-in-Unheld.ensures
    (unheld g.S.Store g.E.Effects.executes g.H.Handler.next_call c.args.id.now c.args.handler c.args.now OutOfMemory c.args.self.now did.new.self c.args.effects.now does c.in-Unheld.attempt refl left.0 left.1
    c.stop.result c.stop.new.self c.stop.ensures.does c.stop.ensures.crash)

pub returns-in-Refused : goal.returns-in-Refused
returns-in-Refused g c empty =
    let did = c.begin_numbered in
    let id = c.in-Ok.ensures.cases in
    let does = rw (id, c.in-Refused.is) at (begins g.S.Store g.H.Handler.next_call c.in-Ok.invocation c.args.handler c.args.now c.args.self.now did.new.self did.result did.ensures.does did.ensures.options
    did.ensures.settled did.ensures.moment did.ensures.cause did.ensures.crash) in
    let left = rw (id, c.in-Refused.is) at did.ensures.unheld in
    not_begun g.S.Store g.E.Effects.executes g.H.Handler.next_call c.args.id.now c.args.handler c.args.now c.in-Refused.refusal c.args.self.now did.new.self c.args.effects.now does left.0 left.1
