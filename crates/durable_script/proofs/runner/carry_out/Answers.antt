use Rattle.std.proofs.Common.{subst}
use Rattle.std.specs.Prelude.{string_bytes}
use Rattle.built_in_handlers.specs.declared.built_in.BuiltIn.{BuiltIn}
use Rattle.journal_model.specs.declared.notification.NotificationResult.{NotificationResult}
use Rattle.durable_schedule.specs.Schedules.event
use Rattle.durable_schedule.specs.Schedules.{Event}
use Rattle.script_lines.specs.declared.line.Line.TheVariants as line
use Rattle.durable_script.specs.ReplyTexts.{MakesText}
use Rattle.durable_script.specs.Runner.{PrintsEvent}
use Rattle.durable_script.proofs.Printing.{makes_begun, makes_quiet}
use Rattle.durable_script.proofs.runner.carry_out.Goals as goal

pub returns-in-Invoke : goal.returns-in-Invoke
returns-in-Invoke g c =
    rw c.in-Invoke.is
    (subst (λ (one : Event BuiltIn). MakesText string_bytes c.do_event.result (λ text. PrintsEvent g.S.Store one text c.args.scheduler.now c.do_event.new.scheduler)) c.invoke-event.ensures c.do_event.ensures)

pub returns-in-Result : goal.returns-in-Result
returns-in-Result g c =
    let it = c.in-Result in
    rw it.is
    (subst (λ (value : NotificationResult). let one = event.Result it.id it.completion value in
    MakesText string_bytes c.do_event-in-Result.result (λ text. PrintsEvent g.S.Store one text c.args.scheduler.now c.do_event-in-Result.new.scheduler)) c.brought-value.ensures c.do_event-in-Result.ensures)

pub returns-in-Signal : goal.returns-in-Signal
returns-in-Signal g c =
    let it = c.in-Signal in
    let did = c.do_event-in-Signal in
    rw it.is
    (subst (λ (value : NotificationResult). let one = event.Signal it.id it.target value in
    MakesText string_bytes did.result (λ text. PrintsEvent g.S.Store one text c.args.scheduler.now did.new.scheduler)) c.brought-value-in-Signal.ensures did.ensures)

pub returns-in-Cancel : goal.returns-in-Cancel
returns-in-Cancel g c = rw c.in-Cancel.is c.do_event-in-Cancel.ensures

pub returns-in-Tick : goal.returns-in-Tick
returns-in-Tick g c = rw c.in-Tick.is c.do_event-in-Tick.ensures

pub returns-in-Begin : goal.returns-in-Begin
returns-in-Begin g c =
    let did = c.do_event-in-Begin in
    rw c.in-Begin.is
    (makes_begun string_bytes did.result g.S.Store c.args.scheduler.now did.new.scheduler c.in-Begin.id c.in-Begin.name c.in-Begin.now c.begin-event.result c.begin-event.ensures did.ensures)

pub returns-in-Feed : goal.returns-in-Feed
returns-in-Feed g c = rw c.in-Feed.is c.do_event-in-Feed.ensures

pub returns-in-Close : goal.returns-in-Close
returns-in-Close g c = rw c.in-Close.is c.do_event-in-Close.ensures

pub returns-in-Turn : goal.returns-in-Turn
returns-in-Turn g c = makes_quiet string_bytes c.do_turns.result g.S.Store c.args.scheduler.now c.do_turns.new.scheduler c.args.line (line.Turn c.in-Turn.id c.in-Turn.attempt c.in-Turn.count c.in-Turn.outcome) c.in-Turn.is (λ text. tt) c.do_turns.ensures

pub returns-in-Move : goal.returns-in-Move
returns-in-Move g c = rw c.in-Move.is c.do_event-in-Move.ensures

pub returns-in-Stop : goal.returns-in-Stop
returns-in-Stop g c = rw c.in-Stop.is c.do_event-in-Stop.ensures

pub returns-in-Due : goal.returns-in-Due
returns-in-Due g c = makes_quiet string_bytes c.show_due.result g.S.Store c.args.scheduler.now c.show_due.new.scheduler c.args.line line.Due c.in-Due.is (λ text. tt) c.show_due.ensures

pub returns-in-Show : goal.returns-in-Show
returns-in-Show g c = makes_quiet string_bytes c.show.result g.S.Store c.args.scheduler.now c.show.new.scheduler c.args.line (line.Show c.in-Show.id) c.in-Show.is (λ text. tt) c.show.ensures

pub returns-in-State : goal.returns-in-State
returns-in-State g c =
    makes_quiet string_bytes c.show_state.result g.S.Store c.args.scheduler.now c.show_state.new.scheduler c.args.line (line.State c.in-State.object) c.in-State.is (λ text. tt) c.show_state.ensures
