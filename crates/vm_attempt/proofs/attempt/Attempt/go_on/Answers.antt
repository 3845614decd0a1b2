use Rattle.std.proofs.Common.{◌≡◌, ◌∙◌, List, ap}
use Rattle.journal_model.specs.declared.call.Answer.{Answer}
use Rattle.vm_attempt.proofs.Carried.{asked, asks_where, finish_none, read_none}
use Rattle.vm_attempt.specs.declared.turn.Finish.TheVariants as finishes
use Rattle.vm_attempt.proofs.attempt.Attempt.go_on.Goals as goal

pub returns-in-Ok-clause-step : goal.returns-in-Ok-clause-step
returns-in-Ok-clause-step g c =
    let asks : c.in-Ok.call ≡ g.H.Handler.next_call c.args.self.now.handler c.in-Some.input c.args.self.now.answers =
    c.in-Ok.ensures ∙ ap (λ (answers : List Answer). g.H.Handler.next_call c.args.self.now.handler c.in-Some.input answers) c.as_slice.ensures in
    asked g.H.Handler.next_call c.in-Some.input c.in-Ok.call c.args.self.now c.carry.result c.carry.new.self c.in-Some.is asks c.carry.ensures.step

pub returns-in-Ok-clause-asks : goal.returns-in-Ok-clause-asks
returns-in-Ok-clause-asks g c =
    let asks : c.in-Ok.call ≡ g.H.Handler.next_call c.args.self.now.handler c.in-Some.input c.args.self.now.answers =
    c.in-Ok.ensures ∙ ap (λ (answers : List Answer). g.H.Handler.next_call c.args.self.now.handler c.in-Some.input answers) c.as_slice.ensures in
    asks_where g.H.Handler.next_call c.in-Some.input c.in-Ok.call c.args.self.now c.carry.result c.carry.new.self c.in-Some.is asks c.carry.ensures.asks

pub returns-in-None-clause-none : goal.returns-in-None-clause-none
returns-in-None-clause-none g c = read_none c.args.self.now c.read_input.result c.read_input.new.self c.read_input.ensures

pub returns-in-Err-clause-none : goal.returns-in-Err-clause-none
returns-in-Err-clause-none g c = finish_none finishes.OutOfMemory c.args.self.now c.finish.result c.finish.new.self c.finish.ensures
