use Rattle.std.specs.Prelude.{string_bytes}
use Rattle.server_lines.specs.declared.request.Request.TheVariants as request
use Rattle.store_server.proofs.Lasting.{answers_asked}
use Rattle.store_server.proofs.serving.answer_request.Goals as goal

pub returns-in-Invoke : goal.returns-in-Invoke
returns-in-Invoke g c = rw c.in-Invoke.is c.invoke.ensures

pub returns-in-Result : goal.returns-in-Result
returns-in-Result g c = rw c.in-Result.is c.complete.ensures

pub returns-in-Signal : goal.returns-in-Signal
returns-in-Signal g c = rw c.in-Signal.is c.signal.ensures

pub returns-in-Cancel : goal.returns-in-Cancel
returns-in-Cancel g c = rw c.in-Cancel.is c.cancel.ensures

pub returns-in-Tick : goal.returns-in-Tick
returns-in-Tick g c = rw c.in-Tick.is c.tick.ensures

pub returns-in-Begin : goal.returns-in-Begin
returns-in-Begin g c = rw c.in-Begin.is c.begin.ensures

pub returns-in-Input : goal.returns-in-Input
returns-in-Input g c = rw c.in-Input.is c.input.ensures

pub returns-in-Output : goal.returns-in-Output
returns-in-Output g c = rw c.in-Output.is c.output.ensures

pub returns-in-Close : goal.returns-in-Close
returns-in-Close g c = rw c.in-Close.is c.close.ensures

pub returns-in-Stop : goal.returns-in-Stop
returns-in-Stop g c = rw c.in-Stop.is c.stop.ensures

pub returns-in-Forget : goal.returns-in-Forget
returns-in-Forget g c = rw c.in-Forget.is (rw c.as_slice.ensures at c.forget.ensures)

pub returns-in-Due : goal.returns-in-Due
returns-in-Due g c = rw c.in-Due.is (answers_asked g.S.Store c.args.store.now c.due.new.store string_bytes c.due.result request.Due (λ text. tt) c.due.ensures)

pub returns-in-DueOne : goal.returns-in-DueOne
returns-in-DueOne g c =
    rw c.in-DueOne.is (answers_asked g.S.Store c.args.store.now c.due_one.new.store string_bytes c.due_one.result (request.DueOne c.in-DueOne.id) (λ text. tt) c.due_one.ensures)

pub returns-in-DueAfter : goal.returns-in-DueAfter
returns-in-DueAfter g c =
    rw c.in-DueAfter.is
    (answers_asked g.S.Store c.args.store.now c.due_page.new.store string_bytes c.due_page.result (request.DueAfter c.in-DueAfter.after c.in-DueAfter.most) (λ text. tt) c.due_page.ensures)

pub returns-in-Next : goal.returns-in-Next
returns-in-Next g c = rw c.in-Next.is (answers_asked g.S.Store c.args.store.now c.next.new.store string_bytes c.next.result request.Next (λ text. tt) c.next.ensures)

pub returns-in-Show : goal.returns-in-Show
returns-in-Show g c = rw c.in-Show.is (answers_asked g.S.Store c.args.store.now c.show.new.store string_bytes c.show.result (request.Show c.in-Show.id) (λ text. tt) c.show.ensures)

pub returns-in-Answer : goal.returns-in-Answer
returns-in-Answer g c =
    rw c.in-Answer.is (answers_asked g.S.Store c.args.store.now c.answered.new.store string_bytes c.answered.result (request.Answer c.in-Answer.id) (λ text. tt) c.answered.ensures)

pub returns-in-State : goal.returns-in-State
returns-in-State g c = rw c.in-State.is (answers_asked g.S.Store c.args.store.now c.state.new.store string_bytes c.state.result (request.State c.in-State.object) (λ text. tt) c.state.ensures)

pub returns-in-Error : goal.returns-in-Error
returns-in-Error g c = rw c.in-Error.is (answers_asked g.S.Store c.args.store.now c.error.new.store string_bytes c.error.result (request.Error c.in-Error.id) (λ text. tt) c.error.ensures)

pub returns-in-List : goal.returns-in-List
returns-in-List g c = rw c.in-List.is (answers_asked g.S.Store c.args.store.now c.list.new.store string_bytes c.list.result (request.List c.in-List.after c.in-List.most) (λ text. tt) c.list.ensures)

pub returns-in-Requests : goal.returns-in-Requests
returns-in-Requests g c = rw c.in-Requests.is (answers_asked g.S.Store c.args.store.now c.requests.new.store string_bytes c.requests.result (request.Requests c.in-Requests.id) (λ text. tt) c.requests.ensures)
