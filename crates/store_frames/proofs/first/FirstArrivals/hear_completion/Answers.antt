use Rattle.std.proofs.Common.{◌∙◌, ap, arith}
use Rattle.protocol_wire.specs.Fields.{fields}
use Rattle.store_frames.specs.First.{first_state}
use Rattle.store_frames.proofs.Hearing.{completion_found, completion_heard}
use Rattle.store_frames.proofs.first.FirstArrivals.hear_completion.Goals as goal

pub returns-in_ok-put_completion-in-Some : goal.returns-in_ok-put_completion-in-Some
returns-in_ok-put_completion-in-Some c = λ arrival of_it is.
    completion_heard arrival c.args.payload.now is (omega arith) _ (c.fields.ensures.all ∙ ap fields c.new-listed.ensures) c.args.number of_it (omega arith) _ c.in-Some.brought c.state_by.result
    c.in-Some.ensures c.state_by.ensures (first_state c.args.self.now) (first_state c.put_completion.new.self) c.in_ok-put_completion-in-Some.ensures

pub returns-in-None : goal.returns-in-None
returns-in-None c = λ arrival of_it is.
    completion_found arrival c.args.payload.now is (omega arith) _ (c.fields.ensures.all ∙ ap fields c.new-listed.ensures) c.args.number of_it (omega arith) c.in-None.ensures
