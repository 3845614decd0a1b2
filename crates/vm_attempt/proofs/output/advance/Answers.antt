use Rattle.std.proofs.Common.{◌≡◌, ◌≤◌, ◌-◌, min, [], length, ◌∙◌, arith}
use Rattle.vm_attempt.proofs.Pieces.{past_the_front}
use Rattle.vm_attempt.proofs.output.advance.Goals as goal

pub returns : goal.returns
returns c =
    let moved : c.replace-2.new.dest ≡ c.args.behind.now = c.replace-2.ensures.after ∙ c.replace.ensures.value in
    let none : c.replace.new.dest ≡ [] = c.replace.ensures.after ∙ c.new.ensures in
    let beyond : length c.args.front.now ≤ c.args.count = omega arith in
    let gone : c.min.result ≡ min (c.args.count - length c.args.front.now) (length c.args.behind.now) = cc in
    rw (c.advance-2.ensures, none, moved) (past_the_front c.args.front.now c.args.behind.now c.args.count c.min.result beyond gone)
