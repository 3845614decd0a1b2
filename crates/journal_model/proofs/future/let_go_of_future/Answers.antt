-- Each step leaves less.
use Rattle.journal_model.proofs.Sizes.{exchanges, pops_child, pops_left}
use Rattle.journal_model.proofs.future.let_go_of_future.Goals as goal

pub down-smaller-in-None-Some : goal.down-smaller-in-None-Some
down-smaller-in-None-Some c = pops_left c.down.next c.in-Some.last c.down.beside c.in-None-Some.left c.in-Some.others c.in-None-Some.is-1 c.in-Some.ensures

pub down-smaller-in-Some-None : goal.down-smaller-in-Some-None
down-smaller-in-Some-None c =
    pops_child c.down.next c.in-Some-popped.last c.down.beside c.in-Some-None.children c.in-Some-popped.others c.in-Some-None.is-1 c.in-Some-None.ensures c.in-Some-popped.ensures

pub down-smaller-then-is_empty : goal.down-smaller-then-is_empty
down-smaller-then-is_empty c =
    pops_left c.down.next c.in-Some-popped-2.last c.down.beside c.in-Some-Some.left c.in-Some-popped-2.others c.in-Some-Some.is-1 c.in-Some-popped-2.ensures

pub down-smaller : goal.down-smaller
down-smaller c =
    exchanges c.down.next c.exchanged-last.result.0 c.down.beside c.in-Some-Some.children c.in-Some-Some.left c.exchanged-last.result.1
    c.in-Some-Some.is-1 c.in-Some-Some.ensures c.exchanged-last.ensures
