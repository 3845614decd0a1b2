use Rattle.std.proofs.Common.{◌≡◌, ◌∙◌, ◌+◌, sym, ap, subst, List, [], ◌∷◌, ◌++◌, take, append_assoc, append-nil}
use Rattle.std.proofs.lemmas.List.{take_all, take_more}
use Rattle.journal_model.specs.Notification.{Arrival}
use Rattle.store_frames.specs.First.{AreFirst, first_state}
use Rattle.store_frames.proofs.Waking.{heard_more}
use Rattle.store_frames.proofs.first.FirstArrivals.hear_all.Goals as goal

pub loop-arrival-preserved : goal.loop-arrival-preserved
loop-arrival-preserved c = λ before are.
    let xs = c.args.arrivals.now in
    let i = c.loop-arrival.arrival-index in
    let x = c.arrival-item.result in
    subst (λ (heard : List Arrival). AreFirst c.hear.new.self heard)
    (append_assoc before (take i xs) (x ∷ []) ∙ ap (λ (heard : List Arrival). before ++ heard) (ap (λ (y : Arrival). take i xs ++ y ∷ []) c.arrival-item.is ∙ sym (take_more xs i x c.loop-arrival-test.true)))
    (heard_more (first_state c.loop-arrival.self) (first_state c.hear.new.self) (before ++ take i xs) x (c.loop-arrival.invariant before are) c.in_ok-hear.ensures)

pub loop-arrival-init : goal.loop-arrival-init
loop-arrival-init c = λ before are. subst (λ (heard : List Arrival). AreFirst c.args.self.now heard) (sym (append-nil before)) are

pub returns : goal.returns
returns c = λ before are.
    subst (λ (heard : List Arrival). AreFirst c.loop-arrival.self (before ++ heard)) (take_all c.loop-arrival.arrival-index c.args.arrivals.now c.loop-arrival-test.false) (c.loop-arrival.invariant before are)
