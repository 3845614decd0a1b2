use Rattle.std.proofs.Common.{◌≡◌, ◌∙◌, sym, subst}
use Rattle.store_live.specs.Input.{InputKept, input_handed_out}
use Rattle.store_live.proofs.Handing.{after_split, is_left, is_out}
use Rattle.store_live.proofs.input.AttemptInput.hand_out.Goals as goal
use Rattle.store_live.proofs.input.AttemptInput.hand_out.Goals.{then-is_empty, else-is_empty}

pub returns-clause-rest : goal.returns-clause-rest
returns-clause-rest c =
    let i = c.self.inside in
    let m : InputKept = record { known = i.known; arrivals = i.arrivals; read = i.read; behind = i.behind; counted = i.counted; rest = i.rest; handed = i.handed; heard = i.heard; unread = i.unread.items; room = i.room } in
    let split = after_split c.args.most m c.split_to.new.self c.len.result c.min-count.result c.len.ensures.value c.min-count.ensures c.if-count-eq0.false c.in_ok-bytes.ensures.rest in
    subst (λ (old : InputKept). c.if-is_empty.self ≡ input_handed_out c.args.most old) c.self.view_is
    (elim c.if-is_empty.branch [
      | then-is_empty w ↦ w.self-is ∙ is_out c.split_to.new.self m (sym w.if-is_empty.ensures) ∙ split
      | else-is_empty w ↦ w.self-is ∙ is_left c.split_to.new.self m (sym w.if-is_empty.ensures) ∙ split
    ])
