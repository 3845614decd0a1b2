use Rattle.std.proofs.Common.{◌∙◌, refl, ap, List, ℕ, ◌++◌}
use Rattle.std.proofs.lemmas.Result.{err_from_is_err_and}
use Rattle.vm_context.specs.Output.{waiting_bytes}
use Rattle.vm_context.proofs.Sending.{closed_stays, open_grows, closed_sends, refused_sends, memory_sends, frame_sends}
use Rattle.vm_context.proofs.output.Output.send_as.Goals as goal

pub returns-then-self-clause-ok : goal.returns-then-self-clause-ok
returns-then-self-clause-ok g c = rw (← c.self.view_is) (closed_stays c.args.is_command c.self.inside.version (waiting_bytes c.self.inside.waiting) _ c.self.inside.is_closed c.self.inside.has_commands c.if-self.true)

pub returns-then-self-clause-too_long : goal.returns-then-self-clause-too_long
returns-then-self-clause-too_long g c = rw (← c.self.view_is) (closed_sends _ tt c.self.inside.is_closed _ refl c.if-self.true)

pub returns-in_err-frame-clause-too_long : goal.returns-in_err-frame-clause-too_long
returns-in_err-frame-clause-too_long g c =
    let told = rw c.new.ensures at c.encode.ensures in
    let p = err_from_is_err_and c.from_residual.result c.from_residual.ensures.1 in
    rw (p.1, p.2, ← c.self.view_is) (refused_sends _ c.in_err-frame.field-0.0 c.self.inside.is_closed _ c.encode.result refl c.in_err-frame.was c.if-self.false told.0)

pub returns-in_err-push_frame-clause-too_long : goal.returns-in_err-push_frame-clause-too_long
returns-in_err-push_frame-clause-too_long g c =
    let told = rw c.new.ensures at c.encode.ensures in
    let p = err_from_is_err_and c.from_residual-in_err-push_frame.result c.from_residual-in_err-push_frame.ensures.1 in
    rw (p.1, p.2, ← c.self.view_is) (memory_sends _ c.self.inside.is_closed _ c.encode.result c.in_ok-frame.frame refl c.in_ok-frame.was told.0)

pub returns-clause-ok : goal.returns-clause-ok
returns-clause-ok g c =
    let told = rw c.new.ensures at c.in_ok-frame.ensures in
    rw (← c.self.view_is)
    (open_grows c.args.is_command c.self.inside.version (waiting_bytes c.self.inside.waiting) (waiting_bytes c.push_frame.new.waiting) _ c.self.inside.is_closed c.self.inside.has_commands c.either-told.result c.if-self.false
    (c.in_ok-push_frame.ensures.ok ∙ ap (λ (frame : List ℕ). waiting_bytes c.self.inside.waiting ++ frame) told.1) c.either-told.ensures)

pub returns-clause-too_long : goal.returns-clause-too_long
returns-clause-too_long g c =
    let told = rw c.new.ensures at c.encode.ensures in
    rw (← c.self.view_is) (frame_sends _ tt c.self.inside.is_closed _ c.encode.result c.in_ok-frame.frame refl c.in_ok-frame.was told.0)
