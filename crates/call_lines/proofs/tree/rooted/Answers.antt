use Rattle.std.proofs.lemmas.Result.{err_from_is_err_and}
use Rattle.call_lines.proofs.Stacking.{grows_handle, grows_not, grows_over}
use Rattle.call_lines.proofs.tree.rooted.Goals as goal

pub returns-in-Handle : goal.returns-in-Handle
returns-in-Handle c = grows_handle c.args.node c.in-Handle.handle c.new.result c.args.stack.now.items c.in-Handle.is c.new.ensures

pub returns-in_ok-children-in-Over : goal.returns-in_ok-children-in-Over
returns-in_ok-children-in-Over c =
    grows_over c.args.node c.in-Over.kind c.in-Over.count c.args.stack.now.items c.in_ok-children-in-Over.children c.children.new.stack.items c.combined.result c.in-Over.is c.in_ok-children-in-Over.ensures c.combined.ensures

pub returns-in_err-children-in-Over : goal.returns-in_err-children-in-Over
returns-in_err-children-in-Over c =
    let p = err_from_is_err_and c.from_residual.result c.from_residual.ensures.1 in
    rw (p.1, p.2) (grows_not c.args.node c.in-Over.kind c.in-Over.count c.args.stack.now.items c.children.new.stack.items c.in_err-children-in-Over.field-0.0 c.in-Over.is c.in_err-children-in-Over.ensures)
