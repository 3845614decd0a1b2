use Rattle.vm_awaits.proofs.resolving.resolve.Goals as goal

pub returns-in-Leaf-clause-resolved : goal.returns-in-Leaf-clause-resolved
returns-in-Leaf-clause-resolved c = rw c.in-Leaf.ensures.tree c.resolve_leaf.ensures.resolved

pub returns-in-Leaf-clause-err : goal.returns-in-Leaf-clause-err
returns-in-Leaf-clause-err c = rw c.in-Leaf.ensures.tree c.resolve_leaf.ensures.err
