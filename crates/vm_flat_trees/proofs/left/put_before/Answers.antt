use Rattle.std.proofs.Common.{sym, ap, ◌∙◌, map}
use Rattle.journal_model.specs.AwaitTree.{is_completed}
use Rattle.journal_model.specs.Future.{tree_of, trees_from}
use Rattle.vm_flat_trees.specs.declared.node.Kind.{Kind}
use Rattle.vm_flat_trees.specs.Flat.{combined, children_in}
use Rattle.vm_flat_trees.proofs.Front.{passes-one, reads-one}
use Rattle.vm_flat_trees.proofs.left.put_before.Goals as goal

pub returns-then-is_completed : goal.returns-then-is_completed
returns-then-is_completed c =
    passes-one c.args.node (map tree_of c.args.futures.now.items) (ap is_completed (sym c.state_by.ensures) ∙ sym c.is_completed.ensures ∙ c.if-is_completed.true)

pub returns : goal.returns
returns c =
    reads-one c.args.node c.args.futures.now.items c.in_ok-children.children c.take_first.new.futures.items c.push_front.new.self.items c.combined.result c.children_in.result
    (ap is_completed (sym c.state_by.ensures) ∙ sym c.is_completed.ensures ∙ c.if-is_completed.false) (c.children_in.ensures ∙ ap (λ (k : Kind). children_in k c.args.node.counts.pending) c.lowered_kind-kind.ensures) c.in_ok-children.ensures.ok c.in_ok-children.ensures.left (c.combined.ensures ∙ ap (λ (k : Kind). combined k (trees_from (map tree_of c.in_ok-children.children))) c.lowered_kind-kind.ensures) c.in_ok-push_front.ensures.items
