use Rattle.std.proofs.Common.{◌≡◌, ◌∙◌, sym, subst, arith, true, false, take, List}
use Rattle.std.specs.List.{list_any}
use Rattle.std.proofs.lemmas.List.{take_all}
use Rattle.journal_model.specs.AwaitTree.{AwaitTree}
use Rattle.journal_model.specs.declared.notification.NotificationId.{NotificationId}
use Rattle.protocol_records.specs.declared.future.Future.{out-Future}
use Rattle.protocol_trees.specs.Future.{children_in, future_tree, id_meant, leaves_in, shape_in}
use Rattle.protocol_trees.specs.FutureShape.{future_shaped}
use Rattle.protocol_trees.proofs.Forests.{child_smaller}
use Rattle.store_arrivals.specs.NamedArrivals.{is_completed_among, names_any}
use Rattle.store_arrivals.proofs.Naming.{among_is, child_names, leaf_names, none_more, none_names}
use Rattle.store_arrivals.proofs.named.+names_any.Goals as goal

pub loop-index-preserved : goal.loop-index-preserved
loop-index-preserved t c = λ arrivals are.
    let id = id_meant c.leaf.result in
    none_more (is_completed_among arrivals) (leaves_in c.args.awaited.now) c.loop-index.index id c.leaf.ensures (c.loop-index.invariant arrivals are)
    (sym (among_is c.args.first.now arrivals id c.state.result are c.state.ensures) ∙ sym c.has_come.ensures ∙ c.if-has_come.false)

pub returns-then-has_come : goal.returns-then-has_come
returns-then-has_come t c = λ arrivals are.
    let id = id_meant c.leaf.result in
    leaf_names arrivals c.args.awaited.now c.loop-index.index id c.leaf.ensures
    (sym (among_is c.args.first.now arrivals id c.state.result are c.state.ensures) ∙ sym c.has_come.ensures ∙ c.if-has_come.true)

pub names_any-requires : goal.names_any-requires
names_any-requires t c =
    let f = c.args.awaited.now in
    let smaller = child_smaller (shape_in (out-Future f).combinator_type (out-Future f).required) (leaves_in f) (children_in f) (future_tree f) c.loop-place.place (future_tree c.child.result.now) (future_shaped f) c.child.ensures in
    (omega (arith, smaller, c.decreases), tt)

pub loop-place-preserved : goal.loop-place-preserved
loop-place-preserved t c = λ arrivals are.
    none_more (names_any arrivals) (children_in c.args.awaited.now) c.loop-place.place (future_tree c.child.result.now) c.child.ensures (c.loop-place.invariant arrivals are)
    (sym (c.names_any.ensures arrivals are) ∙ c.if-names_any.false)

pub returns-then-names_any : goal.returns-then-names_any
returns-then-names_any t c = λ arrivals are.
    child_names arrivals c.args.awaited.now c.loop-place.place (future_tree c.child.result.now) c.child.ensures (sym (c.names_any.ensures arrivals are) ∙ c.if-names_any.true)

pub returns : goal.returns
returns t c = λ arrivals are.
    let f = c.args.awaited.now in
    let leaves : take c.loop-index.index (leaves_in f) ≡ leaves_in f = take_all c.loop-index.index (leaves_in f) (omega (arith, c.loop-index-test.false, c.leaf_count-index-end.ensures)) in
    let children : take c.loop-place.place (children_in f) ≡ children_in f = take_all c.loop-place.place (children_in f) (omega (arith, c.loop-place-test.false, c.child_count-place-end.ensures)) in
    none_names arrivals f
    (subst (λ (ids : List NotificationId). list_any (is_completed_among arrivals) ids ≡ false) leaves (c.loop-index.invariant arrivals are))
    (subst (λ (trees : List (AwaitTree NotificationId)). list_any (names_any arrivals) trees ≡ false) children (c.loop-place.invariant arrivals are))
