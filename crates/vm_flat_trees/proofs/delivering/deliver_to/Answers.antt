use Rattle.std.proofs.Common.{refl, ◌<◌, ◌+◌, arith, length, get_or}
use Rattle.std.proofs.lemmas.Option.{slice_get-get_or}
use Rattle.vm_flat_trees.specs.Counts.{state_meant}
use Rattle.vm_flat_trees.proofs.Sending.{none-sent, sleeps-on, leaf-on, fits-on, sends-on, wakes-then, all-sent}
use Rattle.vm_flat_trees.proofs.delivering.deliver_to.Goals as goal

pub loop-place-init : goal.loop-place-init
loop-place-init c = λ done. none-sent c.args.nodes.now c.args.places.now (state_meant c.args.state) done c.requires.hears

pub tell-told-requires-clause-sleeps : goal.tell-told-requires-clause-sleeps
tell-told-requires-clause-sleeps c =
    sleeps-on c.args.nodes.now c.args.places.now (state_meant c.args.state) c.requires.state c.requires.hears c.loop-place.place-index c.loop-place.nodes c.loop-place.visits (c.loop-place.invariant c.requires.state)

pub tell-told-requires-clause-leaf : goal.tell-told-requires-clause-leaf
tell-told-requires-clause-leaf c =
    let within : c.loop-place.place-index < length c.args.places.now = omega (arith, c.loop-place-test.true) in
    leaf-on c.args.nodes.now c.args.places.now (state_meant c.args.state) c.requires.state c.requires.hears c.loop-place.place-index (get_or c.args.places.now c.loop-place.place-index 0) c.loop-place.nodes c.loop-place.visits
    (c.loop-place.invariant c.requires.state) (slice_get-get_or c.args.places.now c.loop-place.place-index 0 within)

pub overflow_add-visits : goal.overflow_add-visits
overflow_add-visits c =
    let within : c.loop-place.place-index < length c.args.places.now = omega (arith, c.loop-place-test.true) in
    let sum = fits-on c.args.nodes.now c.args.places.now (state_meant c.args.state) c.requires.state c.requires.hears c.loop-place.nodes c.tell-told.new.nodes c.loop-place.place-index (get_or c.args.places.now c.loop-place.place-index 0)
    c.loop-place.visits c.tell-told.result.is_awake c.tell-told.result.visits (c.loop-place.invariant c.requires.state) c.tell-told.ensures (omega (arith, c.type_inv.places c.loop-place.place-index)) in
    omega (arith, sum)

pub returns-then-told : goal.returns-then-told
returns-then-told c =
    let within : c.loop-place.place-index < length c.args.places.now = omega (arith, c.loop-place-test.true) in
    wakes-then c.args.nodes.now c.args.places.now (state_meant c.args.state) c.requires.state c.requires.hears c.loop-place.place-index (get_or c.args.places.now c.loop-place.place-index 0) c.loop-place.nodes c.loop-place.visits
    c.tell-told.new.nodes c.tell-told.result.is_awake c.tell-told.result.visits (c.loop-place.invariant c.requires.state) (slice_get-get_or c.args.places.now c.loop-place.place-index 0 within) c.tell-told.ensures c.if-told.true

pub loop-place-preserved : goal.loop-place-preserved
loop-place-preserved c = λ done.
    let within : c.loop-place.place-index < length c.args.places.now = omega (arith, c.loop-place-test.true) in
    sends-on c.args.nodes.now c.args.places.now (state_meant c.args.state) done c.requires.hears c.loop-place.place-index (c.loop-place.place-index + 1) (get_or c.args.places.now c.loop-place.place-index 0) c.loop-place.nodes c.loop-place.visits
    c.tell-told.new.nodes c.tell-told.result.is_awake c.tell-told.result.visits (c.loop-place.invariant done) (slice_get-get_or c.args.places.now c.loop-place.place-index 0 within) (omega (arith, c.type_inv.places c.loop-place.place-index)) c.tell-told.ensures c.if-told.false refl

pub returns : goal.returns
returns c =
    all-sent c.args.nodes.now c.args.places.now (state_meant c.args.state) c.requires.state c.requires.hears c.loop-place.place-index c.loop-place.nodes c.loop-place.visits (c.loop-place.invariant c.requires.state)
    (omega (arith, c.loop-place-test.false))
