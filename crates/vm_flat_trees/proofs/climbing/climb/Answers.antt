use Rattle.std.proofs.Common.{sym, ◌∙◌, subst, ℕ, Option}
use Rattle.vm_flat_trees.specs.Counts.{state_meant}
use Rattle.vm_flat_trees.proofs.Upward.{Climbing, starts, has-room, climbs-on_as, stops, tops_as, goes-up_as}
use Rattle.vm_flat_trees.proofs.climbing.climb.Goals as goal

pub climbing-init : goal.climbing-init
climbing-init c = (starts c.args.nodes.now c.args.leaf (state_meant c.args.state) c.complete-first.new.nodes c.complete-first.result c.requires.sleeps c.requires.leaf c.complete-first.ensures, c.requires.state)

pub returns-in_default-clause-climbs : goal.returns-in_default-clause-climbs
returns-in_default-clause-climbs c =
    tops_as c.args.nodes.now c.args.leaf (state_meant c.args.state) c.requires.sleeps c.climbing.nodes c.climbing.next (state_meant c.climbing.came) c.climbing.visits c.climbing.is_awake
    c.climbing.invariant.0 c.climbing.invariant.1 c.in_default.is

pub visit-node-requires-clause-room : goal.visit-node-requires-clause-room
visit-node-requires-clause-room c =
    let at = subst (λ (next : Option ℕ). Climbing c.args.nodes.now c.args.leaf (state_meant c.args.state) c.climbing.nodes next (state_meant c.climbing.came) c.climbing.visits c.climbing.is_awake) c.in-Some.is c.climbing.invariant.0 in
    has-room c.args.nodes.now c.args.leaf (state_meant c.args.state) c.requires.sleeps c.climbing.nodes c.in-Some.place (state_meant c.climbing.came) c.climbing.visits c.climbing.is_awake at c.climbing.invariant.1

pub returns-then-not-is_completed-clause-climbs : goal.returns-then-not-is_completed-clause-climbs
returns-then-not-is_completed-clause-climbs c =
    let on = climbs-on_as c.args.nodes.now c.args.leaf (state_meant c.args.state) c.requires.sleeps c.climbing.nodes c.climbing.next c.in-Some.place (state_meant c.climbing.came) c.climbing.visits c.climbing.is_awake
    c.visit-node.new.nodes c.visit-node.result (state_meant c.state_by-came.result) c.is_ended.result c.either-is_awake.result
    c.climbing.invariant.0 c.climbing.invariant.1 c.in-Some.is c.visit-node.ensures c.state_by-came.ensures c.is_ended.ensures c.either-is_awake.ensures in
    stops c.args.nodes.now c.args.leaf (state_meant c.args.state) c.requires.sleeps c.visit-node.new.nodes c.visit-node.result.parent (state_meant c.state_by-came.result) _ c.either-is_awake.result
    on (sym c.is_completed.ensures ∙ c.if-not-is_completed.true)

pub climbing-smaller : goal.climbing-smaller
climbing-smaller c =
    goes-up_as c.args.nodes.now c.args.leaf (state_meant c.args.state) c.requires.sleeps c.climbing.nodes c.climbing.next c.in-Some.place (state_meant c.climbing.came) c.climbing.visits c.climbing.is_awake
    c.visit-node.new.nodes c.visit-node.result c.climbing.invariant.0 c.in-Some.is c.visit-node.ensures

pub climbing-preserved : goal.climbing-preserved
climbing-preserved c = (
  climbs-on_as c.args.nodes.now c.args.leaf (state_meant c.args.state) c.requires.sleeps c.climbing.nodes c.climbing.next c.in-Some.place (state_meant c.climbing.came) c.climbing.visits c.climbing.is_awake
      c.visit-node.new.nodes c.visit-node.result (state_meant c.state_by-came.result) c.is_ended.result c.either-is_awake.result
      c.climbing.invariant.0 c.climbing.invariant.1 c.in-Some.is c.visit-node.ensures c.state_by-came.ensures c.is_ended.ensures c.either-is_awake.ensures,
  sym c.is_completed.ensures ∙ c.if-not-is_completed.false,
)
