-- Where the leaves of an id stand among nodes.
use Rattle.std.specs.Prelude.{ℕ, ◌+◌, Bool, if◌then◌else◌, List, [], ◌∷◌, Option, Some, None}
use Rattle.std.specs.declared.vec.Vec.{Vec}
use Rattle.vm_flat_trees.specs.declared.node.Kind.{Kind}
use Rattle.vm_flat_trees.specs.declared.node.Kind.TheVariants as kinds
use Rattle.vm_flat_trees.specs.declared.node.FlatNode.{FlatNode}

-- where leaves stand whose handles pass a test, among nodes the first of which stands at this place
abbrev pub places_before : (test : ℕ → Bool) → (place : ℕ) → Kind → List ℕ → List ℕ
places_before test place (kinds.Leaf handle) places = if test handle then place ∷ places else places
places_before test place _ places = places

abbrev pub places_where : (test : ℕ → Bool) → (place : ℕ) → List FlatNode → List ℕ
places_where test place [] = []
places_where test place (node ∷ nodes) = places_before test place node.kind (places_where test (place + 1) nodes)

abbrev pub places_in : {A : Type 0} → Option (Vec ℕ A) → List ℕ
places_in None = []
places_in (Some places) = places.items
