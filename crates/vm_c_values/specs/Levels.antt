-- How deep trees are nested, by their nodes, from the last one on. Past what a tree may have levels are not counted.
use Rattle.std.specs.Prelude.{ℕ, zero, suc, ◌==◌, max, min, if◌then◌else◌, List, [], ◌∷◌, drop}
use Rattle.vm_c_values.specs.Stacks.{children_of}
use Rattle.vm_c_values.specs.declared.levels.TheConstants.{NODE_LEVELS}
use Rattle.vm_c_values.specs.declared.node.Node.{Node}

-- the most of the first so many
abbrev pub most_of : ℕ → List ℕ → ℕ
most_of zero levels = 0
most_of (suc count) [] = 0
most_of (suc count) (level ∷ levels) = max level (most_of count levels)

-- of a node, over the levels of the trees behind it
abbrev pub level_over : Node → List ℕ → ℕ
level_over node levels = if node.kind == 0 then 0 else suc (min (most_of node.number levels) NODE_LEVELS)

abbrev pub put_level : Node → List ℕ → List ℕ
put_level node levels = level_over node levels ∷ drop (children_of node) levels

-- of the trees that these are the nodes of, before those that have these levels
abbrev pub levels_on : List Node → List ℕ → List ℕ
levels_on [] levels = levels
levels_on (node ∷ nodes) levels = put_level node (levels_on nodes levels)
