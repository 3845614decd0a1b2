-- How the nodes of a tree are read, from the last one on: how many trees stand on a stack.
use Rattle.std.specs.Prelude.{ℕ, suc, ◌-◌, ◌==◌, ◌||◌, ◌&&◌, nat_le, if◌then◌else◌, Bool, List, [], ◌∷◌, Option, Some, None, option_and_then}
use Rattle.vm_c_values.specs.declared.node.Node.{Node}

-- only the one that asks for a number of successes has a number of them
abbrev pub is_combinator : (kind required : ℕ) → Bool
is_combinator kind required = kind == 5 || (required == 0 && (kind == 1 || kind == 2 || kind == 3 || kind == 4 || kind == 6))

abbrev pub is_node : Node → Bool
is_node node = if node.kind == 0 then node.required == 0 else is_combinator node.kind node.required

abbrev pub children_of : Node → ℕ
children_of node = if node.kind == 0 then 0 else node.number

-- a node that is one, and whose children are there
abbrev pub stands_on : Node → (stacked : ℕ) → Bool
stands_on node stacked = is_node node && nat_le (children_of node) stacked

abbrev pub put_on : Node → (stacked : ℕ) → Option ℕ
put_on node stacked = if stands_on node stacked then Some (suc (stacked - children_of node)) else None

-- how many trees these are the nodes of, one behind the other; none, if some node lacks children or is none
abbrev pub trees_in : List Node → Option ℕ
trees_in [] = Some 0
trees_in (node ∷ nodes) = option_and_then (put_on node) (trees_in nodes)
