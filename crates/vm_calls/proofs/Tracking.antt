-- The children that are kept while a call is made.
use Rattle.std.proofs.Common.{◌≡◌, ◌+◌, ◌++◌, ◌∷◌, ℕ, suc, List, [], append-nil, map, sym, ap, ◌∙◌, subst, arith}
use Rattle.attempt_model.specs.Children.{Child, new_child}
use Rattle.vm_awaits.specs.Children.{AreMade}

-- a call that brings none leaves them
pub none_more : (children kept : List Child) (brought : List ℕ) → brought ≡ [] → kept ≡ children → kept ≡ children ++ map new_child brought
none_more children kept brought none same = same ∙ sym (append-nil children) ∙ ap (λ (ids : List ℕ). children ++ map new_child ids) (sym none)

-- they are made still when more completions are
pub still_made : (next more : ℕ) (children : List Child) → AreMade next children → AreMade (next + more) children
still_made next more [] made = tt
still_made next more (child ∷ children) made = (omega (arith, made.0), still_made next more children made.1)

pub none_made : (next more : ℕ) (children : List Child) (brought : List ℕ) → brought ≡ [] → AreMade next children → AreMade (next + more) (children ++ map new_child brought)
none_made next more children brought none made =
    subst (λ (cs : List Child). AreMade (next + more) cs) (none_more children children brought none (λ i. children)) (still_made next more children made)

-- the next completion is a child from then on
pub one_made : (next more : ℕ) (children : List Child) → AreMade next children → AreMade (next + suc more) (children ++ new_child next ∷ [])
one_made next more [] made = (omega arith, tt)
one_made next more (child ∷ children) made = (omega (arith, made.0), one_made next more children made.1)
