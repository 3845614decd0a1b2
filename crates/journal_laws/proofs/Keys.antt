-- Keys in order.
use Rattle.std.proofs.Common.{◌≡◌, refl, sym, subst, T, Bool, true, false, ◌&&◌, [], ◌∷◌, Ordering, Less, Equal, Greater, is_lt}
use Rattle.std.specs.Cmp.Lexicographic.{nat_list_cmp_total}
use Rattle.std.specs.FinMap.Entries.{below_all}
use Rattle.journal_model.specs.Notification.{Bytes}
use Rattle.journal_model.specs.State.{StateMap, bytes_cmp}

pub first_holds : (a b : Bool) → T (a && b) → T a
first_holds true b h = tt
first_holds false b h = absurd h

pub second_holds : (a b : Bool) → T (a && b) → T b
second_holds true b h = h
second_holds false b h = absurd h

pub both_hold : (a b : Bool) → T a → T b → T (a && b)
both_hold true b h k = k
both_hold false b h k = h

pub is_less : (o : Ordering) → T (is_lt o) → o ≡ Less
is_less Less h = refl
is_less Equal h = absurd h
is_less Greater h = absurd h

-- what is below one key is below those that this is below
pub below_less : (x y : Bytes) (es : StateMap) → bytes_cmp x y ≡ Less → T (below_all bytes_cmp y es) → T (below_all bytes_cmp x es)
below_less x y [] p h = tt
below_less x y (e ∷ es) p h =
    let less : bytes_cmp y e.0 ≡ Less = is_less (bytes_cmp y e.0) (first_holds (is_lt (bytes_cmp y e.0)) (below_all bytes_cmp y es) h) in
    both_hold (is_lt (bytes_cmp x e.0)) (below_all bytes_cmp x es) (subst (λ (o : Ordering). T (is_lt o)) (sym (nat_list_cmp_total.trans x y e.0 p less)) tt)
    (below_less x y es p (second_holds (is_lt (bytes_cmp y e.0)) (below_all bytes_cmp y es) h))
