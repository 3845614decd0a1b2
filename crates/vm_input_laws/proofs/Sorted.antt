-- Pairs whose keys rise are the map that is made of them.
use Rattle.std.proofs.Common.{◌≡◌, ◌&&◌, ◌++◌, Bool, true, false, T, [], ◌∷◌, refl, sym, ap, subst, ◌∙◌, append_assoc, append-nil}
use Rattle.std.specs.declared.cmp.Ordering.{Ordering}
use Rattle.std.specs.declared.cmp.Ordering.TheVariants.{Less, Equal, Greater}
use Rattle.std.specs.Ordering.{is_lt, ordering_reverse}
use Rattle.std.specs.FinMap.{is_sorted}
use Rattle.std.specs.Cmp.Lexicographic.{nat_list_cmp_total}
use Rattle.std.specs.FinMap.Entries.{by_order, below_all}
use Rattle.journal_model.specs.Notification.{Bytes}
use Rattle.journal_model.specs.State.{StateMap, bytes_cmp, with_value, IsOrdered}
use Rattle.vm_context.specs.Eager.{map_with}

left : (a b : Bool) → T (a && b) → T a
left true b h = tt
left false b h = absurd h

right : (a b : Bool) → T (a && b) → T b
right true b h = h
right false b h = absurd h

less : (o : Ordering) → T (is_lt o) → o ≡ Less
less Less h = refl
less Equal h = absurd h
less Greater h = absurd h

-- a key that is behind all others is put behind them
below_last : (x : Bytes) (es more : StateMap) (pair : Bytes × Bytes) → T (below_all bytes_cmp x (es ++ pair ∷ more)) → bytes_cmp x pair.0 ≡ Less
below_last x [] more pair h = less _ (left _ _ h)
below_last x (e ∷ es) more pair h = below_last x es more pair (right (is_lt (bytes_cmp x e.0)) _ h)

put_last : (es more : StateMap) (pair : Bytes × Bytes) → T (is_sorted bytes_cmp (es ++ pair ∷ more)) → with_value es pair.0 pair.1 ≡ es ++ pair ∷ []
put_last [] more pair h = refl
put_last (e ∷ es) more pair h =
    let behind : bytes_cmp pair.0 e.0 ≡ Greater = nat_list_cmp_total.antisymm pair.0 e.0 ∙ ap ordering_reverse (below_last e.0 es more pair (left _ _ h)) in
    ap (λ (o : Ordering). by_order o (pair ∷ e ∷ es) ((e.0, pair.1) ∷ es) (e ∷ with_value es pair.0 pair.1)) behind
    ∙ ap (λ (s : StateMap). e ∷ s) (put_last es more pair (right (below_all bytes_cmp e.0 (es ++ pair ∷ more)) _ h))

made : (es more : StateMap) → T (is_sorted bytes_cmp (es ++ more)) → map_with es more ≡ es ++ more
made es [] h = sym (append-nil es)
made es (pair ∷ more) h =
    let joined : (es ++ pair ∷ []) ++ more ≡ es ++ pair ∷ more = append_assoc es (pair ∷ []) more in
    ap (λ (s : StateMap). map_with s more) (put_last es more pair h)
    ∙ made (es ++ pair ∷ []) more (subst (λ (s : StateMap). T (is_sorted bytes_cmp s)) (sym joined) h) ∙ joined

pub sorted_is_made : (entries : StateMap) → IsOrdered entries → map_with [] entries ≡ entries
sorted_is_made entries ordered = made [] entries (subst T (sym ordered) tt)
