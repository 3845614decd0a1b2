-- A map that is filled in one go has the entries of one into which the pairs were put in turn.
use Rattle.std.proofs.Common.{◌≡◌, refl, sym, ap, ◌∙◌, T, cond, List, [], ◌∷◌, map, Option, Some, None, Less}
use Rattle.std.specs.List.{AllByRecursion}
use Rattle.std.specs.List.Sorted.{IsStrictlySortedBy}
use Rattle.std.specs.Ordering.{is_lt, eq_by_cmp}
use Rattle.std.specs.Cmp.{eq_by_cmp_equiv}
use Rattle.std.specs.Cmp.Lexicographic.{nat_list_cmp_total}
use Rattle.std.specs.Map.{keys_of, update_all}
use Rattle.std.specs.BTreeMap.{BTreeMap, IsFromIterResult}
use Rattle.std.specs.FinMap.{find, put, is_sorted}
use Rattle.std.specs.FinMap.Entries.{below_all, find-put, is_sorted-put, same_entries}
use Rattle.journal_model.specs.Notification.{Bytes}
use Rattle.journal_model.specs.State.{bytes_cmp}
use Rattle.vm_context.specs.Eager.{KnownEntries, entries_with}
use Rattle.vm_context.proofs.Entries.{both_hold, find_is, same_bytes}
use Rattle.vm_context.proofs.Keeping.{holds}

-- a pair as an entry
abbrev pub known_pair : Bytes × Bytes → Bytes × Option Bytes
known_pair pair = (pair.0, Some pair.1)

is_below : (x : Bytes) (es : KnownEntries) → AllByRecursion (λ y. bytes_cmp x y ≡ Less) (keys_of es) → T (below_all bytes_cmp x es)
is_below x [] h = tt
is_below x (e ∷ es) h = both_hold _ _ (holds (is_lt (bytes_cmp x e.0)) (ap is_lt h.0)) (is_below x es h.1)

rises : (es : KnownEntries) → IsStrictlySortedBy bytes_cmp (keys_of es) → T (is_sorted bytes_cmp es)
unfolding IsStrictlySortedBy
rises [] h = tt
rises (e ∷ es) h = both_hold _ _ (is_below e.0 es h.0) (rises es h.1)

-- to put in a pair is to update what is found
all_put : (pairs : List (Bytes × Bytes)) (es : KnownEntries) (f : Bytes → Option (Option Bytes)) → ((q : Bytes) → f q ≡ find bytes_cmp q es)
    → (q : Bytes) → update_all (eq_by_cmp bytes_cmp) f (map known_pair pairs) q ≡ find bytes_cmp q (entries_with es pairs)
all_put [] es f same q = same q
all_put (pair ∷ pairs) es f same q =
    all_put pairs (put bytes_cmp pair.0 (Some pair.1) es) (λ k. cond (eq_by_cmp bytes_cmp pair.0 k) (Some (Some pair.1)) (f k))
    (λ k. ap (λ o. cond (eq_by_cmp bytes_cmp pair.0 k) (Some (Some pair.1)) o) (same k)
    ∙ ap (λ b. cond b (Some (Some pair.1)) (find bytes_cmp k es)) ((eq_by_cmp_equiv nat_list_cmp_total).symm pair.0 k)
    ∙ sym (find-put bytes_cmp nat_list_cmp_total k pair.0 (Some pair.1) es))
    q

put_rises : (pairs : List (Bytes × Bytes)) (es : KnownEntries) → T (is_sorted bytes_cmp es) → T (is_sorted bytes_cmp (entries_with es pairs))
put_rises [] es h = h
put_rises (pair ∷ pairs) es h = put_rises pairs (put bytes_cmp pair.0 (Some pair.1) es) (is_sorted-put bytes_cmp nat_list_cmp_total pair.0 (Some pair.1) es h)

pub collected : (pairs : List (Bytes × Bytes)) (values : BTreeMap Bytes (Option Bytes)) → IsFromIterResult bytes_cmp (map known_pair pairs) values → values.entries ≡ entries_with [] pairs
collected pairs values h =
    same_entries bytes_cmp nat_list_cmp_total same_bytes values.entries (entries_with [] pairs) (rises values.entries h.1) (put_rises pairs [] tt)
    (λ q. sym (find_is values.entries q) ∙ h.0 q ∙ all_put pairs [] (λ k. None) (λ k. refl) q)
