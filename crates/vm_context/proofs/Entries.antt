-- Keys in order, some of them without a value, beside the map of those that have one.
use Rattle.std.proofs.Common.{◌≡◌, refl, sym, ap, subst, ◌∙◌, Bool, true, false, ◌&&◌, T, cond, [], ◌∷◌, Option, Some, None, Less, Equal, Greater}
use Rattle.std.specs.Ordering.{is_lt, is_eq, eq_by_cmp, match_ordering}
use Rattle.std.specs.Cmp.Lexicographic.{nat_list_cmp_total}
use Rattle.std.specs.declared.cmp.Ordering.{Ordering}
use Rattle.std.specs.Map.{lookup}
use Rattle.std.specs.BTreeMap.{insert_entry, is_at}
use Rattle.std.specs.FinMap.{find, put, is_sorted, nat_cmp-IsAntisymmetric, slice_cmp-IsAntisymmetric}
use Rattle.std.specs.FinMap.Entries.{by_order, below_all, find-put, is_sorted-put, same_entries}
use Rattle.journal_model.specs.Notification.{Bytes}
use Rattle.journal_model.specs.State.{StateMap, bytes_cmp}
use Rattle.vm_context.specs.Eager.{KnownEntries, valued}

-- a look-up and an insertion of the map are those of the definitions
pub find_is : (entries : KnownEntries) (q : Bytes) → lookup (is_at (bytes_cmp q)) entries ≡ find bytes_cmp q entries
find_is [] q = refl
find_is (e ∷ es) q = ap (cond (eq_by_cmp bytes_cmp q e.0) (Some e.1)) (find_is es q)

pub put_is : (entries : KnownEntries) (k : Bytes) (v : Option Bytes) → insert_entry bytes_cmp entries k v ≡ put bytes_cmp k v entries
put_is [] k v = refl
put_is (e ∷ es) k v =
    elim (bytes_cmp k e.0) as (λ o. match_ordering o ((k, v) ∷ e ∷ es) ((e.0, v) ∷ es) (e ∷ insert_entry bytes_cmp es k v) ≡ by_order o ((k, v) ∷ e ∷ es) ((e.0, v) ∷ es) (e ∷ put bytes_cmp k v es)) [
      | Less ↦ refl
      | Equal ↦ refl
      | Greater ↦ ap (λ (rest : KnownEntries). e ∷ rest) (put_is es k v)
    ]

pub both_hold : (a b : Bool) → T a → T b → T (a && b)
both_hold true b p q = q
both_hold false b p q = p

pub first_holds : (a b : Bool) → T (a && b) → T a
first_holds true b p = tt
first_holds false b p = p

pub second_holds : (a b : Bool) → T (a && b) → T b
second_holds true b p = p
second_holds false b p = absurd p

is_less : (o : Ordering) → T (is_lt o) → o ≡ Less
is_less Less p = refl
is_less Equal p = absurd p
is_less Greater p = absurd p

below_valued : (x : Bytes) (es : KnownEntries) → T (below_all bytes_cmp x es) → T (below_all bytes_cmp x (valued es))
below_valued x [] h = tt
below_valued x ((k, None) ∷ es) h = below_valued x es (second_holds _ _ h)
below_valued x ((k, Some v) ∷ es) h = both_hold _ _ (first_holds _ _ h) (below_valued x es (second_holds _ _ h))

pub valued_sorted : (es : KnownEntries) → T (is_sorted bytes_cmp es) → T (is_sorted bytes_cmp (valued es))
valued_sorted [] h = tt
valued_sorted ((k, None) ∷ es) h = valued_sorted es (second_holds _ _ h)
valued_sorted ((k, Some v) ∷ es) h = both_hold _ _ (below_valued k es (first_holds _ _ h)) (valued_sorted es (second_holds _ _ h))

-- a key below all is not found
none_below : (q : Bytes) (es : StateMap) → T (below_all bytes_cmp q es) → find bytes_cmp q es ≡ None
none_below q [] h = refl
none_below q (e ∷ es) h =
    ap (λ (o : Ordering). cond (is_eq o) (Some e.1) (find bytes_cmp q es)) (is_less (bytes_cmp q e.0) (first_holds _ _ h)) ∙ none_below q es (second_holds _ _ h)

pub same_bytes : (x y : Bytes) → bytes_cmp x y ≡ Equal → x ≡ y
same_bytes = slice_cmp-IsAntisymmetric nat_cmp-IsAntisymmetric

is_tie : (o : Ordering) → is_eq o ≡ true → o ≡ Equal
is_tie Less e = cc
is_tie Equal e = refl
is_tie Greater e = cc

-- the value of a key, where one is known
abbrev pub joined : Option (Option Bytes) → Option Bytes
joined None = None
joined (Some value) = value

pub find_valued : (q : Bytes) (es : KnownEntries) → T (is_sorted bytes_cmp es) → find bytes_cmp q (valued es) ≡ joined (find bytes_cmp q es)
find_valued q [] h = refl
find_valued q ((k, Some v) ∷ es) h = by_test (eq_by_cmp bytes_cmp q k) (find_valued q es (second_holds _ _ h))
  where
    by_test : (b : Bool) → find bytes_cmp q (valued es) ≡ joined (find bytes_cmp q es)
        → cond b (Some v) (find bytes_cmp q (valued es)) ≡ joined (cond b (Some (Some v)) (find bytes_cmp q es))
    by_test true later = refl
    by_test false later = later
find_valued q ((k, None) ∷ es) h = by_test (eq_by_cmp bytes_cmp q k) refl (find_valued q es (second_holds _ _ h))
  where
    here : eq_by_cmp bytes_cmp q k ≡ true → find bytes_cmp q (valued es) ≡ None
    here e = none_below q (valued es) (subst (λ (x : Bytes). T (below_all bytes_cmp x (valued es))) (sym (same_bytes q k (is_tie (bytes_cmp q k) e))) (below_valued k es (first_holds _ _ h)))

    by_test : (b : Bool) → eq_by_cmp bytes_cmp q k ≡ b → find bytes_cmp q (valued es) ≡ joined (find bytes_cmp q es)
        → find bytes_cmp q (valued es) ≡ joined (cond b (Some None) (find bytes_cmp q es))
    by_test true e later = here e
    by_test false e later = later

-- the map of what is kept with one more, by what it has at each key
pub valued_put : (k : Bytes) (v : Option Bytes) (es : KnownEntries) (m : StateMap) → T (is_sorted bytes_cmp es) → T (is_sorted bytes_cmp m)
    → ((q : Bytes) → find bytes_cmp q m ≡ cond (eq_by_cmp bytes_cmp q k) v (find bytes_cmp q (valued es))) → valued (put bytes_cmp k v es) ≡ m
valued_put k v es m h g is =
    let after = is_sorted-put bytes_cmp nat_list_cmp_total k v es h in
    same_entries bytes_cmp nat_list_cmp_total same_bytes (valued (put bytes_cmp k v es)) m (valued_sorted (put bytes_cmp k v es) after) g
    (λ q. find_valued q (put bytes_cmp k v es) after ∙ ap joined (find-put bytes_cmp nat_list_cmp_total q k v es) ∙ by_test q (eq_by_cmp bytes_cmp q k) ∙ sym (is q))
  where
    by_test : (q : Bytes) (b : Bool) → joined (cond b (Some v) (find bytes_cmp q es)) ≡ cond b v (find bytes_cmp q (valued es))
    by_test q true = refl
    by_test q false = sym (find_valued q es h)
