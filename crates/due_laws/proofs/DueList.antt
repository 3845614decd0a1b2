-- The ids that are due are those that have the flag, in byte order, without those that have a live attempt.
use Rattle.std.proofs.Common.{◌≡◌, refl, sym, ap, ap₂, subst, ◌∙◌, T, true≢false, not, Bool, true, false, ◌&&◌, ◌||◌, if◌then◌else◌, List, [], ◌∷◌, map, filter, filter_map, Option, Some, None, is_some, bytes_eq, Less, Equal, is_lt}
use Rattle.std.specs.List.{list_any, find as found}
use Rattle.std.specs.Cmp.Lexicographic.{nat_list_cmp_total}
use Rattle.std.specs.FinMap.Entries.{find, where_key, is_sorted, below_all, find-put, find-where_key, is_sorted-put, is_sorted-where_key, same_entries}
use Rattle.std.proofs.lemmas.List.Sorted.{list_any-IsPermutation}
use Rattle.std.proofs.lemmas.Slice.Eq.{bytes_eq-Decides}
use Rattle.std.proofs.lemmas.Map.Text.{is_eq-slice_cmp}
use Rattle.journal_model.specs.Notification.{Bytes, Text}
use Rattle.journal_model.specs.State.{StateMap, bytes_cmp, state_keys}
use Rattle.journal_model.specs.declared.invocation.NewInvocation.{NewInvocation}
use Rattle.journal_model.specs.Event.{Event}
use Rattle.journal_model.specs.Journal.{invoked_by, invocation_begun, closes, frames_of, version_of, is_open}
use Rattle.journal_model.specs.Attempt.{is_none, live_attempt, arrivals_not_handed, suspension_of, is_woken, is_due, ids_in_order}
use Rattle.journal_laws.proofs.Keys.{first_holds, both_hold, is_less, below_less}
use Rattle.journal_laws.proofs.Applying.{same_bytes}
use Rattle.due_laws.specs.Awake.{not_heard, is_awake_kept}
use Rattle.due_laws.specs.DueList.{ids_begun, DoRise, DueListed, DueTells, AwakeFound}
use Rattle.due_laws.proofs.Heard.{awake_is_due}

-- ---- ids as the keys of a map

abbrev as_map : List Text → StateMap
as_map ids = map (λ (id : Text). (id, [])) ids

keys_as_map : (ids : List Text) → state_keys (as_map ids) ≡ ids
keys_as_map [] = refl
keys_as_map (id ∷ ids) = ap (λ (rest : List Text). id ∷ rest) (keys_as_map ids)

keys_where : (p : Text → Bool) (es : StateMap) → state_keys (where_key bytes_cmp p es) ≡ filter p (state_keys es)
keys_where p [] = refl
keys_where p (e ∷ es) = by_test (p e.0) (keys_where p es)
  where
    by_test : (b : Bool) → state_keys (where_key bytes_cmp p es) ≡ filter p (state_keys es)
        → state_keys (if b then e ∷ where_key bytes_cmp p es else where_key bytes_cmp p es) ≡ (if b then e.0 ∷ filter p (state_keys es) else filter p (state_keys es))
    by_test true later = ap (λ (rest : List Text). e.0 ∷ rest) later
    by_test false later = later

find_as_map : (q : Text) (ids : List Text) → find bytes_cmp q (as_map ids) ≡ (if list_any (bytes_eq q) ids then Some [] else None)
find_as_map q [] = refl
find_as_map q (id ∷ ids) = ap (λ (b : Bool). if b then Some [] else find bytes_cmp q (as_map ids)) (is_eq-slice_cmp q id) ∙ by_test (bytes_eq q id) (find_as_map q ids)
  where
    by_test : (b : Bool) → find bytes_cmp q (as_map ids) ≡ (if list_any (bytes_eq q) ids then Some [] else None)
        → (if b then Some [] else find bytes_cmp q (as_map ids)) ≡ (if b || list_any (bytes_eq q) ids then Some [] else None)
    by_test true later = refl
    by_test false later = later

find_in_order : (q : Text) (news : List NewInvocation) → find bytes_cmp q (ids_in_order news) ≡ (if list_any (bytes_eq q) (map (λ (new : NewInvocation). new.id) news) then Some [] else None)
find_in_order q [] = refl
find_in_order q (new ∷ news) =
    find-put bytes_cmp nat_list_cmp_total q new.id [] (ids_in_order news)
    ∙ ap (λ (b : Bool). if b then Some [] else find bytes_cmp q (ids_in_order news)) (is_eq-slice_cmp q new.id) ∙ by_test (bytes_eq q new.id) (find_in_order q news)
  where
    by_test : (b : Bool) → find bytes_cmp q (ids_in_order news) ≡ (if list_any (bytes_eq q) (map (λ (new : NewInvocation). new.id) news) then Some [] else None)
        → (if b then Some [] else find bytes_cmp q (ids_in_order news)) ≡ (if b || list_any (bytes_eq q) (map (λ (new : NewInvocation). new.id) news) then Some [] else None)
    by_test true later = refl
    by_test false later = later

in_order_sorted : (news : List NewInvocation) → T (is_sorted bytes_cmp (ids_in_order news))
in_order_sorted [] = tt
in_order_sorted (new ∷ news) = is_sorted-put bytes_cmp nat_list_cmp_total new.id [] (ids_in_order news) (in_order_sorted news)

rise_sorted : (ids : List Text) → DoRise ids → T (is_sorted bytes_cmp (as_map ids))
rise_sorted [] h = tt
rise_sorted (x ∷ []) h = tt
rise_sorted (x ∷ y ∷ ids) h =
    let rest : T (is_sorted bytes_cmp (as_map (y ∷ ids))) = rise_sorted (y ∷ ids) h.1 in
    let holds : T (is_lt (bytes_cmp x y)) = subst T (sym h.0) tt in
    let less : bytes_cmp x y ≡ Less = is_less (bytes_cmp x y) holds in
    both_hold (below_all bytes_cmp x (as_map (y ∷ ids))) (is_sorted bytes_cmp (as_map (y ∷ ids)))
    (both_hold (is_lt (bytes_cmp x y)) (below_all bytes_cmp x (as_map ids)) holds
    (below_less x y (as_map ids) less (first_holds (below_all bytes_cmp y (as_map ids)) (is_sorted bytes_cmp (as_map ids)) rest)))
    rest

-- ---- what has the flag was begun

either_way : (x y : Bytes) → bytes_eq x y ≡ true → bytes_eq y x ≡ true
either_way x y e = (bytes_eq-Decides y x).1 (sym ((bytes_eq-Decides x y).0 e))

begun_among : (q : Text) (news : List NewInvocation) → is_some (found (λ (new : NewInvocation). bytes_eq new.id q) news) ≡ true
    → list_any (bytes_eq q) (map (λ (new : NewInvocation). new.id) news) ≡ true
begun_among q [] e = absurd (true≢false (sym e))
begun_among q (new ∷ news) e = by_test (bytes_eq new.id q) refl e (begun_among q news)
  where
    right : (a b : Bool) → b ≡ true → (a || b) ≡ true
    right true b h = refl
    right false b h = h

    by_test : (b : Bool) → bytes_eq new.id q ≡ b → is_some (if b then Some new else found (λ (new : NewInvocation). bytes_eq new.id q) news) ≡ true
        → (is_some (found (λ (new : NewInvocation). bytes_eq new.id q) news) ≡ true → list_any (bytes_eq q) (map (λ (new : NewInvocation). new.id) news) ≡ true)
        → (bytes_eq q new.id || list_any (bytes_eq q) (map (λ (new : NewInvocation). new.id) news)) ≡ true
    by_test true f e later = ap (λ (b : Bool). b || list_any (bytes_eq q) (map (λ (new : NewInvocation). new.id) news)) (either_way new.id q f)
    by_test false f e later = right (bytes_eq q new.id) (list_any (bytes_eq q) (map (λ (new : NewInvocation). new.id) news)) (later e)

and_first : (a b : Bool) → (a && b) ≡ true → a ≡ true
and_first true b e = refl
and_first false b e = e

awake_begun : (events : List Event) (q : Text) → is_awake_kept events q ≡ true → list_any (bytes_eq q) (ids_begun events) ≡ true
awake_begun events q e =
    begun_among q (filter_map invoked_by events)
    (and_first (is_some (invocation_begun events q)) (not (list_any (closes (version_of events q)) (frames_of events q)))
    (and_first (is_open events q) (is_woken (not_heard events q) (suspension_of events q)) e))

-- ---- so the lists are one

at_same : (p : Text → Bool) (q x : Text) → bytes_cmp q x ≡ Equal → p x ≡ p q
at_same p q x e = ap p (sym (same_bytes q x e))

pub due_listed : DueListed
due_listed events ids accepted awake =
    sym (keys_where (is_due events) all) ∙ ap state_keys same ∙ keys_where alive (as_map ids) ∙ ap (filter alive) (keys_as_map ids)
  where
    all : StateMap
    all = ids_in_order (filter_map invoked_by events)

    alive : Text → Bool
    alive id = is_none (live_attempt events id)

    tests : (a l n : Bool) → (a ≡ true → n ≡ true)
        → ◌≡◌ {A = Option Bytes} (if a && l then (if n then Some [] else None) else None) (if l then (if a then Some [] else None) else None)
    tests true true n h = ap (λ (b : Bool). if b then Some [] else None) (h refl)
    tests true false n h = refl
    tests false true n h = refl
    tests false false n h = refl

    same_value : (q : Text) → find bytes_cmp q (where_key bytes_cmp (is_due events) all) ≡ find bytes_cmp q (where_key bytes_cmp alive (as_map ids))
    same_value q =
        find-where_key bytes_cmp (is_due events) q (at_same (is_due events) q) all
        ∙ ap₂ (λ (b : Bool) (o : Option Bytes). if b then o else None) (awake_is_due events q accepted) (find_in_order q (filter_map invoked_by events))
        ∙ tests (is_awake_kept events q) (alive q) (list_any (bytes_eq q) (ids_begun events)) (awake_begun events q)
        ∙ ap (λ (b : Bool). if alive q then (if b then Some [] else None) else None) (sym (awake.those q))
        ∙ ap (λ (o : Option Bytes). if alive q then o else None) (sym (find_as_map q ids))
        ∙ sym (find-where_key bytes_cmp alive q (at_same alive q) (as_map ids))

    same : where_key bytes_cmp (is_due events) all ≡ where_key bytes_cmp alive (as_map ids)
    same =
        same_entries bytes_cmp nat_list_cmp_total same_bytes (where_key bytes_cmp (is_due events) all) (where_key bytes_cmp alive (as_map ids))
        (is_sorted-where_key bytes_cmp (is_due events) all (in_order_sorted (filter_map invoked_by events)))
        (is_sorted-where_key bytes_cmp alive (as_map ids) (rise_sorted ids awake.rise)) same_value

-- ---- the rows that have the flag

pub any_filter : (p : Text → Bool) (q : Text) (ids : List Text) → list_any (bytes_eq q) (filter p ids) ≡ (p q && list_any (bytes_eq q) ids)
any_filter p q [] = neither (p q)
  where
    neither : (b : Bool) → false ≡ (b && false)
    neither true = refl
    neither false = refl
any_filter p q (id ∷ ids) = by_tests (p id) refl (bytes_eq q id) refl (any_filter p q ids)
  where
    at_id : bytes_eq q id ≡ true → p q ≡ p id
    at_id e = ap p ((bytes_eq-Decides q id).0 e)

    by_tests : (a : Bool) → p id ≡ a → (b : Bool) → bytes_eq q id ≡ b → list_any (bytes_eq q) (filter p ids) ≡ (p q && list_any (bytes_eq q) ids)
        → list_any (bytes_eq q) (if a then id ∷ filter p ids else filter p ids) ≡ (p q && (b || list_any (bytes_eq q) ids))
    by_tests true e true f later = ap (λ (b : Bool). b || list_any (bytes_eq q) (filter p ids)) f ∙ sym (ap (λ (b : Bool). b && true) (at_id f ∙ e))
    by_tests true e false f later = ap (λ (b : Bool). b || list_any (bytes_eq q) (filter p ids)) f ∙ later
    by_tests false e true f later =
        let off : p q ≡ false = at_id f ∙ e in
        later ∙ ap (λ (b : Bool). b && list_any (bytes_eq q) ids) off ∙ sym (ap (λ (b : Bool). b && true) off)
    by_tests false e false f later = later

pub awake_found : AwakeFound
awake_found events ids rise permuted = record {
  rise = rise;
  those = λ id.
      sym (list_any-IsPermutation (bytes_eq id) (filter (is_awake_kept events) (ids_begun events)) ids permuted)
      ∙ any_filter (is_awake_kept events) id (ids_begun events)
      ∙ as_flag (is_awake_kept events id) (list_any (bytes_eq id) (ids_begun events)) (awake_begun events id);
}
  where
    as_flag : (a b : Bool) → (a ≡ true → b ≡ true) → (a && b) ≡ a
    as_flag true b h = h refl
    as_flag false b h = refl

-- ---- an id among those that are due

any_of_keys : (q : Text) (es : StateMap) → is_some (find bytes_cmp q es) ≡ list_any (bytes_eq q) (state_keys es)
any_of_keys q [] = refl
any_of_keys q (e ∷ es) = ap (λ (b : Bool). is_some (if b then Some e.1 else find bytes_cmp q es)) (is_eq-slice_cmp q e.0) ∙ by_test (bytes_eq q e.0) (any_of_keys q es)
  where
    by_test : (b : Bool) → is_some (find bytes_cmp q es) ≡ list_any (bytes_eq q) (state_keys es)
        → is_some (if b then Some e.1 else find bytes_cmp q es) ≡ (b || list_any (bytes_eq q) (state_keys es))
    by_test true later = refl
    by_test false later = later

some_marked : (b : Bool) → is_some {T = Bytes} (if b then Some [] else None) ≡ b
some_marked true = refl
some_marked false = refl

pub due_tells : DueTells
due_tells events id =
    any_filter (is_due events) id (state_keys (ids_in_order (filter_map invoked_by events)))
    ∙ ap (λ (b : Bool). is_due events id && b) among
    ∙ as_due (is_due events id) (list_any (bytes_eq id) (ids_begun events)) begun
  where
    among : list_any (bytes_eq id) (state_keys (ids_in_order (filter_map invoked_by events))) ≡ list_any (bytes_eq id) (ids_begun events)
    among =
        sym (any_of_keys id (ids_in_order (filter_map invoked_by events)))
        ∙ ap (λ (o : Option Bytes). is_some o) (find_in_order id (filter_map invoked_by events))
        ∙ some_marked (list_any (bytes_eq id) (ids_begun events))

    begun : is_due events id ≡ true → list_any (bytes_eq id) (ids_begun events) ≡ true
    begun e =
        begun_among id (filter_map invoked_by events)
        (and_first (is_some (invocation_begun events id)) (not (list_any (closes (version_of events id)) (frames_of events id)))
        (and_first (is_open events id) (is_none (live_attempt events id) && is_woken (arrivals_not_handed events id) (suspension_of events id)) e))

    as_due : (a b : Bool) → (a ≡ true → b ≡ true) → (a && b) ≡ a
    as_due true b h = h refl
    as_due false b h = refl
