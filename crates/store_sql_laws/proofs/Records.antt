-- No write that is new lets a key come twice.
use Rattle.std.proofs.Common.{◌≡◌, ◌≤◌, ◌++◌, ℕ, Bool, true, false, cond, not, List, [], ◌∷◌, length, map, filter, if◌then◌else◌, bytes_eq, refl, sym, ap, subst, subst₂, arith, append-nil}
use Rattle.std.proofs.lemmas.Bool.{and_parts}
use Rattle.std.proofs.lemmas.List.{length-map}
use Rattle.std.proofs.lemmas.Slice.Eq.{bytes_eq-Decides}
use Rattle.sqlite_keyed.proofs.ListLemmas.{filter-map, filter_same}
use Rattle.store_tables.specs.Questions.{has_id}
use Rattle.store_tables.specs.Records.{Records, is_at_key, set_in}
use Rattle.store_tables.specs.declared.row.InvocationRow.{InvocationRow}
use Rattle.store_tables.specs.declared.row.Progress.{Progress}
use Rattle.store_tables.specs.declared.row.StateRow.{StateRow}
use Rattle.store_sql_laws.specs.Keys.{KeysAreApart}

filter-append : {X : Type 0} (p : X → Bool) (xs ys : List X) → filter p (xs ++ ys) ≡ filter p xs ++ filter p ys
filter-append p [] ys = refl
filter-append {X} p (x ∷ xs) ys = elim (p x) as (λ b. cond b (x ∷ filter p (xs ++ ys)) (filter p (xs ++ ys)) ≡ cond b (x ∷ filter p xs) (filter p xs) ++ filter p ys) [
  | true ↦ ap (λ (l : List X). x ∷ l) (filter-append p xs ys)
  | false ↦ filter-append p xs ys
]

-- fewer things pass where some are removed
pub fewer : {X : Type 0} (p q : X → Bool) (xs : List X) → length (filter p (filter q xs)) ≤ length (filter p xs)
fewer p q [] = omega arith
fewer {X} p q (x ∷ xs) = elim (q x) as (λ b. length (filter p (cond b (x ∷ filter q xs) (filter q xs))) ≤ length (cond (p x) (x ∷ filter p xs) (filter p xs))) [
  | true ↦ elim (p x) as (λ b. length (cond b (x ∷ filter p (filter q xs)) (filter p (filter q xs))) ≤ length (cond b (x ∷ filter p xs) (filter p xs))) [ true ↦ let more = fewer p q xs in omega arith | false ↦ fewer p q xs ]
  | false ↦ elim (p x) as (λ b. length (filter p (filter q xs)) ≤ length (cond b (x ∷ filter p xs) (filter p xs))) [ true ↦ let more = fewer p q xs in omega arith | false ↦ fewer p q xs ]
]

-- one more thing that none is the same as
one_more : {X : Type 0} (p : X → Bool) (xs : List X) (x : X) → length (filter p xs) ≤ 1 → (p x ≡ true → filter p xs ≡ []) → length (filter p (xs ++ x ∷ [])) ≤ 1
one_more {X} p xs x few none = subst (λ l. length l ≤ 1) (sym (filter-append p xs (x ∷ []))) (go (p x) refl)
  where
    go : (b : Bool) → p x ≡ b → length (filter p xs ++ cond b (x ∷ []) []) ≤ 1
    go true is = rw (none is) (omega arith)
    go false is = rw append-nil few

-- the id of an invocation stays
same_name : (id : List ℕ) (of : List ℕ) (p : Progress) (i : InvocationRow) → has_id of (set_in id p i) ≡ has_id of i
same_name id of p i = elim (bytes_eq i.id id) as (λ b. has_id of (if b then record i { progress = p } else i) ≡ has_id of i) [ true ↦ refl | false ↦ refl ]

-- behind the state of one key none has that key
pub none_left : (object key : List ℕ) (xs : List StateRow) → filter (is_at_key object key) (filter (λ s. not (is_at_key object key s)) xs) ≡ []
none_left object key [] = refl
none_left object key (x ∷ xs) = go (is_at_key object key x) refl (none_left object key xs)
  where
    go : (b : Bool) → is_at_key object key x ≡ b → filter (is_at_key object key) (filter (λ s. not (is_at_key object key s)) xs) ≡ []
        → filter (is_at_key object key) (cond (not b) (x ∷ filter (λ s. not (is_at_key object key s)) xs) (filter (λ s. not (is_at_key object key s)) xs)) ≡ []
    go true is none = none
    go false is none = rw is none

-- the keys of the records that are left
pub apart_among : (r : Records) (test : StateRow → Bool) → KeysAreApart r → KeysAreApart (record r { states = filter test r.states })
apart_among r test apart = record { ids = apart.ids; keys = λ object key. let less = fewer (is_at_key object key) test r.states in let few = apart.keys object key in omega arith }

-- the ids of the invocations that are left
pub apart_left : (r : Records) (test : InvocationRow → Bool) → KeysAreApart r → KeysAreApart (record r { invocations = filter test r.invocations })
apart_left r test apart = record { ids = λ id. let less = fewer (has_id id) test r.invocations in let few = apart.ids id in omega arith; keys = apart.keys }

-- behind a value that is put where none has its key
pub apart_with : (r : Records) (s : StateRow) → KeysAreApart r → filter (is_at_key s.object s.key) r.states ≡ [] → KeysAreApart (record r { states = r.states ++ s ∷ [] })
apart_with r s apart none = record {
  ids = apart.ids;
  keys = λ object key. one_more (is_at_key object key) r.states s (apart.keys object key) (λ yes.
      let parts = and_parts (bytes_eq s.object object) (bytes_eq s.key key) yes in
      subst₂ (λ o k. filter (is_at_key o k) r.states ≡ []) ((bytes_eq-Decides s.object object).0 parts.0) ((bytes_eq-Decides s.key key).0 parts.1) none);
}

-- behind an invocation whose id is new
pub apart_begun : (r : Records) (i : InvocationRow) → KeysAreApart r → filter (has_id i.id) r.invocations ≡ [] → KeysAreApart (record r { invocations = r.invocations ++ i ∷ [] })
apart_begun r i apart none = record {
  ids = λ id. one_more (has_id id) r.invocations i (apart.ids id) (λ yes. subst (λ name. filter (has_id name) r.invocations ≡ []) ((bytes_eq-Decides i.id id).0 yes) none);
  keys = apart.keys;
}

-- behind another progress
pub apart_set : (r : Records) (id : List ℕ) (p : Progress) → KeysAreApart r → KeysAreApart (record r { invocations = map (set_in id p) r.invocations })
apart_set r id p apart = record {
  ids = λ name. rw (filter-map (has_id name) (set_in id p) r.invocations, length-map (filter (λ i. has_id name (set_in id p i)) r.invocations) (set_in id p), filter_same (λ i. has_id name (set_in id p i)) (has_id name) (same_name id name p) r.invocations) (apart.ids name);
  keys = apart.keys;
}
