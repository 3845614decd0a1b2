-- Rows in order have one group an invocation.
use Rattle.std.proofs.Common.{ℕ, ◌≡◌, refl, sym, ap, ap₂, subst, ◌∙◌, inl, inr, ◌⊎◌, true≢false, Bool, true, false, if◌then◌else◌, List, [], ◌∷◌, map, filter, bytes_eq, Ordering, Less, Equal, Greater}
use Rattle.std.specs.List.{AllByRecursion}
use Rattle.std.specs.Ordering.{nat_cmp, ordering_then}
use Rattle.std.specs.Cmp.Lexicographic.{slice_cmp, nat_list_cmp_total}
use Rattle.std.proofs.lemmas.Cmp.{tied_itself}
use Rattle.std.proofs.lemmas.Slice.Eq.{bytes_eq-Decides}
use Rattle.sqlite_trees.specs.Tree.{IsAscending}
use Rattle.sqlite_keyed.proofs.ListLemmas.{all_weaker}
use Rattle.journal_model.specs.Notification.{Text}
use Rattle.journal_laws.proofs.Applying.{same_bytes}
use Rattle.store_tables.specs.Records.{is_sleep_of}
use Rattle.store_tables.specs.Orders.{sleep_cmp}
use Rattle.store_tables.specs.declared.row.SleepRow.{SleepRow}
use Rattle.store_model.proofs.Lists.{filter_nothing}
use Rattle.store_model.proofs.States.{itself}
use Rattle.store_arrivals.specs.Groups.{AreGrouped, Group, group_of, grouped, put_first}

abbrev text_cmp : Text → Text → Ordering
text_cmp = slice_cmp nat_cmp

-- the invocation of a row is before that of another, or it is the same
abbrev IsUpTo : Text → Text → Type 0
IsUpTo a b = (text_cmp a b ≡ Less) ⊎ (a ≡ b)

first_decides : (o p : Ordering) → ordering_then o p ≡ Less → (o ≡ Less) ⊎ (o ≡ Equal)
first_decides Less p e = inl refl
first_decides Equal p e = inr refl
first_decides Greater p e = cc

rows_up_to : (a b : SleepRow) → sleep_cmp a b ≡ Less → IsUpTo a.invocation b.invocation
rows_up_to a b less = elim (first_decides (text_cmp a.invocation b.invocation) _ less) [
  | inl before ↦ inl before
  | inr tied ↦ inr (same_bytes a.invocation b.invocation tied)
]

-- one that is before another is not it
not_itself : (a b : Text) → text_cmp a b ≡ Less → bytes_eq b a ≡ false
not_itself a b less = by_test (bytes_eq b a) refl
  where
    clash : Less ≡ Equal → ⊥
    clash e = absurd cc

    by_test : (c : Bool) → bytes_eq b a ≡ c → c ≡ false
    by_test true e = absurd (clash (sym less ∙ ap (text_cmp a) ((bytes_eq-Decides b a).0 e) ∙ tied_itself nat_list_cmp_total a))
    by_test false e = refl

abbrev Rises : List SleepRow → Type 0
Rises = IsAscending (λ a b. sleep_cmp a b ≡ Less)

-- behind a row of another invocation no further row of an earlier one comes
none_behind : (a : Text) (t : SleepRow) (rows : List SleepRow) → text_cmp a t.invocation ≡ Less → AllByRecursion (λ y. sleep_cmp t y ≡ Less) rows
    → filter (is_sleep_of a) (t ∷ rows) ≡ []
none_behind a t rows less after =
    filter_nothing (is_sleep_of a) (t ∷ rows)
    (not_itself a t.invocation less, all_weaker (λ y. sleep_cmp t y ≡ Less) (λ y. is_sleep_of a y ≡ false) later rows after)
  where
    later : (y : SleepRow) → sleep_cmp t y ≡ Less → is_sleep_of a y ≡ false
    later y up = elim (rows_up_to t y up) [
      | inl before ↦ not_itself a y.invocation (nat_list_cmp_total.trans a t.invocation y.invocation less before)
      | inr same ↦ not_itself a y.invocation (subst (λ (x : Text). text_cmp a x ≡ Less) same less)
    ]

-- the first group is that of the first row
record IsHead (invocation : Text) (groups : List Group) : Type 0 where
  first : Group
  others : List Group
  is : groups ≡ first ∷ others
  named : first.0 ≡ invocation

head_of : (s : SleepRow) (groups : List Group) → IsHead s.invocation (put_first s groups)
head_of s [] = record { first = (s.invocation, s.completion ∷ []); others = []; is = refl; named = refl }
head_of s (group ∷ groups) = by_test (bytes_eq group.0 s.invocation) refl
  where
    by_test : (b : Bool) → bytes_eq group.0 s.invocation ≡ b
        → IsHead s.invocation (if b then (group.0, s.completion ∷ group.1) ∷ groups else (s.invocation, s.completion ∷ []) ∷ group ∷ groups)
    by_test true e = record { first = (group.0, s.completion ∷ group.1); others = groups; is = refl; named = (bytes_eq-Decides group.0 s.invocation).0 e }
    by_test false e = record { first = (s.invocation, s.completion ∷ []); others = group ∷ groups; is = refl; named = refl }

abbrev named : Text → List Group → List Group
named id = filter (λ (group : Group). bytes_eq group.0 id)

tail_same : {A : Type 0} (x y : A) (xs ys : List A) → x ∷ xs ≡ y ∷ ys → (x ≡ y) × (xs ≡ ys)
tail_same x y xs ys e = (cc, cc)

-- a row before those of the same invocation
joins : (s : SleepRow) (id : Text) (group : Group) (groups : List Group) (rows : List SleepRow) → group.0 ≡ s.invocation
    → named id (group ∷ groups) ≡ group_of id (filter (is_sleep_of id) rows)
    → named id ((group.0, s.completion ∷ group.1) ∷ groups) ≡ group_of id (filter (is_sleep_of id) (s ∷ rows))
joins s id group groups rows same before = by_test (bytes_eq group.0 id) refl (bytes_eq s.invocation id) (ap (λ (x : Text). bytes_eq x id) (sym same)) before
  where
    by_rows : (xs : List SleepRow) → group ∷ named id groups ≡ group_of id xs
        → (group.0, s.completion ∷ group.1) ∷ named id groups ≡ (id, s.completion ∷ map (λ (row : SleepRow). row.completion) xs) ∷ []
    by_rows [] e = absurd cc
    by_rows (x ∷ xs) e =
        let parts = tail_same group (id, map (λ (row : SleepRow). row.completion) (x ∷ xs)) (named id groups) [] e in
        ap₂ (λ (g : Group) (gs : List Group). (g.0, s.completion ∷ g.1) ∷ gs) parts.0 parts.1

    by_test : (b : Bool) → bytes_eq group.0 id ≡ b → (c : Bool) → bytes_eq s.invocation id ≡ bytes_eq group.0 id
        → (if b then group ∷ named id groups else named id groups) ≡ group_of id (filter (is_sleep_of id) rows)
        → named id ((group.0, s.completion ∷ group.1) ∷ groups) ≡ group_of id (filter (is_sleep_of id) (s ∷ rows))
    by_test true e c f before =
        let own : is_sleep_of id s ≡ true = f ∙ e in
        rw (e, own) (by_rows (filter (is_sleep_of id) rows) before)
    by_test false e c f before =
        let other : is_sleep_of id s ≡ false = f ∙ e in
        rw (e, other) before

-- a row of another invocation than those behind it
begins : (s : SleepRow) (id : Text) (groups : List Group) (rows : List SleepRow) → filter (is_sleep_of s.invocation) rows ≡ []
    → named id groups ≡ group_of id (filter (is_sleep_of id) rows)
    → named id ((s.invocation, s.completion ∷ []) ∷ groups) ≡ group_of id (filter (is_sleep_of id) (s ∷ rows))
begins s id groups rows none before = by_test (bytes_eq s.invocation id) refl
  where
    by_test : (b : Bool) → bytes_eq s.invocation id ≡ b
        → (if b then (s.invocation, s.completion ∷ []) ∷ named id groups else named id groups)
        ≡ group_of id (if b then s ∷ filter (is_sleep_of id) rows else filter (is_sleep_of id) rows)
    by_test true e =
        let same : s.invocation ≡ id = (bytes_eq-Decides s.invocation id).0 e in
        let nothing : filter (is_sleep_of id) rows ≡ [] = subst (λ (x : Text). filter (is_sleep_of x) rows ≡ []) same none in
        ap₂ (λ (x : Text) (gs : List Group). (x, s.completion ∷ []) ∷ gs) same (before ∙ ap (group_of id) nothing)
        ∙ sym (ap (λ (xs : List SleepRow). group_of id (s ∷ xs)) nothing)
    by_test false e = before

pub are_grouped : (rows : List SleepRow) → Rises rows → AreGrouped rows
are_grouped [] up id = refl
are_grouped (s ∷ []) up id = begins s id [] [] refl refl
are_grouped (s ∷ t ∷ rows) up id =
    by_test (bytes_eq (head_of t (grouped rows)).first.0 s.invocation) refl (head_of t (grouped rows)).is (are_grouped (t ∷ rows) up.1)
  where
    by_test : (b : Bool) → bytes_eq (head_of t (grouped rows)).first.0 s.invocation ≡ b → grouped (t ∷ rows) ≡ (head_of t (grouped rows)).first ∷ (head_of t (grouped rows)).others
        → AreGrouped (t ∷ rows) → named id (put_first s (grouped (t ∷ rows))) ≡ group_of id (filter (is_sleep_of id) (s ∷ t ∷ rows))
    by_test true e there later =
        let first = (head_of t (grouped rows)).first in
        let others = (head_of t (grouped rows)).others in
        let put : put_first s (grouped (t ∷ rows)) ≡ (first.0, s.completion ∷ first.1) ∷ others =
        ap (put_first s) there ∙ ap (λ (b : Bool). if b then (first.0, s.completion ∷ first.1) ∷ others else (s.invocation, s.completion ∷ []) ∷ first ∷ others) e in
        ap (named id) put
        ∙ joins s id first others (t ∷ rows) ((bytes_eq-Decides first.0 s.invocation).0 e) (ap (named id) (sym there) ∙ later id)
    by_test false e there later =
        let first = (head_of t (grouped rows)).first in
        let others = (head_of t (grouped rows)).others in
        let put : put_first s (grouped (t ∷ rows)) ≡ (s.invocation, s.completion ∷ []) ∷ first ∷ others =
        ap (put_first s) there ∙ ap (λ (b : Bool). if b then (first.0, s.completion ∷ first.1) ∷ others else (s.invocation, s.completion ∷ []) ∷ first ∷ others) e in
        let before : text_cmp s.invocation t.invocation ≡ Less = elim (rows_up_to s t up.0.0) [
          | inl less ↦ less
          | inr same ↦ absurd (true≢false (sym ((bytes_eq-Decides first.0 s.invocation).1 ((head_of t (grouped rows)).named ∙ sym same)) ∙ e))
        ] in
        ap (named id) put
        ∙ begins s id (first ∷ others) (t ∷ rows) (none_behind s.invocation t rows before up.1.0) (ap (named id) (sym there) ∙ later id)
