-- Children as the entries of a map.
use Rattle.std.proofs.Common.{◌≡◌, refl, sym, ap, ◌∙◌, ℕ, ◌==◌, nat_eq, cond, Bool, true, false, if◌then◌else◌, ◌||◌, List, [], ◌∷◌, ◌++◌, map, Option, Some, None, is_some, option_map, arith, eqb-true}
use Rattle.std.specs.List.{list_any, AllByRecursion, IsDistinct}
use Rattle.std.specs.Map.{lookup, set_value, keys_of}
use Rattle.indexmap.specs.IndexMap.{insert_entry}
use Rattle.journal_model.specs.declared.notification.NotificationId.TheVariants.{CompletionId}
use Rattle.journal_model.specs.Notification.{Text}
use Rattle.journal_model.specs.declared.value.Value.{Value}
use Rattle.attempt_model.specs.Children.{Child, new_child, child_with_value}
use Rattle.vm_awaits.specs.Children.{child_told, has_child, with_child, AreMade}

abbrev Entries : Type 0
Entries = List (ℕ × Option Text)

pub has_told : (n : ℕ) (entries : Entries) → is_some (lookup (nat_eq n) entries) ≡ has_child n (map child_told entries)
has_told n [] = refl
has_told n (entry ∷ entries) = by_test (nat_eq n entry.0) (has_told n entries)
  where
    by_test : (b : Bool) → is_some (lookup (nat_eq n) entries) ≡ has_child n (map child_told entries)
        → is_some (cond b (Some entry.1) (lookup (nat_eq n) entries)) ≡ (b || has_child n (map child_told entries))
    by_test true others = refl
    by_test false others = others

pub put_told : (n : ℕ) (entries : Entries) → map child_told (insert_entry nat_eq entries n None) ≡ with_child n (map child_told entries)
put_told n [] = refl
put_told n (entry ∷ entries) = by_test (nat_eq n entry.0) (put_told n entries)
  where
    by_test : (b : Bool) → map child_told (insert_entry nat_eq entries n None) ≡ with_child n (map child_told entries)
        → map child_told (if b then (entry.0, None) ∷ entries else entry ∷ insert_entry nat_eq entries n None)
        ≡ (if b then new_child entry.0 ∷ map child_told entries else child_told entry ∷ with_child n (map child_told entries))
    by_test true others = refl
    by_test false others = ap (λ (cs : List Child). child_told entry ∷ cs) others

-- ---- an id that was taken

abbrev taken : ℕ → Text → Child → Child
taken n id = child_with_value (Some (CompletionId n)) (Value.InvocationId id)

-- a child of another completion stays
other_stays : (n : ℕ) (id : Text) (child : Child) → nat_eq n child.completion ≡ false → taken n id child ≡ child
other_stays n id child apart = ap (λ (b : Bool). if b then record { completion = child.completion; taken = Some (Value.InvocationId id) } else child) apart

others_stay : (n k : ℕ) (id : Text) (entries : Entries) → nat_eq n k ≡ true → AllByRecursion (λ m. nat_eq k m ≡ false) (keys_of entries) → map child_told entries ≡ map (taken n id) (map child_told entries)
others_stay n k id [] same apart = refl
others_stay n k id (entry ∷ entries) same apart =
    λ i. sym (other_stays n id (child_told entry) (ap (λ (m : ℕ). nat_eq m entry.0) (eqb-true n k same) ∙ apart.0)) i ∷ others_stay n k id entries same apart.1 i

pub kept_told : (n : ℕ) (id : Text) (entries : Entries) → IsDistinct nat_eq (keys_of entries) → map child_told (set_value (nat_eq n) entries (Some id)) ≡ map (taken n id) (map child_told entries)
unfolding IsDistinct
kept_told n id [] distinct = refl
kept_told n id (entry ∷ entries) distinct = by_test (nat_eq n entry.0) refl (kept_told n id entries distinct.1)
  where
    by_test : (b : Bool) → nat_eq n entry.0 ≡ b → map child_told (set_value (nat_eq n) entries (Some id)) ≡ map (taken n id) (map child_told entries)
        → map child_told (cond b ((entry.0, Some id) ∷ entries) (entry ∷ set_value (nat_eq n) entries (Some id)))
        ≡ (if b then record { completion = entry.0; taken = Some (Value.InvocationId id) } else child_told entry) ∷ map (taken n id) (map child_told entries)
    by_test true same others = ap (λ (cs : List Child). record { completion = entry.0; taken = Some (Value.InvocationId id) } ∷ cs) (others_stay n entry.0 id entries same distinct.0)
    by_test false same others = ap (λ (cs : List Child). child_told entry ∷ cs) others

-- where there is no child of this completion, all stay
pub none_kept : (n : ℕ) (id : Text) (entries : Entries) → lookup (nat_eq n) entries ≡ None → map child_told entries ≡ map (taken n id) (map child_told entries)
none_kept n id [] none = refl
none_kept n id (entry ∷ entries) none = by_test (nat_eq n entry.0) refl none (none_kept n id entries)
  where
    by_test : (b : Bool) → nat_eq n entry.0 ≡ b → cond b (Some entry.1) (lookup (nat_eq n) entries) ≡ None → (lookup (nat_eq n) entries ≡ None → map child_told entries ≡ map (taken n id) (map child_told entries))
        → map child_told (entry ∷ entries) ≡ (if b then record { completion = entry.0; taken = Some (Value.InvocationId id) } else child_told entry) ∷ map (taken n id) (map child_told entries)
    by_test true same none others = absurd cc
    by_test false same none others = ap (λ (cs : List Child). child_told entry ∷ cs) (others none)

-- ---- a new completion

-- a child of a completion that is behind those of all others comes last
pub new_comes_last : (n : ℕ) (children : List Child) → AreMade n children → with_child n children ≡ children ++ new_child n ∷ []
new_comes_last n [] made = refl
new_comes_last n (child ∷ children) made = by_test (n == child.completion) refl (new_comes_last n children made.1)
  where
    by_test : (b : Bool) → (n == child.completion) ≡ b → with_child n children ≡ children ++ new_child n ∷ []
        → (if b then new_child child.completion ∷ children else child ∷ with_child n children) ≡ child ∷ children ++ new_child n ∷ []
    by_test true same others = let wrong : n ≡ child.completion = eqb-true n child.completion same in absurd (omega (arith, wrong, made.0))
    by_test false same others = ap (λ (cs : List Child). child ∷ cs) others
