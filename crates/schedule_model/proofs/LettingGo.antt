-- Attempts that are let go of: where those stand that are left, and which are still held.
use Rattle.std.proofs.Common.{◌≡◌, refl, ap, ap₂, ◌∙◌, ℕ, Bool, true, false, not, cond, List, [], ◌∷◌, ◌++◌, append-nil, Option, Some, None, ◌⊎◌, inl, inr}
use Rattle.std.proofs.lemmas.List.Elements.{filter-append}
use Rattle.std.specs.List.{find}
use Rattle.std.specs.Prelude.{if◌then◌else◌}
use Rattle.journal_model.specs.Notification.{Text}
use Rattle.schedule_model.specs.declared.held.HeldAttempt.{HeldAttempt}
use Rattle.schedule_model.specs.HeldAttempts.{is_held, held_of}
use Rattle.schedule_model.specs.LettingGo.{AreLetGo, goes, left_of}
use Rattle.schedule_model.proofs.Firsts.{true_or_false}
use Rattle.schedule_model.proofs.Holding.{held_is}

-- ---- the first that passes, among those that are left

module _ {A : Type 0} (test : A → Bool) (x : A) (left all : List A) where
  -- one that does not pass makes no difference, whether it is left or not
  passed_over : (stays : Bool) → test x ≡ false → find test (cond stays (x ∷ left) left) ≡ find test left
  passed_over true e = rw e refl
  passed_over false e = refl

  -- one that passes is found, unless it goes
  found_left : (gone : Bool) → test x ≡ true → find test left ≡ (if gone then None else find test all) → find test (cond (not gone) (x ∷ left) left) ≡ (if gone then None else find test (x ∷ all))
  found_left true e rest = rest
  found_left false e rest = rw e refl

  missed : (gone : Bool) → test x ≡ false → (if gone then None else find test all) ≡ (if gone then None else find test (x ∷ all))
  missed true e = refl
  missed false e = rw e refl

neither : {A : Type 0} (gone : Bool) → ◌≡◌ {A = Option A} None (if gone then None else None)
neither true = refl
neither false = refl

module _ {H : Type 0} (ids : List Text) (number : Option ℕ) where
  abbrev stays : HeldAttempt H → Bool
  stays one = not (goes ids number one.invocation one.number)

  abbrev left : List (HeldAttempt H) → List (HeldAttempt H)
  left held = left_of ids number held

  still_held : (held : List (HeldAttempt H)) (id : Text) (n : ℕ) → held_of (left held) id n ≡ (if goes ids number id n then None else held_of held id n)
  still_held [] id n = neither (goes ids number id n)
  still_held (one ∷ held) id n = by_test (true_or_false (is_held id n one)) (still_held held id n)
    where
      own : held_of (left held) id n ≡ (if goes ids number id n then None else held_of held id n) → is_held id n one ≡ true
          → held_of (left (one ∷ held)) id n ≡ (if goes ids number id n then None else held_of (one ∷ held) id n)
      own rest is =
          let parts = held_is id n one is in
          let same : goes ids number one.invocation one.number ≡ goes ids number id n = ap₂ (λ (i : Text) (m : ℕ). goes ids number i m) parts.0 parts.1 in
          ap (λ (gone : Bool). find (is_held id n) (cond (not gone) (one ∷ left held) (left held))) same
          ∙ found_left (is_held id n) one (left held) held (goes ids number id n) is rest

      other : held_of (left held) id n ≡ (if goes ids number id n then None else held_of held id n) → is_held id n one ≡ false
          → held_of (left (one ∷ held)) id n ≡ (if goes ids number id n then None else held_of (one ∷ held) id n)
      other rest far = passed_over (is_held id n) one (left held) held (stays one) far ∙ rest ∙ missed (is_held id n) one (left held) held (goes ids number id n) far

      by_test : (is_held id n one ≡ true) ⊎ (is_held id n one ≡ false) → held_of (left held) id n ≡ (if goes ids number id n then None else held_of held id n)
          → held_of (left (one ∷ held)) id n ≡ (if goes ids number id n then None else held_of (one ∷ held) id n)
      by_test (inl is) rest = own rest is
      by_test (inr far) rest = other rest far

  -- ---- one more

  pub left_more : (held : List (HeldAttempt H)) (one : HeldAttempt H) → goes ids number one.invocation one.number ≡ false → left (held ++ one ∷ []) ≡ left held ++ one ∷ []
  left_more held one e = filter-append stays held (one ∷ []) ∙ ap (λ (gone : Bool). left held ++ cond (not gone) (one ∷ []) []) e

  pub left_less : (held : List (HeldAttempt H)) (one : HeldAttempt H) → goes ids number one.invocation one.number ≡ true → left (held ++ one ∷ []) ≡ left held
  left_less held one e = filter-append stays held (one ∷ []) ∙ ap (λ (gone : Bool). left held ++ cond (not gone) (one ∷ []) []) e ∙ append-nil (left held)

-- the law
pub are_let_go : {H : Type 0} → AreLetGo H
are_let_go ids number held id n = still_held ids number held id n
