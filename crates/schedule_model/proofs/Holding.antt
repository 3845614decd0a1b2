-- The attempts that are held: by their invocation and number.
use Rattle.std.proofs.Common.{◌≡◌, ◌≢◌, ℕ, ◌==◌, Bool, true, false, bytes_eq, List, [], ◌∷◌, Some, None, refl, sym, subst, ◌∙◌, inl, inr}
use Rattle.std.proofs.lemmas.Bool.{and_from, and_parts}
use Rattle.std.proofs.lemmas.Bool.Decides.{Decides-eqb}
use Rattle.std.proofs.lemmas.Slice.Eq.{bytes_eq-Decides}
use Rattle.schedule_model.specs.declared.held.HeldAttempt.{HeldAttempt}
use Rattle.schedule_model.specs.First.{with_first}
use Rattle.schedule_model.specs.HeldAttempts.{is_held, held_of}
use Rattle.schedule_model.proofs.Firsts.{true_or_false, first_with, first_of_other}

pub some_is : {A : Type 0} (x y : A) → Some x ≡ Some y → x ≡ y
some_is x y e = cc

pub some_none : {A : Type 0} {x : A} {B : Type 0} → Some x ≡ None → B
some_none e = absurd cc

pub same_bytes : (a b : List ℕ) → bytes_eq a b ≡ true → a ≡ b
same_bytes a b e = (bytes_eq-Decides a b).0 e

pub bytes_are : (a b : List ℕ) → a ≡ b → bytes_eq a b ≡ true
bytes_are a b e = (bytes_eq-Decides a b).1 e

pub not_true : (b : Bool) → (b ≡ true → ⊥) → b ≡ false
not_true true never = absurd (never refl)
not_true false never = refl

module _ {H : Type 0} where
  pub held_is : (id : List ℕ) (n : ℕ) (h : HeldAttempt H) → is_held id n h ≡ true → (h.invocation ≡ id) × (h.number ≡ n)
  held_is id n h e =
      let parts = and_parts (bytes_eq h.invocation id) (h.number == n) e in
      (same_bytes h.invocation id parts.0, (Decides-eqb h.number n).0 parts.1)

  pub is_held_by : (id : List ℕ) (n : ℕ) (h : HeldAttempt H) → h.invocation ≡ id → h.number ≡ n → is_held id n h ≡ true
  is_held_by id n h p q = and_from (bytes_eq h.invocation id) (h.number == n) (bytes_are h.invocation id p) ((Decides-eqb h.number n).1 q)

  pub not_held_number : (id : List ℕ) (n : ℕ) (h : HeldAttempt H) → h.number ≢ n → is_held id n h ≡ false
  not_held_number id n h other = not_true (is_held id n h) (λ e. other (held_is id n h e).1)

  pub not_held_invocation : (id : List ℕ) (n : ℕ) (h : HeldAttempt H) → h.invocation ≢ id → is_held id n h ≡ false
  not_held_invocation id n h other = not_true (is_held id n h) (λ e. other (held_is id n h e).0)

  pub found_is : (id : List ℕ) (n : ℕ) (held : List (HeldAttempt H)) (h : HeldAttempt H) → held_of held id n ≡ Some h → is_held id n h ≡ true
  found_is id n [] h e = some_none (sym e)
  found_is id n (g ∷ held) h e =
      elim (true_or_false (is_held id n g)) [
        | inl q ↦ let f : Some g ≡ Some h = rw q at e in subst (λ (k : HeldAttempt H). is_held id n k ≡ true) (some_is g h f) q
        | inr q ↦ found_is id n held h (rw q at e)
      ]

  -- the attempt that was found is replaced by one of the same invocation and number
  pub held_with : (id : List ℕ) (n : ℕ) (held : List (HeldAttempt H)) (h new : HeldAttempt H) → held_of held id n ≡ Some h → new.invocation ≡ h.invocation → new.number ≡ h.number
      → held_of (with_first (is_held id n) held new) id n ≡ Some new
  held_with id n held h new e i m =
      let is = held_is id n h (found_is id n held h e) in
      first_with (is_held id n) held h new e (is_held_by id n new (i ∙ is.0) (m ∙ is.1))

  -- others stay
  pub held_other_number : (id : List ℕ) (n m : ℕ) (held : List (HeldAttempt H)) (h new : HeldAttempt H) → held_of held id n ≡ Some h → new.number ≡ h.number → m ≢ n
      → held_of (with_first (is_held id n) held new) id m ≡ held_of held id m
  held_other_number id n m held h new e s other =
      let is = held_is id n h (found_is id n held h e) in
      first_of_other (is_held id n) (is_held id m) (λ z q. not_held_number id m z (λ r. other (sym r ∙ (held_is id n z q).1))) held new
      (not_held_number id m new (λ r. other (sym r ∙ s ∙ is.1)))

  pub held_other_invocation : (id other : List ℕ) (n m : ℕ) (held : List (HeldAttempt H)) (h new : HeldAttempt H) → held_of held id n ≡ Some h → new.invocation ≡ h.invocation → other ≢ id
      → held_of (with_first (is_held id n) held new) other m ≡ held_of held other m
  held_other_invocation id other n m held h new e s apart =
      let is = held_is id n h (found_is id n held h e) in
      first_of_other (is_held id n) (is_held other m) (λ z q. not_held_invocation other m z (λ r. apart (sym r ∙ (held_is id n z q).0))) held new
      (not_held_invocation other m new (λ r. apart (sym r ∙ s ∙ is.0)))
