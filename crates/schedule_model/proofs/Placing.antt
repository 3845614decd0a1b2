-- The place of the first attempt of an invocation and number: with one more behind the others, and with another attempt in its place.
use Rattle.std.proofs.Common.{◌≡◌, ℕ, suc, ◌+◌, ◌≤◌, cond, Bool, true, false, true≢false, not, eqb, ltb, List, [], ◌∷◌, ◌++◌, length, length-append, Option, Some, None, Result, Ok, Err, OnOk, is_err, get_or, sym, ap, ap₂, subst, ◌∙◌, arith}
use Rattle.std.proofs.lemmas.Grind.{common_steps}
use Rattle.std.proofs.lemmas.List.Folds.{position_or_len_push}
use Rattle.std.specs.List.{position, position_or_len}
use Rattle.std.specs.Prelude.{if◌then◌else◌, slice_set}
use Rattle.vm_attempt.specs.declared.attempt.Attempt.{Attempt}
use Rattle.schedule_model.specs.declared.held.HeldAttempt.{HeldAttempt}
use Rattle.schedule_model.specs.First.{with_first, IsFirstAt}
use Rattle.schedule_model.specs.HeldAttempts.{is_held, held_of, with_attempt}
use Rattle.schedule_model.proofs.Firsts.{first_found, first_missing, first_at, with_first_at}
use Rattle.schedule_model.proofs.Holding.{held_is}
use Rattle.schedule_model.specs.declared.places.AttemptPlaces.{AttemptPlaces}
use Rattle.schedule_model.specs.Places.{place_kept, place_in, Notes}
use Rattle.schedule_model.specs.AttemptIndex.{IsIndexed}
use Rattle.schedule_model.specs.Lends.{held_as}

-- what holds where a call did not fail
pub ok_there : {A E P : Type 0} (result : Result A E) → is_err result ≡ false → OnOk result P → P
ok_there (Ok answer) went it = it
ok_there (Err why) went it = absurd (true≢false went)

-- the place, from where it would be and how many there are
abbrev at_place : ℕ → ℕ → Option ℕ
at_place found len = cond (ltb found len) (Some found) None

one_more : (passes : Bool) (found len : ℕ) → found ≤ len
    → at_place (cond (eqb found len) (len + cond passes 0 1) found) (len + 1) ≡ (if passes then place_kept (at_place found len) len else at_place found len)
one_more true found len le = grind (arith, common_steps)
one_more false found len le = grind (arith, common_steps)

module _ {A : Type 0} (test : A → Bool) where
  within : (xs : List A) → position_or_len test xs ≤ length xs
  within [] = omega arith
  within (x ∷ xs) = by_test (test x) (position_or_len test xs) (length xs) (within xs)
    where
      by_test : (b : Bool) (found len : ℕ) → found ≤ len → cond (not b) (1 + found) 0 ≤ suc len
      by_test true found len le = omega arith
      by_test false found len le = omega (arith, le)

  pub position_push : (xs : List A) (x : A) → position test (xs ++ x ∷ []) ≡ (if test x then place_kept (position test xs) (length xs) else position test xs)
  position_push xs x =
      ap₂ at_place (position_or_len_push test xs x) (length-append xs (x ∷ [])) ∙ one_more (test x) (position_or_len test xs) (length xs) (within xs)

module _ {H : Type 0} where
  -- one more is noted where it stands
  pub indexed_push : (old new : AttemptPlaces) (before held after : List (HeldAttempt H)) (one : HeldAttempt H) (place : ℕ) → IsIndexed old before → held ≡ before → place ≡ length held
      → Notes one.invocation one.number place old new → after ≡ held ++ one ∷ [] → IsIndexed new after
  indexed_push old new before held after one place indexed same at notes pushed id n =
      notes id n
      ∙ ap₂ (λ (o : Option ℕ) (k : ℕ). if is_held id n one then place_kept o k else o) (indexed id n ∙ ap (position (is_held id n)) (sym same)) at
      ∙ sym (position_push (is_held id n) held one)
      ∙ ap (position (is_held id n)) (sym pushed)

  -- nothing was noted
  pub indexed_still : (old new : AttemptPlaces) (before after : List (HeldAttempt H)) → IsIndexed old before → ((id : List ℕ) (n : ℕ) → place_in new id n ≡ place_in old id n)
      → after ≡ before → IsIndexed new after
  indexed_still old new before after indexed still same id n = still id n ∙ indexed id n ∙ ap (position (is_held id n)) (sym same)

  -- what was looked up is where the first one is
  is_place : (places : AttemptPlaces) (held : List (HeldAttempt H)) (id : List ℕ) (n : ℕ) (told answer : Option ℕ) → IsIndexed places held → told ≡ place_in places id n → told ≡ answer
      → position (is_held id n) held ≡ answer
  is_place places held id n told answer indexed looked is = sym (indexed id n) ∙ sym looked ∙ is

  -- none is found
  pub found_none : (places : AttemptPlaces) (held : List (HeldAttempt H)) (id : List ℕ) (n : ℕ) (told : Option ℕ) → IsIndexed places held → told ≡ place_in places id n → told ≡ None
      → None ≡ held_of held id n
  found_none places held id n told indexed looked none = sym (first_missing (is_held id n) held (is_place places held id n told None indexed looked none))

  module _ (places : AttemptPlaces) (held : List (HeldAttempt H)) (id : List ℕ) (n : ℕ) (told : Option ℕ) (indexed : IsIndexed places held) (looked : told ≡ place_in places id n)
      (place : ℕ) (is : told ≡ Some place) (one : HeldAttempt H) (read : one ≡ get_or held place one) where
    is_first : IsFirstAt (is_held id n) held place one
    is_first =
        let f = first_found (is_held id n) held place (is_place places held id n told (Some place) indexed looked is) in
        let same : one ≡ f.0 = read ∙ f.1.at one in
        subst (λ (x : HeldAttempt H). IsFirstAt (is_held id n) held place x) (sym same) f.1

    named : (attempt : Attempt H) → record one { attempt = attempt } ≡ held_as id n attempt
    named attempt =
        let parts = held_is id n one is_first.passes in
        ap₂ (λ (i : List ℕ) (m : ℕ). held_as i m attempt) parts.0 parts.1

    -- the first one is found
    pub found_first : Some (held_as id n one.attempt) ≡ held_of held id n
    found_first = ap (λ (x : HeldAttempt H). Some x) (sym (named one.attempt)) ∙ sym (first_at (is_held id n) held place one is_first)

    -- and written
    pub written : (attempt : Attempt H) → slice_set held place (record one { attempt = attempt }) ≡ with_attempt held (held_as id n attempt) attempt
    written attempt = with_first_at (is_held id n) held place one (record one { attempt = attempt }) is_first ∙ ap (with_first (is_held id n) held) (named attempt)
