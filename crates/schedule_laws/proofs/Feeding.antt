-- The parts that a feed hands out are, one behind the other, a beginning of what was left.
use Rattle.std.proofs.Common.{◌≡◌, refl, sym, ap, ◌∙◌, ℕ, zero, suc, ◌≤◌, ◌-◌, arith, List, [], ◌∷◌, ◌++◌, append_assoc, length, length-append, take, ◌⊎◌, inl, inr}
use Rattle.journal_model.specs.Notification.{Bytes, Text}
use Rattle.journal_model.specs.Event.{Event}
use Rattle.journal_model.specs.Attempt.{input_left}
use Rattle.due_laws.proofs.InputParts.{part_is_handed}
use Rattle.store_calls.specs.AbstractStore.{Standing}
use Rattle.schedule_model.specs.InputFeed.{given_in, IsAskedFor, HandsOutEach}

-- bytes in front of others are the first ones, if they are so many, or nothing stands behind them
first_taken : (n : ℕ) (xs ys : Bytes) → length xs ≤ n → (length xs ≡ n) ⊎ (ys ≡ []) → take n (xs ++ ys) ≡ xs
first_taken zero [] ys within all = refl
first_taken zero (x ∷ xs) ys within all = absurd (omega (arith, within))
first_taken (suc n) [] [] within all = refl
first_taken (suc n) [] (y ∷ ys) within (inl e) = absurd (omega (arith, e))
first_taken (suc n) [] (y ∷ ys) within (inr e) = absurd (let never : ◌≡◌ {A = Bytes} (y ∷ ys) [] = e in cc)
first_taken (suc n) (x ∷ xs) ys within (inl e) = ap (λ (rest : Bytes). x ∷ rest) (first_taken n xs ys (omega (arith, within)) (inl (let same : length xs ≡ n = omega (arith, e) in same)))
first_taken (suc n) (x ∷ xs) ys within (inr e) = ap (λ (rest : Bytes). x ∷ rest) (first_taken n xs ys (omega (arith, within)) (inr e))

none_behind : (xs ys : Bytes) → xs ++ ys ≡ [] → ys ≡ []
none_behind [] ys e = e
none_behind (x ∷ xs) ys e = absurd (let never : ◌≡◌ {A = Bytes} (x ∷ (xs ++ ys)) [] = e in cc)

module _ (id : Text) (n count : ℕ) where
  -- not more than were asked for
  pub parts_within : (parts : List Bytes) (s t : Standing) → HandsOutEach id n count parts s t → length (given_in parts) ≤ count
  parts_within [] s t it = omega arith
  parts_within (last ∷ earlier) s t it =
      let before = parts_within earlier s it.0 it.1 in
      let few = it.3.0.few in
      let sum = length-append (given_in earlier) last in
      omega (arith, before, few, sum)

  -- with what is left then, all that was left
  pub parts_left : (parts : List Bytes) (s t : Standing) → HandsOutEach id n count parts s t → given_in parts ++ input_left t.events id ≡ input_left s.events id
  parts_left [] s t it = ap (λ (m : Standing). input_left m.events id) it
  parts_left (last ∷ earlier) s t it =
      append_assoc (given_in earlier) last (input_left t.events id)
      ∙ ap (λ (rest : Bytes). given_in earlier ++ rest)
      (ap (λ (events : List Event). last ++ input_left events id) it.3.1.events ∙ (part_is_handed it.0.events id n (count - length (given_in earlier)) last it.3.0).left)
      ∙ parts_left earlier s it.0 it.1

  -- where all is handed out that was asked for, as many as there are, up to that
  pub parts_taken : (parts : List Bytes) (s t : Standing) → HandsOutEach id n count parts s t → IsAskedFor count parts → given_in parts ≡ take count (input_left s.events id)
  parts_taken [] s t it all = absurd all
  parts_taken (last ∷ earlier) s t it all =
      sym (first_taken count (given_in (last ∷ earlier)) (input_left t.events id) (parts_within (last ∷ earlier) s t it) (by_end all)) ∙ ap (take count) (parts_left (last ∷ earlier) s t it)
    where
      -- nothing more was asked for, or nothing is left
      by_none : last ≡ [] → (count - length (given_in earlier) ≡ 0) ⊎ (input_left it.0.events id ≡ []) → (length (given_in (last ∷ earlier)) ≡ count) ⊎ (input_left t.events id ≡ [])
      by_none none (inl e) =
          let before = parts_within earlier s it.0 it.1 in
          let sum = length-append (given_in earlier) last in
          let nothing = ap (λ (bytes : Bytes). length bytes) none in
          inl (let same : length (given_in earlier ++ last) ≡ count = omega (arith, e, before, sum, nothing) in same)
      by_none none (inr e) =
          let same = ap (λ (events : List Event). last ++ input_left events id) it.3.1.events ∙ (part_is_handed it.0.events id n (count - length (given_in earlier)) last it.3.0).left in
          inr (none_behind last (input_left t.events id) (same ∙ e))

      by_end : (last ≡ []) ⊎ (length (given_in (last ∷ earlier)) ≡ count) → (length (given_in (last ∷ earlier)) ≡ count) ⊎ (input_left t.events id ≡ [])
      by_end (inl none) = by_none none (it.3.0.none none)
      by_end (inr full) = inl full
