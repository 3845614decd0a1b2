-- What a feed adds to the accepted events, a hand-out for each of its parts, and how many bytes it tells.
use Rattle.std.proofs.Common.{◌≡◌, ◌≢◌, refl, sym, ap, ◌∙◌, ℕ, ◌<◌, arith, sum, List, [], ◌∷◌, ◌++◌, length, length-append, map, Option, Some, None}
use Rattle.std.proofs.lemmas.List.Sums.{sum_by-cons}
use Rattle.journal_model.specs.Notification.{Bytes, Text}
use Rattle.journal_model.specs.Event.{Event}
use Rattle.journal_model.specs.Attempt.{input_left}
use Rattle.store_refusals.specs.declared.refusal.Refusal.{Refusal}
use Rattle.store_calls.specs.AbstractStore.{Standing}
use Rattle.schedule_laws.specs.Schedules.{given_in, HandsOutEach, IsAskedAgain, StopsHandingOut}
use Rattle.schedule_laws.proofs.Feeding.{parts_left, parts_taken, parts_within}
use Rattle.durable_schedule.specs.Front.{AreFed}

module _ (id : Text) (n count : ℕ) where
  pub parts_events : (parts : List Bytes) (s t : Standing) → HandsOutEach id n count parts s t → t.events ≡ map (Event.Feed id n) (map length parts) ++ s.events
  parts_events [] s t it = ap (λ (m : Standing). m.events) it
  parts_events (last ∷ earlier) s t it = it.3.1.events ∙ ap (λ (events : List Event). Event.Feed id n (length last) ∷ events) (parts_events earlier s it.0 it.1)

  -- then none is handed out
  pub stopped_events : (parts : List Bytes) (why : Option Refusal) (s t : Standing) → StopsHandingOut id n count parts why s t → t.events ≡ s.events
  stopped_events parts None s t it = ap (λ (m : Standing). m.events) it.1
  stopped_events parts (Some why) s t it = it.2.stays.events

  -- one part was at least
  pub some_parts : (parts : List Bytes) (why : Option Refusal) (s t : Standing) → StopsHandingOut id n count parts why s t → map length parts ≢ []
  some_parts [] None s t it none = absurd it.0
  some_parts [] (Some why) s t it none = absurd (it.0 refl)
  some_parts (last ∷ earlier) why s t it none = absurd cc

pub sum_given : (parts : List Bytes) → sum (map length parts) ≡ length (given_in parts)
sum_given [] = refl
sum_given (last ∷ earlier) =
    let first = sum_by-cons (λ (k : ℕ). k) (length last) (map length earlier) in
    let before = sum_given earlier in
    let all = length-append (given_in earlier) last in
    omega (arith, first, before, all)

no_bytes : (bytes : Bytes) → length bytes ≡ 0 → bytes ≡ []
no_bytes [] none = refl
no_bytes (b ∷ bytes) none = absurd (omega (arith, none))

-- where a further part is asked for, not so many were handed out
not_all : (id : Text) (n count : ℕ) (parts : List Bytes) (s between : Standing) → HandsOutEach id n count parts s between → given_in parts ≢ [] → IsAskedAgain count parts → length (given_in parts) < count
not_all id n count [] s between hands some again = absurd (some refl)
not_all id n count (last ∷ earlier) s between hands some again =
    let within = parts_within id n count (last ∷ earlier) s between hands in
    omega (arith, within, again.1)

-- as many as are left, up to those that are asked for; or one at least, of those that are left, and fewer than those
pub are_fed : (id : Text) (n count : ℕ) (parts : List Bytes) (why : Option Refusal) (bytes : ℕ) → bytes ≡ length (given_in parts) → (s between t : Standing)
    → HandsOutEach id n count parts s between → StopsHandingOut id n count parts why between t → AreFed count (input_left s.events id) bytes why
are_fed id n count parts None bytes told s between t hands stops = told ∙ ap (λ (given : Bytes). length given) (parts_taken id n count parts s between hands stops.0)
are_fed id n count parts (Some why) bytes told s between t hands stops =
    let few = not_all id n count parts s between hands stops.0 stops.1 in
    let all = ap (λ (given : Bytes). length given) (parts_left id n count parts s between hands) in
    let sum = length-append (given_in parts) (input_left between.events id) in
    (λ zero. stops.0 (no_bytes (given_in parts) (sym told ∙ zero)), omega (arith, told, few), omega (arith, told, all, sum))
