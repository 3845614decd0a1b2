-- A feed: the store hands out one part of the input after another, and the attempt is fed each. Lists of parts have the last one first.
use Rattle.std.specs.Prelude.{◌≡◌, ◌≢◌, ◌⊎◌, ℕ, ◌-◌, List, [], ◌∷◌, ◌++◌, length, Option, Some, None, Ok, Err}
use Rattle.journal_model.specs.Notification.{Bytes, Text}
use Rattle.store_refusals.specs.declared.refusal.Refusal.{Refusal}
use Rattle.vm_attempt.specs.declared.attempt.Attempt.{Attempt}
use Rattle.vm_attempt.specs.Attempt as attempts
use Rattle.store_calls.specs.AbstractStore.{Standing}
use Rattle.store_calls.specs.Calls.{HandsOut}
use Rattle.schedule_model.specs.declared.held.HeldAttempt.{HeldAttempt}

-- all parts, one behind the other
abbrev pub given_in : List Bytes → Bytes
given_in [] = []
given_in (last ∷ earlier) = given_in earlier ++ last

-- A further part is asked for: none was yet, or the last one was not empty and together they are not so many bytes.
abbrev pub IsAskedAgain : (count : ℕ) → List Bytes → Type 0
IsAskedAgain count [] = Unit {0}
IsAskedAgain count (last ∷ earlier) = (last ≢ []) × (length (given_in (last ∷ earlier)) ≢ count)

-- No further part is: the last one was empty, which says that nothing is left, or together they are so many bytes.
abbrev pub IsAskedFor : (count : ℕ) → List Bytes → Type 0
IsAskedFor count [] = ⊥
IsAskedFor count (last ∷ earlier) = (last ≡ []) ⊎ (length (given_in (last ∷ earlier)) ≡ count)

-- the store hands out one part after another, each of the bytes that are still asked for
abbrev pub HandsOutEach : Text → (attempt count : ℕ) → List Bytes → Standing → Standing → Type 0
HandsOutEach id attempt count [] old new = new ≡ old
HandsOutEach id attempt count (last ∷ earlier) old new =
    (between : Standing) × HandsOutEach id attempt count earlier old between × IsAskedAgain count earlier
    × HandsOut id attempt (count - length (given_in earlier)) (Ok last) between new

-- Why it hands out no further part: all is handed out that is asked for; or it refuses the next part, behind bytes that it has handed out.
abbrev pub StopsHandingOut : Text → (attempt count : ℕ) → List Bytes → Option Refusal → Standing → Standing → Type 0
StopsHandingOut id attempt count parts None old new = IsAskedFor count parts × (new ≡ old)
StopsHandingOut id attempt count parts (Some why) old new =
    (given_in parts ≢ []) × IsAskedAgain count parts × HandsOut id attempt (count - length (given_in parts)) (Err why) old new

module _ {H : Type 0} where
  -- the attempt is fed one part after another
  abbrev pub FeedsEach : List Bytes → (before after : Attempt H) → Type 0
  FeedsEach [] before after = after ≡ before
  FeedsEach (last ∷ earlier) before after = (between : Attempt H) × FeedsEach earlier before between × attempts.Feeds last between after

  -- these parts of its input go from the store to an attempt that is held
  abbrev pub FeedsParts : (count : ℕ) → List Bytes → Option Refusal → HeldAttempt H → (old new : Standing) → Attempt H → Type 0
  FeedsParts count parts why one old new changed =
      (between : Standing) × HandsOutEach one.invocation one.number count parts old between × FeedsEach parts one.attempt changed
      × StopsHandingOut one.invocation one.number count parts why between new
