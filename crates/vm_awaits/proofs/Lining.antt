-- The one that stands first in line is looked at.
use Rattle.std.proofs.Common.{◌≡◌, ◌<◌, ◌+◌, ℕ, Bool, true, false, List, [], ◌∷◌, length, Option, Some, None, Result, Ok, Err, ltb, count_by, IfOk, OnOk, OnErr, arith, refl, sym, ap, ◌∙◌}
use Rattle.std.proofs.lemmas.Bool.{false≢true}
use Rattle.std.proofs.lemmas.Grind.{common_steps}
use Rattle.std.specs.List.{list_any}
use Rattle.std.specs.declared.alloc.AllocError.{AllocError}
use Rattle.journal_model.specs.Notification.{Arrival}
use Rattle.journal_model.specs.declared.options.SignalDelivery.{SignalDelivery}
use Rattle.attempt_model.specs.Results.{Ready, Slots, ready_after}
use Rattle.vm_awaits.specs.Calls.{first_in, after_look, LooksAtOne}
use Rattle.vm_awaits.proofs.Seen.{seen, seen_same, looked_one}

-- one that passes a test is counted
pub counted : {X : Type 0} (test : X → Bool) (xs : List X) → ltb 0 (count_by test xs) ≡ list_any test xs
counted test [] = refl
counted test (x ∷ xs) = grind (arith, common_steps, counted test xs)

pub looks : (delivery : SignalDelivery) (queue behind : List Arrival) (ready ready' : Ready) (arrival : Arrival) → queue ≡ arrival ∷ behind → ready' ≡ ready_after delivery ready arrival
    → LooksAtOne delivery true queue ready behind ready'
looks delivery queue behind ready ready' arrival front is = rw front (refl, refl, is)

module _ (delivery : SignalDelivery) (looked : Bool) where
  -- what was looked at, where one stood there
  pub record Looked (queue : List Arrival) (ready : Ready) (queue' : List Arrival) (ready' : Ready) : Type 0 where
    pub arrival : Arrival
    pub behind : List Arrival
    pub front : queue ≡ arrival ∷ behind
    pub left : queue' ≡ behind
    pub is : ready' ≡ ready_after delivery ready arrival

  pub record Unlooked (queue : List Arrival) (ready : Ready) (queue' : List Arrival) (ready' : Ready) : Type 0 where
    pub none : queue ≡ []
    pub left : queue' ≡ []
    pub is : ready' ≡ ready

  pub one_stood : (queue : List Arrival) (ready : Ready) (queue' : List Arrival) (ready' : Ready) → LooksAtOne delivery looked queue ready queue' ready' → looked ≡ true → Looked queue ready queue' ready'
  one_stood [] ready queue' ready' told stood = absurd (false≢true (sym told.0 ∙ stood))
  one_stood (arrival ∷ behind) ready queue' ready' told stood = record { arrival = arrival; behind = behind; front = refl; left = told.1; is = told.2 }

  pub none_stood : (queue : List Arrival) (ready : Ready) (queue' : List Arrival) (ready' : Ready) → LooksAtOne delivery looked queue ready queue' ready' → looked ≡ false → Unlooked queue ready queue' ready'
  none_stood [] ready queue' ready' told none = record { none = refl; left = told.1; is = told.2 }
  none_stood (arrival ∷ behind) ready queue' ready' told none = absurd (false≢true (sym none ∙ told.0))

  pub first_stood : (queue : List Arrival) (ready : Ready) (queue' : List Arrival) (ready' : Ready) (arrival : Arrival) → LooksAtOne delivery looked queue ready queue' ready' → first_in queue ≡ Some arrival
      → (behind : List Arrival) × (queue ≡ arrival ∷ behind) × (queue' ≡ behind) × (ready' ≡ ready_after delivery ready arrival)
  first_stood [] ready queue' ready' arrival told some = absurd (cc)
  first_stood (first ∷ behind) ready queue' ready' arrival told some =
      let same : first ≡ arrival = cc in
      (behind, ap (λ (a : Arrival). a ∷ behind) same, told.1, told.2 ∙ ap (λ (a : Arrival). ready_after delivery ready a) same)

  -- of a state
  pub looked_after : (queue : List Arrival) (ready : Ready) (queue' : List Arrival) (ready' : Ready) (slots : Slots) → LooksAtOne delivery looked queue ready queue' ready' → seen delivery queue' ready' slots ≡ after_look (seen delivery queue ready slots)
  looked_after [] ready queue' ready' slots told = seen_same delivery queue' [] ready' ready slots slots told.1 told.2 refl
  looked_after (arrival ∷ behind) ready queue' ready' slots told = looked_one delivery arrival (arrival ∷ behind) behind queue' ready ready' slots refl told.1 told.2

-- a state after a look
pub looked_over : (delivery : SignalDelivery) (result : Result Bool AllocError) (queue : List Arrival) (ready : Ready) (queue' : List Arrival) (ready' : Ready) (slots : Slots)
    → IfOk result (λ looked. LooksAtOne delivery looked queue ready queue' ready') → OnOk result (seen delivery queue' ready' slots ≡ after_look (seen delivery queue ready slots))
looked_over delivery (Ok looked) queue ready queue' ready' slots told = looked_after delivery looked queue ready queue' ready' slots told
looked_over delivery (Err refused) queue ready queue' ready' slots told = tt

pub stays_over : (delivery : SignalDelivery) (result : Result Bool AllocError) (queue : List Arrival) (ready : Ready) (queue' : List Arrival) (ready' : Ready) (slots : Slots)
    → OnErr result ((queue' ≡ queue) × (ready' ≡ ready)) → OnErr result (seen delivery queue' ready' slots ≡ seen delivery queue ready slots)
stays_over delivery (Ok looked) queue ready queue' ready' slots stays = tt
stays_over delivery (Err refused) queue ready queue' ready' slots stays = seen_same delivery queue' queue ready' ready slots slots stays.0 stays.1 refl

pub none_first : (queue : List Arrival) → first_in queue ≡ None → queue ≡ []
none_first [] none = refl
none_first (arrival ∷ queue) none = absurd (cc)

-- the line is shorter then
pub shorter : (queue queue' behind : List Arrival) (arrival : Arrival) → queue ≡ arrival ∷ behind → queue' ≡ behind → length queue' < length queue
shorter queue queue' behind arrival front left = rw (front, left) (omega arith)
