-- A state is seen as the same four things where each of them is the same.
use Rattle.std.proofs.Common.{◌≡◌, refl, List, ◌∷◌}
use Rattle.journal_model.specs.Notification.{Arrival}
use Rattle.journal_model.specs.declared.options.SignalDelivery.{SignalDelivery}
use Rattle.attempt_model.specs.Results.{Ready, Slots, ready_after}
use Rattle.vm_awaits.specs.Views.{AsyncResults}
use Rattle.vm_awaits.specs.Calls.{after_look}

abbrev pub seen : SignalDelivery → List Arrival → Ready → Slots → AsyncResults
seen delivery queue ready slots = record { delivery = delivery; queue = queue; ready = ready; slots = slots }

pub seen_same : (delivery : SignalDelivery) (queue others : List Arrival) (ready more : Ready) (slots left : Slots)
    → queue ≡ others → ready ≡ more → slots ≡ left → seen delivery queue ready slots ≡ seen delivery others more left
seen_same delivery queue others ready more slots left q r s = rw (q, r, s) refl

-- the first in line was looked at
pub looked_one : (delivery : SignalDelivery) (arrival : Arrival) (queue behind others : List Arrival) (ready now : Ready) (slots : Slots) → queue ≡ arrival ∷ behind → others ≡ behind → now ≡ ready_after delivery ready arrival
    → seen delivery others now slots ≡ after_look (seen delivery queue ready slots)
looked_one delivery arrival queue behind others ready now slots front left is = rw (front, left, is) refl
