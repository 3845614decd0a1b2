-- Taking the first that waits for a handle.
use Rattle.std.proofs.Common.{◌≡◌, refl, sym, ap, ◌∙◌, ℕ, ◌-◌, ◌<◌, ◌==◌, nat_lt, Bool, true, false, if◌then◌else◌, List, [], ◌∷◌, drop, length, slice_get, Option, Some, None, eqb-true}
use Rattle.std.proofs.Math.Path.{fun_ext}
use Rattle.std.proofs.lemmas.Option.{slice_get_within}
use Rattle.journal_model.specs.declared.notification.NotificationId.{NotificationId}
use Rattle.journal_model.specs.declared.notification.NotificationResult.{NotificationResult}
use Rattle.journal_model.specs.Notification.{same_id, cancel_id}
use Rattle.journal_model.proofs.Ids.{same_id-same}
use Rattle.attempt_model.specs.Results.{Ready, Slots, first_waiting_result, slot_in, slot_of, ready_without_first}
use Rattle.vm_awaits.specs.TakenNotifications.{ready_left}

none_first : (results : List NotificationResult) → first_waiting_result results ≡ None → drop 1 results ≡ results
none_first [] e = refl
none_first (result ∷ results) e = absurd cc

-- where nothing waits of an id, nothing goes
nothing_goes : (ready : Ready) (id : NotificationId) → first_waiting_result (ready id) ≡ None → ready_without_first ready (Some id) ≡ ready
nothing_goes ready id none = fun_ext (λ other. by_test other (same_id id other) refl)
  where
    by_test : (other : NotificationId) (b : Bool) → same_id id other ≡ b → (if b then drop 1 (ready other) else ready other) ≡ ready other
    by_test other true e = none_first (ready other) (ap (λ (q : NotificationId). first_waiting_result (ready q)) (sym (same_id-same id other e)) ∙ none)
    by_test other false e = refl

pub ready_taken : (handle : ℕ) (slots : Slots) (ready : Ready) (id : NotificationId) (taken : Option NotificationResult) (left : Ready)
    → slot_of slots handle ≡ Some id → taken ≡ first_waiting_result (ready id) → left ≡ ready_without_first ready (Some id) → left ≡ ready_left handle taken slots ready
ready_taken handle slots ready id None left slot first rest = rest ∙ nothing_goes ready id (sym first)
ready_taken handle slots ready id (Some taken) left slot first rest = rest ∙ ap (ready_without_first ready) (sym slot)

pub cancel_slot : (slots : Slots) (handle : ℕ) → handle ≡ 1 → slot_of slots handle ≡ Some cancel_id
cancel_slot slots handle e = ap (slot_of slots) e

abbrev pub made_slot : Slots → ℕ → Option NotificationId
made_slot slots handle = if nat_lt handle 17 then None else slot_in (slice_get slots (handle - 17))

-- a handle that a call made is another than that of cancellations
pub other_slot : (slots : Slots) (handle : ℕ) (id : NotificationId) → made_slot slots handle ≡ Some id → slot_of slots handle ≡ Some id
other_slot slots handle id is = by_test (handle == 1) refl
  where
    by_test : (b : Bool) → (handle == 1) ≡ b → (if b then Some cancel_id else made_slot slots handle) ≡ Some id
    by_test true e = let none : made_slot slots handle ≡ None = ap (made_slot slots) (eqb-true handle 1 e) in let both : None ≡ Some id = sym none ∙ is in absurd cc
    by_test false e = is

pub slot_known : (slots list : Slots) (handle number : ℕ) (id : NotificationId) → list ≡ slots → number ≡ handle → Some id ≡ made_slot list number → made_slot slots handle ≡ Some id
slot_known slots list handle number id same is found =
    ap (λ (xs : Slots). made_slot xs handle) (sym same) ∙ ap (made_slot list) (sym is) ∙ sym found

pub within_slots : (slots : Slots) (handle : ℕ) (id : NotificationId) → made_slot slots handle ≡ Some id → handle - 17 < length slots
within_slots slots handle id is = by_test (nat_lt handle 17) is
  where
    by_slot : (found : Option (Option NotificationId)) → slice_get slots (handle - 17) ≡ found → slot_in found ≡ Some id → handle - 17 < length slots
    by_slot None e h = absurd cc
    by_slot (Some slot) e h = slice_get_within slots (handle - 17) slot e

    by_test : (b : Bool) → (if b then None else slot_in (slice_get slots (handle - 17))) ≡ Some id → handle - 17 < length slots
    by_test true h = absurd cc
    by_test false h = by_slot (slice_get slots (handle - 17)) refl h
