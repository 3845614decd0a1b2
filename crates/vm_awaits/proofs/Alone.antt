-- A future of one leaf on the way to what is resolved: it stays the leaf that it is.
use Rattle.std.proofs.Common.{◌≡◌, refl, sym, ap, ◌∙◌, ℕ, Bool, true, false, ◌||◌, List, [], ◌∷◌, ◌++◌, append_assoc}
use Rattle.journal_model.specs.Notification.{Arrival}
use Rattle.journal_model.specs.AwaitTree.{AwaitState, AwaitTree, Single, is_awake, is_completed}
use Rattle.journal_model.specs.Future.{tree_of}
use Rattle.journal_model.specs.declared.future.UnresolvedFuture.{UnresolvedFuture}
use Rattle.journal_model.specs.declared.options.SignalDelivery.{SignalDelivery}
use Rattle.attempt_model.specs.Results.{Ready, Slots, handle_state, ready_after, Awake, Asleep, resolution_of}
use Rattle.vm_awaits.specs.FutureResolution.{OnTheWay, StopsMidway}
use Rattle.vm_awaits.proofs.Going.{ready_after_last, awake_now, at_end, one_less}

module _ (delivery : SignalDelivery) (slots : Slots) (handle : ℕ) (queue : List Arrival) (ready : Ready) where
  abbrev pub Alone : List Arrival → Ready → Type 0
  Alone others waiting = OnTheWay delivery slots (Single handle) queue ready (Single handle) others waiting

  leaf-awake : (leaves : ℕ → AwaitState) (b : Bool) → is_completed (leaves handle) ≡ b → is_awake (Single handle) leaves ≡ b
  leaf-awake leaves b e = ap (λ (c : Bool). c || false) e ∙ or-nothing b
    where
      or-nothing : (c : Bool) → (c || false) ≡ c
      or-nothing true = refl
      or-nothing false = refl

  pub alone-starts : Alone queue ready
  alone-starts = record { looked = []; queue_is = refl; ready_is = refl; same = refl }

  pub alone-wakes : (others : List Arrival) (waiting : Ready) → Alone others waiting → is_completed (handle_state slots waiting handle) ≡ true → resolution_of delivery slots (Single handle) queue ready ≡ Awake others waiting
  alone-wakes others waiting way completed =
      sym way.same ∙ awake_now delivery slots (Single handle) others waiting (leaf-awake (handle_state slots waiting) true completed)

  pub alone-ends : (others : List Arrival) (waiting : Ready) (answer : UnresolvedFuture) → Alone others waiting → is_completed (handle_state slots waiting handle) ≡ false → others ≡ [] → tree_of answer ≡ Single handle
      → resolution_of delivery slots (Single handle) queue ready ≡ Asleep (tree_of answer) waiting
  alone-ends others waiting answer way waits none told =
      sym way.same ∙ ap (λ (xs : List Arrival). resolution_of delivery slots (Single handle) xs waiting) none
      ∙ at_end delivery slots (Single handle) waiting (leaf-awake (handle_state slots waiting) false waits)
      ∙ ap (λ (t : AwaitTree ℕ). Asleep t waiting) (sym told)

  pub alone-goes-on : (others behind rest : List Arrival) (waiting now : Ready) (arrival : Arrival) → Alone others waiting → is_completed (handle_state slots waiting handle) ≡ false
      → others ≡ arrival ∷ behind → rest ≡ behind → now ≡ ready_after delivery waiting arrival → Alone rest now
  alone-goes-on others behind rest waiting now arrival way waits front same_rest is_now =
      rw (same_rest, is_now) (record {
        looked = way.looked ++ arrival ∷ [];
        queue_is = way.queue_is ∙ ap (λ (xs : List Arrival). way.looked ++ xs) front ∙ sym (append_assoc way.looked (arrival ∷ []) behind);
        ready_is = ap (λ (r : Ready). ready_after delivery r arrival) way.ready_is ∙ sym (ready_after_last delivery ready way.looked arrival);
        same = sym (one_less delivery slots (Single handle) behind waiting arrival (leaf-awake (handle_state slots waiting) false waits))
            ∙ ap (λ (xs : List Arrival). resolution_of delivery slots (Single handle) xs waiting) (sym front) ∙ way.same;
      })

  pub alone-stops : (others rest : List Arrival) (waiting now : Ready) → Alone others waiting → rest ≡ others → now ≡ waiting → StopsMidway delivery slots (Single handle) queue ready rest now
  alone-stops others rest waiting now way same_rest is_now = rw (same_rest, is_now) (Single handle, way)
