-- What stands of an invocation, and what it is answered, is read off its own events.
use Rattle.std.proofs.Common.{◌≡◌, ◌+◌, refl, sym, ap, ap₂, subst, ◌∙◌, ℕ, true, length, List, [], ◌∷◌, take, Option, Some, None, option_and_then, option_map, unwrap_or}
use Rattle.std.specs.List.{find}
use Rattle.journal_model.specs.Notification.{Arrival, Bytes, Text}
use Rattle.journal_model.specs.Request.{Request}
use Rattle.journal_model.specs.State.{StateMap, state_after}
use Rattle.journal_model.specs.declared.invocation.NewInvocation.{NewInvocation}
use Rattle.journal_model.specs.Event.{Event, Frame}
use Rattle.journal_model.specs.Headline.{AllIsolated}
use Rattle.journal_model.specs.Journal.{view_of, invocation_of, invoked_by, entries_of, frames_of, invocation_begun, object_state, closes, closing_frame, closing_of, requests_in, arrivals_in, is_open, answer_at_close, Entry}
use Rattle.journal_model.specs.Spelling.{frame_bytes}
use Rattle.journal_model.specs.Start.{attempts_since_entry, since_first, start_payload, start_payload_for, start_payload_of}
use Rattle.journal_model.specs.Attempt.{arrivals_within}
use Rattle.journal_model.specs.Cause.{IsAccepted, causes_of}
use Rattle.journal_model.specs.declared.cause.Cause.{Cause}
use Rattle.protocol_types.specs.declared.message_type.MessageType.{MessageType}
use Rattle.store_refusals.specs.declared.refusal.Refusal.TheVariants as refusal
use Rattle.store_refusals.specs.RefusalConditions.{refusal_of_first_cause}
use Rattle.store_calls.specs.declared.begun.BegunAttempt.{BegunAttempt}
use Rattle.store_calls.specs.AbstractStore.{Standing}
use Rattle.store_calls.specs.Calls.{BeginsStoredAttempt}
use Rattle.journal_laws.proofs.Isolation.{IsToldAlike, frames_of-view, version_of-view, told_alike}
use Rattle.journal_laws.proofs.ObjectState.{accepted_followed, open_when_accepted}
use Rattle.journal_laws.proofs.Refusing.{first_cause, left_alike, refused_alike}
use Rattle.input_laws.proofs.Events.{itself}
use Rattle.store_calls.proofs.Replies.{taken_alike}
use Rattle.schedule_laws.proofs.Feeding.{parts_taken}
use Rattle.schedule_laws.specs.Isolation.{AllAnswerAlone, AllKeepState, AllReplyAlike, AllStandAlone, IsOwn}
-- passed on, so that crates above name this one alone
pub use Rattle.journal_laws.proofs.ObjectState.{own_followed}

module _ (id : Text) where
  closing_of-view : (events : List Event) → closing_of (view_of id events) id ≡ closing_of events id
  closing_of-view events =
      ap₂ (λ (version : ℕ) (frames : List Frame). option_and_then closing_frame (find (closes version) frames)) (version_of-view id events) (frames_of-view id events)

pub stand_alone : AllIsolated → AllStandAlone
stand_alone isolated events id others views starts =
    let it = isolated events others id views starts in
    let told = told_alike events others id views starts in
    let closing : closing_of events id ≡ closing_of others id =
    sym (closing_of-view id events) ∙ ap (λ (view : List Event). closing_of view id) views ∙ closing_of-view id others in
    record {
      begun = told.begun;
      start = starts;
      entries = it.0;
      closing = closing;
      answer = ap₂ answer_at_close (ap requests_in it.0) closing;
      openness = it.1;
      dueness = it.2;
      attempts = told.attempts;
      live = told.live;
      frames = sym (frames_of-view id events) ∙ ap (λ (view : List Event). frames_of view id) views ∙ frames_of-view id others;
      handed = ap₂ (λ (n : ℕ) (arrivals : List Arrival). take n arrivals) (ap₂ arrivals_within told.input told.handed) (ap arrivals_in it.0);
      left = left_alike events others id told;
    }

pub keep_state : AllKeepState
keep_state events id accepted = accepted_followed events accepted id

first_is : (causes : List Cause) → refusal_of_first_cause causes ≡ option_map (λ c. refusal.Cause c) (first_cause causes)
first_is [] = refl
first_is (cause ∷ causes) = refl

own_is : (id : Text) (event : Event) → IsOwn id event → (invocation_of event ≡ Some id) × (invoked_by event ≡ None)
own_is id (Event.Invoke new) own = absurd own
own_is id event own = (own, refl)

-- what an attempt is told that is begun
start_alike : (events others : List Event) (id : Text) → IsToldAlike events others id
    → ((new : NewInvocation) → invocation_begun events id ≡ Some new → object_state events new.object ≡ object_state others new.object)
    → (now : ℕ) → start_payload events id now ≡ start_payload others id now
start_alike events others id told states now = by_begun (invocation_begun events id) refl ∙ ap (λ (o : Option NewInvocation). start_payload_for others o id now) told.begun
  where
    by_begun : (o : Option NewInvocation) → invocation_begun events id ≡ o → start_payload_for events o id now ≡ start_payload_for others o id now
    by_begun None is = refl
    by_begun (Some new) is =
        ap₂ (λ (state : StateMap) (entries : List Entry). start_payload_of new state (1 + length entries) (length (attempts_since_entry events id)) (since_first (attempts_since_entry events id) now))
        (states new is) told.entries
        ∙ ap (λ (moments : List ℕ). start_payload_of new (object_state others new.object) (1 + length (entries_of others id)) (length moments) (since_first moments now)) told.moments

pub answer_alone : AllAnswerAlone
answer_alone events others id kept kept' views starts =
    let told = told_alike events others id views starts in
    let states : (new : NewInvocation) → invocation_begun events id ≡ Some new → is_open events id ≡ true → object_state events new.object ≡ object_state others new.object = λ new is opened.
    kept new is opened ∙ ap₂ (λ (requests : List Request) (start : StateMap). state_after requests start) (ap requests_in told.entries) starts
    ∙ sym (kept' new (sym told.begun ∙ is) (sym told.openness ∙ opened)) in
    record {
      state = states;
      start = λ now opened. start_alike events others id told (λ new is. states new is opened) now;
      refusal = λ event own.
          let is = own_is id event own in
          first_is (causes_of events event)
          ∙ ap (option_map (λ c. refusal.Cause c)) (refused_alike events others id told (λ opened new begun. states new begun opened) event is.0 is.1)
          ∙ sym (first_is (causes_of others event));
    }

-- ---- what its own events are answered

-- one that begins is open
begins_open : (id : Text) (now : ℕ) (begun : BegunAttempt) (old new : Standing) → BeginsStoredAttempt id now begun old new → is_open old.events id ≡ true
begins_open id now begun old new it =
    let accepted : IsAccepted (Event.Begin id now ∷ old.events) = subst IsAccepted it.leaves.events new.accepted in
    open_when_accepted old.events (Event.Begin id now) id refl (itself id) accepted.0

pub reply_alike : AllReplyAlike
reply_alike id old other it = record {
  begun = λ now one two new more begins begun. (
    begins.number ∙ ap (λ (n : ℕ). 1 + n) it.0.attempts ∙ sym begun.number,
    begins.version ∙ ap (λ (o : Option NewInvocation). unwrap_or (option_map (λ (begun : NewInvocation). begun.version) o) 0) it.0.begun ∙ sym begun.version,
    begins.start ∙ ap (λ (payload : Bytes). frame_bytes MessageType.Start payload) (it.1.start now (begins_open id now one old new begins)) ∙ sym begun.start,
  );
  handed = λ attempt count parts others new more hands all handed both.
      parts_taken id attempt count parts old new hands all ∙ ap (take count) it.0.left ∙ sym (parts_taken id attempt count others other more handed both);
  placed = λ completion brought place at new more completes completed. completes.0 ∙ ap (λ (entries : List Entry). 1 + length entries) it.0.entries ∙ sym completed.0;
  signalled = λ key brought place at new more signals signalled. signals.0 ∙ ap (λ (entries : List Entry). 1 + length entries) it.0.entries ∙ sym signalled.0;
  cancelled = λ place at new more cancels cancelled. cancels.0 ∙ ap (λ (entries : List Entry). 1 + length entries) it.0.entries ∙ sym cancelled.0;
  taken = taken_alike id old.events other.events it.0.entries;
}
