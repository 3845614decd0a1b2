-- The calls on an attempt, by what the store stands for.
use Rattle.std.proofs.Common.{◌≡◌, refl, sym, ap, subst, ◌∙◌, ℕ, true, false, List, Option, Some, None, option_map, inl, inr, Result, Ok, Err, IsErrAnd, IsTrue, bytes_eq, length, []}
use Rattle.std.proofs.lemmas.Slice.Eq.{bytes_eq-Decides}
use Rattle.sqlite_trees.specs.declared.store.Store.{Ghosts}
use Rattle.sqlite.specs.Held.{Held, state}
use Rattle.sqlite.specs.State.{State, HasCleanDisk}
use Rattle.journal_model.specs.Notification.{Bytes, Text}
use Rattle.journal_model.specs.Event.{Event}
use Rattle.journal_model.specs.Attempt.{is_live}
use Rattle.journal_model.specs.Cause.{causes_of}
use Rattle.journal_model.specs.declared.cause.Cause.{Cause}
use Rattle.store_tables.specs.Looks.{OnlyAsks}
use Rattle.store_refusals.specs.declared.refusal.Refusal.{Refusal}
use Rattle.store_refusals.specs.declared.refusal.Refusal.TheVariants as refusal
use Rattle.store_refusals.specs.RefusalConditions.{IsRefused, is_circumstance}
use Rattle.store_invocations.specs.Rows.{IsStoreOf}
use Rattle.store_live.specs.declared.attempt.LiveAttempt.{LiveAttempt}
use Rattle.store_live.specs.Attempts.{Attempts, ByInvocation, attempt_of, IsNow, ChangesLive, bytes_out, after_close, after_hand_out, after_output}
use Rattle.store_live_laws.specs.LiveAttempts.{Agrees, has_number, cause_of_stale, CausesOfStale}
use Rattle.store_live_laws.proofs.Tests.{live_told, stale_told}
use Rattle.store_calls.specs.AbstractStore.{Standing, StaysStanding, Refuses}
use Rattle.store_calls.specs.Calls.{HandsOut, ClosesStoredInput, Pushes, Stops}
use Rattle.store_calls.specs.Frames.{StepsAttempt}
use Rattle.journal_store.specs.StoreView.{stored}
use Rattle.journal_store.specs.StoreStanding.{Stands, IsStanding, Leads}
use Rattle.journal_store.specs.Attempts.{HasRead, IsStale, has_closed, has_rest}
use Rattle.journal_store.proofs.Rows.{rows_changed}
use Rattle.journal_store.proofs.Standing.{stands_asked, true_or_false}
use Rattle.journal_store.proofs.Quiet.{live_here, this_one, stale_refused, stands_stopped, hand_out_closed, stands_handed, close_remains, close_closed, stands_closed}
use Rattle.journal_store.proofs.Waiting.{stopped_waits, handed_waits, closed_waits}
use Rattle.journal_store.proofs.Leading.{stood, leads_so, adds, stays, leaves}
use Rattle.journal_store.proofs.Recording.{looked}

-- ---- an attempt that is not live

pub record IsDead (id : Text) (n : ℕ) (why : Refusal) (s t : Standing) : Type 0 where
  pub dead : is_live s.events id n ≡ false
  pub causes : CausesOfStale s.events id n
  pub told : IsStale s.events id why
  pub stays : StaysStanding s t

module _ (id : Text) (n : ℕ) (why : Refusal) (s t : Standing) (d : IsDead id n why s t) where
  stop_refused : IsRefused (causes_of s.events (Event.Stop id n)) why
  stop_refused = stale_refused why (cause_of_stale s.events id) (causes_of s.events (Event.Stop id n)) d.causes.of_stop d.told

  pub hand_out_dead : (most : ℕ) → HandsOut id n most (Err why) s t
  hand_out_dead most = record {
    cause = stale_refused why (cause_of_stale s.events id) (causes_of s.events (Event.Feed id n most)) (d.causes.of_hand_out most) d.told;
    stays = d.stays;
  }

  pub close_dead : ClosesStoredInput id n (Err why) s t
  close_dead = record { cause = stale_refused why (cause_of_stale s.events id) (causes_of s.events (Event.Close id n)) d.causes.of_close d.told; stays = d.stays }

  pub push_dead : (bytes : Bytes) → Pushes id n bytes (Err why) s t
  push_dead bytes = rw d.dead (record { cause = stop_refused; stays = d.stays })

  pub stop_dead : Stops id n (Err why) s t
  stop_dead = record { dead = d.dead; cause = stop_refused; stays = d.stays }

  pub step_dead : StepsAttempt id n (Err why) s t
  step_dead = inl (record { dead = d.dead; refuses = record { cause = stop_refused; stays = d.stays } })

module _ {S : Type 0} (g : Ghosts S) (a b : Held S) (live : Attempts) (id : Text) (n : ℕ) where
  pub is_dead : (why : Refusal) → has_number n (attempt_of live.attempts id) ≡ false → OnlyAsks g a b
      → (HasCleanDisk (state g b) → (events : List Event) → IsStoreOf events (state g a) → IsStale events id why) → Leads g (IsDead id n why) (stored a live) (stored b live)
  is_dead why none looks told clean s is =
      let agrees = is.stands.live id in
      let it = stays g s (stored a live) (stored b live) is (stands_asked s.events (state g a) (state g b) live.attempts looks.crash looks.kept is.stands) (λ one. refl) in (
        it.0,
        it.1,
        record {
          dead = live_told s.events id n (attempt_of live.attempts id) agrees ∙ none;
          causes = stale_told s.events id n (attempt_of live.attempts id) agrees none;
          told = told clean s.events is.stands.kept;
          stays = it.2;
        },
      )

  -- so a call is refused
  pub dead : (Call : Refusal → Standing → Standing → Type 0) → ((why : Refusal) (s t : Standing) → IsDead id n why s t → Call why s t) → (why : Refusal)
      → has_number n (attempt_of live.attempts id) ≡ false → OnlyAsks g a b
      → (HasCleanDisk (state g b) → (events : List Event) → IsStoreOf events (state g a) → IsStale events id why) → Leads g (Call why) (stored a live) (stored b live)
  dead Call so why none looks told = leads_so g (IsDead id n why) (Call why) (stored a live) (stored b live) (so why) (is_dead why none looks told)

-- ---- the next row is not read

pub none_read : {A : Type 0} (Call : Result A Refusal → Standing → Standing → Type 0) (event : Event) (r : Result A Refusal) {Q : Refusal → Type 0} → IsErrAnd r Q
    → ((why : Refusal) (s t : Standing) → Refuses event why s t → Call (Err why) s t) → {S : Type 0} (g : Ghosts S) (a b : Held S) (before after : Attempts) → after ≡ before → OnlyAsks g a b
    → ((why : Refusal) → Q why → HasCleanDisk (state g b) → (s : Standing) → IsStanding g s (stored a before) → IsRefused [] why) → Leads g (Call r) (stored a before) (stored b after)
none_read Call event (Ok x) it is g a b before after same looks told = absurd it
none_read Call event (Err why) it is g a b before after same looks told =
    λ clean s standing.
    let done = looked g a b before event why looks (λ _ _ _. inr (circumstance (told why it clean s standing))) clean s standing in
    subst (λ (live : Attempts). (t : Standing) × IsStanding g t (stored b live) × Call (Err why) s t) (sym same) (done.0, done.1, is why s done.0 done.2)
  where
    circumstance : IsRefused [] why → IsTrue (is_circumstance why)
    circumstance (inl e) = cc
    circumstance (inr e) = e

-- ---- memory

pub is_memory : {A : Type 0} {Q : Refusal → Type 0} (r : Result A Refusal) → IsErrAnd r Q → ((why : Refusal) → Q why → why ≡ refusal.OutOfMemory) → r ≡ Err refusal.OutOfMemory
is_memory (Ok x) it so = absurd it
is_memory (Err why) it so = let same : why ≡ refusal.OutOfMemory = so why it in cc

-- ---- one that is live

output_kept : (events : List Event) (id : Text) (bytes : Bytes) (o : Option LiveAttempt) → Agrees events id o → Agrees events id (option_map (after_output bytes) o)
output_kept events id bytes None agrees = agrees
output_kept events id bytes (Some attempt) agrees =
    record { number = agrees.number; version = agrees.version; input = agrees.input; closed = agrees.closed }

stands_pushed : (events : List Event) (database : State) (old new : ByInvocation) (id : Text) (bytes : Bytes) → Stands events database old → ChangesLive id (after_output bytes) old new → Stands events database new
stands_pushed events database old new id bytes stands changes = record {
  kept = stands.kept;
  live = λ other. elim (true_or_false (bytes_eq id other)) [
    | inl same ↦ subst (λ (o : Text). Agrees events o (attempt_of new o)) ((bytes_eq-Decides id other).0 same)
        (subst (Agrees events id) (sym changes.own) (output_kept events id bytes (attempt_of old id) (stands.live id)))
    | inr apart ↦ subst (Agrees events other) (sym (changes.others other apart)) (stands.live other)
  ];
  rows = rows_changed events id (after_output bytes) old new (λ one. refl) changes stands.rows;
}

abbrev output_in : LiveAttempt → Bytes
output_in attempt = attempt.output

module _ {S : Type 0} (g : Ghosts S) (tables : Held S) (before : Attempts) (id : Text) (n : ℕ) (here : has_number n (attempt_of before.attempts id) ≡ true) where
  -- nothing was done
  pub refuses_still : (event : Event) (why : Refusal) (after : Attempts) → after ≡ before
      → ((events : List Event) → Stands events (state g tables) before.attempts → IsRefused (causes_of events event) why) → Leads g (Refuses event why) (stored tables before) (stored tables after)
  refuses_still event why after same cause clean s is =
      subst (λ (live : Attempts). (t : Standing) × IsStanding g t (stored tables live) × Refuses event why s t) (sym same)
      (s, is, record { cause = cause s.events is.stands; stays = record { events = refl; outputs = λ one. refl } })

  pub hands_out : (most : ℕ) (bytes : Bytes) (after : Attempts) → has_closed (attempt_of before.attempts id) ≡ false → bytes ≡ bytes_out most (attempt_of before.attempts id)
      → ChangesLive id (after_hand_out most) before.attempts after.attempts → (s : Standing) → HasRead s.events id (attempt_of before.attempts id) → IsStanding g s (stored tables before)
      → (t : Standing) × IsStanding g t (stored tables after) × HandsOut id n most (Ok bytes) s t
  hands_out most bytes after opened out changed s read is =
      let did = stands_handed s.events (state g tables) before.attempts after.attempts id n most bytes is.stands here opened read out changed in
      let it = adds g s (stored tables before) (stored tables after) is (Event.Feed id n (length bytes)) did.2 (handed_waits id most before.attempts after.attempts changed) in
      (it.0, it.1, (did.1, it.2))

  pub closes : (after : Attempts) → has_rest (attempt_of before.attempts id) ≡ false → has_closed (attempt_of before.attempts id) ≡ false → ChangesLive id after_close before.attempts after.attempts
      → (s : Standing) → HasRead s.events id (attempt_of before.attempts id) → IsStanding g s (stored tables before)
      → (t : Standing) × IsStanding g t (stored tables after) × ClosesStoredInput id n (Ok tt) s t
  closes after rest opened changed s read is =
      let did = stands_closed s.events (state g tables) before.attempts after.attempts id n is.stands here read rest opened changed in
      adds g s (stored tables before) (stored tables after) is (Event.Close id n) did.2 (closed_waits id before.attempts after.attempts changed)

  pub hands_closed : (most : ℕ) → has_closed (attempt_of before.attempts id) ≡ true → Leads g (HandsOut id n most (Err (refusal.Cause Cause.InputAlreadyClosed))) (stored tables before) (stored tables before)
  hands_closed most closed =
      refuses_still (Event.Feed id n most) (refusal.Cause Cause.InputAlreadyClosed) before refl (λ events stands. hand_out_closed events (state g tables) before.attempts id n most stands here closed)

  pub hands_none : (most : ℕ) (after : Attempts) (result : Result Bytes Refusal) → after ≡ before → result ≡ Err refusal.OutOfMemory
      → Leads g (HandsOut id n most result) (stored tables before) (stored tables after)
  hands_none most after result same is =
      subst (λ (r : Result Bytes Refusal). Leads g (HandsOut id n most r) (stored tables before) (stored tables after)) (sym is)
      (refuses_still (Event.Feed id n most) refusal.OutOfMemory after same (λ events stands. inr refl))

  pub closes_rest : has_rest (attempt_of before.attempts id) ≡ true → (s : Standing) → HasRead s.events id (attempt_of before.attempts id) → IsStanding g s (stored tables before)
      → (t : Standing) × IsStanding g t (stored tables before) × ClosesStoredInput id n (Err (refusal.Cause Cause.InputRemains)) s t
  closes_rest rest s read is =
      (s, is, record { cause = close_remains s.events (state g tables) before.attempts id n is.stands here read rest; stays = record { events = refl; outputs = λ one. refl } })

  pub closes_closed : has_rest (attempt_of before.attempts id) ≡ false → has_closed (attempt_of before.attempts id) ≡ true
      → (s : Standing) → HasRead s.events id (attempt_of before.attempts id) → IsStanding g s (stored tables before)
      → (t : Standing) × IsStanding g t (stored tables before) × ClosesStoredInput id n (Err (refusal.Cause Cause.InputAlreadyClosed)) s t
  closes_closed rest closed s read is =
      (s, is, record { cause = close_closed s.events (state g tables) before.attempts id n is.stands here read rest closed; stays = record { events = refl; outputs = λ one. refl } })

  pub pushes : (bytes : Bytes) (after : Attempts) → ChangesLive id (after_output bytes) before.attempts after.attempts → Leads g (Pushes id n bytes (Ok tt)) (stored tables before) (stored tables after)
  pushes bytes after changed clean s is =
      let it = stood g s.events (stored tables after) (stands_pushed s.events (state g tables) before.attempts after.attempts id bytes is.stands changed) in
      let one = this_one n (attempt_of before.attempts id) here in (
        it.0,
        it.1.standing,
        record {
          live = live_here s.events (state g tables) before.attempts id n is.stands ∙ here;
          events = it.1.same;
          before = one.attempt.output;
          waits = is.outputs id ∙ ap (option_map output_in) one.is;
          own = it.1.standing.outputs id ∙ ap (option_map output_in) (changed.own ∙ ap (option_map (after_output bytes)) one.is);
          others = λ other apart. it.1.standing.outputs other ∙ ap (option_map output_in) (changed.others other apart) ∙ sym (is.outputs other);
        },
      )

  pub pushes_none : (bytes : Bytes) (after : Attempts) (result : Result (Unit {0}) Refusal) → after ≡ before → result ≡ Err refusal.OutOfMemory
      → Leads g (Pushes id n bytes result) (stored tables before) (stored tables after)
  pushes_none bytes after result same memory =
      subst (λ (r : Result (Unit {0}) Refusal). Leads g (Pushes id n bytes r) (stored tables before) (stored tables after)) (sym memory)
      (λ clean s is.
      subst (λ (live : Attempts). (t : Standing) × IsStanding g t (stored tables live) × Pushes id n bytes (Err refusal.OutOfMemory) s t) (sym same)
      (s, is, rw (live_here s.events (state g tables) before.attempts id n is.stands ∙ here) (refl, record { events = refl; outputs = λ one. refl })))

  pub stops : (after : Attempts) → IsNow id None before.attempts after.attempts → Leads g (Stops id n (Ok tt)) (stored tables before) (stored tables after)
  stops after now clean s is =
      let did = stands_stopped s.events (state g tables) before.attempts after.attempts id n is.stands here now in
      leaves g s (stored tables before) (stored tables after) is (Event.Stop id n) id None did.2 (stopped_waits id before.attempts after.attempts now)
