-- A tick is recorded.
use Rattle.std.proofs.Common.{◌≡◌, ℕ, refl, sym, subst, ◌∙◌, inl, inr, List, [], ◌∷◌, Result, Ok, Err, IfOk, OnOk, OnErr, IsTrue, arith}
use Rattle.sqlite_trees.specs.Tree.{Trees}
use Rattle.sqlite_trees.specs.declared.store.Store.{Ghosts}
use Rattle.sqlite.specs.Held.{Held, state}
use Rattle.sqlite.specs.State.{State, HasCleanDisk, Survives}
use Rattle.sqlite.proofs.StateLemmas.{survives_then}
use Rattle.journal_model.specs.Event.{Event}
use Rattle.journal_model.specs.Cause.{causes_of}
use Rattle.store_frames.specs.ReadFrames.{AreRead}
use Rattle.store_tables.specs.Records.{Holds, applied_all}
use Rattle.store_tables.specs.declared.row.Write.{Write}
use Rattle.store_tables.specs.Looks.{HasWritten, Lasts, OnlyAsks}
use Rattle.store_tables.specs.Steps.{Lands, TurnsRecords}
use Rattle.store_model.specs.KeptRecords.{IsKept}
use Rattle.store_refusals.specs.declared.refusal.Refusal.{Refusal}
use Rattle.store_refusals.specs.Preparations.{Keeps}
use Rattle.store_invocations.specs.Rows.{IsStoreOf}
use Rattle.store_invocations.proofs.Standing.{store_kept}
use Rattle.store_live.specs.Attempts.{Attempts}
use Rattle.store_live.specs.Rows.{AreNoted}
use Rattle.store_arrivals.specs.PreparedTicks.{IsTickReady}
use Rattle.store_arrivals.specs.declared.tick.PreparedTick.{PreparedTick}
use Rattle.store_arrivals.proofs.Keeping.{ready_keeps}
use Rattle.store_calls.specs.AbstractStore.{Adds}
use Rattle.store_calls.specs.Calls.{Ticks}
use Rattle.journal_store.specs.StoreView.{stored}
use Rattle.journal_store.specs.StoreStanding.{EnduresAlways, KeepsAll, KeepsOf, Leads, Settles, Stands}
use Rattle.journal_store.specs.StoreTransaction.{WritesRows}
use Rattle.journal_store.proofs.Dropping.{AllDropNone, tick_drops_none}
use Rattle.journal_store.proofs.Enduring.{tick_landed}
use Rattle.journal_store.proofs.Lasting.{outlasts_now}
use Rattle.journal_store.proofs.Leading.{adds, refuses}
use Rattle.journal_store.proofs.Rows.{KeepsBy, noted_waits}
use Rattle.journal_store.proofs.Standing.{stands_recorded, store_still, stored_still}
use Rattle.journal_store.proofs.Waiting.{still_waits}

-- ---- records

pub tick_keeps : (events : List Event) (now : ℕ) (made : PreparedTick) → causes_of events (Event.Tick now) ≡ [] → IsTickReady events now made
    → KeepsBy events (Event.Tick now) made.writes.items
tick_keeps events now made none ready = (
  subst AllDropNone (sym ready.writes) (tick_drops_none events now ready.ids),
  λ r accepted kept. subst (λ (writes : List Write). IsKept (Event.Tick now ∷ events) (applied_all writes r)) (sym ready.writes)
      (ready_keeps events now ready.ids r accepted none ready.ending kept),
)

kept_by : (events : List Event) (event : Event) (s : State) (writes : List Write) (trees : Trees) → Keeps events s → AreRead (event ∷ events) → KeepsBy events event writes
    → TurnsRecords (applied_all writes) s.now.trees trees → KeepsAll (event ∷ events) trees
kept_by events event s writes trees k read keeps turns = record {
  read = read;
  records = applied_all writes k.records;
  held = turns k.records k.held;
  kept = keeps.1 k.records k.accepted k.kept;
}

module _ (events : List Event) (now : ℕ) (writes : List Write) (keeps : KeepsBy events (Event.Tick now) writes) (none : causes_of events (Event.Tick now) ≡ []) where
  all_written : (mid new : State) → IsStoreOf events mid → HasCleanDisk mid → IsTrue mid.is_open → TurnsRecords (applied_all writes) mid.now.trees new.now.trees
      → IsStoreOf (Event.Tick now ∷ events) new
  all_written mid new store clean is_open turns =
      let all = kept_by events (Event.Tick now) mid writes new.now.trees (store.keeps clean is_open) (tt, store.read) keeps turns in
      record {
        accepted = (none, store.accepted);
        read = (tt, store.read);
        keeps = λ _ _. record { accepted = (none, store.accepted); records = all.records; held = all.held; kept = all.kept };
      }

  none_written : (s : State) → writes ≡ [] → IsStoreOf events s → IsStoreOf (Event.Tick now ∷ events) s
  none_written s nothing store = stored_still events (Event.Tick now) s writes store tt none nothing keeps.1

  pub tick_stored : (mid new : State) (P : Trees → Type 0) → Survives mid new P → IsStoreOf events mid → HasCleanDisk mid → HasWritten writes mid new → IsStoreOf (Event.Tick now ∷ events) new
  tick_stored mid new P lives store clean (inl nothing) = none_written new nothing.0 (store_still events mid new P lives nothing.1 store)
  tick_stored mid new P lives store clean (inr all) = all_written mid new store clean all.0 all.1

-- ---- the call

-- what was made ready of a tick
abbrev pub IsReadyTick : State → State → ℕ → PreparedTick → Type 0
IsReadyTick old mid now made = HasCleanDisk mid → (events : List Event) → IsStoreOf events old → (causes_of events (Event.Tick now) ≡ []) × IsTickReady events now made

module _ {S : Type 0} (g : Ghosts S) (a mid b : Held S) (before after : Attempts) (now : ℕ) (made : PreparedTick) (looks : OnlyAsks g a mid)
    (ready : IsReadyTick (state g a) (state g mid) now made) where
  -- what was made ready was written, or nothing was
  pub ticks : (result : Result ℕ Refusal) → WritesRows g made.writes.items mid b result → IfOk result (λ count. count ≡ made.count) → OnOk result (AreNoted made.writes.items before.attempts after.attempts) → OnErr result (after ≡ before)
      → Leads g (Ticks now result) (stored a before) (stored b after)
  ticks (Ok count) wrote counted noted same clean s is =
      let early : HasCleanDisk (state g mid) = omega (arith, wrote.crash.clean, clean) in
      let it = ready early s.events is.stands.kept in
      let store = store_kept s.events (state g a) (state g mid) looks.crash looks.kept is.stands.kept in
      let keeps = tick_keeps s.events now made it.0 it.1 in
      let kept = tick_stored s.events now made.writes.items keeps it.0 (state g mid) (state g b) (Lands made.writes.items (state g mid)) wrote.crash store early (wrote.done clean) in
      let stands = stands_recorded s.events (Event.Tick now) (state g b) before.attempts after.attempts made.writes.items refl (λ id. refl) kept keeps noted is.stands.live is.stands.rows in
      let to = adds g s (stored a before) (stored b after) is (Event.Tick now) stands (noted_waits made.writes.items before.attempts after.attempts noted) in
      (to.0, to.1, (counted ∙ it.1.count, to.2))
  ticks (Err why) wrote counted noted same clean s is =
      let store = store_kept s.events (state g a) (state g mid) looks.crash looks.kept is.stands.kept in
      refuses g s (stored a before) (stored b after) is (Event.Tick now) why (inr wrote.why.circumstance)
      (subst (λ (all : Attempts). Stands s.events (state g b) all.attempts) (sym same)
      (record { kept = store_still s.events (state g mid) (state g b) (Lands made.writes.items (state g mid)) wrote.crash wrote.undone store; live = is.stands.live; rows = is.stands.rows })) (still_waits before after same)

  -- where a crash comes
  pub tick_lands : Survives (state g mid) (state g b) (Lands made.writes.items (state g mid)) → EnduresAlways g (Adds (Event.Tick now)) (stored a before) (stored b after)
  tick_lands lives =
      survives_then (state g a) (state g mid) (state g b) (λ _. ⊥) (Lands made.writes.items (state g mid)) (KeepsOf (λ s. IsStoreOf s.events (state g a)) (Adds (Event.Tick now)))
      (λ _ db none. absurd none)
      (λ clean db lands s kept.
      let early : HasCleanDisk (state g mid) = omega (arith, lives.clean, clean) in
      let it = ready early s.events kept in
      let store = store_kept s.events (state g a) (state g mid) looks.crash looks.kept kept in
      let all = kept_by s.events (Event.Tick now) (state g mid) made.writes.items db (store.keeps early lands.0) (tt, store.read) (tick_keeps s.events now made it.0 it.1) lands.1 in
      let to = tick_landed s now it.0 in
      (to.0, to.1, subst (λ (events : List Event). KeepsAll events db) (sym to.1.events) all))
      looks.crash lives

  -- what was answered lasts
  pub tick_settled : (result : Result ℕ Refusal) → WritesRows g made.writes.items mid b result → (IsTrue (state g a).is_open → Lasts (state g a))
      → (HasCleanDisk (state g mid) → IsTrue (state g a).is_open) → Leads g (Ticks now result) (stored a before) (stored b after)
      → OnOk result (Settles g (Ticks now result) (stored a before) (stored b after))
  tick_settled (Err why) wrote idle asked leads = tt
  tick_settled (Ok count) wrote idle asked leads =
      λ clean s is.
      let t = leads clean s is in
      let early : HasCleanDisk (state g mid) = omega (arith, wrote.crash.clean, clean) in
      let first : HasCleanDisk (state g a) = omega (arith, looks.crash.clean, early) in
      let it = ready early s.events is.stands.kept in (
        t.0,
        t.1,
        t.2,
        elim (wrote.lasts clean) [
          | inl nothing ↦ λ trees may.
              let before_it : (state g a).may_leave trees =
              elim (looks.crash.crash early trees (subst (λ (held : Held S). (state g held).may_leave trees) nothing.1 may)) [ inl earlier ↦ earlier | inr never ↦ absurd never ] in
              let same : trees ≡ (state g a).now.trees = (idle (asked early)).left trees before_it in
              subst (λ (events : List Event). KeepsAll events trees) (sym t.2.1.events)
              (kept_by s.events (Event.Tick now) (state g a) made.writes.items trees (is.stands.kept.keeps first (asked early)) (tt, is.stands.kept.read) (tick_keeps s.events now made it.0 it.1)
              (λ records held. subst (λ (writes : List Write). Holds trees (applied_all writes records)) (sym nothing.0) (subst (λ (db : Trees). Holds db records) (sym same) held)))
          | inr all ↦ outlasts_now t.0.events (state g b) after.attempts clean t.1.stands all
        ],
      )
