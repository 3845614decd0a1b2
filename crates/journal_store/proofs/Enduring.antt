-- What crashes leave of calls one after another.
use Rattle.std.proofs.Common.{◌≡◌, refl, ℕ, ◌+◌, Bool, true, false, ◌&&◌, if◌then◌else◌, [], ◌∷◌, Option, None, is_some, inl, arith}
use Rattle.sqlite_trees.specs.declared.store.Store.{Ghosts}
use Rattle.sqlite.specs.Held.{state}
use Rattle.sqlite.specs.State.{HasCleanDisk}
use Rattle.sqlite.proofs.StateLemmas.{survives_then, survives_weaker}
use Rattle.journal_model.specs.Notification.{Bytes, Text}
use Rattle.journal_model.specs.declared.notification.NotificationResult.{NotificationResult}
use Rattle.journal_model.specs.Spelling.{frame_bytes}
use Rattle.journal_model.specs.declared.notification.SignalKey.{SignalKey}
use Rattle.journal_model.specs.Event.{Event}
use Rattle.journal_model.specs.Journal.{invocation_begun, is_of}
use Rattle.journal_model.specs.Attempt.{attempts_begun, live_attempt}
use Rattle.journal_model.specs.Cause.{causes_of}
use Rattle.journal_model.specs.Start.{start_payload}
use Rattle.protocol_types.specs.declared.message_type.MessageType.{MessageType}
use Rattle.store_model.specs.KeptRecords.{version_kept}
use Rattle.store_model.proofs.Versions.{kept_number}
use Rattle.store_invocations.specs.Rows.{IsStoreOf}
use Rattle.store_calls.specs.AbstractStore.{Standing, Adds}
use Rattle.store_calls.proofs.Landing.{begun}
use Rattle.journal_store.specs.Attempts.{BeginsSome}
use Rattle.journal_store.specs.StoreView.{Stored}
use Rattle.journal_store.specs.StoreStanding.{Leads, KeepsStanding, KeepsOf, Endures, EnduresAlways, IsQuiet}
use Rattle.journal_store.proofs.Beginning.{begun_some, other_tests}

module _ {S : Type 0} (g : Ghosts S) where
  -- one behind another, from what the store stands for between them
  pub endures_on : (P M Q R : Standing → Standing → Type 0) (a b c : Stored S) → ((s t : Standing) → P s t → R s t) → ((s m t : Standing) → M s m → Q m t → R s t)
      → Endures g P a b → Leads g M a b → Endures g Q b c → Endures g R a c
  endures_on P M Q R a b c before behind first leads second =
      survives_then (state g a.connection) (state g b.connection) (state g c.connection) (KeepsStanding g P a) (KeepsStanding g Q b) (KeepsStanding g R a)
      (λ clean db it s is. let kept = it s is in (kept.0, before s kept.0 kept.1, kept.2))
      (λ clean db it s is.
      let early : HasCleanDisk (state g b.connection) = omega (arith, second.clean, clean) in
      let mid = leads early s is in
      let kept = it mid.0 mid.1 in
      (kept.0, behind s mid.0 kept.0 mid.2 kept.1, kept.2))
      first second

  -- it is said in another way
  pub endures_so : (P Q : Standing → Standing → Type 0) (a b : Stored S) → ((s t : Standing) → P s t → Q s t) → Endures g P a b → Endures g Q a b
  endures_so P Q a b so lives =
      survives_weaker (state g a.connection) (state g b.connection) (KeepsStanding g P a) (KeepsStanding g Q a)
      (λ clean db it s is. let kept = it s is in (kept.0, so s kept.0 kept.1, kept.2)) lives

  -- nothing was done
  pub same_endures : (P : Standing → Standing → Type 0) (store : Stored S) → Endures g P store store
  same_endures P store = record {
    clean = omega arith;
    shield = λ it. it;
    counts = omega arith;
    limit = refl;
    closes = λ clean is_open. inl is_open;
    crash = λ clean db may. inl may;
  }

  -- a call that commits nothing
  pub quiet_endures : (P : Standing → Standing → Type 0) (old new : Stored S) → IsQuiet g old new → Endures g P old new
  quiet_endures P old new lives = survives_weaker (state g old.connection) (state g new.connection) (λ _. ⊥) (KeepsStanding g P old) (λ clean db none. absurd none) lives

  -- whatever the tables kept they keep what the store stood for
  pub always_endures : (P : Standing → Standing → Type 0) (old new : Stored S) → EnduresAlways g P old new → Endures g P old new
  always_endures P old new lives =
      survives_weaker (state g old.connection) (state g new.connection) (KeepsOf (λ s. IsStoreOf s.events (state g old.connection)) P) (KeepsStanding g P old)
      (λ clean db keeps s is. keeps s is.stands.kept) lives

-- ---- what an event whose commit has landed makes of what a store stood for

still_live : (mine : Bool) (before : Option Bytes) (live : Option ℕ) → is_some before ≡ is_some live → is_some before ≡ is_some (if mine && false then None else live)
still_live true before live same = same
still_live false before live same = same

event_landed : (s : Standing) (event : Event) → causes_of s.events event ≡ [] → ((other : Text) → is_some (s.outputs other) ≡ is_some (live_attempt (event ∷ s.events) other))
    → (t : Standing) × Adds event s t
event_landed s event causes live =
    (record { events = event ∷ s.events; accepted = (causes, s.accepted); outputs = s.outputs; live = live }, record { events = refl; outputs = λ other. refl })

pub complete_landed : (s : Standing) (id : Text) (n : ℕ) (value : NotificationResult) → causes_of s.events (Event.Result id n value) ≡ [] → (t : Standing) × Adds (Event.Result id n value) s t
complete_landed s id n value causes =
    event_landed s (Event.Result id n value) causes (λ other. still_live (is_of other (Event.Result id n value)) (s.outputs other) (live_attempt s.events other) (s.live other))

pub signal_landed : (s : Standing) (id : Text) (key : SignalKey) (value : NotificationResult) → causes_of s.events (Event.Signal id key value) ≡ [] → (t : Standing) × Adds (Event.Signal id key value) s t
signal_landed s id key value causes =
    event_landed s (Event.Signal id key value) causes (λ other. still_live (is_of other (Event.Signal id key value)) (s.outputs other) (live_attempt s.events other) (s.live other))

pub cancel_landed : (s : Standing) (id : Text) → causes_of s.events (Event.Cancel id) ≡ [] → (t : Standing) × Adds (Event.Cancel id) s t
cancel_landed s id causes =
    event_landed s (Event.Cancel id) causes (λ other. still_live (is_of other (Event.Cancel id)) (s.outputs other) (live_attempt s.events other) (s.live other))

pub tick_landed : (s : Standing) (now : ℕ) → causes_of s.events (Event.Tick now) ≡ [] → (t : Standing) × Adds (Event.Tick now) s t
tick_landed s now causes = event_landed s (Event.Tick now) causes (λ other. s.live other)

pub begin_landed : (s : Standing) (id : Text) (now : ℕ) → causes_of s.events (Event.Begin id now) ≡ [] → (t : Standing) × BeginsSome id now s t
begin_landed s id now causes =
    let to = begun s id now causes in
    let new = begun_some (invocation_begun s.events id) (other_tests s.events id now) causes in (
      to.0,
      (
        record { number = 1 + attempts_begun s.events id; version = version_kept new.0.version; start = frame_bytes MessageType.Start (start_payload s.events id now) },
        record { number = refl; version = kept_number s.events id new.0 s.accepted new.1; start = refl; leaves = to.1 },
      ),
    )
