-- A store stands for one more event.
use Rattle.std.proofs.Common.{◌≡◌, ◌⊎◌, option_map, refl, sym, ap, subst, ◌∙◌, Bool, true, false, inl, inr, List, [], ◌∷◌, Option, Some, None, bytes_eq, arith, IsTrue}
use Rattle.std.proofs.lemmas.Slice.Eq.{bytes_eq-Decides}
use Rattle.sqlite_trees.specs.Tree.{Trees}
use Rattle.sqlite.specs.Effect.{Database}
use Rattle.sqlite.specs.State.{State, HasCleanDisk, Survives}
use Rattle.sqlite.proofs.StateLemmas.{survives_then}
use Rattle.sql_tables.specs.QueryAnswers.{AreTablesKept}
use Rattle.journal_model.specs.Notification.{Text}
use Rattle.journal_model.specs.declared.invocation.NewInvocation.{NewInvocation}
use Rattle.journal_model.specs.Event.{Event}
use Rattle.journal_model.specs.Journal.{invocation_of, is_tick, is_text, object_of, version_of}
use Rattle.journal_model.specs.Attempt.{live_attempt, acknowledged}
use Rattle.journal_model.specs.Cause.{causes_of, IsAccepted}
use Rattle.store_frames.specs.ReadFrames.{AreRead, IsReadIn}
use Rattle.store_tables.specs.Records.{Holds, Records, applied_all}
use Rattle.store_tables.specs.declared.row.Write.{Write}
use Rattle.store_tables.specs.declared.row.InvocationRow.{InvocationRow}
use Rattle.store_tables.specs.Steps.{TurnsRecords, Lands}
use Rattle.store_tables.specs.Looks.{HasWritten}
use Rattle.store_model.specs.KeptRecords.{IsKept}
use Rattle.store_model.specs.Writes.{state_writes, writes_of}
use Rattle.store_model.proofs.Keeping.{kept_after}
use Rattle.store_refusals.specs.Preparations.{Keeps}
use Rattle.store_invocations.specs.Rows.{IsStoreOf}
use Rattle.store_invocations.proofs.Standing.{store_kept}
use Rattle.store_live.specs.declared.attempt.LiveAttempt.{LiveAttempt}
use Rattle.store_live.specs.Attempts.{ByInvocation, attempt_of, IsNow, ChangesLive, after_reserve}
use Rattle.store_live_laws.specs.LiveAttempts.{Agrees, does_record}
use Rattle.store_live_laws.proofs.Steps.{as_before, elsewhere, recorded}
use Rattle.store_live_laws.proofs.Begun.{invoked}
use Rattle.store_live.specs.ChangedRoom.{IsAsBefore, AreAsBefore}
use Rattle.store_live.specs.Rows.{AreNoted, row_after}
use Rattle.store_calls.specs.AbstractStore.{Standing}
use Rattle.journal_store.specs.StoreStanding.{Stands, HasRow, KeepsAll, KeepsOf}
use Rattle.journal_store.specs.Attempts.{IsNowNoted}
use Rattle.journal_store.proofs.Rows.{KeepsBy, agrees_noted, keeps_event, rows_before, rows_noted, rows_now, rows_still}

pub true_or_false : (b : Bool) → (b ≡ true) ⊎ (b ≡ false)
true_or_false true = inl refl
true_or_false false = inr refl

-- ---- records

all_kept : (events : List Event) (event : Event) (s : State) (writes : List Write) (trees : Trees) → Keeps events s → AreRead (event ∷ events) → causes_of events event ≡ []
    → writes ≡ writes_of events event → TurnsRecords (applied_all writes) s.now.trees trees → KeepsAll (event ∷ events) trees
all_kept events event s writes trees k read accepted are turns = record {
  read = read;
  records = applied_all writes k.records;
  held = turns k.records k.held;
  kept = subst (λ (ws : List Write). IsKept (event ∷ events) (applied_all ws k.records)) (sym are) (kept_after events event k.records k.accepted accepted k.kept);
}

-- what was made ready of an event was written
pub written : (events : List Event) (event : Event) (old new : State) (writes : List Write) → IsStoreOf events old → IsReadIn events event → HasCleanDisk old → causes_of events event ≡ []
    → writes ≡ writes_of events event → IsTrue old.is_open → TurnsRecords (applied_all writes) old.now.trees new.now.trees → IsStoreOf (event ∷ events) new
written events event old new writes store read clean accepted are is_open turns =
    let k = store.keeps clean is_open in
    let all = all_kept events event old writes new.now.trees k (read, store.read) accepted are turns in
    record {
      accepted = (accepted, store.accepted);
      read = (read, store.read);
      keeps = λ _ _. record { accepted = (accepted, store.accepted); records = all.records; held = all.held; kept = all.kept };
    }

-- and so it is where a crash comes
pub landed : (events : List Event) (event : Event) (old : State) (writes : List Write) (trees : Trees) → IsStoreOf events old → IsReadIn events event → HasCleanDisk old → causes_of events event ≡ []
    → writes ≡ writes_of events event → IsTrue old.is_open → TurnsRecords (applied_all writes) old.now.trees trees → KeepsAll (event ∷ events) trees
landed events event old writes trees store read clean accepted are is_open turns = all_kept events event old writes trees (store.keeps clean is_open) (read, store.read) accepted are turns

-- an event that writes nothing, of writes that keep what is recorded
pub stored_still : (events : List Event) (event : Event) (s : State) (writes : List Write) → IsStoreOf events s → IsReadIn events event → causes_of events event ≡ [] → writes ≡ []
    → ((r : Records) → IsAccepted events → IsKept events r → IsKept (event ∷ events) (applied_all writes r)) → IsStoreOf (event ∷ events) s
stored_still events event s writes store read accepted none keeps = record {
  accepted = (accepted, store.accepted);
  read = (read, store.read);
  keeps = λ clean is_open.
      let k = store.keeps clean is_open in
      record {
        accepted = (accepted, store.accepted);
        records = k.records;
        held = k.held;
        kept = subst (λ (ws : List Write). IsKept (event ∷ events) (applied_all ws k.records)) none (keeps k.records k.accepted k.kept);
      };
}

pub unwritten : (events : List Event) (event : Event) (s : State) → IsStoreOf events s → IsReadIn events event → causes_of events event ≡ [] → writes_of events event ≡ [] → IsStoreOf (event ∷ events) s
unwritten events event s store read accepted none =
    stored_still events event s (writes_of events event) store read accepted none (λ r before kept. kept_after events event r before accepted kept)

-- ---- attempts

-- of one invocation the attempt is as the event leaves it, and of the others it is as before
pub live_after : (events : List Event) (event : Event) (id : Text) (after : Option LiveAttempt) (old new : ByInvocation)
    → invocation_of event ≡ Some id → is_tick event ≡ false → IsAccepted (event ∷ events) → Agrees (event ∷ events) id after → IsNow id after old new
    → ((other : Text) → Agrees events other (attempt_of old other)) → (other : Text) → Agrees (event ∷ events) other (attempt_of new other)
live_after events event id after old new of_it no_tick accepted agrees now live other = elim (true_or_false (bytes_eq id other)) [
  | inl same ↦ subst (λ (o : Text). Agrees (event ∷ events) o (attempt_of new o)) ((bytes_eq-Decides id other).0 same)
      (subst (Agrees (event ∷ events) id) (sym now.own) agrees)
  | inr apart ↦ subst (Agrees (event ∷ events) other) (sym (now.others other apart))
      (elsewhere events event other (attempt_of old other) accepted (ap (is_text other) of_it ∙ apart) no_tick (live other))
]

pub stands_after : (events : List Event) (event : Event) (id : Text) (after : Option LiveAttempt) (database : State) (old new : ByInvocation)
    → invocation_of event ≡ Some id → is_tick event ≡ false → IsStoreOf (event ∷ events) database → Agrees (event ∷ events) id after → IsNow id after old new
    → ((other : Text) → Agrees events other (attempt_of old other)) → ((other : Text) → HasRow (event ∷ events) other (attempt_of new other)) → Stands (event ∷ events) database new
stands_after events event id after database old new of_it no_tick kept agrees now live rows =
    record { kept = kept; live = live_after events event id after old new of_it no_tick kept.accepted agrees now live; rows = rows }

-- and then what was written was taken in
pub stands_noted : (events : List Event) (event : Event) (id : Text) (after : Option LiveAttempt) (database : State) (old new : ByInvocation) (writes : List Write)
    → invocation_of event ≡ Some id → is_tick event ≡ false → IsStoreOf (event ∷ events) database → KeepsBy events event writes → Agrees (event ∷ events) id after → HasRow events id after
    → IsNowNoted writes id after old new → ((other : Text) → Agrees events other (attempt_of old other)) → ((other : Text) → HasRow events other (attempt_of old other))
    → Stands (event ∷ events) database new
stands_noted events event id after database old new writes of_it no_tick kept keeps agrees has (between, now, noted) live rows = record {
  kept = kept;
  live = agrees_noted (event ∷ events) writes between new noted (live_after events event id after old between of_it no_tick kept.accepted agrees now live);
  rows = rows_noted events event writes between new kept.accepted keeps noted (rows_now events id after old between now has rows);
}

-- what is recorded, of whichever invocation, leaves what is kept of each attempt, but of one that is to acknowledge it
pub stands_recorded : (events : List Event) (event : Event) (database : State) (old new : ByInvocation) (writes : List Write) → does_record event ≡ true
    → ((id : Text) → acknowledged (version_of events id) id event ≡ None) → IsStoreOf (event ∷ events) database → KeepsBy events event writes → AreNoted writes old new
    → ((other : Text) → Agrees events other (attempt_of old other)) → ((other : Text) → HasRow events other (attempt_of old other)) → Stands (event ∷ events) database new
stands_recorded events event database old new writes does plain kept keeps noted live rows = record {
  kept = kept;
  live = agrees_noted (event ∷ events) writes old new noted (λ id. recorded events event id (attempt_of old id) kept.accepted does (plain id) (live id));
  rows = rows_noted events event writes old new kept.accepted keeps noted rows;
}

-- ---- room

as_it_is : (o : Option LiveAttempt) → IsAsBefore o o
as_it_is None = tt
as_it_is (Some attempt) = refl

with_room_only : (o : Option LiveAttempt) → IsAsBefore o (option_map after_reserve o)
with_room_only None = tt
with_room_only (Some attempt) = refl

pub room_only : (id : Text) (old new : ByInvocation) → ChangesLive id after_reserve old new → AreAsBefore old new
room_only id old new room other = elim (true_or_false (bytes_eq id other)) [
  | inl same ↦ subst (λ (o : Text). IsAsBefore (attempt_of old o) (attempt_of new o)) ((bytes_eq-Decides id other).0 same)
      (subst (IsAsBefore (attempt_of old id)) (sym room.own) (with_room_only (attempt_of old id)))
  | inr apart ↦ subst (IsAsBefore (attempt_of old other)) (sym (room.others other apart)) (as_it_is (attempt_of old other))
]

pub agrees_still : (events : List Event) (id : Text) (one other : Option LiveAttempt) → IsAsBefore one other → Agrees events id one → Agrees events id other
agrees_still = as_before

-- the tables keep the same records where nothing was changed
pub store_still : (events : List Event) (old new : State) (P : Trees → Type 0) → Survives old new P → AreTablesKept old new → IsStoreOf events old → IsStoreOf events new
store_still events old new P lives asked store = record {
  accepted = store.accepted;
  read = store.read;
  keeps = λ clean is_open.
      let early : HasCleanDisk old = omega (arith, lives.clean, clean) in
      let it = asked clean is_open in
      let k = store.keeps early it.0 in
      record { accepted = k.accepted; records = k.records; held = subst (λ (d : Database). Holds d.trees k.records) (sym it.1) k.held; kept = k.kept };
}

-- what was made ready of an event was written, or there was nothing to write
pub all_stored : (events : List Event) (event : Event) (mid new : State) (P : Trees → Type 0) (writes : List Write) → Survives mid new P → HasCleanDisk new → IsStoreOf events mid → IsReadIn events event
    → causes_of events event ≡ [] → writes ≡ writes_of events event → HasWritten writes mid new → IsStoreOf (event ∷ events) new
all_stored events event mid new P writes lives clean store read accepted are (inl none) =
    unwritten events event new (store_still events mid new P lives none.1 store) read accepted (sym are ∙ none.0)
all_stored events event mid new P writes lives clean store read accepted are (inr all) =
    let early : HasCleanDisk mid = omega (arith, lives.clean, clean) in
    written events event mid new writes store read early accepted are all.0 all.1

-- a store stands as before
pub stands_still : (events : List Event) (old new : State) (P : Trees → Type 0) (attempts left : ByInvocation) → Survives old new P → AreTablesKept old new → AreAsBefore attempts left
    → Stands events old attempts → Stands events new left
stands_still events old new P attempts left lives asked same stands = record {
  kept = store_still events old new P lives asked stands.kept;
  live = λ id. agrees_still events id (attempt_of attempts id) (attempt_of left id) (same id) (stands.live id);
  rows = rows_before events attempts left same stands.rows;
}

-- the database was asked alone
pub stands_asked : (events : List Event) (old new : State) (attempts : ByInvocation) → Survives old new (λ _. ⊥) → AreTablesKept old new → Stands events old attempts → Stands events new attempts
stands_asked events old new attempts lives asked stands = record { kept = store_still events old new (λ _. ⊥) lives asked stands.kept; live = stands.live; rows = stands.rows }

-- of a new invocation no attempt is live, before and after
none_live : (events : List Event) (id : Text) (o : Option LiveAttempt) → live_attempt events id ≡ None → Agrees events id o → o ≡ None
none_live events id None none agrees = refl
none_live events id (Some attempt) none agrees = cc

pub stands_invoked : (events : List Event) (new : NewInvocation) (database : State) (attempts : ByInvocation) → causes_of events (Event.Invoke new) ≡ []
    → IsAccepted events → IsStoreOf (Event.Invoke new ∷ events) database → ((id : Text) → Agrees events id (attempt_of attempts id)) → ((id : Text) → HasRow events id (attempt_of attempts id))
    → Stands (Event.Invoke new ∷ events) database attempts
stands_invoked events new database attempts accepted before kept live rows =
    let both = invoked events new before accepted in
    stands_after events (Event.Invoke new) new.id None database attempts attempts refl refl kept both.1
    (record { own = none_live events new.id (attempt_of attempts new.id) both.0 (live new.id); others = λ other apart. refl }) live
    (rows_still events (Event.Invoke new) (writes_of events (Event.Invoke new)) attempts kept.accepted (keeps_event events (Event.Invoke new) (writes_of events (Event.Invoke new)) accepted refl)
    (λ id row. no_progress id row (object_of events (Event.Invoke new))) rows)
  where
    no_progress : (id : Text) (row : InvocationRow) (object : Option Text) → row_after id (state_writes object []) row ≡ row
    no_progress id row None = refl
    no_progress id row (Some object) = refl

-- ---- crashes

-- what one transaction of an event leaves where a crash comes, if what it writes was made ready before
pub commits_after : (R : Standing → Standing → Type 0) (old mid new : State) (event : Event) (writes : List Write) → ((events : List Event) → IsReadIn events event)
    → ((s : Standing) → causes_of s.events event ≡ [] → (t : Standing) × R s t) → ((s t : Standing) → R s t → t.events ≡ event ∷ s.events)
    → Survives old mid (λ _. ⊥) → AreTablesKept old mid → Survives mid new (Lands writes mid)
    → (HasCleanDisk mid → (events : List Event) → IsStoreOf events old → (causes_of events event ≡ []) × (writes ≡ writes_of events event))
    → Survives old new (KeepsOf (λ (s : Standing). IsStoreOf s.events old) R)
commits_after R old mid new event writes read made adds before asked lives ready =
    survives_then old mid new (λ _. ⊥) (Lands writes mid) (KeepsOf (λ (s : Standing). IsStoreOf s.events old) R) (λ _ db none. absurd none)
    (λ clean db lands s kept.
    let early : HasCleanDisk mid = omega (arith, lives.clean, clean) in
    let is = ready early s.events kept in
    let store = store_kept s.events old mid before asked kept in
    let all = landed s.events event mid writes db store (read s.events) early is.0 is.1 lands.0 lands.1 in
    let to = made s is.0 in
    (to.0, to.1, subst (λ (events : List Event). KeepsAll events db) (sym (adds s to.0 to.1)) all))
    before lives
