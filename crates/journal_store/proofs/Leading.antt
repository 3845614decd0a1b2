-- What the store's calls do to what it stands for.
use Rattle.std.proofs.Common.{◌≡◌, refl, sym, ap, ◌∙◌, ℕ, ◌+◌, length, List, [], ◌∷◌, Option, Some, None, is_some, option_map, Result, Ok, Err}
use Rattle.sqlite_trees.specs.declared.store.Store.{Ghosts}
use Rattle.sqlite.specs.Held.{state}
use Rattle.sqlite.specs.State.{State, HasCleanDisk}
use Rattle.journal_model.specs.Notification.{Bytes, Text}
use Rattle.journal_model.specs.Spelling.{frame_bytes}
use Rattle.journal_model.specs.Event.{Event}
use Rattle.journal_model.specs.Journal.{version_of, entries_of}
use Rattle.journal_model.specs.Attempt.{attempts_begun, live_attempt}
use Rattle.journal_model.specs.Start.{start_payload}
use Rattle.journal_model.specs.Cause.{causes_of}
use Rattle.protocol_types.specs.declared.message_type.MessageType.{MessageType}
use Rattle.protocol_types.specs.Version.{version_number}
use Rattle.store_refusals.specs.declared.refusal.Refusal.{Refusal}
use Rattle.store_refusals.specs.RefusalConditions.{IsRefused}
use Rattle.store_live.specs.declared.attempt.LiveAttempt.{LiveAttempt}
use Rattle.store_live.specs.Attempts.{ByInvocation, attempt_of}
use Rattle.store_live_laws.specs.LiveAttempts.{Agrees}
use Rattle.store_calls.specs.declared.begun.BegunAttempt.{BegunAttempt}
use Rattle.store_calls.specs.AbstractStore.{Standing, StaysStanding, Adds, LeavesWaiting, Refuses}
use Rattle.store_calls.specs.Calls.{TakesPlace, BeginsAttempt}
use Rattle.journal_store.specs.StoreView.{Stored}
use Rattle.journal_store.specs.StoreStanding.{Stands, IsStanding, Leads, output_of, KeepsOutputs, WaitsNow, WaitsAfter}

-- An event is accepted, and the store stands for it too; or it is refused, for the least of its causes or for a circumstance, and
-- the store stands as before.
abbrev pub Does : {A : Type 0} → List Event → Event → (A → Type 0) → Result A Refusal → State → ByInvocation → Type 0
Does events event IsAnswer (Ok answer) database attempts = (causes_of events event ≡ []) × IsAnswer answer × Stands (event ∷ events) database attempts
Does events event IsAnswer (Err why) database attempts = IsRefused (causes_of events event) why × Stands events database attempts

-- what a begin answers
pub record IsBegunAttempt (events : List Event) (id : Text) (now : ℕ) (begun : BegunAttempt) : Type 0 where
  pub number : begun.number ≡ 1 + attempts_begun events id
  pub version : version_number begun.version ≡ version_of events id
  pub start : begun.start ≡ frame_bytes MessageType.Start (start_payload events id now)

live_alike : (events : List Event) (id : Text) (o : Option LiveAttempt) → Agrees events id o
    → is_some (option_map (λ (attempt : LiveAttempt). attempt.output) o) ≡ is_some (live_attempt events id)
live_alike events id None agrees = ap is_some (sym agrees)
live_alike events id (Some attempt) agrees = ap is_some (sym agrees.number)

module _ {S : Type 0} (g : Ghosts S) where
  -- a store that stands for these events
  pub record IsStood (events : List Event) (store : Stored S) (t : Standing) : Type 0 where
    pub standing : IsStanding g t store
    pub same : t.events ≡ events

  pub stood : (events : List Event) (store : Stored S) → Stands events (state g store.connection) store.live.attempts → (t : Standing) × IsStood events store t
  stood events store stands = (
    record {
      events = events;
      accepted = stands.kept.accepted;
      outputs = output_of store.live.attempts;
      live = λ id. live_alike events id (attempt_of store.live.attempts id) (stands.live id);
    },
    record { standing = record { stands = stands; outputs = λ id. refl }; same = refl },
  )

  -- what is said in another way
  pub leads_so : (P Q : Standing → Standing → Type 0) (old new : Stored S) → ((s t : Standing) → P s t → Q s t) → Leads g P old new → Leads g Q old new
  leads_so P Q old new so leads clean s is = let it = leads clean s is in (it.0, it.1, so s it.0 it.2)

module _ {S : Type 0} (g : Ghosts S) (s : Standing) (old new : Stored S) (is : IsStanding g s old) where
  -- the store stands for something that is in this relation to it
  abbrev pub Then : (Standing → Type 0) → Type 0
  Then Relation = (t : Standing) × IsStanding g t new × Relation t

  abbrev Now : List Event → Type 0
  Now events = Stands events (state g new.connection) new.live.attempts

  pub adds : (event : Event) → Now (event ∷ s.events) → KeepsOutputs old.live.attempts new.live.attempts → Then (Adds event s)
  adds event stands keeps =
      let it = stood g (event ∷ s.events) new stands in
      (it.0, it.1.standing, record { events = it.1.same; outputs = λ id. it.1.standing.outputs id ∙ keeps id ∙ sym (is.outputs id) })

  pub stays : Now s.events → KeepsOutputs old.live.attempts new.live.attempts → Then (StaysStanding s)
  stays stands keeps =
      let it = stood g s.events new stands in
      (it.0, it.1.standing, record { events = it.1.same; outputs = λ id. it.1.standing.outputs id ∙ keeps id ∙ sym (is.outputs id) })

  pub leaves : (event : Event) (id : Text) (output : Option Bytes) → Now (event ∷ s.events) → WaitsNow id output old.live.attempts new.live.attempts → Then (LeavesWaiting event id output s)
  leaves event id output stands waits =
      let it = stood g (event ∷ s.events) new stands in (
        it.0,
        it.1.standing,
        record {
          events = it.1.same;
          own = it.1.standing.outputs id ∙ waits.own;
          others = λ other apart. it.1.standing.outputs other ∙ waits.others other apart ∙ sym (is.outputs other);
        },
      )

  -- nothing was done
  pub refuses : (event : Event) (why : Refusal) → IsRefused (causes_of s.events event) why → Now s.events → KeepsOutputs old.live.attempts new.live.attempts → Then (Refuses event why s)
  refuses event why cause stands keeps = let it = stays stands keeps in (it.0, it.1, record { cause = cause; stays = it.2 })

module _ {S : Type 0} (g : Ghosts S) (old new : Stored S) where
  pub arrives : (event : Event) (id : Text) (result : Result ℕ Refusal)
      → (HasCleanDisk (state g new.connection) → (events : List Event) → Stands events (state g old.connection) old.live.attempts
      → Does events event (λ place. place ≡ 1 + length (entries_of events id)) result (state g new.connection) new.live.attempts)
      → KeepsOutputs old.live.attempts new.live.attempts → Leads g (TakesPlace event id result) old new
  arrives event id (Ok place) does keeps clean s is =
      let did = does clean s.events is.stands in
      let it = adds g s old new is event did.2 keeps in
      (it.0, it.1, (did.1, it.2))
  arrives event id (Err why) does keeps clean s is =
      let did = does clean s.events is.stands in
      refuses g s old new is event why did.0 did.1 keeps

  pub begins : (id : Text) (now : ℕ) (result : Result BegunAttempt Refusal)
      → (HasCleanDisk (state g new.connection) → (events : List Event) → Stands events (state g old.connection) old.live.attempts
      → Does events (Event.Begin id now) (IsBegunAttempt events id now) result (state g new.connection) new.live.attempts)
      → WaitsAfter id (Some []) result old.live.attempts new.live.attempts → Leads g (BeginsAttempt id now result) old new
  begins id now (Ok begun) does waits clean s is =
      let did = does clean s.events is.stands in
      let it = leaves g s old new is (Event.Begin id now) id (Some []) did.2 waits in
      (it.0, it.1, record { number = did.1.number; version = did.1.version; start = did.1.start; leaves = it.2 })
  begins id now (Err why) does waits clean s is =
      let did = does clean s.events is.stands in
      refuses g s old new is (Event.Begin id now) why did.0 did.1 waits
