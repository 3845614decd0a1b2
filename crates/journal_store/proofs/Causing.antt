-- The cause that a call passes on where the database refused a statement.
use Rattle.std.proofs.Common.{◌≡◌, ◌⊎◌, ℕ, refl, subst, inl, inr, List, Option, IsSome, Some, None, Result, Ok, Err, IfErr, IfSome, IsTrue, arith}
use Rattle.sqlite_trees.specs.Tree.{Trees}
use Rattle.sqlite_trees.specs.declared.store.Store.{Ghosts}
use Rattle.sqlite.specs.Effect.{Database}
use Rattle.sqlite.specs.Held.{Held, state}
use Rattle.sqlite.specs.State.{State, HasCleanDisk, Survives}
use Rattle.sqlite.specs.declared.error.Error.{Error}
use Rattle.sqlite.specs.declared.error.Error.TheVariants.{SqliteFailure}
use Rattle.sqlite.specs.declared.error.ErrorCode.TheVariants as code
use Rattle.sql_tables.specs.QueryAnswers.{AreTablesKept}
use Rattle.sql_tables.specs.Causes.{AreRefused, IsCause, IsCauseToWrite}
use Rattle.sql_tables.specs.Refusals.{has_no_place}
use Rattle.sql_tables.proofs.Causes.{cause_later}
use Rattle.journal_model.specs.Notification.{Text}
use Rattle.journal_model.specs.Event.{Event}
use Rattle.store_tables.specs.Looks.{OnlyAsks}
use Rattle.store_tables.specs.Steps.{IsStore, Lands}
use Rattle.store_tables.specs.Statements.{statements_of_all}
use Rattle.store_tables.specs.declared.row.Write.{Write}
use Rattle.store_tables.proofs.Ruled.{rules_refuse}
use Rattle.store_refusals.specs.declared.refusal.Refusal.{Refusal}
use Rattle.store_invocations.specs.ForgottenRows.{forgetting_writes_of_all}
use Rattle.store_invocations.specs.Rows.{IsStoreOf}
use Rattle.store_calls.specs.AbstractStore.{Standing}
use Rattle.journal_store.specs.StoreView.{Stored}
use Rattle.journal_store.specs.StoreStanding.{IsStanding, KeepsAll, Leads}
use Rattle.journal_store.specs.StoreTransaction.{WritesRows}
use Rattle.journal_store.specs.Causes.{AreWritesOf, AskingWantsMemory, ForgettingWantsMemory, RefusesEvent, RefusesForgetting, RefusesTried, RunsWell, TellsWhy, TellsWhyUnforgotten, TellsWhyUnwritten, Tries, TriesEvent, WritingWantsMemory}
use Rattle.journal_store.proofs.Standing.{store_still}

-- a question that is refused, of a call that writes
pub asked_unwritten : {S : Type 0} (g : Ghosts S) (Tried : Tries) (old new : Stored S) (why : Refusal) → TellsWhy g old new why → TellsWhyUnwritten g old new Tried why
asked_unwritten g Tried old new why tells clean cause is = inl (tells clean cause is)

-- ---- what is written of an event

-- an open store that keeps the events has them in its tables
pub all_held : (events : List Event) (s : State) → IsStoreOf events s → HasCleanDisk s → IsTrue s.is_open → KeepsAll events s.now.trees
all_held events s store clean opened =
    let k = store.keeps clean opened in
    record { read = store.read; records = k.records; held = k.held; kept = k.kept }

-- whatever the store stood for, these are the writes of the event that is tried then
abbrev pub AreTried : {S : Type 0} → Ghosts S → Tries → Held S → Stored S → List Write → Type 0
AreTried g Tried mid old writes =
    HasCleanDisk (state g mid) → (s : Standing) → IsStanding g s old → (event : Event) × Tried s s event × AreWritesOf s.events event writes

module _ {S : Type 0} (g : Ghosts S) (Tried : Tries) (mid : Held S) (old new : Stored S) (writes : List Write) (looks : OnlyAsks g old.connection mid) (tried : AreTried g Tried mid old writes) where
  refuses_tried : (cause : Error) → IsStore (state g mid) → HasCleanDisk (state g mid) → HasCleanDisk (state g new.connection) → AreTablesKept (state g mid) (state g new.connection) → IsTrue (state g mid).is_open
      → AreRefused (state g mid).step_limit (statements_of_all writes) (state g mid).now cause → RefusesTried g Tried old new cause
  refuses_tried cause tables early clean undone opened refused = record {
    before = (state g mid).now;
    left = λ is_open. (undone clean is_open).1;
    refuses = λ s is.
        let it = tried early s is in
        let store = store_still s.events (state g old.connection) (state g mid) (λ _. ⊥) looks.crash looks.kept is.stands.kept in (
          s,
          it.0,
          it.1,
          record {
            schema = tables early opened;
            keeps = all_held s.events (state g mid) store early opened;
            writes = writes;
            are = it.2;
            refused = subst (λ (limit : Option ℕ). AreRefused limit (statements_of_all writes) (state g mid).now cause) looks.crash.limit refused;
          },
        );
  }

  tried_cause : (cause : Error) → IsStore (state g mid) → HasCleanDisk (state g new.connection) → Survives (state g mid) (state g new.connection) (Lands writes (state g mid)) → AreTablesKept (state g mid) (state g new.connection)
      → IsCauseToWrite (statements_of_all writes) (state g mid) (state g new.connection) cause → IsCause (state g old.connection) (state g new.connection) cause ⊎ RefusesTried g Tried old new cause
  unfolding IsCauseToWrite
  tried_cause cause tables clean lives undone (inl own) =
      inl (cause_later (state g old.connection) (state g mid) (state g new.connection) (λ _. ⊥) (Lands writes (state g mid)) cause looks.crash lives clean own)
  tried_cause cause tables clean lives undone (inr (opened, refused)) = inr (refuses_tried cause tables (omega (arith, lives.clean, clean)) clean undone opened refused)

  -- they are written behind a question, or refused
  pub tried_by : {A : Type 0} (result : Result A Refusal) → WritesRows g writes mid new.connection result → IfErr result (TellsWhyUnwritten g old new Tried)
  tried_by (Ok answer) wrote = tt
  tried_by (Err why) wrote = λ clean cause is. tried_cause cause (wrote.why.store cause is) clean wrote.crash wrote.undone (wrote.why.cause clean cause is)

-- those of one event
pub event_tried : {S A : Type 0} (g : Ghosts S) (event : Event) (mid : Held S) (old new : Stored S) (writes : List Write) (result : Result A Refusal) → OnlyAsks g old.connection mid
    → (HasCleanDisk (state g mid) → (events : List Event) → IsStoreOf events (state g old.connection) → AreWritesOf events event writes) → WritesRows g writes mid new.connection result
    → IfErr result (TellsWhyUnwritten g old new (TriesEvent event))
event_tried g event mid old new writes result looks are wrote =
    tried_by g (TriesEvent event) mid old new writes looks (λ clean s is. (event, (refl, refl), are clean s.events is.stands.kept)) result wrote

-- ---- what removes rows

module _ {S : Type 0} (g : Ghosts S) (mid : Held S) (old new : Stored S) (ids : List Text) (writes : List Write) (looks : OnlyAsks g old.connection mid) (are : writes ≡ forgetting_writes_of_all ids) where
  refuses_forgetting : (cause : Error) → IsStore (state g mid) → HasCleanDisk (state g mid) → HasCleanDisk (state g new.connection) → AreTablesKept (state g mid) (state g new.connection) → IsTrue (state g mid).is_open
      → AreRefused (state g mid).step_limit (statements_of_all writes) (state g mid).now cause → RefusesForgetting g old new ids cause
  refuses_forgetting cause tables early clean undone opened refused = record {
    before = (state g mid).now;
    left = λ is_open. (undone clean is_open).1;
    refuses = λ s is.
        let store = store_still s.events (state g old.connection) (state g mid) (λ _. ⊥) looks.crash looks.kept is.stands.kept in
        record {
          schema = tables early opened;
          keeps = all_held s.events (state g mid) store early opened;
          refused =
              subst (λ (some : List Write). AreRefused (state g old.connection).step_limit (statements_of_all some) (state g mid).now cause) are
              (subst (λ (limit : Option ℕ). AreRefused limit (statements_of_all writes) (state g mid).now cause) looks.crash.limit refused);
        };
  }

  forgetting_cause : (cause : Error) → IsStore (state g mid) → HasCleanDisk (state g new.connection) → Survives (state g mid) (state g new.connection) (Lands writes (state g mid)) → AreTablesKept (state g mid) (state g new.connection)
      → IsCauseToWrite (statements_of_all writes) (state g mid) (state g new.connection) cause → IsCause (state g old.connection) (state g new.connection) cause ⊎ RefusesForgetting g old new ids cause
  unfolding IsCauseToWrite
  forgetting_cause cause tables clean lives undone (inl own) =
      inl (cause_later (state g old.connection) (state g mid) (state g new.connection) (λ _. ⊥) (Lands writes (state g mid)) cause looks.crash lives clean own)
  forgetting_cause cause tables clean lives undone (inr (opened, refused)) = inr (refuses_forgetting cause tables (omega (arith, lives.clean, clean)) clean undone opened refused)

  pub forgetting_tried : {A : Type 0} (result : Result A Refusal) → WritesRows g writes mid new.connection result → IfErr result (TellsWhyUnforgotten g old new ids)
  forgetting_tried (Ok answer) wrote = tt
  forgetting_tried (Err why) wrote = λ clean cause is. forgetting_cause cause (wrote.why.store cause is) clean wrote.crash wrote.undone (wrote.why.cause clean cause is)

-- a question that is refused
pub asked_unforgotten : {S : Type 0} (g : Ghosts S) (old new : Stored S) (ids : List Text) (why : Refusal) → TellsWhy g old new why → TellsWhyUnforgotten g old new ids why
asked_unforgotten g old new ids why tells clean cause is = inl (tells clean cause is)

-- ---- behind what was done before

module _ {S : Type 0} (g : Ghosts S) (Between : Standing → Standing → Type 0) (Inner Outer : Tries) (first old new : Stored S) (C D : Trees → Type 0)
    (earlier : Survives (state g first.connection) (state g old.connection) C) (then : Survives (state g old.connection) (state g new.connection) D) (leads : Leads g Between first old)
    (so : (s m at : Standing) (event : Event) → Between s m → Inner m at event → Outer s at event) where
  cause_behind : (cause : Error) → HasCleanDisk (state g new.connection) → IsCause (state g old.connection) (state g new.connection) cause ⊎ RefusesTried g Inner old new cause
      → IsCause (state g first.connection) (state g new.connection) cause ⊎ RefusesTried g Outer first new cause
  cause_behind cause clean (inl own) = inl (cause_later (state g first.connection) (state g old.connection) (state g new.connection) C D cause earlier then clean own)
  cause_behind cause clean (inr it) = inr (record {
    before = it.before;
    left = it.left;
    refuses = λ s is.
        let m = leads (omega (arith, then.clean, clean)) s is in
        let tried = it.refuses m.0 m.1 in (
          tried.0,
          tried.1,
          so s m.0 tried.0 tried.1 m.2 tried.2,
          record {
            schema = tried.3.schema;
            keeps = tried.3.keeps;
            writes = tried.3.writes;
            are = tried.3.are;
            refused = subst (λ (limit : Option ℕ). AreRefused limit (statements_of_all tried.3.writes) it.before cause) earlier.limit tried.3.refused;
          },
        );
  })

  pub tried_behind : (why : Refusal) → TellsWhyUnwritten g old new Inner why → TellsWhyUnwritten g first new Outer why
  tried_behind why tells clean cause is = cause_behind cause clean (tells clean cause is)

  pub frame_behind : (refused : Option Refusal) → IfSome refused (TellsWhyUnwritten g old new Inner) → IfSome refused (TellsWhyUnwritten g first new Outer)
  frame_behind None tells = tt
  frame_behind (Some why) tells = tried_behind why tells

-- ---- over a connection that runs well

cause_wants : (old new : State) (cause : Error) → RunsWell old new → IsCause old new cause → cause ≡ SqliteFailure code.OutOfMemory
unfolding IsCause
cause_wants old new cause runs (inl memory) = memory
cause_wants old new cause runs (inr (inl disk)) = absurd (runs.works disk.1)
cause_wants old new cause runs (inr (inr (inl shut))) = absurd (runs.works (shut.1 runs.was_open))
cause_wants old new cause runs (inr (inr (inr limit))) = let none : IsSome {T = ℕ} None = subst (λ (o : Option ℕ). IsSome o) runs.unlimited limit.1 in cc

pub asking_wants : {S : Type 0} (g : Ghosts S) → AskingWantsMemory g
asking_wants g old new runs why tells cause is =
    cause_wants (state g old.connection) (state g new.connection) cause runs (tells runs.clean cause is)

-- where SQL's rules refuse a statement of an event, a row finds no place
without_place : (limit : Option ℕ) → limit ≡ None → (events : List Event) (event : Event) (before : Database) (cause : Error) → RefusesEvent limit events event before cause → IsTrue (has_no_place cause)
without_place limit unlimited events event before cause it = elim (rules_refuse limit it.writes before it.keeps.records cause it.schema it.keeps.held it.refused) [
  | inl place ↦ place
  | inr met ↦ let none : IsSome {T = ℕ} None = subst (λ (o : Option ℕ). IsSome o) unlimited met.1 in absurd cc
]

pub writing_wants : {S : Type 0} (g : Ghosts S) (Tried : Tries) → WritingWantsMemory g Tried
writing_wants g Tried old new runs s is why tells cause refused = elim (tells runs.clean cause refused) [
  | inl own ↦ inl (cause_wants (state g old.connection) (state g new.connection) cause runs own)
  | inr it ↦
      let tried = it.refuses s is in
      inr (without_place (state g old.connection).step_limit runs.unlimited tried.0.events tried.1 it.before cause tried.3, it)
]

pub forgetting_wants : {S : Type 0} (g : Ghosts S) → ForgettingWantsMemory g
forgetting_wants g old new runs s is ids why tells cause refused = elim (tells runs.clean cause refused) [
  | inl own ↦ inl (cause_wants (state g old.connection) (state g new.connection) cause runs own)
  | inr it ↦
      let removal = it.refuses s is in
      inr (
        elim (rules_refuse (state g old.connection).step_limit (forgetting_writes_of_all ids) it.before removal.keeps.records cause removal.schema removal.keeps.held removal.refused) [
          | inl place ↦ place
          | inr met ↦ let none : IsSome {T = ℕ} None = subst (λ (o : Option ℕ). IsSome o) runs.unlimited met.1 in absurd cc
        ],
        it,
      )
]
