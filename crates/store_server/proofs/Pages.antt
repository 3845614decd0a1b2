-- A page of invocations, by their rows and the attempts in memory.
use Rattle.std.proofs.Common.{◌≡◌, ℕ, Bool, List, [], ◌∷◌, map, Option, Some, None, Result, Ok, Err, refl, sym, ap, subst, ◌∙◌}
use Rattle.std.specs.Prelude.{is_some, option_map}
use Rattle.std.specs.List.{AllByRecursion}
use Rattle.sqlite_trees.specs.declared.store.Store.{Ghosts}
use Rattle.sqlite.specs.Held.{state}
use Rattle.sqlite.specs.State.{HasCleanDisk}
use Rattle.journal_model.specs.Notification.{Text}
use Rattle.journal_model.specs.Event.{Event}
use Rattle.journal_model.specs.Attempt.{live_attempt}
use Rattle.store_refusals.specs.declared.refusal.Refusal.{Refusal}
use Rattle.store_refusals.specs.Preparations.{TellsOrRefuses}
use Rattle.store_tables.specs.declared.row.InvocationRow.{InvocationRow}
use Rattle.store_invocations.specs.InvocationAnswers.{answer_told}
use Rattle.store_live.specs.declared.attempt.LiveAttempt.{LiveAttempt}
use Rattle.store_live.specs.Attempts.{ByInvocation, attempt_of}
use Rattle.store_reads.specs.Page.{invocations_after}
use Rattle.store_calls.specs.AbstractStore.{Standing}
use Rattle.journal_store.specs.StoreView.{Stored}
use Rattle.journal_store.specs.StoreStanding.{IsQuiet, IsStanding, Stands}
use Rattle.store_server.specs.declared.rows.ListedInvocation.{ListedInvocation}
use Rattle.store_server.specs.Rows.{IsBegunRow, ListsRows, answer_kind, listed_by, listed_of, row_status}
use Rattle.store_server.specs.StoreChanges.{CommitsNothing, ReachesStore, Tells}
use Rattle.store_server.specs.RequestAnswers.{Shown}
use Rattle.store_server.proofs.AnswerKinds.{page_begun}
use Rattle.store_server.proofs.Reaching.{reaches_both, reaches_told}

map_as : {A B : Type 0} (f h : A → B) → ((x : A) → f x ≡ h x) → (xs : List A) → map f xs ≡ map h xs
map_as f h same [] = refl
map_as f h same (x ∷ xs) = λ i. same x i ∷ map_as f h same xs i

has_output : (o : Option LiveAttempt) → is_some (option_map (λ (attempt : LiveAttempt). attempt.output) o) ≡ is_some o
has_output None = refl
has_output (Some attempt) = refl

-- the attempts in memory are those that are live
abbrev AreLive : ByInvocation → List Event → Type 0
AreLive attempts events = (id : Text) → is_some (attempt_of attempts id) ≡ is_some (live_attempt events id)

listed_alike : (attempts : ByInvocation) (events : List Event) → AreLive attempts events → (row : InvocationRow) → listed_by attempts events row ≡ listed_of events row
listed_alike attempts events live row =
    ap (λ (now : Bool). record { row = row; status = row_status row now; answer = answer_kind (answer_told events row.id) }) (live row.id)

module _ {S : Type 0} (g : Ghosts S) where
  are_live : (t : Standing) (b : Stored S) → IsStanding g t b → (events : List Event) → t.events ≡ events → AreLive b.live.attempts events
  are_live t b is events same id =
      sym (has_output (attempt_of b.live.attempts id))
      ∙ ap is_some (sym (is.outputs id))
      ∙ t.live id
      ∙ ap (λ (es : List Event). is_some (live_attempt es id)) same

  module _ (after : Text) (most : ℕ) (rows : List InvocationRow) (a b : Stored S) where
    abbrev IsPage : List Event → List ListedInvocation → Type 0
    IsPage events page = page ≡ map (listed_of events) (invocations_after events (Some after) most)

    abbrev AreRows : List Event → Type 0
    AreRows events = rows ≡ invocations_after events (Some after) most

    abbrev AreRead : List Event → Type 0
    AreRead events = AreRows events × AreLive b.live.attempts events

    rows_read : IsQuiet g a b → b.live ≡ a.live
        → (HasCleanDisk (state g b.connection) → (events : List Event) → Stands events (state g a.connection) a.live.attempts → AreRows events × Stands events (state g b.connection) b.live.attempts)
        → ReachesStore g CommitsNothing (Shown AreRead) a b
    rows_read quiet same tells =
        let told = reaches_told g a b quiet same AreRows tells in
        record {
          crash = told.crash;
          leads = λ clean s is. let it = told.leads clean s is in (it.0, it.1, ((it.2.0, are_live it.0 b it.1 s.events it.2.1.events), it.2.1));
        }

    all_begun : (events : List Event) → AreRows events → AllByRecursion (IsBegunRow events) rows
    all_begun events are = subst (AllByRecursion (IsBegunRow events)) (sym are) (page_begun events after most)

    page_of : (events : List Event) → AreRead events → (result : Result (List ListedInvocation) Refusal) → ListsRows b.live.attempts rows result events → TellsOrRefuses (IsPage events) result
    page_of events read (Ok page) lists =
        lists (all_begun events read.0)
        ∙ map_as (listed_by b.live.attempts events) (listed_of events) (listed_alike b.live.attempts events read.1) rows
        ∙ ap (map (listed_of events)) read.0
    page_of events read (Err why) lists = lists (all_begun events read.0)

    pub page_told : IsQuiet g a b → b.live ≡ a.live
        → (HasCleanDisk (state g b.connection) → (events : List Event) → Stands events (state g a.connection) a.live.attempts → AreRows events × Stands events (state g b.connection) b.live.attempts)
        → (c : Stored S) (result : Result (List ListedInvocation) Refusal) → ReachesStore g CommitsNothing (Shown (ListsRows b.live.attempts rows result)) b c
        → ReachesStore g CommitsNothing (Tells IsPage result) a c
    page_told quiet same tells c result listed =
        reaches_both g AreRead (ListsRows b.live.attempts rows result) (λ events. TellsOrRefuses (IsPage events) result) a b c (λ events p q. page_of events p result q) (rows_read quiet same tells) listed
