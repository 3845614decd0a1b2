-- What a call of the store has answered lasts.
use Rattle.std.proofs.Common.{◌≡◌, ◌≢◌, ◌⊎◌, ℕ, List, [], ◌∷◌, Option, Some, None, Result, Ok, Err, refl, inl, inr}
use Rattle.std.specs.Prelude.{IfOk, OnOk}
use Rattle.sqlite_trees.specs.declared.store.Store.{Ghosts}
use Rattle.sqlite_trees.specs.Tree.{Trees}
use Rattle.sqlite.specs.Held.{state}
use Rattle.journal_model.specs.Notification.{Bytes, Text}
use Rattle.server_lines.specs.declared.request.Request.{Request}
use Rattle.server_lines.specs.declared.request.Request.TheVariants as request
use Rattle.store_refusals.specs.declared.refusal.Refusal.{Refusal}
use Rattle.store_steps.specs.declared.frame.FrameReply.{FrameReply}
use Rattle.store_calls.specs.AbstractStore.{Standing}
use Rattle.store_calls.specs.Calls.{PutsBehind}
use Rattle.store_calls.specs.Forgetting.{Forgets, LeavesOthers}
use Rattle.store_calls.specs.Frames.{Accepts, AcceptsFirst, TakesEach}
use Rattle.journal_store.specs.declared.accept.Accepted.{Accepted}
use Rattle.journal_store.specs.OutputAcceptance.{OutlastsFrames, SettlesFrames, accepted_told}
use Rattle.journal_store.specs.StoreView.{Stored}
use Rattle.journal_store.specs.StoreStanding.{Endures, EnduresAlways, IsQuiet, KeepsAll, Leads, Settles}
use Rattle.journal_store.proofs.Enduring.{always_endures, quiet_endures}
use Rattle.store_server.specs.StoreChanges.{AnswersFor, CommitsNothing, LeavesKept, ReachesStore}
use Rattle.store_server.specs.RequestAnswers.{Answers, CutsRequest, DoesRequest, MakesAnswer, answer_text, done_line, taken_line}
use Rattle.store_server.specs.Lasting.{AnswersRequest, IsRefusalLine, IsUnwritten, KeepsFrames, KeepsRequest}
use Rattle.store_server.proofs.Reaching.{stays}

module _ {S : Type 0} (g : Ghosts S) (old new : Stored S) where
  -- what was done lasts, or it was refused
  lasts_done : {A : Type 0} (told : A → List ℕ) (Call : Result A Refusal → Standing → Standing → Type 0) (answer : Result A Refusal) → OnOk answer (Settles g (Call answer) old new)
      → IsRefusalLine (answer_text told answer) ⊎ LeavesKept g ⊥ (Answers told Call (answer_text told answer)) old new
  lasts_done told Call (Ok it) settled = inr (λ clean trees may. inr (λ s is.
      let to = settled clean s is in (to.0, record { answer = Ok it; call = to.2; text_is = refl }, to.3 trees may)))
  lasts_done told Call (Err why) settled = inl (why, refl)

  lasts_forgotten : (ids : List Text) (answer : Result (Unit {0}) Refusal) → (ids ≢ [] → OnOk answer (Settles g (Forgets ids answer) old new))
      → (IsRefusalLine (answer_text done_line answer) ⊎ (ids ≡ [])) ⊎ LeavesKept g ⊥ (Answers done_line (Forgets ids) (answer_text done_line answer)) old new
  lasts_forgotten [] answer settled = inl (inr refl)
  lasts_forgotten (id ∷ ids) answer settled =
      elim (lasts_done done_line (Forgets (id ∷ ids)) answer (settled (λ none. cc))) [ inl refused ↦ inl (inl refused) | inr lasts ↦ inr lasts ]

  module _ (id : Text) (attempt : ℕ) (bytes : Bytes) where
    frames_kept : (replies : List FrameReply) (why : Option Refusal) (s m t : Standing) → PutsBehind id attempt bytes s m → TakesEach id attempt replies m t → (trees : Trees)
        → OutlastsFrames id attempt why t (state g new.connection) → (state g new.connection).may_leave trees
        → (u : Standing) × KeepsFrames id attempt bytes (taken_line (replies, why)) s u × KeepsAll u.events trees
    frames_kept replies None s m t puts taken trees lasts may = (
      t,
      record { replies = replies; why = None; text_is = refl; pushed = m; puts = puts; between = t; taken = taken; rest = inl (stays t) },
      lasts trees may,
    )
    frames_kept replies (Some why) s m t puts taken trees lasts may = elim (lasts trees may) [
      | inl kept ↦ (
        t,
        record { replies = replies; why = Some why; text_is = refl; pushed = m; puts = puts; between = t; taken = taken; rest = inl (stays t) },
        kept,
      )
      | inr next ↦ (
        next.0,
        record { replies = replies; why = Some why; text_is = refl; pushed = m; puts = puts; between = t; taken = taken; rest = inr (refl, next.1) },
        next.2,
      )
    ]

    lasts_frames : (replies : List FrameReply) (why : Option Refusal) → SettlesFrames g (PutsBehind id attempt bytes) id attempt replies why old new
        → (IsRefusalLine (taken_line (replies, why)) ⊎ ((other : Option Refusal) × (taken_line (replies, why) ≡ taken_line ([], other))))
        ⊎ LeavesKept g ⊥ (KeepsFrames id attempt bytes (taken_line (replies, why))) old new
    lasts_frames [] why settled = inl (inr (why, refl))
    lasts_frames (reply ∷ replies) why settled = inr (λ clean trees may. inr (λ s is.
        let it = settled (λ none. cc) clean s is in
        frames_kept (reply ∷ replies) why s it.0 it.2.0 it.1 it.2.1 trees it.2.2 may))

    pub lasts_taken : (told : Result Accepted Refusal) → IfOk told (λ accepted. SettlesFrames g (PutsBehind id attempt bytes) id attempt accepted.replies.items accepted.refusal old new)
        → IsUnwritten (request.Output id attempt bytes) (answer_text taken_line (accepted_told told))
        ⊎ LeavesKept g ⊥ (KeepsRequest (request.Output id attempt bytes) (answer_text taken_line (accepted_told told))) old new
    lasts_taken (Ok accepted) settled = lasts_frames accepted.replies.items accepted.refusal settled
    lasts_taken (Err why) settled = inl (inl (why, refl))

  -- ---- a call, with its answer

  module _ {T E A : Type 0} (bytes_of : T → List ℕ) (made : Result T E) (told : A → List ℕ) (answer : Result A Refusal) (texts : IfOk made (λ it. bytes_of it ≡ answer_text told answer)) where
    pub answers_for : (Call : Result A Refusal → Standing → Standing → Type 0) (Cut : Standing → Standing → Type 0) (Unwritten : List ℕ → Type 0) (Kept : List ℕ → Standing → Standing → Type 0)
        → Endures g Cut old new → Leads g (Call answer) old new → Unwritten (answer_text told answer) ⊎ LeavesKept g ⊥ (Kept (answer_text told answer)) old new
        → MakesAnswer bytes_of made (λ text. AnswersFor g Cut (Answers told Call text) (Unwritten text) (Kept text) old new)
    answers_for Call Cut Unwritten Kept crash leads lasts = (
      answer_text told answer,
      texts,
      record {
        reaches = record {
          crash = crash;
          leads = λ clean s is. let it = leads clean s is in (it.0, it.1, record { answer = answer; call = it.2; text_is = refl });
        };
        lasts = lasts;
      },
    )

    -- one that writes an event
    pub answers_written : (Call : Result A Refusal → Standing → Standing → Type 0) (Cut : Standing → Standing → Type 0) → EnduresAlways g Cut old new → Leads g (Call answer) old new
        → OnOk answer (Settles g (Call answer) old new)
        → MakesAnswer bytes_of made (λ text. AnswersFor g Cut (Answers told Call text) (IsRefusalLine text) (Answers told Call text) old new)
    answers_written Call Cut crash leads settled =
        answers_for Call Cut IsRefusalLine (Answers told Call) (always_endures g Cut old new crash) leads (lasts_done told Call answer settled)

    -- one that writes nothing
    pub answers_unwritten : (Call : Result A Refusal → Standing → Standing → Type 0) → IsQuiet g old new → Leads g (Call answer) old new
        → MakesAnswer bytes_of made (λ text. AnswersFor g CommitsNothing (Answers told Call text) (Unit {0}) (Answers told Call text) old new)
    answers_unwritten Call crash leads = answers_for Call CommitsNothing (λ text. Unit {0}) (Answers told Call) (quiet_endures g CommitsNothing old new crash) leads (inl tt)

  pub answers_forgotten : {T E : Type 0} (bytes_of : T → List ℕ) (made : Result T E) (ids : List Text) (answer : Result (Unit {0}) Refusal) → IfOk made (λ it. bytes_of it ≡ answer_text done_line answer)
      → EnduresAlways g (LeavesOthers ids) old new → Leads g (Forgets ids answer) old new → (ids ≢ [] → OnOk answer (Settles g (Forgets ids answer) old new))
      → MakesAnswer bytes_of made (λ text. AnswersRequest g (request.Forget ids) text old new)
  answers_forgotten bytes_of made ids answer texts crash leads settled =
      answers_for bytes_of made done_line answer texts (Forgets ids) (LeavesOthers ids) (IsUnwritten (request.Forget ids)) (KeepsRequest (request.Forget ids))
      (always_endures g (LeavesOthers ids) old new crash) leads (lasts_forgotten ids answer settled)

  pub answers_taken : {T E : Type 0} (bytes_of : T → List ℕ) (made : Result T E) (id : Text) (attempt : ℕ) (bytes : Bytes) (told : Result Accepted Refusal)
      → IfOk made (λ it. bytes_of it ≡ answer_text taken_line (accepted_told told)) → Endures g (AcceptsFirst id attempt bytes) old new → Leads g (Accepts id attempt bytes (accepted_told told)) old new
      → IfOk told (λ accepted. SettlesFrames g (PutsBehind id attempt bytes) id attempt accepted.replies.items accepted.refusal old new)
      → MakesAnswer bytes_of made (λ text. AnswersRequest g (request.Output id attempt bytes) text old new)
  answers_taken bytes_of made id attempt bytes told texts crash leads settled =
      answers_for bytes_of made taken_line (accepted_told told) texts (Accepts id attempt bytes) (AcceptsFirst id attempt bytes)
      (IsUnwritten (request.Output id attempt bytes)) (KeepsRequest (request.Output id attempt bytes)) crash leads (lasts_taken id attempt bytes told settled)

  -- a question
  pub answers_asked : {T E : Type 0} (bytes_of : T → List ℕ) (made : Result T E) (asked : Request) → ((text : List ℕ) → IsUnwritten asked text)
      → MakesAnswer bytes_of made (λ text. ReachesStore g (CutsRequest asked) (DoesRequest asked text) old new) → MakesAnswer bytes_of made (λ text. AnswersRequest g asked text old new)
  answers_asked bytes_of made asked none it = (it.0, it.1, record { reaches = it.2; lasts = inl (none it.0) })
