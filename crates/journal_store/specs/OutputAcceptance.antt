-- Bytes of an attempt that are taken in with the frames among them, frame by frame.
use Rattle.std.specs.Prelude.{◌≡◌, ◌≢◌, ◌⊎◌, ℕ, Bool, true, false, not, List, [], ◌∷◌, ◌++◌, Option, Some, None, Result, Ok, Err}
use Rattle.sqlite_trees.specs.declared.store.Store.{Ghosts}
use Rattle.sqlite_trees.specs.Tree.{Trees}
use Rattle.sqlite.specs.Held.{state}
use Rattle.sqlite.specs.State.{State, HasCleanDisk}
use Rattle.journal_model.specs.Notification.{Text}
use Rattle.journal_model.specs.Attempt.{is_live}
use Rattle.store_refusals.specs.declared.refusal.Refusal.{Refusal}
use Rattle.store_steps.specs.declared.frame.FrameReply.{FrameReply}
use Rattle.store_steps.specs.PreparedFrames.{does_end}
use Rattle.store_calls.specs.AbstractStore.{Standing}
use Rattle.store_calls.specs.Frames.{Rests, TakesEach, TakesFrame, TakesNone, TakesOne}
use Rattle.journal_store.specs.declared.accept.Accepted.{Accepted}
use Rattle.journal_store.specs.StoreView.{Stored}
use Rattle.journal_store.specs.StoreStanding.{IsStanding, KeepsAll, Outlasts, Settles}

-- what was taken, as it is told
abbrev pub accepted_told : Result Accepted Refusal → Result (List FrameReply × Option Refusal) Refusal
accepted_told (Ok accepted) = Ok (accepted.replies.items, accepted.refusal)
accepted_told (Err why) = Err why

-- one frame was taken, and there may be more, or not
abbrev pub HasTaken : Bool → Text → ℕ → List FrameReply → List FrameReply → Standing → Standing → Type 0
HasTaken goes_on id attempt before after old new =
    (reply : FrameReply) × (does_end reply ≡ not goes_on) × (after ≡ before ++ reply ∷ []) × TakesFrame id attempt reply old new

-- or none was
abbrev pub TakesNext : Text → ℕ → Result Bool Refusal → List FrameReply → List FrameReply → Standing → Standing → Type 0
TakesNext id attempt (Ok true) before after old new = HasTaken true id attempt before after old new
TakesNext id attempt (Ok false) before after old new = HasTaken false id attempt before after old new ⊎ ((after ≡ before) × TakesNone id attempt old new)
TakesNext id attempt (Err why) before after old new =
    (after ≡ before) × (is_live old.events id attempt ≡ true → Rests id attempt (Some why) old new)

-- ---- what lasts

-- Whatever a crash leaves from now on, the tables keep these events; where a further frame was refused, it may have been written,
-- and then they keep it too.
abbrev pub OutlastsFrames : Text → ℕ → Option Refusal → Standing → State → Type 0
OutlastsFrames id attempt None t database = Outlasts t.events database
OutlastsFrames id attempt (Some why) t database =
    (trees : Trees) → database.may_leave trees → KeepsAll t.events trees ⊎ ((u : Standing) × TakesOne id attempt t u × KeepsAll u.events trees)

module _ {S : Type 0} (g : Ghosts S) where
  -- of each frame that was taken and answered, if any was, behind something that the store was led to first
  abbrev pub SettlesFrames : (Standing → Standing → Type 0) → Text → ℕ → List FrameReply → Option Refusal → Stored S → Stored S → Type 0
  SettlesFrames First id attempt replies why old new =
      replies ≢ [] → HasCleanDisk (state g new.connection) → (s : Standing) → IsStanding g s old
      → (m : Standing) × First s m × ((t : Standing) × TakesEach id attempt replies m t × OutlastsFrames id attempt why t (state g new.connection))

  -- the frame that was taken, if one was
  abbrev pub SettlesNext : Text → ℕ → Result Bool Refusal → List FrameReply → List FrameReply → Stored S → Stored S → Type 0
  SettlesNext id attempt (Ok goes_on) before after old new =
      ((reply : FrameReply) × (after ≡ before ++ reply ∷ []) × Settles g (TakesFrame id attempt reply) old new) ⊎ ((after ≡ before) × (new ≡ old))
  SettlesNext id attempt (Err why) before after old new = after ≡ before
