-- How the frames are taken that an attempt has written.
use Rattle.std.specs.Prelude.{◌≡◌, ◌⊎◌, ℕ, Bool, true, false, List, [], ◌∷◌, Option, Some, None, Result, Ok, Err}
use Rattle.journal_model.specs.Notification.{Bytes, Text}
use Rattle.journal_model.specs.Event.{Event, Frame}
use Rattle.journal_model.specs.Journal.{version_of}
use Rattle.journal_model.specs.Attempt.{is_live}
use Rattle.journal_model.specs.Cause.{causes_of}
use Rattle.protocol_stream.specs.Item.{Item, unknown, message, item_at}
use Rattle.store_frames.specs.FrameMeanings.{frame_of}
use Rattle.store_refusals.specs.declared.refusal.Refusal.{Refusal}
use Rattle.store_refusals.specs.declared.refusal.Refusal.TheVariants.{OutOfMemory}
use Rattle.store_refusals.specs.RefusalConditions.{IsRefused}
use Rattle.store_steps.specs.declared.frame.FrameReply.{FrameReply}
use Rattle.store_steps.specs.PreparedFrames.{IsReply, does_end, lies_in_frame}
use Rattle.store_calls.specs.AbstractStore.{Standing, StaysStanding, LeavesWaiting, Refuses}
use Rattle.store_calls.specs.Calls.{PutsBehind, RefusesBytes}

-- the frame that an item of an attempt of this version is
abbrev pub frame_in : (version : ℕ) → Item → Frame
frame_in version (unknown ty) = Frame.NotAccepted
frame_in version (message m) = frame_of version m

-- this is the first frame of the bytes that wait
pub record IsNext (id : Text) (old : Standing) (frame : Frame) (rest : Bytes) : Type 0 where
  pub output : Bytes
  pub waits : old.outputs id ≡ Some output
  pub item : Item
  pub first : item_at output ≡ Some (item, rest)
  pub frame_is : frame ≡ frame_in (version_of old.events id) item

-- what waits behind a frame, unless the attempt is over
abbrev pub rest_after : Bool → Bytes → Option Bytes
rest_after true rest = None
rest_after false rest = Some rest

-- the first frame is taken, and answered so
pub record TakesFrame (id : Text) (attempt : ℕ) (reply : FrameReply) (old new : Standing) : Type 0 where
  pub frame : Frame
  pub rest : Bytes
  pub next : IsNext id old frame rest
  pub replied : IsReply old.events id frame reply
  pub leaves : LeavesWaiting (Event.Move id attempt frame) id (rest_after (does_end reply) rest) old new

-- with some answer
abbrev pub TakesOne : Text → (attempt : ℕ) → Standing → Standing → Type 0
TakesOne id attempt old new = (reply : FrameReply) × TakesFrame id attempt reply old new

-- no whole frame waits
pub record TakesNone (id : Text) (attempt : ℕ) (old new : Standing) : Type 0 where
  pub live : is_live old.events id attempt ≡ true
  pub output : Bytes
  pub waits : old.outputs id ≡ Some output
  pub none : item_at output ≡ None
  pub stays : StaysStanding old new

-- a frame is refused: for a cause that lies in it its attempt is stopped, and otherwise it waits still
abbrev pub LeavesRefused : (does_lie_in_frame : Bool) → Text → (attempt : ℕ) → Standing → Standing → Type 0
LeavesRefused true id attempt old new = LeavesWaiting (Event.Stop id attempt) id None old new
LeavesRefused false id attempt old new = StaysStanding old new

pub record RefusesFrame (id : Text) (attempt : ℕ) (why : Refusal) (old new : Standing) : Type 0 where
  pub live : is_live old.events id attempt ≡ true
  pub frame : Frame
  pub rest : Bytes
  pub next : IsNext id old frame rest
  pub cause : IsRefused (causes_of old.events (Event.Move id attempt frame)) why
  pub left : LeavesRefused (lies_in_frame why) id attempt old new

-- the attempt is not live
pub record HasNoFrames (id : Text) (attempt : ℕ) (why : Refusal) (old new : Standing) : Type 0 where
  pub dead : is_live old.events id attempt ≡ false
  pub refuses : Refuses (Event.Stop id attempt) why old new

-- one step
abbrev pub StepsAttempt : Text → (attempt : ℕ) → Result (Option FrameReply) Refusal → Standing → Standing → Type 0
StepsAttempt id attempt (Ok None) old new = TakesNone id attempt old new
StepsAttempt id attempt (Ok (Some reply)) old new = TakesFrame id attempt reply old new
StepsAttempt id attempt (Err why) old new = HasNoFrames id attempt why old new ⊎ RefusesFrame id attempt why old new

-- ---- steps to their end

-- frames are taken one after another, and answered so
abbrev pub TakesEach : Text → (attempt : ℕ) → List FrameReply → Standing → Standing → Type 0
TakesEach id attempt [] old new = StaysStanding old new
TakesEach id attempt (reply ∷ replies) old new = (between : Standing) × TakesFrame id attempt reply old between × TakesEach id attempt replies between new

-- the first frames are taken, one at least
abbrev pub TakesFirstFrames : Text → (attempt : ℕ) → Standing → Standing → Type 0
TakesFirstFrames id attempt old new = (first : FrameReply) × (others : List FrameReply) × TakesEach id attempt (first ∷ others) old new

-- the last one ended the attempt
pub record HasEnded (id : Text) (old new : Standing) : Type 0 where
  pub over : old.outputs id ≡ None
  pub stays : StaysStanding old new

-- there is no room for one more answer of an attempt that goes on: what waits first is not looked at
pub record HasNoRoom (id : Text) (attempt : ℕ) (why : Refusal) (old new : Standing) : Type 0 where
  pub live : is_live old.events id attempt ≡ true
  pub memory : why ≡ OutOfMemory
  pub stays : StaysStanding old new

-- why no further frame is taken
abbrev pub Rests : Text → (attempt : ℕ) → Option Refusal → Standing → Standing → Type 0
Rests id attempt None old new = HasEnded id old new ⊎ TakesNone id attempt old new
Rests id attempt (Some why) old new = HasNoRoom id attempt why old new ⊎ RefusesFrame id attempt why old new

-- frames are taken until one ends the attempt, one is refused, or none waits whole
pub record TakesFrames (id : Text) (attempt : ℕ) (replies : List FrameReply) (why : Option Refusal) (old new : Standing) : Type 0 where
  pub between : Standing
  pub taken : TakesEach id attempt replies old between
  pub rests : Rests id attempt why between new

-- bytes of a live attempt are put behind those that wait, and then its frames are taken; or the bytes are refused
abbrev pub Accepts : Text → (attempt : ℕ) → Bytes → Result (List FrameReply × Option Refusal) Refusal → Standing → Standing → Type 0
Accepts id attempt bytes (Ok taken) old new = (pushed : Standing) × PutsBehind id attempt bytes old pushed × TakesFrames id attempt taken.0 taken.1 pushed new
Accepts id attempt bytes (Err why) old new = RefusesBytes (is_live old.events id attempt) id attempt why old new

-- bytes are put behind, and the first frames are taken
abbrev pub AcceptsFirst : Text → (attempt : ℕ) → Bytes → Standing → Standing → Type 0
AcceptsFirst id attempt bytes old new = (pushed : Standing) × PutsBehind id attempt bytes old pushed × TakesFirstFrames id attempt pushed new
