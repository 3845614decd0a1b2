-- What lasts of a request that was answered: of one that was answered otherwise than as refused, what it did.
use Rattle.std.specs.Prelude.{◌≡◌, ◌⊎◌, ℕ, List, [], Option, Some, None, IsSome}
use Rattle.sqlite_trees.specs.declared.store.Store.{Ghosts}
use Rattle.journal_model.specs.Notification.{Bytes, Text}
use Rattle.server_lines.specs.declared.request.Request.{Request}
use Rattle.server_lines.specs.declared.request.Request.TheVariants.{Invoke, Result as ResultRequest, Signal, Cancel, Tick, Begin, Output, Forget}
use Rattle.server_lines.specs.RequestReader.{request_of}
use Rattle.store_refusals.specs.declared.refusal.Refusal.{Refusal}
use Rattle.store_steps.specs.declared.frame.FrameReply.{FrameReply}
use Rattle.store_calls.specs.AbstractStore.{Standing, StaysStanding}
use Rattle.store_calls.specs.Calls.{PutsBehind}
use Rattle.store_calls.specs.Frames.{TakesEach, TakesOne}
use Rattle.journal_store.specs.StoreView.{Stored}
use Rattle.store_server.specs.StoreChanges.{AnswersFor}
use Rattle.store_server.specs.RequestAnswers.{CutsRead, DoesRead, DoesRequest, refusal_line, taken_line}

abbrev pub IsRefusalLine : List ℕ → Type 0
IsRefusalLine text = (why : Refusal) × (text ≡ refusal_line why)

-- By its answer nothing of a request was written: it is refused; no frame was taken; none was to be forgotten; or it is none that writes.
abbrev pub IsUnwritten : Request → List ℕ → Type 0
IsUnwritten (Invoke new) text = IsRefusalLine text
IsUnwritten (ResultRequest id completion value) text = IsRefusalLine text
IsUnwritten (Signal id key value) text = IsRefusalLine text
IsUnwritten (Cancel id) text = IsRefusalLine text
IsUnwritten (Tick now) text = IsRefusalLine text
IsUnwritten (Begin id now) text = IsRefusalLine text
IsUnwritten (Output id attempt bytes) text = IsRefusalLine text ⊎ ((why : Option Refusal) × (text ≡ taken_line ([], why)))
IsUnwritten (Forget ids) text = IsRefusalLine text ⊎ (ids ≡ [])
IsUnwritten _ text = Unit {0}

-- of an output the frames that the answer tells, and perhaps the next one, where that is told as refused
pub record KeepsFrames (id : Text) (attempt : ℕ) (bytes : Bytes) (text : List ℕ) (old new : Standing) : Type 0 where
  pub replies : List FrameReply
  pub why : Option Refusal
  pub text_is : text ≡ taken_line (replies, why)
  pub pushed : Standing
  pub puts : PutsBehind id attempt bytes old pushed
  pub between : Standing
  pub taken : TakesEach id attempt replies pushed between
  pub rest : StaysStanding between new ⊎ (IsSome why × TakesOne id attempt between new)

-- What tables keep of a request that was answered so. What a refused output leaves of its attempt is in memory alone.
abbrev pub KeepsRequest : Request → List ℕ → Standing → Standing → Type 0
KeepsRequest (Output id attempt bytes) text = KeepsFrames id attempt bytes text
KeepsRequest request text = DoesRequest request text

-- ---- the lines

-- a line that spells no request writes nothing
abbrev pub IsUnwrittenRead : Option Request → List ℕ → Type 0
IsUnwrittenRead None text = Unit {0}
IsUnwrittenRead (Some request) text = IsUnwritten request text

abbrev pub KeepsRead : Option Request → List ℕ → Standing → Standing → Type 0
KeepsRead None text = DoesRead None text
KeepsRead (Some request) text = KeepsRequest request text

abbrev pub IsUnwrittenLine : List ℕ → List ℕ → Type 0
IsUnwrittenLine line = IsUnwrittenRead (request_of line)

abbrev pub KeepsLine : List ℕ → List ℕ → Standing → Standing → Type 0
KeepsLine line = KeepsRead (request_of line)

module _ {S : Type 0} (g : Ghosts S) where
  -- what was read is done and has this answer, and what it has answered lasts
  abbrev pub AnswersRead : Option Request → List ℕ → Stored S → Stored S → Type 0
  AnswersRead read text = AnswersFor g (CutsRead read) (DoesRead read text) (IsUnwrittenRead read text) (KeepsRead read text)

  abbrev pub AnswersRequest : Request → List ℕ → Stored S → Stored S → Type 0
  AnswersRequest request = AnswersRead (Some request)

  abbrev pub AnswersLine : List ℕ → List ℕ → Stored S → Stored S → Type 0
  AnswersLine line = AnswersRead (request_of line)
