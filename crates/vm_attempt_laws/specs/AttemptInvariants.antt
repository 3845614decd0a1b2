-- What an attempt keeps as it begins, as it is fed and closed, as what it has written is taken, and behind its end.
use Rattle.std.specs.Prelude.{◌≡◌, ◌⊎◌, ◌≤◌, ℕ, Bool, true, false, List, [], ◌∷◌, ◌++◌, map, option_map, Result, Ok}
use Rattle.std.specs.List.{AllByRecursion}
use Rattle.std.specs.declared.alloc.AllocError.{AllocError}
use Rattle.journal_model.specs.Event.{Fail}
use Rattle.protocol_errors.specs.FixedErrors.{fixed_code, fixed_text}
use Rattle.protocol_errors.specs.declared.fixed.FixedError.TheVariants.{InputClosedWhileWaitingEntries}
use Rattle.store_frames.specs.Requests.{behavior_in}
use Rattle.vm_attempt.specs.Attempt.{ClosesInput}
use Rattle.vm_attempt_laws.specs.Attempts.{IsBegun, Feeds, output_of, Shows, LetsGo, TakesOutput, Turns, Attempt, Turn}
use Rattle.vm_attempt_laws.specs.Bodies.{requests_asked_by, ComesAsAsked, IsBehind, NonEmptyValue, executor_over, count_proposed, IsReplayed, RunOutcome}
use Rattle.vm_attempt_laws.specs.Machine.phases
use Rattle.vm_attempt_laws.specs.Machine.{Written, IsErrorTooLong, behavior_number, out_of_memory, told_delay, told_error}
use Rattle.vm_attempt_laws.specs.InputOfAttempt.{CanBegin, IsRunOf}
use Rattle.vm_attempt_laws.specs.OutputOfAttempt.{Sent, Fails, sent_stream, AllFit, frame_meant}
use Rattle.vm_attempt_laws.specs.AttemptSimulation.{IsFedBy, Serves, HasBodies, IsOver}
use Rattle.vm_attempt_laws.specs.Words.{arrivals_carried, input_bytes, piece_of, plain_error, internal, Error, Version, Bytes, Handler, Frame, InputMessage, IsNote, AttemptStart, ShowsStart, AttemptInRun, machine_at_start, HasReadJournal, attempt_begun, handed_bytes, after_reading, VMOptions}
pub use Rattle.vm_input_laws.specs.MessagesBehindJournal.{MayCome}

-- as it is begun, once it has read its start frame
abbrev pub attempt_started : AttemptStart → AttemptInRun
attempt_started start = record (attempt_begun start) { bytes = [] }

-- what a machine fails with by an error, behind what it has written: that error, or, where its frame would be too long, one that says so
abbrev pub FailsWith : Error → Written → (told : Error) → Type 0
FailsWith error old told = (told ≡ error) ⊎ (IsErrorTooLong error old × (told ≡ plain_error internal told.message))

-- what it has written by that: the frame of what it fails with, and nothing where memory was refused
abbrev pub TellsBy : (told : Error) → List Sent → Type 0
TellsBy told sent = (sent ≡ Fails (told_error told) ∷ []) ⊎ ((told ≡ out_of_memory) × (sent ≡ []))

-- the frame is no error that ends its invocation
abbrev pub IsNoFailure : Frame → Type 0
IsNoFailure (Frame.Error code message Fail delay) = ⊥
IsNoFailure frame = Unit {0}

-- the frame is no error
abbrev pub IsNoError : Frame → Type 0
IsNoError (Frame.Error code message behavior delay) = ⊥
IsNoError frame = Unit {0}

-- The frame that tells an error in this version: its code and its text, whether the invocation is tried again or paused (before the version that
-- tells that it is tried again), and in how many milliseconds.
abbrev pub error_told : (version : ℕ) → Error → Frame
error_told version error = Frame.Error error.code.0 error.message (behavior_in version (behavior_number error.behavior)) (option_map told_delay error.next_retry_delay)

-- an error frame tells the error that was answered, or one for a copy of which there was no memory
abbrev pub TellsErrorOf : (version : ℕ) → Error → Frame → Type 0
TellsErrorOf version error (Frame.Error code message behavior delay) = (error ≡ out_of_memory) ⊎ (Frame.Error code message behavior delay ≡ error_told version error)
TellsErrorOf version error frame = Unit {0}

-- the errors among the frames of a turn are the one that it has failed by
abbrev pub TellsErrorBy : (version : ℕ) → Turn → Frame → Type 0
TellsErrorBy version (Turn.Failed error) = TellsErrorOf version error
TellsErrorBy version turn = IsNoError

-- what it fails with whose input is closed before its journal was read
abbrev pub early_error : Error
early_error = plain_error (fixed_code InputClosedWhileWaitingEntries) (fixed_text InputClosedWhileWaitingEntries)

-- a turn of an attempt that is over
abbrev pub IsLast : Turn → Type 0
IsLast Turn.Answered = ⊥
IsLast Turn.RanBody = ⊥
IsLast Turn.Waiting = ⊥
IsLast _ = Unit {0}

module _ {H : Type 0} where
  -- it has written nothing more
  abbrev pub WritesNothing : (before after : Attempt H) → Type 0
  WritesNothing before after = output_of after ≡ output_of before

  -- memory was refused, and it has failed for that
  abbrev pub LacksMemory : Attempt H → Type 0
  LacksMemory a = a.vm.state.phase ≡ phases.Failed out_of_memory

module _ {H : Type 0} (function : H → Handler) (next : Handler) (version : Version) (options : VMOptions) where
  -- its bodies are those of another attempt
  abbrev pub BodiesStay : (before after : Attempt H) → Type 0
  BodiesStay before after = (live : AttemptInRun) (proposed : List (ℕ × NonEmptyValue)) → HasBodies next live proposed before → HasBodies next live proposed after

  -- no attempt executes a run twice: of no completion it proposes two outcomes
  abbrev pub ProposesOnce : Type 0
  ProposesOnce = (live : AttemptInRun) (proposed : List (ℕ × NonEmptyValue)) (a : Attempt H) → HasBodies next live proposed a
      → (n : ℕ) → count_proposed n proposed ≤ 1

  -- ---- its begin

  -- where it is live, no body is to be executed
  abbrev pub HasNoBodies : AttemptStart → Attempt H → Type 0
  HasNoBodies start a = IsReplayed next (attempt_started start) [] (executor_over (machine_at_start start.shown [] []))
      → HasBodies next (attempt_started start) [] a

  -- a new attempt that is fed its start frame serves the live attempt that has read that frame, or has failed for want of memory
  abbrev pub BeginsServing : Type 0
  BeginsServing = (start : AttemptStart) (shows : ShowsStart start) (handler : H) (new fed : Attempt H) → function handler ≡ next → IsRunOf start version options → CanBegin start shows
      → IsFedBy (attempt_begun start) → IsBegun version options handler (Ok new) → Feeds start.frame new fed
      → (output_of fed ≡ []) × ((Serves function next version options (attempt_started start) false fed × HasNoBodies start fed) ⊎ LacksMemory fed)

  -- ---- what is to come to it

  -- more that it has asked for may be to come, whatever is on its way from it, and it may be handed the next bytes of what is
  pub record TakesIn (live : AttemptInRun) (proposed : List (ℕ × NonEmptyValue)) (a : Attempt H) : Type 0 where
    pub brings : (more : List InputMessage) (coming : List Frame) → AllByRecursion (IsBehind live.start.given.version proposed) more
        → ComesAsAsked (arrivals_carried live.start.journal) proposed (requests_asked_by live) (arrivals_carried (live.read ++ (live.unread ++ more)))
        → HasBodies next (record live { unread = live.unread ++ more; coming = coming }) proposed a
    pub is_handed : (bytes rest : Bytes) → (live.held ++ bytes) ++ rest ≡ input_bytes (map piece_of live.unread) → HasBodies next (handed_bytes live bytes) proposed a

  abbrev pub InputsCome : Type 0
  InputsCome = (live : AttemptInRun) (proposed : List (ℕ × NonEmptyValue)) (a : Attempt H) → HasBodies next live proposed a → TakesIn live proposed a

  -- ---- events that do nothing to it

  -- more messages are on their way to it, and its frames pass on
  abbrev pub StaysServing : Type 0
  StaysServing = (live : AttemptInRun) (is_closed : Bool) (a : Attempt H) (more : List InputMessage) (coming : List Frame) → Serves function next version options live is_closed a → AllByRecursion MayCome more
      → Serves function next version options (record live { unread = live.unread ++ more; coming = coming }) is_closed a

  -- ---- its input

  -- it has read messages of which it holds all bytes, and is live with those
  pub record ServesOn (live : AttemptInRun) (proposed : List (ℕ × NonEmptyValue)) (is_closed : Bool) (bytes : Bytes) (after : Attempt H) : Type 0 where
    pub some : List InputMessage
    pub still : List InputMessage
    pub kept : Bytes
    pub parts : live.unread ≡ some ++ still
    pub held : live.held ++ bytes ≡ input_bytes (map piece_of some) ++ kept
    pub bodies : HasBodies next (after_reading (handed_bytes live bytes) some still kept) proposed after
    pub serves : Serves function next version options (after_reading (handed_bytes live bytes) some still kept) is_closed after

  abbrev pub FeedsServing : Type 0
  FeedsServing = (live : AttemptInRun) (proposed : List (ℕ × NonEmptyValue)) (is_closed : Bool) (bytes : Bytes) (before after : Attempt H) → HasBodies next (handed_bytes live bytes) proposed before
      → Serves function next version options live is_closed before → Feeds bytes before after
      → WritesNothing before after × (ServesOn live proposed is_closed bytes after ⊎ LacksMemory after)

  -- it goes on with its journal read
  pub record StaysClosed (live : AttemptInRun) (before after : Attempt H) : Type 0 where
    pub journal : HasReadJournal live
    pub serves : Serves function next version options live true after
    pub bodies : BodiesStay before after
    pub nothing : WritesNothing before after

  -- its journal was not read: it fails with that, or for want of memory, and tells so where there is memory for it
  pub record ClosesEarly (live : AttemptInRun) (before after : Attempt H) : Type 0 where
    pub unread : HasReadJournal live → ⊥
    pub error : Error
    pub failed : after.vm.state.phase ≡ phases.Failed error
    pub told : FailsWith early_error before.vm.state.active.output error ⊎ (error ≡ out_of_memory)
    pub sent : List Sent
    pub fit : AllFit version sent
    pub output : output_of after ≡ output_of before ++ sent_stream version sent
    pub notes : AllByRecursion IsNote (map (frame_meant version) sent)
    pub tells : TellsBy error sent
    pub unfailed : AllByRecursion IsNoFailure (map (frame_meant version) sent)

  abbrev pub ClosesServing : Type 0
  ClosesServing = (live : AttemptInRun) (is_closed : Bool) (before after : Attempt H) → Serves function next version options live is_closed before → ClosesInput before after
      → StaysClosed live before after ⊎ ClosesEarly live before after

  -- ---- its output

  -- handed out, shown, or let go
  pub record StaysBehind (live : AttemptInRun) (is_closed : Bool) (before after : Attempt H) : Type 0 where
    pub taken : (max : ℕ) (result : Result Bytes AllocError) → TakesOutput max before result after → Serves function next version options live is_closed after × BodiesStay before after
    pub shown : (max : ℕ) (result : Result Bytes AllocError) → Shows max before result after → Serves function next version options live is_closed after × BodiesStay before after
    pub let_go : (count : ℕ) → LetsGo count before after → Serves function next version options live is_closed after × BodiesStay before after

  abbrev pub TakesServing : Type 0
  TakesServing = (live : AttemptInRun) (is_closed : Bool) (before after : Attempt H) → Serves function next version options live is_closed before → StaysBehind live is_closed before after

module _ {H : Type 0} (function : H → Handler) where
  -- ---- behind its end

  -- whatever comes, it stays over and writes nothing; each turn says that it is over
  pub record StaysOver (before : Attempt H) : Type 0 where
    pub fed : (bytes : Bytes) (after : Attempt H) → Feeds bytes before after → IsOver after × WritesNothing before after
    pub closed : (after : Attempt H) → ClosesInput before after → IsOver after × WritesNothing before after
    pub turned : (ran : RunOutcome) (turn : Turn) (after : Attempt H) → Turns function ran before turn after → IsLast turn × (after ≡ before)
    pub taken : (max : ℕ) (result : Result Bytes AllocError) (after : Attempt H) → TakesOutput max before result after → IsOver after
    pub shown : (max : ℕ) (result : Result Bytes AllocError) (after : Attempt H) → Shows max before result after → IsOver after
    pub let_go : (count : ℕ) (after : Attempt H) → LetsGo count before after → IsOver after

  abbrev pub OversStay : Type 0
  OversStay = (before : Attempt H) → IsOver before → StaysOver before
