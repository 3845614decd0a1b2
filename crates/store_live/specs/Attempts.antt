-- The live attempts, one at most of each invocation.
use Rattle.std.specs.Prelude.{◌≡◌, ℕ, true, false, List, [], ◌++◌, take, drop, Option, Some, None, option_map, bytes_eq}
use Rattle.std.specs.Map.{lookup}
use Rattle.store_live.specs.declared.attempt.LiveAttempt.{LiveAttempt}
use Rattle.std.specs.Option.{ForSome}
use Rattle.store_live.specs.declared.input.FrameRead.{FrameRead}
use Rattle.store_live.specs.Input.{CanCount, InputKept, input_handed_out, with_frame, with_outcome_kept, with_room}

-- live attempts, each behind its invocation's id
abbrev pub ByInvocation : Type 0
ByInvocation = List (List ℕ × LiveAttempt)

-- the attempts, and how many more are taken in with no memory asked for
pub record Attempts : Type 0 where
  pub attempts : ByInvocation
  pub room : ℕ

-- the live attempt of an invocation
abbrev pub attempt_of : ByInvocation → List ℕ → Option LiveAttempt
attempt_of attempts id = lookup (bytes_eq id) attempts

-- of this invocation this attempt is live, and of the others the same as before
pub record IsNow (id : List ℕ) (attempt : Option LiveAttempt) (old new : ByInvocation) : Type 0 where
  pub own : attempt_of new id ≡ attempt
  pub others : (other : List ℕ) → bytes_eq id other ≡ false → attempt_of new other ≡ attempt_of old other

-- this is done to the live attempt of the invocation, if there is one, and nothing to the others
abbrev pub ChangesLive : List ℕ → (LiveAttempt → LiveAttempt) → ByInvocation → ByInvocation → Type 0
ChangesLive id change old new = IsNow id (option_map change (attempt_of old id)) old new

-- the bytes that are handed out of an attempt's input, none where no attempt is live
abbrev pub bytes_out : ℕ → Option LiveAttempt → List ℕ
bytes_out most None = []
bytes_out most (Some attempt) = take most attempt.input.rest

-- nothing is changed but the input of the invocation's live attempt
abbrev pub after_input : InputKept → LiveAttempt → LiveAttempt
after_input input attempt = record attempt { input = input }

abbrev pub ChangesInput : List ℕ → ByInvocation → ByInvocation → Type 0
ChangesInput id old new = (input : InputKept) × ChangesLive id (after_input input) old new

-- that a frame is counted, if an attempt is live
abbrev pub CountsFrame : FrameRead → Option LiveAttempt → Type 0
CountsFrame frame o = ForSome o (λ (attempt : LiveAttempt). CanCount attempt.input frame)

-- what is done to one
abbrev pub after_hand_out : ℕ → LiveAttempt → LiveAttempt
after_hand_out most attempt = record attempt { input = input_handed_out most attempt.input }

abbrev pub live_after_frame : FrameRead → LiveAttempt → LiveAttempt
live_after_frame frame attempt = record attempt { input = with_frame frame attempt.input }

abbrev pub after_reserve : LiveAttempt → LiveAttempt
after_reserve attempt = record attempt { input = with_room attempt.input }

abbrev pub after_outcome : ℕ → LiveAttempt → LiveAttempt
after_outcome completion attempt = record attempt { input = with_outcome_kept completion attempt.input }

abbrev pub after_close : LiveAttempt → LiveAttempt
after_close attempt = record attempt { is_input_closed = true }

abbrev pub after_output : List ℕ → LiveAttempt → LiveAttempt
after_output bytes attempt = record attempt { output = attempt.output ++ bytes }

abbrev pub live_after_take : ℕ → LiveAttempt → LiveAttempt
live_after_take count attempt = record attempt { output = drop count attempt.output }
