-- What the accepted events say of a live attempt.
use Rattle.std.proofs.Common.{◌≡◌, true≢false, ℕ, Bool, true, false, ◌&&◌, if◌then◌else◌, List, [], ◌∷◌, Option, Some, None, refl, sym, ap, ◌∙◌}
use Rattle.std.proofs.lemmas.Bool.Decides.{Decides-eqb}
use Rattle.journal_model.specs.Notification.{Text}
use Rattle.journal_model.specs.Event.{Event, Frame}
use Rattle.journal_model.specs.Journal.{is_of, ends_attempt}
use Rattle.journal_model.specs.Attempt.{live_attempt, is_live}
use Rattle.journal_model.specs.Cause.{causes_of, tests_of}
use Rattle.journal_laws.proofs.ObjectState.{tail_of, holds-head, holds-tail, not-false}
use Rattle.store_steps.specs.declared.frame.FrameReply.{FrameReply}
use Rattle.store_steps.specs.declared.frame.FrameReply.TheVariants as replies
use Rattle.store_steps.specs.PreparedFrames.{IsReply, does_end}

pub live_when : (events : List Event) (id : Text) (n : ℕ) → is_live events id n ≡ true → live_attempt events id ≡ Some n
live_when events id n e = by_live (live_attempt events id) refl
  where
    by_live : (o : Option ℕ) → live_attempt events id ≡ o → live_attempt events id ≡ Some n
    by_live None is = absurd (true≢false (sym e ∙ (rw is refl)))
    by_live (Some m) is = is ∙ ap (λ (k : ℕ). Some k) ((Decides-eqb m n).0 (sym (rw is refl) ∙ e))

pub live_so : (events : List Event) (id : Text) (n : ℕ) → live_attempt events id ≡ Some n → is_live events id n ≡ true
live_so events id n is = rw is ((Decides-eqb n n).1 refl)

-- an attempt of which a frame is accepted is live
pub taken_live : (events : List Event) (id : Text) (n : ℕ) (frame : Frame) → causes_of events (Event.Move id n frame) ≡ [] → live_attempt events id ≡ Some n
taken_live events id n frame causes =
    let tests = tests_of events (Event.Move id n frame) in
    live_when events id n (not-false (is_live events id n) (holds-head (tail_of (tail_of tests)) (holds-tail (tail_of tests) (holds-tail tests causes))))

none_ends : (mine ends : Bool) (live : Option ℕ) → ends ≡ false → (if mine && ends then None else live) ≡ live
none_ends true true live e = absurd (true≢false e)
none_ends true false live e = refl
none_ends false ends live e = refl

-- and behind one that does not end it, it is live still
pub still_live : (events : List Event) (id : Text) (n : ℕ) (frame : Frame) → ends_attempt frame ≡ false → is_live events id n ≡ true
    → is_live (Event.Move id n frame ∷ events) id n ≡ true
still_live events id n frame goes live =
    live_so (Event.Move id n frame ∷ events) id n (none_ends (is_of id (Event.Move id n frame)) (ends_attempt frame) (live_attempt events id) goes ∙ live_when events id n live)

-- a reply says whether its frame ends the attempt
pub told_end : (events : List Event) (id : Text) (frame : Frame) (reply : FrameReply) → IsReply events id frame reply → does_end reply ≡ ends_attempt frame
told_end events id (Frame.Command request) (replies.Recorded place) is = refl
told_end events id (Frame.RunOutcome n value is_acknowledged) (replies.Recorded place) is = refl
told_end events id (Frame.AwaitingOn awaited) replies.Noted is = refl
told_end events id (Frame.Suspend suspension) replies.Suspended is = refl
told_end events id (Frame.Error code said behavior delay) replies.Failed is = refl
told_end events id Frame.End replies.Ended is = refl
told_end events id _ _ is = absurd is
