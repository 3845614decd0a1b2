-- What a frame is answered is said by the frame, and by what is recorded before it.
use Rattle.std.proofs.Common.{◌≡◌, ◌+◌, refl, sym, ap, ◌∙◌, ℕ, List, length}
use Rattle.journal_model.specs.Notification.{Text}
use Rattle.journal_model.specs.Event.{Event, Frame}
use Rattle.journal_model.specs.Journal.{Entry, entries_of}
use Rattle.store_steps.specs.declared.frame.FrameReply.{FrameReply}
use Rattle.store_steps.specs.declared.frame.FrameReply.TheVariants as replies
use Rattle.store_steps.specs.PreparedFrames.{IsReply}

recorded_alike : (one two : ℕ) (place at : ℕ) → place ≡ 1 + one → at ≡ 1 + two → one ≡ two → replies.Recorded place ≡ replies.Recorded at
recorded_alike one two place at is was same = ap (λ (n : ℕ). replies.Recorded n) (is ∙ ap (λ (n : ℕ). 1 + n) same ∙ sym was)

pub taken_alike : (id : Text) (events others : List Event) → entries_of events id ≡ entries_of others id → (frame : Frame) (reply answer : FrameReply)
    → IsReply events id frame reply → IsReply others id frame answer → reply ≡ answer
taken_alike id events others same (Frame.Command request) (replies.Recorded place) (replies.Recorded at) it also =
    recorded_alike (length (entries_of events id)) (length (entries_of others id)) place at it also (ap (λ (entries : List Entry). length entries) same)
taken_alike id events others same (Frame.Command request) (replies.Recorded place) _ it also = absurd also
taken_alike id events others same (Frame.Command request) _ _ it also = absurd it
taken_alike id events others same (Frame.RunOutcome n value is_acknowledged) (replies.Recorded place) (replies.Recorded at) it also =
    recorded_alike (length (entries_of events id)) (length (entries_of others id)) place at it also (ap (λ (entries : List Entry). length entries) same)
taken_alike id events others same (Frame.RunOutcome n value is_acknowledged) (replies.Recorded place) _ it also = absurd also
taken_alike id events others same (Frame.RunOutcome n value is_acknowledged) _ _ it also = absurd it
taken_alike id events others same (Frame.AwaitingOn awaited) replies.Noted replies.Noted it also = refl
taken_alike id events others same (Frame.AwaitingOn awaited) replies.Noted _ it also = absurd also
taken_alike id events others same (Frame.AwaitingOn awaited) _ _ it also = absurd it
taken_alike id events others same (Frame.Suspend suspension) replies.Suspended replies.Suspended it also = refl
taken_alike id events others same (Frame.Suspend suspension) replies.Suspended _ it also = absurd also
taken_alike id events others same (Frame.Suspend suspension) _ _ it also = absurd it
taken_alike id events others same (Frame.Error code message behavior delay) replies.Failed replies.Failed it also = refl
taken_alike id events others same (Frame.Error code message behavior delay) replies.Failed _ it also = absurd also
taken_alike id events others same (Frame.Error code message behavior delay) _ _ it also = absurd it
taken_alike id events others same Frame.End replies.Ended replies.Ended it also = refl
taken_alike id events others same Frame.End replies.Ended _ it also = absurd also
taken_alike id events others same Frame.End _ _ it also = absurd it
taken_alike id events others same _ _ _ it also = absurd it
