-- Room that was made for an outcome is there when the frame is passed.
use Rattle.std.proofs.Common.{◌≡◌, ℕ, ◌<◌, refl, sym, subst, Bool, true, false, Option, Some, None}
use Rattle.std.specs.Option.{ForSome}
use Rattle.journal_model.specs.Notification.{Text}
use Rattle.store_live.specs.declared.attempt.LiveAttempt.{LiveAttempt}
use Rattle.store_live.specs.Attempts.{ByInvocation, attempt_of, IsNow, live_after_take}
use Rattle.journal_store.specs.FrameAcceptance.{HasRoomToNote, passed}

still_room : (noted : Option ℕ) (b : Bool) (len : ℕ) (o : Option LiveAttempt) → ForSome o (HasRoomToNote noted) → ForSome (passed b len o) (HasRoomToNote noted)
still_room None b len o room attempt is = tt
still_room (Some n) true len o room attempt is = cc
still_room (Some n) false len None room attempt is = cc
still_room (Some n) false len (Some one) room attempt is =
    let e : live_after_take len one ≡ attempt = cc in subst (λ (a : LiveAttempt). 0 < a.input.room) e (room one refl)

pub room_behind : (noted : Option ℕ) (b : Bool) (len : ℕ) (id : Text) (old new : ByInvocation) → IsNow id (passed b len (attempt_of old id)) old new
    → ForSome (attempt_of old id) (HasRoomToNote noted) → ForSome (attempt_of new id) (HasRoomToNote noted)
room_behind noted b len id old new now room =
    subst (λ (o : Option LiveAttempt). ForSome o (HasRoomToNote noted)) (sym now.own) (still_room noted b len (attempt_of old id) room)
