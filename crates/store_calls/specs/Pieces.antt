-- Bytes that an attempt has written, accepted in one piece or in two.
use Rattle.std.specs.Prelude.{◌≡◌, ℕ, false, List, [], ◌++◌, Option, Some, None, Result, Ok, Err}
use Rattle.journal_model.specs.Notification.{Bytes, Text}
use Rattle.store_refusals.specs.declared.refusal.Refusal.{Refusal}
use Rattle.store_refusals.specs.RefusalConditions.{is_circumstance}
use Rattle.store_steps.specs.declared.frame.FrameReply.{FrameReply}
use Rattle.store_calls.specs.AbstractStore.{Standing, StaysStanding}
use Rattle.store_calls.specs.Frames.{Accepts}

-- what a call answers that accepts bytes
abbrev pub Answer : Type 0
Answer = Result (List FrameReply × Option Refusal) Refusal

abbrev pub IsByEvents : Option Refusal → Type 0
IsByEvents None = Unit {0}
IsByEvents (Some why) = is_circumstance why ≡ false

-- nothing was refused for want of memory, or by a statement
abbrev pub IsUnhindered : Answer → Type 0
IsUnhindered (Ok taken) = IsByEvents taken.1
IsUnhindered (Err why) = is_circumstance why ≡ false

abbrev pub replies_of : Answer → List FrameReply
replies_of (Ok taken) = taken.0
replies_of (Err why) = []

-- one piece and then a second leave what the two joined leave, with the same answers to their frames
abbrev pub PiecesJoin : Type 0
PiecesJoin = (id : Text) (attempt : ℕ) (first second : Bytes) (one two whole : Answer) (old between new joined : Standing)
    → Accepts id attempt first one old between → Accepts id attempt second two between new → Accepts id attempt (first ++ second) whole old joined
    → IsUnhindered one → IsUnhindered two → IsUnhindered whole
    → StaysStanding new joined × (replies_of whole ≡ replies_of one ++ replies_of two)
