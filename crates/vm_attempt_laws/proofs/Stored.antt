-- What a turn sends asks for what a store records, by keys that are text.
use Rattle.std.proofs.Common.{◌≡◌, ◌∙◌, inl, inr, ℕ, Bool, true, false, ◌&&◌, if◌then◌else◌, List, [], ◌∷◌, map, Option, refl, sym, ap, subst}
use Rattle.std.specs.List.{AllByRecursion, list_all}
use Rattle.std.specs.Str.{is_utf8}
use Rattle.attempt_laws.proofs.Coming.{all-back}
use Rattle.vm_attempt_laws.specs.OutputOfAttempt.{Sent, Asks, Proposes, Awaits, Suspends, Fails, Ends, is_recorded, frame_meant, IsOfStore}
use Rattle.vm_attempt_laws.specs.Words.{Version, AwaitTree, Frame, Request, NotificationId, keys_of, are_by_text, IsNote, Machine, Reply, Answered, AwaitsTree, AwaitsChild, Finished, FailedBy, SendsWaiting, SendsReply}
use Rattle.vm_attempt_laws.proofs.Texts.{HasTexts}

abbrev IsAccepted : Frame → Type 0
IsAccepted Frame.NotAccepted = ⊥
IsAccepted (Frame.Command request) = list_all is_utf8 (keys_of request) ≡ true
IsAccepted _ = Unit {0}

recorded_of : (b : Bool) (request : Request) → IsAccepted (if b then Frame.Command request else Frame.NotAccepted) → (b ≡ true) × (list_all is_utf8 (keys_of request) ≡ true)
recorded_of true request h = (refl, h)
recorded_of false request h = absurd h

accepted_of : (version : Version) (coming : List Sent) → AllByRecursion IsAccepted (map (frame_meant version) coming) → AllByRecursion IsOfStore coming
accepted_of version [] all = tt
accepted_of version (Asks request ∷ coming) all = (recorded_of (is_recorded request) request all.0, accepted_of version coming all.1)
accepted_of version (Proposes completion value ∷ coming) all = (tt, accepted_of version coming all.1)
accepted_of version (Awaits tree ∷ coming) all = (tt, accepted_of version coming all.1)
accepted_of version (Suspends tree ∷ coming) all = (tt, accepted_of version coming all.1)
accepted_of version (Fails error ∷ coming) all = (tt, accepted_of version coming all.1)
accepted_of version (Ends ∷ coming) all = (tt, accepted_of version coming all.1)

note_accepted : (frame : Frame) → IsNote frame → IsAccepted frame
note_accepted (Frame.RunOutcome completion value told) note = tt
note_accepted (Frame.Error code message behavior delay) note = tt
note_accepted _ note = absurd note

notes_accepted : (frames : List Frame) → AllByRecursion IsNote frames → AllByRecursion IsAccepted frames
notes_accepted [] all = tt
notes_accepted (frame ∷ frames) all = (note_accepted frame all.0, notes_accepted frames all.1)

commands_accepted : (requests : List Request) → are_by_text requests ≡ true → AllByRecursion IsAccepted (map Frame.Command requests)
commands_accepted [] texts = tt
commands_accepted (request ∷ requests) texts = by_first (list_all is_utf8 (keys_of request)) refl texts (commands_accepted requests)
  where
    by_first : (b : Bool) → list_all is_utf8 (keys_of request) ≡ b → (b && are_by_text requests) ≡ true → (are_by_text requests ≡ true → AllByRecursion IsAccepted (map Frame.Command requests))
        → AllByRecursion IsAccepted (map Frame.Command (request ∷ requests))
    by_first true e texts later = (e, later texts)
    by_first false e texts later = cc

waiting_accepted : (version : ℕ) (is_closed : Bool) (tree : AwaitTree (Option NotificationId)) (frames : List Frame) → SendsWaiting version is_closed tree frames → AllByRecursion IsAccepted frames
waiting_accepted version false tree frames (inl none) = subst (AllByRecursion IsAccepted) (sym none) tt
waiting_accepted version false tree frames (inr told) = subst (AllByRecursion IsAccepted) (sym told.1) (tt, tt)
waiting_accepted version true tree frames sends = subst (AllByRecursion IsAccepted) (sym sends.1) (tt, tt)

reply_accepted : (version : ℕ) (is_closed : Bool) (m : Machine) (reply : Reply) (frames : List Frame) → HasTexts reply → SendsReply version is_closed m reply frames → AllByRecursion IsAccepted frames
reply_accepted version is_closed m (Answered answer after) frames texts sends =
    subst (AllByRecursion IsAccepted) (sym sends.2)
    (commands_accepted sends.0 (all-back (λ request. list_all is_utf8 (keys_of request)) m.written sends.0 (ap are_by_text (sym sends.1) ∙ texts)))
reply_accepted version is_closed m (AwaitsTree tree after) frames texts sends = waiting_accepted version is_closed _ frames sends
reply_accepted version is_closed m (AwaitsChild child after) frames texts sends = waiting_accepted version is_closed _ frames sends
reply_accepted version is_closed m (Finished after) frames texts sends = subst (AllByRecursion IsAccepted) (sym sends) (tt, tt)
reply_accepted version is_closed m (FailedBy fault) frames texts sends = notes_accepted frames sends

-- of a reply
pub sent_of_store : (number : ℕ) (is_closed : Bool) (m : Machine) (reply : Reply) (version : Version) (coming : List Sent) → HasTexts reply → SendsReply number is_closed m reply (map (frame_meant version) coming) → AllByRecursion IsOfStore coming
sent_of_store number is_closed m reply version coming texts sends = accepted_of version coming (reply_accepted number is_closed m reply (map (frame_meant version) coming) texts sends)

-- and of what says nothing of requests
pub notes_of_store : (version : Version) (coming : List Sent) → AllByRecursion IsNote (map (frame_meant version) coming) → AllByRecursion IsOfStore coming
notes_of_store version coming all = accepted_of version coming (notes_accepted (map (frame_meant version) coming) all)
