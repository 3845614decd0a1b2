-- Frames are taken one after another.
use Rattle.std.proofs.Common.{◌≡◌, ◌⊎◌, ◌∙◌, refl, sym, ap, subst, ℕ, inl, inr, Bool, true, false, List, [], ◌∷◌, ◌++◌, Option, Some, None, bytes_eq}
use Rattle.std.proofs.lemmas.Slice.Eq.{bytes_eq-Decides}
use Rattle.journal_model.specs.Notification.{Bytes, Text}
use Rattle.journal_model.specs.Event.{Event, Frame}
use Rattle.journal_model.specs.Journal.{version_of}
use Rattle.journal_model.specs.Attempt.{is_live}
use Rattle.protocol_stream.specs.Item.{Item, item_at}
use Rattle.store_refusals.specs.declared.refusal.Refusal.{Refusal}
use Rattle.store_steps.specs.declared.frame.FrameReply.{FrameReply}
use Rattle.store_steps.specs.PreparedFrames.{IsReply, does_end}
use Rattle.store_calls.specs.AbstractStore.{KeepsOthers, Standing, StaysStanding}
use Rattle.store_calls.specs.Calls.{PutsBehind, RefusesBytes}
use Rattle.store_calls.specs.Frames.{TakesFrame, TakesEach, TakesFirstFrames, frame_in, rest_after}
use Rattle.store_calls.proofs.Live.{still_live, told_end}

pub same_stays : (s : Standing) → StaysStanding s s
same_stays s = record { events = refl; outputs = λ id. refl }

-- nothing has changed before
pub before_still : (id : Text) (n : ℕ) (reply : FrameReply) (s m t : Standing) → StaysStanding s m → TakesFrame id n reply m t → TakesFrame id n reply s t
before_still id n reply s m t stays one = record {
  frame = one.frame;
  rest = one.rest;
  next = record {
    output = one.next.output;
    waits = sym (stays.outputs id) ∙ one.next.waits;
    item = one.next.item;
    first = one.next.first;
    frame_is = subst (λ (events : List Event). one.frame ≡ frame_in (version_of events id) one.next.item) stays.events one.next.frame_is;
  };
  replied = subst (λ (events : List Event). IsReply events id one.frame reply) stays.events one.replied;
  leaves = record {
    events = one.leaves.events ∙ ap (λ (events : List Event). Event.Move id n one.frame ∷ events) stays.events;
    own = one.leaves.own;
    others = λ other apart. one.leaves.others other apart ∙ stays.outputs other;
  };
}

-- one more
pub takes_more : (id : Text) (n : ℕ) (replies : List FrameReply) (reply : FrameReply) (s m t : Standing) → TakesEach id n replies s m → TakesFrame id n reply m t
    → TakesEach id n (replies ++ reply ∷ []) s t
takes_more id n [] reply s m t before one = (t, before_still id n reply s m t before one, same_stays t)
takes_more id n (first ∷ replies) reply s m t before one = (before.0, before.1, takes_more id n replies reply before.0 m t before.2 one)

-- then these are some
pub takes_first : (id : Text) (n : ℕ) (replies : List FrameReply) (reply : FrameReply) (s m t : Standing) → TakesEach id n replies s m → TakesFrame id n reply m t → TakesFirstFrames id n s t
takes_first id n [] reply s m t before one = (reply, [], takes_more id n [] reply s m t before one)
takes_first id n (first ∷ replies) reply s m t before one = (first, replies ++ reply ∷ [], takes_more id n (first ∷ replies) reply s m t before one)

-- an attempt is live behind a frame that does not end it
pub goes_on : (id : Text) (n : ℕ) (reply : FrameReply) (s t : Standing) → TakesFrame id n reply s t → does_end reply ≡ false → is_live s.events id n ≡ true → is_live t.events id n ≡ true
goes_on id n reply s t one goes live =
    subst (λ (events : List Event). is_live events id n ≡ true) (sym one.leaves.events)
    (still_live s.events id n one.frame (sym (told_end s.events id one.frame reply one.replied) ∙ goes) live)

-- and none waits of it behind one that does
pub none_behind : (id : Text) (n : ℕ) (reply : FrameReply) (s t : Standing) → TakesFrame id n reply s t → does_end reply ≡ true → t.outputs id ≡ None
none_behind id n reply s t one ends = one.leaves.own ∙ ap (λ (b : Bool). rest_after b one.rest) ends

-- where none waits, no further one is taken
none_taken : (id : Text) (n : ℕ) (replies : List FrameReply) (s t : Standing) → s.outputs id ≡ None → TakesEach id n replies s t → t.outputs id ≡ None
none_taken id n [] s t none it = it.outputs id ∙ none
none_taken id n (reply ∷ replies) s t none it = let waits = it.1.next.waits in absurd cc

-- so behind some frames the attempt is live still, or it is over
pub live_or_over : (id : Text) (n : ℕ) (replies : List FrameReply) (s t : Standing) → is_live s.events id n ≡ true → TakesEach id n replies s t
    → (is_live t.events id n ≡ true) ⊎ (t.outputs id ≡ None)
live_or_over id n [] s t live it = inl (subst (λ (events : List Event). is_live events id n ≡ true) (sym it.events) live)
live_or_over id n (reply ∷ replies) s t live it = by_end (does_end reply) refl (live_or_over id n replies it.0 t)
  where
    by_end : (b : Bool) → does_end reply ≡ b
        → (is_live it.0.events id n ≡ true → TakesEach id n replies it.0 t → (is_live t.events id n ≡ true) ⊎ (t.outputs id ≡ None)) → (is_live t.events id n ≡ true) ⊎ (t.outputs id ≡ None)
    by_end false goes further = further (goes_on id n reply s it.0 it.1 goes live) it.2
    by_end true ends further = inr (none_taken id n replies it.0 t (none_behind id n reply s it.0 it.1 ends) it.2)

-- bytes that are refused change nothing
pub bytes_stay : (live : Bool) (id : Text) (n : ℕ) (why : Refusal) (s t : Standing) → RefusesBytes live id n why s t → StaysStanding s t
bytes_stay true id n why s t it = it.1
bytes_stay false id n why s t it = it.stays

-- ---- what stands before tells what stands behind

both_stay : (s t u : Standing) → StaysStanding s t → StaysStanding s u → StaysStanding t u
both_stay s t u one other = record { events = other.events ∙ sym one.events; outputs = λ id. other.outputs id ∙ sym (one.outputs id) }

both_keep : (id : Text) (s t u : Standing) → u.outputs id ≡ t.outputs id → KeepsOthers id s t → KeepsOthers id s u → (any : Text) → u.outputs any ≡ t.outputs any
both_keep id s t u own one other any = by_test (bytes_eq id any) refl
  where
    by_test : (b : Bool) → bytes_eq id any ≡ b → u.outputs any ≡ t.outputs any
    by_test true mine = subst (λ (want : Text). u.outputs want ≡ t.outputs want) ((bytes_eq-Decides id any).0 mine) own
    by_test false apart = other any apart ∙ sym (one any apart)

only_some : {A : Type 0} (o : Option A) (x y : A) → o ≡ Some x → o ≡ Some y → x ≡ y
only_some o x y one other = cc

pub same_put : (id : Text) (n : ℕ) (bytes : Bytes) (s t u : Standing) → PutsBehind id n bytes s t → PutsBehind id n bytes s u → StaysStanding t u
same_put id n bytes s t u one other =
    let same = only_some (s.outputs id) one.before other.before one.waits other.waits in
    record {
      events = other.events ∙ sym one.events;
      outputs = both_keep id s t u (other.own ∙ ap (λ (before : Bytes). Some (before ++ bytes)) (sym same) ∙ sym one.own) one.others other.others;
    }

same_frame : (id : Text) (n : ℕ) (reply : FrameReply) (s t u : Standing) → TakesFrame id n reply s t → TakesFrame id n reply s u → StaysStanding t u
same_frame id n reply s t u one other =
    let output = only_some (s.outputs id) one.next.output other.next.output one.next.waits other.next.waits in
    let first = only_some (item_at one.next.output) (one.next.item, one.rest) (other.next.item, other.rest) one.next.first (ap item_at output ∙ other.next.first) in
    let frame = one.next.frame_is ∙ ap (λ (pair : Item × Bytes). frame_in (version_of s.events id) pair.0) first ∙ sym other.next.frame_is in
    let rest = ap (λ (pair : Item × Bytes). rest_after (does_end reply) pair.1) first in
    record {
      events = other.leaves.events ∙ ap (λ (f : Frame). Event.Move id n f ∷ s.events) (sym frame) ∙ sym one.leaves.events;
      outputs = both_keep id s t u (other.leaves.own ∙ sym rest ∙ sym one.leaves.own) one.leaves.others other.leaves.others;
    }

pub same_taken : (id : Text) (n : ℕ) (replies : List FrameReply) (s m t u : Standing) → StaysStanding s m → TakesEach id n replies s t → TakesEach id n replies m u → StaysStanding t u
same_taken id n [] s m t u stays one other =
    both_stay s t u one (record { events = other.events ∙ stays.events; outputs = λ any. other.outputs any ∙ stays.outputs any })
same_taken id n (reply ∷ replies) s m t u stays one other =
    same_taken id n replies one.0 other.0 t u (same_frame id n reply s one.0 other.0 one.1 (before_still id n reply s m other.0 stays other.1)) one.2 other.2
