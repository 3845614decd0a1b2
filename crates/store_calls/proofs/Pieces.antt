-- Bytes in one piece and then in a second are taken as the two joined.
use Rattle.std.proofs.Common.{◌≡◌, refl, sym, ap, ◌∙◌, ℕ, Bool, true, false, true≢false, List, [], ◌++◌, append-nil, append_assoc, Option, Some, None, Ok, Err, inl, inr}
use Rattle.journal_model.specs.Notification.{Bytes, Text}
use Rattle.journal_model.specs.Event.{Event}
use Rattle.journal_model.specs.Attempt.{is_live}
use Rattle.store_refusals.specs.declared.refusal.Refusal.{Refusal}
use Rattle.store_refusals.specs.RefusalConditions.{is_circumstance}
use Rattle.store_steps.specs.declared.frame.FrameReply.{FrameReply}
use Rattle.store_steps.specs.PreparedFrames.{lies_in_frame}
use Rattle.store_calls.specs.AbstractStore.{Standing, StaysStanding}
use Rattle.store_calls.specs.Calls.{PutsBehind, RefusesBytes}
use Rattle.store_calls.specs.Frames.{Accepts, TakesFrames, LeavesRefused, Rests}
use Rattle.store_calls.specs.Pieces.{Answer, IsByEvents, IsUnhindered, replies_of, PiecesJoin}
use Rattle.store_calls.proofs.Behind.{IsBehind, longer, some_same, none_some}
use Rattle.store_calls.proofs.Frames.{GoesOn, no_memory, frames_join, ended_on, refused_on, behind_none, frames_same}

both_stay : (a b c : Standing) → StaysStanding a b → StaysStanding a c → StaysStanding b c
both_stay a b c one two = record { events = two.events ∙ sym one.events; outputs = λ id. two.outputs id ∙ sym (one.outputs id) }

then_stays : (a b c : Standing) → StaysStanding a b → StaysStanding b c → StaysStanding a c
then_stays a b c one two = record { events = two.events ∙ one.events; outputs = λ id. two.outputs id ∙ one.outputs id }

-- bytes that are refused without want of memory are those of no live attempt, and nothing has changed
refused_bytes : (b : Bool) (id : Text) (attempt : ℕ) (why : Refusal) (old new : Standing) → RefusesBytes b id attempt why old new → is_circumstance why ≡ false → (b ≡ false) × StaysStanding old new
refused_bytes true id attempt why old new refuses not = absurd (no_memory why refuses.0 not)
refused_bytes false id attempt why old new refuses not = (refl, refuses.stays)

module _ (id : Text) (attempt : ℕ) (first second : Bytes) where
  abbrev Joined : (one two whole : Answer) (new joined : Standing) → Type 0
  Joined one two whole new joined = StaysStanding new joined × (replies_of whole ≡ replies_of one ++ replies_of two)

  -- nothing is accepted of an attempt of which nothing waits
  second_refused : (two : Answer) (between new : Standing) → between.outputs id ≡ None → Accepts id attempt second two between new → IsUnhindered two → StaysStanding between new × (replies_of two ≡ [])
  second_refused (Ok taken) between new none accepts by = absurd (none_some (sym none ∙ accepts.1.waits))
  second_refused (Err why) between new none accepts by = ((refused_bytes (is_live between.events id attempt) id attempt why between new accepts by).1, refl)

  -- where the attempt is over behind the first piece, it is so behind both
  over_behind : (replies later all : List FrameReply) (two : Answer) (between new joined : Standing) → between.outputs id ≡ None → Accepts id attempt second two between new → IsUnhindered two
      → all ≡ replies ++ later → (later ≡ []) × IsBehind id attempt second between joined → StaysStanding new joined × (all ≡ replies ++ replies_of two)
  over_behind replies later all two between new joined none accepts by all_is ends =
      let refused : StaysStanding between new × (replies_of two ≡ []) = second_refused two between new none accepts by in (
        both_stay between new joined refused.0 (behind_none id attempt second between joined none ends.1),
        all_is ∙ ap (λ (some : List FrameReply). replies ++ some) (ends.0 ∙ sym refused.1),
      )

  -- where it goes on, the second piece is put behind what waits then
  goes_on : (replies later all : List FrameReply) (last : Option Refusal) (two : Answer) (mid between new point joined : Standing) → is_live mid.events id attempt ≡ true → StaysStanding mid between
      → Accepts id attempt second two between new → IsUnhindered two → all ≡ replies ++ later → IsBehind id attempt second mid point → TakesFrames id attempt later last point joined → IsByEvents last
      → StaysStanding new joined × (all ≡ replies ++ replies_of two)
  goes_on replies later all last (Err why) mid between new point joined live stays accepts by all_is behind takes also =
      let dead : is_live between.events id attempt ≡ false = (refused_bytes (is_live between.events id attempt) id attempt why between new accepts by).0 in
      absurd (true≢false (sym live ∙ ap (λ (events : List Event). is_live events id attempt) (sym stays.events) ∙ dead))
  goes_on replies later all last (Ok taken) mid between new point joined live stays accepts by all_is behind takes also =
      let pushed : Standing = accepts.0 in
      let puts : PutsBehind id attempt second between pushed = accepts.1 in
      let same : StaysStanding new joined × (later ≡ taken.0) =
      frames_same id attempt taken.0 later taken.1 last pushed new point joined
      (record {
        events = behind.events ∙ sym stays.events ∙ sym puts.events;
        own =
            behind.own ∙ ap (longer second) (sym (stays.outputs id) ∙ puts.waits) ∙ ap Some (sym (append-nil (puts.before ++ second))) ∙ ap (longer []) (sym puts.own);
        others = λ other apart. behind.others other apart ∙ sym (stays.outputs other) ∙ sym (puts.others other apart);
      })
      accepts.2 takes by also in
      (same.0, all_is ∙ ap (λ (some : List FrameReply). replies ++ some) same.1)

  -- what becomes of the rest, by why no further frame of the first piece was taken
  by_rests : (why last : Option Refusal) (replies later all : List FrameReply) (two : Answer) (mid between new point joined : Standing) → Rests id attempt why mid between → IsByEvents why
      → Accepts id attempt second two between new → IsUnhindered two → all ≡ replies ++ later → IsBehind id attempt second mid point → TakesFrames id attempt later last point joined → IsByEvents last
      → StaysStanding new joined × (all ≡ replies ++ replies_of two)
  by_rests None last replies later all two mid between new point joined (inl ended) by accepts also all_is behind takes too =
      over_behind replies later all two between new joined (ended.stays.outputs id ∙ ended.over) accepts also all_is
      (ended_on id attempt second mid between ended later last point joined behind takes too)
  by_rests None last replies later all two mid between new point joined (inr none) by accepts also all_is behind takes too =
      goes_on replies later all last two mid between new point joined none.live none.stays accepts also all_is behind takes too
  by_rests (Some why) last replies later all two mid between new point joined (inl room) by accepts also all_is behind takes too = absurd (no_memory why room.memory by)
  by_rests (Some why) last replies later all two mid between new point joined (inr refused) by accepts also all_is behind takes too =
      by_left (lies_in_frame why) refused.left
    where
      by_left : (b : Bool) → LeavesRefused b id attempt mid between → StaysStanding new joined × (all ≡ replies ++ replies_of two)
      by_left true leaves =
          over_behind replies later all two between new joined leaves.own accepts also all_is
          (refused_on id attempt second why mid between refused by later last point joined behind takes too)
      by_left false stays = goes_on replies later all last two mid between new point joined refused.live stays accepts also all_is behind takes too

  -- the first piece, and both, put behind what waits
  pushed_behind : (old pushed far : Standing) → PutsBehind id attempt first old pushed → PutsBehind id attempt (first ++ second) old far → IsBehind id attempt second pushed far
  pushed_behind old pushed far one two = record {
    events = two.events ∙ sym one.events;
    own =
        two.own ∙ ap (λ (before : Bytes). Some (before ++ (first ++ second))) (some_same (sym two.waits ∙ one.waits)) ∙ ap Some (sym (append_assoc one.before first second))
        ∙ ap (longer second) (sym one.own);
    others = λ other apart. two.others other apart ∙ sym (one.others other apart);
  }

  by_answers : (one two whole : Answer) (old between new joined : Standing) → Accepts id attempt first one old between → Accepts id attempt second two between new
      → Accepts id attempt (first ++ second) whole old joined → IsUnhindered one → IsUnhindered two → IsUnhindered whole → Joined one two whole new joined
  by_answers (Err why) two (Err other) old between new joined first_refused accepts refused by also too =
      let dead : (is_live old.events id attempt ≡ false) × StaysStanding old between = refused_bytes (is_live old.events id attempt) id attempt why old between first_refused by in
      let stays : StaysStanding old joined = (refused_bytes (is_live old.events id attempt) id attempt other old joined refused too).1 in
      by_second two accepts also (ap (λ (events : List Event). is_live events id attempt) dead.1.events ∙ dead.0) (both_stay old between joined dead.1 stays)
    where
      by_second : (two : Answer) → Accepts id attempt second two between new → IsUnhindered two → is_live between.events id attempt ≡ false → StaysStanding between joined → StaysStanding new joined × ([] ≡ replies_of two)
      by_second (Ok taken) accepts by dead stays = absurd (true≢false (sym accepts.1.live ∙ dead))
      by_second (Err why) accepts by dead stays =
          (both_stay between new joined (refused_bytes (is_live between.events id attempt) id attempt why between new accepts by).1 stays, refl)
  by_answers (Err why) two (Ok all) old between new joined first_refused accepts whole by also too =
      absurd (true≢false (sym whole.1.live ∙ (refused_bytes (is_live old.events id attempt) id attempt why old between first_refused by).0))
  by_answers (Ok taken) two (Err why) old between new joined one accepts refused by also too =
      absurd (true≢false (sym one.1.live ∙ (refused_bytes (is_live old.events id attempt) id attempt why old joined refused too).0))
  by_answers (Ok taken) two (Ok all) old between new joined one accepts whole by also too =
      let takes : TakesFrames id attempt taken.0 taken.1 one.0 between = one.2 in
      let on : GoesOn id attempt second taken.0 all.0 all.1 takes.between joined =
      frames_join id attempt second taken.0 one.0 takes.between takes.taken all.0 all.1 whole.0 joined (pushed_behind old one.0 whole.0 one.1 whole.1) whole.2 too in
      by_rests taken.1 all.1 taken.0 on.later all.0 two takes.between between new on.point joined takes.rests by accepts also on.all_is on.behind on.takes too

pub pieces : PiecesJoin
pieces id attempt first second = by_answers id attempt first second
