-- Frames that a store takes of an attempt are the first whole items of what it holds of it; and what it holds of others stays.
use Rattle.std.proofs.Common.{◌≡◌, ◌⊎◌, refl, sym, ap, subst, ◌∙◌, inl, inr, ℕ, ◌+◌, ◌==◌, eq-eqb, Bool, true, false, true≢false, ◌&&◌, if◌then◌else◌, bytes_eq, List, [], ◌∷◌, ◌++◌, append_assoc, length, map, reverse, Option, Some, None, is_some}
use Rattle.std.proofs.lemmas.Bool.{and_from}
use Rattle.std.proofs.lemmas.List.{map-append, reverse-append}
use Rattle.std.proofs.lemmas.Slice.Eq.{bytes_eq-Decides}
use Rattle.journal_model.specs.Notification.{Bytes, Text}
use Rattle.journal_model.specs.Event.{Event, Frame}
use Rattle.journal_model.specs.Journal.{is_of, version_of}
use Rattle.journal_model.specs.Attempt.{attempts_begun, begins_attempt, ends_live, live_attempt}
use Rattle.journal_model.specs.Cause.{causes_of, IsAccepted}
use Rattle.protocol_stream.specs.Item.{item_at}
use Rattle.store_refusals.specs.declared.refusal.Refusal.{Refusal}
use Rattle.store_refusals.specs.RefusalConditions.{IsRefused}
use Rattle.store_steps.specs.declared.frame.FrameReply.{FrameReply}
use Rattle.store_steps.specs.PreparedFrames.{does_end, lies_in_frame}
use Rattle.store_calls.specs.AbstractStore.{Standing, StaysStanding, Adds, LeavesWaiting}
use Rattle.store_calls.specs.Calls.{PutsBehind, Stops}
use Rattle.store_calls.specs.Frames.{frame_in, LeavesRefused, rest_after, Rests, TakesEach}
use Rattle.store_calls.proofs.Live.{live_when, taken_live, told_end}
use Rattle.schedule_model.proofs.Holding.{some_is, some_none}
use Rattle.schedule_laws.specs.Schedules.event
use Rattle.schedule_laws.specs.Schedules.reply
use Rattle.schedule_laws.specs.Schedules.refusal
use Rattle.schedule_laws.specs.Schedules.{Reply, RepliesDone, HandsOutEach, StopsHandingOut}
use Rattle.schedule_laws.specs.WrittenFrames.{AreFrames}
use Rattle.durable_schedule.specs.MovedBytes.{HasEnded, NoFurther}

-- ---- frames

last_first : {A : Type 0} (x : A) (xs : List A) → reverse (x ∷ xs) ≡ reverse xs ++ x ∷ []
last_first x xs = reverse-append (x ∷ []) xs

ends_more : (taken more : List Frame) → HasEnded taken → HasEnded (taken ++ more)
ends_more [] more ended = absurd ended
ends_more (last ∷ earlier) more ended = ended

module _ (id : Text) (n : ℕ) where
  -- these frames were taken of what waited, and the rest waits, or the attempt is over
  pub record Took (s t : Standing) (waits : Bytes) : Type 0 where
    pub frames : List Frame
    pub rest : Bytes
    pub events : t.events ≡ map (Event.Move id n) (reverse frames) ++ s.events
    pub are : AreFrames (version_of s.events id) waits frames rest
    pub left : (t.outputs id ≡ Some rest) ⊎ ((t.outputs id ≡ None) × HasEnded (reverse frames))

  pub took_each : (replies : List FrameReply) (s t : Standing) (waits : Bytes) → s.outputs id ≡ Some waits → TakesEach id n replies s t → Took s t waits
  took_each [] s t waits is it = record { frames = []; rest = waits; events = it.events; are = refl; left = inl (it.outputs id ∙ is) }
  took_each (said ∷ replies) s t waits is it = by_end (does_end said) refl (λ some. took_each replies it.0 t it.1.rest some it.2)
    where
      m : Standing
      m = it.0

      frame : Frame
      frame = it.1.frame

      same : it.1.next.output ≡ waits
      same = some_is it.1.next.output waits (sym it.1.next.waits ∙ is)

      first : item_at waits ≡ Some (it.1.next.item, it.1.rest)
      first = subst (λ (bytes : Bytes). item_at bytes ≡ Some (it.1.next.item, it.1.rest)) same it.1.next.first

      version_same : version_of m.events id ≡ version_of s.events id
      version_same = ap (λ (events : List Event). version_of events id) it.1.leaves.events

      -- the first frame, and those behind it
      with_frame : (more : List Frame) (u : Standing) → u.events ≡ map (Event.Move id n) (reverse more) ++ m.events → u.events ≡ map (Event.Move id n) (reverse (frame ∷ more)) ++ s.events
      with_frame more u grows =
          grows ∙ ap (λ (events : List Event). map (Event.Move id n) (reverse more) ++ events) it.1.leaves.events
          ∙ sym (append_assoc (map (Event.Move id n) (reverse more)) (Event.Move id n frame ∷ []) s.events)
          ∙ ap (λ (events : List Event). events ++ s.events) (sym (map-append (Event.Move id n) (reverse more) (frame ∷ [])))
          ∙ ap (λ (frames : List Frame). map (Event.Move id n) frames ++ s.events) (sym (last_first frame more))

      none_more : (some : List FrameReply) → m.outputs id ≡ None → TakesEach id n some m t → StaysStanding m t
      none_more [] none stays = stays
      none_more (one ∷ some) none takes = some_none (sym takes.1.next.waits ∙ none)

      by_end : (b : Bool) → does_end said ≡ b → (m.outputs id ≡ Some it.1.rest → Took m t it.1.rest) → Took s t waits
      by_end true ends further =
          let none : m.outputs id ≡ None = it.1.leaves.own ∙ ap (λ (b : Bool). rest_after b it.1.rest) ends in
          let stays = none_more replies none it.2 in
          record {
            frames = frame ∷ [];
            rest = it.1.rest;
            events = with_frame [] t stays.events;
            are = (it.1.next.item, it.1.rest, first, it.1.next.frame_is, refl);
            left = inr (stays.outputs id ∙ none, sym (told_end s.events id frame said it.1.replied) ∙ ends);
          }
      by_end false goes further =
          let some : m.outputs id ≡ Some it.1.rest = it.1.leaves.own ∙ ap (λ (b : Bool). rest_after b it.1.rest) goes in
          let behind = further some in
          record {
            frames = frame ∷ behind.frames;
            rest = behind.rest;
            events = with_frame behind.frames t behind.events;
            are = (it.1.next.item, it.1.rest, first, it.1.next.frame_is, subst (λ (v : ℕ). AreFrames v it.1.rest behind.frames behind.rest) version_same behind.are);
            left = elim behind.left [
              | inl waits ↦ inl waits
              | inr over ↦ inr (over.0, subst (λ (frames : List Frame). HasEnded frames) (sym (last_first frame behind.frames)) (ends_more (reverse behind.frames) (frame ∷ []) over.1))
            ];
          }

  -- ---- why no further one is

  module _ (s m t : Standing) (waits : Bytes) (took : Took s m waits) where
    abbrev taken : List Frame
    taken = reverse took.frames

    pub no_further : (why : Option Refusal) → Rests id n why m t → NoFurther id n taken took.rest why s.events
    no_further None (inl ended) = elim took.left [
      | inl some ↦ some_none (sym some ∙ ended.over)
      | inr over ↦ inr over.1
    ]
    no_further None (inr none) = elim took.left [
      | inl some ↦ inl (subst (λ (bytes : Bytes). item_at bytes ≡ None) (some_is none.output took.rest (sym none.waits ∙ some)) none.none)
      | inr over ↦ some_none (sym none.waits ∙ over.0)
    ]
    no_further (Some why) (inl room) = inl room.memory
    no_further (Some why) (inr r) = elim took.left [
      | inl some ↦ let same : r.next.output ≡ took.rest = some_is r.next.output took.rest (sym r.next.waits ∙ some) in
          let first : item_at took.rest ≡ Some (r.next.item, r.rest) = subst (λ (bytes : Bytes). item_at bytes ≡ Some (r.next.item, r.rest)) same r.next.first in
          inr (
            r.frame,
            r.rest,
            (r.next.item, r.rest, first, r.next.frame_is ∙ ap (λ (v : ℕ). frame_in v r.next.item) (version_behind took.frames took.events), refl),
            subst (λ (events : List Event). IsRefused (causes_of events (Event.Move id n r.frame)) why) took.events r.cause,
          )
      | inr over ↦ some_none (sym r.next.waits ∙ over.0)
    ]
      where
        moves_behind : (frames : List Frame) → version_of (map (Event.Move id n) frames ++ s.events) id ≡ version_of s.events id
        moves_behind [] = refl
        moves_behind (frame ∷ frames) = moves_behind frames

        version_behind : (frames : List Frame) → m.events ≡ map (Event.Move id n) (reverse frames) ++ s.events → version_of m.events id ≡ version_of s.events id
        version_behind frames grows = ap (λ (events : List Event). version_of events id) grows ∙ moves_behind (reverse frames)

    -- of a live attempt the rest waits
    live_none : t.outputs id ≡ None → live_attempt t.events id ≡ Some n → ⊥
    live_none none live = true≢false (sym (ap (λ (o : Option ℕ). is_some o) live) ∙ sym (t.live id) ∙ ap (λ (o : Option Bytes). is_some o) none)

    rest_waits : t.outputs id ≡ m.outputs id → live_attempt t.events id ≡ Some n → t.outputs id ≡ Some took.rest
    rest_waits same live = elim took.left [
      | inl some ↦ same ∙ some
      | inr over ↦ absurd (live_none (same ∙ over.0) live)
    ]

    refused_waits : (b : Bool) → LeavesRefused b id n m t → live_attempt t.events id ≡ Some n → t.outputs id ≡ Some took.rest
    refused_waits true left live = absurd (live_none left.own live)
    refused_waits false stays live = rest_waits (stays.outputs id) live

    pub left_waits : (why : Option Refusal) → Rests id n why m t → live_attempt t.events id ≡ Some n → t.outputs id ≡ Some took.rest
    left_waits None (inl ended) live = rest_waits (ended.stays.outputs id) live
    left_waits None (inr none) live = rest_waits (none.stays.outputs id) live
    left_waits (Some why) (inl room) live = rest_waits (room.stays.outputs id) live
    left_waits (Some why) (inr r) live = refused_waits (lies_in_frame why) r.left live

  -- ---- what is done with others

  -- where the attempt is live behind it, it was before, and the same waits of it
  abbrev pub Quiet : Standing → Standing → Type 0
  Quiet s t = live_attempt t.events id ≡ Some n → (live_attempt s.events id ≡ Some n) × (t.outputs id ≡ s.outputs id)

  pub quiet_on : (s m t : Standing) → Quiet s m → Quiet m t → Quiet s t
  quiet_on s m t one two live = let b = two live in let a = one b.0 in (a.0, b.1 ∙ a.1)

  pub quiet_stays : (s t : Standing) → StaysStanding s t → Quiet s t
  quiet_stays s t stays live = (ap (λ (events : List Event). live_attempt events id) (sym stays.events) ∙ live, stays.outputs id)

  live_before : (event : Event) (all : List Event) → begins_attempt id event ≡ false → live_attempt (event ∷ all) id ≡ Some n → live_attempt all id ≡ Some n
  live_before event all plain live = by_cases (begins_attempt id event) (is_of id event && ends_live event) plain live
    where
      by_cases : (b c : Bool) → b ≡ false → (if b then Some ((if b then 1 else 0) + attempts_begun all id) else (if c then None else live_attempt all id)) ≡ Some n → live_attempt all id ≡ Some n
      by_cases true c e same = absurd (true≢false e)
      by_cases false true e same = some_none (sym same)
      by_cases false false e same = same

  pub live_then : (event : Event) (s t : Standing) → begins_attempt id event ≡ false → t.events ≡ event ∷ s.events → live_attempt t.events id ≡ Some n → live_attempt s.events id ≡ Some n
  live_then event s t plain more live = live_before event s.events plain (ap (λ (events : List Event). live_attempt events id) (sym more) ∙ live)

  pub quiet_adds : (event : Event) (s t : Standing) → begins_attempt id event ≡ false → Adds event s t → Quiet s t
  quiet_adds event s t plain adds live = (live_then event s t plain adds.events live, adds.outputs id)

  -- an attempt of another invocation, or another one of this
  quiet_leaves : (event : Event) (other : Text) (output : Option Bytes) (s t : Standing) → begins_attempt id event ≡ false → LeavesWaiting event other output s t
      → (other ≡ id → live_attempt t.events id ≡ Some n → ⊥) → Quiet s t
  quiet_leaves event other output s t plain leaves never live = (live_then event s t plain leaves.events live, by_id (bytes_eq other id) refl)
    where
      by_id : (b : Bool) → bytes_eq other id ≡ b → t.outputs id ≡ s.outputs id
      by_id true e = absurd (never ((bytes_eq-Decides other id).0 e) live)
      by_id false e = leaves.others id e

  quiet_stop : (other : Text) (k : ℕ) (s t : Standing) → LeavesWaiting (Event.Stop other k) other None s t → Quiet s t
  quiet_stop other k s t leaves =
      quiet_leaves (Event.Stop other k) other None s t refl leaves
      (λ same live.
      let none : t.outputs id ≡ None = ap t.outputs (sym same) ∙ leaves.own in
      true≢false (sym (ap (λ (o : Option ℕ). is_some o) live) ∙ sym (t.live id) ∙ ap (λ (o : Option Bytes). is_some o) none))

  pub quiet_stopped : (other : Text) (k : ℕ) (answer : Reply) (s t : Standing) → RepliesDone (λ result. Stops other k result s t) answer → Quiet s t
  quiet_stopped other k reply.Done s t it = quiet_stop other k s t it
  quiet_stopped other k (reply.Refused (refusal.Store why)) s t it = quiet_stays s t it.stays
  quiet_stopped other k _ s t it = absurd it

  module _ (other : Text) (k : ℕ) (far : (bytes_eq other id && (k == n)) ≡ false) where
    -- it is not live with another one of its invocation
    not_both : (events : List Event) → other ≡ id → live_attempt events other ≡ Some k → live_attempt events id ≡ Some n → ⊥
    not_both events same own live =
        let number : k ≡ n = some_is k n (sym own ∙ ap (λ (x : Text). live_attempt events x) same ∙ live) in
        true≢false (sym (and_from (bytes_eq other id) (k == n) ((bytes_eq-Decides other id).1 same) (eq-eqb k n number)) ∙ far)

    pub quiet_takes : (replies : List FrameReply) (s t : Standing) → TakesEach other k replies s t → Quiet s t
    quiet_takes [] s t it = quiet_stays s t it
    quiet_takes (said ∷ replies) s t it =
        let frame : Event = Event.Move other k it.1.frame in
        let accepted : IsAccepted (frame ∷ s.events) = subst IsAccepted it.1.leaves.events it.0.accepted in
        quiet_on s it.0 t
        (quiet_leaves frame other (rest_after (does_end said) it.1.rest) s it.0 refl it.1.leaves
        (λ same live. not_both s.events same (taken_live s.events other k it.1.frame accepted.0) (live_then frame s it.0 refl it.1.leaves.events live)))
        (quiet_takes replies it.0 t it.2)

    quiet_refused : (b : Bool) (s t : Standing) → LeavesRefused b other k s t → Quiet s t
    quiet_refused true s t left = quiet_stop other k s t left
    quiet_refused false s t stays = quiet_stays s t stays

    pub quiet_rests : (why : Option Refusal) (s t : Standing) → Rests other k why s t → Quiet s t
    quiet_rests None s t (inl ended) = quiet_stays s t ended.stays
    quiet_rests None s t (inr none) = quiet_stays s t none.stays
    quiet_rests (Some why) s t (inl room) = quiet_stays s t room.stays
    quiet_rests (Some why) s t (inr r) = quiet_refused (lies_in_frame why) s t r.left

    pub quiet_puts : (bytes : Bytes) (s t : Standing) → PutsBehind other k bytes s t → Quiet s t
    quiet_puts bytes s t puts live =
        let before : live_attempt s.events id ≡ Some n = ap (λ (events : List Event). live_attempt events id) (sym puts.events) ∙ live in
        (before, by_id (bytes_eq other id) refl before)
      where
        by_id : (b : Bool) → bytes_eq other id ≡ b → live_attempt s.events id ≡ Some n → t.outputs id ≡ s.outputs id
        by_id true e before = absurd (not_both s.events ((bytes_eq-Decides other id).0 e) (live_when s.events other k puts.live) before)
        by_id false e before = puts.others id e

  pub quiet_parts : (other : Text) (k count : ℕ) (parts : List Bytes) (s t : Standing) → HandsOutEach other k count parts s t → Quiet s t
  quiet_parts other k count [] s t hands = subst (λ (m : Standing). Quiet s m) (sym hands) (λ live. (live, refl))
  quiet_parts other k count (last ∷ earlier) s t hands =
      quiet_on s hands.0 t (quiet_parts other k count earlier s hands.0 hands.1) (quiet_adds (Event.Feed other k (length last)) hands.0 t refl hands.3.1)

  pub quiet_no_part : (other : Text) (k count : ℕ) (parts : List Bytes) (why : Option Refusal) (s t : Standing) → StopsHandingOut other k count parts why s t → Quiet s t
  quiet_no_part other k count parts None s t stops = subst (λ (m : Standing). Quiet s m) (sym stops.1) (λ live. (live, refl))
  quiet_no_part other k count parts (Some why) s t stops = quiet_stays s t stops.2.stays
