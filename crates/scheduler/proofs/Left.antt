-- Behind its stop an attempt is not live, whatever it did before.
use Rattle.std.proofs.Common.{◌≡◌, ◌+◌, true≢false, refl, sym, ap, subst, ◌∙◌, ℕ, zero, suc, arith, length, take, ◌⊎◌, inl, inr, Bool, true, false, ◌&&◌, if◌then◌else◌, bytes_eq, List, [], ◌∷◌, ◌++◌, Option, Some, None, Result, Ok, Err}
use Rattle.std.proofs.lemmas.Bool.Decides.{Decides-eqb}
use Rattle.std.proofs.lemmas.Slice.Eq.{bytes_eq-Decides}
use Rattle.journal_model.specs.Notification.{Bytes, Text}
use Rattle.journal_model.specs.Event.{Event as Accepted}
use Rattle.journal_model.specs.Journal.{is_of}
use Rattle.journal_model.specs.Attempt.{attempts_begun, begins_attempt, ends_live, is_live, live_attempt}
use Rattle.journal_model.specs.Run.{Handler}
use Rattle.vm_types.specs.declared.options.VMOptions.{VMOptions}
use Rattle.store_refusals.specs.declared.refusal.Refusal.{Refusal}
use Rattle.store_steps.specs.declared.frame.FrameReply.{FrameReply}
use Rattle.store_calls.specs.declared.begun.BegunAttempt.{BegunAttempt}
use Rattle.store_calls.specs.AbstractStore.{Standing, StaysStanding}
use Rattle.store_calls.specs.Calls.{BeginsStoredAttempt, HandsOut, RefusesBytes, Stops}
use Rattle.store_calls.specs.Frames.{Accepts, LeavesRefused, Rests, TakesEach}
use Rattle.store_calls.proofs.Live.{live_so}
use Rattle.store_steps.specs.PreparedFrames.{lies_in_frame}
use Rattle.schedule_model.specs.Attempts.{Attempt, Turn, output_of}
use Rattle.schedule_model.specs.Attempts.turn
use Rattle.schedule_model.specs.First.{with_first}
use Rattle.schedule_model.specs.HeldAttempts.{held_of, is_held, with_attempt}
use Rattle.schedule_model.specs.InputFeed.{HandsOutEach, StopsHandingOut}
use Rattle.schedule_model.specs.Outcomes.{tells_mismatch}
use Rattle.schedule_model.specs.declared.event.Event.{Event}
use Rattle.schedule_model.specs.declared.event.Event.TheVariants as event
use Rattle.schedule_model.specs.declared.event.EventRefusal.{EventRefusal}
use Rattle.schedule_model.specs.declared.event.EventRefusal.TheVariants as refusal
use Rattle.schedule_model.specs.declared.event.Reply.{Reply}
use Rattle.schedule_model.specs.declared.event.Reply.TheVariants as reply
use Rattle.schedule_model.specs.declared.held.HeldAttempt.{HeldAttempt}
use Rattle.schedule_model.specs.Schedule.{Applies, AppliesAll, ClosesOne, FeedsOne, IfHeld, MovesOne, RepliesDone, Scheduled, StopsOne, TurnsOne, UnlessMismatch}
use Rattle.schedule_model.proofs.Holding.{found_is, held_is, held_with, some_is}
use Rattle.scheduler.specs.declared.outcome.Outcome.{Outcome}
use Rattle.scheduler.specs.Loop.{all_bytes, Rest, Ends, UnlessRefused, Then, IsFedMore, IsWaiting, IsFedBehindBody, GoesOnBy, IsMoved, MakesTurns, IsFed, Stopping}
use Rattle.scheduler.specs.Outcomes.{brings_none, refusal_in}

itself : (id : Text) → bytes_eq id id ≡ true
itself id = (bytes_eq-Decides id id).1 refl

-- ---- accepted events

module _ (id : Text) where
  -- the live attempt is the last one begun
  live_or_none : (events : List Accepted) → (live_attempt events id ≡ None) ⊎ (live_attempt events id ≡ Some (attempts_begun events id))
  live_or_none [] = inl refl
  live_or_none (event ∷ earlier) = by_begin (begins_attempt id event) (is_of id event && ends_live event) (live_or_none earlier)
    where
      by_begin : (b c : Bool) → (live_attempt earlier id ≡ None) ⊎ (live_attempt earlier id ≡ Some (attempts_begun earlier id))
          → ((if b then Some ((if b then 1 else 0) + attempts_begun earlier id) else (if c then None else live_attempt earlier id)) ≡ None)
          ⊎ ((if b then Some ((if b then 1 else 0) + attempts_begun earlier id) else (if c then None else live_attempt earlier id)) ≡ Some ((if b then 1 else 0) + attempts_begun earlier id))
      by_begin true c before = inr refl
      by_begin false true before = inl refl
      by_begin false false (inl none) = inl none
      by_begin false false (inr some) =
          let same : attempts_begun earlier id ≡ 0 + attempts_begun earlier id = omega arith in
          inr (some ∙ ap (λ (k : ℕ). Some k) same)

  -- where the last one is not live, none is
  pub none_live : (events : List Accepted) (n : ℕ) → attempts_begun events id ≡ n → is_live events id n ≡ false → live_attempt events id ≡ None
  none_live events n last dead = elim (live_or_none events) [
    | inl none ↦ none
    | inr some ↦ absurd (true≢false (sym (live_so events id n (some ∙ ap (λ (k : ℕ). Some k) last)) ∙ dead))
  ]

  pub stop_ends : (n : ℕ) (events : List Accepted) → live_attempt (Accepted.Stop id n ∷ events) id ≡ None
  stop_ends n events = rw (itself id) refl

  pub begun_more : (now : ℕ) (events : List Accepted) → attempts_begun (Accepted.Begin id now ∷ events) id ≡ 1 + attempts_begun events id
  begun_more now events = rw (itself id) refl

  -- behind a stop of the last one, refused or not
  pub none_stopped : (n : ℕ) (result : Result (Unit {0}) Refusal) (s t : Standing) → attempts_begun s.events id ≡ n → Stops id n result s t → live_attempt t.events id ≡ None
  none_stopped n (Ok done) s t last stops = ap (λ (es : List Accepted). live_attempt es id) stops.events ∙ stop_ends n s.events
  none_stopped n (Err why) s t last stops = ap (λ (es : List Accepted). live_attempt es id) stops.stays.events ∙ none_live s.events n last stops.dead

  pub last_begun : (now : ℕ) (begun : BegunAttempt) (s t : Standing) → BeginsStoredAttempt id now begun s t → attempts_begun t.events id ≡ begun.number
  last_begun now begun s t begins = ap (λ (es : List Accepted). attempts_begun es id) begins.leaves.events ∙ begun_more now s.events ∙ sym begins.number

  -- ---- what begins no attempt

  abbrev Still : Standing → Standing → Type 0
  Still s t = attempts_begun t.events id ≡ attempts_begun s.events id

  added_still : (event : Accepted) (s t : Standing) → begins_attempt id event ≡ false → t.events ≡ event ∷ s.events → Still s t
  added_still event s t none events = by_begin (begins_attempt id event) none (ap (λ (es : List Accepted). attempts_begun es id) events)
    where
      by_begin : (b : Bool) → b ≡ false → attempts_begun t.events id ≡ (if b then 1 else 0) + attempts_begun s.events id → Still s t
      by_begin true none e = absurd cc
      by_begin false none e = omega (arith, e)

  stays_still : (s t : Standing) → StaysStanding s t → Still s t
  stays_still s t stays = ap (λ (es : List Accepted). attempts_begun es id) stays.events

  hands_still : (n most : ℕ) (result : Result Bytes Refusal) (s t : Standing) → HandsOut id n most result s t → Still s t
  hands_still n most (Ok bytes) s t hands = added_still (Accepted.Feed id n (length bytes)) s t refl hands.1.events
  hands_still n most (Err why) s t refuses = stays_still s t refuses.stays

  each_still : (n count : ℕ) (parts : List Bytes) (s t : Standing) → HandsOutEach id n count parts s t → Still s t
  each_still n count [] s t same = ap (λ (w : Standing). attempts_begun w.events id) same
  each_still n count (last ∷ earlier) s t (m, before, again, hands) = hands_still n _ (Ok last) m t hands ∙ each_still n count earlier s m before

  stops_still : (n count : ℕ) (parts : List Bytes) (why : Option Refusal) (s t : Standing) → StopsHandingOut id n count parts why s t → Still s t
  stops_still n count parts None s t (asked, same) = ap (λ (w : Standing). attempts_begun w.events id) same
  stops_still n count parts (Some why) s t (some, again, hands) = hands_still n _ (Err why) s t hands

  taken_still : (n : ℕ) (replies : List FrameReply) (s t : Standing) → TakesEach id n replies s t → Still s t
  taken_still n [] s t stays = stays_still s t stays
  taken_still n (one ∷ replies) s t (m, takes, more) = taken_still n replies m t more ∙ added_still (Accepted.Move id n takes.frame) s m refl takes.leaves.events

  left_still : (n : ℕ) (lies : Bool) (s t : Standing) → LeavesRefused lies id n s t → Still s t
  left_still n true s t stops = added_still (Accepted.Stop id n) s t refl stops.events
  left_still n false s t stays = stays_still s t stays

  rests_still : (n : ℕ) (why : Option Refusal) (s t : Standing) → Rests id n why s t → Still s t
  rests_still n None s t (inl ended) = stays_still s t ended.stays
  rests_still n None s t (inr none) = stays_still s t none.stays
  rests_still n (Some why) s t (inl full) = stays_still s t full.stays
  rests_still n (Some why) s t (inr refuses) = left_still n (lies_in_frame why) s t refuses.left

  bytes_still : (n : ℕ) (live : Bool) (why : Refusal) (s t : Standing) → RefusesBytes live id n why s t → Still s t
  bytes_still n true why s t (memory, stays) = stays_still s t stays
  bytes_still n false why s t refuses = stays_still s t refuses.stays

  accepts_still : (n : ℕ) (bytes : Bytes) (result : Result (List FrameReply × Option Refusal) Refusal) (s t : Standing) → Accepts id n bytes result s t → Still s t
  accepts_still n bytes (Ok taken) s t (m, puts, takes) =
      rests_still n taken.1 takes.between t takes.rests ∙ taken_still n taken.0 m takes.between takes.taken ∙ ap (λ (es : List Accepted). attempts_begun es id) puts.events
  accepts_still n bytes (Err why) s t refuses = bytes_still n _ why s t refuses

-- ---- an attempt that is held

module _ {H : Type 0} (function : H → Handler) (options : VMOptions) (id : Text) (n : ℕ) where
  -- it is the last one begun, and is held
  pub record Holds (s : Scheduled H) : Type 0 where
    pub last : attempts_begun s.standing.events id ≡ n
    pub one : HeldAttempt H
    pub held : held_of s.held id n ≡ Some one

  abbrev IsKeptBy : (HeldAttempt H → Standing → Reply → Standing → Attempt H → Type 0) → Type 0
  IsKeptBy Change = (one : HeldAttempt H) (s t : Standing) (answer : Reply) (changed : Attempt H) → one.invocation ≡ id → one.number ≡ n → Change one s answer t changed → Still id s t

  feeds_kept : (count : ℕ) → IsKeptBy (FeedsOne count)
  feeds_kept count one s t (reply.Fed bytes why) changed is_id is_n (parts, are, (m, hands, feeds, stops)) =
      stops_still id n count parts why m t (subst (λ (k : ℕ). StopsHandingOut id k count parts why m t) is_n (subst (λ (i : Text). StopsHandingOut i one.number count parts why m t) is_id stops))
      ∙ each_still id n count parts s m (subst (λ (k : ℕ). HandsOutEach id k count parts s m) is_n (subst (λ (i : Text). HandsOutEach i one.number count parts s m) is_id hands))
  feeds_kept count one s t (reply.Refused (refusal.Store why)) changed is_id is_n (hands, same) =
      hands_still id n count (Err why) s t (subst (λ (k : ℕ). HandsOut id k count (Err why) s t) is_n (subst (λ (i : Text). HandsOut i one.number count (Err why) s t) is_id hands))
  feeds_kept count one s t _ changed is_id is_n none = absurd none

  closes_kept : IsKeptBy ClosesOne
  closes_kept one s t reply.Done changed is_id is_n (adds, closes) = added_still id (Accepted.Close one.invocation one.number) s t refl adds.events
  closes_kept one s t (reply.Refused (refusal.Store why)) changed is_id is_n (refuses, same) = stays_still id s t refuses.stays
  closes_kept one s t _ changed is_id is_n none = absurd none

  turns_kept : (ran : _) → IsKeptBy (TurnsOne function ran)
  turns_kept ran one s t (reply.Turned turn) changed is_id is_n (turns, stays) = stays_still id s t stays
  turns_kept ran one s t _ changed is_id is_n none = absurd none

  accepts_own : (i : Text) (k : ℕ) (bytes : Bytes) (result : Result (List FrameReply × Option Refusal) Refusal) (s t : Standing) → i ≡ id → k ≡ n → Accepts i k bytes result s t → Still id s t
  accepts_own i k bytes result s t is_id is_n it =
      accepts_still id n bytes result s t (subst (λ (m : ℕ). Accepts id m bytes result s t) is_n (subst (λ (j : Text). Accepts j k bytes result s t) is_id it))

  moves_kept : (count : ℕ) → IsKeptBy (MovesOne count)
  moves_kept count one s t (reply.Moved bytes frames why) changed is_id is_n (replies, are, so_many, accepts, advances) =
      accepts_own one.invocation one.number (take bytes (output_of one.attempt)) (Ok (replies, why)) s t is_id is_n accepts
  moves_kept count one s t (reply.Refused (refusal.Store why)) changed is_id is_n (accepts, gathers) = accepts_own one.invocation one.number [] (Err why) s t is_id is_n accepts
  moves_kept count one s t _ changed is_id is_n none = absurd none

  -- it is held still
  module _ (Change : HeldAttempt H → Standing → Reply → Standing → Attempt H → Type 0) (kept : IsKeptBy Change) where
    if_held : (one : HeldAttempt H) (found : Option (HeldAttempt H)) (s t : Scheduled H) (answer : Reply) → found ≡ Some one → held_of s.held id n ≡ Some one → attempts_begun s.standing.events id ≡ n
        → IfHeld Change found s.standing s.held answer t.standing t.held → Holds t
    if_held one (Some other) s t answer is there last (changed, does, more) =
        let found : held_of s.held id n ≡ Some other = there ∙ sym is in
        let own = held_is id n other (found_is id n s.held other found) in
        let new : HeldAttempt H = record other { attempt = changed } in
        let written : held_of (with_attempt s.held other changed) id n ≡ Some new = held_found other changed s.held found own.0 own.1 in record {
          last = kept other s.standing t.standing answer changed own.0 own.1 does ∙ last;
          one = new;
          held = ap (λ (held : List (HeldAttempt H)). held_of held id n) more ∙ written;
        }
      where
        held_found : (one : HeldAttempt H) (changed : Attempt H) (held : List (HeldAttempt H)) → held_of held id n ≡ Some one → one.invocation ≡ id → one.number ≡ n
            → held_of (with_attempt held one changed) id n ≡ Some (record one { attempt = changed })
        held_found one changed held found is_id is_n =
            let new : HeldAttempt H = record one { attempt = changed } in
            subst (λ (i : Text). held_of (with_first (is_held i one.number) held new) id n ≡ Some new) (sym is_id)
            (subst (λ (k : ℕ). held_of (with_first (is_held id k) held new) id n ≡ Some new) (sym is_n) (held_with id n held one new found refl refl))
    if_held one None s t answer is there last it = absurd cc

    pub still_held : (s t : Scheduled H) (answer : Reply) → Holds s → IfHeld Change (held_of s.held id n) s.standing s.held answer t.standing t.held → Holds t
    still_held s t answer holds it = if_held holds.one (held_of s.held id n) s t answer holds.held holds.held holds.last it

  turned_held : (ran : _) (mismatch : Bool) (s t : Scheduled H) (answer : Reply) → Holds s
      → UnlessMismatch mismatch (TurnsOne function ran) (held_of s.held id n) s.standing s.held answer t.standing t.held → Holds t
  turned_held ran true s t answer holds (is, stays, same) = record {
    last = stays_still id s.standing t.standing stays ∙ holds.last;
    one = holds.one;
    held = ap (λ (held : List (HeldAttempt H)). held_of held id n) same ∙ holds.held;
  }
  turned_held ran false s t answer holds it = still_held (TurnsOne function ran) (turns_kept ran) s t answer holds it

  -- ---- its own events

  abbrev IsOwn : Event H → Type 0
  IsOwn (event.Feed i k count) = (i ≡ id) × (k ≡ n)
  IsOwn (event.Close i k) = (i ≡ id) × (k ≡ n)
  IsOwn (event.Turn i k ran) = (i ≡ id) × (k ≡ n)
  IsOwn (event.Move i k count) = (i ≡ id) × (k ≡ n)
  IsOwn _ = ⊥

  abbrev AreOwn : List (Event H) → Type 0
  AreOwn [] = Unit {0}
  AreOwn (one ∷ events) = IsOwn one × AreOwn events

  own_held : (one : Event H) (s t : Scheduled H) (answer : Reply) → IsOwn one → Holds s → Applies function options one answer s t → Holds t
  own_held (event.Feed i k count) s t answer (is_id, is_n) holds it = still_held (FeedsOne count) (feeds_kept count) s t answer holds (rw (is_id, is_n) at it)
  own_held (event.Close i k) s t answer (is_id, is_n) holds it = still_held ClosesOne closes_kept s t answer holds (rw (is_id, is_n) at it)
  own_held (event.Turn i k ran) s t answer (is_id, is_n) holds it = turned_held ran (tells_mismatch ran) s t answer holds (rw (is_id, is_n) at it)
  own_held (event.Move i k count) s t answer (is_id, is_n) holds it = still_held (MovesOne count) (moves_kept count) s t answer holds (rw (is_id, is_n) at it)
  own_held _ s t answer none holds it = absurd none

  all_held : (events : List (Event H)) (replies : List Reply) (s t : Scheduled H) → AreOwn events → Holds s → AppliesAll function options events replies s t → Holds t
  all_held [] [] s t own holds same = subst Holds (sym same) holds
  all_held (one ∷ events) (answer ∷ replies) s t (own, others) holds (m, does, more) = all_held events replies m t others (own_held one s m answer own holds does) more
  all_held [] (answer ∷ replies) s t own holds none = absurd none
  all_held (one ∷ events) [] s t own holds none = absurd none

  -- ---- all events of a run are its own

  own_ends : (outcome told : Outcome) (events : List (Event H)) (replies : List Reply) → Ends outcome events replies told → AreOwn events
  own_ends outcome told events replies ends = subst AreOwn (sym ends.0) tt

  abbrev Owns : Rest H → Type 0
  Owns Behind = (events : List (Event H)) (replies : List Reply) (told : Outcome) → Behind events replies told → AreOwn events

  own_unless : (why : Option EventRefusal) (Behind : Rest H) → Owns Behind → Owns (UnlessRefused why Behind)
  own_unless (Some why) Behind own events replies told ends = own_ends (Outcome.Refused why) told events replies ends
  own_unless None Behind own events replies told it = own events replies told it

  own_then : (one : Event H) (Behind : Reply → Rest H) → IsOwn one → ((answer : Reply) → Owns (Behind answer)) → Owns (Then one Behind)
  own_then one Behind own more (asked ∷ events) (answer ∷ replies) told (is, rest) = (subst IsOwn (sym is) own, own_unless (refusal_in answer) (Behind answer) (more answer) events replies told rest)
  own_then one Behind own more [] replies told none = absurd none
  own_then one Behind own more (asked ∷ events) [] told none = absurd none

  module _ (More : Bool → Rest H) (own : (is_closed : Bool) → Owns (More is_closed)) where
    own_fed_more : (is_none : Bool) → Owns (IsFedMore id n More is_none)
    own_fed_more true = own_then (event.Close id n) (λ answer. More true) (refl, refl) (λ answer. own true)
    own_fed_more false = own false

    own_waiting : (is_closed : Bool) → Owns (IsWaiting id n More is_closed)
    own_waiting true events replies told ends = own_ends Outcome.Unfinished told events replies ends
    own_waiting false events replies told it =
        own_then (event.Feed id n all_bytes) (λ answer. IsFedMore id n More (brings_none answer)) (refl, refl) (λ answer. own_fed_more (brings_none answer)) events replies told it

    own_behind_body : (is_closed : Bool) → Owns (IsFedBehindBody id n More is_closed)
    own_behind_body true = own true
    own_behind_body false = own_then (event.Feed id n all_bytes) (λ answer. More false) (refl, refl) (λ answer. own false)

    own_by : (is_closed : Bool) (one : Turn) → Owns (GoesOnBy id n More is_closed one)
    own_by is_closed turn.Answered events replies told it = own is_closed events replies told it
    own_by is_closed turn.RanBody events replies told it = own_behind_body is_closed events replies told it
    own_by is_closed turn.Waiting events replies told it = own_waiting is_closed events replies told it
    own_by is_closed turn.Suspended events replies told ends = own_ends Outcome.Suspended told events replies ends
    own_by is_closed turn.Ended events replies told ends = own_ends Outcome.Ended told events replies ends
    own_by is_closed (turn.Failed error) events replies told ends = own_ends (Outcome.Failed error) told events replies ends

    own_moved : (is_closed : Bool) (answer : Reply) → Owns (IsMoved id n More is_closed answer)
    own_moved is_closed (reply.Turned one) events replies told it =
        own_then (event.Move id n all_bytes) (λ answer. GoesOnBy id n More is_closed one) (refl, refl) (λ answer. own_by is_closed one) events replies told it
    own_moved is_closed _ events replies told ends = own_ends Outcome.Unfinished told events replies ends

  own_turns : (most : ℕ) (is_closed : Bool) → Owns (MakesTurns id n most is_closed)
  own_turns zero is_closed events replies told ends = own_ends Outcome.Unfinished told events replies ends
  own_turns (suc more) is_closed events replies told (ran, it) =
      own_then (event.Turn id n ran) (IsMoved id n (MakesTurns id n more) is_closed) (refl, refl) (λ answer. own_moved (MakesTurns id n more) (own_turns more) is_closed answer) events replies told it

  own_fed : (most : ℕ) → Owns (IsFed id n most)
  own_fed most = own_then (event.Feed id n all_bytes) (λ answer. MakesTurns id n most false) (refl, refl) (λ answer. own_turns most false)

  -- ---- behind the stop

  applies_but_one : (events : List (Event H)) (replies : List Reply) (one : Event H) (answer : Reply) (s t : Scheduled H) → AppliesAll function options (events ++ one ∷ []) (replies ++ answer ∷ []) s t
      → (m : Scheduled H) × AppliesAll function options events replies s m × Applies function options one answer m t
  applies_but_one [] [] one answer s t (m, does, same) = (s, refl, subst (λ (w : Scheduled H). Applies function options one answer s w) (sym same) does)
  applies_but_one [] (first ∷ []) one answer s t (m, does, none) = absurd none
  applies_but_one [] (first ∷ second ∷ replies) one answer s t (m, does, none) = absurd none
  applies_but_one (first ∷ []) [] one answer s t (m, does, none) = absurd none
  applies_but_one (first ∷ second ∷ events) [] one answer s t (m, does, none) = absurd none
  applies_but_one (first ∷ events) (told ∷ replies) one answer s t (m, does, more) =
      let rest = applies_but_one events replies one answer m t more in
      (rest.0, (m, does, rest.1), rest.2)

  stop_left : (one : HeldAttempt H) (found : Option (HeldAttempt H)) (s t : Scheduled H) (answer : Reply) → found ≡ Some one → one.invocation ≡ id → one.number ≡ n → attempts_begun s.standing.events id ≡ n
      → IfHeld StopsOne found s.standing s.held answer t.standing t.held → live_attempt t.standing.events id ≡ None
  stop_left one None s t answer is is_id is_n last it = absurd cc
  stop_left one (Some other) s t answer is is_id is_n last (changed, (replies, same), more) = by_reply answer replies
    where
      other_is : other ≡ one
      other_is = some_is other one is

      own : (result : Result (Unit {0}) Refusal) → Stops other.invocation other.number result s.standing t.standing → live_attempt t.standing.events id ≡ None
      own result stops =
          none_stopped id n result s.standing t.standing last
          (subst (λ (k : ℕ). Stops id k result s.standing t.standing) (ap (λ (h : HeldAttempt H). h.number) other_is ∙ is_n)
          (subst (λ (i : Text). Stops i other.number result s.standing t.standing) (ap (λ (h : HeldAttempt H). h.invocation) other_is ∙ is_id) stops))

      by_reply : (answer : Reply) → RepliesDone (λ (result : Result (Unit {0}) Refusal). Stops other.invocation other.number result s.standing t.standing) answer → live_attempt t.standing.events id ≡ None
      by_reply reply.Done stops = own (Ok tt) stops
      by_reply (reply.Refused (refusal.Store why)) stops = own (Err why) stops
      by_reply _ none = absurd none

  stopped_left : (s t : Scheduled H) (answer : Reply) → Holds s → Applies function options (event.Stop id n) answer s t → live_attempt t.standing.events id ≡ None
  stopped_left s t answer holds it =
      let own = held_is id n holds.one (found_is id n s.held holds.one holds.held) in
      stop_left holds.one (held_of s.held id n) s t answer holds.held own.0 own.1 holds.last it

  -- none is live behind a run and its stop
  pub run_left : (most : ℕ) (events : List (Event H)) (replies : List Reply) (told : Outcome) (s t : Scheduled H) → Stopping id n (IsFed id n most) events replies told → Holds s
      → AppliesAll function options events replies s t → live_attempt t.standing.events id ≡ None
  run_left most events replies told s t (first, answers, last, are, answered, going) holds it =
      let split = applies_but_one first answers (event.Stop id n) last s t
      (subst (λ (rs : List Reply). AppliesAll function options (first ++ event.Stop id n ∷ []) rs s t) answered (subst (λ (es : List (Event H)). AppliesAll function options es replies s t) are it)) in
      stopped_left split.0 t last (all_held first answers s split.0 (own_fed most first answers told going) holds split.1) split.2

  -- an attempt that has begun where none is held
  pub begun_held : (handler : H) (now : ℕ) (s t : Scheduled H) → s.held ≡ [] → Applies function options (event.Begin id handler now) (reply.Begun n) s t → Holds t
  begun_held handler now s t empty (begun, is, begins, holds) =
      let one : HeldAttempt H = record { invocation = id; number = begun.number; attempt = holds.attempt } in record {
        last = last_begun id now begun s.standing t.standing begins ∙ sym is;
        one = one;
        held =
            ap (λ (held : List (HeldAttempt H)). held_of held id n) (holds.held ∙ ap (λ (held : List (HeldAttempt H)). held ++ one ∷ []) empty)
            ∙ only one refl (sym is);
      }
    where
      only : (one : HeldAttempt H) → one.invocation ≡ id → one.number ≡ n → held_of (one ∷ []) id n ≡ Some one
      only one is_id is_n = rw (is_id, is_n, itself id, (Decides-eqb n n).1 refl) refl
