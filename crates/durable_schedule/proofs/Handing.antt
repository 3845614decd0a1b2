-- What each attempt is handed is of its start frame and its input.
use Rattle.std.proofs.Common.{◌≡◌, refl, sym, ap, subst, ◌∙◌, ℕ, ◌+◌, ◌-◌, ◌≤◌, ◌==◌, eqb-true, eq-eqb, arith, Bool, true, false, ◌&&◌, if◌then◌else◌, bytes_eq, ◌++◌, append_assoc, append-nil, length, take, List, [], ◌∷◌, Option, Some, None, ◌⊎◌, inl, inr}
use Rattle.std.proofs.lemmas.Bool.{and_from, and_parts}
use Rattle.std.proofs.lemmas.Slice.Eq.{bytes_eq-Decides}
use Rattle.std.specs.List.{AllByRecursion}
use Rattle.journal_model.specs.Notification.{Bytes, Text}
use Rattle.journal_model.specs.Event.{Event}
use Rattle.journal_model.specs.Attempt.{attempts_begun, begins_attempt, ends_live, input_left, live_attempt}
use Rattle.journal_model.specs.Journal.{is_of}
use Rattle.journal_model.specs.Cause.{IsAccepted}
use Rattle.journal_model.specs.Run.{Handler}
use Rattle.journal_model.specs.Spelling.{frame_bytes}
use Rattle.journal_model.specs.Start.{start_payload}
use Rattle.protocol_types.specs.declared.message_type.MessageType.{MessageType}
use Rattle.schedule_laws.specs.HandedInput.{bytes_handed_out}
use Rattle.schedule_laws.proofs.HandedInput.{hands_out_input}
use Rattle.vm_types.specs.declared.options.VMOptions.{VMOptions}
use Rattle.store_calls.specs.AbstractStore.{Standing}
use Rattle.schedule_model.specs.Attempts.{Attempt, output_of}
use Rattle.schedule_model.specs.HeldAttempts.{is_held, with_attempt}
use Rattle.schedule_model.proofs.Firsts.{first_of_other, first_push_other}
use Rattle.schedule_model.proofs.Holding.{found_is, held_is, not_true, some_is, some_none}
use Rattle.schedule_laws.proofs.Keeping.{handed_live}
use Rattle.schedule_laws.specs.WrittenFrames.{MovesBytes}
use Rattle.schedule_laws.specs.Schedules.scheduled
use Rattle.schedule_laws.specs.Schedules.event
use Rattle.schedule_laws.specs.Schedules.reply
use Rattle.schedule_laws.specs.Schedules.refusal
use Rattle.schedule_laws.specs.Schedules.{Reply, HeldAttempt, held_of, BeginDoes, given_in, HandsOutEach, FeedsOne, ClosesOne, StopsOne, TurnsOne, MovesOne, IfHeld, UnlessMismatch, tells_mismatch, Scheduled, Applies}
use Rattle.due_laws.proofs.InputParts.{part_is_taken}
use Rattle.store_refusals.specs.declared.refusal.Refusal.{Refusal}
use Rattle.durable_schedule.specs.Runs.{AppliesEach}
use Rattle.durable_schedule.specs.HandedBytes.{AreOfInput, HandsEach, HandsOne, IsHandedInput, handed_to, start_frame, while_last}
use Rattle.durable_schedule.proofs.Feeding.{stopped_events}
use Rattle.durable_schedule.proofs.Growing.{GrowsBy, IsOfKind, Kind, does_grow, does_hand}

itself : (id : Text) → bytes_eq id id ≡ true
itself id = (bytes_eq-Decides id id).1 refl

same_text : (a b : Text) → bytes_eq a b ≡ true → a ≡ b
same_text a b e = (bytes_eq-Decides a b).0 e

-- ---- accepted events

module _ (id : Text) where
  -- a live attempt is the last one
  pub live_number : (events : List Event) (n : ℕ) → live_attempt events id ≡ Some n → attempts_begun events id ≡ n
  live_number [] n e = some_none (sym e)
  live_number (event ∷ earlier) n e = by_begin (begins_attempt id event) (is_of id event && ends_live event) e (live_number earlier n)
    where
      by_begin : (b c : Bool) → (if b then Some ((if b then 1 else 0) + attempts_begun earlier id) else (if c then None else live_attempt earlier id)) ≡ Some n
          → (live_attempt earlier id ≡ Some n → attempts_begun earlier id ≡ n) → (if b then 1 else 0) + attempts_begun earlier id ≡ n
      by_begin true c same before = some_is (1 + attempts_begun earlier id) n same
      by_begin false true same before = some_none (sym same)
      by_begin false false same before = let rest = before same in omega (arith, rest)

  -- the start frame, and what was handed out behind it
  abbrev told : List Event → Bytes
  told events = start_frame events id ++ bytes_handed_out events id

  quiet_begins : (event : Event) → does_hand event ≡ false → begins_attempt id event ≡ false
  quiet_begins (Event.Begin other now) e = cc
  quiet_begins event e = refl

  quiet_told : (event : Event) (all : List Event) → does_hand event ≡ false → told (event ∷ all) ≡ told all
  quiet_told (Event.Begin other now) all e = cc
  quiet_told (Event.Feed other k most) all e = cc
  quiet_told event all e = refl

  module _ (n : ℕ) where
    all_last : (events : List Event) → attempts_begun events id ≡ n → while_last id n events ≡ events
    all_last [] e = refl
    all_last (event ∷ earlier) e = rw (eq-eqb (attempts_begun (event ∷ earlier) id) n e) refl

    accepted_last : (events : List Event) → IsAccepted events → IsAccepted (while_last id n events)
    accepted_last [] accepted = tt
    accepted_last (event ∷ earlier) accepted = by_number (attempts_begun (event ∷ earlier) id == n) (accepted_last earlier accepted.1)
      where
        by_number : (c : Bool) → IsAccepted (while_last id n earlier) → IsAccepted (if c then event ∷ earlier else while_last id n earlier)
        by_number true before = accepted
        by_number false before = before

    -- an event behind the begin of the attempt, which hands nothing to it
    still_told : (event : Event) (all : List Event) → n ≤ attempts_begun all id → (begins_attempt id event ≡ false → attempts_begun all id ≡ n → told (event ∷ all) ≡ told all)
        → told (while_last id n (event ∷ all)) ≡ told (while_last id n all)
    still_told event all within keep = by_number (attempts_begun (event ∷ all) id == n) refl
      where
        by_begin : (b : Bool) → begins_attempt id event ≡ b → (if b then 1 else 0) + attempts_begun all id ≡ n → told (event ∷ all) ≡ told (while_last id n all)
        by_begin true e same = absurd (omega (arith, same, within))
        by_begin false e same =
            let last : attempts_begun all id ≡ n = omega (arith, same) in
            keep e last ∙ ap (λ (events : List Event). told events) (sym (all_last all last))

        by_number : (c : Bool) → (attempts_begun (event ∷ all) id == n) ≡ c → told (if c then event ∷ all else while_last id n all) ≡ told (while_last id n all)
        by_number true e = by_begin (begins_attempt id event) refl (eqb-true (attempts_begun (event ∷ all) id) n e)
        by_number false e = refl

    -- the attempt was begun, and handed these bytes
    abbrev WasHanded : Bytes → List Event → Type 0
    WasHanded before all = (n ≤ attempts_begun all id) × (before ≡ told (while_last id n all))

    more_begun : (event : Event) (all : List Event) → n ≤ attempts_begun all id → n ≤ attempts_begun (event ∷ all) id
    more_begun event all within = omega (arith, within)

    goes_on : (event : Event) (all : List Event) (before : Bytes) → (begins_attempt id event ≡ false → attempts_begun all id ≡ n → told (event ∷ all) ≡ told all) → WasHanded before all
        → WasHanded before (event ∷ all)
    goes_on event all before keep it = (more_begun event all it.0, it.1 ∙ sym (still_told event all it.0 keep))

    quiet_on : (kind : Kind) (some all : List Event) (before : Bytes) → kind.1 ≡ false → AllByRecursion (IsOfKind kind) some → WasHanded before all → WasHanded before (some ++ all)
    quiet_on kind [] all before quiet own it = it
    quiet_on kind (event ∷ some) all before quiet own it =
        goes_on event (some ++ all) before (λ e last. quiet_told event (some ++ all) (own.0.1 ∙ quiet)) (quiet_on kind some all before quiet own.1 it)

    begun_on : (other : Text) (now : ℕ) (all : List Event) (before : Bytes) → WasHanded before all → WasHanded before (Event.Begin other now ∷ all)
    begun_on other now all before it = goes_on (Event.Begin other now) all before (λ e last. rw e refl) it

    begun_first : (now : ℕ) (all : List Event) → n ≡ 1 + attempts_begun all id → WasHanded (frame_bytes MessageType.Start (start_payload all id now)) (Event.Begin id now ∷ all)
    begun_first now all number =
        let event = Event.Begin id now in
        let one_more : attempts_begun (event ∷ all) id ≡ n = rw (itself id) (sym number) in
        let frame : Bytes = frame_bytes MessageType.Start (start_payload all id now) in
        let first : frame ++ [] ≡ told (event ∷ all) = rw (itself id) refl in
        (omega (arith, one_more), sym (append-nil frame) ∙ first ∙ ap (λ (events : List Event). told events) (sym (all_last (event ∷ all) one_more)))

    -- bytes are handed to another attempt, and to this one
    others_handed : (other : Text) (k most : ℕ) (all : List Event) (before : Bytes) → IsAccepted (Event.Feed other k most ∷ all) → (bytes_eq other id && (k == n)) ≡ false → WasHanded before all
        → WasHanded before (Event.Feed other k most ∷ all)
    others_handed other k most all before accepted apart it = goes_on (Event.Feed other k most) all before (λ e last. by_id last (bytes_eq other id) refl) it
      where
        by_id : attempts_begun all id ≡ n → (b : Bool) → bytes_eq other id ≡ b → start_frame all id ++ (bytes_handed_out all id ++ (if b then take most (input_left all id) else [])) ≡ told all
        by_id last false e = ap (λ (bytes : Bytes). start_frame all id ++ bytes) (append-nil (bytes_handed_out all id))
        by_id last true e =
            let live : live_attempt all id ≡ Some k = subst (λ (x : Text). live_attempt all x ≡ Some k) (same_text other id e) (handed_live all other k most accepted.0) in
            let same : k ≡ n = sym (live_number all k live) ∙ last in
            absurd (let both : (bytes_eq other id && (k == n)) ≡ true = and_from (bytes_eq other id) (k == n) e (eq-eqb k n same) in let no : true ≡ false = sym both ∙ apart in cc)

    handed_on : (most : ℕ) (all : List Event) (before : Bytes) → IsAccepted (Event.Feed id n most ∷ all) → WasHanded before all
        → WasHanded (before ++ take most (input_left all id)) (Event.Feed id n most ∷ all)
    handed_on most all before accepted it =
        let event = Event.Feed id n most in
        let last : attempts_begun all id ≡ n = live_number all n (handed_live all id n most accepted.0) in
        let still : attempts_begun (event ∷ all) id ≡ n = omega (arith, last) in
        let bytes : Bytes = take most (input_left all id) in
        let more : told (event ∷ all) ≡ start_frame all id ++ (bytes_handed_out all id ++ bytes) = rw (itself id) refl in (
          omega (arith, still),
          ap (λ (b : Bytes). b ++ bytes) (it.1 ∙ ap (λ (events : List Event). told events) (all_last all last)) ∙ append_assoc (start_frame all id) (bytes_handed_out all id) bytes ∙ sym more
              ∙ ap (λ (events : List Event). told events) (sym (all_last (event ∷ all) still)),
        )

    -- so are parts of an input, one after another
    parts_others : (other : Text) (k count : ℕ) (parts : List Bytes) (s t : Standing) (before : Bytes) → (bytes_eq other id && (k == n)) ≡ false → HandsOutEach other k count parts s t
        → WasHanded before s.events → WasHanded before t.events
    parts_others other k count [] s t before apart hands was = subst (λ (m : Standing). WasHanded before m.events) (sym hands) was
    parts_others other k count (last ∷ earlier) s t before apart hands was =
        let accepted : IsAccepted (Event.Feed other k (length last) ∷ hands.0.events) = subst (λ (es : List Event). IsAccepted es) hands.3.1.events t.accepted in
        subst (λ (es : List Event). WasHanded before es) (sym hands.3.1.events)
        (others_handed other k (length last) hands.0.events before accepted apart (parts_others other k count earlier s hands.0 before apart hands.1 was))

    parts_on : (count : ℕ) (parts : List Bytes) (s t : Standing) (before : Bytes) → HandsOutEach id n count parts s t → WasHanded before s.events → WasHanded (before ++ given_in parts) t.events
    parts_on count [] s t before hands was =
        subst (λ (m : Standing). WasHanded (before ++ []) m.events) (sym hands) (subst (λ (b : Bytes). WasHanded b s.events) (sym (append-nil before)) was)
    parts_on count (last ∷ earlier) s t before hands was =
        let all : List Event = hands.0.events in
        let accepted : IsAccepted (Event.Feed id n (length last) ∷ all) = subst (λ (es : List Event). IsAccepted es) hands.3.1.events t.accepted in
        let out : last ≡ take (length last) (input_left all id) = part_is_taken (input_left all id) last (count - length (given_in earlier)) hands.3.0 in
        subst (λ (es : List Event). WasHanded (before ++ given_in (last ∷ earlier)) es) (sym hands.3.1.events)
        (subst (λ (b : Bytes). WasHanded b (Event.Feed id n (length last) ∷ all)) (append_assoc before (given_in earlier) last)
        (subst (λ (b : Bytes). WasHanded ((before ++ given_in earlier) ++ b) (Event.Feed id n (length last) ∷ all)) (sym out)
        (handed_on (length last) all (before ++ given_in earlier) accepted (parts_on count earlier s hands.0 before hands.1 was))))

    was_of_input : (all : List Event) (before : Bytes) → IsAccepted all → WasHanded before all → AreOfInput id before (while_last id n all)
    was_of_input all before accepted it =
        let events = while_last id n all in
        inr
        (ap (λ (b : Bytes). b ++ input_left events id) it.1 ∙ append_assoc (start_frame events id) (bytes_handed_out events id) (input_left events id)
        ∙ ap (λ (b : Bytes). start_frame events id ++ b) (hands_out_input events id (accepted_last all accepted)))

    -- ---- what is held

    module _ {H : Type 0} where
      -- the attempt is not held and was handed nothing, or it was begun
      abbrev Handed : Bytes → List Event → List (HeldAttempt H) → Type 0
      Handed before all held = ((held_of held id n ≡ None) × (before ≡ [])) ⊎ WasHanded before all

      pub changed_unheld : (other : Text) (k : ℕ) (held : List (HeldAttempt H)) (one : HeldAttempt H) (changed : Attempt H) → held_of held other k ≡ Some one → held_of held id n ≡ None
          → held_of (with_attempt held one changed) id n ≡ None
      changed_unheld other k held one changed there none =
          first_of_other (is_held one.invocation one.number) (is_held id n)
          (λ z e. let is = held_is one.invocation one.number z e in apart z is.0 is.1)
          held (record one { attempt = changed }) (apart (record one { attempt = changed }) refl refl)
          ∙ none
        where
          apart : (z : HeldAttempt H) → z.invocation ≡ one.invocation → z.number ≡ one.number → is_held id n z ≡ false
          apart z p q =
              not_true (is_held id n z)
              (λ e.
              let own = held_is id n z e in
              let found = held_is other k one (found_is other k held one there) in
              let text : other ≡ id = sym found.0 ∙ sym p ∙ own.0 in
              let number : k ≡ n = sym found.1 ∙ sym q ∙ own.1 in
              let here : held_of held id n ≡ Some one = subst (λ (x : Text). held_of held x n ≡ Some one) text (subst (λ (m : ℕ). held_of held other m ≡ Some one) number there) in
              some_none (sym here ∙ none))

      pub if_unheld : (Change : HeldAttempt H → Standing → Reply → Standing → Attempt H → Type 0) (other : Text) (k : ℕ) (held more : List (HeldAttempt H)) (s t : Standing) (answer : Reply)
          → IfHeld Change (held_of held other k) s held answer t more → held_of held id n ≡ None → held_of more id n ≡ None
      if_unheld Change other k held more s t answer it none = by_held (held_of held other k) refl it
        where
          by_held : (o : Option (HeldAttempt H)) → held_of held other k ≡ o → IfHeld Change o s held answer t more → held_of more id n ≡ None
          by_held None is it = ap (λ (hs : List (HeldAttempt H)). held_of hs id n) it.2 ∙ none
          by_held (Some one) is it = ap (λ (hs : List (HeldAttempt H)). held_of hs id n) it.2 ∙ changed_unheld other k held one it.0 is none

      pub unless_unheld : (is_mismatch : Bool) (Change : HeldAttempt H → Standing → Reply → Standing → Attempt H → Type 0) (other : Text) (k : ℕ) (held more : List (HeldAttempt H)) (s t : Standing) (answer : Reply)
          → UnlessMismatch is_mismatch Change (held_of held other k) s held answer t more → held_of held id n ≡ None → held_of more id n ≡ None
      unless_unheld true Change other k held more s t answer it none = ap (λ (hs : List (HeldAttempt H)). held_of hs id n) it.2 ∙ none
      unless_unheld false Change other k held more s t answer it none = if_unheld Change other k held more s t answer it none

      pub same_unheld : (held more : List (HeldAttempt H)) → more ≡ held → held_of held id n ≡ None → held_of more id n ≡ None
      same_unheld held more same none = ap (λ (hs : List (HeldAttempt H)). held_of hs id n) same ∙ none

      -- ---- what an event does

      module _ (function : H → Handler) (options : VMOptions) where
        begin_unheld : (other : Text) (handler : H) (now : ℕ) (answer : Reply) (s t : Standing) (held more : List (HeldAttempt H)) → BeginDoes options other handler now s held answer t more
            → ((number : ℕ) → answer ≡ reply.Begun number → ⊥) → held_of held id n ≡ None → held_of more id n ≡ None
        begin_unheld other handler now (reply.Begun number) s t held more it never none = absurd (never number refl)
        begin_unheld other handler now (reply.Refused (refusal.Store why)) s t held more (inl refused) never none = same_unheld held more refused.1 none
        begin_unheld other handler now (reply.Refused (refusal.Store why)) s t held more (inr begun) never none = same_unheld held more begun.3 none
        begin_unheld other handler now _ s t held more it never none = absurd it

        begin_on : (other : Text) (handler : H) (now : ℕ) (answer : Reply) (s t : Standing) (held more : List (HeldAttempt H)) → BeginDoes options other handler now s held answer t more
            → (before : Bytes) → WasHanded before s.events → WasHanded before t.events
        begin_on other handler now (reply.Begun number) s t held more it before was = subst (λ (es : List Event). WasHanded before es) (sym it.2.leaves.events) (begun_on other now s.events before was)
        begin_on other handler now (reply.Refused (refusal.Store why)) s t held more (inl refused) before was =
            subst (λ (es : List Event). WasHanded before es) (sym refused.0.stays.events) was
        begin_on other handler now (reply.Refused (refusal.Store why)) s t held more (inr begun) before was =
            subst (λ (es : List Event). WasHanded before es) (sym begun.2.leaves.events) (begun_on other now s.events before was)
        begin_on other handler now _ s t held more it before was = absurd it

        -- nothing is handed to this attempt
        none_more : (before : Bytes) (all : List Event) (held : List (HeldAttempt H)) → Handed before all held → Handed (before ++ []) all held
        none_more before all held it = subst (λ (bytes : Bytes). Handed bytes all held) (sym (append-nil before)) it

        quiet_step : (one : scheduled.Event H) (answer : Reply) (old new : Scheduled H) (before : Bytes) → Applies function options one answer old new
            → (kind : Kind) → kind.1 ≡ false → GrowsBy kind old.standing new.standing → (held_of old.held id n ≡ None → held_of new.held id n ≡ None)
            → Handed before old.standing.events old.held → Handed (before ++ []) new.standing.events new.held
        quiet_step one answer old new before it kind quiet grows still (inl none) = none_more before new.standing.events new.held (inl (still none.0, none.1))
        quiet_step one answer old new before it kind quiet grows still (inr was) =
            none_more before new.standing.events new.held
            (inr (subst (λ (es : List Event). WasHanded before es) (sym grows.1) (quiet_on kind grows.0 old.standing.events before quiet grows.2 was)))

        begin_step : (other : Text) (handler : H) (now number : ℕ) (bytes : Bytes) (old new : Scheduled H) (before : Bytes) → HandsOne function options (event.Begin other handler now) (reply.Begun number) bytes old new
            → Handed before old.standing.events old.held
            → Handed (before ++ (if bytes_eq other id && (number == n) then bytes else [])) new.standing.events new.held
        begin_step other handler now number bytes old new before it at = by_id (bytes_eq other id && (number == n)) refl at
          where
            of_begin : ◌≡◌ {A = List Event} new.standing.events (Event.Begin other now ∷ old.standing.events)
            of_begin = it.2.leaves.events

            own : (bytes_eq other id && (number == n)) ≡ true → n ≡ 1 + attempts_begun old.standing.events id
            own e =
                let parts = and_parts (bytes_eq other id) (number == n) e in
                sym (eqb-true number n parts.1) ∙ it.1 ∙ it.2.number ∙ ap (λ (x : Text). 1 + attempts_begun old.standing.events x) (same_text other id parts.0)

            apart : (bytes_eq other id && (number == n)) ≡ false → held_of old.held id n ≡ None → held_of new.held id n ≡ None
            apart e none =
                ap (λ (hs : List (HeldAttempt H)). held_of hs id n) it.3.held
                ∙ first_push_other (is_held id n) old.held (record { invocation = other; number = it.0.number; attempt = it.3.attempt })
                (subst (λ (m : ℕ). (bytes_eq other id && (m == n)) ≡ false) it.1 e)
                ∙ none

            by_id : (c : Bool) → (bytes_eq other id && (number == n)) ≡ c → Handed before old.standing.events old.held
                → Handed (before ++ (if c then bytes else [])) new.standing.events new.held
            by_id true e (inl none) =
                let same : other ≡ id = same_text other id (and_parts (bytes_eq other id) (number == n) e).0 in
                let first : WasHanded (frame_bytes MessageType.Start (start_payload old.standing.events id now)) (Event.Begin id now ∷ old.standing.events) = begun_first now old.standing.events (own e) in
                let frame : bytes ≡ frame_bytes MessageType.Start (start_payload old.standing.events id now) =
                it.4 ∙ it.2.start ∙ ap (λ (x : Text). frame_bytes MessageType.Start (start_payload old.standing.events x now)) same in
                inr
                (subst (λ (b : Bytes). WasHanded b new.standing.events) (sym frame ∙ ap (λ (b : Bytes). b ++ bytes) (sym none.1))
                (subst (λ (es : List Event). WasHanded (frame_bytes MessageType.Start (start_payload old.standing.events id now)) es)
                (sym (of_begin ∙ ap (λ (x : Text). Event.Begin x now ∷ old.standing.events) same)) first))
            by_id true e (inr was) = absurd (let number_is = own e in omega (arith, number_is, was.0))
            by_id false e (inl none) = none_more before new.standing.events new.held (inl (apart e none.0, none.1))
            by_id false e (inr was) =
                none_more before new.standing.events new.held
                (inr (subst (λ (es : List Event). WasHanded before es) (sym of_begin) (begun_on other now old.standing.events before was)))

        feed_step : (other : Text) (k count fed : ℕ) (why : Option Refusal) (bytes : Bytes) (old new : Scheduled H) (before : Bytes)
            → HandsOne function options (event.Feed other k count) (reply.Fed fed why) bytes old new → Handed before old.standing.events old.held
            → Handed (before ++ (if bytes_eq other id && (k == n) then bytes else [])) new.standing.events new.held
        feed_step other k count fed why bytes old new before it at = by_id (bytes_eq other id && (k == n)) refl at
          where
            between : Standing
            between = it.6.0

            hands : HandsOutEach other k count it.2 old.standing between
            hands =
                let names = held_is other k it.0 (found_is other k old.held it.0 it.3) in
                subst (λ (x : Text). HandsOutEach x k count it.2 old.standing between) names.0 (subst (λ (m : ℕ). HandsOutEach it.0.invocation m count it.2 old.standing between) names.1 it.6.1)

            then_none : (b : Bytes) → WasHanded b between.events → WasHanded b new.standing.events
            then_none b was = subst (λ (es : List Event). WasHanded b es) (sym (stopped_events it.0.invocation it.0.number count it.2 why between new.standing it.6.3)) was

            by_id : (c : Bool) → (bytes_eq other id && (k == n)) ≡ c → Handed before old.standing.events old.held
                → Handed (before ++ (if c then bytes else [])) new.standing.events new.held
            by_id true e (inl none) =
                let names = and_parts (bytes_eq other id) (k == n) e in
                let here : held_of old.held id n ≡ Some it.0 =
                subst (λ (x : Text). held_of old.held x n ≡ Some it.0) (same_text other id names.0) (subst (λ (m : ℕ). held_of old.held other m ≡ Some it.0) (eqb-true k n names.1) it.3) in
                some_none (sym here ∙ none.0)
            by_id true e (inr was) =
                let names = and_parts (bytes_eq other id) (k == n) e in
                let own : HandsOutEach id n count it.2 old.standing between =
                subst (λ (x : Text). HandsOutEach x n count it.2 old.standing between) (same_text other id names.0)
                (subst (λ (m : ℕ). HandsOutEach other m count it.2 old.standing between) (eqb-true k n names.1) hands) in
                inr (subst (λ (b : Bytes). WasHanded (before ++ b) new.standing.events) (sym it.5) (then_none (before ++ given_in it.2) (parts_on count it.2 old.standing between before own was)))
            by_id false e (inl none) =
                none_more before new.standing.events new.held
                (inl (ap (λ (hs : List (HeldAttempt H)). held_of hs id n) it.7 ∙ changed_unheld other k old.held it.0 it.1 it.3 none.0, none.1))
            by_id false e (inr was) = none_more before new.standing.events new.held (inr (then_none before (parts_others other k count it.2 old.standing between before e hands was)))

        -- a feed that is refused hands nothing out
        refused_feed : (other : Text) (k count : ℕ) (answer : Reply) (old new : Scheduled H) (before : Bytes) → Applies function options (event.Feed other k count) answer old new
            → ((fed : ℕ) (why : Option Refusal) → answer ≡ reply.Fed fed why → ⊥) → Handed before old.standing.events old.held → Handed (before ++ []) new.standing.events new.held
        refused_feed other k count answer old new before it never at = by_at at
          where
            of_one : (one : HeldAttempt H) (changed : Attempt H) (said : Reply) → ((fed : ℕ) (why : Option Refusal) → said ≡ reply.Fed fed why → ⊥) → FeedsOne count one old.standing said new.standing changed
                → ◌≡◌ {A = List Event} new.standing.events old.standing.events
            of_one one changed (reply.Fed fed why) never does = absurd (never fed why refl)
            of_one one changed (reply.Refused (refusal.Store why)) never does = does.0.stays.events
            of_one one changed _ never does = absurd does

            by_held : (o : Option (HeldAttempt H)) → IfHeld (FeedsOne count) o old.standing old.held answer new.standing new.held → ◌≡◌ {A = List Event} new.standing.events old.standing.events
            by_held None it = it.1.events
            by_held (Some one) it = of_one one it.0 answer never it.1

            by_at : Handed before old.standing.events old.held → Handed (before ++ []) new.standing.events new.held
            by_at (inl none) = none_more before new.standing.events new.held (inl (if_unheld (FeedsOne count) other k old.held new.held old.standing new.standing answer it none.0, none.1))
            by_at (inr was) =
                none_more before new.standing.events new.held
                (inr (subst (λ (es : List Event). WasHanded before es) (sym (by_held (held_of old.held other k) it)) was))

        refused_begin : (other : Text) (handler : H) (now : ℕ) (answer : Reply) (old new : Scheduled H) (before : Bytes) → Applies function options (event.Begin other handler now) answer old new
            → ((number : ℕ) → answer ≡ reply.Begun number → ⊥) → Handed before old.standing.events old.held → Handed (before ++ []) new.standing.events new.held
        refused_begin other handler now answer old new before it never (inl none) =
            none_more before new.standing.events new.held (inl (begin_unheld other handler now answer old.standing new.standing old.held new.held it never none.0, none.1))
        refused_begin other handler now answer old new before it never (inr was) =
            none_more before new.standing.events new.held (inr (begin_on other handler now answer old.standing new.standing old.held new.held it before was))

        step : (one : scheduled.Event H) (answer : Reply) (bytes : Bytes) (old new : Scheduled H) (before : Bytes) → HandsOne function options one answer bytes old new
            → Handed before old.standing.events old.held → Handed (before ++ handed_to id n one answer bytes) new.standing.events new.held
        step (event.Begin other handler now) (reply.Begun number) bytes old new before it at = begin_step other handler now number bytes old new before it at
        step (event.Feed other k count) (reply.Fed fed why) bytes old new before it at = feed_step other k count fed why bytes old new before it at
        step (event.Begin other handler now) answer bytes old new before it at = refused_begin other handler now answer old new before it.0 (λ number e. cc) at
        step (event.Feed other k count) answer bytes old new before it at = refused_feed other k count answer old new before it.0 (λ fed why e. cc) at
        step (event.Close other k) answer bytes old new before it at =
            quiet_step (event.Close other k) answer old new before it.0 (Some other, false) refl (does_grow function options (event.Close other k) old.standing new.standing old.held new.held answer it.0)
            (if_unheld ClosesOne other k old.held new.held old.standing new.standing answer it.0) at
        step (event.Turn other k outcome) answer bytes old new before it at =
            quiet_step (event.Turn other k outcome) answer old new before it.0 (Some other, false) refl
            (does_grow function options (event.Turn other k outcome) old.standing new.standing old.held new.held answer it.0)
            (unless_unheld (tells_mismatch outcome) (TurnsOne function outcome) other k old.held new.held old.standing new.standing answer it.0) at
        step (event.Move other k count) answer bytes old new before it at =
            quiet_step (event.Move other k count) answer old new before it.0 (Some other, false) refl
            (does_grow function options (event.Move other k count) old.standing new.standing old.held new.held answer it.0)
            (if_unheld (MovesOne count) other k old.held new.held old.standing new.standing answer it.0) at
        step (event.Invoke new_one) answer bytes old new before it at =
            quiet_step (event.Invoke new_one) answer old new before it.0 (Some new_one.id, false) refl (does_grow function options (event.Invoke new_one) old.standing new.standing old.held new.held answer it.0)
            (same_unheld old.held new.held it.0.1) at
        step (event.Result other completion value) answer bytes old new before it at =
            quiet_step (event.Result other completion value) answer old new before it.0 (Some other, false) refl
            (does_grow function options (event.Result other completion value) old.standing new.standing old.held new.held answer it.0) (same_unheld old.held new.held it.0.1) at
        step (event.Signal other key value) answer bytes old new before it at =
            quiet_step (event.Signal other key value) answer old new before it.0 (Some other, false) refl
            (does_grow function options (event.Signal other key value) old.standing new.standing old.held new.held answer it.0) (same_unheld old.held new.held it.0.1) at
        step (event.Cancel other) answer bytes old new before it at =
            quiet_step (event.Cancel other) answer old new before it.0 (Some other, false) refl (does_grow function options (event.Cancel other) old.standing new.standing old.held new.held answer it.0)
            (same_unheld old.held new.held it.0.1) at
        step (event.Tick now) answer bytes old new before it at =
            quiet_step (event.Tick now) answer old new before it.0 (None, false) refl (does_grow function options (event.Tick now) old.standing new.standing old.held new.held answer it.0)
            (same_unheld old.held new.held it.0.1) at
        step (event.Stop other k) answer bytes old new before it at =
            quiet_step (event.Stop other k) answer old new before it.0 (Some other, false) refl (does_grow function options (event.Stop other k) old.standing new.standing old.held new.held answer it.0)
            (if_unheld StopsOne other k old.held new.held old.standing new.standing answer it.0) at

        of_input : (all : List Event) (held : List (HeldAttempt H)) (before : Bytes) → IsAccepted all → Handed before all held → AreOfInput id before (while_last id n all)
        of_input all held before accepted (inl none) = inl none.1
        of_input all held before accepted (inr was) = was_of_input all before accepted was

        -- so it is at each moment of a schedule
        pub each_handed : (events : List (scheduled.Event H)) (replies : List Reply) (added : List (List Event)) (handed moved : List Bytes) (old new : Scheduled H) (before : Bytes)
            → HandsEach function options events replies added handed moved old new → Handed before old.standing.events old.held → IsHandedInput id n events replies added handed before old.standing.events
        each_handed [] [] [] [] [] old new before it at = tt
        each_handed (one ∷ events) (answer ∷ replies) (some ∷ added) (bytes ∷ handed) (gone ∷ moved) old new before it at =
            let now : Bytes = before ++ handed_to id n one answer bytes in
            let behind = step one answer bytes old it.0 before it.1 at in (
              subst (λ (es : List Event). AreOfInput id now (while_last id n es)) it.2 (of_input it.0.standing.events it.0.held now it.0.standing.accepted behind),
              subst (λ (es : List Event). IsHandedInput id n events replies added handed now es) it.2 (each_handed events replies added handed moved it.0 new now it.3 behind),
            )
        each_handed _ _ _ _ _ old new before it at = absurd it

-- ---- what each event hands

module _ {H : Type 0} (function : H → Handler) (options : VMOptions) where
  one_hands : (one : scheduled.Event H) (answer : Reply) (old new : Scheduled H) → Applies function options one answer old new → (bytes : Bytes) × HandsOne function options one answer bytes old new
  one_hands (event.Begin id handler now) (reply.Begun number) old new it = (it.0.start, (it.0, it.1, it.2, it.3, refl))
  one_hands (event.Feed id k count) (reply.Fed fed why) old new it = by_held (held_of old.held id k) refl it
    where
      by_held : (o : Option (HeldAttempt H)) → held_of old.held id k ≡ o → IfHeld (FeedsOne count) o old.standing old.held (reply.Fed fed why) new.standing new.held
          → (bytes : Bytes) × HandsOne function options (event.Feed id k count) (reply.Fed fed why) bytes old new
      by_held None is it = absurd (let e : reply.Fed fed why ≡ reply.Refused refusal.AttemptNotHeld = it.0 in cc)
      by_held (Some one) is it = (given_in it.1.0, (one, it.0, it.1.0, is, it.1.1, refl, it.1.2, it.2))
  one_hands one answer old new it = ([], (it, refl))

  -- and which bytes it moves
  one_moves : (one : scheduled.Event H) (answer : Reply) (old new : Scheduled H) → Applies function options one answer old new → (moved : Bytes) × MovesBytes one answer moved old.held
  one_moves (event.Move id k count) (reply.Moved bytes frames why) old new it = by_held (held_of old.held id k) refl it
    where
      by_held : (o : Option (HeldAttempt H)) → held_of old.held id k ≡ o → IfHeld (MovesOne count) o old.standing old.held (reply.Moved bytes frames why) new.standing new.held
          → (moved : Bytes) × MovesBytes (event.Move id k count) (reply.Moved bytes frames why) moved old.held
      by_held None is it = absurd (let e : reply.Moved bytes frames why ≡ reply.Refused refusal.AttemptNotHeld = it.0 in cc)
      by_held (Some one) is it = (take bytes (output_of one.attempt), (one, is, refl))
  one_moves one answer old new it = ([], refl)

  pub all_hand : (events : List (scheduled.Event H)) (replies : List Reply) (added : List (List Event)) (old new : Scheduled H) → AppliesEach function options events replies added old new
      → (handed : List Bytes) × (moved : List Bytes) × HandsEach function options events replies added handed moved old new
  all_hand [] [] [] old new it = ([], [], it)
  all_hand (one ∷ events) (answer ∷ replies) (some ∷ added) old new it =
      let first = one_hands one answer old it.0 it.1 in
      let goes = one_moves one answer old it.0 it.1 in
      let rest = all_hand events replies added it.0 new it.4 in
      (first.0 ∷ rest.0, goes.0 ∷ rest.1, (it.0, first.1, it.2, rest.2, goes.1))
  all_hand [] [] (some ∷ added) old new it = absurd it
  all_hand [] (answer ∷ replies) added old new it = absurd it
  all_hand (one ∷ events) [] added old new it = absurd it
  all_hand (one ∷ events) (answer ∷ replies) [] old new it = absurd it
