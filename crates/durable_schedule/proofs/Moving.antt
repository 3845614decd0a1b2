-- The frames that moves take of an attempt are the first whole items of what the store held of it and of the bytes that are moved.
use Rattle.std.proofs.Common.{◌≡◌, ◌⊎◌, refl, sym, ap, subst, ◌∙◌, inl, inr, ℕ, ◌+◌, ◌≤◌, ◌==◌, min, eqb-true, arith, Bool, true, false, ◌&&◌, bytes_eq, List, [], ◌∷◌, ◌++◌, append_assoc, length, map, take, reverse, Option, Some, None}
use Rattle.std.proofs.lemmas.Bool.{and_parts}
use Rattle.std.proofs.lemmas.List.{append_cancel_right, length-take, reverse-reverse}
use Rattle.std.proofs.lemmas.Slice.Eq.{bytes_eq-Decides}
use Rattle.journal_model.specs.declared.invocation.NewInvocation.{NewInvocation}
use Rattle.journal_model.specs.Notification.{Bytes, Text}
use Rattle.journal_model.specs.Event.{Event, Frame}
use Rattle.journal_model.specs.Journal.{version_of}
use Rattle.journal_model.specs.Attempt.{attempts_begun, begins_attempt, is_live, live_attempt}
use Rattle.journal_model.specs.Run.{Handler}
use Rattle.store_refusals.specs.declared.refusal.Refusal.{Refusal}
use Rattle.store_refusals.specs.declared.refusal.Refusal.TheVariants.{OutOfMemory}
use Rattle.store_calls.specs.AbstractStore.{Standing}
use Rattle.store_calls.specs.declared.begun.BegunAttempt.{BegunAttempt}
use Rattle.store_calls.specs.Calls.{BeginsStoredAttempt, Invokes, PutsBehind, TakesPlace, Ticks}
use Rattle.store_calls.specs.Frames.{Rests, TakesEach}
use Rattle.store_calls.proofs.Live.{live_when}
use Rattle.store_calls.proofs.Taking.{bytes_stay}
use Rattle.vm_types.specs.declared.options.VMOptions.{VMOptions}
use Rattle.schedule_model.specs.Attempts.{Attempt, output_of, RunOutcome}
use Rattle.schedule_model.specs.Schedule.{HoldsBegun}
use Rattle.schedule_model.proofs.Firsts.{first_push_other}
use Rattle.schedule_model.proofs.Holding.{found_is, held_is, some_is, some_none}
use Rattle.schedule_laws.specs.Schedules.scheduled
use Rattle.schedule_laws.specs.Schedules.event
use Rattle.schedule_laws.specs.Schedules.reply
use Rattle.schedule_laws.specs.Schedules.refusal
use Rattle.schedule_laws.specs.Schedules.{Reply, HeldAttempt, held_of, is_held, RepliesDone, RepliesPlace, RepliesCount, BeginDoes, FeedsOne, ClosesOne, StopsOne, TurnsOne, MovesOne, IfHeld, UnlessMismatch, tells_mismatch, Scheduled, Applies}
use Rattle.schedule_laws.specs.WrittenFrames.{AreFrames, is_at_attempt, MovesBytes}
use Rattle.durable_schedule.specs.HandedBytes.{HandsEach, HandsOne}
use Rattle.durable_schedule.specs.MovedBytes.{AreFramesTaken, IsMovedBy, NoFurther, stop_for, TakesFirst, TakesFrames}
use Rattle.durable_schedule.proofs.Adding.{rests_stop}
use Rattle.durable_schedule.proofs.Taking.{left_waits, live_then, no_further, Quiet, quiet_adds, quiet_no_part, quiet_on, quiet_parts, quiet_puts, quiet_rests, quiet_stays, quiet_stopped, quiet_takes, Took, took_each}
use Rattle.durable_schedule.proofs.Handing.{changed_unheld, if_unheld, live_number, same_unheld, unless_unheld}

-- ---- bytes

module _ {H : Type 0} (function : H → Handler) (options : VMOptions) where
  -- what a move moves is as long as it tells
  pub one_moved : (one : scheduled.Event H) (answer : Reply) (bytes gone : Bytes) (old new : Scheduled H) → HandsOne function options one answer bytes old new → MovesBytes one answer gone old.held → IsMovedBy one answer gone
  one_moved (event.Move id k count) (reply.Moved moved frames why) bytes gone old new it goes = by_held (held_of old.held id k) refl it.0
    where
      by_held : (o : Option (HeldAttempt H)) → held_of old.held id k ≡ o → IfHeld (MovesOne count) o old.standing old.held (reply.Moved moved frames why) new.standing new.held
          → IsMovedBy {H = H} (event.Move id k count) (reply.Moved moved frames why) gone
      by_held None is it = absurd (let e : reply.Moved moved frames why ≡ reply.Refused refusal.AttemptNotHeld = it.0 in cc)
      by_held (Some one) is it =
          let named : goes.0 ≡ one = some_is goes.0 one (sym goes.1 ∙ is) in
          let few : moved ≡ min count (length (output_of one.attempt)) = it.1.2 in
          let gone_is : length gone ≡ length (take moved (output_of one.attempt)) = ap (λ (b : Bytes). length b) (goes.2 ∙ ap (λ (h : HeldAttempt H). take moved (output_of h.attempt)) named) in
          let taken = length-take moved (output_of one.attempt) in
          (omega (arith, few, gone_is, taken), omega (arith, few))
  one_moved one answer bytes gone old new it goes = goes

module _ (id : Text) (n : ℕ) where
  -- ---- what stands at each moment of a schedule

  module _ {H : Type 0} (function : H → Handler) (options : VMOptions) where
    -- nothing was moved of an attempt that is not held; of a live one that is, the store holds what is torn
    abbrev Holds : Bytes → Scheduled H → Type 0
    Holds torn s =
        ((held_of s.held id n ≡ None) × (torn ≡ []))
        ⊎ ((n ≤ attempts_begun s.standing.events id) × (live_attempt s.standing.events id ≡ Some n → s.standing.outputs id ≡ Some torn))

    more_begun : (some all : List Event) → n ≤ attempts_begun all id → n ≤ attempts_begun (some ++ all) id
    more_begun [] all within = within
    more_begun (event ∷ some) all within = let rest = more_begun some all within in omega (arith, rest)

    -- it is left as it was
    still : (some : List Event) (torn : Bytes) (old new : Scheduled H) → new.standing.events ≡ some ++ old.standing.events → (held_of old.held id n ≡ None → held_of new.held id n ≡ None) → Quiet id n old.standing new.standing
        → Holds torn old → Holds torn new
    still some torn old new grows unheld quiet (inl none) = inl (unheld none.0, none.1)
    still some torn old new grows unheld quiet (inr begun) =
        inr (subst (λ (events : List Event). n ≤ attempts_begun events id) (sym grows) (more_begun some old.standing.events begun.0), λ live. let before = quiet live in before.1 ∙ begun.1 before.0)

    quiet_invoke : (one : NewInvocation) (answer : Reply) (s t : Standing) → RepliesDone (λ result. Invokes one result s t) answer → Quiet id n s t
    quiet_invoke one reply.Done s t it = quiet_adds id n (Event.Invoke one) s t refl it
    quiet_invoke one (reply.Refused (refusal.Store why)) s t it = quiet_stays id n s t it.stays
    quiet_invoke one _ s t it = absurd it

    quiet_place : (brought : Event) (other : Text) (answer : Reply) (s t : Standing) → begins_attempt id brought ≡ false → RepliesPlace (λ result. TakesPlace brought other result s t) answer → Quiet id n s t
    quiet_place brought other (reply.Placed place) s t plain it = quiet_adds id n brought s t plain it.1
    quiet_place brought other (reply.Refused (refusal.Store why)) s t plain it = quiet_stays id n s t it.stays
    quiet_place brought other _ s t plain it = absurd it

    quiet_tick : (now : ℕ) (answer : Reply) (s t : Standing) → RepliesCount (λ result. Ticks now result s t) answer → Quiet id n s t
    quiet_tick now (reply.Ticked count) s t it = quiet_adds id n (Event.Tick now) s t refl it.1
    quiet_tick now (reply.Refused (refusal.Store why)) s t it = quiet_stays id n s t it.stays
    quiet_tick now _ s t it = absurd it

    -- with one that is held, or none
    quiet_held : (Change : HeldAttempt H → Standing → Reply → Standing → Attempt H → Type 0) (other : Text) (k : ℕ) (held more : List (HeldAttempt H)) (s t : Standing) (answer : Reply)
        → ((one : HeldAttempt H) (changed : Attempt H) → Change one s answer t changed → Quiet id n s t) → IfHeld Change (held_of held other k) s held answer t more → Quiet id n s t
    quiet_held Change other k held more s t answer each it = by_held (held_of held other k) it
      where
        by_held : (o : Option (HeldAttempt H)) → IfHeld Change o s held answer t more → Quiet id n s t
        by_held None it = quiet_stays id n s t it.1
        by_held (Some one) it = each one it.0 it.1

    quiet_closed : (one : HeldAttempt H) (s t : Standing) (answer : Reply) (changed : Attempt H) → ClosesOne one s answer t changed → Quiet id n s t
    quiet_closed one s t reply.Done changed it = quiet_adds id n (Event.Close one.invocation one.number) s t refl it.0
    quiet_closed one s t (reply.Refused (refusal.Store why)) changed it = quiet_stays id n s t it.0.stays
    quiet_closed one s t _ changed it = absurd it

    quiet_turned : (ran : RunOutcome) (one : HeldAttempt H) (s t : Standing) (answer : Reply) (changed : Attempt H) → TurnsOne function ran one s answer t changed → Quiet id n s t
    quiet_turned ran one s t (reply.Turned turn) changed it = quiet_stays id n s t it.1
    quiet_turned ran one s t _ changed it = absurd it

    quiet_unless : (is_mismatch : Bool) (ran : RunOutcome) (other : Text) (k : ℕ) (held more : List (HeldAttempt H)) (s t : Standing) (answer : Reply)
        → UnlessMismatch is_mismatch (TurnsOne function ran) (held_of held other k) s held answer t more → Quiet id n s t
    quiet_unless true ran other k held more s t answer it = quiet_stays id n s t it.1
    quiet_unless false ran other k held more s t answer it = quiet_held (TurnsOne function ran) other k held more s t answer (λ one changed does. quiet_turned ran one s t answer changed does) it

    quiet_fed : (count : ℕ) (one : HeldAttempt H) (s t : Standing) (answer : Reply) (changed : Attempt H) → FeedsOne count one s answer t changed → Quiet id n s t
    quiet_fed count one s t (reply.Fed fed why) changed it =
        quiet_on id n s it.2.0 t (quiet_parts id n one.invocation one.number count it.0 s it.2.0 it.2.1) (quiet_no_part id n one.invocation one.number count it.0 why it.2.0 t it.2.3)
    quiet_fed count one s t (reply.Refused (refusal.Store why)) changed it = quiet_stays id n s t it.0.stays
    quiet_fed count one s t _ changed it = absurd it

    -- a move that is refused
    quiet_unmoved : (count : ℕ) (one : HeldAttempt H) (s t : Standing) (answer : Reply) (changed : Attempt H) → ((bytes frames : ℕ) (why : Option Refusal) → answer ≡ reply.Moved bytes frames why → ⊥)
        → MovesOne count one s answer t changed → Quiet id n s t
    quiet_unmoved count one s t (reply.Moved bytes frames why) changed never it = absurd (never bytes frames why refl)
    quiet_unmoved count one s t (reply.Refused (refusal.Store why)) changed never it =
        quiet_stays id n s t (bytes_stay (is_live s.events one.invocation one.number) one.invocation one.number why s t it.0)
    quiet_unmoved count one s t _ changed never it = absurd it

    -- ---- an attempt is begun

    begun_more : (other : Text) (now : ℕ) (all : List Event) → bytes_eq other id ≡ true → attempts_begun (Event.Begin other now ∷ all) id ≡ 1 + attempts_begun all id
    begun_more other now all e = rw e refl

    begin_holds : (other : Text) (handler : H) (now : ℕ) (answer : BegunAttempt) (some : List Event) (torn : Bytes) (old new : Scheduled H) → new.standing.events ≡ some ++ old.standing.events
        → BeginsStoredAttempt other now answer old.standing new.standing → HoldsBegun options other handler answer old.held new.held → Holds torn old → Holds torn new
    begin_holds other handler now answer some torn old new grows b h at = by_name (bytes_eq other id && (answer.number == n)) refl at
      where
        one : HeldAttempt H
        one = record { invocation = other; number = answer.number; attempt = h.attempt }

        by_name : (c : Bool) → (bytes_eq other id && (answer.number == n)) ≡ c → Holds torn old → Holds torn new
        by_name true e at =
            let parts = and_parts (bytes_eq other id) (answer.number == n) e in
            let same : other ≡ id = (bytes_eq-Decides other id).0 parts.0 in
            let number : n ≡ 1 + attempts_begun old.standing.events id = sym (eqb-true answer.number n parts.1) ∙ b.number ∙ ap (λ (x : Text). 1 + attempts_begun old.standing.events x) same in
            let more = begun_more other now old.standing.events parts.0 in
            let own : new.standing.outputs id ≡ Some [] = ap new.standing.outputs (sym same) ∙ b.leaves.own in
            elim at [
              | inl none ↦ inr (subst (λ (events : List Event). n ≤ attempts_begun events id) (sym b.leaves.events) (omega (arith, number, more)), λ live. own ∙ ap (λ (bytes : Bytes). Some bytes) (sym none.1))
              | inr begun ↦ let within = begun.0 in absurd (omega (arith, number, within))
            ]
        by_name false e (inl none) = inl (ap (λ (hs : List (HeldAttempt H)). held_of hs id n) h.held ∙ first_push_other (is_held id n) old.held one e ∙ none.0, none.1)
        by_name false e (inr begun) = inr (
          subst (λ (events : List Event). n ≤ attempts_begun events id) (sym grows) (more_begun some old.standing.events begun.0),
          λ live. by_id (bytes_eq other id) refl live,
        )
          where
            by_id : (c : Bool) → bytes_eq other id ≡ c → live_attempt new.standing.events id ≡ Some n → new.standing.outputs id ≡ Some torn
            by_id true same live =
                let last = live_number id (Event.Begin other now ∷ old.standing.events) n (ap (λ (events : List Event). live_attempt events id) (sym b.leaves.events) ∙ live) in
                let more = begun_more other now old.standing.events same in
                let within = begun.0 in
                absurd (omega (arith, last, more, within))
            by_id false far live = b.leaves.others id far ∙ begun.1 (live_then id n (Event.Begin other now) old.standing new.standing far b.leaves.events live)

    begins_hold : (other : Text) (handler : H) (now : ℕ) (answer : Reply) (some : List Event) (torn : Bytes) (old new : Scheduled H) → new.standing.events ≡ some ++ old.standing.events
        → BeginDoes options other handler now old.standing old.held answer new.standing new.held → Holds torn old → Holds torn new
    begins_hold other handler now (reply.Begun number) some torn old new grows it at = begin_holds other handler now it.0 some torn old new grows it.2 it.3 at
    begins_hold other handler now (reply.Refused (refusal.Store why)) some torn old new grows (inl refused) at =
        still some torn old new grows (same_unheld id n old.held new.held refused.1) (quiet_stays id n old.standing new.standing refused.0.stays) at
    begins_hold other handler now (reply.Refused (refusal.Store why)) some torn old new grows (inr begun) at = alone begun at
      where
        alone : (begun : BegunAttempt) × (why ≡ OutOfMemory) × BeginsStoredAttempt other now begun old.standing new.standing × (new.held ≡ old.held) → Holds torn old → Holds torn new
        alone it (inl none) = inl (same_unheld id n old.held new.held it.3 none.0, none.1)
        alone it (inr begun) = inr (
          subst (λ (events : List Event). n ≤ attempts_begun events id) (sym grows) (more_begun some old.standing.events begun.0),
          λ live. by_id (bytes_eq other id) refl live,
        )
          where
            by_id : (c : Bool) → bytes_eq other id ≡ c → live_attempt new.standing.events id ≡ Some n → new.standing.outputs id ≡ Some torn
            by_id true same live =
                let last = live_number id (Event.Begin other now ∷ old.standing.events) n (ap (λ (events : List Event). live_attempt events id) (sym it.2.leaves.events) ∙ live) in
                let more = begun_more other now old.standing.events same in
                let within = begun.0 in
                absurd (omega (arith, last, more, within))
            by_id false far live = it.2.leaves.others id far ∙ begun.1 (live_then id n (Event.Begin other now) old.standing new.standing far it.2.leaves.events live)
    begins_hold other handler now _ some torn old new grows it at = absurd it

    -- ---- a move

    abbrev Moves : scheduled.Event H → Reply → (some : List Event) → (gone torn : Bytes) → (old new : Scheduled H) → Type 0
    Moves one answer some gone torn old new = (rest : Bytes) × TakesFrames id n (is_at_attempt id n one) one answer some gone torn old.standing.events rest × Holds rest new

    own_moves : (bytes frames : ℕ) (why : Option Refusal) (count : ℕ) (some : List Event) (gone torn : Bytes) (one : HeldAttempt H) (changed : Attempt H) (old new : Scheduled H) → one.invocation ≡ id → one.number ≡ n
        → held_of old.held id n ≡ Some one → gone ≡ take bytes (output_of one.attempt) → new.standing.events ≡ some ++ old.standing.events → MovesOne count one old.standing (reply.Moved bytes frames why) new.standing changed
        → Holds torn old → (rest : Bytes) × TakesFirst id n why (torn ++ gone) old.standing.events some rest × Holds rest new
    own_moves bytes frames why count some gone torn one changed old new own_id own_number there gone_is grows does (inl none) = some_none (sym there ∙ none.0)
    own_moves bytes frames why count some gone torn one changed old new own_id own_number there gone_is grows does (inr begun) = (
      took.rest,
      record {
        taken = reverse took.frames;
        accepted_are = append_cancel_right some (stop_for id n why ++ map (Event.Move id n) (reverse took.frames)) s.events
            (sym grows ∙ rests_stop id n why between new.standing rests ∙ ap (λ (events : List Event). stop_for id n why ++ events) (took.events ∙ ap (λ (events : List Event). map (Event.Move id n) (reverse took.frames) ++ events) puts.events)
            ∙ sym (append_assoc (stop_for id n why) (map (Event.Move id n) (reverse took.frames)) s.events));
        frames = subst (λ (frames : List Frame). AreFrames (version_of s.events id) (torn ++ gone) frames took.rest) (sym (reverse-reverse took.frames))
            (subst (λ (events : List Event). AreFrames (version_of events id) (torn ++ gone) took.frames took.rest) puts.events took.are);
        no_further = subst (λ (events : List Event). NoFurther id n (reverse took.frames) took.rest why events) puts.events (no_further id n pushed between new.standing (torn ++ gone) took why rests);
      },
      inr (
        subst (λ (events : List Event). n ≤ attempts_begun events id) (sym grows) (more_begun some s.events begun.0),
        λ live. left_waits id n pushed between new.standing (torn ++ gone) took why rests live,
      ),
    )
      where
        s : Standing
        s = old.standing

        pushed : Standing
        pushed = does.3.0

        between : Standing
        between = does.3.2.between

        puts : PutsBehind id n gone s pushed
        puts =
            subst (λ (b : Bytes). PutsBehind id n b s pushed) (sym gone_is)
            (subst (λ (x : Text). PutsBehind x n (take bytes (output_of one.attempt)) s pushed) own_id (subst (λ (m : ℕ). PutsBehind one.invocation m (take bytes (output_of one.attempt)) s pushed) own_number does.3.1))

        rests : Rests id n why between new.standing
        rests = subst (λ (x : Text). Rests x n why between new.standing) own_id (subst (λ (m : ℕ). Rests one.invocation m why between new.standing) own_number does.3.2.rests)

        takes : TakesEach id n does.0 pushed between
        takes = subst (λ (x : Text). TakesEach x n does.0 pushed between) own_id (subst (λ (m : ℕ). TakesEach one.invocation m does.0 pushed between) own_number does.3.2.taken)

        before_is : puts.before ≡ torn
        before_is = some_is puts.before torn (sym puts.waits ∙ begun.1 (live_when s.events id n puts.live))

        took : Took id n pushed between (torn ++ gone)
        took = took_each id n does.0 pushed between (torn ++ gone) (puts.own ∙ ap (λ (b : Bytes). Some (b ++ gone)) before_is) takes

    move_step : (other : Text) (k count bytes frames : ℕ) (why : Option Refusal) (some : List Event) (gone torn : Bytes) (old new : Scheduled H) → Applies function options (event.Move other k count) (reply.Moved bytes frames why) old new
        → MovesBytes (event.Move other k count) (reply.Moved bytes frames why) gone old.held → new.standing.events ≡ some ++ old.standing.events → Holds torn old
        → Moves (event.Move other k count) (reply.Moved bytes frames why) some gone torn old new
    move_step other k count bytes frames why some gone torn old new it goes grows at = by_held (held_of old.held other k) refl it
      where
        by_held : (o : Option (HeldAttempt H)) → held_of old.held other k ≡ o → IfHeld (MovesOne count) o old.standing old.held (reply.Moved bytes frames why) new.standing new.held
            → Moves (event.Move other k count) (reply.Moved bytes frames why) some gone torn old new
        by_held None is d = absurd (let e : reply.Moved bytes frames why ≡ reply.Refused refusal.AttemptNotHeld = d.0 in cc)
        by_held (Some one) is d = by_name (bytes_eq other id && (k == n)) refl
          where
            names : (one.invocation ≡ other) × (one.number ≡ k)
            names = held_is other k one (found_is other k old.held one is)

            gone_is : gone ≡ take bytes (output_of one.attempt)
            gone_is = goes.2 ∙ ap (λ (h : HeldAttempt H). take bytes (output_of h.attempt)) (some_is goes.0 one (sym goes.1 ∙ is))

            by_name : (c : Bool) → (bytes_eq other id && (k == n)) ≡ c → Moves (event.Move other k count) (reply.Moved bytes frames why) some gone torn old new
            by_name true e =
                let parts = and_parts (bytes_eq other id) (k == n) e in
                let same_id : other ≡ id = (bytes_eq-Decides other id).0 parts.0 in
                let same_number : k ≡ n = eqb-true k n parts.1 in
                let there : held_of old.held id n ≡ Some one = subst (λ (x : Text). held_of old.held x n ≡ Some one) same_id (subst (λ (m : ℕ). held_of old.held other m ≡ Some one) same_number is) in
                let it = own_moves bytes frames why count some gone torn one d.0 old new (names.0 ∙ same_id) (names.1 ∙ same_number) there gone_is grows d.1 at in (
                  it.0,
                  subst (λ (b : Bool). TakesFrames {H = H} id n b (event.Move other k count) (reply.Moved bytes frames why) some gone torn old.standing.events it.0) (sym e) it.1,
                  it.2,
                )
            by_name false e =
                let far : (bytes_eq one.invocation id && (one.number == n)) ≡ false =
                ap (λ (x : Text). bytes_eq x id && (one.number == n)) names.0 ∙ ap (λ (m : ℕ). bytes_eq other id && (m == n)) names.1 ∙ e in
                let put = d.1.3 in
                let quiet : Quiet id n old.standing new.standing =
                quiet_on id n old.standing put.0 new.standing (quiet_puts id n one.invocation one.number far (take bytes (output_of one.attempt)) old.standing put.0 put.1)
                (quiet_on id n put.0 put.2.between new.standing (quiet_takes id n one.invocation one.number far d.1.0 put.0 put.2.between put.2.taken)
                (quiet_rests id n one.invocation one.number far why put.2.between new.standing put.2.rests)) in (
                  torn,
                  subst (λ (b : Bool). TakesFrames {H = H} id n b (event.Move other k count) (reply.Moved bytes frames why) some gone torn old.standing.events torn) (sym e) refl,
                  still some torn old new grows (if_unheld id n (MovesOne count) other k old.held new.held old.standing new.standing (reply.Moved bytes frames why) it) quiet at,
                )

    -- ---- each event

    keeps_turn : (b : Bool) (other : Text) (k : ℕ) (ran : RunOutcome) (answer : Reply) (some : List Event) (gone torn : Bytes) (all : List Event) → TakesFrames {H = H} id n b (event.Turn other k ran) answer some gone torn all torn
    keeps_turn true other k ran answer some gone torn all = refl
    keeps_turn false other k ran answer some gone torn all = refl

    keeps_close : (b : Bool) (other : Text) (k : ℕ) (answer : Reply) (some : List Event) (gone torn : Bytes) (all : List Event) → TakesFrames {H = H} id n b (event.Close other k) answer some gone torn all torn
    keeps_close true other k answer some gone torn all = refl
    keeps_close false other k answer some gone torn all = refl

    keeps_unmoved : (b : Bool) (other : Text) (k count : ℕ) (answer : Reply) (some : List Event) (gone torn : Bytes) (all : List Event) → ((bytes frames : ℕ) (why : Option Refusal) → answer ≡ reply.Moved bytes frames why → ⊥)
        → TakesFrames {H = H} id n b (event.Move other k count) answer some gone torn all torn
    keeps_unmoved false other k count answer some gone torn all never = refl
    keeps_unmoved true other k count (reply.Moved bytes frames why) some gone torn all never = absurd (never bytes frames why refl)
    keeps_unmoved true other k count answer some gone torn all never = refl

    fed_holds : (other : Text) (k count fed : ℕ) (why : Option Refusal) (bytes : Bytes) (some : List Event) (torn : Bytes) (old new : Scheduled H) → HandsOne function options (event.Feed other k count) (reply.Fed fed why) bytes old new
        → new.standing.events ≡ some ++ old.standing.events → Holds torn old → Holds torn new
    fed_holds other k count fed why bytes some torn old new it grows at =
        let parts = it.6 in
        let one : HeldAttempt H = it.0 in
        still some torn old new grows
        (λ none. ap (λ (hs : List (HeldAttempt H)). held_of hs id n) it.7 ∙ changed_unheld id n other k old.held one it.1 it.3 none)
        (quiet_on id n old.standing parts.0 new.standing (quiet_parts id n one.invocation one.number count it.2 old.standing parts.0 parts.1) (quiet_no_part id n one.invocation one.number count it.2 why parts.0 new.standing parts.3)) at

    step : (one : scheduled.Event H) (answer : Reply) (bytes gone : Bytes) (some : List Event) (torn : Bytes) (old new : Scheduled H) → HandsOne function options one answer bytes old new → MovesBytes one answer gone old.held
        → new.standing.events ≡ some ++ old.standing.events → Holds torn old → Moves one answer some gone torn old new
    step (event.Begin other handler now) (reply.Begun number) bytes gone some torn old new it goes grows at = (torn, refl, begin_holds other handler now it.0 some torn old new grows it.2 it.3 at)
    step (event.Begin other handler now) answer bytes gone some torn old new it goes grows at = (torn, refl, begins_hold other handler now answer some torn old new grows it.0 at)
    step (event.Feed other k count) (reply.Fed fed why) bytes gone some torn old new it goes grows at = (torn, refl, fed_holds other k count fed why bytes some torn old new it grows at)
    step (event.Feed other k count) answer bytes gone some torn old new it goes grows at = (
      torn,
      refl,
      still some torn old new grows (if_unheld id n (FeedsOne count) other k old.held new.held old.standing new.standing answer it.0)
          (quiet_held (FeedsOne count) other k old.held new.held old.standing new.standing answer (λ one changed does. quiet_fed count one old.standing new.standing answer changed does) it.0) at,
    )
    step (event.Close other k) answer bytes gone some torn old new it goes grows at = (
      torn,
      keeps_close (bytes_eq other id && (k == n)) other k answer some gone torn old.standing.events,
      still some torn old new grows (if_unheld id n ClosesOne other k old.held new.held old.standing new.standing answer it.0)
          (quiet_held ClosesOne other k old.held new.held old.standing new.standing answer (λ one changed does. quiet_closed one old.standing new.standing answer changed does) it.0) at,
    )
    step (event.Turn other k ran) answer bytes gone some torn old new it goes grows at = (
      torn,
      keeps_turn (bytes_eq other id && (k == n)) other k ran answer some gone torn old.standing.events,
      still some torn old new grows (unless_unheld id n (tells_mismatch ran) (TurnsOne function ran) other k old.held new.held old.standing new.standing answer it.0)
          (quiet_unless (tells_mismatch ran) ran other k old.held new.held old.standing new.standing answer it.0) at,
    )
    step (event.Move other k count) (reply.Moved moved frames why) bytes gone some torn old new it goes grows at = move_step other k count moved frames why some gone torn old new it.0 goes grows at
    step (event.Move other k count) answer bytes gone some torn old new it goes grows at = (
      torn,
      keeps_unmoved (bytes_eq other id && (k == n)) other k count answer some gone torn old.standing.events (λ moved frames why e. cc),
      still some torn old new grows (if_unheld id n (MovesOne count) other k old.held new.held old.standing new.standing answer it.0)
          (quiet_held (MovesOne count) other k old.held new.held old.standing new.standing answer
          (λ one changed does. quiet_unmoved count one old.standing new.standing answer changed (λ moved frames why e. cc) does) it.0) at,
    )
    step (event.Stop other k) answer bytes gone some torn old new it goes grows at = (
      torn,
      refl,
      still some torn old new grows (if_unheld id n StopsOne other k old.held new.held old.standing new.standing answer it.0)
          (quiet_held StopsOne other k old.held new.held old.standing new.standing answer
          (λ one changed does. quiet_stopped id n one.invocation one.number answer old.standing new.standing does.0) it.0) at,
    )
    step (event.Invoke new_one) answer bytes gone some torn old new it goes grows at =
        (torn, refl, still some torn old new grows (same_unheld id n old.held new.held it.0.1) (quiet_invoke new_one answer old.standing new.standing it.0.0) at)
    step (event.Result other completion value) answer bytes gone some torn old new it goes grows at = (
      torn,
      refl,
      still some torn old new grows (same_unheld id n old.held new.held it.0.1)
          (quiet_place (Event.Result other completion value) other answer old.standing new.standing refl it.0.0) at,
    )
    step (event.Signal other key value) answer bytes gone some torn old new it goes grows at =
        (torn, refl, still some torn old new grows (same_unheld id n old.held new.held it.0.1) (quiet_place (Event.Signal other key value) other answer old.standing new.standing refl it.0.0) at)
    step (event.Cancel other) answer bytes gone some torn old new it goes grows at =
        (torn, refl, still some torn old new grows (same_unheld id n old.held new.held it.0.1) (quiet_place (Event.Cancel other) other answer old.standing new.standing refl it.0.0) at)
    step (event.Tick now) answer bytes gone some torn old new it goes grows at =
        (torn, refl, still some torn old new grows (same_unheld id n old.held new.held it.0.1) (quiet_tick now answer old.standing new.standing it.0.0) at)

    -- so it is at each moment of a schedule
    pub each_taken : (events : List (scheduled.Event H)) (replies : List Reply) (added : List (List Event)) (handed moved : List Bytes) (old new : Scheduled H) (torn : Bytes)
        → HandsEach function options events replies added handed moved old new → Holds torn old → AreFramesTaken id n events replies added moved torn old.standing.events
    each_taken [] [] [] [] [] old new torn it at = tt
    each_taken (one ∷ events) (answer ∷ replies) (some ∷ added) (bytes ∷ handed) (gone ∷ moved) old new torn it at =
        let behind = step one answer bytes gone some torn old it.0 it.1 it.4 it.2 at in (
          behind.0,
          behind.1,
          subst (λ (before : List Event). AreFramesTaken id n events replies added moved behind.0 before) it.2 (each_taken events replies added handed moved it.0 new behind.0 it.3 behind.2),
        )
    each_taken _ _ _ _ _ old new torn it at = absurd it
