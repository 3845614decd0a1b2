-- Each event keeps an invocation in its run, and its reply tells of each of its attempts what the run does.
use Rattle.std.proofs.Common.{◌≡◌, ◌≢◌, ℕ, ◌-◌, ◌<◌, ◌^◌, ◌==◌, eqb-true, eq-eqb, Bool, true, false, true≢false, ◌&&◌, List, [], ◌∷◌, ◌++◌, append_assoc, append-nil, length, take, Ok, Option, Some, None, bytes_eq, refl, sym, ap, subst, ◌∙◌}
use Rattle.std.proofs.lemmas.Slice.Eq.{bytes_eq-Decides}
use Rattle.journal_model.specs.declared.invocation.NewInvocation.{NewInvocation}
use Rattle.journal_model.specs.Notification.{Bytes, Text}
use Rattle.journal_model.specs.Event.{Event as ModelEvent}
use Rattle.journal_model.specs.Journal.{invocation_begun}
use Rattle.journal_model.specs.Attempt.{live_attempt, input_left}
use Rattle.journal_model.specs.Cause.{IsAccepted}
use Rattle.journal_model.specs.Run.{Handler}
use Rattle.live_laws.specs.StartFrame.{AttemptStart}
use Rattle.vm_types.specs.declared.options.VMOptions.{VMOptions}
use Rattle.due_laws.proofs.InputParts.{part_is_taken}
use Rattle.store_refusals.specs.declared.refusal.Refusal.{Refusal}
use Rattle.store_calls.specs.AbstractStore.{Standing, StaysStanding, Adds}
use Rattle.store_calls.specs.Calls.{HandsOut}
use Rattle.vm_attempt_laws.specs.BodyExecution.{IsBodyCode, MayNotEnd}
use Rattle.vm_attempt_laws.specs.TurnReports.{Told}
use Rattle.vm_refusals.specs.declared.runs.RunExitResult.{RunExitResult}
use Rattle.protocol_errors.specs.Code.{journal_mismatch}
use Rattle.schedule_model.specs.Outcomes.{is_mismatch}
use Rattle.schedule_model.specs.declared.event.EventRefusal.{EventRefusal}
use Rattle.schedule_laws.specs.Attempts.{Feeds, ClosesInput, Turns, Attempt, Turn, RunOutcome}
use Rattle.schedule_laws.specs.TrackedAttempt.{Tracked, Attends}
use Rattle.schedule_laws.specs.InvocationInRun.{ReplaysInLine, FollowsBegun, FollowsWhere, FollowsTold, ToldOf}
use Rattle.schedule_laws.specs.Laws.{BeginsTold, DoesFeeding, KeepsTold}
use Rattle.schedule_laws.specs.Schedules.event
use Rattle.schedule_laws.specs.Schedules.refusal
use Rattle.schedule_laws.specs.Schedules.reply
use Rattle.schedule_laws.specs.Schedules.{Event, Reply, HeldAttempt, with_first, is_held, held_of, with_attempt, BeginDoes, IfHeld, UnlessMismatch, tells_mismatch, given_in, HandsOutEach, StopsHandingOut, FeedsEach, FeedsOne, FeedsParts, ClosesOne, StopsOne, TurnsOne, MovesOne, Does, Brings, FitsEvent}
use Rattle.schedule_laws.specs.TurnReplies.{TakesAsTold, TellsAttempt, TurnTellsNow, is_of_attempt}
use Rattle.schedule_laws.proofs.Acting.{fed, closed}
use Rattle.schedule_laws.proofs.TrackedAttempt.{told_at, told_of, told_other, with_told}
use Rattle.schedule_laws.proofs.Beginning.{begun}
use Rattle.schedule_laws.proofs.Keeping.{handed_live, handed_open, closed_live, kept_cancel, kept_invoke, kept_move, moved_as_told, kept_parts, kept_refused, kept_result, kept_signal, kept_stop, kept_stopped, kept_tick, other_changed, same_state, some_waits}
use Rattle.schedule_laws.proofs.Others.{into, stands_still, other_on}
use Rattle.schedule_laws.proofs.Schedules.{with_same, with_twice, some_none, found_is, held_is, held_with}
use Rattle.schedule_laws.proofs.Serving.{ServingLaws}
use Rattle.schedule_laws.proofs.Taking.{told_of_all}
use Rattle.schedule_laws.proofs.Turning.{turned_begun}

some_same : (a b : Tracked) → Some a ≡ Some b → a ≡ b
some_same a b e = cc

whole : (t : Tracked) → Some t ≡ Some (record { start = t.start; told = t.told })
whole t = refl

-- an outcome that tells no mismatch asks for no end
not_ended : (options : VMOptions) (ran : RunOutcome) → tells_mismatch ran ≡ false → MayNotEnd options ran
not_ended options ran none code = absurd (by_exit ran.result none code)
  where
    by_exit : (exit : RunExitResult) → is_mismatch exit ≡ false → IsBodyCode exit journal_mismatch → ⊥
    by_exit (RunExitResult.RetryableFailure duration error) none code = true≢false (sym (eq-eqb error.code.0 journal_mismatch (sym code)) ∙ none)
    by_exit (RunExitResult.Success bytes) none code = code
    by_exit (RunExitResult.TerminalFailure failure) none code = code

-- how an attempt is told of that was fed so
abbrev pub SaysFed : Bytes → Tracked → Told → Type 0
SaysFed bytes t after = after ≡ record t.told { bytes = t.told.bytes ++ bytes }

abbrev pub SaysClosed : Tracked → Told → Type 0
SaysClosed t after = after ≡ record t.told { is_closed = true }

abbrev pub SaysTurned : Handler → RunOutcome → Turn → Tracked → Told → Type 0
SaysTurned next ran turn t after = TurnTellsNow next t.start t.told t.told.over ran turn after

module _ {H : Type 0} (function : H → Handler) (next : Handler) (options : VMOptions) (id : Text) where
  -- what is told behind an event that is done with the attempt of this number, of which it says this
  pub record OwnNow (told : ToldOf) (n : ℕ) (Says : Tracked → Told → Type 0) (t : Standing) (more : List (HeldAttempt H)) : Type 0 where
    pub again : ToldOf
    pub follows : FollowsTold function next options id again t more
    pub others : (m : ℕ) → m ≢ n → again m ≡ told m
    pub own : (tracked : Tracked) → told n ≡ Some tracked → (after : Told) × (again n ≡ Some (record { start = tracked.start; told = after })) × Says tracked after

  module _ (told : ToldOf) (n : ℕ) (Says : Tracked → Told → Type 0) (t : Standing) (more : List (HeldAttempt H)) where
    -- so it is where this is told of it
    told_now : (t0 : Tracked) (after : Told) → told n ≡ Some t0 → FollowsTold function next options id (with_told told n (record { start = t0.start; told = after })) t more → Says t0 after
        → OwnNow told n Says t more
    told_now t0 after is follows says = record {
      again = with_told told n (record { start = t0.start; told = after });
      follows = follows;
      others = told_other told n (record { start = t0.start; told = after });
      own = λ tracked so.
          subst (λ (k : Tracked). (later : Told) × (with_told told n (record { start = t0.start; told = after }) n ≡ Some (record { start = k.start; told = later })) × Says k later)
          (some_same t0 tracked (sym is ∙ so)) (after, told_at told n (record { start = t0.start; told = after }), says);
    }

module _ {H : Type 0} (function : H → Handler) (next : Handler) (options : VMOptions) (id : Text) (laws : ServingLaws function next options) (told : ToldOf) where
  -- ---- what is done with an attempt of the invocation that is held

  module _ (one : HeldAttempt H) (changed : Attempt H) (s t : Standing) (held : List (HeldAttempt H)) (there : held_of held id one.number ≡ Some one) where
    abbrev changed_to : List (HeldAttempt H)
    changed_to = with_first (is_held id one.number) held (record one { attempt = changed })

    abbrev Now : (Says : Tracked → Told → Type 0) → Type 0
    Now Says = OwnNow function next options id told one.number Says t changed_to

    tracked_in : (new : NewInvocation) (f : FollowsBegun function next options id told s.events (s.outputs id) held new)
        → (t0 : Tracked) × (told one.number ≡ Some t0) × Attends function next options id s.events new f.version f.coming one.number t0 one.attempt
    tracked_in new f = told_of function next options id told s.events new f.version f.coming one.number one.attempt (told one.number) refl (f.attends one.number one there)

    pub fed_own : (bytes : Bytes) → bytes ≡ take (length bytes) (input_left s.events id) → Adds (ModelEvent.Feed id one.number (length bytes)) s t → Feeds bytes one.attempt changed
        → FollowsTold function next options id told s held → Now (SaysFed bytes)
    fed_own bytes bytes_are adds feeds f = by_begun (invocation_begun s.events id) refl f
      where
        accepted : IsAccepted (ModelEvent.Feed id one.number (length bytes) ∷ s.events)
        accepted = subst IsAccepted adds.events t.accepted

        live : live_attempt s.events id ≡ Some one.number
        live = handed_live s.events id one.number (length bytes) accepted.0

        by_begun : (o : Option NewInvocation) → invocation_begun s.events id ≡ o → FollowsWhere function next options id told s.events (s.outputs id) held o → Now (SaysFed bytes)
        by_begun None is f = some_none (sym there ∙ (f one.number).0)
        by_begun (Some new) is f =
            let (waits, waits_is) = some_waits (s.outputs id) (live_attempt s.events id) one.number (s.live id) live in
            let (t0, so, at) = tracked_in new f in
            let after : Told = record t0.told { bytes = t0.told.bytes ++ bytes } in
            told_now function next options id told one.number (SaysFed bytes) t changed_to t0 after so
            (into function next options id (with_told told one.number (record { start = t0.start; told = after })) t (ModelEvent.Feed id one.number (length bytes) ∷ s.events) (s.outputs id) changed_to adds.events
            (adds.outputs id)
            (subst (λ (o : Option NewInvocation). FollowsWhere function next options id (with_told told one.number (record { start = t0.start; told = after })) (ModelEvent.Feed id one.number (length bytes) ∷ s.events)
            (s.outputs id) changed_to o) (sym is)
            (fed function next options id laws told s.events (s.outputs id) held new one.number one waits live waits_is there f t0 so at (length bytes) bytes changed accepted
            (handed_open s.events id one.number (length bytes) accepted.0) bytes_are feeds)))
            refl

    pub closed_own : Adds (ModelEvent.Close id one.number) s t → ClosesInput one.attempt changed → FollowsTold function next options id told s held → Now SaysClosed
    closed_own adds closes f = by_begun (invocation_begun s.events id) refl f
      where
        accepted : IsAccepted (ModelEvent.Close id one.number ∷ s.events)
        accepted = subst IsAccepted adds.events t.accepted

        live : live_attempt s.events id ≡ Some one.number
        live = closed_live s.events id one.number accepted.0

        by_begun : (o : Option NewInvocation) → invocation_begun s.events id ≡ o → FollowsWhere function next options id told s.events (s.outputs id) held o → Now SaysClosed
        by_begun None is f = some_none (sym there ∙ (f one.number).0)
        by_begun (Some new) is f =
            let (waits, waits_is) = some_waits (s.outputs id) (live_attempt s.events id) one.number (s.live id) live in
            let (t0, so, at) = tracked_in new f in
            let after : Told = record t0.told { is_closed = true } in
            told_now function next options id told one.number SaysClosed t changed_to t0 after so
            (into function next options id (with_told told one.number (record { start = t0.start; told = after })) t (ModelEvent.Close id one.number ∷ s.events) (s.outputs id) changed_to adds.events (adds.outputs id)
            (subst (λ (o : Option NewInvocation). FollowsWhere function next options id (with_told told one.number (record { start = t0.start; told = after })) (ModelEvent.Close id one.number ∷ s.events) (s.outputs id)
            changed_to o) (sym is)
            (closed function next options id laws told s.events (s.outputs id) held new one.number one waits live waits_is there f t0 so at changed accepted closes)))
            refl

    pub turned_own : (ran : RunOutcome) → MayNotEnd options ran → (turn : Turn) → ReplaysInLine options → Turns function ran one.attempt turn changed → StaysStanding s t → FollowsTold function next options id told s held → Now (SaysTurned next ran turn)
    turned_own ran may turn in_line turns stays f = by_begun (invocation_begun s.events id) refl f
      where
        by_begun : (o : Option NewInvocation) → invocation_begun s.events id ≡ o → FollowsWhere function next options id told s.events (s.outputs id) held o → Now (SaysTurned next ran turn)
        by_begun None is f = some_none (sym there ∙ (f one.number).0)
        by_begun (Some new) is f =
            let (t0, so, at) = tracked_in new f in
            let it = turned_begun function next options id laws told s.events (s.outputs id) held new one.number one there f t0 so ran may turn changed s.accepted in_line turns
            (λ live. some_waits (s.outputs id) (live_attempt s.events id) one.number (s.live id) live) at in
            told_now function next options id told one.number (SaysTurned next ran turn) t changed_to t0 it.now so
            (stands_still function next options id (with_told told one.number (record { start = t0.start; told = it.now })) s t changed_to stays
            (subst (λ (o : Option NewInvocation). FollowsWhere function next options id (with_told told one.number (record { start = t0.start; told = it.now })) s.events (s.outputs id) changed_to o) (sym is) it.follows))
            it.tells

module _ {H : Type 0} (function : H → Handler) (next : Handler) (options : VMOptions) (id : Text) (laws : ServingLaws function next options) (told : ToldOf) where
  -- one part after another is fed to it
  pub parts_own : (n count : ℕ) (parts : List Bytes) (one : HeldAttempt H) (changed : Attempt H) (s t : Standing) (held : List (HeldAttempt H)) → one.number ≡ n → held_of held id n ≡ Some one
      → HandsOutEach id n count parts s t → FeedsEach parts one.attempt changed → FollowsTold function next options id told s held
      → OwnNow function next options id told n (SaysFed (given_in parts)) t (with_first (is_held id n) held (record one { attempt = changed }))
  parts_own n count [] one changed s t held number there hands feeds f =
      let same : with_first (is_held id n) held (record one { attempt = changed }) ≡ held =
      ap (λ (a : Attempt H). with_first (is_held id n) held (record one { attempt = a })) feeds ∙ with_same (is_held id n) held one there in
      record {
        again = told;
        follows = subst (λ (hs : List (HeldAttempt H)). FollowsTold function next options id told t hs) (sym same) (subst (λ (m : Standing). FollowsTold function next options id told m held) (sym hands) f);
        others = λ m far. refl;
        own = λ tracked is. (tracked.told, is ∙ whole tracked, ap (λ (bytes : Bytes). record tracked.told { bytes = bytes }) (sym (append-nil tracked.told.bytes)));
      }
  parts_own n count (last ∷ earlier) one changed s t held number there hands feeds f =
      let between : HeldAttempt H = record one { attempt = feeds.0 } in
      let some : List (HeldAttempt H) = with_first (is_held id n) held between in
      let here : held_of some id n ≡ Some between = held_with id n held one between there refl refl in
      let first = parts_own n count earlier one feeds.0 s hands.0 held number there hands.1 feeds.1 f in
      let second : OwnNow function next options id first.again n (SaysFed last) t (with_first (is_held id n) some (record one { attempt = changed })) =
      subst (λ (m : ℕ). held_of some id m ≡ Some between → HandsOut id m (count - length (given_in earlier)) (Ok last) hands.0 t → OwnNow function next options id first.again m (SaysFed last) t
      (with_first (is_held id m) some (record one { attempt = changed }))) number
      (λ found out. fed_own function next options id laws first.again between changed hands.0 t some found last (part_is_taken (input_left hands.0.events id) last (count - length (given_in earlier)) out.0) out.1 feeds.2 first.follows)
      here hands.3 in
      record {
        again = second.again;
        follows = subst (λ (hs : List (HeldAttempt H)). FollowsTold function next options id second.again t hs)
            (with_twice (is_held id n) held between (record one { attempt = changed }) (found_is id n held one there))
            second.follows;
        others = λ m far. second.others m far ∙ first.others m far;
        own = λ tracked is.
            let a = first.own tracked is in
            let b = second.own (record { start = tracked.start; told = a.0 }) a.1 in (
              b.0,
              b.1,
              b.2 ∙ ap (λ (k : Told). record k { bytes = k.bytes ++ last }) a.2 ∙ ap (λ (bytes : Bytes). record tracked.told { bytes = bytes }) (append_assoc tracked.told.bytes (given_in earlier) last),
            );
      }

  -- ---- what that tells

  abbrev Keeps : Event H → Reply → Bytes → Standing → Standing → List (HeldAttempt H) → Type 0
  Keeps one answer bytes s t more = KeepsTold function next options id one answer bytes s t more told

  -- of attempts that are not meant
  not_meant : (start : AttemptStart) (one : Event H) (answer : Reply) (bytes : Bytes) (t : Told) → TellsAttempt next start false one answer bytes t t
  not_meant start one answer bytes t = refl

  not_done : (b : Bool) (start : AttemptStart) (one : Event H) (why : EventRefusal) (bytes : Bytes) (t : Told) → TellsAttempt next start b one (reply.Refused why) bytes t t
  not_done false start one why bytes t = refl
  not_done true start (event.Turn other n ran) why bytes t = refl
  not_done true start (event.Close other n) why bytes t = refl
  not_done true start (event.Feed other n count) why bytes t = refl
  not_done true start one why bytes t = refl

  -- what is taken of them
  abbrev Takes : Event H → Reply → Standing → Standing → Type 0
  Takes one answer s t = (n : ℕ) (tracked : Tracked) → told n ≡ Some tracked → (added : List ModelEvent) → t.events ≡ added ++ s.events → TakesAsTold id n one answer added tracked.told

  refused_takes : (one : Event H) (why : EventRefusal) (s t : Standing) → Takes one (reply.Refused why) s t
  refused_takes (event.Move other n count) why s t m tracked is added more = tt
  refused_takes one why s t m tracked is added more = tt

  -- nothing more
  quiet : (one : Event H) (answer : Reply) (bytes : Bytes) (s t : Standing) (more : List (HeldAttempt H))
      → ((m : ℕ) (tracked : Tracked) → TellsAttempt next tracked.start (is_of_attempt id m one) one answer bytes tracked.told tracked.told) → BeginsTold options id one answer s.events told
      → Takes one answer s t → FollowsTold function next options id told t more → Keeps one answer bytes s t more
  quiet one answer bytes s t more tells begins takes f =
      record { now = told; follows = f; tells = λ m tracked is. (tracked.told, is ∙ whole tracked, tells m tracked); begins = begins; takes = takes }

  refused_begins : (one : Event H) (why : EventRefusal) (s : Standing) → BeginsTold options id one (reply.Refused why) s.events told
  refused_begins (event.Begin other handler now) why s = tt
  refused_begins one why s = tt

  refused : (one : Event H) (why : EventRefusal) (answer : Reply) (bytes : Bytes) (s t : Standing) (held more : List (HeldAttempt H)) → answer ≡ reply.Refused why → StaysStanding s t → more ≡ held
      → FollowsTold function next options id told s held → Keeps one answer bytes s t more
  refused one why answer bytes s t held more is stays same f =
      subst (λ (said : Reply). Keeps one said bytes s t more) (sym is)
      (quiet one (reply.Refused why) bytes s t more (λ m tracked. not_done (is_of_attempt id m one) tracked.start one why bytes tracked.told) (refused_begins one why s) (refused_takes one why s t)
      (same_state function next options id laws told s t held more stays same f))

  -- of an attempt of another invocation
  elsewhere : (one : Event H) (answer : Reply) (bytes : Bytes) (s t : Standing) (more : List (HeldAttempt H)) → ((m : ℕ) → is_of_attempt id m one ≡ false) → BeginsTold options id one answer s.events told
      → Takes one answer s t → FollowsTold function next options id told t more → Keeps one answer bytes s t more
  elsewhere one answer bytes s t more none begins takes f =
      quiet one answer bytes s t more
      (λ m tracked. subst (λ (b : Bool). TellsAttempt next tracked.start b one answer bytes tracked.told tracked.told) (sym (none m)) (not_meant tracked.start one answer bytes tracked.told)) begins takes f

  -- of this one
  meant : (one : Event H) (answer : Reply) (bytes : Bytes) (n : ℕ) (Says : Tracked → Told → Type 0) (s t : Standing) (more : List (HeldAttempt H)) → ((m : ℕ) → is_of_attempt id m one ≡ (n == m))
      → ((again : ToldOf) → BeginsTold options id one answer s.events again) → ((tracked : Tracked) (after : Told) → Says tracked after → TellsAttempt next tracked.start true one answer bytes tracked.told after)
      → Takes one answer s t → OwnNow function next options id told n Says t more → Keeps one answer bytes s t more
  meant one answer bytes n Says s t more which begins says takes it = record {
    now = it.again;
    follows = it.follows;
    tells = λ m tracked is. by_number m tracked is (n == m) refl;
    begins = begins it.again;
    takes = takes;
  }
    where
      by_number : (m : ℕ) (tracked : Tracked) → told m ≡ Some tracked → (b : Bool) → (n == m) ≡ b
          → (after : Told) × (it.again m ≡ Some (record { start = tracked.start; told = after })) × TellsAttempt next tracked.start (is_of_attempt id m one) one answer bytes tracked.told after
      by_number m tracked is true e =
          let same : n ≡ m = eqb-true n m e in
          let own = it.own tracked (ap told same ∙ is) in (
            own.0,
            ap it.again (sym same) ∙ own.1,
            subst (λ (b : Bool). TellsAttempt next tracked.start b one answer bytes tracked.told own.0) (sym (which m ∙ e)) (says tracked own.0 own.2),
          )
      by_number m tracked is false e = (
        tracked.told,
        it.others m (λ same. true≢false (sym (eq-eqb n m (sym same)) ∙ e)) ∙ is ∙ whole tracked,
        subst (λ (b : Bool). TellsAttempt next tracked.start b one answer bytes tracked.told tracked.told) (sym (which m ∙ e)) (not_meant tracked.start one answer bytes tracked.told),
      )

  both_false : (a b : Bool) → a ≡ false → (a && b) ≡ false
  both_false a b e = ap (λ (c : Bool). c && b) e

  both_true : (a b : Bool) → a ≡ true → (a && b) ≡ b
  both_true a b e = ap (λ (c : Bool). c && b) e

  -- ---- by whether its invocation is this one

  -- what is said of one of this invocation, whose id is written so
  abbrev Own : HeldAttempt H → Attempt H → (Tracked → Told → Type 0) → Standing → List (HeldAttempt H) → Text → Type 0
  Own one changed Says t held x = held_of held x one.number ≡ Some one → OwnNow function next options id told one.number Says t (with_first (is_held x one.number) held (record one { attempt = changed }))

  by_invocation : (one : HeldAttempt H) (changed : Attempt H) (said : Event H) (answer : Reply) (bytes : Bytes) (Says : Tracked → Told → Type 0) (s t : Standing) (held : List (HeldAttempt H))
      → held_of held one.invocation one.number ≡ Some one → ((m : ℕ) → is_of_attempt id m said ≡ (bytes_eq one.invocation id && (one.number == m)))
      → ((again : ToldOf) → BeginsTold options id said answer s.events again) → ((tracked : Tracked) (after : Told) → Says tracked after → TellsAttempt next tracked.start true said answer bytes tracked.told after) → Takes said answer s t
      → (one.invocation ≡ id → Own one changed Says t held id) → (bytes_eq one.invocation id ≡ false → FollowsTold function next options id told t held) → Keeps said answer bytes s t (with_attempt held one changed)
  by_invocation one changed said answer bytes Says s t held there which begins says takes own others = by_id (bytes_eq one.invocation id) refl
    where
      by_id : (b : Bool) → bytes_eq one.invocation id ≡ b → Keeps said answer bytes s t (with_attempt held one changed)
      by_id true e =
          let same : one.invocation ≡ id = (bytes_eq-Decides one.invocation id).0 e in
          meant said answer bytes one.number Says s t (with_attempt held one changed) (λ m. which m ∙ both_true (bytes_eq one.invocation id) (one.number == m) e) begins says takes
          (subst (λ (x : Text). Own one changed Says t held x) (sym same) (own same) there)
      by_id false e =
          elsewhere said answer bytes s t (with_attempt held one changed) (λ m. which m ∙ both_false (bytes_eq one.invocation id) (one.number == m) e) (begins told) takes
          (other_changed function next options id laws told one changed t held there e (others e))

  -- ---- what is done with one that is held

  -- the attempt is named by its invocation and its number
  abbrev named : (other : Text) (n : ℕ) (held : List (HeldAttempt H)) (one : HeldAttempt H) → Type 0
  named other n held one = (held_of held one.invocation one.number ≡ Some one) × (one.invocation ≡ other) × (one.number ≡ n)

  name_of : (other : Text) (n : ℕ) (held : List (HeldAttempt H)) (one : HeldAttempt H) → held_of held other n ≡ Some one → named other n held one
  name_of other n held one there =
      let is = held_is other n one (found_is other n held one there) in
      (ap (λ (i : Text). held_of held i one.number) is.0 ∙ ap (λ (m : ℕ). held_of held other m) is.1 ∙ there, is.0, is.1)

  abbrev meets : (other : Text) (n : ℕ) (one : HeldAttempt H) → Type 0
  meets other n one = (m : ℕ) → (bytes_eq other id && (n == m)) ≡ (bytes_eq one.invocation id && (one.number == m))

  meets_of : (other : Text) (n : ℕ) (held : List (HeldAttempt H)) (one : HeldAttempt H) → named other n held one → meets other n one
  meets_of other n held one it m = ap (λ (x : Text). bytes_eq x id && (n == m)) (sym it.1) ∙ ap (λ (k : ℕ). bytes_eq one.invocation id && (k == m)) (sym it.2)

  fed_one : (other : Text) (n count fed : ℕ) (why : Option Refusal) (bytes : Bytes) (s t : Standing) (held more : List (HeldAttempt H)) → DoesFeeding function options (event.Feed other n count) (reply.Fed fed why) bytes s held t more
      → FollowsTold function next options id told s held → Keeps (event.Feed other n count) (reply.Fed fed why) bytes s t more
  fed_one other n count fed why bytes s t held more d f =
      let one : HeldAttempt H = d.0 in
      let changed : Attempt H = d.1 in
      let parts : List Bytes = d.2 in
      let it = name_of other n held one d.3 in
      let feeds : FeedsParts count parts why one s t changed = d.6 in
      subst (λ (hs : List (HeldAttempt H)). Keeps (event.Feed other n count) (reply.Fed fed why) bytes s t hs) (sym d.7)
      (by_invocation one changed (event.Feed other n count) (reply.Fed fed why) bytes (SaysFed (given_in parts)) s t held it.0 (meets_of other n held one it) (λ again. tt)
      (λ tracked after says. says ∙ ap (λ (given : Bytes). record tracked.told { bytes = tracked.told.bytes ++ given }) (sym d.5)) (λ m tracked is added more. tt)
      (λ same found. stopped_behind one changed count parts why feeds.0 t held
      (subst (λ (x : Text). StopsHandingOut x one.number count parts why feeds.0 t) same feeds.3)
      (parts_own one.number count parts one changed s feeds.0 held refl found (subst (λ (x : Text). HandsOutEach x one.number count parts s feeds.0) same feeds.1) feeds.2 f))
      (λ far. kept_stopped function next options id laws told one.invocation one.number count parts why feeds.0 t held feeds.3
      (kept_parts function next options id laws told one.invocation one.number count parts s feeds.0 held far feeds.1 f)))
    where
      stopped_behind : (one : HeldAttempt H) (changed : Attempt H) (count : ℕ) (parts : List Bytes) (why : Option Refusal) (between t : Standing) (held : List (HeldAttempt H)) → StopsHandingOut id one.number count parts why between t
          → OwnNow function next options id told one.number (SaysFed (given_in parts)) between (with_first (is_held id one.number) held (record one { attempt = changed }))
          → OwnNow function next options id told one.number (SaysFed (given_in parts)) t (with_first (is_held id one.number) held (record one { attempt = changed }))
      stopped_behind one changed count parts why between t held stops it = record {
        again = it.again;
        follows = kept_stopped function next options id laws it.again id one.number count parts why between t (with_first (is_held id one.number) held (record one { attempt = changed })) stops it.follows;
        others = it.others;
        own = it.own;
      }

  -- an attempt that is not held, or one that is
  abbrev ByHeld : (HeldAttempt H → Standing → Reply → Standing → Attempt H → Type 0) → Event H → Text → ℕ → Reply → Bytes → Standing → Standing → List (HeldAttempt H) → Type 0
  ByHeld Change said other n answer bytes s t held =
      (one : HeldAttempt H) (changed : Attempt H) → named other n held one → Change one s answer t changed → FollowsTold function next options id told s held → Keeps said answer bytes s t (with_attempt held one changed)

  if_held : (Change : HeldAttempt H → Standing → Reply → Standing → Attempt H → Type 0) (said : Event H) (other : Text) (n : ℕ) (answer : Reply) (bytes : Bytes) (s t : Standing) (held more : List (HeldAttempt H))
      → ByHeld Change said other n answer bytes s t held → IfHeld Change (held_of held other n) s held answer t more → FollowsTold function next options id told s held → Keeps said answer bytes s t more
  if_held Change said other n answer bytes s t held more own d f = by_held (held_of held other n) refl d
    where
      by_held : (o : Option (HeldAttempt H)) → held_of held other n ≡ o → IfHeld Change o s held answer t more → Keeps said answer bytes s t more
      by_held None there d = refused said refusal.AttemptNotHeld answer bytes s t held more d.0 d.1 d.2 f
      by_held (Some one) there d = subst (λ (hs : List (HeldAttempt H)). Keeps said answer bytes s t hs) (sym d.2) (own one d.0 (name_of other n held one there) d.1 f)

  -- the store refuses, and the attempt is as it was
  refuses_held : (said : Event H) (why : Refusal) (bytes : Bytes) (one : HeldAttempt H) (changed : Attempt H) (s t : Standing) (held : List (HeldAttempt H)) → held_of held one.invocation one.number ≡ Some one
      → changed ≡ one.attempt → StaysStanding s t → FollowsTold function next options id told s held → Keeps said (reply.Refused (refusal.Store why)) bytes s t (with_attempt held one changed)
  refuses_held said why bytes one changed s t held there same stays f =
      refused said (refusal.Store why) (reply.Refused (refusal.Store why)) bytes s t held (with_attempt held one changed) refl stays
      (ap (λ (a : Attempt H). with_attempt held one a) same ∙ with_same (is_held one.invocation one.number) held one there) f

  fed_held : (other : Text) (n count : ℕ) (answer : Reply) (bytes : Bytes) (s t : Standing) (held : List (HeldAttempt H)) → ((fed : ℕ) (why : Option Refusal) → answer ≡ reply.Fed fed why → ⊥)
      → ByHeld (FeedsOne count) (event.Feed other n count) other n answer bytes s t held
  fed_held other n count (reply.Fed fed why) bytes s t held never one changed it d f = absurd (never fed why refl)
  fed_held other n count (reply.Refused (refusal.Store why)) bytes s t held never one changed it d f = refuses_held (event.Feed other n count) why bytes one changed s t held it.0 d.1 d.0.stays f
  fed_held other n count answer bytes s t held never one changed it d f = absurd d

  closed_held : (other : Text) (n : ℕ) (answer : Reply) (bytes : Bytes) (s t : Standing) (held : List (HeldAttempt H)) → ByHeld ClosesOne (event.Close other n) other n answer bytes s t held
  closed_held other n reply.Done bytes s t held one changed it d f =
      by_invocation one changed (event.Close other n) reply.Done bytes SaysClosed s t held it.0 (meets_of other n held one it) (λ again. tt) (λ tracked after says. says) (λ m tracked is added more. tt)
      (λ same found. closed_own function next options id laws told one changed s t held found (subst (λ (x : Text). Adds (ModelEvent.Close x one.number) s t) same d.0) d.1 f)
      (λ far. other_on function next options id told laws (ModelEvent.Close one.invocation one.number) s t held far d.0.events (d.0.outputs id) f)
  closed_held other n (reply.Refused (refusal.Store why)) bytes s t held one changed it d f = refuses_held (event.Close other n) why bytes one changed s t held it.0 d.1 d.0.stays f
  closed_held other n answer bytes s t held one changed it d f = absurd d

  turned_held : (other : Text) (n : ℕ) (ran : RunOutcome) → MayNotEnd options ran → (answer : Reply) (bytes : Bytes) (s t : Standing) (held : List (HeldAttempt H)) → ReplaysInLine options
      → ByHeld (TurnsOne function ran) (event.Turn other n ran) other n answer bytes s t held
  turned_held other n ran may (reply.Turned turn) bytes s t held in_line one changed it d f =
      by_invocation one changed (event.Turn other n ran) (reply.Turned turn) bytes (SaysTurned next ran turn) s t held it.0 (meets_of other n held one it) (λ again. tt) (λ tracked after says. says) (λ m tracked is added more. tt)
      (λ same found. turned_own function next options id laws told one changed s t held found ran may turn in_line d.0 d.1 f)
      (λ far. stands_still function next options id told s t held d.1 f)
  turned_held other n ran may answer bytes s t held in_line one changed it d f = absurd d

  -- what is taken of an attempt whose bytes are moved
  takes_moved : (other : Text) (n count : ℕ) (answer : Reply) (s t : Standing) (held : List (HeldAttempt H)) (one : HeldAttempt H) (changed : Attempt H) → named other n held one → MovesOne count one s answer t changed
      → FollowsTold function next options id told s held → Takes (event.Move other n count) answer s t
  takes_moved other n count (reply.Moved bytes frames why) s t held one changed it d f m tracked is added more = λ same_id same_number.
      told_of_all tracked.told s.events t.events
      (moved_as_told function next options id laws told count bytes frames why one changed s t held it.0 (it.1 ∙ same_id) tracked (ap told (it.2 ∙ same_number) ∙ is) d f) added more
  takes_moved other n count answer s t held one changed it d f m tracked is added more = tt

  moved_held : (other : Text) (n count : ℕ) (answer : Reply) (bytes : Bytes) (s t : Standing) (held : List (HeldAttempt H)) → ByHeld (MovesOne count) (event.Move other n count) other n answer bytes s t held
  moved_held other n count answer bytes s t held one changed it d f =
      elsewhere (event.Move other n count) answer bytes s t (with_attempt held one changed) (λ m. refl) tt (takes_moved other n count answer s t held one changed it d f)
      (kept_move function next options id laws told count one answer s t held changed it.0 d f)

  stopped_held : (other : Text) (n : ℕ) (answer : Reply) (bytes : Bytes) (s t : Standing) (held : List (HeldAttempt H)) → ByHeld StopsOne (event.Stop other n) other n answer bytes s t held
  stopped_held other n answer bytes s t held one changed it d f =
      elsewhere (event.Stop other n) answer bytes s t (with_attempt held one changed) (λ m. refl) tt (λ m tracked is added more. tt) (kept_stop function next options id laws told one answer s t held changed it.0 d f)

  -- a turn that is refused at once changes nothing
  turned_unless : (is_mismatch : Bool) (other : Text) (n : ℕ) (ran : RunOutcome) (answer : Reply) (bytes : Bytes) (s t : Standing) (held more : List (HeldAttempt H)) → ReplaysInLine options → tells_mismatch ran ≡ is_mismatch
      → UnlessMismatch is_mismatch (TurnsOne function ran) (held_of held other n) s held answer t more → FollowsTold function next options id told s held → Keeps (event.Turn other n ran) answer bytes s t more
  turned_unless true other n ran answer bytes s t held more in_line e d f = refused (event.Turn other n ran) refusal.JournalMismatchOutcome answer bytes s t held more d.0 d.1 d.2 f
  turned_unless false other n ran answer bytes s t held more in_line e d f =
      if_held (TurnsOne function ran) (event.Turn other n ran) other n answer bytes s t held more (turned_held other n ran (not_ended options ran e) answer bytes s t held in_line) d f

  begun_one : (other : Text) (handler : H) (now : ℕ) (answer : Reply) (bytes : Bytes) (s t : Standing) (held more : List (HeldAttempt H)) → ReplaysInLine options → now < 2 ^ 64 → (other ≡ id → function handler ≡ next)
      → BeginDoes options other handler now s held answer t more → FollowsTold function next options id told s held → Keeps (event.Begin other handler now) answer bytes s t more
  begun_one other handler now (reply.Begun n) bytes s t held more in_line moment brings d f =
      let it = begun function next options id laws told other handler now d.0 s t held more moment in_line brings d.2 d.3 f in
      record {
        now = it.again;
        follows = it.follows;
        tells = λ m tracked is. (tracked.told, it.same m tracked is ∙ whole tracked, refl);
        begins = λ same new is. ap it.again d.1 ∙ it.own same new is;
        takes = λ m tracked is added more. tt;
      }
  begun_one other handler now (reply.Refused (refusal.Store why)) bytes s t held more in_line moment brings d f =
      elsewhere (event.Begin other handler now) (reply.Refused (refusal.Store why)) bytes s t more (λ m. refl) tt (λ m tracked is added more. tt) (kept_refused function next options id laws told other now why s t held more moment d f)
  begun_one other handler now answer bytes s t held more in_line moment brings d f = absurd d

  -- ---- each event

  -- a feed that was answered is told of by the bytes that it has fed
  told_feed : (other : Text) (n count : ℕ) (answer : Reply) (bytes : Bytes) (s t : Standing) (held more : List (HeldAttempt H)) → DoesFeeding function options (event.Feed other n count) answer bytes s held t more
      → FollowsTold function next options id told s held → Keeps (event.Feed other n count) answer bytes s t more
  told_feed other n count (reply.Fed fed why) bytes s t held more d f = fed_one other n count fed why bytes s t held more d f
  told_feed other n count answer bytes s t held more d f =
      if_held (FeedsOne count) (event.Feed other n count) other n answer bytes s t held more (fed_held other n count answer bytes s t held (λ fed why e. cc)) d f

  pub told_by : (one : Event H) (answer : Reply) (bytes : Bytes) (s t : Standing) (held more : List (HeldAttempt H)) → ReplaysInLine options → FitsEvent one → Brings function id next one
      → DoesFeeding function options one answer bytes s held t more → FollowsTold function next options id told s held → Keeps one answer bytes s t more
  told_by (event.Invoke one) answer bytes s t held more in_line fits brings d f =
      subst (λ (hs : List (HeldAttempt H)). Keeps (event.Invoke one) answer bytes s t hs) (sym d.1)
      (elsewhere (event.Invoke one) answer bytes s t held (λ m. refl) tt (λ m tracked is added more. tt) (kept_invoke function next options id laws told one answer s t held fits d.0 f))
  told_by (event.Result other n value) answer bytes s t held more in_line fits brings d f =
      subst (λ (hs : List (HeldAttempt H)). Keeps (event.Result other n value) answer bytes s t hs) (sym d.1)
      (elsewhere (event.Result other n value) answer bytes s t held (λ m. refl) tt (λ m tracked is added more. tt) (kept_result function next options id laws told other n value answer s t held fits d.0 f))
  told_by (event.Signal other key value) answer bytes s t held more in_line fits brings d f =
      subst (λ (hs : List (HeldAttempt H)). Keeps (event.Signal other key value) answer bytes s t hs) (sym d.1)
      (elsewhere (event.Signal other key value) answer bytes s t held (λ m. refl) tt (λ m tracked is added more. tt) (kept_signal function next options id laws told other key value answer s t held fits d.0 f))
  told_by (event.Cancel other) answer bytes s t held more in_line fits brings d f =
      subst (λ (hs : List (HeldAttempt H)). Keeps (event.Cancel other) answer bytes s t hs) (sym d.1)
      (elsewhere (event.Cancel other) answer bytes s t held (λ m. refl) tt (λ m tracked is added more. tt) (kept_cancel function next options id laws told other answer s t held d.0 f))
  told_by (event.Tick now) answer bytes s t held more in_line fits brings d f =
      subst (λ (hs : List (HeldAttempt H)). Keeps (event.Tick now) answer bytes s t hs) (sym d.1)
      (elsewhere (event.Tick now) answer bytes s t held (λ m. refl) tt (λ m tracked is added more. tt) (kept_tick function next options id laws told now answer s t held d.0 f))
  told_by (event.Begin other handler now) answer bytes s t held more in_line fits brings d f = begun_one other handler now answer bytes s t held more in_line fits brings d f
  told_by (event.Feed other n count) answer bytes s t held more in_line fits brings d f = told_feed other n count answer bytes s t held more d f
  told_by (event.Close other n) answer bytes s t held more in_line fits brings d f = if_held ClosesOne (event.Close other n) other n answer bytes s t held more (closed_held other n answer bytes s t held) d f
  told_by (event.Turn other n ran) answer bytes s t held more in_line fits brings d f = turned_unless (tells_mismatch ran) other n ran answer bytes s t held more in_line refl d f
  told_by (event.Move other n count) answer bytes s t held more in_line fits brings d f = if_held (MovesOne count) (event.Move other n count) other n answer bytes s t held more (moved_held other n count answer bytes s t held) d f
  told_by (event.Stop other n) answer bytes s t held more in_line fits brings d f = if_held StopsOne (event.Stop other n) other n answer bytes s t held more (stopped_held other n answer bytes s t held) d f

module _ {H : Type 0} (function : H → Handler) (options : VMOptions) where
  -- of a feed that was answered its bytes are known
  pub feeds_by : (one : Event H) (answer : Reply) (s t : Standing) (held more : List (HeldAttempt H)) → Does function options one s held answer t more → (bytes : Bytes) × DoesFeeding function options one answer bytes s held t more
  feeds_by (event.Feed other n count) (reply.Fed fed why) s t held more d = by_held (held_of held other n) refl d
    where
      by_held : (o : Option (HeldAttempt H)) → held_of held other n ≡ o → IfHeld (FeedsOne count) o s held (reply.Fed fed why) t more
          → (bytes : Bytes) × DoesFeeding function options (event.Feed other n count) (reply.Fed fed why) bytes s held t more
      by_held None there d = absurd (let clash : ◌≡◌ {A = Reply} (reply.Fed fed why) (reply.Refused refusal.AttemptNotHeld) = d.0 in cc)
      by_held (Some one) there d = (given_in d.1.0, (one, d.0, d.1.0, there, d.1.1, refl, d.1.2, d.2))
  feeds_by one answer s t held more d = ([], d)
