-- What waits of each attempt of an invocation to be moved, behind one more event.
use Rattle.std.proofs.Common.{◌≡◌, ℕ, ◌==◌, eqb-true, Bool, true, false, ◌&&◌, List, [], ◌∷◌, length, min, take, drop, Option, Some, None, bytes_eq, refl, sym, ap, subst, ◌∙◌, inl, inr}
use Rattle.std.proofs.lemmas.Bool.{and_parts}
use Rattle.std.proofs.lemmas.Slice.Eq.{bytes_eq-Decides}
use Rattle.due_laws.proofs.InputParts.{part_is_taken}
use Rattle.journal_model.specs.declared.invocation.NewInvocation.{NewInvocation}
use Rattle.journal_model.specs.Notification.{Bytes, Text}
use Rattle.journal_model.specs.Event.{Event as ModelEvent}
use Rattle.journal_model.specs.Journal.{invocation_begun}
use Rattle.journal_model.specs.Attempt.{live_attempt, input_left}
use Rattle.journal_model.specs.Cause.{IsAccepted}
use Rattle.journal_model.specs.Run.{Handler}
use Rattle.live_laws.specs.StartFrame.{AttemptStart}
use Rattle.store_refusals.specs.declared.refusal.Refusal.{Refusal}
use Rattle.store_calls.specs.AbstractStore.{Standing, Adds}
use Rattle.store_calls.specs.Calls.{BeginsStoredAttempt}
use Rattle.vm_types.specs.declared.options.VMOptions.{VMOptions}
use Rattle.vm_attempt_laws.specs.TurnReports.{Told}
use Rattle.schedule_model.specs.declared.event.EventRefusal.{EventRefusal}
use Rattle.schedule_model.specs.Schedule.{HoldsBegun}
use Rattle.schedule_model.proofs.Firsts.{first_of_other, first_push_some}
use Rattle.schedule_model.proofs.Holding.{some_is}
use Rattle.schedule_laws.specs.Attempts.{Feeds, ClosesInput, output_of, Turns, Attempt}
use Rattle.vm_attempt_laws.specs.Bodies.{RunOutcome}
use Rattle.schedule_laws.specs.InvocationInRun.{ReplaysInLine, FollowsBegun, FollowsWhere, FollowsTold, ToldOf}
use Rattle.schedule_laws.specs.Laws.{DoesFeeding, KeepsWaiting}
use Rattle.schedule_laws.specs.Schedules.event
use Rattle.schedule_laws.specs.Schedules.refusal
use Rattle.schedule_laws.specs.Schedules.reply
use Rattle.schedule_laws.specs.Schedules.{Event, Reply, HeldAttempt, with_first, is_held, held_of, with_attempt, BeginDoes, IfHeld, UnlessMismatch, tells_mismatch, HandsOutEach, FeedsEach, FeedsOne, ClosesOne, StopsOne, TurnsOne, MovesOne, Brings, FitsEvent}
use Rattle.schedule_laws.specs.TrackedAttempt.{Tracked, Attends}
use Rattle.schedule_laws.specs.WrittenFrames.{BeginsUnwritten, is_at_attempt, LeavesHeld, MovesBytes, WaitsBehind}
use Rattle.schedule_laws.proofs.Acting.{fed_wrote}
use Rattle.schedule_laws.proofs.Beginning.{unwritten_own}
use Rattle.schedule_laws.proofs.Keeping.{closed_live, handed_live, handed_open, some_waits}
use Rattle.schedule_laws.proofs.Replying.{parts_own}
use Rattle.schedule_laws.proofs.Schedules.{some_none, found_is, held_is, held_with}
use Rattle.schedule_laws.proofs.Serving.{ServingLaws}
use Rattle.schedule_laws.proofs.TrackedAttempt.{told_of}
use Rattle.schedule_laws.proofs.Written.{closed_leaves, turned_leaves}

module _ {H : Type 0} (function : H → Handler) (next : Handler) (options : VMOptions) (id : Text) (laws : ServingLaws function next options) where
  -- an attempt that is held, by what was told of it
  record StandsAs (told : ToldOf) (s : Standing) (held : List (HeldAttempt H)) (n : ℕ) (t : Tracked) (one : HeldAttempt H) : Type 0 where
    new : NewInvocation
    follows : FollowsBegun function next options id told s.events (s.outputs id) held new
    attends : Attends function next options id s.events new follows.version follows.coming n t one.attempt

  stands_as : (told : ToldOf) (s : Standing) (held : List (HeldAttempt H)) (n : ℕ) (t : Tracked) (one : HeldAttempt H) → told n ≡ Some t → held_of held id n ≡ Some one
      → FollowsTold function next options id told s held → StandsAs told s held n t one
  stands_as told s held n t one is there f = by_begun (invocation_begun s.events id) f
    where
      by_begun : (o : Option NewInvocation) → FollowsWhere function next options id told s.events (s.outputs id) held o → StandsAs told s held n t one
      by_begun None f = some_none (sym there ∙ (f n).0)
      by_begun (Some new) f =
          let (t0, so, at) = told_of function next options id told s.events new f.version f.coming n one.attempt (told n) refl (f.attends n one there) in
          record { new = new; follows = f; attends = subst (λ (k : Tracked). Attends function next options id s.events new f.version f.coming n k one.attempt) (some_is t0 t (sym so ∙ is)) at }

  -- ---- its input comes

  fed_one : (told : ToldOf) (s t : Standing) (held : List (HeldAttempt H)) (n : ℕ) (tracked : Tracked) (one : HeldAttempt H) (given : Bytes) (changed : Attempt H) → told n ≡ Some tracked → held_of held id n ≡ Some one
      → given ≡ take (length given) (input_left s.events id) → Adds (ModelEvent.Feed id n (length given)) s t → Feeds given one.attempt changed → FollowsTold function next options id told s held
      → output_of changed ≡ output_of one.attempt
  fed_one told s t held n tracked one given changed is there given_are adds feeds f =
      let accepted : IsAccepted (ModelEvent.Feed id n (length given) ∷ s.events) = subst IsAccepted adds.events t.accepted in
      let live = handed_live s.events id n (length given) accepted.0 in
      let waits = some_waits (s.outputs id) (live_attempt s.events id) n (s.live id) live in
      let stands = stands_as told s held n tracked one is there f in
      fed_wrote function next options id laws told s.events (s.outputs id) held stands.new n one waits.0 live waits.1 there stands.follows tracked is stands.attends (length given) given changed accepted
      (handed_open s.events id n (length given) accepted.0) given_are feeds

  fed_parts : (told : ToldOf) (count : ℕ) (parts : List Bytes) (s t : Standing) (held : List (HeldAttempt H)) (n : ℕ) (tracked : Tracked) (one : HeldAttempt H) (changed : Attempt H) → one.number ≡ n → told n ≡ Some tracked
      → held_of held id n ≡ Some one → HandsOutEach id n count parts s t → FeedsEach parts one.attempt changed → FollowsTold function next options id told s held → output_of changed ≡ output_of one.attempt
  fed_parts told count [] s t held n tracked one changed number is there hands feeds f = ap (λ (a : Attempt H). output_of a) feeds
  fed_parts told count (last ∷ earlier) s t held n tracked one changed number is there hands feeds f =
      let first = parts_own function next options id laws told n count earlier one feeds.0 s hands.0 held number there hands.1 feeds.1 f in
      let between : HeldAttempt H = record one { attempt = feeds.0 } in
      let now = first.own tracked is in
      fed_one first.again hands.0 t (with_first (is_held id n) held between) n (record { start = tracked.start; told = now.0 }) between last changed now.1 (held_with id n held one between there refl refl)
      (part_is_taken (input_left hands.0.events id) last _ hands.3.0) hands.3.1 feeds.2 first.follows
      ∙ fed_parts told count earlier s hands.0 held n tracked one feeds.0 number is there hands.1 feeds.1 f

  -- ---- what is done with an attempt that is held

  -- where an event is refused nothing has changed
  not_done : (b : Bool) (start : AttemptStart) (one : Event H) (why : EventRefusal) (moved : Bytes) (t : Told) (waits : Bytes) → WaitsBehind next start b one (reply.Refused why) moved t waits waits
  not_done false start one why moved t waits = refl
  not_done true start (event.Turn other n ran) why moved t waits = refl
  not_done true start (event.Close other n) why moved t waits = refl
  not_done true start (event.Move other n count) why moved t waits = refl
  not_done true start one why moved t waits = refl

  module _ (said : Event H) (other : Text) (k : ℕ) (answer : Reply) (moved : Bytes) (held more : List (HeldAttempt H)) (n : ℕ) (t : Tracked) (before : HeldAttempt H) (there : held_of held id n ≡ Some before)
      (apart : (bytes_eq other id && (k == n)) ≡ false → is_at_attempt id n said ≡ false) where
    abbrev Waits : Attempt H → Type 0
    Waits attempt = WaitsBehind next t.start (is_at_attempt id n said) said answer moved t.told (output_of before.attempt) (output_of attempt)

    abbrev After : Type 0
    After = (after : HeldAttempt H) × (held_of more id n ≡ Some after) × Waits after.attempt

    -- one that is named is this one, or another
    held_changed : (one : HeldAttempt H) (changed : Attempt H) → held_of held other k ≡ Some one → more ≡ with_attempt held one changed
        → ((bytes_eq other id && (k == n)) ≡ true → one.invocation ≡ id → one.number ≡ n → one ≡ before → Waits changed) → After
    held_changed one changed found more_is own = by_name (bytes_eq other id && (k == n)) refl
      where
        names : (one.invocation ≡ other) × (one.number ≡ k)
        names = held_is other k one (found_is other k held one found)

        after : HeldAttempt H
        after = record one { attempt = changed }

        by_name : (b : Bool) → (bytes_eq other id && (k == n)) ≡ b → After
        by_name true e =
            let parts = and_parts (bytes_eq other id) (k == n) e in
            let same_id : other ≡ id = (bytes_eq-Decides other id).0 parts.0 in
            let same_number : k ≡ n = eqb-true k n parts.1 in
            let own_id : one.invocation ≡ id = names.0 ∙ same_id in
            let own_number : one.number ≡ n = names.1 ∙ same_number in
            let same : one ≡ before = some_is one before (sym found ∙ ap (λ (x : Text). held_of held x k) same_id ∙ ap (λ (m : ℕ). held_of held id m) same_number ∙ there) in (
              after,
              ap (λ (hs : List (HeldAttempt H)). held_of hs id n) more_is ∙ ap (λ (x : Text). held_of (with_first (is_held x one.number) held after) id n) own_id
                  ∙ ap (λ (m : ℕ). held_of (with_first (is_held id m) held after) id n) own_number
                  ∙ held_with id n held before after there (ap (λ (h : HeldAttempt H). h.invocation) same) (ap (λ (h : HeldAttempt H). h.number) same),
              own e own_id own_number same,
            )
        by_name false e =
            let far : (bytes_eq one.invocation id && (one.number == n)) ≡ false =
            ap (λ (x : Text). bytes_eq x id && (one.number == n)) names.0 ∙ ap (λ (m : ℕ). bytes_eq other id && (m == n)) names.1 ∙ e in
            let beside : (z : HeldAttempt H) → z.invocation ≡ one.invocation → z.number ≡ one.number → is_held id n z ≡ false =
            λ z p q. ap (λ (x : Text). bytes_eq x id && (z.number == n)) p ∙ ap (λ (m : ℕ). bytes_eq one.invocation id && (m == n)) q ∙ far in (
              before,
              ap (λ (hs : List (HeldAttempt H)). held_of hs id n) more_is
                  ∙ first_of_other (is_held one.invocation one.number) (is_held id n) (λ z e. let is = held_is one.invocation one.number z e in beside z is.0 is.1) held after (beside after refl refl)
                  ∙ there,
              subst (λ (b : Bool). WaitsBehind next t.start b said answer moved t.told (output_of before.attempt) (output_of before.attempt)) (sym (apart e)) refl,
            )

    if_held : (Change : HeldAttempt H → Standing → Reply → Standing → Attempt H → Type 0) (s u : Standing)
        → ((one : HeldAttempt H) (changed : Attempt H) → (bytes_eq other id && (k == n)) ≡ true → one.invocation ≡ id → one.number ≡ n → one ≡ before → Change one s answer u changed → Waits changed)
        → IfHeld Change (held_of held other k) s held answer u more → After
    if_held Change s u own does = by_held (held_of held other k) refl does
      where
        by_held : (o : Option (HeldAttempt H)) → held_of held other k ≡ o → IfHeld Change o s held answer u more → After
        by_held None is it = (
          before,
          ap (λ (hs : List (HeldAttempt H)). held_of hs id n) it.2 ∙ there,
          subst (λ (r : Reply). WaitsBehind next t.start (is_at_attempt id n said) said r moved t.told (output_of before.attempt) (output_of before.attempt)) (sym it.0)
              (not_done (is_at_attempt id n said) t.start said refusal.AttemptNotHeld moved t.told (output_of before.attempt)),
        )
        by_held (Some one) is it = held_changed one it.0 is it.2 (λ e own_id own_number same. own one it.0 e own_id own_number same it.1)

  -- ---- each event

  module _ (told : ToldOf) (s u : Standing) (held more : List (HeldAttempt H)) (n : ℕ) (t : Tracked) (is : told n ≡ Some t) (f : FollowsTold function next options id told s held) where
    abbrev Leaves : Event H → Reply → Bytes → Type 0
    Leaves one answer moved = LeavesHeld next id n t.start t.told one answer moved held more

    -- those that are held stay
    stays : more ≡ held → (before : HeldAttempt H) → held_of held id n ≡ Some before → (after : HeldAttempt H) × (held_of more id n ≡ Some after) × (output_of after.attempt ≡ output_of before.attempt)
    stays same before there = (before, ap (λ (hs : List (HeldAttempt H)). held_of hs id n) same ∙ there, refl)

    fed_leaves : (other : Text) (k count : ℕ) (answer : Reply) (bytes moved : Bytes) → DoesFeeding function options (event.Feed other k count) answer bytes s held u more → Leaves (event.Feed other k count) answer moved
    fed_leaves other k count (reply.Fed fed why) bytes moved d before there =
        held_changed (event.Feed other k count) other k (reply.Fed fed why) moved held more n t before there (λ e. refl) d.0 d.1 d.3 d.7
        (λ e own_id own_number same.
        subst (λ (h : HeldAttempt H). output_of d.1 ≡ output_of h.attempt) same
        (fed_parts told count d.2 s d.6.0 held n t d.0 d.1 own_number is (there ∙ ap (λ (h : HeldAttempt H). Some h) (sym same))
        (subst (λ (x : Text). HandsOutEach x n count d.2 s d.6.0) own_id (subst (λ (m : ℕ). HandsOutEach d.0.invocation m count d.2 s d.6.0) own_number d.6.1)) d.6.2 f))
    fed_leaves other k count answer bytes moved d before there =
        if_held (event.Feed other k count) other k answer moved held more n t before there (λ e. refl) (FeedsOne count) s u (λ one changed e own_id own_number same does. refused answer (λ fed why e. cc) one changed same does) d
      where
        refused : (said : Reply) → ((fed : ℕ) (why : Option Refusal) → said ≡ reply.Fed fed why → ⊥) → (one : HeldAttempt H) (changed : Attempt H) → one ≡ before → FeedsOne count one s said u changed
            → output_of changed ≡ output_of before.attempt
        refused (reply.Refused (refusal.Store why)) never one changed same does = ap (λ (a : Attempt H). output_of a) does.1 ∙ ap (λ (h : HeldAttempt H). output_of h.attempt) same
        refused (reply.Fed fed why) never one changed same does = absurd (never fed why refl)
        refused said never one changed same does = absurd does

    closed_held : (other : Text) (k : ℕ) (answer : Reply) (moved : Bytes) → IfHeld ClosesOne (held_of held other k) s held answer u more → Leaves (event.Close other k) answer moved
    closed_held other k answer moved d before there =
        if_held (event.Close other k) other k answer moved held more n t before there (λ e. e) ClosesOne s u
        (λ one changed e own_id own_number same does.
        subst (λ (b : Bool). WaitsBehind {H = H} next t.start b (event.Close other k) answer moved t.told (output_of before.attempt) (output_of changed)) (sym e) (by_reply answer one changed own_id own_number same does)) d
      where
        by_reply : (said : Reply) (one : HeldAttempt H) (changed : Attempt H) → one.invocation ≡ id → one.number ≡ n → one ≡ before → ClosesOne one s said u changed
            → WaitsBehind {H = H} next t.start true (event.Close other k) said moved t.told (output_of before.attempt) (output_of changed)
        by_reply reply.Done one changed own_id own_number same does =
            let accepted : IsAccepted (ModelEvent.Close id n ∷ s.events) =
            subst IsAccepted (does.0.events ∙ ap (λ (x : Text). ModelEvent.Close x one.number ∷ s.events) own_id ∙ ap (λ (m : ℕ). ModelEvent.Close id m ∷ s.events) own_number) u.accepted in
            let stands = stands_as told s held n t before is there f in
            closed_leaves function next options id laws s.events stands.new stands.follows.version stands.follows.coming n t before.attempt changed (subst (λ (h : HeldAttempt H). ClosesInput h.attempt changed) same does.1)
            (closed_live s.events id n accepted.0) stands.attends
        by_reply (reply.Refused (refusal.Store why)) one changed own_id own_number same does = ap (λ (a : Attempt H). output_of a) does.1 ∙ ap (λ (h : HeldAttempt H). output_of h.attempt) same
        by_reply said one changed own_id own_number same does = absurd does

    turned_held : (other : Text) (k : ℕ) (ran : RunOutcome) (answer : Reply) (moved : Bytes) → ReplaysInLine options → IfHeld (TurnsOne function ran) (held_of held other k) s held answer u more
        → Leaves (event.Turn other k ran) answer moved
    turned_held other k ran answer moved in_line d before there =
        if_held (event.Turn other k ran) other k answer moved held more n t before there (λ e. e) (TurnsOne function ran) s u
        (λ one changed e own_id own_number same does.
        subst (λ (b : Bool). WaitsBehind {H = H} next t.start b (event.Turn other k ran) answer moved t.told (output_of before.attempt) (output_of changed)) (sym e) (by_reply answer one changed same does)) d
      where
        by_reply : (said : Reply) (one : HeldAttempt H) (changed : Attempt H) → one ≡ before → TurnsOne function ran one s said u changed
            → WaitsBehind {H = H} next t.start true (event.Turn other k ran) said moved t.told (output_of before.attempt) (output_of changed)
        by_reply (reply.Turned turn) one changed same does =
            let stands = stands_as told s held n t before is there f in
            turned_leaves function next options id laws s.events stands.new stands.follows.version stands.follows.coming n t before.attempt changed ran turn in_line
            (subst (λ (h : HeldAttempt H). Turns function ran h.attempt turn changed) same does.0) stands.attends
        by_reply said one changed same does = absurd does

    turned_unless : (is_mismatch : Bool) (other : Text) (k : ℕ) (ran : RunOutcome) (answer : Reply) (moved : Bytes) → ReplaysInLine options
        → UnlessMismatch is_mismatch (TurnsOne function ran) (held_of held other k) s held answer u more → Leaves (event.Turn other k ran) answer moved
    turned_unless true other k ran answer moved in_line d before there = (
      before,
      ap (λ (hs : List (HeldAttempt H)). held_of hs id n) d.2 ∙ there,
      subst (λ (r : Reply). WaitsBehind {H = H} next t.start (bytes_eq other id && (k == n)) (event.Turn other k ran) r moved t.told (output_of before.attempt) (output_of before.attempt)) (sym d.0)
          (not_done (bytes_eq other id && (k == n)) t.start (event.Turn other k ran) refusal.JournalMismatchOutcome moved t.told (output_of before.attempt)),
    )
    turned_unless false other k ran answer moved in_line d before there = turned_held other k ran answer moved in_line d before there

    moved_held : (other : Text) (k count : ℕ) (answer : Reply) (moved : Bytes) → MovesBytes (event.Move other k count) answer moved held → IfHeld (MovesOne count) (held_of held other k) s held answer u more
        → Leaves (event.Move other k count) answer moved
    moved_held other k count answer moved goes d before there =
        if_held (event.Move other k count) other k answer moved held more n t before there (λ e. e) (MovesOne count) s u
        (λ one changed e own_id own_number same does.
        subst (λ (b : Bool). WaitsBehind {H = H} next t.start b (event.Move other k count) answer moved t.told (output_of before.attempt) (output_of changed)) (sym e) (by_reply answer one changed e same goes does)) d
      where
        by_reply : (said : Reply) (one : HeldAttempt H) (changed : Attempt H) → (bytes_eq other id && (k == n)) ≡ true → one ≡ before → MovesBytes (event.Move other k count) said moved held → MovesOne count one s said u changed
            → WaitsBehind {H = H} next t.start true (event.Move other k count) said moved t.told (output_of before.attempt) (output_of changed)
        by_reply (reply.Moved bytes frames why) one changed e same goes does =
            let parts = and_parts (bytes_eq other id) (k == n) e in
            let found : held_of held other k ≡ Some before =
            ap (λ (x : Text). held_of held x k) ((bytes_eq-Decides other id).0 parts.0) ∙ ap (λ (m : ℕ). held_of held id m) (eqb-true k n parts.1) ∙ there in
            let named : goes.0 ≡ before = some_is goes.0 before (sym goes.1 ∙ found) in (
              does.2 ∙ ap (λ (h : HeldAttempt H). min count (length (output_of h.attempt))) same,
              goes.2 ∙ ap (λ (h : HeldAttempt H). take bytes (output_of h.attempt)) named,
              does.4.rest ∙ ap (λ (h : HeldAttempt H). drop bytes (output_of h.attempt)) same,
            )
        by_reply (reply.Refused (refusal.Store why)) one changed e same goes does = does.1.same ∙ ap (λ (h : HeldAttempt H). output_of h.attempt) same
        by_reply said one changed e same goes does = absurd does

    stopped_held : (other : Text) (k : ℕ) (answer : Reply) (moved : Bytes) → IfHeld StopsOne (held_of held other k) s held answer u more → Leaves (event.Stop other k) answer moved
    stopped_held other k answer moved d before there =
        if_held (event.Stop other k) other k answer moved held more n t before there (λ e. refl) StopsOne s u
        (λ one changed e own_id own_number same does. ap (λ (a : Attempt H). output_of a) does.1 ∙ ap (λ (h : HeldAttempt H). output_of h.attempt) same) d

    begun_held : (other : Text) (handler : H) (now : ℕ) (answer : Reply) (moved : Bytes) → BeginDoes options other handler now s held answer u more → Leaves (event.Begin other handler now) answer moved
    begun_held other handler now (reply.Begun number) moved d before there =
        let one : HeldAttempt H = record { invocation = other; number = d.0.number; attempt = d.3.attempt } in
        (before, ap (λ (hs : List (HeldAttempt H)). held_of hs id n) d.3.held ∙ first_push_some (is_held id n) held before one there, refl)
    begun_held other handler now (reply.Refused (refusal.Store why)) moved (inl refused) before there = stays refused.1 before there
    begun_held other handler now (reply.Refused (refusal.Store why)) moved (inr begun) before there = stays begun.3 before there
    begun_held other handler now answer moved d before there = absurd d

    leaves_by : (one : Event H) (answer : Reply) (bytes moved : Bytes) → ReplaysInLine options → DoesFeeding function options one answer bytes s held u more → MovesBytes one answer moved held → Leaves one answer moved
    leaves_by (event.Invoke one) answer bytes moved in_line d goes before there = stays d.1 before there
    leaves_by (event.Result other k value) answer bytes moved in_line d goes before there = stays d.1 before there
    leaves_by (event.Signal other key value) answer bytes moved in_line d goes before there = stays d.1 before there
    leaves_by (event.Cancel other) answer bytes moved in_line d goes before there = stays d.1 before there
    leaves_by (event.Tick now) answer bytes moved in_line d goes before there = stays d.1 before there
    leaves_by (event.Begin other handler now) answer bytes moved in_line d goes before there = begun_held other handler now answer moved d before there
    leaves_by (event.Feed other k count) answer bytes moved in_line d goes before there = fed_leaves other k count answer bytes moved d before there
    leaves_by (event.Close other k) answer bytes moved in_line d goes before there = closed_held other k answer moved d before there
    leaves_by (event.Turn other k ran) answer bytes moved in_line d goes before there = turned_unless (tells_mismatch ran) other k ran answer moved in_line d before there
    leaves_by (event.Move other k count) answer bytes moved in_line d goes before there = moved_held other k count answer moved goes d before there
    leaves_by (event.Stop other k) answer bytes moved in_line d goes before there = stopped_held other k answer moved d before there

  -- nothing waits of one that is begun
  begins_by : (told : ToldOf) (one : Event H) (answer : Reply) (bytes : Bytes) (s u : Standing) (held more : List (HeldAttempt H)) → ReplaysInLine options → FitsEvent one → Brings function id next one
      → DoesFeeding function options one answer bytes s held u more → FollowsTold function next options id told s held → BeginsUnwritten id one answer more
  begins_by told (event.Begin other handler now) (reply.Begun number) bytes s u held more in_line fits brings d f = λ same.
      let own : BeginsStoredAttempt id now d.0 s u = subst (λ (x : Text). BeginsStoredAttempt x now d.0 s u) same d.2 in
      let holds : HoldsBegun options id handler d.0 held more = subst (λ (x : Text). HoldsBegun options x handler d.0 held more) same d.3 in
      let it = unwritten_own function next options id laws told now fits d.0 s u held f handler more in_line (brings same) own holds in
      (it.0, ap (λ (m : ℕ). held_of more id m) d.1 ∙ it.1, it.2)
  begins_by told one answer bytes s u held more in_line fits brings d f = tt

  pub waits_by : (told : ToldOf) (one : Event H) (answer : Reply) (bytes moved : Bytes) (s u : Standing) (held more : List (HeldAttempt H)) → ReplaysInLine options → FitsEvent one → Brings function id next one
      → DoesFeeding function options one answer bytes s held u more → MovesBytes one answer moved held → FollowsTold function next options id told s held → KeepsWaiting function next id one answer moved held more told
  waits_by told one answer bytes moved s u held more in_line fits brings d goes f = record {
    leaves = λ n t is. leaves_by told s u held more n t is f one answer bytes moved in_line d goes;
    begins = begins_by told one answer bytes s u held more in_line fits brings d f;
  }
