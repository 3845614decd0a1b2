-- One more accepted event that begins nothing of an invocation, hands it nothing and closes nothing of it keeps it in its run.
use Rattle.std.proofs.Common.{◌≡◌, ℕ, ◌<◌, Bool, true, false, ◌&&◌, ◌||◌, zero-add, List, [], ◌∷◌, ◌++◌, map, Option, Some, None, refl, sym, ap, subst, ◌∙◌}
use Rattle.std.specs.List.{AllByRecursion}
use Rattle.journal_model.specs.declared.invocation.NewInvocation.{NewInvocation}
use Rattle.journal_model.specs.Notification.{Bytes, Text}
use Rattle.journal_model.specs.State.{StateMap}
use Rattle.journal_model.specs.Event.{Event, Frame}
use Rattle.journal_model.specs.Journal.{is_of, begins, invocation_begun}
use Rattle.journal_model.specs.Attempt.{begins_attempt, attempts_begun, ends_live, live_attempt, closes_input, is_input_closed, bytes_asked}
use Rattle.journal_model.specs.Cause.{causes_of, IsAccepted}
use Rattle.journal_model.specs.Run.{Handler, Invocation}
use Rattle.journal_model.specs.Headline.{run_of}
use Rattle.protocol_types.specs.declared.version.Version.{Version}
use Rattle.input_laws.proofs.Events.{begun_same, start_same}
use Rattle.input_laws.proofs.LiveAttempts.{live_now, none_live, closed_now}
use Rattle.live_laws.specs.RequestsInFlight.{FollowsSo, PassesOn}
use Rattle.live_laws.proofs.Keeping.{one_event}
use Rattle.vm_types.specs.Options.{run_options}
use Rattle.vm_types.specs.declared.options.VMOptions.{VMOptions}
use Rattle.vm_attempt_laws.specs.Attempts.{output_of, Attempt}
use Rattle.vm_attempt_laws.specs.OutputOfAttempt.sent
use Rattle.vm_attempt_laws.specs.OutputOfAttempt.{Sent, sent_stream, frame_meant, IsOfStore}
use Rattle.vm_attempt_laws.specs.AttemptSimulation.{Serves}
use Rattle.vm_attempt_laws.specs.TurnReports.{IsFrameTold, Told}
use Rattle.schedule_model.specs.declared.held.HeldAttempt.{HeldAttempt}
use Rattle.schedule_model.specs.HeldAttempts.{held_of}
use Rattle.schedule_model.proofs.Holding.{some_none}
use Rattle.schedule_laws.specs.EventBounds.{AcceptedFits, EventsFit}
use Rattle.schedule_laws.specs.TrackedAttempt.{Tracked, IsServed, Attends, AttendsAs, is_over, lacks_memory, closed_early, is_served, is_left}
use Rattle.schedule_laws.specs.InvocationInRun.{FailsNot, given_of, Flies, FollowsBegun, FollowsWhere, FollowsIn, OutcomesFly, ToldOf}
use Rattle.schedule_laws.proofs.Fits.{may_come}
use Rattle.schedule_laws.proofs.TrackedAttempt.{aside}
use Rattle.schedule_laws.proofs.Outcomes.{fly_on}
use Rattle.schedule_laws.proofs.Serving.{ServingLaws}

-- an event that begins neither the invocation nor an attempt of it, hands it nothing and closes nothing of it
pub record IsPlain (id : Text) (event : Event) : Type 0 where
  pub old : begins id event ≡ false
  pub going : begins_attempt id event ≡ false
  pub asks : bytes_asked id event ≡ None
  pub closes : (is_of id event && closes_input event) ≡ false

module _ {H : Type 0} (function : H → Handler) (next : Handler) (options : VMOptions) (id : Text) (event : Event) (events : List Event) (plain : IsPlain id event)
    (causes : causes_of events event ≡ []) (accepted : IsAccepted events) (fits : AcceptedFits id event) (not_failed : FailsNot id event) (laws : ServingLaws function next options) (told : ToldOf) where
  closed_same : is_input_closed (event ∷ events) id ≡ is_input_closed events id
  closed_same = closed_now event events id plain.going ∙ ap (λ (b : Bool). b || is_input_closed events id) plain.closes

  -- the run is the same
  pub given_same : (new : NewInvocation) → given_of options id events new ≡ given_of options id (event ∷ events) new
  given_same new = ap (λ (start : StateMap). run_of (run_options options) options.fallback_random_seed new start) (sym (start_same event events id plain.old))

  -- the live attempt serves on
  served_on : (new : NewInvocation) (version : Version) (coming left : List Sent) (t : Tracked) (attempt : Attempt H) → EventsFit id events → PassesOn id event (map (frame_meant version) coming) (map (frame_meant version) left)
      → IsServed function next options id events new version coming t attempt → IsServed function next options id (event ∷ events) new version left t attempt
  served_on new version coming left t attempt typed passes s =
      let some = (laws.stays next (run_options options) options.fallback_random_seed id events s.live s.proposed s.bodies.executor accepted s.lives).brings event (map (frame_meant version) left)
      (causes, accepted) plain.old plain.going plain.asks (subst (λ (frames : List Frame). PassesOn id event frames (map (frame_meant version) left)) (sym s.coming_are) passes) in
      record {
        live = record s.live { unread = s.live.unread ++ some.0; coming = map (frame_meant version) left };
        proposed = s.proposed;
        new_is = s.new_is;
        start_is = s.start_is;
        coming_are = refl;
        bodies = record {
          executor = s.bodies.executor;
          lives = laws.replays next (run_options options) options.fallback_random_seed id (event ∷ events) (record s.live { unread = s.live.unread ++ some.0; coming = map (frame_meant version) left }) s.proposed s.bodies.executor (causes, accepted) some.2;
          keeps = s.bodies.keeps;
          behind = s.bodies.behind;
        };
        lives = some.2;
        serves = subst (λ (b : Bool). Serves function next version options (record s.live { unread = s.live.unread ++ some.0; coming = map (frame_meant version) left }) b attempt) (sym closed_same)
            (laws.events version s.live (is_input_closed events id) attempt some.0 (map (frame_meant version) left) s.serves
            (may_come next (run_options options) options.fallback_random_seed id event events (record s.live { unread = s.live.unread ++ some.0; coming = map (frame_meant version) left }) s.live.unread some.0 refl (causes, accepted) (fits, typed) some.2.is_live some.1));
        is_told = record { version = s.is_told.version; bytes = s.is_told.bytes; closed = s.is_told.closed ∙ sym closed_same; answered = s.is_told.answered; outcomes = s.is_told.outcomes };
      }

  -- each that is held stands as it did, while none ends
  attends_on : (new : NewInvocation) (version : Version) (coming left : List Sent) (number : ℕ) (t : Tracked) (attempt : Attempt H) → EventsFit id events
      → PassesOn id event (map (frame_meant version) coming) (map (frame_meant version) left) → live_attempt (event ∷ events) id ≡ live_attempt events id
      → Attends function next options id events new version coming number t attempt → Attends function next options id (event ∷ events) new version left number t attempt
  attends_on new version coming left number t attempt typed passes same (is_over last so over) = is_over last so over
  attends_on new version coming left number t attempt typed passes same (lacks_memory so going lacks) = lacks_memory so going lacks
  attends_on new version coming left number t attempt typed passes same (closed_early so going early closed) = closed_early so going early (λ live. closed_same ∙ closed (sym same ∙ live))
  attends_on new version coming left number t attempt typed passes same (is_served so live s) = is_served so (same ∙ live) (served_on new version coming left t attempt typed passes s)
  attends_on new version coming left number t attempt typed passes same (is_left so not l) = is_left so (λ live. not (sym same ∙ live)) l

  attends_as : (new : NewInvocation) (version : Version) (coming left : List Sent) (number : ℕ) (t : Option Tracked) (attempt : Attempt H) → EventsFit id events
      → PassesOn id event (map (frame_meant version) coming) (map (frame_meant version) left) → live_attempt (event ∷ events) id ≡ live_attempt events id
      → AttendsAs function next options id events new version coming number t attempt → AttendsAs function next options id (event ∷ events) new version left number t attempt
  attends_as new version coming left number None attempt typed passes same at = at
  attends_as new version coming left number (Some t) attempt typed passes same at = attends_on new version coming left number t attempt typed passes same at

  attempts_same : attempts_begun (event ∷ events) id ≡ attempts_begun events id
  attempts_same = rw plain.going (zero-add (attempts_begun events id))

  -- what is on its way, behind the event
  pub record StillFlies (version : Version) (coming : List Sent) (before after : Option Bytes) : Type 0 where
    pub left : List Sent
    pub fit : sent.AllFit version left
    pub of_store : AllByRecursion IsOfStore left
    pub told_frames : (all : Told) → AllByRecursion (IsFrameTold all) (map (frame_meant version) coming) → AllByRecursion (IsFrameTold all) (map (frame_meant version) left)
    pub passes : PassesOn id event (map (frame_meant version) coming) (map (frame_meant version) left)
    pub waits : (now : Bytes) → after ≡ Some now
        → (waited : Bytes) × (before ≡ Some waited) × ((more : Bytes) → waited ++ more ≡ sent_stream version coming → now ++ more ≡ sent_stream version left)

  pub begun_on : (before after : Option Bytes) (held : List (HeldAttempt H)) (new : NewInvocation) (f : FollowsBegun function next options id told events before held new)
      → StillFlies f.version f.coming before after → FollowsBegun function next options id told (event ∷ events) after held new
  begun_on before after held new f g = record {
    version = f.version;
    coming = g.left;
    typed = (fits, f.typed);
    fit = g.fit;
    of_store = g.of_store;
    follows = subst (λ (given : Invocation). FollowsSo next given id (event ∷ events) (map (frame_meant f.version) g.left)) (given_same new)
        (one_event next (given_of options id events new) id event events (map (frame_meant f.version) f.coming) (map (frame_meant f.version) g.left) causes g.passes f.follows);
    outcomes = λ n live. outcomes_by_end (is_of id event && ends_live event) refl n live;
    unfailed = (not_failed, f.unfailed);
    told_frames = λ n t live is. told_by_end (is_of id event && ends_live event) refl n t live is;
    numbered = λ n above. f.numbered n (subst (λ (k : ℕ). k < n) attempts_same above);
    flies = λ n now one live is found. by_end (is_of id event && ends_live event) refl n now one live is found;
    attends = λ n one found. attends_by_end (is_of id event && ends_live event) refl n one (f.attends n one found);
  }
    where
      outcomes_by_end : (b : Bool) → (is_of id event && ends_live event) ≡ b → (n : ℕ) → live_attempt (event ∷ events) id ≡ Some n → OutcomesFly id (event ∷ events) (map (frame_meant f.version) g.left)
      outcomes_by_end true e n live = some_none (sym live ∙ none_live event events id plain.going e)
      outcomes_by_end false e n live =
          let before : live_attempt events id ≡ Some n = sym (live_now event events id plain.going e) ∙ live in
          fly_on next (given_of options id events new) id event events (map (frame_meant f.version) f.coming) (map (frame_meant f.version) g.left) n (causes, accepted) plain.old plain.going g.passes f.follows before
          (f.outcomes n before)

      told_by_end : (b : Bool) → (is_of id event && ends_live event) ≡ b → (n : ℕ) (t : Tracked) → live_attempt (event ∷ events) id ≡ Some n → told n ≡ Some t
          → AllByRecursion (IsFrameTold t.told) (map (frame_meant f.version) g.left)
      told_by_end true e n t live is = some_none (sym live ∙ none_live event events id plain.going e)
      told_by_end false e n t live is = g.told_frames t.told (f.told_frames n t (sym (live_now event events id plain.going e) ∙ live) is)

      by_end : (b : Bool) → (is_of id event && ends_live event) ≡ b → (n : ℕ) (now : Bytes) (one : HeldAttempt H) → live_attempt (event ∷ events) id ≡ Some n → after ≡ Some now → held_of held id n ≡ Some one
          → Flies new f.version g.left now one.attempt
      by_end true e n now one live is found = some_none (sym live ∙ none_live event events id plain.going e)
      by_end false e n now one live is found =
          let w = g.waits now is in
          let F = f.flies n w.0 one (sym (live_now event events id plain.going e) ∙ live) w.1 found in
          record { version_is = F.version_is; bytes = w.2 (output_of one.attempt) F.bytes }

      attends_by_end : (b : Bool) → (is_of id event && ends_live event) ≡ b → (n : ℕ) (one : HeldAttempt H) → AttendsAs function next options id events new f.version f.coming n (told n) one.attempt
          → AttendsAs function next options id (event ∷ events) new f.version g.left n (told n) one.attempt
      attends_by_end true e n one at =
          aside function next options id events (event ∷ events) new f.version f.version f.coming g.left n (told n) one.attempt (λ live. some_none (sym live ∙ none_live event events id plain.going e)) at
      attends_by_end false e n one at = attends_as new f.version f.coming g.left n (told n) one.attempt f.typed g.passes (live_now event events id plain.going e) at

  -- the same of any invocation, where the frames on their way stay
  pub on_their_way : (before after : Option Bytes) (held : List (HeldAttempt H)) (new : NewInvocation) (f : FollowsBegun function next options id told events before held new)
      → ((frames : List Frame) → PassesOn id event frames frames) → ((now : Bytes) → after ≡ Some now → before ≡ Some now) → StillFlies f.version f.coming before after
  on_their_way before after held new f passes same = record {
    left = f.coming;
    fit = f.fit;
    of_store = f.of_store;
    told_frames = λ all frames. frames;
    passes = passes (map (frame_meant f.version) f.coming);
    waits = λ now is. (now, same now is, λ more e. e);
  }

  -- the same where the invocation was not begun
  pub where_with : (before after : Option Bytes) (held : List (HeldAttempt H))
      → ((new : NewInvocation) (f : FollowsBegun function next options id told events before held new) → StillFlies f.version f.coming before after)
      → FollowsIn function next options id told events before held → FollowsIn function next options id told (event ∷ events) after held
  where_with before after held goes f =
      subst (λ (o : Option NewInvocation). FollowsWhere function next options id told (event ∷ events) after held o) (sym (begun_same event events id plain.old)) (by_begun (invocation_begun events id) f)
    where
      by_begun : (o : Option NewInvocation) → FollowsWhere function next options id told events before held o → FollowsWhere function next options id told (event ∷ events) after held o
      by_begun None f = f
      by_begun (Some new) f = begun_on before after held new f (goes new f)

  pub where_on : (before after : Option Bytes) (held : List (HeldAttempt H)) → ((frames : List Frame) → PassesOn id event frames frames) → ((now : Bytes) → after ≡ Some now → before ≡ Some now)
      → FollowsIn function next options id told events before held → FollowsIn function next options id told (event ∷ events) after held
  where_on before after held passes same f = where_with before after held (λ new f. on_their_way before after held new f passes same) f
