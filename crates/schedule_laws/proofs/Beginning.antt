-- An invocation that is made, and an attempt that is begun, are in the run from then on.
use Rattle.std.proofs.Common.{◌≡◌, ◌≢◌, ℕ, suc, ◌+◌, ◌<◌, ◌^◌, ◌==◌, nat_lt, eqb-true, eq-eqb, Bool, true, false, true≢false, arith, List, [], ◌∷◌, ◌++◌, map, append-nil, Option, Some, None, is_some, bytes_eq, refl, sym, ap, subst, ◌∙◌, ◌⊎◌, inl, inr}
use Rattle.std.proofs.lemmas.Bool.{ltb-false, ltb-true}
use Rattle.std.proofs.lemmas.Slice.Eq.{bytes_eq-Decides}
use Rattle.journal_model.specs.declared.invocation.NewInvocation.{NewInvocation}
use Rattle.journal_model.specs.Notification.{Bytes, Text}
use Rattle.journal_model.specs.State.{StateMap}
use Rattle.journal_model.specs.Event.{Event, Frame}
use Rattle.journal_model.specs.Journal.{invocation_begun, starting_state, version_of}
use Rattle.journal_model.specs.Attempt.{attempts_begun, live_attempt, is_input_closed}
use Rattle.journal_model.specs.Cause.{IsAccepted}
use Rattle.journal_model.specs.Run.{Handler, Invocation}
use Rattle.journal_model.specs.Headline.{run_of}
use Rattle.protocol_types.specs.Version.{version_number}
use Rattle.protocol_types.specs.declared.version.Version.{Version}
use Rattle.protocol_types.specs.declared.version.Version.TheVariants as versions_are
use Rattle.input_laws.proofs.Events.{itself, not_begun, start_same}
use Rattle.input_laws.proofs.Handed.{begun_is}
use Rattle.live_laws.specs.RequestsInFlight.{FollowsSo}
use Rattle.live_laws.proofs.Keeping.{one_event}
use Rattle.live_laws.proofs.Schedules.{begins_of_run}
use Rattle.live_laws.specs.StartFrame.{AttemptStart, start_after}
use Rattle.live_laws.specs.AttemptWithMachine.{attempt_begun}
use Rattle.vm_types.specs.Options.{run_options}
use Rattle.vm_types.specs.declared.options.VMOptions.{VMOptions}
use Rattle.vm_attempt_laws.specs.Attempts.{Feeds, output_of}
use Rattle.vm_attempt_laws.specs.InputOfAttempt.{IsRunOf}
use Rattle.vm_attempt_laws.specs.OutputOfAttempt.{frame_meant}
use Rattle.replay_laws.specs.AttemptWithBodies.{IsLiveExecutor}
use Rattle.vm_attempt_laws.specs.Bodies.{executor_over}
use Rattle.vm_attempt_laws.specs.AttemptInvariants.{LacksMemory, HasNoBodies, attempt_started}
use Rattle.vm_attempt_laws.specs.AttemptSimulation.{HasBodies, HasNotRead, HasRead, Serves}
use Rattle.vm_attempt_laws.specs.TurnsInRun.{turns_answered}
use Rattle.vm_attempt_laws.specs.Words.{machine_at_start, CarriesInput, Input, InputMessage}
use Rattle.store_calls.specs.declared.begun.BegunAttempt.{BegunAttempt}
use Rattle.store_calls.specs.AbstractStore.{Standing, Adds}
use Rattle.store_calls.specs.Calls.{BeginsStoredAttempt}
use Rattle.schedule_model.specs.Attempts.{has_stopped}
use Rattle.schedule_model.specs.declared.held.HeldAttempt.{HeldAttempt}
use Rattle.schedule_model.specs.HeldAttempts.{is_held, held_of}
use Rattle.schedule_model.specs.Schedule.{HoldsBegun}
use Rattle.schedule_model.proofs.Firsts.{first_push_none, first_push_other}
use Rattle.schedule_model.proofs.Holding.{some_is, some_none, is_held_by, not_held_number, not_held_invocation}
use Rattle.schedule_model.specs.ArgumentBounds.{InvocationFits}
use Rattle.schedule_laws.specs.TrackedAttempt.{Tracked, IsServed, Attends, AttendsAs, is_served}
use Rattle.schedule_laws.specs.InvocationInRun.{ReplaysInLine, HoldsOf, given_of, Flies, FollowsBegun, FollowsWhere, FollowsTold, Follows, ToldOf}
use Rattle.schedule_laws.specs.TurnReplies.{attempt_start_of, told_start}
use Rattle.schedule_laws.proofs.Fits.{apart, unborn_fits}
use Rattle.schedule_laws.specs.FittingLaws.{CanStart, IsFedWell}
use Rattle.schedule_laws.proofs.Beginnings.{can_start, fed_begun}
use Rattle.schedule_laws.proofs.TrackedAttempt.{aside, none_told, told_at, told_other, with_told}
use Rattle.schedule_laws.proofs.InvocationInRun.{same_held}
use Rattle.schedule_laws.proofs.Others.{into, other_on}
use Rattle.schedule_laws.proofs.Outcomes.{none_fly}
use Rattle.schedule_laws.proofs.Serving.{ServingLaws}
use Rattle.schedule_laws.proofs.Taking.{version_begun}
use Rattle.schedule_laws.proofs.Unfailed.{unborn_unfailed}

begun_some : (o : Option NewInvocation) → is_some o ≡ true → (new : NewInvocation) × (o ≡ Some new)
begun_some (Some new) is = (new, refl)
begun_some None is = absurd (true≢false (sym is))

module _ {H : Type 0} (function : H → Handler) (next : Handler) (options : VMOptions) (id : Text) where
  -- ---- where nothing is held

  -- of none was anything told
  pub holds_told : (s : Standing) → HoldsOf next options id s.events → FollowsTold function next options id none_told s []
  holds_told s holds = by_begun (invocation_begun s.events id) refl
    where
      by_begun : (o : Option NewInvocation) → invocation_begun s.events id ≡ o → FollowsWhere function next options id none_told s.events (s.outputs id) [] o
      by_begun None is = λ number. (refl, refl)
      by_begun (Some new) is =
          let h = holds new is in record {
            version = versions_are.V8;
            coming = [];
            typed = h.fit;
            fit = tt;
            of_store = tt;
            follows = record { accepted = s.accepted; holds = h.holds; flies = λ attempt live. tt };
            outcomes = λ number live. none_fly id s.events;
            unfailed = h.unfailed;
            told_frames = λ number t live is_told. tt;
            numbered = λ number above. (refl, refl);
            flies = λ number waits one live is_out found. some_none (sym found);
            attends = λ number one found. some_none (sym found);
          }

  pub holds_follows : (s : Standing) → HoldsOf next options id s.events → Follows function next options id s []
  holds_follows s holds = (none_told, holds_told s holds)

  pub follows_holds : (s : Standing) (held : List (HeldAttempt H)) → Follows function next options id s held → HoldsOf next options id s.events
  follows_holds s held f new is =
      let g : FollowsBegun function next options id f.0 s.events (s.outputs id) held new =
      subst (λ (o : Option NewInvocation). FollowsWhere function next options id f.0 s.events (s.outputs id) held o) is f.1 in
      record { fit = g.typed; holds = g.follows.holds; unfailed = g.unfailed }

  -- ---- an invocation is made

  made_own : (told : ToldOf) (one : NewInvocation) (s t : Standing) (held : List (HeldAttempt H)) → InvocationFits one → bytes_eq one.id id ≡ true → Adds (Event.Invoke one) s t
      → FollowsTold function next options id told s held → FollowsTold function next options id told t held
  made_own told one s t held fits e adds f =
      into function next options id told t (Event.Invoke one ∷ s.events) (s.outputs id) held adds.events (adds.outputs id)
      (subst (λ (o : Option NewInvocation). FollowsWhere function next options id told (Event.Invoke one ∷ s.events) (s.outputs id) held o) (sym begun_now) (record {
        version = versions_are.V8;
        coming = [];
        typed = (λ same. fits, unborn_fits id s.events s.accepted unborn);
        fit = tt;
        of_store = tt;
        follows = begins_of_run next (given_of options id (Event.Invoke one ∷ s.events) one) id (Event.Invoke one) s.events accepted e;
        outcomes = λ number live. none_fly id (Event.Invoke one ∷ s.events);
        unfailed = (tt, unborn_unfailed id s.events s.accepted unborn);
        told_frames = λ number t live is_told. tt;
        numbered = λ number above. unheld number;
        flies = λ number waits other live is_out found. some_none (sym found ∙ (unheld number).0);
        attends = λ number other found. some_none (sym found ∙ (unheld number).0);
      }))
    where
      accepted : IsAccepted (Event.Invoke one ∷ s.events)
      accepted = subst IsAccepted adds.events t.accepted

      unborn : invocation_begun s.events id ≡ None
      unborn = not_begun (Event.Invoke one) s.events id accepted e

      begun_now : invocation_begun (Event.Invoke one ∷ s.events) id ≡ Some one
      begun_now = rw e refl

      unheld : (number : ℕ) → (held_of held id number ≡ None) × (told number ≡ None)
      unheld = subst (λ (o : Option NewInvocation). FollowsWhere function next options id told s.events (s.outputs id) held o) unborn f

  module _ (laws : ServingLaws function next options) (told : ToldOf) where
    pub made : (one : NewInvocation) (s t : Standing) (held : List (HeldAttempt H)) → InvocationFits one → Adds (Event.Invoke one) s t
        → FollowsTold function next options id told s held → FollowsTold function next options id told t held
    made one s t held fits adds f = by_id (bytes_eq one.id id) refl
      where
        by_id : (b : Bool) → bytes_eq one.id id ≡ b → FollowsTold function next options id told t held
        by_id true e = made_own told one s t held fits e adds f
        by_id false e = other_on function next options id told laws (Event.Invoke one) s t held e adds.events (adds.outputs id) f

    -- ---- an attempt is begun

    module _ (now : ℕ) (moment : now < 2 ^ 64) (s : Standing) (new : NewInvocation) (is : invocation_begun s.events id ≡ Some new) (accepted : IsAccepted (Event.Begin id now ∷ s.events)) where
      abbrev beginning : Event
      beginning = Event.Begin id now

      one_more : attempts_begun (beginning ∷ s.events) id ≡ suc (attempts_begun s.events id)
      one_more = rw (itself id) (omega arith)

      live_now : live_attempt (beginning ∷ s.events) id ≡ Some (attempts_begun (beginning ∷ s.events) id)
      live_now = rw (itself id) refl

      opened_now : is_input_closed (beginning ∷ s.events) id ≡ false
      opened_now = rw (itself id) refl

      given_then : given_of options id s.events new ≡ given_of options id (beginning ∷ s.events) new
      given_then = ap (λ (start : StateMap). run_of (run_options options) options.fallback_random_seed new start) (sym (start_same beginning s.events id refl))

      -- frames of an earlier attempt are spoken of no more
      follows_anew : (coming : List Frame) → FollowsSo next (given_of options id s.events new) id s.events coming → FollowsSo next (given_of options id (beginning ∷ s.events) new) id (beginning ∷ s.events) []
      follows_anew coming f =
          subst (λ (run : Invocation). FollowsSo next run id (beginning ∷ s.events) []) given_then
          (one_event next (given_of options id s.events new) id beginning s.events coming [] accepted.0 (λ same. refl, λ far. absurd (true≢false (sym (itself id) ∙ far))) f)

      abbrev start : AttemptStart
      start = start_after (run_options options) options.fallback_random_seed s.events id now new

      -- nothing is on its way of it
      begun_anew : (again : ToldOf) (version : Version) (output : Option Bytes) (held more : List (HeldAttempt H)) → FollowsBegun function next options id told s.events (s.outputs id) held new
          → ((m : ℕ) → attempts_begun (beginning ∷ s.events) id < m → (held_of more id m ≡ None) × (again m ≡ None))
          → ((m : ℕ) (waits : Bytes) (one : HeldAttempt H) → live_attempt (beginning ∷ s.events) id ≡ Some m → output ≡ Some waits → held_of more id m ≡ Some one → Flies new version [] waits one.attempt)
          → ((m : ℕ) (one : HeldAttempt H) → held_of more id m ≡ Some one → AttendsAs function next options id (beginning ∷ s.events) new version [] m (again m) one.attempt)
          → FollowsBegun function next options id again (beginning ∷ s.events) output more new
      begun_anew again version output held more f numbered flies attends = record {
        version = version;
        coming = [];
        typed = (λ same. moment, f.typed);
        fit = tt;
        of_store = tt;
        follows = follows_anew (map (frame_meant f.version) f.coming) f.follows;
        outcomes = λ m live. none_fly id (beginning ∷ s.events);
        unfailed = (tt, f.unfailed);
        told_frames = λ m t live is_told. tt;
        numbered = numbered;
        flies = flies;
        attends = attends;
      }

      -- attempts that were begun before are not live
      not_live : (m : ℕ) → m < attempts_begun (beginning ∷ s.events) id → live_attempt (beginning ∷ s.events) id ≢ Some m
      not_live m below live = let same : attempts_begun (beginning ∷ s.events) id ≡ m = some_is (attempts_begun (beginning ∷ s.events) id) m (sym live_now ∙ live) in absurd (omega (arith, same, below))

      held_below : (output : Option Bytes) (held : List (HeldAttempt H)) → FollowsBegun function next options id told s.events output held new → (m : ℕ) (one : HeldAttempt H) → held_of held id m ≡ Some one
          → m < attempts_begun (beginning ∷ s.events) id
      held_below output held f m one there = by_order (nat_lt (attempts_begun s.events id) m) refl
        where
          by_order : (b : Bool) → nat_lt (attempts_begun s.events id) m ≡ b → m < attempts_begun (beginning ∷ s.events) id
          by_order true e = some_none (sym there ∙ (f.numbered m (ltb-true (attempts_begun s.events id) m e)).0)
          by_order false e = let within = ltb-false (attempts_begun s.events id) m e in omega (arith, one_more, within)

      -- each that was held before stands as it did, and is not live
      left_attends : (version : Version) (held : List (HeldAttempt H)) (f : FollowsBegun function next options id told s.events (s.outputs id) held new) (m : ℕ) (one : HeldAttempt H) → held_of held id m ≡ Some one
          → AttendsAs function next options id (beginning ∷ s.events) new version [] m (told m) one.attempt
      left_attends version held f m one there =
          aside function next options id s.events (beginning ∷ s.events) new f.version version f.coming [] m (told m) one.attempt (not_live m (held_below (s.outputs id) held f m one there)) (f.attends m one there)

      -- the attempt could not be held
      pub begun_alone : (output : Option Bytes) (held : List (HeldAttempt H)) → FollowsBegun function next options id told s.events (s.outputs id) held new
          → FollowsBegun function next options id told (beginning ∷ s.events) output held new
      begun_alone output held f =
          begun_anew told f.version output held held f (λ m above. f.numbered m (omega (arith, one_more)))
          (λ m waits one live is_out found.
          let same : attempts_begun (beginning ∷ s.events) id ≡ m = some_is (attempts_begun (beginning ∷ s.events) id) m (sym live_now ∙ live) in
          some_none (sym found ∙ (f.numbered m (omega (arith, one_more, same))).0))
          (left_attends f.version held f)

      module _ (handler : H) (answer : BegunAttempt) (held more : List (HeldAttempt H)) (in_line : ReplaysInLine options) (brings : function handler ≡ next)
          (number_is : answer.number ≡ 1 + attempts_begun s.events id) (speaks : version_number answer.version ≡ version_of s.events id) (frame_is : answer.start ≡ start.frame)
          (h : HoldsBegun options id handler answer held more) (f : FollowsBegun function next options id told s.events (s.outputs id) held new) where
        speaks_version : new.version ≡ version_number answer.version
        speaks_version = sym (version_begun s.events id new is) ∙ sym speaks

        lives_first : IsLiveExecutor next (run_options options) options.fallback_random_seed id (beginning ∷ s.events) (attempt_begun start) [] (executor_over (machine_at_start start.shown [] []))
        lives_first = laws.live_begins next (run_options options) options.fallback_random_seed id now s.events new accepted is f.follows.holds

        starts : CanStart start
        starts = can_start next (run_options options) options.fallback_random_seed id now s.events new accepted is f.typed moment lives_first.is_live.begun

        is_run : IsRunOf start answer.version options
        is_run = record { state = starting_state s.events id; given_is = refl; version_is = speaks_version; replays = in_line.replays }

        fed_well : IsFedWell start
        fed_well = fed_begun (run_options options) options.fallback_random_seed id now s.events new accepted is f.typed

        abbrev ServesFirst : Type 0
        ServesFirst = Serves function next answer.version options (attempt_started start) false h.attempt × HasNoBodies function next answer.version options start h.attempt

        has_begun : (output_of h.attempt ≡ []) × (ServesFirst ⊎ LacksMemory h.attempt)
        has_begun =
            laws.begins answer.version start starts.shows handler h.fresh.made h.attempt brings is_run starts.can
            fed_well
            h.fresh.begun (subst (λ (bytes : Bytes). Feeds bytes h.fresh.made h.attempt) frame_is h.fresh.fed)

        lives_started : IsLiveExecutor next (run_options options) options.fallback_random_seed id (beginning ∷ s.events) (attempt_started start) [] (executor_over (machine_at_start start.shown [] []))
        lives_started =
            (laws.stays next (run_options options) options.fallback_random_seed id (beginning ∷ s.events) (attempt_begun start) [] (executor_over (machine_at_start start.shown [] [])) accepted lives_first).reads_start
            (sym (append-nil start.frame))

        bodies_first : HasNoBodies function next answer.version options start h.attempt → HasBodies next (attempt_started start) [] h.attempt
        bodies_first none =
            none (laws.replays next (run_options options) options.fallback_random_seed id (beginning ∷ s.events) (attempt_started start) [] (executor_over (machine_at_start start.shown [] [])) accepted lives_started)

        abbrev begun_tracked : Tracked
        begun_tracked = record { start = start; told = told_start start }

        abbrev again : ToldOf
        again = with_told told answer.number begun_tracked

        number_last : attempts_begun (beginning ∷ s.events) id ≡ answer.number
        number_last = omega (arith, one_more, number_is)

        -- nothing was read, so the handler was given nothing
        unread_input : HasNotRead function next answer.version options (attempt_started start) false h.attempt ⊎ HasRead function next answer.version options (attempt_started start) h.attempt → h.attempt.input ≡ None
        unread_input (inl n) = n.input
        unread_input (inr r) = absurd (let none : ◌≡◌ {A = List InputMessage} [] (CarriesInput start.new ∷ (start.journal ++ r.journal.later)) = r.journal.parts in cc)

        begun_served : ServesFirst → IsServed function next options id (beginning ∷ s.events) new answer.version [] begun_tracked h.attempt
        begun_served serves = record {
          live = attempt_started start;
          proposed = [];
          new_is = refl;
          start_is = refl;
          coming_are = refl;
          bodies = bodies_first serves.1;
          lives = (laws.lives next (run_options options) options.fallback_random_seed id (beginning ∷ s.events) (attempt_started start) [] (executor_over (machine_at_start start.shown [] [])) accepted lives_started).again
              (bodies_first serves.1).executor (bodies_first serves.1).lives;
          serves = subst (λ (b : Bool). Serves function next answer.version options (attempt_started start) b h.attempt) (sym opened_now) serves.0;
          is_told = record {
            version = refl;
            bytes = sym (append-nil start.frame);
            closed = sym opened_now;
            answered = sym (ap (λ (input : Option Input). turns_answered input 0) (unread_input serves.0.stands));
            outcomes = refl;
          };
        }

        -- one that was refused memory is not held
        begun_attends : ServesFirst ⊎ LacksMemory h.attempt → Attends function next options id (beginning ∷ s.events) new answer.version [] answer.number begun_tracked h.attempt
        begun_attends (inl serves) = is_served refl (live_now ∙ ap (λ (m : ℕ). Some m) number_last) (begun_served serves)
        begun_attends (inr lacks) = absurd (true≢false (sym (ap has_stopped lacks) ∙ h.goes_on))

        abbrev new_held : HeldAttempt H
        new_held = record { invocation = id; number = answer.number; attempt = h.attempt }

        begun_flies : Flies new answer.version [] [] h.attempt
        begun_flies = record { version_is = speaks_version; bytes = has_begun.0 }

        none_before : held_of held id answer.number ≡ None
        none_before = (f.numbered answer.number (omega (arith, number_is))).0

        here : held_of (held ++ new_held ∷ []) id answer.number ≡ Some new_held
        here = first_push_none (is_held id answer.number) held new_held none_before ∙ rw (is_held_by id answer.number new_held refl refl) refl

        others : (m : ℕ) → m ≢ answer.number → held_of (held ++ new_held ∷ []) id m ≡ held_of held id m
        others m far = first_push_other (is_held id m) held new_held (not_held_number id m new_held (λ e. far (sym e)))

        begun_each : (m : ℕ) (one : HeldAttempt H) → held_of (held ++ new_held ∷ []) id m ≡ Some one → AttendsAs function next options id (beginning ∷ s.events) new answer.version [] m (again m) one.attempt
        begun_each m one found = by_number (m == answer.number) refl
          where
            by_number : (b : Bool) → (m == answer.number) ≡ b → AttendsAs function next options id (beginning ∷ s.events) new answer.version [] m (again m) one.attempt
            by_number true e =
                let same : m ≡ answer.number = eqb-true m answer.number e in
                let it : new_held ≡ one = some_is new_held one (sym here ∙ ap (λ (k : ℕ). held_of (held ++ new_held ∷ []) id k) (sym same) ∙ found) in
                subst (λ (k : ℕ). AttendsAs function next options id (beginning ∷ s.events) new answer.version [] k (again k) one.attempt) (sym same)
                (subst (λ (t : Option Tracked). AttendsAs function next options id (beginning ∷ s.events) new answer.version [] answer.number t one.attempt) (sym (told_at told answer.number begun_tracked))
                (subst (λ (k : HeldAttempt H). Attends function next options id (beginning ∷ s.events) new answer.version [] answer.number begun_tracked k.attempt) it (begun_attends has_begun.1)))
            by_number false e =
                let far : m ≢ answer.number = λ same. true≢false (sym (eq-eqb m answer.number same) ∙ e) in
                subst (λ (t : Option Tracked). AttendsAs function next options id (beginning ∷ s.events) new answer.version [] m t one.attempt) (sym (told_other told answer.number begun_tracked m far))
                (left_attends answer.version held f m one (sym (others m far) ∙ found))

        begun_with : FollowsBegun function next options id again (beginning ∷ s.events) (Some []) (held ++ new_held ∷ []) new
        begun_with =
            begun_anew again answer.version (Some []) held (held ++ new_held ∷ []) f
            (λ m above.
            let far : m ≢ answer.number = λ e. absurd (omega (arith, one_more, number_is, e, above)) in
            let none = f.numbered m (omega (arith, one_more, above)) in
            (others m far ∙ none.0, told_other told answer.number begun_tracked m far ∙ none.1))
            (λ m waits one live is_out found.
            let same : attempts_begun (beginning ∷ s.events) id ≡ m = some_is (attempts_begun (beginning ∷ s.events) id) m (sym live_now ∙ live) in
            let own : answer.number ≡ m = sym number_last ∙ same in
            let it : new_held ≡ one = some_is new_held one (sym here ∙ ap (λ (k : ℕ). held_of (held ++ new_held ∷ []) id k) own ∙ found) in
            let empty : [] ≡ waits = some_is [] waits is_out in
            subst (λ (k : HeldAttempt H). Flies new answer.version [] waits k.attempt) it
            (subst (λ (b : Bytes). Flies new answer.version [] b h.attempt) empty begun_flies))
            begun_each

        -- nothing of it waits
        pub begun_unwritten : (one : HeldAttempt H) × (held_of more id answer.number ≡ Some one) × (output_of one.attempt ≡ [])
        begun_unwritten = (new_held, ap (λ (some : List (HeldAttempt H)). held_of some id answer.number) h.held ∙ here, has_begun.0)

        pub begun_held : FollowsBegun function next options id again (beginning ∷ s.events) (Some []) more new
        begun_held = subst (λ (some : List (HeldAttempt H)). FollowsBegun function next options id again (beginning ∷ s.events) (Some []) some new) (sym h.held) begun_with

    -- ---- whatever invocation it is of

    module _ (now : ℕ) (moment : now < 2 ^ 64) (answer : BegunAttempt) (s t : Standing) (held : List (HeldAttempt H)) (f : FollowsTold function next options id told s held) where
      own_accepted : BeginsStoredAttempt id now answer s t → IsAccepted (Event.Begin id now ∷ s.events)
      own_accepted b = subst IsAccepted b.leaves.events t.accepted

      own_begun : BeginsStoredAttempt id now answer s t → (new : NewInvocation) × (invocation_begun s.events id ≡ Some new)
      own_begun b = begun_some (invocation_begun s.events id) (begun_is s.events (Event.Begin id now) id (itself id) (own_accepted b).0)

      follows_own : (new : NewInvocation) → invocation_begun s.events id ≡ Some new → FollowsBegun function next options id told s.events (s.outputs id) held new
      follows_own new is = subst (λ (o : Option NewInvocation). FollowsWhere function next options id told s.events (s.outputs id) held o) is f

      into_own : (again : ToldOf) (more : List (HeldAttempt H)) (new : NewInvocation) → invocation_begun s.events id ≡ Some new → BeginsStoredAttempt id now answer s t
          → FollowsBegun function next options id again (Event.Begin id now ∷ s.events) (Some []) more new → FollowsTold function next options id again t more
      into_own again more new is b g =
          into function next options id again t (Event.Begin id now ∷ s.events) (Some []) more b.leaves.events b.leaves.own
          (subst (λ (o : Option NewInvocation). FollowsWhere function next options id again (Event.Begin id now ∷ s.events) (Some []) more o) (sym is) g)

      pub unheld_own : BeginsStoredAttempt id now answer s t → FollowsTold function next options id told t held
      unheld_own b =
          let (new, is) = own_begun b in
          into_own told held new is b (begun_alone now moment s new is (own_accepted b) (Some []) held (follows_own new is))

      -- it was told of the attempt that it was handed its start frame
      pub held_own : (handler : H) (more : List (HeldAttempt H)) → ReplaysInLine options → function handler ≡ next → BeginsStoredAttempt id now answer s t → HoldsBegun options id handler answer held more
          → (new : NewInvocation) → invocation_begun s.events id ≡ Some new
          → FollowsTold function next options id (with_told told answer.number (record { start = attempt_start_of options id s.events now new; told = told_start (attempt_start_of options id s.events now new) })) t more
      held_own handler more in_line brings b h new is =
          into_own (with_told told answer.number (record { start = attempt_start_of options id s.events now new; told = told_start (attempt_start_of options id s.events now new) })) more new is b
          (begun_held now moment s new is (own_accepted b) handler answer held more in_line brings b.number b.version b.start h (follows_own new is))

      pub unwritten_own : (handler : H) (more : List (HeldAttempt H)) → ReplaysInLine options → function handler ≡ next → BeginsStoredAttempt id now answer s t → HoldsBegun options id handler answer held more
          → (one : HeldAttempt H) × (held_of more id answer.number ≡ Some one) × (output_of one.attempt ≡ [])
      unwritten_own handler more in_line brings b h =
          let (new, is) = own_begun b in
          begun_unwritten now moment s new is (own_accepted b) handler answer held more in_line brings b.number b.version b.start h (follows_own new is)

    pub unheld : (other : Text) (now : ℕ) (answer : BegunAttempt) (s t : Standing) (held : List (HeldAttempt H)) → now < 2 ^ 64 → BeginsStoredAttempt other now answer s t
        → FollowsTold function next options id told s held → FollowsTold function next options id told t held
    unheld other now answer s t held moment b f = by_id (bytes_eq other id) refl
      where
        by_id : (x : Bool) → bytes_eq other id ≡ x → FollowsTold function next options id told t held
        by_id true e = unheld_own now moment answer s t held f (subst (λ (x : Text). BeginsStoredAttempt x now answer s t) ((bytes_eq-Decides other id).0 e) b)
        by_id false e = other_on function next options id told laws (Event.Begin other now) s t held e b.leaves.events (b.leaves.others id e) f

    -- what is told where an attempt is begun, and held: of this invocation, or of another one
    pub record BegunNow (other : Text) (number : ℕ) (now : ℕ) (s t : Standing) (more : List (HeldAttempt H)) : Type 0 where
      pub again : ToldOf
      pub follows : FollowsTold function next options id again t more
      pub same : (m : ℕ) (tracked : Tracked) → told m ≡ Some tracked → again m ≡ Some tracked
      pub own : other ≡ id → (new : NewInvocation) → invocation_begun s.events id ≡ Some new
          → again number ≡ Some (record { start = attempt_start_of options id s.events now new; told = told_start (attempt_start_of options id s.events now new) })

    pub begun : (other : Text) (handler : H) (now : ℕ) (answer : BegunAttempt) (s t : Standing) (held more : List (HeldAttempt H)) → now < 2 ^ 64 → ReplaysInLine options
        → (other ≡ id → function handler ≡ next) → BeginsStoredAttempt other now answer s t → HoldsBegun options other handler answer held more
        → FollowsTold function next options id told s held → BegunNow other answer.number now s t more
    begun other handler now answer s t held more moment in_line brings b h f = by_id (bytes_eq other id) refl
      where
        by_id : (x : Bool) → bytes_eq other id ≡ x → BegunNow other answer.number now s t more
        by_id true e =
            let same : other ≡ id = (bytes_eq-Decides other id).0 e in
            let own : BeginsStoredAttempt id now answer s t = subst (λ (x : Text). BeginsStoredAttempt x now answer s t) same b in
            let (new, is) = own_begun now moment answer s t held f own in
            let none : told answer.number ≡ None = (
            (subst (λ (o : Option NewInvocation). FollowsWhere function next options id told s.events (s.outputs id) held o) is f).numbered answer.number (let number = own.number in omega (arith, number))
            ).1 in
            record {
              again = with_told told answer.number (record { start = attempt_start_of options id s.events now new; told = told_start (attempt_start_of options id s.events now new) });
              follows = held_own now moment answer s t held f handler more in_line (brings same) own (subst (λ (x : Text). HoldsBegun options x handler answer held more) same h) new is;
              same = λ m tracked is_told.
                  told_other told answer.number (record { start = attempt_start_of options id s.events now new; told = told_start (attempt_start_of options id s.events now new) }) m
                  (λ it. some_none (sym is_told ∙ ap told it ∙ none)) ∙ is_told;
              own = λ here other_new other_is.
                  told_at told answer.number (record { start = attempt_start_of options id s.events now new; told = told_start (attempt_start_of options id s.events now new) })
                  ∙ ap (λ (one : NewInvocation). Some (record { start = attempt_start_of options id s.events now one; told = told_start (attempt_start_of options id s.events now one) })) (some_is new other_new (sym is ∙ other_is));
            }
        by_id false e =
            let one : HeldAttempt H = record { invocation = other; number = answer.number; attempt = h.attempt } in
            record {
              again = told;
              follows = same_held function next options id told t.events (t.outputs id) held more (invocation_begun t.events id)
                  (λ m. ap (λ (hs : List (HeldAttempt H)). held_of hs id m) h.held ∙ first_push_other (is_held id m) held one (not_held_invocation id m one (apart other id e)))
                  (other_on function next options id told laws (Event.Begin other now) s t held e b.leaves.events (b.leaves.others id e) f);
              same = λ m tracked is_told. is_told;
              own = λ here. absurd (apart other id e here);
            }
