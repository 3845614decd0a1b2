-- How an invocation in its run may change: what is held, and its live attempt.
use Rattle.std.proofs.Common.{◌≡◌, ◌≢◌, ℕ, ◌<◌, ◌==◌, Bool, true, false, true≢false, List, ◌++◌, map, Option, Some, None, refl, sym, ap, subst, ◌∙◌, eq-eqb, eqb-true}
use Rattle.std.specs.List.{AllByRecursion}
use Rattle.journal_model.specs.declared.invocation.NewInvocation.{NewInvocation}
use Rattle.journal_model.specs.Notification.{Bytes, Text}
use Rattle.journal_model.specs.Event.{Event}
use Rattle.journal_model.specs.Attempt.{attempts_begun, live_attempt}
use Rattle.journal_model.specs.Run.{Handler}
use Rattle.protocol_types.specs.declared.version.Version.{Version}
use Rattle.live_laws.specs.RequestsInFlight.{FollowsSo}
use Rattle.vm_attempt_laws.specs.Attempts.{output_of}
use Rattle.vm_attempt_laws.specs.OutputOfAttempt.sent
use Rattle.vm_attempt_laws.specs.OutputOfAttempt.{Sent, frame_meant, IsOfStore}
use Rattle.vm_attempt_laws.specs.TurnReports.{IsFrameTold}
use Rattle.vm_types.specs.declared.options.VMOptions.{VMOptions}
use Rattle.schedule_model.specs.declared.held.HeldAttempt.{HeldAttempt}
use Rattle.schedule_model.specs.First.{with_first}
use Rattle.schedule_model.specs.HeldAttempts.{is_held, held_of}
use Rattle.schedule_model.proofs.Holding.{some_is, some_none, held_with, held_other_number}
use Rattle.schedule_laws.specs.EventBounds.{EventsFit}
use Rattle.schedule_laws.specs.TrackedAttempt.{Tracked, Attends, AttendsAs}
use Rattle.schedule_laws.specs.InvocationInRun.{FailsNot, given_of, Flies, FollowsBegun, FollowsWhere, OutcomesFly, ToldOf}
use Rattle.schedule_laws.proofs.TrackedAttempt.{aside, told_at, told_of, told_other, with_told}
use Rattle.schedule_laws.proofs.Unfailed.{frames_further, IsFurther}

module _ {H : Type 0} (function : H → Handler) (next : Handler) (options : VMOptions) (id : Text) where
  pub same_held : (told : ToldOf) (events : List Event) (output : Option Bytes) (held more : List (HeldAttempt H)) (new : Option NewInvocation) → ((n : ℕ) → held_of more id n ≡ held_of held id n)
      → FollowsWhere function next options id told events output held new → FollowsWhere function next options id told events output more new
  same_held told events output held more None same f = λ n. (same n ∙ (f n).0, (f n).1)
  same_held told events output held more (Some new) same f = record {
    version = f.version;
    coming = f.coming;
    typed = f.typed;
    fit = f.fit;
    of_store = f.of_store;
    follows = f.follows;
    outcomes = f.outcomes;
    unfailed = f.unfailed;
    told_frames = f.told_frames;
    numbered = λ n above. (same n ∙ (f.numbered n above).0, (f.numbered n above).1);
    flies = λ n waits one live is found. f.flies n waits one live is (sym (same n) ∙ found);
    attends = λ n one found. f.attends n one (sym (same n) ∙ found);
  }

  module _ (told : ToldOf) (events : List Event) (held : List (HeldAttempt H)) (new : NewInvocation) where
    -- the live attempt, and its frames on their way
    pub record IsFlown (number : ℕ) (output : Option Bytes) (waits : Bytes) (now : Tracked) (one : HeldAttempt H) : Type 0 where
      pub version : Version
      pub coming : List Sent
      pub fit : sent.AllFit version coming
      pub of_store : AllByRecursion IsOfStore coming
      pub follows : FollowsSo next (given_of options id events new) id events (map (frame_meant version) coming)
      pub outcomes : OutcomesFly id events (map (frame_meant version) coming)
      pub output_is : output ≡ Some waits
      pub told_frames : AllByRecursion (IsFrameTold now.told) (map (frame_meant version) coming)
      pub flies : Flies new version coming waits one.attempt
      pub attends : Attends function next options id events new version coming number now one.attempt

    -- what was on its way still is
    pub flown_still : (before : List Event) (was : Option Bytes) (f : FollowsBegun function next options id told before was held new) (number : ℕ) (output : Option Bytes) (waits : Bytes) (now : Tracked) (one : HeldAttempt H)
        → FollowsSo next (given_of options id events new) id events (map (frame_meant f.version) f.coming) → OutcomesFly id events (map (frame_meant f.version) f.coming) → output ≡ Some waits
        → AllByRecursion (IsFrameTold now.told) (map (frame_meant f.version) f.coming) → Flies new f.version f.coming waits one.attempt
        → Attends function next options id events new f.version f.coming number now one.attempt → IsFlown number output waits now one
    flown_still before was f number output waits now one follows outcomes output_is told_frames flies attends = record {
      version = f.version;
      coming = f.coming;
      fit = f.fit;
      of_store = f.of_store;
      follows = follows;
      outcomes = outcomes;
      output_is = output_is;
      told_frames = told_frames;
      flies = flies;
      attends = attends;
    }

    -- one that is held has changed, the live one or not, and what was told of it
    module _ (number : ℕ) (h g : HeldAttempt H) (now : Tracked) (found : held_of held id number ≡ Some h) (invocation : g.invocation ≡ h.invocation) (same_number : g.number ≡ h.number) where
      abbrev more : List (HeldAttempt H)
      more = with_first (is_held id number) held g

      others : (n : ℕ) → n ≢ number → held_of more id n ≡ held_of held id n
      others n far = held_other_number id number n held h g found same_number far

      here : held_of more id number ≡ Some g
      here = held_with id number held h g found invocation same_number

      numbered_still : ((n : ℕ) → attempts_begun events id < n → (held_of held id n ≡ None) × (told n ≡ None)) → (n : ℕ) → attempts_begun events id < n
          → (held_of more id n ≡ None) × (with_told told number now n ≡ None)
      numbered_still numbered n above =
          let none = numbered n above in
          let far : n ≢ number = λ e. some_none (sym found ∙ ap (λ (m : ℕ). held_of held id m) (sym e) ∙ none.0) in
          (others n far ∙ none.0, told_other told number now n far ∙ none.1)

      -- each that is held stands as it was told
      each_attends : (version : Version) (coming : List Sent) → Attends function next options id events new version coming number now g.attempt
          → ((n : ℕ) (one : HeldAttempt H) → n ≢ number → held_of held id n ≡ Some one → AttendsAs function next options id events new version coming n (told n) one.attempt)
          → (n : ℕ) (one : HeldAttempt H) → held_of more id n ≡ Some one → AttendsAs function next options id events new version coming n (with_told told number now n) one.attempt
      each_attends version coming own others_attend n one there = by_number (n == number) refl
        where
          by_number : (b : Bool) → (n == number) ≡ b → AttendsAs function next options id events new version coming n (with_told told number now n) one.attempt
          by_number true e =
              let same : n ≡ number = eqb-true n number e in
              let it_is : g ≡ one = some_is g one (sym here ∙ ap (λ (m : ℕ). held_of more id m) (sym same) ∙ there) in
              subst (λ (m : ℕ). AttendsAs function next options id events new version coming m (with_told told number now m) one.attempt) (sym same)
              (subst (λ (t : Option Tracked). AttendsAs function next options id events new version coming number t one.attempt) (sym (told_at told number now))
              (subst (λ (k : HeldAttempt H). Attends function next options id events new version coming number now k.attempt) it_is own))
          by_number false e =
              let far : n ≢ number = λ same. true≢false (sym (eq-eqb n number same) ∙ e) in
              subst (λ (t : Option Tracked). AttendsAs function next options id events new version coming n t one.attempt) (sym (told_other told number now n far))
              (others_attend n one far (sym (others n far) ∙ there))

      -- the live one has changed, or an event came that is done with it
      pub flown : (before : List Event) (was : Option Bytes) (f : FollowsBegun function next options id told before was held new) (output : Option Bytes) (waits : Bytes) → EventsFit id events → AllByRecursion (FailsNot id) events
          → ((n : ℕ) → attempts_begun events id < n → (held_of held id n ≡ None) × (told n ≡ None)) → live_attempt events id ≡ Some number → IsFlown number output waits now g
          → FollowsBegun function next options id (with_told told number now) events output more new
      flown before was f output waits typed unfailed numbered live it = record {
        version = it.version;
        coming = it.coming;
        typed = typed;
        fit = it.fit;
        of_store = it.of_store;
        follows = it.follows;
        outcomes = λ n live_is. it.outcomes;
        unfailed = unfailed;
        told_frames = λ n t live' is.
            let same : number ≡ n = some_is number n (sym live ∙ live') in
            let it_is : now ≡ t = some_is now t (sym (told_at told number now) ∙ ap (with_told told number now) same ∙ is) in
            subst (λ (k : Tracked). AllByRecursion (IsFrameTold k.told) (map (frame_meant it.version) it.coming)) it_is it.told_frames;
        numbered = numbered_still numbered;
        flies = λ n again one live' is there.
            let same : number ≡ n = some_is number n (sym live ∙ live') in
            let it_is : g ≡ one = some_is g one (sym here ∙ ap (λ (m : ℕ). held_of more id m) same ∙ there) in
            let waits_is : waits ≡ again = some_is waits again (sym it.output_is ∙ is) in
            subst (λ (k : HeldAttempt H). Flies new it.version it.coming again k.attempt) it_is
            (subst (λ (b : Bytes). Flies new it.version it.coming b g.attempt) waits_is it.flies);
        attends = each_attends it.version it.coming it.attends
            (λ n one far there. aside function next options id before events new f.version it.version f.coming it.coming n (told n) one.attempt (λ now_live. far (some_is n number (sym now_live ∙ live)))
            (f.attends n one there));
      }

      -- one that is not live has changed
      pub beside : (output : Option Bytes) → live_attempt events id ≢ Some number → (f : FollowsBegun function next options id told events output held new)
          → Attends function next options id events new f.version f.coming number now g.attempt → FollowsBegun function next options id (with_told told number now) events output more new
      beside output not_live f own = record {
        version = f.version;
        coming = f.coming;
        typed = f.typed;
        fit = f.fit;
        of_store = f.of_store;
        follows = f.follows;
        outcomes = f.outcomes;
        unfailed = f.unfailed;
        told_frames = λ n t live is. f.told_frames n t live (sym (told_other told number now n (λ same. not_live (live ∙ ap (λ (m : ℕ). Some m) same))) ∙ is);
        numbered = numbered_still f.numbered;
        flies = λ n waits one live is there. f.flies n waits one live is (sym (others n (λ same. not_live (live ∙ ap (λ (m : ℕ). Some m) same))) ∙ there);
        attends = each_attends f.version f.coming own (λ n one far there. f.attends n one there);
      }

      -- one that is held has changed, live or not, and has written nothing more
      pub quiet_changed : (output : Option Bytes) (f : FollowsBegun function next options id told events output held new) → output_of g.attempt ≡ output_of h.attempt
          → ((t : Tracked) → told number ≡ Some t → IsFurther t.told now.told) → Attends function next options id events new f.version f.coming number now g.attempt → FollowsBegun function next options id (with_told told number now) events output more new
      quiet_changed output f wrote further own = record {
        version = f.version;
        coming = f.coming;
        typed = f.typed;
        fit = f.fit;
        of_store = f.of_store;
        follows = f.follows;
        outcomes = f.outcomes;
        unfailed = f.unfailed;
        told_frames = λ n t live is. told_by_number n t live is (n == number) refl;
        numbered = numbered_still f.numbered;
        flies = λ n waits one live is there. by_number n waits one live is there (n == number) refl;
        attends = each_attends f.version f.coming own (λ n one far there. f.attends n one there);
      }
        where
          told_by_number : (n : ℕ) (t : Tracked) → live_attempt events id ≡ Some n → with_told told number now n ≡ Some t → (b : Bool) → (n == number) ≡ b
              → AllByRecursion (IsFrameTold t.told) (map (frame_meant f.version) f.coming)
          told_by_number n t live is true e =
              let same : n ≡ number = eqb-true n number e in
              let it_is : now ≡ t = some_is now t (sym (told_at told number now) ∙ ap (with_told told number now) (sym same) ∙ is) in
              let was = told_of function next options id told events new f.version f.coming number h.attempt (told number) refl (f.attends number h found) in
              subst (λ (k : Tracked). AllByRecursion (IsFrameTold k.told) (map (frame_meant f.version) f.coming)) it_is
              (frames_further was.0.told now.told (further was.0 was.1) (map (frame_meant f.version) f.coming) (f.told_frames n was.0 live (ap told same ∙ was.1)))
          told_by_number n t live is false e = f.told_frames n t live (sym (told_other told number now n (λ same. true≢false (sym (eq-eqb n number same) ∙ e))) ∙ is)

          by_number : (n : ℕ) (waits : Bytes) (one : HeldAttempt H) → live_attempt events id ≡ Some n → output ≡ Some waits → held_of more id n ≡ Some one → (b : Bool) → (n == number) ≡ b
              → Flies new f.version f.coming waits one.attempt
          by_number n waits one live is there true e =
              let same : n ≡ number = eqb-true n number e in
              let it_is : g ≡ one = some_is g one (sym here ∙ ap (λ (m : ℕ). held_of more id m) (sym same) ∙ there) in
              let before : Flies new f.version f.coming waits h.attempt = f.flies n waits h live is (ap (λ (m : ℕ). held_of held id m) same ∙ found) in
              subst (λ (k : HeldAttempt H). Flies new f.version f.coming waits k.attempt) it_is
              (record { version_is = before.version_is; bytes = ap (λ (bytes : Bytes). waits ++ bytes) wrote ∙ before.bytes })
          by_number n waits one live is there false e = f.flies n waits one live is (sym (others n (λ same. true≢false (sym (eq-eqb n number same) ∙ e))) ∙ there)

  -- what was told is the same
  pub retold : (told again : ToldOf) (events : List Event) (output : Option Bytes) (held : List (HeldAttempt H)) (new : NewInvocation) → ((n : ℕ) → again n ≡ told n)
      → FollowsBegun function next options id told events output held new → FollowsBegun function next options id again events output held new
  retold told again events output held new same f = record {
    version = f.version;
    coming = f.coming;
    typed = f.typed;
    fit = f.fit;
    of_store = f.of_store;
    follows = f.follows;
    outcomes = f.outcomes;
    unfailed = f.unfailed;
    told_frames = λ n t live is. f.told_frames n t live (sym (same n) ∙ is);
    numbered = λ n above. ((f.numbered n above).0, same n ∙ (f.numbered n above).1);
    flies = f.flies;
    attends = λ n one there. subst (λ (t : Option Tracked). AttendsAs function next options id events new f.version f.coming n t one.attempt) (sym (same n)) (f.attends n one there);
  }
