-- How what stands of an attempt that is held goes on, where it is not the live one, and how what was told of attempts changes.
use Rattle.std.proofs.Common.{◌≡◌, ◌≢◌, ℕ, ◌==◌, Bool, true, false, if◌then◌else◌, List, Option, Some, None, refl, sym, ap, ◌∙◌, eq-eqb, eqb-true}
use Rattle.journal_model.specs.declared.invocation.NewInvocation.{NewInvocation}
use Rattle.journal_model.specs.Notification.{Text}
use Rattle.journal_model.specs.Event.{Event}
use Rattle.journal_model.specs.Attempt.{live_attempt, is_input_closed}
use Rattle.journal_model.specs.Run.{Handler}
use Rattle.protocol_types.specs.declared.version.Version.{Version}
use Rattle.vm_types.specs.declared.options.VMOptions.{VMOptions}
use Rattle.vm_attempt_laws.specs.Attempts.{Attempt}
use Rattle.vm_attempt_laws.specs.OutputOfAttempt.{Sent}
use Rattle.schedule_laws.specs.TrackedAttempt.{Tracked, IsServed, IsAttemptLeft, Attends, AttendsAs, is_over, lacks_memory, closed_early, is_served, is_left}
use Rattle.schedule_laws.specs.InvocationInRun.{ToldOf}

-- ---- what was told

-- nothing yet
abbrev pub none_told : ToldOf
none_told = λ n. None

-- of one more attempt something was told, or more of one
abbrev pub with_told : ToldOf → ℕ → Tracked → ToldOf
with_told told n t = λ m. if m == n then Some t else told m

pub told_at : (told : ToldOf) (n : ℕ) (t : Tracked) → with_told told n t n ≡ Some t
told_at told n t = ap (λ (b : Bool). if b then Some t else told n) (eq-eqb n n refl)

pub told_other : (told : ToldOf) (n : ℕ) (t : Tracked) (m : ℕ) → m ≢ n → with_told told n t m ≡ told m
told_other told n t m far = by_number (m == n) refl
  where
    by_number : (b : Bool) → (m == n) ≡ b → (if m == n then Some t else told m) ≡ told m
    by_number true e = absurd (far (eqb-true m n e))
    by_number false e = ap (λ (b : Bool). if b then Some t else told m) e

-- nothing more was
pub with_same_told : (told : ToldOf) (n : ℕ) (t : Tracked) → told n ≡ Some t → (m : ℕ) → told m ≡ with_told told n t m
with_same_told told n t is m = by_number (m == n) refl
  where
    by_number : (b : Bool) → (m == n) ≡ b → told m ≡ (if m == n then Some t else told m)
    by_number true e = ap told (eqb-true m n e) ∙ is ∙ ap (λ (b : Bool). if b then Some t else told m) (sym e)
    by_number false e = ap (λ (b : Bool). if b then Some t else told m) (sym e)

module _ {H : Type 0} (function : H → Handler) (next : Handler) (options : VMOptions) (id : Text) where
  -- ---- one that is not live

  left_of : (events : List Event) (new : NewInvocation) (version : Version) (coming : List Sent) (t : Tracked) (a : Attempt H) → IsServed function next options id events new version coming t a
      → IsAttemptLeft function next options id t a
  left_of events new version coming t a s = record {
    version = version;
    is_closed = is_input_closed events id;
    goes_on = record { live = s.live; proposed = s.proposed; start_is = s.start_is; bodies = s.bodies; serves = s.serves; is_told = s.is_told };
  }

  left_still : (events later : List Event) (new : NewInvocation) (version again : Version) (coming left : List Sent) (number : ℕ) (t : Tracked) (a : Attempt H) → live_attempt later id ≢ Some number
      → Attends function next options id events new version coming number t a → Attends function next options id later new again left number t a
  left_still events later new version again coming left number t a not (is_over last told over) = is_over last told over
  left_still events later new version again coming left number t a not (lacks_memory told going lacks) = lacks_memory told going lacks
  left_still events later new version again coming left number t a not (closed_early told going early closed) = closed_early told going early (λ live. absurd (not live))
  left_still events later new version again coming left number t a not (is_served told live s) = is_left told not (left_of events new version coming t a s)
  left_still events later new version again coming left number t a not (is_left told before l) = is_left told not l

  -- whatever events come, and whatever is on its way of another attempt
  pub aside : (events later : List Event) (new : NewInvocation) (version again : Version) (coming left : List Sent) (number : ℕ) (t : Option Tracked) (a : Attempt H) → live_attempt later id ≢ Some number
      → AttendsAs function next options id events new version coming number t a → AttendsAs function next options id later new again left number t a
  aside events later new version again coming left number None a not at = at
  aside events later new version again coming left number (Some t) a not at = left_still events later new version again coming left number t a not at

  -- something was told of an attempt that is held
  pub told_of : (told : ToldOf) (events : List Event) (new : NewInvocation) (version : Version) (coming : List Sent) (number : ℕ) (a : Attempt H) (o : Option Tracked) → told number ≡ o
      → AttendsAs function next options id events new version coming number o a → (t : Tracked) × (told number ≡ Some t) × Attends function next options id events new version coming number t a
  told_of told events new version coming number a None is at = absurd at
  told_of told events new version coming number a (Some t) is at = (t, is, at)
