-- An attempt that is held, by what was told of it so far: it serves, it is over, or its machine has failed and no turn has told that yet.
use Rattle.std.specs.Prelude.{◌≡◌, ◌≢◌, ℕ, Bool, true, List, map, Option, Some, None}
use Rattle.journal_model.specs.declared.invocation.NewInvocation.{NewInvocation}
use Rattle.journal_model.specs.declared.value.NonEmptyValue.{NonEmptyValue}
use Rattle.journal_model.specs.Notification.{Text}
use Rattle.journal_model.specs.Event.{Event}
use Rattle.journal_model.specs.Attempt.{live_attempt, is_input_closed}
use Rattle.journal_model.specs.Run.{Handler}
use Rattle.protocol_types.specs.declared.version.Version.{Version}
use Rattle.live_laws.specs.StartFrame.{AttemptStart}
use Rattle.live_laws.specs.AttemptWithMachine.{AttemptInRun}
use Rattle.replay_laws.specs.AttemptWithBodies.{IsLiveExecutor}
use Rattle.vm_types.specs.Options.{run_options}
use Rattle.vm_types.specs.declared.options.VMOptions.{VMOptions}
use Rattle.vm_attempt_laws.specs.Attempts.{Attempt, Turn}
use Rattle.vm_attempt_laws.specs.AttemptInvariants.{LacksMemory}
use Rattle.vm_attempt_laws.specs.OverAttempts.{IsClosedEarly, IsOverBy}
use Rattle.vm_attempt_laws.specs.OutputOfAttempt.{Sent, frame_meant}
use Rattle.vm_attempt_laws.specs.AttemptSimulation.{HasBodies, Serves}
use Rattle.vm_attempt_laws.specs.TurnReports.{Told, IsAttemptTold, GoesOnTold}

-- what an attempt was begun with, and what was told of it
pub record Tracked : Type 0 where
  pub start : AttemptStart
  pub told : Told

module _ {H : Type 0} (function : H → Handler) (next : Handler) (options : VMOptions) (id : Text) where
  -- ---- an attempt that serves

  -- the attempt is the live one, with the bodies of its runs, these are its frames on their way, and what was told of it is so
  pub record IsServed (events : List Event) (new : NewInvocation) (version : Version) (coming : List Sent) (t : Tracked) (attempt : Attempt H) : Type 0 where
    pub live : AttemptInRun
    pub proposed : List (ℕ × NonEmptyValue)
    pub new_is : live.start.new ≡ new
    pub start_is : live.start ≡ t.start
    pub coming_are : live.coming ≡ map (frame_meant version) coming
    pub bodies : HasBodies next live proposed attempt
    pub lives : IsLiveExecutor next (run_options options) options.fallback_random_seed id events live proposed bodies.executor
    pub serves : Serves function next version options live (is_input_closed events id) attempt
    pub is_told : IsAttemptTold live attempt (is_input_closed events id) proposed t.told

  -- it is not the live one any more, or never was again: it serves on as it was told, and nothing more comes to it
  pub record IsAttemptLeft (t : Tracked) (attempt : Attempt H) : Type 0 where
    pub version : Version
    pub is_closed : Bool
    pub goes_on : GoesOnTold function next version options t.start is_closed t.told attempt

  -- ---- any that is held

  module _ (events : List Event) (new : NewInvocation) (version : Version) (coming : List Sent) (number : ℕ) where
    pub data Attends (t : Tracked) (a : Attempt H) : Type 0 where
      is_over : (last : Turn) → t.told.over ≡ Some last → IsOverBy last a → Attends t a
      lacks_memory : t.told.over ≡ None → a.over ≡ None → LacksMemory a → Attends t a
      closed_early : t.told.over ≡ None → a.over ≡ None → IsClosedEarly t.start t.told a → (live_attempt events id ≡ Some number → is_input_closed events id ≡ true) → Attends t a
      is_served : t.told.over ≡ None → live_attempt events id ≡ Some number → IsServed events new version coming t a → Attends t a
      is_left : t.told.over ≡ None → live_attempt events id ≢ Some number → IsAttemptLeft t a → Attends t a

    -- one of which nothing was told is not held
    abbrev pub AttendsAs : Option Tracked → Attempt H → Type 0
    AttendsAs None a = ⊥
    AttendsAs (Some t) a = Attends t a
