-- The errors among the frames of a turn are the one that it has failed by.
use Rattle.std.proofs.Common.{◌≡◌, inl, inr, ℕ, Bool, true, false, if◌then◌else◌, List, [], ◌∷◌, ◌++◌, map, refl, sym, subst}
use Rattle.std.specs.List.{AllByRecursion}
use Rattle.protocol_types.specs.Version.{version_number}
use Rattle.vm_attempt_laws.specs.AttemptInvariants.{IsNoError, IsNoFailure, TellsErrorOf}
use Rattle.vm_attempt_laws.specs.Bodies.{NonEmptyValue, RunOutcome, by_policy}
use Rattle.vm_attempt_laws.specs.BodyExecution.{BodyCause, BodyToldAs, LacksMemory, tried_by}
use Rattle.vm_attempt_laws.specs.Machine.{Cause, MachineState, NoMemory, out_of_memory, told_error}
use Rattle.vm_attempt_laws.specs.OutputOfAttempt.{Asks, Fails, frame_meant, is_recorded, Sent}
use Rattle.vm_attempt_laws.specs.TurnsInRun.{FailsBy, FailsByBody, IsToldAs}
use Rattle.vm_attempt_laws.specs.Words.{Call, Error, Frame, Handler, AttemptInRun, Request, Version, VMOptions}

-- what is no error ends nothing
one_unfailed : (frame : Frame) → IsNoError frame → IsNoFailure frame
one_unfailed (Frame.Error code message behavior delay) calm = absurd calm
one_unfailed frame calm = tt

pub calm_unfailed : (frames : List Frame) → AllByRecursion IsNoError frames → AllByRecursion IsNoFailure frames
calm_unfailed [] all = tt
calm_unfailed (frame ∷ frames) all = (one_unfailed frame all.0, calm_unfailed frames all.1)

-- where no memory was there for a copy, the frame may tell any
one_memory : (version : ℕ) (frame : Frame) → TellsErrorOf version out_of_memory frame
one_memory version (Frame.Error code message behavior delay) = inl refl
one_memory version frame = tt

pub memory_told : (version : ℕ) (frames : List Frame) → AllByRecursion (TellsErrorOf version out_of_memory) frames
memory_told version [] = tt
memory_told version (frame ∷ frames) = (one_memory version frame, memory_told version frames)

lacks_told : (version : ℕ) (error : Error) (frames : List Frame) → error ≡ out_of_memory → AllByRecursion (TellsErrorOf version error) frames
lacks_told version error frames is = subst (λ (e : Error). AllByRecursion (TellsErrorOf version e) frames) (sym is) (memory_told version frames)

-- requests, and the error behind them
asked_none : (version : ℕ) (error : Error) (request : Request) (b : Bool) → TellsErrorOf version error (if b then Frame.Command request else Frame.NotAccepted)
asked_none version error request true = tt
asked_none version error request false = tt

module _ (version : Version) (error : Error) where
  behind_requests : (more : List Request) → AllByRecursion (TellsErrorOf (version_number version) error) (map (frame_meant version) (map Asks more ++ Fails (told_error error) ∷ []))
  behind_requests [] = (inr refl, tt)
  behind_requests (request ∷ more) = (asked_none (version_number version) error request (is_recorded request), behind_requests more)

  sent_errors : (more : List Request) (sent : List Sent) → sent ≡ map Asks more ++ Fails (told_error error) ∷ [] → AllByRecursion (TellsErrorOf (version_number version) error) (map (frame_meant version) sent)
  sent_errors more sent is = subst (λ (some : List Sent). AllByRecursion (TellsErrorOf (version_number version) error) (map (frame_meant version) some)) (sym is) (behind_requests more)

-- of a call that fails
module _ (next : Handler) (version : Version) (live : AttemptInRun) (call : Call) (old new : MachineState) (error : Error) (sent : List Sent) where
  told_by : (more : List Request) (cause : Cause) → IsToldAs version live call old new more cause error sent → AllByRecursion (TellsErrorOf (version_number version) error) (map (frame_meant version) sent)
  told_by more NoMemory told = lacks_told (version_number version) error (map (frame_meant version) sent) told
  told_by more cause told = sent_errors version error more sent told.3

  pub call_errors : FailsBy next version live call old new error sent → AllByRecursion (TellsErrorOf (version_number version) error) (map (frame_meant version) sent)
  call_errors by = told_by by.far.more by.cause by.told

-- and of a body
pub body_errors : (next : Handler) (live : AttemptInRun) (proposed : List (ℕ × NonEmptyValue)) (version : Version) (options : VMOptions) (ran : RunOutcome) (vm : MachineState) (error : Error) (sent : List Sent)
    → FailsByBody next live proposed version options ran vm error sent → AllByRecursion (TellsErrorOf (version_number version) error) (map (frame_meant version) sent)
body_errors next live proposed version options ran vm error sent by = by_why by.cause by.told
  where
    by_why : (why : BodyCause) → BodyToldAs version options (by_policy ran) (tried_by live by.shows) vm by.run why error sent → AllByRecursion (TellsErrorOf (version_number version) error) (map (frame_meant version) sent)
    by_why LacksMemory told = lacks_told (version_number version) error (map (frame_meant version) sent) told
    by_why why told = sent_errors version error [] sent told.3
