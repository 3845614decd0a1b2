-- Frames that propose no outcome of a run.
use Rattle.std.proofs.Common.{◌≡◌, ◌∙◌, inl, inr, ℕ, Bool, true, false, List, [], ◌∷◌, ◌++◌, map, Option, refl, sym, ap, subst}
use Rattle.std.specs.List.{AllByRecursion}
use Rattle.vm_waiting.specs.WaitsFor.{waits_as}
use Rattle.vm_waiting.specs.declared.waits_for.WaitsFor.{WaitsFor}
use Rattle.vm_waiting.specs.declared.waits_for.WaitsFor.TheVariants.{Future, Child}
use Rattle.vm_output_laws.specs.TurnFrames.{leaves_over}
use Rattle.vm_attempt_laws.specs.AttemptInvariants.{IsNoError, IsNoFailure}
use Rattle.vm_attempt_laws.specs.Bodies.{outcomes_in}
use Rattle.vm_attempt_laws.specs.TurnsInRun.{AsksAlone}
use Rattle.vm_attempt_laws.specs.Words.{Answer, Answered, AwaitTree, Frame, Machine, NotificationId, Request, SendsReply, SendsWaiting}

-- commands close nothing
pub commands_open : (requests : List Request) (frames : List Frame) → AllByRecursion IsNoFailure frames → AllByRecursion IsNoFailure (map Frame.Command requests ++ frames)
commands_open [] frames all = all
commands_open (request ∷ requests) frames all = (tt, commands_open requests frames all)

commands_only : (requests : List Request) → AllByRecursion IsNoError (map Frame.Command requests)
commands_only [] = tt
commands_only (request ∷ requests) = (tt, commands_only requests)

pub commands_quiet : (requests : List Request) (frames : List Frame) → outcomes_in (map Frame.Command requests ++ frames) ≡ outcomes_in frames
commands_quiet [] frames = refl
commands_quiet (request ∷ requests) frames = commands_quiet requests frames

commands_none : (requests : List Request) → outcomes_in (map Frame.Command requests) ≡ []
commands_none [] = refl
commands_none (request ∷ requests) = commands_none requests

waiting_quiet : (version : ℕ) (is_closed : Bool) (tree : AwaitTree (Option NotificationId)) (frames : List Frame) → SendsWaiting version is_closed tree frames → outcomes_in frames ≡ []
waiting_quiet version false tree frames (inl none) = ap outcomes_in none
waiting_quiet version false tree frames (inr told) = ap outcomes_in told.1
waiting_quiet version true tree frames sends = ap outcomes_in sends.1

waiting_calm : (version : ℕ) (is_closed : Bool) (tree : AwaitTree (Option NotificationId)) (frames : List Frame) → SendsWaiting version is_closed tree frames → AllByRecursion IsNoError frames
waiting_calm version false tree frames (inl none) = subst (AllByRecursion IsNoError) (sym none) tt
waiting_calm version false tree frames (inr told) = subst (AllByRecursion IsNoError) (sym told.1) (tt, tt)
waiting_calm version true tree frames sends = subst (AllByRecursion IsNoError) (sym sends.1) (tt, tt)

module _ (version : ℕ) (is_closed : Bool) (m : Machine) (frames : List Frame) where
  -- an answer sends requests alone
  pub answer_asks : (answer : Answer) (after : Machine) → SendsReply version is_closed m (Answered answer after) frames → AsksAlone frames
  answer_asks answer after sends = (sends.0, sends.2)

  pub waits_tell : (waits : WaitsFor) (whole : Machine) → SendsReply version is_closed m (waits_as waits whole) frames → SendsWaiting version is_closed (leaves_over whole.slots waits) frames
  waits_tell (Future left) whole sends = sends
  waits_tell (Child child) whole sends = sends

  -- no error is sent but by a call that fails
  pub answer_calm : (answer : Answer) (after : Machine) → SendsReply version is_closed m (Answered answer after) frames → AllByRecursion IsNoError frames
  answer_calm answer after sends = subst (AllByRecursion IsNoError) (sym sends.2) (commands_only sends.0)

  pub waits_calm : (waits : WaitsFor) (whole : Machine) → SendsReply version is_closed m (waits_as waits whole) frames → AllByRecursion IsNoError frames
  waits_calm (Future left) whole sends = waiting_calm version is_closed _ frames sends
  waits_calm (Child child) whole sends = waiting_calm version is_closed _ frames sends

  pub answer_quiet : (answer : Answer) (after : Machine) → SendsReply version is_closed m (Answered answer after) frames → outcomes_in frames ≡ []
  answer_quiet answer after sends = ap outcomes_in sends.2 ∙ commands_none sends.0

  pub waits_quiet : (waits : WaitsFor) (whole : Machine) → SendsReply version is_closed m (waits_as waits whole) frames → outcomes_in frames ≡ []
  waits_quiet (Future left) whole sends = waiting_quiet version is_closed _ frames sends
  waits_quiet (Child child) whole sends = waiting_quiet version is_closed _ frames sends
