-- A frame that is decided on by what is kept of its invocation is refused for no statement.
use Rattle.std.proofs.Common.{◌≡◌, refl, sym, subst, Option, Some, None, Result, Ok, Err, IfErr, unwrap_or}
use Rattle.store_frames.specs.declared.frame.AttemptFrame.{AttemptFrame}
use Rattle.store_tables.specs.declared.row.Progress.{Progress}
use Rattle.store_refusals.specs.declared.refusal.Refusal.{Refusal}
use Rattle.store_refusals.specs.declared.refusal.Refusal.TheVariants.{OutOfMemory}
use Rattle.store_refusals.specs.RefusalConditions.{refusal_by}
use Rattle.store_refusals.specs.Causes.{IsUnasked}
use Rattle.store_refusals.proofs.Causes.{test_unasked}
use Rattle.store_steps.specs.declared.frame.LiveFacts.{LiveFacts}
use Rattle.store_steps.specs.declared.frame.PreparedFrame.{PreparedFrame}
use Rattle.store_steps.specs.PreparedFrames.{IsWhy}
use Rattle.store_steps.specs.FrameAnswers.{tests_of_told}

first_or_memory : (o : Option Refusal) → ((why : Refusal) → o ≡ Some why → IsUnasked why) → IsUnasked (unwrap_or o OutOfMemory)
first_or_memory None each = λ cause is. cc
first_or_memory (Some why) each = each why refl

pub decided_unasked : (p : Progress) (attempt : LiveFacts) (frame : AttemptFrame) (r : Result PreparedFrame Refusal) → IfErr r (IsWhy p attempt frame) → IfErr r IsUnasked
decided_unasked p attempt frame (Ok made) why = tt
decided_unasked p attempt frame (Err why) is =
    let tests = tests_of_told p attempt.is_input_closed frame in
    subst IsUnasked (sym is) (first_or_memory (refusal_by tests) (test_unasked tests))
