-- The law, by what is kept of an invocation.
use Rattle.run_laws.proofs.Holding.{all_holds, headline, holds_wakes}
use Rattle.journal_model.specs.declared.invocation.NewInvocation.{NewInvocation}
use Rattle.journal_model.specs.Journal.{invocation_begun, starting_state}
use Rattle.journal_model.specs.Headline.{run_of}
use Rattle.std.proofs.Common.{◌≡◌, Some}
use Rattle.run_laws.specs.HeldInvocations.{Holds}
use Rattle.elsewhere_laws.specs.Elsewhere.{PromisesHoldElsewhere}

pub promises_hold : PromisesHoldElsewhere
promises_hold next options seed events id accepted of_run =
    record {
      holds = kept;
      headline = headline next options seed events id accepted kept;
      never_late = λ new begun. (holds_wakes next (run_of options seed new (starting_state events id)) id events (kept new begun)).0;
      wakes_exactly = λ new begun. (holds_wakes next (run_of options seed new (starting_state events id)) id events (kept new begun)).1;
    }
  where
    kept : (new : NewInvocation) → invocation_begun events id ≡ Some new → Holds next (run_of options seed new (starting_state events id)) id events
    kept new begun = all_holds next (run_of options seed new (starting_state events id)) id events accepted (of_run new begun)
