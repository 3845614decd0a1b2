-- The law for attempts that are elsewhere: the promises, from the frames that were taken alone.
use Rattle.std.specs.Prelude.{◌≡◌, ℕ, List, Some}
use Rattle.journal_model.specs.Notification.{Text}
use Rattle.journal_model.specs.declared.invocation.NewInvocation.{NewInvocation}
use Rattle.journal_model.specs.declared.options.RunOptions.{RunOptions}
use Rattle.journal_model.specs.Run.{Handler, Invocation}
use Rattle.journal_model.specs.Event.{Event}
use Rattle.journal_model.specs.Journal.{invocation_begun, starting_state}
use Rattle.journal_model.specs.Cause.{IsAccepted}
use Rattle.journal_model.specs.Headline.{run_of, Headline, NeverLate, WakesExactly}
use Rattle.run_laws.specs.TakenFrames.{AllOfRun}
use Rattle.run_laws.specs.HeldInvocations.{Holds}

-- a fact of the run of an invocation, if it was begun
abbrev pub OfItsRun : RunOptions → ℕ → List Event → Text → (Invocation → Type 0) → Type 0
OfItsRun options fallback_seed events id Fact =
    (new : NewInvocation) → invocation_begun events id ≡ Some new → Fact (run_of options fallback_seed new (starting_state events id))

-- What a host has to meet: each frame that the store took of the invocation is one of the run of this handler, over the arrivals that the
-- attempt had been handed by then. Nothing is asked of what was refused, and nothing of other invocations.
abbrev pub AreTakenOfRun : Handler → RunOptions → ℕ → List Event → Text → Type 0
AreTakenOfRun next options fallback_seed events id = OfItsRun options fallback_seed events id (λ given. AllOfRun next given id events)

-- what then holds of its records, whoever made the frames
pub record PromisesHold (next : Handler) (options : RunOptions) (fallback_seed : ℕ) (events : List Event) (id : Text) : Type 0 where
  -- with this it can go on, elsewhere or in a schedule
  pub holds : OfItsRun options fallback_seed events id (λ given. Holds next given id events)
  pub headline : Headline next options fallback_seed events id
  pub never_late : OfItsRun options fallback_seed events id (λ given. NeverLate next given events id)
  pub wakes_exactly : OfItsRun options fallback_seed events id (λ given. WakesExactly next given events id)

abbrev pub PromisesHoldElsewhere : Type 0
PromisesHoldElsewhere = (next : Handler) (options : RunOptions) (fallback_seed : ℕ) (events : List Event) (id : Text) → IsAccepted events
    → AreTakenOfRun next options fallback_seed events id → PromisesHold next options fallback_seed events id
