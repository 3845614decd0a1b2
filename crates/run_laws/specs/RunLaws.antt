-- The laws of this crate.
use Rattle.std.specs.Prelude.{◌≡◌, ◌⊎◌, ℕ, suc, true, List, [], ◌∷◌, ◌++◌, Option}
use Rattle.journal_model.specs.declared.notification.NotificationId.{NotificationId}
use Rattle.journal_model.specs.Notification.{Arrival}
use Rattle.journal_model.specs.AwaitTree.{AwaitTree}
use Rattle.journal_model.specs.Request.{Request, completions_asked}
use Rattle.journal_model.specs.Cause.{do_ascend, last_completion}
use Rattle.journal_model.specs.Run.{Handler, Invocation, Waits, run, run_requests, IsBeginning, BeginsRun}
use Rattle.run_laws.specs.Position.{IsAtCall}

-- a run that does not wait is the same over more arrivals
abbrev pub RunsStay : Type 0
RunsStay = (next : Handler) (given : Invocation) (arrivals later : List Arrival) (calls : ℕ)
    → ((tree : AwaitTree (Option NotificationId)) → (run next given arrivals calls).ending ≡ Waits tree → ⊥)
    → run next given (arrivals ++ later) calls ≡ run next given arrivals calls

-- the requests of the next call are the first that are left to be replayed, or what is left is the first of them
abbrev pub CallsReplay : Type 0
CallsReplay = (next : Handler) (given : Invocation) (arrivals : List Arrival) (asked : List Request) (calls : ℕ) (left more : List Request)
    → IsAtCall next given arrivals asked calls left → BeginsRun next given arrivals asked
    → run_requests next given arrivals (suc calls) ≡ run_requests next given arrivals calls ++ more
    → IsBeginning more left ⊎ IsBeginning left more

-- a request of a run asks for greater completions than all before it, so it is never refused for them
abbrev pub CompletionsAscend : Type 0
CompletionsAscend = (next : Handler) (given : Invocation) (arrivals : List Arrival) (requests : List Request) (request : Request)
    → BeginsRun next given arrivals (requests ++ request ∷ []) → do_ascend (last_completion requests) (completions_asked request) ≡ true
