-- What a turn may write is of the run; and where an attempt stands, over more arrivals and after one more event.
use Rattle.std.proofs.Common.{sym, subst, ◌∙◌, inl, inr, ℕ, Bool, List, [], ◌∷◌, ◌++◌, append_assoc, append-nil, map}
use Rattle.std.specs.List.{AllByRecursion}
use Rattle.journal_model.specs.Notification.{Arrival}
use Rattle.journal_model.specs.Request.{Request}
use Rattle.journal_model.specs.Run.{Handler, Invocation, run_requests, BeginsRun}
use Rattle.journal_model.specs.Event.{Frame}
use Rattle.run_laws.specs.Position.{IsAtCall}
use Rattle.live_laws.specs.RequestsInFlight.{requests_sent, SendsOfRun}
use Rattle.live_laws.specs.TurnWrites.{IsNote, WritesOfRun, nothing, answers, notes, fails, awaits, suspends, ends}
use Rattle.run_laws.proofs.Extending.{begins-less}
use Rattle.live_laws.proofs.RequestsInFlight.{sends-append}

module _ (next : Handler) (given : Invocation) (arrivals : List Arrival) where
  module _ (is_closed : Bool) where
    commands_send : (written asked : List Request) → BeginsRun next given arrivals (asked ++ written) → SendsOfRun next given arrivals is_closed asked (map Frame.Command written)
    commands_send [] asked begins = tt
    commands_send (request ∷ written) asked begins =
        let one : BeginsRun next given arrivals ((asked ++ request ∷ []) ++ written) =
        subst (λ (all : List Request). BeginsRun next given arrivals all) (sym (append_assoc asked (request ∷ []) written)) begins in
        (begins-less next given arrivals (asked ++ request ∷ []) written one, commands_send written (asked ++ request ∷ []) one)

    notes_send : (frames : List Frame) (asked : List Request) → AllByRecursion IsNote frames → SendsOfRun next given arrivals is_closed asked frames
    notes_send [] asked all = tt
    notes_send (Frame.RunOutcome completion value told ∷ frames) asked all = (tt, notes_send frames (asked ++ []) all.1)
    notes_send (Frame.Error code message behavior delay ∷ frames) asked all = (tt, notes_send frames (asked ++ []) all.1)
    notes_send (frame ∷ frames) asked all = absurd all.0

    at_call-begins : (asked : List Request) (calls : ℕ) → IsAtCall next given arrivals asked calls [] → BeginsRun next given arrivals asked
    at_call-begins asked calls stands = record {
      calls = calls;
      beginning = ([], append-nil asked ∙ stands.asked_is ∙ append-nil (run_requests next given arrivals calls));
    }

    -- what a turn may write is of the run
    pub writes_send : (asked : List Request) (frames : List Frame) → WritesOfRun next given arrivals is_closed asked frames → SendsOfRun next given arrivals is_closed asked frames
    writes_send asked [] nothing = tt
    writes_send asked frames (answers written left calls stands (inl none)) =
        commands_send written asked (at_call-begins (asked ++ written) calls (subst (λ (some : List Request). IsAtCall next given arrivals (asked ++ written) calls some) none stands))
    writes_send asked frames (answers written left calls stands (inr none)) =
        subst (λ (some : List Request). SendsOfRun next given arrivals is_closed asked (map Frame.Command some)) (sym none) tt
    writes_send asked frames (notes some all) = notes_send some asked all
    writes_send asked frames (fails written some begins all) =
        sends-append next given arrivals is_closed asked (map Frame.Command written) some (commands_send written asked begins)
        (notes_send some (asked ++ requests_sent (map Frame.Command written)) all)
    writes_send asked frames (awaits awaited waits) = (tt, tt)
    writes_send asked frames (suspends suspension closed waits) = ((closed, waits), tt)
    writes_send asked frames (ends whole) = (whole, tt)
