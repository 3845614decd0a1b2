-- A turn of an attempt that replays leaves it so.
use Rattle.std.proofs.Common.{◌≡◌, refl, sym, ap, ◌∙◌, subst, ℕ, suc, ◌+◌, ◌≤◌, arith, ◌⊎◌, inl, inr, Bool, true, false, List, [], ◌∷◌, ◌++◌, append_assoc, append-nil, map, Option, Some, None}
use Rattle.std.specs.List.{AllByRecursion, list_all}
use Rattle.std.specs.Str.{is_utf8}
use Rattle.journal_model.specs.declared.call.Call.{Call}
use Rattle.journal_model.specs.declared.value.NonEmptyValue.{NonEmptyValue}
use Rattle.journal_model.specs.Notification.{Arrival}
use Rattle.journal_model.specs.Request.{Request}
use Rattle.journal_model.specs.History.{Step}
use Rattle.journal_model.specs.Run.{Handler, Progress, run}
use Rattle.journal_model.specs.Event.{Frame}
use Rattle.journal_model.specs.Cause.{keys_of}
use Rattle.input_laws.specs.Message.{InputMessage, CarriesInput, CarriesRequest, CarriesArrival, CarriesOutcome, arrivals_carried, requests_carried}
use Rattle.attempt_model.specs.Machine.{Machine, Reply, Answered, AwaitsTree, AwaitsChild, Finished, FailedBy, reply_to}
use Rattle.attempt_model.specs.Simulation.{AreOfKind, Fits, next_call, AreReflexive}
use Rattle.attempt_laws.proofs.Coming.{all-both}
use Rattle.live_laws.specs.MachinePosition.{IsInRun}
use Rattle.live_laws.specs.Replies.{SendsReply, goes_on, StandsBehind}
use Rattle.live_laws.specs.MachineTurn.{MakesTurns}
use Rattle.live_laws.proofs.MachineTurn.{machine_turns}
use Rattle.live_laws.specs.AskedArrivals.{are_by_text}
use Rattle.live_laws.specs.AttemptWithMachine.{AttemptInRun, start_read, HasReadJournal, after_turn}
use Rattle.body_laws.specs.Bodies.{Body, Executor, without_body, body_awaited, handing_out, executes_or_awaits, reply_after, executor_reply, bodies_left, proposing}
use Rattle.body_laws.specs.BodySimulation.{BodiesStand, has_arrived, count_proposed, StandsWithBodies, ExecutesBody, RepliesWithBodies}
use Rattle.body_laws.proofs.Lists.{outcome, among-left, proposed-append}
use Rattle.body_laws.proofs.Progress.{none-left}
use Rattle.body_laws.proofs.BodySimulation.{steps-same, with_steps, body_proposes}
use Rattle.body_laws.proofs.Calling.{calls_simulate}
use Rattle.replay_laws.specs.Outcomes.{runs}
use Rattle.replay_laws.specs.ReplayedAttempt.{IsBehind, ComesAsAsked, requests_asked_by, IsReplayed}
use Rattle.replay_laws.specs.Laws.{TurnsReplayed, ReplaysTurn}
use Rattle.replay_laws.proofs.Standing.{replay_stands}

-- ---- what has come, where more is asked for or proposed

asks_more : (journal : List Arrival) (proposed : List (ℕ × NonEmptyValue)) (asked now : List Request) (arrivals : List Arrival) (more : List Request) → now ≡ asked ++ more
    → ComesAsAsked journal proposed asked arrivals → ComesAsAsked journal proposed now arrivals
asks_more journal proposed asked now arrivals more grows c = record {
  first = c.first;
  more = c.more ++ more;
  parts = sym (append_assoc c.first c.more more) ∙ ap (λ (some : List Request). some ++ more) c.parts ∙ sym grows;
  come = c.come;
  ids = c.ids;
  keys = c.keys;
  own = c.own;
}

proposes_more : (journal : List Arrival) (proposed more : List (ℕ × NonEmptyValue)) (asked : List Request) (arrivals : List Arrival) → ComesAsAsked journal proposed asked arrivals
    → ComesAsAsked journal (proposed ++ more) asked arrivals
proposes_more journal proposed more asked arrivals c = record {
  first = c.first;
  more = c.more;
  parts = c.parts;
  come = c.come;
  ids = c.ids;
  keys = c.keys;
  own = λ n e come. still n (c.own n e come);
}
  where
    still : (n : ℕ) → (has_arrived journal n ≡ true) ⊎ (1 ≤ count_proposed n proposed) → (has_arrived journal n ≡ true) ⊎ (1 ≤ count_proposed n (proposed ++ more))
    still n (inl before) = inl before
    still n (inr some) = let sum = proposed-append n proposed more in inr (omega (arith, some, sum))

still_behind : (version : ℕ) (proposed more : List (ℕ × NonEmptyValue)) (messages : List InputMessage) → AllByRecursion (IsBehind version proposed) messages → AllByRecursion (IsBehind version (proposed ++ more)) messages
still_behind version proposed more [] all = tt
still_behind version proposed more (CarriesArrival type arrival ∷ messages) all = (tt, still_behind version proposed more messages all.1)
still_behind version proposed more (CarriesOutcome number value ∷ messages) all =
    ((all.0.0, among-left (outcome number value) proposed more all.0.1), still_behind version proposed more messages all.1)
still_behind version proposed more (CarriesInput new ∷ messages) all = absurd all.0
still_behind version proposed more (CarriesRequest request ∷ messages) all = absurd all.0

module _ (same_header : Call → Request → Request → Bool) (next : Handler) (live : AttemptInRun) (proposed : List (ℕ × NonEmptyValue)) (e : Executor) (reflexive : AreReflexive same_header)
    (x : IsReplayed next live proposed e) (start : live.bytes ≡ live.held) (r : HasReadJournal live) (fits : Fits next live.start.given (requests_carried live.read) (arrivals_carried live.read))
    (kinds : AreOfKind next live.start.given (arrivals_carried live.read) live.calls) (at : IsInRun next live.start.given live.read live.unread live.calls live.machine) (same : e.machine ≡ live.machine) where
  stands : StandsWithBodies next live.start.given (requests_carried live.read) (arrivals_carried live.read) live.calls proposed (record e { machine = live.machine })
  stands = record {
    stands = at.stands;
    bodies = with_steps live.start.given.version (run next live.start.given (arrivals_carried live.read) live.calls).steps at.stands.steps (arrivals_carried live.read) proposed (record e { machine = live.machine })
        (ap (λ (p : Progress). p.steps) at.stands.going)
        (record {
          once = x.bodies.once;
          none_above = x.bodies.none_above;
          called = x.bodies.called;
          not_come = x.bodies.not_come;
          ascending = x.bodies.ascending;
          executing_called = x.bodies.executing_called;
          proposed_called = x.bodies.proposed_called;
          kept = x.bodies.kept;
          cached = x.bodies.cached;
          cached_alone = x.bodies.cached_alone;
        });
  }

  -- the machine goes on behind a turn
  makes : MakesTurns same_header next live.start.given false live.held live.read live.unread live.calls live.machine at
  makes = machine_turns same_header next live.start.given false live.held live.read live.unread live.calls live.machine reflexive fits kinds at

  -- where a turn has written nothing
  nothing_more : (after : Machine) → after.written ≡ live.machine.written ++ [] → are_by_text after.written ≡ true
  nothing_more after behind = ap are_by_text (behind ∙ append-nil live.machine.written) ∙ x.texts

  -- where a turn proposes nothing
  quiet : (sent : List Frame) (calls : ℕ) (new : Executor) (written : List Request) → new.machine.written ≡ live.machine.written ++ written
      → IsInRun next live.start.given live.read live.unread calls new.machine → new.executing ≡ []
      → BodiesStand live.start.given.version (run next live.start.given (arrivals_carried live.read) calls).steps (arrivals_carried live.read) proposed new → are_by_text new.machine.written ≡ true
      → IsReplayed next (after_turn live sent calls new.machine) proposed new
  quiet sent calls new written grows behind idle bodies texts = record {
    start = x.start;
    later = x.later;
    parts = x.parts;
    later_are = x.later_are;
    comes = asks_more (arrivals_carried live.start.journal) proposed (requests_asked_by live) (requests_carried (live.read ++ live.unread) ++ new.machine.written) (arrivals_carried (live.read ++ live.unread)) written
        (ap (λ (some : List Request). requests_carried (live.read ++ live.unread) ++ some) grows ∙ sym (append_assoc (requests_carried (live.read ++ live.unread)) live.machine.written written)) x.comes;
    holds = start_read start;
    rest = x.rest;
    bytes = x.bytes;
    stands = inr behind;
    machine = refl;
    idle = idle;
    bodies = bodies;
    asked = inr (record { later = r.later; parts = r.parts });
    texts = texts;
  }

  -- where it proposes the outcome of a body
  proposes : (sent : List Frame) (body : Body) (value : NonEmptyValue) (new : Executor) → ExecutesBody next live.start.given (requests_carried live.read) (arrivals_carried live.read) live.calls proposed body new
      → new.executing ≡ [] ++ body ∷ [] → StandsBehind next live.start.given live.read live.unread live.calls live.machine new.machine []
      → IsReplayed next (after_turn live sent live.calls new.machine) (proposed ++ (body.completion, value) ∷ []) (proposing live.start.given.version new body value)
  proposes sent body value new b idle behind = record {
    start = x.start;
    later = x.later;
    parts = x.parts;
    later_are = still_behind live.start.given.version proposed ((body.completion, value) ∷ []) x.later x.later_are;
    comes = proposes_more (arrivals_carried live.start.journal) proposed ((body.completion, value) ∷ []) (requests_carried (live.read ++ live.unread) ++ new.machine.written) (arrivals_carried (live.read ++ live.unread))
        (asks_more (arrivals_carried live.start.journal) proposed (requests_asked_by live) (requests_carried (live.read ++ live.unread) ++ new.machine.written) (arrivals_carried (live.read ++ live.unread)) []
        (ap (λ (some : List Request). requests_carried (live.read ++ live.unread) ++ some) behind.written ∙ sym (append_assoc (requests_carried (live.read ++ live.unread)) live.machine.written [])) x.comes);
    holds = start_read start;
    rest = x.rest;
    bytes = x.bytes;
    stands = inr behind.stands;
    machine = refl;
    idle = ap (λ (some : List Body). without_body body some) idle ∙ none-left body [] refl;
    bodies = body_proposes live.start.given.version (run next live.start.given (arrivals_carried live.read) live.calls).steps (arrivals_carried live.read) proposed new
        (with_steps live.start.given.version b.waits.stands.steps (run next live.start.given (arrivals_carried live.read) live.calls).steps (arrivals_carried live.read) proposed new
        (ap (λ (p : Progress). p.steps) (sym b.waits.stands.going)) b.bodies) body value (inr b.executing);
    asked = inr (record { later = r.later; parts = r.parts });
    texts = nothing_more new.machine behind.written;
  }

  by_reply : (reply : Reply) → reply_to same_header live.start.given live.machine (next_call next live.start.given at.stands.steps) ≡ reply
      → RepliesWithBodies next live.start.given (requests_carried live.read) (arrivals_carried live.read) live.calls proposed (reply_after (record e { machine = live.machine }) (next_call next live.start.given at.stands.steps) reply)
      → TurnsReplayed next live proposed (reply_after (record e { machine = live.machine }) (next_call next live.start.given at.stands.steps) reply)
  by_reply (Answered answer m) is b = λ sent written grows by_text.
      quiet sent (suc live.calls) (record { machine = m; left = e.left ++ bodies_left live.machine (next_call next live.start.given at.stands.steps); executing = e.executing; cached = e.cached })
      written grows
      (makes.behind (map Frame.Command written) (suc live.calls) m
      (subst (λ (reply : Reply). SendsReply live.start.given.version false live.machine reply (map Frame.Command written)) (sym is) (written, grows, refl)) (ap (goes_on live.calls) is)).stands
      x.idle
      (with_steps live.start.given.version b.answers.stands.steps (run next live.start.given (arrivals_carried live.read) (suc live.calls)).steps (arrivals_carried live.read) proposed _
      (ap (λ (p : Progress). p.steps) (sym b.answers.stands.going)) b.bodies)
      (ap are_by_text grows ∙ all-both (λ request. list_all is_utf8 (keys_of request)) live.machine.written written x.texts by_text)
  by_reply (AwaitsTree tree m) is b = by_body (body_awaited tree e.left) b
    where
      behind : StandsBehind next live.start.given live.read live.unread live.calls live.machine m []
      behind = makes.behind [] live.calls m (subst (λ (reply : Reply). SendsReply live.start.given.version false live.machine reply []) (sym is) (inl refl)) (ap (goes_on live.calls) is)

      by_body : (o : Option Body) → RepliesWithBodies next live.start.given (requests_carried live.read) (arrivals_carried live.read) live.calls proposed (executes_or_awaits tree (record e { machine = m }) o)
          → TurnsReplayed next live proposed (executes_or_awaits tree (record e { machine = m }) o)
      by_body None b = λ sent.
          quiet sent live.calls (record e { machine = m }) [] behind.written behind.stands x.idle
          (with_steps live.start.given.version b.waits.stands.steps (run next live.start.given (arrivals_carried live.read) live.calls).steps (arrivals_carried live.read) proposed (record e { machine = m })
          (ap (λ (p : Progress). p.steps) (sym b.waits.stands.going)) b.bodies)
          (nothing_more m behind.written)
      by_body (Some body) b = λ sent value. proposes sent body value (handing_out (record e { machine = m }) body) b (ap (λ (some : List Body). some ++ body ∷ []) x.idle) behind
  by_reply (AwaitsChild child m) is b = λ sent.
      let behind : StandsBehind next live.start.given live.read live.unread live.calls live.machine m [] =
      makes.behind [] live.calls m (subst (λ (reply : Reply). SendsReply live.start.given.version false live.machine reply []) (sym is) (inl refl)) (ap (goes_on live.calls) is) in
      quiet sent live.calls (record e { machine = m }) [] behind.written behind.stands x.idle
      (with_steps live.start.given.version b.waits.stands.steps (run next live.start.given (arrivals_carried live.read) live.calls).steps (arrivals_carried live.read) proposed (record e { machine = m })
      (ap (λ (p : Progress). p.steps) (sym b.waits.stands.going)) b.bodies)
      (nothing_more m behind.written)
  by_reply (Finished m) is b = tt
  by_reply (FailedBy fault) is b = tt

  turns : TurnsReplayed next live proposed (executor_reply same_header live.start.given e (next_call next live.start.given at.stands.steps))
  turns = by_stands stands (same_stands stands)
    where
      -- the run that goes on has made the same steps
      same_stands : (s : StandsWithBodies next live.start.given (requests_carried live.read) (arrivals_carried live.read) live.calls proposed (record e { machine = live.machine })) → s.stands.steps ≡ at.stands.steps
      same_stands s = steps-same (run next live.start.given (arrivals_carried live.read) live.calls) s.stands.steps at.stands.steps s.stands.going at.stands.going

      by_stands : (s : StandsWithBodies next live.start.given (requests_carried live.read) (arrivals_carried live.read) live.calls proposed (record e { machine = live.machine })) → s.stands.steps ≡ at.stands.steps
          → TurnsReplayed next live proposed (executor_reply same_header live.start.given e (next_call next live.start.given at.stands.steps))
      by_stands s steps =
          subst (λ (some : Executor). TurnsReplayed next live proposed (executor_reply same_header live.start.given some (next_call next live.start.given at.stands.steps)))
          (ap (λ (m : Machine). record e { machine = m }) (sym same))
          (by_reply (reply_to same_header live.start.given live.machine (next_call next live.start.given at.stands.steps)) refl
          (subst (λ (some : List Step). RepliesWithBodies next live.start.given (requests_carried live.read) (arrivals_carried live.read) live.calls proposed
          (executor_reply same_header live.start.given (record e { machine = live.machine }) (next_call next live.start.given some))) steps
          (calls_simulate same_header next live.start.given (requests_carried live.read) (arrivals_carried live.read) live.calls proposed (record e { machine = live.machine }) reflexive fits kinds s)))

pub replay_turns : ReplaysTurn
replay_turns same_header next live proposed e reflexive queued x start r at =
    let stands = replay_stands next live proposed e x r in
    turns same_header next live proposed e reflexive x start r (stands.fits queued) stands.kinds at x.machine
