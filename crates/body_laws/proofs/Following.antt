-- A whole attempt follows the run, and executes its bodies.
use Rattle.std.proofs.Common.{map, Some, None, Option, ◌≡◌, refl, sym, ap, ◌∙◌, subst, ℕ, suc, ◌≤◌, arith, Bool, true, false, not, ◌&&◌, if◌then◌else◌, List, [], ◌∷◌, ◌++◌, append_assoc, append-nil, inr}
use Rattle.std.specs.List.{list_any}
use Rattle.journal_model.specs.declared.value.NonEmptyValue.{NonEmptyValue}
use Rattle.journal_model.specs.Notification.{Arrival}
use Rattle.journal_model.specs.declared.call.Answer.{Answer}
use Rattle.journal_model.specs.declared.call.Call.{Call}
use Rattle.journal_model.specs.Value.{result_of_value}
use Rattle.journal_model.specs.Request.{Request}
use Rattle.journal_model.specs.State.{StartState}
use Rattle.journal_model.specs.History.{answers_of, requests_of}
use Rattle.journal_model.specs.Journal.{completion}
use Rattle.journal_model.specs.Run.{Handler, Invocation, Progress, run}
use Rattle.attempt_model.specs.Machine.{machine_at_start, Mismatch, UncompletedInReplay, EndInReplay, KeysNotText, ChildNotId, Refused, Reply, Answered, AwaitsTree, AwaitsChild, Finished, FailedBy, reply_to}
use Rattle.attempt_model.specs.Simulation.{IsShown, ComesOnce, AreOfKind, Fits, next_call, AreReflexive}
use Rattle.attempt_laws.proofs.Standing.{goes_same, fits_on}
use Rattle.attempt_laws.proofs.Following.{once-before}
use Rattle.body_laws.specs.Bodies.{Body, Executor, executor_over, without_body, reads_arrival, reads_outcome, has_handle, body_awaited, ExecutorReply, Answers, Executes, AwaitsTreeOf, AwaitsChildOf, Finishes, Fails, executes_or_awaits, reply_after, executor_reply, suspends, is_executing, proposing}
use Rattle.body_laws.specs.AttemptExecution.{BodyEnd, Proposes, FailsAttempt, Happening, Comes, Acknowledges, Closes, Turns, Attempting, AttemptState, Live, Over, Misled, attempt_with_arrival, attempt_told, attempt_acknowledged, attempt_closed, attempt_after_reply, waits_on, after_body, turn_reply, attempt_after_turn, attempt_after, arrivals_read, proposed_by, Suspended, Waiting, turn_after_body, turn_of_body}
use Rattle.body_laws.specs.BodySimulation.{count_proposed, StandsWithBodies, RepliesWithBodies}
use Rattle.body_laws.specs.Laws.{ComesAsCached, GoesOnWithBodies, OverAt, OverAs, AgreesWithBodies, MayCome, AllMayCome, TurnTells}
use Rattle.body_laws.proofs.Progress.{none-left}
use Rattle.body_laws.proofs.BodySimulation.{begins_with, reads, comes, proposes}
use Rattle.body_laws.proofs.Calling.{calls_simulate}

-- what a reply makes of the bodies that are being executed
abbrev Leaves : List Body → ExecutorReply → Type 0
Leaves executing (Answers answer e) = e.executing ≡ executing
Leaves executing (Executes body e) = e.executing ≡ executing ++ body ∷ []
Leaves executing (AwaitsTreeOf tree e) = e.executing ≡ executing
Leaves executing (AwaitsChildOf child e) = e.executing ≡ executing
Leaves executing (Finishes e) = Unit {0}
Leaves executing (Fails fault) = Unit {0}

leaves : (e : Executor) (call : Call) (reply : Reply) → Leaves e.executing (reply_after e call reply)
leaves e call (Answered answer m) = refl
leaves e call (AwaitsTree tree m) = by_body (body_awaited tree e.left)
  where
    by_body : (o : Option Body) → Leaves e.executing (executes_or_awaits tree (record e { machine = m }) o)
    by_body None = refl
    by_body (Some body) = refl
leaves e call (AwaitsChild child m) = refl
leaves e call (Finished m) = tt
leaves e call (FailedBy fault) = tt

both-first : (a b : Bool) → (a && b) ≡ true → a ≡ true
both-first true b e = refl
both-first false b e = cc

module _ (same_header : Call → Request → Request → Bool) (reflexive : AreReflexive same_header) (handler : Handler) (given : Invocation) (start : StartState) (journal : List Request) (first : List Arrival)
    (shows : IsShown given.start journal start) where
  kinds_before : (arrivals : List Arrival) (arrival : Arrival) → ((some later : List Arrival) → some ++ later ≡ arrivals ++ arrival ∷ [] → (calls : ℕ) → AreOfKind handler given some calls)
      → (some later : List Arrival) → some ++ later ≡ arrivals → (calls : ℕ) → AreOfKind handler given some calls
  kinds_before arrivals arrival kinds some later e = kinds some (later ++ arrival ∷ []) (sym (append_assoc some later (arrival ∷ [])) ∙ ap (λ (xs : List Arrival). xs ++ arrival ∷ []) e)

  -- behind all that happened, what is fed fits
  fits_after : (happened : List Happening) → Fits handler given journal first → ComesOnce handler given (arrivals_read first happened) → Fits handler given journal (arrivals_read first happened)
  fits_after [] fits once = fits
  fits_after (Comes arrival ∷ earlier) fits once =
      fits_on handler given journal (arrivals_read first earlier) (arrival ∷ [])
      (fits_after earlier fits (once-before handler given (arrivals_read first earlier) (arrival ∷ []) once)) once
  fits_after (Acknowledges n value ∷ earlier) fits once =
      fits_on handler given journal (arrivals_read first earlier) (completion n (result_of_value value) ∷ [])
      (fits_after earlier fits (once-before handler given (arrivals_read first earlier) (completion n (result_of_value value) ∷ []) once)) once
  fits_after (Closes ∷ earlier) fits once = fits_after earlier fits once
  fits_after (Turns end ∷ earlier) fits once = fits_after earlier fits once

  goes_by : (arrivals : List Arrival) (calls : ℕ) (a : Attempting) → StandsWithBodies handler given journal arrivals calls a.proposed a.executor
      → a.answers ≡ answers_of (run handler given arrivals calls).steps → a.executor.executing ≡ [] → GoesOnWithBodies handler given journal arrivals a
  goes_by arrivals calls a at answered idle = record {
    first = record {
      calls = calls;
      stands = at.stands;
      answered = answered;
      left = at.stands.requests.left;
      are_requests = at.stands.requests.are_requests;
      requested = ap (λ (p : Progress). requests_of p.steps ++ at.stands.requests.left) at.stands.going ∙ at.stands.requests.requests;
    };
    at = at;
    idle = idle;
  }

  -- ---- what comes

  later_over : {Says : List Arrival → ℕ → Type 0} (arrivals : List Arrival) (arrival : Arrival) → OverAt arrivals Says → OverAt (arrivals ++ arrival ∷ []) Says
  later_over arrivals arrival o = record {
    some = o.some;
    later = o.later ++ arrival ∷ [];
    read = ap (λ (xs : List Arrival). xs ++ arrival ∷ []) o.read ∙ append_assoc o.some o.later (arrival ∷ []);
    calls = o.calls;
    says = o.says;
  }

  over_more : (arrivals : List Arrival) (arrival : Arrival) (a : Attempting) (reply : ExecutorReply) → OverAs handler given journal arrivals a reply → OverAs handler given journal (arrivals ++ arrival ∷ []) a reply
  over_more arrivals arrival a (Answers answer e) o = absurd o
  over_more arrivals arrival a (Executes body e) o = later_over arrivals arrival o
  over_more arrivals arrival a (AwaitsTreeOf tree e) o = (o.0, later_over arrivals arrival o.1)
  over_more arrivals arrival a (AwaitsChildOf child e) o = (o.0, later_over arrivals arrival o.1)
  over_more arrivals arrival a (Finishes e) o = record {
    some = o.some;
    later = o.later ++ arrival ∷ [];
    read = ap (λ (xs : List Arrival). xs ++ arrival ∷ []) o.read ∙ append_assoc o.some o.later (arrival ∷ []);
    calls = o.calls;
    ended = o.ended;
    exactly = o.exactly;
  }
  over_more arrivals arrival a (Fails fault) o = record {
    some = o.some;
    later = o.later ++ arrival ∷ [];
    read = ap (λ (xs : List Arrival). xs ++ arrival ∷ []) o.read ∙ append_assoc o.some o.later (arrival ∷ []);
    calls = o.calls;
    refused = o.refused;
  }

  answers_same : (arrivals : List Arrival) (arrival : Arrival) (a : Attempting) (f : GoesOnWithBodies handler given journal arrivals a)
      → a.answers ≡ answers_of (run handler given (arrivals ++ arrival ∷ []) f.first.calls).steps
  answers_same arrivals arrival a f =
      f.first.answered
      ∙ ap (λ (p : Progress). answers_of p.steps) (sym (goes_same handler given journal arrivals arrival f.first.calls a.executor.machine f.at.stands.steps f.at.stands.going))

  one_more : (arrivals : List Arrival) (arrival : Arrival) (state : AttemptState) → MayCome given.version (Comes arrival) state → AgreesWithBodies handler given journal arrivals state
      → AgreesWithBodies handler given journal (arrivals ++ arrival ∷ []) (attempt_with_arrival arrival state)
  one_more arrivals arrival (Live a) may f =
      goes_by (arrivals ++ arrival ∷ []) f.first.calls (record a { executor = reads_arrival a.executor arrival })
      (reads handler given journal arrivals f.first.calls a.proposed a.executor arrival may f.at) (answers_same arrivals arrival a f) f.idle
  one_more arrivals arrival (Over a reply) may f = (f.0, over_more arrivals arrival a reply f.1)
  one_more arrivals arrival (Misled a) may f = f

  one_told : (arrivals : List Arrival) (n : ℕ) (value : NonEmptyValue) → ComesOnce handler given (arrivals ++ completion n (result_of_value value) ∷ [])
      → (state : AttemptState) → MayCome given.version (Acknowledges n value) state → AgreesWithBodies handler given journal arrivals state
      → AgreesWithBodies handler given journal (arrivals ++ completion n (result_of_value value) ∷ []) (attempt_acknowledged n state)
  one_told arrivals n value once (Live a) may f =
      subst (λ (o : Option Executor). AgreesWithBodies handler given journal (arrivals ++ completion n (result_of_value value) ∷ []) (attempt_told a o)) (sym told.told)
      (goes_by (arrivals ++ completion n (result_of_value value) ∷ []) f.first.calls (record a { executor = reads_outcome a.executor n value }) told.stands
      (answers_same arrivals (completion n (result_of_value value)) a f) f.idle)
    where
      told : ComesAsCached handler given journal arrivals f.first.calls a.proposed a.executor n value
      told = comes handler given journal arrivals f.first.calls a.proposed a.executor n value may.0 may.1 once f.at
  one_told arrivals n value once (Over a reply) may f = (f.0, over_more arrivals (completion n (result_of_value value)) a reply f.1)
  one_told arrivals n value once (Misled a) may f = f

  closes : (arrivals : List Arrival) (state : AttemptState) → AgreesWithBodies handler given journal arrivals state → AgreesWithBodies handler given journal arrivals (attempt_closed state)
  closes arrivals (Live a) f = goes_by arrivals f.first.calls (record a { is_closed = true }) f.at f.first.answered f.idle
  closes arrivals (Over a reply) f = f
  closes arrivals (Misled a) f = f

  -- ---- a turn

  module _ (arrivals : List Arrival) (end : BodyEnd) (a : Attempting) (f : GoesOnWithBodies handler given journal arrivals a) where
    abbrev calls : ℕ
    calls = f.first.calls

    once : (n : ℕ) → count_proposed n a.proposed ≤ 1
    once n = let h = f.at.bodies.once n in omega (arith, h)

    now : {Says : List Arrival → ℕ → Type 0} → Says arrivals f.first.calls → OverAt arrivals Says
    now says = record { some = arrivals; later = []; read = sym (append-nil arrivals); calls = f.first.calls; says = says }

    by_reply : (reply : ExecutorReply) → RepliesWithBodies handler given journal arrivals f.first.calls a.proposed reply → Leaves a.executor.executing reply
        → AgreesWithBodies handler given journal arrivals (attempt_after_reply given.version end a reply)
    by_reply (Answers answer e) r l =
        goes_by arrivals (suc f.first.calls) (record { answers = a.answers ++ answer ∷ []; proposed = a.proposed; executor = e; is_closed = a.is_closed })
        (record { stands = r.answers.stands; bodies = r.bodies }) (ap (λ (some : List Answer). some ++ answer ∷ []) f.first.answered ∙ sym r.answers.answers) (l ∙ f.idle)
    by_reply (Executes body e) r l = by_end end
      where
        stands : StandsWithBodies handler given journal arrivals f.first.calls a.proposed e
        stands = record { stands = r.waits.stands; bodies = r.bodies }

        idle : e.executing ≡ [] ++ body ∷ []
        idle = l ∙ ap (λ (some : List Body). some ++ body ∷ []) f.idle

        by_end : (some : BodyEnd) → AgreesWithBodies handler given journal arrivals (after_body given.version a body e some)
        by_end (Proposes value) =
            goes_by arrivals f.first.calls (record { answers = a.answers; proposed = a.proposed ++ (body.completion, value) ∷ []; executor = proposing given.version e body value; is_closed = a.is_closed })
            (proposes handler given journal arrivals f.first.calls a.proposed e body value (inr r.executing) stands) f.first.answered
            (ap (λ (some : List Body). without_body body some) idle ∙ none-left body [] refl)
        by_end (FailsAttempt failure) = (once, now r)
    by_reply (AwaitsTreeOf tree e) r l = by_suspends (suspends a.is_closed (AwaitsTreeOf tree e)) refl
      where
        by_suspends : (b : Bool) → suspends a.is_closed (AwaitsTreeOf tree e) ≡ b → AgreesWithBodies handler given journal arrivals (waits_on a (AwaitsTreeOf tree e) e b)
        by_suspends true g = (once, (both-first a.is_closed (not (is_executing tree e)) g, now r))
        by_suspends false g = goes_by arrivals f.first.calls (record a { executor = e }) (record { stands = r.waits.stands; bodies = r.bodies }) f.first.answered (l ∙ f.idle)
    by_reply (AwaitsChildOf child e) r l = by_suspends a.is_closed refl
      where
        by_suspends : (b : Bool) → a.is_closed ≡ b → AgreesWithBodies handler given journal arrivals (waits_on a (AwaitsChildOf child e) e b)
        by_suspends true g = (once, (g, now r))
        by_suspends false g = goes_by arrivals f.first.calls (record a { executor = e }) (record { stands = r.waits.stands; bodies = r.bodies }) f.first.answered (l ∙ f.idle)
    by_reply (Finishes e) r l = (once, record { some = arrivals; later = []; read = sym (append-nil arrivals); calls = suc f.first.calls; ended = r.ended; exactly = r.exactly })
    by_reply (Fails Mismatch) r l = absurd r
    by_reply (Fails UncompletedInReplay) r l = absurd r
    by_reply (Fails EndInReplay) r l = absurd r
    by_reply (Fails KeysNotText) r l = absurd r
    by_reply (Fails ChildNotId) r l = absurd r
    by_reply (Fails (Refused refusal)) r l = (once, record { some = arrivals; later = []; read = sym (append-nil arrivals); calls = suc f.first.calls; refused = r })

    turns : Fits handler given journal arrivals → AreOfKind handler given arrivals f.first.calls → AgreesWithBodies handler given journal arrivals (attempt_after_turn same_header handler given end (Live a))
    turns fits kinds =
        let same : a.answers ≡ answers_of f.at.stands.steps = f.first.answered ∙ ap (λ (p : Progress). answers_of p.steps) f.at.stands.going in
        subst (λ (some : List Answer). AgreesWithBodies handler given journal arrivals (attempt_after_reply given.version end a (executor_reply same_header given a.executor (handler given.input some)))) (sym same)
        (by_reply (executor_reply same_header given a.executor (next_call handler given f.at.stands.steps))
        (calls_simulate same_header handler given journal arrivals f.first.calls a.proposed a.executor reflexive fits kinds f.at)
        (leaves a.executor (next_call handler given f.at.stands.steps) (reply_to same_header given a.executor.machine (next_call handler given f.at.stands.steps))))

  one_turn : (arrivals : List Arrival) (end : BodyEnd) → Fits handler given journal arrivals → ((calls : ℕ) → AreOfKind handler given arrivals calls) → (state : AttemptState) → AgreesWithBodies handler given journal arrivals state
      → AgreesWithBodies handler given journal arrivals (attempt_after_turn same_header handler given end state)
  one_turn arrivals end fits kinds (Live a) f = turns arrivals end a f fits (kinds f.first.calls)
  one_turn arrivals end fits kinds (Over a reply) f = f
  one_turn arrivals end fits kinds (Misled a) f = f

  follows : (happened : List Happening) → Fits handler given journal first → ComesOnce handler given (arrivals_read first happened)
      → ((some later : List Arrival) → some ++ later ≡ arrivals_read first happened → (calls : ℕ) → AreOfKind handler given some calls)
      → AllMayCome same_header handler given (executor_over (machine_at_start start (map Some journal) first)) happened
      → AgreesWithBodies handler given journal (arrivals_read first happened) (attempt_after same_header handler given (executor_over (machine_at_start start (map Some journal) first)) happened)
  follows [] fits once kinds may =
      goes_by first 0 (record { answers = []; proposed = []; executor = executor_over (machine_at_start start (map Some journal) first); is_closed = false }) (begins_with handler given start journal first shows) refl refl
  follows (Comes arrival ∷ earlier) fits once kinds may =
      one_more (arrivals_read first earlier) arrival (attempt_after same_header handler given (executor_over (machine_at_start start (map Some journal) first)) earlier) may.0
      (follows earlier fits (once-before handler given (arrivals_read first earlier) (arrival ∷ []) once) (kinds_before (arrivals_read first earlier) arrival kinds) may.1)
  follows (Acknowledges n value ∷ earlier) fits once kinds may =
      one_told (arrivals_read first earlier) n value once (attempt_after same_header handler given (executor_over (machine_at_start start (map Some journal) first)) earlier) may.0
      (follows earlier fits (once-before handler given (arrivals_read first earlier) (completion n (result_of_value value) ∷ []) once) (kinds_before (arrivals_read first earlier) (completion n (result_of_value value)) kinds) may.1)
  follows (Closes ∷ earlier) fits once kinds may =
      closes (arrivals_read first earlier) (attempt_after same_header handler given (executor_over (machine_at_start start (map Some journal) first)) earlier) (follows earlier fits once kinds may.1)
  follows (Turns end ∷ earlier) fits once kinds may =
      one_turn (arrivals_read first earlier) end (fits_after earlier fits once) (kinds (arrivals_read first earlier) [] (append-nil (arrivals_read first earlier))) (attempt_after same_header handler given (executor_over (machine_at_start start (map Some journal) first)) earlier)
      (follows earlier fits once kinds may.1)

pub attempts_follow : (same_header : Call → Request → Request → Bool) (handler : Handler) (given : Invocation) (start : StartState) (journal : List Request) (first : List Arrival) (happened : List Happening)
    → AreReflexive same_header → IsShown given.start journal start → Fits handler given journal first → ComesOnce handler given (arrivals_read first happened)
    → ((some later : List Arrival) → some ++ later ≡ arrivals_read first happened → (calls : ℕ) → AreOfKind handler given some calls)
    → AllMayCome same_header handler given (executor_over (machine_at_start start (map Some journal) first)) happened
    → AgreesWithBodies handler given journal (arrivals_read first happened) (attempt_after same_header handler given (executor_over (machine_at_start start (map Some journal) first)) happened)
attempts_follow same_header handler given start journal first happened reflexive shows fits once kinds may =
    follows same_header reflexive handler given start journal first shows happened fits once kinds may

pub proposes_once : (handler : Handler) (given : Invocation) (journal : List Request) (arrivals : List Arrival) (state : AttemptState) → AgreesWithBodies handler given journal arrivals state
    → (n : ℕ) → count_proposed n (proposed_by state) ≤ 1
proposes_once handler given journal arrivals (Live a) f n = let h = f.at.bodies.once n in omega (arith, h)
proposes_once handler given journal arrivals (Over a reply) f n = f.0 n
proposes_once handler given journal arrivals (Misled a) f n = absurd f

-- ---- what a turn tells

module _ (same_header : Call → Request → Request → Bool) (reflexive : AreReflexive same_header) (handler : Handler) (given : Invocation) (journal : List Request) (arrivals : List Arrival)
    (a : Attempting) (end : BodyEnd) (fits : Fits handler given journal arrivals) (f : GoesOnWithBodies handler given journal arrivals a) (kinds : AreOfKind handler given arrivals f.first.calls) where
  abbrev Tells : ExecutorReply → Type 0
  Tells reply = TurnTells handler given journal arrivals f.first.calls a.proposed a.is_closed (turn_after_body end a.is_closed reply) reply

  tells : (reply : ExecutorReply) → RepliesWithBodies handler given journal arrivals f.first.calls a.proposed reply → Leaves a.executor.executing reply → Tells reply
  tells (Answers answer e) r l = r
  tells (Executes body e) r l = by_end end
    where
      by_end : (some : BodyEnd) → TurnTells handler given journal arrivals f.first.calls a.proposed a.is_closed (turn_of_body some) (Executes body e)
      by_end (Proposes value) = r
      by_end (FailsAttempt failure) = r
  tells (AwaitsTreeOf tree e) r l = by_closed a.is_closed refl (is_executing tree e) idle
    where
      idle : is_executing tree e ≡ false
      idle = ap (λ (some : List Body). list_any (λ body. has_handle body.handle tree) some) (l ∙ f.idle)

      by_closed : (b : Bool) → a.is_closed ≡ b → (c : Bool) → c ≡ false
          → TurnTells handler given journal arrivals f.first.calls a.proposed b (if b && not c then Suspended else Waiting) (AwaitsTreeOf tree e)
      by_closed true g true h = cc
      by_closed true g false h = (refl, r)
      by_closed false g c h = (refl, r)
  tells (AwaitsChildOf child e) r l = by_closed a.is_closed
    where
      by_closed : (b : Bool) → TurnTells handler given journal arrivals f.first.calls a.proposed b (if b then Suspended else Waiting) (AwaitsChildOf child e)
      by_closed true = (refl, r)
      by_closed false = (refl, r)
  tells (Finishes e) r l = r
  tells (Fails fault) r l = r

  pub turns_tell : TurnTells handler given journal arrivals f.first.calls a.proposed a.is_closed (turn_after_body end a.is_closed (turn_reply same_header handler given a)) (turn_reply same_header handler given a)
  turns_tell =
      let same : a.answers ≡ answers_of f.at.stands.steps = f.first.answered ∙ ap (λ (p : Progress). answers_of p.steps) f.at.stands.going in
      subst (λ (some : List Answer). TurnTells handler given journal arrivals f.first.calls a.proposed a.is_closed
      (turn_after_body end a.is_closed (executor_reply same_header given a.executor (handler given.input some))) (executor_reply same_header given a.executor (handler given.input some))) (sym same)
      (tells (executor_reply same_header given a.executor (next_call handler given f.at.stands.steps))
      (calls_simulate same_header handler given journal arrivals f.first.calls a.proposed a.executor reflexive fits kinds f.at)
      (leaves a.executor (next_call handler given f.at.stands.steps) (reply_to same_header given a.executor.machine (next_call handler given f.at.stands.steps))))
