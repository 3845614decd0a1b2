-- A whole attempt: it reads the entries of the journal, then takes turns while more arrivals come.
use Rattle.std.specs.Prelude.{false, ◌==◌, map, Some, ◌≡◌, ◌≤◌, ℕ, Bool, true, List, [], ◌∷◌, ◌++◌, length}
use Rattle.std.specs.List.{list_any, list_all}
use Rattle.std.specs.Str.{is_utf8}
use Rattle.journal_model.specs.Cause.{is_invocation_id, keys_of}
use Rattle.journal_model.specs.declared.notification.NotificationId.TheVariants.{CompletionId}
use Rattle.journal_model.specs.Notification.{Arrival}
use Rattle.journal_model.specs.declared.call.Answer.{Answer}
use Rattle.journal_model.specs.declared.call.Call.{Call}
use Rattle.journal_model.specs.Request.{Request}
use Rattle.journal_model.specs.State.{StartState}
use Rattle.journal_model.specs.History.{answers_of}
use Rattle.journal_model.specs.Journal.{asks_for, Entry, Recorded, Arrived, requests_in, arrivals_in}
use Rattle.journal_model.specs.Run.{Handler, Invocation, Ending, RefusedCall, Ended, run, run_requests, IsBeginning}
use Rattle.attempt_model.specs.Machine.{Machine, machine_at_start, with_arrival, Fault, Refused, Reply, Answered, AwaitsTree, AwaitsChild, Finished, FailedBy, reply_to}
use Rattle.attempt_model.specs.Results.{are_keys_text}
use Rattle.journal_model.specs.Delivery.{results_for}
use Rattle.attempt_model.specs.Simulation.{IsShown, Stands, ComesOnce, AreOfKind, Fits, AreReflexive}

-- an entry of the journal is read: a request is to be matched, an arrival waits in line, wherever they stand among one another
abbrev pub with_entry : Machine → Entry → Machine
with_entry m (Recorded request) = record m { left = m.left ++ Some request ∷ [] }
with_entry m (Arrived arrival) = with_arrival m arrival

abbrev pub with_entries : Machine → List Entry → Machine
with_entries m [] = m
with_entries m (entry ∷ entries) = with_entries (with_entry m entry) entries

-- however requests and arrivals stand among one another, the machine begins with all of both
abbrev pub ReadsJournal : Type 0
ReadsJournal = (start : StartState) (entries : List Entry) → with_entries (machine_at_start start [] []) entries ≡ machine_at_start start (map Some (requests_in entries)) (arrivals_in entries)

-- what happens to an attempt whose journal was read
pub data Happening : Type 0 where
  Comes : Arrival → Happening
  Turns : Happening

-- the attempt has given these answers, or is over
pub data AttemptState : Type 0 where
  Live : List Answer → Machine → AttemptState
  Over : Reply → AttemptState

abbrev pub attempt_with_arrival : Arrival → AttemptState → AttemptState
attempt_with_arrival arrival (Live answers m) = Live answers (with_arrival m arrival)
attempt_with_arrival arrival (Over reply) = Over reply

abbrev pub attempt_after_reply : List Answer → Reply → AttemptState
attempt_after_reply answers (Answered answer m) = Live (answers ++ answer ∷ []) m
attempt_after_reply answers (AwaitsTree tree m) = Live answers m
attempt_after_reply answers (AwaitsChild child m) = Live answers m
attempt_after_reply answers (Finished m) = Over (Finished m)
attempt_after_reply answers (FailedBy fault) = Over (FailedBy fault)

-- the arrivals that were read, the last happening first
abbrev pub arrivals_after : List Arrival → List Happening → List Arrival
arrivals_after first [] = first
arrivals_after first (Comes arrival ∷ earlier) = arrivals_after first earlier ++ arrival ∷ []
arrivals_after first (Turns ∷ earlier) = arrivals_after first earlier

module _ (same_header : Call → Request → Request → Bool) (handler : Handler) (given : Invocation) where
  -- a turn asks the handler, whose answers so far are these, and carries its call out; an await that waits is asked again
  abbrev pub attempt_after_turn : AttemptState → AttemptState
  attempt_after_turn (Live answers m) = attempt_after_reply answers (reply_to same_header given m (handler given.input answers))
  attempt_after_turn (Over reply) = Over reply

  abbrev pub attempt_after : Machine → List Happening → AttemptState
  attempt_after m [] = Live [] m
  attempt_after m (Comes arrival ∷ earlier) = attempt_with_arrival arrival (attempt_after m earlier)
  attempt_after m (Turns ∷ earlier) = attempt_after_turn (attempt_after m earlier)

-- its answers are the run's first ones over the arrivals that were read
pub record AnswersFirst (handler : Handler) (given : Invocation) (journal : List Request) (arrivals : List Arrival) (answers : List Answer) (m : Machine) : Type 0 where
  pub calls : ℕ
  pub stands : Stands handler given journal arrivals calls m
  pub answered : answers ≡ answers_of (run handler given arrivals calls).steps
  -- what it has matched and written is what the run has requested, and what is left is what else was recorded
  pub left : List Request
  pub are_requests : m.left ≡ map Some left
  pub requested : run_requests handler given arrivals calls ++ left ≡ journal ++ m.written

-- it ended where the run over the arrivals that were read by then ends, with exactly its requests
pub record EndedAs (handler : Handler) (given : Invocation) (journal : List Request) (arrivals : List Arrival) (m : Machine) : Type 0 where
  pub some : List Arrival
  pub later : List Arrival
  pub read : arrivals ≡ some ++ later
  pub calls : ℕ
  pub ended : (run handler given some calls).ending ≡ Ended
  pub exactly : run_requests handler given some calls ≡ journal ++ m.written

abbrev pub IsRefusal : Fault → Ending → Type 0
IsRefusal (Refused refusal) ending = ending ≡ RefusedCall refusal
IsRefusal _ ending = ⊥

-- it failed by a call that the run over the arrivals that were read by then has refused
pub record RefusedAs (handler : Handler) (given : Invocation) (arrivals : List Arrival) (fault : Fault) : Type 0 where
  pub some : List Arrival
  pub later : List Arrival
  pub read : arrivals ≡ some ++ later
  pub calls : ℕ
  pub refused : IsRefusal fault (run handler given some calls).ending

abbrev pub AgreesWithRun : Handler → Invocation → List Request → List Arrival → AttemptState → Type 0
AgreesWithRun handler given journal arrivals (Live answers m) = AnswersFirst handler given journal arrivals answers m
AgreesWithRun handler given journal arrivals (Over (Finished m)) = EndedAs handler given journal arrivals m
AgreesWithRun handler given journal arrivals (Over (FailedBy fault)) = RefusedAs handler given arrivals fault
AgreesWithRun handler given journal arrivals (Over (Answered answer m)) = ⊥
AgreesWithRun handler given journal arrivals (Over (AwaitsTree tree m)) = ⊥
AgreesWithRun handler given journal arrivals (Over (AwaitsChild child m)) = ⊥

-- any number of turns between any arrivals: the attempt follows the run over what was read, whatever part of the run was recorded before
abbrev pub AttemptsFollow : Type 0
AttemptsFollow = (same_header : Call → Request → Request → Bool) (handler : Handler) (given : Invocation) (start : StartState) (journal : List Request) (first : List Arrival) (happened : List Happening)
    → AreReflexive same_header → IsShown given.start journal start → Fits handler given journal first → ComesOnce handler given (arrivals_after first happened)
    → ((some later : List Arrival) → some ++ later ≡ arrivals_after first happened → (calls : ℕ) → AreOfKind handler given some calls)
    → AgreesWithRun handler given journal (arrivals_after first happened) (attempt_after same_header handler given (machine_at_start start (map Some journal) first) happened)

-- where what has come came once, and was asked for by requests that are a beginning of the run's, each completion comes once, known reads included
abbrev pub OnceByAsking : Type 0
OnceByAsking = (handler : Handler) (given : Invocation) (requests : List Request) (arrivals : List Arrival) (some : ℕ) → IsBeginning requests (run_requests handler given arrivals some)
    → ((n : ℕ) → length (results_for arrivals (CompletionId n)) ≤ 1) → ((n : ℕ) → 1 ≤ length (results_for arrivals (CompletionId n)) → list_any (asks_for n) requests ≡ true)
    → ComesOnce handler given arrivals

-- whether a completion gives the invocation id of a call or a send
abbrev pub gives_id : ℕ → Request → Bool
gives_id n (Request.CallService call m result name) = m == n
gives_id n (Request.OneWayCall call time m name) = m == n
gives_id n _ = false

-- arrivals of the kinds that a store lets in, by what so many calls have asked for: for a call's or a send's invocation id comes one, and state
-- keys that come or were asked for are text
pub record ComeAsAsked (handler : Handler) (given : Invocation) (arrivals : List Arrival) (calls : ℕ) : Type 0 where
  pub ids : (n : ℕ) → list_any (gives_id n) (run_requests handler given arrivals calls) ≡ true → list_all is_invocation_id (results_for arrivals (CompletionId n)) ≡ true
  pub keys : list_all (λ arrival. are_keys_text arrival.result) arrivals ≡ true
  pub known : list_all (λ request. list_all is_utf8 (keys_of request)) (run_requests handler given arrivals calls) ≡ true

-- so what comes for a child is an invocation id, and keys that are taken are text
abbrev pub KindsByAsking : Type 0
KindsByAsking = (handler : Handler) (given : Invocation) (arrivals : List Arrival) (calls : ℕ) → ComeAsAsked handler given arrivals calls → AreOfKind handler given arrivals calls
