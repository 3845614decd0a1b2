-- An attempt that replays a journal, whoever feeds it, with the bodies of its runs, between turns. No store and no list of its events is
-- spoken of: the journal, what has come behind it, and what the attempt itself has asked for are all.
use Rattle.std.specs.Prelude.{◌≡◌, ◌≤◌, ◌⊎◌, ℕ, true, List, [], ◌∷◌, ◌++◌, map}
use Rattle.std.specs.List.{AllByRecursion}
use Rattle.journal_model.specs.declared.value.NonEmptyValue.{NonEmptyValue}
use Rattle.journal_model.specs.Notification.{Bytes, Arrival}
use Rattle.journal_model.specs.Request.{Request}
use Rattle.journal_model.specs.Run.{Handler, run, BeginsRun}
use Rattle.journal_model.specs.Attempt.{input_bytes}
use Rattle.run_laws.specs.Keys.{HasTextKeys}
use Rattle.input_laws.specs.Message.{InputMessage, CarriesInput, CarriesRequest, CarriesArrival, CarriesOutcome, piece_of, arrivals_carried, requests_carried}
use Rattle.input_laws.specs.CompletionsOnce.{ComeWhenAsked}
use Rattle.live_laws.specs.StartFrame.{AttemptStart, ShowsStart}
use Rattle.live_laws.specs.MachinePosition.{IsMachineAt}
use Rattle.live_laws.specs.AskedArrivals.{GiveIds, keys_are_text, are_by_text}
use Rattle.live_laws.specs.AttemptWithMachine.{AttemptInRun, HoldsStart, HasReadJournal}
use Rattle.body_laws.specs.Bodies.{Executor, acknowledges}
use Rattle.body_laws.specs.BodySimulation.{Among, has_arrived, count_proposed, BodiesStand}
use Rattle.replay_laws.specs.Outcomes.{runs}

-- ---- what it is begun with

-- a message of a journal: a request or an arrival
abbrev pub IsOfJournal : InputMessage → Type 0
IsOfJournal (CarriesRequest request) = Unit {0}
IsOfJournal (CarriesArrival type arrival) = Unit {0}
IsOfJournal _ = ⊥

-- A journal can be replayed by a handler whose run it begins, over its own arrivals; its requests are by keys that are text, and so is the
-- state that the run begins with. The start frame shows what the requests have made of that state, or no state.
pub record CanReplay (next : Handler) (start : AttemptStart) : Type 0 where
  pub shows : ShowsStart start
  pub of_run : BeginsRun next start.given (arrivals_carried start.journal) (requests_carried start.journal)
  pub journal : AllByRecursion IsOfJournal start.journal
  pub texts : are_by_text (requests_carried start.journal) ≡ true
  pub keys : HasTextKeys start.given.start.entries

-- ---- what comes

-- a message behind the journal: an arrival, or the acknowledgement of an outcome that the attempt has proposed
abbrev pub IsBehind : ℕ → List (ℕ × NonEmptyValue) → InputMessage → Type 0
IsBehind version proposed (CarriesArrival type arrival) = Unit {0}
IsBehind version proposed (CarriesOutcome number value) = (acknowledges version ≡ true) × Among (number, value) proposed
IsBehind version proposed _ = ⊥

-- What has come is of the kinds that were asked for, by the first of the requests that the attempt has matched or made: for a completion at
-- most one result, after it was asked for; for the invocation id of a call and of a send nothing but invocation ids; state keys that are
-- text; and for a run nothing but what the journal had of it, or what the attempt has proposed.
pub record ComesAsAsked (journal : List Arrival) (proposed : List (ℕ × NonEmptyValue)) (asked : List Request) (arrivals : List Arrival) : Type 0 where
  pub first : List Request
  pub more : List Request
  pub parts : first ++ more ≡ asked
  pub come : ComeWhenAsked first arrivals
  pub ids : GiveIds first arrivals
  pub keys : keys_are_text arrivals ≡ true
  pub own : (n : ℕ) → runs n first ≡ true → has_arrived arrivals n ≡ true → (has_arrived journal n ≡ true) ⊎ (1 ≤ count_proposed n proposed)

-- ---- between turns

-- what is asked for, once its input was read: the requests of the journal, and what it has written
abbrev pub requests_asked_by : AttemptInRun → List Request
requests_asked_by live = requests_carried (live.read ++ live.unread) ++ live.machine.written

-- The attempt has proposed these outcomes. Its input is the journal and what comes behind it, as it was asked for, of which it holds the next
-- bytes; its machine stands among these messages, and its bodies with the run over those that it has read. It was asked something only once
-- it has read its journal, and what it has written is by keys that are text.
pub record IsReplayed (next : Handler) (live : AttemptInRun) (proposed : List (ℕ × NonEmptyValue)) (e : Executor) : Type 0 where
  pub start : CanReplay next live.start
  pub later : List InputMessage
  pub parts : live.read ++ live.unread ≡ CarriesInput live.start.new ∷ (live.start.journal ++ later)
  pub later_are : AllByRecursion (IsBehind live.start.given.version proposed) later
  pub comes : ComesAsAsked (arrivals_carried live.start.journal) proposed (requests_asked_by live) (arrivals_carried (live.read ++ live.unread))
  pub holds : HoldsStart live
  pub rest : Bytes
  pub bytes : live.held ++ rest ≡ input_bytes (map piece_of live.unread)
  pub stands : IsMachineAt next live.start.given live.start.shown live.read live.unread live.calls live.machine
  pub machine : e.machine ≡ live.machine
  pub idle : e.executing ≡ []
  pub bodies : BodiesStand live.start.given.version (run next live.start.given (arrivals_carried live.read) live.calls).steps (arrivals_carried live.read) proposed e
  pub asked : (live.calls ≡ 0) ⊎ HasReadJournal live
  pub texts : are_by_text live.machine.written ≡ true
