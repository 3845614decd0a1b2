-- The messages of an attempt's input: which of them are waited for, and what the abstract machine is with them.
use Rattle.std.proofs.Common.{◌≡◌, ◌∙◌, arith, ℕ, zero, suc, ◌+◌, ◌-◌, ◌<◌, Bool, true, List, [], ◌∷◌, ◌++◌, length, Option, None, if◌then◌else◌, refl, sym, ap, subst}
use Rattle.std.specs.Prelude.{nat_lt}
use Rattle.std.specs.List.{AllByRecursion}
use Rattle.std.proofs.lemmas.Bool.{lt-ltb}
use Rattle.journal_model.specs.Request.{Request}
use Rattle.journal_model.specs.Value.{result_of_value}
use Rattle.journal_model.specs.Journal.{Recorded, completion}
use Rattle.input_laws.specs.Message.{InputMessage, CarriesInput, CarriesRequest, CarriesArrival, CarriesOutcome}
use Rattle.attempt_model.specs.Machine.{Machine, with_arrival}
use Rattle.attempt_model.specs.Attempts.{with_entry}
use Rattle.live_laws.specs.MachinePosition.{with_messages}
use Rattle.vm_start.specs.declared.phase.Phase.{Phase}
use Rattle.vm_start.specs.declared.phase.Phase.TheVariants as phases
use Rattle.vm_input_laws.specs.Messages.{IsWaitedFor, phase_then}
use Rattle.vm_input_laws.specs.InputMessages.{gathered_all, phase_behind, AreWaitedFor}
use Rattle.vm_input_laws.proofs.Inputs.{stays_active}
use Rattle.vm_input_laws.specs.InputPhases.{IsEntry, IsArrival, IsInputOf}
use Rattle.live_laws.specs.StartFrame.{AttemptStart}

pub all_behind : (P : InputMessage → Type 0) (some more : List InputMessage) → AllByRecursion P (some ++ more) → AllByRecursion P more
all_behind P [] more all = all
all_behind P (one ∷ some) more all = all_behind P some more all.1

all_joined : (P : InputMessage → Type 0) (some more : List InputMessage) → AllByRecursion P some → AllByRecursion P more → AllByRecursion P (some ++ more)
all_joined P [] more all others = others
all_joined P (one ∷ some) more all others = (all.0, all_joined P some more all.1 others)

-- any message but the input, and any but an acknowledgement
abbrev IsBehindInput : InputMessage → Type 0
IsBehindInput (CarriesInput new) = ⊥
IsBehindInput _ = Unit {0}

abbrev IsRecorded : InputMessage → Type 0
IsRecorded (CarriesOutcome number value) = ⊥
IsRecorded _ = Unit {0}

entries_behind : (messages : List InputMessage) → AllByRecursion IsEntry messages → AllByRecursion IsBehindInput messages
entries_behind [] all = tt
entries_behind (CarriesRequest request ∷ messages) all = (tt, entries_behind messages all.1)
entries_behind (CarriesArrival ty arrival ∷ messages) all = (tt, entries_behind messages all.1)
entries_behind (_ ∷ messages) all = absurd all.0

arrivals_behind : (messages : List InputMessage) → AllByRecursion IsArrival messages → AllByRecursion IsBehindInput messages
arrivals_behind [] all = tt
arrivals_behind (CarriesArrival ty arrival ∷ messages) all = (tt, arrivals_behind messages all.1)
arrivals_behind (CarriesOutcome number value ∷ messages) all = (tt, arrivals_behind messages all.1)
arrivals_behind (_ ∷ messages) all = absurd all.0

entries_recorded : (messages : List InputMessage) → AllByRecursion IsEntry messages → AllByRecursion IsRecorded messages
entries_recorded [] all = tt
entries_recorded (CarriesRequest request ∷ messages) all = (tt, entries_recorded messages all.1)
entries_recorded (CarriesArrival ty arrival ∷ messages) all = (tt, entries_recorded messages all.1)
entries_recorded (_ ∷ messages) all = absurd all.0

-- ---- the phase

-- where so many entries are waited for
abbrev waiting : ℕ → Phase
waiting zero = phases.Active
waiting (suc left) = phases.WaitingReplayEntries (suc left)

one_less : (left : ℕ) → phase_then (phases.WaitingReplayEntries (suc left)) ≡ waiting left
one_less zero = refl
one_less (suc left) =
    let more : nat_lt 1 (suc (suc left)) ≡ true = lt-ltb 1 (suc (suc left)) (omega arith) in
    let less : suc (suc left) - 1 ≡ suc left = omega arith in
    ap (λ (b : Bool). if b then phases.WaitingReplayEntries (suc (suc left) - 1) else phases.Active) more ∙ ap (λ (n : ℕ). phases.WaitingReplayEntries n) less

is_entry_waited_for : (one : InputMessage) (left : ℕ) → IsRecorded one → IsWaitedFor one (phases.WaitingReplayEntries left)
is_entry_waited_for (CarriesInput new) left recorded = tt
is_entry_waited_for (CarriesRequest request) left recorded = tt
is_entry_waited_for (CarriesArrival ty arrival) left recorded = tt
is_entry_waited_for (CarriesOutcome number value) left recorded = absurd recorded

pub arrivals_waited_for : (later : List InputMessage) → AllByRecursion IsArrival later → AreWaitedFor later phases.Active
arrivals_waited_for [] all = tt
arrivals_waited_for (CarriesArrival ty arrival ∷ later) all = (tt, arrivals_waited_for later all.1)
arrivals_waited_for (CarriesOutcome number value ∷ later) all = (tt, arrivals_waited_for later all.1)
arrivals_waited_for (_ ∷ later) all = absurd all.0

all_waited_for : (entries later : List InputMessage) → AllByRecursion IsRecorded entries → AllByRecursion IsArrival later → AreWaitedFor (entries ++ later) (waiting (length entries))
all_waited_for [] later recorded all = arrivals_waited_for later all
all_waited_for (one ∷ entries) later recorded all = (
  is_entry_waited_for one (suc (length entries)) recorded.0,
  subst (λ (p : Phase). AreWaitedFor (entries ++ later) p) (sym (one_less (length entries))) (all_waited_for entries later recorded.1 all),
)

active_behind : (entries later : List InputMessage) → phase_behind (entries ++ later) (waiting (length entries)) ≡ phases.Active
active_behind [] later = stays_active later
active_behind (one ∷ entries) later = ap (phase_behind (entries ++ later)) (one_less (length entries)) ∙ active_behind entries later

pub waited_behind : (some still : List InputMessage) (phase : Phase) → AreWaitedFor (some ++ still) phase → AreWaitedFor still (phase_behind some phase)
waited_behind [] still phase h = h
waited_behind (one ∷ some) still phase h = waited_behind some still (phase_then phase) h.1

one_more : (n : ℕ) → suc n ≡ 1 + n
one_more n = omega arith

module _ (start : AttemptStart) (messages : List InputMessage) (is : IsInputOf start messages) where
  pub input_waited_for : AreWaitedFor messages (phases.WaitingReplayEntries (1 + length start.journal))
  input_waited_for =
      subst (λ (all : List InputMessage). AreWaitedFor all (phases.WaitingReplayEntries (1 + length start.journal))) (sym is.parts)
      (subst (λ (n : ℕ). AreWaitedFor (CarriesInput start.new ∷ (start.journal ++ is.later)) (phases.WaitingReplayEntries n)) (one_more (length start.journal))
      (all_waited_for (CarriesInput start.new ∷ start.journal) is.later (tt, entries_recorded start.journal is.journal) is.arrivals))

  pub input_active : phase_behind messages (phases.WaitingReplayEntries (1 + length start.journal)) ≡ phases.Active
  input_active =
      ap (λ (all : List InputMessage). phase_behind all (phases.WaitingReplayEntries (1 + length start.journal))) is.parts
      ∙ ap (λ (n : ℕ). phase_behind (CarriesInput start.new ∷ (start.journal ++ is.later)) (phases.WaitingReplayEntries n)) (sym (one_more (length start.journal)))
      ∙ active_behind (CarriesInput start.new ∷ start.journal) is.later

  pub input_entries : AllByRecursion IsBehindInput (start.journal ++ is.later)
  input_entries = all_joined IsBehindInput start.journal is.later (entries_behind start.journal is.journal) (arrivals_behind is.later is.arrivals)

-- ---- the abstract machine

-- with these requests left to match
abbrev pub with_left : List (Option Request) → Machine → Machine
with_left left m = record m { left = left }

pub entries_gathered : (entries : List InputMessage) (m : Machine) → AllByRecursion IsBehindInput entries
    → gathered_all entries (with_left (None ∷ m.left) m) ≡ with_left (None ∷ (with_messages m entries).left) (with_messages m entries)
entries_gathered [] m all = refl
entries_gathered (CarriesRequest request ∷ entries) m all = entries_gathered entries (with_entry m (Recorded request)) all.1
entries_gathered (CarriesArrival ty arrival ∷ entries) m all = entries_gathered entries (with_arrival m arrival) all.1
entries_gathered (CarriesOutcome number value ∷ entries) m all = entries_gathered entries (with_arrival m (completion number (result_of_value value))) all.1
entries_gathered (_ ∷ entries) m all = absurd all.0

pub arrivals_gathered : (arrivals : List InputMessage) (m : Machine) → AllByRecursion IsArrival arrivals → gathered_all arrivals m ≡ with_messages m arrivals
arrivals_gathered [] m all = refl
arrivals_gathered (CarriesArrival ty arrival ∷ arrivals) m all = arrivals_gathered arrivals (with_arrival m arrival) all.1
arrivals_gathered (CarriesOutcome number value ∷ arrivals) m all = arrivals_gathered arrivals (with_arrival m (completion number (result_of_value value))) all.1
arrivals_gathered (_ ∷ arrivals) m all = absurd all.0

pub all_in_front : (P : InputMessage → Type 0) (some more : List InputMessage) → AllByRecursion P (some ++ more) → AllByRecursion P some
all_in_front P [] more all = tt
all_in_front P (one ∷ some) more all = (all.0, all_in_front P some more all.1)
