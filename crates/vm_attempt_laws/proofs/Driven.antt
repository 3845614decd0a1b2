-- Calls see the machine whose input was answered, and what is known of it at the beginning.
use Rattle.std.proofs.Common.{◌≡◌, ◌∙◌, arith, Bool, List, [], ◌∷◌, Result, refl, sym, ap}
use Rattle.vm_attempt_laws.specs.Machine.{are_any, Written, MachineState, IsDriven}
use Rattle.vm_attempt_laws.specs.InputOfAttempt.{IsRunOf, start_told, Kind, HasStarted, AnswersInput}
use Rattle.vm_attempt_laws.specs.AttemptSimulation.{HasNumbers, kind_where}
use Rattle.vm_attempt_laws.specs.Words.{Error, version_number, Version, Input, Entry, Recorded, Arrived, StartState, Invocation, InputMessage, Machine, machine_at_start, with_arrival, with_entry, with_entries, AttemptStart, ShowsStart, entries_carried, with_messages, started_id, VMOptions}

-- ---- what was written

entries_written : (m : Machine) (entries : List Entry) → (with_entries m entries).written ≡ m.written
entries_written m [] = refl
entries_written m (Recorded request ∷ entries) = entries_written (with_entry m (Recorded request)) entries
entries_written m (Arrived arrival ∷ entries) = entries_written (with_arrival m arrival) entries

-- messages that are read write nothing
pub messages_written : (m : Machine) (messages : List InputMessage) → (with_messages m messages).written ≡ m.written
messages_written m messages = entries_written m (entries_carried messages)

-- ---- the machine whose input was answered

module _ (start : AttemptStart) (shows : ShowsStart start) (version : Version) (options : VMOptions) (is_closed : Bool) (m : Machine) (read : List InputMessage) (old : MachineState) (result : Result Input Error) (new : MachineState)
    (of_run : IsRunOf start version options) (h : HasStarted start (start_told start shows) (kind_where version options is_closed) read old)
    (a : AnswersInput start (kind_where version options is_closed) m old result new) where
  of_version : version_number new.version ≡ version_number version
  of_version = ap (λ (k : Kind). version_number k.version) a.asked.kind_is

  pub begins_driven : m.written ≡ [] → IsDriven start.given m new
  begins_driven unwritten = record {
    sees = a.asked.sees;
    phase = a.asked.phase;
    version = record {
      version = ap (λ (g : Invocation). g.version) of_run.given_is ∙ of_run.version_is ∙ sym of_version;
      cancellation =
          ap (λ (g : Invocation). g.options.implicit_cancellation) of_run.given_is
          ∙ sym (ap (λ (k : Kind). k.options.implicit_cancellation) a.asked.kind_is);
    };
    written = ap (λ (w : Written). w.version) a.written ∙ sym (ap (λ (k : Kind). k.version) a.asked.kind_is);
    commands = ap (λ (w : Written). w.has_commands) a.written ∙ sym (ap are_any unwritten);
    id =
        ap (λ (g : Invocation). g.input.invocation_id) of_run.given_is
        ∙ sym (ap (λ (vm : MachineState). started_id vm.start) a.others ∙ ap started_id h.start_is);
    reads = ap (λ (k : Kind). k.reads) a.asked.kind_is;
  }

-- ---- numbers

entries_number : (m : Machine) (entries : List Entry) → HasNumbers m → HasNumbers (with_entries m entries)
entries_number m [] h = h
entries_number m (Recorded request ∷ entries) h =
    entries_number (with_entry m (Recorded request)) entries (record { completions = h.completions; signals = h.signals; slots = h.slots; texts = h.texts; ids = h.ids })
entries_number m (Arrived arrival ∷ entries) h =
    entries_number (with_arrival m arrival) entries (record { completions = h.completions; signals = h.signals; slots = h.slots; texts = h.texts; ids = h.ids })

-- messages that are read take none
pub messages_number : (m : Machine) (messages : List InputMessage) → HasNumbers m → HasNumbers (with_messages m messages)
messages_number m messages h = entries_number m (entries_carried messages) h

pub numbers_begin : (shown : StartState) (messages : List InputMessage) → HasNumbers (with_messages (machine_at_start shown [] []) messages)
numbers_begin shown messages =
    messages_number (machine_at_start shown [] []) messages (record { completions = omega arith; signals = omega arith; slots = tt; texts = refl; ids = tt })
