-- A start is read, and the messages behind it, in any cut of their bytes.
use Rattle.std.proofs.Common.{◌≡◌, ◌⊎◌, inl, inr, ◌∙◌, ◌+◌, ℕ, Bool, true≢false, false, List, [], ◌∷◌, ◌++◌, map, length, append_assoc, Option, Some, None, Result, Ok, Err, refl, sym, ap, subst}
use Rattle.protocol_errors.specs.Error.{decoding_code}
use Rattle.protocol_stream.specs.ErrorText.{decoding_text}
use Rattle.protocol_records.specs.declared.start.StartMessage.{StartMessage}
use Rattle.protocol_stream.specs.Decoder.{ConsumesNext}
use Rattle.protocol_stream.specs.Frame.{message_of}
use Rattle.protocol_stream.specs.Item.{Item, item_at, message, unknown}
use Rattle.protocol_stream.specs.declared.decoder.DecodingError.{DecodingError}
use Rattle.protocol_stream.specs.declared.decoder.DecodingError.TheVariants.{UnknownMessageType, OutOfMemory}
use Rattle.protocol_stream.specs.declared.decoder.RawMessage.{RawMessage}
use Rattle.protocol_types.specs.declared.message_type.MessageType.TheVariants as types
use Rattle.journal_model.specs.Attempt.{input_bytes}
use Rattle.journal_model.specs.Headline.{shown_state}
use Rattle.journal_model.specs.Notification.{Bytes}
use Rattle.journal_model.specs.Start.{start_payload_of}
use Rattle.journal_model.specs.State.{StartState}
use Rattle.input_laws.specs.Message.{InputMessage, piece_of}
use Rattle.attempt_model.specs.Machine.{machine_at_start}
use Rattle.body_laws.specs.Bodies.{Executor}
use Rattle.live_laws.specs.StartFrame.{AttemptStart, ShowsStart}
use Rattle.vm_machine.specs.Causes.{TellsPlainError}
use Rattle.vm_machine.specs.StateBeforeInput.{Gathers}
use Rattle.vm_start.specs.declared.phase.Phase.{Phase}
use Rattle.vm_start.specs.declared.phase.Phase.TheVariants as phases
use Rattle.vm_machine.specs.declared.machine_state.MachineState.{MachineState}
use Rattle.vm_input_laws.specs.Memory.{FailsForMemory}
use Rattle.vm_input_laws.specs.Messages.{MessagesAreKept}
use Rattle.vm_input_laws.specs.MachineStart.{HasAttemptBegun, StartsAreKept}
use Rattle.vm_input_laws.specs.InputMessages.{bytes_of, IsFedEach, AreWaitedFor}
use Rattle.vm_input_laws.proofs.StartSpelled.{starts_read_back}
use Rattle.vm_input_laws.proofs.Inputs.{extended, same_found, same_message, unknown_is_none, Took, took_none, took_bytes, took_next, took_whole, memory_stays}
use Rattle.vm_input_laws.proofs.Memory.{unless_refused, fails_for_memory, memory_over}
use Rattle.vm_input_laws.specs.MachineFeed.{has_failed, with_bytes, with_input, TakesNext, TakesEach, StopsAt, Stops, Rests, RestsWhere, IsFed}
use Rattle.vm_input_laws.specs.InputPhases.{IsInputOf, start_told, CanBegin, Kind, phase_kind, AwaitsStart, HasStarted}
use Rattle.vm_input_laws.specs.Laws.{KnowsNoRuns, HoldsStart, ReadsOn, StartsAreRead}
use Rattle.vm_input_laws.proofs.Messages.{input_waited_for}
use Rattle.vm_input_laws.proofs.JournalReads.{knows_none, bodies_behind, started_on}

-- where it waits for its start, it is what it was, but for the bytes that it holds
record Still (start : AttemptStart) (kind : Kind) (messages : List InputMessage) (coming : List ℕ) (new : MachineState) : Type 0 where
  pub awaits : AwaitsStart start kind new
  pub bytes : new.decoder ++ coming ≡ start.frame ++ input_bytes (map piece_of messages)

-- where it has taken its start, that was taken by such a machine, and some messages were taken then
record Taken (start : AttemptStart) (told : StartMessage) (kind : Kind) (messages : List InputMessage) (coming : List ℕ) (new : MachineState) : Type 0 where
  pub begun : MachineState
  pub started : HasStarted start told kind [] begun
  pub took : Took start.given messages coming begun new

module _ (start_kept : StartsAreKept) (keeps : MessagesAreKept) (start : AttemptStart) (shows : ShowsStart start) (kind : Kind) (messages : List InputMessage) (can : CanBegin start shows)
    (is : IsInputOf start messages) (e : Executor) (known : KnowsNoRuns e messages) where
  abbrev payload : Bytes
  payload = start_payload_of start.new shows.state (1 + length start.journal) shows.shows.retry_count shows.shows.duration

  -- in a machine that waits so, or has taken it so, or has failed
  abbrev At : List ℕ → (old new : MachineState) → Type 0
  At coming old new = Still start kind messages coming new ⊎ (Taken start (start_told start shows) kind messages coming new ⊎ FailsForMemory old new)

  front : (rest : List ℕ) → item_at (start.frame ++ rest) ≡ Some (message (message_of types.Start payload), rest)
  front rest =
      ap (λ (frame : List ℕ). item_at (frame ++ rest)) shows.shows.frame_is
      ∙ (starts_read_back start.new shows.state (1 + length start.journal) shows.shows.retry_count shows.shows.duration rest can.ordered can.well.fits).0.front

  found_first : (coming rest held : List ℕ) (one : Item) → held ++ coming ≡ start.frame ++ input_bytes (map piece_of messages) → item_at held ≡ Some (one, rest)
      → (one ≡ message (message_of types.Start payload)) × (rest ++ coming ≡ input_bytes (map piece_of messages))
  found_first coming rest held one bytes found =
      let both = same_found (one, rest ++ coming) (message (message_of types.Start payload), input_bytes (map piece_of messages))
      (sym (extended coming held rest one found) ∙ ap item_at bytes ∙ front (input_bytes (map piece_of messages))) in
      (ap (λ (x : Item × List ℕ). x.0) both, ap (λ (x : Item × List ℕ). x.1) both)

  -- it has written nothing
  fresh_output : (vm : MachineState) → AwaitsStart start kind vm → vm.active.output ≡ record { version = kind.version; bytes = []; is_closed = false; has_commands = false }
  fresh_output vm awaits = subst (λ (k : Kind). vm.active.output ≡ record { version = k.version; bytes = []; is_closed = false; has_commands = false }) awaits.kind_is awaits.waits.active.output

  begun_so : (old new : MachineState) → AwaitsStart start kind old → HasAttemptBegun start.given (shown_state start.new.state shows.state) (start_told start shows) payload old new → HasStarted start (start_told start shows) kind [] new
  begun_so old new awaits h = record {
    kind_is = ap phase_kind h.others ∙ awaits.kind_is;
    phase = h.phase;
    start_is = h.start;
    commands = h.commands;
    gathers = subst (λ (shown : StartState). Gathers start.given new.active (machine_at_start shown [] [])) (sym shows.shown_is) h.gathers;
    runs = ap (λ (vm : MachineState). vm.runs) h.others ∙ awaits.runs;
    output = h.output ∙ fresh_output old awaits;
  }

  awaits_over : (bytes : List ℕ) (vm : MachineState) → AwaitsStart start kind vm → AwaitsStart start kind (with_bytes bytes vm)
  awaits_over bytes vm awaits = record {
    kind_is = awaits.kind_is;
    waits = record { phase = awaits.waits.phase; active = awaits.waits.active };
    runs = awaits.runs;
  }

  module _ (old : MachineState) (first : AwaitsStart start kind old) where
    -- what fails behind a machine that has written nothing
    fails_behind : (between new : MachineState) → between.active.output ≡ record { version = kind.version; bytes = []; is_closed = false; has_commands = false } → FailsForMemory between new → FailsForMemory old new
    fails_behind between new same failed = memory_over old between new (same ∙ sym (fresh_output old first)) failed

    fails_taken : (coming : List ℕ) (between new : MachineState) (taken : Taken start (start_told start shows) kind messages coming between) → FailsForMemory taken.begun new → FailsForMemory old new
    fails_taken coming between new taken failed = fails_behind taken.begun new taken.started.output failed

    take_start : (coming : List ℕ) (between new : MachineState) (raw : RawMessage) → Still start kind messages coming between → TakesNext raw between new → At coming old new
    take_start coming between new raw still next =
        let found = found_first coming next.rest between.decoder (message raw) still.bytes next.consumes in
        let same : raw ≡ message_of types.Start payload = same_message raw (message_of types.Start payload) found.0 in
        go
        (start_kept start.given start.new shows.state (1 + length start.journal) shows.shows.retry_count shows.shows.duration between new can.ordered can.well still.awaits.waits
        (subst (λ (one : RawMessage). TakesNext one between new) same next))
      where
        go : HasAttemptBegun start.given (shown_state start.new.state shows.state) (start_told start shows) payload between new ⊎ FailsForMemory between new → At coming old new
        go (inl h) = inr (inl (record {
          begun = new;
          started = begun_so between new still.awaits h;
          took = took_none start.given messages new.decoder coming new e (ap has_failed h.phase) is.fit
              (subst (λ (p : Phase). AreWaitedFor messages p) (sym h.phase) (input_waited_for start messages is))
              (knows_none e messages new (begun_so between new still.awaits h).runs known)
              (found_first coming new.decoder between.decoder (message (message_of types.Start payload)) still.bytes h.bytes).1;
        }))
        go (inr failed) = inr (inr (fails_behind between new (fresh_output between still.awaits) failed))

    take_next : (coming : List ℕ) (between new : MachineState) (raw : RawMessage) → At coming old between → TakesNext raw between new → At coming old new
    take_next coming between new raw (inl still) next = take_start coming between new raw still next
    take_next coming between new raw (inr (inl taken)) next = go (took_next keeps start.given messages coming taken.begun between new raw taken.took next)
      where
        go : Took start.given messages coming taken.begun new ⊎ FailsForMemory taken.begun new → At coming old new
        go (inl took) = inr (inl (record { begun = taken.begun; started = taken.started; took = took }))
        go (inr failed) = inr (inr (fails_taken coming between new taken failed))
    take_next coming between new raw (inr (inr failed)) next = absurd (true≢false (sym (ap has_failed failed.phase) ∙ next.well))

    take_each : (coming : List ℕ) (before new : MachineState) (raws : List RawMessage) → At coming old before → TakesEach raws before new → At coming old new
    take_each coming before new [] at same = subst (λ (vm : MachineState). At coming old vm) (sym same) at
    take_each coming before new (raw ∷ earlier) at h = take_next coming h.0 new raw (take_each coming before h.0 earlier at h.1) h.2

    -- none is whole then
    abbrev AtEnd : List ℕ → MachineState → Type 0
    AtEnd coming new =
        (Still start kind messages coming new × (item_at new.decoder ≡ None))
        ⊎ ((Taken start (start_told start shows) kind messages coming new × (item_at new.decoder ≡ None)) ⊎ FailsForMemory old new)

    stops_still : (coming : List ℕ) (between new : MachineState) → Still start kind messages coming between → (next : Result (Option RawMessage) DecodingError) (rest : List ℕ)
        → ConsumesNext between.decoder next rest → StopsAt next (with_bytes rest between) new → AtEnd coming new
    stops_still coming between new still (Ok None) rest consumes same =
        let stays : new ≡ between = same ∙ ap (λ (bytes : List ℕ). with_bytes bytes between) consumes.1 in
        inl (subst (λ (vm : MachineState). Still start kind messages coming vm × (item_at vm.decoder ≡ None)) (sym stays) (still, consumes.0))
    stops_still coming between new still (Ok (Some raw)) rest consumes stops = absurd stops
    stops_still coming between new still (Err (UnknownMessageType ty)) rest consumes unread =
        absurd (unknown_is_none ty (message_of types.Start payload) (found_first coming rest between.decoder (unknown ty) still.bytes consumes).0)
    stops_still coming between new still (Err OutOfMemory) rest consumes unread =
        inr (inr (fails_behind (with_bytes rest between) new (fresh_output between still.awaits)
        (fails_for_memory unread.cause (with_bytes rest between) new (unless_refused (TellsPlainError (decoding_code OutOfMemory) (Some (decoding_text OutOfMemory))) unread.cause unread.causes) (ap has_failed still.awaits.waits.phase) unread.fails)))
    stops_still coming between new still (Err _) rest consumes unread = absurd consumes

    take_rest : (coming : List ℕ) (between new : MachineState) → At coming old between → Rests between new → AtEnd coming new
    take_rest coming between new (inl still) rests = stopped (subst (λ (b : Bool). RestsWhere b between new) (ap has_failed still.awaits.waits.phase) rests)
      where
        stopped : Stops between new → AtEnd coming new
        stopped stops = stops_still coming between new still stops.next stops.rest stops.consumes stops.stops
    take_rest coming between new (inr (inl taken)) rests = go (took_whole keeps start.given messages coming taken.begun between new taken.took rests)
      where
        go : (Took start.given messages coming taken.begun new × (item_at new.decoder ≡ None)) ⊎ FailsForMemory taken.begun new → AtEnd coming new
        go (inl (took, whole)) = inr (inl (record { begun = taken.begun; started = taken.started; took = took }, whole))
        go (inr failed) = inr (inr (fails_taken coming between new taken failed))
    take_rest coming between new (inr (inr failed)) rests =
        let same : new ≡ between = subst (λ (b : Bool). RestsWhere b between new) (ap has_failed failed.phase) rests in
        inr (inr (subst (λ (vm : MachineState). FailsForMemory old vm) (sym same) failed))

    -- one more cut has come
    with_cut : (cut coming : List ℕ) (between : MachineState) → Still start kind messages (cut ++ coming) between → Still start kind messages coming (with_input cut between)
    with_cut cut coming between still = record { awaits = awaits_over (between.decoder ++ cut) between still.awaits; bytes = append_assoc between.decoder cut coming ∙ still.bytes }

    take_cut : (cut coming : List ℕ) (between new : MachineState) → AtEnd (cut ++ coming) between → IsFed cut between new → AtEnd coming new
    take_cut cut coming between new (inr (inr failed)) fed = inr (inr (memory_stays cut old between new failed fed))
    take_cut cut coming between new (inl (still, whole)) (inl all) =
        take_rest coming all.between new (take_each coming (with_input cut between) all.between all.messages (inl (with_cut cut coming between still)) all.each) all.rests
    take_cut cut coming between new (inl (still, whole)) (inr lacks) =
        inr (inr (fails_behind between new (fresh_output between still.awaits) (fails_for_memory (Err lacks.refused) between new (lacks.refused, refl) (ap has_failed still.awaits.waits.phase) lacks.fails)))
    take_cut cut coming between new (inr (inl (taken, whole))) (inl all) =
        let before : At coming old (with_input cut between) =
        inr (inl (record { begun = taken.begun; started = taken.started; took = took_bytes start.given messages cut coming taken.begun between taken.took })) in
        take_rest coming all.between new (take_each coming (with_input cut between) all.between all.messages before all.each) all.rests
    take_cut cut coming between new (inr (inl (taken, whole))) (inr lacks) =
        inr (inr (fails_behind between new (taken.took.kept.output ∙ taken.started.output) (fails_for_memory (Err lacks.refused) between new (lacks.refused, refl) taken.took.well lacks.fails)))

    take_cuts : (cuts : List Bytes) (coming : List ℕ) (before new : MachineState) → AtEnd (bytes_of cuts ++ coming) before → IsFedEach cuts before new → AtEnd coming new
    take_cuts [] coming before new at same = subst (λ (vm : MachineState). AtEnd coming vm) (sym same) at
    take_cuts (cut ∷ earlier) coming before new at h =
        take_cut cut coming h.0 new
        (take_cuts earlier (cut ++ coming) before h.0 (subst (λ (bytes : List ℕ). AtEnd bytes before) (append_assoc (bytes_of earlier) cut coming) at) h.1) h.2

    read_so : (coming : List ℕ) (new : MachineState) → AtEnd coming new
        → HoldsStart start kind messages coming new ⊎ (ReadsOn start (start_told start shows) kind [] messages coming new ⊎ FailsForMemory old new)
    read_so coming new (inl (still, whole)) = inl (record { awaits = still.awaits; bytes = still.bytes; whole = whole })
    read_so coming new (inr (inl (taken, whole))) = inr (inl (record {
      some = taken.took.some;
      still = taken.took.still;
      parts = taken.took.parts;
      bytes = taken.took.bytes;
      whole = whole;
      started = started_on start (start_told start shows) kind [] taken.took.some taken.begun new taken.started taken.took.kept;
      bodies = bodies_behind start taken.took.some taken.begun new taken.started.runs taken.took.kept;
    }))
    read_so coming new (inr (inr failed)) = inr (inr failed)

pub starts_are_read : StartsAreKept → MessagesAreKept → StartsAreRead
starts_are_read start_kept keeps start shows kind messages cuts coming old new e can is known holds fed =
    read_so start_kept keeps start shows kind messages can is e known old holds.awaits coming new
    (take_cuts start_kept keeps start shows kind messages can is e known old holds.awaits cuts coming old new (inl (record { awaits = holds.awaits; bytes = holds.bytes }, holds.whole)) fed)
