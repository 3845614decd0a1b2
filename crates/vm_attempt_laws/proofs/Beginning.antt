-- A new attempt that is fed its start frame has read it, or memory was refused.
use Rattle.std.proofs.Common.{◌≡◌, ◌⊎◌, inl, inr, ◌∙◌, ◌+◌, ℕ, false, List, [], ◌∷◌, ◌++◌, append-nil, append_assoc, map, length, Option, Some, None, Result, Ok, Err, refl, sym, ap, subst}
use Rattle.std.proofs.lemmas.List.{append_cancel_right}
use Rattle.std.specs.declared.convert.Infallible.{Infallible}
use Rattle.std.specs.List.{AllByRecursion}
use Rattle.protocol_stream.specs.Frame.{message_of}
use Rattle.protocol_types.specs.declared.message_type.MessageType.TheVariants.{Start}
use Rattle.protocol_types.specs.declared.version.ContentTypeError.{ContentTypeError}
use Rattle.protocol_types.proofs.Versions.{content_types_read_back}
use Rattle.journal_model.specs.declared.options.SignalDelivery.{SignalDelivery}
use Rattle.journal_model.specs.Start.{start_payload_of}
use Rattle.vm_machine.specs.StartReceipt.{IsFresh}
use Rattle.vm_start.specs.Negotiation.{Negotiates}
use Rattle.vm_start.specs.declared.negotiation.NegotiationError.{NegotiationError}
use Rattle.vm_input_laws.proofs.Messages.{all_in_front}
use Rattle.vm_input_laws.proofs.Inputs.{front, nothing_at, some_is_none}
use Rattle.vm_input_laws.proofs.StartSpelled.{starts_read_back}
use Rattle.vm_attempt_laws.specs.Attempts.{IsUnasked, FeedsUnless, output_of, Attempt, Finish}
use Rattle.vm_attempt_laws.specs.AttemptSimulation.{kind_where, IsFedBy, Serves}
use Rattle.vm_attempt_laws.specs.Bodies.{AreCached, Executor, executor_over, KeepsBodies, no_runs, reads_message, Runs}
use Rattle.vm_attempt_laws.specs.AttemptInvariants.{attempt_started, HasNoBodies, LacksMemory, BeginsServing}
use Rattle.vm_attempt_laws.specs.Machine.{Written, MachineState, IsFed, IsNew, BeginsAs}
use Rattle.vm_input_laws.specs.InputPhases.{IsEntry}
use Rattle.vm_attempt_laws.specs.InputOfAttempt.{FailsForMemory, raw_of, MessageFits, bytes_of, start_told, CanBegin, IsRunOf, phase_kind, HasStarted, HoldsStart, ReadsOn, StartsAreRead}
use Rattle.vm_attempt_laws.specs.Words.{item_at, message, Version, version_content_type, input_bytes, Bytes, Handler, Invocation, InputMessage, CarriesInput, CarriesRequest, CarriesArrival, CarriesOutcome, piece_of, Machine, machine_at_start, AttemptStart, ShowsStart, attempt_begun, VMOptions}

-- ---- the version

same_version : (version other : Version) → ◌≡◌ {A = Result Version ContentTypeError} (Ok other) (Ok version) → other ≡ version
same_version version other e = cc

begins_new : (version : Version) (options : VMOptions) (vm : MachineState) (negotiated : Result Version (NegotiationError Infallible)) → Negotiates (λ error. ⊥) (Some (version_content_type version)) negotiated
    → BeginsAs negotiated options (Ok vm) → IsNew version options vm
begins_new version options vm (Ok other) negotiates begins =
    subst (λ (v : Version). IsNew v options vm) (same_version version other (sym negotiates.0 ∙ content_types_read_back version)) begins
begins_new version options vm (Err refused) negotiates begins = absurd begins

-- ---- the bodies of runs

-- a journal acknowledges nothing
entries_cached : (e : Executor) (messages : List InputMessage) → AllByRecursion IsEntry messages → AreCached e messages
entries_cached e [] all = tt
entries_cached e (CarriesInput new ∷ messages) all = absurd all.0
entries_cached e (CarriesRequest request ∷ messages) all = entries_cached (reads_message e (CarriesRequest request)) messages all.1
entries_cached e (CarriesArrival type arrival ∷ messages) all = entries_cached (reads_message e (CarriesArrival type arrival)) messages all.1
entries_cached e (CarriesOutcome number value ∷ messages) all = absurd all.0

-- where no run was called, there are no bodies
none_kept : (m : Machine) → KeepsBodies no_runs (executor_over m)
none_kept m = record { left = refl; executing = λ body. refl; cached = λ completion. refl }

-- ---- the bytes

pub nothing_held : (held bytes : List ℕ) → held ++ bytes ≡ [] → held ≡ []
nothing_held [] bytes e = refl
nothing_held (byte ∷ held) bytes e = cc

pub nothing_more : (held bytes : List ℕ) → held ++ bytes ≡ [] → bytes ≡ []
nothing_more [] bytes e = e
nothing_more (byte ∷ held) bytes e = cc

pub bytes_append : (some still : List InputMessage) → input_bytes (map piece_of (some ++ still)) ≡ input_bytes (map piece_of some) ++ input_bytes (map piece_of still)
bytes_append [] still = refl
bytes_append (one ∷ some) still =
    ap (λ (bytes : List ℕ). (piece_of one).bytes ++ bytes) (bytes_append some still)
    ∙ sym (append_assoc (piece_of one).bytes (input_bytes (map piece_of some)) (input_bytes (map piece_of still)))

-- messages without bytes are none
pub no_bytes : (some : List InputMessage) → AllByRecursion MessageFits some → input_bytes (map piece_of some) ≡ [] → some ≡ []
no_bytes [] fit none = refl
no_bytes (one ∷ some) fit none =
    absurd (some_is_none (message (raw_of one), input_bytes (map piece_of some)) (sym (front one fit.0 (input_bytes (map piece_of some))) ∙ ap item_at none ∙ nothing_at))

-- messages of whose bytes none are held are none
pub none_more : (some still unread : List InputMessage) (held : List ℕ) → AllByRecursion MessageFits unread → unread ≡ some ++ still → held ≡ input_bytes (map piece_of some) ++ held → some ≡ []
none_more some still unread held fit parts bytes =
    no_bytes some (all_in_front MessageFits some still (subst (AllByRecursion MessageFits) parts fit)) (append_cancel_right (input_bytes (map piece_of some)) [] held (sym bytes))

module _ {H : Type 0} (function : H → Handler) (next : Handler) (version : Version) (options : VMOptions) (starts : StartsAreRead) (start : AttemptStart) (shows : ShowsStart start) (handler : H) (new fed : Attempt H)
    (is_next : function handler ≡ next) (of_run : IsRunOf start version options) (can : CanBegin start shows) (by : IsFedBy (attempt_begun start)) (unasked : IsUnasked options handler new)
    (is_new : IsNew version options new.vm.state) (does : IsFed start.frame new.vm.state fed.vm.state × (fed ≡ record new { vm = fed.vm })) where
  abbrev messages : List InputMessage
  messages = CarriesInput start.new ∷ start.journal

  abbrev first : Executor
  first = executor_over (machine_at_start start.shown [] [])

  abbrev Outcome : Type 0
  Outcome = (output_of fed ≡ []) × ((Serves function next version options (attempt_started start) false fed × HasNoBodies function next version options start fed) ⊎ LacksMemory fed)

  fresh : IsFresh new.vm.state.version start.given.options.signal_delivery new.vm.state.active
  fresh =
      subst (λ (delivery : SignalDelivery). IsFresh new.vm.state.version delivery new.vm.state.active) (sym (ap (λ (given : Invocation). given.options.signal_delivery) of_run.given_is))
      (subst (λ (v : Version). IsFresh v options.signal_delivery new.vm.state.active) (sym is_new.version_is) is_new.active)

  is_kind : phase_kind new.vm.state ≡ kind_where version options false
  is_kind = λ i. record { version = is_new.version_is i; options = is_new.options_are i; is_input_closed = is_new.opened i; reads = is_new.reads i }

  holds : HoldsStart start (kind_where version options false) messages (bytes_of (start.frame ∷ []) ++ input_bytes (map piece_of messages)) new.vm.state
  holds = record {
    awaits = record { kind_is = is_kind; waits = record { phase = is_new.phase; active = fresh }; runs = is_new.runs };
    bytes = ap (λ (held : List ℕ). held ++ (start.frame ++ input_bytes (map piece_of messages))) is_new.decoder;
    whole = ap item_at is_new.decoder ∙ nothing_at;
  }

  -- nothing was written
  output_is : fed.vm.state.active.output.bytes ≡ [] → output_of fed ≡ []
  output_is none =
      ap (λ (a : Attempt H). (a.front ++ a.behind) ++ fed.vm.state.active.output.bytes) does.1
      ∙ ap (λ (front : Bytes). (front ++ new.behind) ++ fed.vm.state.active.output.bytes) unasked.front
      ∙ ap (λ (behind : Bytes). behind ++ fed.vm.state.active.output.bytes) unasked.behind ∙ none

  -- the start has come whole
  not_held : HoldsStart start (kind_where version options false) messages (input_bytes (map piece_of messages)) fed.vm.state → ⊥
  not_held held =
      let payload = start_payload_of start.new shows.state (1 + length start.journal) shows.shows.retry_count shows.shows.duration in
      let same : fed.vm.state.decoder ≡ start.frame = append_cancel_right fed.vm.state.decoder start.frame (input_bytes (map piece_of messages)) held.bytes in
      some_is_none (message (message_of Start payload), [])
      (sym (starts_read_back start.new shows.state (1 + length start.journal) shows.shows.retry_count shows.shows.duration [] can.ordered can.well.fits).0.front
      ∙ ap (λ (frame : Bytes). item_at (frame ++ [])) (sym shows.shows.frame_is) ∙ ap item_at (append-nil start.frame ∙ sym same) ∙ held.whole)

  -- and nothing behind it
  serves : ReadsOn start (start_told start shows) (kind_where version options false) [] messages (input_bytes (map piece_of messages)) fed.vm.state → Outcome
  serves on = (
    output_is written,
    inl (
      record {
        handler = ap (λ (a : Attempt H). function a.handler) does.1 ∙ ap function unasked.handler_is ∙ is_next;
        going = ap (λ (a : Attempt H). a.over) does.1 ∙ unasked.over;
        kind = on.started.kind_is;
        of_run = of_run;
        fed = by;
        started = refl;
        bytes = none_held;
        whole = on.whole;
        stands = inl (record {
          input = ap (λ (a : Attempt H). a.input) does.1 ∙ unasked.input;
          answers = ap (λ (a : Attempt H). a.answers) does.1 ∙ unasked.answers;
          calls = refl;
          machine = refl;
          shows = shows;
          started = subst (λ (read : List InputMessage). HasStarted start (start_told start shows) (kind_where version options false) read fed.vm.state) none_read on.started;
          unwritten = output_is written;
        });
      },
      none,
    ),
  )
    where
      none : HasNoBodies function next version options start fed
      none lives = record {
        executor = first;
        lives = lives;
        keeps = subst (λ (runs : Runs). KeepsBodies runs first) (sym on.started.runs) (none_kept (machine_at_start start.shown [] []));
        behind = inl refl;
      }

      written : fed.vm.state.active.output.bytes ≡ []
      written = ap (λ (w : Written). w.bytes) on.started.output

      both : fed.vm.state.decoder ++ input_bytes (map piece_of on.some) ≡ []
      both = append_cancel_right (fed.vm.state.decoder ++ input_bytes (map piece_of on.some)) [] (input_bytes (map piece_of on.still))
          (append_assoc fed.vm.state.decoder (input_bytes (map piece_of on.some)) (input_bytes (map piece_of on.still))
          ∙ ap (λ (bytes : List ℕ). fed.vm.state.decoder ++ bytes) (sym (bytes_append on.some on.still) ∙ ap (λ (all : List InputMessage). input_bytes (map piece_of all)) (sym on.parts)) ∙ on.bytes)

      none_held : fed.vm.state.decoder ≡ []
      none_held = nothing_held fed.vm.state.decoder (input_bytes (map piece_of on.some)) both

      none_read : on.some ≡ []
      none_read = no_bytes on.some (all_in_front MessageFits on.some on.still (subst (AllByRecursion MessageFits) on.parts by.fit)) (nothing_more fed.vm.state.decoder (input_bytes (map piece_of on.some)) both)

  lacks : FailsForMemory new.vm.state fed.vm.state → Outcome
  lacks failed = (
    output_is (ap (λ (w : Written). w.bytes) failed.output ∙ ap (λ (w : Written). w.bytes) is_new.active.output),
    inr failed.phase,
  )

  begun : HoldsStart start (kind_where version options false) messages (input_bytes (map piece_of messages)) fed.vm.state
      ⊎ (ReadsOn start (start_told start shows) (kind_where version options false) [] messages (input_bytes (map piece_of messages)) fed.vm.state ⊎ FailsForMemory new.vm.state fed.vm.state) → Outcome
  begun (inl held) = absurd (not_held held)
  begun (inr (inl on)) = serves on
  begun (inr (inr failed)) = lacks failed

  all_begun : Outcome
  all_begun = begun (starts start shows (kind_where version options false) messages (start.frame ∷ []) (input_bytes (map piece_of messages)) new.vm.state fed.vm.state first can by
      (record { keeps = none_kept (machine_at_start start.shown [] []); cached = entries_cached first start.journal by.journal }) holds
      (new.vm.state, refl, does.0))

pub feeds_new : {H : Type 0} (over : Option Finish) (bytes : Bytes) (before after : Attempt H) → before.over ≡ over → before.over ≡ None → FeedsUnless over bytes before after
    → IsFed bytes before.vm.state after.vm.state × (after ≡ record before { vm = after.vm })
feeds_new (Some finish) bytes before after is none does = cc
feeds_new None bytes before after is none does = does

pub attempts_begin : {H : Type 0} (function : H → Handler) (next : Handler) (version : Version) (options : VMOptions) → StartsAreRead → BeginsServing function next version options
attempts_begin function next version options starts start shows handler new fed is_next of_run can by begun feeds =
    all_begun function next version options starts start shows handler new fed is_next of_run can by begun.unasked
    (begins_new version options new.vm.state begun.begins.negotiated begun.begins.negotiates begun.begins.begins)
    (feeds_new new.over start.frame new fed refl begun.unasked.over feeds)
