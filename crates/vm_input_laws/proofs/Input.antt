-- The input is answered once the journal was read.
use Rattle.std.proofs.Common.{◌≡◌, ◌⊎◌, inl, inr, ◌∙◌, ◌+◌, ℕ, Bool, true, false, if◌then◌else◌, List, [], ◌∷◌, ◌++◌, map, length, Option, None, Result, Ok, Err, refl, sym, ap, subst}
use Rattle.std.specs.List.{AllByRecursion}
use Rattle.protocol_errors.specs.declared.error.Error.{Error}
use Rattle.protocol_stream.specs.Records.{start_record, input_record, header_record, header_told}
use Rattle.protocol_types.specs.Feature.{lacks_feature}
use Rattle.protocol_types.specs.Version.{version_number}
use Rattle.protocol_types.specs.declared.feature.Feature.TheVariants.{RandomSeed, Scope}
use Rattle.journal_model.specs.declared.call.Header.{Header}
use Rattle.journal_model.specs.declared.handler.Input.{Input}
use Rattle.journal_model.specs.declared.invocation.NewInvocation.{NewInvocation}
use Rattle.journal_model.specs.declared.options.RunOptions.{RunOptions}
use Rattle.journal_model.specs.Run.{Invocation}
use Rattle.journal_model.specs.State.{StateMap}
use Rattle.journal_model.specs.Headline.{run_of}
use Rattle.input_laws.specs.Message.{InputMessage, CarriesInput}
use Rattle.attempt_model.specs.Machine.{Machine, machine_at_start}
use Rattle.live_laws.specs.StartFrame.{AttemptStart, ShowsStart}
use Rattle.live_laws.specs.MachinePosition.{with_messages}
use Rattle.vm_input_laws.specs.InputAnswers.{HasInput, IsInputReady, IsGiven, LacksMemoryForInput, InputsAreRead}
use Rattle.vm_feeding.specs.InputAnswer.{IsInputRead}
use Rattle.vm_calls.specs.Active.{Sees}
use Rattle.vm_commands.specs.NextCommand.{next_of}
use Rattle.vm_machine.specs.StateBeforeInput.{without_input}
use Rattle.vm_start.specs.FailureReport.{ended}
use Rattle.vm_feeding.specs.Input.{input_given, where_scoped}
use Rattle.vm_machine.specs.declared.machine_state.MachineState.{MachineState}
use Rattle.vm_start.specs.Starts.{without_state}
use Rattle.vm_types.specs.Options.{run_options}
use Rattle.vm_input_laws.specs.Messages.{raw_of, MessageFits}
use Rattle.vm_input_laws.specs.InputMessages.{gathered_all, commands_in}
use Rattle.vm_input_laws.proofs.StartSpelled.{inputs_read_back}
use Rattle.vm_input_laws.proofs.Memory.{fails_for_memory, answers_memory}
use Rattle.vm_input_laws.specs.MachineFeed.{HasFailed, has_failed}
use Rattle.vm_input_laws.specs.InputPhases.{IsInputOf, IsRunOf, start_told, Kind, phase_kind, HasStarted}
use Rattle.vm_input_laws.specs.Laws.{AnswersInput, RefusesInput, InputsAreAnswered}
use Rattle.vm_input_laws.proofs.Messages.{with_left, entries_gathered, input_active, input_entries}

-- ---- what is given

headers_taken : (headers : List Header) → map header_told (map header_record headers) ≡ headers
headers_taken [] = refl
headers_taken (header ∷ headers) = ap (λ (more : List Header). header ∷ more) (headers_taken headers)

absent : (version : ℕ) → where_scoped version None ≡ None
absent version = go (lacks_feature version Scope)
  where
    go : (b : Bool) → ◌≡◌ {A = Option (List ℕ)} (if b then None else None) None
    go true = refl
    go false = refl

input_is : (options : RunOptions) (fallback : ℕ) (new : NewInvocation) (shown state : StateMap) (version known retry_count duration : ℕ) → version ≡ new.version
    → input_given version fallback (without_state (start_record new shown known retry_count duration)) (input_record new.headers new.input) ≡ (run_of options fallback new state).input
input_is options fallback new shown state version known retry_count duration e = λ i. record {
  invocation_id = new.id;
  key = new.object;
  random_seed = ap (λ (n : ℕ). if lacks_feature n RandomSeed then fallback else new.seed) e i;
  headers = headers_taken new.headers i;
  input = new.input;
  scope = absent version i;
  limit_key = absent version i;
  idempotency_key = absent version i;
}

-- ---- the answer

module _ (given_input : InputsAreRead) (start : AttemptStart) (shows : ShowsStart start) (kind : Kind) (read : List InputMessage) (old : MachineState) (result : Result Input Error) (new : MachineState)
    (of_run : IsRunOf start kind.version kind.options) (is : IsInputOf start read) (h : HasStarted start (start_told start shows) kind read old) where
  abbrev begun : Machine
  begun = machine_at_start start.shown [] []

  all_gathered : gathered_all read begun ≡ with_left (None ∷ (with_messages begun (start.journal ++ is.later)).left) (with_messages begun (start.journal ++ is.later))
  all_gathered = ap (λ (messages : List InputMessage). gathered_all messages begun) is.parts ∙ entries_gathered (start.journal ++ is.later) begun (input_entries start read is)

  input_fits : MessageFits (CarriesInput start.new)
  input_fits = (subst (AllByRecursion MessageFits) is.parts is.fit).0

  has_input : HasInput (input_record start.new.headers start.new.input) old.active
  has_input = record {
    message = raw_of (CarriesInput start.new);
    first = ap next_of (h.commands ∙ ap commands_in is.parts);
    decoded = (inputs_read_back start.new.headers start.new.input [] input_fits).decoded;
  }

  ready : IsInputReady start.given (gathered_all read begun) (with_messages begun (start.journal ++ is.later)).left (without_state (start_told start shows)) (input_record start.new.headers start.new.input) old
  ready = record {
    phase = h.phase ∙ input_active start read is;
    replays = ap (λ (k : Kind). k.options.journal_replay) h.kind_is ∙ of_run.replays;
    start = h.start_is;
    has_input = has_input;
    behind = ap (λ (m : Machine). m.left) all_gathered;
    gathers = h.gathers;
  }

  answer_is : input_given (version_number old.version) old.options.fallback_random_seed (without_state (start_told start shows)) (input_record start.new.headers start.new.input) ≡ start.given.input
  answer_is =
      ap (λ (k : Kind). input_given (version_number k.version) k.options.fallback_random_seed (without_state (start_told start shows)) (input_record start.new.headers start.new.input)) h.kind_is
      ∙ input_is (run_options kind.options) kind.options.fallback_random_seed start.new shows.state of_run.state (version_number kind.version) (1 + length start.journal) shows.shows.retry_count shows.shows.duration
      (sym of_run.version_is)
      ∙ sym (ap (λ (given : Invocation). given.input) of_run.given_is)

  -- behind the input the machine is what it is with all messages
  behind_input : without_input (with_messages begun (start.journal ++ is.later)).left (gathered_all read begun) ≡ with_messages begun read
  behind_input =
      ap (with_left (with_messages begun (start.journal ++ is.later)).left) all_gathered ∙ sym (ap (λ (messages : List InputMessage). with_messages begun messages) is.parts)

  given_so : IsGiven start.given (gathered_all read begun) (with_messages begun (start.journal ++ is.later)).left (without_state (start_told start shows)) (input_record start.new.headers start.new.input) old result new
      → AnswersInput start kind (with_messages begun read) old result new
  given_so g = record {
    answer = g.answer ∙ ap (λ (input : Input). Ok input) answer_is;
    asked = record {
      kind_is = ap phase_kind g.others ∙ h.kind_is;
      phase = ap (λ (vm : MachineState). vm.phase) g.others ∙ h.phase ∙ input_active start read is;
      sees = subst (λ (m : Machine). Sees start.given new.active m) behind_input g.sees;
    };
    written = g.output ∙ h.output;
    others = g.others;
  }

  -- the answer of one that fails for want of memory is that
  refused_so : LacksMemoryForInput old result new → RefusesInput kind.version result new
  refused_so lacks =
      let well : has_failed lacks.between.phase ≡ false = ap has_failed (lacks.phase ∙ h.phase ∙ input_active start read is) in
      let fails : HasFailed (Err lacks.refused) lacks.between new = record { answer = lacks.answer; fails = lacks.fails } in
      record {
        answer = lacks.answered ∙ ap (λ (error : Error). Err error) (answers_memory (Err lacks.refused) lacks.between new (lacks.refused, refl) well fails);
        phase = (fails_for_memory (Err lacks.refused) lacks.between new (lacks.refused, refl) well fails).phase;
        output = (fails_for_memory (Err lacks.refused) lacks.between new (lacks.refused, refl) well fails).output ∙ ap ended (lacks.output ∙ h.output);
      }

  answered : IsInputRead old result new → AnswersInput start kind (with_messages begun read) old result new ⊎ RefusesInput kind.version result new
  answered asks = go (given_input start.given (gathered_all read begun) (with_messages begun (start.journal ++ is.later)).left (without_state (start_told start shows)) (input_record start.new.headers start.new.input) old result new ready asks)
    where
      go : IsGiven start.given (gathered_all read begun) (with_messages begun (start.journal ++ is.later)).left (without_state (start_told start shows)) (input_record start.new.headers start.new.input) old result new ⊎ LacksMemoryForInput old result new
          → AnswersInput start kind (with_messages begun read) old result new ⊎ RefusesInput kind.version result new
      go (inl g) = inl (given_so g)
      go (inr lacks) = inr (refused_so lacks)

pub inputs_are_answered : InputsAreRead → InputsAreAnswered
inputs_are_answered given_input start shows kind read old result new of_run is h asks = answered given_input start shows kind read old result new of_run is h asks
