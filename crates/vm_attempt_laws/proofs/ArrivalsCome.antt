-- What an attempt has read is what has come whole among the bytes that it was handed, by what it has proposed.
use Rattle.std.proofs.Common.{◌≡◌, inl, inr, None, ◌∙◌, arith, eq-eqb, ℕ, ◌+◌, ◌≤◌, ◌==◌, if◌then◌else◌, Bool, true, false, true≢false, List, [], ◌∷◌, ◌++◌, append-nil, append_assoc, drop, length, length-append, map, refl, sym, ap, subst}
use Rattle.std.proofs.Math.Seq.{drop-append_seam}
use Rattle.std.proofs.lemmas.List.{length-map}
use Rattle.std.specs.List.{AllByRecursion}
use Rattle.journal_model.specs.Request.{Request}
use Rattle.journal_model.specs.Spelling.{notification_payload, request_payload, request_type}
use Rattle.journal_model.specs.Value.{result_of_value}
use Rattle.protocol_controls.specs.declared.propose_run_completion_ack.ProposeRunCompletionAckMessage.{ProposeRunCompletionAckMessage}
use Rattle.protocol_stream.proofs.Fronts.{item_at_shrinks}
use Rattle.protocol_stream.specs.Item.{Item}
use Rattle.protocol_wire.proofs.Steps.{items_ended, items_read}
use Rattle.protocol_wire.specs.Items.{items}
use Rattle.body_laws.proofs.Lists.{proposed-among}
use Rattle.vm_input_laws.proofs.Acknowledging.{acknowledgement_decoded}
use Rattle.vm_input_laws.proofs.Arrivals.{decodes}
use Rattle.vm_input_laws.proofs.Inputs.{front}
use Rattle.vm_input_laws.proofs.Messages.{all_in_front}
use Rattle.vm_machine.specs.MessageKinds.{incoming_of}
use Rattle.vm_machine.specs.declared.incoming.Incoming.{Incoming}
use Rattle.vm_machine.specs.declared.incoming.Incoming.TheVariants as incoming
use Rattle.vm_attempt_laws.specs.ArrivalsCome.{arrival_told, arrivals_brought, arrivals_of_item, arrivals_of_items, HasJournal, outcome_acknowledged}
use Rattle.vm_attempt_laws.specs.Attempts.{Attempt}
use Rattle.vm_attempt_laws.specs.AttemptSimulation.{HasBodies, IsFedBy, Serves}
use Rattle.vm_attempt_laws.specs.Bodies.{Among, count_proposed, Executor, IsBehind, IsReplayed, NonEmptyValue}
use Rattle.vm_attempt_laws.specs.InputOfAttempt.{IsArrival, MessageFits, raw_of}
use Rattle.vm_attempt_laws.specs.TurnReports.{arrivals_told, IsAttemptTold, Told}
use Rattle.vm_attempt_laws.specs.Words.{arrivals_carried, arrival_carried, AttemptInRun, Bytes, CarriesArrival, CarriesInput, CarriesOutcome, CarriesRequest, completion, Handler, HasReadJournal, input_bytes, InputMessage, item_at, message, piece_of, requests_carried, Version, VMOptions}
use Rattle.replay_laws.specs.ReplayedAttempt.{IsOfJournal}
use Rattle.vm_attempt_laws.proofs.Beginning.{bytes_append}
use Rattle.vm_attempt_laws.proofs.Messages.{read_input}

-- ---- what is acknowledged

-- the value that an acknowledgement stands for is one that the attempt has proposed
abbrev pub IsAcknowledgedBy : List (ℕ × NonEmptyValue) → InputMessage → Type 0
IsAcknowledgedBy proposed (CarriesOutcome number value) = Among (number, value) proposed
IsAcknowledgedBy proposed other = Unit {0}

module _ (proposed : List (ℕ × NonEmptyValue)) where
  -- a journal acknowledges nothing, and what comes behind it what was proposed
  behind_acknowledged : (version : ℕ) (later : List InputMessage) → AllByRecursion (IsBehind version proposed) later → AllByRecursion (IsAcknowledgedBy proposed) later
  behind_acknowledged version [] all = tt
  behind_acknowledged version (CarriesArrival type arrival ∷ later) all = (tt, behind_acknowledged version later all.1)
  behind_acknowledged version (CarriesOutcome number value ∷ later) all = (all.0.1, behind_acknowledged version later all.1)
  behind_acknowledged version (_ ∷ later) all = absurd all.0

  input_acknowledged : (version : ℕ) (journal later : List InputMessage) → AllByRecursion IsOfJournal journal → AllByRecursion (IsBehind version proposed) later
      → AllByRecursion (IsAcknowledgedBy proposed) (journal ++ later)
  input_acknowledged version [] later journal behind = behind_acknowledged version later behind
  input_acknowledged version (CarriesRequest request ∷ messages) later journal behind = (tt, input_acknowledged version messages later journal.1 behind)
  input_acknowledged version (CarriesArrival type arrival ∷ messages) later journal behind = (tt, input_acknowledged version messages later journal.1 behind)
  input_acknowledged version (_ ∷ messages) later journal behind = absurd journal.0

read_acknowledged : (next : Handler) (live : AttemptInRun) (proposed : List (ℕ × NonEmptyValue)) (e : Executor) → IsReplayed next live proposed e → AllByRecursion (IsAcknowledgedBy proposed) live.read
read_acknowledged next live proposed e lives =
    all_in_front (IsAcknowledgedBy proposed) live.read live.unread
    (subst (AllByRecursion (IsAcknowledgedBy proposed)) (sym lives.parts)
    (tt, input_acknowledged proposed live.start.given.version live.start.journal lives.later lives.start.journal lives.later_are))

-- of a completion one outcome is proposed at most, so it is the one that is found
found : (n : ℕ) (value : NonEmptyValue) (proposed : List (ℕ × NonEmptyValue)) → count_proposed n proposed ≤ 1 → Among (n, value) proposed → outcome_acknowledged n proposed ≡ completion n (result_of_value value) ∷ []
found n value [] few among = absurd among
found n value (outcome ∷ proposed) few among = by_test (outcome.0 == n) refl few (found n value proposed)
  where
    by_test : (b : Bool) → (outcome.0 == n) ≡ b → (if b then 1 else 0) + count_proposed n proposed ≤ 1
        → (count_proposed n proposed ≤ 1 → Among (n, value) proposed → outcome_acknowledged n proposed ≡ completion n (result_of_value value) ∷ [])
        → (if b then completion n (result_of_value outcome.1) ∷ [] else outcome_acknowledged n proposed) ≡ completion n (result_of_value value) ∷ []
    by_test true e few rest = elim among [
      | inl same ↦ ap (λ (one : ℕ × NonEmptyValue). completion n (result_of_value one.1) ∷ []) (sym same)
      | inr further ↦ let there = proposed-among n value proposed further in absurd (omega (arith, few, there))
    ]
    by_test false e few rest = elim among [
      | inl same ↦ absurd (true≢false (sym (eq-eqb n n refl) ∙ ap (λ (one : ℕ × NonEmptyValue). one.0 == n) same ∙ e))
      | inr further ↦ rest (omega (arith, few)) further
    ]

-- ---- what each message brings

of_request : (request : Request) → incoming_of (request_type request) ≡ incoming.Command
of_request (Request.Output value name) = refl
of_request (Request.GetLazyState key n name) = refl
of_request (Request.GetLazyStateKeys n name) = refl
of_request (Request.GetEagerState key value name) = refl
of_request (Request.GetEagerStateKeys keys name) = refl
of_request (Request.SetState key value name) = refl
of_request (Request.ClearState key name) = refl
of_request (Request.ClearAllState name) = refl
of_request (Request.GetPromise key n name) = refl
of_request (Request.PeekPromise key n name) = refl
of_request (Request.CompletePromise key value n name) = refl
of_request (Request.Sleep time n name) = refl
of_request (Request.CallService call m n name) = refl
of_request (Request.OneWayCall call time m name) = refl
of_request (Request.SendSignal target key value name) = refl
of_request (Request.Run n name) = refl
of_request (Request.AttachInvocation target n name) = refl
of_request (Request.GetInvocationOutput target n name) = refl
of_request (Request.CompleteAwakeable id value name) = refl

module _ (proposed : List (ℕ × NonEmptyValue)) (once : (n : ℕ) → count_proposed n proposed ≤ 1) where
  brings : (one : InputMessage) → MessageFits one → IsAcknowledgedBy proposed one → arrivals_of_item proposed (message (raw_of one)) ≡ arrival_carried one
  brings (CarriesInput new) fits among = refl
  brings (CarriesRequest request) fits among = ap (λ (kind : Incoming). arrivals_brought proposed kind (request_payload request)) (of_request request)
  brings (CarriesArrival type arrival) fits among =
      ap (λ (kind : Incoming). arrivals_brought proposed kind (notification_payload arrival)) fits.1.kind ∙ ap arrival_told (decodes type arrival fits.0).1
  brings (CarriesOutcome number value) fits among =
      ap (λ (record_read : ProposeRunCompletionAckMessage). outcome_acknowledged record_read.completion_id proposed) (sym (acknowledgement_decoded number fits).1.value)
      ∙ found number value proposed (once number) among

  bring_all : (messages : List InputMessage) → AllByRecursion MessageFits messages → AllByRecursion (IsAcknowledgedBy proposed) messages
      → arrivals_of_items proposed (map (λ (one : InputMessage). message (raw_of one)) messages) ≡ arrivals_carried messages
  bring_all [] fit among = refl
  bring_all (one ∷ messages) fit among = λ i. brings one fit.0 among.0 i ++ bring_all messages fit.1 among.1 i

-- ---- the items of the bytes that it was handed

abbrev items_of : List InputMessage → List Item
items_of messages = map (λ (one : InputMessage). message (raw_of one)) messages

-- whole messages are items, whatever stands behind them
items_in : (messages : List InputMessage) (rest : Bytes) → AllByRecursion MessageFits messages → items item_at (input_bytes (map piece_of messages) ++ rest) ≡ items_of messages ++ items item_at rest
items_in [] rest fit = refl
items_in (one ∷ messages) rest fit =
    ap (items item_at) (append_assoc (piece_of one).bytes (input_bytes (map piece_of messages)) rest)
    ∙ items_read item_at item_at_shrinks ((piece_of one).bytes ++ (input_bytes (map piece_of messages) ++ rest)) (message (raw_of one)) (input_bytes (map piece_of messages) ++ rest)
    (front one fit.0 (input_bytes (map piece_of messages) ++ rest))
    ∙ ap (λ (more : List Item). message (raw_of one) ∷ more) (items_in messages rest fit.1)

-- a longer list that begins as another does
tail_same : (one other : InputMessage) (messages others : List InputMessage) → one ∷ messages ≡ other ∷ others → (one ≡ other) × (messages ≡ others)
tail_same one other messages others e = (cc, cc)

begins_by : (some more first behind : List InputMessage) → some ++ more ≡ first ++ behind → length first ≤ length some → (later : List InputMessage) × (some ≡ first ++ later)
begins_by some more [] behind e long = (some, refl)
begins_by [] more (one ∷ first) behind e long = absurd (omega (arith, long))
begins_by (one ∷ some) more (other ∷ first) behind e long =
    let same = tail_same one other (some ++ more) (first ++ behind) e in
    let rest = begins_by some more first behind same.1 (omega (arith, long)) in
    (rest.0, λ i. same.0 i ∷ rest.1 i)

module _ (live : AttemptInRun) (handed : Bytes) (fed : IsFedBy live) (whole : item_at live.held ≡ None) (parts : handed ≡ live.start.frame ++ (input_bytes (map piece_of live.read) ++ live.held)) where
  read_fit : AllByRecursion MessageFits live.read
  read_fit = all_in_front MessageFits live.read live.unread fed.fit

  behind_frame : (rest : Bytes) → handed ≡ live.start.frame ++ rest → drop (length live.start.frame) handed ≡ rest
  behind_frame rest are = ap (drop (length live.start.frame)) are ∙ drop-append_seam live.start.frame rest

  pub items_handed : items item_at (drop (length live.start.frame) handed) ≡ items_of live.read
  items_handed =
      ap (items item_at) (behind_frame (input_bytes (map piece_of live.read) ++ live.held) parts) ∙ items_in live.read live.held read_fit
      ∙ ap (λ (more : List Item). items_of live.read ++ more) (items_ended item_at item_at_shrinks live.held whole) ∙ append-nil (items_of live.read)

  -- ---- its journal

  abbrev first : List InputMessage
  first = CarriesInput live.start.new ∷ live.start.journal

  pub journal_handed : HasReadJournal live → HasJournal live.start handed
  journal_handed journal = record {
    later = input_bytes (map piece_of journal.later) ++ live.held;
    parts = parts
        ∙ ap (λ (bytes : Bytes). live.start.frame ++ (bytes ++ live.held)) (ap (λ (read : List InputMessage). input_bytes (map piece_of read)) journal.parts ∙ bytes_append first journal.later)
        ∙ ap (λ (bytes : Bytes). live.start.frame ++ bytes) (append_assoc (input_bytes (map piece_of first)) (input_bytes (map piece_of journal.later)) live.held);
  }

  pub journal_read : HasJournal live.start handed → HasReadJournal live
  journal_read journal =
      let first_fit : AllByRecursion MessageFits first = all_in_front MessageFits first fed.later (subst (AllByRecursion MessageFits) fed.parts fed.fit) in
      let same : items_of live.read ≡ items_of first ++ items item_at journal.later =
      sym items_handed ∙ ap (items item_at) (behind_frame (input_bytes (map piece_of first) ++ journal.later) journal.parts) ∙ items_in first journal.later first_fit in
      let counted : length (items_of live.read) ≡ length (items_of first ++ items item_at journal.later) = ap (λ (some : List Item). length some) same in
      let read_count = length-map live.read (λ (one : InputMessage). message (raw_of one)) in
      let first_count = length-map first (λ (one : InputMessage). message (raw_of one)) in
      let behind_count = length-append (items_of first) (items item_at journal.later) in
      let begins = begins_by live.read live.unread first fed.later fed.parts (omega (arith, counted, read_count, first_count, behind_count)) in
      record { later = begins.0; parts = begins.1 }

-- what comes behind the journal are no requests
no_requests : (later : List InputMessage) → AllByRecursion IsArrival later → requests_carried later ≡ []
no_requests [] all = refl
no_requests (CarriesArrival type arrival ∷ later) all = no_requests later all.1
no_requests (CarriesOutcome number value ∷ later) all = no_requests later all.1
no_requests (_ ∷ later) all = absurd all.0

requests_more : (some more : List InputMessage) → AllByRecursion IsArrival more → requests_carried (some ++ more) ≡ requests_carried some
requests_more [] more all = no_requests more all
requests_more (CarriesRequest request ∷ some) more all = ap (λ (rest : List Request). request ∷ rest) (requests_more some more all)
requests_more (CarriesInput new ∷ some) more all = requests_more some more all
requests_more (CarriesArrival type arrival ∷ some) more all = requests_more some more all
requests_more (CarriesOutcome number value ∷ some) more all = requests_more some more all

pub requests_of_journal : (live : AttemptInRun) → HasReadJournal live → IsFedBy live → requests_carried live.read ≡ requests_carried live.start.journal
requests_of_journal live journal fed =
    let read = read_input live journal fed in
    ap requests_carried read.parts ∙ requests_more live.start.journal read.later read.arrivals

-- ---- what it has read

module _ {H : Type 0} (function : H → Handler) (next : Handler) (version : Version) (options : VMOptions) (is_closed : Bool) (live : AttemptInRun) (a : Attempt H) (proposed : List (ℕ × NonEmptyValue)) (told : Told)
    (own : HasBodies next live proposed a) (s : Serves function next version options live is_closed a) (t : IsAttemptTold live a is_closed proposed told) where
  held_whole : item_at live.held ≡ None
  held_whole = ap item_at (sym s.bytes) ∙ s.whole

  proposed_once : (n : ℕ) → count_proposed n proposed ≤ 1
  proposed_once n = let few = own.lives.bodies.once n in omega (arith, few)

  pub arrivals_read : arrivals_told live.start told ≡ arrivals_carried live.read
  arrivals_read =
      ap (λ (some : List Item). arrivals_of_items told.proposed some) (items_handed live told.bytes s.fed held_whole t.bytes)
      ∙ ap (λ (some : List (ℕ × NonEmptyValue)). arrivals_of_items some (items_of live.read)) t.outcomes
      ∙ bring_all proposed proposed_once live.read (all_in_front MessageFits live.read live.unread s.fed.fit) (read_acknowledged next live proposed own.executor own.lives)

  pub told_journal : HasReadJournal live → HasJournal live.start told.bytes
  told_journal = journal_handed live told.bytes s.fed held_whole t.bytes

  pub read_journal : HasJournal live.start told.bytes → HasReadJournal live
  read_journal = journal_read live told.bytes s.fed held_whole t.bytes
