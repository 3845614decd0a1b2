-- What is kept of a suspension that a message told is read back.
use Rattle.std.proofs.Common.{◌≡◌, ◌-◌, ◌<◌, ◌^◌, ◌⊎◌, inl, inr, ℕ, Bool, true, false, List, [], ◌∷◌, ◌++◌, map, length, Option, Some, None, option_map, refl, sym, ap, subst, ◌∙◌, arith}
use Rattle.std.specs.Prelude.{IfSome, IsUtf8}
use Rattle.std.specs.List.{AllByRecursion}
use Rattle.journal_model.specs.Notification.{Bytes, Text}
use Rattle.journal_model.specs.declared.notification.NotificationId.{NotificationId}
use Rattle.journal_model.specs.declared.notification.NotificationId.TheVariants.{CompletionId, SignalId, SignalName}
use Rattle.journal_model.specs.declared.value.NonEmptyValue.{NonEmptyValue}
use Rattle.journal_model.specs.AwaitTree as Trees
use Rattle.journal_model.specs.Event.{Frame, Suspension, ForTree, ForAny}
use Rattle.journal_model.specs.Request.{Request}
use Rattle.journal_model.specs.Spelling.{suspension_payload}
use Rattle.protocol_table.specs.declared.table.RecordType.{RecordType}
use Rattle.protocol_table.specs.declared.table.RecordType.TheVariants as records
use Rattle.protocol_types.specs.declared.message_type.MessageType.{MessageType}
use Rattle.protocol_types.specs.declared.feature.Feature.TheVariants.{AwaitTree, AtLeast}
use Rattle.protocol_records.specs.AwaitingOn.{awaiting_on_of}
use Rattle.protocol_types.specs.Feature.{lacks_feature}
use Rattle.protocol_wire.specs.declared.record.TheConstants.{LEVELS}
use Rattle.protocol_wire.specs.declared.check.Fault.{Fault}
use Rattle.protocol_wire.specs.declared.check.Fault.TheVariants.{BadPayload, TooDeep}
use Rattle.protocol_wire.specs.Check.{payload_fault}
use Rattle.protocol_wire.specs.Fields.{fields}
use Rattle.protocol_wire.specs.Parts.{payload_of}
use Rattle.protocol_wire.specs.DecodingAnswers.{IsRead}
use Rattle.protocol_records.specs.declared.future.Future.{Future}
use Rattle.protocol_records.specs.declared.suspension.SuspensionMessage.{SuspensionMessage}
use Rattle.protocol_records.specs.declared.suspension_v6.SuspensionMessageV6.{SuspensionMessageV6}
use Rattle.protocol_records.specs.Future.{FutureFits}
use Rattle.protocol_records.specs.Suspension.{suspension_of, suspension_parts}
use Rattle.protocol_records.specs.SuspensionV6.{SuspensionV6Fits, suspension_v6_of, suspension_v6_parts}
use Rattle.protocol_records.specs.ReadBack.{suspension_reads, suspension_v6_reads}
use Rattle.protocol_controls.specs.Error.{error_of}
use Rattle.protocol_controls.specs.ProposeRunCompletion.{propose_run_completion_of}
use Rattle.protocol_laws.specs.Fits.{suspension_fits, suspension_v6_fits}
use Rattle.protocol_stream.specs.Header.{message_type}
use Rattle.protocol_stream.specs.Records.{future_record}
use Rattle.protocol_laws.proofs.Notifications.{suspensions_spelled}
use Rattle.protocol_trees.specs.Future.{future_tree, ids_in}
use Rattle.store_frames.specs.declared.kind.FrameKind.{FrameKind}
use Rattle.store_frames.specs.declared.kind.FrameKind.TheVariants as kinds
use Rattle.store_frames.specs.Kind.{frame_kind, record_of}
use Rattle.store_frames.specs.Commands.{request_in}
use Rattle.store_frames.specs.FrameMeanings.{asks_ack, command_or_broken, error_frame, frame_by, outcome_or_broken, read_if_record, suspension_frame, unless_faulty, unless_numbered}
use Rattle.store_frames.specs.Requests.{awaited_tree, proposal_told, suspension_of_lists, suspension_of_tree}
use Rattle.store_frames.specs.Answer.{KeepsLists, KeepsSuspension}
use Rattle.store_frames.specs.ReadFrames.{IsFrameRead}
use Rattle.store_frames.proofs.Numbered.{numbered_or_not}
use Rattle.store_frames.proofs.Payloads.{lists_payload}
use Rattle.store_frames.specs.AwaitedFutures.{TellsLists, TellsTree}
use Rattle.store_frames.proofs.KeptTrees.{tree_back}

-- ---- the lists that are kept fit where those that were told do

abbrev WordFits : NotificationId → Type 0
WordFits (CompletionId n) = n < 2 ^ 32
WordFits (SignalId n) = n < 2 ^ 32
WordFits (SignalName name) = IsUtf8 name

mapped : {A : Type 0} (P : A → Type 0) (made : A → NotificationId) → ((x : A) → P x → WordFits (made x)) → (xs : List A) → AllByRecursion P xs → AllByRecursion WordFits (map made xs)
mapped P made h [] all = tt
mapped P made h (x ∷ xs) all = (h x all.0, mapped P made h xs all.1)

unmapped : {A : Type 0} (P : A → Type 0) (made : A → NotificationId) → ((x : A) → WordFits (made x) → P x) → (xs : List A) → AllByRecursion WordFits (map made xs) → AllByRecursion P xs
unmapped P made h [] all = tt
unmapped P made h (x ∷ xs) all = (h x all.0, unmapped P made h xs all.1)

joined : (xs ys : List NotificationId) → AllByRecursion WordFits xs → AllByRecursion WordFits ys → AllByRecursion WordFits (xs ++ ys)
joined [] ys all others = others
joined (x ∷ xs) ys all others = (all.0, joined xs ys all.1 others)

split : (xs ys : List NotificationId) → AllByRecursion WordFits (xs ++ ys) → AllByRecursion WordFits xs × AllByRecursion WordFits ys
split [] ys all = (tt, all)
split (x ∷ xs) ys all = let later = split xs ys all.1 in ((all.0, later.0), later.1)

abbrev IsSmall : ℕ → Type 0
IsSmall n = n < 2 ^ 32

words_fit : (lists : SuspensionMessageV6) → SuspensionV6Fits LEVELS lists → AllByRecursion WordFits (ids_in lists.waiting_completions lists.waiting_signals lists.waiting_named_signals)
words_fit lists fits =
    joined (map CompletionId lists.waiting_completions) (map SignalId lists.waiting_signals ++ map SignalName lists.waiting_named_signals)
    (mapped IsSmall CompletionId (λ n h. h) lists.waiting_completions fits.waiting_completions)
    (joined (map SignalId lists.waiting_signals) (map SignalName lists.waiting_named_signals)
    (mapped IsSmall SignalId (λ n h. h) lists.waiting_signals fits.waiting_signals)
    (mapped IsUtf8 SignalName (λ name h. h) lists.waiting_named_signals fits.waiting_named_signals))

lists_fit : (lists : SuspensionMessageV6) → 0 < LEVELS → AllByRecursion WordFits (ids_in lists.waiting_completions lists.waiting_signals lists.waiting_named_signals) → SuspensionV6Fits LEVELS lists
lists_fit lists some all =
    let first = split (map CompletionId lists.waiting_completions) (map SignalId lists.waiting_signals ++ map SignalName lists.waiting_named_signals) all in
    let others = split (map SignalId lists.waiting_signals) (map SignalName lists.waiting_named_signals) first.1 in
    record {
      level = some;
      waiting_completions = unmapped IsSmall CompletionId (λ n h. h) lists.waiting_completions first.0;
      waiting_signals = unmapped IsSmall SignalId (λ n h. h) lists.waiting_signals others.0;
      waiting_named_signals = unmapped IsUtf8 SignalName (λ name h. h) lists.waiting_named_signals others.1;
    }

-- ---- a frame that is a suspension came in a message of one

pub record IsTree (suspension : Suspension) : Type 0 where
  pub future : Future
  pub fits : FutureFits (LEVELS - 1) future
  pub waits : suspension ≡ ForTree (future_tree future)

pub record AreLists (suspension : Suspension) : Type 0 where
  pub lists : SuspensionMessageV6
  pub fits : SuspensionV6Fits LEVELS lists
  pub waits : suspension ≡ suspension_of_lists lists

abbrev pub IsTold : Bool → Suspension → Type 0
IsTold true suspension = AreLists suspension
IsTold false suspension = IsTree suspension

module _ (suspension : Suspension) where
  abbrev IsIt : Frame → Type 0
  IsIt frame = frame ≡ Frame.Suspend (Some suspension)

  no_fault : (o : Option Fault) (frame : Frame) → IsIt (unless_faulty o frame) → (o ≡ None) × IsIt frame
  no_fault None frame e = (refl, e)
  no_fault (Some BadPayload) frame e = cc
  no_fault (Some TooDeep) frame e = cc

  never : (t : RecordType) (payload : Bytes) (frame : Frame) → (IsIt frame → ⊥) → IsIt (unless_faulty (payload_fault LEVELS t payload) frame) → ⊥
  never t payload frame other e = other (no_fault (payload_fault LEVELS t payload) frame e).1

  no_command : (found : Option Request) → IsIt (command_or_broken found) → ⊥
  no_command None e = cc
  no_command (Some request) e = cc

  no_record : (o : Option RecordType) (payload : Bytes) (frame : Frame) → (IsIt frame → ⊥) → IsIt (read_if_record o (λ fs. frame) payload) → ⊥
  no_record None payload frame other e = cc
  no_record (Some t) payload frame other e = never t payload frame other e

  by_tree : (lacks : Bool) (o : Option Future) → IfSome o (FutureFits (LEVELS - 1)) → IsIt (unless_numbered lacks o (Frame.Suspend (option_map (λ (f : Future). ForTree (future_tree f)) o))) → IsTree suspension
  by_tree lacks o fits e = by_cases (numbered_or_not lacks o (Frame.Suspend (option_map (λ (f : Future). ForTree (future_tree f)) o)))
    where
      of_tree : (p : Option Future) → IfSome p (FutureFits (LEVELS - 1)) → IsIt (Frame.Suspend (option_map (λ (f : Future). ForTree (future_tree f)) p)) → IsTree suspension
      of_tree None fits e = cc
      of_tree (Some f) fits e = let waits : suspension ≡ ForTree (future_tree f) = cc in record { future = f; fits = fits; waits = waits }

      by_cases : (unless_numbered lacks o (Frame.Suspend (option_map (λ (f : Future). ForTree (future_tree f)) o)) ≡ Frame.Suspend (option_map (λ (f : Future). ForTree (future_tree f)) o))
          ⊎ (unless_numbered lacks o (Frame.Suspend (option_map (λ (f : Future). ForTree (future_tree f)) o)) ≡ Frame.Broken) → IsTree suspension
      by_cases (inl is) = of_tree o fits (sym is ∙ e)
      by_cases (inr is) = let broken : IsIt Frame.Broken = sym is ∙ e in cc

  no_staying : (lacks : Bool) (o : Option Future) (awaited : Option (Trees.AwaitTree NotificationId)) → IsIt (unless_numbered lacks o (Frame.AwaitingOn awaited)) → ⊥
  no_staying lacks o awaited e = by_cases (numbered_or_not lacks o (Frame.AwaitingOn awaited))
    where
      by_cases : (unless_numbered lacks o (Frame.AwaitingOn awaited) ≡ Frame.AwaitingOn awaited) ⊎ (unless_numbered lacks o (Frame.AwaitingOn awaited) ≡ Frame.Broken) → ⊥
      by_cases (inl is) = let stays : IsIt (Frame.AwaitingOn awaited) = sym is ∙ e in cc
      by_cases (inr is) = let broken : IsIt Frame.Broken = sym is ∙ e in cc

  by_form : (has_lists lacks : Bool) (payload : Bytes) → IsIt (suspension_frame has_lists lacks payload) → IsTold has_lists suspension
  by_form true lacks payload e =
      let one = suspension_v6_of LEVELS (fields payload) in
      let it = no_fault (payload_fault LEVELS records.SuspensionV6 payload) (Frame.Suspend (Some (suspension_of_lists one))) e in
      let waits : suspension ≡ suspension_of_lists one = cc (it.1) in
      record { lists = one; fits = suspension_v6_fits LEVELS payload it.0; waits = waits }
  by_form false lacks payload e =
      let one = suspension_of LEVELS (fields payload) in
      let it = no_fault (payload_fault LEVELS records.Suspension payload) (unless_numbered lacks one.awaiting_on (Frame.Suspend (suspension_of_tree one))) e in
      by_tree lacks one.awaiting_on (suspension_fits LEVELS payload it.0).awaiting_on it.1

  no_outcome : (asks : Bool) (o : Option (ℕ × NonEmptyValue)) → IsIt (outcome_or_broken asks o) → ⊥
  no_outcome asks None e = cc
  no_outcome asks (Some outcome) e = cc

  by_kind : (version : ℕ) (kind : FrameKind) (ty : MessageType) (asks : Bool) (payload : Bytes) → IsIt (frame_by version kind ty asks payload) → IsTold (lacks_feature version AwaitTree) suspension
  by_kind version kinds.Command ty asks payload e = absurd (of_record (record_of ty) e)
    where
      of_record : (o : Option RecordType) → IsIt (read_if_record o (λ fs. command_or_broken (request_in ty fs)) payload) → ⊥
      of_record None e = cc
      of_record (Some t) e = never t payload (command_or_broken (request_in ty (fields payload))) (no_command (request_in ty (fields payload))) e
  by_kind version kinds.AwaitingOn ty asks payload e =
      let one = awaiting_on_of LEVELS (fields payload) in
      let lacks = lacks_feature version AtLeast in
      absurd (never records.AwaitingOn payload (unless_numbered lacks one.awaiting_on (Frame.AwaitingOn (awaited_tree one))) (no_staying lacks one.awaiting_on (awaited_tree one)) e)
  by_kind version kinds.Suspension ty asks payload e = by_form (lacks_feature version AwaitTree) (lacks_feature version AtLeast) payload e
  by_kind version kinds.Error ty asks payload e = absurd (never records.Error payload (error_frame version (error_of LEVELS (fields payload))) (λ is. cc) e)
  by_kind version kinds.End ty asks payload e = absurd (never records.End payload Frame.End (λ is. cc) e)
  by_kind version kinds.RunOutcome ty asks payload e =
      let outcome = proposal_told (propose_run_completion_of LEVELS (fields payload)) in
      absurd (never records.ProposeRunCompletion payload (outcome_or_broken asks outcome) (no_outcome asks outcome) e)
  by_kind version kinds.Other ty asks payload e = absurd (no_record (record_of ty) payload Frame.NotAccepted (λ is. cc) e)

  pub is_told : (version : ℕ) → IsFrameRead version (Frame.Suspend (Some suspension)) → IsTold (lacks_feature version AwaitTree) suspension
  is_told version (m, e) = by_kind version (frame_kind (message_type m.header)) (message_type m.header) (asks_ack m.header) m.payload (sym e)

-- ---- what is kept of it tells it

chosen : (b has_lists : Bool) (suspension : Suspension) → b ≡ has_lists → IsTold b suspension → IsTold has_lists suspension
chosen b has_lists suspension e told = subst (λ (t : Bool). IsTold t suspension) e told

pub tells_tree : (version : ℕ) (suspension : Suspension) (kept : Bytes) → IsFrameRead version (Frame.Suspend (Some suspension)) → KeepsSuspension suspension kept → lacks_feature version AwaitTree ≡ false → TellsTree suspension kept
tells_tree version suspension kept read keeps lacks =
    let told : IsTree suspension = chosen (lacks_feature version AwaitTree) false suspension lacks (is_told suspension version read) in
    record { future = told.future; fits = told.fits; waits = told.waits; payload_is = subst (λ (s : Suspension). KeepsSuspension s kept) told.waits keeps }

pub tells_lists : (version : ℕ) (suspension : Suspension) (kept : Bytes) → IsFrameRead version (Frame.Suspend (Some suspension)) → KeepsSuspension suspension kept → lacks_feature version AwaitTree ≡ true → TellsLists suspension kept
tells_lists version suspension kept read keeps lacks =
    let told : AreLists suspension = chosen (lacks_feature version AwaitTree) true suspension lacks (is_told suspension version read) in
    let one = told.lists in
    let its : KeepsLists (suspension_of_lists one) kept = subst (λ (s : Suspension). KeepsSuspension s kept) told.waits keeps in
    let same : suspension_of_lists its.lists ≡ suspension_of_lists one = its.lists_are in
    let ids : ids_in one.waiting_completions one.waiting_signals one.waiting_named_signals ≡ ids_in its.lists.waiting_completions its.lists.waiting_signals its.lists.waiting_named_signals = cc in
    record {
      lists = its.lists;
      fits = lists_fit its.lists told.fits.level (subst (AllByRecursion WordFits) ids (words_fit one told.fits));
      waits = told.waits ∙ sym same;
      payload_is = its.payload_is;
    }

-- ---- and is read back

pub tree_reads : (suspension : Suspension) (kept : Bytes) (told : TellsTree suspension kept) → length kept < 2 ^ 64
    → IsRead LEVELS records.Suspension suspension_of kept (record { awaiting_on = Some (future_record (future_tree told.future)) })
tree_reads suspension kept told short =
    let one : SuspensionMessage = record { awaiting_on = Some (future_record (future_tree told.future)) } in
    let spelled : payload_of (suspension_parts one) ≡ kept = suspensions_spelled (future_tree told.future) ∙ sym told.payload_is in
    subst (λ (bytes : Bytes). IsRead LEVELS records.Suspension suspension_of bytes one) spelled
    (suspension_reads LEVELS one (record { level = omega arith; awaiting_on = (tree_back (LEVELS - 1) told.future told.fits).fits }) (subst (λ (bytes : Bytes). length bytes < 2 ^ 64) (sym spelled) short))

pub lists_read : (suspension : Suspension) (kept : Bytes) (told : TellsLists suspension kept) → length kept < 2 ^ 64
    → IsRead LEVELS records.SuspensionV6 suspension_v6_of kept told.lists
lists_read suspension kept told short =
    let spelled : payload_of (suspension_v6_parts told.lists) ≡ kept = lists_payload told.lists ∙ sym told.payload_is in
    subst (λ (bytes : Bytes). IsRead LEVELS records.SuspensionV6 suspension_v6_of bytes told.lists) spelled
    (suspension_v6_reads LEVELS told.lists told.fits (subst (λ (bytes : Bytes). length bytes < 2 ^ 64) (sym spelled) short))
