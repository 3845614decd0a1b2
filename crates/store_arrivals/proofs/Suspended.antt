-- What is kept of an accepted suspension is read back, by the version of its invocation.
use Rattle.std.proofs.Common.{◌≡◌, ℕ, Bool, true, false, ◌&&◌, not, if◌then◌else◌, List, [], ◌∷◌, Option, Some, None, option_map, is_some, refl, sym, ap, subst, ◌∙◌, bytes_eq}
use Rattle.std.specs.Prelude.{IfSome}
use Rattle.std.proofs.lemmas.Slice.Eq.{bytes_eq-Decides}
use Rattle.journal_model.specs.Notification.{Bytes, Text}
use Rattle.journal_model.specs.declared.notification.NotificationId.{NotificationId}
use Rattle.journal_model.specs.declared.invocation.NewInvocation.{NewInvocation}
use Rattle.journal_model.specs.Event.{Suspension, ForTree, ForAny, Frame, Event}
use Rattle.journal_model.specs.Journal.{invocation_begun, is_open, version_of}
use Rattle.journal_model.specs.Attempt.{or_before, suspension_of}
use Rattle.journal_model.specs.Cause.{IsAccepted, causes_of}
use Rattle.journal_laws.proofs.ObjectState.{begin_when_new, open_when_accepted}
use Rattle.protocol_types.specs.declared.feature.Feature.TheVariants.{AwaitTree}
use Rattle.protocol_types.specs.Feature.{lacks_feature}
use Rattle.protocol_types.specs.Version.{version_number}
use Rattle.store_frames.specs.Answer.{KeepsSuspension}
use Rattle.store_frames.specs.ReadFrames.{AreRead, IsFrameRead}
use Rattle.store_tables.specs.declared.row.InvocationRow.{InvocationRow}
use Rattle.store_model.specs.Progress.{payload_of_suspension, progress_of}
use Rattle.store_model.proofs.Same.{version_in}
use Rattle.store_model.proofs.Versions.{kept_number}
use Rattle.store_frames.proofs.Suspensions.{IsTold, is_told}
use Rattle.store_invocations.specs.Rows.{IsRowOf}
use Rattle.store_arrivals.proofs.Lists.{payload_of_lists}

-- ---- it came in a message of that version

abbrev Told : Option NewInvocation → Option Suspension → Type 0
Told begun suspension = IfSome suspension (λ s. IsFrameRead (version_in begun) (Frame.Suspend (Some s)) × (is_some begun ≡ true))

not_begun : (suspension : Option Suspension) (before after : Option NewInvocation) → is_some before ≡ false → Told before suspension → Told after suspension
not_begun None before after none told = tt
not_begun (Some s) before after none told = let both : true ≡ false = sym told.1 ∙ none in cc

known_open : (known closed : Bool) → (known && not closed) ≡ true → known ≡ true
known_open true closed e = refl
known_open false closed e = cc

taken : (new before : Option Suspension) (begun : Option NewInvocation) → Told begun new → Told begun before → Told begun (or_before new before)
taken None before begun now told = told
taken (Some s) before begun now told = now

told_in : (events : List Event) (id : Text) → IsAccepted events → AreRead events → Told (invocation_begun events id) (suspension_of events id)
told_in [] id accepted read = tt
told_in (Event.Invoke new ∷ earlier) id accepted read = by_test (bytes_eq new.id id) refl (told_in earlier id accepted.1 read.1)
  where
    by_test : (b : Bool) → bytes_eq new.id id ≡ b → Told (invocation_begun earlier id) (suspension_of earlier id) → Told (if b then Some new else invocation_begun earlier id) (suspension_of earlier id)
    by_test true same told =
        not_begun (suspension_of earlier id) (invocation_begun earlier id) (Some new)
        (ap (λ (x : Text). is_some (invocation_begun earlier x)) (sym ((bytes_eq-Decides new.id id).0 same)) ∙ begin_when_new earlier new accepted.0) told
    by_test false same told = told
told_in (Event.Begin other now ∷ earlier) id accepted read = by_test (bytes_eq other id) (told_in earlier id accepted.1 read.1)
  where
    by_test : (b : Bool) → Told (invocation_begun earlier id) (suspension_of earlier id) → Told (invocation_begun earlier id) (if b then None else suspension_of earlier id)
    by_test true told = tt
    by_test false told = told
told_in (Event.Move other attempt (Frame.Suspend suspension) ∷ earlier) id accepted read = by_test (bytes_eq other id) refl (told_in earlier id accepted.1 read.1)
  where
    open_then : bytes_eq other id ≡ true → is_some (invocation_begun earlier id) ≡ true
    open_then same = known_open (is_some (invocation_begun earlier id)) _ (open_when_accepted earlier (Event.Move other attempt (Frame.Suspend suspension)) id refl same accepted.0)

    of_frame : (new : Option Suspension) → IsFrameRead (version_of earlier other) (Frame.Suspend new) → bytes_eq other id ≡ true → Told (invocation_begun earlier id) new
    of_frame None frame same = tt
    of_frame (Some s) frame same = (subst (λ (x : Text). IsFrameRead (version_of earlier x) (Frame.Suspend (Some s))) ((bytes_eq-Decides other id).0 same) frame, open_then same)

    by_test : (b : Bool) → bytes_eq other id ≡ b → Told (invocation_begun earlier id) (suspension_of earlier id)
        → Told (invocation_begun earlier id) (or_before (if b then suspension else None) (suspension_of earlier id))
    by_test true same told = taken suspension (suspension_of earlier id) (invocation_begun earlier id) (of_frame suspension read.0 same) told
    by_test false same told = told
told_in (Event.Move other attempt _ ∷ earlier) id accepted read = told_in earlier id accepted.1 read.1
told_in (_ ∷ earlier) id accepted read = told_in earlier id accepted.1 read.1

-- ---- and is kept as it was spelled

any_kept : (has_lists : Bool) (ids : List NotificationId) → IsTold has_lists (ForAny ids) → KeepsSuspension (ForAny ids) (payload_of_suspension (ForAny ids))
any_kept true ids told = record {
  lists = told.lists;
  lists_are = sym told.waits;
  payload_is = ap payload_of_suspension told.waits ∙ payload_of_lists told.lists.waiting_completions told.lists.waiting_signals told.lists.waiting_named_signals;
}
any_kept false ids told = cc (told.waits)

pub keeps_payload : (version : ℕ) (suspension : Suspension) → IsFrameRead version (Frame.Suspend (Some suspension)) → KeepsSuspension suspension (payload_of_suspension suspension)
keeps_payload version (ForTree tree) read = refl
keeps_payload version (ForAny ids) read = any_kept (lacks_feature version AwaitTree) ids (is_told (ForAny ids) version read)

-- ---- of a row

pub record Waits (events : List Event) (id : Text) (row : InvocationRow) (payload : Bytes) : Type 0 where
  pub suspension : Suspension
  pub is : suspension_of events id ≡ Some suspension
  pub read : IsFrameRead (version_number row.version) (Frame.Suspend (Some suspension))
  pub keeps : KeepsSuspension suspension payload

module _ (events : List Event) (id : Text) (row : InvocationRow) (of : IsRowOf events id row) where
  suspension_is : row.progress.suspension ≡ option_map payload_of_suspension (suspension_of events id)
  suspension_is = ap (λ (r : InvocationRow). r.progress.suspension) of.is ∙ ap (λ (x : Text). option_map payload_of_suspension (suspension_of events x)) of.named

  version_is : IsAccepted events → version_number row.version ≡ version_of events id
  version_is accepted = ap (λ (r : InvocationRow). version_number r.version) of.is ∙ kept_number events id of.new accepted of.begun

  kept_by : (o : Option Suspension) (payload : Bytes) → option_map payload_of_suspension o ≡ Some payload → IfSome o (λ s. IsFrameRead (version_number row.version) (Frame.Suspend (Some s)))
      → (s : Suspension) × (o ≡ Some s) × IsFrameRead (version_number row.version) (Frame.Suspend (Some s)) × KeepsSuspension s payload
  kept_by None payload e read = cc
  kept_by (Some s) payload e read =
      let same : payload_of_suspension s ≡ payload = cc in
      (s, refl, read, subst (KeepsSuspension s) same (keeps_payload (version_number row.version) s read))

  of_version : (o : Option Suspension) (version other : ℕ) → version ≡ other → IfSome o (λ s. IsFrameRead version (Frame.Suspend (Some s)) × (is_some (invocation_begun events id) ≡ true))
      → IfSome o (λ s. IsFrameRead other (Frame.Suspend (Some s)))
  of_version None version other e told = tt
  of_version (Some s) version other e told = subst (λ (v : ℕ). IsFrameRead v (Frame.Suspend (Some s))) e told.0

  pub row_waits : IsAccepted events → AreRead events → (payload : Bytes) → row.progress.suspension ≡ Some payload → Waits events id row payload
  row_waits accepted read payload e =
      let it = kept_by (suspension_of events id) payload (sym suspension_is ∙ e) (of_version (suspension_of events id) (version_of events id) (version_number row.version) (sym (version_is accepted)) (told_in events id accepted read)) in
      record { suspension = it.0; is = it.1; read = it.2; keeps = it.3 }

  none_kept : (o : Option Suspension) → option_map payload_of_suspension o ≡ None → o ≡ None
  none_kept None e = refl
  none_kept (Some s) e = cc

  pub row_waits_not : row.progress.suspension ≡ None → suspension_of events id ≡ None
  row_waits_not e = none_kept (suspension_of events id) (sym suspension_is ∙ e)
