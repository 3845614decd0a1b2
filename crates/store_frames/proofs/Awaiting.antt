-- What is read of a payload that is kept waits as the suspension does.
use Rattle.std.proofs.Common.{◌≡◌, ◌-◌, ◌<◌, ◌^◌, length, Option, Some, None, sym, ap, subst, ◌∙◌}
use Rattle.journal_model.specs.Notification.{Bytes, Arrival}
use Rattle.journal_model.specs.declared.notification.NotificationId.{NotificationId}
use Rattle.journal_model.specs.AwaitTree.{AwaitTree, is_awake}
use Rattle.journal_model.specs.Attempt.{is_woken}
use Rattle.journal_model.specs.Event.{Suspension}
use Rattle.protocol_table.specs.declared.table.RecordType.TheVariants as records
use Rattle.protocol_wire.specs.declared.record.TheConstants.{LEVELS}
use Rattle.protocol_wire.specs.declared.check.Fault.{Fault}
use Rattle.protocol_wire.specs.Check.{payload_fault}
use Rattle.protocol_wire.specs.DecodingAnswers.{ErrIs, IsRead}
use Rattle.protocol_wire.specs.declared.record.DecodeError.{DecodeError}
use Rattle.protocol_wire.specs.declared.record.DecodeError.TheVariants as errors
use Rattle.protocol_records.specs.declared.future.Future.{Future}
use Rattle.protocol_records.specs.declared.suspension.SuspensionMessage.{SuspensionMessage}
use Rattle.protocol_records.specs.declared.suspension_v6.SuspensionMessageV6.{SuspensionMessageV6}
use Rattle.protocol_records.specs.Suspension.{suspension_of}
use Rattle.protocol_records.specs.SuspensionV6.{suspension_v6_of}
use Rattle.protocol_trees.specs.Future.{future_tree}
use Rattle.store_frames.specs.First.{arrived_state}
use Rattle.store_frames.specs.AwaitedFutures.{IsAwaited, any_of, TellsLists, TellsTree}
use Rattle.store_frames.proofs.KeptTrees.{again, tree_back}
use Rattle.store_frames.proofs.Suspensions.{lists_read, tree_reads}
use Rattle.store_frames.proofs.Waking.{lists_awaited}

module _ (suspension : Suspension) (kept : Bytes) (short : length kept < 2 ^ 64) where
  tree_one : (told : TellsTree suspension kept) (one : SuspensionMessage) → IsRead LEVELS records.Suspension suspension_of kept one → one.awaiting_on ≡ Some (again told.future)
  tree_one told one is = ap (λ (m : SuspensionMessage). m.awaiting_on) (is.value ∙ sym (tree_reads suspension kept told short).value)

  pub tree_awaited : TellsTree suspension kept → (one : SuspensionMessage) → IsRead LEVELS records.Suspension suspension_of kept one
      → (awaited : Future) → one.awaiting_on ≡ Some awaited → IsAwaited suspension awaited
  tree_awaited told one is awaited there arrivals =
      let both : Some awaited ≡ Some (again told.future) = sym there ∙ tree_one told one is in
      let same : awaited ≡ again told.future = cc in
      ap (λ (tree : AwaitTree NotificationId). is_awake tree (arrived_state arrivals)) (ap future_tree same ∙ (tree_back (LEVELS - 1) told.future told.fits).tree)
      ∙ sym (ap (λ (s : Suspension). is_woken arrivals (Some s)) told.waits)

  pub tree_there : TellsTree suspension kept → (one : SuspensionMessage) → IsRead LEVELS records.Suspension suspension_of kept one → one.awaiting_on ≡ None → ⊥
  tree_there told one is none = let both : None ≡ Some (again told.future) = sym none ∙ tree_one told one is in cc

  pub tree_sound : TellsTree suspension kept → (error : DecodeError) (fault : Fault) → error ≡ errors.Fault fault → ErrIs error (payload_fault LEVELS records.Suspension kept) → ⊥
  tree_sound told error fault is of =
      let found : payload_fault LEVELS records.Suspension kept ≡ Some fault = subst (λ (e : DecodeError). ErrIs e (payload_fault LEVELS records.Suspension kept)) is of in
      let both : None ≡ Some fault = sym (tree_reads suspension kept told short).sound ∙ found in
      cc

  pub lists_one : TellsLists suspension kept → (one : SuspensionMessageV6) → IsRead LEVELS records.SuspensionV6 suspension_v6_of kept one → (awaited : Future) → awaited ≡ any_of one → IsAwaited suspension awaited
  lists_one told one is awaited any arrivals =
      let same : one ≡ told.lists = is.value ∙ sym (lists_read suspension kept told short).value in
      ap (λ (future : Future). is_awake (future_tree future) (arrived_state arrivals)) (any ∙ ap any_of same)
      ∙ lists_awaited told.lists arrivals ∙ sym (ap (λ (s : Suspension). is_woken arrivals (Some s)) told.waits)

  pub lists_sound : TellsLists suspension kept → (error : DecodeError) (fault : Fault) → error ≡ errors.Fault fault → ErrIs error (payload_fault LEVELS records.SuspensionV6 kept) → ⊥
  lists_sound told error fault is of =
      let found : payload_fault LEVELS records.SuspensionV6 kept ≡ Some fault = subst (λ (e : DecodeError). ErrIs e (payload_fault LEVELS records.SuspensionV6 kept)) is of in
      let both : None ≡ Some fault = sym (lists_read suspension kept told short).sound ∙ found in
      cc
