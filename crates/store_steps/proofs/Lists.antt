-- The payload that is kept of a suspension is its own.
use Rattle.std.proofs.Common.{◌≡◌, ap, sym, ◌∙◌}
use Rattle.journal_model.specs.Notification.{Bytes}
use Rattle.journal_model.specs.Event.{Suspension, ForTree, ForAny}
use Rattle.store_frames.specs.Answer.{KeepsSuspension}
use Rattle.store_model.specs.Progress.{payload_of_suspension}
use Rattle.store_arrivals.proofs.Lists.{payload_of_lists}

pub payload_kept : (suspension : Suspension) (payload : Bytes) → KeepsSuspension suspension payload → payload_of_suspension suspension ≡ payload
payload_kept (ForTree tree) payload h = sym h
payload_kept (ForAny awaited) payload h =
    ap payload_of_suspension (sym h.lists_are)
    ∙ payload_of_lists h.lists.waiting_completions h.lists.waiting_signals h.lists.waiting_named_signals
    ∙ sym h.payload_is
