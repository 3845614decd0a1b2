-- The type of the entry tells which request it is.
use Rattle.std.proofs.Common.{sym, ◌∙◌}
use Rattle.store_deliveries.proofs.Decoding.{completion_asked, none_asked, signal_asked}
use Rattle.store_deliveries.proofs.recorded.message_in.Goals as goal

pub returns-then-is_signal-clause-told : goal.returns-then-is_signal-clause-told
returns-then-is_signal-clause-told c request message readable e spelled is =
    c.signal_in.ensures.told request message (signal_asked c.args.entry.now.kind request e (sym c.is_signal.ensures ∙ c.if-is_signal.true) readable.read) readable.short (c.as_slice.ensures ∙ spelled) is

pub returns-then-is_completion-clause-told : goal.returns-then-is_completion-clause-told
returns-then-is_completion-clause-told c request message readable e spelled is =
    c.completion_in.ensures.told request message (completion_asked c.args.entry.now.kind request e (sym c.is_completion.ensures ∙ c.if-is_completion.true) readable.read) readable.short (c.as_slice-then-is_completion.ensures ∙ spelled) is

pub returns-clause-told : goal.returns-clause-told
returns-clause-told c request message readable e spelled is =
    absurd (none_asked c.args.entry.now.kind request message e (sym c.is_signal.ensures ∙ c.if-is_signal.false) (sym c.is_completion.ensures ∙ c.if-is_completion.false) is)
