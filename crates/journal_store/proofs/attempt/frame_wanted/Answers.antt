-- The row says that no arrival is left.
use Rattle.std.proofs.Common.{sym, subst, ◌∙◌}
use Rattle.journal_store.specs.Attempts.{FitsNext}
use Rattle.journal_store.specs.Words.{attempt_of}
use Rattle.journal_store.proofs.Reading.{wanted_past}
use Rattle.journal_store.proofs.attempt.frame_wanted.Goals as goal

pub returns-then-has_none_left-clause-told : goal.returns-then-has_none_left-clause-told
returns-then-has_none_left-clause-told g c clean events store has fits =
    wanted_past events c.args.id.now (attempt_of c.args.live.now.attempts c.args.id.now) c.in-Some.one.now (sym c.in-Some.ensures) (sym c.if-not-is_read_out.ensures) has
    (sym (c.has_none_left.ensures (subst FitsNext (sym c.in-Some.ensures) fits)) ∙ c.if-has_none_left.true)
