use Rattle.std.proofs.Common.{◌∙◌, List, ◌∷◌, [], ◌++◌, length, refl, sym, subst, inl, inr}
use Rattle.std.proofs.lemmas.Result.{err_from_is_err_and}
use Rattle.std.proofs.lemmas.Iterator.Consumers.{YieldsList-turn}
use Rattle.std.proofs.lemmas.Iterator.Adapters.{YieldsList-from_vec}
use Rattle.store_invocations.specs.declared.recorded.RecordedEntry.{RecordedEntry}
use Rattle.shown_records.specs.declared.entry.ShownEntry.{ShownEntry}
use Rattle.shown_records.specs.Entries.{AreShown, IsUnread}
use Rattle.shown_records.proofs.Entries.{shown_more, unread_at}
use Rattle.shown_records.proofs.entry.read_entries.Goals as goal

pub returns-in_err-shown-clause-err : goal.returns-in_err-shown-clause-err
returns-in_err-shown-clause-err c = let p = err_from_is_err_and c.from_residual.result c.from_residual.ensures.1 in rw (p.1, p.2) (inl refl)

pub returns-in_err-one-clause-err : goal.returns-in_err-one-clause-err
returns-in_err-one-clause-err c =
    let h = c.into_iter-entry-iterator.ensures.into_iter_gives in
    let entries = c.args.entries.items in
    let turn = YieldsList-turn (YieldsList-from_vec {s = c.into_iter-entry-iterator.result} entries h.0 (h.1 ∙ c.args.entries.ok.0)) c.loop-entry.yielded c.loop-entry.entry-iterator c.loop-entry.yielded_by c.next.result c.next.new.self c.in-Some.entry c.in-Some.is c.next.ensures.steps in
    let p = err_from_is_err_and c.from_residual-in_err-one.result c.from_residual-in_err-one.ensures.1 in
    let why = c.in_err-one.field-0.0 in
    rw (p.1, p.2) (inr (unread_at entries (length c.loop-entry.yielded) c.in-Some.entry why turn.0 (subst (λ (entry : RecordedEntry). IsUnread entry why) turn.1 c.in_err-one.ensures.err)))

pub returns-in_err-push-clause-err : goal.returns-in_err-push-clause-err
returns-in_err-push-clause-err c = let p = err_from_is_err_and c.from_residual-in_err-push.result c.from_residual-in_err-push.ensures.1 in rw (p.1, p.2) (inl refl)

pub loop-entry-preserved : goal.loop-entry-preserved
loop-entry-preserved c =
    subst (λ (shown : List ShownEntry). AreShown (c.loop-entry.yielded ++ c.in-Some.entry ∷ []) shown) (sym c.in_ok-push.ensures.items)
    (shown_more c.loop-entry.yielded c.loop-entry.shown.items c.in-Some.entry c.in_ok-one.one c.loop-entry.invariant c.in_ok-one.ensures.ok)
