use Rattle.std.proofs.Common.{◌≡◌, List, Ok, Err, subst}
use Rattle.std.specs.Prelude.{IfOk, string_bytes}
use Rattle.journal_model.specs.Journal.{is_open}
use Rattle.shown_records.specs.Invocation.{shown_text}
use Rattle.shown_records.specs.declared.entry.ShownEntry.{ShownEntry}
use Rattle.store_invocations.specs.InvocationAnswers.{answer_told}
use Rattle.store_server.specs.RequestAnswers.{answered_text}
use Rattle.store_server.specs.StoreChanges.{CommitsNothing, TellsKnown}
use Rattle.store_server.proofs.Asking.{both_told}
use Rattle.store_server.proofs.Reaching.{answers}
use Rattle.store_server.proofs.asks.answered.Goals as goal

pub returns-in-Ok : goal.returns-in-Ok
returns-in-Ok g c =
    let id = c.args.id.now in
    let shown = c.in-Ok.shown in
    let a = c.args.store.now in
    let b = c.found_answer.new.store in
    let told = both_told g.S.Store id shown.answer shown.is_open a b c.in-Ok.ensures.ok.1 in
    answers g.S.Store string_bytes c.format-text.result answered_text (Ok (shown.answer, shown.is_open)) a b
    (subst (λ (entries : List ShownEntry). IfOk c.format-text.result (λ text. string_bytes text ≡ shown_text entries shown.answer shown.is_open)) c.in-Ok.ensures.ok.0 c.format-text.ensures.ok)
    (TellsKnown id (λ events it. it ≡ (answer_told events id, is_open events id))) CommitsNothing told.crash told.leads

pub returns-in-Err : goal.returns-in-Err
returns-in-Err g c =
    let id = c.args.id.now in
    answers g.S.Store string_bytes c.refused.result answered_text (Err c.in-Err.refusal) c.args.store.now c.found_answer.new.store c.refused.ensures
    (TellsKnown id (λ events it. it ≡ (answer_told events id, is_open events id))) CommitsNothing c.in-Err.ensures.err.crash c.in-Err.ensures.err.leads
