use Rattle.std.proofs.Common.{refl, Some, Err, sym, ap, ◌∙◌}
use Rattle.std.proofs.lemmas.Result.{err_from_is_err_and}
use Rattle.journal_model.specs.Request.{Request}
use Rattle.protocol_types.specs.declared.message_type.MessageType.TheVariants.{OneWayCallCommand}
use Rattle.vm_calls.proofs.Calls.{number_fails}
use Rattle.vm_calls.proofs.MismatchedCommands.{number_finds}
use Rattle.journal_model.specs.declared.call.Call.{Call}
use Rattle.journal_model.specs.declared.call.Answer.{Answer}
use Rattle.vm_waiting.specs.CompletionPairs.{HasBegunTracked}
use Rattle.vm_waiting.specs.TrackedChildren.{tracks_sends}
use Rattle.vm_waiting.proofs.Calls.{send_completes}
use Rattle.vm_waiting.proofs.CompletionPairs.{one_is_ready, handle_is}
use Rattle.vm_waiting.proofs.TrackLemmas.{send_keeps, rest_behind}
use Rattle.vm_calls.proofs.Spending.{takes_rest, number_spent}
use Rattle.vm_waiting.proofs.sending.send.Goals as goal

pub returns-clause-made : goal.returns-clause-made
returns-clause-made c =
    λ given m moment timed refused cancels sees.
    let call = Call.Send c.args.target c.args.parameter moment c.args.name c.args.options in
    let begun = c.in_ok-name.ensures in
    let tracked = c.tracks_sends.ensures ∙ ap tracks_sends (sym cancels) in
    let completes = send_completes given m c.args.target c.args.parameter moment c.args.name c.args.options c.in_ok-name.name c.args.execution_time c.in_ok-name.id refused (begun.name ∙ c.or_empty.ensures)
    timed (begun.taken.takes.id ∙ sees.completions) in
    let has_begun : HasBegunTracked given m call c.in_ok-name.handle c.args.active.now c.begin_tracked.new.active = record { sees = sees; ty = OneWayCallCommand; name = c.or_empty.result; id = c.in_ok-name.id; tracked = c.tracks_sends.result; takes = begun.taken; child = send_keeps given m sees.made c.args.target c.args.parameter moment c.args.name c.args.options c.tracks_sends.result tracked } in
    c.put_call.ensures.makes c.args.checks_off given m call _ c.args.active.now (ap (λ (request : Request). Some request) c.in_ok-command.ensures) (λ handle. Answer.Handle handle)
    completes.asks c.ignores-ignore.ensures
    (one_is_ready given m call _ completes c.in_ok-name.handle c.args.active.now c.begin_tracked.new.active has_begun)
    (handle_is given m call _ completes c.in_ok-name.handle c.args.active.now c.begin_tracked.new.active has_begun)

pub returns-in_err-name-clause-made : goal.returns-in_err-name-clause-made
returns-in_err-name-clause-made c =
    λ given m moment timed refused cancels sees.
    let told = err_from_is_err_and c.from_residual.result c.from_residual.ensures.1 in
    number_fails c.args.checks_off given m _ _ c.args.active.now c.begin_tracked.new.active c.in_err-name.field-0.0 c.from_residual.result c.in_err-name.ensures.err c.begin_tracked.ensures.output (told.1 ∙ ap Err told.2)

pub returns-clause-spent : goal.returns-clause-spent
returns-clause-spent c =
    let begun = c.in_ok-name.ensures in
    c.put_call.ensures.spent _ 1 c.args.active.now (ap (λ (request : Request). Some request) c.in_ok-command.ensures)
    (rest_behind c.args.active.now begun.taken.between _ _ (takes_rest OneWayCallCommand c.or_empty.result c.args.active.now begun.taken.takes) begun.taken.keeps) begun.taken.takes.has

pub returns-in_err-name-clause-spent : goal.returns-in_err-name-clause-spent
returns-in_err-name-clause-spent c =
    λ spent.
    let told = err_from_is_err_and c.from_residual.result c.from_residual.ensures.1 in
    number_spent 1 c.args.active.now c.begin_tracked.new.active c.in_err-name.field-0.0 c.from_residual.result c.in_err-name.ensures.err c.begin_tracked.ensures.output (told.1 ∙ ap Err told.2)

pub returns-clause-found : goal.returns-clause-found
returns-clause-found c =
    let taken = c.in_ok-name.ensures.taken in
    c.put_call.ensures.found OneWayCallCommand c.args.active.now refl (rest_behind c.args.active.now taken.between _ _ (takes_rest OneWayCallCommand c.or_empty.result c.args.active.now taken.takes) taken.keeps)

pub returns-in_err-name-clause-found : goal.returns-in_err-name-clause-found
returns-in_err-name-clause-found c =
    let told = err_from_is_err_and c.from_residual.result c.from_residual.ensures.1 in
    number_finds OneWayCallCommand c.args.active.now c.begin_tracked.new.active c.in_err-name.field-0.0 c.from_residual.result (told.1 ∙ ap Err told.2)
