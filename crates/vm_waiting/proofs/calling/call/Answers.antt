use Rattle.std.proofs.Common.{Err, refl, sym, ap, ◌+◌, ◌∙◌, ℕ}
use Rattle.protocol_types.specs.declared.message_type.MessageType.TheVariants.{CallCommand}
use Rattle.std.proofs.lemmas.Result.{err_from_is_err_and}
use Rattle.vm_calls.proofs.Calls.{number_fails}
use Rattle.vm_calls.proofs.MismatchedCommands.{number_finds}
use Rattle.vm_waiting.proofs.Calls.{call_completes}
use Rattle.journal_model.specs.declared.call.Call.{Call}
use Rattle.journal_model.specs.declared.call.Answer.{Answer}
use Rattle.vm_waiting.specs.CompletionPairs.{HasBegunTwo}
use Rattle.vm_waiting.specs.TrackedChildren.{tracks_calls}
use Rattle.vm_waiting.proofs.CompletionPairs.{two_rest, two_is_ready, handles_are}
use Rattle.vm_waiting.proofs.TrackLemmas.{call_keeps, rest_behind}
use Rattle.vm_calls.proofs.Spending.{number_spent}
use Rattle.vm_waiting.proofs.calling.call.Goals as goal

pub returns-clause-made : goal.returns-clause-made
returns-clause-made c =
    λ given m refused cancels sees.
    let call = Call.Call c.args.target c.args.parameter c.args.name c.args.options in
    let begun = c.in_ok-name.ensures in
    let takes = begun.taken.takes in
    let tracked = c.tracks_calls.ensures ∙ ap tracks_calls (sym cancels) in
    let completes = call_completes given m c.args.target c.args.parameter c.args.name c.args.options c.in_ok-name.name c.in_ok-name.first c.in_ok-name.second _ refused (begun.name ∙ c.or_empty.ensures)
    (takes.first_id ∙ sees.completions) (takes.second_id ∙ ap (λ (n : ℕ). n + 1) sees.completions) c.in_ok-command.ensures in
    let handles : ℕ × ℕ = (c.in_ok-name.handles.invocation_id_notification_handle, c.in_ok-name.handles.call_notification_handle) in
    let has_begun : HasBegunTwo given m call handles c.args.active.now c.begin_two_tracked.new.active = record { sees = sees; ty = CallCommand; name = c.or_empty.result; first = c.in_ok-name.first; second = c.in_ok-name.second; tracked = c.tracks_calls.result; takes = begun.taken; child = call_keeps given m sees.made c.args.target c.args.parameter c.args.name c.args.options c.tracks_calls.result tracked } in
    c.put_call.ensures.makes c.args.checks_off given m call _ c.args.active.now refl (λ made. Answer.Handles made.invocation_id_notification_handle made.call_notification_handle)
    completes.asks c.ignores-ignore.ensures
    (two_is_ready given m call _ completes handles c.args.active.now c.begin_two_tracked.new.active has_begun)
    (handles_are given m call _ completes handles c.args.active.now c.begin_two_tracked.new.active has_begun)

pub returns-in_err-name-clause-made : goal.returns-in_err-name-clause-made
returns-in_err-name-clause-made c =
    λ given m refused cancels sees.
    let told = err_from_is_err_and c.from_residual.result c.from_residual.ensures.1 in
    number_fails c.args.checks_off given m _ _ c.args.active.now c.begin_two_tracked.new.active c.in_err-name.field-0.0 c.from_residual.result c.in_err-name.ensures.err c.begin_two_tracked.ensures.output (told.1 ∙ ap Err told.2)

pub returns-clause-spent : goal.returns-clause-spent
returns-clause-spent c =
    let begun = c.in_ok-name.ensures in
    c.put_call.ensures.spent _ 2 c.args.active.now refl (rest_behind c.args.active.now begun.taken.between _ _ (two_rest CallCommand c.or_empty.result c.args.active.now begun.taken.takes) begun.taken.keeps) begun.taken.takes.has

pub returns-in_err-name-clause-spent : goal.returns-in_err-name-clause-spent
returns-in_err-name-clause-spent c =
    λ spent.
    let told = err_from_is_err_and c.from_residual.result c.from_residual.ensures.1 in
    number_spent 2 c.args.active.now c.begin_two_tracked.new.active c.in_err-name.field-0.0 c.from_residual.result c.in_err-name.ensures.err c.begin_two_tracked.ensures.output (told.1 ∙ ap Err told.2)

pub returns-clause-found : goal.returns-clause-found
returns-clause-found c =
    let taken = c.in_ok-name.ensures.taken in
    c.put_call.ensures.found CallCommand c.args.active.now refl (rest_behind c.args.active.now taken.between _ _ (two_rest CallCommand c.or_empty.result c.args.active.now taken.takes) taken.keeps)

pub returns-in_err-name-clause-found : goal.returns-in_err-name-clause-found
returns-in_err-name-clause-found c =
    let told = err_from_is_err_and c.from_residual.result c.from_residual.ensures.1 in
    number_finds CallCommand c.args.active.now c.begin_two_tracked.new.active c.in_err-name.field-0.0 c.from_residual.result (told.1 ∙ ap Err told.2)
