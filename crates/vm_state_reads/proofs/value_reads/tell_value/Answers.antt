use Rattle.std.proofs.Common.{refl, [], ◌∷◌, List, ap, ◌∙◌}
use Rattle.journal_model.specs.declared.notification.NotificationId.TheVariants.{CompletionId}
use Rattle.journal_model.specs.Notification.{Arrival}
use Rattle.journal_model.specs.Request.{Request}
use Rattle.attempt_model.specs.Machine.{Machine}
use Rattle.protocol_types.specs.declared.message_type.MessageType.TheVariants.{GetEagerStateCommand, GetLazyStateCommand}
use Rattle.vm_awaits.specs.Views.{results_of}
use Rattle.vm_state_reads.specs.ReadAnswers.{with_known}
use Rattle.vm_state_reads.proofs.Answering.{reads_eagerly, number_fails}
use Rattle.vm_calls.proofs.Spending.{takes_rest}
use Rattle.vm_state_reads.proofs.MismatchedReads.{finds_eager, finds_no_number}
use Rattle.vm_state_reads.proofs.value_reads.tell_value.Goals as goal

pub returns-clause-made : goal.returns-clause-made
returns-clause-made c =
    reads_eagerly c.args.ignoring (λ m. Request.GetEagerState c.args.key c.args.known c.args.name) GetEagerStateCommand c.args.name c.args.active.now c.in_ok-name.ensures.taken
    _ (λ given m sees i. Request.GetEagerState c.args.key (c.in_ok-held.ensures.held i) (c.in_ok-name.ensures.name i)) c.ready_at_once.new.results
    (λ given m sees. c.in_ok-ready_at_once.ensures ∙ ap (λ (known : List Arrival). with_known known (results_of c.begin.new.self.results))
    (λ i. record { id = CompletionId ((c.in_ok-name.ensures.taken.id ∙ sees.completions) i); result = c.in_ok-held.ensures.shown i } ∷ []))
    c.put_read.result _ c.put_read.ensures.put c.eager_read.result c.eager_read.ensures

pub returns-in_err-name-clause-made : goal.returns-in_err-name-clause-made
returns-in_err-name-clause-made c =
    number_fails (λ (_ : Machine). Request.GetEagerState c.args.key c.args.known c.args.name) c.args.ignoring c.args.active.now c.begin.new.self
    c.in_err-name.field-0.0 c.from_residual.result c.in_err-name.ensures.err c.begin.ensures.output c.from_residual.ensures.1

pub returns-clause-found : goal.returns-clause-found
returns-clause-found c =
    finds_eager GetEagerStateCommand GetLazyStateCommand c.args.active.now c.put_read.new.active _ (takes_rest GetEagerStateCommand c.args.name c.args.active.now c.in_ok-name.ensures.taken).commands
    c.put_read.result (c.put_read.ensures.found GetEagerStateCommand refl) c.eager_read.result c.eager_read.ensures

pub returns-in_err-name-clause-found : goal.returns-in_err-name-clause-found
returns-in_err-name-clause-found c = finds_no_number GetEagerStateCommand GetLazyStateCommand c.args.active.now _ c.in_err-name.field-0.0 c.from_residual.result c.from_residual.ensures.1
