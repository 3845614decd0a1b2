use Rattle.std.proofs.Common.{None, Some, sym, ap, ◌∙◌}
use Rattle.journal_model.specs.Notification.{Bytes}
use Rattle.journal_model.specs.Request.{Request}
use Rattle.vm_context.specs.declared.eager_state.EagerGetState.{EagerGetState}
use Rattle.vm_context.specs.StateKnowledge.{request_told}
use Rattle.vm_state_reads.proofs.Answering.{reads_the_same}
use Rattle.vm_state_reads.proofs.value_reads.write_value.Goals as goal

pub returns-in-Ok-Unknown-clause-made : goal.returns-in-Ok-Unknown-clause-made
returns-in-Ok-Unknown-clause-made c =
    reads_the_same c.args.active.now _ _ (λ given m sees. sym (c.in-Ok-Unknown.ensures.request m.start m.done m.completions c.args.name sees.state)
    ∙ ap (λ (told : EagerGetState). request_told told m.completions c.args.key c.args.name) c.in-Ok-Unknown.field-0-is
    ∙ ap (λ (key : Bytes). Request.GetLazyState key m.completions c.args.name) (sym c.into_bytes-key.ensures.value)) c.ask_value.ensures.made

pub returns-in-Ok-Empty-clause-made : goal.returns-in-Ok-Empty-clause-made
returns-in-Ok-Empty-clause-made c =
    reads_the_same c.args.active.now _ _ (λ given m sees. sym (c.in-Ok-Empty.ensures.request m.start m.done m.completions c.args.name sees.state)
    ∙ ap (λ (told : EagerGetState). request_told told m.completions c.args.key c.args.name) c.in-Ok-Empty.field-0-is
    ∙ ap (λ (key : Bytes). Request.GetEagerState key None c.args.name) (sym c.into_bytes-key.ensures.value)) c.tell_value.ensures.made

pub returns-in-Ok-Value-clause-made : goal.returns-in-Ok-Value-clause-made
returns-in-Ok-Value-clause-made c =
    reads_the_same c.args.active.now _ _ (λ given m sees. sym (c.in-Ok-Value.ensures.request m.start m.done m.completions c.args.name sees.state)
    ∙ ap (λ (told : EagerGetState). request_told told m.completions c.args.key c.args.name) c.in-Ok-Value.field-0-is
    ∙ ap (λ (key : Bytes). Request.GetEagerState key (Some c.in-Ok-Value.value) c.args.name) (sym c.into_bytes-key.ensures.value)) c.tell_value-in-Ok-Value.ensures.made
