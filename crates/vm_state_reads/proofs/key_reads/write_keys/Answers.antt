use Rattle.std.proofs.Common.{sym, ap, ◌∙◌}
use Rattle.vm_context.specs.declared.eager_state.EagerGetStateKeys.{EagerGetStateKeys}
use Rattle.vm_context.specs.StateKnowledge.{keys_request_told}
use Rattle.vm_state_reads.proofs.Answering.{reads_the_same}
use Rattle.vm_state_reads.proofs.key_reads.write_keys.Goals as goal

pub returns-in-Ok-Unknown-clause-made : goal.returns-in-Ok-Unknown-clause-made
returns-in-Ok-Unknown-clause-made c =
    reads_the_same c.args.active.now _ _ (λ given m sees. sym (c.in-Ok-Unknown.ensures.request m.start m.done m.completions c.args.name sees.state)
    ∙ ap (λ (told : EagerGetStateKeys). keys_request_told told m.completions c.args.name) c.in-Ok-Unknown.field-0-is) c.ask_keys.ensures.made

pub returns-in-Ok-Keys-clause-made : goal.returns-in-Ok-Keys-clause-made
returns-in-Ok-Keys-clause-made c =
    reads_the_same c.args.active.now _ _ (λ given m sees. sym (c.in-Ok-Keys.ensures.request m.start m.done m.completions c.args.name sees.state)
    ∙ ap (λ (told : EagerGetStateKeys). keys_request_told told m.completions c.args.name) c.in-Ok-Keys.field-0-is) c.tell_keys.ensures.made
