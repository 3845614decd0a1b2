use Rattle.std.proofs.Common.{refl, ◌∙◌}
use Rattle.journal_model.specs.Request.{Request}
use Rattle.attempt_model.specs.Machine.{Machine}
use Rattle.protocol_types.specs.declared.message_type.MessageType.TheVariants.{GetEagerStateKeysCommand, GetLazyStateKeysCommand}
use Rattle.vm_state_reads.proofs.Answering.{reads_lazily, number_fails}
use Rattle.vm_calls.proofs.Spending.{takes_rest}
use Rattle.vm_state_reads.proofs.MismatchedReads.{finds_lazy, finds_no_number}
use Rattle.vm_state_reads.proofs.key_reads.ask_keys.Goals as goal

pub returns-clause-made : goal.returns-clause-made
returns-clause-made c =
    reads_lazily c.args.ignoring (λ m. Request.GetLazyStateKeys m.completions c.args.name) GetLazyStateKeysCommand c.args.name c.args.active.now c.in_ok-name.ensures.taken
    _ (λ given m sees i. Request.GetLazyStateKeys ((c.in_ok-name.ensures.taken.id ∙ sees.completions) i) (c.in_ok-name.ensures.name i)) c.begin.new.self.results (λ given m sees. refl)
    c.put_read.result _ c.put_read.ensures.put c.lazy_read.result c.lazy_read.ensures

pub returns-in_err-name-clause-made : goal.returns-in_err-name-clause-made
returns-in_err-name-clause-made c =
    number_fails (λ (m : Machine). Request.GetLazyStateKeys m.completions c.args.name) c.args.ignoring c.args.active.now c.begin.new.self
    c.in_err-name.field-0.0 c.from_residual.result c.in_err-name.ensures.err c.begin.ensures.output c.from_residual.ensures.1

pub returns-clause-found : goal.returns-clause-found
returns-clause-found c =
    finds_lazy GetEagerStateKeysCommand GetLazyStateKeysCommand c.args.active.now c.put_read.new.active _ (takes_rest GetLazyStateKeysCommand c.args.name c.args.active.now c.in_ok-name.ensures.taken).commands
    c.put_read.result (c.put_read.ensures.found GetLazyStateKeysCommand refl) c.lazy_read.result c.lazy_read.ensures

pub returns-in_err-name-clause-found : goal.returns-in_err-name-clause-found
returns-in_err-name-clause-found c = finds_no_number GetEagerStateKeysCommand GetLazyStateKeysCommand c.args.active.now _ c.in_err-name.field-0.0 c.from_residual.result c.from_residual.ensures.1
