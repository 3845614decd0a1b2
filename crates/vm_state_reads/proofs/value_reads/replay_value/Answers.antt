use Rattle.std.proofs.Common.{refl}
use Rattle.protocol_types.specs.declared.message_type.MessageType.TheVariants.{GetEagerStateCommand, GetLazyStateCommand}
use Rattle.journal_model.specs.Request.{Request}
use Rattle.attempt_model.specs.Machine.{Machine}
use Rattle.protocol_commands.specs.declared.get_eager_state_command.GetEagerStateCommandResult.{GetEagerStateCommandResult}
use Rattle.vm_commands.specs.RecordedCommands.{as_recorded}
use Rattle.vm_state_reads.specs.RecordedReads.{value_known}
use Rattle.vm_state_reads.proofs.Answering.{number_fails}
use Rattle.vm_state_reads.proofs.Knowing.{value_is_known}
use Rattle.vm_state_reads.proofs.Replayed.{reads_recorded, fails_unmatched, fails_unready}
use Rattle.vm_state_reads.proofs.Spending.{none_then, spent_unmatched, spent_unready, spent_number}
use Rattle.vm_calls.proofs.Spending.{takes_rest}
use Rattle.vm_state_reads.proofs.MismatchedReads.{finds_unread, finds_unready, finds_no_number}
use Rattle.vm_state_reads.proofs.value_reads.replay_value.Goals as goal

pub returns-clause-made : goal.returns-clause-made
returns-clause-made c = λ replays.
    reads_recorded c.args.ignoring (λ n. Request.GetLazyState c.args.key n c.args.name) _ c.args.active.now c.in_ok-id.ensures.taken replays c.in_ok-read.read value_known _ _ _ (λ left n. value_is_known left n c.args.key c.args.name c.in_ok-read.read)
    c.match_read.new.active c.in_ok-read.ensures.matched c.in_ok-read.ensures.next c.value_known.result c.value_known.ensures c.ready_at_once.new.results c.in_ok-ready_at_once.ensures

pub returns-in_err-read-clause-made : goal.returns-in_err-read-clause-made
returns-in_err-read-clause-made c = λ replays.
    fails_unmatched c.args.ignoring (λ n. Request.GetLazyState c.args.key n c.args.name) _ c.args.active.now c.in_ok-id.ensures.taken replays c.in_err-read.field-0.0
    c.in_err-read.ensures.matched c.from_residual-in_err-read.result c.from_residual-in_err-read.ensures.1 c.match_read.new.active c.match_read.ensures.output

pub returns-in_err-ready_at_once-clause-made : goal.returns-in_err-ready_at_once-clause-made
returns-in_err-ready_at_once-clause-made c = λ replays.
    fails_unready c.args.ignoring (λ n. Request.GetLazyState c.args.key n c.args.name) _ c.args.active.now c.in_ok-id.ensures.taken replays
    c.from_residual-in_err-ready_at_once.result c.from_residual-in_err-ready_at_once.ensures.1 _ c.match_read.ensures.output

pub returns-in_err-id-clause-made : goal.returns-in_err-id-clause-made
returns-in_err-id-clause-made c = λ replays.
    number_fails (λ (m : Machine). as_recorded m.left (Request.GetLazyState c.args.key m.completions c.args.name)) c.args.ignoring c.args.active.now c.begin_in_replay.new.active
    c.in_err-id.field-0.0 c.from_residual.result c.in_err-id.ensures.err c.begin_in_replay.ensures.output c.from_residual.ensures.1

pub returns-clause-spent : goal.returns-clause-spent
returns-clause-spent c = λ spent. absurd (c.in_ok-read.ensures.spent (none_then _ c.args.active.now c.in_ok-id.ensures.taken spent))

pub returns-in_err-read-clause-spent : goal.returns-in_err-read-clause-spent
returns-in_err-read-clause-spent c = λ spent.
    spent_unmatched _ c.args.active.now c.in_ok-id.ensures.taken spent GetEagerStateCommandResult c.in_err-read.field-0.0 c.in_err-read.ensures.spent
    c.from_residual-in_err-read.result c.from_residual-in_err-read.ensures.1 c.match_read.new.active c.match_read.ensures.output

pub returns-in_err-ready_at_once-clause-spent : goal.returns-in_err-ready_at_once-clause-spent
returns-in_err-ready_at_once-clause-spent c = λ spent.
    spent_unready _ c.args.active.now c.in_ok-id.ensures.taken spent
    c.from_residual-in_err-ready_at_once.result c.from_residual-in_err-ready_at_once.ensures.1 _ c.match_read.ensures.output

pub returns-in_err-id-clause-spent : goal.returns-in_err-id-clause-spent
returns-in_err-id-clause-spent c = λ spent.
    spent_number c.args.active.now c.begin_in_replay.new.active c.in_err-id.field-0.0 c.from_residual.result c.in_err-id.ensures.err c.begin_in_replay.ensures.output c.from_residual.ensures.1

pub returns-in_err-read-clause-found : goal.returns-in_err-read-clause-found
returns-in_err-read-clause-found c =
    finds_unread GetEagerStateCommand GetLazyStateCommand c.args.active.now c.match_read.new.active _ (takes_rest _ _ c.args.active.now c.in_ok-id.ensures.taken).commands
    c.in_err-read.field-0.0 (c.in_err-read.ensures.found GetEagerStateCommand GetLazyStateCommand refl refl) c.from_residual-in_err-read.result c.from_residual-in_err-read.ensures.1

pub returns-in_err-ready_at_once-clause-found : goal.returns-in_err-ready_at_once-clause-found
returns-in_err-ready_at_once-clause-found c =
    finds_unready GetEagerStateCommand GetLazyStateCommand c.args.active.now _ c.from_residual-in_err-ready_at_once.result c.from_residual-in_err-ready_at_once.ensures.1

pub returns-in_err-id-clause-found : goal.returns-in_err-id-clause-found
returns-in_err-id-clause-found c = finds_no_number GetEagerStateCommand GetLazyStateCommand c.args.active.now _ c.in_err-id.field-0.0 c.from_residual.result c.from_residual.ensures.1
