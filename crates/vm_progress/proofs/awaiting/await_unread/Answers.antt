use Rattle.std.proofs.Common.{codes}
use Rattle.journal_model.specs.Future.{tree_of}
use Rattle.journal_model.specs.declared.call.Call.{Call}
use Rattle.vm_machine.proofs.Admitted.{refused_as, steps_made, steps_elsewhere, steps_stopped}
use Rattle.vm_machine.specs.Steps.{IsUnexpected}
use Rattle.vm_progress.specs.AwaitEffects.{IsAwaited}
use Rattle.vm_progress.proofs.awaiting.await_unread.Goals as goal

pub returns-in-Admitted : goal.returns-in-Admitted
returns-in-Admitted c =
    let told = c.refusal_error-refusal.result in
    record {
      refusal = told;
      refuses = refused_as c.args.vm.now.version c.number-number.result (Call.Await (tree_of c.args.future)) _ c.refuse_await-refused.result told c.number-number.ensures c.refuse_await-refused.ensures c.refusal_error-refusal.ensures;
      steps = steps_made (IsAwaited (tree_of c.args.future)) (IsUnexpected (codes "await")) told c.args.vm.now c.admit.new.self
          c.await_admitted.result c.await_admitted.new.vm c.in-Admitted.ensures c.await_admitted.ensures;
    }

pub returns-in-Elsewhere : goal.returns-in-Elsewhere
returns-in-Elsewhere c =
    let told = c.refusal_error-refusal.result in
    record {
      refusal = told;
      refuses = refused_as c.args.vm.now.version c.number-number.result (Call.Await (tree_of c.args.future)) _ c.refuse_await-refused.result told c.number-number.ensures c.refuse_await-refused.ensures c.refusal_error-refusal.ensures;
      steps = steps_elsewhere (IsAwaited (tree_of c.args.future)) (IsUnexpected (codes "await")) told c.args.vm.now c.admit.new.self
          c.fail_unexpected.result c.fail_unexpected.new.self c.in-Elsewhere.ensures c.fail_unexpected.ensures;
    }

pub returns-in-Stopped : goal.returns-in-Stopped
returns-in-Stopped c =
    let told = c.refusal_error-refusal.result in
    record {
      refusal = told;
      refuses = refused_as c.args.vm.now.version c.number-number.result (Call.Await (tree_of c.args.future)) _ c.refuse_await-refused.result told c.number-number.ensures c.refuse_await-refused.ensures c.refusal_error-refusal.ensures;
      steps = steps_stopped (IsAwaited (tree_of c.args.future)) (IsUnexpected (codes "await")) told c.args.vm.now c.admit.new.self c.in-Stopped.error c.in-Stopped.ensures;
    }
