use Rattle.vm_calls.proofs.CommandCalls.{put_answers, put_fails_as}
use Rattle.vm_calls.proofs.MismatchedCommands.{tells_before}
use Rattle.vm_calls.proofs.Spending.{none_for, none_stands}
use Rattle.vm_waiting.proofs.calling.put_call.Goals as goal

pub returns-in-Ok-clause-makes : goal.returns-in-Ok-clause-makes
returns-in-Ok-clause-makes g c =
    λ checks_off given m call request old h answer asks ignores ready answered.
    put_answers checks_off c.args.ignore given m call request asks ignores old c.args.active.now ready (answer c.args.handles) answered c.put.new.self (c.in-Ok.ensures.put request m.written h)

pub returns-in-Err-clause-makes : goal.returns-in-Err-clause-makes
returns-in-Err-clause-makes g c =
    λ checks_off given m call request old h answer asks ignores ready answered.
    put_fails_as checks_off c.args.ignore given m call request asks ignores old c.args.active.now ready c.in-Err.error c.put.new.self (c.in-Err.ensures.put request m.written h)

pub returns-in-Ok-clause-spent : goal.returns-in-Ok-clause-spent
returns-in-Ok-clause-spent g c = λ request taken old h keeps has spent. none_stands old c.args.active.now keeps spent _ (c.in-Ok.ensures.spent request h)

pub returns-in-Err-clause-spent : goal.returns-in-Err-clause-spent
returns-in-Err-clause-spent g c = λ request taken old h keeps has spent. none_for taken old c.args.active.now c.put.new.self keeps has spent c.in-Err.error (c.in-Err.ensures.spent request h)

pub returns-in-Err-clause-found : goal.returns-in-Err-clause-found
returns-in-Err-clause-found g c = λ ty old typed keeps. tells_before ty old c.args.active.now keeps _ c.in-Err.error (c.in-Err.ensures.found ty typed)
