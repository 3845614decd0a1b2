use Rattle.std.proofs.Common.{refl, ap, ◌∙◌, Some}
use Rattle.journal_model.specs.Notification.{Text}
use Rattle.journal_model.specs.Request.{Request, SignalValue}
use Rattle.journal_model.specs.declared.notification.SignalKey.{SignalKey}
use Rattle.protocol_types.specs.declared.message_type.MessageType.TheVariants.{SendSignalCommand}
use Rattle.vm_calls.specs.Active.{asking}
use Rattle.vm_waiting.specs.ChildCancellation.{cancels}
use Rattle.vm_waiting.proofs.PuttingAll.{lacks_one, puts_one, fails_one, settled_asked}
use Rattle.vm_waiting.proofs.cancelling.put_cancel.Goals as goal

pub returns-in_default-clause-puts : goal.returns-in_default-clause-puts
returns-in_default-clause-puts c =
    λ written settled.
    let old = c.args.active.now in
    lacks_one c.args.checks_off (cancels c.args.id) written old c.ask.new.self settled (c.in_default.ensures.journal ∙ ap (λ (name : Text). asking SendSignalCommand name old) c.new.ensures)

pub returns-in-Ok-put-clause-puts : goal.returns-in-Ok-put-clause-puts
returns-in-Ok-put-clause-puts c =
    λ written settled.
    let old = c.args.active.now in
    let asked = c.in-Ok.ensures.journal ∙ ap (λ (name : Text). asking SendSignalCommand name old) c.new.ensures in
    let told = c.cancel_command-command.ensures
    ∙ ap (λ (name : Text). Some (Request.SendSignal c.args.id (SignalKey.ByIndex 1) SignalValue.Empty name)) (c.in-Ok.ensures.copy ∙ c.new.ensures) in
    puts_one c.args.checks_off (cancels c.args.id) written old c.ask.new.self c.put.new.self asked (c.in-Ok-put.ensures.put (cancels c.args.id) written told (settled_asked old c.ask.new.self asked settled))

pub returns-in-Err-clause-puts : goal.returns-in-Err-clause-puts
returns-in-Err-clause-puts c =
    λ written settled.
    let old = c.args.active.now in
    let asked = c.in-Ok.ensures.journal ∙ ap (λ (name : Text). asking SendSignalCommand name old) c.new.ensures in
    let told = c.cancel_command-command.ensures
    ∙ ap (λ (name : Text). Some (Request.SendSignal c.args.id (SignalKey.ByIndex 1) SignalValue.Empty name)) (c.in-Ok.ensures.copy ∙ c.new.ensures) in
    fails_one c.args.checks_off (cancels c.args.id) written old c.ask.new.self c.put.new.self c.in-Err.error asked settled
    (c.in-Err.ensures.put (cancels c.args.id) written told (settled_asked old c.ask.new.self asked settled)) c.in-Err.ensures.journal (c.in-Err.ensures.found SendSignalCommand refl)
