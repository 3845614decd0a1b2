use Rattle.std.proofs.Common.{inr, sym, ap, ◌∙◌}
use Rattle.vm_waiting.specs.declared.cancelling.CancelError.TheVariants as uncancelled
use Rattle.vm_waiting.proofs.CancelSteps.{stops_among, cancels_each}
use Rattle.vm_waiting.proofs.awaiting.cancel.Goals as goal

pub returns-in-Ok-put_cancels : goal.returns-in-Ok-put_cancels
returns-in-Ok-put_cancels c =
    cancels_each c.args.checks_off c.args.active.now c.in-Ok.ids.items c.in-Ok.ensures c.put_cancels.new.active c.take_handle.result c.take_handle.new.self c.replace.new.dest
    c.in-Ok-put_cancels.ensures.puts c.in-Ok-put_cancels.ensures.spent c.take_handle.ensures.value c.take_handle.ensures.rest (c.replace.ensures.after ∙ c.new.ensures)

pub returns-in-Err-Put : goal.returns-in-Err-Put
returns-in-Err-Put c =
    stops_among c.args.checks_off c.args.active.now c.in-Ok.ids.items c.in-Ok.ensures _ _ c.put_cancels.new.active (c.in-Err-Put.field-0-is ∙ ap uncancelled.Put (sym c.in-Err-Put.error-is)) c.in-Err-Put.ensures.puts c.in-Err-Put.ensures.spent

pub returns-in-Err-OutOfMemory : goal.returns-in-Err-OutOfMemory
returns-in-Err-OutOfMemory c =
    inr (stops_among c.args.checks_off c.args.active.now c.in-Ok.ids.items c.in-Ok.ensures _ _ c.put_cancels.new.active c.in-Err-OutOfMemory.field-0-is c.in-Err-OutOfMemory.ensures.puts
    c.in-Err-OutOfMemory.ensures.spent)
