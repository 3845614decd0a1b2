-- What a send is answered.
use Rattle.std.specs.Prelude.{ℕ, Result, Ok, Err}
use Rattle.vm_calls.specs.declared.call_error.CallError.{CallError}
use Rattle.vm_types.specs.declared.handles.SendHandle.{SendHandle}

abbrev pub sent : {M : Type 0} → Result ℕ (CallError M) → Result SendHandle (CallError M)
sent (Ok handle) = Ok (record { invocation_id_notification_handle = handle })
sent (Err error) = Err error
