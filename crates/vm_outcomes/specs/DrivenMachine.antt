-- How the machine of a handler's attempt stands to the abstract machine of its invocation.
use Rattle.std.specs.Prelude.{◌≡◌}
use Rattle.journal_model.specs.Run.{Invocation}
use Rattle.journal_model.specs.declared.call.Call.{Call}
use Rattle.attempt_model.specs.Machine.{Machine, Reply, reply_to}
use Rattle.vm_calls.specs.Active.{Sees, are_any}
use Rattle.vm_commands.specs.HeaderEquality.{same_header}
use Rattle.vm_types.specs.Reads.{no_reads}
use Rattle.vm_start.specs.declared.phase.Phase.TheVariants as phases
use Rattle.vm_feeding.specs.Handles.{started_id}
use Rattle.vm_machine.specs.Calls.{checks_off, IsOf}
use Rattle.vm_machine.specs.declared.machine_state.MachineState.{MachineState}

-- Calls are made of the machine, and what it keeps for them is what the abstract machine keeps. It is a machine of this invocation:
-- it speaks its version, was started with its id, and cancellations do there what they do here.
pub record IsDriven (given : Invocation) (m : Machine) (vm : MachineState) : Type 0 where
  pub sees : Sees given vm.active m
  pub phase : vm.phase ≡ phases.Active
  pub version : IsOf given vm
  pub written : vm.active.output.version ≡ vm.version
  -- it is known whether the attempt has written a command
  pub commands : vm.active.output.has_commands ≡ are_any m.written
  pub id : given.input.invocation_id ≡ started_id vm.start
  -- a handler makes no read of which nothing is recorded
  pub reads : vm.reads ≡ no_reads

-- what the abstract machine replies to a call, where payloads are compared as the machine's options say
abbrev pub reply_of : MachineState → Invocation → Machine → Call → Reply
reply_of vm given m call = reply_to (same_header (checks_off vm.options.non_determinism_checks)) given m call
