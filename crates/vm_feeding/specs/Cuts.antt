-- Bytes in two cuts lead to what they lead to as a whole.
use Rattle.std.specs.Prelude.{ℕ, List, ◌++◌}
use Rattle.vm_feeding.specs.InputBytes.{with_input, TakesAll}
use Rattle.vm_machine.specs.declared.machine_state.MachineState.{MachineState}

-- the first of two cuts leads to a machine, and the second from there
pub record TakesInTwo (first second : List ℕ) (old new : MachineState) : Type 0 where
  pub between : MachineState
  pub takes_first : TakesAll (with_input first old) between
  pub takes_second : TakesAll (with_input second between) new

abbrev pub CutsAreOne : Type 0
CutsAreOne = (first second : List ℕ) (old new : MachineState) → TakesInTwo first second old new → TakesAll (with_input (first ++ second) old) new

abbrev pub OneIsCuts : Type 0
OneIsCuts = (first second : List ℕ) (old new : MachineState) → TakesAll (with_input (first ++ second) old) new → TakesInTwo first second old new
