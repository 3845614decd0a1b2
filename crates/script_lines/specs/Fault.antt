-- The text and the status of a fault.
use Rattle.std.specs.Prelude.{ℕ, List, ◌++◌, codes, decimal}
use Rattle.script_lines.specs.declared.fault.ScriptFault.{ScriptFault}
use Rattle.script_lines.specs.declared.fault.ScriptFault.TheVariants.{LineNotUnderstood, ScriptUnreadable, LineOutOfMemory, TextOutOfMemory, OutputUnwritable}

abbrev pub status_of : ScriptFault → ℕ
status_of (LineNotUnderstood number) = 1
status_of ScriptUnreadable = 2
status_of LineOutOfMemory = 2
status_of TextOutOfMemory = 2
status_of OutputUnwritable = 2

abbrev pub line_fault_text : ScriptFault → List ℕ
line_fault_text (LineNotUnderstood number) = codes "line " ++ decimal number ++ codes ": not understood"
line_fault_text ScriptUnreadable = codes "script cannot be read"
line_fault_text LineOutOfMemory = codes "script cannot be read"
line_fault_text TextOutOfMemory = codes "output cannot be written"
line_fault_text OutputUnwritable = codes "output cannot be written"
