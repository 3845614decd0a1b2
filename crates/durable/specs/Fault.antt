-- The text and the status of a fault of the program.
use Rattle.std.specs.Prelude.{◌≡◌, ℕ, List, ◌++◌, Some, None, codes, string_bytes}
use Rattle.script_lines.specs.Fault as script
use Rattle.script_lines.specs.declared.fault.ScriptFault.{ScriptFault}
use Rattle.store_files.specs.RefusalReasons.{reason_text}
use Rattle.store_server.specs.Fault as server
use Rattle.durable.specs.declared.fault.ProgramFault.{ProgramFault}
use Rattle.durable.specs.declared.fault.ProgramFault.TheVariants.{Usage, PathNoText, FileMissing, DatabaseRefused, Script, Server}

abbrev pub status_of : ProgramFault → ℕ
status_of Usage = 3
status_of PathNoText = 2
status_of FileMissing = 2
status_of (DatabaseRefused reason) = 2
status_of (Script fault why) = script.status_of fault
status_of (Server fault) = server.server_status fault

-- how the program is called
abbrev pub usage_text : List ℕ
usage_text = codes "usage: durable SCRIPT DATABASE\n       durable --serve DATABASE\n       durable DATABASE"

abbrev pub program_fault_text : ProgramFault → List ℕ
program_fault_text Usage = usage_text
program_fault_text PathNoText = codes "database refused\nits path is no UTF-8"
program_fault_text FileMissing = codes "database refused\nthere is no such file"
program_fault_text (DatabaseRefused reason) = codes "database refused\n" ++ reason_text reason
program_fault_text (Script fault None) = script.line_fault_text fault
program_fault_text (Script fault (Some why)) = script.line_fault_text fault ++ codes "\n" ++ string_bytes why
program_fault_text (Server fault) = server.server_fault_text fault

-- the script's own fault, whether or not it is told what is amiss with its line
abbrev pub IsOfScript : ScriptFault → ProgramFault → Type 0
IsOfScript ended (Script fault why) = fault ≡ ended
IsOfScript ended fault = ⊥

-- the database is refused, for some reason
abbrev pub IsDatabaseRefused : ProgramFault → Type 0
IsDatabaseRefused (DatabaseRefused reason) = Unit {0}
IsDatabaseRefused fault = ⊥
