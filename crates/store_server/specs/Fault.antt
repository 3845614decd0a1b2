-- The text and the status of a fault.
use Rattle.std.specs.Prelude.{ℕ, List, codes}
use Rattle.store_server.specs.declared.fault.ServerFault.{ServerFault}
use Rattle.store_server.specs.declared.fault.ServerFault.TheVariants.{InputUnreadable, LineTooLong, LineOutOfMemory, AnswerOutOfMemory, Untold, OutputUnwritable}

abbrev pub server_status : ServerFault → ℕ
server_status LineTooLong = 1
server_status InputUnreadable = 2
server_status LineOutOfMemory = 2
server_status AnswerOutOfMemory = 2
server_status Untold = 2
server_status OutputUnwritable = 2

abbrev pub server_fault_text : ServerFault → List ℕ
server_fault_text LineTooLong = codes "line too long"
server_fault_text InputUnreadable = codes "input cannot be read"
server_fault_text LineOutOfMemory = codes "input cannot be read"
server_fault_text Untold = codes "database cannot be read"
server_fault_text AnswerOutOfMemory = codes "output cannot be written"
server_fault_text OutputUnwritable = codes "output cannot be written"
