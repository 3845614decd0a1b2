-- What a script comes to behind the last call of its writer.
use Rattle.std.specs.Prelude.{◌≡◌, ◌⊎◌, Result, Err}
use Rattle.script_lines.specs.declared.fault.ScriptFault.{ScriptFault}
use Rattle.script_lines.specs.declared.fault.ScriptFault.TheVariants.{OutputUnwritable}

-- that call may fail too
abbrev pub EndsWith : Result (Unit {0}) ScriptFault → Result (Unit {0}) ScriptFault → Type 0
EndsWith reached result = (result ≡ reached) ⊎ (result ≡ Err OutputUnwritable)
