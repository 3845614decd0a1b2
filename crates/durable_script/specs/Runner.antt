-- Which lines are understood, and what doing a line comes to.
use Rattle.std.specs.Prelude.{◌≡◌, ◌≢◌, ℕ, List}
use Rattle.sqlite_trees.specs.declared.store.Store.{Ghosts}
use Rattle.script_lines.specs.declared.line.Line.{Line}
use Rattle.script_lines.specs.Line.{spelled, IsLine}
use Rattle.script_lines.specs.declared.fault.ScriptFault.{ScriptFault}
use Rattle.script_lines.specs.declared.fault.ScriptFault.TheVariants.{LineNotUnderstood, ScriptUnreadable, LineOutOfMemory, TextOutOfMemory, OutputUnwritable}
use Rattle.durable_script.specs.declared.runner.Runner.{Runner}
use Rattle.scheduler.specs.declared.scheduler.Scheduler.{Scheduler}
use Rattle.built_in_handlers.specs.declared.built_in.BuiltIn.{BuiltIn}
use Rattle.durable_schedule.specs.Schedules.{Event}
use Rattle.durable_script.specs.SchedulerChanges.{ReachesFor}
use Rattle.durable_script.specs.Line.{DoesEvent, DoesLine, DoesSomeEvent, DoesSomeLine}
use Rattle.durable_script.specs.Lasting.{IsUnwritten, IsUnwrittenEvent, KeepsEvent, KeepsLine}

-- the bytes spell this line
pub record IsUnderstood (bytes : List ℕ) (line : Line) : Type 0 where
  pub is_line : IsLine line
  pub spelling : bytes ≡ spelled line

-- the bytes spell no line
abbrev pub IsNotUnderstood : List ℕ → Type 0
IsNotUnderstood bytes = (line : Line) → IsLine line → bytes ≢ spelled line

module _ {S : Type 0} (g : Ghosts S) where
  -- an event is applied, and its reply printed; and what it prints lasts
  abbrev pub PrintsEvent : Event BuiltIn → List ℕ → Scheduler BuiltIn S → Scheduler BuiltIn S → Type 0
  PrintsEvent one text = ReachesFor g (DoesSomeEvent one) (DoesEvent one text) (IsUnwrittenEvent one text) (KeepsEvent one text)

  -- the same of a line
  abbrev pub PrintsLine : Line → List ℕ → Scheduler BuiltIn S → Scheduler BuiltIn S → Type 0
  PrintsLine line text = ReachesFor g (DoesSomeLine line) (DoesLine line text) (IsUnwritten line text) (KeepsLine line text)

  -- the line is understood and done
  pub record DoesNext (bytes text : List ℕ) (old new : Runner S) : Type 0 where
    pub line : Line
    pub understood : IsUnderstood bytes line
    pub prints : PrintsLine line text old.scheduler new.scheduler

  -- the line is not understood, or memory to read it was refused, and nothing was done; or it was done, and memory for its text was refused
  abbrev pub StopsAtLine : ℕ → List ℕ → ScriptFault → Runner S → Runner S → Type 0
  StopsAtLine number bytes (LineNotUnderstood n) old new = (n ≡ number) × IsNotUnderstood bytes × (new ≡ old)
  StopsAtLine number bytes LineOutOfMemory old new = new ≡ old
  StopsAtLine number bytes TextOutOfMemory old new = (text : List ℕ) × DoesNext bytes text old new
  StopsAtLine number bytes ScriptUnreadable old new = ⊥
  StopsAtLine number bytes OutputUnwritable old new = ⊥
