-- What the lines of a script do, one after another, and what is written of them.
use Rattle.std.specs.Prelude.{◌≡◌, ◌⊎◌, ℕ, ◌<◌, ◌≤◌, List, [], ◌∷◌, ◌++◌, length, take, Option, IfSome, Result, Ok, Err}
use Rattle.std.specs.List.{AllByRecursion}
use Rattle.std.specs.Io.KnownBytes.{Appends, Keeps, IsAtEnd}
use Rattle.sqlite_trees.specs.declared.store.Store.{Ghosts}
use Rattle.sqlite_trees.specs.Tree.{Trees}
use Rattle.sqlite.specs.State.{HasCleanDisk}
use Rattle.sqlite.specs.Held.{state}
use Rattle.built_in_handlers.specs.declared.built_in.BuiltIn.{BuiltIn}
use Rattle.journal_model.specs.Notification.{Text}
use Rattle.journal_model.specs.Run.{Handler}
use Rattle.vm_types.specs.Options.{default_options}
use Rattle.journal_store.specs.StoreView.{Stored}
use Rattle.journal_store.specs.StoreStanding.{Endures, IsStanding, KeepsStanding}
use Rattle.store_calls.specs.AbstractStore.{Standing}
use Rattle.schedule_laws.specs.InvocationInRun.{HoldsOf}
use Rattle.durable_schedule.specs.Runs.{Leaves, at_first}
use Rattle.durable_schedule.specs.Schedules.{AppliesAll, Brings, Event, HeldAttempt, Reply, Scheduled}
use Rattle.built_in_handlers.specs.BuiltIn.{function_of}
use Rattle.built_in_handlers.specs.Handlers.{nap, nap99, race, both, ask, pair, twice, keys, read, effect, go, hook, quorum}
use Rattle.script_lines.specs.declared.word.HandlerName.{HandlerName}
use Rattle.script_lines.specs.declared.word.HandlerName.TheVariants as name
use Rattle.script_lines.specs.declared.line.Line.{Line}
use Rattle.script_lines.specs.Line.{spelled, IsLine}
use Rattle.script_lines.specs.Script.{numbered_lines}
use Rattle.script_lines.specs.declared.fault.ScriptFault.{ScriptFault}
use Rattle.script_lines.specs.declared.fault.ScriptFault.TheVariants.{LineNotUnderstood, ScriptUnreadable, LineOutOfMemory, TextOutOfMemory, OutputUnwritable}
use Rattle.script_lines.specs.Output.{EndsWith}
use Rattle.durable_script.specs.Line.{IsNamed, AreOfLine, DoesLine, DoesSomeLine, BringsFunction}
use Rattle.durable_script.specs.Runner.{IsNotUnderstood}
use Rattle.durable_script.specs.Lasting.{IsUnwritten, KeepsLine}
use Rattle.durable_script.specs.SchedulerChanges.{LeavesKept, Reaches}
use Rattle.scheduler.specs.declared.scheduler.Scheduler.{Scheduler}

-- a line that was done, with its text
pub record DoneLine : Type 0 where
  pub number : ℕ
  pub line : Line
  pub text : List ℕ

-- What was done has the last line first: its numbered lines as they stand in the script, and its texts in order.
abbrev pub lines_of : List DoneLine → List (ℕ × List ℕ)
lines_of [] = []
lines_of (one ∷ before) = lines_of before ++ (one.number, spelled one.line) ∷ []

abbrev pub texts_of : List DoneLine → List ℕ
texts_of [] = []
texts_of (one ∷ before) = texts_of before ++ one.text

-- each of them has a spelling
abbrev pub AreUnderstood : List DoneLine → Type 0
AreUnderstood [] = Unit {0}
AreUnderstood (one ∷ before) = AreUnderstood before × IsLine one.line

-- each line was done on what those before it left
abbrev pub DoesAll : List DoneLine → Scheduled BuiltIn → Scheduled BuiltIn → Type 0
DoesAll [] old new = new ≡ old
DoesAll (one ∷ before) old new = (between : Scheduled BuiltIn) × DoesAll before old between × DoesLine one.line one.text between new

-- a line was done with some text, behind these
abbrev pub DoesBehind : List DoneLine → DoneLine → Scheduled BuiltIn → Scheduled BuiltIn → Type 0
DoesBehind before one old new = (between : Scheduled BuiltIn) × DoesAll before old between × DoesSomeLine one.line between new

-- the first of these lines were done, the last of them with some text
abbrev pub DoesFirst : List DoneLine → Scheduled BuiltIn → Scheduled BuiltIn → Type 0
DoesFirst [] old new = ⊥
DoesFirst (one ∷ before) old new = DoesFirst before old new ⊎ DoesBehind before one old new

-- by their texts nothing of any was written
abbrev pub NoneWritten : List DoneLine → Type 0
NoneWritten [] = Unit {0}
NoneWritten (one ∷ before) = NoneWritten before × IsUnwritten one.line one.text

-- What tables keep of these lines: all up to the last of which, by its text, something was written. Of one that was refused behind it they may
-- keep what it commits.
abbrev pub KeepsDone : List DoneLine → Scheduled BuiltIn → Scheduled BuiltIn → Type 0
KeepsDone [] old new = ⊥
KeepsDone (one ∷ before) old new =
    ((between : Scheduled BuiltIn) × DoesAll before old between × KeepsLine one.line one.text between new)
    ⊎ (IsUnwritten one.line one.text × (KeepsDone before old new ⊎ DoesBehind before one old new))

-- all of them that begin an attempt of an invocation name handlers of this function
abbrev pub AllBring : Text → Handler → List DoneLine → Type 0
AllBring id next [] = Unit {0}
AllBring id next (one ∷ before) = AllBring id next before × BringsFunction id next one.line

-- these are the events of the lines, in order, with the replies that are printed
abbrev pub AreOfLines : List DoneLine → List (Event BuiltIn) → List Reply → Type 0
AreOfLines [] events replies = (events ≡ []) × (replies ≡ [])
AreOfLines (one ∷ before) events replies =
    (first own : List (Event BuiltIn)) × (told answers : List Reply) × (events ≡ first ++ own) × (replies ≡ told ++ answers)
    × AreOfLines before first told × AreOfLine one.line one.text own answers

-- Such lines are a schedule: of their events, with the replies that they print. Its begins bring what the lines name, and it leaves what a
-- schedule leaves: of an invocation whose lines all name handlers of one function, if what was recorded of it before is of the run of that
-- function, all that is recorded behind them is (`leaves.in_run`); nothing is recorded of one that is new.
pub record AreSchedule (done : List DoneLine) (start end : Scheduled BuiltIn) : Type 0 where
  pub events : List (Event BuiltIn)
  pub replies : List Reply
  pub of_lines : AreOfLines done events replies
  pub applies : AppliesAll function_of default_options events replies start end
  pub brings : (id : Text) (next : Handler) → AllBring id next done → AllByRecursion (Brings function_of id next) events
  pub leaves : Leaves function_of default_options events replies start end

-- the first of these lines are those before one of them, and that one with some text
abbrev pub AreFirst : (first done : List DoneLine) → Type 0
AreFirst first [] = ⊥
AreFirst first (one ∷ before) = AreFirst first before ⊎ ((text : List ℕ) × (first ≡ record { number = one.number; line = one.line; text = text } ∷ before))

-- the first of these lines were done, where a crash came, on a scheduler that held nothing at first
pub record AreCut (done : List DoneLine) (s t : Standing) : Type 0 where
  pub first : List DoneLine
  pub are_first : AreFirst first done
  pub brings : (id : Text) (next : Handler) → AllBring id next done → AllBring id next first
  pub held : List (HeldAttempt BuiltIn)
  pub does : DoesAll first (at_first s) (record { standing = t; held = held })
  pub schedule : AreSchedule first (at_first s) (record { standing = t; held = held })

-- so it was on a scheduler that held nothing at first
abbrev pub AreKept : List DoneLine → Standing → Standing → Type 0
AreKept done s t = (held : List (HeldAttempt BuiltIn)) × KeepsDone done (at_first s) (record { standing = t; held = held })

-- What was done is all that `Does` tells of.
module _ (lines : List (ℕ × List ℕ)) (Does : List DoneLine → Type 0) where
  -- the first lines of a script were done, and these come behind them
  pub record HasDone (done : List DoneLine) (rest : List (ℕ × List ℕ)) : Type 0 where
    pub lines_are : lines ≡ lines_of done ++ rest
    pub understood : AreUnderstood done
    pub does : Does done

  -- all lines were done and written
  pub record DoesWhole (output : List ℕ) : Type 0 where
    pub done : List DoneLine
    pub has_done : HasDone done []
    pub written : output ≡ texts_of done

  -- those before the line of this number were, and that line is not understood
  pub record StopsBefore (output : List ℕ) (number : ℕ) : Type 0 where
    pub done : List DoneLine
    pub bytes : List ℕ
    pub rest : List (ℕ × List ℕ)
    pub has_done : HasDone done ((number, bytes) ∷ rest)
    pub unknown : IsNotUnderstood bytes
    pub written : output ≡ texts_of done

  -- those before some line were, and there is no memory to read that line
  pub record ReadsNoMore (output : List ℕ) : Type 0 where
    pub done : List DoneLine
    pub next : ℕ × List ℕ
    pub rest : List (ℕ × List ℕ)
    pub has_done : HasDone done (next ∷ rest)
    pub written : output ≡ texts_of done

  -- some line was done, only those before it were written, and there is no memory for its text
  pub record HasNoText (output : List ℕ) : Type 0 where
    pub last : DoneLine
    pub before : List DoneLine
    pub rest : List (ℕ × List ℕ)
    pub has_done : HasDone (last ∷ before) rest
    pub written : output ≡ texts_of before

  -- some line was done, and of its text the writer took a part
  pub record WritesPart (output : List ℕ) : Type 0 where
    pub last : DoneLine
    pub before : List DoneLine
    pub rest : List (ℕ × List ℕ)
    pub has_done : HasDone (last ∷ before) rest
    pub taken : ℕ
    pub part : taken < length last.text
    pub written : output ≡ texts_of before ++ take taken last.text

  abbrev pub ComesSoFar : List ℕ → Result (Unit {0}) ScriptFault → Type 0
  ComesSoFar output (Ok done) = DoesWhole output
  ComesSoFar output (Err (LineNotUnderstood number)) = StopsBefore output number
  ComesSoFar output (Err LineOutOfMemory) = ReadsNoMore output
  ComesSoFar output (Err TextOutOfMemory) = HasNoText output
  ComesSoFar output (Err OutputUnwritable) = WritesPart output
  ComesSoFar output (Err ScriptUnreadable) = ⊥

  -- the lines were done in order, and this was written
  pub record DoesLines (had has : Option (List ℕ)) (result : Result (Unit {0}) ScriptFault) : Type 0 where
    pub output : List ℕ
    pub appended : Appends had has output
    pub comes_to : ComesSoFar output result

module _ {S : Type 0} (g : Ghosts S) where
  -- these lines were done on a scheduler, and what they print lasts
  pub record HasRun (done : List DoneLine) (old new : Scheduler BuiltIn S) : Type 0 where
    pub reaches : Reaches g (DoesFirst done) (DoesAll done) old new
    pub lasts : LeavesKept g (NoneWritten done) (KeepsDone done) old new

  -- these lines were done on a store, of which this is left
  pub record AreDone (store after : Stored S) (done : List DoneLine) : Type 0 where
    -- Whatever the store stood for, unless the disk failed: the lines were done on it by a new scheduler, and what they came to is what the
    -- store that is left stands for. Of that all is said that a schedule leaves: with it the next script begins, by
    -- `durable_schedule::reopened_stores_hold` also over a store that is opened again.
    pub leads : HasCleanDisk (state g after.connection) → (s : Standing) → IsStanding g s store
        → (end : Scheduled BuiltIn) × IsStanding g end.standing after × DoesAll done (at_first s) end × AreSchedule done (at_first s) end
    -- a crash leaves what it could leave before, or what the first of the lines came to, of which the same is said
    pub crash : Endures g (AreCut done) store after
    -- What the lines print lasts: whatever a crash leaves from then on keeps it.
    pub lasts : HasCleanDisk (state g after.connection) → (trees : Trees) → (state g after.connection).may_leave trees
        → (NoneWritten done × (state g store.connection).may_leave trees) ⊎ KeepsStanding g (AreKept done) store trees

  -- the script was read whole, and its lines were done
  pub record RunsLines (input left had has : Option (List ℕ)) (store after : Stored S) (result : Result (Unit {0}) ScriptFault) : Type 0 where
    pub script : List ℕ
    pub known : IfSome input (λ bytes. script ≡ bytes)
    pub at_end : IsAtEnd left
    pub small : length script ≤ 16777216
    pub reached : Result (Unit {0}) ScriptFault
    pub does : DoesLines (numbered_lines script) (AreDone store after) had has reached
    pub ends : EndsWith reached result

  -- A script that cannot be read does nothing.
  abbrev pub RunsScript : Option (List ℕ) → Option (List ℕ) → Option (List ℕ) → Option (List ℕ) → Stored S → Stored S → Result (Unit {0}) ScriptFault → Type 0
  RunsScript input left had has store after result =
      ((result ≡ Err ScriptUnreadable) × (after ≡ store) × Keeps had has) ⊎ RunsLines input left had has store after result

-- It holds behind each line.
abbrev pub LinesFollow : Type 0
LinesFollow = (start end : Scheduled BuiltIn) (done : List DoneLine) → start.held ≡ [] → DoesAll done start end
    → (id : Text) (next : Handler) → AllBring id next done → HoldsOf next default_options id start.standing.events → HoldsOf next default_options id end.standing.events

-- the function of a handler that a line may name
abbrev pub named_function : HandlerName → Handler
named_function name.Nap = nap
named_function name.Nap99 = nap99
named_function name.Race = race
named_function name.Both = both
named_function name.Ask = ask
named_function name.Pair = pair
named_function name.Twice = twice
named_function name.Keys = keys
named_function name.Read = read
named_function name.Effect = effect
named_function name.Go = go
named_function name.Hook = hook
named_function name.Quorum = quorum

-- Each name stands for its function.
abbrev pub HandlersAreNamed : Type 0
HandlersAreNamed = (name : HandlerName) (handler : BuiltIn) → IsNamed name handler → function_of handler ≡ named_function name
