-- What the lines of an input do, one after another, and what is written of them.
use Rattle.std.specs.Prelude.{◌≡◌, ◌⊎◌, ℕ, ◌≤◌, Bool, true, false, List, [], ◌∷◌, ◌++◌, length, take, Option, Result, Ok, Err}
use Rattle.std.specs.Io.KnownBytes.{Appends, Consumes}
use Rattle.sqlite_trees.specs.declared.store.Store.{Ghosts}
use Rattle.store_calls.specs.AbstractStore.{Standing, StaysStanding}
use Rattle.journal_store.specs.StoreView.{Stored}
use Rattle.store_server.specs.declared.fault.ServerFault.{ServerFault}
use Rattle.store_server.specs.declared.fault.ServerFault.TheVariants.{InputUnreadable, LineTooLong, LineOutOfMemory, AnswerOutOfMemory, Untold, OutputUnwritable}
use Rattle.store_server.specs.StoreChanges.{LeavesKept, ReachesStore}
use Rattle.store_server.specs.RequestAnswers.{CutsLine, DoesLine}
use Rattle.store_server.specs.Lasting.{AnswersLine, IsUnwrittenLine, KeepsLine}
use Rattle.store_server.specs.LineReads.{EndOf, HasNoFeed, IsLineText, IsTooLong}

-- a line that was done, and its answer
pub record DoneLine : Type 0 where
  pub line : List ℕ
  pub text : List ℕ

-- What was done has the last line first: what was read of it, and its answers, in order.
abbrev pub lines_of : List DoneLine → List ℕ
lines_of [] = []
lines_of (one ∷ before) = lines_of before ++ (one.line ++ 10 ∷ [])

abbrev pub texts_of : List DoneLine → List ℕ
texts_of [] = []
texts_of (one ∷ before) = texts_of before ++ one.text

-- of those that were answered together, the last ones first
abbrev pub all_of : List (List DoneLine) → List DoneLine
all_of [] = []
all_of (lines ∷ before) = lines ++ all_of before

-- how many lines are answered together, at most
abbrev pub lines_together : ℕ
lines_together = 1

-- each is one line
abbrev pub AreLines : List DoneLine → Type 0
AreLines [] = Unit {0}
AreLines (one ∷ before) = AreLines before × IsLineText one.line

-- each line was done on what those before it left
abbrev pub DoesAll : List DoneLine → Standing → Standing → Type 0
DoesAll [] old new = StaysStanding old new
DoesAll (one ∷ before) old new = (between : Standing) × DoesAll before old between × DoesLine one.line one.text between new

-- a crash came in the middle of a line, behind these
abbrev pub CutsBehind : List DoneLine → DoneLine → Standing → Standing → Type 0
CutsBehind before one old new = (between : Standing) × DoesAll before old between × CutsLine one.line between new

-- or of one of these, behind those before it
abbrev pub CutsAll : List DoneLine → Standing → Standing → Type 0
CutsAll [] old new = ⊥
CutsAll (one ∷ before) old new = CutsAll before old new ⊎ CutsBehind before one old new

-- by the answers nothing of any was written
abbrev pub NoneWritten : List DoneLine → Type 0
NoneWritten [] = Unit {0}
NoneWritten (one ∷ before) = NoneWritten before × IsUnwrittenLine one.line one.text

-- What tables keep of these lines: all up to the last of which, by its answer, something was written. Of one that was refused behind it they
-- may keep what it commits.
abbrev pub KeepsAnswered : List DoneLine → Standing → Standing → Type 0
KeepsAnswered [] old new = ⊥
KeepsAnswered (one ∷ before) old new =
    ((between : Standing) × DoesAll before old between × KeepsLine one.line one.text between new)
    ⊎ (IsUnwrittenLine one.line one.text × (KeepsAnswered before old new ⊎ CutsBehind before one old new))

-- the last of the lines was done, and its answer was not written, or only so much of it
abbrev pub WritesPart : List DoneLine → List ℕ → Type 0
WritesPart [] output = ⊥
WritesPart (one ∷ before) output = (taken : ℕ) × (taken ≤ length one.text) × (output ≡ texts_of before ++ take taken one.text)

abbrev pub WritesNone : List DoneLine → List ℕ → Type 0
WritesNone [] output = ⊥
WritesNone (one ∷ before) output = output ≡ texts_of before

-- Why it ends: at the end of the input, where a line without a line feed is not done; where no more is read; or where an answer cannot be
-- given, of which nobody is told whether its line was done: it was. `part` was read behind the lines that were done.
abbrev pub EndsServing : Result (Unit {0}) ServerFault → List DoneLine → (part output : List ℕ) → (input left : Option (List ℕ)) → Type 0
EndsServing (Ok _) done part output input left = EndOf input left × HasNoFeed part × (output ≡ texts_of done)
EndsServing (Err InputUnreadable) done part output input left = output ≡ texts_of done
EndsServing (Err LineTooLong) done part output input left = IsTooLong part × (output ≡ texts_of done)
EndsServing (Err LineOutOfMemory) done part output input left = output ≡ texts_of done
EndsServing (Err AnswerOutOfMemory) done part output input left = (part ≡ []) × WritesNone done output
EndsServing (Err OutputUnwritable) done part output input left = (part ≡ []) × WritesPart done output
EndsServing (Err Untold) done part output input left = ⊥

module _ {S : Type 0} (g : Ghosts S) where
  -- What these lines have answered lasts: whatever a crash leaves from then on keeps it, and a line that is refused takes nothing of it away.
  abbrev pub LastsAnswered : List DoneLine → Stored S → Stored S → Type 0
  LastsAnswered done = LeavesKept g (NoneWritten done) (KeepsAnswered done)

  -- So it is when they are answered, before the next line is read.
  pub record DoesTogether (lines : List DoneLine) (old new : Stored S) : Type 0 where
    pub few : length lines ≤ lines_together
    pub reaches : ReachesStore g (CutsAll lines) (DoesAll lines) old new
    pub lasts : LastsAnswered lines old new

  -- those that are answered together, on the store that those before them have left
  abbrev pub DoesInTurn : List (List DoneLine) → Stored S → Stored S → Type 0
  DoesInTurn [] old new = new ≡ old
  DoesInTurn (lines ∷ before) old new = (between : Stored S) × DoesInTurn before old between × DoesTogether lines between new

  pub record DoesByParts (done : List DoneLine) (old new : Stored S) : Type 0 where
    pub parts : List (List DoneLine)
    pub are_all : done ≡ all_of parts
    pub does : DoesInTurn parts old new

  -- these lines were read, done and answered, one after another
  pub record HasServed (input left had has : Option (List ℕ)) (old new : Stored S) (done : List DoneLine) : Type 0 where
    pub read : Consumes input left (lines_of done)
    pub lines : AreLines done
    pub reaches : ReachesStore g (CutsAll done) (DoesAll done) old new
    pub lasts : LastsAnswered done old new
    pub moments : DoesByParts done old new
    pub written : Appends had has (texts_of done)

  -- The bytes of the reader are lines, which were done in order, each as the store's own contract says. Each answer was written.
  pub record Serves (input left had has : Option (List ℕ)) (old new : Stored S) (result : Result (Unit {0}) ServerFault) : Type 0 where
    pub done : List DoneLine
    pub part : List ℕ
    pub output : List ℕ
    pub read : Consumes input left (lines_of done ++ part)
    pub lines : AreLines done
    pub reaches : ReachesStore g (CutsAll done) (DoesAll done) old new
    -- What was answered lasts: when it ends, and at each moment at which lines were answered.
    pub lasts : LastsAnswered done old new
    pub moments : DoesByParts done old new
    pub written : Appends had has output
    pub ends : EndsServing result done part output input left

  -- ---- one line more

  -- The next line was done, whose answer is this, and lasts then: before it is answered, and before the next is read.
  pub record DoesNextLine (input left : Option (List ℕ)) (old new : Stored S) (one : DoneLine) : Type 0 where
    pub read : Consumes input left (one.line ++ 10 ∷ [])
    pub line : IsLineText one.line
    pub answers : AnswersLine g one.line one.text old new

  -- no line was done, and this was read
  pub record DoesNoLine (input left had has : Option (List ℕ)) (old new : Stored S) (part : List ℕ) : Type 0 where
    pub read : Consumes input left part
    pub written : Appends had has []
    pub same : new ≡ old

  abbrev pub GoesOn : (input left had has : Option (List ℕ)) → Stored S → Stored S → Result Bool ServerFault → Type 0
  GoesOn input left had has old new (Ok true) = (one : DoneLine) × DoesNextLine input left old new one × Appends had has one.text
  GoesOn input left had has old new (Ok false) = (part : List ℕ) × DoesNoLine input left had has old new part × EndOf input left × HasNoFeed part
  GoesOn input left had has old new (Err InputUnreadable) = (part : List ℕ) × DoesNoLine input left had has old new part
  GoesOn input left had has old new (Err LineTooLong) = (part : List ℕ) × DoesNoLine input left had has old new part × IsTooLong part
  GoesOn input left had has old new (Err LineOutOfMemory) = (part : List ℕ) × DoesNoLine input left had has old new part
  GoesOn input left had has old new (Err AnswerOutOfMemory) = (one : DoneLine) × DoesNextLine input left old new one × Appends had has []
  GoesOn input left had has old new (Err OutputUnwritable) =
      (one : DoneLine) × DoesNextLine input left old new one × ((taken : ℕ) × (taken ≤ length one.text) × Appends had has (take taken one.text))
  GoesOn input left had has old new (Err Untold) = ⊥

  -- what a line comes to that was read: its answer was written, or so much of it; or there was no memory for it
  abbrev pub DoesGiven : List ℕ → (had has : Option (List ℕ)) → Stored S → Stored S → Result Bool ServerFault → Type 0
  DoesGiven line had has old new (Ok true) = (text : List ℕ) × AnswersLine g line text old new × Appends had has text
  DoesGiven line had has old new (Err LineOutOfMemory) = (new ≡ old) × Appends had has []
  DoesGiven line had has old new (Err AnswerOutOfMemory) = (text : List ℕ) × AnswersLine g line text old new × Appends had has []
  DoesGiven line had has old new (Err OutputUnwritable) =
      (text : List ℕ) × AnswersLine g line text old new × ((taken : ℕ) × (taken ≤ length text) × Appends had has (take taken text))
  DoesGiven line had has old new _ = ⊥

  -- a line was not read, and nothing was done; or it was done, and there was no memory for its answer
  abbrev pub StopsAtLine : List ℕ → ServerFault → Stored S → Stored S → Type 0
  StopsAtLine line LineOutOfMemory old new = new ≡ old
  StopsAtLine line AnswerOutOfMemory old new = (text : List ℕ) × AnswersLine g line text old new
  StopsAtLine line _ old new = ⊥
