-- What is read of a line.
use Rattle.std.specs.Prelude.{◌≡◌, ◌≢◌, ℕ, ◌≤◌, ◌<◌, List, [], ◌∷◌, ◌++◌, length, Option, Some, None, IfSome, Result, Ok, Err}
use Rattle.std.specs.List.{AllByRecursion}
use Rattle.std.specs.Io.KnownBytes.{Consumes, IsAtEnd}
use Rattle.store_server.specs.declared.fault.ServerFault.{ServerFault}
use Rattle.store_server.specs.declared.fault.ServerFault.TheVariants.{InputUnreadable, LineTooLong, LineOutOfMemory}
use Rattle.store_server.specs.declared.reading.Behind.{Behind}
use Rattle.store_server.specs.declared.reading.Behind.TheVariants.{More, Feed, End}

-- how many bytes a line has at most, its line feed among them
abbrev pub line_limit : ℕ
line_limit = 67108864

-- no line feed is among the bytes
abbrev pub HasNoFeed : List ℕ → Type 0
HasNoFeed bytes = AllByRecursion (λ byte. byte ≢ 10) bytes

-- these bytes are a line, without its line feed
pub record IsLineText (line : List ℕ) : Type 0 where
  pub unfed : HasNoFeed line
  pub small : length line < line_limit

-- a line that begins so is longer than any may be
pub record IsTooLong (part : List ℕ) : Type 0 where
  pub unfed : HasNoFeed part
  pub long : line_limit ≤ length part

-- nothing is left of an input that is known
abbrev pub EndOf : (input left : Option (List ℕ)) → Type 0
EndOf input left = IfSome input (λ _. IsAtEnd left)

-- the next line; or what stands behind the last one, up to the end of the input
abbrev pub ReadsLine : (input left : Option (List ℕ)) → Option (List ℕ) → Type 0
ReadsLine input left (Some line) = Consumes input left (line ++ 10 ∷ []) × IsLineText line
ReadsLine input left None = (part : List ℕ) × Consumes input left part × HasNoFeed part × EndOf input left

-- this was read, and is not done
abbrev pub StopsReading : (input left : Option (List ℕ)) → ServerFault → Type 0
StopsReading input left InputUnreadable = (part : List ℕ) × Consumes input left part
StopsReading input left LineOutOfMemory = (part : List ℕ) × Consumes input left part
StopsReading input left LineTooLong = (part : List ℕ) × Consumes input left part × IsTooLong part
StopsReading input left _ = ⊥

-- ---- part by part

-- so much more of a line was read, and this behind it
pub record ReadsMore (behind : List ℕ) (input left : Option (List ℕ)) (had has : List ℕ) : Type 0 where
  pub part : List ℕ
  pub read : Consumes input left (part ++ behind)
  pub unfed : HasNoFeed part
  pub line : has ≡ had ++ part
  pub small : length had < line_limit → length has < line_limit

-- it is too long with what was read
pub record ReadsTooMuch (input left : Option (List ℕ)) (had : List ℕ) : Type 0 where
  pub part : List ℕ
  pub read : Consumes input left part
  pub unfed : HasNoFeed part
  pub long : line_limit ≤ length (had ++ part)

abbrev pub ReadsPart : (input left : Option (List ℕ)) → (had has : List ℕ) → Result Behind ServerFault → Type 0
ReadsPart input left had has (Ok More) = ReadsMore [] input left had has
ReadsPart input left had has (Ok Feed) = ReadsMore (10 ∷ []) input left had has
ReadsPart input left had has (Ok End) = ReadsMore [] input left had has × EndOf input left
ReadsPart input left had has (Err LineTooLong) = ReadsTooMuch input left had
ReadsPart input left had has (Err InputUnreadable) = Consumes input left []
ReadsPart input left had has (Err LineOutOfMemory) = Consumes input left []
ReadsPart input left had has (Err _) = ⊥
