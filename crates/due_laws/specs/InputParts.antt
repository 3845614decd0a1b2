-- What is handed out of an attempt's input, a part at a time, and how it is read by the row.
use Rattle.std.specs.Prelude.{◌≡◌, ◌⊎◌, true, false, ℕ, ◌+◌, ◌-◌, ◌≤◌, List, [], ◌∷◌, ◌++◌, length, take, drop, slice_get, Some, None}
use Rattle.std.specs.List.{concat}
use Rattle.journal_model.specs.Notification.{Bytes, Text}
use Rattle.journal_model.specs.Event.{Event}
use Rattle.journal_model.specs.Journal.{begins}
use Rattle.journal_model.specs.Attempt.{Piece, begins_attempt, bytes_asked, bytes_handed, input_bytes, input_left, input_pieces}
use Rattle.journal_model.specs.Cause.{causes_of}
use Rattle.input_laws.specs.ArrivalsRead.{arrivals_among}
use Rattle.due_laws.specs.Awake.{arrivals_heard}

-- ---- one part

-- what a call that asks for so many bytes hands out of what is left: a beginning of that, not more than was asked for, and nothing only
-- where nothing was asked for or nothing is left
pub record HandsPart (left : Bytes) (most : ℕ) (bytes : Bytes) : Type 0 where
  pub rest : Bytes
  pub beginning : left ≡ bytes ++ rest
  pub few : length bytes ≤ most
  pub none : bytes ≡ [] → (most ≡ 0) ⊎ (left ≡ [])

-- so it is all that is handed out where just so many bytes are asked for; and to hand out all that is asked for is one way to do it
abbrev pub PartIsTaken : Type 0
PartIsTaken = (left bytes : Bytes) (most : ℕ) → HandsPart left most bytes → bytes ≡ take (length bytes) left

abbrev pub TakenIsPart : Type 0
TakenIsPart = (left : Bytes) (most : ℕ) → HandsPart left most (take most left)

-- the events say what was handed out, whether they say how many bytes were asked for or how many were given
pub record HandsAlike (events others : List Event) (id : Text) : Type 0 where
  pub handed : bytes_handed events id ≡ bytes_handed others id
  pub pieces : input_pieces events id ≡ input_pieces others id
  pub left : input_left events id ≡ input_left others id
  pub heard : arrivals_heard events id ≡ arrivals_heard others id

abbrev pub GivenIsAsked : Type 0
GivenIsAsked = (events : List Event) (id : Text) (attempt most : ℕ)
    → HandsAlike (Event.Feed id attempt (length (take most (input_left events id))) ∷ events) (Event.Feed id attempt most ∷ events) id

abbrev pub CountIsUnseen : Type 0
CountIsUnseen = (events : List Event) (id : Text) (attempt asked given : ℕ) → causes_of events (Event.Feed id attempt asked) ≡ causes_of events (Event.Feed id attempt given)

-- what an event with the number of bytes that were given makes of the input
pub record AfterPart (events : List Event) (id : Text) (attempt : ℕ) (bytes : Bytes) : Type 0 where
  pub handed : bytes_handed (Event.Feed id attempt (length bytes) ∷ events) id ≡ bytes_handed events id + length bytes
  pub pieces : input_pieces (Event.Feed id attempt (length bytes) ∷ events) id ≡ input_pieces events id
  pub left : bytes ++ input_left (Event.Feed id attempt (length bytes) ∷ events) id ≡ input_left events id

abbrev pub PartIsHanded : Type 0
PartIsHanded = (events : List Event) (id : Text) (attempt most : ℕ) (bytes : Bytes) → HandsPart (input_left events id) most bytes → AfterPart events id attempt bytes

-- ---- calls one after another, until all that is asked for was handed out, or nothing is left

abbrev pub HandsChain : Text → (attempt count : ℕ) → List Bytes → List Event → List Event → Type 0
HandsChain id attempt count [] old new = ((count ≡ 0) ⊎ (input_left old id ≡ [])) × (new ≡ old)
HandsChain id attempt count (bytes ∷ parts) old new =
    HandsPart (input_left old id) count bytes × HandsChain id attempt (count - length bytes) parts (Event.Feed id attempt (length bytes) ∷ old) new

-- all of them together hand out what one call would that hands out all that is asked for
pub record ChainIsOne (id : Text) (attempt count : ℕ) (parts : List Bytes) (old new : List Event) : Type 0 where
  pub taken : concat parts ≡ take count (input_left old id)
  pub alike : HandsAlike new (Event.Feed id attempt count ∷ old) id

abbrev pub ChainsAreOne : Type 0
ChainsAreOne = (id : Text) (attempt count : ℕ) (parts : List Bytes) (old new : List Event) → HandsChain id attempt count parts old new → ChainIsOne id attempt count parts old new

-- ---- by the row

-- what is left of a frame that was read: nothing, or an end of the last of the frames that were read
pub record IsEndOf (rest : Bytes) (pieces : List Piece) : Type 0 where
  pub before : List Piece
  pub last : Piece
  pub done : Bytes
  pub pieces_are : pieces ≡ before ++ last ∷ []
  pub bytes_are : last.bytes ≡ done ++ rest

-- so many frames of the input were read, and of the last of these this was not handed out
pub record ReadsRows (events : List Event) (id : Text) (read : ℕ) (rest : Bytes) : Type 0 where
  pub within : read ≤ length (input_pieces events id)
  pub left : input_left events id ≡ rest ++ input_bytes (drop read (input_pieces events id))
  pub part : (rest ≡ []) ⊎ IsEndOf rest (take read (input_pieces events id))

-- how many frames were handed out whole
abbrev pub frames_whole : ℕ → Bytes → ℕ
frames_whole read [] = read
frames_whole read (x ∷ rest) = read - 1

-- how an attempt that is begun, an event that hands nothing out, the next row, and a hand-out change that
pub record RowsAreRead : Type 0 where
  pub begun : (events : List Event) (event : Event) (id : Text) → begins id event ≡ false → begins_attempt id event ≡ true → ReadsRows (event ∷ events) id 0 []
  pub stays : (events : List Event) (event : Event) (id : Text) (read : ℕ) (rest : Bytes) → begins id event ≡ false → begins_attempt id event ≡ false
      → bytes_asked id event ≡ None → ReadsRows events id read rest → ReadsRows (event ∷ events) id read rest
  pub next : (events : List Event) (id : Text) (read : ℕ) (piece : Piece) → slice_get (input_pieces events id) read ≡ Some piece
      → ReadsRows events id read [] → ReadsRows events id (read + 1) piece.bytes
  pub hands : (events : List Event) (id : Text) (attempt read : ℕ) (bytes rest : Bytes) → ReadsRows events id read (bytes ++ rest)
      → ReadsRows (Event.Feed id attempt (length bytes) ∷ events) id read rest

-- what it tells: that nothing is left, what a call may hand out, and how many arrivals were handed out whole
pub record RowsTell : Type 0 where
  pub nothing : (events : List Event) (id : Text) (read : ℕ) → slice_get (input_pieces events id) read ≡ None → ReadsRows events id read [] → input_left events id ≡ []
  pub remains : (events : List Event) (id : Text) (read : ℕ) (rest : Bytes) → ReadsRows events id read rest → input_left events id ≡ []
      → (rest ≡ []) × (slice_get (input_pieces events id) read ≡ None)
  pub part : (events : List Event) (id : Text) (read most : ℕ) (x : ℕ) (rest : Bytes) → ReadsRows events id read (x ∷ rest) → HandsPart (input_left events id) most (take most (x ∷ rest))
  pub filled : (events : List Event) (id : Text) (read : ℕ) (piece : Piece) → slice_get (input_pieces events id) read ≡ Some piece → (x : ℕ) × (more : Bytes) × (piece.bytes ≡ x ∷ more)
  pub heard : (events : List Event) (id : Text) (read : ℕ) (rest : Bytes) → ReadsRows events id read rest
      → arrivals_heard events id ≡ arrivals_among (take (frames_whole read rest) (input_pieces events id))
