-- What is kept in memory of an attempt's input, whose frames are read from the store one at a time.
use Rattle.std.specs.Prelude.{ℕ, ◌+◌, ◌-◌, ◌<◌, ◌^◌, ◌==◌, nat_le, Bool, false, if◌then◌else◌, List, [], ◌∷◌, ◌++◌, take, drop}
use Rattle.store_live.specs.declared.input.FrameRead.{FrameRead}
use Rattle.store_live.specs.declared.input.NextRow.{NextRow}

pub record InputKept : Type 0 where
  -- how many frames and arrivals were known at the begin
  pub known : ℕ
  pub arrivals : ℕ
  -- how many frames were read, the place behind the last of them, how many arrivals are among them, and what of the last was not handed out
  pub read : ℕ
  pub behind : ℕ
  pub counted : ℕ
  pub rest : List ℕ
  -- the place behind the last that was handed out whole, and how many arrivals are among these
  pub handed : ℕ
  pub heard : ℕ
  -- the completions of the outcomes that are to be acknowledged, until their rows are read
  pub unread : List ℕ
  -- for how many more of them room was made
  pub room : ℕ

-- at a begin
abbrev pub at_begin : (known arrivals : ℕ) → InputKept
at_begin known arrivals =
    record { known = known; arrivals = arrivals; read = 0; behind = 0; counted = 0; rest = []; handed = 0; heard = 0; unread = []; room = 0 }

-- the ordinal of the next arrival that was not known at the begin
abbrev pub next_ordinal : InputKept → ℕ
next_ordinal m = (m.arrivals + (m.read - m.known)) + 1

-- from which row the next frame is read
abbrev pub next_row : InputKept → NextRow
next_row m = if nat_le m.known m.read then NextRow.Arrival (next_ordinal m) else NextRow.Entry m.read

-- whether the next arrival is the first of the outcomes that are to be acknowledged, if it is this one
abbrev pub is_first : List ℕ → ℕ → Bool
is_first [] n = false
is_first (m ∷ rest) n = m == n

-- once the next frame was read
abbrev pub with_frame : FrameRead → InputKept → InputKept
with_frame frame m = record m {
  read = m.read + 1;
  behind = frame.place + 1;
  counted = m.counted + (if frame.is_arrival then 1 else 0);
  rest = frame.bytes;
  unread = if frame.is_acknowledgement then drop 1 m.unread else m.unread;
}

-- that all are counted in 32 bits
pub record CanCount (m : InputKept) (frame : FrameRead) : Type 0 where
  pub read : m.read + 1 < 2 ^ 32
  pub place : frame.place + 1 < 2 ^ 32
  pub counted : m.counted + 1 < 2 ^ 32

-- once bytes were handed out of what was left of it
abbrev pub with_rest : List ℕ → InputKept → InputKept
with_rest [] m = record m { rest = []; handed = m.behind; heard = m.counted }
with_rest (x ∷ rest) m = record m { rest = x ∷ rest }

-- these, and this is left
abbrev pub after_bytes : (bytes rest : List ℕ) → InputKept → InputKept
after_bytes [] rest m = m
after_bytes (x ∷ bytes) rest m = with_rest rest m

-- once at most so many were
abbrev pub input_handed_out : ℕ → InputKept → InputKept
input_handed_out most m = after_bytes (take most m.rest) (drop most m.rest) m

-- room was made for one more outcome that is to be acknowledged; and one is
abbrev pub with_room : InputKept → InputKept
with_room m = record m { room = 1 }

abbrev pub with_outcome_kept : ℕ → InputKept → InputKept
with_outcome_kept completion m = record m { unread = m.unread ++ completion ∷ []; room = 0 }
