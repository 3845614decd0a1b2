-- The laws of this crate.
use Rattle.std.specs.Prelude.{◌≡◌, List, ◌++◌, length}
use Rattle.journal_model.specs.Notification.{Bytes, Text, Arrival}
use Rattle.journal_model.specs.Event.{Event}
use Rattle.journal_model.specs.Attempt.{Piece, arrivals_within}
use Rattle.journal_model.specs.Cause.{IsAccepted}
use Rattle.journal_model.specs.Headline.{arrivals_handed}
use Rattle.input_laws.specs.Message.{InputMessage, IsInput}
use Rattle.input_laws.specs.ArrivalsRead.{HasReadPieces, arrivals_read}

-- the input of the last attempt is messages that carry all recorded arrivals
abbrev pub InputsAreMessages : Type 0
InputsAreMessages = (events : List Event) (id : Text) → IsAccepted events → (messages : List InputMessage) × IsInput events id messages

-- the arrivals that an attempt has read are the first of those that it was handed
abbrev pub ReadIsHanded : Type 0
ReadIsHanded = (events : List Event) (id : Text) (held : Bytes) (read unread : List Piece) → HasReadPieces events id held read unread
    → (rest : List Arrival) × (arrivals_handed events id ≡ arrivals_read events id read ++ rest)

-- and they are all of those where no whole frame of an arrival is among the bytes that it holds
abbrev pub HandedIsRead : Type 0
HandedIsRead = (events : List Event) (id : Text) (held : Bytes) (read unread : List Piece) → HasReadPieces events id held read unread
    → arrivals_within unread (length held) ≡ 0 → arrivals_handed events id ≡ arrivals_read events id read
