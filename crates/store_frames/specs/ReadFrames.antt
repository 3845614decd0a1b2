-- The frames that were taken are those of messages, and what came with other events fits.
use Rattle.std.specs.Prelude.{◌≡◌, ◌<◌, ◌^◌, ℕ, List, [], ◌∷◌}
use Rattle.journal_model.specs.declared.notification.SignalKey.{SignalKey}
use Rattle.journal_model.specs.Event.{Frame, Event}
use Rattle.journal_model.specs.Journal.{version_of}
use Rattle.protocol_stream.specs.declared.decoder.RawMessage.{RawMessage}
use Rattle.store_frames.specs.FrameMeanings.{frame_of}

-- the frame of a message from an attempt of this version
abbrev pub IsFrameRead : ℕ → Frame → Type 0
IsFrameRead version frame = (m : RawMessage) × (frame ≡ frame_of version m)

-- a signal's number has 32 bits
abbrev pub SignalKeyFits : SignalKey → Type 0
SignalKeyFits (SignalKey.ByIndex n) = n < 2 ^ 32
SignalKeyFits (SignalKey.ByName name) = Unit {0}

-- what an event brings, which comes behind these
abbrev pub IsReadIn : List Event → Event → Type 0
IsReadIn earlier (Event.Move id attempt frame) = IsFrameRead (version_of earlier id) frame
IsReadIn earlier (Event.Signal id key result) = SignalKeyFits key
IsReadIn earlier _ = Unit {0}

-- each frame that was taken is that of a message of its invocation's version, and each signal that came has a number that fits
abbrev pub AreRead : List Event → Type 0
AreRead [] = Unit {0}
AreRead (event ∷ earlier) = IsReadIn earlier event × AreRead earlier
