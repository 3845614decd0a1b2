-- The bytes that the last attempt of an invocation was handed, one hand-out after another.
use Rattle.std.specs.Prelude.{◌≡◌, List, ◌++◌}
use Rattle.journal_model.specs.Notification.{Text}
use Rattle.journal_model.specs.Event.{Event}
use Rattle.journal_model.specs.Attempt.{input_pieces, input_bytes, input_left}
use Rattle.journal_model.specs.Cause.{IsAccepted}
pub use Rattle.due_laws.specs.HandedBytes.{bytes_handed_out}

-- with what is left they are its input: the journal that it was begun with, by place, and then each later arrival, by place
abbrev pub HandsOutInput : Type 0
HandsOutInput = (events : List Event) (id : Text) → IsAccepted events → bytes_handed_out events id ++ input_left events id ≡ input_bytes (input_pieces events id)
