-- Why invocations are not forgotten.
use Rattle.std.specs.Prelude.{List}
use Rattle.std.specs.List.{flat_map}
use Rattle.journal_model.specs.Notification.{Text}
use Rattle.journal_model.specs.Event.{Event}
use Rattle.journal_model.specs.Cause.{Tests}
use Rattle.journal_model.specs.Forgetting.{forget_tests}

-- none of several is forgotten where one is open or not known: the first that is tells why
abbrev pub forget_tests_of_all : List Event → List Text → Tests
forget_tests_of_all events ids = flat_map (forget_tests events) ids
