-- Worked rows: a nap's second attempt, whose sleep is in its journal, before it has read its start frame and after it has read its journal.
use Rattle.std.proofs.Common.{◌≡◌, refl, [], ◌∷◌, codes, length}
use Rattle.run_laws.proofs.RunRows.{new, given, sleep}
use Rattle.input_laws.specs.Message.{CarriesInput, CarriesRequest}
use Rattle.live_laws.specs.AttemptWithMachine.{AttemptInRun, attempt_begun, HoldsStart, start_unread, start_read, HasReadJournal, handed_bytes, after_reading}

-- a start frame of one byte, and an input of one more
abbrev first : AttemptInRun
first = attempt_begun (record { new = new; journal = CarriesRequest sleep ∷ []; frame = codes "s"; given = given; shown = given.start })

first-holds : HoldsStart (handed_bytes first (codes "m"))
first-holds = start_unread refl refl refl refl

abbrev last : AttemptInRun
last = after_reading (handed_bytes first (codes "m")) (CarriesInput new ∷ CarriesRequest sleep ∷ []) [] []

last-holds : HoldsStart last
last-holds = start_read refl

last-has_read : HasReadJournal last
last-has_read = record { later = []; parts = refl }

-- the sleep is left to be matched
last-left : length last.machine.left ≡ 1
last-left = refl
