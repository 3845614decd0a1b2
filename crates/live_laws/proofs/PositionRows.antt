-- Worked rows: what the first turn of a nap's attempt sends, when nothing was recorded, and when its sleep was.
use Rattle.std.proofs.Common.{refl, Bool, true, false, [], ◌∷◌}
use Rattle.journal_model.specs.declared.call.Call.{Call}
use Rattle.journal_model.specs.Request.{Request}
use Rattle.journal_model.specs.Event.{Frame}
use Rattle.built_in_handlers.specs.Handlers
use Rattle.run_laws.proofs.RunRows.{new, given, sleep}
use Rattle.input_laws.specs.Message.{CarriesInput, CarriesRequest}
use Rattle.attempt_model.specs.Machine.{Machine, machine_at_start, reply_to}
use Rattle.live_laws.specs.MachinePosition.{with_messages}
use Rattle.live_laws.specs.Replies.{SendsReply}

abbrev any_header : Call → Request → Request → Bool
any_header call recorded request = true

abbrev first : Machine
first = with_messages (machine_at_start given.start [] []) (CarriesInput new ∷ [])

abbrev second : Machine
second = with_messages (machine_at_start given.start [] []) (CarriesInput new ∷ CarriesRequest sleep ∷ [])

-- it writes the sleep
first-sends : SendsReply given.version false first (reply_to any_header given first (Handlers.nap given.input [])) (Frame.Command sleep ∷ [])
first-sends = (sleep ∷ [], refl, refl)

-- or matches it, and writes nothing
second-sends : SendsReply given.version false second (reply_to any_header given second (Handlers.nap given.input [])) []
second-sends = ([], refl, refl)
