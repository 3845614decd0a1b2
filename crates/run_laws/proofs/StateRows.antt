-- Worked rows: what two writes of an invocation make of its object's state.
use Rattle.std.proofs.Common.{◌≡◌, refl, [], ◌∷◌, List, codes}
use Rattle.journal_model.specs.declared.invocation.StateMode.{StateMode}
use Rattle.journal_model.specs.State.{IsOrdered}
use Rattle.journal_model.specs.Request.{Request}
use Rattle.journal_model.specs.Event.{Event, Frame}
use Rattle.journal_model.specs.Journal.{object_state}

abbrev written : List Event
written =
    Event.Move (codes "i1") 1 (Frame.Command (Request.SetState (codes "a") (codes "1") [])) ∷ Event.Move (codes "i1") 1 (Frame.Command (Request.SetState (codes "b") (codes "2") []))
    ∷ Event.Begin (codes "i1") 0
    ∷ Event.Invoke (record { id = codes "i1"; object = codes "o"; input = []; headers = []; version = 7; seed = 1; state = StateMode.Whole }) ∷ []

written-state : object_state written (codes "o") ≡ (codes "a", codes "1") ∷ (codes "b", codes "2") ∷ []
written-state = refl

written-ordered : IsOrdered (object_state written (codes "o"))
written-ordered = refl
