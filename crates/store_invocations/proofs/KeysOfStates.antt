-- The keys of the state that is kept of an object are text.
use Rattle.std.proofs.Common.{◌≡◌, refl, sym, ap, ◌∙◌, Bool, true, false, ◌&&◌, List, [], ◌∷◌, map}
use Rattle.std.specs.List.{list_all}
use Rattle.std.specs.Str.{is_utf8}
use Rattle.journal_model.specs.Notification.{Text}
use Rattle.journal_model.specs.State.{StateMap}
use Rattle.journal_model.specs.Event.{Event}
use Rattle.journal_model.specs.Journal.{object_state}
use Rattle.journal_model.specs.Cause.{IsAccepted}
use Rattle.run_laws.specs.Keys.{HasTextKeys}
use Rattle.run_laws.proofs.States.{states_text}
use Rattle.store_tables.specs.declared.row.StateRow.{StateRow}
use Rattle.store_model.specs.KeptRecords.{state_row}
use Rattle.store_refusals.specs.declared.refusal.Refusal.{Refusal}
use Rattle.store_refusals.specs.RefusalConditions.{IsRefused}

have_text : (object : Text) (entries : StateMap) → HasTextKeys entries → list_all (λ (row : StateRow). is_utf8 row.key) (map (state_row object) entries) ≡ true
have_text object [] all = refl
have_text object (entry ∷ entries) all = ap (λ b. b && list_all (λ (row : StateRow). is_utf8 row.key) (map (state_row object) entries)) all.0 ∙ have_text object entries all.1

-- so no row of it is foreign for its key
pub text_kept : (events : List Event) (object : Text) (states : List StateRow) (why : Refusal) → IsAccepted events → states ≡ map (state_row object) (object_state events object)
    → list_all (λ (row : StateRow). is_utf8 row.key) states ≡ false → IsRefused [] why
text_kept events object states why accepted are none =
    let both : false ≡ true = sym none ∙ ap (list_all (λ (row : StateRow). is_utf8 row.key)) are ∙ have_text object (object_state events object) (states_text events object accepted) in
    absurd cc
