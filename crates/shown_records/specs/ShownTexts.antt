-- What is shown of an invocation, and of an object, by the events that were accepted.
use Rattle.std.specs.Prelude.{◌≡◌, ◌⊎◌, ℕ, Bool, List, [], ◌∷◌, ◌++◌, Option, codes}
use Rattle.std.specs.List.{flat_map}
use Rattle.journal_model.specs.Notification.{Text, Bytes}
use Rattle.journal_model.specs.declared.value.NonEmptyValue.{NonEmptyValue}
use Rattle.journal_model.specs.Event.{Event}
use Rattle.journal_model.specs.State.{StateMap}
use Rattle.journal_model.specs.Journal.{is_open, object_state}
use Rattle.journal_model.specs.Cause.{those_that_hold}
use Rattle.store_refusals.specs.declared.refusal.Refusal.{Refusal}
use Rattle.store_refusals.specs.Names.{refusal_name_of}
use Rattle.store_refusals.specs.RefusalConditions.{IsRefused}
use Rattle.store_invocations.specs.Rows.{known_tests}
use Rattle.store_invocations.specs.JournalContent.{entries_told}
use Rattle.store_invocations.specs.InvocationAnswers.{answer_told}
use Rattle.script_lines.specs.Text.{refused_text, state_line}
use Rattle.shown_records.specs.declared.entry.ShownEntry.{ShownEntry}
use Rattle.shown_records.specs.Entries.{AreShown, SomeUnread}
use Rattle.shown_records.specs.Invocation.{shown_text}

abbrev pub IsKnown : Text → List Event → Type 0
IsKnown id events = those_that_hold (known_tests events id) ≡ []

-- these are the requests and arrivals of the invocation, which is known
abbrev pub HasEntries : Text → List ShownEntry → List Event → Type 0
HasEntries id entries events = IsKnown id events × AreShown (entries_told events id) entries

-- this is what is recorded of the invocation, which is known
pub record HasRecords (id : Text) (entries : List ShownEntry) (answer : Option NonEmptyValue) (is_open_now : Bool) (events : List Event) : Type 0 where
  pub known : IsKnown id events
  pub entries_are : AreShown (entries_told events id) entries
  pub answer_is : answer ≡ answer_told events id
  pub is_open_is : is_open_now ≡ is_open events id

pub record ShowsRecords (id : Text) (text : List ℕ) (events : List Event) : Type 0 where
  pub known : IsKnown id events
  pub entries : List ShownEntry
  pub entries_are : AreShown (entries_told events id) entries
  pub text_is : text ≡ shown_text entries (answer_told events id) (is_open events id)

-- an unknown invocation is refused; or what is asked for is not told, for a circumstance; or an entry is not read
abbrev pub RefusesShow : Text → Refusal → List Event → Type 0
RefusesShow id refusal events = IsRefused (those_that_hold (known_tests events id)) refusal ⊎ SomeUnread (entries_told events id) refusal

pub record ShowsRefusal (id : Text) (text : List ℕ) (events : List Event) : Type 0 where
  pub refusal : Refusal
  pub cause : RefusesShow id refusal events
  pub text_is : text ≡ refused_text (refusal_name_of refusal) ++ 10 ∷ []

abbrev pub Shows : Text → List ℕ → List Event → Type 0
Shows id text events = ShowsRecords id text events ⊎ ShowsRefusal id text events

-- ---- the state of an object

-- the line of a value, behind its key
abbrev pub state_entry : Bytes × Bytes → List ℕ
state_entry entry = state_line entry.0 entry.1 ++ 10 ∷ []

-- those of all, and the end
abbrev pub states_text : StateMap → List ℕ
states_text states = flat_map state_entry states ++ (codes "end" ++ 10 ∷ [])

-- the state is told, or it is not, for a circumstance: an object of which nothing is recorded has none
abbrev pub TellsState : Text → List ℕ → List Event → Type 0
TellsState object text events =
    (text ≡ states_text (object_state events object)) ⊎ ((refusal : Refusal) × IsRefused [] refusal × (text ≡ refused_text (refusal_name_of refusal) ++ 10 ∷ []))
