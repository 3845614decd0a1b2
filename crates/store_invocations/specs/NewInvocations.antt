-- What is recorded of a new invocation.
use Rattle.std.specs.Prelude.{◌==◌, length, Bool, ◌||◌, List, [], ◌∷◌, is_some}
use Rattle.journal_model.specs.Notification.{Bytes}
use Rattle.journal_model.specs.declared.invocation.NewInvocation.{NewInvocation}
use Rattle.journal_model.specs.Event.{Event}
use Rattle.journal_model.specs.Spelling.{input_payload}
use Rattle.journal_model.specs.Journal.{invocation_begun, is_busy}
use Rattle.journal_model.specs.Cause.{Tests, is_empty, is_too_long}
use Rattle.journal_model.specs.declared.cause.Cause.{Cause}
use Rattle.protocol_types.specs.declared.version.Version.{Version}
use Rattle.protocol_types.specs.Version.{is_unsupported}
use Rattle.protocol_types.specs.declared.message_type.MessageType.TheVariants.{InputCommand}
use Rattle.store_tables.specs.declared.row.Progress.{Progress}
use Rattle.store_tables.specs.declared.row.InvocationRow.{InvocationRow}
use Rattle.store_tables.specs.declared.row.EntryRow.{EntryRow}
use Rattle.store_tables.specs.declared.row.Write.{Write}
use Rattle.store_tables.specs.declared.row.Write.TheVariants.{AddInvocation, AddEntry}
use Rattle.store_model.specs.KeptRecords.{plain_row, input_row, is_shown_whole}
use Rattle.store_model.specs.Progress.{begun_progress}

-- how far it is when it was just begun
abbrev pub first_progress : NewInvocation → Progress
first_progress new = begun_progress new.object

abbrev pub first_row : Version → NewInvocation → InvocationRow
first_row version new = record {
  id = new.id;
  object = new.object;
  version = version;
  seed = new.seed;
  is_whole = is_shown_whole new.state;
  progress = first_progress new;
}

-- the entry of an input, by its payload
abbrev pub entry_of_input : NewInvocation → Bytes → EntryRow
entry_of_input new payload = plain_row new.id 0 InputCommand payload

-- the version is that of the number that came
abbrev pub first_writes : Version → NewInvocation → List Write
first_writes version new = AddInvocation (first_row version new) ∷ AddEntry (input_row new) ∷ []

-- an invocation has an id, and is one of an object
abbrev pub is_nameless : NewInvocation → Bool
is_nameless new = (length new.id == 0) || (length new.object == 0)

-- the tests of a new invocation, those of its object, of its id and of its input
abbrev pub object_tests : List Event → NewInvocation → Tests
object_tests events new = (is_busy events new.object, Cause.ObjectBusy) ∷ (is_empty new.id || is_empty new.object, Cause.EmptyName) ∷ []

abbrev pub id_tests : List Event → NewInvocation → Tests
id_tests events new =
    (is_some (invocation_begun events new.id), Cause.IdUsed) ∷ (is_unsupported new.version, Cause.UnsupportedVersion) ∷ []

abbrev pub input_tests : NewInvocation → Tests
input_tests new = (is_too_long (input_payload new.headers new.input), Cause.PayloadTooLong) ∷ []
