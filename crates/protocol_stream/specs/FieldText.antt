-- How what a notification may lack is printed.
use Rattle.std.specs.Prelude.{ℕ, List, codes}
use Rattle.protocol_stream.specs.declared.decoder.NotificationField.{NotificationField}
use Rattle.protocol_stream.specs.declared.decoder.NotificationField.TheVariants as fields

abbrev pub field_text : NotificationField → List ℕ
field_text fields.Id = codes "id"
field_text fields.Result = codes "result"
