-- How an invocation that a call makes tells what it is of: its object, and the headers behind those that the call brings.
use Rattle.std.specs.Prelude.{ℕ, ◌+◌, ◌/◌, ◌%◌, nat_lt, nat_le, ◌==◌, Bool, ◌&&◌, ◌||◌, if◌then◌else◌, List, [], ◌∷◌, ◌++◌, codes, flat_map, bytes_eq}
use Rattle.journal_model.specs.Notification.{Text}
use Rattle.journal_model.specs.Headers.{handler_header}
use Rattle.journal_model.specs.declared.call.Header.{Header}
use Rattle.journal_model.specs.Request.{CallRecord}

abbrev pub is_within : ℕ → ℕ → ℕ → Bool
is_within least greatest byte = nat_le least byte && nat_le byte greatest

-- ASCII letters and digits, and the signs - . _
abbrev pub is_plain : ℕ → Bool
is_plain byte = is_within 97 122 byte || (is_within 65 90 byte || (is_within 48 57 byte || ((byte == 45) || ((byte == 46) || (byte == 95)))))

abbrev pub hex_digit : ℕ → ℕ
hex_digit n = if nat_lt n 10 then 48 + n else 55 + n

-- any other byte is spelled by a percent sign and two hex digits
abbrev pub quoted_byte : ℕ → Text
quoted_byte byte = if is_plain byte then byte ∷ [] else 37 ∷ hex_digit (byte / 16) ∷ hex_digit (byte % 16) ∷ []

abbrev pub quoted : Text → Text
quoted text = flat_map quoted_byte text

-- two names as one text, which tells both
abbrev pub joined : Text → Text → Text
joined first second = quoted first ++ (codes "/" ++ quoted second)

-- A key's object is that of its service and the key. Without a key an invocation has an object of its own.
abbrev pub object_for : CallRecord → Text → Text
object_for call id = if bytes_eq call.key [] then codes "~/" ++ id else joined call.service_name call.key

abbrev pub header : Text → Text → Header
header name value = record { key = name; value = value }

-- what it is of, and who has asked for it
abbrev pub origin_headers : Text → CallRecord → List Header
origin_headers sender call =
    header handler_header (joined call.service_name call.handler_name) ∷ header (codes "hengomaru-key") call.key
    ∷ header (codes "hengomaru-caller") sender ∷ []
