-- How the text of an awakeable is read: it names the invocation and the signal that it is spelled of.
use Rattle.std.specs.Prelude.{◌≡◌, ℕ, ◌+◌, ◌-◌, ◌*◌, ◌<◌, ◌^◌, nat_le, ◌&&◌, if◌then◌else◌, IsUtf8, List, length, take, drop, slice_index, Option, Some, None, Result, Ok, Err, bytes_eq, codes}
use Rattle.std.specs.Str.{is_utf8}
use Rattle.base64.specs.Engines.{url_safe_no_pad}
use Rattle.base64.specs.GeneralPurpose.{decode_of, IsBytes}
use Rattle.base64.specs.declared.decode.DecodeError.{DecodeError}
use Rattle.journal_model.specs.Notification.{Bytes, Text}
use Rattle.journal_model.specs.Awakeable.{awakeable_id}
use Rattle.delivery_laws.specs.Delivery.{DeliveryRules}
use Rattle.store_deliveries.specs.declared.awakeable.NamedAwakeable.{NamedAwakeable}

abbrev pub awakeable_prefix : Text
awakeable_prefix = codes "sign_1"

-- four bytes as a number, the highest first
abbrev pub signal_in : Bytes → ℕ
signal_in bytes = (slice_index bytes 0 * 256 + slice_index bytes 1) * 65536 + (slice_index bytes 2 * 256 + slice_index bytes 3)

-- where the number begins
abbrev pub signal_at : Bytes → ℕ
signal_at named = length named - 4

-- the id of an invocation, and the number of a signal behind it
abbrev pub named_in : Bytes → Option (Text × ℕ)
named_in named =
    if nat_le 4 (length named) && is_utf8 (take (signal_at named) named)
    then Some (take (signal_at named) named, signal_in (drop (signal_at named) named))
    else None

abbrev pub if_decoded : Result (List ℕ) DecodeError → Option (Text × ℕ)
if_decoded (Ok named) = named_in named
if_decoded (Err error) = None

abbrev pub awakeable_read : Text → Option (Text × ℕ)
awakeable_read text = if bytes_eq (take 6 text) awakeable_prefix then if_decoded (decode_of url_safe_no_pad (drop 6 text)) else None

abbrev pub named_told : NamedAwakeable → Text × ℕ
named_told named = (named.invocation, named.signal)

-- rules by which the texts of awakeables are read so
abbrev pub ReadsAwakeables : DeliveryRules → Type 0
ReadsAwakeables rules = (text : Text) → rules.awakeable text ≡ awakeable_read text

-- the text that names an awakeable is read as what it is spelled of
abbrev pub AwakeablesAreRead : Type 0
AwakeablesAreRead = (invocation : Text) (signal : ℕ) → IsUtf8 invocation → IsBytes invocation → signal < 2 ^ 32
    → awakeable_read (awakeable_id invocation signal) ≡ Some (invocation, signal)
