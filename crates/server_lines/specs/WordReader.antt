-- What the words of a request spell. Bytes may be escaped in more ways than one: all are read.
use Rattle.std.specs.Prelude.{ℕ, ◌^◌, ◌==◌, List, [], ◌∷◌, length, Option, Some, None, codes, if◌then◌else◌, bytes_eq, nat_lt}
use Rattle.std.specs.Result.{result_ok}
use Rattle.std.specs.Str.{is_utf8}
use Rattle.hex.specs.Hex.{decode_of}
use Rattle.percent_encoding.specs.Percent.{percent_decode}
use Rattle.journal_model.specs.declared.notification.NotificationResult.{NotificationResult}
use Rattle.journal_model.specs.declared.notification.NotificationResult.TheVariants.{Void, Value, Failure, InvocationId}
use Rattle.journal_model.specs.declared.notification.SignalKey.{SignalKey}
use Rattle.journal_model.specs.declared.notification.SignalKey.TheVariants.{ByIndex, ByName}
use Rattle.script_lines.specs.LineReader.{◌>>=◌, printable_of, number_below, at_colon}

-- printable bytes, of which `%XX` is the byte XX
unfoldable pub unescaped : List ℕ → Option (List ℕ)
unescaped bytes = do
  printable ← printable_of bytes
  Some (percent_decode printable)

-- bytes; a dash alone is none
unfoldable pub word_bytes_of : List ℕ → Option (List ℕ)
word_bytes_of word = if bytes_eq word (codes "-") then Some [] else
    (if nat_lt 0 (length word) then unescaped word else None)

unfoldable pub text_in : List ℕ → Option (List ℕ)
text_in bytes = if is_utf8 bytes then Some bytes else None

-- a text
unfoldable pub text_of : List ℕ → Option (List ℕ)
text_of word = do
  bytes ← word_bytes_of word
  text_in bytes

-- a text behind a colon, which may be empty
unfoldable pub tail_of : List ℕ → Option (List ℕ)
tail_of tail = do
  bytes ← unescaped tail
  text_in bytes

-- bytes as hexadecimal digits
unfoldable pub digits_of : List ℕ → Option (List ℕ)
digits_of word = if bytes_eq word (codes "-") then Some [] else
    (if nat_lt 0 (length word) then result_ok (decode_of word) else None)

-- a code, and a message behind a colon
unfoldable pub failure_of : List ℕ → Option NotificationResult
failure_of text = do
  parts ← at_colon text
  code ← number_below (2 ^ 32) parts.0
  message ← tail_of parts.1
  Some (Failure (record { code = code; message = message; metadata = [] }))

-- the value of a kind, spelled behind the colon
unfoldable pub value_of_kind : List ℕ → List ℕ → Option NotificationResult
value_of_kind kind text =
    if bytes_eq kind (codes "v") then (do
      bytes ← unescaped text
      Some (Value bytes)) else
    (if bytes_eq kind (codes "f") then failure_of text else
    (if bytes_eq kind (codes "id") then (do
      id ← tail_of text
      Some (InvocationId id)) else None))

unfoldable pub word_value_of : List ℕ → Option NotificationResult
word_value_of word = if bytes_eq word (codes "void") then Some Void else (do
  parts ← at_colon word
  value_of_kind parts.0 parts.1)

unfoldable pub number_key_of : List ℕ → Option SignalKey
number_key_of digits = do
  number ← number_below (2 ^ 32) digits
  Some (ByIndex number)

unfoldable pub name_of : List ℕ → Option SignalKey
name_of word = do
  name ← text_of word
  Some (ByName name)

-- a signal: its number behind a '#' (35), or its name
unfoldable pub key_of : List ℕ → Option SignalKey
key_of [] = name_of []
key_of (byte ∷ bytes) = if byte == 35 then number_key_of bytes else name_of (byte ∷ bytes)
