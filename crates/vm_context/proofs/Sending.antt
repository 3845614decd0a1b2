-- What waits to be taken, and why a message was not written.
use Rattle.std.proofs.Common.{◌≡◌, refl, ap, ℕ, ◌^◌, ◌≤◌, ◌↔◌, Bool, true, false, ◌||◌, List, [], ◌++◌, Result, Ok, Err, OnOk, OnErr}
use Rattle.std.proofs.lemmas.Result.{on_ok_weaker, on_err_weaker}
use Rattle.protocol_types.specs.declared.version.Version.{Version}
use Rattle.protocol_stream.specs.declared.encoder.EncodingError.{EncodingError}
use Rattle.vm_context.specs.Output.{Written, with_frame_of, all_taken}

abbrev pub written_of : Version → List ℕ → Bool → Bool → Written
written_of version bytes is_closed has_commands = record { version = version; bytes = bytes; is_closed = is_closed; has_commands = has_commands }

pub closed_stays : (is_command : Bool) (version : Version) (bytes frame : List ℕ) (is_closed has_commands : Bool) → is_closed ≡ true
    → written_of version bytes is_closed has_commands ≡ with_frame_of is_command frame (written_of version bytes is_closed has_commands)
closed_stays is_command version bytes frame true has_commands closed = refl
closed_stays is_command version bytes frame false has_commands closed = absurd cc

pub open_grows : (is_command : Bool) (version : Version) (old new frame : List ℕ) (is_closed has_commands has : Bool) → is_closed ≡ false → new ≡ old ++ frame → has ≡ (is_command || has_commands)
    → written_of version new is_closed has ≡ with_frame_of is_command frame (written_of version old is_closed has_commands)
open_grows is_command version old new frame true has_commands has opened more told = absurd cc
open_grows is_command version old new frame false has_commands has opened more told = λ i. written_of version (more i) false (told i)

-- the same of a call whose answer is handed on
pub rest_taken : {T E : Type 0} (r : Result T E) (version : Version) (old new : List ℕ) (is_closed has_commands : Bool) → OnOk r (new ≡ [])
    → OnOk r (written_of version new is_closed has_commands ≡ all_taken (written_of version old is_closed has_commands))
rest_taken r version old new is_closed has_commands = on_ok_weaker r (λ (none : new ≡ []). ap (λ (bytes : List ℕ). written_of version bytes is_closed has_commands) none)

pub bytes_kept : {T E : Type 0} (r : Result T E) (version : Version) (old new : List ℕ) (is_closed has_commands : Bool) → OnErr r (new ≡ old)
    → OnErr r (written_of version new is_closed has_commands ≡ written_of version old is_closed has_commands)
bytes_kept r version old new is_closed has_commands = on_err_weaker r (λ (same : new ≡ old). ap (λ (bytes : List ℕ). written_of version bytes is_closed has_commands) same)

-- ---- why a message was not written

abbrev IsTooLong : Result (Unit {0}) EncodingError → Bool → ℕ → Type 0
IsTooLong r is_closed n = (r ≡ Err EncodingError.PayloadTooLong) ↔ ((is_closed ≡ false) × (2 ^ 32 ≤ n))

abbrev EncodesLong : Result (List ℕ) EncodingError → ℕ → Type 0
EncodesLong answer n = (answer ≡ Err EncodingError.PayloadTooLong) ↔ (2 ^ 32 ≤ n)

pub closed_sends : (r : Result (Unit {0}) EncodingError) (u : Unit {0}) (is_closed : Bool) (n : ℕ) → r ≡ Ok u → is_closed ≡ true → IsTooLong r is_closed n
closed_sends r u is_closed n was closed = ((λ e. absurd cc), (λ p. let opened : is_closed ≡ false = p.0 in absurd cc))

pub refused_sends : (r : Result (Unit {0}) EncodingError) (e : EncodingError) (is_closed : Bool) (n : ℕ) (answer : Result (List ℕ) EncodingError)
    → r ≡ Err e → answer ≡ Err e → is_closed ≡ false → EncodesLong answer n → IsTooLong r is_closed n
refused_sends r e is_closed n answer was told opened long = (
  (λ h. let same : e ≡ EncodingError.PayloadTooLong = cc in let too : answer ≡ Err EncodingError.PayloadTooLong = cc in (opened, long.0 too)),
  (λ p. let too : answer ≡ Err EncodingError.PayloadTooLong = long.1 p.1 in let same : e ≡ EncodingError.PayloadTooLong = cc in cc),
)

pub memory_sends : (r : Result (Unit {0}) EncodingError) (is_closed : Bool) (n : ℕ) (answer : Result (List ℕ) EncodingError) (frame : List ℕ)
    → r ≡ Err EncodingError.OutOfMemory → answer ≡ Ok frame → EncodesLong answer n → IsTooLong r is_closed n
memory_sends r is_closed n answer frame was told long =
    ((λ h. absurd cc), (λ p. let too : answer ≡ Err EncodingError.PayloadTooLong = long.1 p.1 in absurd cc))

pub frame_sends : (r : Result (Unit {0}) EncodingError) (u : Unit {0}) (is_closed : Bool) (n : ℕ) (answer : Result (List ℕ) EncodingError) (frame : List ℕ)
    → r ≡ Ok u → answer ≡ Ok frame → EncodesLong answer n → IsTooLong r is_closed n
frame_sends r u is_closed n answer frame was told long =
    ((λ h. absurd cc), (λ p. let too : answer ≡ Err EncodingError.PayloadTooLong = long.1 p.1 in absurd cc))
