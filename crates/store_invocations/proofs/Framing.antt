-- A payload whose length fits thirty-two bits, or does not.
use Rattle.std.proofs.Common.{◌^◌, ◌≤◌, ◌≡◌, refl, sym, ap, ◌∙◌, inl, inr, true, false, [], length, Result, Ok, Err, ◌↔◌}
use Rattle.std.proofs.lemmas.Bool.{cases_Bool, le-leb, leb-true}
use Rattle.journal_model.specs.Notification.{Bytes}
use Rattle.journal_model.specs.Cause.{those_that_hold, is_too_long}
use Rattle.journal_model.specs.declared.cause.Cause.{Cause}
use Rattle.protocol_stream.specs.declared.encoder.EncodingError.{EncodingError}
use Rattle.protocol_stream.specs.declared.encoder.EncodingError.TheVariants as encoding
use Rattle.store_refusals.specs.RefusalConditions.{encoding_refusal, IsRefused}
use Rattle.store_invocations.specs.Rows.{payload_tests}
use Rattle.store_invocations.proofs.Refusing.{first_of_one, none_of_one}

too_long : (payload : Bytes) → 2 ^ 32 ≤ length payload → is_too_long payload ≡ true
too_long payload h = le-leb (2 ^ 32) (length payload) h

pub fits : (payload : Bytes) → (2 ^ 32 ≤ length payload → ⊥) → those_that_hold (payload_tests payload) ≡ []
fits payload short = none_of_one (is_too_long payload) Cause.PayloadTooLong not_long
  where
    not_long : is_too_long payload ≡ false
    not_long = elim (cases_Bool (is_too_long payload)) [ inl e ↦ absurd (short (leb-true (2 ^ 32) (length payload) e)) | inr e ↦ e ]

pub not_framed : (payload : Bytes) (e : EncodingError) → (e ≡ encoding.PayloadTooLong → 2 ^ 32 ≤ length payload)
    → IsRefused (those_that_hold (payload_tests payload)) (encoding_refusal e)
not_framed payload encoding.PayloadTooLong long = first_of_one (is_too_long payload) Cause.PayloadTooLong (too_long payload (long refl))
not_framed payload encoding.OutOfMemory long = inr refl

-- ---- what the writer of a frame tells

pub short_of : {A : Type 0} (payload : Bytes) (r : Result A EncodingError) (x : A) → r ≡ Ok x
    → (r ≡ Err encoding.PayloadTooLong) ↔ (2 ^ 32 ≤ length payload) → 2 ^ 32 ≤ length payload → ⊥
short_of {A} payload r x was both long =
    let no : ◌≡◌ {A = Result A EncodingError} (Ok x) (Err encoding.PayloadTooLong) = sym was ∙ both.1 long in absurd cc

pub long_of : {A : Type 0} (payload : Bytes) (r : Result A EncodingError) (e : EncodingError) → r ≡ Err e
    → (r ≡ Err encoding.PayloadTooLong) ↔ (2 ^ 32 ≤ length payload) → e ≡ encoding.PayloadTooLong → 2 ^ 32 ≤ length payload
long_of payload r e was both is = both.0 (was ∙ ap Err is)
