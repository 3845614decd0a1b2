-- No word of a request has a space.
use Rattle.std.proofs.Common.{◌≡◌, ℕ, ◌^◌, ◌<◌, true, false, eqb, List, [], ◌∷◌, ◌++◌, map, refl, ◌∙◌, arith, inl, inr, All}
use Rattle.std.specs.Prelude.{codes, decimal, bytes_eq, nat_lt}
use Rattle.std.specs.List.{AllByRecursion, join_with_byte, list_all, slice_split}
use Rattle.std.specs.Str.Parse.{AllDigits}
use Rattle.std.proofs.lemmas.Bool.{cases_Bool, ne_eqb, and_parts, ltb-true}
use Rattle.std.proofs.lemmas.Fmt.{decimal_is_IsNumeral}
use Rattle.std.proofs.lemmas.List.Elements.{All-from_recursion, recursion_from_All}
use Rattle.std.proofs.lemmas.List.Splits.{slice_split_at, slice_split_none}
use Rattle.std.proofs.lemmas.Str.Parse.{digit_from_value}
use Rattle.journal_model.specs.declared.call.Header.{Header}
use Rattle.journal_model.specs.declared.invocation.StateMode.{StateMode}
use Rattle.journal_model.specs.declared.invocation.StateMode.TheVariants as mode
use Rattle.journal_model.specs.declared.notification.NotificationResult.{NotificationResult}
use Rattle.journal_model.specs.declared.notification.NotificationResult.TheVariants.{Void, Value, Failure, InvocationId, StateKeys}
use Rattle.journal_model.specs.declared.notification.SignalKey.{SignalKey}
use Rattle.journal_model.specs.declared.notification.SignalKey.TheVariants.{ByIndex, ByName}
use Rattle.script_lines.specs.Text.{hex_text}
use Rattle.script_lines.specs.Word.{IsWordByte, mode_word}
use Rattle.server_lines.specs.Word.{IsByte, IsKey, IsValue, escaped, key_word, text_word, value_word}
use Rattle.server_lines.specs.Request.{IsRequest, header_words, words_of}
use Rattle.server_lines.specs.declared.request.Request.{Request}
use Rattle.server_lines.specs.declared.request.Request.TheVariants.{Invoke, Result, Signal, Cancel, Tick, Begin, Input, Output, Close, Stop, Forget, Due, DueOne, DueAfter, Next, Show, Answer, State, Error, List as ListRequest, Requests}
use Rattle.server_lines.proofs.Escapes.{escaped-AreWordBytes, digits-AreWordBytes}

-- ---- words without a space are those between the spaces

abbrev pub NoSpace : List ℕ → Type 0
NoSpace word = AllByRecursion (λ byte. eqb byte 32 ≡ false) word

next : {A : Type 0} {x y : A} {xs ys : List A} → x ≡ y → xs ≡ ys → x ∷ xs ≡ y ∷ ys
next e f = cc

pub split_again : (word : List ℕ) (words : List (List ℕ)) → AllByRecursion NoSpace (word ∷ words) → slice_split (λ byte. eqb byte 32) (join_with_byte 32 (word ∷ words)) ≡ word ∷ words
split_again word [] h = slice_split_none (λ byte. eqb byte 32) word (All-from_recursion (λ byte. eqb byte 32 ≡ false) word h.0)
split_again word (other ∷ words) h =
    slice_split_at (λ byte. eqb byte 32) word 32 (join_with_byte 32 (other ∷ words)) (All-from_recursion (λ byte. eqb byte 32 ≡ false) word h.0) refl ∙ next refl (split_again other words h.1)

-- ---- words of each kind

digits-no_space : (digits : List ℕ) → AllDigits 10 digits → NoSpace digits
digits-no_space [] h = tt
digits-no_space (digit ∷ digits) h =
    let range = digit_from_value digit h.0 in
    (ne_eqb digit 32 (λ e. let low = range.0 in omega arith), digits-no_space digits h.1)

pub decimal-no_space : (number : ℕ) → number < 2 ^ 64 → NoSpace (decimal number)
decimal-no_space number below = digits-no_space (decimal number) (decimal_is_IsNumeral number below).0.1

printable-no_space : (bytes : List ℕ) → AllByRecursion IsWordByte bytes → NoSpace bytes
printable-no_space [] h = tt
printable-no_space (byte ∷ bytes) h = (ne_eqb byte 32 (λ e. let low = h.0.0 in omega arith), printable-no_space bytes h.1)

pub letters : (word : List ℕ) → list_all (λ byte. nat_lt 32 byte) word ≡ true → NoSpace word
letters [] e = tt
letters (byte ∷ word) e =
    let tests = and_parts (nat_lt 32 byte) (list_all (λ b. nat_lt 32 b) word) e in
    let above : 32 < byte = ltb-true 32 byte tests.0 in
    (ne_eqb byte 32 (λ same. omega arith), letters word tests.1)

pub joined-no_space : (front back : List ℕ) → NoSpace front → NoSpace back → NoSpace (front ++ back)
joined-no_space [] back f b = b
joined-no_space (byte ∷ front) back f b = (f.0, joined-no_space front back f.1 b)

pub escaped-no_space : (bytes : List ℕ) → NoSpace (escaped bytes)
escaped-no_space bytes = printable-no_space (escaped bytes) (recursion_from_All IsWordByte (escaped bytes) (escaped-AreWordBytes bytes))

pub text-no_space : (text : List ℕ) → NoSpace (text_word text)
text-no_space [] = letters (codes "-") refl
text-no_space (byte ∷ bytes) =
    elim (cases_Bool (bytes_eq (byte ∷ bytes) (codes "-"))) [
      | inl dash ↦ rw dash (letters (codes "%2D") refl)
      | inr other ↦ rw other (escaped-no_space (byte ∷ bytes))
    ]

hex-no_space : (bytes : List ℕ) → All IsByte bytes → NoSpace (hex_text bytes)
hex-no_space [] small = letters (codes "-") refl
hex-no_space (byte ∷ bytes) small = printable-no_space (hex_text (byte ∷ bytes)) (digits-AreWordBytes (byte ∷ bytes) (recursion_from_All IsByte (byte ∷ bytes) small))

mode-no_space : (state : StateMode) → NoSpace (mode_word state)
mode-no_space mode.Whole = letters (codes "whole") refl
mode-no_space mode.None = letters (codes "none") refl

pub number-no_space : (number : ℕ) → number < 2 ^ 32 → NoSpace (decimal number)
number-no_space number small = decimal-no_space number (omega arith)

value-no_space : (value : NotificationResult) → IsValue value → NoSpace (value_word value)
value-no_space Void h = letters (codes "void") refl
value-no_space (Value bytes) h = joined-no_space (codes "v:") (escaped bytes) (letters (codes "v:") refl) (escaped-no_space bytes)
value-no_space (Failure failure) h =
    joined-no_space (codes "f:") (decimal failure.code ++ 58 ∷ escaped failure.message) (letters (codes "f:") refl)
    (joined-no_space (decimal failure.code) (58 ∷ escaped failure.message) (number-no_space failure.code h.0) (refl, escaped-no_space failure.message))
value-no_space (InvocationId id) h = joined-no_space (codes "id:") (escaped id) (letters (codes "id:") refl) (escaped-no_space id)
value-no_space (StateKeys keys) h = absurd h

key-no_space : (key : SignalKey) → IsKey key → NoSpace (key_word key)
key-no_space (ByIndex number) h = (refl, number-no_space number h)
key-no_space (ByName name) h = text-no_space name

pub headers-no_space : (headers : List Header) → AllByRecursion NoSpace (header_words headers)
headers-no_space [] = tt
headers-no_space (header ∷ headers) = (text-no_space header.key, (text-no_space header.value, headers-no_space headers))

ids-no_space : (ids : List (List ℕ)) → AllByRecursion NoSpace (map text_word ids)
ids-no_space [] = tt
ids-no_space (id ∷ ids) = (text-no_space id, ids-no_space ids)

counted-no_space : (command id : List ℕ) (attempt count : ℕ) → NoSpace command → attempt < 2 ^ 32 → count < 2 ^ 32 → AllByRecursion NoSpace (command ∷ text_word id ∷ decimal attempt ∷ decimal count ∷ [])
counted-no_space command id attempt count h a c = (h, (text-no_space id, (number-no_space attempt a, (number-no_space count c, tt))))

named-no_space : (command id : List ℕ) → NoSpace command → AllByRecursion NoSpace (command ∷ text_word id ∷ [])
named-no_space command id h = (h, (text-no_space id, tt))

pub words-no_space : (request : Request) → IsRequest request → AllByRecursion NoSpace (words_of request)
words-no_space (Invoke new) h =
    (letters (codes "invoke") refl, (text-no_space new.id, (text-no_space new.object, (number-no_space new.version h.version, (mode-no_space new.state, (decimal-no_space new.seed h.seed, (text-no_space new.input, headers-no_space new.headers)))))))
words-no_space (Result id completion value) h = (letters (codes "result") refl, (text-no_space id, (number-no_space completion h.1, (value-no_space value h.2, tt))))
words-no_space (Signal id key value) h = (letters (codes "signal") refl, (text-no_space id, (key-no_space key h.1, (value-no_space value h.2, tt))))
words-no_space (Cancel id) h = named-no_space (codes "cancel") id (letters (codes "cancel") refl)
words-no_space (Tick now) h = (letters (codes "tick") refl, (decimal-no_space now h, tt))
words-no_space (Begin id now) h = (letters (codes "begin") refl, (text-no_space id, (decimal-no_space now h.1, tt)))
words-no_space (Input id attempt most) h = counted-no_space (codes "input") id attempt most (letters (codes "input") refl) h.1 h.2
words-no_space (Output id attempt bytes) h = (letters (codes "output") refl, (text-no_space id, (number-no_space attempt h.1, (hex-no_space bytes h.2, tt))))
words-no_space (Close id attempt) h = (letters (codes "close") refl, (text-no_space id, (number-no_space attempt h.1, tt)))
words-no_space (Stop id attempt) h = (letters (codes "stop") refl, (text-no_space id, (number-no_space attempt h.1, tt)))
words-no_space (Forget ids) h = (letters (codes "forget") refl, ids-no_space ids)
words-no_space Due h = (letters (codes "due") refl, tt)
words-no_space (DueOne id) h = named-no_space (codes "due") id (letters (codes "due") refl)
words-no_space (DueAfter after most) h = (letters (codes "due") refl, (text-no_space after, (number-no_space most h.1, tt)))
words-no_space Next h = (letters (codes "next") refl, tt)
words-no_space (Show id) h = named-no_space (codes "show") id (letters (codes "show") refl)
words-no_space (Answer id) h = named-no_space (codes "answer") id (letters (codes "answer") refl)
words-no_space (State object) h = named-no_space (codes "state") object (letters (codes "state") refl)
words-no_space (Error id) h = named-no_space (codes "error") id (letters (codes "error") refl)
words-no_space (ListRequest after most) h = (letters (codes "list") refl, (text-no_space after, (number-no_space most h.1, tt)))
words-no_space (Requests id) h = named-no_space (codes "requests") id (letters (codes "requests") refl)
