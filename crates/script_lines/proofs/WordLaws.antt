-- A word is read just where it is the spelling of what is read.
use Rattle.std.proofs.Common.{◌≡◌, ℕ, zero, suc, ◌^◌, ◌<◌, ◌≤◌, Bool, true, false, cond, ltb, leb, inl, inr, ◌⊎◌, List, [], ◌∷◌, length, get_or, Option, Some, None, Result, Ok, Err, refl, sym, ap, subst, ◌∙◌, arith, ◌≢◌, Bor}
use Rattle.std.specs.Prelude.{◌&&◌, codes, decimal, bytes_eq, MatchResult, IsUtf8, IsAscii}
use Rattle.std.specs.List.{AllByRecursion, list_all}
use Rattle.std.specs.Str.Parse.{digits_value, ParsesUnsigned}
use Rattle.std.proofs.lemmas.Bool.{ltb-true, lt-ltb, and_parts, and_from, false≢true, leb-true, le-leb}
use Rattle.std.proofs.lemmas.Option.{cond_some, none-some, same_Some}
use Rattle.std.proofs.lemmas.Slice.Eq.{bytes_eq-Decides}
use Rattle.std.proofs.lemmas.Fmt.{decimal_is_IsNumeral, parse-decimal, IsAscii-decimal}
use Rattle.std.proofs.lemmas.Str.{IsUtf8-from_ascii}
use Rattle.std.specs.Result.{OkIff, result_ok}
use Rattle.std.specs.Bool.{then_some}
use Rattle.std.proofs.lemmas.List.Elements.{All-from_recursion, recursion_from_All}
use Rattle.journal_model.specs.declared.invocation.StateMode.{StateMode}
use Rattle.script_lines.specs.declared.word.HandlerName.{HandlerName}
use Rattle.script_lines.specs.declared.word.HandlerName.TheVariants.{Nap, Nap99, Race, Both, Ask, Pair, Twice, Keys, Read, Effect, Go, Hook, Quorum}
use Rattle.script_lines.specs.Word.{text_word, IsWordByte, IsText, mode_word, handler_word}
use Rattle.script_lines.specs.LineReader.{then_read, is_word_byte, number_below, printable_of, text_read, mode_of, handler_of}

-- reading is the other way round from spelling
pub record IsReading {A : Type 0} (read : List ℕ → Option A) (spelled : A → List ℕ) (IsValue : A → Type 0) : Type 0 where
  pub takes : (word : List ℕ) (value : A) → read word ≡ Some value → IsValue value × (word ≡ spelled value)
  pub again : (value : A) → IsValue value → read (spelled value) ≡ Some value

-- an option that has no value
none_from : {A : Type 0} (o : Option A) → ((value : A) → o ≡ Some value → ⊥) → o ≡ None
none_from None never = refl
none_from (Some value) never = absurd (never value refl)

-- nothing is read where the word is no spelling
pub not_read : {A : Type 0} {read : List ℕ → Option A} {spelled : A → List ℕ} {IsValue : A → Type 0} → IsReading read spelled IsValue → (word : List ℕ) → ((value : A) → IsValue value → word ≢ spelled value) → read word ≡ None
not_read {read = read} law word never = none_from (read word) (λ value e. let t = law.takes word value e in never value t.0 t.1)

-- the value of a step that did not fail
step : {A B : Type 0} (o : Option A) (f : A → Option B) (y : B) → then_read o f ≡ Some y → (x : A) × (o ≡ Some x) × (f x ≡ Some y)
unfolding then_read
step None f y e = absurd cc
step (Some x) f y e = (x, refl, e)

pub read_step : {A B : Type 0} {o : Option A} {f : A → Option B} {y : B} → then_read o f ≡ Some y → (x : A) × (o ≡ Some x) × (f x ≡ Some y)
read_step {o = o} {f = f} {y = y} e = step o f y e

-- ---- numbers

number_takes : (limit : ℕ) (word : List ℕ) (number : ℕ) → number_below limit word ≡ Some number → (number < limit) × (word ≡ decimal number)
unfolding number_below
number_takes limit word number e =
    let found = cond_some (bytes_eq word (decimal (digits_value 10 word)) && ltb (digits_value 10 word) limit) (digits_value 10 word) number e in
    let tests = and_parts (bytes_eq word (decimal (digits_value 10 word))) (ltb (digits_value 10 word) limit) found.0 in
    let is_spelling = (bytes_eq-Decides word (decimal (digits_value 10 word))).0 tests.0 in
    (rw (← found.1) (ltb-true _ _ tests.1), is_spelling ∙ ap (λ (n : ℕ). decimal n) found.1)

number_again : (limit number : ℕ) → limit ≤ 2 ^ 64 → number < limit → number_below limit (decimal number) ≡ Some number
unfolding number_below
number_again limit number wide below =
    let value : digits_value 10 (decimal number) ≡ number = (decimal_is_IsNumeral number (omega arith)).1 in
    let same : bytes_eq (decimal number) (decimal number) ≡ true = (bytes_eq-Decides (decimal number) (decimal number)).1 refl in
    rw (value, same, lt-ltb number limit below) refl

pub number_reading : (limit : ℕ) → limit ≤ 2 ^ 64 → IsReading (number_below limit) (λ number. decimal number) (λ number. number < limit)
number_reading limit wide = record { takes = number_takes limit; again = λ number below. number_again limit number wide below }

pub number_16 : IsReading (number_below (2 ^ 16)) (λ number. decimal number) (λ number. number < 2 ^ 16)
number_16 = number_reading (2 ^ 16) (omega arith)

pub number_32 : IsReading (number_below (2 ^ 32)) (λ number. decimal number) (λ number. number < 2 ^ 32)
number_32 = number_reading (2 ^ 32) (omega arith)

pub number_64 : IsReading (number_below (2 ^ 64)) (λ number. decimal number) (λ number. number < 2 ^ 64)
number_64 = number_reading (2 ^ 64) (omega arith)

-- a `Result` whose value is, or isn't, taken by `ok`
ok_of : {A E : Type 0} (r : Result A E) (x : A) → result_ok r ≡ Some x → r ≡ Ok x
ok_of (Ok y) x e = cc
ok_of (Err d) x e = absurd cc

err_of : {A E : Type 0} (r : Result A E) → result_ok r ≡ None → (e : E) × (r ≡ Err e)
err_of (Ok y) e = absurd cc
err_of (Err d) e = (d, refl)

-- the text of a word is the word
pub text_is : {E : Type 0} (P : Type 0) (Q : E → Type 0) (word : List ℕ) (r : Result (Bor (List ℕ)) E) (text : Bor (List ℕ)) → MatchResult r (λ s. (s.now ≡ word) × P) Q → result_ok r ≡ Some text → text.now ≡ word
text_is P Q word (Ok s) text cases e = ap (λ (t : Bor (List ℕ)). t.now) (sym (same_Some s text e)) ∙ cases.0
text_is P Q word (Err d) text cases e = absurd cc

-- no number is kept where the word is no text
pub no_text : {A E : Type 0} (P : A → Type 0) (Q : E → Type 0) (limit : ℕ) (word : List ℕ) (r : Result A E) → limit ≤ 2 ^ 64 → MatchResult r P (λ e. ¬ (IsUtf8 word) × Q e) → result_ok r ≡ None → None ≡ number_below limit word
no_text P Q limit word (Ok s) wide cases e = absurd cc
no_text P Q limit word (Err d) wide cases e =
    sym (not_read (number_reading limit wide) word (λ number below spells. cases.0 (subst (λ (t : List ℕ). IsUtf8 t) (sym spells) (IsUtf8-from_ascii (decimal number) (IsAscii-decimal number (omega arith))))))

-- nor where `parse` gives none
pub not_parsed : {E : Type 0} (bits : ℕ) (word text : List ℕ) (answer : Result ℕ E) → 2 ^ bits ≤ 2 ^ 64 → text ≡ word → ParsesUnsigned bits 10 text answer → result_ok answer ≡ None → None ≡ number_below (2 ^ bits) word
not_parsed bits word text answer wide same reads e =
    let error = err_of answer e in
    sym (not_read (number_reading (2 ^ bits) wide) word (λ number below spells. let given = parse-decimal bits number text answer below (omega arith) (same ∙ spells) reads in absurd cc))

number_fits : {E : Type 0} (bits : ℕ) (text : List ℕ) (answer : Result ℕ E) (number : ℕ) → ParsesUnsigned bits 10 text answer → answer ≡ Ok number → number < 2 ^ bits
number_fits bits text (Ok n) number reads e = let same : n ≡ number = cc in rw (← same, reads.1) reads.0.1
number_fits bits text (Err d) number reads e = absurd cc

-- what `parse` gives is kept where the word is what the number prints
pub parsed : {E : Type 0} (bits : ℕ) (word text printed : List ℕ) (answer : Result ℕ E) (number : ℕ) (is_spelling : Bool) → 2 ^ bits ≤ 2 ^ 64 → text ≡ word → ParsesUnsigned bits 10 text answer → result_ok answer ≡ Some number → printed ≡ decimal number → is_spelling ≡ bytes_eq printed word → then_some is_spelling number ≡ number_below (2 ^ bits) word
parsed bits word text printed answer number true wide same reads found prints tests =
    let below = number_fits bits text answer number reads (ok_of answer number found) in
    let is_printed : printed ≡ word = (bytes_eq-Decides printed word).0 (sym tests) in
    sym (ap (number_below (2 ^ bits)) (sym is_printed ∙ prints) ∙ number_again (2 ^ bits) number wide below)
parsed bits word text printed answer number false wide same reads found prints tests =
    let was = ok_of answer number found in
    sym (not_read (number_reading (2 ^ bits) wide) word (λ other below spells.
    let given = parse-decimal bits other text answer below (omega arith) (same ∙ spells) reads in
    let equal : number ≡ other = cc in
    false≢true (tests ∙ (bytes_eq-Decides printed word).1 (prints ∙ ap (λ (n : ℕ). decimal n) equal ∙ sym spells))))

-- a number below a limit is one below 2^64 that fits
pub unread_below : (limit : ℕ) (word : List ℕ) (read : Option ℕ) → limit ≤ 2 ^ 64 → read ≡ number_below (2 ^ 64) word → read ≡ None → None ≡ number_below limit word
unread_below limit word read wide is none =
    sym (not_read (number_reading limit wide) word (λ number below spells.
    none-some number (sym none ∙ is ∙ ap (number_below (2 ^ 64)) spells ∙ number_again (2 ^ 64) number (omega arith) (omega arith))))

pub narrowed : {E : Type 0} (limit : ℕ) (word : List ℕ) (read : Option ℕ) (number : ℕ) (answer : Result ℕ E) → limit ≤ 2 ^ 64 → read ≡ number_below (2 ^ 64) word → read ≡ Some number
    → OkIff answer (number < limit) number → result_ok answer ≡ number_below limit word
narrowed limit word read number (Ok n) wide is some fits =
    let it = number_64.takes word number (sym is ∙ some) in
    ap Some fits.1 ∙ sym (ap (number_below limit) it.1 ∙ number_again limit number wide fits.0)
narrowed limit word read number (Err d) wide is some fails =
    sym (not_read (number_reading limit wide) word (λ other below spells.
    let again = number_again (2 ^ 64) other (omega arith) (omega arith) in
    let same : number ≡ other = same_Some number other (sym some ∙ is ∙ ap (number_below (2 ^ 64)) spells ∙ again) in
    fails (subst (λ (n : ℕ). n < limit) (sym same) below)))

-- ---- texts

word_byte_from : (byte : ℕ) → is_word_byte byte ≡ true → IsWordByte byte
word_byte_from byte e = let tests = and_parts (leb 33 byte) (leb byte 126) e in (leb-true _ _ tests.0, leb-true _ _ tests.1)

word_byte_to : (byte : ℕ) → IsWordByte byte → is_word_byte byte ≡ true
word_byte_to byte h = and_from (leb 33 byte) (leb byte 126) (le-leb _ _ h.0) (le-leb _ _ h.1)

printable_from : (bytes : List ℕ) → list_all is_word_byte bytes ≡ true → AllByRecursion IsWordByte bytes
printable_from [] e = tt
printable_from (byte ∷ bytes) e =
    let tests = and_parts (is_word_byte byte) (list_all is_word_byte bytes) e in
    (word_byte_from byte tests.0, printable_from bytes tests.1)

printable_to : (bytes : List ℕ) → AllByRecursion IsWordByte bytes → list_all is_word_byte bytes ≡ true
printable_to [] h = refl
printable_to (byte ∷ bytes) h = and_from (is_word_byte byte) (list_all is_word_byte bytes) (word_byte_to byte h.0) (printable_to bytes h.1)

not_true : (b : Bool) → (b ≡ true → ⊥) → b ≡ false
not_true true never = absurd (never refl)
not_true false never = refl

-- the branch that an if took
pub chosen : {A : Type 0} (b : Bool) (x y z : A) → cond b x y ≡ z → ((b ≡ true) × (x ≡ z)) ⊎ ((b ≡ false) × (y ≡ z))
chosen true x y z e = inl (refl, e)
chosen false x y z e = inr (refl, e)

text_word-some : (text : List ℕ) → 0 < length text → text_word text ≡ text
text_word-some [] long = absurd (omega arith)
text_word-some (byte ∷ bytes) long = refl

pub printable_takes : (bytes text : List ℕ) → printable_of bytes ≡ Some text → AllByRecursion IsWordByte text × (bytes ≡ text)
unfolding printable_of
printable_takes bytes text e =
    let found = cond_some (list_all is_word_byte bytes) bytes text e in
    (subst (λ (t : List ℕ). AllByRecursion IsWordByte t) found.1 (printable_from bytes found.0), found.1)

pub printable_again : (text : List ℕ) → AllByRecursion IsWordByte text → printable_of text ≡ Some text
unfolding printable_of
printable_again text h = rw (printable_to text h) refl

text_takes : (word text : List ℕ) → text_read word ≡ Some text → IsText text × (word ≡ text_word text)
unfolding text_read
text_takes word text e =
    elim (chosen (bytes_eq word (codes "-")) (Some []) (cond (ltb 0 (length word)) (printable_of word) None) (Some text) e) [
      | inl dash ↦
          let P : List ℕ → Type 0 = λ t. IsText t × (word ≡ text_word t) in
          subst P (same_Some [] text dash.1) (record { bytes = All-from_recursion IsWordByte [] tt; no_dash = λ h. cc }, (bytes_eq-Decides word (codes "-")).0 dash.0)
      | inr other ↦
          elim (chosen (ltb 0 (length word)) (printable_of word) None (Some text) other.1) [
            | inl some ↦
                let P : List ℕ → Type 0 = λ t. IsText t × (word ≡ text_word t) in
                let found = printable_takes word text some.1 in
                subst P found.1 (
                  record {
                    bytes = All-from_recursion IsWordByte word (subst (λ (t : List ℕ). AllByRecursion IsWordByte t) (sym found.1) found.0);
                    no_dash = λ h. false≢true (sym other.0 ∙ (bytes_eq-Decides word (codes "-")).1 h);
                  },
                  sym (text_word-some word (ltb-true _ _ some.0)),
                )
            | inr none ↦ absurd (none-some text none.1)
          ]
    ]

text_again : (text : List ℕ) → IsText text → text_read (text_word text) ≡ Some text
unfolding text_read
text_again [] h = refl
text_again (byte ∷ bytes) h =
    let other : bytes_eq (byte ∷ bytes) (codes "-") ≡ false = not_true _ (λ e. h.no_dash ((bytes_eq-Decides (byte ∷ bytes) (codes "-")).0 e)) in
    let long : ltb 0 (length (byte ∷ bytes)) ≡ true = lt-ltb _ _ (omega arith) in
    rw (other, long) (printable_again (byte ∷ bytes) (recursion_from_All IsWordByte (byte ∷ bytes) h.bytes))

pub text_reading : IsReading text_read text_word IsText
text_reading = record { takes = text_takes; again = text_again }

ascii : (bytes : List ℕ) → AllByRecursion IsWordByte bytes → (i : ℕ) → get_or bytes i 0 < 128
ascii [] h i = omega arith
ascii (byte ∷ bytes) h zero = let small = h.0.1 in omega arith
ascii (byte ∷ bytes) h (suc i) = ascii bytes h.1 i

-- a text that was read is UTF-8
pub printable-IsAscii : (bytes : List ℕ) → list_all is_word_byte bytes ≡ true → IsAscii bytes
printable-IsAscii bytes e = ascii bytes (printable_from bytes e)

-- ---- names

mode_takes : (word : List ℕ) (state : StateMode) → mode_of word ≡ Some state → Unit {0} × (word ≡ mode_word state)
unfolding mode_of
mode_takes word state e =
    elim (chosen (bytes_eq word (codes "whole")) (Some StateMode.Whole) (cond (bytes_eq word (codes "none")) (Some StateMode.None) None) (Some state) e) [
      | inl whole ↦ (tt, (bytes_eq-Decides word (codes "whole")).0 whole.0 ∙ ap mode_word (same_Some StateMode.Whole state whole.1))
      | inr other ↦
          let found = cond_some (bytes_eq word (codes "none")) StateMode.None state other.1 in
          (tt, (bytes_eq-Decides word (codes "none")).0 found.0 ∙ ap mode_word found.1)
    ]

mode_again : (state : StateMode) → Unit {0} → mode_of (mode_word state) ≡ Some state
unfolding mode_of
mode_again StateMode.Whole h = refl
mode_again StateMode.None h = refl

pub mode_reading : IsReading mode_of mode_word (λ _. Unit {0})
mode_reading = record { takes = mode_takes; again = mode_again }

-- a name that was tested for, and those behind it
pub tested : {A : Type 0} (spelled : A → List ℕ) (word : List ℕ) (name : A) (rest : Option A) (value : A) → (rest ≡ Some value → word ≡ spelled value) → cond (bytes_eq word (spelled name)) (Some name) rest ≡ Some value → word ≡ spelled value
tested spelled word name rest value behind e =
    elim (chosen (bytes_eq word (spelled name)) (Some name) rest (Some value) e) [
      | inl h ↦ (bytes_eq-Decides word (spelled name)).0 h.0 ∙ ap spelled (same_Some name value h.1)
      | inr h ↦ behind h.1
    ]

handler_takes : (word : List ℕ) (handler : HandlerName) → handler_of word ≡ Some handler → Unit {0} × (word ≡ handler_word handler)
unfolding handler_of
handler_takes word handler e =
    let test = tested handler_word word in (
      tt,
      test Nap _ handler (test Nap99 _ handler (test Race _ handler (test Both _ handler (test Ask _ handler (test Pair _ handler
          (test Twice _ handler (test Keys _ handler (test Read _ handler (test Effect _ handler (test Go _ handler (test Hook _ handler (test Quorum _ handler (λ none. absurd (none-some handler none)))))))))))))) e,
    )

handler_again : (handler : HandlerName) → Unit {0} → handler_of (handler_word handler) ≡ Some handler
unfolding handler_of
handler_again Nap h = refl
handler_again Nap99 h = refl
handler_again Race h = refl
handler_again Both h = refl
handler_again Ask h = refl
handler_again Pair h = refl
handler_again Twice h = refl
handler_again Keys h = refl
handler_again Read h = refl
handler_again Effect h = refl
handler_again Go h = refl
handler_again Hook h = refl
handler_again Quorum h = refl

pub handler_reading : IsReading handler_of handler_word (λ _. Unit {0})
handler_reading = record { takes = handler_takes; again = handler_again }
