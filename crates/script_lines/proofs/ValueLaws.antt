-- A value's word is read just where it is the spelling of what is read.
use Rattle.std.proofs.Common.{◌≡◌, ℕ, ◌+◌, ◌-◌, Bool, true, false, cond, eqb, ltb, inl, inr, List, [], ◌∷◌, ◌++◌, length, take, drop, get_or, Option, Some, None, refl, sym, ap, subst, ◌∙◌, arith, length-append}
use Rattle.std.specs.Prelude.{codes, decimal, bytes_eq, option_map, All}
use Rattle.std.specs.List.{AllByRecursion, position, position_or_len}
use Rattle.std.specs.Str.Parse.{AllDigits}
use Rattle.std.proofs.Math.Seq.{take-append_seam, take-length, drop-append-add}
use Rattle.std.proofs.lemmas.List.{length-drop}
use Rattle.std.proofs.lemmas.Bool.{ltb-true, lt-ltb, ne_eqb, eqb-true}
use Rattle.std.proofs.lemmas.Option.{none-some, same_Some}
use Rattle.std.proofs.lemmas.Slice.Eq.{bytes_eq-Decides}
use Rattle.std.proofs.lemmas.Fmt.{decimal_is_IsNumeral}
use Rattle.std.proofs.lemmas.Str.Parse.{digit_from_value}
use Rattle.std.proofs.lemmas.List.Elements.{All-from_recursion, recursion_from_All}
use Rattle.std.proofs.lemmas.List.Sums.{split_at_first, passes_at_first}
use Rattle.script_lines.specs.declared.value.LineValue.{LineValue}
use Rattle.script_lines.specs.declared.value.LineValue.TheVariants.{Void, Value, Failure, InvocationId}
use Rattle.script_lines.specs.Word.{IsWordByte, IsCoded, coded_word, value_word, IsValue}
use Rattle.script_lines.specs.LineReader.{then_read, printable_of, at_colon, coded_of, value_in, line_value_of}
use Rattle.script_lines.proofs.WordLaws.{IsReading, number_16, printable_takes, printable_again, read_step, chosen}

-- ---- at the first colon

mapped : {A B : Type 0} (f : A → B) (b : Bool) (x : A) (y : B) → option_map f (cond b (Some x) None) ≡ Some y → (b ≡ true) × (f x ≡ y)
mapped f true x y e = (refl, same_Some (f x) y e)
mapped f false x y e = absurd (none-some y e)

pub colon_takes : (bytes : List ℕ) (parts : List ℕ × List ℕ) → at_colon bytes ≡ Some parts → bytes ≡ parts.0 ++ 58 ∷ parts.1
unfolding at_colon
colon_takes bytes parts e =
    let place = position_or_len (λ byte. eqb byte 58) bytes in
    let found = mapped (λ (n : ℕ). (take n bytes, drop (n + 1) bytes)) (ltb place (length bytes)) place parts e in
    let inside = ltb-true place (length bytes) found.0 in
    let colon : get_or bytes place 0 ≡ 58 = eqb-true (get_or bytes place 0) 58 (passes_at_first (λ byte. eqb byte 58) bytes 0 inside) in
    let P : List ℕ × List ℕ → Type 0 = λ p. bytes ≡ p.0 ++ 58 ∷ p.1 in
    subst P found.1 (split_at_first (λ byte. eqb byte 58) bytes 0 inside ∙ ap (λ (c : ℕ). take place bytes ++ c ∷ drop (place + 1) bytes) colon)

-- what `position` gives
pub at_none : (bytes : List ℕ) → None ≡ position (λ byte. eqb byte 58) bytes → at_colon bytes ≡ None
unfolding at_colon
at_none bytes e = ap (λ (o : Option ℕ). option_map (λ place. (take place bytes, drop (place + 1) bytes)) o) (sym e)

rest_is : (n : ℕ) (bytes : List ℕ) → take (length bytes - n) (drop n bytes) ≡ drop n bytes
rest_is n bytes = rw (← length-drop n bytes) (take-length (drop n bytes))

pub at_some : (bytes : List ℕ) (place : ℕ) → Some place ≡ position (λ byte. eqb byte 58) bytes
    → at_colon bytes ≡ Some (take place bytes, take (length bytes - (place + 1)) (drop (place + 1) bytes))
unfolding at_colon
at_some bytes place e =
    ap (λ (o : Option ℕ). option_map (λ n. (take n bytes, drop (n + 1) bytes)) o) (sym e) ∙ ap (λ (rest : List ℕ). Some (take place bytes, rest)) (sym (rest_is (place + 1) bytes))

-- no byte is a colon
abbrev NoColon : List ℕ → Type 0
NoColon bytes = AllByRecursion (λ byte. eqb byte 58 ≡ false) bytes

place_behind : (front back : List ℕ) → NoColon front → position_or_len (λ byte. eqb byte 58) (front ++ 58 ∷ back) ≡ length front
place_behind [] back h = refl
place_behind (byte ∷ front) back h = let later = place_behind front back h.1 in rw h.0 (omega arith)

pub colon_again : (front back : List ℕ) → NoColon front → at_colon (front ++ 58 ∷ back) ≡ Some (front, back)
unfolding at_colon
colon_again front back h =
    let long = length-append front (58 ∷ back) in
    let inside : ltb (length front) (length (front ++ 58 ∷ back)) ≡ true = lt-ltb _ _ (omega arith) in
    rw (place_behind front back h, inside, take-append_seam front (58 ∷ back), drop-append-add front (58 ∷ back) 1) refl

digits-no_colon : (digits : List ℕ) → AllDigits 10 digits → NoColon digits
digits-no_colon [] h = tt
digits-no_colon (digit ∷ digits) h =
    let range = digit_from_value digit h.0 in
    (ne_eqb digit 58 (λ e. let high = range.1 in omega arith), digits-no_colon digits h.1)

-- a code and a text are read so
pub coded_takes : (text : List ℕ) (coded : ℕ × List ℕ) → coded_of text ≡ Some coded → IsCoded coded.0 coded.1 × (text ≡ coded_word coded.0 coded.1)
unfolding coded_of
coded_takes text coded e =
    let p = read_step e in let c = read_step p.2 in let m = read_step c.2 in
    let split = colon_takes text p.0 p.1 in
    let code = number_16.takes p.0.0 c.0 c.1 in
    let message = printable_takes p.0.1 m.0 m.1 in
    let same : text ≡ coded_word c.0 m.0 = split ∙ ap (λ (digits : List ℕ). digits ++ 58 ∷ p.0.1) code.1 ∙ ap (λ (bytes : List ℕ). coded_word c.0 bytes) message.1 in
    subst (λ (both : ℕ × List ℕ). IsCoded both.0 both.1 × (text ≡ coded_word both.0 both.1)) (same_Some (c.0, m.0) coded m.2) ((code.0, All-from_recursion IsWordByte m.0 message.0), same)

pub coded_again : (code : ℕ) (message : List ℕ) → IsCoded code message → coded_of (coded_word code message) ≡ Some (code, message)
unfolding coded_of then_read
coded_again code message h =
    let parts : at_colon (coded_word code message) ≡ Some (decimal code, message) = let below = h.0 in colon_again (decimal code) message (digits-no_colon (decimal code) (decimal_is_IsNumeral code (omega arith)).0.1) in
    rw (parts, number_16.again code h.0, printable_again message (recursion_from_All IsWordByte message h.1)) refl

-- ---- values

-- a value is read so, and the word was its own
abbrev Takes : List ℕ → LineValue → Type 0
Takes word value = IsValue value × (word ≡ value_word value)

-- the kind that was tested for
pub kind_is : (word kind text name : List ℕ) → word ≡ kind ++ 58 ∷ text → bytes_eq kind name ≡ true → word ≡ name ++ 58 ∷ text
kind_is word kind text name split e = split ∙ ap (λ (k : List ℕ). k ++ 58 ∷ text) ((bytes_eq-Decides kind name).0 e)

-- a kind whose text is any printable bytes
bytes_take : (make : List ℕ → LineValue) (word kind text name : List ℕ) (value : LineValue) → ((bytes : List ℕ) → All IsWordByte bytes → word ≡ name ++ 58 ∷ bytes → Takes word (make bytes))
    → word ≡ kind ++ 58 ∷ text → bytes_eq kind name ≡ true → then_read (printable_of text) (λ (bytes : List ℕ). Some (make bytes)) ≡ Some value → Takes word value
bytes_take make word kind text name value so split named e =
    let t = read_step e in
    let bytes = printable_takes text t.0 t.1 in
    subst (λ (w : LineValue). Takes word w) (same_Some (make t.0) value t.2)
    (so t.0 (All-from_recursion IsWordByte t.0 bytes.0) (kind_is word kind text name split named ∙ ap (λ (b : List ℕ). name ++ 58 ∷ b) bytes.1))

-- a kind whose text is a code and any printable bytes
coded_take : (make : ℕ → List ℕ → LineValue) (word kind text name : List ℕ) (value : LineValue) → ((code : ℕ) (message : List ℕ) → IsCoded code message → word ≡ name ++ 58 ∷ coded_word code message → Takes word (make code message))
    → word ≡ kind ++ 58 ∷ text → bytes_eq kind name ≡ true → then_read (coded_of text) (λ (coded : ℕ × List ℕ). Some (make coded.0 coded.1)) ≡ Some value → Takes word value
coded_take make word kind text name value so split named e =
    let t = read_step e in
    let coded = coded_takes text t.0 t.1 in
    subst (λ (w : LineValue). Takes word w) (same_Some (make t.0.0 t.0.1) value t.2)
    (so t.0.0 t.0.1 coded.0 (kind_is word kind text name split named ∙ ap (λ (b : List ℕ). name ++ 58 ∷ b) coded.1))

kind_takes : (word kind text : List ℕ) (value : LineValue) → word ≡ kind ++ 58 ∷ text → value_in kind text ≡ Some value → Takes word value
unfolding value_in
kind_takes word kind text value split e =
    elim (chosen (bytes_eq kind (codes "v")) (then_read (printable_of text) (λ (bytes : List ℕ). Some (Value bytes))) _ (Some value) e) [
      | inl v ↦ bytes_take Value word kind text (codes "v") value (λ bytes all is. (all, is)) split v.0 v.1
      | inr other ↦
          elim (chosen (bytes_eq kind (codes "f")) (then_read (coded_of text) (λ (coded : ℕ × List ℕ). Some (Failure coded.0 coded.1))) _ (Some value) other.1) [
            | inl f ↦ coded_take Failure word kind text (codes "f") value (λ code message fits is. (fits, is)) split f.0 f.1
            | inr more ↦
                elim (chosen (bytes_eq kind (codes "id")) (then_read (printable_of text) (λ (id : List ℕ). Some (InvocationId id))) None (Some value) more.1) [
                  | inl i ↦ bytes_take InvocationId word kind text (codes "id") value (λ bytes all is. (all, is)) split i.0 i.1
                  | inr none ↦ absurd (none-some value none.1)
                ]
          ]
    ]

value_takes : (word : List ℕ) (value : LineValue) → line_value_of word ≡ Some value → Takes word value
unfolding line_value_of
value_takes word value e =
    elim (chosen (bytes_eq word (codes "void")) (Some Void) _ (Some value) e) [
      | inl void ↦ subst (λ (v : LineValue). Takes word v) (same_Some Void value void.1) (tt, (bytes_eq-Decides word (codes "void")).0 void.0)
      | inr other ↦ let p = read_step other.1 in kind_takes word p.0.0 p.0.1 value (colon_takes word p.0 p.1) p.2
    ]

value_again : (value : LineValue) → IsValue value → line_value_of (value_word value) ≡ Some value
unfolding line_value_of value_in then_read
value_again Void h = refl
value_again (Value bytes) h =
    let parts : at_colon (codes "v:" ++ bytes) ≡ Some (codes "v", bytes) = colon_again (codes "v") bytes (refl, tt) in
    rw (parts, printable_again bytes (recursion_from_All IsWordByte bytes h)) refl
value_again (Failure code message) h =
    let text = coded_word code message in
    let parts : at_colon (codes "f:" ++ text) ≡ Some (codes "f", text) = colon_again (codes "f") text (refl, tt) in
    rw (parts, coded_again code message h) refl
value_again (InvocationId id) h =
    let parts : at_colon (codes "id:" ++ id) ≡ Some (codes "id", id) = colon_again (codes "id") id (refl, (refl, tt)) in
    rw (parts, printable_again id (recursion_from_All IsWordByte id h)) refl

pub value_reading : IsReading line_value_of value_word IsValue
value_reading = record { takes = value_takes; again = value_again }
