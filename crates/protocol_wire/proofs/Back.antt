-- What was spelled of each kind is read back.
use Rattle.std.proofs.Common.{◌≡◌, ℕ, ◌+◌, ◌^◌, ◌<◌, Bool, true, false, cond, eqb, ltb, List, [], ◌∷◌, ◌++◌, map, Option, Some, None, refl, sym, ap, ◌∙◌, arith}
use Rattle.std.specs.Prelude.{option_map, unwrap_or, IfSome}
use Rattle.std.specs.List.{flat_map, AllByRecursion}
use Rattle.std.proofs.lemmas.List.{append-nil}
use Rattle.std.proofs.lemmas.List.Concat.{flat_map-cons}
use Rattle.std.proofs.lemmas.Bool.{eqb-true}
use Rattle.protocol_wire.specs.Wire.{Wire, varint, bytes, Field, varint_at}
use Rattle.protocol_wire.specs.Items.{is_end}
use Rattle.protocol_wire.specs.Fields.{fields, varints, are_varints}
use Rattle.protocol_wire.specs.Spelling.{varint_spelling}
use Rattle.protocol_wire.specs.Selection.{last_number_or, last_number, last_bytes_or, last_bytes, u64, u32, bool, text, low, optional_u64, optional_u32, optional_text, each_bytes, texts, each_number, numbers, joined_bytes, optional_record, records, is_among, among, last_run, run}
use Rattle.protocol_wire.specs.Parts.{Part, plain_number, bool_number, enum_number, number_if, optional_number, nonempty, plain_bytes, bytes_if, optional_bytes, repeated_bytes, packed, parts_numbered, fields_of}
use Rattle.protocol_wire.proofs.Steps.{varint_at_shrinks, items_read, items_ended, left_read, left_ended, nil_ended}
use Rattle.protocol_wire.proofs.Spelled.{varint-spelled}
use Rattle.protocol_wire.proofs.Laws.{held, values-fields_of, flag, flag_again, bytes_if_view}

-- ---- what was written is read back

pub u64_back : (number n : ℕ) (ps : List Part) → held number ps ≡ (plain_number number n).1 ++ [] → u64 number (fields_of ps) ≡ n
unfolding last_number
u64_back number n ps h =
    ap (λ (ws : List Wire). unwrap_or (last_number_or None ws) 0) (values-fields_of number ps ∙ h ∙ append-nil (plain_number number n).1) ∙ go (eqb n 0) refl
  where
    go : (b : Bool) → eqb n 0 ≡ b → unwrap_or (last_number_or None (cond b [] (varint n ∷ []))) 0 ≡ n
    go true e = sym (eqb-true n 0 e)
    go false e = refl

pub u32_back : (number n : ℕ) (ps : List Part) → held number ps ≡ (plain_number number n).1 ++ [] → n < 2 ^ 32 → u32 number (fields_of ps) ≡ n
u32_back number n ps h lt = ap low (u64_back number n ps h) ∙ (let small : low n ≡ n = omega arith in small)

-- an enum, by its 32 bits
enum_low : (n : ℕ) → n < 2 ^ 32 → low (enum_number n) ≡ n
enum_low n lt = go (ltb n (2 ^ 31))
  where
    go : (b : Bool) → low (cond b n (n + 18446744069414584320)) ≡ n
    go true = omega arith
    go false = omega arith

pub enum_back : (number n : ℕ) (ps : List Part) → held number ps ≡ (plain_number number (enum_number n)).1 ++ [] → n < 2 ^ 32 → u32 number (fields_of ps) ≡ n
enum_back number n ps h lt = ap low (u64_back number (enum_number n) ps h) ∙ enum_low n lt

pub optional_u64_back : (number : ℕ) (o : Option ℕ) (ps : List Part) → held number ps ≡ (optional_number number o).1 ++ [] → optional_u64 number (fields_of ps) ≡ o
unfolding last_number
optional_u64_back number o ps h = ap (last_number_or None) (values-fields_of number ps ∙ h ∙ append-nil (number_if o)) ∙ go o
  where
    go : (o : Option ℕ) → last_number_or None (number_if o) ≡ o
    go None = refl
    go (Some n) = refl

pub optional_u32_back : (number : ℕ) (o : Option ℕ) (ps : List Part) → held number ps ≡ (optional_number number o).1 ++ [] → IfSome o (λ n. n < 2 ^ 32) → optional_u32 number (fields_of ps) ≡ o
optional_u32_back number o ps h small = ap (option_map low) (optional_u64_back number o ps h) ∙ go o small
  where
    some : ℕ → Option ℕ
    some n = Some n

    go : (o : Option ℕ) → IfSome o (λ n. n < 2 ^ 32) → option_map low o ≡ o
    go None small = refl
    go (Some n) small = ap some (omega (arith, small))

pub text_back : (number : ℕ) (x : List ℕ) (ps : List Part) → held number ps ≡ (plain_bytes number x).1 ++ [] → text number (fields_of ps) ≡ x
unfolding last_bytes
text_back number x ps h =
    ap (λ (ws : List Wire). unwrap_or (last_bytes_or None ws) []) (values-fields_of number ps ∙ h ∙ append-nil (nonempty x)) ∙ go x
  where
    go : (x : List ℕ) → unwrap_or (last_bytes_or None (nonempty x)) [] ≡ x
    go [] = refl
    go (c ∷ x) = refl

pub bool_back : (number : ℕ) (f : Bool) (ps : List Part) → held number ps ≡ (plain_number number (bool_number f)).1 ++ [] → bool number (fields_of ps) ≡ f
bool_back number f ps h = ap flag (u64_back number (bool_number f) ps h) ∙ flag_again f

pub optional_text_back : (number : ℕ) (o : Option (List ℕ)) (ps : List Part) → held number ps ≡ (optional_bytes number o).1 ++ [] → optional_text number (fields_of ps) ≡ o
unfolding last_bytes
optional_text_back number o ps h =
    ap (last_bytes_or None) (values-fields_of number ps ∙ h) ∙ bytes_if_view o []

-- the texts of the parts alone
texts_alone : (number : ℕ) (bs : List (List ℕ)) (ps : List Part) → held number ps ≡ map bytes bs ++ [] → texts number (fields_of ps) ≡ bs
unfolding texts
texts_alone number bs ps h = ap each_bytes (values-fields_of number ps ∙ h ∙ append-nil (map bytes bs)) ∙ go bs
  where
    go : (bs : List (List ℕ)) → each_bytes (map bytes bs) ≡ bs
    go [] = refl
    go (b ∷ bs) = ap (λ (cs : List (List ℕ)). b ∷ cs) (go bs)

pub texts_back : (number : ℕ) (bs : List (List ℕ)) (ps : List Part) → held number ps ≡ (repeated_bytes number bs).1 ++ [] → texts number (fields_of ps) ≡ bs
texts_back number bs ps h = texts_alone number bs ps h

-- ---- packed numbers

abbrev pub Below32 : ℕ → Type 0
Below32 n = n < 2 ^ 32

varints_nil : varints [] ≡ []
varints_nil = items_ended varint_at varint_at_shrinks [] (nil_ended varint_at varint_at_shrinks)

pub varints_back : (ns : List ℕ) → AllByRecursion Below32 ns → varints (flat_map varint_spelling ns) ≡ ns
varints_back [] h = varints_nil
varints_back (n ∷ ns) h =
    ap varints (flat_map-cons varint_spelling n ns) ∙ items_read varint_at varint_at_shrinks (varint_spelling n ++ flat_map varint_spelling ns) n (flat_map varint_spelling ns) (varint-spelled n (flat_map varint_spelling ns) (omega (arith, h.0)))
    ∙ ap (λ (ms : List ℕ). n ∷ ms) (varints_back ns h.1)

pub are_varints_spelled : (ns : List ℕ) → AllByRecursion Below32 ns → are_varints (flat_map varint_spelling ns) ≡ true
are_varints_spelled [] h = ap is_end (left_ended varint_at varint_at_shrinks [] (nil_ended varint_at varint_at_shrinks))
are_varints_spelled (n ∷ ns) h =
    ap are_varints (flat_map-cons varint_spelling n ns)
    ∙ ap is_end (left_read varint_at varint_at_shrinks (varint_spelling n ++ flat_map varint_spelling ns) n (flat_map varint_spelling ns) (varint-spelled n (flat_map varint_spelling ns) (omega (arith, h.0))))
    ∙ are_varints_spelled ns h.1

packed_numbers : (bs : List ℕ) → each_number (nonempty bs) ≡ varints bs
packed_numbers [] = sym varints_nil
packed_numbers (b ∷ bs) = append-nil (varints (b ∷ bs))

map_low : (ns : List ℕ) → AllByRecursion Below32 ns → map low ns ≡ ns
map_low [] h = refl
map_low (n ∷ ns) h = let small : low n ≡ n = omega (arith, h.0) in λ i. small i ∷ map_low ns h.1 i

pub numbers_back : (number : ℕ) (ns : List ℕ) (ps : List Part) → held number ps ≡ (packed number ns).1 ++ [] → AllByRecursion Below32 ns → numbers number (fields_of ps) ≡ ns
unfolding numbers
numbers_back number ns ps h small =
    let spelled = flat_map varint_spelling ns in
    ap (λ (ws : List Wire). map low (each_number ws)) (values-fields_of number ps ∙ h ∙ append-nil (nonempty spelled))
    ∙ ap (map low) (packed_numbers spelled ∙ varints_back ns small)
    ∙ map_low ns small

-- ---- records in records: each reads back what it was written from

module _ {R : Type 0} (of : List Field → R) (write : R → List ℕ) where
  abbrev pub ReadsBack : R → Type 0
  ReadsBack r = of (fields (write r)) ≡ r

  abbrev some : R → Option R
  some r = Some r

  pub optional_record_back : (number : ℕ) (o : Option R) (ps : List Part) → held number ps ≡ (optional_bytes number (option_map write o)).1 ++ [] → IfSome o ReadsBack → optional_record of number (fields_of ps) ≡ o
  unfolding texts
  optional_record_back number o ps h back =
      ap (λ (ws : List Wire). option_map (λ payload. of (fields payload)) (joined_bytes (each_bytes ws))) (values-fields_of number ps ∙ h ∙ append-nil (bytes_if (option_map write o))) ∙ go o back
    where
      go : (o : Option R) → IfSome o ReadsBack → option_map (λ payload. of (fields payload)) (joined_bytes (each_bytes (bytes_if (option_map write o)))) ≡ o
      go None back = refl
      go (Some r) back = ap (λ (p : List ℕ). some (of (fields p))) (append-nil (write r)) ∙ ap some back

  pub records_back : (number : ℕ) (rs : List R) (ps : List Part) → held number ps ≡ (repeated_bytes number (map write rs)).1 ++ [] → AllByRecursion ReadsBack rs → records of number (fields_of ps) ≡ rs
  records_back number rs ps h back = ap (map (λ payload. of (fields payload))) (texts_alone number (map write rs) ps h) ∙ go rs back
    where
      go : (rs : List R) → AllByRecursion ReadsBack rs → map (λ payload. of (fields payload)) (map write rs) ≡ rs
      go [] h = refl
      go (r ∷ rs) h = λ i. h.0 i ∷ go rs h.1 i

-- ---- one of several fields

among_numbered : (variants : List ℕ) (number : ℕ) (ws : List Wire) (fs : List Field) → among variants (parts_numbered number ws ++ fs) ≡ cond (is_among variants number) (parts_numbered number ws) [] ++ among variants fs
among_numbered variants number [] fs = go (is_among variants number)
  where
    go : (b : Bool) → among variants fs ≡ cond b [] [] ++ among variants fs
    go true = refl
    go false = refl
among_numbered variants number (w ∷ ws) fs = go (is_among variants number) (among_numbered variants number ws fs)
  where
    go : (b : Bool) → among variants (parts_numbered number ws ++ fs) ≡ cond b (parts_numbered number ws) [] ++ among variants fs
        → cond b (record { number = number; value = w } ∷ among variants (parts_numbered number ws ++ fs)) (among variants (parts_numbered number ws ++ fs)) ≡ cond b (parts_numbered number (w ∷ ws)) [] ++ among variants fs
    go true h = ap (λ (gs : List Field). record { number = number; value = w } ∷ gs) h
    go false h = h

abbrev pub held_among : List ℕ → List Part → List Field
held_among variants [] = []
held_among variants (p ∷ ps) = cond (is_among variants p.0) (parts_numbered p.0 p.1) [] ++ held_among variants ps

pub among-fields_of : (variants : List ℕ) (ps : List Part) → among variants (fields_of ps) ≡ held_among variants ps
among-fields_of variants [] = refl
among-fields_of variants (p ∷ ps) = among_numbered variants p.0 p.1 (fields_of ps) ∙ ap (λ (gs : List Field). cond (is_among variants p.0) (parts_numbered p.0 p.1) [] ++ gs) (among-fields_of variants ps)

-- The run of a oneof in a record's canonical fields: what is computed of its parts.
pub run-fields_of : (variants : List ℕ) (ps : List Part) → run variants (fields_of ps) ≡ last_run (held_among variants ps)
unfolding run
run-fields_of variants ps = ap last_run (among-fields_of variants ps)
