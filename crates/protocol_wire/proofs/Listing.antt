-- The fields that are listed, and those behind them.
use Rattle.std.proofs.Common.{◌≡◌, ℕ, ◌+◌, ◌<◌, true, eqb, List, [], ◌∷◌, ◌++◌, map, take, set, length, Bor, Some, None, refl, sym, append_assoc, arith}
use Rattle.std.proofs.lemmas.List.{take_more_set, map-append}
use Rattle.std.proofs.lemmas.Bool.{eqb-true}
use Rattle.protocol_wire.specs.Wire.{field_at}
use Rattle.protocol_wire.specs.Fields.{fields}
use Rattle.protocol_wire.specs.CodeFields.{field}
use Rattle.protocol_wire.specs.declared.field.ScannedField.{ScannedField}
use Rattle.protocol_wire.specs.declared.listed.Fields.{Fields}
use Rattle.protocol_wire.specs.ComingFields.{coming, are_all}
use Rattle.protocol_wire.proofs.Steps.{fields_read, fields_ended, fields-none, field_at_nil, are_fields-some}

empty : {A : Type 0} (xs : List A) → length xs ≡ 0 → xs ≡ []
empty [] e = refl
empty (x ∷ xs) e = absurd (omega (arith, e))

-- ---- the first field that is to come

pub coming_none : (f : Fields) → length f.listed.now ≡ 0 → None ≡ field_at f.rest.now → coming f ≡ []
unfolding coming
coming_none f l e = rw (empty f.listed.now l, fields_ended f.rest.now e) refl

pub coming_nothing : (f : Fields) → length f.listed.now ≡ 0 → eqb (length f.rest.now) 0 ≡ true → coming f ≡ []
unfolding coming
coming_nothing f l e = rw (empty f.listed.now l, empty f.rest.now (eqb-true (length f.rest.now) 0 e)) (fields-none [] field_at_nil)

pub coming_listed : (f : Fields) (one : ScannedField) (others : Bor (List ScannedField)) → f.listed.now ≡ one ∷ others.now → coming f ≡ field one ∷ coming (record { listed = others; rest = f.rest })
unfolding coming
coming_listed f one others e = rw e refl

pub coming_read : (f : Fields) (one : ScannedField) (rest : Bor (List ℕ)) → length f.listed.now ≡ 0 → Some (field one, rest.now) ≡ field_at f.rest.now → coming f ≡ field one ∷ coming (record { listed = f.listed; rest = rest })
unfolding coming
coming_read f one rest l e = rw (empty f.listed.now l, fields_read f.rest.now (field one) rest.now e) refl

pub all_read : (f : Fields) (one : ScannedField) (rest : Bor (List ℕ)) → Some (field one, rest.now) ≡ field_at f.rest.now → are_all f ≡ are_all (record { listed = f.listed; rest = rest })
unfolding are_all
all_read f one rest e = are_fields-some f.rest.now (field one) rest.now (sym e)

-- One more field is listed.
pub listed_more : (found : List ScannedField) (count : ℕ) (one : ScannedField) (rest after : List ℕ) → count < length found → Some (field one, after) ≡ field_at rest
    → map field (take (count + 1) (set found count one)) ++ fields after ≡ map field (take count found) ++ fields rest
listed_more found count one rest after lt e =
    rw (take_more_set found count one lt, map-append field (take count found) (one ∷ []), fields_read rest (field one) after e) (append_assoc (map field (take count found)) (field one ∷ []) (fields after))
