-- What a record's canonical fields stand for, with more fields behind them.
use Rattle.std.proofs.Common.{◌≡◌, ℕ, Bool, true, false, not, cond, eqb, List, [], ◌∷◌, ◌++◌, Option, Some, None, refl, sym, ap, ◌∙◌, append_assoc}
use Rattle.std.specs.List.{flat_map, AllByRecursion}
use Rattle.std.proofs.lemmas.List.{append-nil}
use Rattle.protocol_wire.specs.Wire.{Wire, varint, bytes, fixed, Field}
use Rattle.protocol_wire.specs.Fields.{fields, are_fields}
use Rattle.protocol_wire.specs.Spelling.{tagged, spelling, field_spelling, FieldFits}
use Rattle.protocol_wire.specs.Selection.{values, last_number_or, last_bytes_or, each_bytes, texts}
use Rattle.protocol_wire.specs.Parts.{Part, bool_number, bytes_if, payload_of, parts_numbered, fields_of}
use Rattle.std.proofs.lemmas.List.Concat.{flat_map-cons}
use Rattle.protocol_wire.proofs.Spelled.{fields-spelling, are_fields-spelling}
use Rattle.protocol_wire.proofs.Steps.{fields-none, field_at_nil}

-- ---- the values of a field number in a record's fields

abbrev pub held : ℕ → List Part → List Wire
held number [] = []
held number (p ∷ ps) = cond (eqb p.0 number) p.1 [] ++ held number ps

pub values-append : (number : ℕ) (a b : List Field) → values number (a ++ b) ≡ values number a ++ values number b
values-append number [] b = refl
values-append number (f ∷ a) b = go (eqb f.number number) (values-append number a b)
  where
    go : (t : Bool) → values number (a ++ b) ≡ values number a ++ values number b → cond t (f.value ∷ values number (a ++ b)) (values number (a ++ b)) ≡ cond t (f.value ∷ values number a) (values number a) ++ values number b
    go true h = ap (λ (ws : List Wire). f.value ∷ ws) h
    go false h = h

values-numbered : (number t : ℕ) (ws : List Wire) → values number (parts_numbered t ws) ≡ cond (eqb t number) ws []
values-numbered number t [] = go (eqb t number)
  where
    go : (b : Bool) → ◌≡◌ {A = List Wire} [] (cond b [] [])
    go true = refl
    go false = refl
values-numbered number t (w ∷ ws) = go (eqb t number) (values-numbered number t ws)
  where
    go : (b : Bool) → values number (parts_numbered t ws) ≡ cond b ws [] → cond b (w ∷ values number (parts_numbered t ws)) (values number (parts_numbered t ws)) ≡ cond b (w ∷ ws) []
    go true h = ap (λ (v : List Wire). w ∷ v) h
    go false h = h

pub values-fields_of : (number : ℕ) (ps : List Part) → values number (fields_of ps) ≡ held number ps
values-fields_of number [] = refl
values-fields_of number (p ∷ ps) =
    values-append number (parts_numbered p.0 p.1) (fields_of ps) ∙ ap (λ (v : List Wire). v ++ values number (fields_of ps)) (values-numbered number p.0 p.1) ∙ ap (λ (v : List Wire). cond (eqb p.0 number) p.1 [] ++ v) (values-fields_of number ps)

-- ---- numbers

pub last_number_or-append : (o : Option ℕ) (u w : List Wire) → last_number_or o (u ++ w) ≡ last_number_or (last_number_or o u) w
last_number_or-append o [] w = refl
last_number_or-append o (varint n ∷ u) w = last_number_or-append (Some n) u w
last_number_or-append o (bytes b ∷ u) w = last_number_or-append o u w
last_number_or-append o (fixed ∷ u) w = last_number_or-append o u w

-- what only depends on a view of the number before
pub same_number : {A : Type 0} (view : Option ℕ → A) (o p : Option ℕ) (w : List Wire) → view o ≡ view p → view (last_number_or o w) ≡ view (last_number_or p w)
same_number view o p [] h = h
same_number view o p (varint n ∷ w) h = refl
same_number view o p (bytes b ∷ w) h = same_number view o p w h
same_number view o p (fixed ∷ w) h = same_number view o p w h

abbrev pub flag : ℕ → Bool
flag n = not (eqb n 0)

pub flag_again : (f : Bool) → flag (bool_number f) ≡ f
flag_again true = refl
flag_again false = refl

-- ---- bytes and texts

pub last_bytes_or-append : (o : Option (List ℕ)) (u w : List Wire) → last_bytes_or o (u ++ w) ≡ last_bytes_or (last_bytes_or o u) w
last_bytes_or-append o [] w = refl
last_bytes_or-append o (varint n ∷ u) w = last_bytes_or-append o u w
last_bytes_or-append o (bytes b ∷ u) w = last_bytes_or-append (Some b) u w
last_bytes_or-append o (fixed ∷ u) w = last_bytes_or-append o u w

pub same_bytes : {A : Type 0} (view : Option (List ℕ) → A) (o p : Option (List ℕ)) (w : List Wire) → view o ≡ view p → view (last_bytes_or o w) ≡ view (last_bytes_or p w)
same_bytes view o p [] h = h
same_bytes view o p (varint n ∷ w) h = same_bytes view o p w h
same_bytes view o p (bytes b ∷ w) h = refl
same_bytes view o p (fixed ∷ w) h = same_bytes view o p w h

pub bytes_if_view : (o : Option (List ℕ)) (w : List Wire) → last_bytes_or None (bytes_if o ++ w) ≡ last_bytes_or o w
bytes_if_view None w = refl
bytes_if_view (Some x) w = refl

-- ---- repeated

pub each_bytes-append : (u w : List Wire) → each_bytes (u ++ w) ≡ each_bytes u ++ each_bytes w
each_bytes-append [] w = refl
each_bytes-append (varint n ∷ u) w = each_bytes-append u w
each_bytes-append (bytes b ∷ u) w = ap (λ (bs : List (List ℕ)). b ∷ bs) (each_bytes-append u w)
each_bytes-append (fixed ∷ u) w = each_bytes-append u w

pub texts-append : (number : ℕ) (a b : List Field) → texts number (a ++ b) ≡ texts number a ++ texts number b
unfolding texts
texts-append number a b = ap each_bytes (values-append number a b) ∙ each_bytes-append (values number a) (values number b)

-- ---- the payload that is written

spelling-append : (a b : List Field) → spelling (a ++ b) ≡ spelling a ++ spelling b
unfolding spelling
spelling-append [] b = refl
spelling-append (f ∷ a) b = ap (λ (x : List ℕ). field_spelling f ++ x) (spelling-append a b) ∙ sym (append_assoc (field_spelling f) (spelling a) (spelling b))

part_is : (t : ℕ) (ws : List Wire) → flat_map (tagged t) ws ≡ spelling (parts_numbered t ws)
unfolding spelling
part_is t [] = refl
part_is t (w ∷ ws) = flat_map-cons (tagged t) w ws ∙ ap (λ (x : List ℕ). tagged t w ++ x) (part_is t ws)

pub payload_is : (ps : List Part) → payload_of ps ≡ spelling (fields_of ps)
unfolding spelling
payload_is [] = refl
payload_is (p ∷ ps) =
    ap (λ (x : List ℕ). x ++ payload_of ps) (part_is p.0 p.1) ∙ ap (λ (x : List ℕ). spelling (parts_numbered p.0 p.1) ++ x) (payload_is ps) ∙ sym (spelling-append (parts_numbered p.0 p.1) (fields_of ps))

-- What a canonical payload needs to be read again: variants and sizes that fit.
abbrev pub Fit : List Part → Type 0
Fit ps = AllByRecursion FieldFits (fields_of ps)

pub fields-payload : (ps : List Part) (rest : List ℕ) → Fit ps → fields (payload_of ps ++ rest) ≡ fields_of ps ++ fields rest
fields-payload ps rest fit = ap (λ (x : List ℕ). fields (x ++ rest)) (payload_is ps) ∙ fields-spelling (fields_of ps) rest fit

pub are_fields-payload : (ps : List Part) (rest : List ℕ) → Fit ps → are_fields (payload_of ps ++ rest) ≡ are_fields rest
are_fields-payload ps rest fit = ap (λ (x : List ℕ). are_fields (x ++ rest)) (payload_is ps) ∙ are_fields-spelling (fields_of ps) rest fit

pub fields-payload_alone : (ps : List Part) → Fit ps → fields (payload_of ps) ≡ fields_of ps
fields-payload_alone ps fit = ap fields (sym (append-nil (payload_of ps))) ∙ fields-payload ps [] fit ∙ ap (λ (fs : List Field). fields_of ps ++ fs) (fields-none [] field_at_nil) ∙ append-nil (fields_of ps)
