-- What stands of a oneof, with other fields behind it.
use Rattle.std.proofs.Common.{◌≡◌, ℕ, zero, suc, ◌-◌, Bool, true, false, cond, eqb, List, [], ◌∷◌, ◌++◌, Option, Some, None, refl, sym, ap, subst, ◌∙◌, arith, eq-eqb}
use Rattle.std.specs.Prelude.{option_map}
use Rattle.std.specs.List.{AllByRecursion}
use Rattle.std.proofs.lemmas.Bool.{eqb-true}
use Rattle.protocol_wire.specs.Wire.{Wire, varint, bytes, fixed, Field}
use Rattle.protocol_wire.specs.Fields.{fields}
use Rattle.protocol_table.specs.Table.{descriptors_of, kind_in}
use Rattle.protocol_wire.specs.Check.{payload_fault}
use Rattle.protocol_wire.specs.Sound.{AreSound}
use Rattle.protocol_wire.specs.Selection.{values, last_number_or, last_number, last_bytes_or, last_bytes, low, optional_u32, optional_text, each_bytes, texts, joined_bytes, optional_record, is_among, among, all_numbered, last_run, run, variant_of}
use Rattle.protocol_table.specs.declared.table.RecordType.{RecordType}
use Rattle.protocol_table.specs.declared.table.Kind.{Kind}
use Rattle.protocol_table.specs.declared.table.Kind.TheVariants as kinds
use Rattle.protocol_table.specs.declared.table.FieldDescriptor.{FieldDescriptor}
use Rattle.protocol_wire.specs.declared.check.Fault.{Fault}
use Rattle.protocol_wire.proofs.Runs.{eqb_comm, same_number_each, values-among}
use Rattle.protocol_wire.proofs.Joined.{sound_fields}
use Rattle.protocol_wire.proofs.SoundAt.{AreOf, are_of, records}

-- ---- the last run of fields with others behind them

abbrev pub IsRun : List Field → Type 0
IsRun [] = Unit {0}
IsRun (f ∷ fs) = all_numbered f.number fs ≡ true

last_run_is_run : (fs : List Field) → IsRun (last_run fs)
last_run_is_run [] = tt
last_run_is_run (f ∷ fs) = go (all_numbered f.number fs) refl (last_run_is_run fs)
  where
    go : (t : Bool) → all_numbered f.number fs ≡ t → IsRun (last_run fs) → IsRun (cond t (f ∷ fs) (last_run fs))
    go true e k = e
    go false e k = k

-- whether fields go on with a run
abbrev goes_on : Option ℕ → List Field → Bool
goes_on None c = false
goes_on (Some n) c = all_numbered n c

all_behind : (n : ℕ) (fs c : List Field) → all_numbered n fs ≡ true → all_numbered n (fs ++ c) ≡ all_numbered n c
all_behind n [] c h = refl
all_behind n (f ∷ fs) c h =
    let s = same_number_each n f fs h in
    ap (λ (b : Bool). cond b (all_numbered n (fs ++ c)) false) (eq-eqb f.number n s.0) ∙ all_behind n fs c s.1

skipped : (n : ℕ) (fs c : List Field) → all_numbered n fs ≡ true → all_numbered n c ≡ false → last_run (fs ++ c) ≡ last_run c
skipped n [] c h k = refl
skipped n (f ∷ fs) c h k =
    let s = same_number_each n f fs h in
    let ends : all_numbered f.number (fs ++ c) ≡ false = rw s.0 (all_behind n fs c s.1 ∙ k) in
    ap (λ (b : Bool). cond b (f ∷ (fs ++ c)) (last_run (fs ++ c))) ends ∙ skipped n fs c s.1 k

last_run_behind : (r c : List Field) → IsRun r → last_run (r ++ c) ≡ cond (goes_on (variant_of r) c) (r ++ c) (last_run c)
last_run_behind [] c h = refl
last_run_behind (f ∷ fs) c h = go (all_numbered f.number c) refl
  where
    go : (t : Bool) → all_numbered f.number c ≡ t → last_run (f ∷ (fs ++ c)) ≡ cond t (f ∷ (fs ++ c)) (last_run c)
    go true e = ap (λ (b : Bool). cond b (f ∷ (fs ++ c)) (last_run (fs ++ c))) (all_behind f.number fs c h ∙ e)
    go false e = ap (λ (b : Bool). cond b (f ∷ (fs ++ c)) (last_run (fs ++ c))) (all_behind f.number fs c h ∙ e) ∙ skipped f.number fs c h e

not_all_behind : (n : ℕ) (fs c : List Field) → all_numbered n fs ≡ false → all_numbered n (fs ++ c) ≡ false
not_all_behind n [] c h = absurd cc
not_all_behind n (f ∷ fs) c h = go (eqb f.number n) h (not_all_behind n fs c)
  where
    go : (t : Bool) → cond t (all_numbered n fs) false ≡ false → (all_numbered n fs ≡ false → all_numbered n (fs ++ c) ≡ false) → cond t (all_numbered n (fs ++ c)) false ≡ false
    go true h again = again h
    go false h again = refl

last_run-append : (a c : List Field) → last_run (a ++ c) ≡ last_run (last_run a ++ c)
last_run-append [] c = refl
last_run-append (f ∷ fs) c = go (all_numbered f.number fs) refl (last_run-append fs c)
  where
    go : (t : Bool) → all_numbered f.number fs ≡ t → last_run (fs ++ c) ≡ last_run (last_run fs ++ c) → last_run (f ∷ (fs ++ c)) ≡ last_run (cond t (f ∷ fs) (last_run fs) ++ c)
    go true e again = refl
    go false e again = ap (λ (b : Bool). cond b (f ∷ (fs ++ c)) (last_run (fs ++ c))) (not_all_behind f.number fs c e) ∙ again

among-append : (variants : List ℕ) (a c : List Field) → among variants (a ++ c) ≡ among variants a ++ among variants c
among-append variants [] c = refl
among-append variants (f ∷ a) c = go (is_among variants f.number) (among-append variants a c)
  where
    go : (t : Bool) → among variants (a ++ c) ≡ among variants a ++ among variants c → cond t (f ∷ among variants (a ++ c)) (among variants (a ++ c)) ≡ cond t (f ∷ among variants a) (among variants a) ++ among variants c
    go true h = ap (λ (gs : List Field). f ∷ gs) h
    go false h = h

run_behind : (variants : List ℕ) (a c : List Field) → run variants (a ++ c) ≡ cond (goes_on (variant_of (run variants a)) (among variants c)) (run variants a ++ among variants c) (last_run (among variants c))
unfolding run
run_behind variants a c =
    ap last_run (among-append variants a c) ∙ last_run-append (among variants a) (among variants c) ∙ last_run_behind (last_run (among variants a)) (among variants c) (last_run_is_run (among variants a))

-- Where the same variant stands, and each with the same fields behind it looks alike, so do both with the others behind them.
pub behind : {A : Type 0} (view : List Field → A) (variants : List ℕ) (a b c : List Field) → variant_of (run variants a) ≡ variant_of (run variants b)
    → view (run variants a ++ among variants c) ≡ view (run variants b ++ among variants c) → view (run variants (a ++ c)) ≡ view (run variants (b ++ c))
behind view variants a b c same h =
    let z = among variants c in
    ap view (run_behind variants a c) ∙ go (goes_on (variant_of (run variants a)) z)
    ∙ ap (λ (o : Option ℕ). view (cond (goes_on o z) (run variants b ++ z) (last_run z))) same
    ∙ ap view (sym (run_behind variants b c))
  where
    go : (t : Bool) → view (cond t (run variants a ++ among variants c) (last_run (among variants c))) ≡ view (cond t (run variants b ++ among variants c) (last_run (among variants c)))
    go true = h
    go false = refl

-- ---- which variant stands

-- whether this variant is the one that stands
abbrev pub stands : Option ℕ → ℕ → Bool
stands None number = false
stands (Some n) number = eqb n number

abbrev pub is_there : {A : Type 0} → Option A → Bool
is_there None = false
is_there (Some x) = true

pub absent : {A : Type 0} (o : Option A) → is_there o ≡ false → o ≡ None
absent None h = refl
absent (Some x) h = absurd cc

pub stands_is : (o : Option ℕ) (number : ℕ) → stands o number ≡ true → o ≡ Some number
stands_is None number h = absurd cc
stands_is (Some n) number h = ap some (eqb-true n number h)
  where
    some : ℕ → Option ℕ
    some n = Some n

among_none : (variants : List ℕ) (k : ℕ) → AllByRecursion (λ v. stands (Some k) v ≡ false) variants → is_among variants k ≡ false
among_none [] k h = refl
among_none (v ∷ variants) k h = rw (eqb_comm v k, h.0) (among_none variants k h.1)

pub nothing_stands : (variants : List ℕ) (o : Option ℕ) → ((k : ℕ) → o ≡ Some k → is_among variants k ≡ true) → AllByRecursion (λ v. stands o v ≡ false) variants → o ≡ None
nothing_stands variants None m h = refl
nothing_stands variants (Some k) m h = absurd (let e = among_none variants k h in let f = m k refl in cc)

all_among : (variants : List ℕ) (fs : List Field) → AllByRecursion (λ f. is_among variants f.number ≡ true) (among variants fs)
all_among variants [] = tt
all_among variants (f ∷ fs) = go (is_among variants f.number) refl (all_among variants fs)
  where
    go : (t : Bool) → is_among variants f.number ≡ t → AllByRecursion (λ f. is_among variants f.number ≡ true) (among variants fs) → AllByRecursion (λ f. is_among variants f.number ≡ true) (cond t (f ∷ among variants fs) (among variants fs))
    go true e h = (e, h)
    go false e h = h

last_run_among : (variants : List ℕ) (fs : List Field) → AllByRecursion (λ f. is_among variants f.number ≡ true) fs → (k : ℕ) → variant_of (last_run fs) ≡ Some k → is_among variants k ≡ true
last_run_among variants [] h k e = absurd cc
last_run_among variants (f ∷ fs) h k e = go (all_numbered f.number fs) (last_run_among variants fs h.1 k) e
  where
    number_of : Option ℕ → ℕ
    number_of None = 0
    number_of (Some n) = n

    go : (t : Bool) → (variant_of (last_run fs) ≡ Some k → is_among variants k ≡ true) → variant_of (cond t (f ∷ fs) (last_run fs)) ≡ Some k → is_among variants k ≡ true
    go true again e = subst (λ (n : ℕ). is_among variants n ≡ true) (ap number_of e) h.0
    go false again e = again e

pub variant_among : (variants : List ℕ) (fs : List Field) (k : ℕ) → variant_of (run variants fs) ≡ Some k → is_among variants k ≡ true
unfolding run
variant_among variants fs k e = last_run_among variants (among variants fs) (all_among variants fs) k e

-- ---- what is read of the variant that stands is there, and nothing is read of the others

abbrev has : List Wire → Bool
has [] = false
has (w ∷ ws) = true

none_of : (n number : ℕ) (fs : List Field) → all_numbered n fs ≡ true → eqb n number ≡ false → values number fs ≡ []
none_of n number [] h k = refl
none_of n number (f ∷ fs) h k =
    let s = same_number_each n f fs h in
    let other : eqb f.number number ≡ false = rw s.0 k in
    ap (λ (b : Bool). cond b (f.value ∷ values number fs) (values number fs)) other ∙ none_of n number fs s.1 k

has_standing : (number : ℕ) (r : List Field) → IsRun r → has (values number r) ≡ stands (variant_of r) number
has_standing number [] h = refl
has_standing number (f ∷ fs) h = go (eqb f.number number) refl
  where
    go : (t : Bool) → eqb f.number number ≡ t → has (cond t (f.value ∷ values number fs) (values number fs)) ≡ t
    go true e = refl
    go false e = ap has (none_of f.number number fs h e)

abbrev AreBytes : List Wire → Type 0
AreBytes [] = Unit {0}
AreBytes (varint n ∷ ws) = ⊥
AreBytes (bytes b ∷ ws) = AreBytes ws
AreBytes (fixed ∷ ws) = ⊥

still_there : (n : ℕ) (ws : List Wire) → is_there (last_number_or (Some n) ws) ≡ true
still_there n [] = refl
still_there n (varint m ∷ ws) = still_there m ws
still_there n (bytes b ∷ ws) = still_there n ws
still_there n (fixed ∷ ws) = still_there n ws

bytes_still_there : (b : List ℕ) (ws : List Wire) → is_there (last_bytes_or (Some b) ws) ≡ true
bytes_still_there b [] = refl
bytes_still_there b (varint m ∷ ws) = bytes_still_there b ws
bytes_still_there b (bytes c ∷ ws) = bytes_still_there c ws
bytes_still_there b (fixed ∷ ws) = bytes_still_there b ws

bytes_there : (ws : List Wire) → AreBytes ws → is_there (last_bytes_or None ws) ≡ has ws
bytes_there [] h = refl
bytes_there (varint n ∷ ws) h = absurd h
bytes_there (bytes b ∷ ws) h = bytes_still_there b ws
bytes_there (fixed ∷ ws) h = absurd h

record_there : {R : Type 0} (of : List Field → R) (ws : List Wire) → AreBytes ws → is_there (option_map (λ payload. of (fields payload)) (joined_bytes (each_bytes ws))) ≡ has ws
record_there of [] h = refl
record_there of (varint n ∷ ws) h = absurd h
record_there of (bytes b ∷ ws) h = refl
record_there of (fixed ∷ ws) h = absurd h

low_there : (o : Option ℕ) → is_there (option_map low o) ≡ is_there o
low_there None = refl
low_there (Some n) = refl

module _ (below : RecordType → List ℕ → Option Fault) (descriptors : List FieldDescriptor) (number : ℕ) where
  number_there : (ws : List Wire) → AreOf below descriptors number kinds.Number ws → is_there (last_number_or None ws) ≡ has ws
  number_there [] h = refl
  number_there (varint n ∷ ws) h = still_there n ws
  number_there (bytes b ∷ ws) h = let k = h.0 in absurd cc
  number_there (fixed ∷ ws) h = let k = h.0 in absurd cc

  texts_are_bytes : (ws : List Wire) → AreOf below descriptors number kinds.Text ws → AreBytes ws
  texts_are_bytes [] h = tt
  texts_are_bytes (varint n ∷ ws) h = let k = h.0 in absurd cc
  texts_are_bytes (bytes b ∷ ws) h = texts_are_bytes ws h.1
  texts_are_bytes (fixed ∷ ws) h = let k = h.0 in absurd cc

  bytes_are_bytes : (ws : List Wire) → AreOf below descriptors number kinds.Bytes ws → AreBytes ws
  bytes_are_bytes [] h = tt
  bytes_are_bytes (varint n ∷ ws) h = let k = h.0 in absurd cc
  bytes_are_bytes (bytes b ∷ ws) h = bytes_are_bytes ws h.1
  bytes_are_bytes (fixed ∷ ws) h = let k = h.0 in absurd cc

  records_are_bytes : (r : RecordType) (ws : List Wire) → AreOf below descriptors number (kinds.Record r) ws → AreBytes ws
  records_are_bytes r [] h = tt
  records_are_bytes r (varint n ∷ ws) h = let k = h.0 in absurd cc
  records_are_bytes r (bytes b ∷ ws) h = records_are_bytes r ws h.1
  records_are_bytes r (fixed ∷ ws) h = let k = h.0 in absurd cc

  -- what holds of each value of a number holds of those of the last run
  run_of_kind : (kind : Kind) (fs : List Field) → AreOf below descriptors number kind (values number fs) → AreOf below descriptors number kind (values number (last_run fs))
  run_of_kind kind [] h = h
  run_of_kind kind (f ∷ fs) h = go (all_numbered f.number fs) (run_of_kind kind fs (rest (eqb f.number number) h))
    where
      rest : (t : Bool) → AreOf below descriptors number kind (cond t (f.value ∷ values number fs) (values number fs)) → AreOf below descriptors number kind (values number fs)
      rest true h = h.1
      rest false h = h

      go : (t : Bool) → AreOf below descriptors number kind (values number (last_run fs)) → AreOf below descriptors number kind (values number (cond t (f ∷ fs) (last_run fs)))
      go true k = h
      go false k = k

zero_is_deep : (t : RecordType) (payload : List ℕ) → payload_fault zero t payload ≡ None → ⊥
unfolding payload_fault
zero_is_deep t payload e = cc

module _ (levels : ℕ) (t : RecordType) (variants : List ℕ) (number : ℕ) (payload : List ℕ) (sound : payload_fault levels t payload ≡ None) (member : is_among variants number ≡ true) where
  abbrev KindIs : Kind → Type 0
  KindIs kind = kind_in (descriptors_of t) number ≡ Some kind

  abbrev Chosen : Kind → Type 0
  Chosen kind = AreOf (payload_fault (levels - 1)) (descriptors_of t) number kind (values number (run variants (fields payload)))

  chosen : (kind : Kind) → KindIs kind → Chosen kind
  unfolding run
  chosen kind k =
      run_of_kind (payload_fault (levels - 1)) (descriptors_of t) number kind (among variants (fields payload)) (rw (values-among variants number (fields payload) member) (of_payload levels sound))
    where
      of_payload : (levels : ℕ) → payload_fault levels t payload ≡ None → AreOf (payload_fault (levels - 1)) (descriptors_of t) number kind (values number (fields payload))
      of_payload zero h = absurd (zero_is_deep t payload h)
      of_payload (suc levels) h =
          let one : suc levels - 1 ≡ levels = omega arith in
          rw one (are_of (payload_fault levels) (descriptors_of t) number kind (fields payload) k (sound_fields levels t payload h).0)

  standing : has (values number (run variants (fields payload))) ≡ stands (variant_of (run variants (fields payload))) number
  unfolding run
  standing = has_standing number (last_run (among variants (fields payload))) (last_run_is_run (among variants (fields payload)))

  pub u32_stands : KindIs kinds.Number → is_there (optional_u32 number (run variants (fields payload))) ≡ stands (variant_of (run variants (fields payload))) number
  unfolding last_number
  u32_stands k =
      low_there (last_number_or None (values number (run variants (fields payload))))
      ∙ number_there (payload_fault (levels - 1)) (descriptors_of t) number (values number (run variants (fields payload))) (chosen kinds.Number k) ∙ standing

  pub text_stands : KindIs kinds.Text → is_there (optional_text number (run variants (fields payload))) ≡ stands (variant_of (run variants (fields payload))) number
  unfolding last_bytes
  text_stands k =
      bytes_there (values number (run variants (fields payload))) (texts_are_bytes (payload_fault (levels - 1)) (descriptors_of t) number (values number (run variants (fields payload))) (chosen kinds.Text k)) ∙ standing

  pub bytes_stand : KindIs kinds.Bytes → is_there (optional_text number (run variants (fields payload))) ≡ stands (variant_of (run variants (fields payload))) number
  unfolding last_bytes
  bytes_stand k =
      bytes_there (values number (run variants (fields payload))) (bytes_are_bytes (payload_fault (levels - 1)) (descriptors_of t) number (values number (run variants (fields payload))) (chosen kinds.Bytes k)) ∙ standing

  pub record_stands : {R : Type 0} (of : List Field → R) (r : RecordType) → KindIs (kinds.Record r) → is_there (optional_record of number (run variants (fields payload))) ≡ stands (variant_of (run variants (fields payload))) number
  unfolding texts
  record_stands of r k =
      record_there of (values number (run variants (fields payload))) (records_are_bytes (payload_fault (levels - 1)) (descriptors_of t) number r (values number (run variants (fields payload))) (chosen (kinds.Record r) k)) ∙ standing

  pub run_sound : (r : RecordType) → KindIs (kinds.Record r) → AreSound (payload_fault (levels - 1) r) (values number (run variants (fields payload)))
  run_sound r k = records (payload_fault (levels - 1)) (descriptors_of t) number r (values number (run variants (fields payload))) (chosen (kinds.Record r) k)
