-- The last run of a oneof, found from left to right.
use Rattle.std.proofs.Common.{◌≡◌, ℕ, Bool, true, false, cond, eqb, List, [], ◌∷◌, ◌++◌, Option, Some, None, refl, sym, ap, ◌∙◌, append_assoc, eq-eqb}
use Rattle.std.specs.Prelude.{option_map}
use Rattle.std.proofs.lemmas.List.{append-nil}
use Rattle.std.proofs.lemmas.Bool.{eqb-true}
use Rattle.protocol_wire.specs.Wire.{Wire, varint, bytes, fixed, Field}
use Rattle.protocol_wire.specs.ComingFields.{coming}
use Rattle.protocol_wire.specs.declared.listed.Fields.{Fields}
use Rattle.protocol_wire.specs.Sound.{AreTexts, AreSound}
use Rattle.protocol_wire.specs.declared.check.Fault.{Fault}
use Rattle.protocol_wire.specs.Selection.{values, run, is_among, among, all_numbered, last_run, variant_of, is_run}

pub record Run (variants : List ℕ) (number : ℕ) (start rest whole : List Field) : Type 0 where
  pub current : List Field
  pub same : all_numbered number current ≡ true
  pub begins : variant_of current ≡ Some number
  pub parts : among variants start ≡ current ++ among variants rest
  pub stands : last_run (among variants start) ≡ whole

abbrev pub Running : List ℕ → Option (ℕ × List Field) → List Field → List Field → Type 0
Running variants None rest whole = last_run (among variants rest) ≡ whole
Running variants (Some x) rest whole = Run variants x.0 x.1 rest whole

-- What was found, with the fields from there on.
abbrev pub onward : Option (ℕ × Fields) → Option (ℕ × List Field)
onward o = option_map (λ x. (x.0, coming x.1)) o

-- What was found, by its number alone.
abbrev pub numbered : Option (ℕ × List Field) → Option (ℕ × List ℕ)
numbered o = option_map (λ x. (x.0, [])) o

pub eqb_comm : (m n : ℕ) → eqb m n ≡ eqb n m
eqb_comm m n = go (eqb m n) (eqb n m) refl refl
  where
    go : (a b : Bool) → eqb m n ≡ a → eqb n m ≡ b → a ≡ b
    go true true p q = refl
    go false false p q = refl
    go true false p q = absurd (let e = eq-eqb n m (sym (eqb-true m n p)) in cc)
    go false true p q = absurd (let e = eq-eqb m n (sym (eqb-true n m q)) in cc)

among_no : (variants : List ℕ) (f : Field) (gs : List Field) → is_among variants f.number ≡ false → among variants (f ∷ gs) ≡ among variants gs
among_no variants f gs h = rw h refl

among_yes : (variants : List ℕ) (f : Field) (gs : List Field) → is_among variants f.number ≡ true → among variants (f ∷ gs) ≡ f ∷ among variants gs
among_yes variants f gs h = rw h refl

all_numbered-append : (number : ℕ) (a b : List Field) → all_numbered number a ≡ true → all_numbered number b ≡ true → all_numbered number (a ++ b) ≡ true
all_numbered-append number [] b p q = q
all_numbered-append number (f ∷ a) b p q = go (eqb f.number number) p (λ k. all_numbered-append number a b k q)
  where
    go : (t : Bool) → cond t (all_numbered number a) false ≡ true → (all_numbered number a ≡ true → all_numbered number (a ++ b) ≡ true) → cond t (all_numbered number (a ++ b)) false ≡ true
    go true h again = again h
    go false h again = absurd cc

all_numbered_one : (f : Field) → all_numbered f.number (f ∷ []) ≡ true
all_numbered_one f = rw (eq-eqb f.number f.number refl) refl

-- fields with another number among them are not all of one
pub not_all : (number : ℕ) (a : List Field) (f : Field) (more : List Field) → eqb f.number number ≡ false → all_numbered number (a ++ f ∷ more) ≡ false
not_all number [] f more h = rw h refl
not_all number (c ∷ a) f more h = go (eqb c.number number) (not_all number a f more h)
  where
    go : (t : Bool) → all_numbered number (a ++ f ∷ more) ≡ false → cond t (all_numbered number (a ++ f ∷ more)) false ≡ false
    go true k = k
    go false k = refl

pub same_number_each : (number : ℕ) (c : Field) (a : List Field) → all_numbered number (c ∷ a) ≡ true → (c.number ≡ number) × (all_numbered number a ≡ true)
same_number_each number c a h = go (eqb c.number number) refl h
  where
    go : (t : Bool) → eqb c.number number ≡ t → cond t (all_numbered number a) false ≡ true → (c.number ≡ number) × (all_numbered number a ≡ true)
    go true e k = (eqb-true c.number number e, k)
    go false e k = absurd cc

-- fields of another number in front don't stand
last_run-drop : (number : ℕ) (a : List Field) (f : Field) (more : List Field) → all_numbered number a ≡ true → eqb f.number number ≡ false → last_run (a ++ f ∷ more) ≡ last_run (f ∷ more)
last_run-drop number [] f more h k = refl
last_run-drop number (c ∷ a) f more h k =
    let s = same_number_each number c a h in
    let ends : all_numbered c.number (a ++ f ∷ more) ≡ false = rw s.0 (not_all number a f more k) in
    ap (λ (b : Bool). cond b (c ∷ (a ++ f ∷ more)) (last_run (a ++ f ∷ more))) ends ∙ last_run-drop number a f more s.1 k

last_run_same : (number : ℕ) (a : List Field) → all_numbered number a ≡ true → last_run a ≡ a
last_run_same number [] h = refl
last_run_same number (c ∷ a) h =
    let s = same_number_each number c a h in
    let all : all_numbered c.number a ≡ true = rw s.0 s.1 in
    ap (λ (b : Bool). cond b (c ∷ a) (last_run a)) all

pub run_skips : (variants : List ℕ) (found : Option (ℕ × List Field)) (fs gs whole : List Field) (f : Field) → Running variants found fs whole → fs ≡ f ∷ gs → is_among variants f.number ≡ false → Running variants found gs whole
run_skips variants None fs gs whole f h e left_out = ap last_run (sym (ap (among variants) e ∙ among_no variants f gs left_out)) ∙ h
run_skips variants (Some x) fs gs whole f h e left_out =
    record { current = h.current; same = h.same; begins = h.begins; parts = h.parts ∙ ap (λ (r : List Field). h.current ++ r) (ap (among variants) e ∙ among_no variants f gs left_out); stands = h.stands }

variant_of-append : (a b : List Field) (number : ℕ) → variant_of a ≡ Some number → variant_of (a ++ b) ≡ Some number
variant_of-append [] b number h = absurd cc
variant_of-append (f ∷ a) b number h = h

pub run_goes_on : (variants : List ℕ) (found : Option (ℕ × List Field)) (fs gs whole : List Field) (f : Field) → Running variants found fs whole → fs ≡ f ∷ gs → is_among variants f.number ≡ true → is_run (numbered found) f.number ≡ true → Running variants found gs whole
run_goes_on variants None fs gs whole f h e taken r = absurd cc
run_goes_on variants (Some x) fs gs whole f h e taken r =
    let t : x.0 ≡ f.number = eqb-true x.0 f.number r in
    let one : all_numbered x.0 (f ∷ []) ≡ true = rw t (all_numbered_one f) in
    record {
      current = h.current ++ f ∷ [];
      same = all_numbered-append x.0 h.current (f ∷ []) h.same one;
      begins = variant_of-append h.current (f ∷ []) x.0 h.begins;
      parts = h.parts ∙ ap (λ (r : List Field). h.current ++ r) (ap (among variants) e ∙ among_yes variants f gs taken) ∙ sym (append_assoc h.current (f ∷ []) (among variants gs));
      stands = h.stands;
    }

pub run_begins : (variants : List ℕ) (found : Option (ℕ × List Field)) (fs gs whole : List Field) (f : Field) → Running variants found fs whole → fs ≡ f ∷ gs → is_among variants f.number ≡ true → is_run (numbered found) f.number ≡ false
    → Running variants (Some (f.number, fs)) gs whole
run_begins variants None fs gs whole f h e taken r =
    record { current = f ∷ []; same = all_numbered_one f; begins = refl; parts = ap (among variants) e ∙ among_yes variants f gs taken; stands = h }
run_begins variants (Some x) fs gs whole f h e taken r =
    let here = ap (among variants) e ∙ among_yes variants f gs taken in
    let other : eqb f.number x.0 ≡ false = eqb_comm f.number x.0 ∙ r in
    record {
      current = f ∷ [];
      same = all_numbered_one f;
      begins = refl;
      parts = here;
      stands = ap last_run here ∙ sym (last_run-drop x.0 h.current f (among variants gs) h.same other) ∙ ap (λ (r : List Field). last_run (h.current ++ r)) (sym here) ∙ ap last_run (sym h.parts) ∙ h.stands;
    }

pub run_none : (variants : List ℕ) (fs whole : List Field) → Running variants None fs whole → fs ≡ [] → whole ≡ []
run_none variants fs whole h e = sym h ∙ ap (λ (r : List Field). last_run (among variants r)) e

pub run_found : (variants : List ℕ) (x : ℕ × List Field) (fs whole : List Field) → Running variants (Some x) fs whole → fs ≡ [] → (variant_of whole ≡ Some x.0) × (among variants x.1 ≡ whole)
run_found variants x fs whole h e =
    let all = h.parts ∙ ap (λ (r : List Field). h.current ++ among variants r) e ∙ append-nil h.current in
    let is = sym h.stands ∙ ap last_run all ∙ last_run_same x.0 h.current h.same in
    (ap variant_of is ∙ h.begins, all ∙ sym is)

-- ---- a variant of a oneof

pub values-among : (variants : List ℕ) (number : ℕ) (fs : List Field) → is_among variants number ≡ true → values number (among variants fs) ≡ values number fs
values-among variants number [] h = refl
values-among variants number (f ∷ fs) h = go (is_among variants f.number) (eqb f.number number) refl refl (values-among variants number fs h)
  where
    go : (a t : Bool) → is_among variants f.number ≡ a → eqb f.number number ≡ t → values number (among variants fs) ≡ values number fs → values number (cond a (f ∷ among variants fs) (among variants fs)) ≡ cond t (f.value ∷ values number fs) (values number fs)
    go true true p q k = rw (q, k) refl
    go true false p q k = rw (q, k) refl
    go false true p q k = absurd (let e = ap (is_among variants) (eqb-true f.number number q) in cc)
    go false false p q k = k

-- what holds of each value of a number holds of those of the last run
run_sound_texts : (number : ℕ) (fs : List Field) → AreTexts (values number fs) → AreTexts (values number (last_run fs))
run_sound_texts number [] h = h
run_sound_texts number (f ∷ fs) h = go (all_numbered f.number fs) (run_sound_texts number fs (rest (eqb f.number number) f.value h))
  where
    rest : (t : Bool) (w : Wire) → AreTexts (cond t (w ∷ values number fs) (values number fs)) → AreTexts (values number fs)
    rest true (varint n) h = h
    rest true (bytes b) h = h.1
    rest true fixed h = h
    rest false w h = h

    go : (t : Bool) → AreTexts (values number (last_run fs)) → AreTexts (values number (cond t (f ∷ fs) (last_run fs)))
    go true k = h
    go false k = k

run_sound_records : (fault : List ℕ → Option Fault) (number : ℕ) (fs : List Field) → AreSound fault (values number fs) → AreSound fault (values number (last_run fs))
run_sound_records fault number [] h = h
run_sound_records fault number (f ∷ fs) h = go (all_numbered f.number fs) (run_sound_records fault number fs (rest (eqb f.number number) f.value h))
  where
    rest : (t : Bool) (w : Wire) → AreSound fault (cond t (w ∷ values number fs) (values number fs)) → AreSound fault (values number fs)
    rest true (varint n) h = h
    rest true (bytes b) h = h.1
    rest true fixed h = h
    rest false w h = h

    go : (t : Bool) → AreSound fault (values number (last_run fs)) → AreSound fault (values number (cond t (f ∷ fs) (last_run fs)))
    go true k = h
    go false k = k

-- A field that is not there does not stand.
none_in_run : (number : ℕ) (fs : List Field) → values number fs ≡ [] → values number (last_run fs) ≡ []
none_in_run number [] h = refl
none_in_run number (f ∷ fs) h = go (all_numbered f.number fs) (none_in_run number fs (rest (eqb f.number number) f.value h))
  where
    rest : (t : Bool) (w : Wire) → cond t (w ∷ values number fs) (values number fs) ≡ [] → values number fs ≡ []
    rest true w h = absurd cc
    rest false w h = h

    go : (t : Bool) → values number (last_run fs) ≡ [] → values number (cond t (f ∷ fs) (last_run fs)) ≡ []
    go true k = h
    go false k = k

pub none_stands : (variants : List ℕ) (number : ℕ) (fs : List Field) → is_among variants number ≡ true → values number fs ≡ [] → values number (run variants fs) ≡ []
unfolding run
none_stands variants number fs h e = none_in_run number (among variants fs) (values-among variants number fs h ∙ e)

-- The fields from the last run on have the values of the run.
pub run_values : (variants : List ℕ) (number : ℕ) (fs gs : List Field) → is_among variants number ≡ true → among variants gs ≡ run variants fs → values number gs ≡ values number (run variants fs)
run_values variants number fs gs h e = sym (values-among variants number gs h) ∙ ap (values number) e

pub run_records_sound : (fault : List ℕ → Option Fault) (variants : List ℕ) (number : ℕ) (fs gs : List Field) → is_among variants number ≡ true → among variants gs ≡ run variants fs → AreSound fault (values number fs) → AreSound fault (values number gs)
unfolding run
run_records_sound fault variants number fs gs h e s =
    rw (run_values variants number fs gs h e) (run_sound_records fault number (among variants fs) (rw (values-among variants number fs h) s))

pub run_texts_sound : (variants : List ℕ) (number : ℕ) (fs gs : List Field) → is_among variants number ≡ true → among variants gs ≡ run variants fs → AreTexts (values number fs) → AreTexts (values number gs)
unfolding run
run_texts_sound variants number fs gs h e s =
    rw (run_values variants number fs gs h e) (run_sound_texts number (among variants fs) (rw (values-among variants number fs h) s))
