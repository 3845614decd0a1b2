-- Payloads of a record that stand for one value lead to one value with the same bytes behind them: of a record that is held, and of
-- a choice of fields, variant by variant.
use Rattle.std.proofs.Common.{◌≡◌, ℕ, ◌-◌, Bool, true, false, ◌||◌, eqb, List, [], ◌∷◌, ◌++◌, Option, Some, None, refl, sym, ap, subst, ◌∙◌, eq-eqb}
use Rattle.std.specs.Prelude.{option_map}
use Rattle.protocol_wire.specs.Wire.{Field}
use Rattle.protocol_wire.specs.Fields.{fields}
use Rattle.protocol_wire.specs.Selection.{optional_u32, optional_text, optional_record, is_among, among, run, variant_of, first_present}
use Rattle.protocol_table.specs.Table.{descriptors_of, kind_in}
use Rattle.protocol_table.specs.declared.table.RecordType.{RecordType}
use Rattle.protocol_table.specs.declared.table.Kind.{Kind}
use Rattle.protocol_table.specs.declared.table.Kind.TheVariants as kinds
use Rattle.protocol_wire.proofs.Runs.{eqb_comm}
use Rattle.protocol_wire.proofs.SoundAt.{records_sound}
use Rattle.protocol_wire.proofs.Joins.{IsFine, Joins, optional_u32_joins, optional_text_joins, optional_record_joins, fields_behind}
use Rattle.protocol_wire.proofs.Standing.{stands, is_there, stands_is, variant_among, u32_stands, text_stands, bytes_stand, record_stands, run_sound, behind}

-- Payloads that stand for one record lead to one record with the same bytes behind them, whatever levels are left.
abbrev pub Join : {R : Type 0} → RecordType → (ℕ → List Field → R) → Type 0
Join t of = (levels : ℕ) → Joins IsFine levels t (of levels)

-- It is enough to say so of the fields.
pub joined : {R : Type 0} (t : RecordType) (of : List Field → R) (levels : ℕ) (a b c : List ℕ) → IsFine levels t a → IsFine levels t b → of (fields a ++ fields c) ≡ of (fields b ++ fields c) → of (fields (a ++ c)) ≡ of (fields (b ++ c))
joined t of levels a b c p q h = ap of (fields_behind levels t a c p) ∙ h ∙ sym (ap of (fields_behind levels t b c q))

-- Of a record that is held.
pub held_joins : {R : Type 0} (levels : ℕ) (t r : RecordType) (of : ℕ → List Field → R) → Join r of → (number : ℕ) (a b : List ℕ) (z : List Field) → IsFine levels t a → IsFine levels t b → kind_in (descriptors_of t) number ≡ Some (kinds.Record r)
    → optional_record (of (levels - 1)) number (fields a) ≡ optional_record (of (levels - 1)) number (fields b) → optional_record (of (levels - 1)) number (fields a ++ z) ≡ optional_record (of (levels - 1)) number (fields b ++ z)
held_joins levels t r of join number a b z p q is h =
    optional_record_joins (levels - 1) r (of (levels - 1)) (join (levels - 1)) number (fields a) (fields b) z (records_sound levels t r number a p is) (records_sound levels t r number b q is) h

-- ---- which variant stands

abbrev some : ℕ → Option ℕ
some n = Some n

never : {A : Type 0} → true ≡ false → A
never e = absurd cc

or_none : {A : Type 0} (o : Option A) → first_present o None ≡ o
or_none None = refl
or_none (Some x) = refl

module _ {E : Type 0} (number_of : E → ℕ) where
  -- Of these variants this one is there, where it is the one that stands.
  abbrev pub VariantStands : List ℕ → Option ℕ → Option E → Type 0
  VariantStands variants n None = (k : ℕ) → n ≡ Some k → is_among variants k ≡ false
  VariantStands variants n (Some e) = (n ≡ Some (number_of e)) × (is_among variants (number_of e) ≡ true)

  told : (variants : List ℕ) (n : Option ℕ) (o : Option E) → VariantStands variants n o → ((k : ℕ) → n ≡ Some k → is_among variants k ≡ true) → n ≡ option_map number_of o
  told variants n (Some e) s among = s.0
  told variants None None s among = refl
  told variants (Some k) None s among = never (sym (among k refl) ∙ s k refl)

  module _ {A : Type 0} (make : A → E) (number : ℕ) (is : (x : A) → number_of (make x) ≡ number) (variants : List ℕ) where
    stands_first : (n : Option ℕ) (s : Option A) (o : Option E) → is_there s ≡ stands n number → VariantStands variants n o → VariantStands (number ∷ variants) n (first_present (option_map make s) o)
    stands_first n (Some x) o h k =
        (stands_is n number (sym h) ∙ ap some (sym (is x)), ap (λ (m : ℕ). is_among (number ∷ variants) m) (is x) ∙ ap (λ (t : Bool). t || is_among variants number) (eq-eqb number number refl))
    stands_first n None None h k = λ m e.
        ap (λ (t : Bool). t || is_among variants m) (eqb_comm number m ∙ ap (λ (o : Option ℕ). stands o number) (sym e) ∙ sym h) ∙ k m e
    stands_first n None (Some e) h k = (k.0, go (eqb number (number_of e)) k.1)
      where
        go : (t : Bool) → is_among variants (number_of e) ≡ true → (t || is_among variants (number_of e)) ≡ true
        go true i = refl
        go false i = i

    module _ (other : is_among variants number ≡ false) where
      others_absent : (n : Option ℕ) (x : A) (o : Option E) → is_there (Some x) ≡ stands n number → VariantStands variants n o → o ≡ None
      others_absent n x None h k = refl
      others_absent n x (Some e) h k =
          let same : number ≡ number_of e = ap number_in (sym (stands_is n number (sym h)) ∙ k.0) in
          never (sym k.1 ∙ ap (is_among variants) (sym same) ∙ other)
        where
          number_in : Option ℕ → ℕ
          number_in None = 0
          number_in (Some k) = k

      not_this : (n : Option ℕ) (e : E) (x : A) → VariantStands variants n (Some e) → make x ≡ e → ⊥
      not_this n e x k same = never (sym k.1 ∙ ap (is_among variants) (sym (ap number_of same) ∙ is x) ∙ other)

      same_parts : (one : (x y : A) → make x ≡ make y → x ≡ y) (n m : Option ℕ) (s t : Option A) (o p : Option E) → is_there s ≡ stands n number → is_there t ≡ stands m number → VariantStands variants n o → VariantStands variants m p
          → first_present (option_map make s) o ≡ first_present (option_map make t) p → (s ≡ t) × (o ≡ p)
      same_parts one n m (Some x) (Some y) o p h i k l same =
          (ap there (one x y (made same)), others_absent n x o h k ∙ sym (others_absent m y p i l))
        where
          there : A → Option A
          there x = Some x

          made : Some (make x) ≡ Some (make y) → make x ≡ make y
          made same = ap (λ (o : Option E). in_it o) same
            where
              in_it : Option E → E
              in_it None = make x
              in_it (Some e) = e
      same_parts one n m (Some x) None o None h i k l same = absurd cc
      same_parts one n m (Some x) None o (Some e) h i k l same = absurd (not_this m e x l (ap in_it same))
        where
          in_it : Option E → E
          in_it None = e
          in_it (Some f) = f
      same_parts one n m None (Some y) None p h i k l same = absurd cc
      same_parts one n m None (Some y) (Some e) p h i k l same = absurd (not_this n e y k (ap in_it (sym same)))
        where
          in_it : Option E → E
          in_it None = e
          in_it (Some f) = f
      same_parts one n m None None o p h i k l same = (refl, same)

-- ---- a choice among these variants, in a record's payloads

-- the fields of the last run
abbrev Last : List ℕ → List ℕ → List Field
Last variants a = run variants (fields a)

abbrev JoinsBehind : ℕ → RecordType → List ℕ → {A : Type 0} → (List Field → A) → Type 0
JoinsBehind levels t variants read = (a b : List ℕ) (z : List Field) → IsFine levels t a → IsFine levels t b → read (Last variants a) ≡ read (Last variants b) → read (Last variants a ++ z) ≡ read (Last variants b ++ z)

-- What is read of this variant is there where its number stands, and it joins.
pub record Variant (levels : ℕ) (t : RecordType) (variants : List ℕ) {A : Type 0} (number : ℕ) (read : List Field → Option A) : Type 0 where
  pub there : (a : List ℕ) → IsFine levels t a → is_there (read (Last variants a)) ≡ stands (variant_of (Last variants a)) number
  pub joins : JoinsBehind levels t variants read

-- The same of what is read of some of the variants.
pub record Choice (levels : ℕ) (t : RecordType) (variants : List ℕ) {E : Type 0} (number_of : E → ℕ) (some : List ℕ) (view : List Field → Option E) : Type 0 where
  pub there : (a : List ℕ) → IsFine levels t a → VariantStands number_of some (variant_of (Last variants a)) (view (Last variants a))
  pub joins : JoinsBehind levels t variants view

module _ (levels : ℕ) (t : RecordType) (variants : List ℕ) (number : ℕ) (member : is_among variants number ≡ true) where
  abbrev Is : Kind → Type 0
  Is kind = kind_in (descriptors_of t) number ≡ Some kind

  pub u32_variant : Is kinds.Number → Variant levels t variants number (optional_u32 number)
  u32_variant is = record {
    there = λ a p. u32_stands levels t variants number a p member is;
    joins = λ a b z p q h. optional_u32_joins number (Last variants a) (Last variants b) z h;
  }

  pub text_variant : Is kinds.Text → Variant levels t variants number (optional_text number)
  text_variant is = record {
    there = λ a p. text_stands levels t variants number a p member is;
    joins = λ a b z p q h. optional_text_joins number (Last variants a) (Last variants b) z h;
  }

  pub bytes_variant : Is kinds.Bytes → Variant levels t variants number (optional_text number)
  bytes_variant is = record {
    there = λ a p. bytes_stand levels t variants number a p member is;
    joins = λ a b z p q h. optional_text_joins number (Last variants a) (Last variants b) z h;
  }

  pub record_variant : {R : Type 0} (r : RecordType) (of : ℕ → List Field → R) → Join r of → Is (kinds.Record r) → Variant levels t variants number (optional_record (of (levels - 1)) number)
  record_variant r of join is = record {
    there = λ a p. record_stands levels t variants number a p member (of (levels - 1)) r is;
    joins = λ a b z p q h. optional_record_joins (levels - 1) r (of (levels - 1)) (join (levels - 1)) number (Last variants a) (Last variants b) z (run_sound levels t variants number a p member r is) (run_sound levels t variants number b q member r is) h;
  }

module _ {levels : ℕ} {t : RecordType} {variants : List ℕ} {A E : Type 0} {number : ℕ} {read : List Field → Option A} (number_of : E → ℕ) (v : Variant levels t variants number read) (make : A → E) (is : (x : A) → number_of (make x) ≡ number) (one : (x y : A) → make x ≡ make y → x ≡ y) where
  -- The variant, or what is read of the others.
  pub either : {others : List ℕ} {view : List Field → Option E} → Choice levels t variants number_of others view → is_among others number ≡ false
      → Choice levels t variants number_of (number ∷ others) (λ fs. first_present (option_map make (read fs)) (view fs))
  either {others = others} {view = view} w other = record {
    there = λ a p. stands_first number_of make number is others (variant_of (Last variants a)) (read (Last variants a)) (view (Last variants a)) (v.there a p) (w.there a p);
    joins = λ a b z p q h.
        let same = same_parts number_of make number is others other one (variant_of (Last variants a)) (variant_of (Last variants b)) (read (Last variants a)) (read (Last variants b)) (view (Last variants a)) (view (Last variants b)) (v.there a p) (v.there b q) (w.there a p) (w.there b q) h in
        λ i. first_present (option_map make (v.joins a b z p q same.0 i)) (w.joins a b z p q same.1 i);
  }

  none : Choice levels t variants number_of [] (λ fs. None)
  none = record { there = λ a p k e. refl; joins = λ a b z p q h. refl }

  -- The last of the variants.
  pub only : Choice levels t variants number_of (number ∷ []) (λ fs. option_map make (read fs))
  only =
      let whole = either none refl in
      record {
        there = λ a p. subst (VariantStands number_of (number ∷ []) (variant_of (Last variants a))) (or_none (option_map make (read (Last variants a)))) (whole.there a p);
        joins = λ a b z p q h.
            sym (or_none (option_map make (read (Last variants a ++ z))))
            ∙ whole.joins a b z p q (or_none (option_map make (read (Last variants a))) ∙ h ∙ sym (or_none (option_map make (read (Last variants b)))))
            ∙ or_none (option_map make (read (Last variants b ++ z)));
      }

-- What stands of a choice, with other fields behind it.
pub choice_joins : {levels : ℕ} {t : RecordType} {variants : List ℕ} {E : Type 0} {number_of : E → ℕ} {view : List Field → Option E} → Choice levels t variants number_of variants view → (a b c : List ℕ) → IsFine levels t a → IsFine levels t b
    → view (run variants (fields a)) ≡ view (run variants (fields b)) → view (run variants (fields a ++ fields c)) ≡ view (run variants (fields b ++ fields c))
choice_joins {variants = variants} {number_of = number_of} {view = view} choice a b c p q h =
    let of_first = told number_of variants (variant_of (Last variants a)) (view (Last variants a)) (choice.there a p) (variant_among variants (fields a)) in
    let of_second = told number_of variants (variant_of (Last variants b)) (view (Last variants b)) (choice.there b q) (variant_among variants (fields b)) in
    behind view variants (fields a) (fields b) (fields c) (of_first ∙ ap (option_map number_of) h ∙ sym of_second) (choice.joins a b (among variants (fields c)) p q h)
