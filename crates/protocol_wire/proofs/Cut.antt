-- A stream in two pieces.
use Rattle.std.proofs.Common.{◌≡◌, ℕ, zero, suc, ◌≤◌, ◌<◌, List, [], ◌∷◌, ◌++◌, length, Option, Some, None, refl, ap, subst, ◌∙◌, arith}
use Rattle.protocol_wire.specs.Items.{items, left}
use Rattle.protocol_wire.proofs.Steps.{Shrinks, items_read, items_ended, left_read, left_ended}
use Rattle.protocol_wire.proofs.Extends.{Extends}

module _ {A : Type 0} (read : List ℕ → Option (A × List ℕ)) (shrinks : (bs : List ℕ) → Shrinks bs (read bs)) (extends : (c bs : List ℕ) → Extends c (read bs) (read (bs ++ c))) where
  cut_within : (k : ℕ) (a b : List ℕ) → length a ≤ k → items read (a ++ b) ≡ items read a ++ items read (left read a ++ b)
  cut_within zero [] b le = rw (items_ended read shrinks [] ended, left_ended read shrinks [] ended) refl
    where
      none : (r : Option (A × List ℕ)) → Shrinks [] r → r ≡ None
      none None h = refl
      none (Some x) h = absurd (omega arith)

      ended : read [] ≡ None
      ended = none (read []) (shrinks [])
  cut_within zero (x ∷ a) b le = absurd (omega arith)
  cut_within (suc k) a b le = go (read a) refl (λ rest p. cut_within k rest b p)
    where
      go : (r : Option (A × List ℕ)) → read a ≡ r → ((rest : List ℕ) → length rest ≤ k → items read (rest ++ b) ≡ items read rest ++ items read (left read rest ++ b)) → items read (a ++ b) ≡ items read a ++ items read (left read a ++ b)
      go None e again = rw (items_ended read shrinks a e, left_ended read shrinks a e) refl
      go (Some x) e again =
          let shorter : length x.1 < length a = subst (λ (r : Option (A × List ℕ)). Shrinks a r) e (shrinks a) in
          let more : read (a ++ b) ≡ Some (x.0, x.1 ++ b) = subst (λ (r : Option (A × List ℕ)). Extends b r (read (a ++ b))) e (extends b a) in
          rw (items_read read shrinks a x.0 x.1 e, left_read read shrinks a x.0 x.1 e) (items_read read shrinks (a ++ b) x.0 (x.1 ++ b) more ∙ ap (λ (fs : List A). x.0 ∷ fs) (again x.1 (omega arith)))

  -- The items of a stream in two pieces: those of the first, and those of what it left and the second.
  pub items_cut : (a b : List ℕ) → items read (a ++ b) ≡ items read a ++ items read (left read a ++ b)
  items_cut a b = cut_within (length a) a b (omega arith)
