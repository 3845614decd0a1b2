-- What stands of a oneof is read from its last run on.
use Rattle.std.proofs.Common.{◌≡◌, ℕ, true, List, [], None, sym, ap, ◌∙◌}
use Rattle.std.specs.Prelude.{option_map}
use Rattle.protocol_wire.specs.Wire.{Wire, Field}
use Rattle.protocol_wire.specs.Fields.{fields}
use Rattle.protocol_wire.specs.Selection.{values, last_number_or, last_number, last_bytes_or, last_bytes, low, optional_u32, optional_text, each_bytes, texts, joined_bytes, optional_record, is_among, among, run}
use Rattle.protocol_wire.proofs.Runs.{run_values, none_stands}

pub among_nothing : (variants : List ℕ) (none whole : List Field) → none ≡ [] → whole ≡ [] → among variants none ≡ whole
among_nothing variants none whole n e = ap (among variants) n ∙ sym e

module _ (variants : List ℕ) (number : ℕ) (fs gs : List Field) (member : is_among variants number ≡ true) (e : among variants gs ≡ run variants fs) where
  pub chosen_number : optional_u32 number gs ≡ optional_u32 number (run variants fs)
  unfolding last_number
  chosen_number = ap (λ (ws : List Wire). option_map low (last_number_or None ws)) (run_values variants number fs gs member e)

  pub chosen_text : optional_text number gs ≡ optional_text number (run variants fs)
  unfolding last_bytes
  chosen_text = ap (last_bytes_or None) (run_values variants number fs gs member e)

  pub chosen_record : {R : Type 0} (of : List Field → R) → optional_record of number gs ≡ optional_record of number (run variants fs)
  unfolding texts
  chosen_record of = ap (λ (ws : List Wire). option_map (λ payload. of (fields payload)) (joined_bytes (each_bytes ws))) (run_values variants number fs gs member e)

module _ (variants : List ℕ) (number : ℕ) (fs gs : List Field) (member : is_among variants number ≡ true) (same : gs ≡ fs) (e : values number gs ≡ []) where
  absent_values : [] ≡ values number (run variants fs)
  absent_values = sym (none_stands variants number fs member (ap (values number) (sym same) ∙ e))

  pub absent_number : None ≡ optional_u32 number (run variants fs)
  unfolding last_number
  absent_number = ap (λ (ws : List Wire). option_map low (last_number_or None ws)) absent_values

  pub absent_text : None ≡ optional_text number (run variants fs)
  unfolding last_bytes
  absent_text = ap (last_bytes_or None) absent_values

  pub absent_record : {R : Type 0} (of : List Field → R) → None ≡ optional_record of number (run variants fs)
  unfolding texts
  absent_record of = ap (λ (ws : List Wire). option_map (λ payload. of (fields payload)) (joined_bytes (each_bytes ws))) absent_values
