-- When numbers, texts and bytes are the same.
use Rattle.std.specs.Prelude.{ℕ, Bool, List, Option, nat_eq}
use Rattle.std.specs.Option.{option_eq}
use Rattle.std.specs.Cmp.Lexicographic.{pointwise, bytes_decides}
use Rattle.protocol_equality.specs.EqualityTests.{DecidesErased, whole, in_full, numbers_decide, options_decide}

abbrev pub same_text : List ℕ → List ℕ → Bool
same_text = pointwise nat_eq

abbrev pub same_optional_text : Option (List ℕ) → Option (List ℕ) → Bool
same_optional_text = option_eq same_text

pub numbers_tell : DecidesErased nat_eq (whole {A = ℕ})
numbers_tell = in_full numbers_decide

pub texts_tell : DecidesErased same_text (whole {A = List ℕ})
texts_tell = in_full bytes_decides

pub optional_texts_tell : DecidesErased same_optional_text (whole {A = Option (List ℕ)})
optional_texts_tell = in_full (options_decide bytes_decides)
