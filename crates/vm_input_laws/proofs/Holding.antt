-- An arrival of which all bytes are held is a whole message.
use Rattle.std.proofs.Common.{◌≡◌, ◌∙◌, ℕ, ◌≤◌, ◌-◌, ◌+◌, Bool, true, false, List, [], ◌∷◌, ◌++◌, map, take, drop, length, take-append-drop, refl, sym, ap}
use Rattle.std.specs.Prelude.{if◌then◌else◌, nat_le}
use Rattle.std.proofs.lemmas.Bool.{leb-true}
use Rattle.std.proofs.lemmas.List.{take-append-le}
use Rattle.std.proofs.Math.Seq.{take-append_seam}
use Rattle.protocol_stream.specs.Item.{item_at, message}
use Rattle.journal_model.specs.Attempt.{input_bytes, arrivals_within}
use Rattle.input_laws.specs.Message.{piece_of}
use Rattle.vm_input_laws.specs.InputMessages.{NoArrivalIsHeld}
use Rattle.vm_input_laws.specs.Messages.{raw_of}
use Rattle.vm_input_laws.proofs.Inputs.{front, some_is_none}

pub no_arrival_is_held : NoArrivalIsHeld
no_arrival_is_held [] held coming fit bytes none = refl
no_arrival_is_held (one ∷ more) held coming fit bytes none = by_test (nat_le (length (piece_of one).bytes) (length held)) refl
  where
    by_test : (b : Bool) → nat_le (length (piece_of one).bytes) (length held) ≡ b
        → (if b then (if (piece_of one).is_arrival then 1 else 0) + arrivals_within (map piece_of more) (length held - length (piece_of one).bytes) else 0) ≡ 0
    by_test false test = refl
    by_test true test =
        let long : length (piece_of one).bytes ≤ length held = leb-true (length (piece_of one).bytes) (length held) test in
        let same : take (length (piece_of one).bytes) held ≡ (piece_of one).bytes =
        sym (take-append-le (length (piece_of one).bytes) held coming long) ∙ ap (take (length (piece_of one).bytes)) bytes ∙ take-append_seam (piece_of one).bytes (input_bytes (map piece_of more)) in
        let whole : held ≡ (piece_of one).bytes ++ drop (length (piece_of one).bytes) held =
        sym (take-append-drop (length (piece_of one).bytes) held) ∙ ap (λ (some : List ℕ). some ++ drop (length (piece_of one).bytes) held) same in
        absurd (some_is_none (message (raw_of one), drop (length (piece_of one).bytes) held)
        (sym (front one fit.0 (drop (length (piece_of one).bytes) held)) ∙ ap item_at (sym whole) ∙ none))
