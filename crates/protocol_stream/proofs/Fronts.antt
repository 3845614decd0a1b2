-- What stands at the front of a stream.
use Rattle.std.proofs.Common.{◌≡◌, ℕ, ◌+◌, ◌^◌, ◌<◌, ◌≤◌, Bool, true, false, ltb, List, ◌++◌, length, take, drop, Some, None, Result, Ok, Err, refl, ap, ◌∙◌, arith, length-append}
use Rattle.std.specs.Prelude.{if◌then◌else◌}
use Rattle.std.specs.Int.{w64, to_be_bytes, from_be_bytes}
use Rattle.std.proofs.lemmas.Nat.{from_be_bytes-to_be_bytes_8}
use Rattle.std.proofs.lemmas.Bool.{le-ltb, ltb-false}
use Rattle.std.proofs.lemmas.List.{drop-take, drop-drop, length-drop, take-append-le, drop-append-le}
use Rattle.std.proofs.Math.Seq.{take-append_seam, drop-append_seam}
use Rattle.protocol_wire.proofs.Steps.{Shrinks}
use Rattle.protocol_wire.proofs.Extends.{Extends}
use Rattle.protocol_types.specs.declared.message_type.UnknownMessageType.{UnknownMessageType}
use Rattle.protocol_stream.specs.declared.header.MessageHeader.{MessageHeader}
use Rattle.protocol_stream.specs.declared.decoder.RawMessage.{RawMessage}
use Rattle.protocol_stream.specs.Header.{message_length, word_of, header_in}
use Rattle.protocol_stream.specs.Item.{Item, message, item_behind, item_at}
use Rattle.protocol_stream.specs.Frame.{spelled, IsFrame}
use Rattle.protocol_stream.proofs.Headers.{header_in-word_of, word_of_below}

-- a header of a known type with its whole payload
pub whole_at : (bytes : List ℕ) (header : MessageHeader) → 8 ≤ length bytes → header_in (from_be_bytes w64 (take 8 bytes)) ≡ Ok header → message_length header ≤ length (drop 8 bytes)
    → item_at bytes ≡ Some (message (record { header = header; payload = drop 8 (take (8 + message_length header) bytes) }), drop (8 + message_length header) bytes)
unfolding item_at
whole_at bytes header long e whole =
    let a = le-ltb (length bytes) 8 long in
    let b = le-ltb (length (drop 8 bytes)) (message_length header) whole in
    rw (a, e, b, drop-take, drop-drop) refl

-- eight bytes of a number, and more
abbrev framed : ℕ → List ℕ → List ℕ
framed word rest = to_be_bytes w64 word ++ rest

item_at-framed : (word : ℕ) (rest : List ℕ) → word < 2 ^ 64 → item_at (framed word rest) ≡ item_behind (header_in word) rest
unfolding item_at
item_at-framed word rest fits =
    let long : ltb (length (framed word rest)) 8 ≡ false = le-ltb _ _ (omega arith) in
    rw (long, from_be_bytes-to_be_bytes_8 word fits) refl

spelled-append : (one : RawMessage) (rest : List ℕ) → spelled one ++ rest ≡ framed (word_of one.header) (one.payload ++ rest)
unfolding spelled
spelled-append one rest = refl

pub length-spelled : (one : RawMessage) → length (spelled one) ≡ 8 + length one.payload
unfolding spelled
length-spelled one = omega arith

-- A frame is the item at the front, whatever follows it.
pub item_at-spelled : (one : RawMessage) (rest : List ℕ) → IsFrame one → item_at (spelled one ++ rest) ≡ Some (message one, rest)
item_at-spelled one rest is =
    let fits : message_length one.header < 2 ^ 32 = omega (arith, is.len, is.fits) in
    let read = header_in-word_of one.header is.ty is.flag fits in
    let there : ltb (length (one.payload ++ rest)) (length one.payload) ≡ false = le-ltb _ _ (omega (arith, length-append one.payload rest)) in
    ap item_at (spelled-append one rest) ∙ item_at-framed (word_of one.header) (one.payload ++ rest) (word_of_below one.header is.ty fits) ∙ rw (read, is.len, there, take-append_seam, drop-append_seam) refl

-- ---- what is left is shorter, and what is read is read whatever follows

behind_shrinks : (bytes rest : List ℕ) (header : Result MessageHeader UnknownMessageType) → length rest < length bytes → Shrinks bytes (item_behind header rest)
behind_shrinks bytes rest (Err ty) lt = lt
behind_shrinks bytes rest (Ok header) lt =
    elim (ltb (length rest) (message_length header)) as (λ t. Shrinks {A = Item} bytes (if t then None else Some (message (record { header = header; payload = take (message_length header) rest }), drop (message_length header) rest))) [
      | true ↦ tt
      | false ↦ omega (arith, length-drop (message_length header) rest)
    ]

pub item_at_shrinks : (bytes : List ℕ) → Shrinks bytes (item_at bytes)
unfolding item_at
item_at_shrinks bytes = go (ltb (length bytes) 8) refl
  where
    go : (b : Bool) → ltb (length bytes) 8 ≡ b → Shrinks bytes (if b then None else item_behind (header_in (from_be_bytes w64 (take 8 bytes))) (drop 8 bytes))
    go true e = tt
    go false e = behind_shrinks bytes (drop 8 bytes) (header_in (from_be_bytes w64 (take 8 bytes))) (omega (arith, length-drop 8 bytes, ltb-false _ _ e))

behind_extends : (more rest : List ℕ) (header : Result MessageHeader UnknownMessageType) → Extends more (item_behind header rest) (item_behind header (rest ++ more))
behind_extends more rest (Err ty) = refl
behind_extends more rest (Ok header) = go (ltb (length rest) (message_length header)) refl
  where
    go : (b : Bool) → ltb (length rest) (message_length header) ≡ b
        → Extends more (if b then None else Some (message (record { header = header; payload = take (message_length header) rest }), drop (message_length header) rest)) (item_behind (Ok header) (rest ++ more))
    go true e = tt
    go false e =
        let le : message_length header ≤ length rest = ltb-false _ _ e in
        let there : ltb (length (rest ++ more)) (message_length header) ≡ false = le-ltb _ _ (omega (arith, length-append rest more)) in
        rw (there, take-append-le (message_length header) rest more le, drop-append-le (message_length header) rest more le) refl

pub item_at_extends : (more bytes : List ℕ) → Extends more (item_at bytes) (item_at (bytes ++ more))
unfolding item_at
item_at_extends more bytes = go (ltb (length bytes) 8) refl
  where
    go : (b : Bool) → ltb (length bytes) 8 ≡ b → Extends more (if b then None else item_behind (header_in (from_be_bytes w64 (take 8 bytes))) (drop 8 bytes)) (item_at (bytes ++ more))
    go true e = tt
    go false e =
        let le : 8 ≤ length bytes = ltb-false _ _ e in
        let long : ltb (length (bytes ++ more)) 8 ≡ false = le-ltb _ _ (omega (arith, length-append bytes more)) in
        rw (long, take-append-le 8 bytes more le, drop-append-le 8 bytes more le) (behind_extends more (drop 8 bytes) (header_in (from_be_bytes w64 (take 8 bytes))))
