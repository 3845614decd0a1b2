use Rattle.std.proofs.Common.{◌≡◌, sym, Bool, true, false, refl, List, ℕ, ◌≤◌, length, take, subst, arith}
use Rattle.std.specs.Str.{is_utf8, IsUtf8, IsAscii}
use Rattle.std.proofs.lemmas.List.{take_all}
use Rattle.std.proofs.lemmas.Str.{is_utf8-from_IsUtf8, IsUtf8-from_is_utf8, IsUtf8-from_ascii}
use Rattle.std.proofs.lemmas.Str.Ascii.{IsAscii-nil, IsAscii-more}
use Rattle.protocol_wire.proofs.check.is_text.Goals as goal

no_text : (bs : List ℕ) → ¬ (IsUtf8 bs) → false ≡ is_utf8 bs
no_text bs h = go (is_utf8 bs) refl
  where
    go : (b : Bool) → is_utf8 bs ≡ b → false ≡ b
    go true e = absurd (h (IsUtf8-from_is_utf8 bs e))
    go false e = refl

all_ascii : (bs : List ℕ) (n : ℕ) → length bs ≤ n → IsAscii (take n bs) → true ≡ is_utf8 bs
all_ascii bs n e h = sym (is_utf8-from_IsUtf8 bs (IsUtf8-from_ascii bs (subst IsAscii (take_all n bs e) h)))

pub returns-in-Ok : goal.returns-in-Ok
returns-in-Ok c = sym (is_utf8-from_IsUtf8 c.args.bytes.now c.in-Ok.ensures.cases.1)

pub returns-in-Err : goal.returns-in-Err
returns-in-Err c = no_text c.args.bytes.now c.in-Err.ensures.cases.0

pub loop-byte-init : goal.loop-byte-init
loop-byte-init c = IsAscii-nil

pub loop-byte-preserved : goal.loop-byte-preserved
loop-byte-preserved c = IsAscii-more c.args.bytes.now c.loop-byte.byte-index c.loop-byte-test.true c.loop-byte.invariant (omega (arith, c.if-byte-ge128.false))

pub returns : goal.returns
returns c = all_ascii c.args.bytes.now c.loop-byte.byte-index (omega (arith, c.loop-byte-test.false)) c.loop-byte.invariant
