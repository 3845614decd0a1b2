-- What the values of a field are where nothing is wrong with the payload.
use Rattle.std.specs.Prelude.{◌≡◌, ℕ, List, [], ◌∷◌, Option, None, IsUtf8}
use Rattle.protocol_wire.specs.Wire.{Wire, varint, bytes, fixed}
use Rattle.protocol_wire.specs.declared.check.Fault.{Fault}

abbrev pub AreTexts : List Wire → Type 0
AreTexts [] = Unit {0}
AreTexts (varint n ∷ ws) = AreTexts ws
AreTexts (bytes b ∷ ws) = IsUtf8 b × AreTexts ws
AreTexts (fixed ∷ ws) = AreTexts ws

abbrev pub AreSound : (List ℕ → Option Fault) → List Wire → Type 0
AreSound fault [] = Unit {0}
AreSound fault (varint n ∷ ws) = AreSound fault ws
AreSound fault (bytes b ∷ ws) = (fault b ≡ None) × AreSound fault ws
AreSound fault (fixed ∷ ws) = AreSound fault ws
