-- When a handler cannot take what a notification brings.
use Rattle.std.specs.Prelude.{◌≡◌, ℕ, List, ◌∷◌, ◌++◌, IsUtf8}
use Rattle.journal_model.specs.declared.notification.NotificationResult.{NotificationResult}
use Rattle.protocol_messages.specs.declared.taken.TakeError.{TakeError}
use Rattle.protocol_messages.specs.declared.taken.TakeError.TheVariants.{KeyNotText, OutOfMemory}

-- a key among them is not UTF-8
abbrev pub NotAllText : List (List ℕ) → Type 0
NotAllText keys = (front : List (List ℕ)) × (key : List ℕ) × (rest : List (List ℕ)) × (keys ≡ front ++ key ∷ rest) × (IsUtf8 key → ⊥)

abbrev pub NotTextIn : List (List ℕ) → TakeError → Type 0
NotTextIn keys KeyNotText = NotAllText keys
NotTextIn keys OutOfMemory = Unit {0}

-- only state keys that are not all text are refused, unless memory ran out
abbrev pub NotTaken : NotificationResult → TakeError → Type 0
NotTaken (NotificationResult.StateKeys keys) error = NotTextIn keys error
NotTaken _ KeyNotText = ⊥
NotTaken _ OutOfMemory = Unit {0}
