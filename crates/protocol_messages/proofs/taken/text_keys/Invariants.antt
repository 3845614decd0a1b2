use Rattle.std.proofs.Common.{◌≡◌, take}
use Rattle.protocol_messages.proofs.taken.text_keys.Given as goal

-- the keys before this one are there
abbrev pub invariant-loop-key : goal.invariant-loop-key
invariant-loop-key l = l.texts ≡ take l.key-index l.keys
