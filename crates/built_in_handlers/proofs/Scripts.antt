-- What a script does behind its last call.
use Rattle.std.proofs.Common.{◌≡◌, refl, ℕ, zero, suc, ◌≤◌, List, [], ◌∷◌, length, arith}
use Rattle.journal_model.specs.declared.call.Call.{Call}
use Rattle.journal_model.specs.declared.call.Answer.{Answer}
use Rattle.built_in_handlers.specs.Handlers.{call_at}

pub past_script : (calls : List (List Answer → Call)) (n : ℕ) (answers : List Answer) → length calls ≤ n → call_at calls n answers ≡ Call.End
past_script [] n answers past = refl
past_script (next ∷ calls) zero answers past = absurd (omega (past, arith))
past_script (next ∷ calls) (suc n) answers past = past_script calls n answers (omega (past, arith))
