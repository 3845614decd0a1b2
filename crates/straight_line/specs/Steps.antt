-- Steps of a handler: what straight-line code comes to, by the answers that are left.
use Rattle.std.specs.Prelude.{◌≡◌, ℕ, Bool, true, false, IsTrue, List, [], ◌∷◌, Option, Some, None, Result, Ok, Err, MatchResult, codes}
use Rattle.journal_model.specs.Notification.{Bytes}
use Rattle.journal_model.specs.declared.value.NonEmptyValue.{NonEmptyValue}
use Rattle.journal_model.specs.declared.value.TerminalFailure.{TerminalFailure}
use Rattle.journal_model.specs.declared.call.Call.{Call}
use Rattle.journal_model.specs.declared.call.Answer.{Answer}
use Rattle.straight_line.specs.declared.stop.Stop.{Stop}

-- what steps come to, each with the answers that are left: they stop, or go on with a value
pub data Turn (A : Type 0) : Type 0 where
  Stops : Stop → List Answer → Turn A
  Goes : A → List Answer → Turn A

abbrev pub Steps : Type 0 → Type 0
Steps A = List Answer → Turn A

abbrev pub go_on : {A B : Type 0} → Turn A → (A → Steps B) → Turn B
go_on (Stops why answers) rest = Stops why answers
go_on (Goes value answers) rest = rest value answers

-- `x ← steps` and the rest, in a `do` block
infixl 20 ◌>>=◌
abbrev pub ◌>>=◌ : {A B : Type 0} → Steps A → (A → Steps B) → Steps B
◌>>=◌ steps rest = λ answers. go_on (steps answers) rest

-- steps and the rest
infixl 20 ◌>>◌
abbrev pub ◌>>◌ : {A B : Type 0} → Steps A → Steps B → Steps B
◌>>◌ steps rest = λ answers. go_on (steps answers) (λ value. rest)

-- `Ok(value)`
abbrev pub done : {A : Type 0} → A → Steps A
done value = λ answers. Goes value answers

-- `Err(why)`
abbrev pub stop : {A : Type 0} → Stop → Steps A
stop why = λ answers. Stops why answers

abbrev pub fail : {A : Type 0} → TerminalFailure → Steps A
fail failure = stop (Stop.Failed failure)

-- for an answer of another kind than its call can have
abbrev pub astray : {A : Type 0} → Steps A
astray = stop Stop.Astray

-- `result?`
abbrev pub or_fail : {A : Type 0} → Result A TerminalFailure → Steps A
or_fail (Ok value) = done value
or_fail (Err failure) = fail failure

-- `match result { Ok(value) => .., Err(failure) => .. }`
abbrev pub by_result : {A B : Type 0} → Result A TerminalFailure → (A → Steps B) → (TerminalFailure → Steps B) → Steps B
by_result (Ok value) fine failed = fine value
by_result (Err failure) fine failed = failed failure

-- `match option { Some(value) => .., None => .. }`
abbrev pub by_option : {A B : Type 0} → Option A → (A → Steps B) → Steps B → Steps B
by_option (Some value) some none = some value
by_option None some none = none

-- a call: it is the next one, or has an answer
abbrev pub make : Call → Steps Answer
make call [] = Stops (Stop.Call call) []
make call (answer ∷ answers) = Goes answer answers

abbrev pub is_at_end : List Answer → Bool
is_at_end [] = true
is_at_end (answer ∷ answers) = false

abbrev pub recovered : {A : Type 0} → (TerminalFailure → Steps A) → Stop → Steps A
recovered otherwise (Stop.Failed failure) = otherwise failure
recovered otherwise why = stop why

abbrev pub caught : {A : Type 0} → Turn A → (TerminalFailure → Steps A) → Turn A
caught (Goes value answers) otherwise = Goes value answers
caught (Stops why answers) otherwise = recovered otherwise why answers

-- steps, and what is done when they fail: a `match` over `Err(Stop::Failed(failure))`
abbrev pub on_failure : {A : Type 0} → Steps A → (TerminalFailure → Steps A) → Steps A
on_failure steps otherwise = λ answers. caught (steps answers) otherwise

abbrev pub tried_turn : {A : Type 0} → Turn A → Turn (Result A TerminalFailure)
tried_turn (Goes value answers) = Goes (Ok value) answers
tried_turn (Stops (Stop.Failed failure) answers) = Goes (Err failure) answers
tried_turn (Stops why answers) = Stops why answers

-- steps whose failure is a result: a `match` over `Ok(value)` and `Err(Stop::Failed(failure))`
abbrev pub tried : {A : Type 0} → Steps A → Steps (Result A TerminalFailure)
tried steps = λ answers. tried_turn (steps answers)

-- all but that memory was refused
abbrev pub is_told : Stop → Bool
is_told Stop.NoMemory = false
is_told _ = true

-- a function makes these steps: what it returns, and the answers that it leaves, are what they come to, unless memory was refused
abbrev pub Makes : {A : Type 0} → Steps A → List Answer → Result A Stop → List Answer → Type 0
Makes steps old result new =
    MatchResult result (λ value. steps old ≡ Goes value new) (λ why. IsTrue (is_told why) → steps old ≡ Stops why new)

-- a handler that is over puts out its result, and ends
abbrev pub ending : NonEmptyValue → List Answer → Call
ending value [] = Call.Output value (record { unstable_serialization = false })
ending value (answer ∷ answers) = Call.End

unfoldable pub went_astray : TerminalFailure
went_astray = record { code = 500; message = codes "an answer of another kind"; metadata = [] }

abbrev pub call_at_stop : Stop → List Answer → Call
call_at_stop (Stop.Call call) answers = call
call_at_stop (Stop.Failed failure) answers = ending (NonEmptyValue.Failure failure) answers
call_at_stop Stop.Astray answers = ending (NonEmptyValue.Failure went_astray) answers
call_at_stop Stop.NoMemory answers = Call.End

abbrev pub call_at : Turn Bytes → Call
call_at (Goes value answers) = ending (NonEmptyValue.Success value) answers
call_at (Stops why answers) = call_at_stop why answers

-- the next call of a handler that makes these steps
abbrev pub next_of : Steps Bytes → List Answer → Call
next_of steps answers = call_at (steps answers)
