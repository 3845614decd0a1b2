-- Loops, as steps.
use Rattle.std.specs.Prelude.{◌≡◌, ℕ, zero, suc, ◌+◌, ◌-◌, ◌<◌, ◌≤◌, List}
use Rattle.std.proofs.Common.{arith}
use Rattle.journal_model.specs.declared.call.Answer.{Answer}
use Rattle.straight_line.specs.Steps.{Steps, Goes, ◌>>=◌, ◌>>◌, done}

-- so many rounds from one on, each from its number and what the one before has left
unfoldable pub rounds_left : {S : Type 0} → ℕ → (ℕ → S → Steps S) → ℕ → S → Steps S
rounds_left zero body round state = done state
rounds_left (suc left) body round state = do
  next ← body round state
  rounds_left left body (round + 1) next

-- `for round in from..end`, over mutable variables
abbrev pub for_rounds : {S : Type 0} → (round end : ℕ) → S → (ℕ → S → Steps S) → Steps S
for_rounds round end state body = rounds_left (end - round) body round state

pub for_rounds-step : {S : Type 0} (round end : ℕ) (state : S) (body : ℕ → S → Steps S) (answers : List Answer)
    → round < end → for_rounds round end state body answers ≡ (body round state >>= λ next. for_rounds (round + 1) end next body) answers
unfolding rounds_left
for_rounds-step round end state body answers less =
    let e : end - round ≡ suc (end - (round + 1)) = omega arith in rw e

pub for_rounds-end : {S : Type 0} (round end : ℕ) (state : S) (body : ℕ → S → Steps S) (answers : List Answer)
    → end ≤ round → for_rounds round end state body answers ≡ Goes state answers
unfolding rounds_left
for_rounds-end round end state body answers over =
    let e : end - round ≡ 0 = omega arith in rw e

-- a round goes on to the next one with what it leaves, or leaves the loop and what is around it, as `return` does
pub data Flow (S B : Type 0) : Type 0 where
  Next : S → Flow S B
  Leave : B → Flow S B

abbrev pub flow_on : {S B : Type 0} → Flow S B → (S → Steps B) → Steps B
flow_on (Next state) more = more state
flow_on (Leave value) more = done value

unfoldable pub until : {S B : Type 0} → ℕ → (ℕ → S → Steps (Flow S B)) → (S → Steps B) → ℕ → S → Steps B
until zero body after round state = after state
until (suc left) body after round state = do
  flow ← body round state
  flow_on flow λ next. until left body after (round + 1) next

-- `for round in from..end`, with a `return` in it, and what comes behind the loop
abbrev pub for_until : {S B : Type 0} → (round end : ℕ) → S → (ℕ → S → Steps (Flow S B)) → (S → Steps B) → Steps B
for_until round end state body after = until (end - round) body after round state

pub for_until-step : {S B : Type 0} (round end : ℕ) (state : S) (body : ℕ → S → Steps (Flow S B)) (after : S → Steps B) (answers : List Answer)
    → round < end → for_until round end state body after answers
    ≡ (body round state >>= λ flow. flow_on flow λ next. for_until (round + 1) end next body after) answers
unfolding until
for_until-step round end state body after answers less =
    let e : end - round ≡ suc (end - (round + 1)) = omega arith in rw e

pub for_until-end : {S B : Type 0} (round end : ℕ) (state : S) (body : ℕ → S → Steps (Flow S B)) (after : S → Steps B) (answers : List Answer)
    → end ≤ round → for_until round end state body after answers ≡ after state answers
unfolding until
for_until-end round end state body after answers over =
    let e : end - round ≡ 0 = omega arith in rw e

-- for the proof of a function with a loop: `#[tactic(auto, using(straight_line::specs::Rounds::loops))]`
pub ruleset loops = (for_rounds-step, for_rounds-end, for_until-step, for_until-end)
