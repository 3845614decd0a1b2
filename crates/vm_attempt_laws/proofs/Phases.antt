-- Whether an attempt whose input was not read has its journal.
use Rattle.std.proofs.Common.{◌≡◌, ◌⊎◌, inl, inr, ◌∙◌, ◌+◌, ◌-◌, ◌<◌, arith, ℕ, suc, Bool, true, List, [], ◌∷◌, ◌++◌, length, length-append, if◌then◌else◌, refl, sym, ap}
use Rattle.std.specs.Prelude.{nat_lt}
use Rattle.std.proofs.lemmas.Bool.{lt-ltb}
use Rattle.vm_input_laws.proofs.Messages.{input_active}
use Rattle.vm_attempt_laws.proofs.Messages.{read_input}
use Rattle.vm_attempt_laws.specs.Machine.phases
use Rattle.vm_attempt_laws.specs.Machine.{Phase}
use Rattle.vm_attempt_laws.specs.InputOfAttempt.{phase_then, phase_behind, IsInputOf}
use Rattle.vm_attempt_laws.specs.Words.{InputMessage, CarriesInput, AttemptInRun, HasReadJournal}

-- one entry fewer is waited for, and not the last
one_less : (left : ℕ) → 0 < left → phase_then (phases.WaitingReplayEntries (suc left)) ≡ phases.WaitingReplayEntries left
one_less left some =
    let more : nat_lt 1 (suc left) ≡ true = lt-ltb 1 (suc left) (omega (arith, some)) in
    let less : suc left - 1 ≡ left = omega arith in
    ap (λ (b : Bool). if b then phases.WaitingReplayEntries (suc left - 1) else phases.Active) more ∙ ap (λ (n : ℕ). phases.WaitingReplayEntries n) less

still_waits : (read : List InputMessage) (next : InputMessage) (more : List InputMessage)
    → phase_behind read (phases.WaitingReplayEntries (length (read ++ next ∷ more))) ≡ phases.WaitingReplayEntries (length (next ∷ more))
still_waits [] next more = refl
still_waits (one ∷ read) next more = ap (phase_behind read) (one_less (length (read ++ next ∷ more)) some) ∙ still_waits read next more
  where
    all : length (read ++ next ∷ more) ≡ length read + suc (length more)
    all = length-append read (next ∷ more)

    some : 0 < length (read ++ next ∷ more)
    some = omega (arith, all)

-- the first of all these are those, or some of those
data Splits (some first : List InputMessage) : Type 0 where
  behind : (later : List InputMessage) → some ≡ first ++ later → Splits some first
  before : (one : InputMessage) (more : List InputMessage) → first ≡ some ++ one ∷ more → Splits some first

split : (some more first later : List InputMessage) → some ++ more ≡ first ++ later → Splits some first
split some more [] later e = behind some refl
split [] more (one ∷ first) later e = before one first refl
split (x ∷ some) more (one ∷ first) later e = go (split some more first later tails)
  where
    heads : x ≡ one
    heads = cc

    tails : some ++ more ≡ first ++ later
    tails = cc

    go : Splits some first → Splits (x ∷ some) (one ∷ first)
    go (behind rest is) = behind rest (λ i. heads i ∷ is i)
    go (before other others is) = before other others (λ i. sym heads i ∷ is i)

one_more : (n : ℕ) → suc n ≡ 1 + n
one_more n = omega arith

module _ (live : AttemptInRun) (phase : Phase) (is : IsInputOf live.start (live.read ++ live.unread)) (waits : phase ≡ phase_behind live.read (phases.WaitingReplayEntries (1 + length live.start.journal))) where
  abbrev entries : List InputMessage
  entries = CarriesInput live.start.new ∷ live.start.journal

  -- it has, and calls are made of it; or it has not, and its machine waits for more
  abbrev Stage : Type 0
  Stage = (HasReadJournal live × (phase ≡ phases.Active)) ⊎ ((HasReadJournal live → ⊥) × ((left : ℕ) × (phase ≡ phases.WaitingReplayEntries left)))

  too_few : (one : InputMessage) (more : List InputMessage) → entries ≡ live.read ++ one ∷ more → HasReadJournal live → ⊥
  too_few one more short r =
      let all : length live.read + suc (length more) ≡ suc (length live.start.journal) = sym (length-append live.read (one ∷ more)) ∙ ap length (sym short) in
      let some : length live.read ≡ suc (length live.start.journal) + length r.later =
      ap length r.parts ∙ ap suc (length-append live.start.journal r.later) ∙ sum (length live.start.journal) (length r.later) in
      absurd (omega (arith, all, some))
    where
      sum : (a b : ℕ) → suc (a + b) ≡ suc a + b
      sum a b = omega arith

  staged : Splits live.read entries → Stage
  staged (behind later parts) =
      let r : HasReadJournal live = record { later = later; parts = parts } in
      inl (r, waits ∙ input_active live.start live.read (read_input live r is))
  staged (before one more short) = inr (
    too_few one more short,
    (
      suc (length more),
      waits ∙ ap (λ (n : ℕ). phase_behind live.read (phases.WaitingReplayEntries n)) (sym (one_more (length live.start.journal)))
          ∙ ap (λ (all : List InputMessage). phase_behind live.read (phases.WaitingReplayEntries (length all))) short ∙ still_waits live.read one more,
    ),
  )

  pub stage : Stage
  stage = staged (split live.read live.unread entries is.later is.parts)
