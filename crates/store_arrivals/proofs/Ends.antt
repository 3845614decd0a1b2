-- The ends of the sleeps of one invocation.
use Rattle.std.proofs.Common.{arith, ℕ, ◌+◌, ◌-◌, ◌^◌, ◌≤◌, ◌<◌, nat_lt, ◌≡◌, ap, ◌∙◌, inl, inr, true, false, List, [], ◌∷◌, ◌++◌, append_assoc, length, map}
use Rattle.std.proofs.lemmas.Bool.{cases_Bool, lt-ltb, ltb-true}
use Rattle.journal_model.specs.Notification.{Text}
use Rattle.journal_model.specs.Cause.{those_that_hold}
use Rattle.journal_model.specs.declared.cause.Cause.{Cause}
use Rattle.store_tables.specs.declared.row.InvocationRow.{InvocationRow}
use Rattle.store_tables.specs.declared.row.Progress.{Progress}
use Rattle.store_tables.specs.declared.row.Write.{Write}
use Rattle.store_tables.specs.declared.row.Write.TheVariants.{AddEntry, SetProgress}
use Rattle.store_model.specs.Steps.{grown}
use Rattle.store_invocations.proofs.Refusing.{none_of_one}
use Rattle.store_arrivals.specs.Arrivals.{HasFewArrivals}
use Rattle.store_arrivals.specs.SleepEnds.{end_rows}
use Rattle.store_arrivals.specs.PreparedTicks.{AreEndsOf, progress_writes, room_tests}

-- ---- places

pub has_places : (entries more : ℕ) → entries + more < 2 ^ 32 → those_that_hold (room_tests entries more) ≡ []
has_places entries more few = none_of_one (nat_lt (2 ^ 32 - 1) (entries + more)) Cause.NumbersUsedUp within
  where
    beyond : 2 ^ 32 - 1 < entries + more → ⊥
    beyond over = omega (arith, few, over)

    within : nat_lt (2 ^ 32 - 1) (entries + more) ≡ false
    within = elim (cases_Bool (nat_lt (2 ^ 32 - 1) (entries + more))) [
      | inl e ↦ absurd (beyond (ltb-true (2 ^ 32 - 1) (entries + more) e))
      | inr e ↦ e
    ]

pub has_no_places : (entries more : ℕ) → 2 ^ 32 ≤ entries + more → nat_lt (2 ^ 32 - 1) (entries + more) ≡ true
has_no_places entries more many = lt-ltb (2 ^ 32 - 1) (entries + more) (omega (arith, many))

-- ---- all of them

-- how far the invocation is then is written last
pub written_last : (id : Text) (progress : Progress) (ns : List ℕ) (before mid after : List Write) → mid ≡ before ++ map AddEntry (end_rows id progress.entries progress.arrivals ns)
    → after ≡ mid ++ SetProgress id (grown (length ns) (length ns) progress) ∷ [] → after ≡ before ++ progress_writes id progress ns
written_last id progress ns before mid after is last =
    last ∙ ap (λ (writes : List Write). writes ++ SetProgress id (grown (length ns) (length ns) progress) ∷ []) is
    ∙ append_assoc before (map AddEntry (end_rows id progress.entries progress.arrivals ns)) (SetProgress id (grown (length ns) (length ns) progress) ∷ [])

pub ends_decided : (row : InvocationRow) (ns : List ℕ) (before after : List Write) → row.progress.entries + length ns < 2 ^ 32
    → (HasFewArrivals row.progress → after ≡ before ++ progress_writes row.id row.progress ns)
    → (those_that_hold (room_tests row.progress.entries (length ns)) ≡ []) × AreEndsOf row ns before after
ends_decided row ns before after few written = (has_places row.progress.entries (length ns) few, written)
