-- Rows of arrivals, one after another.
use Rattle.std.proofs.Common.{◌≡◌, ◌+◌, ◌<◌, ◌≤◌, ℕ, zero, suc, arith, List, [], ◌∷◌, ◌++◌, length, take, drop, get_or, refl, sym, ap, subst, ◌∙◌, add-one, IsTrue, inr}
use Rattle.journal_model.specs.Notification.{Arrival}
use Rattle.store_tables.specs.declared.row.EntryRow.{EntryRow}
use Rattle.store_refusals.specs.declared.refusal.Refusal.{Refusal}
use Rattle.store_refusals.specs.RefusalConditions.{IsRefused, is_circumstance}
use Rattle.store_frames.specs.declared.kept_fault.KeptFault.{KeptFault}
use Rattle.store_frames.specs.declared.kept_fault.KeptFault.TheVariants.{OutOfMemory, Foreign}
use Rattle.store_frames.specs.KeptArrivals.{IsWantOfMemory}
use Rattle.store_arrivals.specs.ArrivalRows.{AreRowsOf, IsHeardAs, fault_refusal}

-- ---- the row at a place

pub record IsNext (arrivals : List Arrival) (i : ℕ) (row : EntryRow) : Type 0 where
  pub arrival : Arrival
  pub heard : IsHeardAs arrival row
  pub more : take (i + 1) arrivals ≡ take i arrivals ++ arrival ∷ []

next_at : (arrivals : List Arrival) (rows : List EntryRow) (i : ℕ) (row : EntryRow) → AreRowsOf arrivals rows → i < length rows → row ≡ get_or rows i row
    → (arrival : Arrival) × IsHeardAs arrival row × (take (suc i) arrivals ≡ take i arrivals ++ arrival ∷ [])
next_at [] [] i row are low is = absurd (omega (arith, low))
next_at [] (one ∷ rows) i row are low is = absurd are
next_at (arrival ∷ arrivals) [] i row are low is = absurd are
next_at (arrival ∷ arrivals) (one ∷ rows) zero row are low is = (arrival, subst (IsHeardAs arrival) (sym is) are.0, refl)
next_at (arrival ∷ arrivals) (one ∷ rows) (suc i) row are low is =
    let it = next_at arrivals rows i row are.1 (omega (arith, low)) is in
    (it.0, it.1, ap (λ (rest : List Arrival). arrival ∷ rest) it.2)

pub is_next : (arrivals : List Arrival) (rows : List EntryRow) (i : ℕ) (row : EntryRow) → AreRowsOf arrivals rows → i < length rows → row ≡ get_or rows i row → IsNext arrivals i row
is_next arrivals rows i row are low is =
    let it = next_at arrivals rows i row are low is in
    record { arrival = it.0; heard = it.1; more = ap (λ (n : ℕ). take n arrivals) (add-one i) ∙ it.2 }

pub as_many : (arrivals : List Arrival) (rows : List EntryRow) → AreRowsOf arrivals rows → length arrivals ≡ length rows
as_many [] [] are = refl
as_many [] (row ∷ rows) are = absurd are
as_many (arrival ∷ arrivals) [] are = absurd are
as_many (arrival ∷ arrivals) (row ∷ rows) are = ap suc (as_many arrivals rows are.1)

pub those_behind : (k : ℕ) (arrivals : List Arrival) (rows : List EntryRow) → AreRowsOf arrivals rows → AreRowsOf (drop k arrivals) (drop k rows)
those_behind zero arrivals rows are = are
those_behind (suc k) [] [] are = tt
those_behind (suc k) [] (row ∷ rows) are = absurd are
those_behind (suc k) (arrival ∷ arrivals) [] are = absurd are
those_behind (suc k) (arrival ∷ arrivals) (row ∷ rows) are = those_behind k arrivals rows are.1

-- ---- faults

pub fault_refused : (fault : KeptFault) (why : Refusal) → IsWantOfMemory fault → why ≡ fault_refusal fault → IsRefused [] why
fault_refused OutOfMemory why h e = inr (subst (λ (w : Refusal). IsTrue (is_circumstance w)) (sym e) refl)
fault_refused Foreign why h e = absurd h
