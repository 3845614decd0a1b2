-- Entries, one after another, as they are shown.
use Rattle.std.proofs.Common.{ℕ, zero, suc, ◌<◌, List, [], ◌∷◌, ◌++◌, length, get_or, inl, inr, arith}
use Rattle.store_refusals.specs.declared.refusal.Refusal.{Refusal}
use Rattle.store_invocations.specs.declared.recorded.RecordedEntry.{RecordedEntry}
use Rattle.shown_records.specs.declared.entry.ShownEntry.{ShownEntry}
use Rattle.shown_records.specs.Entries.{AreShown, HasUnread, IsShown, IsUnread}

-- one more
pub shown_more : (entries : List RecordedEntry) (shown : List ShownEntry) (entry : RecordedEntry) (one : ShownEntry) → AreShown entries shown → IsShown entry one
    → AreShown (entries ++ entry ∷ []) (shown ++ one ∷ [])
shown_more [] [] entry one are is = (is, tt)
shown_more (first ∷ entries) (other ∷ shown) entry one are is = (are.0, shown_more entries shown entry one are.1 is)
shown_more [] (other ∷ shown) entry one are is = absurd are
shown_more (first ∷ entries) [] entry one are is = absurd are

-- one that is not read
pub unread_at : (entries : List RecordedEntry) (k : ℕ) (entry : RecordedEntry) (why : Refusal) → k < length entries → IsUnread (get_or entries k entry) why → HasUnread entries why
unread_at [] k entry why within is = absurd (omega arith)
unread_at (first ∷ entries) zero entry why within is = inl is
unread_at (first ∷ entries) (suc k) entry why within is = inr (unread_at entries k entry why (omega arith) is)
