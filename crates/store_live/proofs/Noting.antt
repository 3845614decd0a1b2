-- What was written is taken in, one write after another.
use Rattle.std.proofs.Common.{◌≡◌, ◌⊎◌, ℕ, refl, sym, ap, subst, ◌∙◌, inl, inr, Bool, true, false, if◌then◌else◌, map-id, length, List, [], ◌∷◌, ◌++◌, Option, Some, None, option_map, bytes_eq}
use Rattle.std.proofs.lemmas.Slice.Eq.{bytes_eq-Decides}
use Rattle.std.proofs.lemmas.Iterator.Consumers.{YieldsList-end}
use Rattle.std.proofs.lemmas.Iterator.Adapters.{YieldsList-from_vec}
use Rattle.std.specs.Iterator.{Yields}
use Rattle.std.specs.Vec.Iter.{into_iter_items, into_iter_len, into_iter_steps}
use Rattle.store_tables.specs.declared.row.InvocationRow.{InvocationRow}
use Rattle.store_tables.specs.declared.row.Progress.{Progress}
use Rattle.store_tables.specs.declared.row.Write.{Write}
use Rattle.store_tables.specs.declared.row.Write.TheVariants.{SetProgress}
use Rattle.store_live.specs.declared.attempt.LiveAttempt.{LiveAttempt}
use Rattle.store_live.specs.Attempts.{ByInvocation, ChangesLive, attempt_of}
use Rattle.store_live.specs.Rows.{AreNoted, live_noted, live_with_progress, row_after, row_noted, row_with_progress}

-- a vector's items, once all are yielded
pub all_yielded : {A Z : Type 0} (first : _) (items : List A) → into_iter_items first ≡ items → into_iter_len first ≡ length items → (yielded : List A) (last : _)
    → Yields (into_iter_steps {X = A} {Z = Z}) first yielded last → (end : Option A) (behind : _) → end ≡ None → into_iter_steps {X = A} {Z = Z} last end behind → yielded ≡ items
all_yielded {A} {Z} first items is len yielded last yields end behind none step =
    sym (map-id yielded) ∙ (YieldsList-end (YieldsList-from_vec {A = A} {Z = Z} {s = first} items is len) yielded last yields end behind none step).0

true_or_false : (b : Bool) → (b ≡ true) ⊎ (b ≡ false)
true_or_false true = inl refl
true_or_false false = inr refl

-- none were
pub noted_nothing : (attempts : ByInvocation) → AreNoted [] attempts attempts
noted_nothing attempts id = same (attempt_of attempts id)
  where
    same : (o : Option LiveAttempt) → o ≡ option_map (live_noted id []) o
    same None = refl
    same (Some attempt) = refl

-- one more was
row_behind : (id : List ℕ) (done : List Write) (write : Write) (row : InvocationRow) → row_after id (done ++ write ∷ []) row ≡ row_noted id write (row_after id done row)
row_behind id [] write row = refl
row_behind id (first ∷ done) write row = row_behind id done write (row_noted id first row)

pub noted_behind : (done : List Write) (write : Write) (a b c : ByInvocation) → AreNoted done a b → AreNoted (write ∷ []) b c → AreNoted (done ++ write ∷ []) a c
noted_behind done write a b c before one id =
    one id ∙ ap (option_map (live_noted id (write ∷ []))) (before id) ∙ both (attempt_of a id)
  where
    both : (o : Option LiveAttempt) → option_map (live_noted id (write ∷ [])) (option_map (live_noted id done) o) ≡ option_map (live_noted id (done ++ write ∷ [])) o
    both None = refl
    both (Some attempt) = ap (λ (row : InvocationRow). Some (record attempt { row = row })) (sym (row_behind id done write attempt.row))

-- how far an invocation is
noted_if : (other id : List ℕ) (progress : Progress) (b : Bool) → bytes_eq other id ≡ b → (o : Option LiveAttempt)
    → option_map (live_noted id (SetProgress other progress ∷ [])) o ≡ (if b then option_map (live_with_progress progress) o else o)
noted_if other id progress true e None = refl
noted_if other id progress false e None = refl
noted_if other id progress true e (Some attempt) =
    ap (λ (b : Bool). Some (record attempt { row = if b then row_with_progress progress attempt.row else attempt.row })) e
noted_if other id progress false e (Some attempt) =
    ap (λ (b : Bool). Some (record attempt { row = if b then row_with_progress progress attempt.row else attempt.row })) e

pub set_noted : (other : List ℕ) (progress : Progress) (old new : ByInvocation) → ChangesLive other (live_with_progress progress) old new → AreNoted (SetProgress other progress ∷ []) old new
set_noted other progress old new changes id = elim (true_or_false (bytes_eq other id)) [
  | inl same ↦ subst (λ (o : List ℕ). attempt_of new o ≡ option_map (live_with_progress progress) (attempt_of old o)) ((bytes_eq-Decides other id).0 same) changes.own
      ∙ sym (noted_if other id progress true same (attempt_of old id))
  | inr apart ↦ changes.others id apart ∙ sym (noted_if other id progress false apart (attempt_of old id))
]

-- nothing of how far one is
abbrev pub IsNoProgress : Write → Type 0
IsNoProgress (SetProgress other progress) = ⊥
IsNoProgress _ = Unit {0}

pub other_noted : (write : Write) (attempts : ByInvocation) → IsNoProgress write → AreNoted (write ∷ []) attempts attempts
other_noted write attempts other id = by_write write other
  where
    by_write : (write : Write) → IsNoProgress write → attempt_of attempts id ≡ option_map (live_noted id (write ∷ [])) (attempt_of attempts id)
    by_write (SetProgress id progress) other = absurd other
    by_write write other = noted_nothing attempts id

pub no_progress : (write : Write) → ((id : List ℕ) (progress : Progress) → write ≡ SetProgress id progress → ⊥) → IsNoProgress write
no_progress (SetProgress id progress) other = absurd (other id progress refl)
no_progress _ other = tt
