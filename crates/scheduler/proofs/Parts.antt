-- An attempt is fed one part of its input after another.
use Rattle.std.proofs.Common.{◌≡◌, ◌≢◌, refl, sym, ap, subst, ◌∙◌, ℕ, ◌+◌, ◌-◌, ◌==◌, ◌||◌, eqb-true, eq-eqb, arith, Bool, true, false, if◌then◌else◌, List, [], ◌∷◌, length, length-append, Some, None, IfSome, Ok, Err, ◌⊎◌, inl, inr}
use Rattle.sqlite_trees.specs.declared.store.Store.{Ghosts}
use Rattle.sqlite.specs.Held.{state}
use Rattle.sqlite.specs.State.{HasCleanDisk}
use Rattle.sqlite.proofs.StateLemmas.{survives_then}
use Rattle.journal_model.specs.Notification.{Bytes}
use Rattle.store_refusals.specs.declared.refusal.Refusal.{Refusal}
use Rattle.store_refusals.proofs.Causes.{tells_later}
use Rattle.store_calls.specs.AbstractStore.{Standing}
use Rattle.store_calls.specs.Calls.{HandsOut}
use Rattle.schedule_model.specs.Attempts.{Attempt}
use Rattle.schedule_model.specs.declared.event.Reply.TheVariants as reply
use Rattle.schedule_model.specs.declared.event.EventRefusal.TheVariants as refusal
use Rattle.schedule_model.specs.declared.held.HeldAttempt.{HeldAttempt}
use Rattle.schedule_model.specs.InputFeed.{given_in, IsAskedAgain, IsAskedFor, HandsOutEach, FeedsEach}
use Rattle.schedule_model.specs.Schedule.{FeedsOne}
use Rattle.journal_store.specs.Causes.{TellsWhy}
use Rattle.journal_store.specs.StoreView.{Stored}
use Rattle.journal_store.specs.StoreStanding.{IsQuiet, Leads}
use Rattle.scheduler.specs.SchedulerCalls.{FeedsPart, IsTakenUp, refusal_told, refused_behind}

-- nothing is committed by the one, nor by the other
pub quiet_on : {S : Type 0} (g : Ghosts S) (a b c : Stored S) → IsQuiet g a b → IsQuiet g b c → IsQuiet g a c
quiet_on g a b c first second =
    survives_then (state g a.connection) (state g b.connection) (state g c.connection) (λ _. ⊥) (λ _. ⊥) (λ _. ⊥) (λ clean db it. it) (λ clean db it. it) first second

pub last_so : (len fed count : ℕ) → ((len == 0) || (fed == count)) ≡ true → (len ≡ 0) ⊎ (fed ≡ count)
last_so len fed count e = by_len (len == 0) refl e
  where
    by_len : (b : Bool) → (len == 0) ≡ b → (b || (fed == count)) ≡ true → (len ≡ 0) ⊎ (fed ≡ count)
    by_len true is all = inl (eqb-true len 0 is)
    by_len false is all = inr (eqb-true fed count all)

pub not_last : (len fed count : ℕ) → ((len == 0) || (fed == count)) ≡ false → (len ≢ 0) × (fed ≢ count)
not_last len fed count e = by_len (len == 0) refl e
  where
    differs : (n m : ℕ) → (n == m) ≡ false → n ≢ m
    differs n m apart same = let equal : (n == m) ≡ true = eq-eqb n m same in cc

    by_len : (b : Bool) → (len == 0) ≡ b → (b || (fed == count)) ≡ false → (len ≢ 0) × (fed ≢ count)
    by_len true is none = absurd cc
    by_len false is none = (differs len 0 is, differs fed count none)

no_bytes : (bytes : Bytes) → length bytes ≡ 0 → bytes ≡ []
no_bytes [] e = refl
no_bytes (x ∷ bytes) e = absurd (omega (arith, e))

module _ {H : Type 0} (count : ℕ) (one : HeldAttempt H) where
  -- so many bytes went to it, and a further part is asked for
  pub record HasFed (fed : ℕ) (attempt : Attempt H) (s t : Standing) : Type 0 where
    pub parts : List Bytes
    pub sum : fed ≡ length (given_in parts)
    pub handed : HandsOutEach one.invocation one.number count parts s t
    pub each : FeedsEach parts one.attempt attempt
    pub again : IsAskedAgain count parts

  pub none_fed : (s : Standing) → HasFed 0 one.attempt s s
  none_fed s = record { parts = []; sum = refl; handed = refl; each = refl; again = tt }

  -- where no byte did, nothing has changed
  nothing_changed : (attempt : Attempt H) (s t : Standing) (parts : List Bytes) → length (given_in parts) ≡ 0 → HandsOutEach one.invocation one.number count parts s t
      → FeedsEach parts one.attempt attempt → IsAskedAgain count parts → (t ≡ s) × (attempt ≡ one.attempt)
  nothing_changed attempt s t [] none handed each again = (handed, each)
  nothing_changed attempt s t (last ∷ earlier) none handed each again =
      let sum = length-append (given_in earlier) last in
      absurd (again.0 (no_bytes last (let nothing : length last ≡ 0 = omega (arith, sum, none) in nothing)))

  module _ (fed : ℕ) (attempt changed : Attempt H) (s m t : Standing) (before : HasFed fed attempt s m) where
    -- one part more
    module _ (len : ℕ) (part : FeedsPart (count - fed) (record one { attempt = attempt }) (Ok len) m t changed) where
      handed_more : HandsOutEach one.invocation one.number count (part.0 ∷ before.parts) s t
      handed_more = (m, before.handed, before.again, subst (λ (k : ℕ). HandsOut one.invocation one.number (count - k) (Ok part.0) m t) before.sum part.2)

      each_more : FeedsEach (part.0 ∷ before.parts) one.attempt changed
      each_more = (attempt, before.each, part.3)

      sum_more : fed + len ≡ length (given_in (part.0 ∷ before.parts))
      sum_more =
          let sum = length-append (given_in before.parts) part.0 in
          let earlier = before.sum in
          let last = part.1 in
          omega (arith, sum, earlier, last)

      pub fed_more : (len ≢ 0) × (fed + len ≢ count) → HasFed (fed + len) changed s t
      fed_more goes_on = record {
        parts = part.0 ∷ before.parts;
        sum = sum_more;
        handed = handed_more;
        each = each_more;
        again = (λ none. goes_on.0 (part.1 ∙ ap (λ (bytes : Bytes). length bytes) none), λ full. goes_on.1 (sum_more ∙ full));
      }

      pub fed_all : (len ≡ 0) ⊎ (fed + len ≡ count) → FeedsOne count one s (reply.Fed (fed + len) None) t changed
      fed_all last = (part.0 ∷ before.parts, sum_more, (t, handed_more, each_more, (by_last last, refl)))
        where
          by_last : (len ≡ 0) ⊎ (fed + len ≡ count) → IsAskedFor count (part.0 ∷ before.parts)
          by_last (inl none) = inl (no_bytes part.0 (sym part.1 ∙ none))
          by_last (inr full) = inr (sym sum_more ∙ full)

    -- or the store refuses it
    pub fed_refused : (why : Refusal) → FeedsPart (count - fed) (record one { attempt = attempt }) (Err why) m t changed → FeedsOne count one s (refused_behind fed why) t changed
    fed_refused why part = by_fed (fed == 0) refl
      where
        by_fed : (b : Bool) → (fed == 0) ≡ b → FeedsOne count one s (if b then reply.Refused (refusal.Store why) else reply.Fed fed (Some why)) t changed
        by_fed true e =
            let none : fed ≡ 0 = eqb-true fed 0 e in
            let same = nothing_changed attempt s m before.parts (sym before.sum ∙ none) before.handed before.each before.again in
            let all : count - fed ≡ count = omega (arith, none) in (
              subst (λ (k : ℕ). HandsOut one.invocation one.number k (Err why) s t) all
                  (subst (λ (from : Standing). HandsOut one.invocation one.number (count - fed) (Err why) from t) same.0 part.0),
              part.1 ∙ same.1,
            )
        by_fed false e =
            let sum = before.sum in (
              before.parts,
              sum,
              (
                m,
                before.handed,
                subst (λ (a : Attempt H). FeedsEach before.parts one.attempt a) (sym part.1) before.each,
                (
                  λ none. (let nothing : fed ≡ 0 = sum ∙ ap (λ (bytes : Bytes). length bytes) none in let equal : (fed == 0) ≡ true = eq-eqb fed 0 nothing in cc),
                  before.again,
                  subst (λ (k : ℕ). HandsOut one.invocation one.number (count - k) (Err why) m t) sum part.0,
                ),
              ),
            )

-- ---- of a store

module _ {H S : Type 0} (g : Ghosts S) (count : ℕ) (one : HeldAttempt H) (first old new : Stored S) (fed : ℕ) (attempt changed : Attempt H)
    (so_far : Leads g (HasFed count one fed attempt) first old) (lives : IsQuiet g old new) where
  before_clean : HasCleanDisk (state g new.connection) → HasCleanDisk (state g old.connection)
  before_clean clean = omega (arith, lives.clean, clean)

  module _ (len : ℕ) (does : Leads g (λ s t. FeedsPart (count - fed) (record one { attempt = attempt }) (Ok len) s t changed) old new) where
    pub goes_further : (last : Bool) → last ≡ ((len == 0) || (fed + len == count)) → last ≡ false → Leads g (HasFed count one (fed + len) changed) first new
    goes_further last told further clean s is =
        let m = so_far (before_clean clean) s is in
        let t = does clean m.0 m.1 in
        (t.0, t.1, fed_more count one fed attempt changed s m.0 t.0 m.2 len t.2 (not_last len (fed + len) count (sym told ∙ further)))

    pub rests_so : (last : Bool) → last ≡ ((len == 0) || (fed + len == count)) → last ≡ true → Leads g (λ s t. FeedsOne count one s (reply.Fed (fed + len) None) t changed) first new
    rests_so last told ends clean s is =
        let m = so_far (before_clean clean) s is in
        let t = does clean m.0 m.1 in
        (t.0, t.1, fed_all count one fed attempt changed s m.0 t.0 m.2 len t.2 (last_so len (fed + len) count (sym told ∙ ends)))

  pub refused_so : (why : Refusal) → Leads g (λ s t. FeedsPart (count - fed) (record one { attempt = attempt }) (Err why) s t changed) old new
      → Leads g (λ s t. FeedsOne count one s (refused_behind fed why) t changed) first new
  refused_so why does clean s is =
      let m = so_far (before_clean clean) s is in
      let t = does clean m.0 m.1 in
      (t.0, t.1, fed_refused count one fed attempt changed s m.0 t.0 m.2 why t.2)

-- where a part is refused, somebody holds the attempt
pub refused_taken_up : (fed : ℕ) (why : Refusal) → IsTakenUp (refused_behind fed why)
refused_taken_up fed why = by_fed (fed == 0)
  where
    by_fed : (b : Bool) → IsTakenUp (if b then reply.Refused (refusal.Store why) else reply.Fed fed (Some why))
    by_fed true = tt
    by_fed false = tt

-- and the refusal is told
pub refused_told : (fed : ℕ) (why : Refusal) (P : Refusal → Type 0) → P why → IfSome (refusal_told (refused_behind fed why)) P
refused_told fed why P it = by_fed (fed == 0)
  where
    by_fed : (b : Bool) → IfSome (refusal_told (if b then reply.Refused (refusal.Store why) else reply.Fed fed (Some why))) P
    by_fed true = it
    by_fed false = it

-- the cause of a part is one over the parts before it too
pub cause_behind : {S : Type 0} (g : Ghosts S) (first old new : Stored S) → IsQuiet g first old → IsQuiet g old new → (why : Refusal) → TellsWhy g old new why → TellsWhy g first new why
cause_behind g first old new before lives why tells =
    tells_later (state g first.connection) (state g old.connection) (state g new.connection) (λ _. ⊥) (λ _. ⊥) before lives why tells
