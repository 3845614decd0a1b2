-- What is made ready by the row of an open invocation, as the events tell it.
use Rattle.std.proofs.Common.{arith, ℕ, suc, ◌+◌, ◌==◌, ◌≡◌, refl, sym, ap, subst, ◌∙◌, inl, inr, Bool, true, false, ◌&&◌, not, if◌then◌else◌, List, [], ◌∷◌, ◌++◌, append-nil, append_assoc, length, map, flat_map, Option, Some, None, is_some, Result, Ok, Err}
use Rattle.std.specs.List.{AllByRecursion}
use Rattle.std.proofs.lemmas.Bool.{ne_eqb}
use Rattle.sqlite_trees.specs.declared.store.Store.{Ghosts}
use Rattle.sqlite.specs.Held.{Held}
use Rattle.journal_model.specs.Notification.{Text}
use Rattle.journal_model.specs.Event.{Event}
use Rattle.journal_model.specs.Journal.{is_open}
use Rattle.journal_model.specs.Cause.{Tests, open_tests, those_that_hold}
use Rattle.store_tables.specs.Looks.{OnlyAsks}
use Rattle.store_tables.specs.declared.row.InvocationRow.{InvocationRow}
use Rattle.store_tables.specs.declared.row.Progress.{Progress}
use Rattle.store_tables.specs.declared.row.Write.{Write}
use Rattle.store_tables.specs.declared.row.Write.TheVariants.{AddEntry, CloseSleepsUntil, SetProgress}
use Rattle.store_model.specs.Progress.{progress_of}
use Rattle.store_model.specs.Steps.{grown}
use Rattle.store_refusals.specs.declared.refusal.Refusal.{Refusal}
use Rattle.store_refusals.specs.RefusalConditions.{IsRefused, refusal_of_first_cause}
use Rattle.store_invocations.specs.Rows.{Decides, IsRowOf}
use Rattle.store_invocations.proofs.Refusing.{none_of_both, refused_later, refused_more}
use Rattle.store_arrivals.specs.Arrivals.{HasFewArrivals}
use Rattle.store_arrivals.specs.SleepEnds.{end_rows}
use Rattle.store_arrivals.proofs.Written.{few_arrivals, none_against_open}
use Rattle.store_arrivals.specs.Groups.{Group}
use Rattle.store_arrivals.specs.ArrivalRows.{ends_of, flagged, row_then}
use Rattle.store_arrivals.specs.PreparedTicks.{AreEndsOf, AreGroupsEnded, AreOpen, IsGroupEnded, closed_until, group_tests, group_writes, room_tests, tests_of, until_writes}

-- ---- by the events

row_id : (events : List Event) (id : Text) (row : InvocationRow) → IsRowOf events id row → row.id ≡ id
row_id events id row of_it = ap (λ (r : InvocationRow). r.id) of_it.is ∙ of_it.named

row_far : (events : List Event) (id : Text) (row : InvocationRow) → IsRowOf events id row → row.progress ≡ progress_of events id
row_far events id row of_it = ap (λ (r : InvocationRow). r.progress) of_it.is ∙ ap (progress_of events) of_it.named

pub group_ended : (events : List Event) (group : Group) (row : InvocationRow) (before after : List Write) (r : Result (Unit {0}) Refusal) → IsRowOf events group.0 row
    → Decides (room_tests row.progress.entries (length group.1)) (λ done. AreEndsOf (row_then events group.0 (ends_of group.1) row) group.1 before after) r
    → Decides (group_tests events group) (λ done. IsGroupEnded events group before after) r
group_ended events group row before after (Ok done) of_it decided =
    let id = group.0 in
    let named = row_id events id row of_it in
    let far = row_far events id row of_it in (
      ap (λ (p : Progress). those_that_hold (room_tests p.entries (length group.1))) (sym far) ∙ decided.0,
      decided.1 (subst HasFewArrivals (sym far) (few_arrivals events id))
          ∙ (λ i. before ++ (map AddEntry (end_rows (named i) (far i).entries (far i).arrivals group.1) ++ SetProgress (named i) (grown (length group.1) (length group.1) (flagged events id (ends_of group.1) (far i))) ∷ [])),
    )
group_ended events group row before after (Err why) of_it refused =
    subst (λ (p : Progress). IsRefused (those_that_hold (room_tests p.entries (length group.1))) why) (row_far events group.0 row of_it) refused

-- an open invocation is not refused for what it is
pub is_no_cause : (events : List Event) (id : Text) (tests : Tests) (why : Refusal) → is_open events id ≡ true
    → IsRefused (those_that_hold (open_tests events id)) why → IsRefused (those_that_hold tests) why
is_no_cause events id tests why opened (inl e) = nothing (sym (ap refusal_of_first_cause (none_against_open events id opened)) ∙ e)
  where
    nothing : ◌≡◌ {A = Option Refusal} None (Some why) → IsRefused (those_that_hold tests) why
    nothing f = cc
is_no_cause events id tests why opened (inr e) = inr e

-- ---- one group after another

-- so many groups were ended, and these are left
pub record HasEnded (events : List Event) (all left : List Group) (before now : List Write) : Type 0 where
  pub done : List Group
  pub split : done ++ left ≡ all
  pub none : those_that_hold (tests_of events done) ≡ []
  pub so_far : AreGroupsEnded events done before now

pub none_ended : (events : List Event) (all : List Group) (before : List Write) → HasEnded events all all before before
none_ended events all before = record { done = []; split = refl; none = refl; so_far = sym (append-nil before) }

tests-append : (events : List Event) (xs ys : List Group) → tests_of events (xs ++ ys) ≡ tests_of events xs ++ tests_of events ys
tests-append events [] ys = refl
tests-append events (x ∷ xs) ys = ap (λ (tests : Tests). group_tests events x ++ tests) (tests-append events xs ys)

writes-append : (events : List Event) (xs : List Group) (group : Group) → flat_map (group_writes events) xs ++ group_writes events group ≡ flat_map (group_writes events) (xs ++ group ∷ [])
writes-append events [] group = sym (append-nil (group_writes events group))
writes-append events (x ∷ xs) group =
    append_assoc (group_writes events x) (flat_map (group_writes events) xs) (group_writes events group)
    ∙ ap (λ (writes : List Write). group_writes events x ++ writes) (writes-append events xs group)

pub one_more_ended : (events : List Event) (all left : List Group) (group : Group) (before mid after : List Write)
    → HasEnded events all (group ∷ left) before mid → (those_that_hold (group_tests events group) ≡ []) × IsGroupEnded events group mid after
    → HasEnded events all left before after
one_more_ended events all left group before mid after has decided = record {
  done = has.done ++ group ∷ [];
  split = append_assoc has.done (group ∷ []) left ∙ has.split;
  none = ap those_that_hold (tests-append events has.done (group ∷ [])) ∙ none_of_both (tests_of events has.done) (group_tests events group ++ []) has.none
      (ap those_that_hold (append-nil (group_tests events group)) ∙ decided.0);
  so_far =
      decided.1 ∙ ap (λ (writes : List Write). writes ++ group_writes events group) has.so_far
      ∙ append_assoc before (flat_map (group_writes events) has.done) (group_writes events group)
      ∙ ap (λ (writes : List Write). before ++ writes) (writes-append events has.done group);
}

pub all_ended : (events : List Event) (all : List Group) (before after : List Write) → HasEnded events all [] before after
    → (those_that_hold (tests_of events all) ≡ []) × AreGroupsEnded events all before after
all_ended events all before after has =
    let same : has.done ≡ all = sym (append-nil has.done) ∙ has.split in
    (subst (λ (gs : List Group). those_that_hold (tests_of events gs) ≡ []) same has.none, subst (λ (gs : List Group). AreGroupsEnded events gs before after) same has.so_far)

pub one_refused : (events : List Event) (all left : List Group) (group : Group) (before mid : List Write) (why : Refusal)
    → HasEnded events all (group ∷ left) before mid → IsRefused (those_that_hold (group_tests events group)) why → IsRefused (those_that_hold (tests_of events all)) why
one_refused events all left group before mid why has refused =
    subst (λ (gs : List Group). IsRefused (those_that_hold (tests_of events gs)) why) has.split
    (subst (λ (tests : Tests). IsRefused (those_that_hold tests) why) (sym (tests-append events has.done (group ∷ left)))
    (refused_later (tests_of events has.done) (tests_of events (group ∷ left)) why has.none (refused_more (group_tests events group) (tests_of events left) why refused)))

-- the group that is next is open
next_open : (events : List Event) (group : Group) (left done : List Group) → AllByRecursion (λ (g : Group). is_open events g.0 ≡ true) (done ++ group ∷ left) → is_open events group.0 ≡ true
next_open events group left [] all = all.0
next_open events group left (x ∷ done) all = next_open events group left done all.1

module _ (events : List Event) (all lefts left : List Group) (group : Group) (before mid : List Write) (is : lefts ≡ group ∷ left)
    (has : HasEnded events all lefts before mid) (open_all : AreOpen events all) where
  here : HasEnded events all (group ∷ left) before mid
  here = subst (λ (gs : List Group). HasEnded events all gs before mid) is has

  opened : is_open events group.0 ≡ true
  opened = next_open events group left here.done (subst (AreOpen events) (sym here.split) open_all)

  pub goes_on : (after : List Write)
      → (is_open events group.0 ≡ true → (those_that_hold (group_tests events group) ≡ []) × IsGroupEnded events group mid after) → HasEnded events all left before after
  goes_on after decided = one_more_ended events all left group before mid after here (decided opened)

  pub stops : (why : Refusal) → (is_open events group.0 ≡ true → IsRefused (those_that_hold (group_tests events group)) why) → IsRefused (those_that_hold (tests_of events all)) why
  stops why refused = one_refused events all left group before mid why here (refused opened)

pub ends_all : (events : List Event) (all left : List Group) (before after : List Write) → left ≡ [] → HasEnded events all left before after
    → (those_that_hold (tests_of events all) ≡ []) × AreGroupsEnded events all before after
ends_all events all left before after none has = all_ended events all before after (subst (λ (gs : List Group). HasEnded events all gs before after) none has)

-- ---- all of them, and those that are due are closed

more : (n : ℕ) → suc n ≡ 0 → ⊥
more n e = omega (arith, e)

pub closed_with : (events : List Event) (until : ℕ) (groups : List Group) (mid after : List Write) (some : Bool) → AreGroupsEnded events groups [] mid
    → some ≡ not (length groups == 0) → after ≡ closed_until some until mid → after ≡ until_writes events until groups
closed_with events until [] mid after some are is closed = closed ∙ ap (λ (b : Bool). closed_until b until mid) is ∙ are
closed_with events until (group ∷ groups) mid after some are is closed =
    closed ∙ ap (λ (b : Bool). closed_until b until mid) (is ∙ ap not (ne_eqb (length (group ∷ groups)) 0 (more (length groups)))) ∙ ap (λ (writes : List Write). writes ++ CloseSleepsUntil until ∷ []) are

-- before anything was asked
pub looks_first : {S : Type 0} (g : Ghosts S) (a : Held S) → OnlyAsks g a a
looks_first g a = record {
  kept = λ clean is_open. (is_open, refl);
  crash = record {
    clean = omega arith;
    shield = λ it. it;
    counts = omega arith;
    limit = refl;
    closes = λ clean is_open. inl is_open;
    crash = λ clean db may. inl may;
  };
}
