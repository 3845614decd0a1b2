-- The rows of live attempts follow what is written.
use Rattle.std.proofs.Common.{◌≡◌, ◌⊎◌, refl, sym, ap, subst, ◌∙◌, inl, inr, true≢false, Bool, true, false, if◌then◌else◌, List, [], ◌∷◌, ◌++◌, map, filter, filter_map, Option, Some, None, option_map, option_to_list, bytes_eq}
use Rattle.std.proofs.lemmas.List.Elements.{filter-append}
use Rattle.std.proofs.lemmas.Slice.Eq.{bytes_eq-Decides}
use Rattle.sqlite_keyed.proofs.ListLemmas.{filter-map}
use Rattle.journal_model.specs.Notification.{Text}
use Rattle.journal_model.specs.declared.invocation.NewInvocation.{NewInvocation}
use Rattle.journal_model.specs.Event.{Event}
use Rattle.journal_model.specs.Journal.{invoked_by, invocation_begun}
use Rattle.journal_model.specs.Cause.{causes_of, IsAccepted}
use Rattle.journal_laws.proofs.ObjectState.{find-passes}
use Rattle.store_tables.specs.Questions.{has_id}
use Rattle.store_tables.specs.Records.{Records, applied, applied_all, no_records, set_in}
use Rattle.store_tables.specs.declared.row.InvocationRow.{InvocationRow}
use Rattle.store_tables.specs.declared.row.Progress.{Progress}
use Rattle.store_tables.specs.declared.row.Write.{Write}
use Rattle.store_tables.specs.declared.row.Write.TheVariants.{AddInvocation, DropInvocation, SetProgress}
use Rattle.store_model.specs.KeptRecords.{IsKept, invocation_row}
use Rattle.store_model.specs.Writes.{writes_of}
use Rattle.store_model.proofs.Finding.{all_found}
use Rattle.store_model.proofs.Keeping.{kept_after, kept_at_first}
use Rattle.store_invocations.specs.Rows.{IsRowOf}
use Rattle.store_live.specs.declared.attempt.LiveAttempt.{LiveAttempt}
use Rattle.store_live.specs.Attempts.{ByInvocation, IsNow, ChangesLive, attempt_of}
use Rattle.store_live.specs.ChangedRoom.{AreAsBefore, IsAsBefore}
use Rattle.store_live.specs.Rows.{AreNoted, live_noted, row_after, row_noted, row_with_progress}
use Rattle.store_live_laws.specs.LiveAttempts.{Agrees}
use Rattle.journal_store.specs.StoreStanding.{HasRow, KeepsOutputs}
use Rattle.journal_store.proofs.Dropping.{AllDropNone, DropsNone, event_drops_none}

-- ---- records

-- these writes keep the event, and remove no invocation
abbrev pub KeepsBy : List Event → Event → List Write → Type 0
KeepsBy events event writes = AllDropNone writes × ((r : Records) → IsAccepted events → IsKept events r → IsKept (event ∷ events) (applied_all writes r))

pub keeps_event : (events : List Event) (event : Event) (writes : List Write) → causes_of events event ≡ [] → writes ≡ writes_of events event → KeepsBy events event writes
keeps_event events event writes none are = (
  subst AllDropNone (sym are) (event_drops_none events event),
  λ r accepted kept. subst (λ (ws : List Write). IsKept (event ∷ events) (applied_all ws r)) (sym are) (kept_after events event r accepted none kept),
)

-- some records are kept of whatever was accepted
some_kept : (events : List Event) → IsAccepted events → (r : Records) × IsKept events r
some_kept [] accepted = (no_records, kept_at_first)
some_kept (event ∷ events) accepted =
    let it = some_kept events accepted.1 in (applied_all (writes_of events event) it.0, kept_after events event it.0 accepted.1 accepted.0 it.1)

-- ---- the row among them

pub turned : (x y : Text) → bytes_eq x y ≡ bytes_eq y x
turned x y = by_test (bytes_eq x y) refl (bytes_eq y x) refl
  where
    by_test : (a : Bool) → bytes_eq x y ≡ a → (b : Bool) → bytes_eq y x ≡ b → a ≡ b
    by_test true e true f = refl
    by_test false e false f = refl
    by_test true e false f = absurd (true≢false (sym ((bytes_eq-Decides y x).1 (sym ((bytes_eq-Decides x y).0 e))) ∙ f))
    by_test false e true f = absurd (true≢false (sym ((bytes_eq-Decides x y).1 (sym ((bytes_eq-Decides y x).0 f))) ∙ e))

set_named : (other : Text) (progress : Progress) (row : InvocationRow) → (set_in other progress row).id ≡ row.id
set_named other progress row = by_test (bytes_eq row.id other)
  where
    by_test : (b : Bool) → (if b then record row { progress = progress } else row).id ≡ row.id
    by_test true = refl
    by_test false = refl

noted_named : (id : Text) (write : Write) (row : InvocationRow) → (row_noted id write row).id ≡ row.id
noted_named id (SetProgress other progress) row = by_test (bytes_eq other id)
  where
    by_test : (b : Bool) → (if b then row_with_progress progress row else row).id ≡ row.id
    by_test true = refl
    by_test false = refl
noted_named id write row = refl

-- it stands first among those with its id, if any do
abbrev StandsFirst : Text → InvocationRow → List InvocationRow → Type 0
StandsFirst id row rows = (more : List InvocationRow) × (filter (has_id id) rows ≡ row ∷ more)

row_set : (id other : Text) (progress : Progress) (row : InvocationRow) → row.id ≡ id → set_in other progress row ≡ row_noted id (SetProgress other progress) row
row_set id other progress row named =
    ap (λ (b : Bool). if b then row_with_progress progress row else row) (ap (λ (x : Text). bytes_eq x other) named ∙ turned id other)

first_set : (id other : Text) (progress : Progress) (row : InvocationRow) (rows : List InvocationRow) → row.id ≡ id → StandsFirst id row rows
    → StandsFirst id (row_noted id (SetProgress other progress) row) (map (set_in other progress) rows)
first_set id other progress row rows named (more, first) = (
  map (set_in other progress) more,
  filter-map (has_id id) (set_in other progress) rows
      ∙ ap (λ (test : InvocationRow → Bool). map (set_in other progress) (filter test rows)) (λ i. λ (one : InvocationRow). bytes_eq (set_named other progress one i) id)
      ∙ ap (map (set_in other progress)) first
      ∙ ap (λ (one : InvocationRow). one ∷ map (set_in other progress) more) (row_set id other progress row named),
)

first_noted : (id : Text) (write : Write) (row : InvocationRow) (r : Records) → DropsNone write → row.id ≡ id → StandsFirst id row r.invocations → StandsFirst id (row_noted id write row) (applied write r).invocations
first_noted id (AddInvocation new) row r none named (more, first) = (
  more ++ filter (has_id id) (new ∷ []),
  filter-append (has_id id) r.invocations (new ∷ []) ∙ ap (λ (rows : List InvocationRow). rows ++ filter (has_id id) (new ∷ [])) first,
)
first_noted id (SetProgress other progress) row r none named stands = first_set id other progress row r.invocations named stands
first_noted id (DropInvocation other) row r none named stands = absurd none
first_noted id write row r none named stands = stands

first_after : (id : Text) (writes : List Write) (row : InvocationRow) (r : Records) → AllDropNone writes → row.id ≡ id → StandsFirst id row r.invocations → StandsFirst id (row_after id writes row) (applied_all writes r).invocations
first_after id [] row r none named stands = stands
first_after id (write ∷ writes) row r none named stands =
    first_after id writes (row_noted id write row) (applied write r) none.1 (noted_named id write row ∙ named) (first_noted id write row r none.0 named stands)

-- it is that of the events
only_first : (o : Option InvocationRow) (row : InvocationRow) (more : List InvocationRow) → option_to_list o ≡ row ∷ more → o ≡ Some row
only_first None row more e = cc
only_first (Some other) row more e = cc

same_row : (one other : InvocationRow) → Some one ≡ Some other → other ≡ one
same_row one other e = cc

row_begun : (events : List Event) (id : Text) (row : InvocationRow) (o : Option NewInvocation) → invocation_begun events id ≡ o → option_map (invocation_row events) o ≡ Some row → IsRowOf events id row
row_begun events id row None e is = absurd cc
row_begun events id row (Some new) e is = record {
  new = new;
  begun = e;
  named = (bytes_eq-Decides new.id id).0 (find-passes (λ other. bytes_eq other.id id) (filter_map invoked_by events) new e);
  is = same_row (invocation_row events new) row is;
}

pub row_follows : (events : List Event) (event : Event) (writes : List Write) → IsAccepted (event ∷ events) → KeepsBy events event writes
    → (id : Text) (row : InvocationRow) → IsRowOf events id row → IsRowOf (event ∷ events) id (row_after id writes row)
row_follows events event writes accepted keeps id row of =
    let it = some_kept events accepted.1 in
    let before = (all_found events it.0 accepted.1 it.1).invocation id in
    let is : option_map (invocation_row events) (invocation_begun events id) ≡ Some row = ap (option_map (invocation_row events)) of.begun ∙ ap Some (sym of.is) in
    let named : row.id ≡ id = ap (λ (one : InvocationRow). one.id) of.is ∙ of.named in
    let first = first_after id writes row it.0 keeps.0 named ([], before ∙ ap option_to_list is) in
    let after = (all_found (event ∷ events) (applied_all writes it.0) accepted (keeps.1 it.0 accepted.1 it.1)).invocation id in
    row_begun (event ∷ events) id (row_after id writes row) (invocation_begun (event ∷ events) id) refl
    (only_first (option_map (invocation_row (event ∷ events)) (invocation_begun (event ∷ events) id)) (row_after id writes row) first.0 (sym after ∙ first.1))

-- ---- in memory

-- what was written was taken in
pub rows_noted : (events : List Event) (event : Event) (writes : List Write) (old new : ByInvocation) → IsAccepted (event ∷ events) → KeepsBy events event writes → AreNoted writes old new
    → ((id : Text) → HasRow events id (attempt_of old id)) → (id : Text) → HasRow (event ∷ events) id (attempt_of new id)
rows_noted events event writes old new accepted keeps noted rows id = subst (HasRow (event ∷ events) id) (sym (noted id)) (by_attempt (attempt_of old id) (rows id))
  where
    by_attempt : (o : Option LiveAttempt) → HasRow events id o → HasRow (event ∷ events) id (option_map (live_noted id writes) o)
    by_attempt None has = tt
    by_attempt (Some attempt) has = row_follows events event writes accepted keeps id attempt.row has

-- nothing was to be taken in
pub rows_still : (events : List Event) (event : Event) (writes : List Write) (attempts : ByInvocation) → IsAccepted (event ∷ events) → KeepsBy events event writes
    → ((id : Text) (row : InvocationRow) → row_after id writes row ≡ row) → ((id : Text) → HasRow events id (attempt_of attempts id)) → (id : Text) → HasRow (event ∷ events) id (attempt_of attempts id)
rows_still events event writes attempts accepted keeps same rows id = by_attempt (attempt_of attempts id) (rows id)
  where
    by_attempt : (o : Option LiveAttempt) → HasRow events id o → HasRow (event ∷ events) id o
    by_attempt None has = tt
    by_attempt (Some attempt) has = subst (IsRowOf (event ∷ events) id) (same id attempt.row) (row_follows events event writes accepted keeps id attempt.row has)

true_or_false : (b : Bool) → (b ≡ true) ⊎ (b ≡ false)
true_or_false true = inl refl
true_or_false false = inr refl

-- of an event that writes nothing
pub rows_quiet : (events : List Event) (event : Event) (attempts : ByInvocation) → IsAccepted (event ∷ events) → writes_of events event ≡ []
    → ((id : Text) → HasRow events id (attempt_of attempts id)) → (id : Text) → HasRow (event ∷ events) id (attempt_of attempts id)
rows_quiet events event attempts accepted none rows =
    rows_still events event [] attempts accepted (keeps_event events event [] accepted.0 (sym none)) (λ id row. refl) rows

-- of one invocation it is another attempt
pub rows_now : (events : List Event) (id : Text) (attempt : Option LiveAttempt) (old new : ByInvocation) → IsNow id attempt old new → HasRow events id attempt
    → ((other : Text) → HasRow events other (attempt_of old other)) → (other : Text) → HasRow events other (attempt_of new other)
rows_now events id attempt old new now has rows other = elim (true_or_false (bytes_eq id other)) [
  | inl same ↦ subst (λ (o : Text). HasRow events o (attempt_of new o)) ((bytes_eq-Decides id other).0 same) (subst (HasRow events id) (sym now.own) has)
  | inr apart ↦ subst (HasRow events other) (sym (now.others other apart)) (rows other)
]

-- what is done to an attempt leaves its row
pub rows_changed : (events : List Event) (id : Text) (change : LiveAttempt → LiveAttempt) (old new : ByInvocation) → ((one : LiveAttempt) → (change one).row ≡ one.row) → ChangesLive id change old new
    → ((other : Text) → HasRow events other (attempt_of old other)) → (other : Text) → HasRow events other (attempt_of new other)
rows_changed events id change old new same changes rows =
    rows_now events id (option_map change (attempt_of old id)) old new changes (by_attempt (attempt_of old id) (rows id)) rows
  where
    by_attempt : (o : Option LiveAttempt) → HasRow events id o → HasRow events id (option_map change o)
    by_attempt None has = tt
    by_attempt (Some attempt) has = subst (IsRowOf events id) (sym (same attempt)) has

pub rows_before : (events : List Event) (old new : ByInvocation) → AreAsBefore old new → ((id : Text) → HasRow events id (attempt_of old id)) → (id : Text) → HasRow events id (attempt_of new id)
rows_before events old new same rows id = by_both (attempt_of old id) (attempt_of new id) (same id) (rows id)
  where
    by_both : (one other : Option LiveAttempt) → IsAsBefore one other → HasRow events id one → HasRow events id other
    by_both None None is has = tt
    by_both (Some one) (Some other) is has = subst (IsRowOf events id) (sym (ap (λ (a : LiveAttempt). a.row) is)) has
    by_both None (Some other) is has = absurd is
    by_both (Some one) None is has = absurd is

-- ---- the rest of an attempt stays

pub agrees_noted : (events : List Event) (writes : List Write) (old new : ByInvocation) → AreNoted writes old new → ((id : Text) → Agrees events id (attempt_of old id)) → (id : Text) → Agrees events id (attempt_of new id)
agrees_noted events writes old new noted live id = subst (Agrees events id) (sym (noted id)) (by_attempt (attempt_of old id) (live id))
  where
    by_attempt : (o : Option LiveAttempt) → Agrees events id o → Agrees events id (option_map (live_noted id writes) o)
    by_attempt None agrees = agrees
    by_attempt (Some attempt) agrees = record { number = agrees.number; version = agrees.version; input = agrees.input; closed = agrees.closed }

pub noted_waits : (writes : List Write) (old new : ByInvocation) → AreNoted writes old new → KeepsOutputs old new
noted_waits writes old new noted id = ap (option_map (λ (attempt : LiveAttempt). attempt.output)) (noted id) ∙ by_attempt (attempt_of old id)
  where
    by_attempt : (o : Option LiveAttempt) → option_map (λ (attempt : LiveAttempt). attempt.output) (option_map (live_noted id writes) o) ≡ option_map (λ (attempt : LiveAttempt). attempt.output) o
    by_attempt None = refl
    by_attempt (Some attempt) = refl
