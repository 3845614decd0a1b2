-- What a question of one record answers where records are kept.
use Rattle.std.proofs.Common.{◌≡◌, refl, ◌∙◌, ◌≤◌, Bool, List, [], length, filter, Option, Result, Ok, Err, IsErrAnd, IsTrue}
use Rattle.sqlite.specs.State.{State}
use Rattle.journal_model.specs.Notification.{Text}
use Rattle.journal_model.specs.Event.{Event}
use Rattle.journal_model.specs.Cause.{IsAccepted, Tests, those_that_hold}
use Rattle.sql_tables.specs.declared.read.ReadError.{ReadError}
use Rattle.sql_tables.specs.declared.read.ReadError.TheVariants.{Refused, Foreign, OutOfMemory}
use Rattle.store_tables.specs.Records.{Records}
use Rattle.store_tables.specs.Questions.{IsFound, IsAmbiguous, has_id}
use Rattle.store_model.specs.KeptRecords.{IsKept}
use Rattle.store_model.specs.Lookups.{IsOnly}
use Rattle.store_model.proofs.Only.{only_found, only_one}
use Rattle.store_model.proofs.Finding.{all_found}
use Rattle.store_refusals.specs.declared.refusal.Refusal.{Refusal}
use Rattle.store_refusals.specs.RefusalConditions.{is_circumstance, reading_refusal, IsRefused}
use Rattle.store_refusals.specs.Preparations.{Keeps, TellsOrRefuses}
use Rattle.store_invocations.specs.Rows.{Decides, row_at}

-- among the records that are kept this one alone passes
abbrev pub KeepsOnly : {X : Type 0} → List Event → (Records → List X) → (X → Bool) → Option X → Type 0
KeepsOnly events records test wanted = (r : Records) → IsAccepted events → IsKept events r → IsOnly test (records r) wanted

pub found_is : {X : Type 0} (events : List Event) (s : State) (records : Records → List X) (test : X → Bool) (wanted found : Option X)
    → Keeps events s → KeepsOnly events records test wanted → IsFound records test s.now.trees found → found ≡ wanted
found_is events s records test wanted found k only is =
    is k.records k.held ∙ only_found test (records k.records) wanted (only k.records k.accepted k.kept)

-- a refusal of a question of which one record at most passes is a circumstance
pub asked_once : {X : Type 0} (events : List Event) (s : State) (records : Records → List X) (test : X → Bool) (e : ReadError)
    → (e ≡ Foreign → IsTrue s.is_open) → (e ≡ Foreign → IsAmbiguous records test s.now.trees) → (IsTrue s.is_open → Keeps events s)
    → ((r : Records) → IsAccepted events → IsKept events r → length (filter test (records r)) ≤ 1) → IsTrue (is_circumstance (reading_refusal e))
asked_once events s records test (Refused cause) is_open ambiguous keeps once = refl
asked_once events s records test OutOfMemory is_open ambiguous keeps once = refl
asked_once events s records test Foreign is_open ambiguous keeps once =
    let k = keeps (is_open refl) in
    absurd (ambiguous refl k.records k.held (once k.records k.accepted k.kept))

pub once_of : {X : Type 0} (events : List Event) (records : Records → List X) (test : X → Bool) (wanted : Option X)
    → KeepsOnly events records test wanted → (r : Records) → IsAccepted events → IsKept events r → length (filter test (records r)) ≤ 1
once_of events records test wanted only r accepted kept = only_one test (records r) wanted (only r accepted kept)

-- an invocation is kept under its id alone
pub row_kept : (events : List Event) (id : Text) → KeepsOnly events (λ (r : Records). r.invocations) (has_id id) (row_at events id)
row_kept events id r accepted kept = (all_found events r accepted kept).invocation id

-- ---- what a `?` lets out

pub told_err : {A : Type 0} {Q : Refusal → Type 0} (IsAnswer : A → Type 0) (r : Result A Refusal) → IsErrAnd r Q
    → ((why : Refusal) → Q why → IsRefused [] why) → TellsOrRefuses IsAnswer r
told_err IsAnswer (Ok x) q f = absurd q
told_err IsAnswer (Err why) q f = f why q

pub decided_err : {A : Type 0} {Q : Refusal → Type 0} (tests : Tests) (IsMade : A → Type 0) (r : Result A Refusal) → IsErrAnd r Q
    → ((why : Refusal) → Q why → IsRefused (those_that_hold tests) why) → Decides tests IsMade r
decided_err tests IsMade (Ok x) q f = absurd q
decided_err tests IsMade (Err why) q f = f why q
