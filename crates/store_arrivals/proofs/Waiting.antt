-- The request that waits for a completion, from the rows that ask for it.
use Rattle.std.proofs.Common.{true≢false, arith, ℕ, ◌≤◌, ◌==◌, ◌≡◌, refl, sym, ap, ◌∙◌, ◌⊎◌, inl, inr, Bool, true, false, not, ◌||◌, if◌then◌else◌, List, [], ◌∷◌, length, Option, Some, None, option_map, option_and_then, Result, Ok, Err}
use Rattle.std.specs.List.{list_any, find}
use Rattle.journal_model.specs.Notification.{Text}
use Rattle.journal_model.specs.Request.{Request, completions_asked}
use Rattle.journal_model.specs.Journal.{Entry, asks_for, requests_in, request_asking, open_request, is_awaited}
use Rattle.journal_laws.proofs.Leaving.{or-true}
use Rattle.protocol_types.specs.declared.message_type.MessageType.{MessageType}
use Rattle.protocol_types.specs.MessageType.{named_type}
use Rattle.journal_model.specs.Spelling.{request_type}
use Rattle.store_refusals.specs.declared.refusal.Refusal.{Refusal}
use Rattle.store_refusals.specs.Preparations.{TellsOrRefuses}
use Rattle.store_tables.specs.declared.row.EntryRow.{EntryRow}
use Rattle.store_tables.specs.Questions.{is_number}
use Rattle.store_model.specs.Progress.{first_item, second_of}
use Rattle.store_model.specs.Lookups.{row_if, first_row, second_row}
use Rattle.store_model.proofs.Opening.{or_nothing}
use Rattle.store_arrivals.specs.declared.asking.AskedCompletion.{AskedCompletion}
use Rattle.store_arrivals.specs.AskedCompletions.{as_second, is_first, is_second, first_type, second_type, completion_asked_by}

-- ---- the types of the rows

type_if : (id : Text) (b : Bool) (asked : ℕ × Request)
    → option_map (λ (e : EntryRow). e.kind) (row_if id b asked) ≡ (if b then Some (request_type asked.1) else None)
type_if id true asked = refl
type_if id false asked = refl

pub type_first : (id : Text) (n : ℕ) (asked : Option (ℕ × Request))
    → option_map (λ (e : EntryRow). e.kind) (option_and_then (first_row id n) asked)
    ≡ option_and_then (first_type n) (option_map (λ (a : ℕ × Request). a.1) asked)
type_first id n None = refl
type_first id n (Some asked) = type_if id (is_first n asked.1) asked

pub type_second : (id : Text) (n : ℕ) (asked : Option (ℕ × Request))
    → option_map (λ (e : EntryRow). e.kind) (option_and_then (second_row id n) asked)
    ≡ option_and_then (second_type n) (option_map (λ (a : ℕ × Request). a.1) asked)
type_second id n None = refl
type_second id n (Some asked) = type_if id (is_second n asked.1) asked

-- ---- a request asks for two completions at most

either_in : (n : ℕ) (ids : List ℕ) → length ids ≤ 2 → list_any (λ m. m == n) ids ≡ true
    → (is_number n (first_item ids) ≡ true) ⊎ (is_number n (second_of ids) ≡ true)
either_in n [] few e = cc
either_in n (m ∷ []) few e = inl (sym (or_nothing (m == n)) ∙ e)
either_in n (m ∷ k ∷ []) few e = elim (or-true (m == n) ((k == n) || false) e) [ inl first ↦ inl first | inr second ↦ inr (sym (or_nothing (k == n)) ∙ second) ]
either_in n (m ∷ k ∷ j ∷ ids) few e = absurd (omega arith)

at_most_two : (request : Request) → length (completions_asked request) ≤ 2
at_most_two (Request.CallService call m n name) = omega arith
at_most_two _ = omega arith

either : (n : ℕ) (request : Request) → asks_for n request ≡ true → (is_first n request ≡ true) ⊎ (is_second n request ≡ true)
either n request e = either_in n (completions_asked request) (at_most_two request) e

passes : (p : Request → Bool) (xs : List Request) (x : Request) → find p xs ≡ Some x → p x ≡ true
passes p [] x e = cc
passes p (y ∷ ys) x e = by_test (p y) refl e (passes p ys x)
  where
    by_test : (b : Bool) → p y ≡ b → (if b then Some y else find p ys) ≡ Some x → (find p ys ≡ Some x → p x ≡ true) → p x ≡ true
    by_test true t e later = let same : y ≡ x = cc in rw same at t
    by_test false t e later = later e

-- ---- the request, from both

pub first_asked : (n : ℕ) (o : Option Request) (ty : MessageType) → Some ty ≡ option_and_then (first_type n) o
    → ◌≡◌ {A = Option AskedCompletion} (Some (record { ty = ty; is_second = false })) (option_map (completion_asked_by n) o)
first_asked n None ty e = cc
first_asked n (Some request) ty e = by_test (is_first n request) refl e
  where
    by_test : (b : Bool) → is_first n request ≡ b → Some ty ≡ (if b then Some (request_type request) else None)
        → ◌≡◌ {A = Option AskedCompletion} (Some (record { ty = ty; is_second = false })) (Some (completion_asked_by n request))
    by_test true t e = let same : ty ≡ request_type request = cc in λ i. Some (record { ty = same i; is_second = not (sym t i) })
    by_test false t e = cc

pub second_asked : (n : ℕ) (entries : List Entry) → None ≡ option_and_then (first_type n) (request_asking entries n)
    → option_map as_second (option_and_then (second_type n) (request_asking entries n)) ≡ option_map (completion_asked_by n) (request_asking entries n)
second_asked n entries none = by_request (request_asking entries n) refl none
  where
    by_tests : (request : Request) (a b : Bool) → is_first n request ≡ a → is_second n request ≡ b → None ≡ (if a then Some (request_type request) else None)
        → (is_first n request ≡ true) ⊎ (is_second n request ≡ true)
        → option_map as_second (if b then Some (request_type request) else None) ≡ Some (completion_asked_by n request)
    by_tests request true b first second none e = cc
    by_tests request false true first second none e = λ i. Some (record { ty = request_type request; is_second = not (sym first i) })
    by_tests request false false first second none (inl e) = absurd (true≢false (sym e ∙ first))
    by_tests request false false first second none (inr e) = absurd (true≢false (sym e ∙ second))

    by_request : (o : Option Request) → request_asking entries n ≡ o → None ≡ option_and_then (first_type n) o
        → option_map as_second (option_and_then (second_type n) o) ≡ option_map (completion_asked_by n) o
    by_request None is none = refl
    by_request (Some request) is none =
        by_tests request (is_first n request) (is_second n request) refl refl none
        (either n request (passes (asks_for n) (requests_in entries) request is))

-- ---- while it is open

pub open_if : (n : ℕ) (entries : List Entry) → not (is_awaited entries n) ≡ false → open_request entries n ≡ request_asking entries n
open_if n entries e = by_test (is_awaited entries n) e
  where
    by_test : (b : Bool) → not b ≡ false → (if b then request_asking entries n else None) ≡ request_asking entries n
    by_test true e = refl
    by_test false e = cc

pub closed_if : (n : ℕ) (entries : List Entry) → not (is_awaited entries n) ≡ true → open_request entries n ≡ None
closed_if n entries e = by_test (is_awaited entries n) e
  where
    by_test : (b : Bool) → not b ≡ true → (if b then request_asking entries n else None) ≡ None
    by_test true e = cc
    by_test false e = refl

pub told_open : (n : ℕ) {o p : Option Request} → o ≡ p → (r : Result (Option AskedCompletion) Refusal)
    → TellsOrRefuses (λ asked. asked ≡ option_map (completion_asked_by n) p) r → TellsOrRefuses (λ asked. asked ≡ option_map (completion_asked_by n) o) r
told_open n same (Ok asked) told = told ∙ sym (ap (option_map (completion_asked_by n)) same)
told_open n same (Err why) told = told
