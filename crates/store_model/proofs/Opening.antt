-- An object's open invocation is found where the object is busy, and no second one.
use Rattle.std.proofs.Common.{ℕ, suc, ◌≤◌, arith, ◌≡◌, refl, sym, ap, ap₂, subst, ◌∙◌, inl, inr, true≢false, Bool, true, false, ◌&&◌, ◌||◌, if◌then◌else◌, List, [], ◌∷◌, length, map, filter, filter_map, Option, Some, None, is_some, option_map, bytes_eq}
use Rattle.std.specs.List.{AllByRecursion, find, list_any, cons_option}
use Rattle.std.proofs.lemmas.Bool.{cases_Bool}
use Rattle.std.proofs.lemmas.List.Folds.{list_any-append}
use Rattle.std.proofs.lemmas.Slice.Eq.{bytes_eq-Decides}
use Rattle.sqlite_keyed.proofs.ListLemmas.{filter-map, all_weaker, all-append}
use Rattle.journal_model.specs.Notification.{Text}
use Rattle.journal_model.specs.declared.invocation.NewInvocation.{NewInvocation}
use Rattle.journal_model.specs.Event.{Event}
use Rattle.journal_model.specs.Journal.{invoked_by, invocation_begun, is_open, is_busy}
use Rattle.journal_model.specs.Cause.{IsAccepted}
use Rattle.journal_laws.proofs.ObjectState.{begin_when_new, begun_before, find-passes, open_alone}
use Rattle.store_tables.specs.Questions.{is_text, is_open_of}
use Rattle.store_model.specs.KeptRecords.{begun, begun_by, invocation_row}
use Rattle.store_model.specs.Lookups.{AllOpenOnce}
use Rattle.store_model.proofs.Only.{only_one}
use Rattle.store_model.proofs.Finding.{named_once}

-- ---- lists

abbrev pub is_some_of : {A : Type 0} → List A → Bool
is_some_of [] = false
is_some_of (x ∷ xs) = true

pub filter_on : {A : Type 0} (p q : A → Bool) (xs : List A) → AllByRecursion (λ x. p x ≡ q x) xs → filter p xs ≡ filter q xs
filter_on p q [] h = refl
filter_on {A} p q (x ∷ xs) h = ap₂ (λ (b : Bool) (rest : List A). if b then x ∷ rest else rest) h.0 (filter_on p q xs h.1)

pub is_some-find : {A : Type 0} (p : A → Bool) (xs : List A) → is_some (find p xs) ≡ is_some_of (filter p xs)
is_some-find p [] = refl
is_some-find p (x ∷ xs) = elim (cases_Bool (p x)) [ inl e ↦ rw e refl | inr e ↦ rw e (is_some-find p xs) ]

pub any-filter : {A : Type 0} (p : A → Bool) (xs : List A) → list_any p xs ≡ is_some_of (filter p xs)
any-filter p [] = refl
any-filter p (x ∷ xs) = elim (cases_Bool (p x)) [ inl e ↦ rw e refl | inr e ↦ rw e (any-filter p xs) ]

pub some-map : {A B : Type 0} (f : A → B) (xs : List A) → is_some_of (map f xs) ≡ is_some_of xs
some-map f [] = refl
some-map f (x ∷ xs) = refl

all_at_found : (P : NewInvocation → Type 0) (p : NewInvocation → Bool) (xs : List NewInvocation) (x : NewInvocation) → AllByRecursion P xs → find p xs ≡ Some x → P x
all_at_found P p [] x h e = cc
all_at_found P p (y ∷ ys) x h e = by_test (p y) e (all_at_found P p ys x h.1)
  where
    by_test : (b : Bool) → (if b then Some y else find p ys) ≡ Some x → (find p ys ≡ Some x → P x) → P x
    by_test true e later = let same : y ≡ x = cc in subst P same h.0
    by_test false e later = later e

none_found : (p : NewInvocation → Bool) (xs : List NewInvocation) → find p xs ≡ None → filter p xs ≡ []
none_found p [] e = refl
none_found p (x ∷ xs) e = by_test (p x) e (none_found p xs)
  where
    by_test : (b : Bool) → (if b then Some x else find p xs) ≡ None → (find p xs ≡ None → filter p xs ≡ []) → (if b then x ∷ filter p xs else filter p xs) ≡ []
    by_test true e later = cc
    by_test false e later = later e

-- ---- each that was begun is the one of its id

abbrev IsItself : List Event → NewInvocation → Type 0
IsItself events new = invocation_begun events new.id ≡ Some new

stays_itself : (event : Event) (events : List Event) → IsAccepted (event ∷ events) → (old : NewInvocation) → IsItself events old → IsItself (event ∷ events) old
stays_itself (Event.Invoke new) events accepted old is = by_test (bytes_eq new.id old.id) refl
  where
    by_test : (b : Bool) → bytes_eq new.id old.id ≡ b → (if b then Some new else invocation_begun events old.id) ≡ Some old
    by_test true e =
        let same : new.id ≡ old.id = (bytes_eq-Decides new.id old.id).0 e in
        let unknown : is_some (invocation_begun events old.id) ≡ false = subst (λ (x : Text). is_some (invocation_begun events x) ≡ false) same (begin_when_new events new accepted.0) in
        absurd (true≢false (sym (ap (λ (o : Option NewInvocation). is_some o) is) ∙ unknown))
    by_test false e = is
stays_itself event events accepted old is = begun_before event events old.id refl ∙ is

each_itself : (events : List Event) → IsAccepted events → AllByRecursion (IsItself events) (begun events)
each_itself [] accepted = tt
each_itself (event ∷ earlier) accepted =
    all-append (IsItself (event ∷ earlier)) (begun earlier) (begun_by event)
    (all_weaker (IsItself earlier) (IsItself (event ∷ earlier)) (stays_itself event earlier accepted) (begun earlier) (each_itself earlier accepted.1))
    (new_itself event earlier)
  where
    new_itself : (event : Event) (earlier : List Event) → AllByRecursion (IsItself (event ∷ earlier)) (begun_by event)
    new_itself (Event.Invoke new) earlier =
        (ap (λ (b : Bool). if b then Some new else invocation_begun earlier new.id) ((bytes_eq-Decides new.id new.id).1 refl), tt)
    new_itself _ earlier = tt

-- ---- those of an object that are open

abbrev is_open_in : List Event → Text → NewInvocation → Bool
is_open_in events object new = bytes_eq new.object object && is_open events new.id

pub both_parts : (a b : Bool) → (a && b) ≡ true → (a ≡ true) × (b ≡ true)
both_parts true b e = (refl, e)
both_parts false b e = cc

pub both_ways : (a b : Bool) → (a ≡ true → b ≡ true) → (b ≡ true → a ≡ true) → a ≡ b
both_ways true b f g = sym (f refl)
both_ways false true f g = g refl
both_ways false false f g = refl

-- the row's test is that of the invocation
row_test : (events : List Event) (object : Text) (new : NewInvocation) → IsItself events new → is_open_of object (invocation_row events new) ≡ is_open_in events object new
row_test events object new is =
    ap (λ (o : Option NewInvocation). is_text object (if is_open events new.id then option_map (λ (begun : NewInvocation). begun.object) o else None)) is
    ∙ by_open (is_open events new.id) (bytes_eq new.object object) refl
  where
    by_open : (o b : Bool) → bytes_eq new.object object ≡ b → is_text object (if o then Some new.object else None) ≡ (b && o)
    by_open true true e = e
    by_open true false e = e
    by_open false true e = refl
    by_open false false e = refl

some_same : (x y : NewInvocation) → Some x ≡ Some y → x ≡ y
some_same x y e = cc

-- with one that is open, the open ones of the object are those of its id
alone : (events : List Event) → IsAccepted events → (object : Text) (one : NewInvocation) → IsItself events one → is_open_in events object one ≡ true
    → (new : NewInvocation) → IsItself events new → is_open_in events object new ≡ bytes_eq new.id one.id
alone events accepted object one is_one opened_one new is =
    both_ways (is_open_in events object new) (bytes_eq new.id one.id)
    (λ opened.
    let (object_new, open_new) = both_parts (bytes_eq new.object object) (is_open events new.id) opened in
    let (object_one, open_one) = both_parts (bytes_eq one.object object) (is_open events one.id) opened_one in
    (bytes_eq-Decides new.id one.id).1
    (open_alone events accepted new one is is_one open_new open_one
    ((bytes_eq-Decides new.object object).0 object_new ∙ sym ((bytes_eq-Decides one.object object).0 object_one))))
    (λ e.
    let named : new.id ≡ one.id = (bytes_eq-Decides new.id one.id).0 e in
    let same : new ≡ one = some_same new one (sym is ∙ ap (invocation_begun events) named ∙ is_one) in
    ap (is_open_in events object) same ∙ opened_one)

one_open : (events : List Event) → IsAccepted events → (object : Text) → length (filter (is_open_in events object) (begun events)) ≤ 1
one_open events accepted object = by_found (find (is_open_in events object) (begun events)) refl
  where
    by_found : (o : Option NewInvocation) → find (is_open_in events object) (begun events) ≡ o → length (filter (is_open_in events object) (begun events)) ≤ 1
    by_found None e =
        subst (λ (news : List NewInvocation). length news ≤ 1) (sym (none_found (is_open_in events object) (begun events) e)) (omega arith)
    by_found (Some one) e =
        let is_one : IsItself events one = all_at_found (IsItself events) (is_open_in events object) (begun events) one (each_itself events accepted) e in
        let opened : is_open_in events object one ≡ true = find-passes (is_open_in events object) (begun events) one e in
        let same : filter (is_open_in events object) (begun events) ≡ filter (λ (new : NewInvocation). bytes_eq new.id one.id) (begun events) =
        filter_on (is_open_in events object) (λ (new : NewInvocation). bytes_eq new.id one.id) (begun events)
        (all_weaker (IsItself events) (λ new. is_open_in events object new ≡ bytes_eq new.id one.id)
        (alone events accepted object one is_one opened) (begun events) (each_itself events accepted)) in
        subst (λ (news : List NewInvocation). length news ≤ 1) (sym same)
        (only_one (λ (new : NewInvocation). bytes_eq new.id one.id) (begun events) (invocation_begun events one.id) (named_once events accepted one.id))

-- the order in which they are listed does not matter
or_swapped : (a b : Bool) → (a || (b || false)) ≡ (b || a)
or_swapped true true = refl
or_swapped true false = refl
or_swapped false true = refl
or_swapped false false = refl

pub or_nothing : (a : Bool) → (a || false) ≡ a
or_nothing true = refl
or_nothing false = refl

any_begun : (test : NewInvocation → Bool) (events : List Event) → list_any test (begun events) ≡ list_any test (filter_map invoked_by events)
any_begun test [] = refl
any_begun test (event ∷ earlier) =
    list_any-append test (begun earlier) (begun_by event)
    ∙ ap (λ (b : Bool). b || list_any test (begun_by event)) (any_begun test earlier)
    ∙ last event
  where
    last : (event : Event) → (list_any test (filter_map invoked_by earlier) || list_any test (begun_by event)) ≡ list_any test (cons_option (invoked_by event) (filter_map invoked_by earlier))
    last (Event.Invoke new) = or_swapped (list_any test (filter_map invoked_by earlier)) (test new)
    last _ = or_nothing (list_any test (filter_map invoked_by earlier))

pub length-map : {A B : Type 0} (f : A → B) (xs : List A) → length (map f xs) ≡ length xs
length-map f [] = refl
length-map f (x ∷ xs) = ap (λ (n : ℕ). suc n) (length-map f xs)

pub open_found : AllOpenOnce
open_found events r object accepted kept = (some, one)
  where
    rows : filter (is_open_of object) r.invocations ≡ map (invocation_row events) (filter (is_open_in events object) (begun events))
    rows =
        ap (filter (is_open_of object)) kept.invocations
        ∙ filter-map (is_open_of object) (invocation_row events) (begun events)
        ∙ ap (map (invocation_row events))
        (filter_on (λ new. is_open_of object (invocation_row events new)) (is_open_in events object) (begun events)
        (all_weaker (IsItself events) (λ new. is_open_of object (invocation_row events new) ≡ is_open_in events object new)
        (row_test events object) (begun events) (each_itself events accepted)))

    some : is_some (find (is_open_of object) r.invocations) ≡ is_busy events object
    some =
        is_some-find (is_open_of object) r.invocations
        ∙ ap is_some_of rows
        ∙ some-map (invocation_row events) (filter (is_open_in events object) (begun events))
        ∙ sym (any-filter (is_open_in events object) (begun events))
        ∙ any_begun (is_open_in events object) events

    one : length (filter (is_open_of object) r.invocations) ≤ 1
    one =
        subst (λ (n : ℕ). n ≤ 1)
        (sym (ap length rows ∙ length-map (invocation_row events) (filter (is_open_in events object) (begun events))))
        (one_open events accepted object)
