-- An accepted event makes of the kept state of objects the state after it.
use Rattle.std.proofs.Common.{◌≡◌, refl, sym, ap, ap₂, subst, ◌∙◌, T, Bool, true, false, ◌&&◌, not, if◌then◌else◌, List, [], ◌∷◌, ◌++◌, append-nil, map, filter, Option, Some, None, bytes_eq, IsPermutation, Ordering, Less, Equal, Greater, is_eq, is_lt}
use Rattle.std.specs.Ordering.{eq_by_cmp}
use Rattle.std.specs.FinMap.Entries.{is_sorted, below_all, by_order}
use Rattle.std.proofs.lemmas.List.Elements.{filter-append}
use Rattle.std.proofs.lemmas.List.Sorted.{IsPermutation-refl, IsPermutation-trans, IsPermutation-cons, IsPermutation-to_front, IsPermutation-map, IsPermutation-append_left, IsPermutation-append_comm}
use Rattle.std.proofs.lemmas.Slice.Eq.{bytes_eq-Decides}
use Rattle.std.proofs.lemmas.Map.Text.{is_eq-slice_cmp}
use Rattle.sqlite_keyed.proofs.ListLemmas.{filter-map, filter-filter, filter_same, IsPermutation-same, IsPermutation-filter}
use Rattle.journal_model.specs.Notification.{Bytes, Text}
use Rattle.journal_model.specs.Request.{Request}
use Rattle.journal_model.specs.State.{StateMap, bytes_cmp, with_value, without_key, state_change, state_after}
use Rattle.journal_model.specs.Event.{Event}
use Rattle.journal_model.specs.Journal.{is_text, object_of, frame_of, request_of_frame, requests_for, edits_of, object_state}
use Rattle.journal_laws.proofs.Keys.{first_holds, second_holds, is_less, below_less}
use Rattle.journal_laws.proofs.Applying.{same_bytes, state_change-ordered, state_after-ordered}
use Rattle.store_tables.specs.Records.{is_at_key, is_of_object}
use Rattle.store_tables.specs.declared.row.StateRow.{StateRow}
use Rattle.store_tables.specs.Questions.{DoAscend}
use Rattle.store_model.specs.KeptRecords.{state_row}
use Rattle.store_model.specs.Writes.{object_changed, state_requests}
use Rattle.store_model.proofs.Lists.{filter_swap}
use Rattle.store_model.proofs.Writing.{states_changed, states_after, states_written}

-- ---- keys in order

-- a key that is below all others is none of them
others_stay : (key : Bytes) (es : StateMap) → T (below_all bytes_cmp key es) → without_key es key ≡ es
others_stay key [] h = refl
others_stay key (e ∷ es) h =
    let less : bytes_cmp key e.0 ≡ Less = is_less (bytes_cmp key e.0) (first_holds (is_lt (bytes_cmp key e.0)) (below_all bytes_cmp key es) h) in
    ap (λ (o : Ordering). if not (is_eq o) then e ∷ without_key es key else without_key es key) less
    ∙ ap (λ (rest : StateMap). e ∷ rest) (others_stay key es (second_holds (is_lt (bytes_cmp key e.0)) (below_all bytes_cmp key es) h))

pub exchanged : {A : Type 0} (x y : A) (xs : List A) → IsPermutation (x ∷ y ∷ xs) (y ∷ x ∷ xs)
exchanged x y xs = IsPermutation-append_left xs (x ∷ y ∷ []) (y ∷ x ∷ []) (IsPermutation-append_comm (x ∷ []) (y ∷ []))

-- a key's value is put among the others
put_among : (key value : Bytes) (es : StateMap) → T (is_sorted bytes_cmp es) → IsPermutation ((key, value) ∷ without_key es key) (with_value es key value)
put_among key value [] sorted = IsPermutation-refl ((key, value) ∷ [])
put_among key value (e ∷ es) sorted = by_order_of (bytes_cmp key e.0) refl (put_among key value es (second_holds (below_all bytes_cmp e.0 es) (is_sorted bytes_cmp es) sorted))
  where
    above : T (below_all bytes_cmp e.0 es)
    above = first_holds (below_all bytes_cmp e.0 es) (is_sorted bytes_cmp es) sorted

    by_order_of : (o : Ordering) → bytes_cmp key e.0 ≡ o → IsPermutation ((key, value) ∷ without_key es key) (with_value es key value)
        → IsPermutation ((key, value) ∷ (if not (is_eq o) then e ∷ without_key es key else without_key es key))
        (by_order o ((key, value) ∷ e ∷ es) ((e.0, value) ∷ es) (e ∷ with_value es key value))
    by_order_of Less is more =
        IsPermutation-same ((key, value) ∷ e ∷ without_key es key) ((key, value) ∷ e ∷ es)
        (ap (λ (rest : StateMap). (key, value) ∷ e ∷ rest) (others_stay key es (below_less key e.0 es is above)))
    by_order_of Equal is more =
        let same : key ≡ e.0 = same_bytes key e.0 is in
        IsPermutation-same ((key, value) ∷ without_key es key) ((e.0, value) ∷ es)
        (ap₂ (λ (k : Bytes) (rest : StateMap). (k, value) ∷ rest) same (ap (without_key es) same ∙ others_stay e.0 es above))
    by_order_of Greater is more =
        IsPermutation-trans ((key, value) ∷ e ∷ without_key es key) (e ∷ (key, value) ∷ without_key es key) (e ∷ with_value es key value)
        (exchanged (key, value) e (without_key es key))
        (IsPermutation-cons e ((key, value) ∷ without_key es key) (with_value es key value) more)

-- ---- the rows of one object

abbrev rows_for : Text → StateMap → List StateRow
rows_for object es = map (state_row object) es

both_ways : (a b : Bool) → (a ≡ true → b ≡ true) → (b ≡ true → a ≡ true) → a ≡ b
both_ways true b f g = sym (f refl)
both_ways false true f g = g refl
both_ways false false f g = refl

pub either_way : (x y : Bytes) → bytes_eq x y ≡ bytes_eq y x
either_way x y =
    both_ways (bytes_eq x y) (bytes_eq y x)
    (λ e. (bytes_eq-Decides y x).1 (sym ((bytes_eq-Decides x y).0 e)))
    (λ e. (bytes_eq-Decides x y).1 (sym ((bytes_eq-Decides y x).0 e)))

pub itself : (x : Bytes) → bytes_eq x x ≡ true
itself x = (bytes_eq-Decides x x).1 refl

-- the rows without a key are those of the state without it
dropped : (object : Text) (key : Bytes) (es : StateMap) → filter (λ s. not (is_at_key object key s)) (rows_for object es) ≡ rows_for object (without_key es key)
dropped object key es =
    filter-map (λ s. not (is_at_key object key s)) (state_row object) es
    ∙ ap (map (state_row object))
    (filter_same (λ e. not (is_at_key object key (state_row object e))) (λ e. not (eq_by_cmp bytes_cmp key e.0))
    (λ e. ap₂ (λ (a b : Bool). not (a && b)) (itself object) (either_way e.0 key ∙ sym (is_eq-slice_cmp key e.0))) es)

pub drops_all : {A : Type 0} (p : A → Bool) (xs : List A) → filter p (filter (λ x. not (p x)) xs) ≡ []
drops_all p [] = refl
drops_all {A} p (x ∷ xs) = by_test (p x) refl (drops_all p xs)
  where
    by_test : (b : Bool) → p x ≡ b → filter p (filter (λ x. not (p x)) xs) ≡ []
        → filter p (if not b then x ∷ filter (λ x. not (p x)) xs else filter (λ x. not (p x)) xs) ≡ []
    by_test true e h = h
    by_test false e h = rw e h

-- what is kept of one object, in any order
abbrev AreRows : Text → List StateRow → StateMap → Type 0
AreRows object states es = IsPermutation (filter (is_of_object object) states) (rows_for object es)

-- without a key
drop_kept : (object : Text) (key : Bytes) (states : List StateRow) (es : StateMap) → AreRows object states es
    → AreRows object (filter (λ s. not (is_at_key object key s)) states) (without_key es key)
drop_kept object key states es kept =
    IsPermutation-trans (filter (is_of_object object) (filter (λ s. not (is_at_key object key s)) states))
    (filter (λ s. not (is_at_key object key s)) (rows_for object es)) (rows_for object (without_key es key))
    (subst (λ (rows : List StateRow). IsPermutation rows (filter (λ s. not (is_at_key object key s)) (rows_for object es)))
    (filter_swap (λ s. not (is_at_key object key s)) (is_of_object object) states)
    (IsPermutation-filter (λ s. not (is_at_key object key s)) (filter (is_of_object object) states) (rows_for object es) kept))
    (IsPermutation-same (filter (λ s. not (is_at_key object key s)) (rows_for object es)) (rows_for object (without_key es key)) (dropped object key es))

put_kept : (object : Text) (key value : Bytes) (states : List StateRow) (es : StateMap) → T (is_sorted bytes_cmp es) → AreRows object states es
    → AreRows object (filter (λ s. not (is_at_key object key s)) states ++ state_row object (key, value) ∷ []) (with_value es key value)
put_kept object key value states es sorted kept =
    let row = state_row object (key, value) in
    let others = filter (λ s. not (is_at_key object key s)) states in
    let own = filter (is_of_object object) others in
    let added : filter (is_of_object object) (others ++ row ∷ []) ≡ own ++ row ∷ [] =
    filter-append (is_of_object object) others (row ∷ [])
    ∙ ap (λ (b : Bool). own ++ (if b then row ∷ [] else [])) (itself object) in
    subst (λ (rows : List StateRow). IsPermutation rows (rows_for object (with_value es key value))) (sym added)
    (IsPermutation-trans (own ++ row ∷ []) (row ∷ own) (rows_for object (with_value es key value))
    (IsPermutation-to_front own row)
    (IsPermutation-trans (row ∷ own) (row ∷ rows_for object (without_key es key)) (rows_for object (with_value es key value))
    (IsPermutation-cons row own (rows_for object (without_key es key)) (drop_kept object key states es kept))
    (IsPermutation-map (state_row object) ((key, value) ∷ without_key es key) (with_value es key value) (put_among key value es sorted))))

change_kept : (object : Text) (request : Request) (states : List StateRow) (es : StateMap) → T (is_sorted bytes_cmp es) → AreRows object states es
    → AreRows object (states_changed object request states) (state_change request es)
change_kept object (Request.SetState key value name) states es sorted kept = put_kept object key value states es sorted kept
change_kept object (Request.ClearState key name) states es sorted kept = drop_kept object key states es kept
change_kept object (Request.ClearAllState name) states es sorted kept =
    IsPermutation-same (filter (is_of_object object) (filter (λ s. not (is_of_object object s)) states)) [] (drops_all (is_of_object object) states)
change_kept object _ states es sorted kept = kept

changes_kept : (object : Text) (requests : List Request) (states : List StateRow) (es : StateMap) → T (is_sorted bytes_cmp es) → AreRows object states es
    → AreRows object (states_after object requests states) (state_after requests es)
changes_kept object [] states es sorted kept = kept
changes_kept object (request ∷ requests) states es sorted kept =
    changes_kept object requests (states_changed object request states) (state_change request es) (state_change-ordered request es sorted)
    (change_kept object request states es sorted kept)

-- ---- another object's rows

module _ (object other : Text) (apart : bytes_eq other object ≡ false) where
  other_row : (s : StateRow) → is_of_object object s ≡ true → bytes_eq s.object other ≡ false
  other_row s e =
      let same : s.object ≡ object = (bytes_eq-Decides s.object object).0 e in
      ap (λ (x : Text). bytes_eq x other) same ∙ either_way object other ∙ apart

  untouched : (request : Request) (states : List StateRow) → filter (is_of_object object) (states_changed other request states) ≡ filter (is_of_object object) states
  untouched (Request.SetState key value name) states =
      let others = filter (λ s. not (is_at_key other key s)) states in
      let row = state_row other (key, value) in
      filter-append (is_of_object object) others (row ∷ [])
      ∙ ap (λ (b : Bool). filter (is_of_object object) others ++ (if b then row ∷ [] else [])) apart
      ∙ append-nil (filter (is_of_object object) others)
      ∙ filter-filter (is_of_object object) (λ s. not (is_at_key other key s)) (λ s e. ap (λ (b : Bool). not (b && bytes_eq s.key key)) (other_row s e)) states
  untouched (Request.ClearState key name) states =
      filter-filter (is_of_object object) (λ s. not (is_at_key other key s)) (λ s e. ap (λ (b : Bool). not (b && bytes_eq s.key key)) (other_row s e)) states
  untouched (Request.ClearAllState name) states =
      filter-filter (is_of_object object) (λ s. not (is_of_object other s)) (λ s e. ap not (other_row s e)) states
  untouched _ states = refl

  all_untouched : (requests : List Request) (states : List StateRow) → filter (is_of_object object) (states_after other requests states) ≡ filter (is_of_object object) states
  all_untouched [] states = refl
  all_untouched (request ∷ requests) states = all_untouched requests (states_changed other request states) ∙ untouched request states

-- ---- all objects

pub ordered : (events : List Event) (object : Text) → T (is_sorted bytes_cmp (object_state events object))
ordered [] object = tt
ordered (event ∷ earlier) object =
    state_after-ordered (edits_of object event) (state_after (requests_for object earlier event) (object_state earlier object))
    (state_after-ordered (requests_for object earlier event) (object_state earlier object) (ordered earlier object))

-- requests of one object, which may be this one
requests_kept : (events : List Event) (object other : Text) (requests : List Request) (states : List StateRow) → AreRows object states (object_state events object)
    → AreRows object (states_after other requests states) (state_after (if bytes_eq other object then requests else []) (object_state events object))
requests_kept events object other requests states kept = by_test (bytes_eq other object) refl
  where
    by_test : (b : Bool) → bytes_eq other object ≡ b → AreRows object (states_after other requests states) (state_after (if b then requests else []) (object_state events object))
    by_test true e =
        let same : other ≡ object = (bytes_eq-Decides other object).0 e in
        subst (λ (x : Text). AreRows object (states_after x requests states) (state_after requests (object_state events object)))
        (sym same)
        (changes_kept object requests states (object_state events object) (ordered events object) kept)
    by_test false e =
        subst (λ (rows : List StateRow). IsPermutation rows (rows_for object (object_state events object)))
        (sym (all_untouched object other e requests states)) kept

pub states_kept : (events : List Event) (event : Event) (object : Text) (states : List StateRow) → AreRows object states (object_state events object)
    → AreRows object (states_written (object_changed events event) (state_requests event) states) (object_state (event ∷ events) object)
states_kept events (Event.Edit other request) object states kept = requests_kept events object other (request ∷ []) states kept
states_kept events event object states kept = by_object (object_of events event)
  where
    by_object : (o : Option Text)
        → AreRows object (states_written o (request_of_frame (frame_of event)) states)
        (state_after (if is_text object o then request_of_frame (frame_of event) else []) (object_state events object))
    by_object None = kept
    by_object (Some other) = requests_kept events object other (request_of_frame (frame_of event)) states kept

-- the rows are in the order of their keys
pub ascends : (object : Text) (es : StateMap) → T (is_sorted bytes_cmp es) → DoAscend (λ (s : StateRow). s.key) (map (state_row object) es)
ascends object [] h = tt
ascends object (e ∷ []) h = tt
ascends object (e ∷ f ∷ es) h =
    let less : bytes_cmp e.0 f.0 ≡ Less =
    is_less (bytes_cmp e.0 f.0)
    (first_holds (is_lt (bytes_cmp e.0 f.0)) (below_all bytes_cmp e.0 es) (first_holds (below_all bytes_cmp e.0 (f ∷ es)) (is_sorted bytes_cmp (f ∷ es)) h)) in
    (ap is_lt less, ascends object (f ∷ es) (second_holds (below_all bytes_cmp e.0 (f ∷ es)) (is_sorted bytes_cmp (f ∷ es)) h))
