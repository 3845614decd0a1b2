-- What is found by an id, by a place and by a key.
use Rattle.std.proofs.Common.{ℕ, ◌+◌, zero-add, ◌==◌, ◌≡◌, refl, sym, ap, subst, ◌∙◌, true≢false, T, Bool, true, false, cond, if◌then◌else◌, List, [], ◌∷◌, ◌++◌, append-nil, map, filter, slice_get, Option, Some, None, is_some, option_map, option_to_list, bytes_eq, IsPermutation, Less, is_eq, is_lt}
use Rattle.std.specs.Ordering.{eq_by_cmp}
use Rattle.std.specs.FinMap.Entries.{is_sorted, below_all}
use Rattle.std.proofs.lemmas.List.Elements.{filter-append}
use Rattle.std.proofs.lemmas.List.Sorted.{IsPermutation-sym}
use Rattle.std.proofs.lemmas.Slice.Eq.{bytes_eq-Decides}
use Rattle.std.proofs.lemmas.Map.Text.{is_eq-slice_cmp}
use Rattle.sqlite_keyed.proofs.ListLemmas.{filter-map, IsPermutation-filter}
use Rattle.journal_model.specs.Notification.{Bytes, Text}
use Rattle.journal_model.specs.State.{StateMap, bytes_cmp, value_of_key}
use Rattle.journal_model.specs.declared.invocation.NewInvocation.{NewInvocation}
use Rattle.journal_model.specs.Event.{Event}
use Rattle.journal_model.specs.Journal.{Entry, Recorded, Arrived, invocation_begun, entries_of, object_state}
use Rattle.journal_model.specs.Cause.{IsAccepted}
use Rattle.journal_laws.proofs.ObjectState.{begin_when_new, begun_before}
use Rattle.store_tables.specs.Records.{Records, is_at_key, is_of_object}
use Rattle.store_tables.specs.declared.row.EntryRow.{EntryRow}
use Rattle.store_tables.specs.declared.row.StateRow.{StateRow}
use Rattle.store_tables.specs.Questions.{has_id, is_at_place, journal_of, AreInPlace}
use Rattle.store_model.specs.KeptRecords.{rows_from, rows_of_journal, journal_rows, begun, invocation_row, state_row, IsKept}
use Rattle.journal_laws.proofs.Keys.{first_holds, second_holds, is_less}
use Rattle.store_model.proofs.States.{ordered, either_way}
use Rattle.store_model.specs.Lookups.{IsOnly, AllFind}
use Rattle.store_model.proofs.Only.{filter_both, map_one, only_at_place, permuted_one}

-- ---- invocations

-- ids are apart
pub named_once : (events : List Event) → IsAccepted events → (id : Text) → IsOnly (λ (new : NewInvocation). bytes_eq new.id id) (begun events) (invocation_begun events id)
named_once [] accepted id = refl
named_once (Event.Invoke new ∷ earlier) accepted id =
    filter-append (λ (new : NewInvocation). bytes_eq new.id id) (begun earlier) (new ∷ [])
    ∙ ap (λ (news : List NewInvocation). news ++ (if bytes_eq new.id id then new ∷ [] else [])) (named_once earlier accepted.1 id)
    ∙ joined (bytes_eq new.id id) (invocation_begun earlier id) not_before
  where
    not_before : bytes_eq new.id id ≡ true → is_some (invocation_begun earlier id) ≡ false
    not_before e =
        subst (λ (x : Text). is_some (invocation_begun earlier x) ≡ false) ((bytes_eq-Decides new.id id).0 e) (begin_when_new earlier new accepted.0)

    joined : (b : Bool) (o : Option NewInvocation) → (b ≡ true → is_some o ≡ false)
        → option_to_list o ++ (if b then new ∷ [] else []) ≡ option_to_list (if b then Some new else o)
    joined true None h = refl
    joined true (Some other) h = absurd (true≢false (h refl))
    joined false o h = append-nil (option_to_list o)
named_once (event ∷ earlier) accepted id =
    ap (filter (λ (new : NewInvocation). bytes_eq new.id id)) (append-nil (begun earlier))
    ∙ named_once earlier accepted.1 id
    ∙ ap option_to_list (sym (begun_before event earlier id refl))

module _ (events : List Event) (r : Records) (accepted : IsAccepted events) (kept : IsKept events r) where
  invocation_found : (id : Text) → IsOnly (has_id id) r.invocations (option_map (invocation_row events) (invocation_begun events id))
  invocation_found id =
      ap (filter (has_id id)) kept.invocations
      ∙ filter-map (has_id id) (invocation_row events) (begun events)
      ∙ ap (map (invocation_row events)) (named_once events accepted id)
      ∙ map_one (invocation_row events) (invocation_begun events id)

-- ---- entries

in_place : (id : Text) (before : List Entry) (place : ℕ) (entries : List Entry) → AreInPlace place (rows_from id before place entries)
in_place id before place [] = tt
in_place id before place (Recorded request ∷ entries) = (refl, in_place id (before ++ Recorded request ∷ []) (place + 1) entries)
in_place id before place (Arrived arrival ∷ entries) = (refl, in_place id (before ++ Arrived arrival ∷ []) (place + 1) entries)

pub journal_in_place : (events : List Event) (id : Text) → AreInPlace 0 (journal_rows events id)
journal_in_place events id = by_begun (invocation_begun events id)
  where
    one : 1 ≡ 0 + 1
    one = sym (zero-add 1)

    by_begun : (o : Option NewInvocation) → AreInPlace 0 (rows_of_journal o id (entries_of events id))
    by_begun None = tt
    by_begun (Some new) = (refl, in_place id [] 1 (entries_of events id))

module _ (events : List Event) (r : Records) (kept : IsKept events r) where
  entry_found : (id : Text) (place : ℕ) → IsOnly (is_at_place id place) r.entries (slice_get (journal_rows events id) place)
  entry_found id place =
      filter_both (λ (e : EntryRow). bytes_eq e.invocation id) (λ (e : EntryRow). e.place == place) r.entries
      ∙ ap (filter (λ (e : EntryRow). e.place == place)) (kept.journals id)
      ∙ subst (λ (n : ℕ). filter (λ (e : EntryRow). e.place == n) (journal_rows events id) ≡ option_to_list (slice_get (journal_rows events id) place))
      (zero-add place) (only_at_place 0 place (journal_rows events id) (journal_in_place events id))

  places_found : (id : Text) → AreInPlace 0 (journal_of id r)
  places_found id = subst (AreInPlace 0) (sym (kept.journals id)) (journal_in_place events id)

-- ---- states

none_above : (key : Bytes) (es : StateMap) → T (below_all bytes_cmp key es) → filter (λ e. bytes_eq e.0 key) es ≡ []
none_above key [] h = refl
none_above key (e ∷ es) h =
    let less : bytes_cmp key e.0 ≡ Less = is_less (bytes_cmp key e.0) (first_holds (is_lt (bytes_cmp key e.0)) (below_all bytes_cmp key es) h) in
    let apart : bytes_eq e.0 key ≡ false = either_way e.0 key ∙ sym (is_eq-slice_cmp key e.0) ∙ ap is_eq less in
    rw apart (none_above key es (second_holds (is_lt (bytes_cmp key e.0)) (below_all bytes_cmp key es) h))

abbrev entry_at : Bytes → StateMap → Option (Bytes × Bytes)
entry_at key es = option_map (λ (value : Bytes). (key, value)) (value_of_key es key)

-- a key is in a state once
key_once : (key : Bytes) (es : StateMap) → T (is_sorted bytes_cmp es) → IsOnly (λ (e : Bytes × Bytes). bytes_eq e.0 key) es (entry_at key es)
key_once key [] h = refl
key_once key (e ∷ es) h = by_test (bytes_eq e.0 key) refl (key_once key es (second_holds (below_all bytes_cmp e.0 es) (is_sorted bytes_cmp es) h))
  where
    tied : eq_by_cmp bytes_cmp key e.0 ≡ bytes_eq e.0 key
    tied = is_eq-slice_cmp key e.0 ∙ either_way key e.0

    above : T (below_all bytes_cmp e.0 es)
    above = first_holds (below_all bytes_cmp e.0 es) (is_sorted bytes_cmp es) h

    by_test : (b : Bool) → bytes_eq e.0 key ≡ b → filter (λ (e : Bytes × Bytes). bytes_eq e.0 key) es ≡ option_to_list (entry_at key es)
        → (if b then e ∷ filter (λ (e : Bytes × Bytes). bytes_eq e.0 key) es else filter (λ (e : Bytes × Bytes). bytes_eq e.0 key) es)
        ≡ option_to_list (option_map (λ (value : Bytes). (key, value)) (cond (eq_by_cmp bytes_cmp key e.0) (Some e.1) (value_of_key es key)))
    by_test true f more =
        let same : e.0 ≡ key = (bytes_eq-Decides e.0 key).0 f in
        ap (λ (rest : StateMap). e ∷ rest) (none_above key es (subst (λ (k : Bytes). T (below_all bytes_cmp k es)) same above))
        ∙ ap (λ (k : Bytes). (k, e.1) ∷ []) same
        ∙ sym (ap (λ (b : Bool). option_to_list (option_map (λ (value : Bytes). (key, value)) (cond b (Some e.1) (value_of_key es key)))) (tied ∙ f))
    by_test false f more =
        more ∙ sym (ap (λ (b : Bool). option_to_list (option_map (λ (value : Bytes). (key, value)) (cond b (Some e.1) (value_of_key es key)))) (tied ∙ f))

mapped : {A B C : Type 0} (g : B → C) (f : A → B) (o : Option A) → option_map g (option_map f o) ≡ option_map (λ x. g (f x)) o
mapped g f None = refl
mapped g f (Some x) = refl

module _ (events : List Event) (r : Records) (kept : IsKept events r) where
  value_found : (object : Text) (key : Bytes)
      → IsOnly (is_at_key object key) r.states (option_map (λ (value : Bytes). state_row object (key, value)) (value_of_key (object_state events object) key))
  value_found object key =
      let es = object_state events object in
      let found : filter (λ (s : StateRow). bytes_eq s.key key) (map (state_row object) es) ≡ option_to_list (option_map (state_row object) (entry_at key es)) =
      filter-map (λ (s : StateRow). bytes_eq s.key key) (state_row object) es
      ∙ ap (map (state_row object)) (key_once key es (ordered events object))
      ∙ map_one (state_row object) (entry_at key es) in
      let same : IsPermutation (filter (λ (s : StateRow). bytes_eq s.key key) (filter (is_of_object object) r.states)) (filter (λ (s : StateRow). bytes_eq s.key key) (map (state_row object) es)) =
      IsPermutation-filter (λ (s : StateRow). bytes_eq s.key key) (filter (is_of_object object) r.states) (map (state_row object) es) ((kept.states object).1) in
      filter_both (is_of_object object) (λ (s : StateRow). bytes_eq s.key key) r.states
      ∙ permuted_one (option_map (state_row object) (entry_at key es)) (filter (λ (s : StateRow). bytes_eq s.key key) (filter (is_of_object object) r.states))
      (IsPermutation-sym (filter (λ (s : StateRow). bytes_eq s.key key) (filter (is_of_object object) r.states)) (option_to_list (option_map (state_row object) (entry_at key es)))
      (subst (IsPermutation (filter (λ (s : StateRow). bytes_eq s.key key) (filter (is_of_object object) r.states))) found same))
      ∙ ap option_to_list (mapped (state_row object) (λ (value : Bytes). (key, value)) (value_of_key es key))

pub all_found : AllFind
all_found events r accepted kept =
    record { invocation = invocation_found events r accepted kept; entry = entry_found events r kept; places = places_found events r kept; value = value_found events r kept }
