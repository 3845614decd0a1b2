-- What is kept stays what is known, one request after another, and a read is told of it what the definitions say.
use Rattle.std.proofs.Common.{◌≡◌, refl, sym, ap, subst, ◌∙◌, Bool, true, false, not, ◌||◌, T, cond, List, [], ◌∷◌, ◌++◌, Option, Some, None, is_some, bytes_eq}
use Rattle.std.specs.List.{list_any}
use Rattle.std.specs.Ordering.{eq_by_cmp}
use Rattle.std.specs.Cmp.{eq_by_cmp_equiv}
use Rattle.std.specs.Cmp.Lexicographic.{nat_list_cmp_total, texts_ties}
use Rattle.std.specs.FinMap.{find, put, is_sorted}
use Rattle.std.specs.FinMap.Entries.{find-put, find-where_key, is_sorted-put, is_sorted-where_key}
use Rattle.std.proofs.lemmas.List.Folds.{list_any-append}
use Rattle.journal_model.specs.Notification.{Bytes, Text}
use Rattle.journal_model.specs.Request.{Request}
use Rattle.journal_model.specs.State.{StateMap, StartState, bytes_cmp, state_change, state_after, with_value, without_key, decides_key, clears_all, knows_key, knows_all_keys, value_of_key}
use Rattle.vm_context.specs.Eager.{KnownState, KnownEntries, valued, with_known, all_cleared, is_known, entries_with, known_from, map_with}
use Rattle.vm_context.specs.StateKnowledge.{KnowsState, changes_state, OthersKeep, start_state_of}
use Rattle.vm_context.proofs.Entries.{valued_put, valued_sorted, find_valued, joined, same_bytes}

pub state_after-one : (done : List Request) (request : Request) (entries : StateMap) → state_after (done ++ request ∷ []) entries ≡ state_change request (state_after done entries)
state_after-one [] request entries = refl
state_after-one (first ∷ done) request entries = state_after-one done request (state_change first entries)

or-last : (a b c : Bool) → (a || (b || (c || false))) ≡ ((a || b) || c)
or-last true b c = refl
or-last false true c = refl
or-last false false true = refl
or-last false false false = refl

pub all_keys-one : (start : StartState) (done : List Request) (request : Request) → knows_all_keys start (done ++ request ∷ []) ≡ (knows_all_keys start done || clears_all request)
all_keys-one start done request = ap (λ (b : Bool). start.is_whole || b) (list_any-append clears_all done (request ∷ [])) ∙ or-last start.is_whole (list_any clears_all done) (clears_all request)

or-last-of-three : (a b c d : Bool) → ((a || b) || (c || (d || false))) ≡ (((a || b) || c) || d)
or-last-of-three true b c d = refl
or-last-of-three false b c d = or-last b c d

pub key-one : (start : StartState) (done : List Request) (request : Request) (key : Bytes) → knows_key start (done ++ request ∷ []) key ≡ (knows_key start done key || decides_key key request)
key-one start done request key =
    ap (λ (b : Bool). (start.is_whole || is_some (value_of_key start.entries key)) || b) (list_any-append (decides_key key) done (request ∷ []))
    ∙ or-last-of-three start.is_whole (is_some (value_of_key start.entries key)) (list_any (decides_key key) done) (decides_key key request)

or-none : (b : Bool) → b ≡ (b || false)
or-none true = refl
or-none false = refl

or-all : (b : Bool) → true ≡ (b || true)
or-all true = refl
or-all false = refl

pub holds : (b : Bool) → b ≡ true → T b
holds b e = subst T (sym e) tt

is_true : (b : Bool) → T b → b ≡ true
is_true true t = refl
is_true false t = absurd t

-- what a request that changes nothing makes of each part
nothing_changed : (request : Request) (entries : StateMap) → changes_state request ≡ false → state_change request entries ≡ entries
nothing_changed (Request.SetState key value name) entries e = cc
nothing_changed (Request.ClearState key name) entries e = cc
nothing_changed (Request.ClearAllState name) entries e = cc
nothing_changed _ entries e = refl

nothing_cleared : (request : Request) → changes_state request ≡ false → clears_all request ≡ false
nothing_cleared (Request.ClearAllState name) e = cc
nothing_cleared _ e = refl

nothing_decided : (request : Request) (key : Bytes) → changes_state request ≡ false → decides_key key request ≡ false
nothing_decided (Request.SetState k value name) key e = cc
nothing_decided (Request.ClearState k name) key e = cc
nothing_decided (Request.ClearAllState name) key e = cc
nothing_decided _ key e = refl

pub others_keep : OthersKeep
others_keep state start done request e knows = record {
  ordered = knows.ordered;
  values = knows.values ∙ sym (state_after-one done request start.entries ∙ nothing_changed request (state_after done start.entries) e);
  whole = knows.whole ∙ or-none (knows_all_keys start done) ∙ ap (λ (b : Bool). knows_all_keys start done || b) (sym (nothing_cleared request e)) ∙ sym (all_keys-one start done request);
  keys = λ key. knows.keys key ∙ or-none (knows_key start done key) ∙ ap (λ (b : Bool). knows_key start done key || b) (sym (nothing_decided request key e)) ∙ sym (key-one start done request key);
}

pub cleared_keeps : (state : KnownState) (start : StartState) (done : List Request) (name : Text) → KnowsState state start done → KnowsState all_cleared start (done ++ Request.ClearAllState name ∷ [])
cleared_keeps state start done name knows = record {
  ordered = refl;
  values = sym (state_after-one done (Request.ClearAllState name) start.entries);
  whole = or-all (knows_all_keys start done) ∙ sym (all_keys-one start done (Request.ClearAllState name));
  keys = λ key. or-all (knows_key start done key) ∙ sym (key-one start done (Request.ClearAllState name) key);
}

-- one more key is known
pub with_known-keys : (state : KnownState) (k : Bytes) (v : Option Bytes) (key : Bytes) → is_known (with_known state k v) key ≡ (is_known state key || bytes_eq k key)
with_known-keys state k v key =
    ap (λ (o : Option (Option Bytes)). not state.is_partial || is_some o) (find-put bytes_cmp nat_list_cmp_total key k v state.entries)
    ∙ by_test (eq_by_cmp bytes_cmp key k)
    ∙ ap (λ (b : Bool). is_known state key || b) ((eq_by_cmp_equiv nat_list_cmp_total).symm key k ∙ sym (texts_ties k key))
  where
    by_test : (b : Bool) → (not state.is_partial || is_some (cond b (Some v) (find bytes_cmp key state.entries))) ≡ (is_known state key || b)
    by_test true = sym (or-all (not state.is_partial)) ∙ or-all (is_known state key)
    by_test false = or-none (is_known state key)

-- to keep a value is to put it into the map
valued_set : (entries : KnownEntries) (key value : Bytes) → T (is_sorted bytes_cmp entries) → valued (put bytes_cmp key (Some value) entries) ≡ with_value (valued entries) key value
valued_set entries key value sorted =
    valued_put key (Some value) entries (with_value (valued entries) key value) sorted
    (is_sorted-put bytes_cmp nat_list_cmp_total key value (valued entries) (valued_sorted entries sorted))
    (λ q. find-put bytes_cmp nat_list_cmp_total q key value (valued entries))

pub set_keeps : (state : KnownState) (start : StartState) (done : List Request) (key value : Bytes) (name : Text) → KnowsState state start done
    → KnowsState (with_known state key (Some value)) start (done ++ Request.SetState key value name ∷ [])
set_keeps state start done key value name knows =
    let sorted = holds (is_sorted bytes_cmp state.entries) knows.ordered in
    let request = Request.SetState key value name in
    record {
      ordered = is_true (is_sorted bytes_cmp (put bytes_cmp key (Some value) state.entries)) (is_sorted-put bytes_cmp nat_list_cmp_total key (Some value) state.entries sorted);
      values = valued_set state.entries key value sorted ∙ ap (λ (m : StateMap). with_value m key value) knows.values ∙ sym (state_after-one done request start.entries);
      whole = knows.whole ∙ or-none (knows_all_keys start done) ∙ sym (all_keys-one start done request);
      keys = λ q. with_known-keys state key (Some value) q ∙ ap (λ (b : Bool). b || bytes_eq key q) (knows.keys q) ∙ sym (key-one start done request q);
    }

without_at : (q key : Bytes) (entries : StateMap) → find bytes_cmp q (without_key entries key) ≡ cond (eq_by_cmp bytes_cmp q key) None (find bytes_cmp q entries)
without_at q key entries =
    find-where_key bytes_cmp (λ x. not (eq_by_cmp bytes_cmp key x)) q (λ x tie. ap (λ (y : Bytes). not (eq_by_cmp bytes_cmp key y)) (sym (same_bytes q x tie))) entries
    ∙ ap (λ (b : Bool). cond (not b) (find bytes_cmp q entries) None) ((eq_by_cmp_equiv nat_list_cmp_total).symm key q)
    ∙ by_test (eq_by_cmp bytes_cmp q key)
  where
    by_test : (b : Bool) → cond (not b) (find bytes_cmp q entries) None ≡ cond b None (find bytes_cmp q entries)
    by_test true = refl
    by_test false = refl

pub clear_keeps : (state : KnownState) (start : StartState) (done : List Request) (key : Bytes) (name : Text) → KnowsState state start done
    → KnowsState (with_known state key None) start (done ++ Request.ClearState key name ∷ [])
clear_keeps state start done key name knows =
    let sorted = holds (is_sorted bytes_cmp state.entries) knows.ordered in
    let request = Request.ClearState key name in
    record {
      ordered = is_true (is_sorted bytes_cmp (put bytes_cmp key None state.entries)) (is_sorted-put bytes_cmp nat_list_cmp_total key None state.entries sorted);
      values = valued_put key None state.entries (without_key (valued state.entries) key) sorted
          (is_sorted-where_key bytes_cmp (λ x. not (eq_by_cmp bytes_cmp key x)) (valued state.entries) (valued_sorted state.entries sorted))
          (λ q. without_at q key (valued state.entries))
          ∙ ap (λ (m : StateMap). without_key m key) knows.values ∙ sym (state_after-one done request start.entries);
      whole = knows.whole ∙ or-none (knows_all_keys start done) ∙ sym (all_keys-one start done request);
      keys = λ q. with_known-keys state key None q ∙ ap (λ (b : Bool). b || bytes_eq key q) (knows.keys q) ∙ sym (key-one start done request q);
    }

-- ---- what a start has shown

-- a key that is kept has a value
abbrev AllValued : KnownEntries → Type 0
AllValued entries = (q : Bytes) → is_some (joined (find bytes_cmp q entries)) ≡ is_some (find bytes_cmp q entries)

more_valued : (entries : KnownEntries) (key value : Bytes) → AllValued entries → AllValued (put bytes_cmp key (Some value) entries)
more_valued entries key value all q =
    ap (λ (o : Option (Option Bytes)). is_some (joined o)) (find-put bytes_cmp nat_list_cmp_total q key (Some value) entries)
    ∙ by_test (eq_by_cmp bytes_cmp q key)
    ∙ ap (λ (o : Option (Option Bytes)). is_some o) (sym (find-put bytes_cmp nat_list_cmp_total q key (Some value) entries))
  where
    by_test : (b : Bool) → is_some (joined (cond b (Some (Some value)) (find bytes_cmp q entries))) ≡ is_some (cond b (Some (Some value)) (find bytes_cmp q entries))
    by_test true = refl
    by_test false = all q

all_valued : (pairs : List (Bytes × Bytes)) (entries : KnownEntries) → AllValued entries → AllValued (entries_with entries pairs)
all_valued [] entries all = all
all_valued (pair ∷ pairs) entries all = all_valued pairs (put bytes_cmp pair.0 (Some pair.1) entries) (more_valued entries pair.0 pair.1 all)

all_sorted : (pairs : List (Bytes × Bytes)) (entries : KnownEntries) → T (is_sorted bytes_cmp entries) → T (is_sorted bytes_cmp (entries_with entries pairs))
all_sorted [] entries sorted = sorted
all_sorted (pair ∷ pairs) entries sorted = all_sorted pairs (put bytes_cmp pair.0 (Some pair.1) entries) (is_sorted-put bytes_cmp nat_list_cmp_total pair.0 (Some pair.1) entries sorted)

valued_with : (pairs : List (Bytes × Bytes)) (entries : KnownEntries) → T (is_sorted bytes_cmp entries) → valued (entries_with entries pairs) ≡ map_with (valued entries) pairs
valued_with [] entries sorted = refl
valued_with (pair ∷ pairs) entries sorted =
    valued_with pairs (put bytes_cmp pair.0 (Some pair.1) entries) (is_sorted-put bytes_cmp nat_list_cmp_total pair.0 (Some pair.1) entries sorted)
    ∙ ap (λ (m : StateMap). map_with m pairs) (valued_set entries pair.0 pair.1 sorted)

none_valued : AllValued []
none_valued q = refl

pub start_known : (is_partial : Bool) (pairs : List (Bytes × Bytes)) → KnowsState (known_from is_partial pairs) (start_state_of is_partial pairs) []
start_known is_partial pairs =
    let sorted = all_sorted pairs [] tt in
    record {
      ordered = is_true (is_sorted bytes_cmp (entries_with [] pairs)) sorted;
      values = valued_with pairs [] tt;
      whole = or-none (not is_partial);
      keys = λ key.
          ap (λ (b : Bool). not is_partial || b)
          (sym (all_valued pairs [] none_valued key)
          ∙ ap (λ (o : Option Bytes). is_some o) (sym (find_valued key (entries_with [] pairs) sorted) ∙ ap (λ (m : StateMap). find bytes_cmp key m) (valued_with pairs [] tt)))
          ∙ or-none (not is_partial || is_some (value_of_key (map_with [] pairs) key));
    }
