-- What is told of what is kept: by the library's map, and as the definitions say.
use Rattle.std.proofs.Common.{◌≡◌, refl, sym, ap, ap₂, subst, ◌∙◌, ℕ, Bool, true, false, not, ◌||◌, if◌then◌else◌, List, [], ◌∷◌, ◌++◌, append_assoc, append-nil, Option, Some, None, is_some, Result, IfOk, OnOk, OnErr}
use Rattle.std.specs.FinMap.{find, put}
use Rattle.std.specs.Map.{lookup}
use Rattle.std.specs.BTreeMap.{is_at}
use Rattle.std.proofs.lemmas.Result.{IfOk-weaker, on_ok_weaker, on_err_weaker}
use Rattle.journal_model.specs.Notification.{Bytes, Text}
use Rattle.journal_model.specs.Request.{Request}
use Rattle.journal_model.specs.State.{StateMap, bytes_cmp, state_keys, value_of_key}
use Rattle.vm_context.specs.declared.eager_state.EagerGetState.{EagerGetState}
use Rattle.vm_context.specs.declared.eager_state.EagerGetStateKeys.{EagerGetStateKeys}
use Rattle.vm_context.specs.Eager.{KnownState, KnownEntries, valued, with_known, entries_with, told_of, told_value, told_keys, tells_value, tells_keys}
use Rattle.vm_context.specs.StateKnowledge.{KnowsState, start_state_of, Follows, TellsValue, TellsKeys, request_told, keys_request_told}
use Rattle.vm_context.proofs.Entries.{find_is, joined, find_valued}
use Rattle.vm_context.proofs.Keeping.{holds, set_keeps, clear_keeps, cleared_keeps, start_known}

abbrev pub state_of : Bool → KnownEntries → KnownState
state_of is_partial entries = record { is_partial = is_partial; entries = entries }

-- ---- the keys that have a value, one entry after another

pub keys_left : (done new : List Bytes) (key : Bytes) (value : Option Bytes) (left rest : KnownEntries) (all : List Bytes)
    → done ++ state_keys (valued left) ≡ all → left ≡ (key, value) ∷ rest → new ≡ done ++ state_keys (valued ((key, value) ∷ [])) → new ++ state_keys (valued rest) ≡ all
keys_left done new key None left rest all inv next made =
    ap (λ (keys : List Bytes). keys ++ state_keys (valued rest)) (made ∙ append-nil done)
    ∙ sym (ap (λ (es : KnownEntries). done ++ state_keys (valued es)) next)
    ∙ inv
keys_left done new key (Some value) left rest all inv next made =
    ap (λ (keys : List Bytes). keys ++ state_keys (valued rest)) made
    ∙ append_assoc done (key ∷ []) (state_keys (valued rest))
    ∙ sym (ap (λ (es : KnownEntries). done ++ state_keys (valued es)) next)
    ∙ inv

-- ---- what is told of a key

same_request : (is_partial : Bool) (kept : Option (Option Bytes)) (n : ℕ) (key : Bytes) (name : Text)
    → request_told (told_of kept is_partial) n key name ≡ (if (not is_partial || is_some kept) then Request.GetEagerState key (joined kept) name else Request.GetLazyState key n name)
same_request true (Some (Some value)) n key name = refl
same_request false (Some (Some value)) n key name = refl
same_request true (Some None) n key name = refl
same_request false (Some None) n key name = refl
same_request true None n key name = refl
same_request false None n key name = refl

pub value_tells : (state : KnownState) (key : Bytes) (told : EagerGetState) → told ≡ told_value state key → TellsValue state key told
value_tells state key told is start done n name knows =
    ap (λ (t : EagerGetState). request_told t n key name) is
    ∙ same_request state.is_partial (find bytes_cmp key state.entries) n key name
    ∙ ap₂ (λ (b : Bool) (value : Option Bytes). if b then Request.GetEagerState key value name else Request.GetLazyState key n name)
    (knows.keys key)
    (sym (find_valued key state.entries (holds _ knows.ordered)) ∙ ap (λ (m : StateMap). value_of_key m key) knows.values)

abbrev KeptAt : KnownEntries → Bytes → Option (Option Bytes) → Type 0
KeptAt entries key kept = kept ≡ lookup (is_at (bytes_cmp key)) entries

pub told_at : {E : Type 0} (r : Result EagerGetState E) (is_partial : Bool) (entries : KnownEntries) (key : Bytes) (kept : Option (Option Bytes))
    → KeptAt entries key kept → IfOk r (λ told. told ≡ told_of kept is_partial) → IfOk r (λ told. told ≡ told_value (state_of is_partial entries) key)
told_at r is_partial entries key kept is h =
    subst (λ (k : Option (Option Bytes)). IfOk r (λ told. told ≡ told_of k is_partial)) (is ∙ find_is entries key) h

pub request_at : {E : Type 0} (r : Result EagerGetState E) (is_partial : Bool) (entries : KnownEntries) (key : Bytes) (kept : Option (Option Bytes))
    → KeptAt entries key kept → IfOk r (λ told. told ≡ told_of kept is_partial) → IfOk r (TellsValue (state_of is_partial entries) key)
request_at r is_partial entries key kept is h =
    IfOk-weaker r (λ told. told ≡ told_value (state_of is_partial entries) key) (TellsValue (state_of is_partial entries) key)
    (value_tells (state_of is_partial entries) key) (told_at r is_partial entries key kept is h)

pub memory_at : {E : Type 0} (r : Result EagerGetState E) (is_partial : Bool) (entries : KnownEntries) (key : Bytes) (kept : Option (Option Bytes))
    → KeptAt entries key kept → OnErr r (tells_value (told_of kept is_partial) ≡ true) → OnErr r (tells_value (told_value (state_of is_partial entries) key) ≡ true)
memory_at r is_partial entries key kept is h =
    subst (λ (k : Option (Option Bytes)). OnErr r (tells_value (told_of k is_partial) ≡ true)) (is ∙ find_is entries key) h

-- ---- what is told of the keys

same_keys_request : (is_partial : Bool) (entries : KnownEntries) (n : ℕ) (name : Text)
    → keys_request_told (told_keys (state_of is_partial entries)) n name ≡ (if (not is_partial) then Request.GetEagerStateKeys (state_keys (valued entries)) name else Request.GetLazyStateKeys n name)
same_keys_request true entries n name = refl
same_keys_request false entries n name = refl

pub keys_tell : (is_partial : Bool) (entries : KnownEntries) (told : EagerGetStateKeys) → told ≡ told_keys (state_of is_partial entries) → TellsKeys (state_of is_partial entries) told
keys_tell is_partial entries told is start done n name knows =
    ap (λ (t : EagerGetStateKeys). keys_request_told t n name) is
    ∙ same_keys_request is_partial entries n name
    ∙ ap₂ (λ (b : Bool) (keys : List Bytes). if b then Request.GetEagerStateKeys keys name else Request.GetLazyStateKeys n name)
    knows.whole
    (ap (λ (m : StateMap). state_keys m) knows.values)

pub unknown_told : (is_partial : Bool) (entries : KnownEntries) → is_partial ≡ true → EagerGetStateKeys.Unknown ≡ told_keys (state_of is_partial entries)
unknown_told true entries e = refl
unknown_told false entries e = cc

pub keys_told : (is_partial : Bool) (entries : KnownEntries) (keys : List Bytes) → is_partial ≡ false → keys ≡ state_keys (valued entries)
    → EagerGetStateKeys.Keys keys ≡ told_keys (state_of is_partial entries)
keys_told true entries keys e is = cc
keys_told false entries keys e is = ap (λ (all : List Bytes). EagerGetStateKeys.Keys all) is

pub keys_asked : (is_partial : Bool) (entries : KnownEntries) → is_partial ≡ false → tells_keys (told_keys (state_of is_partial entries)) ≡ true
keys_asked true entries e = cc
keys_asked false entries e = refl

-- ---- what changes keep

pub kept_at : {T E : Type 0} (r : Result T E) (is_partial : Bool) (old new : KnownEntries) (key : Bytes) (value : Option Bytes) → OnOk r (new ≡ put bytes_cmp key value old)
    → OnOk r (state_of is_partial new ≡ with_known (state_of is_partial old) key value)
kept_at r is_partial old new key value = on_ok_weaker r (λ (made : new ≡ put bytes_cmp key value old). ap (state_of is_partial) made)

pub kept_as_it_was : {T E : Type 0} (r : Result T E) (is_partial : Bool) (old new : KnownEntries) → OnErr r (new ≡ old) → OnErr r (state_of is_partial new ≡ state_of is_partial old)
kept_as_it_was r is_partial old new = on_err_weaker r (λ (same : new ≡ old). ap (state_of is_partial) same)

pub set_follows : {T E : Type 0} (r : Result T E) (is_partial : Bool) (old new : KnownEntries) (key value : Bytes) → OnOk r (new ≡ put bytes_cmp key (Some value) old)
    → OnOk r (Follows (λ name. Request.SetState key value name) (state_of is_partial old) (state_of is_partial new))
set_follows r is_partial old new key value =
    on_ok_weaker r (λ (made : new ≡ put bytes_cmp key (Some value) old). subst (λ (es : KnownEntries). Follows (λ name. Request.SetState key value name) (state_of is_partial old) (state_of is_partial es)) (sym made)
    (λ start done name knows. set_keeps (state_of is_partial old) start done key value name knows))

pub clear_follows : {T E : Type 0} (r : Result T E) (is_partial : Bool) (old new : KnownEntries) (key : Bytes) → OnOk r (new ≡ put bytes_cmp key None old)
    → OnOk r (Follows (λ name. Request.ClearState key name) (state_of is_partial old) (state_of is_partial new))
clear_follows r is_partial old new key =
    on_ok_weaker r (λ (made : new ≡ put bytes_cmp key None old). subst (λ (es : KnownEntries). Follows (λ name. Request.ClearState key name) (state_of is_partial old) (state_of is_partial es)) (sym made)
    (λ start done name knows. clear_keeps (state_of is_partial old) start done key name knows))

pub cleared_follows : (old : KnownState) (entries : KnownEntries) → entries ≡ [] → Follows (λ name. Request.ClearAllState name) old (state_of false entries)
cleared_follows old entries none start done name knows =
    subst (λ (es : KnownEntries). KnowsState (state_of false es) start (done ++ Request.ClearAllState name ∷ [])) (sym none) (cleared_keeps old start done name knows)

pub start_follows : (is_partial : Bool) (entries : KnownEntries) (pairs : List (Bytes × Bytes)) → entries ≡ entries_with [] pairs → KnowsState (state_of is_partial entries) (start_state_of is_partial pairs) []
start_follows is_partial entries pairs made =
    subst (λ (es : KnownEntries). KnowsState (state_of is_partial es) (start_state_of is_partial pairs) []) (sym made) (start_known is_partial pairs)
