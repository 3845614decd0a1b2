-- What is known of the children, one after the other, and while notifications are looked at.
use Rattle.std.proofs.Common.{◌≡◌, ◌<◌, refl, sym, ap, ◌∙◌, subst, arith, ℕ, ◌+◌, zero, suc, Bool, true, false, List, [], ◌∷◌, ◌++◌, append_assoc, drop, length, slice_get, Option, Some, None}
use Rattle.std.specs.Prelude.{if◌then◌else◌}
use Rattle.journal_model.specs.Notification.{Text, Arrival}
use Rattle.journal_model.specs.declared.notification.NotificationResult.{NotificationResult}
use Rattle.journal_model.specs.declared.value.Value.{Value}
use Rattle.journal_model.specs.Value.{as_taken}
use Rattle.journal_model.specs.declared.options.SignalDelivery.{SignalDelivery}
use Rattle.attempt_model.specs.Children.{Child, child_value, ChildrenState, AreIds, IsUnknown, IsNoId, is_id, with_child, children_state, AllKnown, FirstUnknown, OneIsNoId, outcome_by, children_outcome}
use Rattle.attempt_model.specs.Results.{Ready, ready_after}
use Rattle.vm_awaits.specs.Views.{AsyncResults}
use Rattle.vm_awaits.specs.Calls.{has_next, looked_at, after_look}
use Rattle.vm_waiting.specs.ChildCancellation.{LooksFor, id_in, with_id, ids_known}
use Rattle.vm_waiting.specs.declared.children.ChildrenKnown.TheVariants as known

-- ---- places

pub drop_at : {X : Type 0} (xs : List X) (place : ℕ) (x : X) → slice_get xs place ≡ Some x → drop place xs ≡ x ∷ drop (place + 1) xs
drop_at [] place x is = absurd cc
drop_at (first ∷ xs) zero x is = let same : first ≡ x = cc in ap (λ (f : _). f ∷ xs) same
drop_at (first ∷ xs) (suc place) x is = let more : suc (place + 1) ≡ suc place + 1 = omega arith in drop_at xs place x is ∙ ap (λ (n : ℕ). x ∷ drop n (first ∷ xs)) more

none_dropped : {X : Type 0} (n : ℕ) → [] ≡ drop {A = X} n []
none_dropped zero = refl
none_dropped (suc n) = refl

pub drop_past : {X : Type 0} (xs : List X) (place : ℕ) → slice_get xs place ≡ None → drop place xs ≡ drop (place + 1) xs
drop_past [] zero is = refl
drop_past {X = X} [] (suc place) is = none_dropped {X = X} (suc place + 1)
drop_past (first ∷ xs) zero is = absurd cc
drop_past (first ∷ xs) (suc place) is = let more : suc (place + 1) ≡ suc place + 1 = omega arith in drop_past xs place is ∙ ap (λ (n : ℕ). drop n (first ∷ xs)) more

-- ---- of one

-- it has its id, so it is as the others are
pub goes_past : (value : Option Value) (n : ℕ) (others : ChildrenState) → with_child value n AreIds ≡ AreIds → with_child value n others ≡ others
goes_past None n others is = absurd cc
goes_past (Some (Value.InvocationId id)) n others is = refl
goes_past (Some Value.Void) n others is = absurd cc
goes_past (Some (Value.Success bytes)) n others is = absurd cc
goes_past (Some (Value.Failure failure)) n others is = absurd cc
goes_past (Some (Value.StateKeys keys)) n others is = absurd cc

-- it has none, whatever the others have
pub stops_unknown : (value : Option Value) (n unknown : ℕ) (others : ChildrenState) → with_child value n AreIds ≡ IsUnknown unknown → with_child value n others ≡ IsUnknown unknown
stops_unknown None n unknown others is = is
stops_unknown (Some (Value.InvocationId id)) n unknown others is = absurd cc
stops_unknown (Some Value.Void) n unknown others is = absurd cc
stops_unknown (Some (Value.Success bytes)) n unknown others is = absurd cc
stops_unknown (Some (Value.Failure failure)) n unknown others is = absurd cc
stops_unknown (Some (Value.StateKeys keys)) n unknown others is = absurd cc

pub stops_no_id : (value : Option Value) (n : ℕ) (others : ChildrenState) → with_child value n AreIds ≡ IsNoId → with_child value n others ≡ IsNoId
stops_no_id None n others is = absurd cc
stops_no_id (Some (Value.InvocationId id)) n others is = absurd cc
stops_no_id (Some Value.Void) n others is = refl
stops_no_id (Some (Value.Success bytes)) n others is = refl
stops_no_id (Some (Value.Failure failure)) n others is = refl
stops_no_id (Some (Value.StateKeys keys)) n others is = refl

-- ---- of all, by places

module _ (ready : Ready) (children : List Child) (place : ℕ) where
  -- what is known of those from a place on is what is known of all
  abbrev pub StateFrom : Type 0
  StateFrom = children_state ready (drop place children) ≡ children_state ready children

  -- the ids of those from a place on come behind these
  abbrev pub IdsFrom : List Text → Type 0
  IdsFrom ids = ids ++ ids_known ready (drop place children) ≡ ids_known ready children

  module _ (child : Child) (is : slice_get children place ≡ Some child) where
    abbrev value : Option Value
    value = child_value ready child

    state_at : StateFrom → with_child value child.completion (children_state ready (drop (place + 1) children)) ≡ children_state ready children
    state_at same = ap (λ (cs : List Child). children_state ready cs) (sym (drop_at children place child is)) ∙ same

    pub unknown_at : StateFrom → (unknown : ℕ) → with_child value child.completion AreIds ≡ IsUnknown unknown → IsUnknown unknown ≡ children_state ready children
    unknown_at same unknown known = sym (stops_unknown value child.completion unknown (children_state ready (drop (place + 1) children)) known) ∙ state_at same

    pub no_id_at : StateFrom → with_child value child.completion AreIds ≡ IsNoId → IsNoId ≡ children_state ready children
    no_id_at same known = sym (stops_no_id value child.completion (children_state ready (drop (place + 1) children)) known) ∙ state_at same

    pub next_at : StateFrom → with_child value child.completion AreIds ≡ AreIds → children_state ready (drop (place + 1) children) ≡ children_state ready children
    next_at same known = sym (goes_past value child.completion (children_state ready (drop (place + 1) children)) known) ∙ state_at same

    pub id_at : (ids more : List Text) (id : Option Text) → IdsFrom ids → id ≡ id_in value → more ≡ ids ++ with_id id [] → more ++ ids_known ready (drop (place + 1) children) ≡ ids_known ready children
    id_at ids more id same found grown =
        ap (λ (some : List Text). some ++ rest) (grown ∙ ap (λ (o : Option Text). ids ++ with_id o []) found) ∙ append_assoc ids (with_id (id_in value) []) rest
        ∙ ap (λ (some : List Text). ids ++ some) (first_of_all (id_in value)) ∙ ap (λ (cs : List Child). ids ++ ids_known ready cs) (sym (drop_at children place child is)) ∙ same
      where
        rest : List Text
        rest = ids_known ready (drop (place + 1) children)

        first_of_all : (o : Option Text) → with_id o [] ++ ids_known ready (drop (place + 1) children) ≡ with_id o (ids_known ready (drop (place + 1) children))
        first_of_all None = refl
        first_of_all (Some id) = refl

  module _ (is : slice_get children place ≡ None) where
    pub state_past : StateFrom → children_state ready (drop (place + 1) children) ≡ children_state ready children
    state_past same = ap (λ (cs : List Child). children_state ready cs) (sym (drop_past children place is)) ∙ same

    pub ids_past : (ids : List Text) → IdsFrom ids → ids ++ ids_known ready (drop (place + 1) children) ≡ ids_known ready children
    ids_past ids same = ap (λ (cs : List Child). ids ++ ids_known ready cs) (sym (drop_past children place is)) ∙ same

-- ---- while notifications are looked at

module _ (children : List Child) (old : AsyncResults) where
  -- what is looked for now comes to what it came to before
  pub record LooksOn (now : AsyncResults) : Type 0 where
    pub same : children_outcome now.delivery children now.queue now.ready ≡ children_outcome old.delivery children old.queue old.ready
    pub delivery : now.delivery ≡ old.delivery
    pub slots : now.slots ≡ old.slots

  pub looks_first : LooksOn old
  looks_first = record { same = refl; delivery = refl; slots = refl }

  all_known : (delivery : SignalDelivery) (queue : List Arrival) (ready : Ready) → children_state ready children ≡ AreIds → children_outcome delivery children queue ready ≡ AllKnown queue ready
  all_known delivery [] ready is = ap (λ (s : ChildrenState). outcome_by s (AllKnown [] ready) (λ n. FirstUnknown n ready)) is
  all_known delivery (arrival ∷ behind) ready is =
      ap (λ (s : ChildrenState). outcome_by s (AllKnown (arrival ∷ behind) ready) (λ n. children_outcome delivery children behind (ready_after delivery ready arrival))) is

  no_id : (delivery : SignalDelivery) (queue : List Arrival) (ready : Ready) → children_state ready children ≡ IsNoId → children_outcome delivery children queue ready ≡ OneIsNoId
  no_id delivery [] ready is = ap (λ (s : ChildrenState). outcome_by s (AllKnown [] ready) (λ n. FirstUnknown n ready)) is
  no_id delivery (arrival ∷ behind) ready is =
      ap (λ (s : ChildrenState). outcome_by s (AllKnown (arrival ∷ behind) ready) (λ n. children_outcome delivery children behind (ready_after delivery ready arrival))) is

  none_next : (queue : List Arrival) → false ≡ has_next queue → queue ≡ []
  none_next [] h = refl
  none_next (arrival ∷ queue) h = absurd cc

  module _ (now : AsyncResults) (way : LooksOn now) where
    pub looks_all : children_state now.ready children ≡ AreIds → LooksFor children old known.AllIds now
    looks_all is = record { outcome = sym way.same ∙ all_known now.delivery now.queue now.ready is; queue = refl; delivery = way.delivery; slots = way.slots }

    pub looks_no_id : children_state now.ready children ≡ IsNoId → LooksFor children old known.NoId now
    looks_no_id is = record { outcome = sym way.same ∙ no_id now.delivery now.queue now.ready is; queue = refl; delivery = way.delivery; slots = way.slots }

    -- nothing stands in line
    ends_unknown : (n : ℕ) → children_state now.ready children ≡ IsUnknown n → now.queue ≡ [] → LooksFor children old (known.Unknown n) now
    ends_unknown n is none = record {
      outcome = sym way.same ∙ ap (λ (queue : List Arrival). children_outcome now.delivery children queue now.ready) none
          ∙ ap (λ (s : ChildrenState). outcome_by s (AllKnown [] now.ready) (λ n. FirstUnknown n now.ready)) is;
      queue = none;
      delivery = way.delivery;
      slots = way.slots;
    }

    stays_so : (queue : List Arrival) → now.queue ≡ queue → false ≡ has_next queue → after_look now ≡ now
    stays_so [] is h = ap (λ (q : List Arrival). looked_at q now) is
    stays_so (arrival ∷ queue) is h = absurd cc

    pub looks_unknown : (next : AsyncResults) (n : ℕ) → children_state now.ready children ≡ IsUnknown n → false ≡ has_next now.queue → next ≡ after_look now
        → LooksFor children old (known.Unknown n) next
    looks_unknown next n is h looked = subst (λ (r : AsyncResults). LooksFor children old (known.Unknown n) r) (sym (looked ∙ stays_so now.queue refl h)) (ends_unknown n is (none_next now.queue h))

    one_looked : (n : ℕ) → children_state now.ready children ≡ IsUnknown n → (queue : List Arrival) → now.queue ≡ queue → true ≡ has_next queue → LooksOn (looked_at queue now)
    one_looked n is [] front h = absurd cc
    one_looked n is (arrival ∷ behind) front h = record {
      same = sym (ap (λ (s : ChildrenState). outcome_by s (AllKnown (arrival ∷ behind) now.ready) (λ n. children_outcome now.delivery children behind (ready_after now.delivery now.ready arrival))) is)
          ∙ ap (λ (queue : List Arrival). children_outcome now.delivery children queue now.ready) (sym front) ∙ way.same;
      delivery = way.delivery;
      slots = way.slots;
    }

    pub looks_further : (next : AsyncResults) (n : ℕ) → children_state now.ready children ≡ IsUnknown n → true ≡ has_next now.queue → next ≡ after_look now → LooksOn next
    looks_further next n is h looked = subst (λ (r : AsyncResults). LooksOn r) (sym looked) (one_looked n is now.queue refl h)

-- what is left in line is less
shorter_by : (now : AsyncResults) (queue : List Arrival) → now.queue ≡ queue → true ≡ has_next queue → length (looked_at queue now).queue < length queue
shorter_by now [] is h = absurd cc
shorter_by now (arrival ∷ behind) is h = omega arith

pub shorter : (now next : AsyncResults) → true ≡ has_next now.queue → next ≡ after_look now → length next.queue < length now.queue
shorter now next h looked = subst (λ (r : AsyncResults). length r.queue < length now.queue) (sym looked) (shorter_by now now.queue refl h)

-- what has come of one
pub by_value : (brought : NotificationResult) (n : ℕ) (id : Bool) → id ≡ is_id (as_taken brought) → with_child (Some (as_taken brought)) n AreIds ≡ (if id then AreIds else IsNoId)
by_value (NotificationResult.InvocationId id) n true is = refl
by_value (NotificationResult.InvocationId id) n false is = absurd cc
by_value NotificationResult.Void n true is = absurd cc
by_value NotificationResult.Void n false is = refl
by_value (NotificationResult.Value bytes) n true is = absurd cc
by_value (NotificationResult.Value bytes) n false is = refl
by_value (NotificationResult.Failure failure) n true is = absurd cc
by_value (NotificationResult.Failure failure) n false is = refl
by_value (NotificationResult.StateKeys keys) n true is = absurd cc
by_value (NotificationResult.StateKeys keys) n false is = refl
