-- The outbox is the state of the object whose name is empty.
use Rattle.std.proofs.Common.{arith, true≢false, ◌≡◌, refl, sym, ap, ap₂, subst, ◌∙◌, ℕ, zero, suc, ◌-◌, ◌^◌, ◌<◌, ◌==◌, nat_le, nat_lt, Bool, true, false, not, ◌&&◌, if◌then◌else◌, List, [], ◌∷◌, ◌++◌, filter, length, map, Option, Some, None, is_some, Ordering, Less, is_eq}
use Rattle.std.specs.List.{find}
use Rattle.std.specs.Ordering.{eq_by_cmp}
use Rattle.std.specs.FinMap.Entries.{by_order}
use Rattle.std.specs.Cmp.Lexicographic.{nat_list_cmp_total}
use Rattle.std.specs.Ordering.{ordering_reverse}
use Rattle.std.proofs.lemmas.Bool.{eq-eqb, eqb-true, leb-false, ltb-false, ltb-true}
use Rattle.std.proofs.lemmas.List.Elements.{filter-append}
use Rattle.std.proofs.lemmas.List.{map-append}
use Rattle.journal_model.specs.Notification.{Bytes, Text}
use Rattle.journal_model.specs.Request.{Request}
use Rattle.journal_model.specs.State.{StateMap, bytes_cmp, state_after, state_change, with_value, without_key}
use Rattle.journal_model.specs.declared.cause.Cause.{Cause}
use Rattle.journal_model.specs.Event.{Event, Frame}
use Rattle.journal_model.specs.Journal.{entries_of}
use Rattle.journal_model.specs.Cause.{those_that_hold}
use Rattle.delivery_laws.specs.Message.{message_of}
use Rattle.delivery_laws.specs.Outbox.{drop_of, given_entries, given_key, has_number, Outbox, outbox_state, OwedRow, puts_of, row_entry, row_key, row_value, rows_put, with_rows, without_number}
use Rattle.delivery_laws.specs.Log.{Logged, Found, Came, Delivered, Forgot, events_of, outbox_of}
use Rattle.delivery_laws.specs.Delivery.{DeliveryRules}
use Rattle.delivery_laws.specs.Posted.{ascend_to, IsPosted, OutboxIsState}
use Rattle.delivery_laws.proofs.Outbox.{stands}
use Rattle.delivery_laws.proofs.Rows.{is_between, IsBetween}
use Rattle.delivery_laws.proofs.Texts.{key_is_above, keys_ascend, same_cmp}

-- ---- keys

pub key_tied : (n m : ℕ) → n < 2 ^ 64 → m < 2 ^ 64 → eq_by_cmp bytes_cmp (row_key n) (row_key m) ≡ (m == n)
key_tied n m l k = by_tests (m == n) refl (nat_lt m n) refl (nat_lt n m) refl
  where
    by_tests : (a : Bool) → (m == n) ≡ a → (b : Bool) → nat_lt m n ≡ b → (c : Bool) → nat_lt n m ≡ c → is_eq (bytes_cmp (row_key n) (row_key m)) ≡ a
    by_tests true e b f c g =
        ap is_eq (ap (λ (x : ℕ). bytes_cmp (row_key n) (row_key x)) (eqb-true m n e) ∙ same_cmp (row_key n))
    by_tests false e true f c g = ap is_eq (keys_ascend m n (ltb-true m n f) l)
    by_tests false e false f true g =
        ap is_eq (nat_list_cmp_total.antisymm (row_key n) (row_key m) ∙ ap ordering_reverse (keys_ascend n m (ltb-true n m g) k))
    by_tests false e false f false g =
        let below = ltb-false m n f in
        let above = ltb-false n m g in
        let same : m ≡ n = omega (arith, below, above) in
        absurd (true≢false (sym (eq-eqb m n same) ∙ e))

pub given_below : (n : ℕ) → bytes_cmp given_key (row_key n) ≡ Less
given_below n = nat_list_cmp_total.antisymm given_key (row_key n) ∙ ap ordering_reverse (key_is_above n)

-- ---- a row is put

abbrev put_in : Bytes → Bytes → Bytes × Bytes → StateMap → Ordering → StateMap
put_in key value e es o = by_order o ((key, value) ∷ e ∷ es) ((e.0, value) ∷ es) (e ∷ with_value es key value)

given_put : (given : ℕ) (rows : List OwedRow) (value : Bytes)
    → with_value (given_entries given ++ map row_entry rows) given_key value ≡ (given_key, value) ∷ map row_entry rows
given_put zero [] value = refl
given_put zero (row ∷ rows) value = ap (put_in given_key value (row_entry row) (map row_entry rows)) (given_below row.number)
given_put (suc n) rows value = refl

row_put : (last given number : ℕ) (value : Bytes) (rows : List OwedRow) → ascend_to last given rows ≡ true → given < number → number < 2 ^ 64
    → with_value (map row_entry rows) (row_key number) value ≡ map row_entry rows ++ (row_key number, value) ∷ []
row_put last given number value [] up l m = refl
row_put last given number value (row ∷ rows) up l m =
    let is = is_between last given row rows up in
    ap (put_in (row_key number) value (row_entry row) (map row_entry rows)) (keys_ascend row.number number (omega (arith, is.within, l)) m)
    ∙ ap (λ (rest : StateMap). row_entry row ∷ rest) (row_put row.number given number value rows is.rest l m)

one_put : (outbox : Outbox) (row : OwedRow) → row.number ≡ suc outbox.given → ascend_to 0 outbox.given outbox.rows ≡ true → suc outbox.given < 2 ^ 64
    → with_value (with_value (outbox_state outbox) given_key (row_key row.number)) (row_key row.number) (row_value row) ≡ outbox_state (with_rows (row ∷ []) outbox)
one_put outbox row e up l =
    let number : ℕ = row.number in
    let small : number < 2 ^ 64 = omega (arith, e, l) in
    ap (λ (state : StateMap). with_value state (row_key number) (row_value row)) (given_put outbox.given outbox.rows (row_key number))
    ∙ ap (put_in (row_key number) (row_value row) (given_key, row_key number) (map row_entry outbox.rows)) (key_is_above number)
    ∙ ap (λ (rest : StateMap). (given_key, row_key number) ∷ rest) (row_put 0 outbox.given number (row_value row) outbox.rows up (omega (arith, e)) small)
    ∙ ap (λ (rest : StateMap). (given_key, row_key number) ∷ rest) (sym (map-append row_entry outbox.rows (row ∷ [])))
    ∙ ap (λ (entries : StateMap). entries ++ map row_entry (outbox.rows ++ row ∷ [])) (first_entry number e)
  where
    first_entry : (n : ℕ) → n ≡ suc outbox.given → (given_key, row_key n) ∷ [] ≡ given_entries n
    first_entry zero f = absurd (omega (arith, f))
    first_entry (suc n) f = refl

-- ---- a row is dropped

rows_left : (last given number : ℕ) (rows : List OwedRow) → ascend_to last given rows ≡ true → given < 2 ^ 64 → number < 2 ^ 64
    → without_key (map row_entry rows) (row_key number) ≡ map row_entry (filter (λ row. not (has_number number row)) rows)
rows_left last given number [] up l m = refl
rows_left last given number (row ∷ rows) up l m =
    let is = is_between last given row rows up in
    ap (λ (b : Bool). if not b then row_entry row ∷ without_key (map row_entry rows) (row_key number) else without_key (map row_entry rows) (row_key number))
    (key_tied number row.number m (omega (arith, is.within, l)))
    ∙ by_number (has_number number row) (rows_left row.number given number rows is.rest l m)
  where
    by_number : (b : Bool) → without_key (map row_entry rows) (row_key number) ≡ map row_entry (filter (λ it. not (has_number number it)) rows)
        → (if not b then row_entry row ∷ without_key (map row_entry rows) (row_key number) else without_key (map row_entry rows) (row_key number))
        ≡ map row_entry (if not b then row ∷ filter (λ it. not (has_number number it)) rows else filter (λ it. not (has_number number it)) rows)
    by_number true h = h
    by_number false h = ap (λ (rest : StateMap). row_entry row ∷ rest) h

given_left : (given number : ℕ) → without_key (given_entries given) (row_key number) ≡ given_entries given
given_left zero number = refl
given_left (suc n) number =
    ap (λ (o : Ordering). if not (is_eq o) then (given_key, row_key (suc n)) ∷ [] else []) (key_is_above number)

one_dropped : (outbox : Outbox) (number : ℕ) → ascend_to 0 outbox.given outbox.rows ≡ true → outbox.given < 2 ^ 64 → number < 2 ^ 64
    → without_key (outbox_state outbox) (row_key number) ≡ outbox_state (without_number number outbox)
one_dropped outbox number up l m =
    filter-append (λ entry. not (eq_by_cmp bytes_cmp (row_key number) entry.0)) (given_entries outbox.given) (map row_entry outbox.rows)
    ∙ ap₂ (λ (a b : StateMap). a ++ b) (given_left outbox.given number) (rows_left 0 outbox.given number outbox.rows up l m)

-- a number that is found is one that was given
found_given : (number last given : ℕ) (rows : List OwedRow) (row : OwedRow) → ascend_to last given rows ≡ true → find (has_number number) rows ≡ Some row → number < suc given
found_given number last given [] row up e = cc
found_given number last given (first ∷ rows) row up e = by_number (has_number number first) refl e (found_given number first.number given rows row is.rest)
  where
    is : IsBetween last given first rows
    is = is_between last given first rows up

    by_number : (b : Bool) → has_number number first ≡ b → (if b then Some first else find (has_number number) rows) ≡ Some row
        → (find (has_number number) rows ≡ Some row → number < suc given) → number < suc given
    by_number true f g later = let same = eqb-true first.number number f in omega (arith, same, is.within)
    by_number false f g later = later g

-- ---- numbers have 64 bits

small_put : (outbox : Outbox) (b : Bool) (row : OwedRow) → row.number ≡ suc outbox.given → outbox.given < 2 ^ 64
    → (b ≡ true → suc outbox.given < 2 ^ 64) → (with_rows (if b then row ∷ [] else []) outbox).given < 2 ^ 64
small_put outbox false row e l room = l
small_put outbox true row e l room = omega (arith, e, room refl)

room_left : (b c : Bool) → those_that_hold ((b && c, Cause.NumbersUsedUp) ∷ []) ≡ [] → b ≡ true → c ≡ false
room_left true true e f = cc
room_left true false e f = refl
room_left false c e f = cc

room_of : (rules : DeliveryRules) (id : Text) (attempt : ℕ) (request : Request) (log : List Logged) → IsPosted rules (Came (Event.Move id attempt (Frame.Command request)) ∷ log)
    → is_some (message_of request) ≡ true → suc (outbox_of log).given < 2 ^ 64
room_of rules id attempt request log posted e =
    let free = room_left (is_some (message_of request)) (nat_le (2 ^ 64 - 1) (outbox_of log).given) posted.0.number e in
    let less = leb-false (2 ^ 64 - 1) (outbox_of log).given free in
    omega (arith, less)

pub given_small : (rules : DeliveryRules) (log : List Logged) → IsPosted rules log → (outbox_of log).given < 2 ^ 64
given_small rules [] posted = omega arith
given_small rules (Found events ∷ log) posted = omega arith
given_small rules (Came (Event.Move id attempt (Frame.Command request)) ∷ log) posted =
    small_put (outbox_of log) (is_some (message_of request)) (record { number = suc (outbox_of log).given; sender = id; place = suc (length (entries_of (events_of log) id)) }) refl
    (given_small rules log posted.1) (room_of rules id attempt request log posted)
given_small rules (Came (Event.Move id attempt frame) ∷ log) posted = given_small rules log posted.1
given_small rules (Came event ∷ log) posted = given_small rules log posted.1
given_small rules (Delivered row brought ∷ log) posted = given_small rules log posted.1
given_small rules (Forgot ids ∷ log) posted = given_small rules log posted.1

-- ---- all together

rows_state : (outbox : Outbox) (b : Bool) (row : OwedRow) → row.number ≡ suc outbox.given → ascend_to 0 outbox.given outbox.rows ≡ true → (b ≡ true → suc outbox.given < 2 ^ 64)
    → state_after (puts_of (if b then row ∷ [] else [])) (outbox_state outbox) ≡ outbox_state (with_rows (if b then row ∷ [] else []) outbox)
rows_state outbox false row e up room = refl
rows_state outbox true row e up room = one_put outbox row e up (room refl)

came_state : (rules : DeliveryRules) (event : Event) (log : List Logged) → IsPosted rules (Came event ∷ log)
    → state_after (puts_of (rows_put (events_of log) (suc (outbox_of log).given) event)) (outbox_state (outbox_of log)) ≡ outbox_state (outbox_of (Came event ∷ log))
came_state rules (Event.Move id attempt (Frame.Command request)) log posted =
    rows_state (outbox_of log) (is_some (message_of request)) (record { number = suc (outbox_of log).given; sender = id; place = suc (length (entries_of (events_of log) id)) }) refl
    (stands rules log posted.1).ascend (room_of rules id attempt request log posted)
came_state rules (Event.Move id attempt frame) log posted = refl
came_state rules event log posted = refl

delivered_state : (rules : DeliveryRules) (row : OwedRow) (brought : List Event) (log : List Logged) → IsPosted rules (Delivered row brought ∷ log)
    → state_change (drop_of row.number) (outbox_state (outbox_of log)) ≡ outbox_state (outbox_of (Delivered row brought ∷ log))
delivered_state rules row brought log posted =
    let small = given_small rules log posted.1 in
    let up = (stands rules log posted.1).ascend in
    one_dropped (outbox_of log) row.number up small
    (let given = found_given row.number 0 (outbox_of log).given (outbox_of log).rows row up posted.0.found in omega (arith, given, small))

pub outbox_is_state : (rules : DeliveryRules) → OutboxIsState rules
outbox_is_state rules = record { put = came_state rules; dropped = delivered_state rules }
