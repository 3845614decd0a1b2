-- The rows of an outbox are what is owed; and what was delivered was delivered once.
use Rattle.std.proofs.Common.{arith, true≢false, ◌≡◌, refl, sym, ap, ap₂, subst, ◌∙◌, ℕ, zero, suc, ◌≤◌, ◌==◌, Bool, true, false, not, ◌&&◌, ◌||◌, if◌then◌else◌, List, [], ◌∷◌, length, Option, Some, is_some, bytes_eq}
use Rattle.std.specs.List.{list_any, list_all}
use Rattle.std.proofs.lemmas.List.Folds.{list_any-append}
use Rattle.std.proofs.lemmas.Slice.Eq.{bytes_eq-Decides}
use Rattle.journal_model.specs.Notification.{Text}
use Rattle.journal_model.specs.Event.{Frame, Event}
use Rattle.journal_model.specs.Forgetting.{forget_tests}
use Rattle.journal_model.specs.Journal.{Entry, entries_of, starting_state}
use Rattle.journal_model.specs.Cause.{IsAccepted, is_empty, those_that_hold}
use Rattle.journal_laws.specs.Forgetting.{is_among, without_all}
use Rattle.journal_laws.proofs.Forgetting.{or_false}
use Rattle.journal_laws.proofs.ObjectState.{no_entries}
use Rattle.journal_laws.proofs.Leaving.{and-true}
use Rattle.journal_laws.proofs.Several.{several_forget}
use Rattle.delivery_laws.specs.Message.{Message, message_at, message_of}
use Rattle.delivery_laws.specs.Outbox.{has_number, is_row_of, Outbox, OwedRow, rows_put, with_rows}
use Rattle.delivery_laws.specs.Log.{Logged, Found, Came, Delivered, Forgot, events_of, kept_of, is_delivered, is_found, is_settled, outbox_of, owes, times_delivered}
use Rattle.delivery_laws.specs.Delivery.{DeliveryRules, after_steps, may_forget, Step}
use Rattle.delivery_laws.specs.Posted.{are_apart, ascend_to, IsPosted, IsReached, ReachesOnce}
use Rattle.delivery_laws.proofs.Messages.{all_same, at_place, bring_quiet, event_puts, none_at, puts_free, there_still}
use Rattle.delivery_laws.proofs.Messages as messages
use Rattle.delivery_laws.proofs.Posted.{first_posted, message_left, message_stays, posted_accepted, steps_posted}
use Rattle.delivery_laws.proofs.Rows.{any_without, apart_behind, apart_kept, ascend_kept, found_row, itself, no_not, put_behind, rows_behind, same_message}

module _ (rules : DeliveryRules) where
  module _ (sender : Text) (place : ℕ) where
    abbrev is_there : List Event → Bool
    is_there events = messages.is_there sender place events

    abbrev puts : List Event → ℕ → Event → Bool
    puts events number event = messages.puts sender place events number event

    delivered_there : (row : OwedRow) (brought : List Event) (log : List Logged) → IsPosted rules (Delivered row brought ∷ log)
        → is_there (events_of (Delivered row brought ∷ log)) ≡ is_there (events_of log)
    delivered_there row brought log posted =
        all_same sender place brought (events_of log) (posted_accepted rules (Delivered row brought ∷ log) posted)
        (bring_quiet sender place rules (kept_of log) row.sender posted.0.id posted.0.message brought posted.0.brings)

    found_there : (log : List Logged) → IsPosted rules log → is_found log sender place ≡ true → is_there (events_of log) ≡ true
    found_there [] posted e = cc
    found_there (Found events ∷ log) posted e = e
    found_there (Came event ∷ log) posted e =
        there_still sender place (events_of log) (event ∷ []) (posted.0.causes, posted_accepted rules log posted.1) (found_there log posted.1 e)
    found_there (Delivered row brought ∷ log) posted e = delivered_there row brought log posted ∙ found_there log posted.1 e
    found_there (Forgot ids ∷ log) posted e =
        let both = and-true (not (is_among ids sender)) (is_found log sender place) e in
        ap (λ (o : Option Message). is_some o) (message_left (events_of log) ids sender place (no_not (is_among ids sender) both.0))
        ∙ found_there log posted.1 both.1

    -- ---- the rows

    abbrev any : List Logged → Bool
    any log = list_any (is_row_of sender place) (outbox_of log).rows

    came_bools : (put there settled : Bool) → (put ≡ true → there ≡ false) → (settled ≡ true → there ≡ true) → ((there && not settled) || put) ≡ ((put || there) && not settled)
    came_bools false true true free known = refl
    came_bools false true false free known = refl
    came_bools false false settled free known = refl
    came_bools true true settled free known = absurd (true≢false (free refl))
    came_bools true false true free known = absurd (true≢false (sym (known refl)))
    came_bools true false false free known = refl

    gone_bools : (same there found gone : Bool) → (not same && (there && not (found || gone))) ≡ (there && not (found || (same || gone)))
    gone_bools false there found gone = refl
    gone_bools true true true gone = refl
    gone_bools true true false gone = refl
    gone_bools true false found gone = refl

    empty_rows : (at : ℕ) → false ≡ (is_some (message_at [] sender at) && true)
    empty_rows zero = refl
    empty_rows (suc n) = refl

    found_rows : (there : Bool) → false ≡ (there && not (there || false))
    found_rows true = refl
    found_rows false = refl

    -- one that may be forgotten owes nothing
    may_each : (log : List Logged) (ids : List Text) → list_all (may_forget log) ids ≡ true → is_among ids sender ≡ true → may_forget log sender ≡ true
    may_each log [] e f = cc
    may_each log (id ∷ ids) e f = by_same (bytes_eq id sender) refl f (may_each log ids both.1)
      where
        both : (may_forget log id ≡ true) × (list_all (may_forget log) ids ≡ true)
        both = and-true (may_forget log id) (list_all (may_forget log) ids) e

        by_same : (b : Bool) → bytes_eq id sender ≡ b → (b || is_among ids sender) ≡ true → (is_among ids sender ≡ true → may_forget log sender ≡ true)
            → may_forget log sender ≡ true
        by_same true g f later = subst (λ (x : Text). may_forget log x ≡ true) ((bytes_eq-Decides id sender).0 g) both.0
        by_same false g f later = later f

    none_of_sender : (rows : List OwedRow) → list_any (λ row. bytes_eq row.sender sender) rows ≡ false → list_any (is_row_of sender place) rows ≡ false
    none_of_sender [] e = refl
    none_of_sender (row ∷ rows) e =
        let both = or_false (bytes_eq row.sender sender) (list_any (λ it. bytes_eq it.sender sender) rows) e in
        ap (λ (b : Bool). (b && (row.place == place)) || list_any (is_row_of sender place) rows) both.0 ∙ none_of_sender rows both.1

    settled_rows : (log : List Logged) → may_forget log sender ≡ true → any log ≡ false
    settled_rows log e =
        none_of_sender (outbox_of log).rows
        (no_not (list_any (λ row. bytes_eq row.sender sender) (outbox_of log).rows)
        (and-true (is_empty (those_that_hold (forget_tests (events_of log) sender))) (not (list_any (λ row. bytes_eq row.sender sender) (outbox_of log).rows)) e).1)

    forgot_rows : (ids : List Text) (log : List Logged) → IsPosted rules (Forgot ids ∷ log) → any log ≡ owes log sender place → any log ≡ owes (Forgot ids ∷ log) sender place
    forgot_rows ids log posted before = by_among (is_among ids sender) refl
      where
        by_among : (b : Bool) → is_among ids sender ≡ b
            → any log ≡ (is_some (message_at (without_all ids (events_of log)) sender place) && not ((not b && is_found log sender place) || (not b && is_delivered log sender place)))
        by_among false e =
            before ∙ ap (λ (o : Option Message). is_some o && not (is_settled log sender place)) (sym (message_left (events_of log) ids sender place e))
        by_among true e =
            settled_rows log (may_each log ids posted.0 e)
            ∙ sym (ap (λ (entries : List Entry). at_place entries place && true)
            (no_entries (starting_state (without_all ids (events_of log)) sender) (without_all ids (events_of log)) (posted_accepted rules (Forgot ids ∷ log) posted) sender ((several_forget (events_of log) ids).unknown sender e))
            ∙ ap (λ (b : Bool). b && true) (none_at place))

    further : (item : Logged) (log : List Logged)
        → ((message : Message) → message_at (events_of log) sender place ≡ Some message → message_at (events_of (item ∷ log)) sender place ≡ Some message)
        → IsReached rules log sender place → IsReached rules (item ∷ log) sender place
    further item log keeps found = record {
      later = item ∷ found.later;
      before = found.before;
      row = found.row;
      brought = found.brought;
      whole = ap (λ (rest : List Logged). item ∷ rest) found.whole;
      named = found.named;
      delivery = found.delivery;
      stays = keeps found.delivery.message found.stays;
    }

    -- what is delivered has come from a row
    delivered_reached : (log : List Logged) → IsPosted rules log → is_delivered log sender place ≡ true → IsReached rules log sender place
    delivered_reached [] posted e = cc
    delivered_reached (Found events ∷ log) posted e = cc
    delivered_reached (Came event ∷ log) posted e = further (Came event) log stay (delivered_reached log posted.1 e)
      where
        stay : (message : Message) → message_at (events_of log) sender place ≡ Some message → message_at (events_of (Came event ∷ log)) sender place ≡ Some message
        stay message f =
            message_stays (events_of log) (event ∷ []) sender place message (posted.0.causes, posted_accepted rules log posted.1) f
    delivered_reached (Delivered row brought ∷ log) posted e = by_same (is_row_of sender place row) refl (delivered_reached log posted.1) e
      where
        stay : (message : Message) → message_at (events_of log) sender place ≡ Some message → message_at (events_of (Delivered row brought ∷ log)) sender place ≡ Some message
        stay message = message_stays (events_of log) brought sender place message (posted_accepted rules (Delivered row brought ∷ log) posted)

        by_same : (b : Bool) → is_row_of sender place row ≡ b → (is_delivered log sender place ≡ true → IsReached rules log sender place)
            → (b || is_delivered log sender place) ≡ true → IsReached rules (Delivered row brought ∷ log) sender place
        by_same false f before g = further (Delivered row brought) log stay (before g)
        by_same true f before g =
            let same = same_message row.sender row.place sender place f in
            record {
              later = [];
              before = log;
              row = row;
              brought = brought;
              whole = refl;
              named = f;
              delivery = posted.0;
              stays = stay posted.0.message (sym (ap₂ (λ (a : Text) (n : ℕ). message_at (events_of log) a n) same.0 same.1) ∙ posted.0.recorded);
            }
    delivered_reached (Forgot ids ∷ log) posted e =
        let both = and-true (not (is_among ids sender)) (is_delivered log sender place) e in
        further (Forgot ids) log
        (λ message f. message_left (events_of log) ids sender place (no_not (is_among ids sender) both.0) ∙ f)
        (delivered_reached log posted.1 both.1)

    settled_there : (log : List Logged) → IsPosted rules log → is_settled log sender place ≡ true → is_there (events_of log) ≡ true
    settled_there log posted e = by_found (is_found log sender place) refl e
      where
        by_found : (b : Bool) → is_found log sender place ≡ b → (b || is_delivered log sender place) ≡ true → is_there (events_of log) ≡ true
        by_found true f g = found_there log posted f
        by_found false f g = ap (λ (o : Option Message). is_some o) (delivered_reached log posted g).stays

    came_rows : (event : Event) (log : List Logged) → IsPosted rules (Came event ∷ log) → any log ≡ owes log sender place → any (Came event ∷ log) ≡ owes (Came event ∷ log) sender place
    came_rows event log posted before =
        let outbox : Outbox = outbox_of log in
        let rows : List OwedRow = rows_put (events_of log) (suc outbox.given) event in
        let there : Bool = is_there (events_of log) in
        let settled : Bool = is_settled log sender place in
        let put : Bool = puts (events_of log) (suc outbox.given) event in
        ap (list_any (is_row_of sender place)) (rows_behind rows outbox)
        ∙ list_any-append (is_row_of sender place) outbox.rows rows
        ∙ ap (λ (b : Bool). b || put) before
        ∙ came_bools put there settled (puts_free sender place (suc outbox.given) event (events_of log)) (settled_there log posted.1)
        ∙ sym (ap (λ (b : Bool). b && not settled) (event_puts sender place (suc outbox.given) event (events_of log) (posted.0.causes, posted_accepted rules log posted.1)))

    delivered_rows : (row : OwedRow) (brought : List Event) (log : List Logged) → IsPosted rules (Delivered row brought ∷ log) → ascend_to 0 (outbox_of log).given (outbox_of log).rows ≡ true
        → are_apart (outbox_of log).rows ≡ true → any log ≡ owes log sender place → any (Delivered row brought ∷ log) ≡ owes (Delivered row brought ∷ log) sender place
    delivered_rows row brought log posted up apart before =
        any_without sender place row.number 0 (outbox_of log).given (outbox_of log).rows row up apart posted.0.found
        ∙ ap (λ (b : Bool). not (is_row_of sender place row) && b) before
        ∙ gone_bools (is_row_of sender place row) (is_there (events_of log)) (is_found log sender place) (is_delivered log sender place)
        ∙ sym (ap (λ (b : Bool). b && not (is_found log sender place || (is_row_of sender place row || is_delivered log sender place))) (delivered_there row brought log posted))

-- ---- all together

-- the numbers ascend, the messages are apart, and the rows are those of what is owed
pub record StandsAs (log : List Logged) : Type 0 where
  pub ascend : ascend_to 0 (outbox_of log).given (outbox_of log).rows ≡ true
  pub apart : are_apart (outbox_of log).rows ≡ true
  pub owed : (sender : Text) (place : ℕ) → list_any (is_row_of sender place) (outbox_of log).rows ≡ owes log sender place

pub record IsOrdered (outbox : Outbox) : Type 0 where
  pub ascend : ascend_to 0 outbox.given outbox.rows ≡ true
  pub apart : are_apart outbox.rows ≡ true

one_more : (outbox : Outbox) (b : Bool) (row : OwedRow) → row.number ≡ suc outbox.given → (b ≡ true → list_any (is_row_of row.sender row.place) outbox.rows ≡ false)
    → IsOrdered outbox → IsOrdered (with_rows (if b then row ∷ [] else []) outbox)
one_more outbox false row e free o = o
one_more outbox true row e free o = record {
  ascend = put_behind 0 outbox.given outbox.rows row (omega (arith, e)) (omega (arith, e)) o.ascend;
  apart = apart_behind outbox.rows row o.apart (free refl);
}

came_ordered : (rules : DeliveryRules) (event : Event) (log : List Logged) → IsPosted rules (Came event ∷ log) → StandsAs log → IsOrdered (outbox_of (Came event ∷ log))
came_ordered rules (Event.Move id attempt (Frame.Command request)) log posted s =
    let row : OwedRow = record { number = suc (outbox_of log).given; sender = id; place = suc (length (entries_of (events_of log) id)) } in
    one_more (outbox_of log) (is_some (message_of request)) row refl
    (λ e. s.owed row.sender row.place
    ∙ ap (λ (b : Bool). b && not (is_settled log row.sender row.place))
    (puts_free row.sender row.place row.number (Event.Move id attempt (Frame.Command request)) (events_of log)
    (ap (λ (b : Bool). list_any (is_row_of row.sender row.place) (if b then row ∷ [] else [])) e ∙ ap (λ (b : Bool). b || false) (itself row.sender row.place))))
    (record { ascend = s.ascend; apart = s.apart })
came_ordered rules (Event.Move id attempt frame) log posted s = record { ascend = s.ascend; apart = s.apart }
came_ordered rules event log posted s = record { ascend = s.ascend; apart = s.apart }

pub stands : (rules : DeliveryRules) (log : List Logged) → IsPosted rules log → StandsAs log
stands rules [] posted = record { ascend = refl; apart = refl; owed = λ sender place. empty_rows rules sender place place }
stands rules (Found events ∷ log) posted = record {
  ascend = refl;
  apart = refl;
  owed = λ sender place. found_rows rules sender place (is_some (message_at events sender place));
}
stands rules (Came event ∷ log) posted =
    let before = stands rules log posted.1 in
    let o = came_ordered rules event log posted before in
    record { ascend = o.ascend; apart = o.apart; owed = λ sender place. came_rows rules sender place event log posted (before.owed sender place) }
stands rules (Delivered row brought ∷ log) posted =
    let before = stands rules log posted.1 in
    record {
      ascend = ascend_kept (λ it. not (has_number row.number it)) 0 (outbox_of log).given (outbox_of log).rows before.ascend;
      apart = apart_kept (λ it. not (has_number row.number it)) (outbox_of log).rows before.apart;
      owed = λ sender place. delivered_rows rules sender place row brought log posted before.ascend before.apart (before.owed sender place);
    }
stands rules (Forgot ids ∷ log) posted =
    let before = stands rules log posted.1 in
    record { ascend = before.ascend; apart = before.apart; owed = λ sender place. forgot_rows rules sender place ids log posted (before.owed sender place) }

-- ---- once

-- what has a row was not delivered
not_delivered : (rules : DeliveryRules) (row : OwedRow) (brought : List Event) (log : List Logged) → IsPosted rules (Delivered row brought ∷ log) → is_delivered log row.sender row.place ≡ false
not_delivered rules row brought log posted =
    let owed : owes log row.sender row.place ≡ true =
    sym ((stands rules log posted.1).owed row.sender row.place) ∙ found_row row.number (outbox_of log).rows row posted.0.found in
    (or_false (is_found log row.sender row.place) (is_delivered log row.sender row.place)
    (no_not (is_settled log row.sender row.place) (and-true (is_some (message_at (events_of log) row.sender row.place)) (not (is_settled log row.sender row.place)) owed).1)).1

pub once : (rules : DeliveryRules) (log : List Logged) → IsPosted rules log → (sender : Text) (place : ℕ)
    → times_delivered log sender place ≡ (if is_delivered log sender place then 1 else 0)
once rules [] posted sender place = refl
once rules (Found events ∷ log) posted sender place = refl
once rules (Came event ∷ log) posted sender place = once rules log posted.1 sender place
once rules (Delivered row brought ∷ log) posted sender place = by_same (is_row_of sender place row) refl (once rules log posted.1 sender place)
  where
    by_same : (b : Bool) → is_row_of sender place row ≡ b → times_delivered log sender place ≡ (if is_delivered log sender place then 1 else 0)
        → (if b then suc (times_delivered log sender place) else times_delivered log sender place) ≡ (if b || is_delivered log sender place then 1 else 0)
    by_same false e before = before
    by_same true e before =
        let same = same_message row.sender row.place sender place e in
        let none : is_delivered log sender place ≡ false =
        sym (ap₂ (λ (a : Text) (n : ℕ). is_delivered log a n) same.0 same.1) ∙ not_delivered rules row brought log posted in
        ap suc (before ∙ ap (λ (b : Bool). if b then 1 else 0) none)
once rules (Forgot ids ∷ log) posted sender place = by_among (is_among ids sender) (once rules log posted.1 sender place)
  where
    by_among : (b : Bool) → times_delivered log sender place ≡ (if is_delivered log sender place then 1 else 0)
        → (if b then 0 else times_delivered log sender place) ≡ (if not b && is_delivered log sender place then 1 else 0)
    by_among true before = refl
    by_among false before = before

pub reaches_once : (rules : DeliveryRules) (before : List Event) (steps : List Step) → IsAccepted before → (sender : Text) (place : ℕ)
    → ReachesOnce rules (after_steps rules (Found before ∷ []) steps) sender place
reaches_once rules before steps accepted sender place =
    let log : List Logged = after_steps rules (Found before ∷ []) steps in
    let posted : IsPosted rules log = steps_posted rules steps (Found before ∷ []) (first_posted rules before accepted) in
    record { times = once rules log posted sender place; reached = delivered_reached rules sender place log posted }

-- ---- numbers

one_grows : (outbox : Outbox) (b : Bool) (row : OwedRow) → row.number ≡ suc outbox.given → outbox.given ≤ (with_rows (if b then row ∷ [] else []) outbox).given
one_grows outbox false row e = omega arith
one_grows outbox true row e = omega (arith, e)

came_grows : (events : List Event) (event : Event) (outbox : Outbox) → outbox.given ≤ (with_rows (rows_put events (suc outbox.given) event) outbox).given
came_grows events (Event.Move id attempt (Frame.Command request)) outbox =
    one_grows outbox (is_some (message_of request)) (record { number = suc outbox.given; sender = id; place = suc (length (entries_of events id)) }) refl
came_grows events (Event.Move id attempt frame) outbox = omega arith
came_grows events event outbox = omega arith

pub numbers_grow : (rules : DeliveryRules) (item : Logged) (log : List Logged) → IsPosted rules (item ∷ log) → (outbox_of log).given ≤ (outbox_of (item ∷ log)).given
numbers_grow rules (Found events) log posted = subst (λ (before : List Logged). (outbox_of before).given ≤ 0) (sym posted.0.first) (omega arith)
numbers_grow rules (Came event) log posted = came_grows (events_of log) event (outbox_of log)
numbers_grow rules (Delivered row brought) log posted = omega arith
numbers_grow rules (Forgot ids) log posted = omega arith
