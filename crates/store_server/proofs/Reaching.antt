-- What a store reaches: by nothing, by one call, by one call behind another.
use Rattle.std.proofs.Common.{◌≡◌, ℕ, List, [], Result, Ok, Err, refl, sym, subst, ◌∙◌, arith}
use Rattle.std.specs.Prelude.{IfOk}
use Rattle.sqlite_trees.specs.declared.store.Store.{Ghosts}
use Rattle.sqlite.specs.Held.{state}
use Rattle.sqlite.specs.State.{HasCleanDisk}
use Rattle.journal_model.specs.Event.{Event}
use Rattle.journal_model.specs.Notification.{Text}
use Rattle.journal_model.specs.Cause.{those_that_hold}
use Rattle.store_refusals.specs.declared.refusal.Refusal.{Refusal}
use Rattle.store_refusals.specs.Preparations.{TellsOrRefuses}
use Rattle.store_refusals.specs.RefusalConditions.{IsRefused}
use Rattle.store_invocations.specs.Rows.{Decides, known_tests}
use Rattle.store_live.specs.Attempts.{Attempts}
use Rattle.store_calls.specs.AbstractStore.{Standing, StaysStanding}
use Rattle.journal_store.specs.StoreView.{Stored}
use Rattle.journal_store.specs.StoreStanding.{Endures, EnduresAlways, IsQuiet, Leads, Stands, output_of}
use Rattle.journal_store.proofs.Enduring.{always_endures, endures_on, endures_so, quiet_endures, same_endures}
use Rattle.store_server.specs.StoreChanges.{CommitsNothing, ReachesStore, Tells, TellsKnown}
use Rattle.store_server.specs.RequestAnswers.{Answers, MakesAnswer, Shown, answer_text, refusal_line}

pub stays : (s : Standing) → StaysStanding s s
stays s = record { events = refl; outputs = λ id. refl }

module _ {S : Type 0} (g : Ghosts S) where
  -- nothing was done
  pub reaches_none : (Cut Relation : Standing → Standing → Type 0) (a : Stored S) → ((s : Standing) → Relation s s) → ReachesStore g Cut Relation a a
  reaches_none Cut Relation a same = record { crash = same_endures g Cut a; leads = λ clean s is. (s, is, same s) }

  -- it is said in another way
  pub reaches_so : (C D P Q : Standing → Standing → Type 0) (a b : Stored S) → ((s t : Standing) → C s t → D s t) → ((s t : Standing) → P s t → Q s t) → ReachesStore g C P a b → ReachesStore g D Q a b
  reaches_so C D P Q a b cut so one = record {
    crash = endures_so g C D a b cut one.crash;
    leads = λ clean s is. let it = one.leads clean s is in (it.0, it.1, so s it.0 it.2);
  }

  -- one behind another
  pub reaches_then : (C D E P Q R : Standing → Standing → Type 0) (a b c : Stored S) → ((s t : Standing) → C s t → E s t) → ((s m t : Standing) → P s m → D m t → E s t)
      → ((s m t : Standing) → P s m → Q m t → R s t) → ReachesStore g C P a b → ReachesStore g D Q b c → ReachesStore g E R a c
  reaches_then C D E P Q R a b c first behind join one two = record {
    crash = endures_on g C P D E a b c first behind one.crash one.leads two.crash;
    leads = λ clean s is.
        let mid = one.leads (omega (arith, two.crash.clean, clean)) s is in
        let end = two.leads clean mid.0 mid.1 in
        (end.0, end.1, join s mid.0 end.0 mid.2 end.2);
  }

  -- ---- a call

  module _ {T E A : Type 0} (bytes_of : T → List ℕ) (made : Result T E) (told : A → List ℕ) (answer : Result A Refusal) (old new : Stored S)
      (texts : IfOk made (λ it. bytes_of it ≡ answer_text told answer)) where
    -- a call, and its answer
    pub answers : (Call : Result A Refusal → Standing → Standing → Type 0) (Cut : Standing → Standing → Type 0) → Endures g Cut old new → Leads g (Call answer) old new
        → MakesAnswer bytes_of made (λ text. ReachesStore g Cut (Answers told Call text) old new)
    answers Call Cut crash leads = (
      answer_text told answer,
      texts,
      record {
        crash = crash;
        leads = λ clean s is. let it = leads clean s is in (it.0, it.1, record { answer = answer; call = it.2; text_is = refl });
      },
    )

    -- one that commits what does not hang on the attempts in memory
    pub answers_always : (Call : Result A Refusal → Standing → Standing → Type 0) (Cut : Standing → Standing → Type 0) → EnduresAlways g Cut old new → Leads g (Call answer) old new
        → MakesAnswer bytes_of made (λ text. ReachesStore g Cut (Answers told Call text) old new)
    answers_always Call Cut crash leads = answers Call Cut (always_endures g Cut old new crash) leads

    -- one that commits nothing
    pub answers_quiet : (Call : Result A Refusal → Standing → Standing → Type 0) → IsQuiet g old new → Leads g (Call answer) old new
        → MakesAnswer bytes_of made (λ text. ReachesStore g CommitsNothing (Answers told Call text) old new)
    answers_quiet Call crash leads = answers Call CommitsNothing (quiet_endures g CommitsNothing old new crash) leads

  -- ---- a question

  module _ (old new : Stored S) (quiet : IsQuiet g old new) (same : new.live ≡ old.live) (Told : List Event → Type 0)
      (tells : HasCleanDisk (state g new.connection) → (events : List Event) → Stands events (state g old.connection) old.live.attempts → Told events × Stands events (state g new.connection) new.live.attempts) where
    leads_told : Leads g (Shown Told) old new
    leads_told = λ clean s is.
        let it = tells clean s.events is.stands in (
          s,
          record { stands = it.1; outputs = λ id. subst (λ (live : Attempts). s.outputs id ≡ output_of live.attempts id) (sym same) (is.outputs id) },
          (it.0, stays s),
        )

    pub reaches_told : ReachesStore g CommitsNothing (Shown Told) old new
    reaches_told = record { crash = quiet_endures g CommitsNothing old new quiet; leads = leads_told }

  -- a question, and its answer
  pub asks : {T E A : Type 0} (bytes_of : T → List ℕ) (made : Result T E) (told : A → List ℕ) (IsTold : List Event → Result A Refusal → Type 0) (answer : Result A Refusal) (old new : Stored S)
      → IfOk made (λ it. bytes_of it ≡ answer_text told answer) → ReachesStore g CommitsNothing (Shown (λ events. IsTold events answer)) old new
      → MakesAnswer bytes_of made (λ text. ReachesStore g CommitsNothing (Answers told (λ it. Shown (λ events. IsTold events it)) text) old new)
  asks bytes_of made told IsTold answer old new texts reaches =
      answers bytes_of made told answer old new texts (λ it. Shown (λ events. IsTold events it)) CommitsNothing reaches.crash reaches.leads

  module _ {T E A : Type 0} (bytes_of : T → List ℕ) (made : Result T E) (told : A → List ℕ) (old new : Stored S) (quiet : IsQuiet g old new) (same : new.live ≡ old.live) where
    -- what a question is answered; of an invocation also that it is known
    pub tells_so : (IsTold : List Event → A → Type 0) (answer : A) → IfOk made (λ it. bytes_of it ≡ told answer)
        → (HasCleanDisk (state g new.connection) → (events : List Event) → Stands events (state g old.connection) old.live.attempts → IsTold events answer × Stands events (state g new.connection) new.live.attempts)
        → MakesAnswer bytes_of made (λ text. ReachesStore g CommitsNothing (Answers told (Tells IsTold) text) old new)
    tells_so IsTold answer texts tells =
        asks bytes_of made told (λ events it. TellsOrRefuses (IsTold events) it) (Ok answer) old new texts (reaches_told old new quiet same (λ events. IsTold events answer) tells)

    pub tells_none : (IsTold : List Event → A → Type 0) (why : Refusal) → IfOk made (λ it. bytes_of it ≡ refusal_line why)
        → (HasCleanDisk (state g new.connection) → (events : List Event) → Stands events (state g old.connection) old.live.attempts → IsRefused [] why × Stands events (state g new.connection) new.live.attempts)
        → MakesAnswer bytes_of made (λ text. ReachesStore g CommitsNothing (Answers told (Tells IsTold) text) old new)
    tells_none IsTold why texts tells =
        asks bytes_of made told (λ events it. TellsOrRefuses (IsTold events) it) (Err why) old new texts (reaches_told old new quiet same (λ events. IsRefused [] why) tells)

    pub knows_so : (id : Text) (IsTold : List Event → A → Type 0) (answer : A) → IfOk made (λ it. bytes_of it ≡ told answer)
        → (HasCleanDisk (state g new.connection) → (events : List Event) → Stands events (state g old.connection) old.live.attempts
        → ((those_that_hold (known_tests events id) ≡ []) × IsTold events answer) × Stands events (state g new.connection) new.live.attempts)
        → MakesAnswer bytes_of made (λ text. ReachesStore g CommitsNothing (Answers told (TellsKnown id IsTold) text) old new)
    knows_so id IsTold answer texts tells =
        asks bytes_of made told (λ events it. Decides (known_tests events id) (IsTold events) it) (Ok answer) old new texts
        (reaches_told old new quiet same (λ events. (those_that_hold (known_tests events id) ≡ []) × IsTold events answer) tells)

    pub knows_none : (id : Text) (IsTold : List Event → A → Type 0) (why : Refusal) → IfOk made (λ it. bytes_of it ≡ refusal_line why)
        → (HasCleanDisk (state g new.connection) → (events : List Event) → Stands events (state g old.connection) old.live.attempts
        → IsRefused (those_that_hold (known_tests events id)) why × Stands events (state g new.connection) new.live.attempts)
        → MakesAnswer bytes_of made (λ text. ReachesStore g CommitsNothing (Answers told (TellsKnown id IsTold) text) old new)
    knows_none id IsTold why texts tells =
        asks bytes_of made told (λ events it. Decides (known_tests events id) (IsTold events) it) (Err why) old new texts
        (reaches_told old new quiet same (λ events. IsRefused (those_that_hold (known_tests events id)) why) tells)

  -- two questions, one behind the other
  pub reaches_both : (P Q R : List Event → Type 0) (a b c : Stored S) → ((events : List Event) → P events → Q events → R events)
      → ReachesStore g CommitsNothing (Shown P) a b → ReachesStore g CommitsNothing (Shown Q) b c → ReachesStore g CommitsNothing (Shown R) a c
  reaches_both P Q R a b c both one two =
      reaches_then CommitsNothing CommitsNothing CommitsNothing (Shown P) (Shown Q) (Shown R) a b c (λ s t none. none) (λ s m t p none. none) joined one two
    where
      joined : (s m t : Standing) → Shown P s m → Shown Q m t → Shown R s t
      joined s m t p q = (
        both s.events p.0 (subst Q p.1.events q.0),
        record { events = q.1.events ∙ p.1.events; outputs = λ id. q.1.outputs id ∙ p.1.outputs id },
      )
