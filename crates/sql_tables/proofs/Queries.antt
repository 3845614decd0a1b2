-- A question inside a transaction that is undone.
use Rattle.std.proofs.Common.{◌≡◌, ◌⊎◌, inl, inr, ℕ, Bool, true, false, List, None, Some, Option, Ok, Err, IfErr, IfOk, OnOk, Result, IsTrue, refl, sym, ap, subst, subst₂, ◌∙◌, append-nil}
use Rattle.sqlite_value.specs.Order.{Row}
use Rattle.sqlite_schema.specs.declared.command.Command.{Command}
use Rattle.sqlite_schema.specs.declared.command.Returning.{Returning}
use Rattle.sqlite_schema.specs.declared.schema.Schema.{Schema}
use Rattle.sqlite.specs.declared.error.Error.{Error}
use Rattle.sqlite.specs.Clock.{timed}
use Rattle.sqlite.specs.Effect.{Database, Reads}
use Rattle.sqlite.specs.Listing.{understood, reads_listing, IsSourceOf}
use Rattle.sqlite.specs.State.{State, KeepsCommit, IsUnchanged, IsRolledBack, IsNotRun, FailsToQuery, FailsToShow, ExecutesInside, IsTooLate, Shown, ShowsRows}
use Rattle.sqlite.proofs.Callers.{IsPlain, command_of}
use Rattle.sql_tables.specs.QueryAnswers.{IsAnswer}

unchanged_keeps : (old new : State) → IsUnchanged old new → KeepsCommit old new
unchanged_keeps old new h = record { was_open = λ _. h.0.was_open; committed = λ _. h.0.committed_is }

rolled_keeps : (old new : State) → IsRolledBack old new → KeepsCommit old new
rolled_keeps old new h = record { was_open = h.was_open; committed = λ o. (h.undone o).1 }

not_run_keeps : (sql : List ℕ) (params : Row) (old new : State) (e : Error) → IsNotRun old new sql params e → KeepsCommit old new
unfolding IsNotRun
not_run_keeps sql params old new e (inl h) = unchanged_keeps old new h.1
not_run_keeps sql params old new e (inr h) = rolled_keeps old new h.3

failed_keeps : (sql : List ℕ) (params : Row) (old new : State) (e : Error) → FailsToQuery sql params old new e → KeepsCommit old new
unfolding FailsToQuery
failed_keeps sql params old new e (inl h) = not_run_keeps sql params old new e h
failed_keeps sql params old new e (inr h) = by_form h.0.returning h.2
  where
    by_form : (o : Option Returning) → FailsToShow old new sql h.0 (timed params h.0.formats h.1.now) e o → KeepsCommit old new
    by_form None it = unchanged_keeps old new it.3
    by_form (Some what) (inl it) = unchanged_keeps old new it.1
    by_form (Some what) (inr it) = rolled_keeps old new it.3

late_keeps : (sql : List ℕ) (params : Row) (old new : State) (e : Error) → IsTooLate sql params old new e → KeepsCommit old new
late_keeps sql params old new e h = unchanged_keeps old new h.5

pub shown_keeps : (sql : List ℕ) (params : Row) (old new : State) (rows : List Row) → old.in_transaction ≡ true → Shown sql params old new rows → KeepsCommit old new
unfolding Shown
shown_keeps sql params old new rows inside h = by_form h.0.returning h.2
  where
    by_form : (o : Option Returning) → ShowsRows old new sql h.0 (timed params h.0.formats h.1.now) rows o → KeepsCommit old new
    by_form None it = unchanged_keeps old new it.3
    by_form (Some what) it = record { was_open = λ _. it.1.shown.was_open; committed = λ _. rw inside at it.1.shown.committed_is }

pub failed_or_late_keeps : (sql : List ℕ) (params : Row) (old new : State) (e : Error) → FailsToQuery sql params old new e ⊎ IsTooLate sql params old new e → KeepsCommit old new
failed_or_late_keeps sql params old new e (inl h) = failed_keeps sql params old new e h
failed_or_late_keeps sql params old new e (inr h) = late_keeps sql params old new e h

pub shown_open : (sql : List ℕ) (params : Row) (old new : State) (rows : List Row) → Shown sql params old new rows → IsTrue old.is_open
unfolding Shown
shown_open sql params old new rows h = by_form h.0.returning h.2
  where
    by_form : (o : Option Returning) → ShowsRows old new sql h.0 (timed params h.0.formats h.1.now) rows o → IsTrue old.is_open
    by_form None it = it.3.0.was_open
    by_form (Some what) it = it.1.shown.was_open

-- inside a transaction it is not too late
pub asked_or_late : (sql : List ℕ) (params : Row) (old new : State) (e : Error) → old.in_transaction ≡ true → FailsToQuery sql params old new e ⊎ IsTooLate sql params old new e → FailsToQuery sql params old new e
asked_or_late sql params old new e inside (inl h) = h
asked_or_late sql params old new e inside (inr h) = let clash : true ≡ false = sym inside ∙ h.3 in absurd cc

-- ---- changes

pub went_inside : {A E : Type 0} (b : Bool) (r : Result A E) (x : A) (e : E) (X : Type 0) → r ≡ Ok x → (b ≡ false → (r ≡ Err e) × X) → IsTrue b
went_inside true r x e X went ended = refl
went_inside false r x e X went ended = let no : Ok x ≡ Err e = sym went ∙ (ended refl).0 in absurd cc

pub run_keeps : (sql : List ℕ) (params : Row) (old new : State) (count : ℕ) → ExecutesInside 0 sql params old new (Ok count) → KeepsCommit old new
run_keeps sql params old new count h = record { was_open = λ _. h.1.was_open; committed = λ _. h.1.committed_is }

pub failed_run_keeps : (sql : List ℕ) (params : Row) (old new : State) (e : Error) → ExecutesInside 0 sql params old new (Err e) → KeepsCommit old new
failed_run_keeps sql params old new e (inl h) = elim h.1 [ inl same ↦ unchanged_keeps old new same | inr undone ↦ rolled_keeps old new undone ]
failed_run_keeps sql params old new e (inr h) = unchanged_keeps old new h.2

pub keeps_itself : (s : State) → KeepsCommit s s
keeps_itself s = record { was_open = λ o. o; committed = λ _. refl }

pub keeps_on : (a b c : State) → KeepsCommit a b → KeepsCommit b c → KeepsCommit a c
keeps_on a b c one two = record { was_open = λ o. one.was_open (two.was_open o); committed = λ o. two.committed o ∙ one.committed (two.was_open o) }

-- the answer inside, as one of the state before
pub shown_answers : (sql : List ℕ) (params : Row) (old begun new : State) (rows : List Row) → begun.now ≡ old.now → Shown sql params begun new rows → IsAnswer sql params old rows
unfolding Shown IsAnswer
shown_answers sql params old begun new rows same h = (
  h.0,
  record { is = subst (λ (d : Database). understood d.schema sql ≡ Ok h.0) same h.1.is; whole = h.1.whole; given = h.1.given; now = h.1.now },
  λ none. let it = subst (ShowsRows begun new sql h.0 (timed params h.0.formats h.1.now) rows) none h.2 in
      (it.0, subst (λ (d : Database). IsSourceOf (reads_listing d.schema sql) d it.0) same it.1, it.2),
)

-- nothing stays of what is undone
pub undone_keeps : (old begun mid new : State) → begun.committed ≡ old.committed → begun.is_open ≡ old.is_open → (IsTrue old.is_open → old.now ≡ old.committed) → KeepsCommit begun mid → IsRolledBack mid new → (IsTrue new.is_open → IsTrue old.is_open × (new.now ≡ old.now))
undone_keeps old begun mid new committed opened settled kept undone is_open =
    let mid_open = undone.was_open is_open in
    let was : IsTrue old.is_open = subst IsTrue opened (kept.was_open mid_open) in
    (was, (undone.undone is_open).0 ∙ kept.committed mid_open ∙ committed ∙ sym (settled was))

-- the meaning of a plain text's answer
pub answer_as : (sql : List ℕ) (params : Row) (s : State) (schema : Schema) → s.now.schema ≡ schema → (command : Command) → command_of (understood schema sql) ≡ command → IsPlain (understood schema sql) → reads_listing schema sql ≡ false
    → (rows : List Row) → IsAnswer sql params s rows → Reads command s.now params rows
unfolding IsAnswer
answer_as sql params s schema has command is plain unlisted rows h =
    let known = sym h.1.is ∙ ap (λ k. understood k sql) has in
    let bare = subst IsPlain (sym known) plain in
    let it = rw (bare.1, append-nil params) at (h.2 bare.0) in
    let db : it.0 ≡ s.now = subst (λ b. IsSourceOf b s.now it.0) (ap (λ k. reads_listing k sql) has ∙ unlisted) it.1 in
    subst₂ (λ k d. Reads k d params rows) (ap command_of known ∙ is) db it.2

-- ---- what is said of a call that went well

pub on_ok : {A E : Type 0} {P Q : Type 0} (r : Result A E) → OnOk r P → (P → Q) → OnOk r Q
on_ok (Ok x) p f = f p
on_ok (Err e) p f = tt

pub ok_then : {A E : Type 0} {P Q : A → Type 0} (r : Result A E) → IfOk r P → ((x : A) → P x → Q x) → IfOk r Q
ok_then (Ok x) p f = f x p
ok_then (Err e) p f = tt

pub err_then : {A E : Type 0} {P Q : E → Type 0} (r : Result A E) → IfErr r P → ((e : E) → P e → Q e) → IfErr r Q
err_then (Ok x) p f = tt
err_then (Err e) p f = f e p
