-- The next row of a live attempt's input is read.
use Rattle.std.proofs.Common.{◌≡◌, ℕ, zero, suc, ◌+◌, ◌-◌, ◌≤◌, ◌<◌, ◌^◌, ◌==◌, ◌++◌, arith, refl, sym, ap, subst, ◌∙◌, inl, inr, Bool, true, false, true≢false, if◌then◌else◌, List, [], ◌∷◌, length, Option, Some, None, option_map, Result, Ok, Err, IsErrAnd, bytes_eq}
use Rattle.std.specs.Prelude.{slice_get}
use Rattle.std.proofs.lemmas.Bool.{eqb-true, ltb-true}
use Rattle.std.proofs.lemmas.Slice.Eq.{bytes_eq-Decides}
use Rattle.sqlite_trees.specs.declared.store.Store.{Ghosts}
use Rattle.sqlite.specs.Held.{Held, state}
use Rattle.sqlite.specs.State.{State, HasCleanDisk}
use Rattle.protocol_types.specs.declared.message_type.MessageType.{MessageType}
use Rattle.protocol_types.specs.declared.message_type.MessageType.TheVariants.{ProposeRunCompletionAck}
use Rattle.journal_model.specs.Notification.{Bytes, Text}
use Rattle.journal_model.specs.Spelling.{acknowledgement_payload, frame_bytes}
use Rattle.journal_model.specs.Event.{Event}
use Rattle.journal_model.specs.Journal.{Arrived, Entry, Recorded, arrivals_in, entries_of, recorded_arrivals}
use Rattle.journal_model.specs.Cause.{IsAccepted}
use Rattle.store_tables.specs.Looks.{OnlyAsks}
use Rattle.store_tables.specs.declared.row.EntryRow.{EntryRow}
use Rattle.store_tables.specs.declared.row.InvocationRow.{InvocationRow}
use Rattle.store_model.specs.Lookups.{arrival_rows, rows_of_arrivals}
use Rattle.store_invocations.specs.Rows.{IsRowOf, IsStoreOf}
use Rattle.store_refusals.specs.declared.refusal.Refusal.{Refusal}
use Rattle.store_refusals.specs.Preparations.{TellsOrRefuses}
use Rattle.store_refusals.specs.RefusalConditions.{IsRefused}
use Rattle.store_live.specs.declared.attempt.LiveAttempt.{LiveAttempt}
use Rattle.store_live.specs.declared.input.FrameRead.{FrameRead}
use Rattle.store_live.specs.declared.input.NextRow.{NextRow}
use Rattle.store_live.specs.Input.{CanCount, is_first, next_ordinal, next_row}
use Rattle.store_live.specs.Attempts.{Attempts, ByInvocation, attempt_of, ChangesLive}
use Rattle.store_live_laws.specs.LiveAttempts.{Agrees, has_number}
use Rattle.store_live_laws.proofs.Left.{left_told}
use Rattle.store_live_laws.proofs.Steps.{is_read}
use Rattle.store_live_laws.specs.Memory.{InputCounts, arrival_read, frame_read, plain_read, row_asked, told_read}
use Rattle.store_live_laws.proofs.Reading.{inputs_count}
use Rattle.journal_store.specs.StoreView.{stored}
use Rattle.journal_store.specs.StoreStanding.{HasRow, KeepsOutputs, Stands}
use Rattle.journal_store.specs.Attempts.{FitsNext, HasRead, HasRoomFor, IsWanted, IsWantedBy, ReadsNext, after_wanted, has_closed, has_none_left, lacks_next, rest_kept}
use Rattle.journal_store.proofs.Fitting.{entries_fit}
use Rattle.journal_store.proofs.Rows.{rows_changed}
use Rattle.journal_store.proofs.Standing.{stands_asked, true_or_false}

-- a frame has its header at least
frame_full : (kind : MessageType) (payload : Bytes) → frame_bytes kind payload ≡ [] → ⊥
frame_full kind payload e = omega (arith, ap (λ (bytes : Bytes). length bytes) e)

read_full : (unread : List ℕ) (next : NextRow) (row : EntryRow) → (frame_read unread next row).bytes ≡ [] → ⊥
read_full unread (NextRow.Entry place) row e = frame_full row.kind row.payload e
read_full unread (NextRow.Arrival ordinal) row e = by_answer row.answered e
  where
    by_answer : (o : Option ℕ) → (arrival_read unread o row).bytes ≡ [] → ⊥
    by_answer None f = frame_full row.kind row.payload f
    by_answer (Some n) f = by_test (is_first unread n) f
      where
        by_test : (b : Bool) → (if b then told_read n row else plain_read row).bytes ≡ [] → ⊥
        by_test true g = frame_full ProposeRunCompletionAck (acknowledgement_payload n) g
        by_test false g = frame_full row.kind row.payload g

abbrev CountsSome : FrameRead → Option LiveAttempt → Type 0
CountsSome frame None = Unit {0}
CountsSome frame (Some attempt) = CanCount attempt.input frame

-- the attempt, once the frame that was found is taken in
pub record HasReadOn (events : List Event) (id : Text) (o : Option LiveAttempt) (found : Option FrameRead) : Type 0 where
  pub room : HasRoomFor found o
  pub agrees : Agrees events id (option_map (after_wanted found) o)
  pub read : HasRead events id (option_map (after_wanted found) o)

nothing_found : (events : List Event) (id : Text) (attempt : LiveAttempt) (found : Option FrameRead) → found ≡ None → Agrees events id (Some attempt) → HasRead events id (Some attempt)
    → HasReadOn events id (Some attempt) found
nothing_found events id attempt found none agrees read =
    subst (HasReadOn events id (Some attempt)) (sym none) (record { room = tt; agrees = agrees; read = read })

can_ask : (events : List Event) (id : Text) (o : Option LiveAttempt) → IsAccepted events → Agrees events id o → FitsNext o
can_ask events id None accepted agrees = tt
can_ask events id (Some attempt) accepted agrees = (inputs_count events id attempt.input accepted (entries_fit events id accepted) agrees.input).ordinal

read_on : (events : List Event) (id : Text) (o : Option LiveAttempt) (found : Option FrameRead) → IsAccepted events → Agrees events id o → IsWanted events id o found → HasReadOn events id o found
read_on events id None found accepted agrees is =
    subst (HasReadOn events id None) (sym is) (record { room = tt; agrees = agrees; read = λ attempt e. cc })
read_on events id (Some attempt) found accepted agrees is = by_test (length attempt.input.rest == 0) refl is
  where
    by_test : (b : Bool) → (length attempt.input.rest == 0) ≡ b → IsWantedBy events id attempt b found → HasReadOn events id (Some attempt) found
    by_test false e it = nothing_found events id attempt found it agrees (λ one f none. absurd (full one f none))
      where
        full : (one : LiveAttempt) → Some attempt ≡ Some one → one.input.rest ≡ [] → ⊥
        full one same none = true≢false (sym (ap (λ (rest : Bytes). length rest == 0) (ap rest_kept same ∙ none)) ∙ e)
    by_test true e it = by_row (row_asked events id (next_row attempt.input)) refl it
      where
        none : attempt.input.rest ≡ []
        none = empty attempt.input.rest (eqb-true (length attempt.input.rest) 0 e)
          where
            empty : (bytes : Bytes) → length bytes ≡ 0 → bytes ≡ []
            empty [] f = refl
            empty (byte ∷ bytes) f = absurd (omega (arith, f))

        counts : InputCounts events id attempt.input
        counts = inputs_count events id attempt.input accepted (entries_fit events id accepted) agrees.input

        by_row : (o : Option EntryRow) → row_asked events id (next_row attempt.input) ≡ o → found ≡ option_map (frame_read attempt.input.unread (next_row attempt.input)) o
            → HasReadOn events id (Some attempt) found
        by_row None f it = nothing_found events id attempt found it agrees (λ one same rest. (left_told events id attempt accepted agrees).ends none f)
        by_row (Some row) f it =
            let frame = frame_read attempt.input.unread (next_row attempt.input) row in
            subst (HasReadOn events id (Some attempt)) (sym it)
            (record {
              room = λ one same. subst (λ (o : Option LiveAttempt). CountsSome frame o) same (counts.frame row f);
              agrees = is_read events id row attempt accepted none f agrees;
              read = λ one same rest. absurd (read_full attempt.input.unread (next_row attempt.input) row (ap rest_kept same ∙ rest));
            })

-- ---- what is asked for

pub wanted_none : (events : List Event) (id : Text) (o : Option LiveAttempt) → o ≡ None → IsWanted events id o None
wanted_none events id o none = subst (λ (live : Option LiveAttempt). IsWanted events id live None) (sym none) refl

-- all of the frame that was read last was not handed out
pub wanted_full : (events : List Event) (id : Text) (o : Option LiveAttempt) (one : LiveAttempt) → o ≡ Some one → (length one.input.rest == 0) ≡ false → IsWanted events id o None
wanted_full events id o one is left =
    subst (λ (live : Option LiveAttempt). IsWanted events id live None) (sym is) (subst (λ (b : Bool). IsWantedBy events id one b None) (sym left) refl)

-- no more arrivals are recorded than the row says
many_arrivals : (id : Text) (before : List Entry) (place : ℕ) (entries : List Entry) → length (rows_of_arrivals id before place entries) ≡ length (arrivals_in entries)
many_arrivals id before place [] = refl
many_arrivals id before place (Recorded request ∷ entries) = many_arrivals id (before ++ Recorded request ∷ []) (place + 1) entries
many_arrivals id before place (Arrived arrival ∷ entries) = ap (λ (n : ℕ). suc n) (many_arrivals id (before ++ Arrived arrival ∷ []) (place + 1) entries)

past_end : {A : Type 0} (xs : List A) (k : ℕ) → length xs ≤ k → slice_get xs k ≡ None
past_end [] k le = refl
past_end (x ∷ xs) zero le = absurd (omega (arith, le))
past_end (x ∷ xs) (suc k) le = past_end xs k (omega (arith, le))

none_asked : (events : List Event) (id : Text) (one : LiveAttempt) → IsRowOf events id one.row → has_none_left one ≡ true → row_asked events id (next_row one.input) ≡ None
none_asked events id one of none = by_next (next_row one.input) none
  where
    arrived : one.row.progress.arrivals ≡ length (arrival_rows events id)
    arrived =
        ap (λ (row : InvocationRow). row.progress.arrivals) of.is ∙ ap (λ (named : Text). length (recorded_arrivals events named)) of.named
        ∙ sym (many_arrivals id [] 1 (entries_of events id))

    by_next : (next : NextRow) → lacks_next one.row.progress.arrivals next ≡ true → row_asked events id next ≡ None
    by_next (NextRow.Entry place) e = cc
    by_next (NextRow.Arrival ordinal) e =
        let more = ltb-true one.row.progress.arrivals ordinal e in
        past_end (arrival_rows events id) (ordinal - 1) (omega (arith, more, arrived))

pub wanted_past : (events : List Event) (id : Text) (o : Option LiveAttempt) (one : LiveAttempt) → o ≡ Some one → (length one.input.rest == 0) ≡ true → HasRow events id o → has_none_left one ≡ true
    → IsWanted events id o None
wanted_past events id o one is out has none =
    subst (λ (live : Option LiveAttempt). IsWanted events id live None) (sym is)
    (subst (λ (b : Bool). IsWantedBy events id one b None) (sym out)
    (sym (ap (option_map (frame_read one.input.unread (next_row one.input))) (none_asked events id one (subst (HasRow events id) is has) none))))

pub wanted_next : (events : List Event) (id : Text) (o : Option LiveAttempt) (one : LiveAttempt) (r : Result (Option FrameRead) Refusal) → o ≡ Some one → (length one.input.rest == 0) ≡ true
    → FitsNext o
    → (next_ordinal one.input < 2 ^ 32 → TellsOrRefuses (λ (frame : Option FrameRead). frame ≡ option_map (frame_read one.input.unread (next_row one.input)) (row_asked events id (next_row one.input))) r)
    → TellsOrRefuses (IsWanted events id o) r
wanted_next events id o one r is out fits told =
    subst (λ (live : Option LiveAttempt). TellsOrRefuses (IsWanted events id live) r) (sym is)
    (subst (λ (b : Bool). TellsOrRefuses (IsWantedBy events id one b) r) (sym out) (told (subst FitsNext is fits)))

pub unwanted : (id : Text) (old : ByInvocation) → ChangesLive id (after_wanted None) old old
unwanted id old = record { own = same (attempt_of old id); others = λ other apart. refl }
  where
    same : (o : Option LiveAttempt) → o ≡ option_map (after_wanted None) o
    same None = refl
    same (Some attempt) = refl

-- ---- by what the store stands for

-- the attempt has the same number, and its input is closed as before
same_number : (n : ℕ) (found : Option FrameRead) (o : Option LiveAttempt) → has_number n (option_map (after_wanted found) o) ≡ has_number n o
same_number n found None = refl
same_number n None (Some attempt) = refl
same_number n (Some frame) (Some attempt) = refl

same_closed : (found : Option FrameRead) (o : Option LiveAttempt) → has_closed (option_map (after_wanted found) o) ≡ has_closed o
same_closed found None = refl
same_closed None (Some attempt) = refl
same_closed (Some frame) (Some attempt) = refl

stands_on : (events : List Event) (database : State) (old new : ByInvocation) (id : Text) (found : Option FrameRead) → Stands events database old → HasReadOn events id (attempt_of old id) found
    → ChangesLive id (after_wanted found) old new → Stands events database new
stands_on events database old new id found stands has changes = record {
  kept = stands.kept;
  live = λ other. elim (true_or_false (bytes_eq id other)) [
    | inl same ↦ subst (λ (o : Text). Agrees events o (attempt_of new o)) ((bytes_eq-Decides id other).0 same) (subst (Agrees events id) (sym changes.own) has.agrees)
    | inr apart ↦ subst (Agrees events other) (sym (changes.others other apart)) (stands.live other)
  ];
  rows = rows_changed events id (after_wanted found) old new (same_row found) changes stands.rows;
}
  where
    same_row : (found : Option FrameRead) (one : LiveAttempt) → (after_wanted found one).row ≡ one.row
    same_row None one = refl
    same_row (Some frame) one = refl

module _ {S : Type 0} (g : Ghosts S) (a b : Held S) (before : Attempts) (id : Text) (looks : OnlyAsks g a b) where
  pub reads_on : (after : Attempts) (found : Option FrameRead)
      → (HasCleanDisk (state g b) → (events : List Event) → IsStoreOf events (state g a) → HasRow events id (attempt_of before.attempts id) → FitsNext (attempt_of before.attempts id) → IsWanted events id (attempt_of before.attempts id) found)
      → (HasRoomFor found (attempt_of before.attempts id) → ChangesLive id (after_wanted found) before.attempts after.attempts)
      → KeepsOutputs before.attempts after.attempts → ReadsNext g id (Ok tt) (stored a before) (stored b after)
  reads_on after found told changed waits clean s is =
      let store = is.stands.kept in
      let agrees = is.stands.live id in
      let has = read_on s.events id (attempt_of before.attempts id) found store.accepted agrees
      (told clean s.events store (is.stands.rows id) (can_ask s.events id (attempt_of before.attempts id) store.accepted agrees)) in
      let change = changed has.room in record {
        standing = record {
          stands = stands_on s.events (state g b) before.attempts after.attempts id found (stands_asked s.events (state g a) (state g b) before.attempts looks.crash looks.kept is.stands) has change;
          outputs = λ one. is.outputs one ∙ sym (waits one);
        };
        number = λ n. ap (has_number n) change.own ∙ same_number n found (attempt_of before.attempts id);
        closed = ap has_closed change.own ∙ same_closed found (attempt_of before.attempts id);
        read = subst (HasRead s.events id) (sym change.own) has.read;
      }

  -- it is not read
  pub reads_none : (after : Attempts) (result : Result (Unit {0}) Refusal) {Q : Refusal → Type 0} → IsErrAnd result Q
      → ((why : Refusal) → Q why → HasCleanDisk (state g b) → (events : List Event) → IsStoreOf events (state g a) → HasRow events id (attempt_of before.attempts id) → FitsNext (attempt_of before.attempts id) → IsRefused [] why)
      → ReadsNext g id result (stored a before) (stored b after)
  reads_none after (Ok done) it told clean s is = absurd it
  reads_none after (Err why) it told clean s is =
      told why it clean s.events is.stands.kept (is.stands.rows id) (can_ask s.events id (attempt_of before.attempts id) is.stands.kept.accepted (is.stands.live id))
