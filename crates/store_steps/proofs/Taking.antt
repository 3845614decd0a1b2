-- What is decided by the row of an invocation is what the events say.
use Rattle.std.proofs.Common.{◌≡◌, refl, sym, ap, subst, subst₂, ◌∙◌, inl, inr, ℕ, Bool, true, false, List, [], filter_map, Option, Some, None, is_some, option_map, unwrap_or, bytes_eq, Result, Ok, Err}
use Rattle.std.specs.Prelude.{IfOk, IfErr, OnOk}
use Rattle.std.proofs.lemmas.Slice.Eq.{bytes_eq-Decides}
use Rattle.sqlite.specs.State.{State}
use Rattle.sql_tables.specs.declared.read.ReadError.{ReadError}
use Rattle.sql_tables.specs.declared.read.ReadError.TheVariants as reading
use Rattle.journal_model.specs.Notification.{Text}
use Rattle.journal_model.specs.declared.invocation.NewInvocation.{NewInvocation}
use Rattle.journal_model.specs.Event.{Frame, Event}
use Rattle.journal_model.specs.Journal.{invoked_by, invocation_begun, version_of, is_open}
use Rattle.journal_model.specs.Attempt.{acknowledged}
use Rattle.journal_model.specs.Cause.{IsAccepted, causes_of, those_that_hold}
use Rattle.journal_laws.proofs.ObjectState.{find-passes}
use Rattle.protocol_types.specs.Version.{version_number}
use Rattle.store_frames.specs.declared.frame.AttemptFrame.{AttemptFrame}
use Rattle.store_frames.specs.Answer.{IsFrame}
use Rattle.store_tables.specs.Questions.{IsFound, IsAmbiguous, has_id}
use Rattle.store_tables.specs.declared.row.InvocationRow.{InvocationRow}
use Rattle.store_tables.specs.declared.row.Progress.{Progress}
use Rattle.store_model.specs.Progress.{progress_of}
use Rattle.store_model.specs.KeptRecords.{invocation_row}
use Rattle.store_model.proofs.Versions.{begun_number}
use Rattle.store_model.proofs.Only.{only_found, only_one}
use Rattle.store_model.proofs.Finding.{all_found}
use Rattle.store_invocations.specs.Rows.{IsRowOf}
use Rattle.store_refusals.specs.declared.refusal.Refusal.{Refusal}
use Rattle.store_refusals.specs.declared.refusal.Refusal.TheVariants.{OutOfMemory}
use Rattle.store_refusals.specs.RefusalConditions.{IsRefused, refusal_of_first_cause, is_circumstance, refusal_by, reading_refusal}
use Rattle.store_refusals.specs.Preparations.{Keeps, Prepares}
use Rattle.store_refusals.proofs.First.{first_holds, none_holds}
use Rattle.store_steps.specs.declared.frame.LiveFacts.{LiveFacts}
use Rattle.store_steps.specs.declared.frame.PreparedFrame.{PreparedFrame}
use Rattle.store_steps.specs.FrameAnswers.{tests_of_told, writes_of_told}
use Rattle.store_steps.specs.PreparedFrames.{IsAwakeAtOnce, KnowsLive, IsReply, IsFrameTaken, TakesAttemptFrame, IsFrameMade, IsWhy, WakesAtOnce}
use Rattle.store_steps.proofs.LazyReads.{IsByRow}
use Rattle.store_steps.proofs.Live.{begun_open, live_open}
use Rattle.store_steps.proofs.Tests.{tests_left, causes_left, tests_same}
use Rattle.store_steps.proofs.Writes.{written, replied}

-- whatever frame this is read of, the row of its invocation decides on it
abbrev pub IsUnread : AttemptFrame → Type 0
IsUnread read = (frame : Frame) → IsFrame frame read → IsByRow frame

-- such a frame is not acknowledged
none_acknowledged : (version : ℕ) (id : Text) (number : ℕ) (frame : Frame) → IsByRow frame → acknowledged version id (Event.Move id number frame) ≡ None
none_acknowledged version id number (Frame.RunOutcome n value asks) unread = absurd unread
none_acknowledged version id number _ unread = refl

-- ---- a frame of a live attempt of an invocation that was begun so

module _ (events : List Event) (accepted : IsAccepted events) (id : Text) (number : ℕ) (new : NewInvocation) (is : invocation_begun events id ≡ Some new) (opened : is_open events id ≡ true)
    (attempt : LiveFacts) (live : KnowsLive events id number attempt) (frame : Frame) (read : AttemptFrame) (unread : IsByRow frame) (h : IsFrame frame read) where
  causes_are : causes_of events (Event.Move id number frame) ≡ those_that_hold (tests_left events id number frame)
  causes_are = causes_left events id number frame (ap (λ (o : Option NewInvocation). is_some o) is) opened live.live

  same : refusal_by (tests_left events id number frame) ≡ refusal_by (tests_of_told (progress_of events id) attempt.is_input_closed read)
  same = tests_same events id number frame read unread h ∙ ap (λ (b : Bool). refusal_by (tests_of_told (progress_of events id) b read)) (sym live.closed)

  version_is : new.version ≡ version_of events id
  version_is = sym (ap (λ (o : Option NewInvocation). unwrap_or (option_map (λ (begun : NewInvocation). begun.version) o) 0) is)

  none_of : (made : PreparedFrame) (is_awake : Bool) → IsFrameMade id new.object new.version (progress_of events id) attempt is_awake read made → causes_of events (Event.Move id number frame) ≡ []
  none_of made is_awake ok = causes_are ∙ none_holds (tests_left events id number frame) (same ∙ ok.accepted)

  pub prepared : (is_awake : Bool) → IsAwakeAtOnce events id frame is_awake → (result : Result PreparedFrame Refusal) → IfOk result (IsFrameMade id new.object new.version (progress_of events id) attempt is_awake read) → IfErr result (IsWhy (progress_of events id) attempt read)
      → Prepares events (Event.Move id number frame) (IsFrameTaken events id number frame) result
  prepared is_awake awake (Ok made) ok err = (
    none_of made is_awake ok,
    record {
      writes =
          ok.writes
          ∙ (λ i. writes_of_told id new.object (version_is i) attempt is_awake (progress_of events id) read)
          ∙ sym (written events accepted id number new.object attempt is_awake frame read (ap (option_map (λ (begun : NewInvocation). begun.object)) is) live awake
          (none_of made is_awake ok) unread h ok.accepted);
      reply = subst (IsReply events id frame) (sym ok.reply) (replied events accepted id number attempt.is_input_closed frame read unread h ok.accepted);
      acknowledged = ok.acknowledged ∙ sym (none_acknowledged (version_of events id) id number frame unread);
    },
  )
  prepared is_awake awake (Err why) ok err = by_first (refusal_by (tests_of_told (progress_of events id) attempt.is_input_closed read)) refl
    where
      by_first : (first : Option Refusal) → refusal_by (tests_of_told (progress_of events id) attempt.is_input_closed read) ≡ first
          → IsRefused (causes_of events (Event.Move id number frame)) why
      by_first None e = inr (ap is_circumstance (err ∙ ap (λ (o : Option Refusal). unwrap_or o OutOfMemory) e))
      by_first (Some refusal) e =
          inl (ap refusal_of_first_cause causes_are ∙ first_holds (tests_left events id number frame) ∙ same ∙ e
          ∙ ap Some (sym (err ∙ ap (λ (o : Option Refusal). unwrap_or o OutOfMemory) e)))

-- ---- by the row of its invocation

pub causes_by_row : (events : List Event) (id : Text) (row : InvocationRow) → IsAccepted events → IsRowOf events id row → (attempt : LiveFacts) (number : ℕ) (frame : Frame) → KnowsLive events id number attempt
    → causes_of events (Event.Move id number frame) ≡ those_that_hold (tests_left events id number frame)
causes_by_row events id row accepted of attempt number frame live =
    causes_left events id number frame (ap (λ (o : Option NewInvocation). is_some o) of.begun) (live_open events id number accepted live.live) live.live

pub version_by_row : (events : List Event) (id : Text) (row : InvocationRow) → IsAccepted events → IsRowOf events id row → version_number row.version ≡ version_of events id
version_by_row events id row accepted of =
    ap (λ (r : InvocationRow). version_number r.version) of.is ∙ begun_number events id of.new accepted of.begun
    ∙ sym (ap (λ (o : Option NewInvocation). unwrap_or (option_map (λ (begun : NewInvocation). begun.version) o) 0) of.begun)

module _ (events : List Event) (accepted : IsAccepted events) (id : Text) where
  made_as : (attempt : LiveFacts) (is_awake : Bool) (read : AttemptFrame) (result : Result PreparedFrame Refusal) (o object : Text) (v version : ℕ) (p progress : Progress) → o ≡ object → v ≡ version → p ≡ progress
      → IfOk result (IsFrameMade id o v p attempt is_awake read) → IfOk result (IsFrameMade id object version progress attempt is_awake read)
  made_as attempt is_awake read result o object v version p progress same_object same_version same_progress ok =
      subst (λ (o : Text). IfOk result (IsFrameMade id o version progress attempt is_awake read)) same_object
      (subst₂ (λ (v : ℕ) (p : Progress). IfOk result (IsFrameMade id o v p attempt is_awake read)) same_version same_progress ok)

  why_as : (attempt : LiveFacts) (read : AttemptFrame) (result : Result PreparedFrame Refusal) (p progress : Progress) → p ≡ progress
      → IfErr result (IsWhy p attempt read) → IfErr result (IsWhy progress attempt read)
  why_as attempt read result p progress same_progress err = subst (λ (p : Progress). IfErr result (IsWhy p attempt read)) same_progress err

  pub taken_by_row : (row : InvocationRow) → IsRowOf events id row → (attempt : LiveFacts) (is_awake : Bool) (read : AttemptFrame) (result : Result PreparedFrame Refusal) → IsUnread read
      → WakesAtOnce events id attempt read (Ok is_awake)
      → IfOk result (IsFrameMade id row.object (version_number row.version) row.progress attempt is_awake read) → IfErr result (IsWhy row.progress attempt read) → TakesAttemptFrame events id attempt read result
  taken_by_row row of attempt is_awake read result unread awake ok err number frame live from h =
      let progress_is : row.progress ≡ progress_of events id = ap (λ (r : InvocationRow). r.progress) of.is ∙ ap (progress_of events) of.named in
      let version_is : version_number row.version ≡ of.new.version = ap (λ (r : InvocationRow). version_number r.version) of.is ∙ begun_number events id of.new accepted of.begun in
      prepared events accepted id number of.new of.begun (live_open events id number accepted live.live) attempt live frame read (unread frame h) h is_awake (awake number frame live from h) result
      (made_as attempt is_awake read result row.object of.new.object (version_number row.version) of.new.version row.progress (progress_of events id) (ap (λ (r : InvocationRow). r.object) of.is) version_is progress_is ok)
      (why_as attempt read result row.progress (progress_of events id) progress_is err)

-- ---- by the row that was found

module _ (events : List Event) (s : State) (keeps : Keeps events s) (id : Text) where
  row_found : (found : Option InvocationRow) → IsFound (λ r. r.invocations) (has_id id) s.now.trees found
      → found ≡ option_map (invocation_row events) (invocation_begun events id)
  row_found found h =
      h keeps.records keeps.held
      ∙ only_found (has_id id) keeps.records.invocations (option_map (invocation_row events) (invocation_begun events id))
      ((all_found events keeps.records keeps.accepted keeps.kept).invocation id)

  pub never_foreign : IsAmbiguous (λ r. r.invocations) (has_id id) s.now.trees → ⊥
  never_foreign h =
      h keeps.records keeps.held
      (only_one (has_id id) keeps.records.invocations (option_map (invocation_row events) (invocation_begun events id))
      ((all_found events keeps.records keeps.accepted keeps.kept).invocation id))

  pub row_of : (row : InvocationRow) → IsFound (λ r. r.invocations) (has_id id) s.now.trees (Some row) → IsRowOf events id row
  row_of row found = by_begun (invocation_begun events id) refl
    where
      same_row : (one other : InvocationRow) → Some one ≡ Some other → one ≡ other
      same_row one other e = cc

      by_begun : (o : Option NewInvocation) → invocation_begun events id ≡ o → IsRowOf events id row
      by_begun None e = let no : Some row ≡ None = row_found (Some row) found ∙ ap (option_map (invocation_row events)) e in absurd cc
      by_begun (Some new) e = record {
        new = new;
        begun = e;
        named = (bytes_eq-Decides new.id id).0 (find-passes (λ other. bytes_eq other.id id) (filter_map invoked_by events) new e);
        is = same_row row (invocation_row events new) (row_found (Some row) found ∙ ap (option_map (invocation_row events)) e);
      }

  pub never_missing : IsFound (λ r. r.invocations) (has_id id) s.now.trees None → (attempt : LiveFacts) (read : AttemptFrame) (result : Result PreparedFrame Refusal) → TakesAttemptFrame events id attempt read result
  never_missing found attempt read result number frame live from h = absurd (by_begun (invocation_begun events id) refl)
    where
      by_begun : (o : Option NewInvocation) → invocation_begun events id ≡ o → ⊥
      by_begun None e =
          let begun : is_some (invocation_begun events id) ≡ true = begun_open events id (live_open events id number keeps.accepted live.live) in
          let no : false ≡ true = sym (ap (λ (o : Option NewInvocation). is_some o) e) ∙ begun in
          cc
      by_begun (Some new) e = let no : None ≡ Some (invocation_row events new) = row_found None found ∙ ap (option_map (invocation_row events)) e in cc

-- what was asked holds also where it is answered
pub was_asked : {A E P : Type 0} (result : Result A E) → P → OnOk result P
was_asked (Ok answer) it = it
was_asked (Err why) it = tt

-- a row that could not be read, and is no foreign one
pub read_failed : (events : List Event) (id : Text) (error : ReadError) → (error ≡ reading.Foreign → ⊥) → (attempt : LiveFacts) (read : AttemptFrame)
    → TakesAttemptFrame events id attempt read (Err (reading_refusal error))
read_failed events id (reading.Refused cause) foreign attempt read number frame live from h = inr refl
read_failed events id reading.Foreign foreign attempt read number frame live from h = absurd (foreign refl)
read_failed events id reading.OutOfMemory foreign attempt read number frame live from h = inr refl
