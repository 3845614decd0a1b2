-- What a turn of an attempt that serves tells, and that what was told of it then is so still, where it goes on.
use Rattle.std.proofs.Common.{◌≡◌, ◌⊎◌, inl, inr, ◌∙◌, ℕ, suc, Bool, List, [], ◌∷◌, ◌++◌, append_assoc, map, Option, Some, refl, sym, ap}
use Rattle.input_laws.proofs.Handed.{bytes_more}
use Rattle.journal_model.specs.Attempt.{Piece}
use Rattle.vm_attempt_laws.specs.Attempts.{Attempt, Turn}
use Rattle.vm_attempt_laws.proofs.TurnReports.{told_ran}
use Rattle.vm_attempt_laws.specs.Bodies.{NonEmptyValue, RunOutcome}
use Rattle.vm_attempt_laws.specs.AttemptInvariants.{IsLast}
use Rattle.vm_attempt_laws.specs.OutputOfAttempt.{Sent, frame_meant}
use Rattle.vm_attempt_laws.specs.AttemptSimulation.{AnswersKept, HasBodies, IsOver, Serves}
use Rattle.vm_attempt_laws.specs.TurnReports.{Told, TurnTells, IsAttemptTold, GoesOnTold, TellsOne}
use Rattle.vm_attempt_laws.specs.TurnsInRun.{turns_answered, TurnsBehind}
use Rattle.vm_attempt_laws.specs.Words.{after_turn, Bytes, Frame, Handler, Input, input_bytes, InputMessage, AttemptInRun, piece_of, Version, VMOptions}

-- ---- frames and bytes

pub meant_append : (version : Version) (coming more : List Sent) → map (frame_meant version) (coming ++ more) ≡ map (frame_meant version) coming ++ map (frame_meant version) more
meant_append version [] more = refl
meant_append version (one ∷ coming) more = ap (λ (frames : List Frame). frame_meant version one ∷ frames) (meant_append version coming more)

map_more : (xs ys : List InputMessage) → map piece_of (xs ++ ys) ≡ map piece_of xs ++ map piece_of ys
map_more [] ys = refl
map_more (x ∷ xs) ys = ap (λ (pieces : List Piece). piece_of x ∷ pieces) (map_more xs ys)

pieces_more : (xs ys : List InputMessage) → input_bytes (map piece_of (xs ++ ys)) ≡ input_bytes (map piece_of xs) ++ input_bytes (map piece_of ys)
pieces_more xs ys = ap input_bytes (map_more xs ys) ∙ bytes_more (map piece_of xs) (map piece_of ys)

-- further bytes behind those that were handed, of which some messages have come whole
pub told_more : (before frame held given kept : Bytes) (read some : List InputMessage) → before ≡ frame ++ (input_bytes (map piece_of read) ++ held) → held ++ given ≡ input_bytes (map piece_of some) ++ kept
    → before ++ given ≡ frame ++ (input_bytes (map piece_of (read ++ some)) ++ kept)
told_more before frame held given kept read some was are =
    ap (λ (bytes : Bytes). bytes ++ given) was ∙ append_assoc frame (input_bytes (map piece_of read) ++ held) given ∙ ap (λ (bytes : Bytes). frame ++ bytes) behind
  where
    behind : (input_bytes (map piece_of read) ++ held) ++ given ≡ input_bytes (map piece_of (read ++ some)) ++ kept
    behind =
        append_assoc (input_bytes (map piece_of read)) held given ∙ ap (λ (bytes : Bytes). input_bytes (map piece_of read) ++ bytes) are
        ∙ sym (append_assoc (input_bytes (map piece_of read)) (input_bytes (map piece_of some)) kept) ∙ ap (λ (bytes : Bytes). bytes ++ kept) (sym (pieces_more read some))

-- ---- turns

module _ {H : Type 0} (function : H → Handler) (next : Handler) (version : Version) (options : VMOptions) (is_closed : Bool) (live : AttemptInRun) (before : Attempt H) (proposed : List (ℕ × NonEmptyValue)) (ran : RunOutcome)
    (told : Told) (own : HasBodies next live proposed before) (s : Serves function next version options live is_closed before) (t : IsAttemptTold live before is_closed proposed told) where
  abbrev Behind : List Sent → Turn → Attempt H → Type 0
  Behind sent turn after = TurnsBehind function next version options is_closed live before proposed ran sent turn after

  -- what is told now is so of the attempt where it goes on; else it tells by which turn it is over
  abbrev pub IsToldBehind : (sent : List Sent) (turn : Turn) (after : Attempt H) → Behind sent turn after → Told → Type 0
  IsToldBehind sent Turn.Answered after b now = (now.over ≡ told.over) × IsAttemptTold (after_turn live (map (frame_meant version) sent) b.0 b.1) after is_closed proposed now
  IsToldBehind sent Turn.RanBody after b now =
      (now.over ≡ told.over) × IsAttemptTold (after_turn live (map (frame_meant version) sent) live.calls b.machine) after is_closed (proposed ++ (b.body.completion, b.value) ∷ []) now
  IsToldBehind sent Turn.Waiting after b now = (now.over ≡ told.over) × IsAttemptTold (after_turn live (map (frame_meant version) sent) live.calls b.1.0) after is_closed proposed now
  IsToldBehind sent turn after b now = now.over ≡ Some turn

  pub record TellsBehind (sent : List Sent) (turn : Turn) (after : Attempt H) (b : Behind sent turn after) : Type 0 where
    pub now : Told
    pub tells : TurnTells next live.start told ran turn now
    pub is_told : IsToldBehind sent turn after b now

  pub tells_behind : (sent : List Sent) (turn : Turn) (after : Attempt H) (b : Behind sent turn after) → TellsOne function next version options live.start is_closed told ran turn after → TellsBehind sent turn after b
  tells_behind sent Turn.Answered after b one = record {
    now = one.now;
    tells = one.tells;
    is_told = (
      ap (λ (now : Told). now.over) one.tells.0,
      record {
        version = ap (λ (now : Told). now.version) one.tells.0 ∙ t.version;
        bytes = ap (λ (now : Told). now.bytes) one.tells.0 ∙ t.bytes;
        closed = ap (λ (now : Told). now.is_closed) one.tells.0 ∙ t.closed;
        answered = ap (λ (now : Told). now.answered) one.tells.0 ∙ ap suc t.answered ∙ sym b.2;
        outcomes = ap (λ (now : Told). now.proposed) one.tells.0 ∙ t.outcomes;
      },
    );
  }
  tells_behind sent Turn.RanBody after b one = record {
    now = record told { proposed = told.proposed ++ (b.body.completion, b.value) ∷ [] };
    tells = told_ran function next version options is_closed live before proposed ran told own s t sent after b;
    is_told = (
      refl,
      record {
        version = t.version;
        bytes = t.bytes;
        closed = t.closed;
        answered = t.answered ∙ sym (ap (λ (input : Option Input). turns_answered input live.calls) b.input);
        outcomes = ap (λ (some : List (ℕ × NonEmptyValue)). some ++ (b.body.completion, b.value) ∷ []) t.outcomes;
      },
    );
  }
  tells_behind sent Turn.Waiting after b one = record {
    now = one.now;
    tells = one.tells;
    is_told = (
      ap (λ (now : Told). now.over) one.tells.0,
      record {
        version = ap (λ (now : Told). now.version) one.tells.0 ∙ t.version;
        bytes = ap (λ (now : Told). now.bytes) one.tells.0 ∙ t.bytes;
        closed = ap (λ (now : Told). now.is_closed) one.tells.0 ∙ t.closed;
        answered = ap (λ (now : Told). now.answered) one.tells.0 ∙ t.answered ∙ sym (ap (λ (input : Option Input). turns_answered input live.calls) b.1.2);
        outcomes = ap (λ (now : Told). now.proposed) one.tells.0 ∙ t.outcomes;
      },
    );
  }
  tells_behind sent Turn.Suspended after b one = record { now = one.now; tells = one.tells; is_told = ap (λ (now : Told). now.over) one.tells.0 }
  tells_behind sent Turn.Ended after b one = record { now = one.now; tells = one.tells; is_told = ap (λ (now : Told). now.over) one.tells.0 }
  tells_behind sent (Turn.Failed error) after b one = record { now = one.now; tells = one.tells; is_told = ap (λ (now : Told). now.over) one.tells.0 }

  -- it is over by this turn, or goes on as it is told now
  pub left_behind : (sent : List Sent) (turn : Turn) (after : Attempt H) (b : Behind sent turn after) (told_now : TellsBehind sent turn after b)
      → (IsOver after × AnswersKept turn after × IsLast turn × (told_now.now.over ≡ Some turn)) ⊎ ((told_now.now.over ≡ told.over) × GoesOnTold function next version options live.start is_closed told_now.now after)
  left_behind sent Turn.Answered after b told_now = inr (
    told_now.is_told.0,
    record { live = after_turn live (map (frame_meant version) sent) b.0 b.1; proposed = proposed; start_is = refl; bodies = b.3.bodies; serves = b.3.serves; is_told = told_now.is_told.1 },
  )
  left_behind sent Turn.RanBody after b told_now = inr (
    told_now.is_told.0,
    record {
      live = after_turn live (map (frame_meant version) sent) live.calls b.machine;
      proposed = proposed ++ (b.body.completion, b.value) ∷ [];
      start_is = refl;
      bodies = b.goes_on.bodies;
      serves = b.goes_on.serves;
      is_told = told_now.is_told.1;
    },
  )
  left_behind sent Turn.Waiting after b told_now = inr (
    told_now.is_told.0,
    record { live = after_turn live (map (frame_meant version) sent) live.calls b.1.0; proposed = proposed; start_is = refl; bodies = b.1.1.bodies; serves = b.1.1.serves; is_told = told_now.is_told.1 },
  )
  left_behind sent Turn.Suspended after b told_now = inl (b.2, tt, tt, told_now.is_told)
  left_behind sent Turn.Ended after b told_now = inl (b.1, tt, tt, told_now.is_told)
  left_behind sent (Turn.Failed error) after b told_now = inl (b.1, b.2, tt, told_now.is_told)
