-- What a call hands out of an input, and what is kept of it then, is of one frame.
use Rattle.std.proofs.Common.{◌≡◌, ◌⊎◌, refl, sym, ap, subst, ◌∙◌, ℕ, inl, inr, ◌≤◌, min, arith, length, List, [], ◌∷◌, ◌++◌, append_assoc, take, drop, Option, Some, None, option_map, Result, Ok, Err, IsErrAnd}
use Rattle.std.proofs.lemmas.List.{length-take, take-append-drop}
use Rattle.sqlite_trees.specs.declared.store.Store.{Ghosts}
use Rattle.sqlite.specs.Held.{Held, state}
use Rattle.sqlite.specs.State.{HasCleanDisk}
use Rattle.journal_model.specs.Notification.{Bytes, Text}
use Rattle.journal_model.specs.Event.{Event}
use Rattle.journal_model.specs.Attempt.{Piece, input_pieces}
use Rattle.due_laws.specs.InputParts.{IsEndOf}
use Rattle.store_refusals.specs.declared.refusal.Refusal.{Refusal}
use Rattle.store_live.specs.declared.attempt.LiveAttempt.{LiveAttempt}
use Rattle.store_live.specs.Input.{InputKept, after_bytes, input_handed_out}
use Rattle.store_live.specs.Attempts.{Attempts, ChangesLive, after_close, after_hand_out, attempt_of, bytes_out}
use Rattle.store_live_laws.specs.LiveAttempts.{Agrees}
use Rattle.store_calls.specs.AbstractStore.{Standing}
use Rattle.journal_store.specs.StoreView.{Stored, stored}
use Rattle.journal_store.specs.StoreStanding.{IsStanding}
use Rattle.journal_store.specs.Attempts.{AreOfOneFrame, GivesOneFrame, bytes_given, rest_kept}

-- what was read and not handed out is the end of one of the frames
of_read : (frames : List Piece) (read : ℕ) (rest bytes kept : Bytes) → rest ≡ bytes ++ kept → (rest ≡ []) ⊎ IsEndOf rest (take read frames) → AreOfOneFrame frames bytes kept
of_read frames read rest bytes kept split (inl none) = inl (both_none bytes kept (sym split ∙ none))
  where
    both_none : (xs ys : Bytes) → xs ++ ys ≡ [] → (xs ≡ []) × (ys ≡ [])
    both_none [] ys e = (refl, e)
    both_none (x ∷ xs) ys e = cc
of_read frames read rest bytes kept split (inr end) = inr (record {
  before = end.before;
  frame = end.last;
  behind = drop read frames;
  frames_are =
      sym (take-append-drop read frames) ∙ ap (λ (first : List Piece). first ++ drop read frames) end.pieces_are ∙ append_assoc end.before (end.last ∷ []) (drop read frames);
  done = end.done;
  bytes_are = end.bytes_are ∙ ap (λ (left : Bytes). end.done ++ left) split;
})

-- what is handed out of that and what is kept then are together what it was
split_rest : (most : ℕ) (m : InputKept) → m.rest ≡ take most m.rest ++ (input_handed_out most m).rest
split_rest most m = by_both (take most m.rest) (drop most m.rest) (sym (take-append-drop most m.rest))
  where
    by_both : (bytes rest : Bytes) → m.rest ≡ bytes ++ rest → m.rest ≡ bytes ++ (after_bytes bytes rest m).rest
    by_both [] rest e = refl
    by_both (x ∷ bytes) [] e = e
    by_both (x ∷ bytes) (y ∷ rest) e = e

handed_of_frame : (events : List Event) (id : Text) (most : ℕ) (o : Option LiveAttempt) → Agrees events id o
    → AreOfOneFrame (input_pieces events id) (bytes_out most o) (rest_kept (option_map (after_hand_out most) o))
handed_of_frame events id most None agrees = inl (refl, refl)
handed_of_frame events id most (Some attempt) agrees =
    of_read (input_pieces events id) attempt.input.read attempt.input.rest (take most attempt.input.rest) (input_handed_out most attempt.input).rest (split_rest most attempt.input)
    agrees.input.reads.part

kept_of_frame : (events : List Event) (id : Text) (o : Option LiveAttempt) → Agrees events id o → AreOfOneFrame (input_pieces events id) [] (rest_kept o)
kept_of_frame events id None agrees = inl (refl, refl)
kept_of_frame events id (Some attempt) agrees =
    of_read (input_pieces events id) attempt.input.read attempt.input.rest [] attempt.input.rest refl agrees.input.reads.part

pub few_given : (most : ℕ) (bytes : Bytes) (o : Option LiveAttempt) → bytes ≡ bytes_out most o → length bytes ≤ most
few_given most bytes None out = omega (arith, ap (λ (given : Bytes). length given) out)
few_given most bytes (Some attempt) out =
    let count : length bytes ≡ min most (length attempt.input.rest) = ap (λ (given : Bytes). length given) out ∙ length-take most attempt.input.rest in
    omega (arith, count)

-- closing an input keeps what was read of it
closed_rest : (o : Option LiveAttempt) → rest_kept (option_map after_close o) ≡ rest_kept o
closed_rest None = refl
closed_rest (Some attempt) = refl

-- what is refused gives nothing
pub none_given : (Q : Refusal → Type 0) (r : Result Bytes Refusal) → IsErrAnd r Q → bytes_given r ≡ []
none_given Q (Ok bytes) it = absurd it
none_given Q (Err why) it = refl

module _ {S : Type 0} (g : Ghosts S) (id : Text) (old : Stored S) (b : Held S) (mid : Attempts)
    (agrees : HasCleanDisk (state g b) → (s : Standing) → IsStanding g s old → Agrees s.events id (attempt_of mid.attempts id)) where
  pub gives_none : (result : Result Bytes Refusal) (after : Attempts) → bytes_given result ≡ [] → after ≡ mid → GivesOneFrame g id result old (stored b after)
  gives_none result after none same clean s is =
      subst (λ (bytes : Bytes). AreOfOneFrame (input_pieces s.events id) bytes (rest_kept (attempt_of after.attempts id))) (sym none)
      (subst (λ (live : Attempts). AreOfOneFrame (input_pieces s.events id) [] (rest_kept (attempt_of live.attempts id))) (sym same)
      (kept_of_frame s.events id (attempt_of mid.attempts id) (agrees clean s is)))

  pub gives_bytes : (most : ℕ) (bytes : Bytes) (after : Attempts) → bytes ≡ bytes_out most (attempt_of mid.attempts id) → ChangesLive id (after_hand_out most) mid.attempts after.attempts
      → GivesOneFrame g id (Ok bytes) old (stored b after)
  gives_bytes most bytes after out changed clean s is =
      subst (λ (given : Bytes). AreOfOneFrame (input_pieces s.events id) given (rest_kept (attempt_of after.attempts id))) (sym out)
      (subst (λ (o : Option LiveAttempt). AreOfOneFrame (input_pieces s.events id) (bytes_out most (attempt_of mid.attempts id)) (rest_kept o)) (sym changed.own)
      (handed_of_frame s.events id most (attempt_of mid.attempts id) (agrees clean s is)))

  pub gives_closed : (after : Attempts) → ChangesLive id after_close mid.attempts after.attempts → GivesOneFrame g id (Ok []) old (stored b after)
  gives_closed after changed clean s is =
      subst (λ (kept : Bytes). AreOfOneFrame (input_pieces s.events id) [] kept) (sym (ap rest_kept changed.own ∙ closed_rest (attempt_of mid.attempts id)))
      (kept_of_frame s.events id (attempt_of mid.attempts id) (agrees clean s is))
