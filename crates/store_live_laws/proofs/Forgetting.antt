-- What is kept of the live attempt of another invocation still agrees once invocations are forgotten.
use Rattle.std.proofs.Common.{◌≡◌, sym, ap, ap₂, subst, ◌∙◌, ℕ, ◌+◌, ◌-◌, ◌≤◌, false, List, [], ◌∷◌, ◌++◌, length, drop, take, filter_map, Option, Some, None, bytes_eq, ◌⊎◌}
use Rattle.journal_model.specs.Notification.{Arrival, Bytes, Text}
use Rattle.journal_model.specs.Event.{Event}
use Rattle.journal_model.specs.Attempt.{Piece, input_bytes}
use Rattle.journal_model.specs.Forgetting.{without}
use Rattle.journal_laws.specs.Forgetting.{is_among}
use Rattle.journal_laws.proofs.Isolation.{IsToldAlike}
use Rattle.journal_laws.proofs.Forgetting.{flip, or_false}
use Rattle.journal_laws.proofs.Staying.{told}
use Rattle.journal_laws.proofs.Waking.{arrivals_same}
use Rattle.input_laws.specs.ArrivalsRead.{arrivals_among}
use Rattle.due_laws.specs.Rows.{noted_number}
use Rattle.due_laws.specs.InputParts.{IsEndOf, ReadsRows}
use Rattle.due_laws.specs.Forgetting.{KnownAlike}
use Rattle.due_laws.proofs.Forgetting.{heard_place_same, one_alike, version_same}
use Rattle.store_model.proofs.Forgetting.{place_same, places_same}
use Rattle.store_live.specs.Input.{InputKept}
use Rattle.store_live.specs.declared.attempt.LiveAttempt.{LiveAttempt}
use Rattle.store_live_laws.specs.InputRows.{place_after}
use Rattle.store_live_laws.specs.Memory.{IsInputOf}
use Rattle.store_live_laws.specs.LiveAttempts.{Agrees, AgreesForgotten}

module _ (id other : Text) (d : bytes_eq id other ≡ false) (events : List Event) where
  t : IsToldAlike (without id events) events other
  t = told id other d events

  known : KnownAlike (without id events) events other
  known = one_alike id other d events

  reads_left : (read : ℕ) (rest : Bytes) → ReadsRows events other read rest → ReadsRows (without id events) other read rest
  reads_left read rest h = record {
    within = subst (λ (pieces : List Piece). read ≤ length pieces) (sym t.input) h.within;
    left =
        ap₂ (λ (count : ℕ) (pieces : List Piece). drop count (input_bytes pieces)) t.handed t.input
        ∙ h.left
        ∙ sym (ap (λ (pieces : List Piece). rest ++ input_bytes (drop read pieces)) t.input);
    part = subst (λ (pieces : List Piece). (rest ≡ []) ⊎ IsEndOf rest (take read pieces)) (sym t.input) h.part;
  }

  input_stays : (m : InputKept) → IsInputOf events other m → IsInputOf (without id events) other m
  input_stays m h = record {
    known = h.known ∙ sym known.frames;
    arrivals = h.arrivals ∙ sym known.arrivals;
    reads = reads_left m.read m.rest h.reads;
    behind = h.behind ∙ sym (ap (place_after m.read) (places_same id other d events));
    counted = h.counted ∙ sym (ap (λ (pieces : List Piece). arrivals_among (take m.read pieces)) t.input);
    handed = h.handed ∙ sym (place_same id other d events);
    heard = h.heard ∙ sym (heard_place_same id other d events);
    unread =
        h.unread
        ∙ sym (ap₂ (λ (noted : List ℕ) (arrivals : List Arrival). filter_map (λ (arrival : Arrival). noted_number noted arrival.id) (drop (m.arrivals + (m.read - m.known)) arrivals))
        known.outcomes (arrivals_same id other d events));
  }

  pub agrees_still : (attempt : Option LiveAttempt) → Agrees events other attempt → Agrees (without id events) other attempt
  agrees_still None e = t.live ∙ e
  agrees_still (Some attempt) kept = record {
    number = t.live ∙ kept.number;
    version = kept.version ∙ sym (version_same id events other (flip id other d));
    input = input_stays attempt.input kept.input;
    closed = kept.closed ∙ sym t.input_closed;
  }

pub agrees_forgotten : AgreesForgotten
agrees_forgotten events [] other attempt e agrees = agrees
agrees_forgotten events (id ∷ ids) other attempt e agrees =
    let apart = or_false (bytes_eq id other) (is_among ids other) e in
    agrees_forgotten (without id events) ids other attempt apart.1 (agrees_still id other apart.0 events attempt agrees)
