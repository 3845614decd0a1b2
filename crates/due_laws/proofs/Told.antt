-- A chain of calls hands an attempt what stands behind what it was handed.
use Rattle.std.proofs.Common.{◌≡◌, refl, sym, ap, subst, ◌∙◌, ℕ, ◌+◌, ◌-◌, eqb-true, eq-eqb, arith, true≢false, Bool, true, false, ◌&&◌, if◌then◌else◌, ◌++◌, append_assoc, append-nil, length, take, List, [], ◌∷◌, Option, Some, None}
use Rattle.std.specs.List.{concat}
use Rattle.journal_model.specs.Notification.{Bytes, Text}
use Rattle.journal_model.specs.Event.{Event}
use Rattle.journal_model.specs.Attempt.{attempts_begun, begins_attempt, ends_live, input_left, live_attempt, is_live}
use Rattle.journal_model.specs.Journal.{is_of}
use Rattle.journal_model.specs.Cause.{IsAccepted}
use Rattle.input_laws.proofs.Events.{itself}
use Rattle.due_laws.specs.InputParts.{HandsPart, HandsChain}
use Rattle.due_laws.specs.HandedBytes.{while_last, start_frame, bytes_handed_out, bytes_told, WasHanded, ChainIsHandedOut, ChainGoesOn}
use Rattle.due_laws.proofs.InputParts.{part_is_taken}
use Rattle.due_laws.proofs.Heard.{handed_live}

one_handed_out : (id : Text) (attempt : ℕ) (bytes : Bytes) (most : ℕ) (events : List Event) → HandsPart (input_left events id) most bytes
    → bytes_handed_out (Event.Feed id attempt (length bytes) ∷ events) id ≡ bytes_handed_out events id ++ bytes
one_handed_out id attempt bytes most events part =
    ap (λ (b : Bool). bytes_handed_out events id ++ (if b then take (length bytes) (input_left events id) else [])) (itself id)
    ∙ ap (λ (some : Bytes). bytes_handed_out events id ++ some) (sym (part_is_taken (input_left events id) bytes most part))

pub chain_is_handed_out : ChainIsHandedOut
chain_is_handed_out id attempt count [] old new chain = ap (λ (es : List Event). bytes_handed_out es id) chain.1 ∙ sym (append-nil (bytes_handed_out old id))
chain_is_handed_out id attempt count (bytes ∷ parts) old new chain =
    chain_is_handed_out id attempt (count - length bytes) parts (Event.Feed id attempt (length bytes) ∷ old) new chain.1
    ∙ ap (λ (some : Bytes). some ++ concat parts) (one_handed_out id attempt bytes count old chain.0)
    ∙ append_assoc (bytes_handed_out old id) bytes (concat parts)

-- a live attempt is the last one
live_last : (events : List Event) (id : Text) (n : ℕ) → live_attempt events id ≡ Some n → attempts_begun events id ≡ n
live_last [] id n e = absurd (nothing e)
  where
    nothing : ◌≡◌ {A = Option ℕ} None (Some n) → ⊥
    nothing e = cc
live_last (event ∷ earlier) id n e = by_begin (begins_attempt id event) (is_of id event && ends_live event) e (live_last earlier id n)
  where
    nothing : ◌≡◌ {A = Option ℕ} None (Some n) → ⊥
    nothing e = cc

    by_begin : (b c : Bool) → (if b then Some ((if b then 1 else 0) + attempts_begun earlier id) else (if c then None else live_attempt earlier id)) ≡ Some n
        → (live_attempt earlier id ≡ Some n → attempts_begun earlier id ≡ n) → (if b then 1 else 0) + attempts_begun earlier id ≡ n
    by_begin true c same before = cc
    by_begin false true same before = absurd (nothing same)
    by_begin false false same before = let rest = before same in omega (arith, rest)

live_number : (events : List Event) (id : Text) (n : ℕ) → is_live events id n ≡ true → attempts_begun events id ≡ n
live_number events id n e = by_live (live_attempt events id) refl
  where
    by_live : (o : Option ℕ) → live_attempt events id ≡ o → attempts_begun events id ≡ n
    by_live None f = absurd (true≢false (sym (rw f at e)))
    by_live (Some m) f =
        let same : m ≡ n = eqb-true m n (rw f at e) in
        live_last events id m f ∙ same

all_last : (id : Text) (n : ℕ) (events : List Event) → attempts_begun events id ≡ n → while_last id n events ≡ events
all_last id n [] e = refl
all_last id n (event ∷ earlier) e = ap (λ (b : Bool). if b then event ∷ earlier else while_last id n earlier) (eq-eqb (attempts_begun (event ∷ earlier) id) n e)

-- one call
one_goes_on : (id : Text) (number most : ℕ) (bytes : Bytes) (events : List Event) (before : Bytes) → IsAccepted (Event.Feed id number (length bytes) ∷ events)
    → HandsPart (input_left events id) most bytes → WasHanded id number before events → WasHanded id number (before ++ bytes) (Event.Feed id number (length bytes) ∷ events)
one_goes_on id number most bytes events before accepted part was =
    let last : attempts_begun events id ≡ number = live_number events id number (handed_live events id number (length bytes) accepted.0) in
    let still : attempts_begun (Event.Feed id number (length bytes) ∷ events) id ≡ number = omega (arith, last) in record {
      begun = (omega (arith, still));
      handed =
          ap (λ (some : Bytes). some ++ bytes) (was.handed ∙ ap (λ (es : List Event). bytes_told es id) (all_last id number events last))
          ∙ append_assoc (start_frame events id) (bytes_handed_out events id) bytes
          ∙ ap (λ (some : Bytes). start_frame events id ++ some) (sym (one_handed_out id number bytes most events part))
          ∙ ap (λ (es : List Event). bytes_told es id) (sym (all_last id number (Event.Feed id number (length bytes) ∷ events) still));
    }

-- what was accepted before a chain
chain_accepted : (id : Text) (attempt count : ℕ) (parts : List Bytes) (old new : List Event) → IsAccepted new → HandsChain id attempt count parts old new → IsAccepted old
chain_accepted id attempt count [] old new accepted chain = subst (λ (es : List Event). IsAccepted es) chain.1 accepted
chain_accepted id attempt count (bytes ∷ parts) old new accepted chain =
    (chain_accepted id attempt (count - length bytes) parts (Event.Feed id attempt (length bytes) ∷ old) new accepted chain.1).1

pub chain_goes_on : ChainGoesOn
chain_goes_on id number count [] old new before accepted chain was =
    subst (λ (es : List Event). WasHanded id number (before ++ []) es) (sym chain.1) (subst (λ (some : Bytes). WasHanded id number some old) (sym (append-nil before)) was)
chain_goes_on id number count (bytes ∷ parts) old new before accepted chain was =
    subst (λ (some : Bytes). WasHanded id number some new) (append_assoc before bytes (concat parts))
    (chain_goes_on id number (count - length bytes) parts (Event.Feed id number (length bytes) ∷ old) new (before ++ bytes) accepted chain.1
    (one_goes_on id number count bytes old before (chain_accepted id number (count - length bytes) parts (Event.Feed id number (length bytes) ∷ old) new accepted chain.1) chain.0 was))
