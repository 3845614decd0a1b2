-- The entries of a state, one after another.
use Rattle.std.proofs.Common.{◌≡◌, ◌+◌, ℕ, inl, inr, List, [], ◌∷◌, ◌++◌, length, sym, ap, subst, ◌∙◌, arith}
use Rattle.std.proofs.lemmas.List.{append_assoc, append-nil}
use Rattle.std.specs.Prelude.{IsUtf8}
use Rattle.protocol_errors.specs.declared.typed.BadEagerStateKeyError.{BadEagerStateKeyError}
use Rattle.journal_model.specs.Notification.{Bytes}
use Rattle.protocol_records.specs.declared.start.StateEntry.{StateEntry}
use Rattle.vm_start.specs.declared.error.StartError.{StartError}
use Rattle.vm_start.specs.declared.error.StartError.TheVariants.{BadStateKey, KnownEntriesIsZero, OutOfMemory}
use Rattle.vm_start.specs.Starts.{pair_of, pairs_of, AreText, FirstNotText, KeyFails, KeysFail}

pub one_less : (left rest : List StateEntry) (entry : StateEntry) (n m : ℕ) → n ≡ length left → left ≡ entry ∷ rest → m + 1 ≡ n → m ≡ length rest
one_less left rest entry n m sized next less =
    let same : length left ≡ length (entry ∷ rest) = ap (λ (es : List StateEntry). length es) next in
    omega (arith, sized, same, less)

pub pairs_left : (done new : List (Bytes × Bytes)) (entry : StateEntry) (left rest : List StateEntry) (all : List (Bytes × Bytes))
    → done ++ pairs_of left ≡ all → left ≡ entry ∷ rest → new ≡ done ++ pair_of entry ∷ [] → new ++ pairs_of rest ≡ all
pairs_left done new entry left rest all inv next made =
    ap (λ (ps : List (Bytes × Bytes)). ps ++ pairs_of rest) made
    ∙ append_assoc done (pair_of entry ∷ []) (pairs_of rest)
    ∙ sym (ap (λ (es : List StateEntry). done ++ pairs_of es) next)
    ∙ inv

pub no_pairs_left : (done all : List (Bytes × Bytes)) (left : List StateEntry) → done ++ pairs_of left ≡ all → length left ≡ 0 → done ≡ all
no_pairs_left done all [] inv none = sym (append-nil done) ∙ inv
no_pairs_left done all (entry ∷ entries) inv none = absurd (omega (arith, none))

-- all are text, if those that are left are
pub text_left : (left rest : List StateEntry) (entry : StateEntry) (all : Type 0) → (AreText left → all) → left ≡ entry ∷ rest → IsUtf8 entry.key → AreText rest → all
text_left left rest entry all inv next text others = inv (subst AreText (sym next) (text, others))

pub no_text_left : (left : List StateEntry) (all : Type 0) → (AreText left → all) → length left ≡ 0 → all
no_text_left [] all inv none = inv tt
no_text_left (entry ∷ entries) all inv none = absurd (omega (arith, none))

-- the first that is no text of those that are left is the first of all
pub first_left : (left rest : List StateEntry) (entry : StateEntry) (all : BadEagerStateKeyError → Type 0) → ((error : BadEagerStateKeyError) → FirstNotText left error → all error) → left ≡ entry ∷ rest → IsUtf8 entry.key
    → (error : BadEagerStateKeyError) → FirstNotText rest error → all error
first_left left rest entry all inv next text error first = inv error (subst (λ (es : List StateEntry). FirstNotText es error) (sym next) (inr (text, first)))

-- this one fails, so all do
pub fails_here : (all left rest : List StateEntry) (entry : StateEntry) (error : StartError) → ((e : BadEagerStateKeyError) → FirstNotText left e → FirstNotText all e) → left ≡ entry ∷ rest
    → KeyFails entry.key error → KeysFail all error
fails_here all left rest entry (BadStateKey error) inv next fails = inv error (subst (λ (es : List StateEntry). FirstNotText es error) (sym next) (inl fails))
fails_here all left rest entry KnownEntriesIsZero inv next fails = absurd fails
fails_here all left rest entry OutOfMemory inv next fails = tt
