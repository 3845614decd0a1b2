-- The version that is kept of an accepted invocation has the number that came.
use Rattle.std.proofs.Common.{◌≡◌, refl, sym, ap, subst, ◌∙◌, ℕ, Bool, true, false, List, [], ◌∷◌, Option, Some, option_map, unwrap_or, bytes_eq}
use Rattle.std.specs.Prelude.{if◌then◌else◌}
use Rattle.protocol_types.specs.declared.version.Version.{Version}
use Rattle.protocol_types.specs.Version.{version_number, is_unsupported, oldest_version}
use Rattle.protocol_types.proofs.Versions.{spoken_versions_have_numbers, versions_read_back}
use Rattle.journal_model.specs.Notification.{Text}
use Rattle.journal_model.specs.declared.invocation.NewInvocation.{NewInvocation}
use Rattle.journal_model.specs.Event.{Event}
use Rattle.journal_model.specs.Journal.{invocation_begun, version_of}
use Rattle.journal_model.specs.Cause.{IsAccepted, causes_of, own_tests}
use Rattle.journal_laws.proofs.ObjectState.{begun_before, holds-head, holds-tail, tail_of}
use Rattle.store_model.specs.KeptRecords.{version_kept}

pub kept_of : (version : Version) → version_kept (version_number version) ≡ version
unfolding version_kept
kept_of version = ap (λ (o : Option Version). unwrap_or o oldest_version) (versions_read_back version)

number_kept : (number : ℕ) → is_unsupported number ≡ false → version_number (version_kept number) ≡ number
number_kept number spoken = let it = spoken_versions_have_numbers number spoken in ap version_number (ap version_kept (sym it.2) ∙ kept_of it.0) ∙ it.2

spoken_begin : (events : List Event) (new : NewInvocation) → causes_of events (Event.Invoke new) ≡ [] → is_unsupported new.version ≡ false
spoken_begin events new accepted =
    let tests = own_tests events (Event.Invoke new) in
    holds-head (tail_of (tail_of (tail_of tests))) (holds-tail (tail_of (tail_of tests)) (holds-tail (tail_of tests) (holds-tail tests accepted)))

some_same : (x y : NewInvocation) → Some x ≡ Some y → x ≡ y
some_same x y e = cc

spoken : (events : List Event) (id : Text) (new : NewInvocation) → IsAccepted events → invocation_begun events id ≡ Some new → is_unsupported new.version ≡ false
spoken [] id new accepted e = absurd cc
spoken (Event.Invoke one ∷ earlier) id new accepted e = by_test (bytes_eq one.id id) e (spoken earlier id new accepted.1)
  where
    by_test : (b : Bool) → (if b then Some one else invocation_begun earlier id) ≡ Some new → (invocation_begun earlier id ≡ Some new → is_unsupported new.version ≡ false) → is_unsupported new.version ≡ false
    by_test true is before = subst (λ (n : NewInvocation). is_unsupported n.version ≡ false) (some_same one new is) (spoken_begin earlier one accepted.0)
    by_test false is before = before is
spoken (event ∷ earlier) id new accepted e = spoken earlier id new accepted.1 (sym (begun_before event earlier id refl) ∙ e)

-- of an invocation that was begun
pub begun_number : (events : List Event) (id : Text) (new : NewInvocation) → IsAccepted events → invocation_begun events id ≡ Some new → version_number (version_kept new.version) ≡ new.version
begun_number events id new accepted e = number_kept new.version (spoken events id new accepted e)

pub kept_number : (events : List Event) (id : Text) (new : NewInvocation) → IsAccepted events → invocation_begun events id ≡ Some new → version_number (version_kept new.version) ≡ version_of events id
kept_number events id new accepted e =
    begun_number events id new accepted e
    ∙ sym (ap (λ (o : Option NewInvocation). unwrap_or (option_map (λ (one : NewInvocation). one.version) o) 0) e)
