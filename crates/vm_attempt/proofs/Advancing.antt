-- Bytes of an attempt's output that were shown, and then let go, have left; and any number of the first bytes can leave.
use Rattle.std.proofs.Common.{◌≡◌, ◌≤◌, ℕ, zero, suc, min, [], ◌∷◌, ◌++◌, append-nil, length, length-take, take, drop, refl, sym, ap, ap₂, ◌∙◌}
use Rattle.std.proofs.lemmas.List.{drop-append-le}
use Rattle.journal_model.specs.Notification.{Bytes}
use Rattle.vm_core.specs.declared.core_vm.CoreVM.{CoreVM}
use Rattle.vm_attempt.specs.declared.attempt.Attempt.{Attempt}
use Rattle.vm_attempt.specs.Output.{Advances, taken_of, output_of, Gathers, OnlyMoves, ShowsFirst, LetsGo}

-- as many as were asked for, and as are there
pub shown_count : {H : Type 0} (count : ℕ) (bytes : Bytes) (before between : Attempt H) → ShowsFirst count bytes before between → length bytes ≡ min count (length (output_of before))
shown_count count bytes before between shows = ap (λ (some : Bytes). length some) shows.first ∙ length-take count (output_of before)

take_count : (count : ℕ) (bytes : Bytes) → take (length (take count bytes)) bytes ≡ take count bytes
take_count zero bytes = refl
take_count (suc count) [] = refl
take_count (suc count) (byte ∷ bytes) = ap (λ (some : Bytes). byte ∷ some) (take_count count bytes)

pub shown_bytes : {H : Type 0} (count : ℕ) (bytes : Bytes) (before between : Attempt H) → ShowsFirst count bytes before between → bytes ≡ take (length bytes) (output_of before)
shown_bytes count bytes before between shows =
    shows.first ∙ sym (take_count count (output_of before)) ∙ ap (λ (some : Bytes). take (length some) (output_of before)) (sym shows.first)

module _ {H : Type 0} where
  moves_on : (before between after : Attempt H) → OnlyMoves before between → OnlyMoves between after → OnlyMoves before after
  moves_on before between after first second = record {
    machine =
        second.machine
        ∙ ap (λ (vm : CoreVM). record vm { state = record vm.state { active = record vm.state.active { output = record vm.state.active.output { bytes = after.vm.state.active.output.bytes } } } }) first.machine;
    others = second.others ∙ ap (λ (a : Attempt H). record a { vm = after.vm; front = after.front; behind = after.behind }) first.others;
  }

  -- the same bytes waited, of which the first leave
  pub gathered_advances : (count : ℕ) (before between after : Attempt H) → Gathers before between → Advances count between after → Advances count before after
  gathered_advances count before between after gathers advances = record {
    moves = moves_on before between after gathers.moves advances.moves;
    rest = advances.rest ∙ ap (λ (bytes : Bytes). drop count bytes) gathers.same;
  }

  -- the first leave, and the others wait
  pub advances_gathered : (count : ℕ) (before between after : Attempt H) → Advances count before between → Gathers between after → Advances count before after
  advances_gathered count before between after advances gathers = record {
    moves = moves_on before between after advances.moves gathers.moves;
    rest = gathers.same ∙ advances.rest;
  }

  -- where they were taken from the machine
  pub let_go_advances : (count : ℕ) (before after : Attempt H) → count ≤ length (taken_of before) → LetsGo count before after → Advances count before after
  let_go_advances count before after few lets_go = record {
    moves = record {
      machine =
          same ∙ ap (λ (bytes : Bytes). record before.vm { state = record before.vm.state { active = record before.vm.state.active { output = record before.vm.state.active.output { bytes = bytes } } } }) (sym bytes_same);
      others = lets_go.others ∙ ap (λ (vm : CoreVM). record before { vm = vm; front = after.front; behind = after.behind }) (sym same);
    };
    rest = ap₂ (λ (some more : Bytes). some ++ more) lets_go.taken bytes_same ∙ sym (drop-append-le count (taken_of before) before.vm.state.active.output.bytes few);
  }
    where
      same : after.vm ≡ before.vm
      same = ap (λ (a : Attempt H). a.vm) lets_go.others

      bytes_same : after.vm.state.active.output.bytes ≡ before.vm.state.active.output.bytes
      bytes_same = ap (λ (vm : CoreVM). vm.state.active.output.bytes) same

  pub advances : (count : ℕ) (bytes : Bytes) (before between after : Attempt H) → ShowsFirst count bytes before between → LetsGo (length bytes) between after → Advances (length bytes) before after
  advances count bytes before between after shows lets_go =
      gathered_advances (length bytes) before between after shows.gathers (let_go_advances (length bytes) between after shows.taken lets_go)

-- the attempt without the first bytes that wait
abbrev pub without : {H : Type 0} → ℕ → Attempt H → Attempt H
without count a = record a {
  front = drop count (output_of a);
  behind = [];
  vm = record a.vm { state = record a.vm.state { active = record a.vm.state.active { output = record a.vm.state.active.output { bytes = [] } } } };
}

pub lets_first_go : {H : Type 0} (count : ℕ) (a : Attempt H) → Advances count a (without count a)
lets_first_go count a = record {
  moves = record { machine = refl; others = refl };
  rest = append-nil (drop count (output_of a) ++ []) ∙ append-nil (drop count (output_of a));
}
