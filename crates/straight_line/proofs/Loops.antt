-- Loops over handles, one round on and at their end.
use Rattle.std.proofs.Common.{◌≡◌, ℕ, ◌+◌, ◌<◌, ◌≤◌, if◌then◌else◌, List, length, get_or, drop}
use Rattle.std.proofs.lemmas.List.{at_drop_more, at_drop_all}
use Rattle.journal_model.specs.declared.call.Answer.{Answer}
use Rattle.straight_line.specs.declared.gathered.Gathered.{Gathered}
use Rattle.straight_line.specs.Steps.{Steps, Goes, ◌>>=◌, done}
use Rattle.straight_line.specs.Calls as told
use Rattle.straight_line.specs.Combinators.{first_come, one_more, gather}

pub first_come-step : (handles : List ℕ) (place : ℕ) (answers : List Answer)
    → place < length handles → first_come place (drop place handles) answers
    ≡ (told.is_completed (get_or handles place 0) >>= λ has_come. if has_come then done place else first_come (place + 1) (drop (place + 1) handles)) answers
unfolding first_come
first_come-step handles place answers less = at_drop_more (λ left. first_come place left answers) handles place 0 less

pub first_come-end : (handles : List ℕ) (place : ℕ) (answers : List Answer)
    → length handles ≤ place → first_come place (drop place handles) answers ≡ Goes place answers
unfolding first_come
first_come-end handles place answers over = at_drop_all (λ left. first_come place left answers) handles place over

pub gather-step : (required : ℕ) (gathered : Gathered) (handles : List ℕ) (place : ℕ) (answers : List Answer)
    → place < length handles → gather required gathered (drop place handles) answers
    ≡ (one_more required gathered (get_or handles place 0) >>= λ next. gather required next (drop (place + 1) handles)) answers
unfolding gather
gather-step required gathered handles place answers less = at_drop_more (λ left. gather required gathered left answers) handles place 0 less

pub gather-end : (required : ℕ) (gathered : Gathered) (handles : List ℕ) (place : ℕ) (answers : List Answer)
    → length handles ≤ place → gather required gathered (drop place handles) answers ≡ Goes gathered answers
unfolding gather
gather-end required gathered handles place answers over = at_drop_all (λ left. gather required gathered left answers) handles place over

pub ruleset over_handles = (first_come-step, first_come-end, gather-step, gather-end)
