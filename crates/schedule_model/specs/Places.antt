-- Where attempts stand, by invocation and number.
use Rattle.std.specs.Prelude.{◌≡◌, ℕ, ◌==◌, ◌&&◌, List, Option, Some, None, nat_eq, bytes_eq, if◌then◌else◌}
use Rattle.std.specs.HashMap.{HashMap}
use Rattle.indexmap.specs.IndexMap.{get}
use Rattle.schedule_model.specs.declared.places.AttemptPlaces.{AttemptPlaces}

abbrev pub place_of_id : {S : Type 0} → Option (HashMap ℕ ℕ S) → ℕ → Option ℕ
place_of_id None n = None
place_of_id (Some numbers) n = get nat_eq numbers n

abbrev pub place_in : AttemptPlaces → List ℕ → ℕ → Option ℕ
place_in places id n = place_of_id (get bytes_eq places.invocations id) n

-- what stands where something is put where nothing stands
abbrev pub place_kept : Option ℕ → ℕ → Option ℕ
place_kept None place = Some place
place_kept (Some before) place = Some before

abbrev pub number_in : ℕ → ℕ → Option ℕ → ℕ → Option ℕ
number_in number place before n = if nat_eq number n then place_kept before place else before

abbrev pub Notes : List ℕ → ℕ → ℕ → AttemptPlaces → AttemptPlaces → Type 0
Notes invocation number place old new =
    (id : List ℕ) (n : ℕ) → place_in new id n ≡ (if bytes_eq invocation id && (number == n) then place_kept (place_in old id n) place else place_in old id n)
