-- What contracts see of a store.
use Rattle.std.specs.Prelude.{refl}
use Rattle.std.specs.Coded.{Coded, code_by, coded×}
use Rattle.sqlite.specs.Held.{Held, held_code}
use Rattle.store_live.specs.Attempts.{Attempts}
use Rattle.store_live.specs.contracts.attempts.LiveAttempts as live

pub record Stored (S : Type 0) : Type 0 where
  pub connection : Held S
  pub live : Attempts

-- of these parts
abbrev pub stored : {S : Type 0} → Held S → Attempts → Stored S
stored connection live = record { connection = connection; live = live }

abbrev pub stored_code : {S : Type 0} → Coded S → Coded (Stored S)
stored_code {S} store =
    code_by (Held S × Attempts) (coded× (held_code store) live.the_row.coded) (λ s. (s.connection, s.live))
    (λ p. record { connection = p.0; live = p.1 }) (λ _. refl)
