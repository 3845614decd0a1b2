-- The laws of attempts that serve, for one handler's function.
use Rattle.journal_model.specs.Run.{Handler}
use Rattle.protocol_types.specs.declared.version.Version.{Version}
use Rattle.vm_types.specs.declared.options.VMOptions.{VMOptions}
use Rattle.replay_laws.specs.AttemptWithBodies.{ExecutorsBegin, ExecutorsStayLive}
use Rattle.replay_laws.specs.Laws.{LivesReplay, LivesStay}
use Rattle.vm_attempt_laws.specs.AttemptInvariants.{BeginsServing, StaysServing, FeedsServing, ClosesServing, TakesServing, OversStay}
use Rattle.vm_attempt_laws.specs.Laws.{OfEach}
use Rattle.vm_attempt_laws.specs.TurnReports.{TurnsTell}
use Rattle.vm_attempt_laws.specs.TurnsInRun.{TurnServes}

pub record ServingLaws {H : Type 0} (function : H → Handler) (next : Handler) (options : VMOptions) : Type 0 where
  pub begins : (version : Version) → BeginsServing function next version options
  pub events : (version : Version) → StaysServing function next version options
  pub feeds : (version : Version) → FeedsServing function next version options
  pub closes : (version : Version) → ClosesServing function next version options
  pub takes : (version : Version) → TakesServing function next version options
  pub turns : (version : Version) → TurnServes function next version options
  pub tells : (version : Version) → TurnsTell function next version options
  pub over : OversStay function
  pub live_begins : ExecutorsBegin
  pub stays : ExecutorsStayLive
  pub replays : LivesReplay
  pub lives : LivesStay

pub serving_laws : {H : Type 0} (function : H → Handler) (next : Handler) (options : VMOptions) → OfEach (BeginsServing function) → OfEach (StaysServing function) → OfEach (FeedsServing function)
    → OfEach (ClosesServing function) → OfEach (TakesServing function) → OfEach (TurnServes function) → OfEach (TurnsTell function) → OversStay function → ExecutorsBegin → ExecutorsStayLive → LivesReplay → LivesStay
    → ServingLaws function next options
serving_laws function next options begins events feeds closes takes turns tells over live_begins stays replays lives = record {
  begins = λ version. begins next version options;
  events = λ version. events next version options;
  feeds = λ version. feeds next version options;
  closes = λ version. closes next version options;
  takes = λ version. takes next version options;
  turns = λ version. turns next version options;
  tells = λ version. tells next version options;
  over = over;
  live_begins = live_begins;
  stays = stays;
  replays = replays;
  lives = lives;
}
