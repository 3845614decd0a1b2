-- It is proved in `Texts`.
use Rattle.live_laws.proofs.Texts.{records_text}
use Rattle.live_laws.proofs.records_have_text_keys.Goals as goal

pub returns : goal.returns
returns c = records_text
