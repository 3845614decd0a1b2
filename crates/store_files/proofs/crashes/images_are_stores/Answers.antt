use Rattle.store_files.proofs.CrashImages.{images_are}
use Rattle.store_files.proofs.crashes.images_are_stores.Goals as goal

pub returns : goal.returns
returns g c = images_are g.S.Store
