use Rattle.std.proofs.Common.{◌≡◌, ℕ, subst, rules, IsTrue}
use Rattle.sqlite_wal.specs.PageSize.{bytes_of}
use Rattle.sqlite_pool.specs.Opening.{IsBlankFile}
use Rattle.sqlite.specs.Files.{image_of}
use Rattle.store_files.proofs.make.begun.Goals as goal

pub returns : goal.returns
returns g c =
    let size : bytes_of c.unwrap-size.result ≡ 1024 = search rules in
    let is_blank : IsTrue c.in-Ok.is_blank = search rules in
    record {
      spared = λ clean something.
          absurd (something (subst (λ (n : ℕ). IsBlankFile n (image_of g.D.Disk c.args.files)) size ((c.in-Ok.ensures.ok (c.with_database.ensures.honest clean)).0 is_blank)));
    }
