use Rattle.protocol_laws.proofs.what_was_read_is_merged.Goals as goal

pub returns-clause-merged : goal.returns-clause-merged
returns-clause-merged g c a b v w are_bytes read small sound merged =
    c.followed_is_merged.ensures.merged a b v w read (c.what_was_read_fits.ensures.fits a v are_bytes read) small sound merged

pub returns-clause-alone : goal.returns-clause-alone
returns-clause-alone g c a b v w are_bytes read small sound joined =
    c.followed_is_merged.ensures.alone a b v w read (c.what_was_read_fits.ensures.fits a v are_bytes read) small sound joined
