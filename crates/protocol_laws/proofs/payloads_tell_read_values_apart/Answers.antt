use Rattle.protocol_laws.proofs.payloads_tell_read_values_apart.Goals as goal

pub returns : goal.returns
returns g c a b v w bytes_a bytes_b read_v read_w small =
    c.payloads_tell_values_apart.ensures v w (c.what_was_read_fits.ensures.fits a v bytes_a read_v) (c.what_was_read_fits.ensures.fits b w bytes_b read_w) small
