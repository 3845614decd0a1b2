use Rattle.std.specs.Fmt.{digits}
use Rattle.store_tables.proofs.layout.are_indexes.Goals as goal

pub returns-clause-exact : goal.returns-clause-exact
unfolding digits
returns-clause-exact c here = rw (c.of_key.ensures, c.of_key-2.ensures, c.to_look_up.ensures, c.to_look_up-2.ensures, c.to_look_up-3.ensures, c.to_look_up-4.ensures, c.to_look_up-5.ensures, c.to_look_up-6.ensures, c.to_look_up-7.ensures, c.to_look_up-8.ensures, c.to_look_up-9.ensures) at (c.have_indexes.ensures.exact here)

pub returns-clause-complete : goal.returns-clause-complete
unfolding digits
returns-clause-complete c here = (rw (c.of_key.ensures, c.of_key-2.ensures, c.to_look_up.ensures, c.to_look_up-2.ensures, c.to_look_up-3.ensures, c.to_look_up-4.ensures, c.to_look_up-5.ensures, c.to_look_up-6.ensures, c.to_look_up-7.ensures, c.to_look_up-8.ensures, c.to_look_up-9.ensures) at c.have_indexes.ensures.complete) here
