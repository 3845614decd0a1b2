-- What a slot owns: a box where it has one, and else that its pointer is null.
use base.Fml.{Fml, ftrue, fex}
use denote.RattleType.{RattleType}
use denote.RawPtr.{Ptr, null_ptr}
use Rattle.std.specs.Prelude.{◌≡◌}
use Rattle.std.specs.declared.option.Option.{Option}
use Rattle.std.specs.declared.option.Option.TheVariants.{None, Some}
use Rattle.std.specs.declared.alloc.Global.{Global}
use Rattle.std.specs.contracts.impls.GlobalAllocator.TheImpl.{ghosts}
use Rattle.std.specs.Box.Ownership.{box_owns}

abbrev pub held : Global → (R : RattleType) → Ptr → Option R.Denot → Fml
held a R p None = fex (p ≡ null_ptr) (λ _. ftrue)
held a R p (Some x) = box_owns (ghosts.dealloc_token a) R p x
