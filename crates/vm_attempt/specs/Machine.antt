-- The machine that carries calls out, passed on, so that crates above name this one alone.
pub use Rattle.vm_core.specs.declared.core_vm.CoreVM.{CoreVM}
