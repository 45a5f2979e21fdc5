use Rattle.std.proofs.Common.{List, All, refl, sym, subst}
use Rattle.mv_cover.specs.Literal.{Lit}
use Rattle.mv_kernels.specs.declared.kernel.Kernel.{Kernel}
use Rattle.mv_kernels.specs.Equal.{kernel_eq}
use Rattle.mv_kernels.specs.Keys.{kernel_eq-Decides}
use Rattle.mv_gains.specs.Kernels.{HasSome, IsSymbolic}
use Rattle.mv_gains.specs.Grown.{Grew}
use Rattle.mv_gains.proofs.Growing.{grew_key}
use Rattle.mv_gains.proofs.kernels.put.Goals as goal

pub returns : goal.returns
returns c =
    subst (λ (ks : List Kernel). Grew (IsSymbolic c.args.kernel) c.args.found.now.keys ks) (sym c.in_ok-insert.ensures.keys)
    (grew_key (IsSymbolic c.args.kernel) kernel_eq kernel_eq-Decides c.args.found.now.keys c.args.kernel (record { is = refl; symbols = subst (λ (cubes : List (List Lit)). All HasSome cubes) c.as_slice.ensures (c.if-not-have_symbols.ensures.0 refl) }) (λ k h. h.is))
