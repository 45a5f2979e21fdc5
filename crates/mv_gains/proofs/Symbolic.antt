-- The kernels that are put to those found.
use Rattle.std.proofs.Common.{◌≡◌, ◌∙◌, ◌++◌, List, [], map, Contains, refl, ap, subst, inl, inr}
use Rattle.std.proofs.lemmas.List.Elements.{All-contains}
use Rattle.mv_base.specs.declared.number.NetId.{NetId}
use Rattle.mv_cover.specs.Literal.{Lit}
use Rattle.mv_kernels.specs.declared.kernel.Kernel.{Kernel}
use Rattle.mv_kernels.specs.Kernels.{IsKernelOf, AreKernels, HasFew}
use Rattle.mv_kernels.proofs.Lists.{Contains-none}
use Rattle.mv_divide.specs.declared.part.Part.{Part}
use Rattle.mv_gains.specs.Grown.{IsOneOf, Grew}
use Rattle.mv_gains.specs.declared.kernels.Candidate.{Candidate}
use Rattle.mv_gains.specs.Kernels.{IsSymbolic, IsKernelFrom, IsKernelOfPart, IsWithKernels, new_candidate}
use Rattle.mv_gains.proofs.Growing.{grew_as}

-- those of all kernels of a cover of which each cube has a symbol
pub kernels_put : (cover : List (List Lit)) (kernels old new : List Kernel) → AreKernels cover kernels → ((k : Kernel) → IsKernelOf cover k.cubes → Contains kernels k) → HasFew cover → Grew (IsOneOf IsSymbolic kernels) old new → Grew (IsKernelFrom cover) old new
kernels_put cover kernels old new are all few g =
    grew_as (IsOneOf IsSymbolic kernels) (IsKernelFrom cover) old new
    (λ k h.
    subst (IsKernelFrom cover) h.is.is
    (record { few = few; is = All-contains (λ (x : Kernel). IsKernelOf cover x.cubes) kernels h.from are.each h.there; symbols = h.is.symbols }))
    (λ k h. record { from = k; there = all k h.is; is = record { is = refl; symbols = h.symbols } }) g

-- the kernels found are added as candidates
pub kernels_added : (table : NetId) (parts : List Part) (found listed : List Kernel) (old new : List Candidate) → Grew (IsOneOf IsKernelOfPart parts) [] found → listed ≡ found → new ≡ old ++ map (new_candidate table) listed → IsWithKernels table parts old new
kernels_added table parts found listed old new g same are = record {
  kernels = found;
  are = are ∙ ap (λ (ks : List Kernel). old ++ map (new_candidate table) ks) same;
  each = λ k i. elim (g.each k i) [ inl none ↦ absurd (Contains-none k none) | inr is ↦ is ];
  all = g.all;
}
