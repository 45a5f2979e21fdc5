-- The same commands make one tree of instances.
use Rattle.std.proofs.Common.{◌≡◌, List, [], ◌∷◌, refl, sym, ◌∙◌, subst}
use Rattle.mv_design.specs.declared.design.Design.{Design}
use Rattle.mv_design.specs.declared.design.FileModel.{FileModel}
use Rattle.mv_design.specs.declared.design.Instance.{Instance}
use Rattle.mv_tree.specs.Tree.{Instances, NoMore, More, Opens, Unfolds}

one_model : (d : Design) (p a b : Instance) (m n : FileModel) → Opens d p a m → Opens d p b n → m ≡ n
one_model d p a b m n o q = cc (o.named, q.named)

pub one_tree : (d : Design) (ps : List Instance) (a b : Instances) → Unfolds d ps a → Unfolds d ps b → a ≡ b
one_tree d [] NoMore NoMore u v = refl
one_tree d [] NoMore (More instance model inside rest) u v = absurd v
one_tree d [] (More instance model inside rest) b u v = absurd u
one_tree d (p ∷ ps) NoMore b u v = absurd u
one_tree d (p ∷ ps) (More instance model inside rest) NoMore u v = absurd v
one_tree d (p ∷ ps) (More instance model inside rest) (More other model2 inside2 rest2) u v =
    let e : model ≡ model2 = one_model d p instance other model model2 u.0 v.0 in
    let f : instance ≡ other = u.0.is ∙ sym v.0.is in
    let i : inside ≡ inside2 = one_tree d model.instances inside inside2 u.1 (subst (λ (m : FileModel). Unfolds d m.instances inside2) (sym e) v.1) in
    let r : rest ≡ rest2 = one_tree d ps rest rest2 u.2 v.2 in
    cc
