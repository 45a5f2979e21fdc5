-- The models of places are models of the design: what holds of all those holds of these.
use Rattle.std.proofs.Common.{◌≡◌, ℕ, true, false, List, [], ◌∷◌, Some, All, sym, ◌∙◌, subst, ⊎_elim}
use Rattle.std.specs.List.{AllByRecursion}
use Rattle.std.proofs.lemmas.Bool.{cases_Bool, cond-true, cond-false}
use Rattle.std.proofs.lemmas.List.Elements.{All-from_recursion, recursion_from_All}
use Rattle.std.proofs.lemmas.Option.{none-some, same_Some}
use Rattle.mv_base.specs.Names.{same_word}
use Rattle.mv_design.specs.declared.design.Design.{Design}
use Rattle.mv_design.specs.declared.design.FileModel.{FileModel}
use Rattle.mv_design.specs.declared.design.Instance.{Instance}
use Rattle.mv_tree.specs.Tree.{Instances, NoMore, More, model_named, Unfolds}
use Rattle.mv_tree.specs.Places.{Place, root_place, place_in, places_in, places}
use Rattle.mv_design.specs.Proper.{IsLawful}
use Rattle.mv_tree.proofs.Each.{each-append}

named_holds : (P : FileModel → Type 0) (ms : List FileModel) (name : List ℕ) (m : FileModel) → AllByRecursion P ms → model_named ms name ≡ Some m → P m
named_holds P [] name m h e = absurd (none-some m e)
named_holds P (x ∷ xs) name m h e =
    ⊎_elim (λ (y : same_word name x.name ≡ true). subst P (same_Some x m (sym (cond-true _ _ _ y) ∙ e)) h.0)
    (λ (n : same_word name x.name ≡ false). named_holds P xs name m h.1 (sym (cond-false _ _ _ n) ∙ e))
    (cases_Bool (same_word name x.name))

models_in : (P : FileModel → Type 0) (d : Design) (round : Place) (instances : List Instance) (tree : Instances) → Unfolds d instances tree → AllByRecursion P d.models
    → AllByRecursion (λ p. P p.model) (places_in round tree)
models_in P d round [] NoMore u h = tt
models_in P d round [] (More instance model inside rest) u h = absurd u
models_in P d round (q ∷ qs) NoMore u h = absurd u
models_in P d round (q ∷ qs) (More instance model inside rest) u h =
    let p = place_in round instance model in (
      named_holds P d.models q.model model h u.0.named,
      each-append (λ r. P r.model) (places_in p inside) (places_in round rest) (models_in P d p model.instances inside u.1 h) (models_in P d round qs rest u.2 h),
    )

pub all_models : (P : FileModel → Type 0) (d : Design) (root : FileModel) (tree : Instances) → Unfolds d root.instances tree → All P d.models → P root
    → All (λ p. P p.model) (places root tree)
all_models P d root tree u h r =
    All-from_recursion (λ p. P p.model) (places root tree) (r, models_in P d (root_place root) root.instances tree u (recursion_from_All P d.models h))

pub lawful_models : (d : Design) (root : FileModel) (tree : Instances) → Unfolds d root.instances tree → All IsLawful d.models → IsLawful root
    → All (λ p. IsLawful p.model) (places root tree)
lawful_models = all_models IsLawful
