-- What is told of the nets of places by their names in the whole: what is told of the own nets of all places is told of all
-- nets, since a formal that is bound is the net round it.
use Rattle.std.proofs.Common.{◌≡◌, ℕ, true, false, not, ◌&&◌, List, [], ◌∷◌, ◌++◌, map, Option, Some, None, is_some, refl, sym, ◌∙◌, ap, subst, ⊎_elim}
use Rattle.std.specs.List.{AllByRecursion}
use Rattle.std.proofs.lemmas.Bool.{and_from, and_parts, cases_Bool, cond-true, cond-false, not-true}
use Rattle.std.proofs.lemmas.Map.Views.{any-filter_same}
use Rattle.std.proofs.lemmas.Option.{none-some, same_Some}
use Rattle.mv_base.specs.Names.{same_word, among}
use Rattle.mv_base.proofs.Lists.{none_from}
use Rattle.mv_base.proofs.NameLemmas.{same_word_is}
use Rattle.mv_design.specs.declared.design.Bind.{Bind}
use Rattle.mv_design.specs.declared.design.Design.{Design}
use Rattle.mv_design.specs.declared.design.FileModel.{FileModel}
use Rattle.mv_design.specs.declared.design.Instance.{Instance}
use Rattle.mv_tree.specs.Tree.{Instances, NoMore, More, Unfolds}
use Rattle.mv_tree.specs.Places.{all_nets, actual_of, is_bound, Place, root_place, through, path_in, place_in, places_in, places, own_nets}
use Rattle.mv_tree.proofs.Each.{each_among, each-mapped, each-front, each-behind, each-append}
use Rattle.mv_tree.proofs.Homes.{Seat, TellsOwn}
use Rattle.mv_tree.proofs.Named.{actuals, AreAmong, actuals_among}

-- ---- formals that are bound, and nets that aren't

pub through-bound : {X : Type 0} (round own : List ℕ → X) (binds : List Bind) (net actual : List ℕ) → actual_of binds net ≡ Some actual
    → through round own binds net ≡ round actual
through-bound round own binds net actual e = rw e refl

pub through-own : {X : Type 0} (round own : List ℕ → X) (binds : List Bind) (net : List ℕ) → actual_of binds net ≡ None → through round own binds net ≡ own net
through-own round own binds net e = rw e refl

-- a net is at home where it is a net and isn't bound
pub among_own : (p : Place) (net : List ℕ) → among net (own_nets p) ≡ (not (is_bound p.binds net) && among net (all_nets p.model))
among_own p net =
    any-filter_same (same_word net) (λ n. not (is_bound p.binds n)) (not (is_bound p.binds net))
    (λ k e. ap (λ n. not (is_bound p.binds n)) (sym (same_word_is net k e))) (all_nets p.model)

pub own_is_net : (p : Place) (net : List ℕ) → among net (own_nets p) ≡ true → among net (all_nets p.model) ≡ true
own_is_net p net e = (and_parts _ _ (sym (among_own p net) ∙ e)).1

pub own_is_unbound : (p : Place) (net : List ℕ) → among net (own_nets p) ≡ true → actual_of p.binds net ≡ None
own_is_unbound p net e = none_from (actual_of p.binds net) (not-true _ (and_parts _ _ (sym (among_own p net) ∙ e)).0)

pub own-from_unbound : (p : Place) (net : List ℕ) → actual_of p.binds net ≡ None → among net (all_nets p.model) ≡ true → among net (own_nets p) ≡ true
own-from_unbound p net e listed = among_own p net ∙ and_from _ _ (ap (λ o. not (is_some o)) e) listed

-- what holds of each binding holds of a formal that is bound and of its actual
pub each_bound : (P : List ℕ → List ℕ → Type 0) (binds : List Bind) (net actual : List ℕ) → AllByRecursion (λ b. P b.formal b.actual) binds
    → actual_of binds net ≡ Some actual → P net actual
each_bound P [] net actual h e = absurd (none-some actual e)
each_bound P (b ∷ bs) net actual h e =
    ⊎_elim
    (λ (y : same_word net b.formal ≡ true).
    let is : b.actual ≡ actual = same_Some b.actual actual (sym (cond-true _ _ _ y) ∙ e) in
    subst (λ w. P w actual) (sym (same_word_is net b.formal y)) (subst (P b.formal) is h.0))
    (λ (n : same_word net b.formal ≡ false). each_bound P bs net actual h.1 (sym (cond-false _ _ _ n) ∙ e))
    (cases_Bool (same_word net b.formal))

-- the net to which a formal is bound is one of the actuals
pub actual_listed : (binds : List Bind) (net actual : List ℕ) → actual_of binds net ≡ Some actual → among actual (map (λ b. b.actual) binds) ≡ true
actual_listed binds net actual e =
    let names = map (λ b. b.actual) binds in
    each_bound (λ _ w. among w names ≡ true) binds net actual (each-mapped (λ w. among w names ≡ true) (λ b. b.actual) binds (each_among names)) e

-- ---- the instances name nets of the models round them

abbrev pub AreNamed : FileModel → Instances → Type 0
AreNamed round NoMore = Unit {0}
AreNamed round (More instance model inside rest) = AreAmong (actuals instance) (all_nets round) × AreNamed model inside × AreNamed round rest

instances_named : (d : Design) (round : FileModel) (instances : List Instance) (tree : Instances) → Unfolds d instances tree
    → AllByRecursion (λ p. AreAmong (actuals p) (all_nets round)) instances → AreNamed round tree
instances_named d round [] NoMore u h = tt
instances_named d round [] (More instance model inside rest) u h = absurd u
instances_named d round (p ∷ ps) NoMore u h = absurd u
instances_named d round (p ∷ ps) (More instance model inside rest) u h =
    let P : Instance → Type 0 = λ q. AreAmong (actuals q) (all_nets round) in
    (subst P (sym u.0.is) h.0, instances_named d model model.instances inside u.1 (actuals_among model), instances_named d round ps rest u.2 h.1)

pub are_named : (d : Design) (root : FileModel) (tree : Instances) → Unfolds d root.instances tree → AreNamed root tree
are_named d root tree u = instances_named d root root.instances tree u (actuals_among root)

-- ---- what is told of all nets

-- f tells of the nets of a place what the seat does
pub record TellsAll {X : Type 0} (f : List ℕ → X) (s : Seat X) : Type 0 where
  pub all : (net : List ℕ) → among net (all_nets s.place.model) ≡ true → f (s.place.home net) ≡ s.tells net

-- of an instance: where it tells of a formal that is bound what is told of the net round it
pub told_inside : {X : Type 0} (f : List ℕ → X) (round : Place) (at_round : List ℕ → X) (instance : Instance) (model : FileModel) (tells : List ℕ → X)
    → ((net actual : List ℕ) → actual_of instance.binds net ≡ Some actual → tells net ≡ at_round actual) → AreAmong (actuals instance) (all_nets round.model)
    → TellsAll f (record { place = round; tells = at_round }) → TellsOwn f (record { place = place_in round instance model; tells = tells })
    → TellsAll f (record { place = place_in round instance model; tells = tells })
told_inside {X} f round at_round instance model tells bound named all own = record { all = λ net listed. by net listed (actual_of instance.binds net) refl }
  where
    by : (net : List ℕ) → among net (all_nets model) ≡ true → (o : Option (List ℕ)) → actual_of instance.binds net ≡ o → f ((place_in round instance model).home net) ≡ tells net
    by net listed None e = own.own net (own-from_unbound (place_in round instance model) net e listed)
    by net listed (Some actual) e =
        ap f (through-bound round.home (λ n. path_in round.path instance.name ++ n) instance.binds net actual e)
        ∙ (all.all actual (named.each actual (actual_listed instance.binds net actual e)) ∙ sym (bound net actual e))

-- of the root, all whose nets are its own
pub told_root : {X : Type 0} (f : List ℕ → X) (root : FileModel) (tells : List ℕ → X) → TellsOwn f (record { place = root_place root; tells = tells })
    → TellsAll f (record { place = root_place root; tells = tells })
told_root f root tells own = record { all = λ net listed. own.own net (own-from_unbound (root_place root) net refl listed) }

-- what places tell where each tells of a formal that is bound what the place round it tells
pub record Inherits {X : Type 0} (tells : Place → List ℕ → X) : Type 0 where
  pub bound : (round : Place) (instance : Instance) (model : FileModel) (net actual : List ℕ) → actual_of instance.binds net ≡ Some actual
      → tells (place_in round instance model) net ≡ tells round actual

abbrev pub seated : {X : Type 0} → (Place → List ℕ → X) → Place → Seat X
seated tells p = record { place = p; tells = tells p }

told_in : {X : Type 0} (f : List ℕ → X) (tells : Place → List ℕ → X) → Inherits tells → (round : Place) (tree : Instances) → AreNamed round.model tree
    → TellsAll f (seated tells round) → AllByRecursion (λ p. TellsOwn f (seated tells p)) (places_in round tree)
    → AllByRecursion (λ p. TellsAll f (seated tells p)) (places_in round tree)
told_in f tells h round NoMore named all own = tt
told_in f tells h round (More instance model inside rest) named all own =
    let p = place_in round instance model in
    let Own : Place → Type 0 = λ q. TellsOwn f (seated tells q) in
    let here = told_inside f round (tells round) instance model (tells p) (h.bound round instance model) named.0 all own.0 in (
      here,
      each-append _ (places_in p inside) (places_in round rest) (told_in f tells h p inside named.1 here (each-front Own (places_in p inside) (places_in round rest) own.1))
          (told_in f tells h round rest named.2 all (each-behind Own (places_in p inside) (places_in round rest) own.1)),
    )

pub all_tell : {X : Type 0} (f : List ℕ → X) (tells : Place → List ℕ → X) → Inherits tells → (root : FileModel) (tree : Instances) → AreNamed root tree
    → AllByRecursion (λ p. TellsOwn f (seated tells p)) (places root tree) → AllByRecursion (λ p. TellsAll f (seated tells p)) (places root tree)
all_tell f tells h root tree named own =
    let here = told_root f root (tells (root_place root)) own.0 in
    (here, told_in f tells h (root_place root) tree named here own.1)
