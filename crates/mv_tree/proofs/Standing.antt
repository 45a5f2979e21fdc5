-- Places in a whole whose nets differ by name: each net's name there is a net of the whole, which has the net's values, and so
-- many as the model round declares.
use Rattle.std.proofs.Common.{◌≡◌, ℕ, true, List, [], ◌∷◌, ◌++◌, length, map, Option, Some, None, refl, sym, ◌∙◌, ap}
use Rattle.std.specs.Prelude.{if◌then◌else◌, ◌==◌}
use Rattle.std.specs.List.{AllByRecursion}
use Rattle.std.proofs.lemmas.Bool.{eqb-true}
use Rattle.std.proofs.lemmas.List.{map-append}
use Rattle.std.proofs.lemmas.Simd.{map-map}
use Rattle.mv_base.specs.Names.{same_word, among, names_differ}
use Rattle.mv_design.specs.declared.design.Decl.{Decl}
use Rattle.mv_design.specs.declared.design.FileModel.{FileModel}
use Rattle.mv_design.specs.declared.design.Instance.{Instance}
use Rattle.mv_design.specs.Values.{values_of, two_values, count_of}
use Rattle.mv_tree.specs.Tree.{Instances, NoMore, More}
use Rattle.mv_tree.specs.Places.{actual_of, all_nets, Place, root_place, place_in, places_in, places, own_nets, homes}
use Rattle.mv_tree.specs.Unfolded.{placed_decl, decls_in}
use Rattle.mv_tree.specs.Bound.{IsBound, AreBound}
use Rattle.mv_tree.proofs.Each.{each-append, each-both, each-weaker, each-mapped, each-from_test}
use Rattle.mv_tree.proofs.Told.{value_told}
use Rattle.mv_tree.proofs.Homes.{places_of, TellsOwn, entries_at, entries, own_told, own_listed}
use Rattle.mv_tree.proofs.Inside.{AreNamed, Inherits, TellsAll, all_tell, each_bound, own_is_unbound, seated, through-bound, through-own}

-- ---- what the whole declares

-- the values that a model declares
abbrev declared : Place → List ℕ → List (List ℕ)
declared p = values_of p.model.decls

values_told : (ds : List Decl) (w : List ℕ) → values_of ds w ≡ value_told two_values (map (λ d. (d.net, d.values)) ds) w
values_told [] w = refl
values_told (d ∷ ds) w = ap (λ (vs : List (List ℕ)). if same_word w d.net then d.values else vs) (values_told ds w)

decls_entries : (ps : List Place) → map (λ d. (d.net, d.values)) (decls_in ps) ≡ entries (map (seated declared) ps)
decls_entries [] = refl
decls_entries (p ∷ ps) =
    map-append (λ d. (d.net, d.values)) (map (placed_decl p) (own_nets p)) (decls_in ps)
    ∙ (ap (λ es. es ++ map (λ d. (d.net, d.values)) (decls_in ps)) (map-map (λ d. (d.net, d.values)) (placed_decl p) (own_nets p))
    ∙ ap (λ es. entries_at (seated declared p) ++ es) (decls_entries ps))

seated_places : {X : Type 0} (tells : Place → List ℕ → X) (ps : List Place) → places_of (map (seated tells) ps) ≡ ps
seated_places tells [] = refl
seated_places tells (p ∷ ps) = ap (λ qs. p ∷ qs) (seated_places tells ps)

-- each own net has in the whole the values that its model declares
own_declared : (ps : List Place) → names_differ (homes ps) ≡ true → AllByRecursion (λ p. TellsOwn (values_of (decls_in ps)) (seated declared p)) ps
own_declared ps differ =
    let ss = map (seated declared) ps in
    let f = value_told two_values (entries ss) in
    let same : (w : List ℕ) → values_of (decls_in ps) w ≡ f w = λ w. values_told (decls_in ps) w ∙ ap (λ es. value_told two_values es w) (decls_entries ps) in
    each-weaker (λ p. TellsOwn f (seated declared p)) (λ p. TellsOwn (values_of (decls_in ps)) (seated declared p))
    (λ p h. record { own = λ net listed. same (p.home net) ∙ h.own net listed }) ps
    (each-mapped (TellsOwn f) (seated declared) ps (own_told two_values ss (ap (λ qs. names_differ (homes qs)) (seated_places declared ps) ∙ differ)))

-- ---- the values of a place

abbrev values_at : Place → List ℕ → List (List ℕ)
values_at p = p.values

-- the own nets of a place have the values that its model declares
record HasOwnValues (p : Place) : Type 0 where
  own : (net : List ℕ) → actual_of p.binds net ≡ None → p.values net ≡ values_of p.model.decls net

own_values_in : (round : Place) (tree : Instances) → AllByRecursion HasOwnValues (places_in round tree)
own_values_in round NoMore = tt
own_values_in round (More instance model inside rest) =
    let p = place_in round instance model in (
      record { own = λ net e. through-own round.values (values_of model.decls) instance.binds net e },
      each-append HasOwnValues (places_in p inside) (places_in round rest) (own_values_in p inside) (own_values_in round rest),
    )

own_values : (root : FileModel) (tree : Instances) → AllByRecursion HasOwnValues (places root tree)
own_values root tree = (record { own = λ net e. refl }, own_values_in (root_place root) tree)

-- a place has so many values of a net as its model declares
record HasCounts (p : Place) : Type 0 where
  count : (net : List ℕ) → length (p.values net) ≡ count_of p.model.decls net

counts_inside : (round : Place) (instance : Instance) (model : FileModel) → IsBound round.model instance model → HasCounts round → HasCounts (place_in round instance model)
counts_inside round instance model bound h = record { count = λ net. by net (actual_of instance.binds net) refl }
  where
    by : (net : List ℕ) (o : Option (List ℕ)) → actual_of instance.binds net ≡ o → length ((place_in round instance model).values net) ≡ count_of model.decls net
    by net None e = ap length (through-own round.values (values_of model.decls) instance.binds net e)
    by net (Some actual) e =
        let each = each-from_test (λ b. count_of model.decls b.formal == count_of round.model.decls b.actual) instance.binds bound.counts in
        let same = each_bound (λ f a. (count_of model.decls f == count_of round.model.decls a) ≡ true) instance.binds net actual each e in
        ap length (through-bound round.values (values_of model.decls) instance.binds net actual e)
        ∙ (h.count actual ∙ sym (eqb-true (count_of model.decls net) (count_of round.model.decls actual) same))

counts_in : (round : Place) (tree : Instances) → AreBound round.model tree → HasCounts round → AllByRecursion HasCounts (places_in round tree)
counts_in round NoMore bound h = tt
counts_in round (More instance model inside rest) bound h =
    let p = place_in round instance model in
    let here = counts_inside round instance model bound.0 h in
    (here, each-append HasCounts (places_in p inside) (places_in round rest) (counts_in p inside bound.1 here) (counts_in round rest bound.2 h))

-- ---- places in the whole

-- the names that a place gives its nets are nets of the whole, with their values
pub record Stands (ps : List Place) (p : Place) : Type 0 where
  pub listed : (net : List ℕ) → among net (all_nets p.model) ≡ true → among (p.home net) (homes ps) ≡ true
  pub values : (net : List ℕ) → among net (all_nets p.model) ≡ true → values_of (decls_in ps) (p.home net) ≡ p.values net
  pub count : (net : List ℕ) → among net (all_nets p.model) ≡ true → count_of (decls_in ps) (p.home net) ≡ count_of p.model.decls net

listed_inherits : Inherits (λ _ _. true)
listed_inherits = record { bound = λ round instance model net actual e. refl }

values_inherit : Inherits values_at
values_inherit = record { bound = λ round instance model net actual e. through-bound round.values (values_of model.decls) instance.binds net actual e }

pub all_stand : (root : FileModel) (tree : Instances) → AreNamed root tree → AreBound root tree → names_differ (homes (places root tree)) ≡ true
    → AllByRecursion (Stands (places root tree)) (places root tree)
all_stand root tree named bound differ =
    let ps = places root tree in
    let ds = decls_in ps in
    let Listed : Place → Type 0 = λ p. TellsAll (λ w. among w (homes ps)) (seated (λ _ _. true) p) in
    let Declared : Place → Type 0 = λ p. TellsOwn (values_of ds) (seated declared p) in
    let OwnValued : Place → Type 0 = λ p. TellsOwn (values_of ds) (seated values_at p) in
    let Valued : Place → Type 0 = λ p. TellsAll (values_of ds) (seated values_at p) in
    let Both : Place → Type 0 = λ p. Listed p × Valued p in
    let listed : AllByRecursion Listed ps = all_tell (λ w. among w (homes ps)) (λ _ _. true) listed_inherits root tree named (own_listed ps) in
    let owned : AllByRecursion OwnValued ps =
    each-both Declared HasOwnValues OwnValued (λ p h v. record { own = λ net own. h.own net own ∙ sym (v.own net (own_is_unbound p net own)) }) ps
    (own_declared ps differ) (own_values root tree) in
    let valued : AllByRecursion Valued ps = all_tell (values_of ds) values_at values_inherit root tree named owned in
    let counted : AllByRecursion HasCounts ps = (record { count = λ net. refl }, counts_in (root_place root) tree bound (record { count = λ net. refl })) in
    each-both Both HasCounts (Stands ps)
    (λ p b c. record { listed = b.0.all; values = b.1.all; count = λ net l. ap length (b.1.all net l) ∙ c.count net })
    ps (each-both Listed Valued Both (λ p l v. (l, v)) ps listed valued) counted
