-- Valuations of a tree of instances, place by place; and the valuation of a tree that values of the names of the whole make.
use Rattle.std.proofs.Common.{◌≡◌, ℕ, true, false, not, List, [], ◌∷◌, ◌++◌, map, Some, refl, sym, ◌∙◌, ap}
use Rattle.std.specs.Prelude.{nat_eq}
use Rattle.std.specs.List.{AllByRecursion}
use Rattle.std.proofs.lemmas.Bool.{and_from, and_parts, cond-true, cond-false, eq-eqb, eqb-true, not-true, or_parts}
use Rattle.std.proofs.lemmas.List.{map-append}
use Rattle.mv_base.specs.Names.{same_word, among, names_differ}
use Rattle.mv_base.proofs.NameLemmas.{same_word_refl, same_word_sym}
use Rattle.mv_design.specs.declared.design.Bind.{Bind}
use Rattle.mv_design.specs.declared.design.FileModel.{FileModel}
use Rattle.mv_design.specs.declared.design.Instance.{Instance}
use Rattle.mv_tree.specs.Tree.{Instances, NoMore, More}
use Rattle.mv_tree.specs.Places.{actual_of, Place, root_place, place_in, places_in, path_in}
use Rattle.mv_tree.specs.Meaning.{Values, NoValues, At, AllowsValues, binds_hold, AreConsistent, Valued, valued_in}
use Rattle.mv_tree.proofs.Each.{each-front, each-behind, each-append, each-weaker, each-from_test}
use Rattle.mv_tree.proofs.Homes.{Seat, places_of, TellsOwn}
use Rattle.mv_tree.proofs.Inside.{AreNamed, TellsAll, told_inside, told_root, through-bound, each_bound}

-- ---- the valuation of each place

abbrev pub seats_in : Place → Instances → Values → List (Seat ℕ)
seats_in round NoMore _ = []
seats_in round (More _ _ _ _) NoValues = []
seats_in round (More instance model inside rest) (At here inner others) =
    record { place = place_in round instance model; tells = here } ∷ (seats_in (place_in round instance model) inside inner ++ seats_in round rest others)

abbrev pub seats : FileModel → Instances → (List ℕ → ℕ) → Values → List (Seat ℕ)
seats root tree value inside = record { place = root_place root; tells = value } ∷ seats_in (root_place root) tree inside

-- a model with the values of a place
abbrev pub valued : Seat ℕ → Valued
valued s = record { model = s.place.model; value = s.tells }

-- a place whose model allows the values of its nets
abbrev pub Allows : Seat ℕ → Type 0
Allows s = AllowsValues s.place.model s.tells

pub seats_valued : (round : Place) (tree : Instances) (values : Values) → valued_in tree values ≡ map valued (seats_in round tree values)
seats_valued round NoMore _ = refl
seats_valued round (More instance model inside rest) NoValues = refl
seats_valued round (More instance model inside rest) (At here inner others) =
    let p = place_in round instance model in
    let both : valued_in inside inner ++ valued_in rest others ≡ map valued (seats_in p inside inner) ++ map valued (seats_in round rest others) =
    ap (λ xs. xs ++ valued_in rest others) (seats_valued p inside inner) ∙ ap (λ xs. map valued (seats_in p inside inner) ++ xs) (seats_valued round rest others) in
    ap (λ xs. record { model = model; value = here } ∷ xs) (both ∙ sym (map-append valued (seats_in p inside inner) (seats_in round rest others)))

-- a consistent valuation is one of the places of the tree
pub seats_places : (value : List ℕ → ℕ) (round : Place) (tree : Instances) (values : Values) → AreConsistent value tree values
    → places_of (seats_in round tree values) ≡ places_in round tree
seats_places value round NoMore NoValues h = refl
seats_places value round NoMore (At here inner others) h = absurd h
seats_places value round (More instance model inside rest) NoValues h = absurd h
seats_places value round (More instance model inside rest) (At here inner others) h =
    let p = place_in round instance model in
    ap (λ ps. p ∷ ps)
    (map-append (λ s. s.place) (seats_in p inside inner) (seats_in round rest others)
    ∙ (ap (λ ps. ps ++ places_of (seats_in round rest others)) (seats_places here p inside inner h.2)
    ∙ ap (λ ps. places_in p inside ++ ps) (seats_places value round rest others h.3)))

-- and each model allows its values
pub seats_allow : (value : List ℕ → ℕ) (round : Place) (tree : Instances) (values : Values) → AreConsistent value tree values
    → AllByRecursion Allows (seats_in round tree values)
seats_allow value round NoMore NoValues h = tt
seats_allow value round NoMore (At here inner others) h = absurd h
seats_allow value round (More instance model inside rest) NoValues h = absurd h
seats_allow value round (More instance model inside rest) (At here inner others) h =
    let p = place_in round instance model in
    (h.0, each-append Allows (seats_in p inside inner) (seats_in round rest others) (seats_allow here p inside inner h.2) (seats_allow value round rest others h.3))

-- ---- formals that are bound

-- bindings that hold give a formal the value of the net round it
bound_value : (round here : List ℕ → ℕ) (binds : List Bind) (net actual : List ℕ) → binds_hold round here binds ≡ true → actual_of binds net ≡ Some actual
    → here net ≡ round actual
bound_value round here binds net actual h e =
    let each = each-from_test (λ b. nat_eq (here b.formal) (round b.actual)) binds h in
    eqb-true (here net) (round actual) (each_bound (λ f a. nat_eq (here f) (round a) ≡ true) binds net actual each e)

-- where no formal is bound twice, each is bound to its actual
abbrev pub formals : List Bind → List (List ℕ)
formals binds = map (λ b. b.formal) binds

bound_behind : (b : Bind) (bs cs : List Bind) → among b.formal (formals cs) ≡ false → AllByRecursion (λ c. actual_of bs c.formal ≡ Some c.actual) cs
    → AllByRecursion (λ c. actual_of (b ∷ bs) c.formal ≡ Some c.actual) cs
bound_behind b bs [] n h = tt
bound_behind b bs (c ∷ cs) n h =
    let q = or_parts (same_word b.formal c.formal) (among b.formal (formals cs)) n in
    (cond-false _ _ _ (same_word_sym c.formal b.formal ∙ q.0) ∙ h.0, bound_behind b bs cs q.1 h.1)

pub all_bound : (binds : List Bind) → names_differ (formals binds) ≡ true → AllByRecursion (λ b. actual_of binds b.formal ≡ Some b.actual) binds
all_bound [] h = tt
all_bound (b ∷ bs) h =
    let q = and_parts (not (among b.formal (formals bs))) (names_differ (formals bs)) h in
    (cond-true _ _ _ (same_word_refl b.formal), bound_behind b bs bs (not-true _ q.0) (all_bound bs q.1))

binds_from_each : (round here : List ℕ → ℕ) (bs : List Bind) → AllByRecursion (λ b. here b.formal ≡ round b.actual) bs → binds_hold round here bs ≡ true
binds_from_each round here [] h = refl
binds_from_each round here (b ∷ bs) h = and_from _ _ (eq-eqb (here b.formal) (round b.actual) h.0) (binds_from_each round here bs h.1)

-- ---- what is told of all nets

seats_tell_in : (f : List ℕ → ℕ) (round : Place) (value : List ℕ → ℕ) (tree : Instances) (values : Values) → AreConsistent value tree values
    → AreNamed round.model tree → TellsAll f (record { place = round; tells = value }) → AllByRecursion (TellsOwn f) (seats_in round tree values)
    → AllByRecursion (TellsAll f) (seats_in round tree values)
seats_tell_in f round value NoMore NoValues c named all own = tt
seats_tell_in f round value NoMore (At here inner others) c named all own = absurd c
seats_tell_in f round value (More instance model inside rest) NoValues c named all own = absurd c
seats_tell_in f round value (More instance model inside rest) (At here inner others) c named all own =
    let p = place_in round instance model in
    let these = seats_in p inside inner in
    let more = seats_in round rest others in
    let first = told_inside f round value instance model here (λ net actual e. bound_value value here instance.binds net actual c.1 e) named.0 all own.0 in (
      first,
      each-append (TellsAll f) these more (seats_tell_in f p here inside inner c.2 named.1 first (each-front (TellsOwn f) these more own.1))
          (seats_tell_in f round value rest others c.3 named.2 all (each-behind (TellsOwn f) these more own.1)),
    )

-- what is told of the own nets of all places is told of all their nets
pub seats_tell : (f : List ℕ → ℕ) (root : FileModel) (tree : Instances) (value : List ℕ → ℕ) (inside : Values) → AreConsistent value tree inside → AreNamed root tree
    → AllByRecursion (TellsOwn f) (seats root tree value inside) → AllByRecursion (TellsAll f) (seats root tree value inside)
seats_tell f root tree value inside c named own =
    let first = told_root f root value own.0 in
    (first, seats_tell_in f (root_place root) value tree inside c named first own.1)

-- ---- values of the names of the whole

-- the valuation that they make of a place, and of the instances inside it
abbrev pub seat_at : (List ℕ → ℕ) → Place → Seat ℕ
seat_at value p = record { place = p; tells = λ net. value (p.home net) }

abbrev pub values_at : (List ℕ → ℕ) → Place → Instances → Values
values_at value round NoMore = NoValues
values_at value round (More instance model inside rest) =
    At (λ net. value ((place_in round instance model).home net)) (values_at value (place_in round instance model) inside) (values_at value round rest)

pub seats_at : (value : List ℕ → ℕ) (round : Place) (tree : Instances) → seats_in round tree (values_at value round tree) ≡ map (seat_at value) (places_in round tree)
seats_at value round NoMore = refl
seats_at value round (More instance model inside rest) =
    let p = place_in round instance model in
    ap (λ ss. seat_at value p ∷ ss)
    (ap (λ ss. ss ++ seats_in round rest (values_at value round rest)) (seats_at value p inside)
    ∙ (ap (λ ss. map (seat_at value) (places_in p inside) ++ ss) (seats_at value round rest)
    ∙ sym (map-append (seat_at value) (places_in p inside) (places_in round rest))))

pub places_at : (value : List ℕ → ℕ) (ps : List Place) → places_of (map (seat_at value) ps) ≡ ps
places_at value [] = refl
places_at value (p ∷ ps) = ap (λ qs. p ∷ qs) (places_at value ps)

-- a formal has the value of the net round it, since its home is that net's
binds_at : (value : List ℕ → ℕ) (round : Place) (instance : Instance) (model : FileModel) → names_differ (formals instance.binds) ≡ true
    → binds_hold (λ net. value (round.home net)) (λ net. value ((place_in round instance model).home net)) instance.binds ≡ true
binds_at value round instance model once =
    let own : List ℕ → List ℕ = λ n. path_in round.path instance.name ++ n in
    binds_from_each _ _ instance.binds
    (each-weaker (λ b. actual_of instance.binds b.formal ≡ Some b.actual) _ (λ b e. ap value (through-bound round.home own instance.binds b.formal b.actual e))
    instance.binds (all_bound instance.binds once))

-- they are consistent where each model allows its values and no formal is bound twice
pub consistent_at : (value : List ℕ → ℕ) (round : Place) (tree : Instances) → AllByRecursion (λ p. names_differ (formals p.binds) ≡ true) (places_in round tree)
    → AllByRecursion (λ p. Allows (seat_at value p)) (places_in round tree) → AreConsistent (λ net. value (round.home net)) tree (values_at value round tree)
consistent_at value round NoMore once allows = tt
consistent_at value round (More instance model inside rest) once allows =
    let p = place_in round instance model in
    let these = places_in p inside in
    let more = places_in round rest in
    let Once : Place → Type 0 = λ q. names_differ (formals q.binds) ≡ true in
    let Good : Place → Type 0 = λ q. Allows (seat_at value q) in (
      allows.0,
      binds_at value round instance model once.0,
      consistent_at value p inside (each-front Once these more once.1) (each-front Good these more allows.1),
      consistent_at value round rest (each-behind Once these more once.1) (each-behind Good these more allows.1),
    )
