-- The counts of each place tell how often its own nets are driven in the whole.
use Rattle.std.proofs.Common.{◌≡◌, ◌≢◌, ℕ, zero, suc, ◌+◌, ◌-◌, ◌<◌, ◌≤◌, true, false, Option, Some, None, List, [], ◌∷◌, ◌++◌, length, get_or, map, take, drop, min, refl, sym, ◌∙◌, ap, subst, arith}
use Rattle.std.specs.Prelude.{count_by, nat_lt, ◌==◌}
use Rattle.std.specs.List.{AllByRecursion, flat_map}
use Rattle.std.proofs.lemmas.Bool.{or_left, or_right}
use Rattle.std.proofs.lemmas.Bool.Decides.{nat_tests}
use Rattle.std.proofs.lemmas.List.{get_or-map, length-map, map-append, drop_more}
use Rattle.mv_base.specs.Names.{same_word, among, names_differ, IsDistinct}
use Rattle.mv_base.specs.declared.limits.TheConstants.{MAX_DEPTH}
use Rattle.mv_base.proofs.NameLemmas.{same_word_refl, differ-from_distinct}
use Rattle.mv_fault.specs.Tells.{when, first}
use Rattle.mv_fault.proofs.Firsts.{first-append}
use Rattle.mv_fault.specs.declared.flat.FlatFault.{FlatFault}
use Rattle.mv_fault.specs.declared.flat.FlatFault.TheVariants.{DrivenTwice, Undriven}
use Rattle.mv_design.specs.declared.design.Design.{Design}
use Rattle.mv_design.specs.declared.design.FileModel.{FileModel}
use Rattle.mv_design.specs.Nets.{no_model, root_of, drivers_of}
use Rattle.mv_tree.specs.Tree.{Instances, Unfolds}
use Rattle.mv_tree.specs.Places.{Place, root_place, places, all_nets, own_nets, homes}
use Rattle.mv_tree.specs.Unfolded.{unfolded}
use Rattle.mv_acyclic.specs.Sound.{twice_at, undriven_at}
use Rattle.mv_acyclic.proofs.Names.{count_of_append}
use Rattle.mv_walk.specs.declared.opened.Opened.{Opened}
use Rattle.mv_walk.specs.Openings.{AreOpened}
use Rattle.mv_unfold.specs.declared.layout.Layout.{Layout}
use Rattle.mv_unfold.specs.declared.spans.Span.{Span}
use Rattle.mv_unfold.specs.Commands.{no_command}
use Rattle.mv_unfold.specs.Driven.{driven_in, tally, counts_at, with_driven, IsKnown, AreTallies, HasInside, place_counts, AreSized, AreTold, twice_counted, undriven_counted, driving_faults}
use Rattle.mv_unfold.specs.Driving.{Driving, drivings_in, drivings}
use Rattle.mv_unfold.specs.Laid.{IsLaid, places_of, opened_at}
use Rattle.mv_unfold.specs.Locals.{cut}
use Rattle.mv_unfold.specs.Placed.{model_at, place_at}
use Rattle.mv_unfold.proofs.Counting.{tally_alike, driven_grown}
use Rattle.mv_unfold.proofs.Filled.{known_counts}
use Rattle.mv_unfold.proofs.Laid.{instance_placed, laid_model, of_place, root_model, nets_read, read_as}
use Rattle.mv_unfold.proofs.Placed.{places_of_tree}
use Rattle.mv_unfold.proofs.Wholly.{HasSubtree, HasDrivers, all_places, subtrees, have_drivers}

-- ---- what is known of every place

known_below : (l : Layout) (slots : List (Option (List ℕ))) → IsLaid l → AreTallies l slots → IsKnown slots l.design.now.root
    → (bound n : ℕ) → n < bound → n ≤ length l.opened.now → IsKnown slots (get_or l.models n 0)
known_below l slots laid h root zero n lt low = absurd (omega arith)
known_below l slots laid h root (suc b) zero lt low = subst (IsKnown slots) (sym (ap (λ ks. get_or ks 0 0) laid.models)) root
known_below l slots laid h root (suc b) (suc n) lt low =
    let p = instance_placed l (suc n) laid (omega arith) low in
    let round = p.round in
    let o = opened_at l (suc n) in
    let r = get_or l.models o.round 0 in
    let m = laid_model l o.round laid (omega arith) in
    let q = of_place l (suc n) r laid (omega arith) low m in
    let outer = known_below l slots laid h root b o.round (omega arith) (omega arith) in
    let inner = h.closed r o.instance outer q.instance in
    let one : suc n - 1 ≡ n = omega arith in
    let number : (get_or (get_or l.commands r []) o.instance no_command).model ≡ get_or l.models (suc n) 0 =
    q.number ∙ sym (ap (λ ks. get_or ks (suc n) 0) laid.models ∙ (get_or-map (λ x. x.model) l.opened.now n (record { model = 0; round = 0; instance = 0 }) 0 (omega arith)
    ∙ ap (λ k. (get_or l.opened.now k (record { model = 0; round = 0; instance = 0 })).model) (sym one))) in
    subst (IsKnown slots) number inner

-- ---- the counts of a place

-- what drives a place's nets, as its counts and the drivers of the whole have it
pub record IsCounted (l : Layout) (slots : List (Option (List ℕ))) (rootc : List ℕ) (root : FileModel) (tree : Instances) (n : ℕ) : Type 0 where
  pub driven : List (List ℕ)
  pub counts : place_counts l slots rootc n ≡ tally (all_nets (place_at (places_of l) n).model) driven
  pub drivers : (net : List ℕ) → among net (own_nets (place_at (places_of l) n)) ≡ true
      → drivers_of (unfolded root tree) ((place_at (places_of l) n).home net) ≡ count_by (same_word net) driven

each_at : {X : Type 0} (P : X → Type 0) (xs : List X) (n : ℕ) (z : X) → AllByRecursion P xs → n < length xs → P (get_or xs n z)
each_at P [] n z h lt = absurd (omega arith)
each_at P (x ∷ xs) zero z h lt = h.0
each_at P (x ∷ xs) (suc n) z h lt = each_at P xs n z h.1 (omega arith)

no_driving : Driving
no_driving = record { place = root_place no_model; driven = [] }

swapped : (i j k : ℕ) → k ≡ i + j → j + i ≡ k
swapped i j k e = omega arith

-- the tally of a model, where it is known
slot_tally : (l : Layout) (slots : List (Option (List ℕ))) (k : ℕ) (m : FileModel) (tree : Instances) → AreTallies l slots → IsKnown slots k
    → model_at l.design.now k ≡ m → Unfolds l.design.now m.instances tree → counts_at slots k ≡ tally (all_nets m) (driven_in m tree)
slot_tally l slots k m tree h known is u =
    (h.right k (counts_at slots k) (known_counts (get_or slots k None) known)).is tree (subst (λ (x : FileModel). Unfolds l.design.now x.instances tree) (sym is) u)
    ∙ ap (λ (x : FileModel). tally (all_nets x) (driven_in x tree)) is

pub counted_at : (l : Layout) (slots : List (Option (List ℕ))) (rootc : List ℕ) (h : AreOpened l.design.now l.opened.now) → IsLaid l → AreTallies l slots
    → IsKnown slots l.design.now.root → IsDistinct (all_nets (root_of l.design.now))
    → rootc ≡ with_driven (all_nets (root_of l.design.now)) (counts_at slots l.design.now.root) (root_of l.design.now).inputs
    → names_differ (homes (places_of l)) ≡ true → (n : ℕ) → n ≤ length l.opened.now → IsCounted l slots rootc (root_of l.design.now) h.tree n
counted_at l slots rootc h laid t known distinct is differ n low = by n low refl
  where
    d : Design
    d = l.design.now

    root : FileModel
    root = root_of l.design.now

    same : places_of l ≡ places (root_of l.design.now) h.tree
    same = places_of_tree l.design.now l.opened.now h

    all : AllByRecursion (HasDrivers (root_of l.design.now) h.tree) (drivings (root_of l.design.now) h.tree)
    all = have_drivers l.design.now (root_of l.design.now) h.tree h.has.unfolds (ap (λ ps. names_differ (homes ps)) (sym same) ∙ differ)

    long : length (drivings (root_of l.design.now) h.tree) ≡ 1 + length l.opened.now
    long =
        sym (length-map (drivings (root_of l.design.now) h.tree) (λ g. g.place))
        ∙ (ap length (all_places (root_of l.design.now) h.tree ∙ sym same) ∙ laid.placed.long)

    placed : (k : ℕ) → k ≤ length l.opened.now → (get_or (drivings (root_of l.design.now) h.tree) k no_driving).place ≡ place_at (places_of l) k
    placed k le =
        sym (get_or-map (λ (g : Driving). g.place) (drivings (root_of l.design.now) h.tree) k no_driving (root_place no_model) (let e = long in omega arith))
        ∙ ap (λ (ps : List Place). get_or ps k (root_place no_model)) (all_places (root_of l.design.now) h.tree ∙ sym same)

    drivers_at : (k : ℕ) → k ≤ length l.opened.now → (net : List ℕ) → among net (own_nets (place_at (places_of l) k)) ≡ true
        → drivers_of (unfolded (root_of l.design.now) h.tree) ((place_at (places_of l) k).home net)
        ≡ count_by (same_word net) (get_or (drivings (root_of l.design.now) h.tree) k no_driving).driven
    drivers_at k le =
        let g = get_or (drivings (root_of l.design.now) h.tree) k no_driving in
        let at = each_at (HasDrivers (root_of l.design.now) h.tree) (drivings (root_of l.design.now) h.tree) k no_driving all (let e = long in omega arith) in
        subst (λ (p : Place). (net : List ℕ) → among net (own_nets p) ≡ true → drivers_of (unfolded (root_of l.design.now) h.tree) (p.home net) ≡ count_by (same_word net) g.driven)
        (placed k le) at.is

    by : (k : ℕ) → k ≤ length l.opened.now → k ≡ n → IsCounted l slots rootc (root_of l.design.now) h.tree n
    by zero le e =
        let nets = all_nets root in
        let ws = driven_in root h.tree in
        let c = slot_tally l slots d.root root h.tree t known (sym (root_model d)) h.has.unfolds in
        subst (IsCounted l slots rootc root h.tree) e
        (record {
          driven = root.inputs ++ ws;
          counts =
              is
              ∙ (ap (λ ks. with_driven nets ks root.inputs) c
              ∙ (driven_grown nets (λ v. count_by (same_word v) ws) root.inputs distinct.apart
              ∙ (tally_alike nets (λ v. count_by (same_word v) ws + count_by (same_word v) root.inputs) (λ v. count_by (same_word v) (root.inputs ++ ws))
              (λ v. swapped (count_by (same_word v) root.inputs) (count_by (same_word v) ws) (count_by (same_word v) (root.inputs ++ ws)) (count_of_append v root.inputs ws))
              ∙ ap (λ (p : Place). tally (all_nets p.model) (root.inputs ++ ws)) (sym laid.placed.root))));
          drivers = drivers_at 0 le;
        })
    by (suc k) le e =
        let g = get_or (drivings root h.tree) (suc k) no_driving in
        let lt : k < length (drivings_in (root_place root) h.tree) = let f = long in omega arith in
        let s = each_at (HasSubtree d) (drivings_in (root_place root) h.tree) k no_driving (subtrees d root h.tree h.has.unfolds) lt in
        let m = laid_model l (suc k) laid le in
        let model : model_at d (get_or l.models (suc k) 0) ≡ g.place.model = sym m.is ∙ ap (λ (p : Place). p.model) (sym (placed (suc k) le)) in
        let c = slot_tally l slots (get_or l.models (suc k) 0) g.place.model s.tree t (known_below l slots laid t known (suc (suc k)) (suc k) (omega arith) le) model s.unfolds in
        subst (IsCounted l slots rootc root h.tree) e
        (record {
          driven = g.driven;
          counts = c ∙ (ap (tally (all_nets g.place.model)) (sym s.is) ∙ ap (λ (p : Place). tally (all_nets p.model) g.driven) (placed (suc k) le));
          drivers = drivers_at (suc k) le;
        })

pub sized : (l : Layout) (slots : List (Option (List ℕ))) (rootc : List ℕ) (root : FileModel) (tree : Instances)
    → ((n : ℕ) → n ≤ length l.opened.now → IsCounted l slots rootc root tree n) → AreSized l slots rootc
sized l slots rootc root tree h = record {
  each = λ n low.
      let p = h n low in
      ap length p.counts ∙ length-map (all_nets (place_at (places_of l) n).model) (λ net. min (count_by (same_word net) p.driven) 2);
}

-- ---- what is told of all nets

take_map : {X Y : Type 0} (f : X → Y) (n : ℕ) (xs : List X) → take n (map f xs) ≡ map f (take n xs)
take_map f zero xs = refl
take_map f (suc n) [] = refl
take_map f (suc n) (x ∷ xs) = ap (λ ys. f x ∷ ys) (take_map f n xs)

drop_map : {X Y : Type 0} (f : X → Y) (n : ℕ) (xs : List X) → drop n (map f xs) ≡ map f (drop n xs)
drop_map f zero xs = refl
drop_map f (suc n) [] = refl
drop_map f (suc n) (x ∷ xs) = drop_map f n xs

cuts_map : {X Y : Type 0} (f : X → Y) (xs : List X) (spans : List Span) → flat_map (cut (map f xs)) spans ≡ map f (flat_map (cut xs) spans)
cuts_map f xs [] = refl
cuts_map f xs (s ∷ ss) =
    ap (λ ys. take (s.end - s.start) ys ++ flat_map (cut (map f xs)) ss) (drop_map f s.start xs)
    ∙ (ap (λ ys. ys ++ flat_map (cut (map f xs)) ss) (take_map f (s.end - s.start) (drop s.start xs))
    ∙ (ap (λ ys. map f (cut xs s) ++ ys) (cuts_map f xs ss) ∙ sym (map-append f (cut xs s) (flat_map (cut xs) ss))))

map_alike : (f g : List ℕ → ℕ) (ws : List (List ℕ)) → ((w : List ℕ) → among w ws ≡ true → f w ≡ g w) → map f ws ≡ map g ws
map_alike f g [] h = refl
map_alike f g (w ∷ ws) h =
    ap (λ k. k ∷ map f ws) (h w (or_left (same_word w w) (among w ws) (same_word_refl w)))
    ∙ ap (λ ks. g w ∷ ks) (map_alike f g ws (λ u e. h u (or_right (same_word u w) (among u ws) e)))

map_twice : (f : List ℕ → List ℕ) (g : List ℕ → ℕ) (ws : List (List ℕ)) → map (λ w. g (f w)) ws ≡ map g (map f ws)
map_twice f g [] = refl
map_twice f g (w ∷ ws) = ap (λ ks. g (f w) ∷ ks) (map_twice f g ws)

-- how often a net is driven in the whole, up to two
abbrev pub drivers_told : FileModel → List ℕ → ℕ
drivers_told m w = min (drivers_of m w) 2

pub counts_told : (l : Layout) (slots : List (Option (List ℕ))) (rootc : List ℕ) (root : FileModel) (tree : Instances)
    → ((n : ℕ) → n ≤ length l.opened.now → IsCounted l slots rootc root tree n) → AreTold l slots rootc (drivers_told (unfolded root tree))
counts_told l slots rootc root tree h = record {
  each = λ n own low are.
      let p = h n low in
      let place = place_at (places_of l) n in
      let f : List ℕ → ℕ = λ net. min (count_by (same_word net) p.driven) 2 in
      ap (λ ks. flat_map (cut ks) own) p.counts
      ∙ (cuts_map f (all_nets place.model) own
      ∙ (ap (map f) are.are
      ∙ (map_alike f (λ net. drivers_told (unfolded root tree) (place.home net)) (own_nets place) (λ w e. ap (λ k. min k 2) (sym (p.drivers w e)))
      ∙ map_twice place.home (drivers_told (unfolded root tree)) (own_nets place))));
}

-- ---- faults

more_than_one : (k : ℕ) → nat_lt 1 (min k 2) ≡ nat_lt 1 k
more_than_one k = grind (arith, nat_tests)

not_any : (k : ℕ) → (min k 2 == 0) ≡ (k == 0)
not_any k = grind (arith, nat_tests)

pub twice_is : (m : FileModel) (names : List (List ℕ)) → twice_counted names (map (drivers_told m) names) ≡ flat_map (twice_at m) names
twice_is m [] = refl
twice_is m (w ∷ ws) =
    ap (λ b. when b (DrivenTwice w) ++ twice_counted ws (map (drivers_told m) ws)) (more_than_one (drivers_of m w)) ∙ ap (λ fs. twice_at m w ++ fs) (twice_is m ws)

pub undriven_is : (m : FileModel) (names : List (List ℕ)) → undriven_counted names (map (drivers_told m) names) ≡ flat_map (undriven_at m) names
undriven_is m [] = refl
undriven_is m (w ∷ ws) =
    ap (λ b. when b (Undriven w) ++ undriven_counted ws (map (drivers_told m) ws)) (not_any (drivers_of m w)) ∙ ap (λ fs. undriven_at m w ++ fs) (undriven_is m ws)

pub twice_more : (names : List (List ℕ)) (counts : List ℕ) (at : ℕ) → at < length names → length counts ≡ length names
    → twice_counted (drop at names) (drop at counts)
    ≡ when (nat_lt 1 (get_or counts at 0)) (DrivenTwice (get_or names at [])) ++ twice_counted (drop (at + 1) names) (drop (at + 1) counts)
twice_more names counts at lt long =
    ap (λ ns. twice_counted ns (drop at counts)) (drop_more names at [] lt)
    ∙ ap (λ cs. twice_counted (get_or names at [] ∷ drop (at + 1) names) cs) (drop_more counts at 0 (omega arith))

pub undriven_more : (names : List (List ℕ)) (counts : List ℕ) (at : ℕ) → at < length names → length counts ≡ length names
    → undriven_counted (drop at names) (drop at counts)
    ≡ when (get_or counts at 0 == 0) (Undriven (get_or names at [])) ++ undriven_counted (drop (at + 1) names) (drop (at + 1) counts)
undriven_more names counts at lt long =
    ap (λ ns. undriven_counted ns (drop at counts)) (drop_more names at [] lt)
    ∙ ap (λ cs. undriven_counted (get_or names at [] ∷ drop (at + 1) names) cs) (drop_more counts at 0 (omega arith))

pub one_at_most : (k : ℕ) → k ≤ 1 → nat_lt 1 k ≡ false
one_at_most k h = grind (arith, nat_tests)

pub inside_root : (d : Design) (list : List Opened) (h : AreOpened d list) → HasInside d MAX_DEPTH d.root
inside_root d list h =
    record {
      tree = h.tree;
      unfolds = subst (λ (m : FileModel). Unfolds d m.instances h.tree) (root_model d) h.has.unfolds;
      shallow = h.has.shallow;
    }

pub some_driver : (k : ℕ) → k ≢ 0 → (k == 0) ≡ false
some_driver k h = grind (arith, nat_tests)

-- ---- what the check holds

-- the nets of the root's model, as they are read
pub root_nets : (l : Layout) (all : List (List (List ℕ))) (nets : List (List ℕ)) → IsLaid l → all ≡ l.nets → nets ≡ get_or all l.design.now.root nets
    → nets ≡ all_nets (root_of l.design.now)
root_nets l all nets laid e is =
    nets_read l.design.now.models all l.design.now.root nets (e ∙ laid.nets) laid.rooted is ∙ ap all_nets (sym (root_model l.design.now))

-- there is a count for each of them
pub root_sized : (l : Layout) (slots held : List (Option (List ℕ))) (inner : List ℕ) (all : List (List (List ℕ))) (nets : List (List ℕ))
    → AreOpened l.design.now l.opened.now → IsLaid l → AreTallies l slots → IsKnown slots l.design.now.root → held ≡ slots → all ≡ l.nets
    → nets ≡ get_or all l.design.now.root nets → inner ≡ counts_at held l.design.now.root → length inner ≡ length nets
root_sized l slots held inner all nets h laid t known holds e is counts =
    let d = l.design.now in
    let root = root_of d in
    let c = slot_tally l slots d.root root h.tree t known (sym (root_model d)) h.has.unfolds in
    ap length counts
    ∙ (ap (λ (s : List (Option (List ℕ))). length (counts_at s d.root)) holds
    ∙ (ap length c
    ∙ (length-map (all_nets root) (λ net. min (count_by (same_word net) (driven_in root h.tree)) 2) ∙ ap length (sym (root_nets l all nets laid e is)))))

pub all_counted : (l : Layout) (names : List (List ℕ)) (slots held : List (Option (List ℕ))) (rootc inner : List ℕ) (all : List (List (List ℕ))) (nets : List (List ℕ))
    (models : List FileModel) (model : FileModel) (h : AreOpened l.design.now l.opened.now) → IsLaid l → names ≡ homes (places_of l) → IsDistinct names
    → AreTallies l slots → IsKnown slots l.design.now.root → held ≡ slots → all ≡ l.nets → nets ≡ get_or all l.design.now.root nets → IsDistinct nets
    → models ≡ l.design.now.models → model ≡ get_or models l.design.now.root model → inner ≡ counts_at held l.design.now.root
    → rootc ≡ with_driven nets inner model.inputs → (n : ℕ) → n ≤ length l.opened.now → IsCounted l held rootc (root_of l.design.now) h.tree n
all_counted l names slots held rootc inner all nets models model h laid named distinct t known holds e is apart models_are read counts rooted n low =
    let d = l.design.now in
    let root = root_of d in
    let own = root_nets l all nets laid e is in
    let file : model ≡ root = read_as models d.models d.root model no_model models_are laid.rooted read ∙ sym (root_model d) in
    counted_at l held rootc h laid (subst (AreTallies l) (sym holds) t) (subst (λ (s : List (Option (List ℕ))). IsKnown s d.root) (sym holds) known)
    (subst IsDistinct own apart)
    (rooted
    ∙ (ap (λ (ns : List (List ℕ)). with_driven ns inner model.inputs) own
    ∙ (ap (λ (ks : List ℕ). with_driven (all_nets root) ks model.inputs) counts ∙ ap (λ (m : FileModel). with_driven (all_nets root) (counts_at held d.root) m.inputs) file)))
    (ap names_differ (sym named) ∙ differ-from_distinct names distinct) n low

-- the counts of all nets
pub counts_are : (l : Layout) (names : List (List ℕ)) (slots : List (Option (List ℕ))) (rootc counts : List ℕ) (root : FileModel) (tree : Instances)
    → names ≡ homes (places_of l) → ((tells : List ℕ → ℕ) → AreTold l slots rootc tells → counts ≡ map tells (homes (places_of l)))
    → ((n : ℕ) → n ≤ length l.opened.now → IsCounted l slots rootc root tree n) → counts ≡ map (drivers_told (unfolded root tree)) names
counts_are l names slots rootc counts root tree named made h =
    made (drivers_told (unfolded root tree)) (counts_told l slots rootc root tree h) ∙ ap (map (drivers_told (unfolded root tree))) (sym named)

pub told_twice : (m : FileModel) (names : List (List ℕ)) (counts : List ℕ) (f : FlatFault) → counts ≡ map (drivers_told m) names
    → first (twice_counted names counts) ≡ Some f → first (driving_faults m names) ≡ Some f
unfolding driving_faults
told_twice m names counts f e h =
    first-append f (flat_map (twice_at m) names) (flat_map (undriven_at m) names) (ap first (sym (ap (twice_counted names) e ∙ twice_is m names)) ∙ h)

pub told_undriven : (m : FileModel) (names : List (List ℕ)) (counts : List ℕ) → counts ≡ map (drivers_told m) names → twice_counted names counts ≡ []
    → undriven_counted names counts ≡ driving_faults m names
unfolding driving_faults
told_undriven m names counts e none =
    ap (undriven_counted names) e
    ∙ (undriven_is m names
    ∙ ap (λ fs. fs ++ flat_map (undriven_at m) names) (sym (sym (ap (twice_counted names) e ∙ twice_is m names) ∙ none)))
