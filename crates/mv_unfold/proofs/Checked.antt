-- The faults of a whole, check by check, and what holds where there is none.
use Rattle.std.proofs.Common.{◌≡◌, ℕ, ◌+◌, ◌≤◌, Bool, true, false, not, ◌||◌, Some, List, [], ◌∷◌, ◌++◌, length, take, refl, sym, ◌∙◌, ap, subst, arith}
use Rattle.std.specs.Prelude.{nat_lt, ◌==◌}
use Rattle.std.specs.List.{AllByRecursion, list_all, flat_map}
use Rattle.std.proofs.lemmas.Bool.{false≢true, and_from, or_parts}
use Rattle.std.proofs.lemmas.Bool.Decides.{nat_tests}
use Rattle.std.proofs.lemmas.List.{append_assoc, take_all}
use Rattle.std.proofs.lemmas.List.Elements.{All-from_recursion}
use Rattle.mv_base.specs.Names.{same_word, among, names_differ}
use Rattle.mv_base.specs.declared.limits.TheConstants.{MAX_FLAT_NETS, MAX_FLAT_NAME_BYTES}
use Rattle.mv_base.proofs.NameLemmas.{among-append, same_word_is, same_word_refl}
use Rattle.mv_fault.specs.Tells.{when, first}
use Rattle.mv_fault.specs.declared.fault.Which.TheVariants.{Nets, NetName}
use Rattle.mv_fault.specs.declared.flat.FlatFault.{FlatFault}
use Rattle.mv_fault.specs.declared.flat.FlatFault.TheVariants.{NameClash, Limit, DrivenTwice, Undriven}
use Rattle.mv_fault.proofs.Firsts.{first-append, first-behind}
use Rattle.mv_fault.proofs.Nothing.{left-nothing, right-nothing, when-nothing}
use Rattle.mv_design.specs.declared.design.Design.{Design}
use Rattle.mv_design.specs.declared.design.FileModel.{FileModel}
use Rattle.mv_design.specs.Nets.{drivers_of}
use Rattle.mv_tree.specs.Tree.{Instances}
use Rattle.mv_tree.specs.Places.{Place, places, homes}
use Rattle.mv_tree.specs.Unfolded.{unfolded}
use Rattle.mv_acyclic.specs.Sound.{HasResetsOfLatches, long_at, twice_at, undriven_at}
use Rattle.mv_acyclic.proofs.ResetFaults.{resets_of_latches}
use Rattle.mv_walk.specs.declared.opened.Opened.{Opened}
use Rattle.mv_walk.specs.Walk.{HasTree}
use Rattle.mv_walk.specs.Openings.{AreOpened, openings}
use Rattle.mv_unfold.specs.declared.layout.Layout.{Layout}
use Rattle.mv_unfold.specs.Driven.{driving_faults}
use Rattle.mv_unfold.specs.Whole.{flat_name_faults, home_faults, place_faults, whole_faults, HasGoodNets, HasShortNames}
use Rattle.mv_unfold.proofs.Looked.{none_placed}

-- ---- the faults of the whole, part by part

pub whole_is : (root : FileModel) (tree : Instances)
    → whole_faults root tree
    ≡ home_faults (homes (places root tree)) ++ (driving_faults (unfolded root tree) (homes (places root tree)) ++ flat_map place_faults (places root tree))
unfolding whole_faults driving_faults
whole_is root tree =
    let ns = homes (places root tree) in
    ap (λ fs. home_faults ns ++ fs) (sym (append_assoc (flat_map (twice_at (unfolded root tree)) ns) (flat_map (undriven_at (unfolded root tree)) ns) (flat_map place_faults (places root tree))))

-- the list of a design as it is held
abbrev pub held_list : (l : Layout) (d : Design) (list : List Opened) → l.design.now ≡ d → l.opened.now ≡ list → (h : AreOpened d list) → AreOpened l.design.now l.opened.now
held_list l d list e f h = record {
  tree = h.tree;
  has = subst (λ (x : Design). HasTree x h.tree) (sym e) h.has;
  is = f ∙ (h.is ∙ ap (λ (x : Design). openings x 0 1 0 h.tree) (sym e));
}

pub first_of_names : (root : FileModel) (tree : Instances) (ps : List Place) (fault : FlatFault) → ps ≡ places root tree → first (home_faults (homes ps)) ≡ Some fault
    → first (whole_faults root tree) ≡ Some fault
first_of_names root tree ps fault e h =
    ap first (whole_is root tree)
    ∙ first-append fault (home_faults (homes (places root tree))) _ (ap (λ (qs : List Place). first (home_faults (homes qs))) (sym e) ∙ h)

pub first_of_drivers : (root : FileModel) (tree : Instances) (ps : List Place) (names : List (List ℕ)) (m : FileModel) (fault : FlatFault) → ps ≡ places root tree
    → names ≡ homes ps → m ≡ unfolded root tree → home_faults (homes ps) ≡ [] → first (driving_faults m names) ≡ Some fault → first (whole_faults root tree) ≡ Some fault
first_of_drivers root tree ps names m fault e n u none h =
    let ns = homes (places root tree) in
    ap first (whole_is root tree)
    ∙ first-behind fault (home_faults ns) (driving_faults (unfolded root tree) ns ++ flat_map place_faults (places root tree))
    (ap (λ (qs : List Place). home_faults (homes qs)) (sym e) ∙ none)
    (first-append fault (driving_faults (unfolded root tree) ns) (flat_map place_faults (places root tree))
    (ap (λ (x : FileModel). first (driving_faults x ns)) (sym u) ∙ (ap (λ ws. first (driving_faults m ws)) (sym (n ∙ ap homes e)) ∙ h)))

pub rest_of_resets : (root : FileModel) (tree : Instances) (ps : List Place) (names : List (List ℕ)) (m : FileModel) → ps ≡ places root tree → names ≡ homes ps
    → m ≡ unfolded root tree → home_faults (homes ps) ≡ [] → driving_faults m names ≡ [] → flat_map place_faults ps ≡ whole_faults root tree
rest_of_resets root tree ps names m e n u none driven =
    let ns = homes (places root tree) in
    let a : home_faults ns ≡ [] = ap (λ (qs : List Place). home_faults (homes qs)) (sym e) ∙ none in
    let b : driving_faults (unfolded root tree) ns ≡ [] =
    ap (λ (x : FileModel). driving_faults x ns) (sym u) ∙ (ap (λ ws. driving_faults m ws) (sym (n ∙ ap homes e)) ∙ driven) in
    ap (flat_map place_faults) e
    ∙ sym (whole_is root tree
    ∙ (ap (λ fs. fs ++ (driving_faults (unfolded root tree) ns ++ flat_map place_faults (places root tree))) a
    ∙ ap (λ fs. fs ++ flat_map place_faults (places root tree)) b))

-- ---- where there is no fault

-- names without a fault behind others
record AreGood (seen ws : List (List ℕ)) : Type 0 where
  differ : names_differ ws ≡ true
  fresh : (w : List ℕ) → among w ws ≡ true → among w seen ≡ false
  short : (w : List ℕ) → among w ws ≡ true → length w ≤ MAX_FLAT_NAME_BYTES

names_good : (seen ws : List (List ℕ)) → flat_name_faults seen ws ≡ [] → AreGood seen ws
names_good seen [] e = record { differ = refl; fresh = λ w a. absurd (false≢true a); short = λ w a. absurd (false≢true a) }
names_good seen (u ∷ us) e =
    let a = left-nothing (long_at u) (when (among u seen) (NameClash u) ++ flat_name_faults (seen ++ u ∷ []) us) e in
    let b = right-nothing (long_at u) (when (among u seen) (NameClash u) ++ flat_name_faults (seen ++ u ∷ []) us) e in
    let new = when-nothing (among u seen) (NameClash u) (left-nothing (when (among u seen) (NameClash u)) (flat_name_faults (seen ++ u ∷ []) us) b) in
    let few = when-nothing (nat_lt MAX_FLAT_NAME_BYTES (length u)) (Limit NetName (length u)) a in
    let r = names_good (seen ++ u ∷ []) us (right-nothing (when (among u seen) (NameClash u)) (flat_name_faults (seen ++ u ∷ []) us) b) in
    record {
      differ = and_from (not (among u us)) (names_differ us) (ap not (alone (among u us) refl r.fresh)) r.differ;
      fresh = λ w h. fresh w (same_word w u) refl h new r.fresh;
      short = λ w h. short w (same_word w u) refl h few r.short;
    }
  where
    alone : (b : Bool) → among u us ≡ b → ((w : List ℕ) → among w us ≡ true → among w (seen ++ u ∷ []) ≡ false) → among u us ≡ false
    alone false e h = e
    alone true e h =
        let p = or_parts (among u seen) (among u (u ∷ [])) (sym (among-append u seen (u ∷ [])) ∙ h u e) in
        absurd (false≢true (sym (or_parts (same_word u u) false p.1).0 ∙ same_word_refl u))

    fresh : (w : List ℕ) (b : Bool) → same_word w u ≡ b → (b || among w us) ≡ true → among u seen ≡ false
        → ((v : List ℕ) → among v us ≡ true → among v (seen ++ u ∷ []) ≡ false) → among w seen ≡ false
    fresh w true s h new r = ap (λ v. among v seen) (same_word_is w u s) ∙ new
    fresh w false s h new r = (or_parts (among w seen) (among w (u ∷ [])) (sym (among-append w seen (u ∷ [])) ∙ r w h)).0

    short : (w : List ℕ) (b : Bool) → same_word w u ≡ b → (b || among w us) ≡ true → nat_lt MAX_FLAT_NAME_BYTES (length u) ≡ false
        → ((v : List ℕ) → among v us ≡ true → length v ≤ MAX_FLAT_NAME_BYTES) → length w ≤ MAX_FLAT_NAME_BYTES
    short w true s h few r = subst (λ v. length v ≤ MAX_FLAT_NAME_BYTES) (sym (same_word_is w u s)) (at_most MAX_FLAT_NAME_BYTES (length u) few)
      where
        at_most : (m n : ℕ) → nat_lt m n ≡ false → n ≤ m
        at_most m n e = grind (arith, nat_tests)
    short w false s h few r = r w h

at_most : (m n : ℕ) → nat_lt m n ≡ false → n ≤ m
at_most m n e = grind (arith, nat_tests)

home_parts : (most : ℕ) (ws : List (List ℕ)) → flat_name_faults [] (take most ws) ++ when (nat_lt most (length ws)) (Limit Nets (MAX_FLAT_NETS + 1)) ≡ []
    → (length ws ≤ most) × AreGood [] ws
home_parts most ws e =
    let few = when-nothing (nat_lt most (length ws)) (Limit Nets (MAX_FLAT_NETS + 1)) (right-nothing (flat_name_faults [] (take most ws)) (when (nat_lt most (length ws)) (Limit Nets (MAX_FLAT_NETS + 1))) e) in
    let low = at_most most (length ws) few in
    (low, names_good [] ws (ap (flat_name_faults []) (sym (take_all most ws low)) ∙ left-nothing (flat_name_faults [] (take most ws)) (when (nat_lt most (length ws)) (Limit Nets (MAX_FLAT_NETS + 1))) e))

homes_good : (ws : List (List ℕ)) → home_faults ws ≡ [] → (length ws ≤ MAX_FLAT_NETS) × AreGood [] ws
unfolding home_faults
homes_good ws e = home_parts MAX_FLAT_NETS ws e

driven_once : (m : FileModel) (ws : List (List ℕ)) → flat_map (twice_at m) ws ≡ [] → flat_map (undriven_at m) ws ≡ [] → list_all (λ w. drivers_of m w == 1) ws ≡ true
driven_once m [] e f = refl
driven_once m (w ∷ ws) e f =
    let a = when-nothing (nat_lt 1 (drivers_of m w)) (DrivenTwice w) (left-nothing (twice_at m w) (flat_map (twice_at m) ws) e) in
    let b = when-nothing (drivers_of m w == 0) (Undriven w) (left-nothing (undriven_at m w) (flat_map (undriven_at m) ws) f) in
    and_from (drivers_of m w == 1) (list_all (λ w. drivers_of m w == 1) ws) (one (drivers_of m w) a b)
    (driven_once m ws (right-nothing (twice_at m w) (flat_map (twice_at m) ws) e) (right-nothing (undriven_at m w) (flat_map (undriven_at m) ws) f))
  where
    one : (k : ℕ) → nat_lt 1 k ≡ false → (k == 0) ≡ false → (k == 1) ≡ true
    one k e f = grind (arith, nat_tests)

all_resets : (ps : List Place) → flat_map place_faults ps ≡ [] → AllByRecursion (λ p. HasResetsOfLatches p.model) ps
all_resets [] e = tt
all_resets (p ∷ ps) e = (
  resets_of_latches p.model (none_placed p p.model refl (left-nothing (place_faults p) (flat_map place_faults ps) e)),
  all_resets ps (right-nothing (place_faults p) (flat_map place_faults ps) e),
)

driving_parts : (m : FileModel) (ws : List (List ℕ)) → driving_faults m ws ≡ [] → list_all (λ w. drivers_of m w == 1) ws ≡ true
unfolding driving_faults
driving_parts m ws e =
    driven_once m ws (left-nothing (flat_map (twice_at m) ws) (flat_map (undriven_at m) ws) e) (right-nothing (flat_map (twice_at m) ws) (flat_map (undriven_at m) ws) e)

pub good_nets : (root : FileModel) (tree : Instances) → whole_faults root tree ≡ [] → HasGoodNets root tree
good_nets root tree e =
    let ps = places root tree in
    let ns = homes ps in
    let all = sym (whole_is root tree) ∙ e in
    let names = homes_good ns (left-nothing (home_faults ns) (driving_faults (unfolded root tree) ns ++ flat_map place_faults ps) all) in
    let rest = right-nothing (home_faults ns) (driving_faults (unfolded root tree) ns ++ flat_map place_faults ps) all in
    record {
      differ = names.1.differ;
      driven = driving_parts (unfolded root tree) ns (left-nothing (driving_faults (unfolded root tree) ns) (flat_map place_faults ps) rest);
      resets =
          All-from_recursion (λ p. HasResetsOfLatches p.model) ps
          (all_resets ps (right-nothing (driving_faults (unfolded root tree) ns) (flat_map place_faults ps) rest));
    }

pub short_names : (root : FileModel) (tree : Instances) → whole_faults root tree ≡ [] → HasShortNames root tree
short_names root tree e =
    let ps = places root tree in
    let ns = homes ps in
    let all = sym (whole_is root tree) ∙ e in
    let names = homes_good ns (left-nothing (home_faults ns) (driving_faults (unfolded root tree) ns ++ flat_map place_faults ps) all) in
    record { few = names.0; short = names.1.short }
