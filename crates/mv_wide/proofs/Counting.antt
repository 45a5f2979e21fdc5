-- The nets of a window are numbered by their places in a list, and the places are their variables.
use Rattle.std.proofs.Common.{◌≡◌, ◌∙◌, ℕ, suc, ◌+◌, ◌<◌, ◌≤◌, ◌&&◌, ◌||◌, ◌==◌, Bool, true, false, not, nat_eq, List, [], ◌∷◌, ◌++◌, length, map, filter, get_or, set, All, Option, refl, sym, ap, subst, ⊎_elim, arith}
use Rattle.std.specs.List.{list_any}
use Rattle.std.proofs.lemmas.Bool.{cases_eq, true≢false, and_parts, and_from, or_cases, or_left, or_right, eq-eqb, eqb-true, not-true, not_from_false}
use Rattle.std.proofs.lemmas.List.{get_or_default, get_or-map, get_or-set_same, get_or-set_other, length-map}
use Rattle.std.proofs.lemmas.List.Elements.{All-nil, All-cons}
use Rattle.mv_base.specs.declared.limits.TheConstants.{MAX_VALUES}
use Rattle.mv_base.specs.declared.number.NetId.{NetId}
use Rattle.mv_dag.proofs.Differing.{places_differ}
use Rattle.mv_diagram.specs.Sound.{AreCounts}
use Rattle.mv_factors.specs.declared.inner.Inner.{Inner}
use Rattle.mv_factors.specs.Leaving.{is_inner}
use Rattle.std.proofs.lemmas.Map.Views.{any-filter_same}
use Rattle.mv_graph.specs.Nets.{all_differ, has_id}
use Rattle.mv_graph.proofs.Nets.{has_id-at}
use Rattle.mv_net.specs.declared.parts.FlatNet.{FlatNet}
use Rattle.mv_net.specs.declared.parts.NetParts.{NetParts}
use Rattle.mv_net.specs.declared.window.Window.{Window}
use Rattle.mv_net.specs.Formed.{WellFormed}
use Rattle.mv_net.specs.Index.{is_held}
use Rattle.mv_net.specs.Nets.{slot, values_in, reads_in}
use Rattle.mv_net.proofs.Known.{is_held_below, values_few, values_some}
use Rattle.mv_wide.specs.Inners.{AreNumbered, counts_of, inner_vars, vars_beside}
use Rattle.mv_wide.specs.Plans.{AreVarsOf, is_beside, is_hidden}
use Rattle.mv_wide.specs.Windows.{AreWindowVars, is_inside}

-- the nets that pass a test
has_filtered : (test : ℕ → Bool) (ns : List NetId) (m : ℕ) → has_id (filter (λ (n : NetId). test n.0) ns) m ≡ (test m && has_id ns m)
has_filtered test ns m = any-filter_same (λ (n : NetId). nat_eq n.0 m) (λ (n : NetId). test n.0) (test m) (λ n e. ap test (eqb-true n.0 m e)) ns

zero_id : NetId
zero_id = record { 0 = 0 }

-- a net of the list has a place there
pub place_in : (ns : List NetId) (m : ℕ) (d : NetId) → has_id ns m ≡ true → (k : ℕ) × (k < length ns) × ((get_or ns k d).0 ≡ m)
place_in [] m d is = absurd (true≢false (sym is))
place_in (x ∷ ns) m d is =
    ⊎_elim
    (λ (here : nat_eq x.0 m ≡ true). (0, omega arith, eqb-true x.0 m here))
    (λ (rest : has_id ns m ≡ true). let k = place_in ns m d rest in (suc k.0, omega (arith, k.1), k.2))
    (or_cases (nat_eq x.0 m) (has_id ns m) is)

-- ---- places as variables

pub numbered_none : (vars : List ℕ) (ns : List NetId) → AreNumbered vars ns 0
numbered_none vars ns = record { each = λ k d low. absurd (omega arith) }

pub numbered_more : (vars : List ℕ) (ns : List NetId) (k : ℕ) (x d : NetId) → all_differ ns ≡ true → AreNumbered vars ns k → k < length ns
    → x ≡ get_or ns k d → x.0 < length vars → AreNumbered (set vars x.0 k) ns (k + 1)
numbered_more vars ns k x d once are inside is low = record {
  each = λ j e less.
      ⊎_elim
      (λ (same : j ≡ k).
      let item : (get_or ns j e).0 ≡ x.0 =
      ap (λ n. (get_or ns n e).0) same ∙ ap (λ (y : NetId). y.0) (get_or_default ns k e d inside ∙ sym is) in
      ap (λ n. get_or (set vars x.0 k) n 0) item ∙ get_or-set_same vars x.0 k 0 low ∙ sym same)
      (λ (other : j ≡ k → ⊥).
      let under : j < k = omega arith in
      let apart : (get_or ns j e).0 ≡ x.0 → ⊥ = λ same.
      places_differ ns j k e once under inside
      (sym (same ∙ ap (λ (y : NetId). y.0) (is ∙ get_or_default ns k d e inside))) in
      get_or-set_other vars x.0 (get_or ns j e).0 k 0 apart ∙ are.each j e under)
      (cases_eq j k);
}

module _ (net : NetParts) (w : Window) (ks : List NetId) (counts vars : List ℕ) (has : (m : ℕ) → has_id ks m ≡ is_inside w m)
    (held : (m : ℕ) → is_inside w m ≡ true → is_held net.nets m ≡ true) (same : counts ≡ counts_of net.nets ks) where
  long_counts : length counts ≡ length ks
  long_counts = ap length same ∙ length-map ks (λ (m : NetId). values_in (slot net.nets m.0))

  count_at : (k : ℕ) → k < length ks → get_or counts k 0 ≡ values_in (slot net.nets (get_or ks k zero_id).0)
  count_at k low =
      ap (λ cs. get_or cs k 0) same ∙ get_or-map (λ (m : NetId). values_in (slot net.nets m.0)) ks k zero_id 0 low

  at_inside : (k : ℕ) → k < length ks → is_inside w (get_or ks k zero_id).0 ≡ true
  at_inside k low = sym (has (get_or ks k zero_id).0) ∙ has_id-at ks k zero_id low

  -- each variable has as many values as a net
  pub window_counts : WellFormed net → AreCounts counts
  window_counts formed = record {
    some = λ v low.
        let inside : v < length ks = omega (arith, long_counts, low) in
        subst (λ k. 0 < k) (sym (count_at v inside)) (values_some net (get_or ks v zero_id).0 formed (held (get_or ks v zero_id).0 (at_inside v inside)));
    few = λ v low.
        let inside : v < length ks = omega (arith, long_counts, low) in
        subst (λ k. k ≤ MAX_VALUES) (sym (count_at v inside)) (values_few net (get_or ks v zero_id).0 formed);
  }

  module _ (long : length vars ≡ length net.nets) (numbered : AreNumbered vars ks (length ks)) where
    place : (m : ℕ) → is_inside w m ≡ true → (k : ℕ) × (k < length ks) × ((get_or ks k zero_id).0 ≡ m)
    place m inside = place_in ks m zero_id (has m ∙ inside)

    var_at : (m : ℕ) (inside : is_inside w m ≡ true) → get_or vars m 0 ≡ (place m inside).0
    var_at m inside =
        let k = place m inside in
        subst (λ x. get_or vars x 0 ≡ k.0) k.2 (numbered.each k.0 zero_id k.1)

    pub window_vars : AreWindowVars net.nets w counts vars
    window_vars = record {
      each = λ m inside.
          let k = place m inside in
          record {
            listed = omega (arith, long, is_held_below net.nets m (held m inside));
            within = subst (λ x. x < length counts) (sym (var_at m inside)) (omega (arith, long_counts, k.1));
            count = ap (λ v. get_or counts v 0) (var_at m inside) ∙ count_at k.0 k.1 ∙ ap (λ x. values_in (slot net.nets x)) k.2;
          };
      apart = λ m k inside over e.
          let i = place m inside in
          let j = place k over in
          let alike : i.0 ≡ j.0 = sym (var_at m inside) ∙ e ∙ var_at k over in
          sym i.2 ∙ ap (λ x. (get_or ks x zero_id).0) alike ∙ j.2;
      all = λ v low.
          let inside : v < length ks = omega (arith, long_counts, low) in
          record { net = (get_or ks v zero_id).0; passes = at_inside v inside; is = numbered.each v zero_id inside };
    }

-- ---- the variables of some nets

inner_any : (inner : List Inner) (v : ℕ) → is_inner inner v ≡ list_any (λ x. x == v) (inner_vars inner)
inner_any [] v = refl
inner_any (i ∷ is) v = ap (λ b. (i.var == v) || b) (inner_any is v)

any_mapped : (vars : List ℕ) (ns : List NetId) (v : ℕ) → list_any (λ x. x == v) (map (λ (m : NetId). get_or vars m.0 0) ns) ≡ true
    → (m : ℕ) × (has_id ns m ≡ true) × (get_or vars m 0 ≡ v)
any_mapped vars [] v is = absurd (true≢false (sym is))
any_mapped vars (n ∷ ns) v is =
    ⊎_elim
    (λ (here : (get_or vars n.0 0 == v) ≡ true).
    (n.0, or_left (nat_eq n.0 n.0) (has_id ns n.0) (eq-eqb n.0 n.0 refl), eqb-true (get_or vars n.0 0) v here))
    (λ (rest : list_any (λ x. x == v) (map (λ (m : NetId). get_or vars m.0 0) ns) ≡ true).
    let m = any_mapped vars ns v rest in
    (m.0, or_right (nat_eq n.0 m.0) (has_id ns m.0) m.1, m.2))
    (or_cases (get_or vars n.0 0 == v) (list_any (λ x. x == v) (map (λ (m : NetId). get_or vars m.0 0) ns)) is)

mapped_any : (vars : List ℕ) (ns : List NetId) (m : ℕ) → has_id ns m ≡ true
    → list_any (λ x. x == get_or vars m 0) (map (λ (k : NetId). get_or vars k.0 0) ns) ≡ true
mapped_any vars [] m is = absurd (true≢false (sym is))
mapped_any vars (n ∷ ns) m is =
    ⊎_elim
    (λ (here : nat_eq n.0 m ≡ true).
    or_left (get_or vars n.0 0 == get_or vars m 0) (list_any (λ x. x == get_or vars m 0) (map (λ (k : NetId). get_or vars k.0 0) ns))
    (eq-eqb (get_or vars n.0 0) (get_or vars m 0) (ap (λ k. get_or vars k 0) (eqb-true n.0 m here))))
    (λ (rest : has_id ns m ≡ true).
    or_right (get_or vars n.0 0 == get_or vars m 0) (list_any (λ x. x == get_or vars m 0) (map (λ (k : NetId). get_or vars k.0 0) ns))
    (mapped_any vars ns m rest))
    (or_cases (nat_eq n.0 m) (has_id ns m) is)

-- ---- the nets of a list that aren't in another

beside_some : (vars : List ℕ) (keep ns : List NetId) (v : ℕ) → list_any (λ x. x == v) (vars_beside vars keep ns) ≡ true
    → (m : ℕ) × (has_id ns m ≡ true) × (has_id keep m ≡ false) × (get_or vars m 0 ≡ v)
beside_some vars keep ns v is =
    let m = any_mapped vars (filter (λ (k : NetId). not (has_id keep k.0)) ns) v is in
    let both = and_parts (not (has_id keep m.0)) (has_id ns m.0) (sym (has_filtered (λ k. not (has_id keep k)) ns m.0) ∙ m.1) in
    (m.0, both.1, not-true (has_id keep m.0) both.0, m.2)

some_beside : (vars : List ℕ) (keep ns : List NetId) (m : ℕ) → has_id ns m ≡ true → has_id keep m ≡ false
    → list_any (λ x. x == get_or vars m 0) (vars_beside vars keep ns) ≡ true
some_beside vars keep ns m listed none =
    mapped_any vars (filter (λ (k : NetId). not (has_id keep k.0)) ns) m
    (has_filtered (λ k. not (has_id keep k)) ns m ∙ and_from (not (has_id keep m)) (has_id ns m) (not_from_false (has_id keep m) none) listed)

any-append : (xs ys : List ℕ) (v : ℕ) → list_any (λ x. x == v) (xs ++ ys) ≡ (list_any (λ x. x == v) xs || list_any (λ x. x == v) ys)
any-append [] ys v = refl
any-append (x ∷ xs) ys v = ap (λ b. (x == v) || b) (any-append xs ys v) ∙ or_assoc (x == v) (list_any (λ y. y == v) xs) (list_any (λ y. y == v) ys)
  where
    or_assoc : (a b c : Bool) → (a || (b || c)) ≡ ((a || b) || c)
    or_assoc true b c = refl
    or_assoc false b c = refl

pub hidden_vars : (w : Window) (vars : List ℕ) (inner : List Inner) → inner_vars inner ≡ vars_beside vars w.outputs w.tables
    → AreVarsOf (is_hidden w) vars (is_inner inner)
hidden_vars w vars inner same = record {
  only = λ v is.
      let m = beside_some vars w.outputs w.tables v (ap (λ l. list_any (λ x. x == v) l) (sym same) ∙ (sym (inner_any inner v) ∙ is)) in
      record { net = m.0; passes = and_from (has_id w.tables m.0) (not (has_id w.outputs m.0)) m.1 (not_from_false (has_id w.outputs m.0) m.2); is = m.3 };
  all = λ m passes.
      let both = and_parts (has_id w.tables m) (not (has_id w.outputs m)) passes in
      inner_any inner (get_or vars m 0) ∙ ap (λ l. list_any (λ x. x == get_or vars m 0) l) same
      ∙ some_beside vars w.outputs w.tables m both.0 (not-true (has_id w.outputs m) both.1);
}

pub beside_vars : (nets : List (Option FlatNet)) (w : Window) (n : ℕ) (vars : List ℕ) (keep : List NetId) (inner : List Inner)
    → ((m : ℕ) → has_id keep m ≡ (reads_in nets n m || nat_eq n m))
    → inner_vars inner ≡ vars_beside vars keep w.tables ++ vars_beside vars keep w.inputs
    → AreVarsOf (is_beside nets w n) vars (is_inner inner)
beside_vars nets w n vars keep inner has same = record {
  only = λ v is.
      let found : (list_any (λ x. x == v) (vars_beside vars keep w.tables) || list_any (λ x. x == v) (vars_beside vars keep w.inputs)) ≡ true =
      sym (any-append (vars_beside vars keep w.tables) (vars_beside vars keep w.inputs) v)
      ∙ (ap (λ l. list_any (λ x. x == v) l) (sym same) ∙ (sym (inner_any inner v) ∙ is)) in
      ⊎_elim
      (λ (table : list_any (λ x. x == v) (vars_beside vars keep w.tables) ≡ true).
      let m = beside_some vars keep w.tables v table in
      record { net = m.0; passes = passing m.0 (or_left (has_id w.tables m.0) (has_id w.inputs m.0) m.1) m.2; is = m.3 })
      (λ (input : list_any (λ x. x == v) (vars_beside vars keep w.inputs) ≡ true).
      let m = beside_some vars keep w.inputs v input in
      record { net = m.0; passes = passing m.0 (or_right (has_id w.tables m.0) (has_id w.inputs m.0) m.1) m.2; is = m.3 })
      (or_cases (list_any (λ x. x == v) (vars_beside vars keep w.tables)) (list_any (λ x. x == v) (vars_beside vars keep w.inputs)) found);
  all = λ m passes.
      let both = and_parts (is_inside w m) (not (reads_in nets n m || nat_eq n m)) passes in
      let none : has_id keep m ≡ false = has m ∙ not-true (reads_in nets n m || nat_eq n m) both.1 in
      inner_any inner (get_or vars m 0) ∙ ap (λ l. list_any (λ x. x == get_or vars m 0) l) same
      ∙ any-append (vars_beside vars keep w.tables) (vars_beside vars keep w.inputs) (get_or vars m 0)
      ∙ ⊎_elim
      (λ (table : has_id w.tables m ≡ true).
      or_left (list_any (λ x. x == get_or vars m 0) (vars_beside vars keep w.tables)) (list_any (λ x. x == get_or vars m 0) (vars_beside vars keep w.inputs))
      (some_beside vars keep w.tables m table none))
      (λ (input : has_id w.inputs m ≡ true).
      or_right (list_any (λ x. x == get_or vars m 0) (vars_beside vars keep w.tables)) (list_any (λ x. x == get_or vars m 0) (vars_beside vars keep w.inputs))
      (some_beside vars keep w.inputs m input none))
      (or_cases (has_id w.tables m) (has_id w.inputs m) both.0);
}
  where
    passing : (m : ℕ) → is_inside w m ≡ true → has_id keep m ≡ false → is_beside nets w n m ≡ true
    passing m inside none =
        and_from (is_inside w m) (not (reads_in nets n m || nat_eq n m)) inside
        (not_from_false (reads_in nets n m || nat_eq n m) (sym (has m) ∙ none))

-- they are variables of the window
pub all_low : (nets : List (Option FlatNet)) (w : Window) (counts vars : List ℕ) (test : ℕ → Bool) (inner : List Inner)
    → AreWindowVars nets w counts vars → ((m : ℕ) → test m ≡ true → is_inside w m ≡ true) → AreVarsOf test vars (is_inner inner)
    → All (λ (i : Inner). i.var < length counts) inner
all_low nets w counts vars test inner are within of = by_list inner (λ v is.
    let m = of.only v is in
    subst (λ k. k < length counts) m.is (are.each m.net (within m.net m.passes)).within)
  where
    by_list : (is : List Inner) → ((v : ℕ) → is_inner is v ≡ true → v < length counts) → All (λ (i : Inner). i.var < length counts) is
    by_list [] low = All-nil (λ (i : Inner). i.var < length counts)
    by_list (i ∷ is) low =
        All-cons (λ (k : Inner). k.var < length counts) i is (low i.var (or_left (i.var == i.var) (is_inner is i.var) (eq-eqb i.var i.var refl)))
        (by_list is (λ v h. low v (or_right (i.var == v) (is_inner is v) h)))
