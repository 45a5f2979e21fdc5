-- What going through the points of a window finds: the pairs outside the flexibility.
use Rattle.std.proofs.Common.{◌≡◌, ◌⊎◌, ◌∙◌, ℕ, suc, ◌<◌, ◌≤◌, Bool, true, false, not, ◌&&◌, ◌||◌, nat_eq, nat_lt, List, [], ◌∷◌, ◌++◌, filter, get_or, length, Option, Some, None, is_some, refl, sym, ap, subst, inl, inr, ⊎_elim}
use Rattle.std.proofs.lemmas.Bool.{cases_Bool, cases_eq, false≢true, or_cases, or_left, or_right, and_parts, and_from, eqb-true, eqb-false, ne_eqb, ltb-true, not-true, not_from_false}
use Rattle.std.proofs.lemmas.List.{map-append}
use Rattle.mv_base.specs.declared.number.NetId.{NetId}
use Rattle.mv_base.specs.declared.limits.TheConstants.{MAX_WINDOW_POINTS}
use Rattle.mv_graph.specs.Nets.{has_id}
use Rattle.mv_graph.proofs.Nets.{has_id-append}
use Rattle.mv_net.specs.declared.parts.FlatNet.{FlatNet}
use Rattle.mv_net.specs.declared.parts.NetParts.{NetParts}
use Rattle.mv_net.specs.declared.window.Window.{Window}
use Rattle.mv_net.specs.Nets.{slot, values_in, table_in, reads_in}
use Rattle.mv_net.specs.Allowed.{net_allows, net_table_allows}
use Rattle.mv_net.specs.Formed.{WellFormed}
use Rattle.mv_net.proofs.Local.{net_allows-local}
use Rattle.mv_net.specs.Window.{ways_of}
use Rattle.mv_net.proofs.Windows.{table_held}
use Rattle.mv_flex.specs.declared.plan.Plan.{Plan}
use Rattle.mv_flex.specs.Spaces.{value_at, digits, code, AreBelow, NetSpace}
use Rattle.mv_flex.specs.Plans.{counts_of, values_of, IsSpace, IsPlan, IsInside, agrees_at, all_agree, window_agrees, point_at, IsStuck, IsReady, MarksBad}
use Rattle.mv_flex.specs.Flex.{AgreesInside, AgreesBeside, HasReplacement, IsWindowOf}
use Rattle.mv_flex.specs.Flexibilities.{IsOutside, IsFlex}
use Rattle.mv_cover.specs.declared.cover.Cover.{Cover}
use Rattle.mv_flex.proofs.Numbering.{value_at-map, value_at-append, below-length, digits-below, code-ways, digits-code}
use Rattle.mv_flex.proofs.Assigning.{all_each, each_all, has_filtered, below_from, value_at-below, below_both, value_at-behind, values_same, search_below}
use Rattle.mv_flex.proofs.Sizes.{pairs_numbered}

-- what a window and its plan say of the nets
pub record IsAt (net : NetParts) (w : Window) (n : ℕ) (p : Plan) : Type 0 where
  pub formed : WellFormed net
  pub window : IsWindowOf net n w
  pub tabled : is_some (table_in (slot net.nets n)) ≡ true
  pub few : ways_of net.nets (w.tables ++ w.inputs) ≤ MAX_WINDOW_POINTS
  pub plan : IsPlan net.nets w n p

-- ---- spaces

-- the values of an assignment in range have a number in the space
pub numbered : (nets : List (Option FlatNet)) (ns : List NetId) (s : NetSpace) (at : ℕ → ℕ) → IsSpace nets ns s → ((m : ℕ) → has_id ns m ≡ true → at m < values_in (slot nets m)) → (k : ℕ) × (k < s.size) × (digits s.counts k ≡ values_of at ns)
numbered nets ns s at space low =
    let below : AreBelow s.counts (values_of at ns) = subst (λ l. AreBelow l (values_of at ns)) (sym space.counts) (below_from (λ m. values_in (slot nets m)) at ns low) in
    (code s.counts (values_of at ns), subst (λ k. code s.counts (values_of at ns) < k) (sym space.counted.all) (code-ways s.counts (values_of at ns) below), digits-code s.counts (values_of at ns) below)

-- the values with a number are in range
pub digits_low : (nets : List (Option FlatNet)) (ns : List NetId) (s : NetSpace) (k : ℕ) → IsSpace nets ns s → AreBelow (counts_of nets ns) (digits s.counts k)
digits_low nets ns s k space = subst (λ l. AreBelow l (digits s.counts k)) space.counts (digits-below s.counts k space.counted.some)

count_long : (f : ℕ → ℕ) (ns : List NetId) → length (values_of f ns) ≡ length ns
count_long f [] = refl
count_long f (n ∷ ns) = ap (λ k. suc k) (count_long f ns)

digits_long : (nets : List (Option FlatNet)) (ns : List NetId) (s : NetSpace) (k : ℕ) → IsSpace nets ns s → length (digits s.counts k) ≡ length ns
digits_long nets ns s k space = below-length (counts_of nets ns) (digits s.counts k) (digits_low nets ns s k space) ∙ count_long (λ m. values_in (slot nets m)) ns

-- a value that a net's table allows is one of the net's
pub allowed_value : (f : Option FlatNet) (at : ℕ → ℕ) (v : ℕ) → is_some (table_in f) ≡ true → net_allows f at v ≡ true → v < values_in f
allowed_value None at v tabled h = absurd (false≢true tabled)
allowed_value (Some f) at v tabled h = ltb-true v f.values (and_parts (nat_lt v f.values) (net_table_allows f.table at v) h).0

module _ (net : NetParts) (w : Window) (n : ℕ) (p : Plan) (is : IsAt net w n p) where
  -- ---- the nets of the window

  shown_list : List NetId
  shown_list = w.inputs ++ filter (λ (m : NetId). has_id w.outputs m.0) w.tables

  hidden_list : List NetId
  hidden_list = filter (λ (m : NetId). not (has_id w.outputs m.0)) w.tables

  shown_has : (m : ℕ) → has_id p.shown.nets m ≡ (has_id w.inputs m || (has_id w.outputs m && has_id w.tables m))
  shown_has m =
      ap (λ l. has_id l m) is.plan.shown.list
      ∙ has_id-append w.inputs (filter (λ (k : NetId). has_id w.outputs k.0) w.tables) m
      ∙ ap (λ b. has_id w.inputs m || b) (has_filtered (λ k. has_id w.outputs k) w.tables m)

  hidden_has : (m : ℕ) → has_id p.hidden.nets m ≡ (not (has_id w.outputs m) && has_id w.tables m)
  hidden_has m = ap (λ l. has_id l m) is.plan.hidden.list ∙ has_filtered (λ k. not (has_id w.outputs k)) w.tables m

  nets_has : (m : ℕ) → has_id p.nets m ≡ (has_id p.shown.nets m || has_id p.hidden.nets m)
  nets_has m = ap (λ l. has_id l m) is.plan.order ∙ has_id-append p.shown.nets p.hidden.nets m

  others_has : (m : ℕ) → has_id p.others m ≡ (not (nat_eq m n) && has_id w.tables m)
  others_has m = ap (λ l. has_id l m) is.plan.others ∙ has_filtered (λ k. not (nat_eq k n)) w.tables m

  table_of : (m : ℕ) → has_id w.tables m ≡ true → is_some (table_in (slot net.nets m)) ≡ true
  table_of m h = ((is.window.is.tables.members m).0 h).table

  output_table : (m : ℕ) → has_id w.outputs m ≡ true → has_id w.tables m ≡ true
  output_table m h = ((is.window.is.outputs.members m).0 h).is_inside

  input_shown : (m : ℕ) → has_id w.inputs m ≡ true → has_id p.shown.nets m ≡ true
  input_shown m h = shown_has m ∙ or_left (has_id w.inputs m) (has_id w.outputs m && has_id w.tables m) h

  output_shown : (m : ℕ) → has_id w.outputs m ≡ true → has_id p.shown.nets m ≡ true
  output_shown m h =
      shown_has m ∙ or_right (has_id w.inputs m) (has_id w.outputs m && has_id w.tables m) (and_from (has_id w.outputs m) (has_id w.tables m) h (output_table m h))

  shown_in : (m : ℕ) → has_id p.shown.nets m ≡ true → has_id p.nets m ≡ true
  shown_in m h = nets_has m ∙ or_left (has_id p.shown.nets m) (has_id p.hidden.nets m) h

  hidden_in : (m : ℕ) → has_id p.hidden.nets m ≡ true → has_id p.nets m ≡ true
  hidden_in m h = nets_has m ∙ or_right (has_id p.shown.nets m) (has_id p.hidden.nets m) h

  table_in_nets : (m : ℕ) → has_id w.tables m ≡ true → has_id p.nets m ≡ true
  table_in_nets m h =
      ⊎_elim
      (λ (y : has_id w.outputs m ≡ true). shown_in m (output_shown m y))
      (λ (f : has_id w.outputs m ≡ false).
      hidden_in m (hidden_has m ∙ and_from (not (has_id w.outputs m)) (has_id w.tables m) (not_from_false (has_id w.outputs m) f) h))
      (cases_Bool (has_id w.outputs m))

  -- what a table of the window reads is one of the window's nets
  read_in_nets : (m k : ℕ) → has_id w.tables m ≡ true → reads_in net.nets m k ≡ true → has_id p.nets k ≡ true
  read_in_nets m k h r =
      ⊎_elim
      (λ (y : has_id w.tables k ≡ true). table_in_nets k y)
      (λ (f : has_id w.tables k ≡ false).
      shown_in k (input_shown k ((is.window.is.inputs.members k).1 (record { reader = m; is_inside = h; reads = r; outside = f }))))
      (cases_Bool (has_id w.tables k))

  -- n is one of the tables
  here_table : has_id w.tables n ≡ true
  here_table = (is.window.is.tables.members n).1 (record { around = record { net = n; below = inl refl; above = inl refl }; table = is.tabled })

  -- the tables of the window allow the same under assignments that are the same on the window's nets
  same_allows : (x y : ℕ → ℕ) → ((k : ℕ) → has_id p.nets k ≡ true → x k ≡ y k) → (m : ℕ) → has_id w.tables m ≡ true → net_allows (slot net.nets m) x (x m) ≡ net_allows (slot net.nets m) y (y m)
  same_allows x y same m h =
      net_allows-local (slot net.nets m) x y (x m) (λ k r. same k (read_in_nets m k h r)) ∙ ap (net_allows (slot net.nets m) y) (same m (table_in_nets m h))

  -- ---- the assignment of a point

  abbrev pub values : ℕ → ℕ → List ℕ
  values c h = point_at p (digits p.shown.counts c) h

  abbrev pub point : ℕ → ℕ → ℕ → ℕ
  point c h = value_at p.nets (values c h)

  shown_space : IsSpace net.nets p.shown.nets p.shown
  shown_space = record { list = refl; counts = is.plan.shown.counts ∙ ap (counts_of net.nets) (sym is.plan.shown.list); counted = is.plan.shown.counted }

  hidden_space : IsSpace net.nets p.hidden.nets p.hidden
  hidden_space = record { list = refl; counts = is.plan.hidden.counts ∙ ap (counts_of net.nets) (sym is.plan.hidden.list); counted = is.plan.hidden.counted }

  -- at the inputs and outputs it has the values of the first number
  point_shown : (c h m : ℕ) → has_id p.shown.nets m ≡ true → point c h m ≡ value_at p.shown.nets (digits p.shown.counts c) m
  point_shown c h m y =
      ap (λ l. value_at l (values c h) m) is.plan.order
      ∙ value_at-append p.shown.nets p.hidden.nets (digits p.shown.counts c) (digits p.hidden.counts h) m (digits_long net.nets p.shown.nets p.shown c shown_space) y

  -- and at the other tables those of the second
  point_hidden : (c h m : ℕ) → has_id p.shown.nets m ≡ false → point c h m ≡ value_at p.hidden.nets (digits p.hidden.counts h) m
  point_hidden c h m f =
      ap (λ l. value_at l (values c h) m) is.plan.order
      ∙ value_at-behind p.shown.nets p.hidden.nets (digits p.shown.counts c) (digits p.hidden.counts h) m (digits_long net.nets p.shown.nets p.shown c shown_space) f

  point_below : (c h : ℕ) → AreBelow (counts_of net.nets p.nets) (values c h)
  point_below c h =
      subst (λ l. AreBelow l (values c h)) (sym counts_both)
      (below_both (counts_of net.nets p.shown.nets) (counts_of net.nets p.hidden.nets) (digits p.shown.counts c) (digits p.hidden.counts h) (digits_low net.nets p.shown.nets p.shown c shown_space) (digits_low net.nets p.hidden.nets p.hidden h hidden_space))
    where
      counts_both : counts_of net.nets p.nets ≡ counts_of net.nets p.shown.nets ++ counts_of net.nets p.hidden.nets
      counts_both = ap (counts_of net.nets) is.plan.order ∙ map-append (λ (k : NetId). values_in (slot net.nets k.0)) p.shown.nets p.hidden.nets

  point_low : (c h m : ℕ) → has_id p.nets m ≡ true → point c h m < values_in (slot net.nets m)
  point_low c h m y = value_at-below (λ k. values_in (slot net.nets k)) p.nets (values c h) m (point_below c h) y

  -- an assignment with the values of a number at the inputs and outputs is that of some point
  fits : (c : ℕ) (r : ℕ → ℕ) → ((m : ℕ) → has_id p.shown.nets m ≡ true → value_at p.shown.nets (digits p.shown.counts c) m ≡ r m) → ((m : ℕ) → has_id p.hidden.nets m ≡ true → r m < values_in (slot net.nets m)) → (h : ℕ) × (h < p.hidden.size) × ((m : ℕ) → has_id p.nets m ≡ true → point c h m ≡ r m)
  fits c r shown low =
      let k = numbered net.nets p.hidden.nets p.hidden r hidden_space low in (
        k.0,
        k.1,
        λ m y.
            ⊎_elim
            (λ (there : has_id p.shown.nets m ≡ true). point_shown c k.0 m there ∙ shown m there)
            (λ (not_there : has_id p.shown.nets m ≡ false).
            let behind : has_id p.hidden.nets m ≡ true = sym (nets_has m ∙ ap (λ b. b || has_id p.hidden.nets m) not_there) ∙ y in
            point_hidden c k.0 m not_there ∙ ap (λ l. value_at p.hidden.nets l m) k.2 ∙ value_at-map r p.hidden.nets m behind)
            (cases_Bool (has_id p.shown.nets m)),
      )

  -- ---- what the tests of a point say

  pub agrees_beside : (c h : ℕ) → all_agree net.nets p.others p.nets (values c h) ≡ true → AgreesBeside net.nets w n (point c h)
  agrees_beside c h all = record {
    inputs = λ m y. point_low c h m (shown_in m (input_shown m y));
    here = point_low c h n (table_in_nets n here_table);
    tables = λ m ne y.
        all_each (λ k. net_allows (slot net.nets k) (point c h) (point c h k)) p.others all m
        (others_has m ∙ and_from (not (nat_eq m n)) (has_id w.tables m) (not_from_false (nat_eq m n) (ne_eqb m n ne)) y);
  }

  agrees_inside : (c h : ℕ) → window_agrees net.nets p (values c h) ≡ true → AgreesInside net.nets w (point c h)
  agrees_inside c h all =
      let both = and_parts (all_agree net.nets p.others p.nets (values c h)) (agrees_at net.nets p.nets (values c h) p.net.0) all in
      let beside = agrees_beside c h both.0 in
      record {
        inputs = beside.inputs;
        tables = λ m y.
            ⊎_elim
            (λ (e : m ≡ n). ap (agrees_at net.nets p.nets (values c h)) (e ∙ sym is.plan.own) ∙ both.1)
            (λ (ne : m ≡ n → ⊥). beside.tables m ne y)
            (cases_eq m n);
      }

  inside_agrees : (c h : ℕ) (r : ℕ → ℕ) → AgreesInside net.nets w r → ((m : ℕ) → has_id p.nets m ≡ true → point c h m ≡ r m) → window_agrees net.nets p (values c h) ≡ true
  inside_agrees c h r agrees same =
      let there : has_id w.tables p.net.0 ≡ true = ap (has_id w.tables) is.plan.own ∙ here_table in
      and_from (all_agree net.nets p.others p.nets (values c h)) (agrees_at net.nets p.nets (values c h) p.net.0)
      (each_all (agrees_at net.nets p.nets (values c h)) p.others
      (λ m y.
      let both = and_parts (not (nat_eq m n)) (has_id w.tables m) (sym (others_has m) ∙ y) in
      same_allows (point c h) r same m both.1 ∙ agrees.tables m both.1))
      (same_allows (point c h) r same p.net.0 there ∙ agrees.tables p.net.0 there)

  beside_agrees : (c h : ℕ) (at : ℕ → ℕ) → AgreesBeside net.nets w n at → ((m : ℕ) → has_id p.nets m ≡ true → point c h m ≡ at m) → all_agree net.nets p.others p.nets (values c h) ≡ true
  beside_agrees c h at agrees same =
      each_all (λ k. net_allows (slot net.nets k) (point c h) (point c h k)) p.others
      (λ m y.
      let both = and_parts (not (nat_eq m n)) (has_id w.tables m) (sym (others_has m) ∙ y) in
      same_allows (point c h) at same m both.1 ∙ agrees.tables m (eqb-false m n (not-true (nat_eq m n) both.0)) both.1)

  -- ---- assignments that agree are in range

  beside_table : (at : ℕ → ℕ) → AgreesBeside net.nets w n at → (m : ℕ) → has_id w.tables m ≡ true → at m < values_in (slot net.nets m)
  beside_table at agrees m y =
      ⊎_elim
      (λ (e : m ≡ n). subst (λ k. at k < values_in (slot net.nets k)) (sym e) agrees.here)
      (λ (ne : m ≡ n → ⊥). allowed_value (slot net.nets m) at (at m) (table_of m y) (agrees.tables m ne y))
      (cases_eq m n)

  hidden_table : (m : ℕ) → has_id p.hidden.nets m ≡ true → has_id w.tables m ≡ true
  hidden_table m y = (and_parts (not (has_id w.outputs m)) (has_id w.tables m) (sym (hidden_has m) ∙ y)).1

  shown_is : (m : ℕ) → has_id p.shown.nets m ≡ true → (has_id w.inputs m ≡ true) ⊎ (has_id w.outputs m ≡ true)
  shown_is m y =
      ⊎_elim
      (λ (i : has_id w.inputs m ≡ true). inl i)
      (λ (o : (has_id w.outputs m && has_id w.tables m) ≡ true). inr (and_parts (has_id w.outputs m) (has_id w.tables m) o).0)
      (or_cases (has_id w.inputs m) (has_id w.outputs m && has_id w.tables m) (sym (shown_has m) ∙ y))

  beside_shown : (at : ℕ → ℕ) → AgreesBeside net.nets w n at → (m : ℕ) → has_id p.shown.nets m ≡ true → at m < values_in (slot net.nets m)
  beside_shown at agrees m y =
      ⊎_elim
      (λ (i : has_id w.inputs m ≡ true). agrees.inputs m i)
      (λ (o : has_id w.outputs m ≡ true). beside_table at agrees m (output_table m o))
      (shown_is m y)

  beside_low : (at : ℕ → ℕ) → AgreesBeside net.nets w n at → (m : ℕ) → has_id p.nets m ≡ true → at m < values_in (slot net.nets m)
  beside_low at agrees m y =
      ⊎_elim
      (λ (s : has_id p.shown.nets m ≡ true). beside_shown at agrees m s)
      (λ (h : has_id p.hidden.nets m ≡ true). beside_table at agrees m (hidden_table m h))
      (or_cases (has_id p.shown.nets m) (has_id p.hidden.nets m) (sym (nets_has m) ∙ y))

  -- ---- pairs

  pub fanin_read : (m : ℕ) → has_id p.fanins.nets m ≡ reads_in net.nets n m
  fanin_read m = is.plan.reads.members m

  pair_in_nets : (m : ℕ) → has_id p.pairs.nets m ≡ true → has_id p.nets m ≡ true
  pair_in_nets m y =
      ⊎_elim
      (λ (e : nat_eq n m ≡ true). table_in_nets m (ap (has_id w.tables) (sym (eqb-true n m e)) ∙ here_table))
      (λ (f : has_id p.fanins.nets m ≡ true). read_in_nets n m here_table (sym (fanin_read m) ∙ f))
      (or_cases (nat_eq n m) (has_id p.fanins.nets m) (sym (ap (λ l. has_id l m) is.plan.pairs.list) ∙ y))

  pub pairs_below : (at : ℕ → ℕ) → AgreesBeside net.nets w n at → AreBelow p.pairs.counts (values_of at p.pairs.nets)
  pairs_below at agrees =
      subst (λ l. AreBelow l (values_of at p.pairs.nets)) (sym (is.plan.pairs.counts ∙ ap (counts_of net.nets) (sym is.plan.pairs.list)))
      (below_from (λ m. values_in (slot net.nets m)) at p.pairs.nets (λ m y. beside_low at agrees m (pair_in_nets m y)))

  -- ---- which pairs are bad

  -- at the inputs and outputs of no point that agrees with every table there is no replacement
  stuck_alone : (c : ℕ) (at : ℕ → ℕ) → IsStuck net.nets p (digits p.shown.counts c) → ((m : ℕ) → has_id p.shown.nets m ≡ true → value_at p.shown.nets (digits p.shown.counts c) m ≡ at m) → HasReplacement net.nets w at → ⊥
  stuck_alone c at stuck shown r =
      let same : (m : ℕ) → has_id p.shown.nets m ≡ true → r.given m ≡ at m =
      λ m y. ⊎_elim (λ (i : has_id w.inputs m ≡ true). r.inputs m i) (λ (o : has_id w.outputs m ≡ true). r.outputs m o) (shown_is m y) in
      let low : (m : ℕ) → has_id p.hidden.nets m ≡ true → r.given m < values_in (slot net.nets m) =
      λ m y. allowed_value (slot net.nets m) r.given (r.given m) (table_of m (hidden_table m y)) (r.agrees.tables m (hidden_table m y)) in
      let k = fits c r.given (λ m y. shown m y ∙ sym (same m y)) low in
      false≢true (sym (stuck.none k.0 k.1) ∙ inside_agrees c k.0 r.given r.agrees k.2)

  pub marked_outside : (marks : List Bool) (q : ℕ) → MarksBad net.nets p marks → get_or marks q false ≡ true → IsOutside net.nets w n p.pairs q
  marked_outside marks q bad y =
      let b = bad.only q y in
      record {
        at = point b.c b.bad.h;
        agrees = agrees_beside b.c b.bad.h b.bad.bad.agrees;
        alone = stuck_alone b.c (point b.c b.bad.h) b.bad.bad.stuck (λ m s. sym (point_shown b.c b.bad.h m s));
        pair = b.bad.pair;
      }

  pub outside_marked : (marks : List Bool) (at : ℕ → ℕ) → MarksBad net.nets p marks → AgreesBeside net.nets w n at → (get_or marks (code p.pairs.counts (values_of at p.pairs.nets)) false ≡ true) ⊎ HasReplacement net.nets w at
  outside_marked marks at bad agrees =
      let k = numbered net.nets p.shown.nets p.shown at shown_space (beside_shown at agrees) in
      let shown : (m : ℕ) → has_id p.shown.nets m ≡ true → value_at p.shown.nets (digits p.shown.counts k.0) m ≡ at m =
      λ m y. ap (λ l. value_at p.shown.nets l m) k.2 ∙ value_at-map at p.shown.nets m y in
      let f = fits k.0 at shown (λ m y. beside_table at agrees m (hidden_table m y)) in
      ⊎_elim
      (λ (found : (h : ℕ) × (h < p.hidden.size) × (window_agrees net.nets p (values k.0 h) ≡ true)).
      inr
      (record {
        given = point k.0 found.0;
        agrees = agrees_inside k.0 found.0 found.2;
        inputs = λ m y. point_shown k.0 found.0 m (input_shown m y) ∙ shown m (input_shown m y);
        outputs = λ m y. point_shown k.0 found.0 m (output_shown m y) ∙ shown m (output_shown m y);
      }))
      (λ (none : (h : ℕ) → h < p.hidden.size → window_agrees net.nets p (values k.0 h) ≡ false).
      inl
      (bad.all (code p.pairs.counts (values_of at p.pairs.nets))
      (record {
        c = k.0;
        low = k.1;
        bad = record {
          h = f.0;
          bad = record { low = f.1; stuck = record { none = none }; agrees = beside_agrees k.0 f.0 at agrees f.2 };
          pair = ap (code p.pairs.counts) (values_same (point k.0 f.0) at p.pairs.nets (λ m y. f.2 m (pair_in_nets m y)));
        };
      })))
      (search_below (λ h. window_agrees net.nets p (values k.0 h)) p.hidden.size)

  -- the points can be gone through
  inside : (m : ℕ) → has_id w.tables m ≡ true → IsInside net.nets p.nets m
  inside m there = record {
    held = table_held (slot net.nets m) (table_of m there);
    here = table_in_nets m there;
    reads = λ k r. read_in_nets m k there r;
    numbered = λ fs reads. pairs_numbered net w n is.formed is.window is.few m fs there reads;
  }

  pub ready : IsReady net.nets p
  ready = record {
    own = inside p.net.0 (ap (has_id w.tables) is.plan.own ∙ here_table);
    others = λ m y. inside m (and_parts (not (nat_eq m n)) (has_id w.tables m) (sym (others_has m) ∙ y)).1;
    ranged = λ start h s. subst (λ l. AreBelow (counts_of net.nets p.nets) (point_at p l h)) (sym s.is) (point_below s.number h);
    pairs = record { list = refl; counts = is.plan.pairs.counts ∙ ap (counts_of net.nets) (sym is.plan.pairs.list); counted = is.plan.pairs.counted };
    within = pair_in_nets;
  }

  -- what was found is the flexibility
  pub flex_made : (budget : ℕ) (old : Cover) (marks : List Bool) → table_in (slot net.nets n) ≡ Some old → MarksBad net.nets p marks → IsFlex net w n budget (record { net = record { 0 = n }; old = old; fanins = p.fanins; pairs = p.pairs; outside = marks })
  flex_made budget old marks table bad = record {
    id = refl;
    table = table;
    fanins = is.plan.fanins;
    reads = fanin_read;
    pairs = is.plan.pairs;
    long = bad.long;
    below = pairs_below;
    only = λ q y. marked_outside marks q bad y;
    all = λ at agrees. outside_marked marks at bad agrees;
  }
