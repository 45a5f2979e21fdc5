-- Names none of which is left out when they are gathered; and models whose named nets are among such drivers.
use Rattle.std.proofs.Common.{◌≡◌, ℕ, ◌+◌, ◌<◌, ◌≤◌, Bool, true, false, ◌||◌, cond, List, [], ◌∷◌, ◌++◌, Option, Some, get_or, is_some, map, take, length, refl, sym, ◌∙◌, ap, subst, arith, ⊎_elim, All}
use Rattle.std.specs.Prelude.{nat_lt, unwrap_or, if◌then◌else◌}
use Rattle.std.specs.List.{flat_map, list_all}
use Rattle.std.proofs.lemmas.Bool.{false≢true, and_from, and_parts, leb-true, or_cases}
use Rattle.std.proofs.lemmas.Bool.Decides.{nat_tests}
use Rattle.std.proofs.lemmas.List.{append-nil, append_assoc, length-append, length-map, map-append, take_more}
use Rattle.std.proofs.lemmas.List.Folds.{list_all_more}
use Rattle.mv_base.specs.Names.{same_word, among, names_differ, place_of, AreApart, IsDistinct}
use Rattle.mv_base.specs.declared.limits.TheConstants.{MAX_FLAT_NETS, MAX_FLAT_NAME_BYTES}
use Rattle.mv_base.proofs.NameLemmas.{same_word_is, differ-from_distinct, is_some-place_of, IsDistinct-from_differ}
use Rattle.mv_graph.specs.Above.{IsAcyclic}
use Rattle.mv_design.specs.declared.design.FileLatch.{FileLatch}
use Rattle.mv_design.specs.declared.design.FileModel.{FileModel}
use Rattle.mv_design.specs.declared.table.FileTable.{FileTable}
use Rattle.mv_design.specs.Nets.{columns_of, drivers, latch_inputs, latch_outputs, nets_driven, nets_of}
use Rattle.mv_acyclic.specs.Driving.{with_name, with_names}
use Rattle.mv_acyclic.specs.Glance.{are_known, columns_known, input_known, inputs_known, is_short, AreApartDrivers, AreOthersKnown, IsKnownSound}
use Rattle.mv_acyclic.specs.Numbers.{net_in, number_in, numbers_in}
use Rattle.mv_acyclic.specs.Sound.{reads, HasResetsOfLatches, IsDrivenOnce, IsWithinLimits, StandsAlone}
use Rattle.mv_acyclic.proofs.Commands.{among-nets_named}
use Rattle.mv_acyclic.proofs.Distinct.{nets_differ, no_more, times}
use Rattle.mv_acyclic.proofs.Named.{among-nets_of}
use Rattle.mv_acyclic.proofs.Names.{all_among, among_counted, count_of_cons}
use Rattle.mv_acyclic.proofs.Soundness.{in_left, in_right, in_either}

-- ---- names that are gathered

length_if : (names : List (List ℕ)) (w : List ℕ) (known : Bool) → length (if known then names else names ++ w ∷ []) ≤ length names + 1
length_if names w true = omega arith
length_if names w false = let e = length-append names (w ∷ []) in omega (arith, e)

length-with_names : (names ws : List (List ℕ)) → length (with_names names ws) ≤ length names + length ws
length-with_names names [] = omega arith
length-with_names names (w ∷ ws) =
    let head : length (with_name names w) ≤ length names + 1 = length_if names w (among w names) in
    let rest = length-with_names (with_name names w) ws in
    omega arith

-- where there are as many as were given, none is left out
pub all_new : (names ws : List (List ℕ)) → length names + length ws ≤ length (with_names names ws) → with_names names ws ≡ names ++ ws
all_new names [] h = sym (append-nil names)
all_new names (w ∷ ws) h = split (among w names) h (all_new (names ++ w ∷ []) ws)
  where
    split : (known : Bool) → length names + length (w ∷ ws) ≤ length (with_names (if known then names else names ++ w ∷ []) ws)
        → (length (names ++ w ∷ []) + length ws ≤ length (with_names (names ++ w ∷ []) ws) → with_names (names ++ w ∷ []) ws ≡ (names ++ w ∷ []) ++ ws)
        → with_names (if known then names else names ++ w ∷ []) ws ≡ names ++ w ∷ ws
    split true k r = let l = length-with_names names ws in absurd (omega (arith, l, k))
    split false k r = let e = length-append names (w ∷ []) in r (omega (arith, e, k)) ∙ append_assoc names (w ∷ []) ws

pub length-drivers : (m : FileModel) → length (drivers m) ≡ length m.inputs + length m.latches + length (flat_map nets_driven m.tables)
unfolding drivers
length-drivers m =
    let a = length-append m.inputs (latch_outputs m ++ flat_map nets_driven m.tables) in
    let b = length-append (latch_outputs m) (flat_map nets_driven m.tables) in
    let c = length-map m.latches (λ l. l.output) in
    omega (arith, a, b, c)

-- drivers of which none is left out, and which pass no limit
pub gathered_apart : (m : FileModel) (names : List (List ℕ)) → names ≡ with_names [] (drivers m) → IsDistinct names → length (drivers m) ≤ length names
    → length (drivers m) ≤ MAX_FLAT_NETS → list_all is_short names ≡ true → AreApartDrivers m names
gathered_apart m names e distinct many few short =
    let all = all_new [] (drivers m) (let l = ap length e in omega (arith, l, many)) in
    let same = e ∙ all in
    record { is = same; differ = differ-from_distinct names distinct; few = let l = ap length same in omega (arith, l, few); short = short }

-- ---- names that stand once

none_counted : (n : ℕ) → nat_lt 0 n ≡ false → n ≡ 0
none_counted n h = grind (arith, nat_tests)

-- one of names that are apart stands once
once : (w : List ℕ) (ws : List (List ℕ)) → AreApart ws → among w ws ≡ true → times w ws ≡ 1
once w [] a h = absurd (false≢true h)
once w (u ∷ us) a h = count_of_cons w u us ∙ split (same_word w u) refl (once w us a.1)
  where
    split : (b : Bool) → same_word w u ≡ b → (among w us ≡ true → times w us ≡ 1) → cond b 1 0 + times w us ≡ 1
    split true e r =
        let none = none_counted (times w us) (sym (among_counted w us) ∙ (ap (λ x. among x us) (same_word_is w u e) ∙ a.0)) in
        omega (arith, none)
    split false e r = let n = r (ap (λ b. b || among w us) (sym e) ∙ h) in omega (arith, n)

-- ---- nets that are named

-- one name more that has a place
pub known_more : (names nets : List (List ℕ)) (i place : ℕ) (w : List ℕ) → are_known names (take i nets) ≡ true → i < length nets → w ≡ get_or nets i w
    → place_of w names ≡ Some place → are_known names (take (i + 1) nets) ≡ true
known_more names nets i place w known lt is e =
    let p : List ℕ → Bool = λ u. among u names in
    list_all_more p nets i w lt ∙ and_from (list_all p (take i nets)) (p (get_or nets i w)) known (ap p (sym is) ∙ (sym (is_some-place_of w names) ∙ ap is_some e))

-- and its number
pub numbered_more : (names nets : List (List ℕ)) (i place : ℕ) (w : List ℕ) → i < length nets → w ≡ get_or nets i w → place_of w names ≡ Some place
    → numbers_in names (take i nets) ++ record { 0 = place } ∷ [] ≡ numbers_in names (take (i + 1) nets)
unfolding number_in
numbered_more names nets i place w lt is e =
    let here : net_in names w ≡ record { 0 = place } = ap (λ (o : Option ℕ). record { 0 = unwrap_or o 0 }) e in
    sym (ap (numbers_in names) (take_more nets i w lt) ∙ (map-append (net_in names) (take i nets) (get_or nets i w ∷ [])
    ∙ ap (λ n. numbers_in names (take i nets) ++ n ∷ []) (ap (net_in names) (sym is) ∙ here)))

module _ (names : List (List ℕ)) where
  latches_known : (ls : List FileLatch) (w : List ℕ) → list_all (input_known names) ls ≡ true → among w (map (λ l. l.input) ls) ≡ true → among w names ≡ true
  latches_known [] w all h = absurd (false≢true h)
  latches_known (l ∷ ls) w all h =
      let q = and_parts (input_known names l) (list_all (input_known names) ls) all in
      ⊎_elim (λ (y : same_word w l.input ≡ true). ap (λ x. among x names) (same_word_is w l.input y) ∙ q.0)
      (λ (y : among w (map (λ l. l.input) ls) ≡ true). latches_known ls w q.1 y)
      (or_cases (same_word w l.input) _ h)

  resets_known : (ts : List FileTable) (w : List ℕ) → list_all (columns_known names) ts ≡ true → among w (flat_map columns_of ts) ≡ true → among w names ≡ true
  resets_known [] w all h = absurd (false≢true h)
  resets_known (t ∷ ts) w all h =
      let q = and_parts (columns_known names t) (list_all (columns_known names) ts) all in
      let here = and_parts (are_known names t.inputs) (are_known names t.outputs) q.0 in
      ⊎_elim
      (λ (y : among w (columns_of t) ≡ true). ⊎_elim (λ (i : among w t.inputs ≡ true). all_among (λ u. among u names) t.inputs w here.0 i)
      (λ (o : among w t.outputs ≡ true). all_among (λ u. among u names) t.outputs w here.1 o) (in_either w t.inputs t.outputs y))
      (λ (y : among w (flat_map columns_of ts) ≡ true). resets_known ts w q.1 y)
      (in_either w (columns_of t) (flat_map columns_of ts) h)

  -- the inputs of tables are known, and their outputs are driven
  tables_known : (ts : List FileTable) (w : List ℕ) → list_all (inputs_known names) ts ≡ true
      → ((u : List ℕ) → among u (flat_map nets_driven ts) ≡ true → among u names ≡ true)
      → among w (flat_map columns_of ts) ≡ true → among w names ≡ true
  tables_known [] w all out h = absurd (false≢true h)
  tables_known (t ∷ ts) w all out h =
      let q = and_parts (inputs_known names t) (list_all (inputs_known names) ts) all in
      ⊎_elim
      (λ (y : among w (columns_of t) ≡ true). ⊎_elim (λ (i : among w t.inputs ≡ true). all_among (λ u. among u names) t.inputs w q.0 i)
      (λ (o : among w t.outputs ≡ true). out w (in_left w t.outputs _ o)) (in_either w t.inputs t.outputs y))
      (λ (y : among w (flat_map columns_of ts) ≡ true). tables_known ts w q.1 (λ u d. out u (in_right u t.outputs _ d)) y)
      (in_either w (columns_of t) (flat_map columns_of ts) h)

-- each net that the model names is one of the drivers
pub named_driven : (m : FileModel) (w : List ℕ) → AreOthersKnown (drivers m) m → list_all (inputs_known (drivers m)) m.tables ≡ true
    → among w (nets_of m) ≡ true → among w (drivers m) ≡ true
unfolding drivers
named_driven m w others inputs h =
    let D = drivers m in
    let outs = flat_map nets_driven m.tables in
    let table : (u : List ℕ) → among u outs ≡ true → among u D ≡ true = λ u y. in_right u m.inputs _ (in_right u (latch_outputs m) _ y) in
    ⊎_elim (λ (y : among w m.inputs ≡ true). in_left w m.inputs _ y)
    (λ r. ⊎_elim (λ (y : among w m.outputs ≡ true). all_among (λ u. among u D) m.outputs w others.outputs y)
    (λ s. ⊎_elim
    (λ l. ⊎_elim (λ (y : among w (latch_inputs m) ≡ true). latches_known D m.latches w others.latches y)
    (λ (y : among w (latch_outputs m) ≡ true). in_right w m.inputs _ (in_left w (latch_outputs m) _ y))
    (or_cases (among w (latch_inputs m)) (among w (latch_outputs m)) l))
    (λ t. ⊎_elim (λ (y : among w (flat_map columns_of m.resets) ≡ true). resets_known D m.resets w others.resets y)
    (λ (y : among w (flat_map columns_of m.tables) ≡ true). tables_known D m.tables w inputs table y)
    (or_cases (among w (flat_map columns_of m.resets)) (among w (flat_map columns_of m.tables)) t))
    (or_cases (among w (latch_inputs m) || among w (latch_outputs m)) _ s))
    (or_cases (among w m.outputs) _ r))
    (or_cases (among w m.inputs) _ (sym (among-nets_named w m) ∙ (sym (among-nets_of w m) ∙ h)))

-- ---- what is known then

module _ (m : FileModel) (names : List (List ℕ)) (apart : AreApartDrivers m names) (others : AreOthersKnown names m)
    (inputs : list_all (inputs_known names) m.tables ≡ true) where
  driven : (w : List ℕ) → among w (nets_of m) ≡ true → among w (drivers m) ≡ true
  driven w h =
      let P : List (List ℕ) → Type 0 = λ ns. AreOthersKnown ns m in
      let Q : List (List ℕ) → Type 0 = λ ns. list_all (inputs_known ns) m.tables ≡ true in
      named_driven m w (subst P apart.is others) (subst Q apart.is inputs) h

  pub driven_once : IsDrivenOnce m
  driven_once = record { once = λ w h. once w (drivers m) (IsDistinct-from_differ (drivers m) (ap names_differ (sym apart.is) ∙ apart.differ)).apart (driven w h) }

  pub within_limits : IsWithinLimits m
  within_limits =
      record {
        few = let l = few_nets in let e = ap length apart.is in let f = apart.few in omega (arith, l, e, f);
        short = λ w h. short_from w (all_among is_short names w apart.short (ap (among w) apart.is ∙ driven w h));
      }
    where
      few_nets : length (nets_of m) ≤ length (drivers m)
      few_nets = no_more (nets_of m) (drivers m) (nets_differ m) driven

      short_from : (w : List ℕ) → is_short w ≡ true → length w ≤ MAX_FLAT_NAME_BYTES
      short_from w h = leb-true (length w) MAX_FLAT_NAME_BYTES h

  -- a model with such drivers, none of whose nets is above itself, and no latch above a reset value
  pub known_sound : HasResetsOfLatches m → IsAcyclic (reads m) → All (StandsAlone m) m.resets → IsKnownSound m names
  known_sound resets acyclic alone =
      record { sound = record { driven = driven_once; resets = resets; acyclic = acyclic; alone = alone }; limits = within_limits; is = apart.is }
