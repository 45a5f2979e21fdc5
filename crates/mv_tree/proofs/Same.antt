-- A root with instances means the same as the one model that they are: values of the names of the whole are valuations of the
-- places that are consistent, and the other way round.
use Rattle.std.proofs.Common.{◌≡◌, ℕ, Bool, true, List, [], ◌∷◌, ◌++◌, map, All, refl, sym, ◌∙◌, ap, subst, append-nil}
use Rattle.std.specs.Prelude.{nat_lt}
use Rattle.std.specs.List.{AllByRecursion, list_all}
use Rattle.std.proofs.lemmas.List.Elements.{recursion_from_All}
use Rattle.mv_base.specs.Meaning.{SameMeaning}
use Rattle.mv_base.specs.Names.{among, names_differ}
use Rattle.mv_design.specs.declared.design.Decl.{Decl}
use Rattle.mv_design.specs.declared.design.Design.{Design}
use Rattle.mv_design.specs.declared.design.FileModel.{FileModel}
use Rattle.mv_design.specs.declared.design.Instance.{Instance}
use Rattle.mv_design.specs.Meaning.{in_values, table_holds, may_begin_all, port, latch_port, AllowsModel, of_model}
use Rattle.mv_design.specs.Nets.{latch_inputs, latch_outputs, nets_named}
use Rattle.mv_design.specs.Values.{count_of}
use Rattle.mv_tree.specs.Tree.{Instances, NoMore, More, Unfolds}
use Rattle.mv_tree.specs.Places.{all_nets, root_place, places_in, places, homes}
use Rattle.mv_tree.specs.Unfolded.{tables_in, latches_in, joined, unfolded}
use Rattle.mv_tree.specs.Meaning.{NoValues, Valued, valued_in, states_of, nexts_of, BeginWith, AllowsTree, of_tree}
use Rattle.mv_tree.specs.Bound.{FollowsGrammar, IsWhole}
use Rattle.mv_tree.proofs.Each.{all_pass, named_passes, each-always, each-both, each-from_names, each-from_test, each-map, each-mapped, each-weaker, test-from_each}
use Rattle.mv_tree.proofs.Told.{value_told}
use Rattle.mv_tree.proofs.Homes.{Seat, places_of, TellsOwn, entries, own_told}
use Rattle.mv_tree.proofs.Named.{AreAmong, nets_among, named_among}
use Rattle.mv_tree.proofs.Inside.{AreNamed, are_named, TellsAll}
use Rattle.mv_tree.proofs.Seats.{seats, valued, Allows, seats_valued, seats_places, seats_allow, seats_tell, formals, seat_at, values_at, seats_at, places_at, consistent_at}
use Rattle.mv_tree.proofs.Standing.{Stands, all_stand}
use Rattle.mv_tree.proofs.Whole.{joined_among}
use Rattle.mv_tree.proofs.Allowing.{InRange, tables_hold, tables_same, StandsAt, range_inside, range_outside, latch_values, input_is_net, output_is_net}
use Rattle.mv_tree.proofs.Resets.{latch_homes, latch_outputs_in, all_have_latches, KeepsAll, all_keep}
use Rattle.mv_tree.proofs.Beginning.{latches_alike, begin_inside, begin_outside, map_alike, latches_seen}

-- ---- what holds of a whole

-- the places of a root and its instances, in one model
record IsJoined (root : FileModel) (tree : Instances) : Type 0 where
  named : AreNamed root tree
  once : AllByRecursion (λ p. names_differ (formals p.binds) ≡ true) (places root tree)
  differ : names_differ (homes (places root tree)) ≡ true
  stand : AllByRecursion (Stands (places root tree)) (places root tree)
  keep : AllByRecursion (KeepsAll 0 (places root tree)) (places root tree)
  all_named : (net : List ℕ) → among net (homes (places root tree)) ≡ true → among net (nets_named (joined root (places root tree))) ≡ true

-- ---- from values of the whole to valuations of the places

whole_named : (root : FileModel) (tree : Instances) → IsJoined root tree → AreAmong (nets_named (joined root (places root tree))) (homes (places root tree))
whole_named root tree j = joined_among root (places_in (root_place root) tree) j.stand

-- the places with the values of the names of the whole
abbrev seats_of : (List ℕ → ℕ) → FileModel → Instances → List (Seat ℕ)
seats_of value root tree = map (seat_at value) (places root tree)

-- they are the valuation of the tree
whole_valued : (value : List ℕ → ℕ) (root : FileModel) (tree : Instances)
    → record { model = root; value = value } ∷ valued_in tree (values_at value (root_place root) tree) ≡ map valued (seats_of value root tree)
whole_valued value root tree =
    let r = root_place root in
    ap (λ (xs : List Valued). record { model = root; value = value } ∷ xs)
    (seats_valued r tree (values_at value r tree) ∙ ap (map valued) (seats_at value r tree))

tree_allows : (root : FileModel) (tree : Instances) → IsJoined root tree → (i s o n r : List ℕ) → AllowsModel (joined root (places root tree)) i s o n r
    → AllowsTree root tree i s o n r
tree_allows root tree j i s o n r a =
    let ps = places root tree in
    let whole = joined root ps in
    let value = a.value in
    let ss = seats_of value root tree in
    let are : places_of ss ≡ ps = places_at value ps in
    let tell : AllByRecursion (TellsAll value) ss =
    each-map (TellsAll value) (seat_at value) ps (each-always (λ p. TellsAll value (seat_at value p)) (λ p. record { all = λ net l. refl }) ps) in
    let stand : AllByRecursion (StandsAt ps) ss = each-map (StandsAt ps) (seat_at value) ps j.stand in
    let keep : AllByRecursion (λ s. KeepsAll 0 ps s.place) ss = each-map (λ s. KeepsAll 0 ps s.place) (seat_at value) ps j.keep in
    let range : AllByRecursion InRange ss =
    range_inside ps value ss stand tell
    (λ w l. named_passes (λ net. nat_lt (value net) (count_of whole.decls net)) (nets_named whole) w a.range (j.all_named w l)) in
    let tables : list_all tables_hold ss ≡ true = sym (tables_same value 0 ss tell) ∙ (ap (λ qs. list_all (table_holds value) (tables_in 0 qs)) are ∙ a.tables) in
    let allows : AllByRecursion Allows ss =
    each-both InRange (λ s. tables_hold s ≡ true) Allows (λ s x y. record { range = x; tables = y }) ss range (each-from_test tables_hold ss tables) in
    let alike = latches_alike root ps value ss stand tell keep in
    let valued_are = whole_valued value root tree in
    record {
      value = value;
      inside = values_at value (root_place root) tree;
      here = allows.0;
      consistent = consistent_at value (root_place root) tree j.once.1 (each-mapped Allows (seat_at value) (places_in (root_place root) tree) allows.1);
      inputs = a.inputs;
      states = ap states_of valued_are
          ∙ (sym (latch_values value (λ l. l.output) output_is_net ss tell) ∙ (ap (λ qs. map value (map (λ l. l.output) (latches_in qs))) are ∙ a.states));
      outputs = a.outputs;
      next = ap nexts_of valued_are
          ∙ (sym (latch_values value (λ l. l.input) input_is_net ss tell) ∙ (ap (λ qs. map value (map (λ l. l.input) (latches_in qs))) are ∙ a.next));
      resets = subst (λ xs. BeginWith xs r) (sym valued_are) (begin_inside whole value ss r alike (ap (λ qs. may_begin_all whole value (latches_in qs) r) are ∙ a.resets));
    }

-- ---- from valuations of the places to values of the whole

model_allows : (root : FileModel) (tree : Instances) → IsJoined root tree → (i s o n r : List ℕ) → AllowsTree root tree i s o n r
    → AllowsModel (joined root (places root tree)) i s o n r
model_allows root tree j i s o n r t =
    let ps = places root tree in
    let whole = joined root ps in
    let ss = seats root tree t.value t.inside in
    let are : places_of ss ≡ ps = ap (λ qs. root_place root ∷ qs) (seats_places t.value (root_place root) tree t.inside t.consistent) in
    let value = value_told 0 (entries ss) in
    let own : AllByRecursion (TellsOwn value) ss = own_told 0 ss (ap (λ qs. names_differ (homes qs)) are ∙ j.differ) in
    let tell : AllByRecursion (TellsAll value) ss = seats_tell value root tree t.value t.inside t.consistent j.named own in
    let stand : AllByRecursion (StandsAt ps) ss = each-mapped (Stands ps) (λ s. s.place) ss (subst (AllByRecursion (Stands ps)) (sym are) j.stand) in
    let keep : AllByRecursion (λ s. KeepsAll 0 ps s.place) ss = each-mapped (KeepsAll 0 ps) (λ s. s.place) ss (subst (AllByRecursion (KeepsAll 0 ps)) (sym are) j.keep) in
    let allows : AllByRecursion Allows ss = (t.here, seats_allow t.value (root_place root) tree t.inside t.consistent) in
    let range : AllByRecursion InRange ss = each-weaker Allows InRange (λ s a. a.range) ss allows in
    let tables : AllByRecursion (λ s. tables_hold s ≡ true) ss = each-weaker Allows (λ s. tables_hold s ≡ true) (λ s a. a.tables) ss allows in
    let alike = latches_alike root ps value ss stand tell keep in
    let valued_are : record { model = root; value = t.value } ∷ valued_in tree t.inside ≡ map valued ss =
    ap (λ (xs : List Valued). record { model = root; value = t.value } ∷ xs) (seats_valued (root_place root) tree t.inside) in
    let of_root : (ws : List (List ℕ)) → AreAmong ws (all_nets root) → map value ws ≡ map t.value ws =
    λ ws a. map_alike value t.value ws (each-from_names (λ w. value w ≡ t.value w) ws (λ w l. tell.0.all w (a.each w l))) in
    record {
      value = value;
      range = all_pass (λ w. nat_lt (value w) (count_of whole.decls w)) (nets_named whole)
          (λ w l. range_outside ps value ss are stand tell range w ((whole_named root tree j).each w l));
      tables = ap (λ qs. list_all (table_holds value) (tables_in 0 qs)) (sym are) ∙ (tables_same value 0 ss tell ∙ test-from_each tables_hold ss tables);
      inputs = of_root root.inputs (nets_among root).inputs ∙ t.inputs;
      states = ap (λ qs. map value (map (λ l. l.output) (latches_in qs))) (sym are)
          ∙ (latch_values value (λ l. l.output) output_is_net ss tell ∙ (ap states_of (sym valued_are) ∙ t.states));
      outputs = of_root root.outputs (nets_among root).outputs ∙ t.outputs;
      next = ap (λ qs. map value (map (λ l. l.input) (latches_in qs))) (sym are)
          ∙ (latch_values value (λ l. l.input) input_is_net ss tell ∙ (ap nexts_of (sym valued_are) ∙ t.next));
      resets = ap (λ qs. may_begin_all whole value (latches_in qs) r) (sym are) ∙ begin_outside whole value ss r alike (subst (λ xs. BeginWith xs r) valued_are t.resets);
    }

-- ---- what is seen from outside

ports_same : (root : FileModel) (tree : Instances) → IsJoined root tree → (ws : List (List ℕ)) → AreAmong ws (all_nets root)
    → map (port (joined root (places root tree))) ws ≡ map (port root) ws
ports_same root tree j ws a =
    let whole = joined root (places root tree) in
    map_alike (port whole) (port root) ws
    (each-from_names (λ w. port whole w ≡ port root w) ws (λ w l. ap (λ (vs : List (List ℕ)). record { name = w; values = vs }) (j.stand.0.values w (a.each w l))))

joined_same : (root : FileModel) (tree : Instances) → IsJoined root tree → SameMeaning (of_model (joined root (places root tree))) (of_tree root tree)
unfolding of_model of_tree
joined_same root tree j =
    let own = nets_among root in
    let ps = places root tree in
    record {
      same = rw (ports_same root tree j root.inputs own.inputs, ports_same root tree j root.outputs own.outputs, latches_seen root ps ps j.stand j.keep) refl;
      only = tree_allows root tree j;
      all = model_allows root tree j;
    }

-- ---- a root without instances

-- nets that are among others have values in range where the others have
values_among : (ds : List Decl) (value : List ℕ → ℕ) (nets others : List (List ℕ)) → AreAmong others nets → in_values ds value nets ≡ true
    → in_values ds value others ≡ true
values_among ds value nets others a h =
    let fits : List ℕ → Bool = λ w. nat_lt (value w) (count_of ds w) in all_pass fits others (λ w l. named_passes fits nets w h (a.each w l))

root_allows : (root : FileModel) → AreAmong (all_nets root) (nets_named root) → (i s o n r : List ℕ) → AllowsModel root i s o n r → AllowsTree root NoMore i s o n r
root_allows root among_them i s o n r a = record {
  value = a.value;
  inside = NoValues;
  here = record { range = values_among root.decls a.value (nets_named root) (all_nets root) among_them a.range; tables = a.tables };
  consistent = tt;
  inputs = a.inputs;
  states = append-nil (map a.value (latch_outputs root)) ∙ a.states;
  outputs = a.outputs;
  next = append-nil (map a.value (latch_inputs root)) ∙ a.next;
  resets = record { here = r; rest = []; joined = sym (append-nil r); begins = a.resets; others = refl };
}

allows_root : (root : FileModel) → (i s o n r : List ℕ) → AllowsTree root NoMore i s o n r → AllowsModel root i s o n r
allows_root root i s o n r t =
    let begin = t.resets in
    let only : r ≡ begin.here = begin.joined ∙ (ap (λ vs. begin.here ++ vs) begin.others ∙ append-nil begin.here) in
    record {
      value = t.value;
      range = values_among root.decls t.value (all_nets root) (nets_named root) (named_among root (all_nets root) (nets_among root)) t.here.range;
      tables = t.here.tables;
      inputs = t.inputs;
      states = sym (append-nil (map t.value (latch_outputs root))) ∙ t.states;
      outputs = t.outputs;
      next = sym (append-nil (map t.value (latch_inputs root))) ∙ t.next;
      resets = ap (may_begin_all root t.value root.latches) only ∙ begin.begins;
    }

root_same : (root : FileModel) → AreAmong (all_nets root) (nets_named root) → SameMeaning (of_model root) (of_tree root NoMore)
unfolding of_model of_tree
root_same root a = record {
  same = rw (append-nil (map (latch_port root) root.latches)) refl;
  only = root_allows root a;
  all = allows_root root;
}

-- ---- the whole

whole_joined : (d : Design) (root : FileModel) (instance : Instance) (model : FileModel) (inside rest : Instances) → Unfolds d root.instances (More instance model inside rest)
    → IsWhole root (More instance model inside rest) → All FollowsGrammar (places root (More instance model inside rest))
    → IsJoined root (More instance model inside rest)
unfolding unfolded
whole_joined d root instance model inside rest u w g =
    let tree = More instance model inside rest in
    let ps = places root tree in
    let named = are_named d root tree u in
    let latches : names_differ (latch_homes ps) ≡ true = ap names_differ (sym (latch_outputs_in ps)) ∙ w.latches in
    record {
      named = named;
      once = each-weaker FollowsGrammar (λ p. names_differ (formals p.binds) ≡ true) (λ p h. h.once) ps (recursion_from_All FollowsGrammar ps g);
      differ = w.differ;
      stand = all_stand root tree named w.bound w.differ;
      keep = all_keep 0 ps (all_have_latches ps g w.resets) latches;
      all_named = w.named;
    }

root_named : (root : FileModel) → IsWhole root NoMore → AreAmong (all_nets root) (nets_named root)
unfolding unfolded
root_named root w = record { each = λ net l. w.named net ((all_stand root NoMore tt tt w.differ).0.listed net l) }

pub same_meaning : (d : Design) (root : FileModel) (tree : Instances) → Unfolds d root.instances tree → IsWhole root tree → All FollowsGrammar (places root tree)
    → SameMeaning (of_model (unfolded root tree)) (of_tree root tree)
unfolding unfolded
same_meaning d root NoMore u w g = root_same root (root_named root w)
same_meaning d root (More instance model inside rest) u w g =
    joined_same root (More instance model inside rest) (whole_joined d root instance model inside rest u w g)
