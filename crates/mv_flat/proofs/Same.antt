-- The network of a model means the same as the model.
use Rattle.std.proofs.Common.{◌≡◌, ◌↔◌, ℕ, true, false, List, [], ◌∷◌, map, Option, Some, None, option_map, is_some, unwrap_or, refl, sym, ◌∙◌, ap, subst}
use Rattle.std.proofs.Common.{arith}
use Rattle.std.specs.Prelude.{nat_eq, nat_lt}
use Rattle.std.specs.List.{list_all}
use Rattle.std.proofs.lemmas.Bool.{false≢true, and_from, and_parts, cond-false, cond-true, eq-eqb, eqb-true, lt-ltb, ltb-true}
use Rattle.std.proofs.lemmas.List.Sums.{list_all-from_AllPass}
use Rattle.std.proofs.lemmas.Simd.{map-map}
use Rattle.mv_base.specs.Meaning.{SameMeaning}
use Rattle.mv_base.specs.Names.{among, place_of}
use Rattle.mv_base.specs.declared.number.NetId.{NetId}
use Rattle.mv_base.proofs.NameLemmas.{is_some-place_of}
use Rattle.mv_design.specs.declared.design.FileLatch.{FileLatch}
use Rattle.mv_design.specs.declared.design.FileModel.{FileModel}
use Rattle.mv_design.specs.declared.table.FileTable.{FileTable}
use Rattle.mv_net.specs.declared.parts.FlatLatch.{FlatLatch}
use Rattle.mv_net.specs.declared.parts.Kind.TheVariants.{Input, Latch}
use Rattle.mv_net.specs.declared.parts.NetParts.{NetParts}
use Rattle.mv_net.specs.Nets.{slot, values_in}
use Rattle.mv_net.specs.Allowed.{net_allows, Agrees, Allows, reset_gives, resets_give, of_net}
use Rattle.mv_design.specs.Values.{count_of}
use Rattle.mv_design.specs.Nets.{latch_outputs, nets_named}
use Rattle.mv_flat.specs.Built.{flat_latch}
use Rattle.mv_flat.specs.Places.{net_places}
use Rattle.mv_acyclic.specs.Numbers.{net_in, number_in}
use Rattle.mv_design.specs.Meaning.{table_holds}
use Rattle.mv_resets.specs.Resets.{reset_name}
use Rattle.mv_resets.specs.Valued.{has_reset_net, reset_is, resets_are, AllowsNets, of_nets}
use Rattle.mv_base.proofs.Lists.{all_from}
use Rattle.mv_acyclic.proofs.Names.{all_from_among}
use Rattle.mv_flat.proofs.Distinct.{places_driven}
use Rattle.mv_flat.proofs.Places.{IsModelNet, named_file}
use Rattle.mv_acyclic.proofs.Commands.{latch_input_named, output_named}
use Rattle.mv_flat.proofs.Naming.{among_first, among_later, map_same, driver_named, open_named, sides_are}
use Rattle.mv_flat.proofs.Valuations.{Follows, table_down}
use Rattle.mv_flat.proofs.Assigned.{by_number, number_follows, number_agrees}
use Rattle.mv_flat.proofs.Ports.{looks_alike}

-- ---- values of lists of nets

ports_follow : (m : FileModel) (at : ℕ → ℕ) (value : List ℕ → ℕ) (ns : List NetId) (ws : List (List ℕ)) → Follows m at value → ns ≡ map (net_in (net_places m)) ws
    → ((w : List ℕ) → among w ws ≡ true → among w (nets_named m) ≡ true) → map (λ (n : NetId). at n.0) ns ≡ map value ws
ports_follow m at value ns ws f e named =
    ap (map (λ (n : NetId). at n.0)) e ∙ map_same (net_in (net_places m)) (λ (n : NetId). at n.0) value ws (λ w h. sym (f.each w (named w h)))

-- the values of one side of the latches
sides_follow : (m : FileModel) (net : NetParts) → IsModelNet m net → (at : ℕ → ℕ) (value : List ℕ → ℕ) (side : FlatLatch → NetId) (name : FileLatch → List ℕ)
    → Follows m at value → ((l : FileLatch) → side (flat_latch (net_places m) l) ≡ net_in (net_places m) (name l))
    → ((w : List ℕ) → among w (map name m.latches) ≡ true → among w (nets_named m) ≡ true)
    → map (λ (l : FlatLatch). (at (side l).0)) net.latches ≡ map value (map name m.latches)
sides_follow m net is at value side name f same named =
    sym (map-map (λ (n : NetId). at n.0) side net.latches)
    ∙ ports_follow m at value (map side net.latches) (map name m.latches) f
    (sides_are m net is side name same) named

-- ---- reset values

module _ (m : FileModel) (net : NetParts) (is : IsModelNet m net) (at : ℕ → ℕ) (value : List ℕ → ℕ) (f : Follows m at value) where
  -- a latch may begin with a value in the network where it may in the model
  begins_by : (w : List ℕ) (v : ℕ) (o : Option ℕ) → among w (nets_named m) ≡ true → place_of (reset_name w) (net_places m) ≡ o
      → reset_gives net.nets at (net_in (net_places m) w) (option_map (λ n. record { 0 = n }) o) v ↔ (reset_is m value w v ≡ true)
  unfolding number_in
  begins_by w v None named e =
      let none : has_reset_net m w ≡ false = sym (places_driven m (reset_name w) refl) ∙ (sym (is_some-place_of (reset_name w) (net_places m)) ∙ ap is_some e) in
      let count : values_in (slot net.nets (number_in (net_places m) w)) ≡ count_of m.decls w = ap values_in (named_file m net is w named).held in
      let is_low : reset_is m value w v ≡ nat_lt v (count_of m.decls w) = cond-false (has_reset_net m w) _ _ none in
      (λ h. is_low ∙ lt-ltb v _ (omega (arith, h, count)), λ h. let l = ltb-true v _ (sym is_low ∙ h) in omega (arith, l, count))
  begins_by w v (Some k) named e =
      let some : has_reset_net m w ≡ true = sym (places_driven m (reset_name w) refl) ∙ (sym (is_some-place_of (reset_name w) (net_places m)) ∙ ap is_some e) in
      let there : value (reset_name w) ≡ at k = f.each (reset_name w) (driver_named m (reset_name w) some) ∙ ap at (ap (λ p. unwrap_or p 0) e) in
      let is_there : reset_is m value w v ≡ nat_eq v (value (reset_name w)) = cond-true (has_reset_net m w) _ _ some in
      (λ h. is_there ∙ eq-eqb v _ (h ∙ sym there), λ h. eqb-true v _ (sym is_there ∙ h) ∙ there)

  begin_alike : (ls : List FileLatch) (r : List ℕ) → ((w : List ℕ) → among w (map (λ (l : FileLatch). l.output) ls) ≡ true → among w (nets_named m) ≡ true)
      → resets_give net.nets at (map (flat_latch (net_places m)) ls) r ↔ (resets_are m value (map (λ (l : FileLatch). l.output) ls) r ≡ true)
  begin_alike [] [] named = (λ h. refl, λ h. tt)
  begin_alike [] (v ∷ vs) named = (λ h. absurd h, λ h. absurd (false≢true h))
  begin_alike (l ∷ ls) [] named = (λ h. absurd h, λ h. absurd (false≢true h))
  begin_alike (l ∷ ls) (v ∷ vs) named =
      let here = begins_by l.output v (place_of (reset_name l.output) (net_places m)) (named l.output (among_first l.output _)) refl in
      let rest = begin_alike ls vs (λ w h. named w (among_later w l.output _ h)) in
      (λ h. and_from _ _ (here.0 h.0) (rest.0 h.1), λ h. let p = and_parts (reset_is m value l.output v) _ h in (here.1 p.0, rest.1 p.1))

  -- so may all of them
  resets_alike : (r : List ℕ) → resets_give net.nets at net.latches r ↔ (resets_are m value (latch_outputs m) r ≡ true)
  resets_alike r =
      let P : List FlatLatch → Type 0 = λ ls. resets_give net.nets at ls r ↔ (resets_are m value (latch_outputs m) r ≡ true) in
      subst P (sym is.built.latches) (begin_alike m.latches r (open_named m Latch))

-- ---- from the network to the model

abbrev by_name : FileModel → (ℕ → ℕ) → List ℕ → ℕ
by_name m at w = at (number_in (net_places m) w)

name_follows : (m : FileModel) (net : NetParts) → IsModelNet m net → (at : ℕ → ℕ) → Agrees net.nets at → Follows m at (by_name m at)
name_follows m net is at agrees = record {
  each = λ w h. refl;
  range = λ w h.
      let file = named_file m net is w h in
      let n : ℕ = number_in (net_places m) w in
      (and_parts (nat_lt (at n) (count_of m.decls w)) _ (sym (ap (λ s. net_allows s at (at n)) file.held) ∙ agrees.each n)).0;
}

tables_hold : (m : FileModel) (net : NetParts) → IsModelNet m net → (at : ℕ → ℕ) → Agrees net.nets at → list_all (table_holds (by_name m at)) m.tables ≡ true
tables_hold m net is at agrees =
    let f = name_follows m net is at agrees in
    list_all-from_AllPass (table_holds (by_name m at)) m.tables
    (all_from (λ (t : FileTable). table_holds (by_name m at) t ≡ true) m.tables (λ k t e. table_down m net is k t e at (by_name m at) f agrees))

down : (m : FileModel) (net : NetParts) → IsModelNet m net → (i s o n r : List ℕ) → Allows net i s o n r → AllowsNets m i s o n r
down m net is i s o n r a =
    let f = name_follows m net is a.at a.agrees in
    record {
      value = by_name m a.at;
      range = all_from_among (λ w. nat_lt (by_name m a.at w) (count_of m.decls w)) (nets_named m) (λ w h. f.range w h);
      tables = tables_hold m net is a.at a.agrees;
      inputs = sym (ports_follow m a.at (by_name m a.at) net.inputs m.inputs f is.built.inputs (open_named m Input)) ∙ a.inputs;
      states = sym (sides_follow m net is a.at (by_name m a.at) (λ l. l.output) (λ l. l.output) f (λ l. refl) (open_named m Latch)) ∙ a.states;
      outputs = sym (ports_follow m a.at (by_name m a.at) net.outputs m.outputs f is.built.outputs (output_named m)) ∙ a.outputs;
      next = sym (sides_follow m net is a.at (by_name m a.at) (λ l. l.input) (λ l. l.input) f (λ l. refl) (latch_input_named m)) ∙ a.next;
      resets = (resets_alike m net is a.at (by_name m a.at) f r).0 a.resets;
    }

-- ---- from the model to the network

up : (m : FileModel) (net : NetParts) → IsModelNet m net → (i s o n r : List ℕ) → AllowsNets m i s o n r → Allows net i s o n r
up m net is i s o n r a =
    let f = number_follows m net is a.value a.range a.tables in
    let at : ℕ → ℕ = by_number m net is a.value a.range a.tables in
    record {
      at = at;
      agrees = number_agrees m net is a.value a.range a.tables;
      inputs = ports_follow m at a.value net.inputs m.inputs f is.built.inputs (open_named m Input) ∙ a.inputs;
      states = sides_follow m net is at a.value (λ l. l.output) (λ l. l.output) f (λ l. refl) (open_named m Latch) ∙ a.states;
      outputs = ports_follow m at a.value net.outputs m.outputs f is.built.outputs (output_named m) ∙ a.outputs;
      next = sides_follow m net is at a.value (λ l. l.input) (λ l. l.input) f (λ l. refl) (latch_input_named m) ∙ a.next;
      resets = (resets_alike m net is at a.value f r).1 a.resets;
    }

-- a model's network means the same as the model with a net for each reset value
pub net_same : (m : FileModel) (net : NetParts) → IsModelNet m net → SameMeaning (of_net net) (of_nets m)
unfolding of_net of_nets
net_same m net is = record {
  same = looks_alike m net is;
  only = λ i s o n r a. down m net is i s o n r a;
  all = λ i s o n r a. up m net is i s o n r a;
}
