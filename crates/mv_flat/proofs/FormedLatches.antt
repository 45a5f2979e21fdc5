-- The latches of a model's network, and their reset nets: each latch with a reset net has the only one of its name.
use Rattle.std.proofs.Common.{◌≡◌, ℕ, true, false, not, ◌&&◌, List, [], ◌∷◌, length, map, filter, cond, Option, Some, None, option_map, is_some, unwrap_or, refl, sym, ◌∙◌, ap, subst, ⊎_elim, All}
use Rattle.std.proofs.lemmas.Bool.{and_from, and_parts, cases_Bool, cond-true, cond-false, not-true, not_from_false}
use Rattle.std.proofs.lemmas.List.Elements.{All-head, All-tail}
use Rattle.std.proofs.lemmas.Map.Views.{any-filter_same}
use Rattle.std.proofs.lemmas.Option.{none-some, same_Some}
use Rattle.std.proofs.Math.Bool.{and-false}
use Rattle.mv_base.specs.Names.{same_word, among, names_differ, place_of}
use Rattle.mv_base.specs.declared.number.NetId.{NetId}
use Rattle.mv_base.proofs.NameLemmas.{same_word_is, is_some-place_of}
use Rattle.mv_design.specs.declared.design.FileLatch.{FileLatch}
use Rattle.mv_design.specs.declared.design.FileModel.{FileModel}
use Rattle.mv_design.specs.Nets.{drivers, latch_outputs, nets_named}
use Rattle.mv_design.specs.Proper.{IsFileLatch}
use Rattle.mv_net.specs.declared.parts.FlatLatch.{FlatLatch}
use Rattle.mv_net.specs.declared.parts.NetParts.{NetParts}
use Rattle.mv_net.specs.declared.parts.Kind.TheVariants.{Latch, Reset}
use Rattle.mv_net.specs.Nets.{values_in}
use Rattle.mv_net.specs.Formed.{IsKind, IsLatch, IsResetNet, AllLatches, AreKind, latch_resets, with_reset}
use Rattle.mv_resets.specs.Resets.{reset_name}
use Rattle.mv_resets.proofs.Words.{IsNamed, named, reset_among}
use Rattle.mv_acyclic.specs.Numbers.{net_in, number_in}
use Rattle.mv_flat.specs.Built.{flat_latch, kind_of}
use Rattle.mv_flat.specs.Numbers.{kept_names}
use Rattle.mv_flat.specs.Places.{net_places}
use Rattle.mv_flat.proofs.Distinct.{places_driven}
use Rattle.mv_flat.proofs.Lawful.{kind_reset}
use Rattle.mv_flat.proofs.Places.{IsModelNet, open_slot, driven_file, named_file}
use Rattle.mv_acyclic.proofs.Commands.{latch_input_named}
use Rattle.mv_flat.proofs.Naming.{IsNumberOf, among_first, among_later, driver_named}
use Rattle.mv_flat.proofs.FormedTables.{file_readable}
use Rattle.mv_flat.proofs.FormedLists.{reset_output, names_formed}

-- ---- the reset net of a latch

-- the number is that of the latch's reset net
record IsResetAt (names : List (List ℕ)) (latch : List ℕ) (n : ℕ) : Type 0 where
  listed : among (reset_name latch) names ≡ true
  number : number_in names (reset_name latch) ≡ n

reset_at : (names : List (List ℕ)) (latch : List ℕ) (n : NetId) (o : Option ℕ) → place_of (reset_name latch) names ≡ o
    → option_map (λ k. record { 0 = k }) o ≡ Some n → IsResetAt names latch n.0
unfolding number_in
reset_at names latch n None e h = absurd (none-some n h)
reset_at names latch n (Some k) e h = record {
  listed = sym (is_some-place_of (reset_name latch) names) ∙ ap is_some e;
  number = ap (λ p. unwrap_or p 0) e ∙ ap (λ (i : NetId). i.0) (same_Some (record { 0 = k }) n h);
}

reset_formed : (m : FileModel) (net : NetParts) → IsModelNet m net → (w : List ℕ) → among w (latch_outputs m) ≡ true → among (reset_name w) (drivers m) ≡ true
    → IsResetNet net.nets (number_in (net_places m) w) (number_in (net_places m) (reset_name w))
reset_formed m net is w state driven =
    let f = driven_file m net is (reset_name w) driven in
    let same = (is.proper.resets w driven).values in
    record {
      kind = record { net = _; held = f.held; is = f.reset refl };
      latch = _;
      held = open_slot m net is Latch w state;
      name = refl;
      values = ap length same;
      value_names = ap kept_names same;
    }

-- ---- latches

latch_formed : (m : FileModel) (net : NetParts) → IsModelNet m net → (l : FileLatch) → IsFileLatch m.decls l → among l.input (nets_named m) ≡ true
    → among l.output (latch_outputs m) ≡ true → IsLatch net.nets (flat_latch (net_places m) l)
latch_formed m net is l proper input state =
    let read = named_file m net is l.input input in
    let held = open_slot m net is Latch l.output state in
    record {
      input = file_readable m net.nets l.input proper.input read;
      output = record { net = _; held = held; is = refl };
      values = ap values_in read.held ∙ (proper.counts ∙ sym (ap values_in held));
      reset = λ n e.
          let at = reset_at (net_places m) l.output n (place_of (reset_name l.output) (net_places m)) refl e in
          let P : ℕ → Type 0 = IsResetNet net.nets (number_in (net_places m) l.output) in
          subst P at.number (reset_formed m net is l.output state (sym (places_driven m (reset_name l.output) refl) ∙ at.listed));
    }

all_formed : (m : FileModel) (net : NetParts) → IsModelNet m net → (ls : List FileLatch) → All (IsFileLatch m.decls) ls
    → ((w : List ℕ) → among w (map (λ (l : FileLatch). l.input) ls) ≡ true → among w (nets_named m) ≡ true)
    → ((w : List ℕ) → among w (map (λ (l : FileLatch). l.output) ls) ≡ true → among w (latch_outputs m) ≡ true)
    → AllLatches net.nets (map (flat_latch (net_places m)) ls)
all_formed m net is [] proper inputs states = tt
all_formed m net is (l ∷ ls) proper inputs states = (
  latch_formed m net is l (All-head (IsFileLatch m.decls) l ls proper) (inputs l.input (among_first l.input _)) (states l.output (among_first l.output _)),
  all_formed m net is ls (All-tail (IsFileLatch m.decls) l ls proper)
      (λ w h. inputs w (among_later w l.input _ h)) (λ w h. states w (among_later w l.output _ h)),
)

pub latches_formed : (m : FileModel) (net : NetParts) → IsModelNet m net → AllLatches net.nets net.latches
latches_formed m net is =
    let P : List FlatLatch → Type 0 = AllLatches net.nets in
    subst P (sym is.built.latches) (all_formed m net is m.latches is.proper.latches (latch_input_named m) (λ w h. h))

-- ---- the reset nets in order

-- those of these names that are in a list
abbrev kept : List (List ℕ) → List (List ℕ) → List (List ℕ)
kept names ws = filter (λ v. among v names) ws

among-kept : (w : List ℕ) (names ws : List (List ℕ)) → among w (kept names ws) ≡ (among w names && among w ws)
among-kept w names ws = any-filter_same (same_word w) (λ v. among v names) (among w names) (λ v y. ap (λ x. among x names) (sym (same_word_is w v y))) ws

differ-kept : (names ws : List (List ℕ)) → names_differ ws ≡ true → names_differ (kept names ws) ≡ true
differ-kept names [] h = refl
differ-kept names (w ∷ ws) h =
    let p = and_parts (not (among w ws)) (names_differ ws) h in
    let rest = differ-kept names ws p.1 in
    let new : among w (kept names ws) ≡ false =
    among-kept w names ws ∙ (ap (λ b. among w names && b) (not-true (among w ws) p.0) ∙ and-false (among w names)) in
    ⊎_elim
    (λ (y : among w names ≡ true). ap names_differ (cond-true (among w names) (w ∷ kept names ws) (kept names ws) y) ∙ and_from _ _ (not_from_false _ new) rest)
    (λ (n : among w names ≡ false). ap names_differ (cond-false (among w names) (w ∷ kept names ws) (kept names ws) n) ∙ rest)
    (cases_Bool (among w names))

differ-resets : (ws : List (List ℕ)) → names_differ (map reset_name ws) ≡ names_differ ws
differ-resets [] = refl
differ-resets (w ∷ ws) = λ i. not (reset_among w ws i) && differ-resets ws i

one_reset : (names : List (List ℕ)) (latch : List ℕ) (ns : List NetId) (ws : List (List ℕ)) (o : Option ℕ) → place_of (reset_name latch) names ≡ o
    → ns ≡ map (net_in names) ws
    → with_reset (option_map (λ k. record { 0 = k }) o) ns ≡ map (net_in names) (cond (among (reset_name latch) names) (reset_name latch ∷ ws) ws)
unfolding number_in
one_reset names latch ns ws None e same =
    let none : among (reset_name latch) names ≡ false = sym (is_some-place_of (reset_name latch) names) ∙ ap is_some e in
    same ∙ ap (map (net_in names)) (sym (cond-false (among (reset_name latch) names) (reset_name latch ∷ ws) ws none))
one_reset names latch ns ws (Some k) e same =
    let some : among (reset_name latch) names ≡ true = sym (is_some-place_of (reset_name latch) names) ∙ ap is_some e in
    let number : ◌≡◌ {A = NetId} (record { 0 = k }) (net_in names (reset_name latch)) = ap (λ p. record { 0 = unwrap_or p 0 }) (sym e) in
    (λ i. number i ∷ same i) ∙ ap (map (net_in names)) (sym (cond-true (among (reset_name latch) names) (reset_name latch ∷ ws) ws some))

resets_listed : (names : List (List ℕ)) (ls : List FileLatch)
    → latch_resets (map (flat_latch names) ls) ≡ map (net_in names) (kept names (map reset_name (map (λ (l : FileLatch). l.output) ls)))
resets_listed names [] = refl
resets_listed names (l ∷ ls) = one_reset names l.output _ _ (place_of (reset_name l.output) names) refl (resets_listed names ls)

reset_only : (m : FileModel) (net : NetParts) → IsModelNet m net → (n : ℕ) → IsKind net.nets n Reset
    → IsNumberOf (net_places m) (kept (net_places m) (map reset_name (latch_outputs m))) n
reset_only m net is n k =
    let o = reset_output m net is n k in
    let r = kind_reset o.name o.is in
    let driven = ap (λ w. among w (drivers m)) (sym r.is) ∙ o.driven in
    record {
      name = reset_name r.latch;
      listed =
          among-kept (reset_name r.latch) (net_places m) (map reset_name (latch_outputs m))
          ∙ and_from _ _ (places_driven m (reset_name r.latch) refl ∙ driven)
          (reset_among r.latch (latch_outputs m) ∙ (is.proper.resets r.latch driven).listed);
      number = ap (number_in (net_places m)) (sym r.is) ∙ o.number;
    }

pub resets_formed : (m : FileModel) (net : NetParts) → IsModelNet m net → names_differ (latch_outputs m) ≡ true
    → AreKind net.nets Reset (latch_resets net.latches)
resets_formed m net is differ =
    let ws : List (List ℕ) = kept (net_places m) (map reset_name (latch_outputs m)) in
    names_formed m net is Reset ws (λ w h. driver_named m w (driven w h))
    (differ-kept (net_places m) (map reset_name (latch_outputs m)) (differ-resets (latch_outputs m) ∙ differ)) (reset_only m net is)
    (λ w h. let f = driven_file m net is w (driven w h) in record { net = _; held = f.held; is = f.reset (ap kind_of (of_latch w h).is) })
    (latch_resets net.latches) (ap latch_resets is.built.latches ∙ resets_listed (net_places m) m.latches)
  where
    parts : (w : List ℕ) → among w (kept (net_places m) (map reset_name (latch_outputs m))) ≡ true
        → (among w (net_places m) ≡ true) × (among w (map reset_name (latch_outputs m)) ≡ true)
    parts w h = and_parts _ _ (sym (among-kept w (net_places m) (map reset_name (latch_outputs m))) ∙ h)

    of_latch : (w : List ℕ) → among w (kept (net_places m) (map reset_name (latch_outputs m))) ≡ true → IsNamed (latch_outputs m) w
    of_latch w h = named w (latch_outputs m) (parts w h).1

    driven : (w : List ℕ) → among w (kept (net_places m) (map reset_name (latch_outputs m))) ≡ true → among w (drivers m) ≡ true
    driven w h =
        let r = of_latch w h in
        ap (λ v. among v (drivers m)) r.is ∙ (sym (places_driven m (reset_name r.latch) refl) ∙ (ap (λ v. among v (net_places m)) (sym r.is) ∙ (parts w h).0))
