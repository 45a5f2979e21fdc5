-- A design has at most one network: the rules say its nets one by one, and the name of each that is made.
use Rattle.std.proofs.Common.{◌≡◌, ℕ, ◌<◌, ◌≤◌, List, [], ◌∷◌, ◌++◌, Option, refl, sym, ◌∙◌, ap, subst, arith, All, ⊎_elim}
use Rattle.std.proofs.lemmas.Bool.{false≢true, cases_lt}
use Rattle.std.proofs.lemmas.List.Elements.{All-head, All-tail}
use Rattle.mv_base.specs.Names.{among}
use Rattle.mv_design.specs.declared.design.Decl.{Decl}
use Rattle.mv_design.specs.declared.design.Design.{Design}
use Rattle.mv_design.specs.declared.design.FileModel.{FileModel}
use Rattle.mv_design.specs.declared.table.FileTable.{FileTable}
use Rattle.mv_net.specs.declared.parts.FlatNet.{FlatNet}
use Rattle.mv_net.specs.declared.parts.NetParts.{NetParts}
use Rattle.mv_tree.specs.Tree.{Instances}
use Rattle.mv_tree.specs.Unfolded.{unfolded}
use Rattle.mv_walk.proofs.Unique.{one_tree}
use Rattle.mv_acyclic.specs.Sound.{IsSoundModel, IsWithinLimits}
use Rattle.mv_unfold.specs.Sound.{model_of}
use Rattle.mv_design.specs.Nets.{root_of, drivers}
use Rattle.mv_flat.specs.Places.{net_places}
use Rattle.mv_resets.specs.NetModels.{HasLawfulValues}
use Rattle.mv_design.specs.Proper.{IsLawful, IsProper}
use Rattle.mv_flat.specs.Numbers.{made_name}
use Rattle.mv_flat.specs.declared.covers.TableCovers.{TableCovers}
use Rattle.mv_flat.specs.Covers.{MadeNet, made_of, outputs_of}
use Rattle.mv_flat.specs.Built.{fresh_net, open_nets, output_nets, IsFreshName, AreMade, AreTableNets, AreTables, IsBuilt}
use Rattle.mv_flat.specs.Flat.{IsFlat}
use Rattle.mv_flat.specs.Placed.{ArePlaced}
use Rattle.mv_flat.proofs.Behinds.{placed}
use Rattle.mv_resets.specs.Resets.{with_reset_nets}
use Rattle.mv_flat.proofs.Models.{with_nets, places_few}
use Rattle.mv_flat.proofs.Designs.{model_sound}
use Rattle.mv_flat.proofs.OneCovers.{IsChosenTable, all_chosen, one_table}

-- ---- made nets

-- the least number whose name isn't held isn't above another such number
not_above : (held : List (List ℕ)) (v w : List ℕ) → (p : IsFreshName held v) → (q : IsFreshName held w) → p.number < q.number → ⊥
not_above held v w p q low =
    false≢true (sym p.fresh ∙ (ap (λ u. among u held) p.is ∙ q.least p.number p.positive low))

one_name : (held : List (List ℕ)) (v w : List ℕ) → IsFreshName held v → IsFreshName held w → v ≡ w
one_name held v w p q =
    let same : p.number ≡ q.number =
    ⊎_elim (λ (low : p.number < q.number). absurd (not_above held v w p q low))
    (λ (high : q.number ≤ p.number).
    ⊎_elim (λ (low : q.number < p.number). absurd (not_above held w v q p low)) (λ (up : p.number ≤ q.number). omega (arith, high, up)) (cases_lt q.number p.number))
    (cases_lt p.number q.number)
    in
    p.is ∙ (ap made_name same ∙ sym q.is)

-- ---- nets behind the names that are held

-- nets, and the names that are held then, are the same
record AreSame (nets others : List (Option FlatNet)) (after behind : List (List ℕ)) : Type 0 where
  nets_are : nets ≡ others
  after_is : after ≡ behind

one_all : (mades : List MadeNet) (held : List (List ℕ)) (nets others : List (Option FlatNet)) (after behind : List (List ℕ)) → AreMade mades held nets after
    → AreMade mades held others behind → AreSame nets others after behind
one_all [] held nets others after behind p q = record { nets_are = p.nets_are ∙ sym q.nets_are; after_is = p.after_is ∙ sym q.after_is }
one_all (made ∷ more) held nets others after behind p q =
    let name = one_name held p.name q.name p.fresh q.fresh in
    let P : List ℕ → Type 0 = λ w. AreMade more (held ++ w ∷ []) q.rest behind in
    let rest = one_all more (held ++ p.name ∷ []) p.rest q.rest after behind p.are_rest (subst P (sym name) q.are_rest) in
    record {
      nets_are = p.nets_are ∙ ((λ i. fresh_net (name i) made ∷ rest.nets_are i) ∙ sym q.nets_are);
      after_is = rest.after_is;
    }

module _ (ds : List Decl) (names : List (List ℕ)) (proper : All HasLawfulValues ds) where
  one_nets : (held : List (List ℕ)) (t : FileTable) (nets others : List (Option FlatNet)) (after behind : List (List ℕ)) → IsChosenTable ds names t
      → AreTableNets ds names held t nets after → AreTableNets ds names held t others behind → AreSame nets others after behind
  one_nets held t nets others after behind known p q =
      let covers : p.covers ≡ q.covers = one_table ds names t p.covers q.covers proper known p.are q.are in
      let P : TableCovers → Type 0 = λ cs. AreMade (made_of cs) held q.made behind in
      let made = one_all (made_of p.covers) held p.made q.made after behind p.are_made (subst P (sym covers) q.are_made) in
      record {
        nets_are = p.nets_are ∙ ((λ i. made.nets_are i ++ output_nets ds t.outputs (outputs_of (covers i))) ∙ sym q.nets_are);
        after_is = made.after_is;
      }

  one_tables : (ts : List FileTable) (held : List (List ℕ)) (nets others : List (Option FlatNet)) → All (IsChosenTable ds names) ts → AreTables ds names ts held nets → AreTables ds names ts held others → nets ≡ others
  one_tables [] held nets others known p q = p ∙ sym q
  one_tables (t ∷ ts) held nets others known p q =
      let here = one_nets held t p.here q.here p.after q.after (All-head (IsChosenTable ds names) t ts known) p.are_here q.are_here in
      let P : List (List ℕ) → Type 0 = λ ws. AreTables ds names ts ws q.rest in
      let rest = one_tables ts p.after p.rest q.rest (All-tail (IsChosenTable ds names) t ts known) p.are_rest (subst P (sym here.after_is) q.are_rest) in
      p.joined ∙ ((λ i. here.nets_are i ++ rest i) ∙ sym q.joined)

-- ---- the whole network

same_parts : (a b : NetParts) → a.root ≡ b.root → a.inputs ≡ b.inputs → a.outputs ≡ b.outputs → a.latches ≡ b.latches → a.nets ≡ b.nets → a ≡ b
same_parts a b r x y l n = λ i. record { root = r i; inputs = x i; outputs = y i; latches = l i; nets = n i }

one_built : (m : FileModel) (a b : NetParts) → All HasLawfulValues m.decls → ArePlaced m (net_places m) → IsBuilt m a → IsBuilt m b → a ≡ b
one_built m a b proper known p q =
    let tables = one_tables m.decls (net_places m) proper m.tables (drivers m) p.of_tables q.of_tables (all_chosen m known.tables) p.are_tables q.are_tables in
    same_parts a b (p.root ∙ sym q.root) (p.inputs ∙ sym q.inputs) (p.outputs ∙ sym q.outputs) (p.latches ∙ sym q.latches)
    (p.nets_are ∙ (ap (λ fs. open_nets m ++ fs) tables ∙ sym q.nets_are))

-- a sound model has at most one network
one_of_model : (m : FileModel) (one other : NetParts) → IsLawful m → IsSoundModel m → IsWithinLimits m → IsBuilt (with_reset_nets m) one → IsBuilt (with_reset_nets m) other
    → one ≡ other
one_of_model m one other lawful sound limits p q =
    let nets = with_reset_nets m in
    let are = with_nets m nets lawful sound limits refl in
    let known = placed nets (net_places nets) are.proper are.sound refl (places_few nets are.proper are.few) in
    one_built nets one other are.proper.decls known p q

-- a design has at most one network
pub one_network : (d : Design) (one other : NetParts) → IsProper d → IsFlat one d → IsFlat other d → one ≡ other
one_network d one other proper p q =
    let h = model_sound d proper p.sound p.limits in
    let same : q.sound.tree ≡ p.sound.tree = one_tree d (root_of d).instances q.sound.tree p.sound.tree q.sound.unfolds p.sound.unfolds in
    let P : Instances → Type 0 = λ t. IsBuilt (with_reset_nets (unfolded (root_of d) t)) other in
    one_of_model (model_of d p.sound) one other h.one.lawful h.sound h.one.limits p.built (subst P same q.built)
