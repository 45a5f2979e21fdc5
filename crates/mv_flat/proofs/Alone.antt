-- A design without instances is its root.
use Rattle.std.proofs.Common.{◌≡◌, ℕ, List, [], Option, Some, None, Ok, Err, length, refl, sym, ◌∙◌, ap, subst, arith, All}
use Rattle.std.specs.Prelude.{Result, IfOk, IfSome}
use Rattle.mv_base.specs.Names.{among}
use Rattle.mv_design.specs.declared.design.Design.{Design}
use Rattle.mv_design.specs.declared.design.FileModel.{FileModel}
use Rattle.mv_design.specs.declared.table.FileTable.{FileTable}
use Rattle.mv_design.specs.Nets.{nets_of, root_of}
use Rattle.mv_design.specs.Proper.{IsProper}
use Rattle.mv_tree.specs.Tree.{Instances, NoMore, More}
use Rattle.mv_tree.specs.Places.{homes, places}
use Rattle.mv_tree.specs.Unfolded.{tables_in, unfolded}
use Rattle.mv_walk.specs.declared.opened.Opened.{Opened}
use Rattle.mv_walk.specs.Openings.{openings, AreOpened}
use Rattle.mv_walk.specs.Walk.{HasTree}
use Rattle.mv_acyclic.specs.Glance.{IsKnownSound}
use Rattle.mv_unfold.specs.Placed.{places_by}
use Rattle.mv_unfold.specs.Whole.{HasShortNames}
use Rattle.mv_unfold.proofs.Alone.{good_alone, homes_alone, no_instances}
use Rattle.mv_unfold.proofs.Wholes.{whole_root}
use Rattle.mv_resets.specs.Resets.{all_tables}
use Rattle.mv_resets.proofs.Nets.{resets_single}
use Rattle.mv_flat.specs.Roots.{IsSoundRoot}
use Rattle.mv_flat.specs.Shared.{IsFrom}
use Rattle.mv_flat.specs.declared.shared.SharedTables.{SharedTables}
use Rattle.mv_flat.proofs.Designs.{IsModelOf, root_proper}
use Rattle.mv_flat.proofs.Origins.{tables_known}

-- the nets of the root, where there are no instances
abbrev pub nets_alone : Design → List (List ℕ)
nets_alone d = homes (places (root_of d) NoMore)

module _ (d : Design) (driven : List (List ℕ)) (known : IsKnownSound (root_of d) driven) where
  short_alone : (root_of d).instances ≡ [] → HasShortNames (root_of d) NoMore
  short_alone none =
      let same : nets_alone d ≡ nets_of (root_of d) = homes_alone (root_of d) none in
      record {
        few = let e = ap length same in let f = known.limits.few in omega (arith, e, f);
        short = λ w h. known.limits.short w (sym (ap (among w) same) ∙ h);
      }

  from_tree : (tree : Instances) → HasTree d tree → [] ≡ openings d 0 1 0 tree → IsModelOf d (root_of d) (nets_alone d)
  unfolding unfolded
  from_tree NoMore has is =
      let none = no_instances d (root_of d).instances has.unfolds in
      record {
        tree = NoMore;
        has = has;
        good = good_alone (root_of d) none known.sound.driven known.sound.resets;
        short = short_alone none;
        model_is = refl;
        nets_are = refl;
      }
  from_tree (More p m inside rest) has is = cc

-- the root is the one model of the design
pub root_alone : (d : Design) (opened : List Opened) (driven : List (List ℕ)) → AreOpened d opened → IsSoundRoot d opened driven → IsModelOf d (root_of d) (nets_alone d)
root_alone d opened driven h s = from_tree d driven s.known h.tree h.has (sym s.none ∙ h.is)

-- its tables, with those of its reset nets, are from those that may be shared
pub tables_alone : (d : Design) (opened : List Opened) (driven : List (List ℕ)) (s : SharedTables) → IsProper d → (h : AreOpened d opened) → IsSoundRoot d opened driven
    → All (IsFrom s) (tables_in 0 (places_by d opened)) → (opened ≡ [] → s.origins.items ≡ []) → All (IsFrom s) (all_tables (root_of d))
tables_alone d opened driven s proper h root known none =
    let is : root_of d ≡ unfolded (root_of d) h.tree = whole_root d (root_of d) h.tree (sym root.none ∙ h.is) in
    let P : FileModel → Type 0 = λ m. All (IsFrom s) (all_tables m) in
    let Q : FileModel → Type 0 = λ m. All (λ (t : FileTable). length t.outputs ≡ 1) m.resets in
    subst P (sym is) (tables_known d opened h s known none (subst Q is (resets_single (root_of d) (root_proper d proper).lawful)))

-- a root without instances that is known to be sound
pub sound_alone : {E : Type 0} (d : Design) (opened : List Opened) (m : FileModel) (r : Result (Option (List (List ℕ))) E) → opened ≡ [] → m ≡ root_of d
    → IfOk r (λ o. IfSome o (IsKnownSound m)) → IfOk r (λ o. IfSome o (IsSoundRoot d opened))
sound_alone d opened m (Ok (Some driven)) none is h =
    let P : FileModel → Type 0 = λ n. IsKnownSound n driven in record { none = none; known = subst P is h }
sound_alone d opened m (Ok None) none is h = tt
sound_alone d opened m (Err e) none is h = tt
