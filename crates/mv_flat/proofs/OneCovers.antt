-- A table has at most one set of covers.
use Rattle.std.proofs.Common.{◌≡◌, ℕ, true, List, refl, ap, sym, ◌∙◌, All}
use Rattle.std.proofs.lemmas.Bool.{false≢true}
use Rattle.mv_base.specs.Names.{among}
use Rattle.mv_design.specs.declared.design.Decl.{Decl}
use Rattle.mv_design.specs.declared.design.FileModel.{FileModel}
use Rattle.mv_design.specs.declared.table.FileTable.{FileTable}
use Rattle.mv_design.specs.Nets.{output_of}
use Rattle.mv_resets.specs.NetModels.{HasLawfulValues}
use Rattle.mv_rows.specs.declared.table.FlatTable.{FlatTable}
use Rattle.mv_rows.proofs.OneTable.{one_made}
use Rattle.mv_joint.specs.declared.joint.JointTable.{JointTable}
use Rattle.mv_joint.proofs.OneJoint.{one_joint}
use Rattle.mv_flat.specs.declared.covers.TableCovers.{TableCovers}
use Rattle.mv_flat.specs.declared.covers.TableCovers.TheVariants.{Single, Joint}
use Rattle.mv_flat.specs.Numbers.{columns_at, mark_at, choice_name, choice_at}
use Rattle.mv_flat.specs.Places.{is_joint, net_places}
use Rattle.mv_flat.specs.Placed.{IsPlacedTable}
use Rattle.mv_flat.proofs.Behinds.{tables_chosen}
use Rattle.mv_flat.proofs.Shapes.{table_columns, marked_columns, joint_file, apart}
use Rattle.mv_flat.proofs.Sizes.{HasCovers}

-- a table whose columns have numbers, and its choice net, if it has several outputs
pub record IsChosenTable (ds : List Decl) (names : List (List ℕ)) (t : FileTable) : Type 0 where
  pub placed : IsPlacedTable ds names t
  pub chosen : is_joint t ≡ true → among (choice_name (output_of t)) names ≡ true

-- so are the tables of a model
pub all_chosen : (m : FileModel) → All (IsPlacedTable m.decls (net_places m)) m.tables → All (IsChosenTable m.decls (net_places m)) m.tables
all_chosen m known = λ k d low. record { placed = known k d low; chosen = tables_chosen m (net_places m) refl k d low }

one_single : (ds : List Decl) (names : List (List ℕ)) (t : FileTable) (f g : FlatTable) → All HasLawfulValues ds → IsChosenTable ds names t
    → HasCovers ds names t (Single f) → HasCovers ds names t (Single g) → f ≡ g
one_single ds names t f g proper known p q =
    one_made (columns_at ds names t) t (mark_at names t) f g (table_columns ds names t proper known.placed) (marked_columns ds names t proper known.placed) p.1 q.1

one_of_joint : (ds : List Decl) (names : List (List ℕ)) (t : FileTable) (f g : JointTable) → All HasLawfulValues ds → IsChosenTable ds names t
    → HasCovers ds names t (Joint f) → HasCovers ds names t (Joint g) → f ≡ g
one_of_joint ds names t f g proper known p q =
    let a = apart ds names t proper known.placed (known.chosen p.0) in
    one_joint (columns_at ds names t) t (mark_at names t) (choice_at names t) f g a.inputs a.marked a.chosen (joint_file ds names t known.placed) p.1 q.1

pub one_table : (ds : List Decl) (names : List (List ℕ)) (t : FileTable) (covers others : TableCovers) → All HasLawfulValues ds → IsChosenTable ds names t
    → HasCovers ds names t covers → HasCovers ds names t others → covers ≡ others
one_table ds names t (Single f) (Single g) proper known p q = ap (λ (h : FlatTable). Single h) (one_single ds names t f g proper known p q)
one_table ds names t (Single f) (Joint g) proper known p q = absurd (false≢true (sym p.0 ∙ q.0))
one_table ds names t (Joint f) (Single g) proper known p q = absurd (false≢true (sym q.0 ∙ p.0))
one_table ds names t (Joint f) (Joint g) proper known p q = ap (λ (h : JointTable). Joint h) (one_of_joint ds names t f g proper known p q)
