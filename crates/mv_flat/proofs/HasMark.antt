-- The mark that a table gets is the one that the numbers leave room for.
use Rattle.std.proofs.Common.{◌≡◌, ℕ, true, false, List, refl, sym, ◌∙◌, ap, ⊎_elim, All}
use Rattle.std.specs.Prelude.{nat_eq, is_some}
use Rattle.std.proofs.lemmas.Bool.{cases_Bool, cond-false, cond-true, eq-eqb, eqb-true, false_from_ne_true, false≢true}
use Rattle.mv_base.specs.Names.{same_word, among}
use Rattle.mv_base.proofs.NameLemmas.{same_word_is, same_word_refl}
use Rattle.mv_design.specs.declared.design.Decl.{Decl}
use Rattle.mv_design.specs.declared.table.FileTable.{FileTable}
use Rattle.mv_resets.specs.NetModels.{HasLawfulValues}
use Rattle.mv_rows.specs.declared.table.FlatTable.{FlatTable}
use Rattle.mv_rows.specs.Flat.{IsMade}
use Rattle.mv_rows.specs.Marked.{is_marked}
use Rattle.mv_rows.specs.Renumbered.{AreRenumbered}
use Rattle.mv_rows.proofs.Marked.{marked_exactly}
use Rattle.mv_rows.proofs.Renumbered.{marked_alike}
use Rattle.mv_joint.specs.Plain.{is_joint_marked}
use Rattle.mv_joint.proofs.JointMarked.{joint_marked_alike, joint_marked_exactly}
use Rattle.mv_acyclic.specs.Numbers.{number_in}
use Rattle.mv_acyclic.proofs.Names.{all_among}
use Rattle.mv_flat.specs.declared.covers.TableCovers.{TableCovers}
use Rattle.mv_flat.specs.declared.covers.TableCovers.TheVariants.{Single, Joint}
use Rattle.mv_flat.specs.Covers.{IsMadeTable, mark_of}
use Rattle.mv_flat.specs.Numbers.{column_of, columns_at, mark_at, choice_at}
use Rattle.mv_flat.specs.Places.{has_mark, is_joint}
use Rattle.mv_flat.specs.Placed.{IsPlacedTable}
use Rattle.mv_flat.proofs.Numbered.{same_number}
use Rattle.mv_flat.proofs.Singles.{single_output}
use Rattle.mv_flat.proofs.Shapes.{table_columns, table_is}

-- names have one number where they are one name
numbers_same : (names : List (List ℕ)) (u w : List ℕ) → among u names ≡ true → among w names ≡ true → nat_eq (number_in names u) (number_in names w) ≡ same_word u w
numbers_same names u w p q =
    ⊎_elim
    (λ (y : same_word u w ≡ true). eq-eqb _ _ (ap (number_in names) (same_word_is u w y)) ∙ sym y)
    (λ (n : same_word u w ≡ false).
    false_from_ne_true _ (λ y. false≢true (sym n ∙ (ap (same_word u) (sym (same_number names u w p q (eqb-true _ _ y))) ∙ same_word_refl u))) ∙ sym n)
    (cases_Bool (same_word u w))

-- by other numbers, a table's columns have as many values, and the same are of one net
renumbered : (ds : List Decl) (names : List (List ℕ)) (t : FileTable) → IsPlacedTable ds names t
    → AreRenumbered (column_of ds names) (column_of ds t.inputs) t.inputs
renumbered ds names t p = record {
  counts = λ u h. refl;
  nets = λ u w h k.
      numbers_same names u w (all_among (λ v. among v names) t.inputs u p.known h) (all_among (λ v. among v names) t.inputs w p.known k)
      ∙ sym (numbers_same t.inputs u w h k);
}

-- whether a table gets a mark doesn't depend on the numbers
pub marked_by : (ds : List Decl) (names : List (List ℕ)) (t : FileTable) → IsPlacedTable ds names t → is_joint t ≡ false
    → is_marked (columns_at ds names t) t ≡ has_mark ds t
unfolding has_mark
marked_by ds names t p single =
    let r = renumbered ds names t p in
    marked_alike (column_of ds names) (column_of ds t.inputs) t.inputs t r.counts r.nets ∙ sym (cond-false (is_joint t) _ _ single)

pub joint_marked_by : (ds : List Decl) (names : List (List ℕ)) (t : FileTable) → IsPlacedTable ds names t → is_joint t ≡ true
    → is_joint_marked (columns_at ds names t) t ≡ has_mark ds t
unfolding has_mark
joint_marked_by ds names t p joint =
    joint_marked_alike (column_of ds names) (column_of ds t.inputs) t.inputs t (renumbered ds names t p) ∙ sym (cond-true (is_joint t) _ _ joint)

-- the covers of a table of one output have a mark where it gets one
pub mark_is : (ds : List Decl) (names : List (List ℕ)) (t : FileTable) (flat : FlatTable) → All HasLawfulValues ds → IsPlacedTable ds names t
    → is_joint t ≡ false → IsMade (columns_at ds names t) t (mark_at names t) flat → is_some flat.mark ≡ has_mark ds t
mark_is ds names t flat all p single made =
    marked_exactly (columns_at ds names t) t (mark_at names t) flat (table_columns ds names t all p)
    (table_is ds names t p (single_output t single p.fits.some)) made
    ∙ marked_by ds names t p single

-- the covers of a table have a mark where it gets one
pub covers_marked : (ds : List Decl) (names : List (List ℕ)) (t : FileTable) (covers : TableCovers) → All HasLawfulValues ds → IsPlacedTable ds names t
    → IsMadeTable (columns_at ds names t) t (mark_at names t) (choice_at names t) covers → is_some (mark_of covers) ≡ has_mark ds t
covers_marked ds names t (Single flat) all p made = mark_is ds names t flat all p made.0 made.1
covers_marked ds names t (Joint joint) all p made =
    joint_marked_exactly (columns_at ds names t) t (mark_at names t) (choice_at names t) joint made.1 ∙ joint_marked_by ds names t p made.0
