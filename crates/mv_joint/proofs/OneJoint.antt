-- A table of several outputs has at most one choice net, with one table, one table for each output, and one mark.
use Rattle.std.proofs.Common.{◌≡◌, ℕ, ◌+◌, ◌≤◌, false, Option, Some, None, List, [], ◌∷◌, length, nat_eq, refl, sym, ◌∙◌, ap, arith}
use Rattle.std.specs.List.{list_any}
use Rattle.mv_base.specs.declared.limits.TheConstants.{MAX_VALUES}
use Rattle.mv_base.specs.declared.number.NetId.{NetId}
use Rattle.mv_cover.specs.declared.cover.Cover.{Cover}
use Rattle.mv_design.specs.declared.table.FileTable.{FileTable}
use Rattle.mv_rows.specs.declared.column.Column.{Column}
use Rattle.mv_rows.specs.declared.table.FlatTable.{FlatTable}
use Rattle.mv_rows.specs.Cubes.{AreColumns}
use Rattle.mv_rows.specs.Flat.{with_mark}
use Rattle.mv_rows.proofs.OneTable.{one_made}
use Rattle.mv_joint.specs.declared.joint.JointTable.{JointTable}
use Rattle.mv_joint.specs.Plain.{IsJointFile, plain_of}
use Rattle.mv_joint.specs.Joint.{distinct, choice_table, output_table, choice_columns, IsCoverOf, AreOutputs, IsMarkOf, IsMadeJoint}
use Rattle.mv_joint.specs.Lawful.{IsPlain}
use Rattle.mv_joint.proofs.Tables.{plain_lawful, choice_lawful, choice_with_mark, apart_mark}

one_cover : (cs : List Column) (t : FileTable) (mark : NetId) (a b : Cover) → AreColumns cs → AreColumns (with_mark cs mark) → IsCoverOf cs t mark a → IsCoverOf cs t mark b → a ≡ b
one_cover cs t mark a b columns with p q = ap (λ (f : FlatTable). f.cover) (one_made cs t mark (record { cover = a; mark = None }) (record { cover = b; mark = None }) columns with p q)

one_outputs : (all : List (List ℕ)) (mark choice : NetId) (j : ℕ) (xs ys : List Cover) → length all ≤ MAX_VALUES → nat_eq mark.0 choice.0 ≡ false → length xs ≡ length ys → AreOutputs all mark choice j xs → AreOutputs all mark choice j ys → xs ≡ ys
one_outputs all mark choice j [] [] few apart long p q = refl
one_outputs all mark choice j [] (y ∷ ys) few apart long p q = absurd (omega (arith, long))
one_outputs all mark choice j (x ∷ xs) [] few apart long p q = absurd (omega (arith, long))
one_outputs all mark choice j (x ∷ xs) (y ∷ ys) few apart long p q =
    let here = one_cover (choice_columns all choice) (output_table all j) mark x y (choice_lawful all choice few) (choice_with_mark all choice mark few apart) p.0 q.0 in
    let rest = one_outputs all mark choice (j + 1) xs ys few apart (omega (arith, long)) p.1 q.1 in
    λ i. here i ∷ rest i

one_mark : (cs : List Column) (mark : NetId) (t : Option FileTable) (a b : Option Cover) → AreColumns cs → AreColumns (with_mark cs mark) → IsMarkOf cs mark t a → IsMarkOf cs mark t b → a ≡ b
one_mark cs mark None None None columns with p q = refl
one_mark cs mark None (Some a) b columns with p q = absurd p
one_mark cs mark None None (Some b) columns with p q = absurd q
one_mark cs mark (Some t) None b columns with p q = absurd p
one_mark cs mark (Some t) (Some a) None columns with p q = absurd q
one_mark cs mark (Some t) (Some a) (Some b) columns with p q = ap (λ (c : Cover). Some c) (one_cover cs t mark a b columns with p q)

same_joint : (f g : JointTable) → f.values ≡ g.values → f.choice ≡ g.choice → f.outputs ≡ g.outputs → f.mark ≡ g.mark → f ≡ g
same_joint f g v c o m = λ i. record { values = v i; choice = c i; outputs = o i; mark = m i }

pub one_joint : (cs : List Column) (t : FileTable) (mark choice : NetId) (f g : JointTable) → AreColumns cs → AreColumns (with_mark cs mark) → list_any (λ (c : Column). nat_eq c.net.0 choice.0) (with_mark cs mark) ≡ false → IsJointFile cs t → IsMadeJoint cs t mark choice f → IsMadeJoint cs t mark choice g → f ≡ g
one_joint cs t mark choice f g columns with apart file p q =
    let is : IsPlain mark (plain_of cs t mark) = (plain_lawful cs t mark columns with file).table in
    same_joint f g (p.values ∙ sym q.values)
    (one_cover (plain_of cs t mark).columns (choice_table (plain_of cs t mark)) mark f.choice g.choice is.columns is.with_mark p.chosen q.chosen)
    (one_outputs (distinct (plain_of cs t mark)) mark choice 0 f.outputs g.outputs p.few (apart_mark cs mark choice apart) (p.many ∙ sym q.many) p.each q.each)
    (one_mark cs mark (plain_of cs t mark).mark f.mark g.mark columns with p.marked q.marked)
