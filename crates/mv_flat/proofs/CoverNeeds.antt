-- What the covers of a table need: the columns, the mark and the choice net fit it.
use Rattle.std.proofs.Common.{◌≡◌, ℕ, ◌<◌, true, false, List, [], ◌∷◌, length, get_or, sym, ◌∙◌, ap, subst, arith}
use Rattle.std.specs.Prelude.{nat_eq, slice_index_or}
use Rattle.std.specs.List.{list_any}
use Rattle.mv_base.specs.Names.{among}
use Rattle.mv_base.specs.declared.number.NetId.{NetId}
use Rattle.mv_design.specs.declared.table.FileTable.{FileTable}
use Rattle.mv_design.specs.Nets.{output_of}
use Rattle.mv_rows.specs.declared.column.Column.{Column}
use Rattle.mv_joint.specs.declared.joint.JointTable.{JointTable}
use Rattle.mv_joint.specs.Plain.{AreApart}
use Rattle.mv_joint.specs.declared.stop.CoversStop.{CoversStop}
use Rattle.mv_joint.specs.Joint.{IsMadeJoint, StopsCovers}
use Rattle.mv_flat.specs.Gathered.{number_or_past}
use Rattle.mv_flat.specs.Numbers.{mark_at, mark_name, choice_at, choice_name}
use Rattle.mv_flat.specs.Placed.{AreColumnsOf}
use Rattle.mv_flat.specs.Places.{is_joint}
use Rattle.mv_flat.proofs.Singles.{single_output, several_outputs}
use Rattle.mv_flat.proofs.Shapes.{mark_unread}
use Rattle.mv_flat.proofs.Unmarked.{own_apart}

pub own_single : (names : List (List ℕ)) (t : FileTable) (columns : List Column) → AreColumnsOf names t columns → is_joint t ≡ false → length t.outputs ≡ 1
own_single names t columns h single = single_output t single h.placed.fits.some

-- the first of the outputs
first_is : (os ws : List (List ℕ)) (out : List ℕ) → ws ≡ os → 0 < length os → out ≡ get_or ws 0 out → out ≡ slice_index_or os 0 []
first_is [] ws out e some is = absurd (omega (arith, some))
first_is (o ∷ os) ws out e some is = is ∙ ap (λ x. get_or x 0 out) e

-- the mark and the choice net of a table of several outputs, by the names that they have by its first output
pub record AreOwn (names : List (List ℕ)) (t : FileTable) (mark choice : NetId) : Type 0 where
  pub mark_is : mark ≡ mark_at names t
  pub choice_is : choice ≡ choice_at names t

pub own_numbers : (names : List (List ℕ)) (t : FileTable) (outs : List (List ℕ)) (out marked chosen : List ℕ) (mark choice : NetId) → is_joint t ≡ true
    → outs ≡ t.outputs → out ≡ get_or outs 0 out → marked ≡ mark_name out → chosen ≡ choice_name out → mark ≡ number_or_past names marked
    → choice ≡ number_or_past names chosen → AreOwn names t mark choice
own_numbers names t outs out marked chosen mark choice joint outs_are is marked_is chosen_is m c =
    let several = several_outputs t joint in
    let first : out ≡ output_of t = first_is t.outputs outs out outs_are (omega (arith, several)) is in
    record {
      mark_is = m ∙ ap (number_or_past names) (marked_is ∙ ap mark_name first);
      choice_is = c ∙ ap (number_or_past names) (chosen_is ∙ ap choice_name first);
    }

pub numbers_apart : (names : List (List ℕ)) (t : FileTable) (columns : List Column) (mark choice : NetId) → AreOwn names t mark choice
    → AreColumnsOf names t columns → among (choice_name (output_of t)) names ≡ true → AreApart columns mark choice
numbers_apart names t columns mark choice own h chosen =
    let P : NetId → Type 0 = λ n. AreApart columns n choice in
    let Q : NetId → Type 0 = λ n. AreApart columns (mark_at names t) n in
    subst P (sym own.mark_is) (subst Q (sym own.choice_is) (own_apart names t columns h chosen))

pub numbers_unread : (names : List (List ℕ)) (t : FileTable) (columns : List Column) (mark choice : NetId) → AreOwn names t mark choice
    → AreColumnsOf names t columns → list_any (λ (c : Column). nat_eq c.net.0 mark.0) columns ≡ false
numbers_unread names t columns mark choice own h =
    let P : NetId → Type 0 = λ n. list_any (λ (c : Column). nat_eq c.net.0 n.0) columns ≡ false in
    let Q : List Column → Type 0 = λ cs. list_any (λ (c : Column). nat_eq c.net.0 (mark_at names t).0) cs ≡ false in
    subst P (sym own.mark_is) (subst Q (sym h.are) (mark_unread h.decls names t h.placed))

pub own_made : (names : List (List ℕ)) (t : FileTable) (columns : List Column) (mark choice : NetId) (joint : JointTable) → AreOwn names t mark choice
    → IsMadeJoint columns t mark choice joint → IsMadeJoint columns t (mark_at names t) (choice_at names t) joint
own_made names t columns mark choice joint own made =
    let P : NetId → Type 0 = λ n. IsMadeJoint columns t n choice joint in
    let Q : NetId → Type 0 = λ n. IsMadeJoint columns t (mark_at names t) n joint in
    subst Q own.choice_is (subst P own.mark_is made)

pub own_stop : (names : List (List ℕ)) (t : FileTable) (columns : List Column) (mark choice : NetId) (most : ℕ) (stop : CoversStop) → AreOwn names t mark choice
    → StopsCovers columns t mark choice most stop → StopsCovers columns t (mark_at names t) (choice_at names t) most stop
own_stop names t columns mark choice most stop own stops =
    let P : NetId → Type 0 = λ n. StopsCovers columns t n choice most stop in
    let Q : NetId → Type 0 = λ n. StopsCovers columns t (mark_at names t) n most stop in
    subst Q own.choice_is (subst P own.mark_is stops)

pub ruleset own_needs = (own_numbers, numbers_apart, own_made, own_stop)
