-- A table gets a mark by the numbers of its columns' nets as by any others.
use Rattle.std.proofs.Common.{◌≡◌, Bool, sym, ◌∙◌, ap, subst}
use Rattle.std.specs.Prelude.{IfOk}
use Rattle.mv_rows.specs.Marked.{is_marked}
use Rattle.mv_joint.specs.Plain.{is_joint_marked}
use Rattle.mv_flat.proofs.HasMark.{marked_by, joint_marked_by}
use Rattle.mv_flat.proofs.Singles.{single_output}
use Rattle.mv_flat.proofs.Unmarked.{own_columns, own_file, own_table}
use Rattle.mv_flat.proofs.mark.has_mark.Goals as goal

pub is_marked-requires-clause-columns : goal.is_marked-requires-clause-columns
is_marked-requires-clause-columns c =
    own_columns c.args.names.now c.args.table.now _
    (record { decls = c.args.decls.now; proper = c.requires.proper; placed = c.requires.placed; are = c.as_slice-2.ensures.value ∙ c.in_ok-columns-2.ensures })

pub is_marked-requires-clause-table : goal.is_marked-requires-clause-table
is_marked-requires-clause-table c =
    own_table c.args.names.now c.args.table.now _
    (record { decls = c.args.decls.now; proper = c.requires.proper; placed = c.requires.placed; are = c.as_slice-2.ensures.value ∙ c.in_ok-columns-2.ensures })
    (single_output c.args.table.now (sym c.is_joint.ensures ∙ c.if-is_joint.false) c.requires.placed.fits.some)

pub is_joint_marked-requires-clause-columns : goal.is_joint_marked-requires-clause-columns
is_joint_marked-requires-clause-columns c =
    own_columns c.args.names.now c.args.table.now _
    (record { decls = c.args.decls.now; proper = c.requires.proper; placed = c.requires.placed; are = c.as_slice.ensures.value ∙ c.in_ok-columns.ensures })

pub is_joint_marked-requires-clause-table : goal.is_joint_marked-requires-clause-table
is_joint_marked-requires-clause-table c =
    own_file c.args.names.now c.args.table.now _
    (record { decls = c.args.decls.now; proper = c.requires.proper; placed = c.requires.placed; are = c.as_slice.ensures.value ∙ c.in_ok-columns.ensures })

pub is_joint_marked-requires-clause-some : goal.is_joint_marked-requires-clause-some
is_joint_marked-requires-clause-some c = c.requires.placed.fits.some

pub returns-then-is_joint-clause-mark : goal.returns-then-is_joint-clause-mark
returns-then-is_joint-clause-mark c =
    let P : Bool → Type 0 = λ y. IfOk c.is_joint_marked.result (λ b. b ≡ y) in
    let own = ap (λ cs. is_joint_marked cs c.args.table.now) (c.as_slice.ensures.value ∙ c.in_ok-columns.ensures) in
    let joint = sym c.is_joint.ensures ∙ c.if-is_joint.true in
    subst P (own ∙ joint_marked_by c.args.decls.now c.args.names.now c.args.table.now c.requires.placed joint) c.is_joint_marked.ensures

pub returns-clause-mark : goal.returns-clause-mark
returns-clause-mark c =
    let P : Bool → Type 0 = λ y. IfOk c.is_marked.result (λ b. b ≡ y) in
    let own = ap (λ cs. is_marked cs c.args.table.now) (c.as_slice-2.ensures.value ∙ c.in_ok-columns-2.ensures) in
    let single = sym c.is_joint.ensures ∙ c.if-is_joint.false in
    subst P (own ∙ marked_by c.args.decls.now c.args.names.now c.args.table.now c.requires.placed single) c.is_marked.ensures
