-- What is told where the mark and the choice net of a table of several outputs have more lines than a network may have.
use Rattle.std.proofs.Common.{◌≡◌, ℕ, ◌+◌, ◌<◌, ◌≤◌, Bool, true, false, cond, List, [], ◌∷◌, ◌++◌, length, Option, Some, None, inl, inr, refl, ◌∙◌, ap, arith}
use Rattle.std.specs.Prelude.{is_some, nat_lt}
use Rattle.std.specs.List.{flat_map}
use Rattle.std.proofs.lemmas.Bool.{lt-ltb, le-ltb}
use Rattle.std.proofs.lemmas.List.{length-append}
use Rattle.mv_base.specs.declared.limits.TheConstants.{MAX_FLAT_NETS, MAX_FLAT_LINES, MAX_JOINT_ROWS}
use Rattle.mv_cover.specs.declared.cover.Cover.{Cover}
use Rattle.mv_design.specs.declared.table.FileTable.{FileTable}
use Rattle.mv_fault.specs.Tells.{first}
use Rattle.mv_fault.specs.declared.fault.Which.TheVariants.{Nets, FlatLines}
use Rattle.mv_fault.specs.declared.flat.FlatFault.{FlatFault}
use Rattle.mv_fault.specs.declared.flat.FlatFault.TheVariants.{Limit, JointWide, Memory}
use Rattle.mv_rows.specs.declared.column.Column.{Column}
use Rattle.mv_joint.specs.declared.joint.JointTable.{JointTable}
use Rattle.mv_joint.specs.Joint.{mark_lines, IsMadeJoint, IsWide, HasMoreLines}
use Rattle.mv_joint.specs.Plain.{is_joint_marked}
use Rattle.mv_joint.proofs.JointMarked.{joint_marked_exactly}
use Rattle.mv_flat.specs.declared.covers.TableCovers.TheVariants.{Joint}
use Rattle.mv_flat.specs.declared.size.Size.{Size}
use Rattle.mv_flat.specs.Covers.{MadeNet, made_mark, made_of, outputs_of, IsMadeTable}
use Rattle.mv_flat.specs.Numbers.{mark_at, choice_at}
use Rattle.mv_flat.specs.Places.{is_joint}
use Rattle.mv_flat.specs.Size.{gives_reset, size_faults}
use Rattle.mv_flat.specs.Sized.{TellsCovers, TellsJoint, with_covers}

-- ---- the size with a table of several outputs

made_count : (o : Option Cover) (m : MadeNet) → length (made_mark o ++ m ∷ []) ≡ cond (is_some o) 1 0 + 1
made_count None m = refl
made_count (Some c) m = refl

nets_joint : (s : Size) (t : FileTable) (joint : JointTable)
    → (with_covers s t (Joint joint)).nets ≡ s.nets + cond (gives_reset t) 1 0 + (cond (is_some joint.mark) 1 0 + 1)
nets_joint s t joint = ap (λ n. s.nets + cond (gives_reset t) 1 0 + n) (made_count joint.mark (record { values = joint.values; cover = joint.choice }))

made_lines : (o : Option Cover) (m : MadeNet)
    → length (flat_map (λ (x : MadeNet). x.cover.lines) (made_mark o ++ m ∷ [])) ≡ length (mark_lines o) + length m.cover.lines
made_lines None m = let own = length-append m.cover.lines [] in omega arith
made_lines (Some c) m =
    let own = length-append m.cover.lines [] in
    let both = length-append c.lines (m.cover.lines ++ []) in
    omega arith

lines_joint : (s : Size) (t : FileTable) (joint : JointTable)
    → s.lines + (length (mark_lines joint.mark) + length joint.choice.lines) ≤ (with_covers s t (Joint joint)).lines
lines_joint s t joint =
    let made = flat_map (λ (m : MadeNet). m.cover.lines) (made_of (Joint joint)) in
    let lines = made_lines joint.mark (record { values = joint.values; cover = joint.choice }) in
    let both = length-append made (flat_map (λ (c : Cover). c.lines) (outputs_of (Joint joint))) in
    omega arith

pub past_nets : (s : Size) (t : FileTable) (joint : JointTable) (nets : ℕ) (marked : Bool) → is_some joint.mark ≡ marked
    → nets ≡ s.nets + cond (gives_reset t) 1 0 + cond marked 1 0 → MAX_FLAT_NETS < nets + 1
    → first (size_faults (with_covers s t (Joint joint))) ≡ Some (Limit Nets (MAX_FLAT_NETS + 1))
past_nets s t joint nets marked e is more =
    let all = nets_joint s t joint ∙ ap (λ b. s.nets + cond (gives_reset t) 1 0 + (cond b 1 0 + 1)) e in
    let passed : nat_lt MAX_FLAT_NETS (with_covers s t (Joint joint)).nets ≡ true = lt-ltb MAX_FLAT_NETS _ (omega (arith, all, is, more)) in
    rw passed refl

pub past_lines : (s : Size) (t : FileTable) (joint : JointTable) (nets : ℕ) (marked : Bool) → is_some joint.mark ≡ marked
    → nets ≡ s.nets + cond (gives_reset t) 1 0 + cond marked 1 0 → nets + 1 ≤ MAX_FLAT_NETS
    → MAX_FLAT_LINES < s.lines + (length (mark_lines joint.mark) + length joint.choice.lines)
    → first (size_faults (with_covers s t (Joint joint))) ≡ Some (Limit FlatLines (MAX_FLAT_LINES + 1))
past_lines s t joint nets marked e is few more =
    let all = nets_joint s t joint ∙ ap (λ b. s.nets + cond (gives_reset t) 1 0 + (cond b 1 0 + 1)) e in
    let within : nat_lt MAX_FLAT_NETS (with_covers s t (Joint joint)).nets ≡ false = le-ltb MAX_FLAT_NETS _ (omega (arith, all, is, few)) in
    let lines = lines_joint s t joint in
    let passed : nat_lt MAX_FLAT_LINES (with_covers s t (Joint joint)).lines ≡ true = lt-ltb MAX_FLAT_LINES _ (omega (arith, lines, more)) in
    rw within (rw passed refl)

-- ---- what is told of a table

-- what is told is a limit, or want of memory
pub past_holds : (s : Size) (t : FileTable) (joint : JointTable) (f : FlatFault) → first (size_faults (with_covers s t (Joint joint))) ≡ Some f → TellsJoint s t joint f
past_holds s t joint Memory told = tt
past_holds s t joint _ told = told

-- what holds of each table of several outputs with covers of too many lines
abbrev pub PastJoint : List Column → FileTable → Size → FlatFault → Type 0
PastJoint columns t s f = (joint : JointTable) → is_some joint.mark ≡ is_joint_marked columns t
    → MAX_FLAT_LINES < s.lines + (length (mark_lines joint.mark) + length joint.choice.lines) → TellsJoint s t joint f

past_told : (columns : List Column) (names : List (List ℕ)) (t : FileTable) (s : Size) (joint : JointTable) (f : FlatFault) → is_joint t ≡ true
    → IsMadeJoint columns t (mark_at names t) (choice_at names t) joint → TellsJoint s t joint f → TellsCovers columns names t s f
past_told columns names t s joint Memory several made told = tt
past_told columns names t s joint _ several made told = inr (record { covers = Joint joint; made = (several, made); told = told })

pub joint_told : (names : List (List ℕ)) (t : FileTable) (columns : List Column) (s : Size) (left : ℕ) (f : FlatFault) → is_joint t ≡ true
    → s.lines + left ≡ MAX_FLAT_LINES → HasMoreLines columns t (mark_at names t) (choice_at names t) left → PastJoint columns t s f
    → TellsCovers columns names t s f
joint_told names t columns s left f several room more past =
    let many = more.many in
    past_told columns names t s more.joint f several more.made
    (past more.joint (joint_marked_exactly columns t (mark_at names t) (choice_at names t) more.joint more.made) (omega (arith, room, many)))

pub wide_told : (names : List (List ℕ)) (t : FileTable) (columns : List Column) (s : Size) → is_joint t ≡ true → IsWide columns t (mark_at names t)
    → TellsCovers columns names t s (JointWide (MAX_JOINT_ROWS + 1))
wide_told names t columns s several wide = inl (record { joint = several; wide = wide; told = refl })

pub joint_covers : (columns : List Column) (names : List (List ℕ)) (t : FileTable) (joint : JointTable) → is_joint t ≡ true
    → IsMadeJoint columns t (mark_at names t) (choice_at names t) joint → IsMadeTable columns t (mark_at names t) (choice_at names t) (Joint joint)
joint_covers columns names t joint several made = (several, made)
