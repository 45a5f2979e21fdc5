-- Tables of one output, and of several.
use Rattle.std.proofs.Common.{◌≡◌, ◌<◌, ◌≤◌, true, false, length, sym, ◌∙◌, arith, ⊎_elim}
use Rattle.std.proofs.lemmas.Bool.{cases_lt, false≢true, false_from_ne_true, lt-ltb, ltb-true}
use Rattle.mv_design.specs.declared.table.FileTable.{FileTable}
use Rattle.mv_flat.specs.Places.{is_joint}

-- a table of some outputs that isn't joint has one
pub single_output : (t : FileTable) → is_joint t ≡ false → 0 < length t.outputs → length t.outputs ≡ 1
single_output t single some =
    ⊎_elim (λ (l : 1 < length t.outputs). absurd (false≢true (sym single ∙ lt-ltb 1 (length t.outputs) l)))
    (λ (h : length t.outputs ≤ 1). omega (arith, h, some)) (cases_lt 1 (length t.outputs))

-- and one that is has several
pub several_outputs : (t : FileTable) → is_joint t ≡ true → 1 < length t.outputs
several_outputs t joint = ltb-true 1 (length t.outputs) joint

-- a table of one output isn't joint
pub not_joint : (t : FileTable) → length t.outputs ≡ 1 → is_joint t ≡ false
not_joint t one = false_from_ne_true (is_joint t) (λ y. let l = several_outputs t y in omega (arith, one, l))
