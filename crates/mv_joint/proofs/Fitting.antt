-- The rows of a table have a set for each column, match something, and have a set for each output.
use Rattle.std.proofs.Common.{◌≡◌, ℕ, Bool, true, List, [], ◌∷◌, filter, All}
use Rattle.std.specs.List.{flat_map}
use Rattle.std.proofs.lemmas.Bool.{cond_both}
use Rattle.std.proofs.lemmas.List.Elements.{All-nil, All-cons, All-head, All-tail, All-append, All-filter}
use Rattle.mv_design.specs.declared.table.Entry.{Entry}
use Rattle.mv_design.specs.declared.table.Row.{Row}
use Rattle.mv_rows.specs.declared.column.Column.{Column}
use Rattle.mv_rows.specs.Cubes.{FitRow}
use Rattle.mv_joint.specs.declared.split.PlainRow.{PlainRow}
use Rattle.mv_joint.specs.Split.{extended, split, is_possible, rows_of, all_rows, IsFit}
use Rattle.mv_joint.specs.Plain.{IsJointRow}
use Rattle.mv_joint.proofs.Splits.{all_fit_extended}

-- what holds of all holds of those that pass a test, and these pass it
pub passing : {X : Type 0} (P : X → Type 0) (p : X → Bool) (xs : List X) → All P xs → All (λ (x : X). P x × (p x ≡ true)) (filter p xs)
passing P p [] all = All-nil (λ x. P x × (p x ≡ true))
passing P p (x ∷ xs) all =
    let rest = passing P p xs (All-tail P x xs all) in
    cond_both (p x) (x ∷ filter p xs) (filter p xs) (All (λ y. P y × (p y ≡ true)))
    (λ t. All-cons (λ y. P y × (p y ≡ true)) x (filter p xs) (All-head P x xs all, t) rest)
    (λ _. rest)

pub split_fit : (cs : List Column) (es : List Entry) (rows : List PlainRow) → All (IsFit cs) rows → All (IsFit cs) (split cs es rows)
split_fit cs [] rows all = all
split_fit cs (e ∷ es) rows all = split_fit cs es (flat_map (extended cs e) rows) (all_fit_extended cs e rows all)

pub rows_fit : (cs : List Column) (ins : List ℕ) (es : List Entry) → FitRow cs ins → All (IsFit cs) (rows_of cs ins es)
rows_fit cs ins es fit =
    let start : PlainRow = record { ins = ins; outs = [] } in
    All-filter (is_possible cs) (IsFit cs) (split cs es (start ∷ [])) (split_fit cs es (start ∷ []) (All-cons (IsFit cs) start [] (record { sets = fit }) (All-nil (IsFit cs))))

pub all_rows_fit : (cs : List Column) (n : ℕ) (rows : List Row) → All (IsJointRow cs n) rows → All (IsFit cs) (all_rows cs rows)
all_rows_fit cs n [] all = All-nil (IsFit cs)
all_rows_fit cs n (r ∷ rows) all =
    All-append (IsFit cs) (rows_of cs r.ins r.outs) (all_rows cs rows) (rows_fit cs r.ins r.outs (All-head (IsJointRow cs n) r rows all).sets)
    (all_rows_fit cs n rows (All-tail (IsJointRow cs n) r rows all))
