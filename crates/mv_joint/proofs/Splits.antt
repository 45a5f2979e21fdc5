-- Rows with one entry more still have a set for each column.
use Rattle.std.proofs.Common.{◌≡◌, ℕ, zero, suc, true, false, not, List, [], ◌∷◌, ◌++◌, filter, refl, sym, ◌∙◌, ap, All}
use Rattle.std.specs.Prelude.{slice_index, slice_set}
use Rattle.std.specs.List.{flat_map, range_with_len}
use Rattle.std.proofs.lemmas.Bool.{cond_both, eqb-true}
use Rattle.std.proofs.lemmas.List.Elements.{All-nil, All-cons, All-head, All-tail, All-append}
use Rattle.mv_base.specs.Set.{has, one}
use Rattle.mv_base.proofs.Sets.{has-one}
use Rattle.mv_design.specs.declared.table.Entry.{Entry}
use Rattle.mv_design.specs.declared.table.Entry.TheVariants.{Set, Same}
use Rattle.mv_rows.specs.declared.column.Column.{Column}
use Rattle.mv_rows.specs.Cubes.{FitRow}
use Rattle.mv_rows.specs.Lines.{count_at}
use Rattle.mv_rows.specs.Marked.{matches_none}
use Rattle.mv_joint.specs.declared.split.PlainRow.{PlainRow}
use Rattle.mv_joint.specs.Split.{narrowing, extended, is_possible, IsFit}

pub fit_one : (cs : List Column) (sets : List ℕ) (k v : ℕ) → FitRow cs sets → has (slice_index sets k) v ≡ true → FitRow cs (slice_set sets k (one v))
fit_one [] [] k v fit h = tt
fit_one [] (s ∷ sets) k v fit h = absurd fit
fit_one (c ∷ cs) [] k v fit h = absurd fit
fit_one (c ∷ cs) (s ∷ sets) zero v fit h =
    ((λ u m. let e : u ≡ v = eqb-true u v (sym (has-one v u) ∙ m) in fit.0 u (ap (has s) e ∙ h)), fit.1)
fit_one (c ∷ cs) (s ∷ sets) (suc k) v fit h = (fit.0, fit_one cs sets k v fit.1 h)

pub fit_narrowing : (cs : List Column) (k : ℕ) (r : PlainRow) (v : ℕ) → IsFit cs r → All (IsFit cs) (narrowing k r v)
fit_narrowing cs k r v fit =
    let row : PlainRow = record { ins = slice_set r.ins k (one v); outs = r.outs ++ one v ∷ [] } in
    cond_both (has (slice_index r.ins k) v) (row ∷ []) [] (All (IsFit cs))
    (λ there. All-cons (IsFit cs) row [] (record { sets = fit_one cs r.ins k v fit.sets there }) (All-nil (IsFit cs)))
    (λ _. All-nil (IsFit cs))

fit_narrowings : (cs : List Column) (k : ℕ) (r : PlainRow) (vs : List ℕ) → IsFit cs r → All (IsFit cs) (flat_map (narrowing k r) vs)
fit_narrowings cs k r [] fit = All-nil (IsFit cs)
fit_narrowings cs k r (v ∷ vs) fit = All-append (IsFit cs) (narrowing k r v) (flat_map (narrowing k r) vs) (fit_narrowing cs k r v fit) (fit_narrowings cs k r vs fit)

fit_extended : (cs : List Column) (e : Entry) (r : PlainRow) → IsFit cs r → All (IsFit cs) (extended cs e r)
fit_extended cs (Set s) r fit = All-cons (IsFit cs) (record { ins = r.ins; outs = r.outs ++ s ∷ [] }) [] (record { sets = fit.sets }) (All-nil (IsFit cs))
fit_extended cs (Same k) r fit = fit_narrowings cs k r (range_with_len 0 (count_at cs k)) fit

pub all_fit_extended : (cs : List Column) (e : Entry) (rows : List PlainRow) → All (IsFit cs) rows → All (IsFit cs) (flat_map (extended cs e) rows)
all_fit_extended cs e [] all = All-nil (IsFit cs)
all_fit_extended cs e (r ∷ rows) all =
    All-append (IsFit cs) (extended cs e r) (flat_map (extended cs e) rows) (fit_extended cs e r (All-head (IsFit cs) r rows all)) (all_fit_extended cs e rows (All-tail (IsFit cs) r rows all))

-- ---- one row with a value alone

pub narrowing_none : (cs : List Column) (k : ℕ) (r : PlainRow) (v : ℕ) → has (slice_index r.ins k) v ≡ false → [] ≡ filter (is_possible cs) (narrowing k r v)
narrowing_none cs k r v gone = rw gone refl

pub narrowing_kept : (cs : List Column) (k : ℕ) (r : PlainRow) (v : ℕ) (ins outs : List ℕ) → has (slice_index r.ins k) v ≡ true → ins ≡ slice_set r.ins k (one v) → outs ≡ r.outs ++ one v ∷ [] → not (matches_none cs ins) ≡ true → record { ins = ins; outs = outs } ∷ [] ≡ filter (is_possible cs) (narrowing k r v)
narrowing_kept cs k r v ins outs there sets out possible =
    let row : PlainRow = record { ins = slice_set r.ins k (one v); outs = r.outs ++ one v ∷ [] } in
    let kept : is_possible cs row ≡ true = ap (λ (s : List ℕ). not (matches_none cs s)) (sym sets) ∙ possible in
    let same : record { ins = ins; outs = outs } ∷ [] ≡ row ∷ [] = λ i. record { ins = sets i; outs = out i } ∷ [] in
    rw there (rw kept same)
