-- A row with one value alone in a column, and the lines of such rows.
use Rattle.std.proofs.Common.{◌≡◌, ℕ, zero, suc, ◌+◌, ◌<◌, false, ◌&&◌, List, [], ◌∷◌, ◌++◌, length, get_or, set, add-one, append-nil, append_assoc, refl, sym, ◌∙◌, ap, subst, arith}
use Rattle.std.proofs.lemmas.Bool.{and_parts, and_right}
use Rattle.mv_base.specs.Set.{has, empty, one, full, meet, Within}
use Rattle.mv_base.proofs.Sets.{has-empty, has-meet}
use Rattle.mv_cover.specs.declared.line.Line.{Line}
use Rattle.mv_rows.specs.declared.column.Column.{Column}
use Rattle.mv_design.specs.Tables.{row_matches}
use Rattle.mv_rows.specs.Cubes.{column_values, FitRow, HasNoPoint}
use Rattle.mv_rows.specs.Lines.{AddsLines, OneLine, EachValue, narrowed}

-- a row matches nothing where a set is empty
empty_matches : (sets values : List ℕ) (k : ℕ) → k < length sets → row_matches (set sets k empty) values ≡ false
empty_matches [] values k low = absurd (omega arith)
empty_matches (s ∷ sets) [] zero low = refl
empty_matches (s ∷ sets) [] (suc k) low = refl
empty_matches (s ∷ sets) (v ∷ values) zero low = ap (λ b. b && row_matches sets values) (has-empty v)
empty_matches (s ∷ sets) (v ∷ values) (suc k) low = and_right (has s v) _ (empty_matches sets values k (omega arith))

pub no_value : (cs : List Column) (sets : List ℕ) (k v : ℕ) → k < length sets → meet (get_or sets k 0) (one v) ≡ empty → HasNoPoint cs (narrowed sets k v)
no_value cs sets k v low e = record { nowhere = λ at range. ap (λ s. row_matches (set sets k s) (column_values at cs)) e ∙ empty_matches sets (column_values at cs) k low }

-- fewer values are still values of the nets
pub within_meet : (a b s : ℕ) → Within a s → Within (meet a b) s
within_meet a b s w v h = w v ((and_parts (has a v) (has b v) (sym (has-meet a b v) ∙ h)).0)

pub fit_narrowed : (cs : List Column) (sets : List ℕ) (k v : ℕ) → FitRow cs sets → FitRow cs (narrowed sets k v)
fit_narrowed [] [] k v fit = tt
fit_narrowed [] (s ∷ sets) k v fit = absurd fit
fit_narrowed (c ∷ cs) [] k v fit = absurd fit
fit_narrowed (c ∷ cs) (s ∷ sets) zero v fit = (within_meet s (one v) (full c.count) fit.0, fit.1)
fit_narrowed (c ∷ cs) (s ∷ sets) (suc k) v fit = (fit.0, fit_narrowed cs sets k v fit.1)

-- ---- lines one after the other

pub AddsLines-none : (P : List Line → Type 0) (ls : List Line) → P [] → AddsLines P ls ls
AddsLines-none P ls h = record { here = []; are = h; joined = sym (append-nil ls) }

-- one value more
pub values_more : (cs : List Column) (sets : List ℕ) (k v : ℕ) (a b d : List Line) → AddsLines (EachValue cs sets k v) a b → AddsLines (OneLine cs (narrowed sets k v) (one v)) b d → AddsLines (EachValue cs sets k (v + 1)) a d
values_more cs sets k v a b d first next =
    let lines = first.here ++ next.here in
    let joined : d ≡ a ++ lines = next.joined ∙ (ap (λ x. x ++ next.here) first.joined ∙ append_assoc a first.here next.here) in
    let P : ℕ → Type 0 = λ n. EachValue cs sets k n lines in
    record {
      here = lines;
      are = subst P (sym (add-one v)) (record { before = first.here; here = next.here; are_before = first.are; are_here = next.are; joined = refl });
      joined = joined;
    }
