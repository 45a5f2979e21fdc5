-- The verdicts: that all tables below a net are total, and what the answers of flexibilities say.
use Rattle.std.proofs.Common.{◌≡◌, ◌∙◌, ℕ, Bool, true, false, nat_eq, List, [], ◌∷◌, All, Option, Some, Result, IfOk, MatchBool, refl, sym, ap, subst, ⊎_elim, eqb-true, eq-eqb}
use Rattle.std.proofs.lemmas.Bool.{false≢true, or_cases, or_left, or_right}
use Rattle.std.proofs.lemmas.Result.{IfOk-weaker}
use Rattle.std.proofs.lemmas.List.Elements.{All-cons, All-head, All-nil, All-tail}
use Rattle.mv_base.specs.declared.number.NetId.{NetId}
use Rattle.mv_cover.specs.declared.cover.Cover.{Cover}
use Rattle.mv_cover.specs.Covers.{cover_reads}
use Rattle.mv_flex.specs.Flex.{IsFlexStop, IsLaterStop, IsOverFanins, IsVerdict, TooWide}
use Rattle.mv_flex.specs.declared.stop.FlexStop.{FlexStop}
use Rattle.mv_flex.specs.declared.stop.FlexStop.TheVariants.{Window as too_many_points, Nodes, Memory}
use Rattle.mv_flex.specs.declared.verdict.Verdict.{Verdict}
use Rattle.mv_flex.specs.declared.verdict.Verdict.TheVariants.{Outside, Lost, Lawful}
use Rattle.mv_graph.specs.Above.{IsAbove}
use Rattle.mv_graph.specs.Nets.{has_id}
use Rattle.mv_meaning.specs.Narrowing.{AreTotalBelow, ReadsWithin}
use Rattle.mv_narrow.specs.declared.verdict.NarrowVerdict.{NarrowVerdict}
use Rattle.mv_narrow.specs.Answers.{IsStopVerdict, verdict_of}
use Rattle.mv_narrow.specs.Verdicts.{IsNarrowVerdict}
use Rattle.mv_net.specs.declared.parts.FlatNet.{FlatNet}
use Rattle.mv_net.specs.declared.parts.NetParts.{NetParts}
use Rattle.mv_net.specs.declared.window.Window.{Window}
use Rattle.mv_net.specs.Nets.{slot, table_in, table_reads, reads_in}
use Rattle.mv_net.specs.Total.{IsTotalNet}
use Rattle.mv_net.specs.Window.{IsWindow, Lists}

module _ (net : NetParts) (n d u budget : ℕ) (old new : Cover) (w : Window) (is : IsWindow net n d u w) (total : AreTotalBelow net.nets n) where
  -- where there is no flexibility
  pub stopped : (stop : FlexStop) (verdict : NarrowVerdict) → IsFlexStop net w budget stop → IsStopVerdict stop verdict → IsNarrowVerdict net n d u budget old new verdict
  stopped (too_many_points levels) verdict cause e = subst (IsNarrowVerdict net n d u budget old new) (sym e) (total, record { window = w; is = is; holds = cause.0 })
  stopped (Nodes cap) verdict cause e = subst (IsNarrowVerdict net n d u budget old new) (sym e) (total, record { window = w; is = is; holds = cause.0 })
  stopped Memory verdict cause e = absurd e

  -- where it decides nothing
  pub undecided : (stop : FlexStop) (verdict : NarrowVerdict) → IsLaterStop net w budget stop → IsStopVerdict stop verdict → IsNarrowVerdict net n d u budget old new verdict
  undecided (too_many_points levels) verdict cause e = absurd cause
  undecided (Nodes cap) verdict cause e = subst (IsNarrowVerdict net n d u budget old new) (sym e) (total, record { window = w; is = is; holds = cause.0 })
  undecided Memory verdict cause e = absurd e

  -- where it does
  pub decided : (narrow : TooWide net w → ⊥) (verdict : Verdict) → IsVerdict net.nets w n old new verdict → IsNarrowVerdict net n d u budget old new (verdict_of verdict)
  decided narrow Outside h = (total, record { window = w; is = is; holds = record { narrow = narrow; outside = h } })
  decided narrow Lost h = (total, (record { window = w; is = is; holds = record { narrow = narrow; inside = h.0 } }, h.1))
  decided narrow Lawful h = (total, (record { window = w; is = is; holds = record { narrow = narrow; inside = h.0 } }, h.1))

-- a table that reads no net besides is over the net's fanins
pub over_fanins : (net : NetParts) (n : ℕ) (old new : Cover) → table_in (slot net.nets n) ≡ Some old → ReadsWithin old new → IsOverFanins net.nets n (cover_reads new)
over_fanins net n old new table reads = record { fanins = λ m h. ap (λ t. table_reads t m) table ∙ reads.each m h }

-- ---- the tables below

-- each of the list is total
total_at : (nets : List (Option FlatNet)) (list : List NetId) (m : ℕ) → All (λ (k : NetId). IsTotalNet nets k.0) list → has_id list m ≡ true → IsTotalNet nets m
total_at nets [] m all h = absurd (false≢true h)
total_at nets (k ∷ ks) m all h =
    ⊎_elim
    (λ (e : nat_eq k.0 m ≡ true). subst (IsTotalNet nets) (eqb-true k.0 m e) (All-head (λ (j : NetId). IsTotalNet nets j.0) k ks all))
    (λ (rest : has_id ks m ≡ true). total_at nets ks m (All-tail (λ (j : NetId). IsTotalNet nets j.0) k ks all) rest)
    (or_cases (nat_eq k.0 m) (has_id ks m) h)

all_total : (nets : List (Option FlatNet)) (list : List NetId) → ((m : ℕ) → has_id list m ≡ true → IsTotalNet nets m) → All (λ (k : NetId). IsTotalNet nets k.0) list
all_total nets [] each = All-nil (λ (j : NetId). IsTotalNet nets j.0)
all_total nets (k ∷ ks) each =
    All-cons (λ (j : NetId). IsTotalNet nets j.0) k ks (each k.0 (or_left (nat_eq k.0 k.0) (has_id ks k.0) (eq-eqb k.0 k.0 refl)))
    (all_total nets ks (λ m h. each m (or_right (nat_eq k.0 m) (has_id ks m) h)))

pub total_below : {E : Type 0} (result : Result Bool E) (nets : List (Option FlatNet)) (n : ℕ) (list : List NetId) → Lists (IsAbove (reads_in nets) n) list
    → IfOk result (λ answer. MatchBool answer (All (λ (k : NetId). IsTotalNet nets k.0) list) (All (λ (k : NetId). IsTotalNet nets k.0) list → ⊥))
    → IfOk result (λ answer. MatchBool answer (AreTotalBelow nets n) (AreTotalBelow nets n → ⊥))
total_below result nets n list lists all = IfOk-weaker result _ _ by_answer all
  where
    by_answer : (answer : Bool) → MatchBool answer (All (λ (k : NetId). IsTotalNet nets k.0) list) (All (λ (k : NetId). IsTotalNet nets k.0) list → ⊥)
        → MatchBool answer (AreTotalBelow nets n) (AreTotalBelow nets n → ⊥)
    by_answer true are = record { each = λ m a. total_at nets list m are ((lists.members m).1 a) }
    by_answer false none = λ total. none (all_total nets list (λ m h. total.each m ((lists.members m).0 h)))
