-- How many values nets have that can be written as BLIF: those that are seen have two, and the choice of a table gives no value that
-- its net doesn't have.
use Rattle.std.proofs.Common.{◌≡◌, ◌∙◌, ℕ, ◌<◌, true, false, List, [], ◌∷◌, length, decimal, Option, Some, None, ⊎_elim, refl, sym, ap, subst, arith}
use Rattle.std.specs.List.{range_with_len}
use Rattle.std.proofs.lemmas.Bool.{cases_eq, cond-false, false≢true, false_from_ne_true}
use Rattle.std.proofs.lemmas.List.{length-map}
use Rattle.std.proofs.lemmas.List.FromFn.{length-range_with_len}
use Rattle.mv_base.specs.Set.{has, one}
use Rattle.mv_base.proofs.Sets.{has-full}
use Rattle.mv_cover.specs.declared.line.Line.{Line}
use Rattle.mv_cover.specs.declared.cover.Cover.{Cover}
use Rattle.mv_cover.specs.Covers.{allowed, default_gives}
use Rattle.mv_cover.specs.Lines.{IsOutput}
use Rattle.mv_design.specs.Values.{two_values}
use Rattle.mv_net.specs.declared.parts.FlatNet.{FlatNet}
use Rattle.mv_net.specs.declared.parts.NetParts.{NetParts}
use Rattle.mv_net.specs.Nets.{slot, values_in, spelled_values, spelled_in}
use Rattle.mv_net.specs.Formed.{AllLines, IsCover, IsNamed, WellFormed}
use Rattle.mv_net.proofs.Plainness.{one_same}
use Rattle.mv_chosen.specs.Binary.{gives_one, lines_for, binary_choice}

-- ---- what is seen

spelled_count : (values : ℕ) (names : List (List ℕ)) → IsNamed values names → length (spelled_values values names) ≡ values
spelled_count values [] is = length-map (range_with_len 0 values) decimal ∙ length-range_with_len 0 values
spelled_count values (w ∷ ws) is = is.each (omega arith)

-- a net that is spelled by 0 and 1 has two values
pub two-spelled : (net : NetParts) (n : ℕ) → WellFormed net → spelled_in (slot net.nets n) ≡ two_values → values_in (slot net.nets n) ≡ 2
two-spelled net n formed e = by (slot net.nets n) refl e
  where
    by : (o : Option FlatNet) → slot net.nets n ≡ o → spelled_in o ≡ two_values → values_in o ≡ 2
    by None held e = ap length e
    by (Some f) held e = sym (spelled_count f.values f.value_names (formed.nets n f held).named) ∙ ap length e

-- ---- choices

-- an output of one value lacks 1
not_one : (out : ℕ) → IsOutput 1 out → has out 1 ≡ false
not_one out is = false_from_ne_true (has out 1) (λ h. false≢true (sym (has-full 1 1) ∙ is.within 1 h))

default_none : (o : Option ℕ) → ((out : ℕ) → o ≡ Some out → IsOutput 1 out) → default_gives o 1 ≡ false
default_none None is = refl
default_none (Some out) is = not_one out (is out refl)

lines_none : (nets : List (Option FlatNet)) (ls : List Line) → AllLines nets 1 ls → lines_for gives_one 1 ls ≡ []
lines_none nets [] all = refl
lines_none nets (l ∷ ls) all = cond-false (gives_one l) _ _ (not_one l.out all.1) ∙ lines_none nets ls all.2

-- so the choice of a table of one value gives that alone
zero_alone : (nets : List (Option FlatNet)) (c : Cover) (at : ℕ → ℕ) (v : ℕ) → IsCover nets 1 c → allowed (binary_choice c) at v ≡ true → v ≡ 0
unfolding binary_choice allowed
zero_alone nets c at v is h =
    let ones : List Line → Cover = λ ls. record { lines = ls; default = Some (one 0) } in
    let bare : binary_choice c ≡ ones (lines_for gives_one 1 c.lines) = cond-false (default_gives c.default 1) _ _ (default_none c.default is.default) in
    one_same v 0 (sym (ap (λ d. allowed d at v) (bare ∙ ap ones (lines_none nets c.lines is.lines))) ∙ h)

-- the choice of a table gives no value that its net doesn't have
pub choice-low : (nets : List (Option FlatNet)) (values : ℕ) (c : Cover) (at : ℕ → ℕ) (v : ℕ) → IsCover nets values c → 0 < values → v < 2 → allowed (binary_choice c) at v ≡ true → v < values
choice-low nets values c at v is some low h =
    ⊎_elim
    (λ (e : values ≡ 1). let none : v ≡ 0 = zero_alone nets c at v (subst (λ k. IsCover nets k c) e is) h in omega (arith, e, none))
    (λ (ne : values ≡ 1 → ⊥). omega (arith, some, low, ne))
    (cases_eq values 1)
