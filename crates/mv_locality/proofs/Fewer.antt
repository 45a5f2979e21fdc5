-- Steps that leave no more literals.
use Rattle.std.proofs.Common.{◌≡◌, ℕ, zero, suc, ◌≤◌, Bool, true, false, List, [], ◌∷◌, map, set, Option, Some, None, refl, sym, ap, subst, arith}
use Rattle.std.specs.Prelude.{MatchBool}
use Rattle.std.proofs.lemmas.Bool.{cond_both}
use Rattle.mv_composite.specs.Composite.{composed}
use Rattle.mv_composite.specs.Wired.{wired}
use Rattle.mv_cover.specs.declared.cover.Cover.{Cover}
use Rattle.mv_cover.specs.Covers.{cover_reads, literal_count}
use Rattle.mv_meaning.specs.Rewriting.{rewired_table, rewired, rewritten}
use Rattle.mv_meaning.proofs.Rewired.{cover_at}
use Rattle.mv_net.specs.declared.parts.FlatNet.{FlatNet}
use Rattle.mv_net.specs.declared.parts.NetParts.{NetParts}
use Rattle.mv_net.specs.Changes.{with_nets}
use Rattle.mv_net.specs.Formed.{WellFormed}
use Rattle.mv_net.specs.Nets.{slot, values_in, table_in, table_literals, literals_in}
use Rattle.mv_net.specs.Plain.{IsPlainNet, IsPlainConstant}
use Rattle.mv_net.specs.Total.{IsTotalNet}
use Rattle.mv_net.proofs.Plainness.{constant_gives}
use Rattle.mv_plans.specs.Collapsing.{Collapses}
use Rattle.mv_plans.specs.Removing.{Removes}
use Rattle.mv_plans.specs.Wiring.{Wires}
use Rattle.mv_locality.proofs.FewerLines.{fewer_wired}
use Rattle.mv_locality.proofs.FewerConstants.{IsSteady, steady, steady_allows, steady_plain, fewer_composed}

-- ---- nets

-- no table has more literals once it is made another
abbrev AddsNone : (Cover → Cover) → Type 0
AddsNone new = (c : Cover) → literal_count (new c).lines ≤ literal_count c.lines

fewer_table : (new : Cover → Cover) (n : ℕ) → AddsNone new → (t : Option Cover) → table_literals (rewired_table new n t) ≤ table_literals t
fewer_table new n each None = omega arith
fewer_table new n each (Some c) = cond_both (cover_reads c n) (new c) c (λ d. literal_count d.lines ≤ literal_count c.lines) (λ _. each c) (λ _. omega arith)

fewer_net : (new : Cover → Cover) (n : ℕ) → AddsNone new → (f : Option FlatNet) → table_literals (table_in (rewired new n f)) ≤ table_literals (table_in f)
fewer_net new n each None = omega arith
fewer_net new n each (Some f) = fewer_table new n each f.table

-- where the readers' new tables have no more literals than their old ones
fewer_rewritten : (new : Cover → Cover) (n : ℕ) → AddsNone new → (nets : List (Option FlatNet)) → literals_in (rewritten new n nets) ≤ literals_in nets
unfolding rewritten
fewer_rewritten new n each [] = omega arith
fewer_rewritten new n each (f ∷ fs) = omega (arith, fewer_net new n each f, fewer_rewritten new n each fs)

-- and where a net is gone
fewer_without : (nets : List (Option FlatNet)) (n : ℕ) → literals_in (set nets n None) ≤ literals_in nets
fewer_without [] n = omega arith
fewer_without (f ∷ fs) zero = omega arith
fewer_without (f ∷ fs) (suc n) = omega (arith, fewer_without fs n)

-- ---- a constant

is_true : (b : Bool) (P : Type 0) → MatchBool b P (P → ⊥) → P → b ≡ true
is_true true P h p = refl
is_true false P h p = absurd (h p)

module _ (old : NetParts) (formed : WellFormed old) (n v : ℕ) (c : Cover) (table : table_in (slot old.nets n) ≡ Some c) (constant : IsPlainConstant old.nets n v) where
  -- its table gives one value everywhere
  pub is_steady : IsSteady v c
  is_steady = steady v c (cover_at old n c formed table).met (constant_gives old.nets n v c table constant)

  pub is_total : IsTotalNet old.nets n
  is_total = by (slot old.nets n) refl table
    where
      by : (f : Option FlatNet) → slot old.nets n ≡ f → table_in f ≡ Some c → IsTotalNet old.nets n
      by None held t = cc
      by (Some f) held t = record {
        net = f;
        held = held;
        cover = c;
        table = t;
        total = record { some = λ at point. record { value = v; is_allowed = steady_allows v c is_steady at } };
      }

  pub is_plain : IsPlainNet old.nets n
  is_plain = record { cover = c; table = table; plain = steady_plain v c is_steady }

-- ---- the rules

pub removes_no_more : (old : NetParts) (w : List ℕ) (new : NetParts) → Removes old w new → literals_in new.nets ≤ literals_in old.nets
unfolding with_nets
removes_no_more old w new r =
    let e : literals_in new.nets ≡ literals_in (set old.nets r.number None) = ap (λ (p : NetParts). literals_in p.nets) r.new_is in
    omega (arith, e, fewer_without old.nets r.number)

pub wires_no_more : (old : NetParts) (w : List ℕ) (new : NetParts) → Wires old w new → literals_in new.nets ≤ literals_in old.nets
unfolding with_nets
wires_no_more old w new r =
    let new_table = wired r.number r.same.source in
    let e : literals_in new.nets ≡ literals_in (rewritten new_table r.number old.nets) = ap (λ (p : NetParts). literals_in p.nets) r.new_is in
    omega (arith, e, fewer_rewritten new_table r.number (fewer_wired r.number r.same.source) old.nets)

-- a plain constant goes into its readers
pub collapses_no_more : (old : NetParts) (w : List ℕ) (new : NetParts) (v : ℕ) → WellFormed old → (r : Collapses old w new) → IsPlainConstant old.nets r.number v
    → literals_in new.nets ≤ literals_in old.nets
unfolding with_nets
collapses_no_more old w new v formed r is =
    let inner = r.composites.inner in
    let known = r.composites.known in
    let n = inner.net.0 in
    let constant = subst (λ k. IsPlainConstant old.nets k v) (sym r.composites.of_net) is in
    let total = is_true inner.total (IsTotalNet old.nets n) known.total (is_total old formed n v inner.cover known.table constant) in
    let plain = is_true inner.plain (IsPlainNet old.nets n) known.plain (is_plain old formed n v inner.cover known.table constant) in
    let new_table = composed (map values_in old.nets) inner in
    let each = fewer_composed (map values_in old.nets) inner v (is_steady old formed n v inner.cover known.table constant) total plain in
    let e : literals_in new.nets ≡ literals_in (set (rewritten new_table n old.nets) n None) = ap (λ (p : NetParts). literals_in p.nets) r.new_is in
    omega (arith, e, fewer_without (rewritten new_table n old.nets) n, fewer_rewritten new_table n each old.nets)
