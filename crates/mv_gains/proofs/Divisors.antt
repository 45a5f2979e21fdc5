-- Each candidate is a divisor, and its literals stand together in a line.
use Rattle.std.proofs.Common.{◌≡◌, ℕ, zero, suc, ◌<◌, Option, Some, None, List, [], ◌∷◌, length, not, slice_get, All, Contains, inl, inr, refl, sym, subst, arith}
use Rattle.std.proofs.lemmas.Bool.{cases_lt}
use Rattle.std.proofs.lemmas.List.{get_or_past}
use Rattle.std.proofs.lemmas.List.Elements.{All-nil, All-cons, All-head, All-weaker, All-contains, All-contains_itself, Contains-append_cases}
use Rattle.std.proofs.lemmas.List.Sums.{sum_by-cons}
use Rattle.std.specs.List.Sorted.{IsStrictlySortedBy}
use Rattle.mv_cover.specs.Literal.{Lit}
use Rattle.mv_cover.specs.Cubes.{IsCube}
use Rattle.mv_cover.specs.declared.line.Line.{Line}
use Rattle.mv_net.specs.declared.parts.FlatNet.{FlatNet}
use Rattle.mv_net.specs.Nets.{slot}
use Rattle.mv_kernels.specs.Symbols.{has_symbol, quotient, cube_quotient}
use Rattle.mv_kernels.specs.Order.{Ascend}
use Rattle.mv_kernels.proofs.Lists.{Contains-none, Contains-first, Contains-behind, All-Contains, Contains-from_filter}
use Rattle.mv_kernels.proofs.Quotients.{IsCube-filter, IsCube-cube_quotient, quotient_row}
use Rattle.mv_saving.specs.Saving.{literals}
use Rattle.mv_gains.specs.Gains.{lines_at}
use Rattle.mv_gains.specs.Candidates.{IsKernelCandidate, IsCubeCandidate, IsDivisorFor, StandsIn, all_lines, common}
use Rattle.mv_gains.specs.Tables.{HasLines, IsDivisor}
use Rattle.mv_gains.proofs.Parts.{line_of}
use Rattle.mv_gains.proofs.Savings.{ascend_once}

-- the lines at any number are good ones
pub slot_lines : (nets : List (Option FlatNet)) (n : ℕ) → All HasLines nets → HasLines (slot nets n)
slot_lines nets n all =
    elim (cases_lt n (length nets)) [
      | inl low ↦ all n None low
      | inr past ↦
          subst HasLines (sym (get_or_past nets n None past)) (record { differ = refl; formed = All-nil (λ (l : Line). IsCube l.cube) })
    ]

pub kernel_divisor : (nets : List (Option FlatNet)) (kernel : List (List Lit)) → All HasLines nets → IsKernelCandidate nets kernel → IsDivisorFor nets kernel
kernel_divisor nets kernel all k =
    let by = k.is.by in
    let is = k.is.is in
    let lines = lines_at (slot nets k.net) in
    let good = slot_lines nets k.net all in
    let from : (c : List Lit) → Contains kernel c → IsCube c × StandsIn nets c =
    λ c i.
    let row = quotient_row k.cover by c (All-contains (Contains (quotient k.cover by)) kernel c is.quotient.there i) in
    let f = line_of lines k.there.part row.cube k.there.there (subst (λ (cover : List (List Lit)). Contains cover row.cube) (sym k.there.is) row.held) in
    let formed : IsCube row.cube = subst IsCube (sym f.is) (All-contains (λ (l : Line). IsCube l.cube) lines f.line good.formed f.there) in (
      subst IsCube (sym row.is) (IsCube-cube_quotient by row.cube formed),
      record {
        net = k.net;
        line = f.line;
        there = f.there;
        each =
            All-Contains c f.line.cube (λ l j.
            let in_quotient : Contains (cube_quotient by row.cube) l = subst (λ (q : List Lit). Contains q l) row.is j in
            subst (λ (q : List Lit). Contains q l) f.is (Contains-from_filter (λ (m : Lit). not (has_symbol by m)) row.cube l in_quotient).0);
      },
    ) in
    record {
      some = omega (arith, is.two);
      ascending = is.ascending;
      distinct = ascend_once kernel is.ascending;
      formed = All-weaker (Contains kernel) IsCube (λ c i. (from c i).0) kernel (All-contains_itself kernel);
      literals = k.symbols;
      stand = All-weaker (Contains kernel) (StandsIn nets) (λ c i. (from c i).1) kernel (All-contains_itself kernel);
    }

-- what is read at a place is there
pub got : {X : Type 0} (xs : List X) (i : ℕ) (x : X) → slice_get xs i ≡ Some x → Contains xs x
got [] i x e = absurd (cc)
got (y ∷ ys) zero x e = let same : y ≡ x = cc in subst (Contains (y ∷ ys)) same (Contains-first y ys)
got (y ∷ ys) (suc i) x e = Contains-behind x y ys (got ys i x e)

-- a line of all tables stands in one of them
in_some_table : (nets : List (Option FlatNet)) (line : Line) → Contains (all_lines nets) line → (n : ℕ) × Contains (lines_at (slot nets n)) line
in_some_table [] line h = absurd (Contains-none line h)
in_some_table (f ∷ fs) line h =
    elim (Contains-append_cases (lines_at f) (all_lines fs) line h) [
      | inl here ↦ (0, here)
      | inr there ↦ let r = in_some_table fs line there in (suc r.0, r.1)
    ]

pub alone : (cube : List Lit) → Ascend (cube ∷ [])
unfolding IsStrictlySortedBy
alone cube = (tt, tt)

pub cube_divisor : (nets : List (Option FlatNet)) (divisor : List (List Lit)) → All HasLines nets → IsCubeCandidate nets divisor → IsDivisorFor nets divisor
cube_divisor nets divisor all d =
    let cube = common d.first.cube d.second.cube in
    let there = in_some_table nets d.first (got (all_lines nets) d.one d.first d.first_at) in
    let formed : IsCube d.first.cube = All-contains (λ (l : Line). IsCube l.cube) (lines_at (slot nets there.0)) d.first (slot_lines nets there.0 all).formed there.1 in
    subst (IsDivisorFor nets) (sym d.is)
    (record {
      some = omega arith;
      ascending = alone cube;
      distinct = ascend_once (cube ∷ []) (alone cube);
      formed = All-cons IsCube cube [] (IsCube-filter (has_symbol d.second.cube) d.first.cube formed) (All-nil IsCube);
      literals = All-cons (λ (c : List Lit). 0 < length c) cube [] (omega (arith, d.two)) (All-nil (λ (c : List Lit). 0 < length c));
      stand =
          All-cons (StandsIn nets) cube []
          (record {
            net = there.0;
            line = d.first;
            there = there.1;
            each = All-Contains cube d.first.cube (λ l j. (Contains-from_filter (has_symbol d.second.cube) d.first.cube l j).0);
          }) (All-nil (StandsIn nets));
    })

pub divisor_of : (nets : List (Option FlatNet)) (d : List (List Lit)) → IsDivisorFor nets d → IsDivisor d
divisor_of nets d i = record { some = i.some; literals = i.literals; distinct = i.distinct; formed = i.formed }

pub some_literals : (d : List (List Lit)) → 0 < length d → All (λ (c : List Lit). 0 < length c) d → 0 < literals d
some_literals [] h a = absurd (omega arith)
some_literals (c ∷ cs) h a =
    let first = All-head (λ (x : List Lit). 0 < length x) c cs a in
    let all = sum_by-cons (λ (x : List Lit). length x) c cs in
    omega (arith, first, all)
