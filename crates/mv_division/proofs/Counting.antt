-- What adding a divisor and dividing a table by it do to the literals of a network.
use Rattle.std.proofs.Common.{◌≡◌, ◌∙◌, ℕ, ◌+◌, List, [], ◌∷◌, length, Option, Some, None, refl, ap, arith, ◌<◌, false, All}
use Rattle.std.specs.List.{IsDistinct}
use Rattle.std.proofs.lemmas.Bool.{false_from_ne_true}
use Rattle.std.proofs.lemmas.List.Elements.{All-head, recursion_from_All}
use Rattle.std.proofs.lemmas.List.Sums.{sum_by-cons}
use Rattle.std.proofs.lemmas.Map.Keys.{IsDistinct-cons, sorted_tail}
use Rattle.mv_base.specs.Set.{one}
use Rattle.mv_cover.specs.Literal.{Lit}
use Rattle.mv_cover.specs.Complement.{lines_for}
use Rattle.mv_cover.specs.Covers.{literal_count}
use Rattle.mv_cover.specs.Equal.{cube_eq}
use Rattle.mv_cover.specs.Keys.{cube_eq-Decides}
use Rattle.mv_kernels.specs.Order.{Ascend, cube_cmp}
use Rattle.mv_cover.specs.declared.line.Line.{Line}
use Rattle.mv_cover.specs.declared.cover.Cover.{Cover}
use Rattle.mv_meaning.specs.Rewriting.{given_table, with_net_table}
use Rattle.mv_net.specs.declared.parts.FlatNet.{FlatNet}
use Rattle.mv_net.specs.declared.parts.NetParts.{NetParts}
use Rattle.mv_net.specs.Changes.{with_nets}
use Rattle.mv_net.specs.Nets.{slot, table_in, table_literals, literals_in}
use Rattle.mv_net.proofs.Named.{held_below}
use Rattle.mv_net.proofs.Tallied.{literals-append, literals-set}
use Rattle.mv_plans.specs.Adding.{divisor_net}
use Rattle.mv_saving.specs.Saving.{AreCubes, literals}
use Rattle.mv_division.specs.Divisors.{IsDivisorOver, divisor_cover, with_divisor}
use Rattle.mv_division.proofs.Covers.{ascend_apart}
use Rattle.mv_division.proofs.Lists.{each_of}
use Rattle.mv_division.specs.Divided.{HasLines}

-- ---- the divisor

ascend_distinct : (cubes : List (List Lit)) → Ascend cubes → IsDistinct cube_eq cubes
unfolding IsDistinct
ascend_distinct [] up = tt
ascend_distinct (c ∷ cs) up =
    IsDistinct-cons cube_eq c cs
    (recursion_from_All (λ (k : List Lit). cube_eq c k ≡ false) cs
    (each_of (λ (k : List Lit). cube_eq c k ≡ false) cs
    (λ k i. false_from_ne_true (cube_eq c k) (λ t. ascend_apart c cs k up i ((cube_eq-Decides c k).0 t)))))
    (ascend_distinct cs (sorted_tail cube_cmp c cs up))

pub divisor_cubes : (nets : List (Option FlatNet)) (divisor : List (List Lit)) → IsDivisorOver nets divisor → AreCubes divisor
divisor_cubes nets divisor is = record { formed = is.formed; distinct = ascend_distinct divisor is.ascending }

some_literals : (divisor : List (List Lit)) → 0 < length divisor → All (λ (c : List Lit). 0 < length c) divisor → 0 < literals divisor
some_literals [] some each = absurd (omega arith)
some_literals (c ∷ cs) some each =
    let first : 0 < length c = All-head (λ (k : List Lit). 0 < length k) c cs each in
    let sum = sum_by-cons (λ (k : List Lit). length k) c cs in
    omega (arith, first, sum)

pub divisor_some : (nets : List (Option FlatNet)) (divisor : List (List Lit)) → IsDivisorOver nets divisor → 0 < literals divisor
divisor_some nets divisor is = some_literals divisor is.some is.literals

-- ---- the rules

-- the lines of a divisor have its literals
divisor_literals : (divisor : List (List Lit)) → literal_count (lines_for (one 1) divisor) ≡ literals divisor
divisor_literals [] = refl
divisor_literals (c ∷ cs) = let rest = divisor_literals cs in let first = sum_by-cons (λ (k : List Lit). length k) c cs in omega (arith, rest, first)

pub added_literals : (net : NetParts) (name : List ℕ) (divisor : List (List Lit)) → literals_in (with_divisor net name divisor).nets ≡ literals_in net.nets + literals divisor
unfolding with_nets
added_literals net name divisor =
    let whole = literals-append net.nets (Some (divisor_net name (divisor_cover divisor)) ∷ []) in
    let own = divisor_literals divisor in
    omega (arith, whole, own)

-- a net with another table
given_literals : (nets : List (Option FlatNet)) (n : ℕ) (old table : Cover) → table_in (slot nets n) ≡ Some old → literals_in (with_net_table nets n table) + literal_count old.lines ≡ literals_in nets + literal_count table.lines
unfolding with_net_table
given_literals nets n old table e = by (slot nets n) refl e
  where
    by : (f : Option FlatNet) → slot nets n ≡ f → table_in f ≡ Some old → literals_in (with_net_table nets n table) + literal_count old.lines ≡ literals_in nets + literal_count table.lines
    by None held t = absurd cc
    by (Some f) held t =
        let set = literals-set nets n (given_table table (slot nets n)) (held_below nets n f held) in
        let before : table_literals (table_in (slot nets n)) ≡ literal_count old.lines = ap table_literals (ap table_in held ∙ t) in
        let after : table_literals (table_in (given_table table (slot nets n))) ≡ literal_count table.lines = ap (λ (g : Option FlatNet). table_literals (table_in (given_table table g))) held in
        omega (arith, set, before, after)

pub divided_literals : (net new : NetParts) (n : ℕ) (old : Cover) (lines : List Line) → table_in (slot net.nets n) ≡ Some old → HasLines net n old lines new → literals_in new.nets + literal_count old.lines ≡ literals_in net.nets + literal_count lines
unfolding with_nets
divided_literals net new n old lines e has =
    let given = given_literals net.nets n old has.table e in
    let nets : literals_in new.nets ≡ literals_in (with_net_table net.nets n has.table) = ap (λ (p : NetParts). literals_in p.nets) has.new_is in
    let same : literal_count has.table.lines ≡ literal_count lines = ap literal_count has.lines_are in
    omega (arith, given, nets, same)
