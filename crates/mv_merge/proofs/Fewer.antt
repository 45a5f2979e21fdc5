-- Tables behind a merge have no more literals.
use Rattle.std.proofs.Common.{◌≡◌, ℕ, ◌≤◌, nat_eq, List, [], ◌∷◌, length, map, Option, Some, None, refl, arith}
use Rattle.std.specs.List.{flat_map}
use Rattle.std.proofs.lemmas.Bool.{cond_both}
use Rattle.std.proofs.lemmas.List.{length-append}
use Rattle.mv_base.specs.Set.{full}
use Rattle.mv_base.specs.declared.number.NetId.{NetId}
use Rattle.mv_cover.specs.Absorb.{absorbed}
use Rattle.mv_cover.specs.Covers.{cover_reads, literal_count}
use Rattle.mv_cover.specs.Literal.{Lit}
use Rattle.mv_cover.specs.declared.cover.Cover.{Cover}
use Rattle.mv_cover.specs.declared.line.Line.{Line}
use Rattle.mv_locality.proofs.FewerLines.{fewer_left, fewer_given}
use Rattle.mv_meaning.specs.Rewriting.{rewired_table}
use Rattle.mv_merging.specs.declared.merging.Merging.{Merging}
use Rattle.mv_merging.specs.Nets.{table_merged}
use Rattle.mv_merging.specs.Tables.{asked_of, literal_merged, cube_merged, some_empty, line_merged, reader_merged, output_merged, own_merged}
use Rattle.mv_merging.specs.Values.{merged_set}
use Rattle.mv_net.specs.Nets.{table_literals}

-- ---- a reader's table

-- of a literal one is left, or none
asked_few : (net : NetId) (k set : ℕ) → length (asked_of net k set) ≤ 1
asked_few net k set =
    let one : List Lit = record { net = net; set = set } ∷ [] in
    cond_both (nat_eq set (full k)) [] one (λ c. length c ≤ 1) (λ _. omega arith) (λ _. omega arith)

literal_few : (m : Merging) (n : ℕ) (l : Lit) → length (literal_merged m n l) ≤ 1
literal_few m n l =
    cond_both (nat_eq l.net.0 n) (asked_of l.net m.left (merged_set m l.set)) (l ∷ []) (λ c. length c ≤ 1) (λ _. asked_few l.net m.left (merged_set m l.set)) (λ _. omega arith)

cube_few : (m : Merging) (n : ℕ) (cube : List Lit) → length (cube_merged m n cube) ≤ length cube
cube_few m n [] = omega arith
cube_few m n (l ∷ ls) = omega (arith, literal_few m n l, cube_few m n ls, length-append (literal_merged m n l) (cube_merged m n ls))

line_few : (m : Merging) (n : ℕ) (l : Line) → literal_count (line_merged m n l) ≤ length l.cube
unfolding line_merged
line_few m n l =
    let one : List Line = record { cube = cube_merged m n l.cube; out = l.out } ∷ [] in
    cond_both (some_empty (cube_merged m n l.cube)) [] one (λ ls. literal_count ls ≤ length l.cube) (λ _. omega arith) (λ _. omega (arith, cube_few m n l.cube))

reader_few : (m : Merging) (n : ℕ) (c : Cover) → literal_count (reader_merged m n c).lines ≤ literal_count c.lines
unfolding reader_merged absorbed
reader_few m n c = omega (arith, fewer_left (flat_map (line_merged m n) c.lines), fewer_given (line_merged m n) (line_few m n) c.lines)

-- no net's table has more behind the merge of values of another
pub rewired_few : (m : Merging) (n : ℕ) (t : Option Cover) → table_literals (rewired_table (reader_merged m n) n t) ≤ table_literals t
rewired_few m n None = omega arith
rewired_few m n (Some c) =
    cond_both (cover_reads c n) (reader_merged m n c) c (λ d. literal_count d.lines ≤ literal_count c.lines) (λ _. reader_few m n c) (λ _. omega arith)

-- ---- the net's own table

outputs_same : (m : Merging) (ls : List Line) → literal_count (map (output_merged m) ls) ≡ literal_count ls
outputs_same m [] = refl
outputs_same m (l ∷ ls) = omega (arith, outputs_same m ls)

pub own_few : (m : Merging) (t : Option Cover) → table_literals (table_merged m t) ≤ table_literals t
unfolding own_merged absorbed
own_few m None = omega arith
own_few m (Some c) = omega (arith, fewer_left (map (output_merged m) c.lines), outputs_same m c.lines)
