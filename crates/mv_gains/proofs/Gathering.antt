-- The cubes with a symbol, from the tables that read its net.
use Rattle.std.proofs.Common.{◌≡◌, ◌∙◌, ℕ, ◌<◌, ◌⊎◌, true, false, nat_eq, is_some, Option, List, [], ◌∷◌, ◌++◌, length, map, get_or, All, Contains, inl, inr, refl, sym, ap, subst}
use Rattle.std.proofs.lemmas.List.Elements.{All-nil, All-cons, All-head, All-tail, All-get_or, All-contains, All-contains_itself, All-weaker}
use Rattle.std.specs.List.{flat_map}
use Rattle.mv_base.specs.declared.number.NetId.{NetId}
use Rattle.mv_cover.specs.Literal.{Lit}
use Rattle.mv_cover.specs.Cubes.{IsCube}
use Rattle.mv_cover.specs.declared.line.Line.{Line}
use Rattle.mv_cover.proofs.Absorbing.{any_at}
use Rattle.mv_graph.specs.Nets.{IsAscending}
use Rattle.mv_kernels.specs.Symbols.{has_symbol}
use Rattle.mv_kernels.proofs.Lists.{Contains-first, Contains-from_filter, Contains-from_map}
use Rattle.mv_kernels.proofs.Quotients.{symbol_in}
use Rattle.mv_net.specs.declared.parts.FlatNet.{FlatNet}
use Rattle.mv_net.specs.declared.parts.NetParts.{NetParts}
use Rattle.mv_net.specs.Formed.{WellFormed}
use Rattle.mv_net.specs.Index.{is_held}
use Rattle.mv_net.specs.Nets.{slot, net_reads}
use Rattle.mv_net.proofs.Known.{reads_readable}
use Rattle.std.proofs.lemmas.Bool.{false_from_ne_true, false≢true, eq-eqb}
use Rattle.mv_gains.specs.Answers.{all_cubes, all_with, with_symbol}
use Rattle.mv_gains.specs.Candidates.{all_lines}
use Rattle.mv_gains.specs.Gains.{cubes_at, lines_at}
use Rattle.std.proofs.lemmas.List.{map-append}
use Rattle.mv_gains.specs.Known.{numbers}
use Rattle.mv_gains.specs.Tables.{HasLines}
use Rattle.mv_gains.proofs.Kept.{all_lines_formed}
use Rattle.mv_gains.proofs.Filtered.{with_gathered}
use Rattle.mv_gains.proofs.Readers.{has_number, net_reads_at, readers_ascend, reads_below, table_at}

module _ (l : Lit) (cs : List (List Lit)) where
  abbrev has : List Lit → Type 0
  has c = has_symbol c l ≡ true

  pub with_formed : All IsCube cs → All IsCube (with_symbol l cs)
  with_formed a =
      All-weaker (Contains (with_symbol l cs)) IsCube (λ c i. All-contains IsCube cs c a (Contains-from_filter (λ k. has_symbol k l) cs c i).0) (with_symbol l cs) (All-contains_itself (with_symbol l cs))

  pub with_have : All (λ (c : List Lit). has_symbol c l ≡ true) (with_symbol l cs)
  with_have = All-weaker (Contains (with_symbol l cs)) has (λ c i. (Contains-from_filter (λ k. has_symbol k l) cs c i).1) (with_symbol l cs) (All-contains_itself (with_symbol l cs))

by_number : (f : ℕ → List (List Lit)) (ns : List NetId) → flat_map (λ (n : NetId). f n.0) ns ≡ flat_map f (numbers ns)
by_number f [] = refl
by_number f (n ∷ ns) = ap (λ cs. f n.0 ++ cs) (by_number f ns)

-- a table of which a cube has the symbol reads its net
reads_symbol : (f : Option FlatNet) (l : Lit) (c : List Lit) → Contains (cubes_at f) c → has_symbol c l ≡ true → net_reads f l.net.0 ≡ true
reads_symbol f l c i t =
    let line = Contains-from_map (λ (x : Line). x.cube) (lines_at f) c i in
    net_reads_at f line.0 l line.1 (subst (λ (k : List Lit). Contains k l) line.2 (symbol_in c l t))

pub with_readers : (nets : List (Option FlatNet)) (tables : List (List (List Lit))) (l : Lit) (readers : List NetId) → tables ≡ map cubes_at nets → IsAscending (λ m. net_reads (slot nets m) l.net.0) readers → all_with l tables readers ≡ with_symbol l (all_cubes tables)
with_readers nets tables l readers are a =
    by_number (λ p. with_symbol l (get_or tables p [])) readers ∙
    with_gathered l tables (numbers readers) (readers_ascend cubes_at nets tables l.net.0 readers are a) (λ p low. here p (with_symbol l (get_or tables p [])) refl)
  where
    here : (p : ℕ) (found : List (List Lit)) → with_symbol l (get_or tables p []) ≡ found → Contains (numbers readers) p ⊎ (with_symbol l (get_or tables p []) ≡ [])
    here p [] is = inr is
    here p (c ∷ cs) is =
        let from = Contains-from_filter (λ k. has_symbol k l) (get_or tables p []) c (subst (λ (ks : List (List Lit)). Contains ks c) (sym is) (Contains-first c cs)) in
        let there = subst (λ (ks : List (List Lit)). Contains ks c) (table_at cubes_at refl nets tables are p) from.0 in
        inl (has_number readers p (a.members p ∙ reads_symbol (slot nets p) l c there from.1))

cubes_formed : (lines : List Line) → All (λ (x : Line). IsCube x.cube) lines → All IsCube (map (λ (x : Line). x.cube) lines)
cubes_formed [] a = All-nil IsCube
cubes_formed (x ∷ xs) a =
    let Is : Line → Type 0 = λ y. IsCube y.cube in
    All-cons IsCube x.cube (map (λ (y : Line). y.cube) xs) (All-head Is x xs a) (cubes_formed xs (All-tail Is x xs a))

-- no table reads a net that isn't held
pub read_by_none : (net : NetParts) (n : ℕ) → WellFormed net → is_held net.nets n ≡ false → IsAscending (λ m. net_reads (slot net.nets m) n) []
read_by_none net n formed none = record {
  ascending = refl;
  members = λ m. sym (false_from_ne_true (net_reads (slot net.nets m) n) (λ t. false≢true (sym none ∙ ap is_some (reads_readable net m n formed t).held)));
}

-- the cubes that are put are those of such a table
pub put_formed : (net : NetParts) (nets : List (Option FlatNet)) (n : ℕ) (f : Option FlatNet) (lines : List Line) (cubes : List (List Lit)) → WellFormed net → nets ≡ net.nets → n < length nets → f ≡ get_or nets n f → lines ≡ lines_at f → cubes ≡ map (λ (x : Line). x.cube) lines → All IsCube cubes
put_formed net nets n f lines cubes formed same low at are is =
    let all : All HasLines nets = subst (λ (ns : List (Option FlatNet)). All HasLines ns) (sym same) (all_lines_formed net formed) in
    let h : HasLines f = subst HasLines (sym at) (All-get_or HasLines nets n f low all) in
    subst (All IsCube) (sym is) (cubes_formed lines (subst (λ (ls : List Line). All (λ (x : Line). IsCube x.cube) ls) (sym are) h.formed))

-- readers are nets of the network
pub readers_low : (nets : List (Option FlatNet)) (tables : List (List (List Lit))) (key : ℕ) (readers : List NetId) → tables ≡ map cubes_at nets → IsAscending (λ m. net_reads (slot nets m) key) readers → All (λ (n : NetId). n.0 < length tables) readers
readers_low nets tables key readers are a =
    All-weaker (Contains readers) (λ (n : NetId). n.0 < length tables)
    (λ n i. reads_below cubes_at nets tables key readers are a n.0 (any_at (λ (m : NetId). nat_eq m.0 n.0) readers n i (eq-eqb n.0 n.0 refl))) readers (All-contains_itself readers)

-- the cubes of all tables are those of all lines
pub flat_is : (nets : List (Option FlatNet)) → all_cubes (map cubes_at nets) ≡ map (λ (x : Line). x.cube) (all_lines nets)
flat_is [] = refl
flat_is (f ∷ fs) = ap (λ cs. cubes_at f ++ cs) (flat_is fs) ∙ sym (map-append (λ (x : Line). x.cube) (lines_at f) (all_lines fs))
