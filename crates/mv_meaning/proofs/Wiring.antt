-- A net that has the value of another, by a plain buffer: where those that read it read the other instead, the network is well
-- formed and means what it meant.
use Rattle.std.proofs.Common.{◌≡◌, ◌∙◌, ◌⊎◌, ℕ, suc, ◌<◌, true, false, ◌&&◌, not, nat_eq, List, [], ◌∷◌, length, map, Option, IsTrue, All, refl, sym, ap, subst, ⊎_elim, eqb-true, eq-eqb, arith}
use Rattle.std.proofs.lemmas.Bool.{and_parts, or_cases, or_left, false≢true}
use Rattle.mv_base.specs.Set.{has, one}
use Rattle.mv_base.specs.Meaning.{SameMeaning}
use Rattle.mv_base.proofs.Sets.{has-one}
use Rattle.mv_cover.specs.declared.cover.Cover.{Cover}
use Rattle.mv_cover.specs.declared.line.Line.{Line}
use Rattle.mv_cover.specs.Cubes.{matches}
use Rattle.mv_cover.specs.Covers.{allowed, some_gives, some_matches, default_gives, cube_reads, lines_read, cover_reads}
use Rattle.mv_cover.specs.Covering.{IsPoint}
use Rattle.mv_graph.specs.Above.{IsAbove}
use Rattle.mv_net.specs.declared.parts.FlatNet.{FlatNet}
use Rattle.mv_net.specs.declared.parts.NetParts.{NetParts}
use Rattle.mv_net.specs.Nets.{slot, values_in, table_reads, reads_in}
use Rattle.mv_net.specs.Formed.{IsCover, WellFormed}
use Rattle.mv_net.specs.Allowed.{net_allows, of_net}
use Rattle.mv_net.specs.Changes.{with_nets}
use Rattle.mv_net.specs.Plain.{IsPlainBuffer, IsCopy, copy_line}
use Rattle.mv_meaning.specs.Rewriting.{rewritten, IsReader}
use Rattle.mv_meaning.proofs.Reformed.{net_allows-parts}
use Rattle.mv_meaning.proofs.Rewired.{reader_reads, itself_unread, rewritten_formed, rewritten_means}

-- ---- the value of a buffer

one_is : (v u : ℕ) → has (one v) u ≡ true → u ≡ v
one_is v u h = eqb-true u v (sym (has-one v u) ∙ h)

-- a line that gives a value where m has it gives the value of m alone
copy_gives : (m v : ℕ) (x : ℕ → ℕ) (u : ℕ) → (matches x (copy_line m v).cube && has (copy_line m v).out u) ≡ true → u ≡ x m
copy_gives m v x u h =
    let p = and_parts (matches x (copy_line m v).cube) (has (one v) u) h in
    one_is v u p.1 ∙ sym (one_is v (x m) (and_parts (has (one v) (x m)) true p.0).0)

copies_give : (m : ℕ) (x : ℕ → ℕ) (u : ℕ) (ls : List Line) → All (IsCopy m) ls → some_gives x u ls ≡ true → u ≡ x m
copies_give m x u [] all h = absurd (false≢true h)
copies_give m x u (l ∷ ls) all h =
    ⊎_elim
    (λ (here : (matches x l.cube && has l.out u) ≡ true).
    let copy : IsCopy m l = all 0 l (omega arith) in
    copy_gives m copy.value x u (subst (λ (k : Line). (matches x k.cube && has k.out u) ≡ true) copy.is here))
    (λ (rest : some_gives x u ls ≡ true). copies_give m x u ls (λ k d low. all (suc k) d (omega (arith, low))) rest)
    (or_cases (matches x l.cube && has l.out u) (some_gives x u ls) h)

-- a plain buffer has the value of the net that it copies
pub buffer_value : (nets : List (Option FlatNet)) (n m : ℕ) (x : ℕ → ℕ) → IsPlainBuffer nets n m → IsTrue (net_allows (slot nets n) x (x n)) → x n ≡ x m
unfolding allowed
buffer_value nets n m x p a =
    let own = net_allows-parts (slot nets n) p.cover x (x n) p.table a in
    ⊎_elim
    (λ (given : some_gives x (x n) p.cover.lines ≡ true). copies_give m x (x n) p.cover.lines p.only given)
    (λ (d : (not (some_matches x p.cover.lines) && default_gives p.cover.default (x n)) ≡ true).
    let none : default_gives p.cover.default (x n) ≡ false = ap (λ o. default_gives o (x n)) p.bare in
    absurd (false≢true (sym none ∙ (and_parts (not (some_matches x p.cover.lines)) (default_gives p.cover.default (x n)) d).1)))
    (or_cases (some_gives x (x n) p.cover.lines) (not (some_matches x p.cover.lines) && default_gives p.cover.default (x n)) own.1)

-- and reads it
copies_read : (m : ℕ) (ls : List Line) → 0 < length ls → All (IsCopy m) ls → lines_read ls m ≡ true
copies_read m [] some all = absurd (omega (arith, some))
copies_read m (l ∷ ls) some all =
    let copy : IsCopy m l = all 0 l (omega arith) in
    or_left (cube_reads l.cube m) (lines_read ls m) (subst (λ (k : Line). cube_reads k.cube m ≡ true) (sym copy.is) (or_left (nat_eq m m) false (eq-eqb m m refl)))

pub buffer_reads : (nets : List (Option FlatNet)) (n m : ℕ) → IsPlainBuffer nets n m → reads_in nets n m ≡ true
buffer_reads nets n m p =
    let two = p.some in
    let first = p.every 0 (omega (arith, two)) in
    let low = first.1 in
    ap (λ t. table_reads t m) p.table ∙ copies_read m p.cover.lines (omega (arith, low)) p.only

-- ---- the other in its place

-- the network is well formed, where each new table is a cover and reads what the old one did, or the other net
pub wired_formed : (net : NetParts) (n other : ℕ) (new : Cover → Cover) → WellFormed net → IsPlainBuffer net.nets n other
    → ((m : ℕ) (c : Cover) → IsReader net.nets n m c → IsCover net.nets (values_in (slot net.nets m)) (new c))
    → ((m : ℕ) (c : Cover) (k : ℕ) → IsReader net.nets n m c → cover_reads (new c) k ≡ true → (cover_reads c k ≡ true) ⊎ (k ≡ other))
    → WellFormed (with_nets net (rewritten new n net.nets))
wired_formed net n other new formed buffer covers reads = rewritten_formed net n new formed covers above
  where
    above : (m : ℕ) (c : Cover) (k : ℕ) → IsReader net.nets n m c → cover_reads (new c) k ≡ true → IsAbove (reads_in net.nets) k m
    above m c k r h =
        ⊎_elim
        (λ (own : cover_reads c k ≡ true). record { path = []; goes = ap (λ t. table_reads t k) r.table ∙ own })
        (λ (e : k ≡ other). record { path = n ∷ []; goes = (reader_reads net.nets n m c r, ap (reads_in net.nets n) e ∙ buffer_reads net.nets n other buffer) })
        (reads m c k r h)

-- it means what it meant, where each new table allows what the old one did at each point where the two nets have one value
pub wired_means : (net : NetParts) (n other : ℕ) (new : Cover → Cover) → WellFormed net → IsPlainBuffer net.nets n other
    → ((x : ℕ → ℕ) → IsPoint (map values_in net.nets) x → x n ≡ x other → (m : ℕ) (c : Cover) → IsReader net.nets n m c → allowed (new c) x (x m) ≡ allowed c x (x m))
    → SameMeaning (of_net (with_nets net (rewritten new n net.nets))) (of_net net)
wired_means net n other new formed buffer same =
    rewritten_means net n new
    (λ x a point. same x point (buffer_value net.nets n other x buffer (a.each n (itself_unread net n formed))))
