-- What operations on sets of points tell of a cover.
use Rattle.std.proofs.Common.{◌≡◌, ◌∙◌, ◌↔◌, ℕ, ◌<◌, ◌&&◌, Bool, true, false, not, nat_eq, List, [], ◌∷◌, length, IsTrue, refl, sym, ap, subst, ⊎_elim, arith}
use Rattle.std.specs.Prelude.{MatchBool}
use Rattle.std.specs.List.{list_all}
use Rattle.std.proofs.lemmas.Bool.{cases_Bool, true≢false, false≢true, and_from, and_parts, or_cases, eqb-true, lt-ltb}
use Rattle.mv_base.specs.declared.number.NetId.{NetId}
use Rattle.mv_cover.specs.Literal.{Lit}
use Rattle.mv_cover.specs.declared.line.Line.{Line}
use Rattle.mv_cover.specs.declared.cover.Cover.{Cover}
use Rattle.mv_cover.specs.Covers.{allowed, cover_reads, cube_reads, lines_read}
use Rattle.mv_diagram.specs.Sets.{Point, InRange, SameSet}
use Rattle.mv_factors.specs.Families.{Family, Keeps, before, but, set_at}
use Rattle.mv_graph.specs.Nets.{has_id}
use Rattle.mv_relation.specs.Relations.{AreApart, assigned}
use Rattle.mv_wide.specs.declared.frame.Frame.{Frame}
use Rattle.mv_wide.specs.Choosing.{Hits}
use Rattle.mv_wide.specs.Judging.{AllowsOutside, LosesChoice, gives, gives_none, gives_some, reads_among}
use Rattle.mv_wide.specs.Wides.{IsFramed, IsReady}

-- ---- whether a set has a point

-- no point of a set
abbrev pub IsBare : List ℕ → (Point → Bool) → Type 0
IsBare counts set = (p : Point) → InRange counts p → set p ≡ false

pub some_found : (f g : Family) (place none : ℕ) (r : Bool) → none ≡ length f.list → place < length f.list → Keeps f g (before (length f.list))
    → ((p : Point) → set_at g (length f.list) p ≡ false) → (IsTrue r ↔ SameSet g.contents.counts (λ p. set_at g place p) (λ p. set_at g none p))
    → MatchBool (not r) (IsBare f.contents.counts (λ p. set_at f place p) → ⊥) (IsBare f.contents.counts (λ p. set_at f place p))
some_found f g place none true is inside keeps bare same = λ p range.
    sym (keeps.sets place p (lt-ltb place (length f.list) inside))
    ∙ (same.0 refl).each p (subst (λ (cs : List ℕ). InRange cs p) (sym keeps.counts) range)
    ∙ (ap (λ k. set_at g k p) is ∙ bare p)
some_found f g place none false is inside keeps bare same = λ all.
    false≢true (same.1 (record {
      each = λ p range.
          keeps.sets place p (lt-ltb place (length f.list) inside)
          ∙ all p (subst (λ (cs : List ℕ). InRange cs p) keeps.counts range)
          ∙ sym (ap (λ k. set_at g k p) is ∙ bare p);
    }))

-- ---- whether a set has a point that passes a test

pub hits_found : (counts : List ℕ) (set test t : Point → Bool) (r : Bool) → ((p : Point) → InRange counts p → t p ≡ (test p && set p))
    → MatchBool r (IsBare counts t → ⊥) (IsBare counts t) → MatchBool r ((Hits counts set test → ⊥) → ⊥) (Hits counts set test → ⊥)
hits_found counts set test t true same h = λ none.
    h (λ p range.
    same p range
    ∙ ⊎_elim
    (λ (yes : (test p && set p) ≡ true).
    let parts = and_parts (test p) (set p) yes in
    absurd (none (record { point = p; range = range; passes = parts.0; is = parts.1 })))
    (λ (no : (test p && set p) ≡ false). no)
    (cases_Bool (test p && set p)))
hits_found counts set test t false same h = λ hit.
    true≢false (sym (same hit.point hit.range ∙ and_from (test hit.point) (set hit.point) hit.passes hit.is) ∙ h hit.point hit.range)

pub and_turned : (a b : Bool) → (a && b) ≡ (b && a)
and_turned true true = refl
and_turned true false = refl
and_turned false true = refl
and_turned false false = refl

-- ---- covers over nets of a list

cube_among : (ns : List NetId) (ls : List Lit) (m : ℕ) → list_all (λ (k : Lit). has_id ns k.net.0) ls ≡ true → cube_reads ls m ≡ true → has_id ns m ≡ true
cube_among ns [] m all reads = absurd (true≢false (sym reads))
cube_among ns (l ∷ ls) m all reads =
    let parts = and_parts (has_id ns l.net.0) (list_all (λ (k : Lit). has_id ns k.net.0) ls) all in
    ⊎_elim (λ (here : nat_eq l.net.0 m ≡ true). subst (λ k. has_id ns k ≡ true) (eqb-true l.net.0 m here) parts.0)
    (λ (rest : cube_reads ls m ≡ true). cube_among ns ls m parts.1 rest) (or_cases (nat_eq l.net.0 m) (cube_reads ls m) reads)

lines_among : (ns : List NetId) (ls : List Line) (m : ℕ) → list_all (λ (l : Line). list_all (λ (k : Lit). has_id ns k.net.0) l.cube) ls ≡ true
    → lines_read ls m ≡ true → has_id ns m ≡ true
lines_among ns [] m all reads = absurd (true≢false (sym reads))
lines_among ns (l ∷ ls) m all reads =
    let parts = and_parts (list_all (λ (k : Lit). has_id ns k.net.0) l.cube) (list_all (λ (j : Line). list_all (λ (k : Lit). has_id ns k.net.0) j.cube) ls) all in
    ⊎_elim (λ (here : cube_reads l.cube m ≡ true). cube_among ns l.cube m parts.0 here)
    (λ (rest : lines_read ls m ≡ true). lines_among ns ls m parts.1 rest) (or_cases (cube_reads l.cube m) (lines_read ls m) reads)

fewer_apart : (counts vars : List ℕ) (own : ℕ) (reads fewer : ℕ → Bool) → ((m : ℕ) → fewer m ≡ true → reads m ≡ true)
    → AreApart counts vars own reads → AreApart counts vars own fewer
fewer_apart counts vars own reads fewer more are = record {
  listed = λ m r. are.listed m (more m r);
  within = λ m r. are.within m (more m r);
  beside = λ m r. are.beside m (more m r);
  differ = λ m k r s. are.differ m k (more m r) (more k s);
}

-- the variables of the nets that the cover reads
pub cover_apart : (f : Frame) (c : Cover) → IsFramed f → reads_among f.fanins.items c ≡ true
    → AreApart f.counts.items f.vars.items f.own (cover_reads c)
cover_apart f c is among =
    fewer_apart f.counts.items f.vars.items f.own (has_id f.fanins.items) (cover_reads c) (λ m r. lines_among f.fanins.items c.lines m among r) is.apart

pub old_apart : (f : Frame) → IsFramed f → AreApart f.counts.items f.vars.items f.own (cover_reads f.table)
old_apart f is = fewer_apart f.counts.items f.vars.items f.own (has_id f.fanins.items) (cover_reads f.table) is.old is.apart

pub apart_in : (f : Frame) (reads : ℕ → Bool) (counts : List ℕ) → counts ≡ f.counts.items → AreApart f.counts.items f.vars.items f.own reads
    → AreApart counts f.vars.items f.own reads
apart_in f reads counts same are = subst (λ (cs : List ℕ). AreApart cs f.vars.items f.own reads) (sym same) are

-- what is ready stays so where the first set does
pub ready_kept : (s t : Family) (f : Frame) → IsReady s f → Keeps s t (before 1) → 0 < length t.list → IsReady t f
ready_kept s t f ready keeps first = record {
  first = first;
  room = let a = ready.room in let b = keeps.room in omega (arith, a, b);
  counts = keeps.counts ∙ ready.counts;
  framed = ready.framed;
}

pub told_apart : (f : Frame) (c : Cover) → IsFramed f → (ns : List NetId) → ns ≡ f.fanins.items → (b : Bool) → b ≡ reads_among ns c → b ≡ true
    → AreApart f.counts.items f.vars.items f.own (cover_reads c)
told_apart f c framed ns is b told holds = cover_apart f c framed (ap (λ (k : List NetId). reads_among k c) (sym is) ∙ (sym told ∙ holds))

-- ---- what is found of a cover

bare_there : (cs counts : List ℕ) (t : Point → Bool) (r : Bool) → cs ≡ counts → MatchBool r (IsBare cs t → ⊥) (IsBare cs t)
    → MatchBool r (IsBare counts t → ⊥) (IsBare counts t)
bare_there cs counts t r same h = subst (λ (k : List ℕ). MatchBool r (IsBare k t → ⊥) (IsBare k t)) same h

pub outside_told : (s k g h : Family) (f : Frame) (c : Cover) (vars : List ℕ) → s.contents.counts ≡ f.counts.items → vars ≡ f.vars.items
    → Keeps s k (before 1) → length k.list ≡ 1 → Keeps k g (before (length k.list))
    → ((p : Point) → InRange k.contents.counts p → set_at g (length k.list) p ≡ allowed c (assigned vars p) (p f.own))
    → Keeps g h (but 1) → ((p : Point) → set_at h 1 p ≡ (set_at g 1 p && set_at g 0 p))
    → (r : Bool) → MatchBool r (IsBare h.contents.counts (λ p. set_at h 1 p) → ⊥) (IsBare h.contents.counts (λ p. set_at h 1 p))
    → MatchBool r ((AllowsOutside s f c → ⊥) → ⊥) (AllowsOutside s f c → ⊥)
outside_told s k g h f c vars same is first long second allows third both r found =
    hits_found f.counts.items (λ p. set_at s 0 p) (gives f c) (λ p. set_at h 1 p) r
    (λ p range.
    let here : InRange k.contents.counts p = subst (λ (cs : List ℕ). InRange cs p) (sym (first.counts ∙ same)) range in
    let cover : set_at g 1 p ≡ gives f c p =
    ap (λ n. set_at g n p) (sym long) ∙ allows p here ∙ ap (λ (v : List ℕ). allowed c (assigned v p) (p f.own)) is in
    let old : set_at g 0 p ≡ set_at s 0 p =
    second.sets 0 p (lt-ltb 0 (length k.list) (omega (arith, long))) ∙ first.sets 0 p (lt-ltb 0 1 (omega arith)) in
    both p ∙ (λ i. cover i && old i))
    (bare_there h.contents.counts f.counts.items (λ p. set_at h 1 p) r (third.counts ∙ second.counts ∙ first.counts ∙ same) found)

pub lost_told : (g h k : Family) (f : Frame) (c : Cover) → g.contents.counts ≡ f.counts.items
    → ((p : Point) → InRange f.counts.items p → set_at g 1 p ≡ gives_some f f.table p)
    → ((p : Point) → InRange f.counts.items p → set_at g 2 p ≡ gives_some f c p)
    → Keeps g h (but 2) → ((p : Point) → set_at h 2 p ≡ not (set_at g 2 p))
    → Keeps h k (but 1) → ((p : Point) → set_at k 1 p ≡ (set_at h 1 p && set_at h 2 p))
    → (r : Bool) → MatchBool r (IsBare k.contents.counts (λ p. set_at k 1 p) → ⊥) (IsBare k.contents.counts (λ p. set_at k 1 p))
    → MatchBool r ((LosesChoice f c → ⊥) → ⊥) (LosesChoice f c → ⊥)
lost_told g h k f c same old new first turned second both r found =
    hits_found f.counts.items (gives_some f f.table) (gives_none f c) (λ p. set_at k 1 p) r
    (λ p range.
    let some : set_at h 1 p ≡ gives_some f f.table p = first.sets 1 p refl ∙ old p range in
    let none : set_at h 2 p ≡ gives_none f c p = turned p ∙ ap not (new p range) in
    both p ∙ (λ i. some i && none i) ∙ and_turned (gives_some f f.table p) (gives_none f c p))
    (bare_there k.contents.counts f.counts.items (λ p. set_at k 1 p) r (second.counts ∙ first.counts ∙ same) found)
