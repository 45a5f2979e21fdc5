-- A cover depends on the nets that it has literals on, and on no other.
use Rattle.std.proofs.Common.{◌≡◌, ℕ, true, not, ◌&&◌, ◌||◌, List, [], ◌∷◌, refl, nat_eq, eq-eqb}
use Rattle.std.proofs.lemmas.Bool.{or_left, or_right}
use Rattle.mv_base.specs.Set.{has}
use Rattle.mv_cover.specs.Literal.{Lit}
use Rattle.mv_cover.specs.declared.line.Line.{Line}
use Rattle.mv_cover.specs.declared.cover.Cover.{Cover}
use Rattle.mv_cover.specs.Cubes.{matches}
use Rattle.mv_cover.specs.Covers.{some_matches, some_gives, default_gives, allowed, cube_reads, lines_read, cover_reads}

pub matches-local : (cube : List Lit) (x y : ℕ → ℕ) → ((m : ℕ) → cube_reads cube m ≡ true → x m ≡ y m) → matches x cube ≡ matches y cube
matches-local [] x y h = refl
matches-local (l ∷ ls) x y h =
    let here : x l.net.0 ≡ y l.net.0 = h l.net.0 (or_left (nat_eq l.net.0 l.net.0) (cube_reads ls l.net.0) (eq-eqb l.net.0 l.net.0 refl)) in
    let rest : matches x ls ≡ matches y ls = matches-local ls x y (λ m r. h m (or_right (nat_eq l.net.0 m) (cube_reads ls m) r)) in
    λ i. has l.set (here i) && rest i

pub some_matches-local : (ls : List Line) (x y : ℕ → ℕ) → ((m : ℕ) → lines_read ls m ≡ true → x m ≡ y m) → some_matches x ls ≡ some_matches y ls
some_matches-local [] x y h = refl
some_matches-local (l ∷ ls) x y h =
    let here : matches x l.cube ≡ matches y l.cube = matches-local l.cube x y (λ m r. h m (or_left (cube_reads l.cube m) (lines_read ls m) r)) in
    let rest : some_matches x ls ≡ some_matches y ls = some_matches-local ls x y (λ m r. h m (or_right (cube_reads l.cube m) (lines_read ls m) r)) in
    λ i. here i || rest i

pub some_gives-local : (ls : List Line) (x y : ℕ → ℕ) (v : ℕ) → ((m : ℕ) → lines_read ls m ≡ true → x m ≡ y m) → some_gives x v ls ≡ some_gives y v ls
some_gives-local [] x y v h = refl
some_gives-local (l ∷ ls) x y v h =
    let here : matches x l.cube ≡ matches y l.cube = matches-local l.cube x y (λ m r. h m (or_left (cube_reads l.cube m) (lines_read ls m) r)) in
    let rest : some_gives x v ls ≡ some_gives y v ls = some_gives-local ls x y v (λ m r. h m (or_right (cube_reads l.cube m) (lines_read ls m) r)) in
    λ i. (here i && has l.out v) || rest i

pub allowed-local : (c : Cover) (x y : ℕ → ℕ) (v : ℕ) → ((m : ℕ) → cover_reads c m ≡ true → x m ≡ y m) → allowed c x v ≡ allowed c y v
unfolding allowed
allowed-local c x y v h =
    let gives = some_gives-local c.lines x y v h in
    let met = some_matches-local c.lines x y h in
    λ i. gives i || (not (met i) && default_gives c.default v)
