-- Cofactors of cubes: they match as the cubes do where the net has the value, and they are smaller.
use Rattle.std.proofs.Common.{◌≡◌, ◌∙◌, ℕ, ◌+◌, ◌≤◌, ◌<◌, Bool, true, false, ◌&&◌, ◌||◌, List, [], ◌∷◌, length, nat_eq, nat_lt, inl, inr, refl, sym, ap, arith, get_or, MatchBool, subst, zero, suc, Result, Ok, Err, IfOk}
use Rattle.std.specs.List.{list_all, list_any}
use Rattle.std.proofs.lemmas.Bool.{cases_Bool, false≢true, and_parts, or_left, or_right, ltb-true, eq-eqb, ne_eqb}
use Rattle.std.specs.Cmp.{unsigned_Decides}
use Rattle.mv_base.specs.Set.{has}
use Rattle.mv_cover.specs.Literal.{Lit}
use Rattle.mv_cover.specs.declared.line.Line.{Line}
use Rattle.mv_cover.specs.Cubes.{matches}
use Rattle.mv_cover.specs.Covers.{some_matches, cube_reads, lines_read}
pub use Rattle.mv_cover.specs.Covering.{changed}
use Rattle.mv_cover.specs.Covering.{IsPoint, AreWithin, CoversAll, MissesSome}
use Rattle.mv_cover.specs.Cofactors.{MatchEach, cubes_match, cubes_read, AreCubesWithin, CubesCover, CubesMiss, cube_allows, cube_without, cofactor_of, cubes_of}

pub same_number : (a b : ℕ) → nat_eq a b ≡ true → a ≡ b
same_number a b h = (unsigned_Decides a b).0 h

-- a number below the next that is another
below_other : (a b : ℕ) → a < b + 1 → nat_eq a b ≡ false → a < b
below_other a b low f =
    let ne : a ≡ b → ⊥ = λ e. false≢true (sym f ∙ eq-eqb a b e) in
    omega arith

pub regroup : (a b c m : Bool) → m ≡ (b && c) → (a && m) ≡ ((a && b) && c)
regroup true b c m e = e
regroup false b c m e = refl

pub swap : (a b c m : Bool) → m ≡ (b && c) → (a && m) ≡ (b && (a && c))
swap true b c m e = e
swap false true c m e = refl
swap false false c m e = refl

-- x has the value at the net, and is as y at every other
pub record AgreeBut (n value : ℕ) (x y : ℕ → ℕ) : Type 0 where
  pub here : x n ≡ value
  pub others : (m : ℕ) → nat_eq m n ≡ false → x m ≡ y m

pub matches-without : (n value : ℕ) (x y : ℕ → ℕ) → AgreeBut n value x y → (c : List Lit) → matches x c ≡ (cube_allows n value c && matches y (cube_without n c))
matches-without n value x y agree [] = refl
matches-without n value x y agree (l ∷ ls) =
    let ih = matches-without n value x y agree ls in
    elim (cases_Bool (nat_eq l.net.0 n)) [
      | inl t ↦
          let e : x l.net.0 ≡ value = ap x (same_number l.net.0 n t) ∙ agree.here in
          rw t (rw e (regroup (has l.set value) (cube_allows n value ls) (matches y (cube_without n ls)) (matches x ls) ih))
      | inr f ↦
          let e : x l.net.0 ≡ y l.net.0 = agree.others l.net.0 f in
          rw f (rw e (swap (has l.set (y l.net.0)) (cube_allows n value ls) (matches y (cube_without n ls)) (matches x ls) ih))
    ]

pub match-cofactor : (n value : ℕ) (x y : ℕ → ℕ) → AgreeBut n value x y → (cs : List (List Lit)) → cubes_match x cs ≡ cubes_match y (cofactor_of n value cs)
match-cofactor n value x y agree [] = refl
match-cofactor n value x y agree (c ∷ cs) =
    let ih = match-cofactor n value x y agree cs in
    let step = matches-without n value x y agree c in
    elim (cases_Bool (cube_allows n value c)) [
      | inl t ↦ rw t (rw step (rw t (ap (λ b. matches y (cube_without n c) || b) ih)))
      | inr f ↦ rw f (rw step (rw f ih))
    ]

-- a cube without a net reads less
pub without-reads : (n m : ℕ) (c : List Lit) → cube_reads (cube_without n c) m ≡ true → cube_reads c m ≡ true
without-reads n m [] h = h
without-reads n m (l ∷ ls) h =
    elim (cases_Bool (nat_eq l.net.0 n)) [
      | inl t ↦ or_right (nat_eq l.net.0 m) (cube_reads ls m) (without-reads n m ls (rw t at h))
      | inr f ↦
          elim (cases_Bool (nat_eq l.net.0 m)) [
            | inl t ↦ or_left (nat_eq l.net.0 m) (cube_reads ls m) t
            | inr g ↦ or_right (nat_eq l.net.0 m) (cube_reads ls m) (without-reads n m ls (rw g at (rw f at h)))
          ]
    ]

pub cofactor-reads : (n value m : ℕ) (cs : List (List Lit)) → cubes_read (cofactor_of n value cs) m ≡ true → cubes_read cs m ≡ true
cofactor-reads n value m [] h = h
cofactor-reads n value m (c ∷ cs) h =
    elim (cases_Bool (cube_allows n value c)) [
      | inr f ↦ or_right (cube_reads c m) (cubes_read cs m) (cofactor-reads n value m cs (rw f at h))
      | inl t ↦
          elim (cases_Bool (cube_reads (cube_without n c) m)) [
            | inl r ↦ or_left (cube_reads c m) (cubes_read cs m) (without-reads n m c r)
            | inr g ↦ or_right (cube_reads c m) (cubes_read cs m) (cofactor-reads n value m cs (rw g at (rw t at h)))
          ]
    ]

pub cofactor-within : (counts : List ℕ) (n value : ℕ) (cs : List (List Lit)) → AreCubesWithin counts cs → AreCubesWithin counts (cofactor_of n value cs)
cofactor-within counts n value cs w = record { valued = λ m h. w.valued m (cofactor-reads n value m cs h) }

-- a cube without a net has no more literals, and fewer if it reads the net
pub without-short : (n : ℕ) (c : List Lit) → length (cube_without n c) ≤ length c
without-short n [] = omega arith
without-short n (l ∷ ls) =
    let ih = without-short n ls in
    elim (cases_Bool (nat_eq l.net.0 n)) [
      | inl t ↦ rw t (omega arith)
      | inr f ↦ rw f (omega arith)
    ]

pub without-shorter : (n : ℕ) (c : List Lit) → cube_reads c n ≡ true → length (cube_without n c) < length c
without-shorter n [] h = absurd (false≢true h)
without-shorter n (l ∷ ls) h =
    elim (cases_Bool (nat_eq l.net.0 n)) [
      | inl t ↦ let k = without-short n ls in rw t (omega arith)
      | inr f ↦ let k = without-shorter n ls (rw f at h) in rw f (omega arith)
    ]

-- the literals of the cubes, each of which counts one
abbrev pub literals_of_cubes : List (List Lit) → ℕ
literals_of_cubes [] = 0
literals_of_cubes (c ∷ cs) = length c + literals_of_cubes cs

pub cofactor-short : (n value : ℕ) (cs : List (List Lit)) → literals_of_cubes (cofactor_of n value cs) ≤ literals_of_cubes cs
cofactor-short n value [] = omega arith
cofactor-short n value (c ∷ cs) =
    let ih = cofactor-short n value cs in
    let k = without-short n c in
    elim (cases_Bool (cube_allows n value c)) [
      | inl t ↦ rw t (omega arith)
      | inr f ↦ rw f (omega arith)
    ]

first-shorter : (n value : ℕ) (c : List Lit) (cs : List (List Lit)) → cube_reads c n ≡ true → literals_of_cubes (cofactor_of n value (c ∷ cs)) < literals_of_cubes (c ∷ cs)
first-shorter n value c cs h =
    let ih = cofactor-short n value cs in
    let k = without-shorter n c h in
    elim (cases_Bool (cube_allows n value c)) [
      | inl t ↦ rw t (omega arith)
      | inr f ↦ rw f (omega arith)
    ]

-- where some cube reads the net, there are fewer
pub cofactor-shorter : (n value : ℕ) (cs : List (List Lit)) → cubes_read cs n ≡ true → literals_of_cubes (cofactor_of n value cs) < literals_of_cubes cs
cofactor-shorter n value [] h = absurd (false≢true h)
cofactor-shorter n value (c ∷ cs) h =
    elim (cases_Bool (cube_reads c n)) [
      | inl r ↦ first-shorter n value c cs r
      | inr g ↦
          let ih = cofactor-shorter n value cs (rw g at h) in
          let k = without-short n c in
          elim (cases_Bool (cube_allows n value c)) [
            | inl t ↦ rw t (omega arith)
            | inr f ↦ rw f (omega arith)
          ]
    ]

pub changed-agrees : (n value : ℕ) (at : ℕ → ℕ) → AgreeBut n value (changed n value at) at
unfolding changed
changed-agrees n value at = record { here = rw (eq-eqb n n refl) refl; others = λ m f. rw f refl }

pub changed-point : (counts : List ℕ) (n value : ℕ) (at : ℕ → ℕ) → value < get_or counts n 0 → IsPoint counts at → IsPoint counts (changed n value at)
unfolding changed
changed-point counts n value at low p = record {
  below = λ m some.
      elim (cases_Bool (nat_eq m n)) [
        | inl t ↦ rw t (rw (same_number m n t) low)
        | inr f ↦ rw f (p.below m some)
      ];
}

-- a point that a cofactor misses gives one that the cubes miss
pub cofactor-missed : (counts : List ℕ) (n value : ℕ) (cs : List (List Lit)) → value < get_or counts n 0 → CubesMiss counts (cofactor_of n value cs) → CubesMiss counts cs
cofactor-missed counts n value cs low m = record {
  at = changed n value m.at;
  point = changed-point counts n value m.at low m.point;
  missed = match-cofactor n value (changed n value m.at) m.at (changed-agrees n value m.at) cs ∙ m.missed;
}

-- without cubes the point of zeros is missed
pub missed_by_none : (counts : List ℕ) (cs : List (List Lit)) → cs ≡ [] → CubesMiss counts cs
missed_by_none counts [] e = record { at = λ _. 0; point = record { below = λ n some. some }; missed = refl }
missed_by_none counts (c ∷ cs) e = cc

-- the cubes match every point at which the net has a value below this one
pub record CoverBelow (counts : List ℕ) (cubes : List (List Lit)) (n value : ℕ) : Type 0 where
  pub each : (at : ℕ → ℕ) → IsPoint counts at → at n < value → cubes_match at cubes ≡ true

-- no value is below 0
pub cover_start : (counts : List ℕ) (cs : List (List Lit)) (n : ℕ) → CoverBelow counts cs n 0
cover_start counts cs n = record { each = λ at p low. absurd (omega arith) }

-- one value more, whose cofactor is covered
pub cover_more : (counts : List ℕ) (cs : List (List Lit)) (n value : ℕ) → CoverBelow counts cs n value → CubesCover counts (cofactor_of n value cs) → CoverBelow counts cs n (value + 1)
cover_more counts cs n value below part = record {
  each = λ at p low.
      elim (cases_Bool (nat_eq (at n) value)) [
        | inl t ↦ match-cofactor n value at at (record { here = same_number (at n) value t; others = λ m f. refl }) cs ∙ part.each at p
        | inr f ↦ below.each at p (below_other (at n) value low f)
      ];
}

-- the cubes of the lines match and read as the lines do
pub cubes_match-lines : (at : ℕ → ℕ) (ls : List Line) → cubes_match at (cubes_of ls) ≡ some_matches at ls
cubes_match-lines at [] = refl
cubes_match-lines at (l ∷ ls) = ap (λ b. matches at l.cube || b) (cubes_match-lines at ls)

pub cubes_read-lines : (n : ℕ) (ls : List Line) → cubes_read (cubes_of ls) n ≡ lines_read ls n
cubes_read-lines n [] = refl
cubes_read-lines n (l ∷ ls) = ap (λ b. cube_reads l.cube n || b) (cubes_read-lines n ls)

pub cubes_within : (counts : List ℕ) (ls : List Line) → AreWithin counts ls → AreCubesWithin counts (cubes_of ls)
cubes_within counts ls w = record { valued = λ n h. w.valued n (sym (cubes_read-lines n ls) ∙ h) }

pub lines_cover : (counts : List ℕ) (ls : List Line) → CubesCover counts (cubes_of ls) → CoversAll counts ls
lines_cover counts ls c = record { each = λ at p. sym (cubes_match-lines at ls) ∙ c.each at p }

pub lines_miss : (counts : List ℕ) (ls : List Line) → CubesMiss counts (cubes_of ls) → MissesSome counts ls
lines_miss counts ls m = record { at = m.at; point = m.point; missed = sym (cubes_match-lines m.at ls) ∙ m.missed }

-- the answer on the cubes is the answer on the lines
pub lines_answer : (all : Bool) (counts : List ℕ) (ls : List Line) → MatchBool all (CubesCover counts (cubes_of ls)) (CubesMiss counts (cubes_of ls)) → MatchBool all (CoversAll counts ls) (MissesSome counts ls)
lines_answer true counts ls h = lines_cover counts ls h
lines_answer false counts ls h = lines_miss counts ls h

-- the same of a list that is the cofactor
pub part_within : (counts : List ℕ) (part cs : List (List Lit)) (n value : ℕ) → part ≡ cofactor_of n value cs → AreCubesWithin counts cs → AreCubesWithin counts part
part_within counts part cs n value e w = subst (λ (p : List (List Lit)). AreCubesWithin counts p) (sym e) (cofactor-within counts n value cs w)

pub part_smaller : (part cs : List (List Lit)) (n value : ℕ) → part ≡ cofactor_of n value cs → cubes_read cs n ≡ true → literals_of_cubes part < literals_of_cubes cs
part_smaller part cs n value e h = subst (λ (p : List (List Lit)). literals_of_cubes p < literals_of_cubes cs) (sym e) (cofactor-shorter n value cs h)

pub part_covered : (counts : List ℕ) (part : List (List Lit)) (all : Bool) → all ≡ true → MatchBool all (CubesCover counts part) (CubesMiss counts part) → CubesCover counts part
part_covered counts part true t m = m
part_covered counts part false t m = absurd (false≢true t)

pub part_missed : (counts : List ℕ) (part cs : List (List Lit)) (n value : ℕ) (all : Bool) → part ≡ cofactor_of n value cs → all ≡ false → MatchBool all (CubesCover counts part) (CubesMiss counts part) → value < get_or counts n 0 → CubesMiss counts cs
part_missed counts part cs n value false e f m low = cofactor-missed counts n value cs low (subst (λ (p : List (List Lit)). CubesMiss counts p) e m)
part_missed counts part cs n value true e f m low = absurd (false≢true (sym f))

pub lines_within : (counts : List ℕ) (cubes : List (List Lit)) (ls : List Line) → cubes ≡ cubes_of ls → AreWithin counts ls → AreCubesWithin counts cubes
lines_within counts cubes ls e w = subst (λ (p : List (List Lit)). AreCubesWithin counts p) (sym e) (cubes_within counts ls w)

pub lines_result : {E : Type 0} (result : Result Bool E) (counts : List ℕ) (cubes : List (List Lit)) (ls : List Line) → cubes ≡ cubes_of ls → IfOk result (λ all. MatchBool all (CubesCover counts cubes) (CubesMiss counts cubes)) → IfOk result (λ all. MatchBool all (CoversAll counts ls) (MissesSome counts ls))
lines_result (Ok all) counts cubes ls e h = lines_answer all counts ls (subst (λ (p : List (List Lit)). MatchBool all (CubesCover counts p) (CubesMiss counts p)) e h)
lines_result (Err f) counts cubes ls e h = h

-- a cube of the list without literals matches everywhere
pub matched_empty : (cs : List (List Lit)) → list_any (λ (c : List Lit). nat_eq (length c) 0) cs ≡ true → MatchEach cs
matched_empty [] h = absurd (false≢true h)
matched_empty ([] ∷ cs) h = record { each = λ at. refl }
matched_empty ((l ∷ c) ∷ cs) h =
    let rest : MatchEach cs = matched_empty cs (rw (ne_eqb (length (l ∷ c)) 0 (λ e. absurd (omega arith))) at h) in
    record { each = λ at. or_right (matches at (l ∷ c)) (cubes_match at cs) (rest.each at) }

-- the list reads what a cube of it reads
pub read_at : (cs : List (List Lit)) (i : ℕ) (d : List Lit) (n : ℕ) → i < length cs → cube_reads (get_or cs i d) n ≡ true → cubes_read cs n ≡ true
read_at [] i d n h r = absurd (omega arith)
read_at (c ∷ cs) zero d n h r = or_left (cube_reads c n) (cubes_read cs n) r
read_at (c ∷ cs) (suc i) d n h r = or_right (cube_reads c n) (cubes_read cs n) (read_at cs i d n (omega arith) r)

-- a net that the cubes read or that stands in one more of them is read
pub read_more : (cs : List (List Lit)) (i : ℕ) (c : List Lit) (n m : ℕ) → i < length cs → c ≡ get_or cs i c → cubes_read cs m ≡ true → (cube_reads c n ≡ false → n ≡ m) → cubes_read cs n ≡ true
read_more cs i c n m h here before same =
    elim (cases_Bool (cube_reads c n)) [
      | inl t ↦ read_at cs i c n h (ap (λ (x : List Lit). cube_reads x n) (sym here) ∙ t)
      | inr f ↦ ap (cubes_read cs) (same f) ∙ before
    ]

-- a cube over the nets below k reads nets below k
pub below-read : (k : ℕ) (c : List Lit) (n : ℕ) → list_all (λ (l : Lit). nat_lt l.net.0 k) c ≡ true → cube_reads c n ≡ true → n < k
below-read k [] n low h = absurd (false≢true h)
below-read k (l ∷ ls) n low h =
    let p = and_parts (nat_lt l.net.0 k) (list_all (λ (m : Lit). nat_lt m.net.0 k) ls) low in
    elim (cases_Bool (nat_eq l.net.0 n)) [
      | inl t ↦ let e : l.net.0 ≡ n = same_number l.net.0 n t in let j : l.net.0 < k = ltb-true l.net.0 k p.0 in omega arith
      | inr f ↦ below-read k ls n p.1 (rw f at h)
    ]
