-- Absorbing: what goes was said by what stays.
use Rattle.std.proofs.Common.{◌≡◌, ◌∙◌, ℕ, suc, zero, ◌+◌, ◌<◌, ◌≤◌, Bool, true, false, not, ◌&&◌, ◌||◌, List, [], ◌∷◌, length, filter, nat_eq, inl, inr, refl, sym, ap, arith, Option, Some, None, All, add-one}
use Rattle.indexmap.specs.IndexSet.{insert_all}
use Rattle.std.specs.List.{list_any, Contains}
use Rattle.std.proofs.lemmas.Bool.{cases_Bool, false≢true, and_parts, and_from, or_left, or_right, not-true, not_from_false, eq-eqb, false_from_ne_true}
use Rattle.std.proofs.lemmas.List.Elements.{All-contains, All-filter, All-cons, All-head, All-tail}
use Rattle.std.proofs.lemmas.List.Folds.{list_any_at}
use Rattle.std.proofs.lemmas.Map.Views.{any-filter_same}
use Rattle.mv_base.specs.Set.{has, meet}
use Rattle.mv_base.proofs.Firsts.{keys-firsts}
use Rattle.mv_base.proofs.Sets.{meet_of_Within, Within-from_meet}
use Rattle.mv_cover.specs.Literal.{Lit}
use Rattle.mv_cover.specs.declared.line.Line.{Line}
use Rattle.mv_cover.specs.declared.cover.Cover.{Cover}
use Rattle.mv_cover.specs.Cubes.{matches, IsCube}
use Rattle.mv_cover.specs.Covers.{some_matches, some_gives, default_gives, allowed}
use Rattle.mv_cover.specs.Meets.{literal_at}
use Rattle.mv_cover.specs.Containing.{set_within, set_lies, lies_in}
use Rattle.mv_cover.specs.Equal.{line_eq}
use Rattle.mv_cover.specs.Keys.{same_lit, same_line, line_eq-Decides}
use Rattle.mv_cover.specs.Absorb.{firsts, line_lies, swallowed_by, unswallowed, left_of, some_bare, default_beside, absorbed}
use Rattle.mv_cover.proofs.Covering.{same_number}
use Rattle.mv_cover.proofs.Meets.{Rises, Rises-cube, nothing_below, order}
use Rattle.mv_cover.proofs.Containing.{lies_inside, same_from_Within}
use Rattle.mv_cover.proofs.Inclusion.{lies_in-above, missing}

-- ---- cubes within cubes

-- on a net where b has a literal, a cube that lies in b has one within
lies_at : (a b : List Lit) (n s : ℕ) → lies_in a b ≡ true → literal_at b n ≡ Some s → set_lies (literal_at a n) s ≡ true
lies_at a [] n s h e = let no : None ≡ Some s = e in absurd (cc)
lies_at a (l ∷ b) n s h e =
    let p = and_parts (set_lies (literal_at a l.net.0) l.set) (lies_in a b) h in
    elim (cases_Bool (nat_eq l.net.0 n)) [
      | inl t ↦
          let here : Some l.set ≡ Some s = rw t at e in
          let same : l.set ≡ s = cc in
          let net : l.net.0 ≡ n = same_number l.net.0 n t in
          (λ i. set_lies (literal_at a (sym net i)) (sym same i)) ∙ p.0
      | inr f ↦ lies_at a b n s p.1 (rw f at e)
    ]

-- a set within one that lies in a third lies there
set_wider : (o : Option ℕ) (t s : ℕ) → set_lies o t ≡ true → set_within t s ≡ true → set_lies o s ≡ true
set_wider None t s h k = h
set_wider (Some u) t s h k =
    eq-eqb (meet u s) u
    (meet_of_Within u s (λ v m. Within-from_meet t s (same_number (meet t s) t k) v (Within-from_meet u t (same_number (meet u t) u h) v m)))

lies_through : (o : Option ℕ) (a b : List Lit) (n s : ℕ) → lies_in a b ≡ true → literal_at b n ≡ o → set_lies o s ≡ true → set_lies (literal_at a n) s ≡ true
lies_through None a b n s h e k = absurd (false≢true k)
lies_through (Some t) a b n s h e k = set_wider (literal_at a n) t s (lies_at a b n t h e) k

-- a cube in a cube that lies in a third lies there
lies_in-trans : (a b c : List Lit) → lies_in a b ≡ true → lies_in b c ≡ true → lies_in a c ≡ true
lies_in-trans a b [] h k = refl
lies_in-trans a b (l ∷ c) h k =
    let p = and_parts (set_lies (literal_at b l.net.0) l.set) (lies_in b c) k in
    and_from (set_lies (literal_at a l.net.0) l.set) (lies_in a c) (lies_through (literal_at b l.net.0) a b l.net.0 l.set h refl p.0) (lies_in-trans a b c h p.1)

-- cubes that lie in one another are one
lies_in-same : (h k : ℕ) (a b : List Lit) → Rises h a → Rises k b → lies_in a b ≡ true → lies_in b a ≡ true → a ≡ b
lies_in-same h k [] [] r q x y = refl
lies_in-same h k [] (m ∷ b) r q x y = absurd (false≢true x)
lies_in-same h k (l ∷ a) [] r q x y = absurd (false≢true y)
lies_in-same h k (l ∷ a) (m ∷ b) r q x y =
    elim (order l.net.0 m.net.0) [
      | inl low ↦
          let before : l.net.0 < m.net.0 = low.1 in
          absurd (false≢true (sym (missing (m ∷ b) l a (nothing_below m.net.0 l.net.0 (m ∷ b) (omega arith, q.1) before)) ∙ y))
      | inr high ↦
          elim (order m.net.0 l.net.0) [
            | inl low ↦
                let before : m.net.0 < l.net.0 = low.1 in
                absurd (false≢true (sym (missing (l ∷ a) m b (nothing_below l.net.0 m.net.0 (l ∷ a) (omega arith, r.1) before)) ∙ x))
            | inr up ↦
                let above : m.net.0 ≤ l.net.0 = high.1 in
                let below : l.net.0 ≤ m.net.0 = up.1 in
                let net : l.net.0 ≡ m.net.0 = omega arith in
                let p = and_parts (set_lies (literal_at (l ∷ a) m.net.0) m.set) (lies_in (l ∷ a) b) x in
                let o = and_parts (set_lies (literal_at (m ∷ b) l.net.0) l.set) (lies_in (m ∷ b) a) y in
                let first : set_within l.set m.set ≡ true = rw (eq-eqb l.net.0 m.net.0 net) at p.0 in
                let second : set_within m.set l.set ≡ true = rw (eq-eqb m.net.0 l.net.0 (sym net)) at o.0 in
                let set : l.set ≡ m.set =
                same_from_Within l.set m.set (Within-from_meet l.set m.set (same_number (meet l.set m.set) l.set first))
                (Within-from_meet m.set l.set (same_number (meet m.set l.set) m.set second))
                in
                let rest : a ≡ b =
                lies_in-same (l.net.0 + 1) (m.net.0 + 1) a b r.1 q.1 (sym (lies_in-above l a (m.net.0 + 1) b (omega arith) q.1) ∙ p.1)
                (sym (lies_in-above m b (l.net.0 + 1) a (omega arith) r.1) ∙ o.1)
                in
                λ i. same_lit l m net set i ∷ rest i
          ]
    ]

-- ---- lines within lines

pub line_lies-trans : (a b c : Line) → line_lies a b ≡ true → line_lies b c ≡ true → line_lies a c ≡ true
line_lies-trans a b c h k =
    let p = and_parts (set_within a.out b.out) (lies_in a.cube b.cube) h in
    let q = and_parts (set_within b.out c.out) (lies_in b.cube c.cube) k in
    and_from (set_within a.out c.out) (lies_in a.cube c.cube) (set_wider (Some a.out) b.out c.out p.0 q.0) (lies_in-trans a.cube b.cube c.cube p.1 q.1)

line_lies-same : (a b : Line) → IsCube a.cube → IsCube b.cube → line_lies a b ≡ true → line_lies b a ≡ true → a ≡ b
line_lies-same a b is it h k =
    let p = and_parts (set_within a.out b.out) (lies_in a.cube b.cube) h in
    let q = and_parts (set_within b.out a.out) (lies_in b.cube a.cube) k in
    same_line a b (lies_in-same 0 0 a.cube b.cube (Rises-cube a.cube is.ascending) (Rises-cube b.cube it.ascending) p.1 q.1)
    (same_from_Within a.out b.out (Within-from_meet a.out b.out (same_number (meet a.out b.out) a.out p.0)) (Within-from_meet b.out a.out (same_number (meet b.out a.out) b.out q.0)))

-- what swallows a line that swallows l swallows l
pub swallowed-through : (l m x : Line) → IsCube l.cube → IsCube m.cube → swallowed_by l m ≡ true → swallowed_by m x ≡ true → swallowed_by l x ≡ true
swallowed-through l m x is it h k =
    let p = and_parts (line_lies l m) (not (line_eq l m)) h in
    let q = and_parts (line_lies m x) (not (line_eq m x)) k in
    and_from (line_lies l x) (not (line_eq l x)) (line_lies-trans l m x p.0 q.0)
    (not_from_false (line_eq l x)
    (false_from_ne_true (line_eq l x) (λ t.
    let e : l ≡ x = (line_eq-Decides l x).0 t in
    let back : line_lies m l ≡ true = ap (line_lies m) e ∙ q.0 in
    false≢true (sym (not-true (line_eq l m) p.1) ∙ (line_eq-Decides l m).1 (line_lies-same l m is it p.0 back)))))

-- no line swallows itself
pub swallowed-self : (m : Line) → swallowed_by m m ≡ false
swallowed-self m = false_from_ne_true (swallowed_by m m) (λ t. false≢true (sym (not-true (line_eq m m) (and_parts (line_lies m m) (not (line_eq m m)) t).1) ∙ (line_eq-Decides m m).1 refl))

-- ---- tests over lists

-- an element of the list passes
pub any_at : {X : Type 0} (p : X → Bool) (xs : List X) (x : X) → Contains xs x → p x ≡ true → list_any p xs ≡ true
any_at p xs x c h = list_any_at p xs c.0 x c.1 (ap p c.2 ∙ h)

-- an element that passes
pub record Passes {X : Type 0} (p : X → Bool) (xs : List X) : Type 0 where
  pub x : X
  pub there : Contains xs x
  pub pass : p x ≡ true

pub find_any : {X : Type 0} (p : X → Bool) (xs : List X) → list_any p xs ≡ true → Passes p xs
find_any p [] h = absurd (false≢true h)
find_any p (x ∷ xs) h =
    elim (cases_Bool (p x)) [
      | inl t ↦ record { x = x; there = (0, omega arith, refl); pass = t }
      | inr f ↦ let r = find_any p xs (rw f at h) in record { x = r.x; there = (r.there.0 + 1, omega (arith, r.there.1), rw add-one r.there.2); pass = r.pass }
    ]

any-filter : {X : Type 0} (p q : X → Bool) (xs : List X) → list_any p (filter q xs) ≡ list_any (λ x. q x && p x) xs
any-filter p q [] = refl
any-filter p q (x ∷ xs) =
    elim (cases_Bool (q x)) [
      | inl t ↦ rw t (ap (λ b. p x || b) (any-filter p q xs))
      | inr f ↦ rw f (any-filter p q xs)
    ]

-- no more pass a test than one that is weaker
passing_le : {X : Type 0} (p q : X → Bool) (xs : List X) → ((x : X) → p x ≡ true → q x ≡ true) → length (filter p xs) ≤ length (filter q xs)
passing_le p q [] weaker = omega arith
passing_le p q (x ∷ xs) weaker =
    let ih = passing_le p q xs weaker in
    elim (cases_Bool (p x)) [
      | inl t ↦ rw t (rw (weaker x t) (omega arith))
      | inr f ↦
          elim (cases_Bool (q x)) [
            | inl t ↦ rw f (rw t (omega arith))
            | inr g ↦ rw f (rw g (omega arith))
          ]
    ]

-- fewer pass it where one passes the weaker alone
passing_less : {X : Type 0} (p q : X → Bool) (xs : List X) → ((x : X) → p x ≡ true → q x ≡ true) → list_any (λ x. q x && not (p x)) xs ≡ true → length (filter p xs) < length (filter q xs)
passing_less p q [] weaker more = absurd (false≢true more)
passing_less p q (x ∷ xs) weaker more =
    elim (cases_Bool (p x)) [
      | inl t ↦
          let ih = passing_less p q xs weaker (rw t at (rw (weaker x t) at more)) in
          rw t (rw (weaker x t) (omega arith))
      | inr f ↦
          elim (cases_Bool (q x)) [
            | inl t ↦ let le = passing_le p q xs weaker in rw f (rw t (omega arith))
            | inr g ↦ let ih = passing_less p q xs weaker (rw g at more) in rw f (rw g (omega arith))
          ]
    ]

-- ---- lines that stay

-- equal lines say nothing twice
pub any-firsts : (p : Line → Bool) (ls : List Line) → list_any p (firsts ls) ≡ list_any p ls
any-firsts p [] = refl
any-firsts p (l ∷ ls) =
    elim (cases_Bool (p l)) [
      | inl t ↦ rw t refl
      | inr f ↦
          rw f (any-filter_same p (λ (m : Line). not (line_eq m l)) true
          (λ m t. not_from_false (line_eq m l) (false_from_ne_true (line_eq m l) (λ e. false≢true (sym f ∙ (ap p (sym ((line_eq-Decides m l).0 e)) ∙ t)))))
          (firsts ls)
          ∙ any-firsts p ls)
    ]

-- what holds of each line holds of the first of each
pub all-firsts : (P : Line → Type 0) (ls : List Line) → All P ls → All P (firsts ls)
all-firsts P [] all = all
all-firsts P (l ∷ ls) all =
    All-cons P l (filter (λ (m : Line). not (line_eq m l)) (firsts ls)) (All-head P l ls all)
    (All-filter (λ (m : Line). not (line_eq m l)) P (firsts ls) (all-firsts P ls (All-tail P l ls all)))

-- a test that a line's swallower passes too
pub record Climbs (p : Line → Bool) : Type 0 where
  pub up : (a b : Line) → line_lies a b ≡ true → p a ≡ true → p b ≡ true

-- a line that passes is swallowed by one that stays, or stays: at each step up fewer lines swallow it
climb : (k : ℕ) (p : Line → Bool) → Climbs p → (ls : List Line) → All (λ (l : Line). IsCube l.cube) ls → (l : Line) → Contains ls l → p l ≡ true → length (filter (swallowed_by l) ls) < k → list_any p (unswallowed ls) ≡ true
climb zero p climbs ls formed l there pass few = absurd (omega arith)
climb (suc k) p climbs ls formed l there pass few =
    elim (cases_Bool (list_any (swallowed_by l) ls)) [
      | inl t ↦
          let m = find_any (swallowed_by l) ls t in
          let is = All-contains (λ (x : Line). IsCube x.cube) ls l formed there in
          let it = All-contains (λ (x : Line). IsCube x.cube) ls m.x formed m.there in
          let more : list_any (λ (x : Line). swallowed_by l x && not (swallowed_by m.x x)) ls ≡ true =
          any_at (λ (x : Line). swallowed_by l x && not (swallowed_by m.x x)) ls m.x m.there
          (and_from (swallowed_by l m.x) (not (swallowed_by m.x m.x)) m.pass (not_from_false (swallowed_by m.x m.x) (swallowed-self m.x)))
          in
          let fewer : length (filter (swallowed_by m.x) ls) < length (filter (swallowed_by l) ls) =
          passing_less (swallowed_by m.x) (swallowed_by l) ls (λ x h. swallowed-through l m.x x is it m.pass h) more
          in
          climb k p climbs ls formed m.x m.there (climbs.up l m.x (and_parts (line_lies l m.x) (not (line_eq l m.x)) m.pass).0 pass) (omega arith)
      | inr f ↦
          any-filter p (λ (x : Line). not (list_any (swallowed_by x) ls)) ls
          ∙ any_at (λ (x : Line). not (list_any (swallowed_by x) ls) && p x) ls l there
          (and_from (not (list_any (swallowed_by l) ls)) (p l) (not_from_false (list_any (swallowed_by l) ls) f) pass)
    ]

-- what some line passes some line that stays passes
pub any-unswallowed : (p : Line → Bool) → Climbs p → (ls : List Line) → All (λ (l : Line). IsCube l.cube) ls → list_any p (unswallowed ls) ≡ list_any p ls
any-unswallowed p climbs ls formed =
    elim (cases_Bool (list_any p ls)) [
      | inl t ↦
          let l = find_any p ls t in
          climb (length (filter (swallowed_by l.x) ls) + 1) p climbs ls formed l.x l.there l.pass (omega arith) ∙ sym t
      | inr f ↦
          false_from_ne_true (list_any p (unswallowed ls)) (λ t.
          let l = find_any (λ (x : Line). not (list_any (swallowed_by x) ls) && p x) ls (sym (any-filter p (λ (x : Line). not (list_any (swallowed_by x) ls)) ls) ∙ t) in
          false≢true (sym f ∙ any_at p ls l.x l.there (and_parts (not (list_any (swallowed_by l.x) ls)) (p l.x) l.pass).1))
          ∙ sym f
    ]

any-left : (p : Line → Bool) → Climbs p → (ls : List Line) → All (λ (l : Line). IsCube l.cube) ls → list_any p (unswallowed (firsts ls)) ≡ list_any p ls
any-left p climbs ls formed = any-unswallowed p climbs (firsts ls) (all-firsts (λ (l : Line). IsCube l.cube) ls formed) ∙ any-firsts p ls

-- ---- the relation

pub matches-any : (at : ℕ → ℕ) (ls : List Line) → some_matches at ls ≡ list_any (λ (l : Line). matches at l.cube) ls
matches-any at [] = refl
matches-any at (l ∷ ls) = ap (λ b. matches at l.cube || b) (matches-any at ls)

pub gives-any : (at : ℕ → ℕ) (v : ℕ) (ls : List Line) → some_gives at v ls ≡ list_any (λ (l : Line). matches at l.cube && has l.out v) ls
gives-any at v [] = refl
gives-any at v (l ∷ ls) = ap (λ b. (matches at l.cube && has l.out v) || b) (gives-any at v ls)

matching-climbs : (at : ℕ → ℕ) → Climbs (λ (l : Line). matches at l.cube)
matching-climbs at = record { up = λ a b h m. lies_inside at a.cube b.cube (and_parts (set_within a.out b.out) (lies_in a.cube b.cube) h).1 m }

giving-climbs : (at : ℕ → ℕ) (v : ℕ) → Climbs (λ (l : Line). matches at l.cube && has l.out v)
giving-climbs at v = record {
  up = λ a b h m.
      let p = and_parts (set_within a.out b.out) (lies_in a.cube b.cube) h in
      let q = and_parts (matches at a.cube) (has a.out v) m in
      and_from (matches at b.cube) (has b.out v) (lies_inside at a.cube b.cube p.1 q.0) (Within-from_meet a.out b.out (same_number (meet a.out b.out) a.out p.0) v q.1);
}

left-matches : (at : ℕ → ℕ) (ls : List Line) → All (λ (l : Line). IsCube l.cube) ls → some_matches at (unswallowed (firsts ls)) ≡ some_matches at ls
left-matches at ls formed =
    matches-any at (unswallowed (firsts ls)) ∙ (any-left (λ (l : Line). matches at l.cube) (matching-climbs at) ls formed ∙ sym (matches-any at ls))

left-gives : (at : ℕ → ℕ) (v : ℕ) (ls : List Line) → All (λ (l : Line). IsCube l.cube) ls → some_gives at v (unswallowed (firsts ls)) ≡ some_gives at v ls
left-gives at v ls formed =
    gives-any at v (unswallowed (firsts ls)) ∙ (any-left (λ (l : Line). matches at l.cube && has l.out v) (giving-climbs at v) ls formed ∙ sym (gives-any at v ls))

none-matches : (at : ℕ → ℕ) (c : List Lit) → length c ≡ 0 → matches at c ≡ true
none-matches at [] e = refl
none-matches at (l ∷ c) e = absurd (omega arith)

-- a line without literals matches everywhere
pub bare-matches : (at : ℕ → ℕ) (ls : List Line) → some_bare ls ≡ true → some_matches at ls ≡ true
bare-matches at [] h = absurd (false≢true h)
bare-matches at (l ∷ ls) h =
    elim (cases_Bool (nat_eq (length l.cube) 0)) [
      | inl t ↦ or_left (matches at l.cube) (some_matches at ls) (none-matches at l.cube (same_number (length l.cube) 0 t))
      | inr f ↦ or_right (matches at l.cube) (some_matches at ls) (bare-matches at ls (rw f at h))
    ]

-- beside a line without literals the default doesn't count
default-left : (at : ℕ → ℕ) (v : ℕ) (ls : List Line) (d : Option ℕ) → (not (some_matches at ls) && default_gives (default_beside ls d) v) ≡ (not (some_matches at ls) && default_gives d v)
default-left at v ls d =
    elim (cases_Bool (some_bare ls)) [
      | inl t ↦ rw (bare-matches at ls t) refl
      | inr f ↦ rw f refl
    ]

-- the absorbed cover allows what the cover allows
pub allowed-absorbed : (c : Cover) → All (λ (l : Line). IsCube l.cube) c.lines → (at : ℕ → ℕ) (v : ℕ) → allowed (absorbed c) at v ≡ allowed c at v
unfolding allowed absorbed left_of
allowed-absorbed c formed at v =
    let left = unswallowed (firsts c.lines) in
    let gives : some_gives at v left ≡ some_gives at v c.lines = left-gives at v c.lines formed in
    let met : some_matches at left ≡ some_matches at c.lines = left-matches at c.lines formed in
    ap (λ b. some_gives at v left || b) (default-left at v left c.default) ∙ (λ i. gives i || (not (met i) && default_gives c.default v))

-- ---- distinct lines, one by one

-- the keys of a set are the first of each of the lines put in it
pub inserted_firsts : (ls : List Line) → insert_all line_eq [] ls ≡ firsts ls
inserted_firsts ls = keys-firsts line_eq (λ l m. (line_eq-Decides l m).0) ls
