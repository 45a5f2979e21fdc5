-- A line more among those that are left.
use Rattle.std.proofs.Common.{◌≡◌, ◌∙◌, ℕ, ◌+◌, ◌<◌, length, take, get_or, OnOk, Result, Ok, Err, Bool, true, false, not, ◌&&◌, ◌||◌, List, [], ◌∷◌, ◌++◌, filter, inl, inr, refl, sym, ap, subst, arith, All, append-nil, if◌then◌else◌}
use Rattle.indexmap.specs.IndexSet.{insert_key}
use Rattle.std.specs.List.{list_any}
use Rattle.std.proofs.lemmas.Bool.{cases_Bool, false≢true, and_parts, and_from, or_left, not_from_false, eq-eqb, false_from_ne_true}
use Rattle.std.proofs.lemmas.List.{take_more}
use Rattle.std.proofs.lemmas.List.Elements.{All-nil, All-cons, All-head, All-tail, All-append, filter-append}
use Rattle.std.proofs.lemmas.List.Folds.{list_any-append}
use Rattle.std.proofs.lemmas.List.Sums.{fold-append}
use Rattle.mv_base.specs.Set.{meet}
use Rattle.mv_base.proofs.Sets.{meet_of_Within}
use Rattle.mv_cover.specs.Literal.{Lit}
use Rattle.mv_base.specs.declared.memory.Memory.{Memory}
use Rattle.mv_cover.specs.declared.line.Line.{Line}
use Rattle.mv_cover.specs.declared.cover.Cover.{Cover}
use Rattle.mv_cover.specs.Cubes.{IsCube}
use Rattle.mv_cover.specs.Meets.{literal_at}
use Rattle.mv_cover.specs.Containing.{set_within, set_lies, lies_in}
use Rattle.mv_cover.specs.Equal.{line_eq}
use Rattle.mv_cover.specs.Keys.{line_eq-Decides}
use Rattle.mv_cover.specs.Covers.{allowed}
use Rattle.mv_cover.specs.Absorb.{firsts, line_lies, swallowed_by, unswallowed, left_of, default_beside, absorbed, IsLeftOf, with_line}
use Rattle.mv_cover.proofs.Meets.{Rises, Rises-cube, first_set}
use Rattle.mv_cover.proofs.Inclusion.{lies_in-above}
use Rattle.mv_cover.proofs.Absorbing.{Climbs, any_at, find_any, any-unswallowed, all-firsts, inserted_firsts, allowed-absorbed, line_lies-trans, swallowed-through, swallowed-self}

-- ---- a line lies in itself

set_within-self : (s : ℕ) → set_within s s ≡ true
set_within-self s = eq-eqb (meet s s) s (meet_of_Within s s (λ v h. h))

lies_in-self : (k : ℕ) (c : List Lit) → Rises k c → lies_in c c ≡ true
lies_in-self k [] r = refl
lies_in-self k (l ∷ c) r =
    and_from (set_lies (literal_at (l ∷ c) l.net.0) l.set) (lies_in (l ∷ c) c)
    (ap (λ o. set_lies o l.set) (first_set l c) ∙ set_within-self l.set)
    (lies_in-above l c (l.net.0 + 1) c (omega arith) r.1 ∙ lies_in-self (l.net.0 + 1) c r.1)

line_lies-self : (x : Line) → IsCube x.cube → line_lies x x ≡ true
line_lies-self x is = and_from (set_within x.out x.out) (lies_in x.cube x.cube) (set_within-self x.out) (lies_in-self 0 x.cube (Rises-cube x.cube is.ascending))

-- ---- filters

-- tests that say the same of each element keep the same
filter-alike : {X : Type 0} (P : X → Type 0) (p q : X → Bool) → ((x : X) → P x → p x ≡ q x) → (xs : List X) → All P xs → filter p xs ≡ filter q xs
filter-alike P p q same [] all = refl
filter-alike P p q same (x ∷ xs) all =
    let rest = filter-alike P p q same xs (All-tail P x xs all) in
    let here = same x (All-head P x xs all) in
    λ i. if here i then x ∷ rest i else rest i

-- a filter of a filter
filter-filter : {X : Type 0} (p q : X → Bool) (xs : List X) → filter p (filter q xs) ≡ filter (λ x. q x && p x) xs
filter-filter p q [] = refl
filter-filter p q (x ∷ xs) =
    elim (cases_Bool (q x)) [
      | inl t ↦ rw t (ap (λ zs. if p x then x ∷ zs else zs) (filter-filter p q xs))
      | inr f ↦ rw f (filter-filter p q xs)
    ]

-- where none passes, each fails
none-passes : {X : Type 0} (p : X → Bool) (xs : List X) → list_any p xs ≡ false → All (λ x. p x ≡ false) xs
none-passes p [] none = All-nil (λ x. p x ≡ false)
none-passes p (x ∷ xs) none =
    elim (cases_Bool (p x)) [
      | inl t ↦ absurd (false≢true (sym none ∙ or_left (p x) (list_any p xs) t))
      | inr f ↦ All-cons (λ y. p y ≡ false) x xs f (none-passes p xs (rw f at none))
    ]

or_nothing : (a b : Bool) → b ≡ false → (a || b) ≡ a
or_nothing true b e = refl
or_nothing false b e = e

-- ---- the first of each of the lines

-- a line more is one of the first of each unless it is equal to one
firsts-more : (ls : List Line) (x : Line) → firsts (ls ++ x ∷ []) ≡ insert_key line_eq (firsts ls) x
firsts-more ls x =
    sym (inserted_firsts (ls ++ x ∷ []))
    ∙ (fold-append (insert_key line_eq) [] ls (x ∷ []) ∙ ap (λ ks. insert_key line_eq ks x) (inserted_firsts ls))

-- ---- what is left of distinct lines and one more

-- what swallows a line among those and one more
any-more : (l : Line) (ds : List Line) (x : Line) → list_any (swallowed_by l) (ds ++ x ∷ []) ≡ (list_any (swallowed_by l) ds || swallowed_by l x)
any-more l ds x = list_any-append (swallowed_by l) ds (x ∷ []) ∙ ap (λ b. list_any (swallowed_by l) ds || b) (or_nothing (swallowed_by l x) false refl)

left-push : (ds : List Line) (x : Line) → unswallowed (ds ++ x ∷ []) ≡ filter (λ l. not (list_any (swallowed_by l) (ds ++ x ∷ []))) ds ++ filter (λ l. not (list_any (swallowed_by l) (ds ++ x ∷ []))) (x ∷ [])
left-push ds x = filter-append (λ l. not (list_any (swallowed_by l) (ds ++ x ∷ []))) ds (x ∷ [])

-- a line that lies in one of the others goes, and takes nothing along
left-gone : (ds : List Line) (x : Line) → All (λ (l : Line). IsCube l.cube) ds → IsCube x.cube → list_any (line_lies x) ds ≡ true → list_any (line_eq x) ds ≡ false → unswallowed (ds ++ x ∷ []) ≡ unswallowed ds
left-gone ds x formed is lies new =
    let m = find_any (line_lies x) ds lies in
    let other : line_eq x m.x ≡ false = false_from_ne_true (line_eq x m.x) (λ t. false≢true (sym new ∙ any_at (line_eq x) ds m.x m.there t)) in
    let swallowed : swallowed_by x m.x ≡ true = and_from (line_lies x m.x) (not (line_eq x m.x)) m.pass (not_from_false (line_eq x m.x) other) in
    let goes : list_any (swallowed_by x) (ds ++ x ∷ []) ≡ true = any-more x ds x ∙ or_left (list_any (swallowed_by x) ds) (swallowed_by x x) (any_at (swallowed_by x) ds m.x m.there swallowed) in
    let alike : (l : Line) → IsCube l.cube → not (list_any (swallowed_by l) (ds ++ x ∷ [])) ≡ not (list_any (swallowed_by l) ds) = λ l cube.
    ap not
    (any-more l ds x
    ∙ elim (cases_Bool (swallowed_by l x)) [
      | inl t ↦
          let through : list_any (swallowed_by l) ds ≡ true = any_at (swallowed_by l) ds m.x m.there (swallowed-through l x m.x cube is t swallowed) in
          or_left (list_any (swallowed_by l) ds) (swallowed_by l x) through ∙ sym through
      | inr f ↦ or_nothing (list_any (swallowed_by l) ds) (swallowed_by l x) f
    ]) in
    let kept = filter-alike (λ (l : Line). IsCube l.cube) (λ l. not (list_any (swallowed_by l) (ds ++ x ∷ []))) (λ l. not (list_any (swallowed_by l) ds)) alike ds formed in
    left-push ds x ∙ ((λ i. kept i ++ (if not (goes i) then x ∷ [] else [])) ∙ append-nil (unswallowed ds))

-- a line that lies in none of the others comes last, and what lies in it goes
left-comes : (ds : List Line) (x : Line) → IsCube x.cube → list_any (line_lies x) ds ≡ false → unswallowed (ds ++ x ∷ []) ≡ filter (λ l. not (line_lies l x)) (unswallowed ds) ++ x ∷ []
left-comes ds x is none =
    let each = none-passes (line_lies x) ds none in
    let free : list_any (swallowed_by x) ds ≡ false = false_from_ne_true (list_any (swallowed_by x) ds) (λ t.
    let m = find_any (swallowed_by x) ds t in
    false≢true (sym none ∙ any_at (line_lies x) ds m.x m.there (and_parts (line_lies x m.x) (not (line_eq x m.x)) m.pass).0)) in
    let stays : list_any (swallowed_by x) (ds ++ x ∷ []) ≡ false = any-more x ds x ∙ (or_nothing (list_any (swallowed_by x) ds) (swallowed_by x x) (swallowed-self x) ∙ free) in
    let alike : (l : Line) → line_lies x l ≡ false → not (list_any (swallowed_by l) (ds ++ x ∷ [])) ≡ (not (list_any (swallowed_by l) ds) && not (line_lies l x)) = λ l apart.
    let other : line_eq l x ≡ false = false_from_ne_true (line_eq l x) (λ t. false≢true (sym apart ∙ (ap (λ (m : Line). line_lies x m) ((line_eq-Decides l x).0 t) ∙ line_lies-self x is))) in
    let same : swallowed_by l x ≡ line_lies l x = and_true (line_lies l x) (not (line_eq l x)) (not_from_false (line_eq l x) other) in
    ap not (any-more l ds x ∙ ap (λ b. list_any (swallowed_by l) ds || b) same) ∙ not_or (list_any (swallowed_by l) ds) (line_lies l x) in
    let kept = filter-alike (λ l. line_lies x l ≡ false) (λ l. not (list_any (swallowed_by l) (ds ++ x ∷ []))) (λ l. not (list_any (swallowed_by l) ds) && not (line_lies l x)) alike ds each in
    let twice = filter-filter (λ l. not (line_lies l x)) (λ l. not (list_any (swallowed_by l) ds)) ds in
    left-push ds x ∙ (λ i. (kept ∙ sym twice) i ++ (if not (stays i) then x ∷ [] else []))
  where
    and_true : (a b : Bool) → b ≡ true → (a && b) ≡ a
    and_true true b e = e
    and_true false b e = refl

    not_or : (a b : Bool) → not (a || b) ≡ (not a && not b)
    not_or true b = refl
    not_or false b = refl

-- ---- a line more

lying-climbs : (x : Line) → Climbs (line_lies x)
lying-climbs x = record { up = λ a b h m. line_lies-trans x a b m h }

-- where no line lies in this one all are kept
kept-all : {X : Type 0} (p : X → Bool) (xs : List X) → list_any p xs ≡ false → xs ≡ filter (λ x. not (p x)) xs
kept-all p [] none = refl
kept-all p (x ∷ xs) none =
    elim (cases_Bool (p x)) [
      | inl t ↦ absurd (false≢true (sym none ∙ or_left (p x) (list_any p xs) t))
      | inr f ↦ rw f (ap (λ ys. x ∷ ys) (kept-all p xs (rw f at none)))
    ]

pub outside-all : (x : Line) (ls : List Line) (over : Bool) → over ≡ list_any (λ l. line_lies l x) ls → over ≡ false → ls ≡ filter (λ l. not (line_lies l x)) ls
outside-all x ls over is f = kept-all (λ l. line_lies l x) ls (sym is ∙ f)

pub with_line-lies : (left seen : List Line) (x : Line) (b : Bool) → b ≡ list_any (line_lies x) seen → seen ≡ left → b ≡ true → left ≡ with_line left x
unfolding with_line
with_line-lies left seen x b is same t =
    let lies : list_any (line_lies x) left ≡ true = ap (list_any (line_lies x)) (sym same) ∙ (sym is ∙ t) in
    λ i. if sym lies i then left else filter (λ l. not (line_lies l x)) left ++ x ∷ []

pub with_line-comes : (left seen : List Line) (x : Line) (b : Bool) → b ≡ list_any (line_lies x) seen → seen ≡ left → b ≡ false → filter (λ l. not (line_lies l x)) left ++ x ∷ [] ≡ with_line left x
unfolding with_line
with_line-comes left seen x b is same f =
    let none : list_any (line_lies x) left ≡ false = ap (list_any (line_lies x)) (sym same) ∙ (sym is ∙ f) in
    λ i. if sym none i then left else filter (λ l. not (line_lies l x)) left ++ x ∷ []

-- what is left, and a line more
pub left-more : (ls left : List Line) (x : Line) → IsCube x.cube → IsLeftOf ls left → IsLeftOf (ls ++ x ∷ []) (with_line left x)
unfolding left_of with_line
left-more ls left x is before =
    let P : Line → Type 0 = λ l. IsCube l.cube in
    let ds = firsts ls in
    let formed = all-firsts P ls before.formed in
    let any : list_any (line_lies x) left ≡ list_any (line_lies x) ds = ap (list_any (line_lies x)) before.lines ∙ any-unswallowed (line_lies x) (lying-climbs x) ds formed in
    record {
      formed = All-append P ls (x ∷ []) before.formed (All-cons P x [] is (All-nil P));
      lines =
          elim (cases_Bool (list_any (line_lies x) ds)) [
            | inl t ↦
                elim (cases_Bool (list_any (line_eq x) ds)) [
                  | inl e ↦
                      let known : firsts (ls ++ x ∷ []) ≡ ds = firsts-more ls x ∙ (λ i. if e i then ds else ds ++ x ∷ []) in
                      (λ i. if (any ∙ t) i then left else filter (λ l. not (line_lies l x)) left ++ x ∷ [])
                      ∙ (before.lines ∙ ap unswallowed (sym known))
                  | inr n ↦
                      let new : firsts (ls ++ x ∷ []) ≡ ds ++ x ∷ [] = firsts-more ls x ∙ (λ i. if n i then ds else ds ++ x ∷ []) in
                      (λ i. if (any ∙ t) i then left else filter (λ l. not (line_lies l x)) left ++ x ∷ [])
                      ∙ (before.lines ∙ (sym (left-gone ds x formed is t n) ∙ ap unswallowed (sym new)))
                ]
            | inr f ↦
                let n : list_any (line_eq x) ds ≡ false = false_from_ne_true (list_any (line_eq x) ds) (λ e.
                let m = find_any (line_eq x) ds e in
                false≢true (sym f ∙ any_at (line_lies x) ds m.x m.there (ap (line_lies x) (sym ((line_eq-Decides x m.x).0 m.pass)) ∙ line_lies-self x is))) in
                let new : firsts (ls ++ x ∷ []) ≡ ds ++ x ∷ [] = firsts-more ls x ∙ (λ i. if n i then ds else ds ++ x ∷ []) in
                (λ i. if (any ∙ f) i then left else filter (λ l. not (line_lies l x)) left ++ x ∷ [])
                ∙ ((λ i. filter (λ l. not (line_lies l x)) (before.lines i) ++ x ∷ []) ∙ (sym (left-comes ds x is f) ∙ ap unswallowed (sym new)))
          ];
    }

-- nothing is left of no lines
pub left-none : IsLeftOf [] []
unfolding left_of
left-none = record { formed = All-nil (λ (l : Line). IsCube l.cube); lines = refl }

-- ---- lines put one by one

-- a put of a line, or want of memory
pub put-more : (result : Result (Unit {0}) Memory) (old self new : List Line) (x : Line) → IsCube x.cube → old ≡ self → OnOk result (new ≡ with_line old x) → (ls : List Line) → IsLeftOf ls self → OnOk result (IsLeftOf (ls ++ x ∷ []) new)
put-more (Ok t) old self new x is same e ls before =
    subst (λ left. IsLeftOf (ls ++ x ∷ []) left) (sym (e ∙ ap (λ left. with_line left x) same)) (left-more ls self x is before)
put-more (Err e) old self new x is same t ls before = tt

pub left-next : (lines left : List Line) (i : ℕ) (x y : Line) → i < length lines → x ≡ get_or lines i x → y ≡ x → IsLeftOf (take i lines ++ y ∷ []) left → IsLeftOf (take (i + 1) lines) left
left-next lines left i x y low here same before =
    let longer : take (i + 1) lines ≡ take i lines ++ y ∷ [] = take_more lines i x low ∙ ap (λ (z : Line). take i lines ++ z ∷ []) (sym (same ∙ here)) in
    subst (λ (ls : List Line). IsLeftOf ls left) (sym longer) before

-- ---- the cover of the lines that are left

pub absorbed-left : (c made : Cover) (left : List Line) → IsLeftOf c.lines left → made ≡ record { lines = left; default = default_beside left c.default } → made ≡ absorbed c
unfolding absorbed
absorbed-left c made left is e = e ∙ (λ i. record { lines = is.lines i; default = default_beside (is.lines i) c.default })

pub allowed-left : (c made : Cover) (left : List Line) → IsLeftOf c.lines left → made ≡ record { lines = left; default = default_beside left c.default } → (at : ℕ → ℕ) (value : ℕ) → allowed made at value ≡ allowed c at value
allowed-left c made left is e at value = ap (λ (x : Cover). allowed x at value) (absorbed-left c made left is e) ∙ allowed-absorbed c is.formed at value
