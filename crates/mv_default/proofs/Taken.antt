-- A cover that takes a default: it allows what it did.
use Rattle.std.proofs.Common.{◌≡◌, ◌∙◌, ℕ, ◌+◌, ◌<◌, ◌≤◌, Bool, true, false, not, ◌&&◌, ◌||◌, Option, Some, None, List, [], ◌∷◌, length, nat_eq, inl, inr, refl, sym, ap, subst, arith}
use Rattle.std.specs.List.{All, Contains, filter, list_any}
use Rattle.std.specs.Cmp.{unsigned_Decides}
use Rattle.std.proofs.lemmas.Bool.{cases_Bool, false≢true, not-true, or_left}
use Rattle.std.proofs.lemmas.List.Elements.{All-filter, All-contains, filter_passes}
use Rattle.mv_base.specs.Set.{has, one}
use Rattle.mv_cover.specs.declared.line.Line.{Line}
use Rattle.mv_cover.specs.declared.cover.Cover.{Cover}
use Rattle.mv_cover.specs.Absorb.{some_bare}
use Rattle.mv_cover.specs.Complement.{AllowSame}
use Rattle.mv_cover.specs.Covering.{IsPoint, CoversAll}
use Rattle.mv_cover.specs.Covers.{allowed, some_matches, some_gives, default_gives, literal_count}
use Rattle.mv_cover.specs.Cubes.{matches, IsCube}
use Rattle.mv_cover.specs.Plain.{Agree, IsPlainlyDeterministic}
use Rattle.mv_cover.proofs.Absorbing.{Passes, find_any, matches-any, bare-matches}
use Rattle.mv_default.specs.Taken.{HasCubes, IsCostliest, TakesDefault, lines_of_value, lines_of_others, literals_of_value, with_default}
use Rattle.mv_cover.proofs.Meets.{Rises-cube}
use Rattle.mv_cover.proofs.Members.{PointOf, point_of}
use Rattle.mv_default.proofs.Summed.{some_value}
use Rattle.mv_default.proofs.Parted.{matches-parted, gives-parted, gives-of_value, literals-parted}

-- ---- lines of both parts don't hold together

module _ (c : Cover) (plain : IsPlainlyDeterministic c) (d : ℕ) (at : ℕ → ℕ) where
  holds_both : (some_matches at (lines_of_others d c.lines) ≡ true) → (some_matches at (lines_of_value d c.lines) ≡ true) → ⊥
  holds_both others value =
      let test : Line → Bool = λ l. nat_eq l.out (one d) in
      let away : Line → Bool = λ l. not (nat_eq l.out (one d)) in
      let holding : Line → Bool = λ l. matches at l.cube in
      let a : Passes holding (filter away c.lines) = find_any holding (filter away c.lines) (sym (matches-any at (filter away c.lines)) ∙ others) in
      let b : Passes holding (filter test c.lines) = find_any holding (filter test c.lines) (sym (matches-any at (filter test c.lines)) ∙ value) in
      let row = All-contains (λ (l : Line). All (Agree l) c.lines) (filter away c.lines) a.x (All-filter away (λ (l : Line). All (Agree l) c.lines) c.lines plain.apart) a.there in
      let agree = All-contains (Agree a.x) (filter test c.lines) b.x (All-filter test (Agree a.x) c.lines row) b.there in
      let same : a.x.out ≡ b.x.out = agree.same at a.pass b.pass in
      let here : test b.x ≡ true = All-contains (λ l. test l ≡ true) (filter test c.lines) b.x (filter_passes test c.lines) b.there in
      let there : away a.x ≡ true = All-contains (λ l. away l ≡ true) (filter away c.lines) a.x (filter_passes away c.lines) a.there in
      false≢true (sym (not-true (test a.x) there) ∙ (ap (λ s. nat_eq s (one d)) same ∙ here))

-- ---- the relation

-- where one of two parts holds and not both, one holds where the other doesn't
told_apart : (m n : Bool) → (m || n) ≡ true → (m ≡ true → n ≡ true → ⊥) → n ≡ not m
told_apart true true one both = absurd (both refl refl)
told_apart true false one both = refl
told_apart false true one both = refl
told_apart false false one both = one

no_default : (b : Bool) → (not b && false) ≡ false
no_default true = refl
no_default false = refl

or_false : (a : Bool) → (a || false) ≡ a
or_false true = refl
or_false false = refl

pub same_relation : (counts : List ℕ) (old new : Cover) → IsPlainlyDeterministic old → old.default ≡ None → CoversAll counts old.lines → TakesDefault old new → AllowSame counts new old
unfolding allowed
same_relation counts old new plain none covers takes =
    subst (λ c. AllowSame counts c old) (sym takes.is)
    (record {
      same = λ at point v.
          let d = takes.value in
          let g = some_gives at v (lines_of_others d old.lines) in
          let m = some_matches at (lines_of_others d old.lines) in
          let n = some_matches at (lines_of_value d old.lines) in
          let apart : n ≡ not m = told_apart m n (sym (matches-parted at d old.lines) ∙ covers.each at point) (holds_both old plain d at) in
          let gives : some_gives at v old.lines ≡ (g || (not m && has (one d) v)) =
          gives-parted at v d old.lines ∙ ap (λ b. g || b) (gives-of_value at v d old.lines ∙ ap (λ b. b && has (one d) v) apart) in
          let out : (not (some_matches at old.lines) && default_gives old.default v) ≡ false =
          ap (λ (o : Option ℕ). not (some_matches at old.lines) && default_gives o v) none ∙ no_default (some_matches at old.lines) in
          sym (ap (λ b. some_gives at v old.lines || b) out ∙ (or_false (some_gives at v old.lines) ∙ gives));
    })

pub fewer_literals : (old new : Cover) → TakesDefault old new → literal_count new.lines ≤ literal_count old.lines
fewer_literals old new takes =
    let e = literals-parted takes.value old.lines in
    let now = ap (λ (c : Cover). literal_count c.lines) takes.is in
    omega (arith, e, now)

-- ---- the default counts

-- lines that have a literal hold somewhere
somewhere : (ls : List Line) → All (λ (l : Line). IsCube l.cube) ls → 0 < literal_count ls → (at : ℕ → ℕ) × (some_matches at ls ≡ true)
somewhere [] cubes some = absurd (omega (arith, some))
somewhere (l ∷ ls) cubes some =
    let cube : IsCube l.cube = cubes 0 l (omega arith) in
    let p = point_of 0 l.cube (Rises-cube l.cube cube.ascending) cube.possible in
    (p.at, or_left (matches p.at l.cube) (some_matches p.at ls) p.there)

pub none_bare : (old new : Cover) → HasCubes old → IsPlainlyDeterministic old → TakesDefault old new → some_bare new.lines ≡ false
none_bare old new cubes plain takes =
    let d = takes.value in
    let v = some_value old.lines plain.single takes.literal in
    let most = takes.costliest.most v.0 in
    let held = somewhere (lines_of_value d old.lines) (All-filter (λ (l : Line). nat_eq l.out (one d)) (λ (l : Line). IsCube l.cube) old.lines cubes.each) (omega (arith, v.1, most)) in
    subst (λ (c : Cover). some_bare c.lines ≡ false) (sym takes.is)
    (elim (cases_Bool (some_bare (lines_of_others d old.lines))) [
      | inl t ↦ absurd (holds_both old plain d held.0 (bare-matches held.0 (lines_of_others d old.lines) t) held.1)
      | inr f ↦ f
    ])
