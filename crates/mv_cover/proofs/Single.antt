-- A plain cover allows one value at most.
use Rattle.std.proofs.Common.{◌≡◌, ◌∙◌, ℕ, ◌+◌, Bool, true, false, not, ◌&&◌, Option, Some, None, List, [], ◌∷◌, inl, inr, refl, sym, ap, add-one, arith}
use Rattle.std.specs.Prelude.{count_ones}
use Rattle.std.specs.List.{Contains, All}
use Rattle.std.specs.Cmp.{unsigned_Decides}
use Rattle.std.proofs.lemmas.Bool.{false≢true, and_parts, or_cases, or_left, or_right, not-true}
use Rattle.std.proofs.lemmas.List.Elements.{All-contains}
use Rattle.mv_base.specs.Set.{has, one}
use Rattle.mv_base.proofs.Sets.{has-one, one_from_count}
use Rattle.mv_cover.specs.declared.line.Line.{Line}
use Rattle.mv_cover.specs.declared.cover.Cover.{Cover}
use Rattle.mv_cover.specs.Cubes.{matches}
use Rattle.mv_cover.specs.Covers.{some_matches, some_gives, default_gives, allowed}
use Rattle.mv_cover.specs.Plain.{Agree, GivesOne, IsOneDefault, IsPlainlyDeterministic, AllowsOne}

-- a set of one member has no two
single_member : (s u v : ℕ) → count_ones s ≡ 1 → has s u ≡ true → has s v ≡ true → u ≡ v
single_member s u v single p q =
    let only : s ≡ one v = one_from_count s v q single in
    (unsigned_Decides u v).0 (sym (has-one v u) ∙ (ap (λ t. has t u) (sym only) ∙ p))

-- a line whose cube holds and that gives the value
pub record Giver (at : ℕ → ℕ) (v : ℕ) (ls : List Line) : Type 0 where
  pub line : Line
  pub member : Contains ls line
  pub holds : matches at line.cube ≡ true
  pub gives : has line.out v ≡ true

pub giver : (at : ℕ → ℕ) (v : ℕ) (ls : List Line) → some_gives at v ls ≡ true → Giver at v ls
giver at v [] h = absurd (false≢true h)
giver at v (l ∷ ls) h =
    elim (or_cases (matches at l.cube && has l.out v) (some_gives at v ls) h) [
      | inl here ↦
          let p = and_parts (matches at l.cube) (has l.out v) here in
          record { line = l; member = (0, omega arith, refl); holds = p.0; gives = p.1 }
      | inr later ↦
          let g = giver at v ls later in
          record { line = g.line; member = (g.member.0 + 1, omega (arith, g.member.1), rw add-one g.member.2); holds = g.holds; gives = g.gives }
    ]

-- where a line gives a value, a line holds
pub gives-matches : (at : ℕ → ℕ) (v : ℕ) (ls : List Line) → some_gives at v ls ≡ true → some_matches at ls ≡ true
gives-matches at v [] h = h
gives-matches at v (l ∷ ls) h =
    elim (or_cases (matches at l.cube && has l.out v) (some_gives at v ls) h) [
      | inl here ↦ or_left (matches at l.cube) (some_matches at ls) (and_parts (matches at l.cube) (has l.out v) here).0
      | inr later ↦ or_right (matches at l.cube) (some_matches at ls) (gives-matches at v ls later)
    ]

default_one : (o : Option ℕ) (u v : ℕ) → IsOneDefault o → default_gives o u ≡ true → default_gives o v ≡ true → u ≡ v
default_one None u v is p q = absurd (false≢true p)
default_one (Some out) u v is p q = single_member out u v is p q

lines_one : (c : Cover) → IsPlainlyDeterministic c → (at : ℕ → ℕ) (u v : ℕ) → Giver at u c.lines → Giver at v c.lines → u ≡ v
lines_one c plain at u v g k =
    let row = All-contains (λ (l : Line). All (Agree l) c.lines) c.lines g.line plain.apart g.member in
    let agree = All-contains (Agree g.line) c.lines k.line row k.member in
    let same : k.line.out ≡ g.line.out = sym (agree.same at g.holds k.holds) in
    single_member g.line.out u v (All-contains GivesOne c.lines g.line plain.single g.member) g.gives (ap (λ s. has s v) (sym same) ∙ k.gives)

-- where the default counts no line gives a value
default_alone : (at : ℕ → ℕ) (v : ℕ) (ls : List Line) (b : Bool) → some_gives at v ls ≡ true → (not (some_matches at ls) && b) ≡ true → true ≡ false
default_alone at v ls b g d = sym (gives-matches at v ls g) ∙ not-true (some_matches at ls) (and_parts (not (some_matches at ls)) b d).0

pub allows_one : (c : Cover) → IsPlainlyDeterministic c → AllowsOne c
unfolding allowed
allows_one c plain = record {
  one = λ at u v p q.
      elim (or_cases (some_gives at u c.lines) (not (some_matches at c.lines) && default_gives c.default u) p) [
        | inl g ↦
            elim (or_cases (some_gives at v c.lines) (not (some_matches at c.lines) && default_gives c.default v) q) [
              | inl k ↦ lines_one c plain at u v (giver at u c.lines g) (giver at v c.lines k)
              | inr d ↦ absurd (false≢true (sym (default_alone at u c.lines (default_gives c.default v) g d)))
            ]
        | inr d ↦
            elim (or_cases (some_gives at v c.lines) (not (some_matches at c.lines) && default_gives c.default v) q) [
              | inl k ↦ absurd (false≢true (sym (default_alone at v c.lines (default_gives c.default u) k d)))
              | inr e ↦
                  default_one c.default u v plain.default
                  (and_parts (not (some_matches at c.lines)) (default_gives c.default u) d).1
                  (and_parts (not (some_matches at c.lines)) (default_gives c.default v) e).1
            ]
      ];
}
