-- The composite allows what the reader allows with some value that the net's cover allows.
use Rattle.std.proofs.Common.{◌≡◌, ◌∙◌, ℕ, ◌<◌, Bool, true, false, not, ◌&&◌, ◌||◌, ◌↔◌, ◌⊎◌, Option, Some, None, All, List, [], ◌∷◌, get_or, inl, inr, refl, sym, ap, subst}
use Rattle.std.proofs.Math.Bool.{and-true}
use Rattle.std.proofs.lemmas.Bool.{cases_Bool, false≢true, and_parts, or_cases, ltb-true, MatchBool-at_true, false_from_ne_true}
use Rattle.std.proofs.lemmas.List.Elements.{All-head, All-tail}
use Rattle.mv_base.specs.Set.{has}
use Rattle.mv_base.proofs.Sets.{has-full}
use Rattle.mv_cover.specs.Literal.{Lit}
use Rattle.mv_cover.specs.declared.line.Line.{Line}
use Rattle.mv_cover.specs.declared.cover.Cover.{Cover}
use Rattle.mv_cover.specs.Cubes.{matches, IsCube}
use Rattle.mv_cover.specs.Covers.{some_matches, some_gives, default_gives, allowed}
use Rattle.mv_cover.specs.Covering.{IsPoint, changed}
use Rattle.mv_cover.specs.Lines.{IsOutput}
use Rattle.mv_cover.specs.Plain.{IsPlainlyDeterministic}
use Rattle.mv_cover.specs.Complement.{complement_of, spelled_of}
use Rattle.mv_cover.proofs.Absorbing.{gives-any, allowed-absorbed}
use Rattle.mv_cover.proofs.Covering.{changed-point}
use Rattle.mv_cover.proofs.Single.{allows_one}
use Rattle.mv_cover.proofs.Spelling.{same-spelled}
use Rattle.mv_composite.specs.declared.inner.Inner.{Inner}
use Rattle.mv_composite.specs.Inside.{AreCubesOver, AreOutputs, IsCoverOver, AllowsAtEach, IsInner}
use Rattle.mv_composite.specs.Composite.{lines_given, default_stays, spelled, composed, Composes}
use Rattle.mv_composite.proofs.Outside.{complement_holds, complement_over}
use Rattle.mv_composite.proofs.Giving.{HoldAway, some_with, given_down, given_up}
use Rattle.mv_composite.proofs.Formed.{are_cubes, over-lines_given, over-spelled}

-- ---- values that are allowed are the net's

output_low : (values out v : ℕ) → IsOutput values out → has out v ≡ true → v < values
output_low values out v is h = ltb-true v values (sym (has-full values v) ∙ is.within v h)

gives_low : (at : ℕ → ℕ) (values v : ℕ) (ls : List Line) → AreOutputs values ls → some_gives at v ls ≡ true → v < values
gives_low at values v [] are h = absurd (false≢true h)
gives_low at values v (l ∷ ls) are h =
    elim (or_cases (matches at l.cube && has l.out v) (some_gives at v ls) h) [
      | inl g ↦ output_low values l.out v (All-head (λ (m : Line). IsOutput values m.out) l ls are) (and_parts (matches at l.cube) (has l.out v) g).1
      | inr r ↦ gives_low at values v ls (All-tail (λ (m : Line). IsOutput values m.out) l ls are) r
    ]

default_low : (values v : ℕ) (o : Option ℕ) → ((out : ℕ) → o ≡ Some out → IsOutput values out) → default_gives o v ≡ true → v < values
default_low values v None each h = absurd (false≢true h)
default_low values v (Some out) each h = output_low values out v (each out refl) h

pub allowed_low : (counts : List ℕ) (values : ℕ) (c : Cover) (at : ℕ → ℕ) (v : ℕ) → IsCoverOver counts values c → allowed c at v ≡ true → v < values
unfolding allowed
allowed_low counts values c at v is h =
    elim (or_cases (some_gives at v c.lines) (not (some_matches at c.lines) && default_gives c.default v) h) [
      | inl g ↦ gives_low at values v c.lines is.outputs g
      | inr d ↦ default_low values v c.default is.default (and_parts (not (some_matches at c.lines)) (default_gives c.default v) d).1
    ]

-- ---- tests of lines, in one form

pub matches-with : (at : ℕ → ℕ) (ls : List Line) → some_matches at ls ≡ some_with (λ _. true) at ls
matches-with at [] = refl
matches-with at (l ∷ ls) = λ i. (sym (and-true (matches at l.cube)) i) || matches-with at ls i

or_none : (a b : Bool) → (a || (b && false)) ≡ a
or_none true b = refl
or_none false true = refl
or_none false false = refl

-- without a default a cover allows what its lines give
pub allowed-bare : (c : Cover) → c.default ≡ None → (at : ℕ → ℕ) (v : ℕ) → allowed c at v ≡ some_gives at v c.lines
unfolding allowed
allowed-bare c bare at v =
    ap (λ o. some_gives at v c.lines || (not (some_matches at c.lines) && default_gives o v)) bare ∙ or_none (some_gives at v c.lines) (not (some_matches at c.lines))

-- tests that follow from one another are one
pub both_true : (a b : Bool) → (a ≡ true → b ≡ true) → (b ≡ true → a ≡ true) → a ≡ b
both_true true b f g = sym (f refl)
both_true false b f g = sym (false_from_ne_true b (λ t. false≢true (g t)))

module _ (counts : List ℕ) (inner : Inner) (is : IsInner counts inner) (outside : List (List Lit)) (at : ℕ → ℕ) (point : IsPoint counts at) (hold : HoldAway at inner outside) (t : Cover) (cubes : All (λ (l : Line). IsCube l.cube) t.lines) where
  -- the reader's lines with what they give in their place
  abbrev given : Cover
  given = record { lines = lines_given outside inner t.lines; default = t.default }

  -- with one value of the net alone each test of what the lines give is that of the lines with this value
  one_test : (p : ℕ → Bool) (w : ℕ) → allowed inner.cover at w ≡ true → ((u : ℕ) → allowed inner.cover at u ≡ true → u ≡ w) → some_with p at (lines_given outside inner t.lines) ≡ some_with p (changed inner.net.0 w at) t.lines
  one_test p w can only =
      both_true (some_with p at (lines_given outside inner t.lines)) (some_with p (changed inner.net.0 w at) t.lines)
      (λ h.
      let d = given_down counts inner is outside at point hold p t.lines cubes h in
      subst (λ u. some_with p (changed inner.net.0 u at) t.lines ≡ true) (only d.w d.is_allowed) d.passes)
      (λ h. given_up counts inner is outside at point hold p t.lines w cubes can h)

  -- so the default may stay beside them
  one_allowed : (w : ℕ) → allowed inner.cover at w ≡ true → ((u : ℕ) → allowed inner.cover at u ≡ true → u ≡ w) → (v : ℕ) → allowed given at v ≡ allowed t (changed inner.net.0 w at) v
  unfolding allowed
  one_allowed w can only v =
      let x = changed inner.net.0 w at in
      let ls = lines_given outside inner t.lines in
      let gives : some_gives at v ls ≡ some_gives x v t.lines = gives-any at v ls ∙ (one_test (λ out. has out v) w can only ∙ sym (gives-any x v t.lines)) in
      let met : some_matches at ls ≡ some_matches x t.lines = matches-with at ls ∙ (one_test (λ _. true) w can only ∙ sym (matches-with x t.lines)) in
      λ i. gives i || (not (met i) && default_gives t.default v)

  stays_each : default_stays inner ≡ true → (v : ℕ) → (allowed given at v ≡ true) ↔ ((w : ℕ) × (allowed inner.cover at w ≡ true) × (allowed t (changed inner.net.0 w at) v ≡ true))
  stays_each stays v =
      let both = and_parts inner.total inner.plain stays in
      let some = (MatchBool-at_true (AllowsAtEach counts inner.cover) (AllowsAtEach counts inner.cover → ⊥) both.0 is.total).some at point in
      let plain = MatchBool-at_true (IsPlainlyDeterministic inner.cover) (IsPlainlyDeterministic inner.cover → ⊥) both.1 is.plain in
      let only : (u : ℕ) → allowed inner.cover at u ≡ true → u ≡ some.0 = λ u h. (allows_one inner.cover plain).one at u some.0 h some.1 in
      let same = one_allowed some.0 some.1 only v in (
        λ h. (some.0, some.1, sym same ∙ h),
        λ s. same ∙ subst (λ u. allowed t (changed inner.net.0 u at) v ≡ true) (only s.0 s.1) s.2,
      )

  bare_each : t.default ≡ None → (v : ℕ) → (allowed given at v ≡ true) ↔ ((w : ℕ) × (allowed inner.cover at w ≡ true) × (allowed t (changed inner.net.0 w at) v ≡ true))
  bare_each bare v =
      let ls = lines_given outside inner t.lines in (
        λ h.
            let d = given_down counts inner is outside at point hold (λ out. has out v) t.lines cubes (sym (gives-any at v ls) ∙ (sym (allowed-bare given bare at v) ∙ h)) in
            (d.w, d.is_allowed, allowed-bare t bare (changed inner.net.0 d.w at) v ∙ (gives-any (changed inner.net.0 d.w at) v t.lines ∙ d.passes)),
        λ s.
            let x = changed inner.net.0 s.0 at in
            allowed-bare given bare at v ∙ (gives-any at v ls ∙ given_up counts inner is outside at point hold (λ out. has out v) t.lines s.0 cubes s.1 (sym (gives-any x v t.lines) ∙ (sym (allowed-bare t bare x v) ∙ s.2))),
      )

-- ---- the reader, spelled out where its default can't stay

pub stays_or_bare : (counts : List ℕ) (inner : Inner) (reader : Cover) → (default_stays inner ≡ true) ⊎ ((spelled counts inner reader).default ≡ None)
unfolding spelled_of
stays_or_bare counts inner reader =
    elim (cases_Bool (default_stays inner)) [
      | inl t ↦ inl t
      | inr f ↦ inr (rw f refl)
    ]

spelled_same : (counts : List ℕ) (inner : Inner) (reader : Cover) → AreCubesOver counts reader.lines → (x : ℕ → ℕ) → IsPoint counts x → (v : ℕ) → allowed (spelled counts inner reader) x v ≡ allowed reader x v
spelled_same counts inner reader are x p v =
    elim (cases_Bool (default_stays inner)) [
      | inl t ↦ rw t refl
      | inr f ↦ rw f ((same-spelled counts reader (complement_holds counts reader.lines are)).same x p v)
    ]

-- ---- the composite

-- the composite before it is absorbed
abbrev raw : List ℕ → Inner → Cover → Cover
raw counts inner reader = record {
  lines = lines_given (complement_of counts inner.cover.lines) inner (spelled counts inner reader).lines;
  default = (spelled counts inner reader).default;
}

-- it allows what the reader, as it is spelled, allows with some value
raw_each : (counts : List ℕ) (inner : Inner) (reader : Cover) → IsInner counts inner → AreCubesOver counts reader.lines → (at : ℕ → ℕ) → IsPoint counts at → (v : ℕ) → (allowed (raw counts inner reader) at v ≡ true) ↔ ((w : ℕ) × (allowed inner.cover at w ≡ true) × (allowed (spelled counts inner reader) (changed inner.net.0 w at) v ≡ true))
raw_each counts inner reader is are at point v =
    let t = spelled counts inner reader in
    let outside = complement_of counts inner.cover.lines in
    let hold : HoldAway at inner outside = record { away = (complement_holds counts inner.cover.lines is.cover.cubes).points at point } in
    let cubes = are_cubes counts t.lines (over-spelled counts inner reader are) in
    elim (stays_or_bare counts inner reader) [
      | inl s ↦ stays_each counts inner is outside at point hold t cubes s v
      | inr b ↦ bare_each counts inner is outside at point hold t cubes b v
    ]

-- the point with a value of the net is a point, so that the reader may stand for its spelling
reader_same : (counts : List ℕ) (inner : Inner) (reader : Cover) → IsInner counts inner → AreCubesOver counts reader.lines → (at : ℕ → ℕ) → IsPoint counts at → (w : ℕ) → allowed inner.cover at w ≡ true → (v : ℕ) → allowed (spelled counts inner reader) (changed inner.net.0 w at) v ≡ allowed reader (changed inner.net.0 w at) v
reader_same counts inner reader is are at point w can v =
    spelled_same counts inner reader are (changed inner.net.0 w at)
    (changed-point counts inner.net.0 w at (allowed_low counts (get_or counts inner.net.0 0) inner.cover at w is.cover can) point) v

pub composes : (counts : List ℕ) (inner : Inner) (reader : Cover) → IsInner counts inner → AreCubesOver counts reader.lines → Composes counts inner.net.0 inner.cover reader (composed counts inner reader)
unfolding composed
composes counts inner reader is are = record {
  each = λ at point v.
      let t = spelled counts inner reader in
      let own = is.cover.cubes in
      let tidied =
      allowed-absorbed (raw counts inner reader)
      (are_cubes counts (raw counts inner reader).lines (over-lines_given counts (complement_of counts inner.cover.lines) inner t.lines own (complement_over counts inner.cover.lines own) (over-spelled counts inner reader are))) at v
      in
      let both = raw_each counts inner reader is are at point v in (
        λ h. let s = both.0 (sym tidied ∙ h) in (s.0, s.1, sym (reader_same counts inner reader is are at point s.0 s.1 v) ∙ s.2),
        λ s. tidied ∙ both.1 (s.0, s.1, reader_same counts inner reader is are at point s.0 s.1 v ∙ s.2),
      );
}
