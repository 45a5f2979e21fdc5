-- What lines hold and give in which a net of two values stands for its own lines, where its value is as its table says.
use Rattle.std.proofs.Common.{◌≡◌, ◌∙◌, ℕ, ◌<◌, ◌≤◌, Bool, true, false, ◌&&◌, ◌||◌, not, nat_lt, List, [], ◌∷◌, map, Option, Some, None, All, inl, inr, refl, sym, ap, subst, eq-eqb}
use Rattle.std.specs.Prelude.{MatchBool}
use Rattle.std.specs.List.{list_any, flat_map}
use Rattle.std.proofs.Math.Bool.{or-false}
use Rattle.std.proofs.lemmas.Bool.{cases_Bool, and_parts, false≢true, lt-ltb}
use Rattle.std.proofs.lemmas.List.Elements.{All-head, All-tail}
use Rattle.std.proofs.lemmas.List.Folds.{list_any-append}
use Rattle.std.proofs.lemmas.Option.{same_Some, none-some}
use Rattle.std.specs.Cmp.{unsigned_Decides}
use Rattle.mv_base.specs.Set.{has, one, empty}
use Rattle.mv_base.specs.declared.limits.TheConstants.{MAX_VALUES}
use Rattle.mv_base.proofs.Sets.{has-full, has-one}
use Rattle.mv_composite.proofs.Cubes.{has_asked, matches_own, matches-met}
use Rattle.mv_composite.proofs.Giving.{some_with, with-lines_for}
use Rattle.mv_composite.proofs.Meaning.{allowed-bare, both_true, matches-with}
use Rattle.mv_cover.specs.Literal.{Lit}
use Rattle.mv_cover.specs.declared.line.Line.{Line}
use Rattle.mv_cover.specs.declared.cover.Cover.{Cover}
use Rattle.mv_cover.specs.Cofactors.{cube_without}
use Rattle.mv_cover.specs.Complement.{lines_for}
use Rattle.mv_cover.specs.Covers.{some_matches, some_gives, default_gives, allowed}
use Rattle.mv_cover.specs.Covering.{IsPoint}
use Rattle.mv_cover.specs.Cubes.{matches, IsCube}
use Rattle.mv_cover.specs.Equal.{line_eq}
use Rattle.mv_cover.specs.Keys.{line_eq-Decides}
use Rattle.mv_cover.specs.Lines.{IsOutput}
use Rattle.mv_cover.specs.Meets.{literal_at, met}
use Rattle.mv_cover.proofs.Absorbing.{any_at, find_any, gives-any, bare-matches}
use Rattle.mv_cover.proofs.Points.{one_some}
use Rattle.mv_cover.proofs.Single.{gives-matches}
use Rattle.mv_net.specs.declared.parts.FlatNet.{FlatNet}
use Rattle.mv_net.specs.Allowed.{net_allows, net_table_allows}
use Rattle.mv_net.specs.Formed.{AllCubes, IsCover}
use Rattle.mv_net.specs.Nets.{slot, values_in, table_in}
use Rattle.mv_net.proofs.Plainness.{one_same}
use Rattle.mv_net.proofs.Totals.{IsTotal-covered, IsTotal-default}
use Rattle.mv_plans.specs.Completing.{IsLess, IsCompleted, with_zero}
use Rattle.mv_plans.specs.Expanding.{IsDividing, asks_one, line_expanded, expanded, AreSameLines, IsDivided}

-- ---- the net is 1 exactly where a line of its table holds

-- one of two that give 1
either_one : (m c g r : Bool) → r ≡ (c && g) → ((m && g) || r) ≡ ((m || c) && g)
either_one true c true r e = refl
either_one true true false r e = e
either_one true false false r e = e
either_one false c g r e = e

ones_give : (x : ℕ → ℕ) (v : ℕ) (ls : List Line) → All (λ (l : Line). l.out ≡ one 1) ls → some_gives x v ls ≡ (some_matches x ls && has (one 1) v)
ones_give x v [] all = refl
ones_give x v (l ∷ ls) all =
    let P = λ (k : Line). k.out ≡ one 1 in
    ap (λ s. (matches x l.cube && has s v) || some_gives x v ls) (All-head P l ls all)
    ∙ either_one (matches x l.cube) (some_matches x ls) (has (one 1) v) (some_gives x v ls) (ones_give x v ls (All-tail P l ls all))

one_or_zero : (m one zero : Bool) → (zero ≡ true → one ≡ false) → ((m && one) || (not m && zero)) ≡ true → one ≡ m
one_or_zero true true zero apart h = refl
one_or_zero true false zero apart h = absurd (false≢true h)
one_or_zero false one zero apart h = apart h

table_allows : (nets : List (Option FlatNet)) (d : ℕ) (inner : Cover) (x : ℕ → ℕ) → table_in (slot nets d) ≡ Some inner → net_allows (slot nets d) x (x d) ≡ true → allowed inner x (x d) ≡ true
table_allows nets d inner x table allows = by (slot nets d) refl allows
  where
    by : (f : Option FlatNet) → slot nets d ≡ f → net_allows f x (x d) ≡ true → allowed inner x (x d) ≡ true
    by None e a = absurd (none-some inner (sym (ap table_in e) ∙ table))
    by (Some f) e a = ap (λ t. net_table_allows t x (x d)) (sym table ∙ ap table_in e) ∙ (and_parts (nat_lt (x d) f.values) (net_table_allows f.table x (x d)) a).1

pub one_where : (nets : List (Option FlatNet)) (d : ℕ) (inner : Cover) (x : ℕ → ℕ) → IsDividing nets d inner → net_allows (slot nets d) x (x d) ≡ true → has (one 1) (x d) ≡ some_matches x inner.lines
unfolding allowed
one_where nets d inner x is allows =
    let a = table_allows nets d inner x is.table allows in
    one_or_zero (some_matches x inner.lines) (has (one 1) (x d)) (has (one 0) (x d)) (λ z. ap (has (one 1)) (one_same (x d) 0 z) ∙ has-one 1 0)
    ((λ i. sym (ones_give x (x d) inner.lines is.ones) i || (not (some_matches x inner.lines) && default_gives (sym is.zero i) (x d))) ∙ a)

-- ---- lines in which it stands for its own

asked : (o : Option ℕ) → asks_one o ≡ true → o ≡ Some (one 1)
asked None h = absurd (false≢true h)
asked (Some set) h = ap (λ s. Some s) ((unsigned_Decides set (one 1)).0 h)

either_part : (r k m g t : Bool) → t ≡ ((m && r) && g) → (((r && k) && g) || t) ≡ (((k || m) && r) && g)
either_part true true m true t e = refl
either_part true true true false t e = e
either_part true true false false t e = e
either_part true false m g t e = e
either_part false true true g t e = e
either_part false true false g t e = e
either_part false false m g t e = e

module _ (x : ℕ → ℕ) (d : ℕ) (inner : List Line) (where_one : has (one 1) (x d) ≡ some_matches x inner) (p : ℕ → Bool) where
  parts_with : (out : ℕ) (rest : List Lit) (ls : List Line) → some_with p x (flat_map (λ (k : Line). lines_for out (met rest k.cube)) ls) ≡ ((some_matches x ls && matches x rest) && p out)
  parts_with out rest [] = refl
  parts_with out rest (k ∷ ls) =
      let more = flat_map (λ (j : Line). lines_for out (met rest j.cube)) ls in
      list_any-append (λ (l : Line). matches x l.cube && p l.out) (lines_for out (met rest k.cube)) more
      ∙ (ap (λ b. b || some_with p x more) (with-lines_for p x out (met rest k.cube) ∙ ap (λ b. b && p out) (matches-met x rest k.cube))
      ∙ either_part (matches x rest) (matches x k.cube) (some_matches x ls) (p out) (some_with p x more) (parts_with out rest ls))

  line_with : (l : Line) → IsCube l.cube → some_with p x (line_expanded d inner l) ≡ (matches x l.cube && p l.out)
  line_with l is =
      let rest = cube_without d l.cube in
      elim (cases_Bool (asks_one (literal_at l.cube d))) [
        | inl t ↦
            let own : matches x l.cube ≡ (some_matches x inner && matches x rest) =
            matches_own x d l.cube is
            ∙ (ap (λ o. has_asked o (x d) && matches x rest) (asked (literal_at l.cube d) t) ∙ ap (λ b. b && matches x rest) where_one) in
            rw t (parts_with l.out rest inner ∙ ap (λ b. b && p l.out) (sym own))
        | inr f ↦ rw f (or-false (matches x l.cube && p l.out))
      ]

  pub expanded_with : (ls : List Line) → AllCubes ls → some_with p x (expanded d inner ls) ≡ some_with p x ls
  expanded_with [] cubes = refl
  expanded_with (l ∷ ls) cubes =
      list_any-append (λ (k : Line). matches x k.cube && p k.out) (line_expanded d inner l) (expanded d inner ls)
      ∙ (λ i. line_with l cubes.0 i || expanded_with ls cubes.1 i)

-- ---- lines that are the same as a set

carried : (p : Line → Bool) (a b : List Line) → ((l : Line) → list_any (line_eq l) a ≡ list_any (line_eq l) b) → list_any p a ≡ true → list_any p b ≡ true
carried p a b same h =
    let l = find_any p a h in
    let k = find_any (line_eq l.x) b (sym (same l.x) ∙ any_at (line_eq l.x) a l.x l.there ((line_eq-Decides l.x l.x).1 refl)) in
    any_at p b k.x k.there (ap p (sym ((line_eq-Decides l.x k.x).0 k.pass)) ∙ l.pass)

pub same_any : (p : Line → Bool) (a b : List Line) → AreSameLines a b → list_any p a ≡ list_any p b
same_any p a b is = both_true (list_any p a) (list_any p b) (carried p a b is.same) (carried p b a (λ l. sym (is.same l)))

-- ---- a body that stands for a table

module _ (x : ℕ → ℕ) (d : ℕ) (inner old body : Cover) (where_one : has (one 1) (x d) ≡ some_matches x inner.lines) (cubes : AllCubes body.lines) (is : IsDivided d inner old body) where
  divided_with : (p : ℕ → Bool) → some_with p x body.lines ≡ some_with p x old.lines
  divided_with p =
      sym (expanded_with x d inner.lines where_one p body.lines cubes)
      ∙ same_any (λ (l : Line). matches x l.cube && p l.out) (expanded d inner.lines body.lines) old.lines is.lines

  pub divided_matches : some_matches x body.lines ≡ some_matches x old.lines
  divided_matches = matches-with x body.lines ∙ (divided_with (λ _. true) ∙ sym (matches-with x old.lines))

  divided_gives : (v : ℕ) → some_gives x v body.lines ≡ some_gives x v old.lines
  divided_gives v = gives-any x v body.lines ∙ (divided_with (λ out. has out v) ∙ sym (gives-any x v old.lines))

  pub divided_allows : (v : ℕ) → allowed body x v ≡ allowed old x v
  unfolding allowed
  divided_allows v = λ i. divided_gives v i || (not (divided_matches i) && default_gives (is.default i) v)

-- ---- the default that comes besides

zero_output : (values : ℕ) → 0 < values → IsOutput values (one 0)
zero_output values some = record {
  some = λ e. false≢true (sym (one_some 0) ∙ eq-eqb (one 0) empty e);
  within = λ v h. has-full values v ∙ lt-ltb v values (subst (λ k. k < values) (sym (one_same v 0 h)) some);
}

module _ (nets : List (Option FlatNet)) (values : ℕ) (some : 0 < values) (few : values ≤ MAX_VALUES) (old body : Cover) (cover : IsCover nets values body) where
  -- a body that isn't total has no default
  no_default : IsLess nets old body → body.default ≡ None
  no_default less = by body.default refl
    where
      by : (o : Option ℕ) → body.default ≡ o → body.default ≡ None
      by None e = e
      by (Some out) e = absurd (less.partial (IsTotal-default nets values out body few cover e))

  with_zero_cover : (less : Bool) → MatchBool less (IsLess nets old body) (IsLess nets old body → ⊥) → IsCover nets values (with_zero less body)
  with_zero_cover false needed = cover
  with_zero_cover true needed = record {
    cubes = cover.cubes;
    lines = cover.lines;
    differ = cover.differ;
    default = λ out e. subst (IsOutput values) (same_Some (one 0) out e) (zero_output values some);
    met = λ bare. absurd (needed.partial (IsTotal-covered nets values body few cover (record { each = λ at p. bare-matches at body.lines bare })));
  }

  pub completed_cover : (new : Cover) → IsCompleted nets old body new → IsCover nets values new
  completed_cover new is = subst (IsCover nets values) (sym is.new_is) (with_zero_cover is.less is.needed)

  module _ (x : ℕ → ℕ) (point : IsPoint (map values_in nets) x) (d : ℕ) (inner : Cover) (where_one : has (one 1) (x d) ≡ some_matches x inner.lines) (divided : IsDivided d inner old body) where
    -- a total table has no point that none of its lines holds at, so the body has none
    met_there : IsLess nets old body → some_matches x body.lines ≡ true
    met_there less =
        let some = less.total.some x point in
        divided_matches x d inner old body where_one cover.cubes divided
        ∙ gives-matches x some.value old.lines (sym (allowed-bare old (sym divided.default ∙ no_default less) x some.value) ∙ some.is_allowed)

    with_zero_allows : (v : ℕ) (less : Bool) → MatchBool less (IsLess nets old body) (IsLess nets old body → ⊥) → allowed (with_zero less body) x v ≡ allowed body x v
    unfolding allowed
    with_zero_allows v false needed = refl
    with_zero_allows v true needed =
        let met = met_there needed in
        ap (λ b. some_gives x v body.lines || (not b && default_gives (Some (one 0)) v)) met
        ∙ sym (ap (λ b. some_gives x v body.lines || (not b && default_gives body.default v)) met)

    pub completed_allows : (new : Cover) → IsCompleted nets old body new → (v : ℕ) → allowed new x v ≡ allowed old x v
    completed_allows new is v =
        ap (λ c. allowed c x v) is.new_is
        ∙ (with_zero_allows v is.less is.needed ∙ divided_allows x d inner old body where_one cover.cubes divided v)
