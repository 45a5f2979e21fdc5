-- Cubes, from their last literal to their first.
use Rattle.std.proofs.Common.{◌≡◌, ℕ, zero, suc, ◌+◌, ◌<◌, ◌≤◌, ◌&&◌, Bool, true, false, List, [], ◌∷◌, length, drop, get_or, slice_index, nat_lt, Option, All, Result, Ok, Err, IfOk, IfErr, refl, sym, ap, subst, ◌∙◌, inl, inr, true≢false, arith, length-drop}
use Rattle.std.specs.Bool.{OnTrue, OnFalse}
use Rattle.std.proofs.lemmas.Bool.{cases_Bool, cases_eq, cases_lt, and_left, and_right, ltb-true, ltb-false}
use Rattle.std.proofs.Math.Bool.{and-true}
use Rattle.std.proofs.lemmas.List.{drop_all, drop_more, get_or-drop}
use Rattle.std.proofs.lemmas.List.Elements.{All-get_or}
use Rattle.mv_base.specs.Set.{empty, has}
use Rattle.mv_base.proofs.Sets.{has-empty}
use Rattle.mv_diagram.specs.declared.cube.Literal.{Literal}
use Rattle.mv_diagram.specs.declared.memo.Operation.TheVariants.{And}
use Rattle.mv_diagram.specs.declared.node.Dd.{Dd}
use Rattle.mv_diagram.specs.declared.node.Node.{Node}
use Rattle.mv_diagram.specs.declared.node.Nodes.{Nodes}
use Rattle.mv_diagram.specs.declared.table.Table.{Table}
use Rattle.mv_diagram.specs.Cubes.{AscendingVars, HasSome, HasNone, AreSome, IsBefore, in_cube}
use Rattle.mv_diagram.specs.Sets.{Point, InRange, with_value, has_diagram, holds}
use Rattle.mv_diagram.specs.Sound.{order, first, IsReduced}
use Rattle.mv_diagram.specs.Parts.{no_variable, IsRestriction, AddsParts}
use Rattle.mv_diagram.specs.Works.{AddsNodes, IsLacking}
use Rattle.mv_diagram.proofs.Applying.{both_same}
use Rattle.mv_diagram.proofs.Following.{Agree, first-end, first-le, holds_end}
use Rattle.mv_diagram.proofs.Growing.{no_node, held_low}
use Rattle.mv_diagram.proofs.Lacking.{Reads, Agree-more, Reads-diagram, lacking_same, lacking_value, lacking_within, reads_later}
use Rattle.mv_diagram.proofs.Points.{value_there}
use Rattle.mv_diagram.proofs.Restricting.{restriction_same, restriction_value}
use Rattle.mv_diagram.proofs.Adding.{parts_same, table_part}
use Rattle.mv_diagram.proofs.Literals.{limited, limited_reads, seen, seen_all, seen_past}
use Rattle.mv_pool.proofs.Walking.{read_any}

-- the empty diagram, or another
pub empty_held : (ns : List (Option Node)) → has_diagram ns 0 ≡ true
empty_held ns = held_low ns 0 (omega arith)

pub empty_last : (counts : List ℕ) (ns : List (Option Node)) → IsReduced counts ns → (d : ℕ) → first counts ns d ≤ first counts ns 0
empty_last counts ns s d = let most = first-le counts ns s d in let end = first-end counts ns 0 (no_node ns 0 (omega arith)) in omega arith

pub empty_set : (counts : List ℕ) (ns : List (Option Node)) (inside h : Bool) → inside ≡ false → (p : Point) → holds counts ns 0 p ≡ (inside && h)
empty_set counts ns inside h out p = holds_end counts ns 0 p (no_node ns 0 (omega arith)) ∙ sym (and_left inside h out)

pub whole_set : (inside h : Bool) → inside ≡ true → h ≡ (inside && h)
whole_set inside h is = ap (λ b. b && h) (sym is)

-- the diagram of all points
pub full_held : (ns : List (Option Node)) → has_diagram ns 1 ≡ true
full_held ns = held_low ns 1 (omega arith)

pub full_behind : (counts : List ℕ) (ns : List (Option Node)) (var : ℕ) → var < length counts → order (var + 1) 0 ≤ first counts ns 1
full_behind counts ns var inside = let end = first-end counts ns 1 (no_node ns 1 (omega arith)) in omega arith

-- a literal of all points
module _ (old new : Table) (var set : ℕ) where
  alone : (p : Point) → (has set (p var) && holds old.counts.items old.pool.places 1 p) ≡ has set (p var)
  alone p = ap (λ b. has set (p var) && b) (holds_end old.counts.items old.pool.places 1 p (no_node old.pool.places 1 (omega arith))) ∙ and-true (has set (p var))

  pub alone_set : (r : Result Dd Nodes) → IfOk r (λ d. (p : Point) → InRange new.counts.items p → holds new.counts.items new.pool.places d.0 p ≡ (has set (p var) && holds old.counts.items old.pool.places 1 p))
      → IfOk r (λ d. (p : Point) → InRange new.counts.items p → holds new.counts.items new.pool.places d.0 p ≡ has set (p var))
  alone_set (Err e) is = tt
  alone_set (Ok d) is = λ p range. is p range ∙ alone p

  pub alone_added : AddsNodes old new → AddsParts new.counts.items old.pool.places new.pool.places (λ p. has set (p var) && holds old.counts.items old.pool.places 1 p) → AddsParts new.counts.items old.pool.places new.pool.places (λ p. has set (p var))
  alone_added adds parts = parts_same new.counts.items old.pool.places new.pool.places _ (λ p. has set (p var)) adds.sound.values (λ p range. alone p) parts

  pub alone_lacking : AddsNodes old new → (r : Result Dd Nodes) → IfErr r (λ e. IsLacking new.counts.items new.pool.places (λ p. has set (p var) && holds old.counts.items old.pool.places 1 p)) → IfErr r (λ e. IsLacking new.counts.items new.pool.places (λ p. has set (p var)))
  alone_lacking adds (Ok d) is = tt
  alone_lacking adds (Err e) is = lacking_same new.counts.items new.pool.places adds.sound _ _ alone is

-- a diagram of later variables reads these alone, as nodes are added
pub reads_behind : (old new : Table) → IsReduced old.counts.items old.pool.places → AddsNodes old new → (d var : ℕ) → order (var + 1) 0 ≤ first old.counts.items old.pool.places d → Reads new.counts.items (order (var + 1) 0) (λ p. holds old.counts.items old.pool.places d p)
reads_behind old new s adds d var behind = subst (λ v. Reads v (order (var + 1) 0) (λ p. holds old.counts.items old.pool.places d p)) (sym (ap (λ v. v.items) adds.counts)) (Reads-diagram old.counts.items old.pool.places s d (order (var + 1) 0) behind)

-- the literals are of variables behind one
pub record AreBehind (counts : List ℕ) (var : ℕ) (ls : List Literal) : Type 0 where
  pub each : (k : ℕ) (l : Literal) → k < length ls → (var < (get_or ls k l).var) × ((get_or ls k l).var < length counts)

behind_first : (counts : List ℕ) (var : ℕ) (l : Literal) (ls : List Literal) → AreBehind counts var (l ∷ ls) → (var < l.var) × (l.var < length counts)
behind_first counts var l ls are = are.each 0 l (omega arith)

behind_rest : (counts : List ℕ) (var : ℕ) (l : Literal) (ls : List Literal) → AreBehind counts var (l ∷ ls) → AreBehind counts var ls
behind_rest counts var l ls are = record { each = λ k d less. are.each (suc k) d (omega arith) }

-- the cube as tests see it
abbrev pub seen_cube : List ℕ → List Literal → Point → Bool
seen_cube counts [] p = true
seen_cube counts (l ∷ ls) p = limited counts l.var l.set 0 (seen_cube counts ls) p

module _ (counts : List ℕ) (ns : List (Option Node)) (s : IsReduced counts ns) where
  -- all values are seen where one isn't the only one
  seen_reads : (var set : ℕ) → var < length counts → (z : Point → Bool) → Reads counts (order (var + 1) 0) z → Reads counts (order var 0) (limited counts var set 0 z)
  seen_reads var set inside z behind = elim (cases_lt 1 (slice_index counts var)) [
    | inl more ↦ limited_reads counts ns s var set inside z behind 0 (omega arith)
    | inr one ↦ record {
      each = λ p q agree. both_same And _ _ _ _
          (ap (has set) (seen_past (slice_index counts var) 0 (p var) (omega arith) ∙ sym (seen_past (slice_index counts var) 0 (q var) (omega arith))))
          (behind.each p q (Agree-more counts (order var 0) (order (var + 1) 0) p q (omega arith) agree));
    }
  ]

  pub cube_reads : (ls : List Literal) (var : ℕ) → AreBehind counts var ls → Reads counts (order (var + 1) 0) (seen_cube counts ls)
  cube_reads [] var are = record { each = λ p q agree. refl }
  cube_reads (l ∷ ls) var are =
      let here = behind_first counts var l ls are in
      let rest = behind_rest counts var l ls are in
      record { each = λ p q agree. both_same And _ _ _ _ (here_same l here p q agree) ((cube_reads ls var rest).each p q agree) }
    where
      here_same : (l : Literal) → (var < l.var) × (l.var < length counts) → (p q : Point) → Agree counts (order (var + 1) 0) p q → has l.set (seen (slice_index counts l.var) 0 (p l.var)) ≡ has l.set (seen (slice_index counts l.var) 0 (q l.var))
      here_same l here p q agree =
          sym (and-true _) ∙ (seen_reads l.var l.set here.1 (λ x. true) (record { each = λ p q agree. refl })).each p q (Agree-more counts (order (var + 1) 0) (order l.var 0) p q (omega (arith, here.0)) agree) ∙ and-true _

  -- a cube is what the tests see
  pub cube_seen : (ls : List Literal) (p : Point) → ((k : ℕ) (l : Literal) → k < length ls → (get_or ls k l).var < length counts) → InRange counts p → seen_cube counts ls p ≡ in_cube ls p
  cube_seen [] p vars range = refl
  cube_seen (l ∷ ls) p vars range = both_same And _ _ _ _ (ap (has l.set) (seen_all (slice_index counts l.var) (p l.var) (range.below l.var (vars 0 l (omega arith))))) (cube_seen ls p (λ k d less. vars (suc k) d (omega arith)) range)

  module _ (l : Literal) (ls : List Literal) (inside : l.var < length counts) (some : HasSome counts l.var l.set) (are : AreBehind counts l.var ls) where
    abbrev z : Point → Bool
    z p = seen_cube counts ls p

    behind : Reads counts (order (l.var + 1) 0) z
    behind = cube_reads ls l.var are

    -- the rest of a cube is the whole at a value of the first literal
    rest_is : (p : Point) → z p ≡ limited counts l.var l.set 0 z (with_value p l.var some.value)
    rest_is p = sym (both_same And _ _ true (z p)
        (ap (λ v. has l.set (seen (slice_index counts l.var) 0 v)) (value_there p l.var some.value l.var refl) ∙ ap (has l.set) (seen_all (slice_index counts l.var) some.value some.below) ∙ some.is)
        (reads_later counts ns s z p l.var some.value behind))

    rest_same : (p : Point) → InRange counts p → in_cube ls p ≡ z p
    rest_same p range = sym (cube_seen ls p (λ k d less. (are.each k d less).1) range)

    whole_same : (p : Point) → InRange counts p → limited counts l.var l.set 0 z p ≡ in_cube (l ∷ ls) p
    whole_same p range = both_same And _ _ _ _ (ap (has l.set) (seen_all (slice_index counts l.var) (p l.var) (range.below l.var inside))) (sym (rest_same p range))

    -- where no diagram has the rest of a cube, none has the whole
    pub cube_lacks : IsLacking counts ns (λ p. in_cube ls p) → IsLacking counts ns (λ p. in_cube (l ∷ ls) p)
    cube_lacks lacking = lacking_within counts ns s _ _ whole_same
        (lacking_value counts ns s l.var some.value inside some.below (limited counts l.var l.set 0 z) (seen_reads l.var l.set inside z behind)
        (lacking_same counts ns s _ _ rest_is (lacking_within counts ns s _ _ rest_same lacking)))

    -- a restriction of the rest is one of the whole
    pub cube_part : (part : Point → Bool) → IsRestriction counts no_variable (λ p. in_cube ls p) part → IsRestriction counts no_variable (λ p. in_cube (l ∷ ls) p) part
    cube_part part r = restriction_same counts s.values no_variable _ (λ p. in_cube (l ∷ ls) p) part part whole_same (λ p. refl)
        (restriction_value counts s.values no_variable l.var some.value some.below (limited counts l.var l.set 0 z) (seen_reads l.var l.set inside z behind) part
        (restriction_same counts s.values no_variable _ _ part part (λ p range. rest_same p range ∙ rest_is p) (λ p. refl) r))

-- the literals from a place on
pub record IsAt (counts : List ℕ) (literals : List Literal) (at : ℕ) (l : Literal) (ls : List Literal) : Type 0 where
  pub is : drop at literals ≡ l ∷ ls
  pub inside : l.var < length counts
  pub some : HasSome counts l.var l.set
  pub behind : AreBehind counts l.var ls

-- the literal at a place, and those behind it
pub literal_at : (counts : List ℕ) (literals : List Literal) (at : ℕ) (l : Literal) → All (λ (l : Literal). l.var < length counts) literals → AscendingVars literals → AreSome counts literals (length literals) → at < length literals → l ≡ get_or literals at l
    → IsAt counts literals at l (drop (at + 1) literals)
literal_at counts literals at l vars ascends some inside is = record {
  is = drop_more literals at l inside ∙ ap (λ x. x ∷ drop (at + 1) literals) (sym is);
  inside = subst (λ (x : Literal). x.var < length counts) (sym is) (All-get_or (λ (l : Literal). l.var < length counts) literals at l inside vars);
  some = subst (λ (x : Literal). HasSome counts x.var x.set) (sym is) (some.each at l inside);
  behind = record {
    each = λ k d less.
        let long = length-drop (at + 1) literals in
        let there = get_or-drop (at + 1) literals k d in
        let here = read_any literals at l d inside is in (
          subst (λ (x : Literal). l.var < x.var) (sym there) (subst (λ (x : Literal). x.var < (get_or literals (at + 1 + k) d).var) here (ascends.each at (at + 1 + k) d (omega arith) (omega arith))),
          subst (λ (x : Literal). x.var < length counts) (sym there) (All-get_or (λ (l : Literal). l.var < length counts) literals (at + 1 + k) d (omega arith) vars),
        );
  };
}

-- a literal more before the rest of a cube, whose diagram is made
module _ (old one new : Table) (s : IsReduced old.counts.items old.pool.places) (before : AddsNodes old one) (second : AddsNodes one new) (literals : List Literal) (at : ℕ) (l : Literal) (ls : List Literal) (here : IsAt old.counts.items literals at l ls) where
  same_one : one.counts.items ≡ old.counts.items
  same_one = ap (λ v. v.items) before.counts

  same_new : new.counts.items ≡ old.counts.items
  same_new = ap (λ v. v.items) second.counts ∙ same_one

  in_one : IsAt one.counts.items literals at l ls
  in_one = subst (λ v. IsAt v literals at l ls) (sym same_one) here

  in_new : IsAt new.counts.items literals at l ls
  in_new = subst (λ v. IsAt v literals at l ls) (sym same_new) here

  -- nothing but the rest was made
  pub cube_rest_lacks : IsLacking one.counts.items one.pool.places (λ p. in_cube ls p) → IsLacking one.counts.items one.pool.places (λ p. in_cube (drop at literals) p)
  cube_rest_lacks lacking = rw here.is (cube_lacks one.counts.items one.pool.places before.sound l ls in_one.inside in_one.some in_one.behind lacking)

  pub cube_rest_added : (base : List (Option Node)) → AddsParts one.counts.items base one.pool.places (λ p. in_cube ls p) → AddsParts one.counts.items base one.pool.places (λ p. in_cube (drop at literals) p)
  cube_rest_added base parts = rw here.is (record {
    each = λ d held. elim (parts.each d held) [
      | inl was ↦ inl was
      | inr r ↦ inr (cube_part one.counts.items one.pool.places before.sound l ls in_one.inside in_one.some in_one.behind _ r)
    ];
  })

  module _ (rest : Dd) (of : (p : Point) → InRange one.counts.items p → holds one.counts.items one.pool.places rest.0 p ≡ in_cube ls p) where
    made_same : (p : Point) → InRange new.counts.items p → (has l.set (p l.var) && holds one.counts.items one.pool.places rest.0 p) ≡ in_cube (l ∷ ls) p
    made_same p range = ap (λ b. has l.set (p l.var) && b) (of p (subst (λ v. InRange v p) (ap (λ v. v.items) second.counts) range))

    pub cube_set : (r : Result Dd Nodes) → IfOk r (λ d. (p : Point) → InRange new.counts.items p → holds new.counts.items new.pool.places d.0 p ≡ (has l.set (p l.var) && holds one.counts.items one.pool.places rest.0 p))
        → IfOk r (λ d. (p : Point) → InRange new.counts.items p → holds new.counts.items new.pool.places d.0 p ≡ in_cube (drop at literals) p)
    cube_set (Err e) is = tt
    cube_set (Ok d) is = λ p range. is p range ∙ made_same p range ∙ ap (λ x. in_cube x p) (sym here.is)

    pub cube_lacking : (r : Result Dd Nodes) → IfErr r (λ e. IsLacking new.counts.items new.pool.places (λ p. has l.set (p l.var) && holds one.counts.items one.pool.places rest.0 p))
        → IfErr r (λ e. IsLacking new.counts.items new.pool.places (λ p. in_cube (drop at literals) p))
    cube_lacking (Ok d) is = tt
    cube_lacking (Err e) is = rw here.is (lacking_within new.counts.items new.pool.places second.sound _ _ made_same is)

    pub cube_added : AddsParts one.counts.items old.pool.places one.pool.places (λ p. in_cube ls p) → AddsParts new.counts.items one.pool.places new.pool.places (λ p. has l.set (p l.var) && holds one.counts.items one.pool.places rest.0 p)
        → AddsParts new.counts.items old.pool.places new.pool.places (λ p. in_cube (drop at literals) p)
    cube_added earlier now = rw here.is (record {
      each = λ d held. elim (now.each d held) [
        | inr r ↦ inr (restriction_same new.counts.items second.sound.values no_variable _ _ _ _ made_same (λ p. refl) r)
        | inl there ↦ elim (earlier.each d there) [
          | inl was ↦ inl was
          | inr r ↦ inr (cube_part new.counts.items new.pool.places second.sound l ls in_new.inside in_new.some in_new.behind _ (table_part one new before.sound second d _ there r))
        ]
      ];
    })

  pub cube_later : (r : Result Dd Nodes) → at < length literals → IfOk r (λ d. order l.var 0 ≤ first new.counts.items new.pool.places d.0) → IfOk r (λ d. (v : ℕ) → v < length new.counts.items → IsBefore v literals at → order (v + 1) 0 ≤ first new.counts.items new.pool.places d.0)
  cube_later (Err e) inside is = tt
  cube_later (Ok d) inside is = λ v less ahead. let b = subst (λ (x : Literal). v < x.var) (at_front l) (ahead.first l inside) in omega (arith, is)
    where
      at_front : (d : Literal) → get_or literals at d ≡ l
      at_front d = let here_at : at ≡ at + 0 = omega arith in ap (λ x. get_or literals x d) here_at ∙ sym (get_or-drop at literals 0 d) ∙ ap (λ x. get_or x 0 d) here.is

-- the rest of a cube stands behind a literal
pub cube_behind : (old one : Table) → AddsNodes old one → (literals : List Literal) (at : ℕ) (l : Literal) → IsAt old.counts.items literals at l (drop (at + 1) literals) → (rest : ℕ)
    → ((v : ℕ) → v < length one.counts.items → IsBefore v literals (at + 1) → order (v + 1) 0 ≤ first one.counts.items one.pool.places rest) → order (l.var + 1) 0 ≤ first one.counts.items one.pool.places rest
cube_behind old one adds literals at l here rest later = later l.var (rw (ap (λ v. v.items) adds.counts) here.inside) (record {
  first = λ d inside.
      let long = length-drop (at + 1) literals in
      let next : at + 1 + 0 ≡ at + 1 = omega arith in
      subst (λ (x : Literal). l.var < x.var) (get_or-drop (at + 1) literals 0 d ∙ ap (λ x. get_or literals x d) next) (here.behind.each 0 d (omega arith)).0;
})

-- at the end the cube is the set of all points
pub cube_end : (literals : List Literal) (at : ℕ) → at ≡ length literals → (p : Point) → true ≡ in_cube (drop at literals) p
cube_end literals at e p = ap (λ x. in_cube x p) (sym (drop_all at literals (omega arith)))

-- the least value of a set says whether one is below a number
pub some_of : (counts : List ℕ) (var set least count : ℕ) → slice_index counts var ≡ count → has set least ≡ true → OnTrue (nat_lt least count) (HasSome counts var set)
some_of counts var set least count is there = by_test (nat_lt least count) refl
  where
    by_test : (b : Bool) → nat_lt least count ≡ b → OnTrue b (HasSome counts var set)
    by_test true less = record { value = least; below = let low = ltb-true least count less in omega arith; is = there }
    by_test false less = tt

pub none_of : (counts : List ℕ) (var set least count : ℕ) → slice_index counts var ≡ count → ((u : ℕ) → has set u ≡ true → least ≤ u) → OnFalse (nat_lt least count) (HasNone counts var set)
none_of counts var set least count is first = by_test (nat_lt least count) refl
  where
    by_test : (b : Bool) → nat_lt least count ≡ b → OnFalse b (HasNone counts var set)
    by_test true less = tt
    by_test false less = record {
      each = λ value below. elim (cases_Bool (has set value)) [
        | inl there ↦ let low = first value there in let high = ltb-false least count less in absurd (omega arith)
        | inr out ↦ out
      ];
    }

pub none_empty : (counts : List ℕ) (var set : ℕ) → set ≡ empty → HasNone counts var set
none_empty counts var set is = record { each = λ value below. ap (λ s. has s value) is ∙ has-empty value }

-- one literal more has a value
pub some_more : (counts : List ℕ) (literals : List Literal) (k : ℕ) (l : Literal) → AreSome counts literals k → k < length literals → l ≡ get_or literals k l → HasSome counts l.var l.set → AreSome counts literals (k + 1)
some_more counts literals k l are inside is some = record {
  each = λ j d less. elim (cases_eq j k) [
    | inl same ↦ subst (λ (x : Literal). HasSome counts x.var x.set) (sym (ap (λ x. get_or literals x d) same ∙ read_any literals k l d inside is)) some
    | inr other ↦ are.each j d (omega arith)
  ];
}

-- a literal without a value leaves no point
pub none_in_cube : (counts : List ℕ) (literals : List Literal) (k : ℕ) (l : Literal) → l.var < length counts → k < length literals → l ≡ get_or literals k l → HasNone counts l.var l.set → (p : Point) → InRange counts p → in_cube literals p ≡ false
none_in_cube counts [] k l within inside is none p range = absurd (omega arith)
none_in_cube counts (x ∷ xs) zero l within inside is none p range = and_left (has x.set (p x.var)) (in_cube xs p) (ap (λ (y : Literal). has y.set (p y.var)) (sym is) ∙ none.each (p l.var) (range.below l.var within))
none_in_cube counts (x ∷ xs) (suc k) l within inside is none p range = and_right (has x.set (p x.var)) (in_cube xs p) (none_in_cube counts xs k l within (omega arith) is none p range)

-- a diagram of no point, and of all
pub empty_cube : (counts : List ℕ) (ns : List (Option Node)) (literals : List Literal) (p : Point) → in_cube literals p ≡ false → holds counts ns 0 p ≡ in_cube literals p
empty_cube counts ns literals p none = holds_end counts ns 0 p (no_node ns 0 (omega arith)) ∙ sym none

pub full_set : (counts : List ℕ) (ns : List (Option Node)) (literals : List Literal) (at : ℕ) → at ≡ length literals → (p : Point) → holds counts ns 1 p ≡ in_cube (drop at literals) p
full_set counts ns literals at e p = holds_end counts ns 1 p (no_node ns 1 (omega arith)) ∙ cube_end literals at e p

-- what holds by an answer
pub on_true_is : (r : Bool) (P : Type 0) → r ≡ true → OnTrue r P → P
on_true_is true P e h = h
on_true_is false P e h = absurd (true≢false (sym e))

pub on_false_is : (r : Bool) (P : Type 0) → r ≡ false → OnFalse r P → P
on_false_is false P e h = h
on_false_is true P e h = absurd (true≢false e)
