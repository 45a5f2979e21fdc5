-- What cubes have in common, one cube after another.
use Rattle.std.proofs.Common.{◌≡◌, ◌∙◌, ℕ, ◌+◌, ◌<◌, ◌≤◌, ◌&&◌, Bool, true, false, Option, List, [], ◌∷◌, length, map, take, get_or, All, Contains, inl, inr, refl, sym, ap, subst, arith}
use Rattle.std.proofs.lemmas.Bool.{cases_lt}
use Rattle.std.proofs.lemmas.List.{get_or_default, get_or-take, get_or-map, length-map, length-take-le}
use Rattle.std.proofs.lemmas.List.Elements.{All-more}
use Rattle.std.proofs.lemmas.Map.Views.{any-filter_same}
use Rattle.std.proofs.lemmas.Option.{slice_get-get_or, slice_get_within, get_or_from_slice_get}
use Rattle.mv_cover.specs.Literal.{Lit}
use Rattle.mv_cover.specs.Cubes.{IsCube}
use Rattle.mv_cover.specs.Equal.{lit_eq}
use Rattle.mv_cover.specs.Keys.{lit_eq-Decides}
use Rattle.mv_cover.specs.declared.line.Line.{Line}
use Rattle.mv_net.specs.declared.parts.FlatNet.{FlatNet}
use Rattle.mv_kernels.specs.Symbols.{has_symbol}
use Rattle.mv_kernels.proofs.Lists.{Contains-first, Contains-map, Contains-from_map, Contains-from_filter}
use Rattle.mv_kernels.proofs.Quotients.{symbol_in, same_cube, IsCube-filter}
use Rattle.mv_gains.specs.Candidates.{all_lines, common}
use Rattle.mv_gains.specs.Cubes.{IsTwo, IsSharedAt, IsSharedBy, IsCommon, AreCommon, AreCubeCandidates}
use Rattle.mv_gains.specs.Grown.{IsOneOf, Grew}
use Rattle.mv_gains.specs.Holders.{IsNoted, Ascends, AreHolders}
use Rattle.mv_gains.proofs.Growing.{grew_more}
use Rattle.mv_gains.proofs.Kept.{holders_push}
use Rattle.mv_gains.proofs.Noting.{take_more}
use Rattle.mv_gains.proofs.Sums.{ascends_at}

-- ---- what is common

and_flips : (p q : Bool) → (p && q) ≡ (q && p)
and_flips true true = refl
and_flips true false = refl
and_flips false true = refl
and_flips false false = refl

has_common : (a b : List Lit) (l : Lit) → has_symbol (common a b) l ≡ (has_symbol b l && has_symbol a l)
has_common a b l = any-filter_same (λ (m : Lit). lit_eq m l) (has_symbol b) (has_symbol b l) (λ m e. ap (has_symbol b) ((lit_eq-Decides m l).0 e)) a

common_flips : (a b : List Lit) → IsCube a → IsCube b → common a b ≡ common b a
common_flips a b fa fb =
    same_cube (common a b) (common b a) (IsCube-filter (has_symbol b) a fa) (IsCube-filter (has_symbol a) b fb)
    (λ l. has_common a b l ∙ (and_flips (has_symbol b l) (has_symbol a l) ∙ sym (has_common b a l)))

pub common_formed : (a items shared b : List Lit) (i : ℕ) → IsCube a → items ≡ a → shared ≡ common items b → IsCube shared
common_formed a items shared b i fa is e = subst IsCube (sym (e ∙ ap (λ (c : List Lit). common c b) is)) (IsCube-filter (has_symbol b) a fa)

some_member : (xs : List Lit) → 2 ≤ length xs → (x : Lit) × Contains xs x
some_member [] h = absurd (omega arith)
some_member (x ∷ xs) h = (x, Contains-first x xs)

-- ---- places

below : (high : ℕ) (ps : List ℕ) (p : ℕ) → Ascends 0 high ps → Contains ps p → p < high
below high ps p a h =
    let at = ascends_at 0 high ps h.0 p a h.1 in
    omega (arith, at, h.2)

pub shared_more : (cubes : List (List Lit)) (cube : List Lit) (places : List ℕ) (i : ℕ) (c result : List Lit) (old mid new : List (List Lit)) → i < length places → get_or places i 0 < length cubes → result ≡ get_or cubes (get_or places i 0) result → c ≡ common cube result → Grew (IsOneOf (IsSharedAt cubes cube) (take i places)) old mid → Grew (IsTwo c) mid new → Grew (IsOneOf (IsSharedAt cubes cube) (take (i + 1) places)) old new
shared_more cubes cube places i c result old mid new low inside at is a b =
    let read : result ≡ get_or cubes (get_or places i 0) [] = at ∙ get_or_default cubes (get_or places i 0) result [] inside in
    grew_more (IsSharedAt cubes cube) places i (get_or places i 0) old mid new low (get_or_default places i 0 (get_or places i 0) low) a
    (subst (λ (x : List Lit). Grew (IsTwo x) mid new) (is ∙ ap (common cube) read) b)

-- ---- one cube more

module _ (cubes : List (List Lit)) (i : ℕ) (cube : List Lit) (places : Lit → List ℕ) (old new : List (List Lit)) (low : i < length cubes) (at : cube ≡ get_or cubes i cube) (formed : IsCube cube) (earlier : All IsCube (take i cubes)) (held : (l : Lit) → AreHolders (λ (c : List Lit). Contains c l) (take i cubes) (places l)) (a : AreCommon cubes i old) (g : Grew (IsSharedBy cubes places cube) old new) where
  here : cube ≡ get_or cubes i []
  here = at ∙ get_or_default cubes i cube [] low

  long : length (take i cubes) ≡ i
  long = length-take-le i cubes (omega arith)

  formed_at : (p : ℕ) → p < i → IsCube (get_or cubes p [])
  formed_at p before = subst IsCube (get_or-take i cubes p [] before) (earlier p [] (omega (arith, before, long)))

  wider : (d : List Lit) → IsCommon cubes i d → IsCommon cubes (i + 1) d
  wider d c = record { one = c.one; one_in = omega (arith, c.one_in); other = c.other; other_in = omega (arith, c.other_in); apart = c.apart; is = c.is }

  shared_is : (d : List Lit) → IsSharedBy cubes places cube d → IsCommon cubes (i + 1) d
  shared_is d s =
      let p = s.is.from in
      let inside = below (length (take i cubes)) (places s.from) p (held s.from).ascending s.is.there in
      record {
        one = i;
        one_in = omega arith;
        other = p;
        other_in = omega (arith, inside, long);
        apart = λ e. absurd (omega (arith, inside, long, e));
        is = subst (λ (c : List Lit). IsTwo (common c (get_or cubes p [])) d) here s.is.is;
      }

  found_with : (d : List Lit) (p : ℕ) → p < i → IsTwo (common cube (get_or cubes p [])) d → Contains new d
  found_with d p before two =
      let m = some_member (common cube (get_or cubes p [])) two.two in
      let f = Contains-from_filter (has_symbol (get_or cubes p [])) cube m.0 m.1 in
      let there : Contains (get_or (take i cubes) p []) m.0 = subst (λ (c : List Lit). Contains c m.0) (sym (get_or-take i cubes p [] before)) (symbol_in (get_or cubes p []) m.0 f.1) in
      g.all d (record { from = m.0; there = f.0; is = record { from = p; there = (held m.0).all p [] (omega (arith, before, long)) there; is = two } })

  all_found : (d : List Lit) → IsCommon cubes (i + 1) d → Contains new d
  all_found d c =
      elim (cases_lt c.one i) [
        | inl first ↦
            elim (cases_lt c.other i) [
              | inl second ↦ g.keeps d (a.all d (record { one = c.one; one_in = first; other = c.other; other_in = second; apart = c.apart; is = c.is }))
              | inr past ↦
                  let same : c.other ≡ i = omega (arith, past, c.other_in) in
                  let cube_is : get_or cubes c.other [] ≡ cube = ap (λ p. get_or cubes p []) same ∙ sym here in
                  let flipped : common (get_or cubes c.one []) (get_or cubes c.other []) ≡ common cube (get_or cubes c.one []) =
                  ap (common (get_or cubes c.one [])) cube_is ∙ common_flips (get_or cubes c.one []) cube (formed_at c.one first) formed in
                  found_with d c.one first (subst (λ (x : List Lit). IsTwo x d) flipped c.is)
            ]
        | inr past ↦
            let same : c.one ≡ i = omega (arith, past, c.one_in) in
            let cube_is : get_or cubes c.one [] ≡ cube = ap (λ p. get_or cubes p []) same ∙ sym here in
            elim (cases_lt c.other i) [
              | inl second ↦ found_with d c.other second (subst (λ (x : List Lit). IsTwo (common x (get_or cubes c.other [])) d) cube_is c.is)
              | inr behind ↦ absurd (c.apart (omega (arith, same, behind, c.other_in)))
            ]
      ]

  pub common_more : AreCommon cubes (i + 1) new
  common_more = record {
    each = λ d h. elim (g.each d h) [ inl was ↦ wider d (a.each d was) | inr s ↦ shared_is d s ];
    all = all_found;
  }

  pub formed_more : All IsCube (take (i + 1) cubes)
  formed_more = All-more IsCube cubes i cube low earlier (subst IsCube at formed)

  pub held_more : (later : Lit → List ℕ) (lits : List Lit) → lits ≡ cube → IsNoted lits i places later → (l : Lit) → AreHolders (λ (c : List Lit). Contains c l) (take (i + 1) cubes) (later l)
  held_more later lits is noted l =
      subst (λ (cs : List (List Lit)). AreHolders (λ (c : List Lit). Contains c l) cs (later l)) (sym (take_more cubes i cube low at))
      (holders_push (λ (c : List Lit). Contains c l) (take i cubes) cube l lits places later (subst (λ n. IsNoted lits n places later) (sym long) noted) (λ h. subst (λ (c : List Lit). Contains c l) (sym is) h) (held l))

-- ---- all of them

pub candidates_are : (nets : List (Option FlatNet)) (cubes found : List (List Lit)) (list : List (List (List Lit))) → cubes ≡ map (λ (l : Line). l.cube) (all_lines nets) → AreCommon cubes (length cubes) found → list ≡ map (λ (c : List Lit). c ∷ []) found → AreCubeCandidates nets list
candidates_are nets cubes found list are a listed =
    let lines = all_lines nets in
    let none : Line = record { cube = []; out = 0 } in
    let long : length cubes ≡ length lines = ap length are ∙ length-map lines (λ (l : Line). l.cube) in
    let read : (k : ℕ) → k < length lines → get_or cubes k [] ≡ (get_or lines k none).cube =
    λ k low. ap (λ (cs : List (List Lit)). get_or cs k []) are ∙ get_or-map (λ (l : Line). l.cube) lines k none [] low in
    record {
      each = λ d i.
          let m = Contains-from_map (λ (c : List Lit). c ∷ []) found d (subst (λ (ds : List (List (List Lit))). Contains ds d) listed i) in
          let c = a.each m.0 m.1 in
          let one_in : c.one < length lines = omega (arith, c.one_in, long) in
          let other_in : c.other < length lines = omega (arith, c.other_in, long) in
          let same : common (get_or cubes c.one []) (get_or cubes c.other []) ≡ common (get_or lines c.one none).cube (get_or lines c.other none).cube =
          λ j. common (read c.one one_in j) (read c.other other_in j) in
          record {
            one = c.one;
            other = c.other;
            apart = c.apart;
            first = get_or lines c.one none;
            first_at = slice_get-get_or lines c.one none one_in;
            second = get_or lines c.other none;
            second_at = slice_get-get_or lines c.other none other_in;
            is = m.2 ∙ ap (λ (x : List Lit). x ∷ []) (sym c.is.is ∙ same);
            two = subst (λ (x : List Lit). 2 ≤ length x) same c.is.two;
          };
      all = λ d c.
          let one_in = slice_get_within lines c.one c.first c.first_at in
          let other_in = slice_get_within lines c.other c.second c.second_at in
          let first : get_or cubes c.one [] ≡ c.first.cube = read c.one one_in ∙ ap (λ (l : Line). l.cube) (get_or_from_slice_get lines c.one c.first none c.first_at) in
          let second : get_or cubes c.other [] ≡ c.second.cube = read c.other other_in ∙ ap (λ (l : Line). l.cube) (get_or_from_slice_get lines c.other c.second none c.second_at) in
          let shared = common c.first.cube c.second.cube in
          let same : common (get_or cubes c.one []) (get_or cubes c.other []) ≡ shared = λ j. common (first j) (second j) in
          let there : Contains found shared =
          a.all shared
          (record {
            one = c.one;
            one_in = omega (arith, one_in, long);
            other = c.other;
            other_in = omega (arith, other_in, long);
            apart = c.apart;
            is = record { is = same; two = subst (λ (x : List Lit). 2 ≤ length x) (sym same) c.two };
          }) in
          subst (λ (ds : List (List (List Lit))). Contains ds d) (sym listed)
          (subst (λ (x : List (List Lit)). Contains (map (λ (c : List Lit). c ∷ []) found) x) (sym c.is) (Contains-map (λ (c : List Lit). c ∷ []) found shared there));
    }
