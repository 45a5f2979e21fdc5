-- Common parts of two cubes.
use Rattle.std.proofs.Common.{◌≡◌, ◌∙◌, ℕ, ◌<◌, ◌≤◌, Bool, true, false, List, [], length, get_or, All, sym, ap, subst}
use Rattle.std.proofs.lemmas.Bool.{false≢true}
use Rattle.std.proofs.lemmas.List.Elements.{All-contains}
use Rattle.std.specs.Prelude.{MatchBool}
use Rattle.mv_cover.specs.Literal.{Lit}
use Rattle.mv_cover.specs.Cubes.{IsCube}
use Rattle.mv_cover.specs.Equal.{cube_eq}
use Rattle.mv_cover.specs.Keys.{cube_eq-Decides}
use Rattle.mv_kernels.specs.Symbols.{has_symbol, has_each}
use Rattle.mv_kernels.proofs.Lists.{Contains-from_filter}
use Rattle.mv_kernels.proofs.Quotients.{symbol_in, in_symbol, each_from, IsCube-filter}
use Rattle.mv_meets.specs.Meets.{at, common, IsMeet}
use Rattle.mv_meets.specs.Search.{AreHolding, HasPair, IsWith}
use Rattle.mv_meets.proofs.Places.{at_item}

pub common_formed : (a items shared b : List Lit) → IsCube a → items ≡ a → shared ≡ common items b → IsCube shared
common_formed a items shared b fa is e = subst IsCube (sym (e ∙ ap (λ (c : List Lit). common c b) is)) (IsCube-filter (has_symbol b) a fa)

-- both cubes have all of what they have in common
has_left : (a b : List Lit) → has_each (common a b) a ≡ true
has_left a b = each_from (common a b) a (λ l t. in_symbol a l (Contains-from_filter (has_symbol b) a l (symbol_in (common a b) l t)).0)

has_right : (a b : List Lit) → has_each (common a b) b ≡ true
has_right a b = each_from (common a b) b (λ l t. (Contains-from_filter (has_symbol b) a l (symbol_in (common a b) l t)).1)

pub meet_left : (cubes : List (List Lit)) (e : List Lit) (m : IsMeet cubes e) → has_each e (at cubes m.one) ≡ true
meet_left cubes e m = subst (λ d. has_each d (at cubes m.one) ≡ true) m.is (has_left (at cubes m.one) (at cubes m.other))

pub meet_right : (cubes : List (List Lit)) (e : List Lit) (m : IsMeet cubes e) → has_each e (at cubes m.other) ≡ true
meet_right cubes e m = subst (λ d. has_each d (at cubes m.other) ≡ true) m.is (has_right (at cubes m.one) (at cubes m.other))

pub meet_formed : (cubes : List (List Lit)) (e : List Lit) → All IsCube cubes → IsMeet cubes e → IsCube e
meet_formed cubes e a m = subst IsCube m.is (IsCube-filter (has_symbol (at cubes m.other)) (at cubes m.one) (a m.one [] m.one_in))

-- ---- pairs of places

shared_is : (cubes : List (List Lit)) (one other : ℕ) (a b shared : List Lit) → one < length cubes → other < length cubes → a ≡ get_or cubes one a → b ≡ get_or cubes other b → shared ≡ common a b
    → shared ≡ common (at cubes one) (at cubes other)
shared_is cubes one other a b shared low high at_one at_other is =
    let first : a ≡ at cubes one = at_item cubes one a low at_one in
    let second : b ≡ at cubes other = at_item cubes other b high at_other in
    is ∙ (λ j. common (first j) (second j))

-- the cubes at the places, and whether what they have in common is d
pub pair_found : (cubes : List (List Lit)) (one other : ℕ) (a b shared d : List Lit) (same : Bool) → one < length cubes → other < length cubes → a ≡ get_or cubes one a → b ≡ get_or cubes other b → (other ≡ one → ⊥)
    → shared ≡ common a b → same ≡ cube_eq shared d → MatchBool same (IsWith cubes (at cubes one) one other d) (IsWith cubes (at cubes one) one other d → ⊥)
pair_found cubes one other a b shared d true low high at_one at_other apart is t = record {
  apart = apart;
  is = sym (shared_is cubes one other a b shared low high at_one at_other is) ∙ (cube_eq-Decides shared d).0 (sym t);
}
pair_found cubes one other a b shared d false low high at_one at_other apart is t = λ w.
    false≢true (t ∙ (cube_eq-Decides shared d).1 (shared_is cubes one other a b shared low high at_one at_other is ∙ w.is))

-- a pair of places at which cubes have just it in common
pub pair_meets : (cubes : List (List Lit)) (d : List Lit) (places : List ℕ) → All (λ p. p < length cubes) places → 2 ≤ length d → HasPair cubes places places d → IsMeet cubes d
pair_meets cubes d places below two p = record {
  one = p.one;
  one_in = All-contains (λ q. q < length cubes) places p.one below p.there;
  other = p.with.from;
  other_in = All-contains (λ q. q < length cubes) places p.with.from below p.with.there;
  apart = λ e. p.with.is.apart (sym e);
  is = p.with.is.is;
  two = two;
}

pub meets_pair : (cubes : List (List Lit)) (d : List Lit) (places : List ℕ) → AreHolding cubes d places → IsMeet cubes d → HasPair cubes places places d
meets_pair cubes d places a m = record {
  one = m.one;
  there = a.all m.one m.one_in (meet_left cubes d m);
  with = record {
    from = m.other;
    there = a.all m.other m.other_in (meet_right cubes d m);
    is = record { apart = λ e. m.apart (sym e); is = m.is };
  };
}
