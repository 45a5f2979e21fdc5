-- What steps on the sets of a list from a place on leave, with their marks.
use Rattle.std.proofs.Common.{◌≡◌, ◌≤◌, ◌<◌, ◌+◌, ◌&&◌, ◌==◌, ◌⊎◌, ℕ, Bool, true, false, not, nat_le, List, [], ◌∷◌, length, refl, sym, ap, subst, ◌∙◌, inl, inr, arith, true≢false}
use Rattle.std.proofs.lemmas.Bool.{and_parts, cases_eq, cases_lt, leb-true, le-leb, eq-eqb, ne_eqb}
use Rattle.std.specs.declared.vec.Vec.{Vec}
use Rattle.std.specs.declared.alloc.Global.{Global}
use Rattle.mv_diagram.specs.Sets.{Point, InRange}
use Rattle.mv_diagram.specs.Parts.{no_variable}
use Rattle.mv_diagram.specs.Quantified.{Agreeing, Spreads, is_one_of}
use Rattle.mv_factors.specs.Families.{Family, Keeps, before, behind, but, but_both, diagram_at, everywhere, only, set_at}
use Rattle.mv_factors.specs.Functions.{IsFunction, is_this}
use Rattle.mv_factors.specs.Leaving.{IsFreeOf}
use Rattle.mv_factors.specs.Seen.{AreFreeBut, AreSeen, Goes, HasRows, IsAlone, IsJoined, IsLast, IsNowhere, IsPut, Joins, Puts, Sees, may}
use Rattle.mv_factors.proofs.Agreeing.{free_all, free_gone, free_same, this_same}
use Rattle.mv_factors.proofs.Eliminating.{eliminates_none, eliminates_then}
use Rattle.mv_factors.proofs.Keeping.{Keeps-fewer, Keeps-self, Keeps-then, before_lt, but_both_true, but_not, but_true}
use Rattle.mv_factors.proofs.Stepping.{eliminates_given, eliminates_join, eliminates_nowhere, eliminates_put, eliminates_two}
use Rattle.mv_factors.proofs.Sighting.{sees_same, sees_then}

-- the rows are there after a step
pub rows_then : (f g : Family) (rows rows' : List (Vec Bool Global)) → Sees f g rows rows'
    → HasRows rows (length f.list) (length f.contents.counts) → HasRows rows' (length g.list) (length g.contents.counts)
rows_then f g rows rows' sees has =
    subst (λ n. HasRows rows' n (length g.contents.counts)) (sym sees.long)
    (subst (λ n. HasRows rows' (length f.list) n) (sym (ap length sees.counts)) (sees.has (length f.list) (length f.contents.counts) has))

module _ (f g : Family) where
  -- a set that is free of a variable stays so
  pub free_along : (k var : ℕ) → g.contents.counts ≡ f.contents.counts → ((p : Point) → set_at g k p ≡ set_at f k p)
      → IsFreeOf f.contents.counts (λ p. set_at f k p) var → IsFreeOf g.contents.counts (λ p. set_at g k p) var
  free_along k var counts same free =
      free_same g.contents.counts var (set_at g k) (set_at f k) same
      (subst (λ (cs : List ℕ). IsFreeOf cs (λ p. set_at f k p) var) (sym counts) free)

  -- a set that gives a variable its value does so still
  pub function_along : (k var : ℕ) → Keeps f g (only k) → IsFunction f.contents.counts (λ p. set_at f k p) var
      → IsFunction g.contents.counts (λ p. set_at g k p) var
  function_along k var keeps function =
      subst (λ (cs : List ℕ). IsFunction cs (λ p. set_at g k p) var) (sym keeps.counts) (record {
        total = λ p range.
            let near = function.total p range in
            record { other = near.other; range = near.range; agrees = near.agrees; is = same near.other ∙ near.is };
        one = λ p q rp rq agree ip iq. function.one p q rp rq agree (sym (same p) ∙ ip) (sym (same q) ∙ iq);
      })
    where
      same : (p : Point) → set_at g k p ≡ set_at f k p
      same p = keeps.sets k p (eq-eqb k k refl)

  -- two sets are joined, and one of them has all points
  module _ (h : Family) (place other : ℕ) (apart : other ≡ place → ⊥) (first : Keeps f g (but place)) (second : Keeps g h (but other)) where
    pub keeps_both : Keeps f h (but_both place other)
    keeps_both =
        Keeps-then f g h (but_both place other) (Keeps-fewer f g (but place) (but_both place other) left first)
        (Keeps-fewer g h (but other) (but_both place other) right second)
      where
        left : (k : ℕ) → but_both place other k ≡ true → but place k ≡ true
        left k is = (and_parts (not (k == place)) (not (k == other)) is).0

        right : (k : ℕ) → but_both place other k ≡ true → but other k ≡ true
        right k is = (and_parts (not (k == place)) (not (k == other)) is).1

    pub first_there : (p : Point) → set_at h place p ≡ set_at g place p
    first_there p = second.sets place p (but_true other place (λ same. apart (sym same)))

-- no step
pub goes_self : (f : Family) (rows : List (Vec Bool Global)) (from : ℕ) → Goes f f rows rows from no_variable
goes_self f rows from = record {
  sees = sees_same f f rows (Keeps-self f everywhere) refl;
  is = eliminates_none f f from (Keeps-self f everywhere) refl;
  earlier = Keeps-self f (before from);
}

-- a step that failed
pub goes_none : (f g : Family) (rows rows' : List (Vec Bool Global)) (from : ℕ) → Sees f g rows rows' → Keeps f g everywhere
    → Goes f g rows rows' from no_variable
goes_none f g rows rows' from sees keeps = record {
  sees = sees;
  is = eliminates_none f g from keeps sees.long;
  earlier = Keeps-fewer f g everywhere (before from) (λ k is. refl) keeps;
}

-- two steps
pub goes_then : (f g h : Family) (r r' r'' : List (Vec Bool Global)) (from : ℕ) (vars : ℕ → Bool) → Goes f g r r' from no_variable
    → Goes g h r' r'' from vars → Goes f h r r'' from vars
goes_then f g h r r' r'' from vars first second = record {
  sees = sees_then f g h r r' r'' first.sees second.sees;
  is = eliminates_then f g h from no_variable vars first.sees.counts first.is second.is;
  earlier = Keeps-then f g h (before from) first.earlier second.earlier;
}

-- what changes from a place on leaves the earlier sets
pub earlier_but : (f g : Family) (from place : ℕ) → from ≤ place → Keeps f g (but place) → Keeps f g (before from)
earlier_but f g from place first keeps =
    Keeps-fewer f g (but place) (before from)
    (λ k is. let less = before_lt from k is in but_true place k (λ same. absurd (omega arith))) keeps

pub earlier_both : (f g : Family) (from place other : ℕ) → from ≤ place → from ≤ other → Keeps f g (but_both place other)
    → Keeps f g (before from)
earlier_both f g from place other first second keeps =
    Keeps-fewer f g (but_both place other) (before from)
    (λ k is.
    let less = before_lt from k is in
    but_both_true place other k (λ same. absurd (omega arith)) (λ same. absurd (omega arith))) keeps

module _ (f g : Family) (rows rows' : List (Vec Bool Global)) (from var : ℕ) where
  -- a set is joined to another
  pub joined : (place other : ℕ) → from ≤ place → from ≤ other → place < length f.list → other < length f.list → Sees f g rows rows'
      → Keeps f g (but_both place other)
      → ((p : Point) → set_at g place p ≡ (set_at f place p && set_at f other p)) → ((p : Point) → set_at g other p ≡ true)
      → IsJoined f g rows rows' from var place other
  joined place other first second here there sees keeps meet all = record {
    goes = record {
      sees = sees;
      is = eliminates_join f g from sees.counts sees.long place other keeps first second here there meet all;
      earlier = earlier_both f g from place other first second keeps;
    };
    keeps = keeps;
    free = λ apart. free_all g.contents.counts var (set_at g other) all;
  }

  -- a set is put into another
  pub put : (given place : ℕ) → (place ≡ given → ⊥) → from ≤ given → from ≤ place → given < length f.list → place < length f.list
      → IsFunction f.contents.counts (λ p. set_at f given p) var → Sees f g rows rows' → Keeps f g (but place)
      → Spreads g.contents (var ∷ []) true (λ q. set_at f place q && set_at f given q) (diagram_at g place)
      → IsPut f g rows rows' from var given place
  put given place apart first second there here function sees keeps spread = record {
    goes = record {
      sees = sees;
      is = eliminates_put f g from sees.counts sees.long place given var apart keeps second first here there function spread;
      earlier = earlier_but f g from place second keeps;
    };
    keeps = keeps;
    stays = Keeps-fewer f g (but place) (only given) (λ k is. but_true place k (λ same. apart (sym same ∙ eqb_is k given is))) keeps;
    free = λ other.
        free_gone g.contents (var ∷ []) (λ q. set_at f place q && set_at f given q) (diagram_at g place) spread var (this_same var);
  }
    where
      eqb_is : (k n : ℕ) → (k == n) ≡ true → k ≡ n
      eqb_is k n is = elim (cases_eq k n) [ inl same ↦ same | inr ne ↦ absurd (true≢false (sym is ∙ ne_eqb k n ne)) ]

  -- a variable is left out of the meet of two sets
  pub left_out : (place other : ℕ) → from ≤ place → place < length f.list → other ≡ place → AreFreeBut f from var place other
      → Sees f g rows rows' → Keeps f g (but place)
      → Spreads g.contents (var ∷ []) true (λ q. set_at f place q && set_at f other q) (diagram_at g place)
      → Goes f g rows rows' from (is_this var)
  left_out place other first here same free sees keeps spread = record {
    sees = sees;
    is =
        eliminates_two f g from sees.counts sees.long place other
        (Keeps-fewer f g (but place) (but_both place other) (λ k is. (and_parts (not (k == place)) (not (k == other)) is).0) keeps) first
        (omega arith) here (omega arith) var spread (inl same) free.each;
    earlier = earlier_but f g from place first keeps;
  }

-- the second set has all points then
pub left_out_two : (f g h : Family) (r r' r'' : List (Vec Bool Global)) (from var place other : ℕ) → (other ≡ place → ⊥) → from ≤ place
    → from ≤ other → place < length f.list → other < length f.list → AreFreeBut f from var place other
    → Sees f g r r' → Sees g h r' r'' → Keeps f g (but place) → Keeps g h (but other)
    → Spreads g.contents (var ∷ []) true (λ q. set_at f place q && set_at f other q) (diagram_at g place)
    → ((p : Point) → set_at h other p ≡ true)
    → Goes f h r r'' from (is_this var)
left_out_two f g h r r' r'' from var place other apart first second here there free sees more keeps fills spread all =
    let both = keeps_both f g h place other apart keeps fills in
    let whole = sees_then f g h r r' r'' sees more in
    record {
      sees = whole;
      is = eliminates_two f h from whole.counts whole.long place other both first second here there var (record {
        some = λ p range is.
            moved_near p
            (spread.some p (subst (λ (cs : List ℕ). InRange cs p) more.counts range)
            (sym (first_there f g h place other apart keeps fills p) ∙ is));
        all = λ p q range agree is.
            first_there f g h place other apart keeps fills p
            ∙ spread.all p q (subst (λ (cs : List ℕ). InRange cs q) more.counts range) agree is;
      }) (inr all) free.each;
      earlier = earlier_both f h from place other first second both;
    }
  where
    moved_near : (p : Point) → Agreeing g.contents.counts (is_one_of (var ∷ [])) (λ q. set_at f place q && set_at f other q) true p
        → Agreeing h.contents.counts (is_one_of (var ∷ [])) (λ q. set_at f place q && set_at f other q) true p
    moved_near p near =
        subst (λ (cs : List ℕ). Agreeing cs (is_one_of (var ∷ [])) (λ q. set_at f place q && set_at f other q) true p)
        (sym more.counts) near

module _ (f g h : Family) (r r' r'' : List (Vec Bool Global)) (from var : ℕ) where
  -- one place more
  pub joins_more : (place other : ℕ) → Joins f g r r' from var other place → IsJoined g h r' r'' from var place other
      → Joins f h r r'' from var (other + 1) place
  joins_more place other first second = record {
    goes = goes_then f g h r r' r'' from no_variable first.goes second.goes;
    behind =
        Keeps-then f g h (behind (other + 1) place)
        (Keeps-fewer f g (behind other place) (behind (other + 1) place)
        (λ k is. let low = (parts k is).0 in both_behind k (omega arith) (parts k is).1) first.behind)
        (Keeps-fewer g h (but_both place other) (behind (other + 1) place)
        (λ k is. let low = (parts k is).0 in but_both_true place other k (parts k is).1 (λ same. absurd (omega arith))) second.keeps);
    free = record {
      each = λ k low less ne. elim (cases_eq k other) [
        | inl same ↦ subst (λ n. IsFreeOf h.contents.counts (λ p. set_at h n p) var) (sym same) (second.free (λ at. ne (same ∙ at)))
        | inr apart ↦
            free_along g h k var second.keeps.counts (λ p. second.keeps.sets k p (but_both_true place other k ne apart))
            (first.free.each k low (omega arith) ne)
      ];
    };
  }
    where
      parts : (k : ℕ) → behind (other + 1) place k ≡ true → (other + 1 ≤ k) × (k ≡ place → ⊥)
      parts k is =
          let both = and_parts (nat_le (other + 1) k) (not (k == place)) is in
          (leb-true (other + 1) k both.0, λ same. but_not place k same both.1)

      both_behind : (k : ℕ) → other ≤ k → (k ≡ place → ⊥) → behind other place k ≡ true
      both_behind k low ne = ap (λ b. b && not (k == place)) (le-leb other k low) ∙ but_true place k ne

  pub puts_more : (given place : ℕ) → Puts f g r r' from var place given → IsPut g h r' r'' from var given place
      → Puts f h r r'' from var (place + 1) given
  puts_more given place first second = record {
    goes = goes_then f g h r r' r'' from no_variable first.goes second.goes;
    stays = Keeps-then f g h (only given) first.stays second.stays;
    free = record {
      each = λ k low less ne. elim (cases_eq k place) [
        | inl same ↦ subst (λ n. IsFreeOf h.contents.counts (λ p. set_at h n p) var) (sym same) (second.free (λ at. ne (same ∙ at)))
        | inr apart ↦
            free_along g h k var second.keeps.counts (λ p. second.keeps.sets k p (but_true place k apart))
            (first.free.each k low (omega arith) ne)
      ];
    };
  }

  -- the set that gives the value has all points then
  pub puts_away : (given : ℕ) → from ≤ given → given < length f.list → IsFunction f.contents.counts (λ p. set_at f given p) var
      → Puts f g r r' from var (length f.list) given → Sees g h r' r'' → Keeps g h (but given) → ((p : Point) → set_at h given p ≡ true)
      → Goes f h r r'' from (is_this var)
  puts_away given first there function puts sees keeps all =
      goes_then f g h r r' r'' from (is_this var) puts.goes (record {
        sees = sees;
        is =
            eliminates_given g h from sees.counts sees.long given var keeps first (let long = puts.goes.sees.long in omega arith)
            (function_along f g given var puts.stays function) all
            (λ k low inside ne. puts.free.each k low (let long = puts.goes.sees.long in omega arith) ne);
        earlier = earlier_but g h from given first keeps;
      })

  -- the last two sets, after the others were joined
  pub joins_free : (place last : ℕ) → Joins f g r r' from var last place → AreSeen f from r → IsLast r from (length f.list) var place last
      → AreFreeBut g from var place last
  joins_free place last joins seen is = record {
    each = λ k low inside ne apart.
        let long = joins.goes.sees.long in
        elim (cases_lt k last) [
          | inl less ↦ joins.free.each k low less ne
          | inr over ↦
              free_along f g k var joins.goes.sees.counts
              (λ p. joins.behind.sets k p (ap (λ b. b && not (k == place)) (le-leb last k over) ∙ but_true place k ne))
              (seen.each k var low (omega arith) (is.later k (beyond k over apart) (omega arith) ne))
        ];
  }
    where
      beyond : (k : ℕ) → last ≤ k → (k ≡ last → ⊥) → last < k
      beyond k over apart = elim (cases_lt last k) [ inl less ↦ less | inr same ↦ absurd (apart (omega arith)) ]

-- before the first place
pub joins_start : (f : Family) (r : List (Vec Bool Global)) (from var place : ℕ) → Joins f f r r from var from place
joins_start f r from var place = record {
  goes = goes_self f r from;
  behind = Keeps-self f (behind from place);
  free = record { each = λ k low less ne. absurd (omega arith) };
}

pub puts_start : (f : Family) (r : List (Vec Bool Global)) (from var given : ℕ) → Puts f f r r from var from given
puts_start f r from var given = record {
  goes = goes_self f r from;
  stays = Keeps-self f (only given);
  free = record { each = λ k low less ne. absurd (omega arith) };
}

-- a set that doesn't depend on the variable, or is the same, is let be
pub joined_not : (f : Family) (r : List (Vec Bool Global)) (from var place other : ℕ) → from ≤ other → other < length f.list
    → AreSeen f from r → ((other ≡ place) ⊎ (may r other var ≡ false)) → IsJoined f f r r from var place other
joined_not f r from var place other low inside seen why = record {
  goes = goes_self f r from;
  keeps = Keeps-self f (but_both place other);
  free = λ apart. elim why [ inl same ↦ absurd (apart same) | inr out ↦ seen.each other var low inside out ];
}

pub put_not : (f : Family) (r : List (Vec Bool Global)) (from var given place : ℕ) → from ≤ place → place < length f.list → AreSeen f from r
    → ((place ≡ given) ⊎ (may r place var ≡ false)) → IsPut f f r r from var given place
put_not f r from var given place low inside seen why = record {
  goes = goes_self f r from;
  keeps = Keeps-self f (but place);
  stays = Keeps-self f (only given);
  free = λ apart. elim why [ inl same ↦ absurd (apart same) | inr out ↦ seen.each place var low inside out ];
}

-- no set but one may depend on the variable, or none
pub alone_free : (f : Family) (r : List (Vec Bool Global)) (from var place : ℕ) → AreSeen f from r
    → IsAlone r from (length f.list) var place → AreFreeBut f from var place place
alone_free f r from var place seen alone = record {
  each = λ k low inside ne apart. seen.each k var low inside (alone.each k low inside ne);
}

pub goes_nowhere : (f : Family) (r : List (Vec Bool Global)) (from var : ℕ) → AreSeen f from r → IsNowhere r from (length f.list) var
    → Goes f f r r from (is_this var)
goes_nowhere f r from var seen none = record {
  sees = sees_same f f r (Keeps-self f everywhere) refl;
  is = eliminates_nowhere f from var (record { each = λ k low inside. seen.each k var low inside (none.each k low inside) });
  earlier = Keeps-self f (before from);
}

-- a step after a call that kept all sets
pub goes_after : (f g h : Family) (r r' : List (Vec Bool Global)) (from : ℕ) (vars : ℕ → Bool) → Keeps f g everywhere
    → length g.list ≡ length f.list → Goes g h r r' from vars → Goes f h r r' from vars
goes_after f g h r r' from vars keeps long goes =
    goes_then f g h r r r' from vars (goes_none f g r r from (sees_same f g r keeps long) keeps) goes

pub rows_along : (rows : List (Vec Bool Global)) (a b c d : ℕ) → a ≡ b → c ≡ d → HasRows rows a c → HasRows rows b d
rows_along rows a b c d first second has = subst (λ n. HasRows rows b n) second (subst (λ n. HasRows rows n c) first has)
