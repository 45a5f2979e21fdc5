-- What is eliminated where sets are joined, where a variable is left out, and where a set is put into another.
use Rattle.std.proofs.Common.{◌≡◌, ◌≤◌, ◌<◌, ◌&&◌, ◌⊎◌, ℕ, Bool, true, List, [], ◌∷◌, length, refl, sym, ap, subst, ◌∙◌, inl, inr, arith, true≢false}
use Rattle.std.proofs.lemmas.Bool.{cases_eq, and_parts}
use Rattle.mv_diagram.specs.Sets.{Point, InRange}
use Rattle.mv_diagram.specs.Parts.{no_variable}
use Rattle.mv_diagram.specs.Quantified.{Spreads}
use Rattle.mv_factors.specs.Families.{Family, Keeps, but, but_both, diagram_at, set_at}
use Rattle.mv_factors.specs.Functions.{IsFunction, is_this}
use Rattle.mv_factors.specs.Leaving.{AreFreeOf, Eliminates, IsFreeOf}
use Rattle.mv_factors.proofs.Agreeing.{agree_everywhere, agree_there, agrees_self, free_all, free_gone, free_meet, free_same, free_stays, this_is, this_same}
use Rattle.mv_factors.proofs.Keeping.{but_true, but_both_true}

-- both are true
both_true : (a b : Bool) → a ≡ true → b ≡ true → (a && b) ≡ true
both_true a b left right = ap (λ x. x && b) left ∙ right

-- one of two places, or another
of_three : {P : Type 0} (place other k : ℕ) → (k ≡ place → P) → (k ≡ other → P) → ((k ≡ place → ⊥) → (k ≡ other → ⊥) → P) → P
of_three place other k here there rest = elim (cases_eq k place) [
  | inl same ↦ here same
  | inr ne ↦ elim (cases_eq k other) [ inl same ↦ there same | inr apart ↦ rest ne apart ]
]

-- one place, or another
of_two : {P : Type 0} (place k : ℕ) → (k ≡ place → P) → ((k ≡ place → ⊥) → P) → P
of_two place k here rest = elim (cases_eq k place) [ inl same ↦ here same | inr ne ↦ rest ne ]

module _ (f g : Family) (from : ℕ) (counts : g.contents.counts ≡ f.contents.counts) (long : length g.list ≡ length f.list) where
  -- a free set of the old list is one of the new
  free_kept : (k var : ℕ) → ((p : Point) → set_at g k p ≡ set_at f k p) → IsFreeOf f.contents.counts (λ p. set_at f k p) var
      → IsFreeOf g.contents.counts (λ p. set_at g k p) var
  free_kept k var same free =
      free_same g.contents.counts var (set_at g k) (set_at f k) same
      (subst (λ (cs : List ℕ). IsFreeOf cs (λ p. set_at f k p) var) (sym counts) free)

  to_new : (p : Point) → InRange f.contents.counts p → InRange g.contents.counts p
  to_new p range = subst (λ (cs : List ℕ). InRange cs p) (sym counts) range

  to_old : (p : Point) → InRange g.contents.counts p → InRange f.contents.counts p
  to_old p range = subst (λ (cs : List ℕ). InRange cs p) counts range

  module _ (place other : ℕ) (keeps : Keeps f g (but_both place other)) (first : from ≤ place) (second : from ≤ other)
      (here : place < length f.list) (there : other < length f.list) where
    rest_same : (k : ℕ) → (k ≡ place → ⊥) → (k ≡ other → ⊥) → (p : Point) → set_at g k p ≡ set_at f k p
    rest_same k ne apart p = keeps.sets k p (but_both_true place other k ne apart)

    -- the sets of two places are joined at the first
    pub eliminates_join : ((p : Point) → set_at g place p ≡ (set_at f place p && set_at f other p))
        → ((p : Point) → set_at g other p ≡ true) → Eliminates f g from no_variable
    eliminates_join meet all = record {
      some = λ p range new. record {
        other = p;
        range = range;
        agrees = agrees_self no_variable p;
        is = record {
          each = λ k low inside.
              let parts = and_parts (set_at f place p) (set_at f other p) (sym (meet p) ∙ new.each place first (omega arith)) in
              of_three place other k
              (λ same. subst (λ n. set_at f n p ≡ true) (sym same) parts.0)
              (λ same. subst (λ n. set_at f n p ≡ true) (sym same) parts.1)
              (λ ne apart. sym (rest_same k ne apart p) ∙ new.each k low (omega arith));
        };
      };
      all = λ p q rp rq agree old. record {
        each = λ k low inside.
            let e = agree_everywhere p q agree in
            of_three place other k
            (λ same. subst (λ n. set_at g n p ≡ true) (sym same)
            (meet p ∙ ap (λ r. set_at f place r && set_at f other r) e
            ∙ both_true _ _ (old.each place first here) (old.each other second there)))
            (λ same. subst (λ n. set_at g n p ≡ true) (sym same) (all p))
            (λ ne apart. rest_same k ne apart p ∙ ap (set_at f k) e ∙ old.each k low (omega arith));
      };
      gone = λ v is. absurd (true≢false (sym is));
      stays = λ v free. record {
        each = λ k low inside. of_three place other k
            (λ same. subst (λ n. IsFreeOf g.contents.counts (λ p. set_at g n p) v) (sym same)
            (free_same g.contents.counts v (set_at g place) (λ p. set_at f place p && set_at f other p) meet
            (subst (λ (cs : List ℕ). IsFreeOf cs (λ p. set_at f place p && set_at f other p) v) (sym counts)
            (free_meet f.contents.counts v (set_at f place) (set_at f other) (free.each place first here) (free.each other second there)))))
            (λ same. subst (λ n. IsFreeOf g.contents.counts (λ p. set_at g n p) v) (sym same)
            (free_all g.contents.counts v (set_at g other) all))
            (λ ne apart. free_kept k v (rest_same k ne apart) (free.each k low (omega arith)));
      };
    }

    -- a variable is left out of the meet of the sets of two places, on which the others don't depend
    pub eliminates_two : (var : ℕ) → Spreads g.contents (var ∷ []) true (λ q. set_at f place q && set_at f other q) (diagram_at g place)
        → ((other ≡ place) ⊎ ((p : Point) → set_at g other p ≡ true))
        → ((k : ℕ) → from ≤ k → k < length f.list → (k ≡ place → ⊥) → (k ≡ other → ⊥) → IsFreeOf f.contents.counts (λ p. set_at f k p) var)
        → Eliminates f g from (is_this var)
    eliminates_two var spread last free = record {
      some = λ p range new.
          let near = spread.some p (to_new p range) (new.each place first (omega arith)) in
          let q = near.other in
          let rq = to_old q near.range in
          let parts = and_parts (set_at f place q) (set_at f other q) near.is in
          record {
            other = q;
            range = rq;
            agrees = near.agrees;
            is = record {
              each = λ k low inside. of_three place other k
                  (λ same. subst (λ n. set_at f n q ≡ true) (sym same) parts.0)
                  (λ same. subst (λ n. set_at f n q ≡ true) (sym same) parts.1)
                  (λ ne apart. sym ((free k low inside ne apart).each p q range rq near.agrees) ∙ sym (rest_same k ne apart p)
                  ∙ new.each k low (omega arith));
            };
          };
      all = λ p q rp rq agree old.
          let here_too : set_at g place p ≡ true
          = spread.all p q (to_new q rq) agree (both_true _ _ (old.each place first here) (old.each other second there)) in
          record {
            each = λ k low inside. of_three place other k
                (λ same. subst (λ n. set_at g n p ≡ true) (sym same) here_too)
                (λ same. subst (λ n. set_at g n p ≡ true) (sym same) (last_true p here_too))
                (λ ne apart. rest_same k ne apart p ∙ (free k low (omega arith) ne apart).each p q rp rq agree
                ∙ old.each k low (omega arith));
          };
      gone = λ v is. subst (λ n. AreFreeOf g from n) (sym (this_is var v is)) (record {
        each = λ k low inside. of_three place other k
            (λ same. subst (λ n. IsFreeOf g.contents.counts (λ p. set_at g n p) var) (sym same) gone_here)
            (λ same. subst (λ n. IsFreeOf g.contents.counts (λ p. set_at g n p) var) (sym same) (last_free var gone_here))
            (λ ne apart. free_kept k var (rest_same k ne apart) (free k low (omega arith) ne apart));
      });
      stays = λ v old.
          let stays_here : IsFreeOf g.contents.counts (λ p. set_at g place p) v
          = free_stays g.contents (var ∷ []) (λ q. set_at f place q && set_at f other q) (diagram_at g place) spread v
          (subst (λ (cs : List ℕ). IsFreeOf cs (λ p. set_at f place p && set_at f other p) v) (sym counts)
          (free_meet f.contents.counts v (set_at f place) (set_at f other) (old.each place first here) (old.each other second there))) in
          record {
            each = λ k low inside. of_three place other k
                (λ same. subst (λ n. IsFreeOf g.contents.counts (λ p. set_at g n p) v) (sym same) stays_here)
                (λ same. subst (λ n. IsFreeOf g.contents.counts (λ p. set_at g n p) v) (sym same) (last_free v stays_here))
                (λ ne apart. free_kept k v (rest_same k ne apart) (old.each k low (omega arith)));
          };
    }
      where
        last_true : (p : Point) → set_at g place p ≡ true → set_at g other p ≡ true
        last_true p h = elim last [ inl same ↦ subst (λ n. set_at g n p ≡ true) (sym same) h | inr all ↦ all p ]

        last_free : (v : ℕ) → IsFreeOf g.contents.counts (λ p. set_at g place p) v → IsFreeOf g.contents.counts (λ p. set_at g other p) v
        last_free v h = elim last [
          | inl same ↦ subst (λ n. IsFreeOf g.contents.counts (λ p. set_at g n p) v) (sym same) h
          | inr all ↦ free_all g.contents.counts v (set_at g other) all
        ]

        gone_here : IsFreeOf g.contents.counts (λ p. set_at g place p) var
        gone_here =
            free_gone g.contents (var ∷ []) (λ q. set_at f place q && set_at f other q) (diagram_at g place) spread var (this_same var)

  -- a set that gives a variable its value is put into another set
  pub eliminates_put : (place given var : ℕ) → (place ≡ given → ⊥) → Keeps f g (but place) → from ≤ place → from ≤ given
      → place < length f.list → given < length f.list
      → IsFunction f.contents.counts (λ p. set_at f given p) var
      → Spreads g.contents (var ∷ []) true (λ q. set_at f place q && set_at f given q) (diagram_at g place)
      → Eliminates f g from no_variable
  eliminates_put place given var apart keeps first second here there function spread = record {
    some = λ p range new.
        let near = spread.some p (to_new p range) (new.each place first (omega arith)) in
        let q = near.other in
        let parts = and_parts (set_at f place q) (set_at f given q) near.is in
        let same_given : set_at g given p ≡ set_at f given p = keeps.sets given p (but_true place given (λ e. apart (sym e))) in
        let value = function.one p q range (to_old q near.range) near.agrees
        (sym same_given ∙ new.each given second (omega arith)) parts.1 in
        let e : p ≡ q = agree_there var p q near.agrees value in
        record {
          other = p;
          range = range;
          agrees = agrees_self no_variable p;
          is = record {
            each = λ k low inside. of_two place k
                (λ same. subst (λ n. set_at f n p ≡ true) (sym same) (ap (set_at f place) e ∙ parts.0))
                (λ ne. sym (keeps.sets k p (but_true place k ne)) ∙ new.each k low (omega arith));
          };
        };
    all = λ p q rp rq agree old. record {
      each = λ k low inside. of_two place k
          (λ same. subst (λ n. set_at g n p ≡ true) (sym same)
          (spread.all p q (to_new q rq) (record { each = λ v out. agree.each v refl })
          (both_true _ _ (old.each place first here) (old.each given second there))))
          (λ ne. keeps.sets k p (but_true place k ne) ∙ ap (set_at f k) (agree_everywhere p q agree) ∙ old.each k low (omega arith));
    };
    gone = λ v is. absurd (true≢false (sym is));
    stays = λ v old. record {
      each = λ k low inside. of_two place k
          (λ same. subst (λ n. IsFreeOf g.contents.counts (λ p. set_at g n p) v) (sym same)
          (free_stays g.contents (var ∷ []) (λ q. set_at f place q && set_at f given q) (diagram_at g place) spread v
          (subst (λ (cs : List ℕ). IsFreeOf cs (λ p. set_at f place p && set_at f given p) v) (sym counts)
          (free_meet f.contents.counts v (set_at f place) (set_at f given) (old.each place first here) (old.each given second there)))))
          (λ ne. free_kept k v (λ p. keeps.sets k p (but_true place k ne)) (old.each k low (omega arith)));
    };
  }

  -- it has all points then
  pub eliminates_given : (given var : ℕ) → Keeps f g (but given) → from ≤ given → given < length f.list
      → IsFunction f.contents.counts (λ p. set_at f given p) var
      → ((p : Point) → set_at g given p ≡ true)
      → ((k : ℕ) → from ≤ k → k < length f.list → (k ≡ given → ⊥) → IsFreeOf f.contents.counts (λ p. set_at f k p) var)
      → Eliminates f g from (is_this var)
  eliminates_given given var keeps first here function all free = record {
    some = λ p range new.
        let near = function.total p range in
        let q = near.other in
        record {
          other = q;
          range = near.range;
          agrees = near.agrees;
          is = record {
            each = λ k low inside. of_two given k
                (λ same. subst (λ n. set_at f n q ≡ true) (sym same) near.is)
                (λ ne. sym ((free k low inside ne).each p q range near.range near.agrees) ∙ sym (rest k ne p)
                ∙ new.each k low (omega arith));
          };
        };
    all = λ p q rp rq agree old. record {
      each = λ k low inside. of_two given k
          (λ same. subst (λ n. set_at g n p ≡ true) (sym same) (all p))
          (λ ne. rest k ne p ∙ (free k low (omega arith) ne).each p q rp rq agree ∙ old.each k low (omega arith));
    };
    gone = λ v is. subst (λ n. AreFreeOf g from n) (sym (this_is var v is)) (record {
      each = λ k low inside. of_two given k
          (λ same. subst (λ n. IsFreeOf g.contents.counts (λ p. set_at g n p) var) (sym same)
          (free_all g.contents.counts var (set_at g given) all))
          (λ ne. free_kept k var (rest k ne) (free k low (omega arith) ne));
    });
    stays = λ v old. record {
      each = λ k low inside. of_two given k
          (λ same. subst (λ n. IsFreeOf g.contents.counts (λ p. set_at g n p) v) (sym same)
          (free_all g.contents.counts v (set_at g given) all))
          (λ ne. free_kept k v (rest k ne) (old.each k low (omega arith)));
    };
  }
    where
      rest : (k : ℕ) → (k ≡ given → ⊥) → (p : Point) → set_at g k p ≡ set_at f k p
      rest k ne p = keeps.sets k p (but_true given k ne)

-- no set depends on the variable
pub eliminates_nowhere : (f : Family) (from var : ℕ) → AreFreeOf f from var → Eliminates f f from (is_this var)
eliminates_nowhere f from var free = record {
  some = λ p range all. record { other = p; range = range; agrees = agrees_self (is_this var) p; is = all };
  all = λ p q rp rq agree old. record { each = λ k low inside. (free.each k low inside).each p q rp rq agree ∙ old.each k low inside };
  gone = λ v is. subst (λ n. AreFreeOf f from n) (sym (this_is var v is)) free;
  stays = λ v old. old;
}
