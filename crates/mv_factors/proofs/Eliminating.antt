-- Steps of which nothing is eliminated, and steps one after another.
use Rattle.std.proofs.Common.{◌≡◌, ◌<◌, ◌||◌, ℕ, Bool, true, false, List, length, slice_index, if◌then◌else◌, refl, sym, ap, subst, ◌∙◌, inl, inr, arith, true≢false}
use Rattle.std.proofs.Math.Path.{fun_ext}
use Rattle.std.proofs.lemmas.Bool.{cases_Bool}
use Rattle.mv_diagram.specs.Sets.{Point, InRange}
use Rattle.mv_diagram.specs.Parts.{no_variable}
use Rattle.mv_factors.specs.Families.{Family, Keeps, everywhere, set_at}
use Rattle.mv_factors.specs.Leaving.{Eliminates, IsFreeOf}
use Rattle.mv_factors.proofs.Agreeing.{agree_everywhere, agrees_self, free_same}

-- no step
pub eliminates_none : (f g : Family) (from : ℕ) → Keeps f g everywhere → length g.list ≡ length f.list → Eliminates f g from no_variable
eliminates_none f g from keeps long = record {
  some = λ p range all. record {
    other = p;
    range = range;
    agrees = agrees_self no_variable p;
    is = record { each = λ k first inside. sym (keeps.sets k p refl) ∙ all.each k first (omega arith) };
  };
  all = λ p q rp rq agree all. record {
    each = λ k first inside. keeps.sets k p refl ∙ ap (set_at f k) (agree_everywhere p q agree) ∙ all.each k first (omega arith);
  };
  gone = λ v is. absurd (true≢false (sym is));
  stays = λ v free. record {
    each = λ k first inside.
        free_same g.contents.counts v (set_at g k) (set_at f k) (λ p. keeps.sets k p refl)
        (subst (λ (cs : List ℕ). IsFreeOf cs (λ p. set_at f k p) v) (sym keeps.counts) (free.each k first (omega arith)));
  };
}

-- the same variables
pub eliminates_same : (f g : Family) (from : ℕ) (vars others : ℕ → Bool) → ((v : ℕ) → vars v ≡ others v) → Eliminates f g from vars
    → Eliminates f g from others
eliminates_same f g from vars others same is = subst (Eliminates f g from) (fun_ext same) is

none_left : (a b : Bool) → (a || b) ≡ false → a ≡ false
none_left true b e = e
none_left false b e = refl

none_right : (a b : Bool) → (a || b) ≡ false → b ≡ false
none_right true b e = absurd (true≢false e)
none_right false b e = e

-- the point with the values of another at some variables
unfoldable pub mixed : (ℕ → Bool) → Point → Point → Point
mixed vars p q v = if vars v then q v else p v

module _ (vars : ℕ → Bool) (p q : Point) where
  mixed_there : (v : ℕ) → vars v ≡ true → mixed vars p q v ≡ q v
  unfolding mixed
  mixed_there v is = ap (λ b. if b then q v else p v) is

  mixed_elsewhere : (v : ℕ) → vars v ≡ false → mixed vars p q v ≡ p v
  unfolding mixed
  mixed_elsewhere v out = ap (λ b. if b then q v else p v) out

  InRange-mixed : (counts : List ℕ) → InRange counts p → InRange counts q → InRange counts (mixed vars p q)
  InRange-mixed counts rp rq = record {
    below = λ v within. elim (cases_Bool (vars v)) [
      | inl is ↦ subst (λ n. n < slice_index counts v) (sym (mixed_there v is)) (rq.below v within)
      | inr out ↦ subst (λ n. n < slice_index counts v) (sym (mixed_elsewhere v out)) (rp.below v within)
    ];
  }

module _ (f g h : Family) (from : ℕ) (vars others : ℕ → Bool) where
  -- two steps
  pub eliminates_then : g.contents.counts ≡ f.contents.counts → Eliminates f g from vars → Eliminates g h from others
      → Eliminates f h from (λ v. vars v || others v)
  eliminates_then counts first second = record {
    some = λ p range all.
        let near = second.some p (subst (λ (cs : List ℕ). InRange cs p) (sym counts) range) all in
        let far = first.some near.other (subst (λ (cs : List ℕ). InRange cs near.other) counts near.range) near.is in
        record {
          other = far.other;
          range = far.range;
          agrees = record {
            each = λ v out.
                near.agrees.each v (none_right (vars v) (others v) out) ∙ far.agrees.each v (none_left (vars v) (others v) out);
          };
          is = far.is;
        };
    all = λ p q rp rq agree all.
        let r = mixed others p q in
        let rr : InRange f.contents.counts r = InRange-mixed others p q f.contents.counts rp rq in
        let to : (s : Point) → InRange f.contents.counts s → InRange g.contents.counts s
        = λ s range. subst (λ (cs : List ℕ). InRange cs s) (sym counts) range in
        second.all p r (to p rp) (to r rr) (record { each = λ v out. sym (mixed_elsewhere others p q v out) })
        (first.all r q rr rq (record {
          each = λ v out. elim (cases_Bool (others v)) [
            | inl is ↦ mixed_there others p q v is
            | inr none ↦ mixed_elsewhere others p q v none ∙ agree.each v (ap (λ b. b || others v) out ∙ none)
          ];
        }) all);
    gone = λ v is. elim (cases_Bool (others v)) [
      | inl there ↦ second.gone v there
      | inr none ↦ second.stays v (first.gone v (left_of (vars v) (others v) none is))
    ];
    stays = λ v free. second.stays v (first.stays v free);
  }
    where
      left_of : (a b : Bool) → b ≡ false → (a || b) ≡ true → a ≡ true
      left_of true b none is = refl
      left_of false b none is = sym none ∙ is
