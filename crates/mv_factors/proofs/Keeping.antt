-- Which sets of a list stay.
use Rattle.std.proofs.Common.{◌≡◌, ◌<◌, ◌&&◌, ◌==◌, ℕ, Bool, true, not, Result, Ok, Err, OnOk, OnErr, nat_lt, refl, sym, ap, ◌∙◌, arith, true≢false}
use Rattle.std.proofs.lemmas.Bool.{ne_eqb, eq-eqb, ltb-true}
use Rattle.mv_factors.specs.Families.{Family, Keeps, but, but_both}

-- a place is another
pub but_true : (place k : ℕ) → (k ≡ place → ⊥) → but place k ≡ true
but_true place k ne = ap not (ne_eqb k place ne)

pub but_both_true : (place other k : ℕ) → (k ≡ place → ⊥) → (k ≡ other → ⊥) → but_both place other k ≡ true
but_both_true place other k ne apart = ap (λ b. not b && not (k == other)) (ne_eqb k place ne) ∙ ap not (ne_eqb k other apart)

module _ (f g : Family) where
  -- fewer sets stay
  pub Keeps-fewer : (kept fewer : ℕ → Bool) → ((k : ℕ) → fewer k ≡ true → kept k ≡ true) → Keeps f g kept → Keeps f g fewer
  Keeps-fewer kept fewer more keeps = record {
    counts = keeps.counts;
    cap = keeps.cap;
    room = keeps.room;
    sets = λ k p is. keeps.sets k p (more k is);
  }

  -- and so they do by two steps
  pub Keeps-then : (h : Family) (kept : ℕ → Bool) → Keeps f g kept → Keeps g h kept → Keeps f h kept
  Keeps-then h kept first second = record {
    counts = second.counts ∙ first.counts;
    cap = second.cap ∙ first.cap;
    room = let a = first.room in let b = second.room in omega arith;
    sets = λ k p is. second.sets k p is ∙ first.sets k p is;
  }

pub Keeps-self : (f : Family) (kept : ℕ → Bool) → Keeps f f kept
Keeps-self f kept = record { counts = refl; cap = refl; room = omega arith; sets = λ k p is. refl }

pub but_not : (place k : ℕ) → k ≡ place → but place k ≡ true → ⊥
but_not place k same is = true≢false (sym is ∙ ap not (eq-eqb k place same))

pub before_lt : (count k : ℕ) → nat_lt k count ≡ true → k < count
before_lt count k is = ltb-true k count is

-- what holds where a call succeeds, and where it fails
pub on_ok : {T E : Type 0} (r : Result T E) (P Q : Type 0) → (P → Q) → OnOk r P → OnOk r Q
on_ok (Ok x) P Q f p = f p
on_ok (Err e) P Q f p = tt

pub on_ok_both : {T E : Type 0} (r : Result T E) (P Q R : Type 0) → (P → Q → R) → OnOk r P → OnOk r Q → OnOk r R
on_ok_both (Ok x) P Q R f p q = f p q
on_ok_both (Err e) P Q R f p q = tt

pub on_err : {T E : Type 0} (r : Result T E) (P Q : Type 0) → (P → Q) → OnErr r P → OnErr r Q
on_err (Ok x) P Q f p = tt
on_err (Err e) P Q f p = f p
