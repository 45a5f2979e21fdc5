-- What a comparison of numbers answers.
use Rattle.std.proofs.Common.{◌≡◌, ℕ, ◌<◌, true, nat_cmp, refl, sym, ap, ◌∙◌, ⊎_elim, arith}
use Rattle.std.specs.Ordering.{is_lt}
use Rattle.std.specs.declared.cmp.Ordering.TheVariants.{Less, Equal, Greater}
use Rattle.std.proofs.lemmas.Bool.{cases_order, lt-ltb, le-ltb, eq-eqb, ne_eqb, false≢true}

pub cmp_less : (x y : ℕ) → x < y → nat_cmp x y ≡ Less
cmp_less x y h = rw (lt-ltb x y h) refl

pub cmp_equal : (x y : ℕ) → x ≡ y → nat_cmp x y ≡ Equal
cmp_equal x y e = rw (le-ltb x y (omega arith), eq-eqb x y e) refl

pub cmp_greater : (x y : ℕ) → y < x → nat_cmp x y ≡ Greater
cmp_greater x y h = rw (le-ltb x y (omega arith), ne_eqb x y (λ e. absurd (omega arith))) refl

pub less_from : (x y : ℕ) → is_lt (nat_cmp x y) ≡ true → x < y
less_from x y e =
    ⊎_elim (λ (h : x ≡ y). absurd (false≢true (ap is_lt (sym (cmp_equal x y h)) ∙ e)))
    (⊎_elim (λ (h : x < y). h) (λ (h : y < x). absurd (false≢true (ap is_lt (sym (cmp_greater x y h)) ∙ e))))
    (cases_order x y)
