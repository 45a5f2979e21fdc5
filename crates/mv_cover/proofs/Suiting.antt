-- A cube suits the counts where each of its literals does, as a walk along them finds.
use Rattle.std.proofs.Common.{◌≡◌, ◌∙◌, ℕ, suc, ◌+◌, ◌<◌, ◌≤◌, List, [], ◌∷◌, length, drop, drop-cons, add-one, take, get_or, nat_eq, inl, inr, sym, ap, subst, zero, arith}
use Rattle.std.proofs.lemmas.Bool.{cases_Bool, false≢true}
use Rattle.std.proofs.lemmas.List.{drop_all, take_all, take_more}
use Rattle.std.proofs.lemmas.List.Elements.{All-nil, All-cons, All-append}
use Rattle.mv_base.specs.declared.limits.TheConstants.{MAX_VALUES}
use Rattle.mv_cover.specs.Literal.{Lit}
use Rattle.mv_cover.specs.declared.line.Line.{Line}
use Rattle.mv_cover.specs.Complement.{LinesSuit}
use Rattle.mv_cover.specs.Sharp.{SuitsNet, Suits}
use Rattle.mv_cover.proofs.Sharps.{few_first, Suits-rest}
use Rattle.mv_cover.proofs.Covering.{same_number}

-- the cube suits the counts if its literals from this place on do
pub record SuitsBehind (counts : List ℕ) (c : List Lit) (i : ℕ) : Type 0 where
  pub enough : Suits counts (drop i c) → Suits counts c

-- one literal in front
Suits-cons : (counts : List ℕ) (l : Lit) (ls : List Lit) → SuitsNet counts l → Suits counts ls → Suits counts (l ∷ ls)
Suits-cons counts l ls here s = record {
  fits = (here.fits, s.fits);
  few = λ n h.
      elim (cases_Bool (nat_eq l.net.0 n)) [
        | inl t ↦ subst (λ k. get_or counts k 0 ≤ MAX_VALUES) (same_number l.net.0 n t) here.few
        | inr f ↦ s.few n (rw f at h)
      ];
}

-- one literal more that fits
pub behind_more : (counts : List ℕ) (c : List Lit) (i : ℕ) (l : Lit) → i < length c → l ≡ get_or c i l → SuitsNet counts l → SuitsBehind counts c i → SuitsBehind counts c (i + 1)
behind_more counts c i l low e one so_far = record {
  enough = λ s.
      let here : drop i c ≡ l ∷ drop (i + 1) c = rw add-one (drop-cons c i l low ∙ ap (λ x. x ∷ drop (suc i) c) (sym e)) in
      so_far.enough (subst (λ (x : List Lit). Suits counts x) (sym here) (Suits-cons counts l (drop (i + 1) c) one s));
}

-- behind the last literal nothing is left
pub behind_all : (counts : List ℕ) (c : List Lit) (i : ℕ) → length c ≤ i → SuitsBehind counts c i → Suits counts c
behind_all counts c i end so_far =
    so_far.enough (subst (λ (x : List Lit). Suits counts x) (sym (drop_all i c end)) (record { fits = tt; few = λ n h. absurd (false≢true h) }))

-- each literal of a cube that suits the counts does
pub Suits-get_or : (counts : List ℕ) (c : List Lit) (i : ℕ) (l : Lit) → i < length c → l ≡ get_or c i l → Suits counts c → SuitsNet counts l
Suits-get_or counts c i l low e s = subst (SuitsNet counts) (sym e) (at_place c i low s) where
  at_place : (c : List Lit) (i : ℕ) → i < length c → Suits counts c → SuitsNet counts (get_or c i l)
  at_place [] i low s = absurd (omega arith)
  at_place (m ∷ ms) zero low s = record { fits = s.fits.0; few = few_first counts m ms s }
  at_place (m ∷ ms) (suc i) low s = at_place ms i (omega arith) (Suits-rest counts m ms s)

-- one line more that suits the counts
pub lines_more : (counts : List ℕ) (lines : List Line) (i : ℕ) (line : Line) (cube : List Lit) → i < length lines → line ≡ get_or lines i line → cube ≡ line.cube → Suits counts cube → LinesSuit counts (take i lines) → LinesSuit counts (take (i + 1) lines)
lines_more counts lines i line cube low e f s so_far =
    let here : Suits counts (get_or lines i line).cube = subst (λ (x : List Lit). Suits counts x) (f ∙ ap (λ (l : Line). l.cube) e) s in
    subst (λ (x : List Line). LinesSuit counts x) (sym (take_more lines i line low))
    (All-append (λ (l : Line). Suits counts l.cube) (take i lines) (get_or lines i line ∷ []) so_far (All-cons (λ (l : Line). Suits counts l.cube) (get_or lines i line) [] here (All-nil (λ (l : Line). Suits counts l.cube))))

-- all lines
pub lines_all : (counts : List ℕ) (lines own : List Line) (i : ℕ) → length lines ≤ i → lines ≡ own → LinesSuit counts (take i lines) → LinesSuit counts own
lines_all counts lines own i end e so_far = subst (λ (x : List Line). LinesSuit counts x) (take_all i lines end ∙ e) so_far
