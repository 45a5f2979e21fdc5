-- Joined lines, when one more physical line has ended.
use Rattle.std.proofs.Common.{◌≡◌, ℕ, ◌+◌, true, false, List, [], ◌∷◌, ◌++◌, if◌then◌else◌, length, refl, ap, ◌∙◌, arith}
use Rattle.mv_lex.specs.Lines.{joins, onto_group, joined, with_line, unended}

onto_group-append : (line : List ℕ) (front : List (List (List ℕ))) (last : List (List ℕ)) → onto_group line (front ++ last ∷ []) ≡ onto_group line front ++ with_line front line last ∷ []
onto_group-append line [] last = refl
onto_group-append line (group ∷ front) last = refl

with_line-append : (front : List (List (List ℕ))) (line : List ℕ) (last lines : List (List ℕ)) → with_line (front ++ last ∷ []) line lines ≡ lines
with_line-append [] line last lines = refl
with_line-append (_ ∷ front) line last lines = refl

with_line-more : (front : List (List (List ℕ))) (line more : List ℕ) (last : List (List ℕ)) → with_line front line (last ++ more ∷ []) ≡ with_line front line last ++ more ∷ []
with_line-more [] line more last = refl
with_line-more (_ ∷ front) line more last = refl

-- a line that joins the next one ends no joined line
pub joined-more : (lines : List (List ℕ)) (line : List ℕ) → joins line ≡ true → joined (lines ++ line ∷ []) ≡ joined lines
joined-more [] line e = rw e refl
joined-more (l ∷ lines) line e = ap (λ gs. if joins l then onto_group l gs else (l ∷ []) ∷ gs) (joined-more lines line e)

pub unended-more : (lines : List (List ℕ)) (line : List ℕ) → joins line ≡ true → unended (lines ++ line ∷ []) ≡ unended lines ++ line ∷ []
unended-more [] line e = rw e refl
unended-more (l ∷ lines) line e =
    elim (joins l) as (λ t. (if t then with_line (joined (lines ++ line ∷ [])) l (unended (lines ++ line ∷ [])) else unended (lines ++ line ∷ [])) ≡ (if t then with_line (joined lines) l (unended lines) else unended lines) ++ line ∷ []) [
      | true ↦ rw (joined-more lines line e, unended-more lines line e) (with_line-more (joined lines) l line (unended lines))
      | false ↦ unended-more lines line e
    ]

-- any other ends the joined line
pub joined-end : (lines : List (List ℕ)) (line : List ℕ) → joins line ≡ false → joined (lines ++ line ∷ []) ≡ joined lines ++ (unended lines ++ line ∷ []) ∷ []
joined-end [] line e = rw e refl
joined-end (l ∷ lines) line e =
    elim (joins l) as (λ t. (if t then onto_group l (joined (lines ++ line ∷ [])) else (l ∷ []) ∷ joined (lines ++ line ∷ [])) ≡ (if t then onto_group l (joined lines) else (l ∷ []) ∷ joined lines) ++ ((if t then with_line (joined lines) l (unended lines) else unended lines) ++ line ∷ []) ∷ []) [
      | true ↦ ap (onto_group l) (joined-end lines line e) ∙ (onto_group-append l (joined lines) (unended lines ++ line ∷ []) ∙ ap (λ g. onto_group l (joined lines) ++ g ∷ []) (with_line-more (joined lines) l line (unended lines)))
      | false ↦ ap (λ gs. (l ∷ []) ∷ gs) (joined-end lines line e)
    ]

pub unended-end : (lines : List (List ℕ)) (line : List ℕ) → joins line ≡ false → unended (lines ++ line ∷ []) ≡ []
unended-end [] line e = rw e refl
unended-end (l ∷ lines) line e =
    elim (joins l) as (λ t. (if t then with_line (joined (lines ++ line ∷ [])) l (unended (lines ++ line ∷ [])) else unended (lines ++ line ∷ [])) ≡ []) [
      | true ↦ ap (λ gs. with_line gs l (unended (lines ++ line ∷ []))) (joined-end lines line e) ∙ (with_line-append (joined lines) l (unended lines ++ line ∷ []) (unended (lines ++ line ∷ [])) ∙ unended-end lines line e)
      | false ↦ unended-end lines line e
    ]

-- how many physical lines there are in joined lines
abbrev pub lines_in : List (List (List ℕ)) → ℕ
lines_in [] = 0
lines_in (group ∷ groups) = length group + lines_in groups

lines_in-onto_group : (line : List ℕ) (groups : List (List (List ℕ))) (lines : List (List ℕ)) → lines_in (onto_group line groups) + length (with_line groups line lines) ≡ lines_in groups + length lines + 1
lines_in-onto_group line [] lines = omega arith
lines_in-onto_group line (group ∷ groups) lines = omega arith

-- each physical line is in one joined line that has ended, or joined to what comes
pub lines_in-joined : (lines : List (List ℕ)) → lines_in (joined lines) + length (unended lines) ≡ length lines
lines_in-joined [] = refl
lines_in-joined (l ∷ lines) =
    let rest = lines_in-joined lines in
    let on = lines_in-onto_group l (joined lines) (unended lines) in
    elim (joins l) as (λ t. lines_in (if t then onto_group l (joined lines) else (l ∷ []) ∷ joined lines) + length (if t then with_line (joined lines) l (unended lines) else unended lines) ≡ length (l ∷ lines)) [
      | true ↦ omega arith
      | false ↦ omega arith
    ]
