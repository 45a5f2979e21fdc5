-- How many literals a cube and a list of lines can have.
use Rattle.std.proofs.Common.{◌≡◌, ◌∙◌, ℕ, ◌+◌, ◌-◌, ◌≤◌, ◌<◌, true, List, [], ◌∷◌, length, get_or, nat_lt, refl, ap, arith}
use Rattle.std.specs.List.{sum_by}
use Rattle.std.proofs.lemmas.Bool.{and_parts, ltb-true}
use Rattle.std.proofs.lemmas.List.Recursion.{is_sum_by}
use Rattle.mv_cover.specs.Literal.{Lit}
use Rattle.mv_cover.specs.declared.line.Line.{Line}
use Rattle.mv_cover.specs.Cubes.{nets_ascend, IsCube}
use Rattle.mv_cover.specs.Covers.{literal_count}

-- ascending nets leave room for one another up to the last
pub ascend_last : (l : Lit) (ls : List Lit) (d : Lit) → nets_ascend (l ∷ ls) ≡ true → l.net.0 + length ls ≤ (get_or (l ∷ ls) (length ls) d).net.0
ascend_last l [] d h = omega arith
ascend_last l (m ∷ ls) d h =
    let p = and_parts (nat_lt l.net.0 m.net.0) (nets_ascend (m ∷ ls)) h in
    let below : l.net.0 < m.net.0 = ltb-true l.net.0 m.net.0 p.0 in
    let rest : m.net.0 + length ls ≤ (get_or (m ∷ ls) (length ls) d).net.0 = ascend_last m ls d p.1 in
    omega arith

-- the literals are a sum over the lines
pub literals-sum : (ls : List Line) → literal_count ls ≡ sum_by (λ (l : Line). length l.cube) ls
literals-sum = is_sum_by literal_count (λ (l : Line). length l.cube) refl (λ _ _. refl)

-- a cube whose last net is below k has at most k literals
pub cube_ends : (k : ℕ) (cube : List Lit) (last : Lit) → IsCube cube → last ≡ get_or cube (length cube - 1) last → last.net.0 < k → length cube ≤ k
cube_ends k [] last is here low = omega arith
cube_ends k (l ∷ ls) last is here low =
    let top : length (l ∷ ls) - 1 ≡ length ls = omega arith in
    let at : last.net.0 ≡ (get_or (l ∷ ls) (length ls) last).net.0 = ap (λ (m : Lit). m.net.0) here ∙ ap (λ (i : ℕ). (get_or (l ∷ ls) i last).net.0) top in
    omega (arith, ascend_last l ls last is.ascending)
