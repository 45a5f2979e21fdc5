-- Lines numbered one behind the other.
use Rattle.std.specs.Prelude.{if◌then◌else◌}
use Rattle.std.proofs.Common.{◌≡◌, ◌∙◌, ℕ, ◌+◌, List, [], ◌∷◌, ◌++◌, length, ap, sym, arith, append_assoc}
use Rattle.mv_lex.specs.declared.lines.LexLine.{LexLine}
use Rattle.mv_lines_back.specs.TextWords.{is_comment, lines_from, lines_told}

-- the lines of two lists of words, one behind the other
pub lines_from-append : (n : ℕ) (a b : List (List (List ℕ))) → lines_from n (a ++ b) ≡ lines_from n a ++ lines_from (n + length a) b
lines_from-append n [] b = let e : n ≡ n + 0 = omega arith in ap (λ k. lines_from k b) e
lines_from-append n (ws ∷ a) b =
    let e : (n + 1) + length a ≡ n + length (ws ∷ a) = omega arith in
    ap (λ ls. record { number = n; words = ws } ∷ ls) (lines_from-append (n + 1) a b ∙ ap (λ k. lines_from (n + 1) a ++ lines_from k b) e)

-- and those that are told
pub lines_told-append : (n : ℕ) (a b : List (List (List ℕ))) → lines_told n (a ++ b) ≡ lines_told n a ++ lines_told (n + length a) b
lines_told-append n [] b = let e : n ≡ n + 0 = omega arith in ap (λ k. lines_told k b) e
lines_told-append n (ws ∷ a) b =
    let e : (n + 1) + length a ≡ n + length (ws ∷ a) = omega arith in
    let first : List LexLine = if is_comment ws then [] else record { number = n; words = ws } ∷ [] in
    ap (λ ls. first ++ ls) (lines_told-append (n + 1) a b ∙ ap (λ k. lines_told (n + 1) a ++ lines_told k b) e)
    ∙ sym (append_assoc first (lines_told (n + 1) a) (lines_told (n + length (ws ∷ a)) b))
