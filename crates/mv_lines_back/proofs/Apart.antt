-- A text gives back the words of its lines, cut at line feeds and at spaces: so lines with the same text are the same.
use Rattle.std.proofs.Common.{◌≡◌, ℕ, Bool, true, not, ◌==◌, List, [], ◌∷◌, ◌++◌, map, refl, ap, sym, ◌∙◌, arith, append_assoc}
use Rattle.std.specs.List.{list_all, slice_split, flat_map}
use Rattle.std.proofs.lemmas.Bool.{and_parts, not-true}
use Rattle.mv_base.specs.Names.{is_visible}
use Rattle.mv_lex.specs.Cuts.{onto, closed}
use Rattle.mv_lex.specs.Lines.{is_line_feed}
use Rattle.mv_lex.specs.Text.{spaced, line_text}
use Rattle.mv_lex.proofs.Cuts.{has_none}
use Rattle.mv_lines_back.specs.TextWords.{is_text_line}
use Rattle.mv_lines_back.proofs.Spaced.{line_passes, words_pass, split-parts}
use Rattle.mv_lines_back.proofs.Comments.{text_line-seen, seen_other}

-- the lines of a text, each as its words
words_in : List ℕ → List (List (List ℕ))
words_in text = map (slice_split (λ b. b == 32)) (closed is_line_feed text)

closed-first : {A : Type 0} (p : A → Bool) (w : List A) (b : A) (rest : List A) → has_none p w ≡ true → p b ≡ true → closed p (w ++ b ∷ rest) ≡ w ∷ closed p rest
closed-first p [] b rest none h = rw h refl
closed-first p (x ∷ w) b rest none h =
    let both = and_parts (not (p x)) (has_none p w) none in
    rw (not-true (p x) both.0) (ap (onto x) (closed-first p w b rest both.1 h))

-- one line more at the front
words_in-line : (w : List ℕ) (ws : List (List ℕ)) (rest : List ℕ) → list_all (list_all is_visible) (w ∷ ws) ≡ true → words_in (line_text (w ∷ ws) ++ rest) ≡ (w ∷ ws) ∷ words_in rest
unfolding words_in line_text spaced
words_in-line w ws rest seen =
    let feedless = line_passes (λ b. not (is_line_feed b)) w ws refl (words_pass is_visible (λ b. not (is_line_feed b)) (λ b h. seen_other b 10 (omega arith) h) (w ∷ ws) seen) in
    let spaceless = words_pass is_visible (λ b. not (b == 32)) (λ b h. seen_other b 32 (omega arith) h) (w ∷ ws) seen in
    let e : (w ++ (spaced ws ++ 10 ∷ [])) ++ rest ≡ (w ++ spaced ws) ++ 10 ∷ rest = simp append_assoc in
    let cut : closed is_line_feed ((w ++ (spaced ws ++ 10 ∷ [])) ++ rest) ≡ (w ++ spaced ws) ∷ closed is_line_feed rest = ap (closed is_line_feed) e ∙ closed-first is_line_feed (w ++ spaced ws) 10 rest feedless refl in
    ap (map (slice_split (λ b. b == 32))) cut ∙ ap (λ ps. ps ∷ words_in rest) (split-parts 32 w ws spaceless refl)

words_in-text : (ls : List (List (List ℕ))) → list_all is_text_line ls ≡ true → words_in (flat_map line_text ls) ≡ ls
unfolding words_in
words_in-text [] h = refl
words_in-text ([] ∷ ls) h = absurd ((text_line-seen [] (and_parts (is_text_line []) (list_all is_text_line ls) h).0).some refl)
words_in-text ((w ∷ ws) ∷ ls) h =
    let both = and_parts (is_text_line (w ∷ ws)) (list_all is_text_line ls) h in
    words_in-line w ws (flat_map line_text ls) (text_line-seen (w ∷ ws) both.0).bytes ∙ ap (λ ms. (w ∷ ws) ∷ ms) (words_in-text ls both.1)

-- other lines have another text
pub text-apart : (ls ms : List (List (List ℕ))) → list_all is_text_line ls ≡ true → list_all is_text_line ms ≡ true → flat_map line_text ls ≡ flat_map line_text ms → ls ≡ ms
text-apart ls ms h k e = sym (words_in-text ls h) ∙ (ap words_in e ∙ words_in-text ms k)
