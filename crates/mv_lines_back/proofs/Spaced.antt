-- Words parted by spaces: what their bytes pass, and where lines of them are cut.
use Rattle.std.proofs.Common.{◌≡◌, ℕ, Bool, true, ◌==◌, List, [], ◌∷◌, ◌++◌, refl, ap, ◌∙◌, append_assoc}
use Rattle.std.specs.List.{list_all, slice_split, flat_map}
use Rattle.std.proofs.lemmas.Bool.{and_parts, and_from}
use Rattle.std.proofs.lemmas.List.Folds.{list_all-append}
use Rattle.std.proofs.lemmas.List.{append-nil}
use Rattle.mv_base.proofs.Lists.{all-weaker}
use Rattle.mv_lex.specs.Lines.{is_line_feed}
use Rattle.mv_lex.specs.Text.{spaced, line_text}
use Rattle.mv_lex.proofs.Cuts.{has_none, split-first, split_all, closed-none, open_piece-none}

-- a test that each byte of the words passes, and a space, is passed by the line
pub line_passes : (q : ℕ → Bool) (w : List ℕ) (ws : List (List ℕ)) → q 32 ≡ true → list_all (list_all q) (w ∷ ws) ≡ true → list_all q (w ++ spaced ws) ≡ true
unfolding spaced
line_passes q w [] s h = rw (append-nil w) (and_parts (list_all q w) true h).0
line_passes q w (v ∷ ws) s h =
    let both = and_parts (list_all q w) (list_all (list_all q) (v ∷ ws)) h in
    list_all-append q w (32 ∷ (v ++ spaced ws)) ∙ and_from (list_all q w) _ both.0 (and_from (q 32) _ s (line_passes q v ws s both.1))

-- and so is a weaker one
pub words_pass : (p q : ℕ → Bool) → ((b : ℕ) → p b ≡ true → q b ≡ true) → (ws : List (List ℕ)) → list_all (list_all p) ws ≡ true → list_all (list_all q) ws ≡ true
words_pass p q each ws h = all-weaker (list_all p) (list_all q) (λ w e. all-weaker p q each w e) ws h

-- ---- where they are cut

-- a list without an end is one part
split-whole : {A : Type 0} (p : A → Bool) (w : List A) → has_none p w ≡ true → slice_split p w ≡ w ∷ []
split-whole p w h = split_all p w ∙ (λ i. closed-none p w h i ++ open_piece-none p w h i ∷ [])

-- words, each behind a byte that stands in none of them, are the parts between these bytes
pub split-parts : (end : ℕ) (w : List ℕ) (ws : List (List ℕ)) → list_all (has_none (λ b. b == end)) (w ∷ ws) ≡ true → (end == end) ≡ true → slice_split (λ b. b == end) (w ++ flat_map (λ w. end ∷ w) ws) ≡ w ∷ ws
split-parts end w [] h e = rw (append-nil w) (split-whole (λ b. b == end) w (and_parts (has_none (λ b. b == end) w) true h).0)
split-parts end w (v ∷ ws) h e =
    let both = and_parts (has_none (λ b. b == end) w) (list_all (has_none (λ b. b == end)) (v ∷ ws)) h in
    split-first (λ b. b == end) w end (v ++ flat_map (λ w. end ∷ w) ws) both.0 e ∙ ap (λ ps. w ∷ ps) (split-parts end v ws both.1 e)

-- a line is the first physical line of what it begins
pub split-line_text : (w : List ℕ) (ws : List (List ℕ)) (rest : List ℕ) → has_none is_line_feed (w ++ spaced ws) ≡ true → slice_split is_line_feed (line_text (w ∷ ws) ++ rest) ≡ (w ++ spaced ws) ∷ slice_split is_line_feed rest
unfolding line_text
split-line_text w ws rest h =
    let e : (w ++ (spaced ws ++ 10 ∷ [])) ++ rest ≡ (w ++ spaced ws) ++ 10 ∷ rest = simp append_assoc in
    ap (slice_split is_line_feed) e ∙ split-first is_line_feed (w ++ spaced ws) 10 rest h refl
