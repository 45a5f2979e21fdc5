-- Lawful names of nets can be printed.
use Rattle.std.proofs.Common.{◌≡◌, ℕ, ◌≤◌, Bool, true, not, ◌&&◌, ◌==◌, List, length, arith}
use Rattle.std.specs.Prelude.{nat_lt}
use Rattle.std.specs.List.{list_all}
use Rattle.std.proofs.lemmas.Bool.{and_parts, and_from, ltb-true, le-leb, ne_eqb, not_from_false}
use Rattle.mv_base.specs.Names.{is_visible, is_bracketed, is_word, is_net_name, ends_with}
use Rattle.mv_base.specs.declared.limits.TheConstants.{MAX_WORD_BYTES}
use Rattle.mv_entries_back.specs.Printable.{is_text_name}

-- the first and the last of five tests
ends_of : (a b c d e : Bool) → (a && b && c && d && e) ≡ true → (a ≡ true) × (e ≡ true)
ends_of a b c d e h =
    let four = and_parts (a && b && c && d) e h in
    (((and_parts a b (and_parts (a && b) c (and_parts (a && b && c) d four.0).0).0).0), four.1)

pub net_name-text : (w : List ℕ) → is_net_name w ≡ true → length w ≤ MAX_WORD_BYTES → is_text_name w ≡ true
unfolding is_net_name is_word
net_name-text w h short =
    let ends = ends_of (is_word w) _ _ _ (not (ends_with 92 w)) h in
    let word = and_parts (nat_lt 0 (length w) && list_all (λ b. is_visible b && not (b == 35)) w) (not (is_bracketed w)) ends.0 in
    let bytes = and_parts (nat_lt 0 (length w)) (list_all (λ b. is_visible b && not (b == 35)) w) word.0 in
    let some = ltb-true 0 (length w) bytes.0 in
    let size : not (length w == 0) ≡ true = not_from_false (length w == 0) (ne_eqb (length w) 0 (λ e. omega (arith, some))) in
    and_from _ _ (and_from _ _ (and_from _ _ (and_from _ _ size bytes.1) word.1) ends.1) (le-leb (length w) MAX_WORD_BYTES short)
