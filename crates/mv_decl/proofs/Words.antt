-- Words without commas, which no cut changes.
use Rattle.std.proofs.Common.{◌≡◌, ◌∙◌, ℕ, Bool, true, false, not, ◌&&◌, List, [], ◌∷◌, ◌++◌, length, drop, refl, sym, ap, append-nil}
use Rattle.std.specs.Prelude.{◌==◌, All, codes, nat_lt}
use Rattle.std.specs.List.{list_all, list_any, flat_map}
use Rattle.std.proofs.lemmas.Bool.{and_parts, and_from, or_parts, false≢true, false_from_ne_true, lt-ltb, not-true, not_from_false}
use Rattle.std.proofs.lemmas.List.Elements.{All-nil, All-cons}
use Rattle.std.proofs.lemmas.List.Splits.{slice_split_none, slice_split_at}
use Rattle.mv_base.specs.Names.{is_net_name, is_value_name}
use Rattle.mv_base.proofs.NameLemmas.{same_word_is}
use Rattle.mv_word.proofs.LawfulNames.{net_name-has, value_name-has}
use Rattle.mv_decl.specs.Line.{is_comma, word_or_none, comma_and, pieces_of, commas_apart, value_names}

-- the word has no comma
abbrev pub commaless : List ℕ → Bool
commaless w = not (list_any (λ b. b == 44) w)

-- nor is it empty
abbrev pub is_piece : List ℕ → Bool
is_piece w = nat_lt 0 (length w) && commaless w

pub no_comma : (w : List ℕ) → list_any (λ b. b == 44) w ≡ false → All (λ b. (b == 44) ≡ false) w
no_comma [] e = All-nil (λ b. (b == 44) ≡ false)
no_comma (b ∷ bs) e =
    let p = or_parts (b == 44) (list_any (λ c. c == 44) bs) e in
    All-cons (λ c. (c == 44) ≡ false) b bs p.0 (no_comma bs p.1)

pub one_piece : (w : List ℕ) → is_piece w ≡ true → pieces_of w ≡ w ∷ []
unfolding pieces_of
one_piece [] e = cc
one_piece (b ∷ bs) e =
    let p = and_parts (nat_lt 0 (length (b ∷ bs))) (commaless (b ∷ bs)) e in
    ap (λ ps. drop 1 (flat_map comma_and ps)) (slice_split_none (λ c. c == 44) (b ∷ bs) (no_comma (b ∷ bs) (not-true _ p.1)))

pub pieces : (ws : List (List ℕ)) → list_all is_piece ws ≡ true → commas_apart ws ≡ ws
unfolding commas_apart
pieces [] e = refl
pieces (w ∷ ws) e =
    let p = and_parts (is_piece w) (list_all is_piece ws) e in
    ap (λ vs. vs ++ flat_map pieces_of ws) (one_piece w p.0) ∙ ap (λ vs. w ∷ vs) (pieces ws p.1)

-- a comma cuts a word in two, of which either may be empty
pub two_pieces : (w x : List ℕ) → commaless w ≡ true → commaless x ≡ true → pieces_of (w ++ 44 ∷ x) ≡ word_or_none w ++ codes "," ∷ word_or_none x
unfolding pieces_of
two_pieces w x d e =
    rw (slice_split_at (λ c. c == 44) w 44 x (no_comma w (not-true _ d)) refl, slice_split_none (λ c. c == 44) x (no_comma x (not-true _ e)), append-nil (word_or_none x)) refl

pub word_alone : (w : List ℕ) → is_piece w ≡ true → word_or_none w ≡ w ∷ []
word_alone [] e = cc
word_alone (b ∷ bs) e = refl

pub no_word : (w : List ℕ) → is_piece w ≡ true → is_comma w ≡ false
no_word w e =
    let none = not-true _ (and_parts (nat_lt 0 (length w)) (commaless w) e).1 in
    false_from_ne_true _ (λ y. false≢true (sym none ∙ ap (list_any (λ b. b == 44)) (same_word_is w (codes ",") y)))

pub net_piece : (w : List ℕ) → is_net_name w ≡ true → is_piece w ≡ true
net_piece w e =
    let name = net_name-has w e in
    and_from (nat_lt 0 (length w)) (commaless w) (lt-ltb 0 (length w) name.some) (not_from_false _ name.comma)

pub value_piece : (w : List ℕ) → is_value_name w ≡ true → is_piece w ≡ true
value_piece w e =
    let name = (value_name-has w e).net in
    and_from (nat_lt 0 (length w)) (commaless w) (lt-ltb 0 (length w) name.some) (not_from_false _ name.comma)

pub names_kept : (ws : List (List ℕ)) → list_all is_piece ws ≡ true → value_names ws ≡ ws
names_kept [] e = refl
names_kept (w ∷ ws) e =
    let p = and_parts (is_piece w) (list_all is_piece ws) e in
    rw (no_word w p.0) (ap (λ vs. w ∷ vs) (names_kept ws p.1))
