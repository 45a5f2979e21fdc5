-- The words of an answer, net by net.
use Rattle.std.proofs.Common.{◌≡◌, ◌∙◌, ℕ, ◌+◌, ◌<◌, ◌≤◌, true, false, Option, Some, None, List, [], ◌∷◌, ◌++◌, length, drop, codes, decimal, is_some, refl, sym, ap, append_assoc}
use Rattle.std.specs.List.{flat_map, enumerate_from}
use Rattle.std.proofs.lemmas.List.{append-nil, at_drop_more, at_drop_all}
use Rattle.std.proofs.lemmas.List.Concat.{flat_map-append}
use Rattle.mv_lex.specs.Text.{spaced, line_text}
use Rattle.mv_net.specs.declared.parts.FlatNet.{FlatNet}
use Rattle.mv_net.specs.Nets.{slot, name_in}
use Rattle.mv_trace.specs.Answer.{word_if, words_from, net_name, net_value}

-- the words of the nets from a number on
pub words_more : (word : ℕ → FlatNet → List ℕ) (nets : List (Option FlatNet)) (n : ℕ) → n < length nets → spaced (words_from word (enumerate_from n (drop n nets))) ≡ spaced (word_if (word n) (slot nets n)) ++ spaced (words_from word (enumerate_from (n + 1) (drop (n + 1) nets)))
unfolding spaced
words_more word nets n low =
    at_drop_more (λ fs. flat_map (λ (w : List ℕ). 32 ∷ w) (words_from word (enumerate_from n fs))) nets n None low
    ∙ flat_map-append (λ (w : List ℕ). 32 ∷ w) (word_if (word n) (slot nets n)) (words_from word (enumerate_from (n + 1) (drop (n + 1) nets)))

pub words_none : (word : ℕ → FlatNet → List ℕ) (nets : List (Option FlatNet)) (n : ℕ) → length nets ≤ n → spaced (words_from word (enumerate_from n (drop n nets))) ≡ []
unfolding spaced
words_none word nets n high = at_drop_all (λ fs. flat_map (λ (w : List ℕ). 32 ∷ w) (words_from word (enumerate_from n fs))) nets n high

-- a number that isn't held has no word
pub unheld-word : (word : FlatNet → List ℕ) (f : Option FlatNet) → is_some f ≡ false → spaced (word_if word f) ≡ []
unfolding spaced
unheld-word word None h = refl
unheld-word word (Some f) h = cc

pub line_of : (w : List ℕ) (ws : List (List ℕ)) → line_text (w ∷ ws) ≡ w ++ (spaced ws ++ 10 ∷ [])
unfolding line_text
line_of w ws = refl

pub step_of : (digits : List ℕ) (ws : List (List ℕ)) → line_text (codes "step" ∷ digits ∷ ws) ≡ (codes "step " ++ digits) ++ (spaced ws ++ 10 ∷ [])
unfolding line_text spaced
step_of digits ws = ap (λ t. codes "step " ++ t) (append_assoc digits (spaced ws) (10 ∷ []))

pub no_of : (digits : List ℕ) → line_text (codes "no" ∷ digits ∷ []) ≡ (codes "no " ++ digits) ++ 10 ∷ []
unfolding line_text spaced
no_of digits = ap (λ t. (codes "no " ++ t) ++ 10 ∷ []) (append-nil digits)

-- the name of a held net
pub named : (n : ℕ) (f : Option FlatNet) (name : List ℕ) → is_some f ≡ true → name ≡ name_in f → 32 ∷ name ≡ spaced (word_if (net_name n) f)
unfolding spaced
named n None name h e = cc
named n (Some f) name h e = ap (λ w. 32 ∷ w) e ∙ sym (append-nil (32 ∷ f.name))

-- the value of a held net
pub valued : (at : ℕ → ℕ) (n : ℕ) (f : Option FlatNet) (digits : List ℕ) → is_some f ≡ true → digits ≡ decimal (at n) → 32 ∷ digits ≡ spaced (word_if (net_value at n) f)
unfolding spaced
valued at n None digits h e = cc
valued at n (Some f) digits h e = ap (λ w. 32 ∷ w) e ∙ sym (append-nil (32 ∷ decimal (at n)))
