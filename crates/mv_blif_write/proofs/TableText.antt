-- Tables, as they are written.
use Rattle.std.proofs.Common.{◌≡◌, ◌∙◌, ℕ, Bool, true, false, if◌then◌else◌, Option, Some, None, List, [], ◌∷◌, ◌++◌, length, codes, refl, sym, ap}
use Rattle.std.specs.List.{flat_map}
use Rattle.std.proofs.lemmas.List.{append-nil, append_assoc}
use Rattle.mv_base.specs.declared.number.NetId.{NetId}
use Rattle.mv_lex.specs.Text.{spaced, line_text}
use Rattle.mv_cover.specs.declared.cover.Cover.{Cover}
use Rattle.mv_net.specs.declared.parts.FlatNet.{FlatNet}
use Rattle.mv_net.specs.Nets.{name_in, table_in}
use Rattle.mv_net.specs.Index.{is_reset, kind_in}
use Rattle.mv_text.specs.Text.{fanins_of, names_of, numbers}
use Rattle.mv_write.proofs.Lines.{spaced-append}
use Rattle.mv_write.proofs.Parts.{names-numbers}
use Rattle.mv_blif_text.specs.BlifText.{choice_words, gate_words, net_words}

-- the line that begins a table
pub head-text : (names : List (List ℕ)) (name : List ℕ) → line_text (codes ".names" ∷ names ++ name ∷ []) ≡ codes ".names" ++ (spaced names ++ ((codes " " ++ name) ++ 10 ∷ []))
unfolding line_text spaced
head-text names name =
    ap (λ t. codes ".names" ++ (t ++ 10 ∷ [])) (spaced-append names (name ∷ []))
    ∙ (ap (λ t. codes ".names" ++ t) (append_assoc (spaced names) (spaced (name ∷ [])) (10 ∷ []))
    ∙ ap (λ t. codes ".names" ++ (spaced names ++ ((codes " " ++ t) ++ 10 ∷ []))) (append-nil name))

pub gate-text : (nets : List (Option FlatNet)) (name said : List ℕ) (c : Cover) (fanins : List NetId) → numbers fanins ≡ fanins_of (length nets) c → said ≡ name
    → flat_map line_text (gate_words nets name (fanins_of (length nets) c) c) ≡ line_text (codes ".names" ∷ names_of nets fanins ++ said ∷ []) ++ flat_map line_text (choice_words (numbers fanins) c)
gate-text nets name said c fanins ns is =
    ap (λ fs. flat_map line_text (gate_words nets name fs c)) (sym ns)
    ∙ (λ j. line_text (codes ".names" ∷ names-numbers nets fanins j ++ sym is j ∷ []) ++ flat_map line_text (choice_words (numbers fanins) c))

-- ---- the lines of a number's net

pub reset-text : (nets : List (Option FlatNet)) (f : Option FlatNet) → is_reset (kind_in f) ≡ true → flat_map line_text (net_words nets f) ≡ []
reset-text nets None y = refl
reset-text nets (Some f) y = rw y refl

pub no_table-text : (nets : List (Option FlatNet)) (f : Option FlatNet) → table_in f ≡ None → flat_map line_text (net_words nets f) ≡ []
no_table-text nets None e = refl
no_table-text nets (Some f) e = rw e (cond_same (is_reset (Some f.kind)))
  where
    cond_same : (b : Bool) → flat_map line_text (if b then [] else []) ≡ []
    cond_same true = refl
    cond_same false = refl

pub table-text : (nets : List (Option FlatNet)) (f : Option FlatNet) (c : Cover) → is_reset (kind_in f) ≡ false → table_in f ≡ Some c
    → flat_map line_text (net_words nets f) ≡ flat_map line_text (gate_words nets (name_in f) (fanins_of (length nets) c) c)
table-text nets None c n e = cc
table-text nets (Some f) c n e = rw (n, e) refl
