-- The names of a network's nets can be words of a text: lawful names are, and so is such a name with a full stop in front.
use Rattle.std.proofs.Common.{◌≡◌, ◌∙◌, ℕ, ◌≤◌, true, not, ◌&&◌, ◌==◌, List, [], ◌∷◌, length, Option, refl, ap, subst, arith}
use Rattle.std.specs.Prelude.{nat_le}
use Rattle.std.specs.List.{list_all}
use Rattle.std.proofs.lemmas.Bool.{and_parts, and_from, false≢true, le-leb, ne_eqb, not_from_false}
use Rattle.mv_base.specs.Names.{is_bracketed, ends_with}
use Rattle.mv_base.specs.declared.limits.TheConstants.{MAX_WORD_BYTES}
use Rattle.mv_net.specs.declared.parts.FlatNet.{FlatNet}
use Rattle.mv_net.specs.Index.{HasName}
use Rattle.mv_net.specs.Nets.{name_in}
use Rattle.mv_rules.proofs.Spoken.{Passes}
use Rattle.mv_lines_back.specs.TextWords.{is_word_byte, is_plain_word}
use Rattle.mv_lines_back.proofs.Ends.{ends_with-skip}
use Rattle.mv_entries_back.specs.Printable.{is_text_name}
use Rattle.mv_entries_back.proofs.Lawful.{net_name-text}
use Rattle.mv_rules_back.specs.Names.{HasWordNames}

-- a plain word with a full stop in front is one
stop_plain : (w : List ℕ) → is_plain_word w ≡ true → is_plain_word (46 ∷ w) ≡ true
stop_plain [] h = absurd (false≢true h)
stop_plain (c ∷ cs) h =
    let w = c ∷ cs in
    let four = and_parts (not (length w == 0) && list_all is_word_byte w && not (is_bracketed w)) (not (ends_with 92 w)) h in
    let three = and_parts (not (length w == 0) && list_all is_word_byte w) (not (is_bracketed w)) four.0 in
    let two = and_parts (not (length w == 0)) (list_all is_word_byte w) three.0 in
    let size : not (length (46 ∷ w) == 0) ≡ true = not_from_false (length (46 ∷ w) == 0) (ne_eqb (length (46 ∷ w)) 0 (λ e. omega arith)) in
    and_from _ _ (and_from _ _ (and_from _ _ size (and_from (is_word_byte 46) (list_all is_word_byte w) refl two.1)) refl) (ap not (ends_with-skip 92 46 c cs) ∙ four.1)

stop_text : (w : List ℕ) → length (46 ∷ w) ≤ MAX_WORD_BYTES → is_text_name w ≡ true → is_text_name (46 ∷ w) ≡ true
stop_text w short h =
    and_from (is_plain_word (46 ∷ w)) _ (stop_plain w (and_parts (is_plain_word w) (nat_le (length w) MAX_WORD_BYTES) h).0)
    (le-leb (length (46 ∷ w)) MAX_WORD_BYTES short)

-- a net's name isn't longer than a word may be
name_short : (nets : List (Option FlatNet)) (n : ℕ) (w : List ℕ) → HasWordNames nets → HasName nets n w → length w ≤ MAX_WORD_BYTES
name_short nets n w names named =
    subst (λ (v : List ℕ). length v ≤ MAX_WORD_BYTES) named.is (subst (λ (o : Option FlatNet). length (name_in o) ≤ MAX_WORD_BYTES) named.held (names.short n))

pub text_passes : (nets : List (Option FlatNet)) → HasWordNames nets → Passes is_text_name nets
text_passes nets names = record {
  lawful = λ n w named lawful. net_name-text w lawful (name_short nets n w names named);
  reset = λ n w named h. stop_text w (name_short nets n (46 ∷ w) names named) h;
  fresh = λ w new. net_name-text w new.lawful new.short;
}
