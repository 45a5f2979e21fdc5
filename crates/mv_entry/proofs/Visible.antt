-- Names that can be seen: lawful names are such, and the entries that hold one name or none.
use Rattle.std.proofs.Common.{◌≡◌, ◌∙◌, ℕ, Bool, true, not, ◌&&◌, nat_lt, List, [], ◌∷◌, length, refl, ap}
use Rattle.std.specs.Prelude.{◌==◌}
use Rattle.std.specs.List.{list_all}
use Rattle.std.proofs.lemmas.Bool.{and_parts, and_from}
use Rattle.mv_base.specs.Names.{is_visible, is_bracketed, is_word, is_net_name}
use Rattle.mv_base.proofs.Lists.{all-weaker}
use Rattle.mv_entry.specs.Entries.{Entry, entry_names, is_visible_name, HasVisibleNames}

pub visible-word : (w : List ℕ) → is_word w ≡ true → is_visible_name w ≡ true
unfolding is_word
visible-word w h =
    let p = and_parts (nat_lt 0 (length w) && list_all (λ b. is_visible b && not (b == 35)) w) (not (is_bracketed w)) h in
    let q = and_parts (nat_lt 0 (length w)) (list_all (λ b. is_visible b && not (b == 35)) w) p.0 in
    and_from (nat_lt 0 (length w)) (list_all is_visible w) q.0
    (all-weaker (λ b. is_visible b && not (b == 35)) is_visible (λ b e. (and_parts (is_visible b) (not (b == 35)) e).0) w q.1)

-- a lawful name of a net is a word
word_of_name : (a b c d e : Bool) → (a && b && c && d && e) ≡ true → a ≡ true
word_of_name a b c d e h = (and_parts a b (and_parts (a && b) c (and_parts (a && b && c) d (and_parts (a && b && c && d) e h).0).0).0).0

pub visible-net : (w : List ℕ) → is_net_name w ≡ true → is_visible_name w ≡ true
unfolding is_net_name
visible-net w h = visible-word w (word_of_name (is_word w) _ _ _ _ h)

pub visible-none : (e : Entry) → entry_names e ≡ [] → HasVisibleNames e
visible-none e none = record { each = ap (list_all is_visible_name) none }

pub visible-one : (e : Entry) (w : List ℕ) → entry_names e ≡ w ∷ [] → is_visible_name w ≡ true → HasVisibleNames e
visible-one e w one h = record { each = ap (list_all is_visible_name) one ∙ and_from (is_visible_name w) true h refl }
