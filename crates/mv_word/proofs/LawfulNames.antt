-- What lawful names are and what they aren't.
use Rattle.std.proofs.Common.{◌≡◌, ℕ, ◌<◌, Bool, true, false, not, ◌&&◌, ◌||◌, List, ◌∷◌, length, ⊎_elim, arith}
use Rattle.std.specs.Prelude.{◌==◌, codes, nat_lt}
use Rattle.std.specs.List.{list_all, list_any}
use Rattle.std.proofs.lemmas.Bool.{false≢true, and_parts, and_cases, not-true, lt-ltb, ltb-true}
use Rattle.mv_base.specs.Names.{same_word, begins_with, ends_with, is_visible, is_bracketed, is_word, is_net_name, is_value_name}

-- a byte that isn't the first of a word
pub first-other : (c b : ℕ) (bs : List ℕ) → begins_with c (b ∷ bs) ≡ false → (b == c) ≡ false
first-other c b bs e =
    ⊎_elim
    (λ (n : nat_lt 0 (length (b ∷ bs)) ≡ false). absurd (false≢true (let y = lt-ltb 0 (length (b ∷ bs)) (omega arith) in cc)))
    (λ (n : (b == c) ≡ false). n)
    (and_cases (nat_lt 0 (length (b ∷ bs))) (b == c) e)

abbrev pub is_bracket : ℕ → Bool
is_bracket b = (b == 40) || (b == 41) || (b == 123) || (b == 125)

-- what a lawful name of a net is as a word, and what it isn't
pub record NetName (w : List ℕ) : Type 0 where
  pub some : 0 < length w
  pub arrow : same_word w (codes "->") ≡ false
  pub stop : begins_with 46 w ≡ false
  pub comma : list_any (λ b. b == 44) w ≡ false
  pub bytes : list_all (λ b. is_visible b && not (b == 35)) w ≡ true
  pub unbracketed : is_bracketed w ≡ false
  pub ends : ends_with 92 w ≡ false

pub net_name-has : (w : List ℕ) → is_net_name w ≡ true → NetName w
unfolding is_net_name is_word
net_name-has w e =
    let ends = and_parts _ _ e in
    let comma = and_parts _ _ ends.0 in
    let stop = and_parts _ _ comma.0 in
    let arrow = and_parts _ _ stop.0 in
    let brackets = and_parts _ _ arrow.0 in
    let bytes = and_parts _ _ brackets.0 in
    record {
      some = ltb-true 0 (length w) bytes.0;
      arrow = not-true _ arrow.1;
      stop = not-true _ stop.1;
      comma = not-true _ comma.1;
      bytes = bytes.1;
      unbracketed = not-true _ brackets.1;
      ends = not-true _ ends.1;
    }

-- and a lawful name of a value
pub record ValueName (w : List ℕ) : Type 0 where
  pub net : NetName w
  pub dash : same_word w (codes "-") ≡ false
  pub bang : begins_with 33 w ≡ false
  pub equal : begins_with 61 w ≡ false
  pub bracket : list_any is_bracket w ≡ false

pub value_name-has : (w : List ℕ) → is_value_name w ≡ true → ValueName w
unfolding is_value_name
value_name-has w e =
    let bracket = and_parts _ _ e in
    let equal = and_parts _ _ bracket.0 in
    let bang = and_parts _ _ equal.0 in
    let dash = and_parts _ _ bang.0 in
    record {
      net = net_name-has w dash.0;
      dash = not-true _ dash.1;
      bang = not-true _ bang.1;
      equal = not-true _ equal.1;
      bracket = not-true _ bracket.1;
    }
