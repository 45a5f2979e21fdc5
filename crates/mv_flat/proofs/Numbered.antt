-- Numbers of names: which name a number is that of, the numbers of a mark and of a choice net, and names whose numbers differ.
use Rattle.std.proofs.Common.{◌≡◌, ℕ, ◌<◌, true, false, List, [], length, get_or, Option, Some, None, refl, sym, ◌∙◌, ap, arith}
use Rattle.std.specs.Prelude.{unwrap_or}
use Rattle.std.specs.List.{slice_get}
use Rattle.std.proofs.lemmas.Bool.{false≢true}
use Rattle.std.proofs.lemmas.Option.{same_Some, slice_get-get_or}
use Rattle.mv_base.specs.Names.{among, place_of, IsDistinct}
use Rattle.mv_base.proofs.NameLemmas.{IsPlace-from_among, IsPlace-from_place}
use Rattle.mv_design.specs.declared.table.FileTable.{FileTable}
use Rattle.mv_acyclic.specs.Numbers.{number_in}
use Rattle.mv_acyclic.proofs.Listed.{IsNumber-among, number_at, name_at}
use Rattle.mv_design.specs.Nets.{output_of}
use Rattle.mv_flat.specs.Gathered.{number_or_past}
use Rattle.mv_flat.specs.Numbers.{mark_name, mark_at, choice_name, choice_at}
use Rattle.mv_flat.proofs.Lawful.{is_spaced}

-- names with one number are one name
pub same_number : (names : List (List ℕ)) (u w : List ℕ) → among u names ≡ true → among w names ≡ true → number_in names u ≡ number_in names w → u ≡ w
same_number names u w p q e = sym (name_at names u p) ∙ (ap (λ n. get_or names n []) e ∙ name_at names w q)

-- where the names are distinct, what stands at a place has its number
pub number_of_name : (names : List (List ℕ)) (k : ℕ) → IsDistinct names → k < length names → k ≡ number_in names (get_or names k [])
number_of_name names k d low = sym (number_at names k (get_or names k []) d (slice_get-get_or names k [] low))

-- a name that has a place has its number there
past_number : (names : List (List ℕ)) (w : List ℕ) → among w names ≡ true → (number_or_past names w).0 ≡ number_in names w
unfolding number_in
past_number names w h =
    let p = IsPlace-from_among w names h in
    ap (λ o. unwrap_or o (length names)) p.1.place ∙ sym (ap (λ o. unwrap_or o 0) p.1.place)

-- the number of a mark that has a place
pub mark_number : (names : List (List ℕ)) (t : FileTable) → among (mark_name (output_of t)) names ≡ true
    → (mark_at names t).0 ≡ number_in names (mark_name (output_of t))
mark_number names t h = past_number names (mark_name (output_of t)) h

-- the number of a choice net that has a place
pub choice_number : (names : List (List ℕ)) (t : FileTable) → among (choice_name (output_of t)) names ≡ true
    → (choice_at names t).0 ≡ number_in names (choice_name (output_of t))
choice_number names t h = past_number names (choice_name (output_of t)) h

-- ---- numbers that differ

-- the number of a name isn't that of another, nor the one past all others
pub number_other : (names : List (List ℕ)) (w u : List ℕ) → among w names ≡ true → (w ≡ u → ⊥) → number_in names w ≡ (number_or_past names u).0 → ⊥
number_other names w u known other same = by_place (place_of u names) refl same
  where
    by_place : (o : Option ℕ) → place_of u names ≡ o → number_in names w ≡ unwrap_or o (length names) → ⊥
    by_place None e there = let l = (IsNumber-among names w known).within in omega (arith, there)
    by_place (Some k) e there =
        let p = IsPlace-from_place u names k e in
        other (same_Some w u (sym (IsNumber-among names w known).listed ∙ (ap (slice_get names) there ∙ p.found)))

-- a net's name is no made net's
pub unlike_made : (w u : List ℕ) → is_spaced w ≡ false → w ≡ mark_name u → ⊥
unlike_made w u plain e = false≢true (sym plain ∙ ap is_spaced e)

-- nor is a mark's name a choice net's
pub mark_not_choice : (u w : List ℕ) → is_spaced u ≡ false → mark_name u ≡ choice_name w → ⊥
mark_not_choice u w plain e = unlike_made u w plain (same_rest u (mark_name w) e)
  where
    same_rest : (a b : List ℕ) → mark_name a ≡ mark_name b → a ≡ b
    same_rest a b e = cc

-- a net's number is none of a mark's
pub net_not_mark : (names : List (List ℕ)) (t : FileTable) (w : List ℕ) → among w names ≡ true → is_spaced w ≡ false
    → number_in names w ≡ (mark_at names t).0 → ⊥
net_not_mark names t w known plain = number_other names w (mark_name (output_of t)) known (unlike_made w (output_of t) plain)

-- nor of a choice net's
pub net_not_choice : (names : List (List ℕ)) (t : FileTable) (w : List ℕ) → among w names ≡ true → is_spaced w ≡ false
    → number_in names w ≡ (choice_at names t).0 → ⊥
net_not_choice names t w known plain = number_other names w (choice_name (output_of t)) known (unlike_made w (mark_name (output_of t)) plain)

-- the number of a choice net is no mark's, where the mark's table has an output with the name of a net
pub choice_not_mark : (names : List (List ℕ)) (t s : FileTable) → among (choice_name (output_of t)) names ≡ true → is_spaced (output_of s) ≡ false
    → (choice_at names t).0 ≡ (mark_at names s).0 → ⊥
choice_not_mark names t s known plain e =
    number_other names (choice_name (output_of t)) (mark_name (output_of s)) known (λ same. mark_not_choice (output_of s) (output_of t) plain (sym same))
    (sym (choice_number names t known) ∙ e)

-- nor is it that of its own table's mark
pub choice_not_own_mark : (names : List (List ℕ)) (t : FileTable) → among (choice_name (output_of t)) names ≡ true
    → (choice_at names t).0 ≡ (mark_at names t).0 → ⊥
choice_not_own_mark names t known e =
    number_other names (choice_name (output_of t)) (mark_name (output_of t)) known (longer (output_of t)) (sym (choice_number names t known) ∙ e)
  where
    longer : (u : List ℕ) → choice_name u ≡ mark_name u → ⊥
    longer u same = let l = ap length same in omega (arith, l)
