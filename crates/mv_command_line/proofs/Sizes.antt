-- How large a network may be that is to be drawn.
use Rattle.std.proofs.Common.{◌≡◌, ◌≤◌, ℕ, zero, suc, Bool, true, false, ◌&&◌, nat_lt, nat_le, List, [], ◌∷◌, length, Option, Some, None, refl, ap, subst}
use Rattle.std.specs.Prelude.{option_map, option_and_then, if◌then◌else◌}
use Rattle.std.specs.Char.{is_ascii_digit}
use Rattle.std.specs.List.{list_all}
use Rattle.std.specs.Str.Parse.{digits_value}
use Rattle.std.proofs.lemmas.Bool.{false≢true, leb-true}
use Rattle.mv_command_line.specs.CommandLine.{Files, Draw, Names, Parts, opt, check, work, trace, number_of, size_of, seed_of, budget_given, flag_given, of_both, draw_with, draw_in, draw_asked, files_asked, names_asked, parts_of, task_of}

-- of five tests that hold the last two hold
last_two : (a b c d e : Bool) → (a && b && c && d && e) ≡ true → (d ≡ true) × (e ≡ true)
last_two false b c d e is = absurd (false≢true is)
last_two true false c d e is = absurd (false≢true is)
last_two true true false d e is = absurd (false≢true is)
last_two true true true false e is = absurd (false≢true is)
last_two true true true true false is = absurd (false≢true is)
last_two true true true true true is = (refl, refl)

-- a number that a word says is one of those it may be
module _ (most least greatest : ℕ) (w : List ℕ) (n : ℕ) where
  value_bounds : (b : Bool) → (nat_lt 0 (length w) && nat_le (length w) most && list_all is_ascii_digit w && nat_le least (digits_value 10 w) && nat_le (digits_value 10 w) greatest) ≡ b
      → (if b then Some (digits_value 10 w) else None) ≡ Some n → (least ≤ n) × (n ≤ greatest)
  value_bounds false is e = let bad : None ≡ Some n = e in absurd cc
  value_bounds true is e =
      let value : digits_value 10 w ≡ n = cc in
      let last = last_two (nat_lt 0 (length w)) (nat_le (length w) most) (list_all is_ascii_digit w) (nat_le least (digits_value 10 w)) (nat_le (digits_value 10 w) greatest) is in
      (subst (λ x. least ≤ x) value (leb-true least (digits_value 10 w) last.0), subst (λ x. x ≤ greatest) value (leb-true (digits_value 10 w) greatest last.1))

  number_bounds : number_of most least greatest w ≡ Some n → (least ≤ n) × (n ≤ greatest)
  unfolding number_of
  number_bounds e = value_bounds (nat_lt 0 (length w) && nat_le (length w) most && list_all is_ascii_digit w && nat_le least (digits_value 10 w) && nat_le (digits_value 10 w) greatest) refl e

-- the size is the number that the first word says
drawn_size : (size seed : Option ℕ) (script : List ℕ) (free : Option Bool) (budget : Option ℕ) (d : Draw)
    → option_and_then (λ n. option_and_then (λ s. of_both (draw_with n s script) free budget) seed) size ≡ Some d → size ≡ Some d.size
drawn_size None seed script free budget d e = absurd cc
drawn_size (Some n) None script free budget d e = absurd cc
drawn_size (Some n) (Some s) script None budget d e = absurd cc
drawn_size (Some n) (Some s) script (Some f) None d e = absurd cc
drawn_size (Some n) (Some s) script (Some f) (Some b) d e =
    let same : draw_with n s script f b ≡ d = cc in
    ap (λ (x : Draw). Some x.size) same

draw_bounds : (words : List (List ℕ)) (blifs : ℕ) (free : Option Bool) (budget : Option ℕ) (d : Draw) → draw_in words blifs free budget ≡ Some d → (1 ≤ d.size) × (d.size ≤ 20000)
draw_bounds [] blifs free budget d e = absurd cc
draw_bounds (a ∷ []) blifs free budget d e = absurd cc
draw_bounds (a ∷ b ∷ []) blifs free budget d e = absurd cc
draw_bounds (a ∷ b ∷ c ∷ []) zero free budget d e = number_bounds 5 1 20000 a d.size (drawn_size (size_of a) (seed_of b) c free budget d e)
draw_bounds (a ∷ b ∷ c ∷ []) (suc n) free budget d e = absurd cc
draw_bounds (a ∷ b ∷ c ∷ f ∷ ws) blifs free budget d e = absurd cc

parts_bounds : (parts : Option Parts) (d : Draw) → option_and_then draw_asked parts ≡ Some d → (1 ≤ d.size) × (d.size ≤ 20000)
parts_bounds None d e = absurd cc
parts_bounds (Some p) d e = draw_bounds p.words p.blifs (flag_given p.frees) (budget_given p.values) d e

-- where a network is to be drawn, the third of four tasks is asked for
asked_third : (x y z t : Bool) (o c : Option Files) (w : Option Draw) (n : Option Names) (d : Draw)
    → (if x then option_map opt o else if y then option_map check c else if z then option_map work w else if t then option_map trace n else None) ≡ Some (work d) → w ≡ Some d
asked_third true y z t None c w n d e = absurd cc
asked_third true y z t (Some f) c w n d e = absurd cc
asked_third false true z t o None w n d e = absurd cc
asked_third false true z t o (Some f) w n d e = absurd cc
asked_third false false true t o c None n d e = absurd cc
asked_third false false true t o c (Some v) n d e = cc
asked_third false false false true o c w None d e = absurd cc
asked_third false false false true o c w (Some m) d e = absurd cc
asked_third false false false false o c w n d e = absurd cc

-- a network that is asked for has from 1 to 20,000 tables
pub sizes : (words : List (List ℕ)) (d : Draw) → task_of words ≡ Some (work d) → (1 ≤ d.size) × (d.size ≤ 20000)
unfolding task_of
sizes [] d e = absurd cc
sizes (first ∷ rest) d e =
    parts_bounds (parts_of false rest) d
    (asked_third _ _ _ _ (option_and_then files_asked (parts_of false rest)) (option_and_then files_asked (parts_of false rest)) (option_and_then draw_asked (parts_of false rest)) (option_and_then names_asked (parts_of false rest)) d e)
