-- What the words of a line say, where they stand plain, and that commas between names of nets may be left out.
use Rattle.std.proofs.Common.{◌≡◌, ◌∙◌, ℕ, ◌<◌, ◌≤◌, Bool, true, false, not, ◌&&◌, List, [], ◌∷◌, ◌++◌, length, flat_map, refl, sym, ap, ap₂, subst, append_assoc, arith}
use Rattle.std.specs.Prelude.{◌==◌, codes, nat_lt, nat_le, if◌then◌else◌}
use Rattle.std.specs.List.{list_all, list_any}
use Rattle.std.proofs.lemmas.Bool.{and_parts, and_from, or_from, not-true, not_from_false, lt-ltb, leb-true, ne_eqb}
use Rattle.std.proofs.lemmas.List.Folds.{list_all-append}
use Rattle.std.proofs.lemmas.Grind.{flat_map-append}
use Rattle.mv_base.specs.Names.{among, is_net_name, is_value_name}
use Rattle.mv_base.proofs.Lists.{all-weaker}
use Rattle.mv_fault.specs.declared.fault.ParseFault.{ParseFault}
use Rattle.mv_fault.specs.declared.fault.ParseFault.TheVariants.{Missing}
use Rattle.mv_design.specs.declared.design.Decl.{Decl}
use Rattle.mv_decl.specs.Line.{is_comma, is_digits, Front, lacking, with_net, front_of, behind_name, net_name_faults, lacking_faults, front_faults, number_said, numbers_below, value_names, named_values, count_faults, value_name_faults, length_faults, is_redeclared, redeclared_faults, pieces_of, commas_apart, values_from, front_said, nets_said, values_said, count_line_faults, decl_faults}
use Rattle.mv_design.specs.Values.{declared_of}
use Rattle.mv_decl.proofs.Fronts.{front_left}
use Rattle.mv_decl.specs.Plain.{IsPlainLine, SayTheSame}
use Rattle.mv_decl.proofs.Words.{is_piece, commaless, one_piece, two_pieces, word_alone, pieces, no_word, net_piece, value_piece, names_kept}

-- ---- plain lines

no_digit : (b : ℕ) → (nat_le 48 b && nat_le b 57) ≡ true → (b == 44) ≡ false
no_digit b e = let low : 48 ≤ b = leb-true 48 b (and_parts (nat_le 48 b) (nat_le b 57) e).0 in ne_eqb b 44 (λ y. omega (arith, low))

digits_commaless : (w : List ℕ) → is_digits w ≡ true → list_any (λ b. b == 44) w ≡ false
digits_commaless [] e = refl
digits_commaless (b ∷ bs) e =
    let p = and_parts (nat_le 48 b && nat_le b 57) (is_digits bs) e in
    or_from _ _ (no_digit b p.0) (digits_commaless bs p.1)

-- a front with these nets, and these words from the count on
abbrev front_with : List (List ℕ) → List (List ℕ) → Front
front_with nets rest = record { nets = nets; rest = rest }

-- behind a name, the names and the count
read_on : (nets : List (List ℕ)) (count : List ℕ) (values : List (List ℕ)) → list_all is_piece nets ≡ true → list_all (λ w. not (is_digits w)) nets ≡ true → is_piece count ≡ true → is_digits count ≡ true → behind_name (nets ++ count ∷ values) ≡ front_with nets (count ∷ values)
read_on [] count values words behind piece digits = rw (no_word count piece, digits) refl
read_on (w ∷ ws) count values words behind piece digits =
    let p = and_parts (is_piece w) (list_all is_piece ws) words in
    let d = and_parts (not (is_digits w)) (list_all (λ w. not (is_digits w)) ws) behind in
    rw (no_word w p.0, not-true _ d.0) (ap (with_net w) (read_on ws count values p.1 d.1 piece digits))

lawful_none : (n : ℕ) (nets : List (List ℕ)) → list_all is_net_name nets ≡ true → flat_map (net_name_faults n) nets ≡ []
unfolding net_name_faults
lawful_none n [] e = refl
lawful_none n (w ∷ ws) e = let p = and_parts (is_net_name w) (list_all is_net_name ws) e in rw p.0 (lawful_none n ws p.1)

-- what a whole plain line reads as
record IsPlain (words nets : List (List ℕ)) (count : List ℕ) (values : List (List ℕ)) : Type 0 where
  named : nets_said words ≡ nets
  valued : values_said words ≡ named_values (number_said count) values
  faults : (n : ℕ) (word : List ℕ) (ds : List Decl) → decl_faults n word ds words ≡ count_line_faults n ds nets (count ∷ values)

read_all : (words nets : List (List ℕ)) (count : List ℕ) (values : List (List ℕ)) → IsPlainLine words nets count values → IsPlain words nets count values
unfolding nets_said values_said decl_faults
read_all words [] count values line = absurd (omega (arith, line.some))
read_all words (w ∷ ws) count values line =
    let p = and_parts (is_net_name w) (list_all is_net_name ws) line.lawful in
    let first : is_piece w ≡ true = net_piece w p.0 in
    let others : list_all is_piece ws ≡ true = all-weaker is_net_name is_piece net_piece ws p.1 in
    let number : is_piece count ≡ true = and_from (nat_lt 0 (length count)) (commaless count) (lt-ltb 0 (length count) line.counted) (not_from_false _ (digits_commaless count line.digits)) in
    let names : list_all is_piece values ≡ true = all-weaker is_value_name is_piece value_piece values line.spelled in
    let whole : list_all is_piece ((w ∷ ws) ++ count ∷ values) ≡ true = list_all-append is_piece (w ∷ ws) (count ∷ values) ∙ and_from _ _ (and_from _ _ first others) (and_from _ _ number names) in
    let cut : commas_apart words ≡ (w ∷ ws) ++ count ∷ values = ap commas_apart line.parts ∙ pieces ((w ∷ ws) ++ count ∷ values) whole in
    let front : front_said words ≡ front_with (w ∷ ws) (count ∷ values) = ap front_of cut ∙ rw (no_word w first) (ap (with_net w) (read_on ws count values others line.behind number line.digits)) in
    record {
      named = ap (λ (f : Front). f.nets) front;
      valued = ap (λ (f : Front). values_from f.rest) front ∙ ap (named_values (number_said count)) (names_kept values names);
      faults = λ n word ds.
          ap (λ (f : Front). front_faults n word f ++ count_line_faults n ds f.nets f.rest) front
          ∙ ap (λ (fs : List ParseFault). (fs ++ []) ++ count_line_faults n ds (w ∷ ws) (count ∷ values)) (lawful_none n (w ∷ ws) line.lawful);
    }

pub plain_nets : (words nets : List (List ℕ)) (count : List ℕ) (values : List (List ℕ)) → IsPlainLine words nets count values → nets_said words ≡ nets
plain_nets words nets count values line = (read_all words nets count values line).named

named_are : (count : ℕ) (values : List (List ℕ)) → 0 < length values → named_values count values ≡ values
named_are count [] some = absurd (omega (arith, some))
named_are count (v ∷ vs) some = refl

pub plain_names : (words nets : List (List ℕ)) (count : List ℕ) (values : List (List ℕ)) → IsPlainLine words nets count values → 0 < length values → values_said words ≡ values
plain_names words nets count values line some = (read_all words nets count values line).valued ∙ named_are (number_said count) values some

pub plain_numbers : (words nets : List (List ℕ)) (count : List ℕ) → IsPlainLine words nets count [] → values_said words ≡ numbers_below (number_said count)
plain_numbers words nets count line = (read_all words nets count [] line).valued

pub plain_faults : (words nets : List (List ℕ)) (count : List ℕ) (values : List (List ℕ)) → IsPlainLine words nets count values → (n : ℕ) (word : List ℕ) (ds : List Decl) → decl_faults n word ds words ≡ count_faults n count ++ value_name_faults n [] values ++ length_faults n (number_said count) values ++ redeclared_faults n ds (named_values (number_said count) values) nets
plain_faults words nets count values line n word ds = (read_all words nets count values line).faults n word ds ∙ ap (λ names. count_faults n count ++ value_name_faults n [] names ++ length_faults n (number_said count) names ++ redeclared_faults n ds (named_values (number_said count) names) nets) (names_kept values (all-weaker is_value_name is_piece value_piece values line.spelled))

-- ---- a comma where a name has to stand, and behind a name

-- behind a name and a comma the line begins anew
comma_front : (w : List ℕ) (words : List (List ℕ)) → is_net_name w ≡ true → front_said (w ∷ codes "," ∷ words) ≡ with_net w (front_said words)
unfolding commas_apart pieces_of
comma_front w words name = let pw = net_piece w name in rw (one_piece w pw, no_word w pw) refl

pub comma_nets : (w : List ℕ) (words : List (List ℕ)) → is_net_name w ≡ true → nets_said (w ∷ codes "," ∷ words) ≡ w ∷ nets_said words
unfolding nets_said
comma_nets w words name = ap (λ (f : Front). f.nets) (comma_front w words name)

pub comma_values : (w : List ℕ) (words : List (List ℕ)) → is_net_name w ≡ true → values_said (w ∷ codes "," ∷ words) ≡ values_said words
unfolding values_said
comma_values w words name = ap (λ (f : Front). values_from f.rest) (comma_front w words name)

module _ (n : ℕ) (word : List ℕ) (ds : List Decl) where
  -- where no name stands the line has no other fault
  pub comma_for_name : (words : List (List ℕ)) → decl_faults n word ds (codes "," ∷ words) ≡ Missing n word ∷ []
  unfolding decl_faults commas_apart pieces_of
  comma_for_name words = refl

  new_net : (w : List ℕ) (nets rest : List (List ℕ)) → among w (declared_of ds) ≡ false → count_line_faults n ds (w ∷ nets) rest ≡ count_line_faults n ds nets rest
  unfolding is_redeclared
  new_net w nets [] new = refl
  new_net w nets (c ∷ ws) new = rw new refl

  pub comma_faults : (w : List ℕ) (words : List (List ℕ)) → is_net_name w ≡ true → among w (declared_of ds) ≡ false → decl_faults n word ds (w ∷ codes "," ∷ words) ≡ decl_faults n word ds words
  unfolding decl_faults net_name_faults
  comma_faults w words name new =
      ap (λ (f : Front). front_faults n word f ++ count_line_faults n ds f.nets f.rest) (comma_front w words name)
      ∙ rw name (ap (λ (fs : List ParseFault). front_faults n word (front_said words) ++ fs) (new_net w (front_said words).nets (front_said words).rest new))

-- ---- a comma left out

-- from the count on they say the same values
abbrev SameRest : List (List ℕ) → List (List ℕ) → Type 0
SameRest [] [] = Unit {0}
SameRest (c ∷ ws) (d ∷ vs) = (c ≡ d) × (value_names ws ≡ value_names vs)
SameRest _ _ = ⊥

record AreAlike (f g : Front) : Type 0 where
  nets : f.nets ≡ g.nets
  rest : SameRest f.rest g.rest

alike_itself : (f : Front) → AreAlike f f
alike_itself f = record { nets = refl; rest = same f.rest }
  where
    same : (ws : List (List ℕ)) → SameRest ws ws
    same [] = tt
    same (w ∷ ws) = (refl, refl)

alike_net : (w : List ℕ) (f g : Front) → AreAlike f g → AreAlike (with_net w f) (with_net w g)
alike_net w f g s = record { nets = ap (λ ws. w ∷ ws) s.nets; rest = s.rest }

alike_if : (b : Bool) (f g h i : Front) → AreAlike f h → AreAlike g i → AreAlike (if b then f else g) (if b then h else i)
alike_if true f g h i s t = s
alike_if false f g h i s t = t

alike_values : (ws vs : List (List ℕ)) → SameRest ws vs → values_from ws ≡ values_from vs
alike_values [] [] s = refl
alike_values (c ∷ ws) (d ∷ vs) s = ap₂ (λ k names. named_values (number_said k) names) s.0 s.1
alike_values [] (d ∷ vs) s = absurd s
alike_values (c ∷ ws) [] s = absurd s

module _ (n : ℕ) (word : List ℕ) (ds : List Decl) where
  abbrev faults_with : List (List ℕ) → List (List ℕ) → List ParseFault
  faults_with nets rest = (flat_map (net_name_faults n) nets ++ lacking_faults n word rest) ++ count_line_faults n ds nets rest

  rest_faults : (nets ws vs : List (List ℕ)) → SameRest ws vs → faults_with nets ws ≡ faults_with nets vs
  rest_faults nets [] [] s = refl
  rest_faults nets (c ∷ ws) (d ∷ vs) s =
      ap₂ (λ k names. (flat_map (net_name_faults n) nets ++ []) ++ (count_faults n k ++ value_name_faults n [] names ++ length_faults n (number_said k) names ++ redeclared_faults n ds (named_values (number_said k) names) nets)) s.0 s.1
  rest_faults nets [] (d ∷ vs) s = absurd s
  rest_faults nets (c ∷ ws) [] s = absurd s

  alike_faults : (f g : Front) → AreAlike f g → faults_with f.nets f.rest ≡ faults_with g.nets g.rest
  alike_faults f g s = ap (λ nets. faults_with nets f.rest) s.nets ∙ rest_faults g.nets f.rest g.rest s.rest

module _ (w x : List ℕ) (b : List (List ℕ)) (cw : is_comma w ≡ false) (cx : is_comma x ≡ false) (dx : is_digits x ≡ false) where
  abbrev with_comma : List (List ℕ) → List (List ℕ)
  with_comma a = a ++ w ∷ codes "," ∷ x ∷ b

  abbrev without_comma : List (List ℕ) → List (List ℕ)
  without_comma a = a ++ w ∷ x ∷ b

  same_names : (a : List (List ℕ)) → value_names (with_comma a) ≡ value_names (without_comma a)
  same_names [] = refl
  same_names (v ∷ vs) = ap (λ ws. if not (is_comma v) then v ∷ ws else ws) (same_names vs)

  same_front : (a : List (List ℕ)) (named : Bool) → AreAlike (front_left named (with_comma a)) (front_left named (without_comma a))
  same_front [] true = rw (cw, cx, dx) (alike_itself (with_net w (with_net x (behind_name b))))
  same_front [] false =
      rw (cw, cx, dx) (alike_if (is_digits w) (front_with [] (w ∷ codes "," ∷ x ∷ b)) (with_net w (with_net x (behind_name b))) (front_with [] (w ∷ x ∷ b)) (with_net w (with_net x (behind_name b)))
      (record { nets = refl; rest = (refl, refl) })
      (alike_itself (with_net w (with_net x (behind_name b)))))
  same_front (v ∷ vs) true =
      alike_if (is_comma v) lacking (with_net v (behind_name (with_comma vs))) lacking (with_net v (behind_name (without_comma vs)))
      (alike_itself lacking)
      (alike_net v (behind_name (with_comma vs)) (behind_name (without_comma vs)) (same_front vs false))
  same_front (v ∷ vs) false =
      alike_if (is_comma v) _ _ _ _
      (same_front vs true)
      (alike_if (is_digits v) (front_with [] (v ∷ with_comma vs)) (with_net v (behind_name (with_comma vs))) (front_with [] (v ∷ without_comma vs)) (with_net v (behind_name (without_comma vs)))
      (record { nets = refl; rest = (refl, same_names vs) })
      (alike_net v (behind_name (with_comma vs)) (behind_name (without_comma vs)) (same_front vs false)))

  same_cut : (words others a : List (List ℕ)) → commas_apart words ≡ with_comma a → commas_apart others ≡ without_comma a → SayTheSame words others
  unfolding nets_said values_said decl_faults
  same_cut words others a d e =
      let ends : AreAlike (front_of (with_comma a)) (front_said others) = subst (λ (g : Front). AreAlike (front_of (with_comma a)) g) (sym (ap front_of e)) (same_front a true) in
      let both : AreAlike (front_said words) (front_said others) = subst (λ (f : Front). AreAlike f (front_said others)) (sym (ap front_of d)) ends in
      record {
        nets = both.nets;
        values = alike_values (front_said words).rest (front_said others).rest both.rest;
        faults = λ n word ds. alike_faults n word ds (front_said words) (front_said others) both;
      }

-- the words cut apart, where these stand in the middle
cut_at : (a middle b : List (List ℕ)) → commas_apart (a ++ (middle ++ b)) ≡ commas_apart a ++ (commas_apart middle ++ commas_apart b)
unfolding commas_apart
cut_at a middle b = flat_map-append pieces_of a (middle ++ b) ∙ ap (λ ws. flat_map pieces_of a ++ ws) (flat_map-append pieces_of middle b)

module _ (a : List (List ℕ)) (w x : List ℕ) (b : List (List ℕ)) (first : is_net_name w ≡ true) (next : is_net_name x ≡ true) (other : not (is_digits x) ≡ true) where
  pw : is_piece w ≡ true
  pw = net_piece w first

  px : is_piece x ≡ true
  px = net_piece x next

  w_commaless : commaless w ≡ true
  w_commaless = (and_parts (nat_lt 0 (length w)) (commaless w) pw).1

  x_commaless : commaless x ≡ true
  x_commaless = (and_parts (nat_lt 0 (length x)) (commaless x) px).1

  -- these words are cut to the two names with a comma between
  same_as : (middle : List (List ℕ)) → commas_apart middle ≡ w ∷ codes "," ∷ x ∷ [] → SayTheSame (a ++ (middle ++ b)) (a ++ w ∷ x ∷ b)
  same_as middle e =
      same_cut w x (commas_apart b) (no_word w pw) (no_word x px) (not-true _ other) (a ++ (middle ++ b)) (a ++ w ∷ x ∷ b) (commas_apart a)
      (cut_at a middle b ∙ ap (λ ws. commas_apart a ++ (ws ++ commas_apart b)) e)
      (cut_at a (w ∷ x ∷ []) b ∙ ap (λ ws. commas_apart a ++ (ws ++ commas_apart b)) (pieces (w ∷ x ∷ []) (and_from _ _ pw (and_from _ _ px refl))))

  pub comma_alone : SayTheSame (a ++ w ∷ codes "," ∷ x ∷ b) (a ++ w ∷ x ∷ b)
  unfolding commas_apart pieces_of
  comma_alone = same_as (w ∷ codes "," ∷ x ∷ []) (rw (one_piece w pw, one_piece x px) refl)

  pub comma_joined : SayTheSame (a ++ (w ++ codes "," ++ x) ∷ b) (a ++ w ∷ x ∷ b)
  unfolding commas_apart
  comma_joined = same_as ((w ++ codes "," ++ x) ∷ []) (rw (append_assoc w (codes ",") x, two_pieces w x w_commaless x_commaless, word_alone w pw, word_alone x px) refl)

  pub comma_at_end : SayTheSame (a ++ (w ++ codes ",") ∷ x ∷ b) (a ++ w ∷ x ∷ b)
  unfolding commas_apart
  comma_at_end = same_as ((w ++ codes ",") ∷ x ∷ []) (rw (two_pieces w [] w_commaless refl, word_alone w pw, one_piece x px) refl)

  pub comma_in_front : SayTheSame (a ++ w ∷ (codes "," ++ x) ∷ b) (a ++ w ∷ x ∷ b)
  unfolding commas_apart
  comma_in_front = same_as (w ∷ (codes "," ++ x) ∷ []) (rw (two_pieces [] x refl x_commaless, one_piece w pw, word_alone x px) refl)
