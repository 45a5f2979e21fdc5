-- How a word looks to the definition and to clap.
use Rattle.std.proofs.Common.{◌≡◌, ◌∙◌, ◌⊎◌, inl, inr, ℕ, ◌+◌, Bool, true, false, not, cond, ◌==◌, ◌&&◌, List, [], ◌∷◌, ◌++◌, length, Option, Some, None, codes, refl, sym, ap, subst, arith, eqb-true, eq-eqb, ⊎_elim}
use Rattle.std.specs.Prelude.{slice_get, unwrap_or, is_some, suc, take, drop}
use Rattle.std.specs.List.{list_all, position_or_len}
use Rattle.std.specs.Str.{bytes_eq, chars, IsUtf8, encode_utf8_all}
use Rattle.std.proofs.lemmas.Bool.{cases_Bool, false≢true, false_from_ne_true, and_parts, ne_eqb}
use Rattle.std.proofs.lemmas.Slice.Eq.{bytes_eq-Decides}
use Rattle.std.proofs.lemmas.Str.{IsUtf8-past_char, encodes-chars, encode_ascii}
use Rattle.mv_base.specs.Names.{same_word}
use Rattle.clap.specs.Lexer.{has_byte, long_of, name_and_value, short_of}
use Rattle.mv_command_line.specs.CommandLine.{Sort, positional, ends, frees, blifs, apart, attached, refused, behind, is_dashed, option_sort, sort_of}
use Rattle.mv_command_line.proofs.Flags.{Flag, free, blif, flag_sort, name_of, no_name}

-- ---- what stands behind a beginning without `=`

abbrev pub has_no_equals : List ℕ → Bool
has_no_equals = list_all (λ b. not (b == 61))

-- the rest of a word behind a name ends it, or begins with `=`
abbrev pub ends_name : Option (List ℕ) → Bool
ends_name None = false
ends_name (Some []) = true
ends_name (Some (b ∷ bs)) = b == 61

abbrev pub name_in : List ℕ → List ℕ
name_in w = (name_and_value w).0

abbrev pub value_in : List ℕ → Option (List ℕ)
value_in w = (name_and_value w).1

not_true : (t : Bool) → not t ≡ true → t ≡ false
not_true true e = sym e
not_true false e = refl

none_is : {A : Type 0} (a : A) → None ≡ Some a → ⊥
none_is a e = false≢true (ap is_some e)

same_byte : (a b : ℕ) → (b == a) ≡ true → (a == b) ≡ true
same_byte a b e = eq-eqb a b (sym (eqb-true b a e))

other_byte : (a b : ℕ) → (b == a) ≡ false → (a == b) ≡ false
other_byte a b e = ne_eqb a b (λ h. false≢true (sym e ∙ eq-eqb b a (sym h)))

stays_other : (a b c : ℕ) → (b == a) ≡ true → (a == c) ≡ false → (b == c) ≡ false
stays_other a b c e n = ap (λ x. x == c) (eqb-true b a e) ∙ n

-- one byte more in front of the name, where it isn't `=`
name_more : (b : ℕ) (w : List ℕ) → (b == 61) ≡ false → name_in (b ∷ w) ≡ b ∷ name_in w
name_more b w n =
    let k = position_or_len (λ x. x == 61) w in
    let more : 1 + k ≡ suc k = omega arith in
    rw n (ap (λ m. take m (b ∷ w)) more)

value_more : (b : ℕ) (w : List ℕ) → (b == 61) ≡ false → value_in (b ∷ w) ≡ value_in w
value_more b w n =
    let k = position_or_len (λ x. x == 61) w in
    let more : 1 + k + 1 ≡ suc (k + 1) = omega arith in
    rw n (ap (λ m. cond (has_byte 61 w) (Some (drop m (b ∷ w))) None) more)

name_ends : (b : ℕ) (w : List ℕ) → (b == 61) ≡ true → name_in (b ∷ w) ≡ []
name_ends b w y = rw y refl

name_here : (w : List ℕ) → bytes_eq [] (name_in w) ≡ ends_name (Some w)
name_here [] = refl
name_here (b ∷ w) = ⊎_elim
    (λ (y : (b == 61) ≡ true). ap (bytes_eq []) (name_ends b w y) ∙ sym y)
    (λ (n : (b == 61) ≡ false). ap (bytes_eq []) (name_more b w n) ∙ sym n)
    (cases_Bool (b == 61))

-- the name of a word is this one where the word goes on as a name ends
pub name_is : (start w : List ℕ) → has_no_equals start ≡ true → bytes_eq start (name_in w) ≡ ends_name (behind start w)
name_is [] w clear = name_here w
name_is (a ∷ start) [] clear = refl
name_is (a ∷ start) (b ∷ w) clear =
    let parts = and_parts (not (a == 61)) (has_no_equals start) clear in
    let other = not_true (a == 61) parts.0 in
    ⊎_elim
    (λ (y : (b == a) ≡ true). ap (bytes_eq (a ∷ start)) (name_more b w (stays_other a b 61 y other))
    ∙ (ap (λ t. t && bytes_eq start (name_in w)) (same_byte a b y) ∙ (name_is start w parts.1 ∙ ap (λ t. ends_name (cond t (behind start w) None)) (sym y))))
    (λ (n : (b == a) ≡ false). ⊎_elim
    (λ (y : (b == 61) ≡ true). ap (bytes_eq (a ∷ start)) (name_ends b w y) ∙ ap (λ t. ends_name (cond t (behind start w) None)) (sym n))
    (λ (m : (b == 61) ≡ false). ap (bytes_eq (a ∷ start)) (name_more b w m)
    ∙ (ap (λ t. t && bytes_eq start (name_in w)) (other_byte a b n) ∙ ap (λ t. ends_name (cond t (behind start w) None)) (sym n)))
    (cases_Bool (b == 61)))
    (cases_Bool (b == a))

-- the value of a word is that of what stands behind the name
pub value_is : (start w rest : List ℕ) → has_no_equals start ≡ true → behind start w ≡ Some rest → value_in w ≡ value_in rest
value_is [] w rest clear e = ap (λ o. value_in (unwrap_or o [])) e
value_is (a ∷ start) [] rest clear e = absurd (none_is rest e)
value_is (a ∷ start) (b ∷ w) rest clear e =
    let parts = and_parts (not (a == 61)) (has_no_equals start) clear in
    let other = not_true (a == 61) parts.0 in
    ⊎_elim (λ (y : (b == a) ≡ true). value_more b w (stays_other a b 61 y other) ∙ value_is start w rest parts.1 (rw y at e))
    (λ (n : (b == a) ≡ false). absurd (none_is rest (rw n at e))) (cases_Bool (b == a))

-- what stands behind a beginning is nothing exactly where the word is that beginning
abbrev pub is_over : Option (List ℕ) → Bool
is_over None = false
is_over (Some []) = true
is_over (Some (b ∷ bs)) = false

pub same_is : (start w : List ℕ) → same_word w start ≡ is_over (behind start w)
same_is [] [] = refl
same_is [] (b ∷ w) = refl
same_is (a ∷ start) [] = refl
same_is (a ∷ start) (b ∷ w) = ⊎_elim
    (λ (y : (b == a) ≡ true). rw y (same_is start w))
    (λ (n : (b == a) ≡ false). rw n refl)
    (cases_Bool (b == a))

-- ---- the first letter of a short option

letter_of : (cs : List ℕ) (b : ℕ) (bs : List ℕ) → encode_utf8_all cs ≡ b ∷ bs → (c : ℕ) × (slice_get cs 0 ≡ Some c)
letter_of [] b bs e = absurd (omega (arith, ap length e))
letter_of (c ∷ cs) b bs e = (c, refl)

pub first_letter : (b : ℕ) (bs : List ℕ) → IsUtf8 (45 ∷ b ∷ bs) → (c : ℕ) × (slice_get (chars (b ∷ bs)) 0 ≡ Some c)
first_letter b bs u =
    let rest = IsUtf8-past_char (45 ∷ b ∷ bs) (b ∷ bs) 45 u (ap (λ l. l ++ (b ∷ bs)) (sym (encode_ascii 45 (omega arith)))) in
    letter_of (chars (b ∷ bs)) b bs (encodes-chars (b ∷ bs) rest)

-- ---- the ways in which a word looks

abbrev pub dashes : List ℕ
dashes = 45 ∷ 45 ∷ []

pub record IsPlain (w : List ℕ) : Type 0 where
  pub sort : sort_of w ≡ positional
  pub whole : is_dashed w ≡ false
  pub long : long_of w ≡ None
  pub short : short_of w ≡ None
  pub goes_on : bytes_eq w dashes ≡ false

pub record IsEnd (w : List ℕ) : Type 0 where
  pub sort : sort_of w ≡ ends
  pub dashed : is_dashed w ≡ true
  pub is : bytes_eq w dashes ≡ true

-- the sort of a long option by what stands behind its dashes
abbrev pub long_sort : List ℕ → Sort
long_sort text =
    cond (same_word text (codes "free")) frees
    (cond (same_word text (codes "blif")) blifs
    (option_sort (behind (codes "budget") text)))

pub record IsLong (w : List ℕ) : Type 0 where
  pub text : List ℕ
  pub sort : sort_of w ≡ long_sort text
  pub dashed : is_dashed w ≡ true
  pub long : long_of w ≡ Some (name_and_value text)
  pub goes_on : bytes_eq w dashes ≡ false

pub record IsShort (w : List ℕ) : Type 0 where
  pub first : ℕ
  pub others : List ℕ
  pub letter : ℕ
  pub sort : sort_of w ≡ refused
  pub dashed : is_dashed w ≡ true
  pub long : long_of w ≡ None
  pub short : short_of w ≡ Some (first ∷ others)
  pub starts : slice_get (chars (first ∷ others)) 0 ≡ Some letter
  pub goes_on : bytes_eq w dashes ≡ false

abbrev pub Looks : List ℕ → Type 0
Looks w = IsPlain w ⊎ (IsEnd w ⊎ (IsLong w ⊎ IsShort w))

single : (b : ℕ) → IsPlain (b ∷ [])
unfolding sort_of
single b = ⊎_elim
    (λ (y : (b == 45) ≡ true). record { sort = refl; whole = refl; long = rw y refl; short = rw y refl; goes_on = rw y refl })
    (λ (n : (b == 45) ≡ false). record { sort = refl; whole = refl; long = rw n refl; short = rw n refl; goes_on = rw n refl })
    (cases_Bool (b == 45))

undashed : (b c : ℕ) (w : List ℕ) → (b == 45) ≡ false → IsPlain (b ∷ c ∷ w)
unfolding sort_of
undashed b c w n = record { sort = rw n refl; whole = n; long = rw n refl; short = rw n refl; goes_on = rw n refl }

two_dashes : (b c : ℕ) (w : List ℕ) → (b == 45) ≡ true → (c == 45) ≡ true → Looks (b ∷ c ∷ w)
unfolding sort_of
two_dashes b c [] y z = inr (inl (record { sort = rw (y, z) refl; dashed = y; is = rw (y, z) refl }))
two_dashes b c (d ∷ w) y z = inr (inr (inl (record {
  text = d ∷ w;
  sort = rw (y, z) refl;
  dashed = y;
  long = rw (y, z) refl;
  goes_on = rw (y, z) refl;
})))

one_dash : (b c : ℕ) (w : List ℕ) → IsUtf8 (b ∷ c ∷ w) → (b == 45) ≡ true → (c == 45) ≡ false → IsShort (b ∷ c ∷ w)
unfolding sort_of
one_dash b c w u y n =
    let letter = first_letter c w (subst (λ x. IsUtf8 (x ∷ c ∷ w)) (eqb-true b 45 y) u) in
    record {
      first = c;
      others = w;
      letter = letter.0;
      sort = rw (y, n) refl;
      dashed = y;
      long = rw (y, n) refl;
      short = rw (y, n) refl;
      starts = letter.1;
      goes_on = rw (y, n) refl;
    }

-- a text is a plain word, `--`, a long option, or short ones
pub looks : (w : List ℕ) → IsUtf8 w → Looks w
unfolding sort_of
looks [] u = inl (record { sort = refl; whole = refl; long = refl; short = refl; goes_on = refl })
looks (b ∷ []) u = inl (single b)
looks (b ∷ c ∷ w) u = ⊎_elim
    (λ (y : (b == 45) ≡ true). ⊎_elim (two_dashes b c w y) (λ n. inr (inr (inr (one_dash b c w u y n)))) (cases_Bool (c == 45)))
    (λ (n : (b == 45) ≡ false). inl (undashed b c w n)) (cases_Bool (b == 45))

-- ---- a long option is one of the command's, with its value or apart from it, or none

pub record IsUnknown (w : List ℕ) (l : IsLong w) : Type 0 where
  pub sort : sort_of w ≡ refused
  pub budget : bytes_eq (codes "budget") (name_in l.text) ≡ false
  pub flag : (f : Flag) → bytes_eq (name_of f) (name_in l.text) ≡ false

pub record IsApart (w : List ℕ) (l : IsLong w) : Type 0 where
  pub sort : sort_of w ≡ apart
  pub same : bytes_eq (codes "budget") (name_in l.text) ≡ true
  pub none : value_in l.text ≡ None

pub record IsAttached (w : List ℕ) (l : IsLong w) : Type 0 where
  pub value : List ℕ
  pub sort : sort_of w ≡ attached value
  pub same : bytes_eq (codes "budget") (name_in l.text) ≡ true
  pub given : value_in l.text ≡ Some value

-- the word is a flag, alone or with a value
pub record IsFlag (w : List ℕ) (l : IsLong w) : Type 0 where
  pub flag : Flag
  pub sort : sort_of w ≡ flag_sort flag
  pub name : name_in l.text ≡ name_of flag
  pub none : value_in l.text ≡ None

pub record IsFlagWith (w : List ℕ) (l : IsLong w) : Type 0 where
  pub flag : Flag
  pub value : List ℕ
  pub sort : sort_of w ≡ refused
  pub name : name_in l.text ≡ name_of flag
  pub given : value_in l.text ≡ Some value

abbrev pub Means : (w : List ℕ) → IsLong w → Type 0
Means w l = IsUnknown w l ⊎ (IsApart w l ⊎ (IsAttached w l ⊎ (IsFlag w l ⊎ IsFlagWith w l)))

-- the name of a flag: it has no `=`, is sorted as the flag, and isn't the option's
clear : (f : Flag) → has_no_equals (name_of f) ≡ true
clear free = refl
clear blif = refl

sorted : (f : Flag) → long_sort (name_of f) ≡ flag_sort f
sorted free = refl
sorted blif = refl

not_budget : (f : Flag) → bytes_eq (codes "budget") (name_of f) ≡ false
not_budget free = refl
not_budget blif = refl

-- a word that isn't a flag alone is sorted as an option
as_option : (w : List ℕ) (l : IsLong w) (s : Sort) → ((f : Flag) → same_word l.text (name_of f) ≡ false) → option_sort (behind (codes "budget") l.text) ≡ s → sort_of w ≡ s
as_option w l s other e =
    l.sort
    ∙ (ap (λ t. cond t frees (cond (same_word l.text (codes "blif")) blifs (option_sort (behind (codes "budget") l.text)))) (other free)
    ∙ (ap (λ t. cond t blifs (option_sort (behind (codes "budget") l.text))) (other blif) ∙ e))

-- a word whose name isn't the option's is refused, if it isn't a flag alone
not_option : (o : Option (List ℕ)) → ends_name o ≡ false → option_sort o ≡ refused
not_option None e = refl
not_option (Some []) e = absurd (false≢true (sym e))
not_option (Some (b ∷ bs)) e = ap (λ t. cond t (attached bs) refused) e

-- a text whose name isn't the flag's, or that has a value, isn't the flag alone
not_flag : (o : Option (List ℕ)) → ends_name o ≡ false → is_over o ≡ false
not_flag None e = refl
not_flag (Some []) e = e
not_flag (Some (b ∷ bs)) e = refl

not_alone : (f : Flag) (text v : List ℕ) → value_in text ≡ Some v → same_word text (name_of f) ≡ false
not_alone f text v given = false_from_ne_true _ (λ y. none_is v (sym (no_value f) ∙ (ap value_in (sym ((bytes_eq-Decides text (name_of f)).0 y)) ∙ given)))
  where
    no_value : (f : Flag) → value_in (name_of f) ≡ None
    no_value free = refl
    no_value blif = refl

-- by what stands behind the flag's name
flag_behind : (f : Flag) (w : List ℕ) (l : IsLong w) (rest : Option (List ℕ)) → behind (name_of f) l.text ≡ rest → bytes_eq (name_of f) (name_in l.text) ≡ true → Means w l
flag_behind f w l None e y = absurd (false≢true (sym (name_is (name_of f) l.text (clear f) ∙ ap ends_name e) ∙ y))
flag_behind f w l (Some []) e y = inr (inr (inr (inl (record {
  flag = f;
  sort = l.sort ∙ (ap long_sort ((bytes_eq-Decides l.text (name_of f)).0 (same_is (name_of f) l.text ∙ ap is_over e)) ∙ sorted f);
  name = sym ((bytes_eq-Decides (name_of f) (name_in l.text)).0 y);
  none = value_is (name_of f) l.text [] (clear f) e;
}))))
flag_behind f w l (Some (b ∷ bs)) e y =
    let name : name_in l.text ≡ name_of f = sym ((bytes_eq-Decides (name_of f) (name_in l.text)).0 y) in
    let other : bytes_eq (codes "budget") (name_in l.text) ≡ false = ap (bytes_eq (codes "budget")) name ∙ not_budget f in
    let equals : (b == 61) ≡ true = sym (name_is (name_of f) l.text (clear f) ∙ ap ends_name e) ∙ y in
    let given : value_in l.text ≡ Some bs = value_is (name_of f) l.text (b ∷ bs) (clear f) e ∙ rw equals refl in
    inr (inr (inr (inr (record {
      flag = f;
      value = bs;
      sort =
          as_option w l refused (λ g. not_alone g l.text bs given)
          (not_option (behind (codes "budget") l.text) (sym (name_is (codes "budget") l.text refl) ∙ other));
      name = name;
      given = given;
    }))))

-- by what stands behind `budget`, where the name isn't a flag's
option_behind : (w : List ℕ) (l : IsLong w) (rest : Option (List ℕ)) → behind (codes "budget") l.text ≡ rest → ((f : Flag) → bytes_eq (name_of f) (name_in l.text) ≡ false) → Means w l
option_behind w l rest e m = by rest e
  where
    other : (f : Flag) → same_word l.text (name_of f) ≡ false
    other f = same_is (name_of f) l.text ∙ not_flag (behind (name_of f) l.text) (sym (name_is (name_of f) l.text (clear f)) ∙ m f)

    name : (o : Option (List ℕ)) → behind (codes "budget") l.text ≡ o → bytes_eq (codes "budget") (name_in l.text) ≡ ends_name o
    name o h = name_is (codes "budget") l.text refl ∙ ap ends_name h

    by : (o : Option (List ℕ)) → behind (codes "budget") l.text ≡ o → Means w l
    by None h = inl (record { sort = as_option w l refused other (ap option_sort h); budget = name None h; flag = m })
    by (Some []) h = inr (inl (record {
      sort = as_option w l apart other (ap option_sort h);
      same = name (Some []) h;
      none = value_is (codes "budget") l.text [] refl h;
    }))
    by (Some (b ∷ bs)) h = ⊎_elim
        (λ (y : (b == 61) ≡ true). inr (inr (inl (record {
          value = bs;
          sort = as_option w l (attached bs) other (ap option_sort h ∙ ap (λ t. cond t (attached bs) refused) y);
          same = name (Some (b ∷ bs)) h ∙ y;
          given = value_is (codes "budget") l.text (b ∷ bs) refl h ∙ rw y refl;
        }))))
        (λ (n : (b == 61) ≡ false). inl (record {
          sort = as_option w l refused other (ap option_sort h ∙ ap (λ t. cond t (attached bs) refused) n);
          budget = name (Some (b ∷ bs)) h ∙ n;
          flag = m;
        }))
        (cases_Bool (b == 61))

pub means : (w : List ℕ) (l : IsLong w) → Means w l
means w l = ⊎_elim
    (λ (y : bytes_eq (codes "free") (name_in l.text) ≡ true). flag_behind free w l (behind (codes "free") l.text) refl y)
    (λ (n : bytes_eq (codes "free") (name_in l.text) ≡ false). ⊎_elim
    (λ (y : bytes_eq (codes "blif") (name_in l.text) ≡ true). flag_behind blif w l (behind (codes "blif") l.text) refl y)
    (λ (m : bytes_eq (codes "blif") (name_in l.text) ≡ false). option_behind w l (behind (codes "budget") l.text) refl (no_name (name_in l.text) n m))
    (cases_Bool (bytes_eq (codes "blif") (name_in l.text))))
    (cases_Bool (bytes_eq (codes "free") (name_in l.text)))
