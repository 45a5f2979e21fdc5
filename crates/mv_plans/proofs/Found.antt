-- Lines that are looked for among others: which were found, and what that says of the lines as sets.
use Rattle.std.proofs.Common.{◌≡◌, ◌∙◌, ℕ, zero, suc, ◌+◌, ◌<◌, ◌≤◌, Bool, true, false, ◌||◌, List, [], ◌∷◌, ◌++◌, length, get_or, take, append-nil, All, IsTrue, inl, inr, refl, sym, ap, subst, arith}
use Rattle.std.specs.Prelude.{◌↔◌, MatchBool}
use Rattle.std.specs.List.{list_any, flat_map}
use Rattle.std.proofs.Math.Bool.{or-false}
use Rattle.std.proofs.lemmas.Bool.{cases_Bool, or_cases, or_left, or_right, false≢true}
use Rattle.std.proofs.lemmas.List.{take_all, take_more}
use Rattle.std.proofs.lemmas.List.Elements.{All-nil, All-cons, All-contains}
use Rattle.std.proofs.lemmas.List.Folds.{list_any-append}
use Rattle.indexmap.specs.IndexSet.{insert_key}
use Rattle.mv_composite.proofs.Meaning.{both_true}
use Rattle.mv_composite.proofs.Puts.{given_more}
use Rattle.mv_cover.specs.declared.line.Line.{Line}
use Rattle.mv_cover.specs.Equal.{line_eq}
use Rattle.mv_cover.specs.Keys.{line_eq-Decides}
use Rattle.mv_cover.proofs.Absorbing.{find_any}
use Rattle.mv_plans.specs.Expanding.{AreSameLines, HasFound, HasMissed}

-- ---- one line more

or_assoc : (a b c : Bool) → ((a || b) || c) ≡ (a || (b || c))
or_assoc true b c = refl
or_assoc false b c = refl

or_there : (a b : Bool) → (b ≡ true → a ≡ true) → a ≡ (a || b)
or_there true b h = refl
or_there false true h = h refl
or_there false false h = refl

-- equal lines stand in the same lists
equal_there : (l k : Line) (ls : List Line) → line_eq l k ≡ true → list_any (line_eq k) ls ≡ true → list_any (line_eq l) ls ≡ true
equal_there l k ls e h = subst (λ m. list_any (line_eq m) ls ≡ true) (sym ((line_eq-Decides l k).0 e)) h

inserted_any : (l x : Line) (keys : List Line) → list_any (line_eq l) (insert_key line_eq keys x) ≡ (list_any (line_eq l) keys || line_eq l x)
inserted_any l x keys =
    elim (cases_Bool (list_any (line_eq x) keys)) [
      | inl t ↦ rw t (or_there (list_any (line_eq l) keys) (line_eq l x) (λ e. equal_there l x keys e t))
      | inr f ↦ rw f (list_any-append (line_eq l) keys (x ∷ []) ∙ ap (λ b. list_any (line_eq l) keys || b) (or-false (line_eq l x)))
    ]

-- ---- what was found

pub found_none : (wanted a : List Line) → HasFound wanted a [] a
found_none wanted a = record { found = λ l. ap (list_any (line_eq l)) (sym (append-nil a)); among = λ l h. absurd (false≢true h) }

pub found_one : (wanted old new : List Line) (x : Line) → new ≡ insert_key line_eq old x → list_any (line_eq x) wanted ≡ true → HasFound wanted old (x ∷ []) new
found_one wanted old new x is there = record {
  found = λ l.
      ap (list_any (line_eq l)) is ∙ (inserted_any l x old ∙ sym (list_any-append (line_eq l) old (x ∷ []) ∙ ap (λ b. list_any (line_eq l) old || b) (or-false (line_eq l x))));
  among = λ l h. equal_there l x wanted (sym (or-false (line_eq l x)) ∙ h) there;
}

pub found_more : (wanted a b c xs ys : List Line) → HasFound wanted a xs b → HasFound wanted b ys c → HasFound wanted a (xs ++ ys) c
found_more wanted a b c xs ys p q = record {
  found = λ l.
      let one = list_any (line_eq l) in
      q.found l
      ∙ (list_any-append (line_eq l) b ys
      ∙ (ap (λ t. t || one ys) (p.found l ∙ list_any-append (line_eq l) a xs)
      ∙ (or_assoc (one a) (one xs) (one ys)
      ∙ (ap (λ t. one a || t) (sym (list_any-append (line_eq l) xs ys)) ∙ sym (list_any-append (line_eq l) a (xs ++ ys))))));
  among = λ l h.
      elim (or_cases (list_any (line_eq l) xs) (list_any (line_eq l) ys) (sym (list_any-append (line_eq l) xs ys) ∙ h)) [
        | inl x ↦ p.among l x
        | inr y ↦ q.among l y
      ];
}

pub missed_one : (wanted : List Line) (x : Line) → list_any (line_eq x) wanted ≡ false → HasMissed wanted (x ∷ [])
missed_one wanted x missed = record { line = x; there = or_left (line_eq x x) false ((line_eq-Decides x x).1 refl); missed = missed }

-- ---- in a loop over what gives lines

module _ (g : Line → List Line) (xs : List Line) (i : ℕ) where
  pub found_next : (x : Line) (wanted a b c : List Line) → i < length xs → x ≡ get_or xs i x → HasFound wanted a (flat_map g (take i xs)) b → HasFound wanted b (g x) c → HasFound wanted a (flat_map g (take (i + 1) xs)) c
  found_next x wanted a b c low e p q =
      let P : List Line → Type 0 = λ ls. HasFound wanted a ls c in
      subst P (sym (given_more g xs i x low e)) (found_more wanted a b c (flat_map g (take i xs)) (g x) p q)

  pub found_all : (wanted a b : List Line) → length xs ≤ i → HasFound wanted a (flat_map g (take i xs)) b → HasFound wanted a (flat_map g xs) b
  found_all wanted a b past p = let P : List Line → Type 0 = λ ls. HasFound wanted a (flat_map g ls) b in subst P (take_all i xs past) p

given_at : (p : Line → Bool) (g : Line → List Line) (xs : List Line) (i : ℕ) (x : Line) → i < length xs → x ≡ get_or xs i x → list_any p (g x) ≡ true → list_any p (flat_map g xs) ≡ true
given_at p g [] i x low e h = absurd (let bad : i < 0 = low in omega (arith, bad))
given_at p g (y ∷ ys) zero x low e h = list_any-append p (g y) (flat_map g ys) ∙ or_left (list_any p (g y)) (list_any p (flat_map g ys)) (ap (λ z. list_any p (g z)) (sym e) ∙ h)
given_at p g (y ∷ ys) (suc i) x low e h = list_any-append p (g y) (flat_map g ys) ∙ or_right (list_any p (g y)) (list_any p (flat_map g ys)) (given_at p g ys i x (omega (arith, low)) e h)

pub missed_next : (g : Line → List Line) (xs : List Line) (i : ℕ) (x : Line) (wanted : List Line) → i < length xs → x ≡ get_or xs i x → HasMissed wanted (g x) → HasMissed wanted (flat_map g xs)
missed_next g xs i x wanted low e m = record { line = m.line; there = given_at (line_eq m.line) g xs i x low e m.there; missed = m.missed }

-- ---- lines as a set

pub same_none : AreSameLines [] []
same_none = record { same = λ l. refl }

pub same_next : (keys new lines : List Line) (i : ℕ) (x y : Line) → i < length lines → x ≡ get_or lines i x → y ≡ x → new ≡ insert_key line_eq keys y → AreSameLines keys (take i lines) → AreSameLines new (take (i + 1) lines)
same_next keys new lines i x y low e copy is same = record {
  same = λ l.
      let one = list_any (line_eq l) in
      ap one is
      ∙ (inserted_any l y keys
      ∙ ((λ j. same.same l j || line_eq l (copy j))
      ∙ (ap (λ b. one (take i lines) || b) (sym (or-false (line_eq l x)))
      ∙ (sym (list_any-append (line_eq l) (take i lines) (x ∷ [])) ∙ ap one (ap (λ z. take i lines ++ z ∷ []) e ∙ sym (take_more lines i x low))))));
}

pub same_all : (keys lines : List Line) (i : ℕ) → length lines ≤ i → AreSameLines keys (take i lines) → AreSameLines keys lines
same_all keys lines i past same = subst (AreSameLines keys) (take_all i lines past) same

-- ---- each of the lines in a set

all_listed : (Q : Line → Type 0) (ls : List Line) → ((l : Line) → list_any (line_eq l) ls ≡ true → Q l) → All Q ls
all_listed Q [] each = All-nil Q
all_listed Q (l ∷ ls) each =
    All-cons Q l ls (each l (or_left (line_eq l l) (list_any (line_eq l) ls) ((line_eq-Decides l l).1 refl)))
    (all_listed Q ls (λ k h. each k (or_right (line_eq k l) (list_any (line_eq k) ls) h)))

at_listed : (Q : Line → Type 0) (ls : List Line) → All Q ls → (l : Line) → list_any (line_eq l) ls ≡ true → Q l
at_listed Q ls all l h = let k = find_any (line_eq l) ls h in subst Q (sym ((line_eq-Decides l k.x).0 k.pass)) (All-contains Q ls k.x all k.there)

-- a line was missed, so the lines aren't the same
pub missed_other : (wanted old lines : List Line) → AreSameLines wanted old → HasMissed wanted lines → AreSameLines lines old → ⊥
missed_other wanted old lines is m same = false≢true (sym m.missed ∙ (is.same m.line ∙ (sym (same.same m.line) ∙ m.there)))

-- all were found, so they are the same where each of the wanted lines was
pub found_same : (each : Bool) (wanted old lines found : List Line) → AreSameLines wanted old → HasFound wanted [] lines found → (IsTrue each ↔ All (λ (l : Line). list_any (line_eq l) found ≡ true) old) → MatchBool each (AreSameLines lines old) (AreSameLines lines old → ⊥)
found_same true wanted old lines found is has all = record {
  same = λ l. both_true (list_any (line_eq l) lines) (list_any (line_eq l) old) (λ h. sym (is.same l) ∙ has.among l h)
      (λ h. sym (has.found l) ∙ at_listed (λ (k : Line). list_any (line_eq k) found ≡ true) old (all.0 refl) l h);
}
found_same false wanted old lines found is has all =
    λ same. false≢true (all.1 (all_listed (λ (k : Line). list_any (line_eq k) found ≡ true) old (λ l h. has.found l ∙ (same.same l ∙ h))))
