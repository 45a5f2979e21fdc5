-- Lawful covers: more lines stay lawful, and what is left of lawful lines can spare none.
use Rattle.std.proofs.Common.{◌≡◌, ◌⊎◌, ◌∙◌, ℕ, zero, suc, ◌+◌, ◌<◌, Bool, true, false, not, ◌&&◌, nat_eq, List, [], ◌∷◌, ◌++◌, append_assoc, drop, length, get_or, All, Contains, Option, refl, sym, ap, subst, inl, inr, ⊎_elim, arith}
use Rattle.std.specs.List.{list_any}
use Rattle.std.proofs.lemmas.Bool.{cases_Bool, false≢true, or_cases, or_left, or_right, and_parts, and_from, eqb-true, not-true, not_from_false, false_from_ne_true}
use Rattle.std.proofs.lemmas.List.{append-nil, length-append}
use Rattle.std.proofs.lemmas.List.Elements.{All-contains, Contains-append_cases, Contains-append_left, Contains-append_right}
use Rattle.mv_base.specs.Set.{has, empty}
use Rattle.mv_cover.specs.Covers.{default_gives}
use Rattle.mv_cover.specs.Cubes.{matches}
use Rattle.mv_cover.specs.Equal.{line_eq}
use Rattle.mv_cover.specs.Keys.{line_eq-Decides}
use Rattle.mv_cover.specs.Lines.{lines_differ}
use Rattle.mv_cover.specs.declared.cover.Cover.{Cover}
use Rattle.mv_cover.specs.declared.line.Line.{Line}
use Rattle.mv_cover.proofs.Absorbing.{any_at, find_any}
use Rattle.mv_flex.specs.Checks.{default_chooses}
use Rattle.mv_flex.specs.Left.{AreLeft, IsLawful, IsLineInside}
use Rattle.mv_flex.proofs.Allowing.{allowed_by}
use Rattle.mv_flex.proofs.Leaving.{all_without}
use Rattle.mv_flex.proofs.Checking.{allows_some, some_chosen}
use Rattle.mv_net.specs.declared.parts.FlatNet.{FlatNet}
use Rattle.mv_net.specs.declared.window.Window.{Window}
use Rattle.mv_tight.specs.Growing.{AreGrown}
use Rattle.mv_tight.specs.Tight.{AreSome, IsGrownLine}

-- ---- lists in parts

-- each of these lines is one of those
pub record AreAmong (xs ys : List Line) : Type 0 where
  pub each : (l : Line) → Contains xs l → Contains ys l

any_among : (p : Line → Bool) (xs ys : List Line) → AreAmong xs ys → list_any p xs ≡ true → list_any p ys ≡ true
any_among p xs ys among h = let l = find_any p xs h in any_at p ys l.x (among.each l.x l.there) l.pass

pub contains_here : (l : Line) (ls : List Line) → Contains (l ∷ ls) l
contains_here l ls = (0, omega arith, refl)

pub contains_behind : (x : Line) (ls : List Line) (l : Line) → Contains ls l → Contains (x ∷ ls) l
contains_behind x ls l c = Contains-append_right (x ∷ []) ls l c

-- a line less
pub among_more : (xs : List Line) (l : Line) (ys : List Line) → AreAmong (xs ++ ys) (xs ++ l ∷ ys)
among_more xs l ys = record {
  each = λ x c.
      ⊎_elim
      (λ (a : Contains xs x). Contains-append_left xs (l ∷ ys) x a)
      (λ (b : Contains ys x). Contains-append_right xs (l ∷ ys) x (contains_behind l ys x b))
      (Contains-append_cases xs ys x c);
}

-- where a list with one line more at its end has a line in the midst
pub record IsLast (front : List Line) (l : Line) (f : List Line) (x : Line) (b : List Line) : Type 0 where
  pub first : f ≡ front
  pub back : b ≡ []

pub record IsEarlier (front : List Line) (l : Line) (f : List Line) (x : Line) (b : List Line) : Type 0 where
  pub rest : List Line
  pub back : b ≡ rest ++ l ∷ []
  pub first : front ≡ f ++ x ∷ rest

same_tail : (x y : Line) (xs ys : List Line) → x ∷ xs ≡ y ∷ ys → xs ≡ ys
same_tail x y xs ys e = ap (drop 1) e

same_head : (x y : Line) (xs ys : List Line) → x ∷ xs ≡ y ∷ ys → x ≡ y
same_head x y xs ys e = ap (λ l. get_or l 0 x) e

pub last_split : (front : List Line) (l : Line) (f : List Line) (x : Line) (b : List Line) → front ++ l ∷ [] ≡ f ++ x ∷ b → IsLast front l f x b ⊎ IsEarlier front l f x b
last_split [] l [] x b e = inl (record { first = refl; back = sym (same_tail l x [] b e) })
last_split [] l (y ∷ f) x b e =
    let long : 0 ≡ length f + length (x ∷ b) = ap length (same_tail l y [] (f ++ x ∷ b) e) ∙ length-append f (x ∷ b) in
    absurd (omega (arith, long))
last_split (z ∷ front) l [] x b e =
    inr (record { rest = front; back = sym (same_tail z x (front ++ l ∷ []) b e); first = (λ i. same_head z x (front ++ l ∷ []) b e i ∷ front) })
last_split (z ∷ front) l (y ∷ f) x b e =
    let head = same_head z y (front ++ l ∷ []) (f ++ x ∷ b) e in
    ⊎_elim
    (λ (a : IsLast front l f x b). inl (record { first = (λ i. sym head i ∷ a.first i); back = a.back }))
    (λ (a : IsEarlier front l f x b). inr (record { rest = a.rest; back = a.back; first = (λ i. head i ∷ a.first i) }))
    (last_split front l f x b (same_tail z y (front ++ l ∷ []) (f ++ x ∷ b) e))

-- none of the lines in front can be spared, with the others there
pub record AreNeeded (Enough : List Line → Type 0) (front ls : List Line) : Type 0 where
  pub each : (f : List Line) (x : Line) (b : List Line) → front ≡ f ++ x ∷ b → Enough ((f ++ b) ++ ls) → ⊥

-- what is left behind those in front is some of the lines, each grown from an old one
pub record IsLeftBehind (olds front left : List Line) : Type 0 where
  pub tail : List Line
  pub is : left ≡ front ++ tail
  pub some : AreSome IsGrownLine olds tail

-- ---- more lines

-- a line that chooses matches
pub chosen_met : (at : ℕ → ℕ) (ls : List Line) → list_any (λ (l : Line). matches at l.cube && not (nat_eq l.out empty)) ls ≡ true → list_any (λ (l : Line). matches at l.cube) ls ≡ true
chosen_met at ls h =
    let l = find_any (λ (l : Line). matches at l.cube && not (nat_eq l.out empty)) ls h in
    any_at (λ (l : Line). matches at l.cube) ls l.x l.there (and_parts (matches at l.x.cube) (not (nat_eq l.x.out empty)) l.pass).0

-- where a line that gives some value matches some value is chosen
pub line_chooses : (nets : List (Option FlatNet)) (w : Window) (n : ℕ) (ls : List Line) (at : ℕ → ℕ) → All (IsLineInside nets w n) ls → list_any (λ (l : Line). matches at l.cube) ls ≡ true → list_any (λ (l : Line). matches at l.cube && not (nat_eq l.out empty)) ls ≡ true
line_chooses nets w n ls at inside h =
    let l = find_any (λ (l : Line). matches at l.cube) ls h in
    any_at (λ (k : Line). matches at k.cube && not (nat_eq k.out empty)) ls l.x l.there
    (and_from (matches at l.x.cube) (not (nat_eq l.x.out empty)) l.pass
    (not_from_false (nat_eq l.x.out empty)
    (false_from_ne_true (nat_eq l.x.out empty) (λ e. (All-contains (IsLineInside nets w n) ls l.x inside l.there).some (eqb-true l.x.out empty e)))))

module _ (nets : List (Option FlatNet)) (w : Window) (n : ℕ) (old : Cover) (default : Option ℕ) where
  -- the lines with the default are lawful
  abbrev pub Lawful : List Line → Type 0
  Lawful ls = IsLawful nets w n old (record { lines = ls; default = default })

  pub lawful_by : (xs ys : List Line) → ((at : ℕ → ℕ) → list_any (λ (l : Line). matches at l.cube) xs ≡ true → list_any (λ (l : Line). matches at l.cube) ys ≡ true) → All (IsLineInside nets w n) ys → Lawful xs → Lawful ys
  lawful_by xs ys met inside lawful = record {
    inside = record {
      each = λ at v pair h.
          ⊎_elim
          (λ (line : list_any (λ (l : Line). matches at l.cube && has l.out v) ys ≡ true).
          let l = find_any (λ (l : Line). matches at l.cube && has l.out v) ys line in
          let both = and_parts (matches at l.x.cube) (has l.x.out v) l.pass in
          (All-contains (IsLineInside nets w n) ys l.x inside l.there).inside.each at v pair both.0 both.1)
          (λ (rest : (not (list_any (λ (l : Line). matches at l.cube) ys) && default_gives default v) ≡ true).
          let both = and_parts (not (list_any (λ (l : Line). matches at l.cube) ys)) (default_gives default v) rest in
          let none : list_any (λ (l : Line). matches at l.cube) xs ≡ false =
          false_from_ne_true (list_any (λ (l : Line). matches at l.cube) xs) (λ y. false≢true (sym (not-true (list_any (λ (l : Line). matches at l.cube) ys) both.0) ∙ met at y)) in
          lawful.inside.each at v pair
          (allowed_by (record { lines = xs; default = default }) at v
          ∙ or_right (list_any (λ (l : Line). matches at l.cube && has l.out v) xs) (not (list_any (λ (l : Line). matches at l.cube) xs) && default_gives default v)
          (and_from (not (list_any (λ (l : Line). matches at l.cube) xs)) (default_gives default v) (not_from_false (list_any (λ (l : Line). matches at l.cube) xs) none) both.1)))
          (or_cases (list_any (λ (l : Line). matches at l.cube && has l.out v) ys) (not (list_any (λ (l : Line). matches at l.cube) ys) && default_gives default v)
          (sym (allowed_by (record { lines = ys; default = default }) at v) ∙ h));
    };
    keeps = record {
      each = λ at point some.
          allows_some (record { lines = ys; default = default }) at
          (⊎_elim
          (λ (line : list_any (λ (l : Line). matches at l.cube && not (nat_eq l.out empty)) xs ≡ true).
          or_left (list_any (λ (l : Line). matches at l.cube && not (nat_eq l.out empty)) ys) (not (list_any (λ (l : Line). matches at l.cube) ys) && default_chooses default)
          (line_chooses nets w n ys at inside (met at (chosen_met at xs line))))
          (λ (rest : (not (list_any (λ (l : Line). matches at l.cube) xs) && default_chooses default) ≡ true).
          let both = and_parts (not (list_any (λ (l : Line). matches at l.cube) xs)) (default_chooses default) rest in
          ⊎_elim
          (λ (there : list_any (λ (l : Line). matches at l.cube) ys ≡ true).
          or_left (list_any (λ (l : Line). matches at l.cube && not (nat_eq l.out empty)) ys) (not (list_any (λ (l : Line). matches at l.cube) ys) && default_chooses default)
          (line_chooses nets w n ys at inside there))
          (λ (none : list_any (λ (l : Line). matches at l.cube) ys ≡ false).
          or_right (list_any (λ (l : Line). matches at l.cube && not (nat_eq l.out empty)) ys) (not (list_any (λ (l : Line). matches at l.cube) ys) && default_chooses default)
          (and_from (not (list_any (λ (l : Line). matches at l.cube) ys)) (default_chooses default) (not_from_false (list_any (λ (l : Line). matches at l.cube) ys) none) both.1))
          (cases_Bool (list_any (λ (l : Line). matches at l.cube) ys)))
          (or_cases (list_any (λ (l : Line). matches at l.cube && not (nat_eq l.out empty)) xs) (not (list_any (λ (l : Line). matches at l.cube) xs) && default_chooses default)
          (some_chosen (record { lines = xs; default = default }) at (lawful.keeps.each at point some))));
    };
  }

  pub lawful_more : (xs ys : List Line) → AreAmong xs ys → All (IsLineInside nets w n) ys → Lawful xs → Lawful ys
  lawful_more xs ys among inside lawful = lawful_by xs ys (λ at h. any_among (λ (l : Line). matches at l.cube) xs ys among h) inside lawful

  -- ---- what is left

  pub left_lawful : (front ls left : List Line) → Lawful (front ++ ls) → AreLeft Lawful front ls left → Lawful left
  left_lawful front [] left lawful a = subst Lawful (sym a) (subst Lawful (append-nil front) lawful)
  left_lawful front (l ∷ ls) left lawful a =
      ⊎_elim
      (λ (goes : Lawful (front ++ ls) × AreLeft Lawful front ls left). left_lawful front ls left goes.0 goes.1)
      (λ (stays : (Lawful (front ++ ls) → ⊥) × AreLeft Lawful (front ++ l ∷ []) ls left).
      left_lawful (front ++ l ∷ []) ls left (subst Lawful (sym (append_assoc front (l ∷ []) ls)) lawful) stays.1)
      a

  without : (front ls f : List Line) (x : Line) (b : List Line) → front ≡ f ++ x ∷ b → All (IsLineInside nets w n) (front ++ ls) → All (IsLineInside nets w n) ((f ++ b) ++ ls)
  without front ls f x b e inside =
      subst (All (IsLineInside nets w n)) (sym (append_assoc f b ls))
      (all_without (IsLineInside nets w n) f x (b ++ ls)
      (subst (All (IsLineInside nets w n)) (append_assoc f (x ∷ b) ls) (subst (λ k. All (IsLineInside nets w n) (k ++ ls)) e inside)))

  pub left_needed : (front ls left : List Line) → All (IsLineInside nets w n) (front ++ ls) → AreNeeded Lawful front ls → AreLeft Lawful front ls left → (f : List Line) (x : Line) (b : List Line) → left ≡ f ++ x ∷ b → Lawful (f ++ b) → ⊥
  left_needed front [] left inside needed a f x b e lawful = needed.each f x b (sym a ∙ e) (subst Lawful (sym (append-nil (f ++ b))) lawful)
  left_needed front (l ∷ ls) left inside needed a f x b e lawful =
      ⊎_elim
      (λ (goes : Lawful (front ++ ls) × AreLeft Lawful front ls left).
      left_needed front ls left (all_without (IsLineInside nets w n) front l ls inside)
      (record {
        each = λ g y d split rest.
            needed.each g y d split (lawful_more ((g ++ d) ++ ls) ((g ++ d) ++ l ∷ ls) (among_more (g ++ d) l ls) (without front (l ∷ ls) g y d split inside) rest);
      })
      goes.1 f x b e lawful)
      (λ (stays : (Lawful (front ++ ls) → ⊥) × AreLeft Lawful (front ++ l ∷ []) ls left).
      left_needed (front ++ l ∷ []) ls left (subst (All (IsLineInside nets w n)) (sym (append_assoc front (l ∷ []) ls)) inside)
      (record {
        each = λ g y d split rest.
            ⊎_elim
            (λ (last : IsLast front l g y d).
            stays.0 (subst (λ k. Lawful (k ++ ls)) ((λ i. last.first i ++ last.back i) ∙ append-nil front) rest))
            (λ (early : IsEarlier front l g y d).
            needed.each g y early.rest early.first
            (subst Lawful
            ((λ i. (g ++ early.back i) ++ ls) ∙ append_assoc g (early.rest ++ l ∷ []) ls ∙ ap (λ k. g ++ k) (append_assoc early.rest (l ∷ []) ls) ∙ sym (append_assoc g early.rest (l ∷ ls)))
            rest))
            (last_split front l g y d split);
      })
      stays.1 f x b e lawful)
      a

  pub left_some : (olds front ls left : List Line) → AreGrown nets w n olds ls → AreLeft Lawful front ls left → IsLeftBehind olds front left
  left_some [] front [] left grown a = record { tail = []; is = a ∙ sym (append-nil front); some = tt }
  left_some [] front (l ∷ ls) left grown a = absurd grown
  left_some (o ∷ olds) front [] left grown a = absurd grown
  left_some (o ∷ olds) front (l ∷ ls) left grown a =
      ⊎_elim
      (λ (goes : Lawful (front ++ ls) × AreLeft Lawful front ls left).
      let rest = left_some olds front ls left grown.1 goes.1 in
      record { tail = rest.tail; is = rest.is; some = one_less o olds rest.tail rest.some })
      (λ (stays : (Lawful (front ++ ls) → ⊥) × AreLeft Lawful (front ++ l ∷ []) ls left).
      let rest = left_some olds (front ++ l ∷ []) ls left grown.1 stays.1 in
      record {
        tail = l ∷ rest.tail;
        is = rest.is ∙ append_assoc front (l ∷ []) rest.tail;
        some = inl (record { out = grown.0.out; cube = grown.0.cube }, rest.some);
      })
      a
    where
      one_less : (x : Line) (xs ys : List Line) → AreSome IsGrownLine xs ys → AreSome IsGrownLine (x ∷ xs) ys
      one_less x xs [] h = tt
      one_less x xs (y ∷ ys) h = inr h

  -- what holds of all lines holds of those that are left
  pub left_all : (P : Line → Type 0) (front ls left : List Line) → All P (front ++ ls) → AreLeft Lawful front ls left → All P left
  left_all P front [] left all a = subst (All P) (sym a) (subst (All P) (append-nil front) all)
  left_all P front (l ∷ ls) left all a =
      ⊎_elim
      (λ (goes : Lawful (front ++ ls) × AreLeft Lawful front ls left). left_all P front ls left (all_without P front l ls all) goes.1)
      (λ (stays : (Lawful (front ++ ls) → ⊥) × AreLeft Lawful (front ++ l ∷ []) ls left).
      left_all P (front ++ l ∷ []) ls left (subst (All P) (sym (append_assoc front (l ∷ []) ls)) all) stays.1)
      a

  -- lines of which none can be spared are distinct
  pub are_distinct : (left : List Line) → All (IsLineInside nets w n) left → Lawful left → ((f : List Line) (x : Line) (b : List Line) → left ≡ f ++ x ∷ b → Lawful (f ++ b) → ⊥) → (f rest : List Line) → left ≡ f ++ rest → lines_differ rest ≡ true
  are_distinct left inside lawful needed f [] e = refl
  are_distinct left inside lawful needed f (x ∷ b) e =
      and_from (not (list_any (line_eq x) b)) (lines_differ b)
      (not_from_false (list_any (line_eq x) b)
      (false_from_ne_true (list_any (line_eq x) b) (λ twice.
      let y = find_any (line_eq x) b twice in
      let same : x ≡ y.x = (line_eq-Decides x y.x).0 y.pass in
      needed f x b e
      (lawful_more left (f ++ b)
      (record {
        each = λ k c.
            ⊎_elim
            (λ (a : Contains f k). Contains-append_left f b k a)
            (λ (d : Contains (x ∷ b) k).
            ⊎_elim
            (λ (here : Contains (x ∷ []) k). Contains-append_right f b k (subst (Contains b) (sym same ∙ only x k here) y.there))
            (λ (later : Contains b k). Contains-append_right f b k later)
            (Contains-append_cases (x ∷ []) b k d))
            (Contains-append_cases f (x ∷ b) k (subst (λ ls. Contains ls k) e c));
      })
      (all_without (IsLineInside nets w n) f x b (subst (All (IsLineInside nets w n)) e inside)) lawful))))
      (are_distinct left inside lawful needed (f ++ x ∷ []) b (e ∙ sym (append_assoc f (x ∷ []) b)))
    where
      only_at : (z k : Line) (i : ℕ) → i < length (z ∷ []) → get_or (z ∷ []) i k ≡ k → z ≡ k
      only_at z k zero low is = is
      only_at z k (suc i) low is = absurd (omega (arith, low))

      only : (z k : Line) → Contains (z ∷ []) k → z ≡ k
      only z k c = only_at z k c.0 c.1 c.2
