-- Literals and lines that are said over numbers, one after the other.
use Rattle.std.proofs.Common.{◌≡◌, ◌∙◌, ℕ, ◌+◌, ◌<◌, ◌≤◌, Bool, true, false, not, ◌&&◌, ◌||◌, cond, Option, List, [], ◌∷◌, ◌++◌, length, get_or, take, drop, map, refl, sym, ap, subst, ⊎_elim, All}
use Rattle.std.specs.List.{list_any}
use Rattle.std.proofs.lemmas.Bool.{false≢true, cases_Bool, and_parts, and_from, and_right, not-true, or_cases, or_from, or_parts, or_right, false_from_ne_true}
use Rattle.std.proofs.lemmas.List.{take_more, take_all, take-append-drop, drop_more, map-append}
use Rattle.std.proofs.lemmas.List.Elements.{All-nil, All-cons, All-head, All-tail, All-push, All-get_or}
use Rattle.std.proofs.lemmas.List.Folds.{list_any-append}
use Rattle.mv_cover.specs.Literal.{Lit}
use Rattle.mv_cover.specs.declared.line.Line.{Line}
use Rattle.mv_cover.specs.Equal.{line_eq}
use Rattle.mv_cover.specs.Keys.{line_eq-Decides}
use Rattle.mv_cover.specs.Lines.{lines_differ}
use Rattle.mv_net.specs.declared.parts.FlatNet.{FlatNet}
use Rattle.mv_net.specs.Formed.{IsLiteral}
use Rattle.mv_entry.specs.declared.rule.BodyLit.{BodyLit}
use Rattle.mv_entry.specs.declared.rule.BodyLine.{BodyLine}
use Rattle.mv_body.specs.Bodies.{literal_said, literals_said, line_said, lines_said, AreLiterals, IsTidyLine, AreTidyLines}

-- the list up to a place and one more, and the list parted there
more_is : {X : Type 0} (xs : List X) (i : ℕ) (x : X) → i < length xs → x ≡ get_or xs i x → take (i + 1) xs ≡ take i xs ++ x ∷ []
more_is xs i x low is = take_more xs i x low ∙ ap (λ y. take i xs ++ y ∷ []) (sym is)

parted_at : {X : Type 0} (xs : List X) (i : ℕ) (x : X) → i < length xs → x ≡ get_or xs i x → xs ≡ take i xs ++ x ∷ drop (i + 1) xs
parted_at xs i x low is =
    sym (take-append-drop i xs) ∙ ap (λ t. take i xs ++ t) (drop_more xs i x low ∙ ap (λ y. y ∷ drop (i + 1) xs) (sym is))

-- ---- literals

pub literals_none : (nets : List (Option FlatNet)) → AreLiterals nets [] []
literals_none nets = record { is = refl; each = All-nil (IsLiteral nets) }

pub literals_more : (nets : List (Option FlatNet)) (xs : List BodyLit) (i : ℕ) (x : BodyLit) (said new : List Lit) (l : Lit) → i < length xs → x ≡ get_or xs i x → AreLiterals nets (take i xs) said → l ≡ literal_said nets x → IsLiteral nets l → new ≡ said ++ l ∷ [] → AreLiterals nets (take (i + 1) xs) new
literals_more nets xs i x said new l low at are e is n = record {
  is =
      n ∙ ((λ j. are.is j ++ e j ∷ [])
      ∙ (sym (map-append (literal_said nets) (take i xs) (x ∷ [])) ∙ ap (literals_said nets) (sym (more_is xs i x low at))));
  each = subst (λ (ls : List Lit). All (IsLiteral nets) ls) (sym n) (All-push (IsLiteral nets) said l are.each is);
}

pub literals_all : (nets : List (Option FlatNet)) (xs : List BodyLit) (i : ℕ) (said : List Lit) → length xs ≤ i → AreLiterals nets (take i xs) said → AreLiterals nets xs said
literals_all nets xs i said past are = subst (λ (ls : List BodyLit). AreLiterals nets ls said) (take_all i xs past) are

all_from_map : {X Y : Type 0} (P : X → Type 0) (f : Y → X) (ys : List Y) → All P (map f ys) → All (λ y. P (f y)) ys
all_from_map P f [] h = All-nil (λ y. P (f y))
all_from_map P f (y ∷ ys) h =
    All-cons (λ z. P (f z)) y ys (All-head P (f y) (map f ys) h) (all_from_map P f ys (All-tail P (f y) (map f ys) h))

pub literals_untidy : (nets : List (Option FlatNet)) (xs : List BodyLit) (i : ℕ) (x : BodyLit) (l : Lit) → i < length xs → x ≡ get_or xs i x → l ≡ literal_said nets x → (IsLiteral nets l → ⊥) → All (IsLiteral nets) (literals_said nets xs) → ⊥
literals_untidy nets xs i x l low at e untidy all =
    let each = all_from_map (IsLiteral nets) (literal_said nets) xs all in
    let here : IsLiteral nets (literal_said nets (get_or xs i x)) = All-get_or (λ y. IsLiteral nets (literal_said nets y)) xs i x low each in
    untidy (subst (IsLiteral nets) (sym (e ∙ ap (literal_said nets) at)) here)

-- ---- lines that differ

line_eq-sym : (a b : Line) → line_eq a b ≡ line_eq b a
line_eq-sym a b =
    ⊎_elim
    (λ (y : line_eq a b ≡ true). y ∙ sym ((line_eq-Decides b a).1 (sym ((line_eq-Decides a b).0 y))))
    (λ (n : line_eq a b ≡ false). n ∙ sym (false_from_ne_true (line_eq b a) (λ y. false≢true (sym n ∙ (line_eq-Decides a b).1 (sym ((line_eq-Decides b a).0 y))))))
    (cases_Bool (line_eq a b))

differ-push : (us : List Line) (w : Line) → lines_differ us ≡ true → list_any (line_eq w) us ≡ false → lines_differ (us ++ w ∷ []) ≡ true
differ-push [] w d new = refl
differ-push (u ∷ us) w d new =
    let p = and_parts (not (list_any (line_eq u) us)) (lines_differ us) d in
    let n = or_parts (line_eq w u) (list_any (line_eq w) us) new in
    let none : list_any (line_eq u) (us ++ w ∷ []) ≡ false = list_any-append (line_eq u) us (w ∷ []) ∙ or_from _ _ (not-true _ p.0) (or_from _ _ (line_eq-sym u w ∙ n.0) refl) in
    and_from _ _ (ap not none) (differ-push us w p.1 n.1)

differ-repeated : (us ws : List Line) (w : Line) → list_any (line_eq w) us ≡ true → lines_differ (us ++ w ∷ ws) ≡ false
differ-repeated [] ws w e = absurd (false≢true e)
differ-repeated (u ∷ us) ws w e =
    ⊎_elim
    (λ (y : line_eq w u ≡ true).
    let here : line_eq u w ≡ true = line_eq-sym u w ∙ y in
    let some : list_any (line_eq u) (us ++ w ∷ ws) ≡ true = list_any-append (line_eq u) us (w ∷ ws) ∙ or_right (list_any (line_eq u) us) _ (ap (λ b. b || list_any (line_eq u) ws) here) in
    ap (λ b. not b && lines_differ (us ++ w ∷ ws)) some)
    (λ (y : list_any (line_eq w) us ≡ true). and_right (not (list_any (line_eq u) (us ++ w ∷ ws))) _ (differ-repeated us ws w y))
    (or_cases (line_eq w u) (list_any (line_eq w) us) e)

-- ---- lines that were taken

-- the keys are what these lines say, and the lines may be lines of a tidy body
pub record AreTaken (nets : List (Option FlatNet)) (values : ℕ) (ls : List BodyLine) (keys : List Line) : Type 0 where
  pub is : keys ≡ lines_said nets ls
  pub tidy : AreTidyLines nets values ls

pub taken_none : (nets : List (Option FlatNet)) (values : ℕ) → AreTaken nets values [] []
taken_none nets values = record { is = refl; tidy = record { each = All-nil (IsTidyLine nets values); differ = refl } }

said-push : (nets : List (Option FlatNet)) (ls : List BodyLine) (x : BodyLine) → lines_said nets (ls ++ x ∷ []) ≡ lines_said nets ls ++ line_said nets x ∷ []
said-push nets ls x = map-append (line_said nets) ls (x ∷ [])

pub taken_more : (nets : List (Option FlatNet)) (values : ℕ) (xs : List BodyLine) (i : ℕ) (x : BodyLine) (keys new : List Line) (l : Line) → i < length xs → x ≡ get_or xs i x → AreTaken nets values (take i xs) keys → IsTidyLine nets values x → l ≡ line_said nets x → list_any (line_eq l) keys ≡ false → new ≡ cond (list_any (line_eq l) keys) keys (keys ++ l ∷ []) → AreTaken nets values (take (i + 1) xs) new
taken_more nets values xs i x keys new l low at are tidy e fresh n =
    let before = take i xs in
    let pushed : new ≡ keys ++ l ∷ [] = n ∙ ap (λ b. cond b keys (keys ++ l ∷ [])) fresh in
    let said : new ≡ lines_said nets (before ++ x ∷ []) = pushed ∙ ((λ j. are.is j ++ e j ∷ []) ∙ sym (said-push nets before x)) in
    let apart : list_any (line_eq (line_said nets x)) (lines_said nets before) ≡ false = (λ j. list_any (line_eq (sym e j)) (sym are.is j)) ∙ fresh in
    let differ : lines_differ (lines_said nets (before ++ x ∷ [])) ≡ true = ap lines_differ (said-push nets before x) ∙ differ-push (lines_said nets before) (line_said nets x) are.tidy.differ apart in
    subst (λ (ls : List BodyLine). AreTaken nets values ls new) (sym (more_is xs i x low at)) (record {
      is = said;
      tidy = record { each = All-push (IsTidyLine nets values) before x are.tidy.each tidy; differ = differ };
    })

pub taken_twice : (nets : List (Option FlatNet)) (values : ℕ) (xs : List BodyLine) (i : ℕ) (x : BodyLine) (keys : List Line) (l : Line) → i < length xs → x ≡ get_or xs i x → AreTaken nets values (take i xs) keys → l ≡ line_said nets x → list_any (line_eq l) keys ≡ true → AreTidyLines nets values xs → ⊥
taken_twice nets values xs i x keys l low at are e twice tidy =
    let before = take i xs in
    let behind = drop (i + 1) xs in
    let some : list_any (line_eq (line_said nets x)) (lines_said nets before) ≡ true = (λ j. list_any (line_eq (sym e j)) (sym are.is j)) ∙ twice in
    let split : lines_said nets xs ≡ lines_said nets before ++ line_said nets x ∷ lines_said nets behind = ap (lines_said nets) (parted_at xs i x low at) ∙ map-append (line_said nets) before (x ∷ behind) in
    false≢true (sym (differ-repeated (lines_said nets before) (lines_said nets behind) (line_said nets x) some) ∙ (ap lines_differ (sym split) ∙ tidy.differ))

pub line_untidy : (nets : List (Option FlatNet)) (values : ℕ) (xs : List BodyLine) (i : ℕ) (x : BodyLine) → i < length xs → x ≡ get_or xs i x → (IsTidyLine nets values x → ⊥) → AreTidyLines nets values xs → ⊥
line_untidy nets values xs i x low at untidy tidy =
    untidy (subst (IsTidyLine nets values) (sym at) (All-get_or (IsTidyLine nets values) xs i x low tidy.each))

pub among_keys : (b r : Bool) → r ≡ not b → r ≡ false → b ≡ true
among_keys true r e f = refl
among_keys false r e f = absurd (false≢true (sym f ∙ e))

pub new_key : (b r : Bool) → r ≡ not b → r ≡ true → b ≡ false
new_key false r e t = refl
new_key true r e t = absurd (false≢true (sym e ∙ t))

pub taken_all : (nets : List (Option FlatNet)) (values : ℕ) (xs : List BodyLine) (i : ℕ) (keys : List Line) → length xs ≤ i → AreTaken nets values (take i xs) keys → AreTaken nets values xs keys
taken_all nets values xs i keys past are = subst (λ (ls : List BodyLine). AreTaken nets values ls keys) (take_all i xs past) are
