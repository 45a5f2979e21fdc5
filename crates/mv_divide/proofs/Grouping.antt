-- Lines put to their groups one by one.
use Rattle.std.proofs.Common.{◌≡◌, ◌∙◌, ℕ, zero, suc, ◌<◌, Bool, true, false, List, [], ◌∷◌, ◌++◌, length, get_or, set, slice_get, position, Option, Some, IfSome, map, filter, Contains, refl, sym, ap, subst, arith, nat_eq}
use Rattle.std.proofs.lemmas.Bool.{false≢true, cond-true, cond-false, eqb-true, eq-eqb, or_parts, false_from_ne_true}
use Rattle.std.proofs.lemmas.List.{map-append, append-nil, get_or-map, length-map}
use Rattle.std.proofs.lemmas.List.Folds.{list_any_at}
use Rattle.std.proofs.lemmas.List.Quantifiers.{position-Some}
use Rattle.std.proofs.lemmas.Option.{slice_get-get_or}
use Rattle.std.proofs.lemmas.List.Sums.{fold-append}
use Rattle.std.proofs.lemmas.List.Elements.{filter-append, All-contains, Contains-get_or, All-from_recursion}
use Rattle.std.proofs.lemmas.Map.Keys.{IsDistinct-head, IsDistinct-tail}
use Rattle.std.proofs.lemmas.Map.Views.{list_any-from_Contains}
use Rattle.std.specs.Cmp.{decided, unsigned_Decides}
use Rattle.std.specs.List.{list_any, IsDistinct, AllByRecursion}
use Rattle.indexmap.specs.IndexSet.{insert_key, insert_all}
use Rattle.mv_cover.specs.Literal.{Lit}
use Rattle.mv_cover.specs.declared.line.Line.{Line}
use Rattle.mv_kernels.proofs.Lists.{Contains-first, Contains-behind, Contains-map, insert_all-has}
use Rattle.mv_divide.specs.declared.part.Group.{Group}
use Rattle.mv_divide.specs.Tables.{outputs, cover_of, parts_of}
use Rattle.mv_divide.specs.Grouped.{group_of, groups_by, AreGrouped, with_cube, as_part}

-- ---- the output sets and the covers with one line more

outputs_more : (ls : List Line) (l : Line) → outputs (ls ++ l ∷ []) ≡ insert_key nat_eq (outputs ls) l.out
outputs_more ls l =
    ap (insert_all nat_eq []) (map-append (λ (x : Line). x.out) ls (l ∷ [])) ∙ fold-append (insert_key nat_eq) [] (map (λ (x : Line). x.out) ls) (l.out ∷ [])

abbrev has_out : ℕ → Line → Bool
has_out out l = nat_eq l.out out

cover_more : (ls : List Line) (l : Line) (out : ℕ) → cover_of (ls ++ l ∷ []) out ≡ cover_of ls out ++ map (λ (x : Line). x.cube) (filter (has_out out) (l ∷ []))
cover_more ls l out =
    ap (map (λ (x : Line). x.cube)) (filter-append (has_out out) ls (l ∷ [])) ∙ map-append (λ (x : Line). x.cube) (filter (has_out out) ls) (filter (has_out out) (l ∷ []))

cover_same : (ls : List Line) (l : Line) (out : ℕ) → nat_eq l.out out ≡ true → cover_of (ls ++ l ∷ []) out ≡ cover_of ls out ++ l.cube ∷ []
cover_same ls l out t =
    cover_more ls l out ∙ ap (λ (xs : List Line). cover_of ls out ++ map (λ (x : Line). x.cube) xs) (cond-true (nat_eq l.out out) (l ∷ []) [] t)

cover_other : (ls : List Line) (l : Line) (out : ℕ) → nat_eq l.out out ≡ false → cover_of (ls ++ l ∷ []) out ≡ cover_of ls out
cover_other ls l out f =
    cover_more ls l out ∙ (ap (λ (xs : List Line). cover_of ls out ++ map (λ (x : Line). x.cube) xs) (cond-false (nat_eq l.out out) (l ∷ []) [] f) ∙ append-nil (cover_of ls out))

filter_none : {X : Type 0} (p : X → Bool) (xs : List X) → ((x : X) → Contains xs x → p x ≡ false) → filter p xs ≡ []
filter_none p [] f = refl
filter_none p (x ∷ xs) f =
    cond-false (p x) (x ∷ filter p xs) (filter p xs) (f x (Contains-first x xs)) ∙ filter_none p xs (λ y i. f y (Contains-behind y x xs i))

-- an output set that no line has has no cubes
cover_none : (ls : List Line) (out : ℕ) → list_any (nat_eq out) (outputs ls) ≡ false → cover_of ls out ≡ []
cover_none ls out f =
    ap (map (λ (x : Line). x.cube)) (filter_none (has_out out) ls (λ l i.
    false_from_ne_true (nat_eq l.out out) (λ t.
    let held : Contains (outputs ls) l.out =
    All-contains (Contains (outputs ls)) (map (λ (x : Line). x.out) ls) l.out
    (insert_all-has nat_eq eqb-true [] (map (λ (x : Line). x.out) ls)) (Contains-map (λ (x : Line). x.out) ls l i) in
    let there : Contains (outputs ls) out = subst (Contains (outputs ls)) (eqb-true l.out out t) held in
    false≢true (sym f ∙ list_any-from_Contains {eq = nat_eq} (decided nat_eq unsigned_Decides) out (outputs ls) there))))

-- ---- the groups with one line more

-- groups of other output sets stay
groups_same : (ls : List Line) (l : Line) (outs : List ℕ) → AllByRecursion (λ (out : ℕ). nat_eq l.out out ≡ false) outs → groups_by ls outs ≡ groups_by (ls ++ l ∷ []) outs
groups_same ls l [] a = refl
groups_same ls l (out ∷ outs) a =
    let here = cover_other ls l out a.0 in
    let rest = groups_same ls l outs a.1 in
    λ i. record { out = out; cubes = sym here i } ∷ rest i

apart_turned : (a b : ℕ) → nat_eq a b ≡ false → nat_eq b a ≡ false
apart_turned a b f = false_from_ne_true (nat_eq b a) (λ t. false≢true (sym f ∙ eq-eqb a b (sym (eqb-true b a t))))

-- in a group of its own output set the line is put
set_groups : (ls : List Line) (l : Line) (outs : List ℕ) (at : ℕ) → at < length outs → nat_eq l.out (get_or outs at 0) ≡ true → IsDistinct nat_eq outs → set (groups_by ls outs) at (group_of (ls ++ l ∷ []) l.out) ≡ groups_by (ls ++ l ∷ []) outs
set_groups ls l [] at low t d = absurd (omega arith)
set_groups ls l (out ∷ outs) zero low t d =
    let e : l.out ≡ out = eqb-true l.out out t in
    let others : AllByRecursion (λ (x : ℕ). nat_eq l.out x ≡ false) outs = subst (λ (o : ℕ). AllByRecursion (λ (x : ℕ). nat_eq o x ≡ false) outs) (sym e) (IsDistinct-head nat_eq out outs d) in
    let rest = groups_same ls l outs others in
    λ i. group_of (ls ++ l ∷ []) (e i) ∷ rest i
set_groups ls l (out ∷ outs) (suc at) low t d =
    let within : at < length outs = omega arith in
    let e : l.out ≡ get_or outs at 0 = eqb-true l.out (get_or outs at 0) t in
    let apart : nat_eq out (get_or outs at 0) ≡ false =
    All-contains (λ (x : ℕ). nat_eq out x ≡ false) outs (get_or outs at 0) (All-from_recursion (λ (x : ℕ). nat_eq out x ≡ false) outs (IsDistinct-head nat_eq out outs d)) (Contains-get_or outs at 0 within) in
    let other : nat_eq l.out out ≡ false = apart_turned out l.out (subst (λ (x : ℕ). nat_eq out x ≡ false) (sym e) apart) in
    let here = cover_other ls l out other in
    let rest = set_groups ls l outs at within t (IsDistinct-tail nat_eq out outs d) in
    λ i. record { out = out; cubes = sym here i } ∷ rest i

-- a line of an output set that is there
grouped_there : (ls : List Line) (l : Line) (outs : List ℕ) (old new : List Group) (at : ℕ) → at < length outs → nat_eq l.out (get_or outs at 0) ≡ true → list_any (nat_eq l.out) outs ≡ true → new ≡ set old at (with_cube (group_of ls l.out) l.cube) → AreGrouped ls outs old → AreGrouped (ls ++ l ∷ []) outs new
grouped_there ls l outs old new at low t some is a = record {
  distinct = a.distinct;
  order =
      sym (outputs_more ls l ∙ cond-true (list_any (nat_eq l.out) (outputs ls)) (outputs ls) (outputs ls ++ l.out ∷ []) (subst (λ (xs : List ℕ). list_any (nat_eq l.out) xs ≡ true) a.order some) ∙ sym a.order);
  each =
      is ∙ ((λ i. set (a.each i) at (record { out = l.out; cubes = sym (cover_same ls l l.out (eq-eqb l.out l.out refl)) i })) ∙ set_groups ls l outs at low t a.distinct);
}

-- the same, as it is found and put
pub grouped_put : (ls : List Line) (l : Line) (outs : List ℕ) (old new : List Group) (at : ℕ) (cube : List Lit) → position (nat_eq l.out) outs ≡ Some at → cube ≡ l.cube → IfSome (slice_get old at) (λ g. new ≡ set old at (with_cube g cube)) → AreGrouped ls outs old → AreGrouped (ls ++ l ∷ []) outs new
grouped_put ls l outs old new at cube found copied put a =
    let pos = position-Some (nat_eq l.out) outs at 0 found in
    let here : l.out ≡ get_or outs at 0 = eqb-true l.out (get_or outs at 0) pos.1 in
    let long : at < length (groups_by ls outs) = subst (λ k. at < k) (sym (length-map outs (group_of ls))) pos.0 in
    let is : slice_get old at ≡ Some (group_of ls l.out) =
    ap (λ (gs : List Group). slice_get gs at) a.each ∙ (slice_get-get_or (groups_by ls outs) at (group_of ls 0) long ∙
    ap Some (get_or-map (group_of ls) outs at 0 (group_of ls 0) pos.0 ∙ ap (group_of ls) (sym here))) in
    let written : new ≡ set old at (with_cube (group_of ls l.out) cube) = subst (λ (o : Option Group). IfSome o (λ g. new ≡ set old at (with_cube g cube))) is put in
    grouped_there ls l outs old new at pos.0 pos.1 (list_any_at (nat_eq l.out) outs at 0 pos.0 pos.1)
    (written ∙ ap (λ (q : List Lit). set old at (with_cube (group_of ls l.out) q)) copied) a

-- a line of a new output set
pub grouped_new : (ls : List Line) (l : Line) (outs later : List ℕ) (old new : List Group) → list_any (nat_eq l.out) outs ≡ false → later ≡ insert_key nat_eq outs l.out → IsDistinct nat_eq later → new ≡ old ++ record { out = l.out; cubes = l.cube ∷ [] } ∷ [] → AreGrouped ls outs old → AreGrouped (ls ++ l ∷ []) later new
grouped_new ls l outs later old new none put distinct is a =
    let more : later ≡ outs ++ l.out ∷ [] = put ∙ cond-false (list_any (nat_eq l.out) outs) outs (outs ++ l.out ∷ []) none in
    let empty : cover_of ls l.out ≡ [] = cover_none ls l.out (subst (λ (xs : List ℕ). list_any (nat_eq l.out) xs ≡ false) a.order none) in
    let one : cover_of (ls ++ l ∷ []) l.out ≡ l.cube ∷ [] = cover_same ls l l.out (eq-eqb l.out l.out refl) ∙ ap (λ (xs : List (List Lit)). xs ++ l.cube ∷ []) empty in
    let others : AllByRecursion (λ (x : ℕ). nat_eq l.out x ≡ false) outs = none_equal l.out outs none in
    record {
      distinct = distinct;
      order = put ∙ (ap (λ (xs : List ℕ). insert_key nat_eq xs l.out) a.order ∙ sym (outputs_more ls l));
      each =
          is ∙ ((λ i. (a.each ∙ groups_same ls l outs others) i ++ record { out = l.out; cubes = sym one i } ∷ []) ∙
          (sym (map-append (group_of (ls ++ l ∷ [])) outs (l.out ∷ [])) ∙ ap (groups_by (ls ++ l ∷ [])) (sym more)));
    }
  where
    none_equal : (out : ℕ) (outs : List ℕ) → list_any (nat_eq out) outs ≡ false → AllByRecursion (λ (x : ℕ). nat_eq out x ≡ false) outs
    none_equal out [] f = tt
    none_equal out (x ∷ xs) f = let p = or_parts (nat_eq out x) (list_any (nat_eq out) xs) f in (p.0, none_equal out xs p.1)

-- ---- the covers of a table

-- the groups of all lines are the covers
pub parts_are : (lines : List Line) (outs : List ℕ) (groups : List Group) → AreGrouped lines outs groups → map as_part groups ≡ parts_of lines
parts_are lines outs groups a =
    ap (map as_part) a.each ∙ (through outs ∙ ap (map (λ (out : ℕ). record { out = out; cover = cover_of lines out })) a.order)
  where
    through : (outs : List ℕ) → map as_part (groups_by lines outs) ≡ map (λ (out : ℕ). record { out = out; cover = cover_of lines out }) outs
    through [] = refl
    through (out ∷ outs) = λ i. record { out = out; cover = cover_of lines out } ∷ through outs i

pub none_grouped : (outs : List ℕ) (groups : List Group) → outs ≡ [] → groups ≡ [] → AreGrouped [] outs groups
unfolding IsDistinct
none_grouped outs groups e f = record {
  distinct = subst (λ (xs : List ℕ). IsDistinct nat_eq xs) (sym e) tt;
  order = e;
  each = f ∙ sym (ap (groups_by []) e);
}
