-- Parts that are those of items.
use Rattle.std.proofs.Common.{◌≡◌, ℕ, ◌+◌, ◌-◌, ◌≤◌, ◌<◌, List, [], ◌∷◌, ◌++◌, length, length-append, false, ◌==◌, refl, sym, ◌∙◌, ap, subst, append_assoc, arith}
use Rattle.std.proofs.lemmas.Bool.{cond-false}
use Rattle.std.proofs.lemmas.Bool.Decides.{nat_tests}
use Rattle.std.proofs.lemmas.List.{append-nil}
use Rattle.mv_base.specs.declared.limits.TheConstants.{MAX_SCRIPT_BRACES}
use Rattle.mv_script.specs.declared.part.Braces.{Braces}
use Rattle.mv_script.specs.declared.part.Braces.TheVariants.{Repeat as RepeatBraces, Better as BetterBraces}
use Rattle.mv_script.specs.declared.part.Part.{Part}
use Rattle.mv_script.specs.declared.part.PartKind.{PartKind}
use Rattle.mv_script.specs.declared.part.PartKind.TheVariants.{Do as DoPart, Open, Close}
use Rattle.mv_script.specs.Parts.{parts_of, kinds, outermost, depth_behind, IsBalanced}
use Rattle.mv_script.specs.Scripts.{Items, End, Do, Repeat, Better, deepest, item_counts}

-- the parts of an item with braces and of those behind it, before others
braced_before : (inside rest more : List PartKind) → (inside ++ Close ∷ rest) ++ more ≡ inside ++ (Close ∷ (rest ++ more))
braced_before inside rest more = append_assoc inside (Close ∷ rest) more

-- ---- how deep the braces go

-- where parts are balanced, the items that they begin with aren't too deep, and the parts behind these are balanced
pub record IsShallow (items : Items) (more : List PartKind) (depth : ℕ) : Type 0 where
  pub deep : depth + deepest items ≤ MAX_SCRIPT_BRACES
  pub balanced : IsBalanced more depth

pub shallow : (items : Items) (more : List PartKind) (d : ℕ) → d ≤ MAX_SCRIPT_BRACES → IsBalanced (parts_of items ++ more) d → IsShallow items more d
shallow End more d h b = record { deep = omega arith; balanced = b }
shallow (Do command rest) more d h b = let r = shallow rest more d h b.1 in record { deep = r.deep; balanced = r.balanced }
shallow (Repeat times inside rest) more d h b =
    let open_behind : IsBalanced (parts_of inside ++ (Close ∷ (parts_of rest ++ more))) (d + 1) = subst (λ ks. IsBalanced ks (d + 1)) (braced_before (parts_of inside) (parts_of rest) more) b.1 in
    let i = shallow inside (Close ∷ (parts_of rest ++ more)) (d + 1) (let less : d < MAX_SCRIPT_BRACES = b.0 in omega arith) open_behind in
    let back : IsBalanced (parts_of rest ++ more) d = subst (λ n. IsBalanced (parts_of rest ++ more) n) (omega arith) i.balanced.1 in
    let r = shallow rest more d h back in
    let x = i.deep in let y = r.deep in
    record { deep = omega arith; balanced = r.balanced }
shallow (Better inside rest) more d h b =
    let open_behind : IsBalanced (parts_of inside ++ (Close ∷ (parts_of rest ++ more))) (d + 1) = subst (λ ks. IsBalanced ks (d + 1)) (braced_before (parts_of inside) (parts_of rest) more) b.1 in
    let i = shallow inside (Close ∷ (parts_of rest ++ more)) (d + 1) (let less : d < MAX_SCRIPT_BRACES = b.0 in omega arith) open_behind in
    let back : IsBalanced (parts_of rest ++ more) d = subst (λ n. IsBalanced (parts_of rest ++ more) n) (omega arith) i.balanced.1 in
    let r = shallow rest more d h back in
    let x = i.deep in let y = r.deep in
    record { deep = omega arith; balanced = r.balanced }

-- ---- the items that stand in no braces

-- the first of these parts is this, and those behind it are these
pub record IsFirst (k : PartKind) (ks : List PartKind) (parts : List Part) : Type 0 where
  pub first : Part
  pub others : List Part
  pub is : parts ≡ first ∷ others
  pub kind : first.kind ≡ k
  pub behind : kinds others ≡ ks

first_part : (k : PartKind) (ks : List PartKind) (parts : List Part) → kinds parts ≡ k ∷ ks → IsFirst k ks parts
first_part k ks [] e = let bad : [] ≡ k ∷ ks = e in absurd cc
first_part k ks (p ∷ parts) e =
    let both : p.kind ∷ kinds parts ≡ k ∷ ks = e in
    let same : p.kind ≡ k = cc in
    let rest : kinds parts ≡ ks = cc in
    record { first = p; others = parts; is = refl; kind = same; behind = rest }

-- one part that stands in braces
one_inside : (k : PartKind) (ks : List PartKind) (parts : List Part) (d : ℕ) (f : IsFirst k ks parts) → outermost parts (d + 1) ≡ outermost f.others (depth_behind k (d + 1))
one_inside k ks parts d f =
    let some : ((d + 1) == 0) ≡ false = grind (arith, nat_tests) in
    ap (λ ps. outermost ps (d + 1)) f.is ∙ ap (λ t. t ++ outermost f.others (depth_behind f.first.kind (d + 1))) (cond-false ((d + 1) == 0) (f.first.place ∷ []) [] some)
    ∙ ap (λ x. outermost f.others (depth_behind x (d + 1))) f.kind

-- one part that stands in no braces
one_outside : (k : PartKind) (ks : List PartKind) (parts : List Part) (f : IsFirst k ks parts) → length (outermost parts 0) ≡ 1 + length (outermost f.others (depth_behind k 0))
one_outside k ks parts f =
    ap (λ ps. length (outermost ps 0)) f.is ∙ length-append (f.first.place ∷ []) (outermost f.others (depth_behind f.first.kind 0))
    ∙ ap (λ x. 1 + length (outermost f.others (depth_behind x 0))) f.kind

-- the parts behind those of some items, where no item begins outside all braces
pub record StaysInside (parts : List Part) (more : List PartKind) (d : ℕ) : Type 0 where
  pub left : List Part
  pub are : kinds left ≡ more
  pub same : outermost parts (d + 1) ≡ outermost left (d + 1)

-- an item with braces and those behind it, in braces
item_inside : (braces : Braces) (inside rest : Items) (more : List PartKind) (parts : List Part) (d : ℕ) → kinds parts ≡ Open braces ∷ ((parts_of inside ++ Close ∷ parts_of rest) ++ more) → ((ps : List Part) → kinds ps ≡ parts_of inside ++ (Close ∷ (parts_of rest ++ more)) → StaysInside ps (Close ∷ (parts_of rest ++ more)) (d + 1)) → ((ps : List Part) → kinds ps ≡ parts_of rest ++ more → StaysInside ps more d) → StaysInside parts more d
item_inside braces inside rest more parts d e within behind =
    let f = first_part (Open braces) ((parts_of inside ++ Close ∷ parts_of rest) ++ more) parts e in
    let i = within f.others (f.behind ∙ braced_before (parts_of inside) (parts_of rest) more) in
    let g = first_part Close (parts_of rest ++ more) i.left i.are in
    let r = behind g.others g.behind in
    let down : (d + 1) + 1 - 1 ≡ d + 1 = omega arith in
    record {
      left = r.left;
      are = r.are;
      same =
          one_inside (Open braces) _ parts d f ∙ i.same ∙ one_inside Close _ i.left (d + 1) g
          ∙ ap (λ n. outermost g.others n) down ∙ r.same;
    }

pub inside_all : (items : Items) (more : List PartKind) (parts : List Part) (d : ℕ) → kinds parts ≡ parts_of items ++ more → StaysInside parts more d
inside_all End more parts d e = record { left = parts; are = e; same = refl }
inside_all (Do command rest) more parts d e =
    let f = first_part (DoPart command) (parts_of rest ++ more) parts e in
    let r = inside_all rest more f.others d f.behind in
    record { left = r.left; are = r.are; same = one_inside (DoPart command) _ parts d f ∙ r.same }
inside_all (Repeat times inside rest) more parts d e =
    item_inside (RepeatBraces times) inside rest more parts d e (λ ps h. inside_all inside (Close ∷ (parts_of rest ++ more)) ps (d + 1) h) (λ ps h. inside_all rest more ps d h)
inside_all (Better inside rest) more parts d e =
    item_inside BetterBraces inside rest more parts d e (λ ps h. inside_all inside (Close ∷ (parts_of rest ++ more)) ps (d + 1) h) (λ ps h. inside_all rest more ps d h)

-- the parts behind those of some items, of which so many begin outside all braces
pub record BeginsOutside (parts : List Part) (more : List PartKind) (count : ℕ) : Type 0 where
  pub left : List Part
  pub are : kinds left ≡ more
  pub size : length (outermost parts 0) ≡ count + length (outermost left 0)

-- an item with braces and those behind it, in no braces
item_outside : (braces : Braces) (inside rest : Items) (more : List PartKind) (parts : List Part) (count : ℕ) → kinds parts ≡ Open braces ∷ ((parts_of inside ++ Close ∷ parts_of rest) ++ more) → ((ps : List Part) → kinds ps ≡ parts_of rest ++ more → BeginsOutside ps more count) → BeginsOutside parts more (count + 1)
item_outside braces inside rest more parts count e behind =
    let f = first_part (Open braces) ((parts_of inside ++ Close ∷ parts_of rest) ++ more) parts e in
    let i = inside_all inside (Close ∷ (parts_of rest ++ more)) f.others 0 (f.behind ∙ braced_before (parts_of inside) (parts_of rest) more) in
    let g = first_part Close (parts_of rest ++ more) i.left i.are in
    let r = behind g.others g.behind in
    let one = one_outside (Open braces) _ parts f in
    let same : length (outermost f.others (0 + 1)) ≡ length (outermost i.left (0 + 1)) = ap (λ ps. length ps) i.same in
    let close : length (outermost i.left (0 + 1)) ≡ length (outermost g.others 0) = ap (λ ps. length ps) (one_inside Close _ i.left 0 g) in
    let size = r.size in
    record { left = r.left; are = r.are; size = omega arith }

outside_all : (items : Items) (more : List PartKind) (parts : List Part) → kinds parts ≡ parts_of items ++ more → BeginsOutside parts more (length (item_counts items))
outside_all End more parts e = record { left = parts; are = e; size = omega arith }
outside_all (Do command rest) more parts e =
    let f = first_part (DoPart command) (parts_of rest ++ more) parts e in
    let r = outside_all rest more f.others f.behind in
    let one = one_outside (DoPart command) _ parts f in
    let size = r.size in
    let longer : length (1 ∷ item_counts rest) ≡ length (item_counts rest) + 1 = omega arith in
    record { left = r.left; are = r.are; size = omega arith }
outside_all (Repeat times inside rest) more parts e =
    let r = item_outside (RepeatBraces times) inside rest more parts (length (item_counts rest)) e (λ ps h. outside_all rest more ps h) in
    let size = r.size in
    record { left = r.left; are = r.are; size = omega arith }
outside_all (Better inside rest) more parts e =
    let r = item_outside BetterBraces inside rest more parts (length (item_counts rest)) e (λ ps h. outside_all rest more ps h) in
    let size = r.size in
    record { left = r.left; are = r.are; size = omega arith }

none_left : (left : List Part) → kinds left ≡ [] → length (outermost left 0) ≡ 0
none_left [] e = refl
none_left (p ∷ left) e = let bad : p.kind ∷ kinds left ≡ [] = e in absurd cc

-- as many places as items
pub places_size : (items : Items) (parts : List Part) → kinds parts ≡ parts_of items → length (outermost parts 0) ≡ length (item_counts items)
places_size items parts e =
    let r = outside_all items [] parts (e ∙ sym (append-nil (parts_of items))) in
    let size = r.size in
    let none = none_left r.left r.are in
    omega arith
