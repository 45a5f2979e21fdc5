-- Parts and items are one to one, where each brace is closed.
use Rattle.std.proofs.Common.{◌≡◌, ℕ, ◌+◌, ◌-◌, ◌≤◌, ◌<◌, List, [], ◌∷◌, ◌++◌, length, flat_map, refl, sym, ◌∙◌, ap, subst, append_assoc, arith}
use Rattle.std.proofs.lemmas.List.{append-nil}
use Rattle.mv_base.specs.declared.limits.TheConstants.{MAX_SCRIPT_BRACES}
use Rattle.mv_script.specs.declared.part.Braces.{Braces}
use Rattle.mv_script.specs.declared.part.Braces.TheVariants.{Repeat as RepeatBraces, Better as BetterBraces}
use Rattle.mv_script.specs.declared.part.PartKind.{PartKind}
use Rattle.mv_script.specs.declared.part.PartKind.TheVariants.{Do as DoPart, Open, Close}
use Rattle.mv_script.specs.Parts.{parts_of, braced, IsBalanced}
use Rattle.mv_script.specs.Scripts.{Items, End, Do, Repeat, Better, deepest}

-- ---- items of parts

-- items that stand within the innermost braces, and those behind these braces and those around them
pub record Nested : Type 0 where
  pub inner : Items
  pub outer : List Items

-- an item with braces before what was put together
abbrev opened : Braces → Items → List Items → Nested
opened braces inner [] = record { inner = End; outer = [] }
opened braces inner (rest ∷ outer) = record { inner = braced braces inner rest; outer = outer }

-- the items of parts, put together from their end
abbrev pub nested : List PartKind → Nested
nested [] = record { inner = End; outer = [] }
nested (DoPart command ∷ ks) = record { inner = Do command (nested ks).inner; outer = (nested ks).outer }
nested (Open braces ∷ ks) = opened braces (nested ks).inner (nested ks).outer
nested (Close ∷ ks) = record { inner = End; outer = (nested ks).inner ∷ (nested ks).outer }

-- items before others
abbrev joined : Items → Items → Items
joined End others = others
joined (Do command rest) others = Do command (joined rest others)
joined (Repeat times inside rest) others = Repeat times inside (joined rest others)
joined (Better inside rest) others = Better inside (joined rest others)

joined-End : (items : Items) → joined items End ≡ items
joined-End End = refl
joined-End (Do command rest) = ap (Do command) (joined-End rest)
joined-End (Repeat times inside rest) = ap (Repeat times inside) (joined-End rest)
joined-End (Better inside rest) = ap (Better inside) (joined-End rest)

-- what was put together, with items before it
abbrev onto : Items → Nested → Nested
onto items n = record { inner = joined items n.inner; outer = n.outer }

nested_item : (braces : Braces) (inside rest : List PartKind) (i r : Items) (ks : List PartKind) → ((more : List PartKind) → nested (inside ++ more) ≡ onto i (nested more)) → nested (rest ++ ks) ≡ onto r (nested ks) → nested ((Open braces ∷ inside ++ Close ∷ rest) ++ ks) ≡ record { inner = braced braces i (joined r (nested ks).inner); outer = (nested ks).outer }
nested_item braces inside rest i r ks within behind =
    ap (λ x. nested (Open braces ∷ x)) (append_assoc inside (Close ∷ rest) ks)
    ∙ ap (λ n. opened braces n.inner n.outer) (within (Close ∷ (rest ++ ks)))
    ∙ ap (λ x. opened braces x ((nested (rest ++ ks)).inner ∷ (nested (rest ++ ks)).outer)) (joined-End i)
    ∙ ap (λ n. opened braces i (n.inner ∷ n.outer)) behind

nested-parts_of : (items : Items) (ks : List PartKind) → nested (parts_of items ++ ks) ≡ onto items (nested ks)
nested-parts_of End ks = refl
nested-parts_of (Do command rest) ks = ap (λ n. record { inner = Do command n.inner; outer = n.outer }) (nested-parts_of rest ks)
nested-parts_of (Repeat times inside rest) ks =
    nested_item (RepeatBraces times) (parts_of inside) (parts_of rest) inside rest ks (λ more. nested-parts_of inside more) (nested-parts_of rest ks)
nested-parts_of (Better inside rest) ks =
    nested_item BetterBraces (parts_of inside) (parts_of rest) inside rest ks (λ more. nested-parts_of inside more) (nested-parts_of rest ks)

-- the items are those of their parts
items_back : (items : Items) → (nested (parts_of items)).inner ≡ items
items_back items =
    ap (λ ks. (nested ks).inner) (sym (append-nil (parts_of items))) ∙ ap (λ n. n.inner) (nested-parts_of items []) ∙ joined-End items

-- items with the same parts are the same
pub same_items : (a b : Items) → parts_of a ≡ parts_of b → a ≡ b
same_items a b e = sym (items_back a) ∙ ap (λ ks. (nested ks).inner) e ∙ items_back b

-- ---- balanced parts

abbrev behind : List Items → List PartKind
behind outer = flat_map (λ items. Close ∷ parts_of items) outer

-- the parts of what is put together of these are these, and so many braces are closed
pub record IsNested (ks : List PartKind) (depth : ℕ) : Type 0 where
  pub parts : parts_of (nested ks).inner ++ behind (nested ks).outer ≡ ks
  pub closed : length (nested ks).outer ≡ depth

braced_parts : (braces : Braces) (inside rest : Items) → parts_of (braced braces inside rest) ≡ Open braces ∷ (parts_of inside ++ Close ∷ parts_of rest)
braced_parts (RepeatBraces times) inside rest = refl
braced_parts BetterBraces inside rest = refl

-- what an opening brace makes
pub record IsOpened (braces : Braces) (n : Nested) (ks : List PartKind) (depth : ℕ) : Type 0 where
  pub parts : parts_of n.inner ++ behind n.outer ≡ Open braces ∷ ks
  pub closed : length n.outer ≡ depth

is_opened : (braces : Braces) (inner : Items) (outer : List Items) (ks : List PartKind) (depth : ℕ) → parts_of inner ++ behind outer ≡ ks → length outer ≡ depth + 1 → IsOpened braces (opened braces inner outer) ks depth
is_opened braces inner [] ks depth e h = absurd (omega (arith, h))
is_opened braces inner (rest ∷ outer) ks depth e h =
    let size : length outer + 1 ≡ depth + 1 = (let longer : length (rest ∷ outer) ≡ length outer + 1 = omega arith in sym longer ∙ h) in
    record {
      parts =
          ap (λ p. p ++ behind outer) (braced_parts braces inner rest)
          ∙ ap (λ t. Open braces ∷ t) (append_assoc (parts_of inner) (Close ∷ parts_of rest) (behind outer) ∙ e);
      closed = omega arith;
    }

is_nested : (ks : List PartKind) (depth : ℕ) → IsBalanced ks depth → IsNested ks depth
is_nested [] depth b = record { parts = refl; closed = sym b }
is_nested (DoPart command ∷ ks) depth b =
    let n = is_nested ks depth b.1 in
    record { parts = ap (λ t. DoPart command ∷ t) n.parts; closed = n.closed }
is_nested (Open braces ∷ ks) depth b =
    let n = is_nested ks (depth + 1) b.1 in
    let o = is_opened braces (nested ks).inner (nested ks).outer ks depth n.parts n.closed in
    record { parts = o.parts; closed = o.closed }
is_nested (Close ∷ ks) depth b =
    let n = is_nested ks (depth - 1) b.1 in
    let some : 0 < depth = b.0 in
    let size = n.closed in
    let longer : length ((nested ks).inner ∷ (nested ks).outer) ≡ length (nested ks).outer + 1 = omega arith in
    record { parts = ap (λ t. Close ∷ t) n.parts; closed = omega arith }

nothing_outside : (inner : Items) (outer : List Items) (ks : List PartKind) → parts_of inner ++ behind outer ≡ ks → length outer ≡ 0 → parts_of inner ≡ ks
nothing_outside inner [] ks e h = sym (append-nil (parts_of inner)) ∙ e
nothing_outside inner (rest ∷ outer) ks e h = absurd (omega (arith, h))

-- balanced parts are those of items
pub record HaveItems (ks : List PartKind) : Type 0 where
  pub items : Items
  pub are : parts_of items ≡ ks

pub have_items : (ks : List PartKind) → IsBalanced ks 0 → HaveItems ks
have_items ks b =
    let n = is_nested ks 0 b in
    record { items = (nested ks).inner; are = nothing_outside (nested ks).inner (nested ks).outer ks n.parts n.closed }

-- parts of items that aren't too deep are balanced, before others that are
balanced_item : (braces : Braces) (inside rest more : List PartKind) (d : ℕ) → d < MAX_SCRIPT_BRACES → IsBalanced (inside ++ (Close ∷ (rest ++ more))) (d + 1) → IsBalanced ((Open braces ∷ inside ++ Close ∷ rest) ++ more) d
balanced_item braces inside rest more d h b =
    (h, subst (λ ks. IsBalanced ks (d + 1)) (sym (append_assoc inside (Close ∷ rest) more)) b)

pub balanced_all : (items : Items) (more : List PartKind) (d : ℕ) → d + deepest items ≤ MAX_SCRIPT_BRACES → IsBalanced more d → IsBalanced (parts_of items ++ more) d
balanced_all End more d h b = b
balanced_all (Do command rest) more d h b = (tt, balanced_all rest more d h b)
balanced_all (Repeat times inside rest) more d h b =
    let back : IsBalanced (parts_of rest ++ more) (d + 1 - 1) = subst (λ n. IsBalanced (parts_of rest ++ more) n) (omega arith) (balanced_all rest more d (omega arith) b) in
    let some : 0 < d + 1 = omega arith in
    balanced_item (RepeatBraces times) (parts_of inside) (parts_of rest) more d (omega arith) (balanced_all inside (Close ∷ (parts_of rest ++ more)) (d + 1) (omega arith) (some, back))
balanced_all (Better inside rest) more d h b =
    let back : IsBalanced (parts_of rest ++ more) (d + 1 - 1) = subst (λ n. IsBalanced (parts_of rest ++ more) n) (omega arith) (balanced_all rest more d (omega arith) b) in
    let some : 0 < d + 1 = omega arith in
    balanced_item BetterBraces (parts_of inside) (parts_of rest) more d (omega arith) (balanced_all inside (Close ∷ (parts_of rest ++ more)) (d + 1) (omega arith) (some, back))
