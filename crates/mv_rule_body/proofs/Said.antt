-- A table said by the names of its nets is that table again.
use Rattle.std.proofs.Common.{◌≡◌, ◌∙◌, ℕ, ◌+◌, ◌<◌, ◌≤◌, Option, List, [], ◌∷◌, length, get_or, map, IsTrue, is_some, refl, sym, ap, subst, arith, All, zero, suc}
use Rattle.std.specs.List.Sorted.{IsNonDecreasingBy}
use Rattle.std.proofs.lemmas.List.Elements.{All-nil, All-cons}
use Rattle.std.proofs.lemmas.List.Sorted.{IsPermutation-refl}
use Rattle.mv_body.specs.Bodies.{literal_said, literals_said, by_net, cube_said, lines_said, cover_said, IsKnown, IsLineKnown, AreKnown, AreApart, IsOnce, IsTidy, IsByNet}
use Rattle.mv_body.proofs.Numbers.{number-found}
use Rattle.mv_body.proofs.Orders.{apart-sorted, by_net-sorted}
use Rattle.mv_cover.specs.Literal.{Lit}
use Rattle.mv_cover.specs.Cubes.{IsCube}
use Rattle.mv_cover.specs.declared.line.Line.{Line}
use Rattle.mv_cover.specs.declared.cover.Cover.{Cover}
use Rattle.mv_cover.proofs.Meets.{Rises, Rises-cube}
use Rattle.mv_net.specs.declared.parts.FlatNet.{FlatNet}
use Rattle.mv_net.specs.declared.parts.NetParts.{NetParts}
use Rattle.mv_net.specs.Formed.{IsReadable, IsLiteral, AllLiterals, AllLines, AllCubes, IsCover, WellFormed}
use Rattle.mv_net.specs.Index.{is_held, HasName}
use Rattle.mv_net.specs.Nets.{slot, name_in}
use Rattle.mv_rule_body.specs.Named.{literal_named, literals_named, line_named, body_of, IsLineHeld, AreHeld}

-- ---- each net is held, and is known by its name

module _ (nets : List (Option FlatNet)) where
  literals_held : (lits : List Lit) → AllLiterals nets lits → All (λ (m : Lit). IsTrue (is_held nets m.net.0)) lits
  literals_held [] all = All-nil (λ (m : Lit). IsTrue (is_held nets m.net.0))
  literals_held (l ∷ ls) all =
      All-cons (λ (m : Lit). IsTrue (is_held nets m.net.0)) l ls (ap is_some all.0.readable.held) (literals_held ls all.1)

  lines_held : (values : ℕ) (ls : List Line) → AllLines nets values ls → All (IsLineHeld nets) ls
  lines_held values [] all = All-nil (IsLineHeld nets)
  lines_held values (l ∷ ls) all =
      All-cons (IsLineHeld nets) l ls (literals_held l.cube all.0) (lines_held values ls all.2)

  pub cover_held : (values : ℕ) (c : Cover) → IsCover nets values c → AreHeld nets c
  cover_held values c is = record { each = lines_held values c.lines is.lines }

  has_name : (n : ℕ) → IsReadable nets n → HasName nets n (name_in (slot nets n))
  has_name n r = record { net = r.net; held = r.held; is = sym (ap name_in r.held) }

  literals_known : (lits : List Lit) → AllLiterals nets lits → All (IsKnown nets) (literals_named nets lits)
  literals_known [] all = All-nil (IsKnown nets)
  literals_known (l ∷ ls) all =
      All-cons (IsKnown nets) (literal_named nets l) (literals_named nets ls)
      (record { number = l.net.0; named = has_name l.net.0 all.0.readable; readable = all.0.readable })
      (literals_known ls all.1)

  lines_known : (values : ℕ) (ls : List Line) → AllLines nets values ls → All (IsLineKnown nets) (map (line_named nets) ls)
  lines_known values [] all = All-nil (IsLineKnown nets)
  lines_known values (l ∷ ls) all =
      All-cons (IsLineKnown nets) (line_named nets l) (map (line_named nets) ls) (literals_known l.cube all.0) (lines_known values ls all.2)

  pub body_known : (values : ℕ) (c : Cover) → IsCover nets values c → AreKnown nets (body_of nets c)
  unfolding body_of
  body_known values c is = record { each = lines_known values c.lines is.lines }

-- ---- cubes are in order already

not_below : (k : ℕ) (ls : List Lit) (d : Lit) (j : ℕ) → Rises k ls → j < length ls → k ≤ (get_or ls j d).net.0
not_below k [] d j r low = absurd (omega arith)
not_below k (l ∷ ls) d zero r low = r.0
not_below k (l ∷ ls) d (suc j) r low =
    let above = not_below (l.net.0 + 1) ls d j r.1 (omega arith) in
    let first : k ≤ l.net.0 = r.0 in
    omega (arith, above, first)

rises_up : (k : ℕ) (ls : List Lit) → Rises k ls → IsNonDecreasingBy (λ (l : Lit). l.net.0) ls
rises_up k [] r i j d le low = absurd (omega arith)
rises_up k (l ∷ ls) r zero zero d le low = omega arith
rises_up k (l ∷ ls) r zero (suc j) d le low =
    let above = not_below (l.net.0 + 1) ls d j r.1 (omega arith) in
    omega (arith, above)
rises_up k (l ∷ ls) r (suc i) zero d le low = absurd (omega arith)
rises_up k (l ∷ ls) r (suc i) (suc j) d le low = rises_up (l.net.0 + 1) ls r.1 i j d (omega arith) (omega arith)

in_order : (c : List Lit) → IsCube c → IsByNet c c
in_order c is = record { moved = IsPermutation-refl c; up = rises_up 0 c (Rises-cube c is.ascending) }

-- ---- what is said is what was named

module _ (net : NetParts) (formed : WellFormed net) where
  literal_back : (l : Lit) → IsLiteral net.nets l → literal_said net.nets (literal_named net.nets l) ≡ l
  literal_back l is =
      let number = number-found net l.net.0 (name_in (slot net.nets l.net.0)) formed (has_name net.nets l.net.0 is.readable) in
      λ i. record { net = record { 0 = sym number i }; set = l.set }

  literals_back : (lits : List Lit) → AllLiterals net.nets lits → literals_said net.nets (literals_named net.nets lits) ≡ lits
  literals_back [] all = refl
  literals_back (l ∷ ls) all =
      let first = literal_back l all.0 in
      let rest = literals_back ls all.1 in
      λ i. first i ∷ rest i

  cube_back : (c : List Lit) → IsCube c → AllLiterals net.nets c → cube_said net.nets (literals_named net.nets c) ≡ c
  cube_back c is all = ap by_net (literals_back c all) ∙ sym (by_net-sorted c c (in_order c is) is.ascending)

  lines_back : (values : ℕ) (ls : List Line) → AllCubes ls → AllLines net.nets values ls → lines_said net.nets (map (line_named net.nets) ls) ≡ ls
  lines_back values [] cubes all = refl
  lines_back values (l ∷ ls) cubes all =
      let first = cube_back l.cube cubes.0 all.0 in
      let rest = lines_back values ls cubes.1 all.2 in
      λ i. record { cube = first i; out = l.out } ∷ rest i

  pub cover_back : (values : ℕ) (c : Cover) → IsCover net.nets values c → cover_said net.nets (body_of net.nets c) ≡ c
  unfolding body_of
  cover_back values c is =
      let lines = lines_back values c.lines is.cubes is.lines in
      λ i. record { lines = lines i; default = c.default }

  -- ---- and the body is tidy

  line_once : (l : Line) → IsCube l.cube → AllLiterals net.nets l.cube → IsOnce net.nets (line_named net.nets l)
  line_once l is all = record {
    apart = subst AreApart (sym (literals_back l.cube all)) (apart-sorted l.cube l.cube (in_order l.cube is) is.ascending);
  }

  lines_once : (values : ℕ) (ls : List Line) → AllCubes ls → AllLines net.nets values ls → All (IsOnce net.nets) (map (line_named net.nets) ls)
  lines_once values [] cubes all = All-nil (IsOnce net.nets)
  lines_once values (l ∷ ls) cubes all =
      All-cons (IsOnce net.nets) (line_named net.nets l) (map (line_named net.nets) ls) (line_once l cubes.0 all.0) (lines_once values ls cubes.1 all.2)

  body_once : (values : ℕ) (c : Cover) → IsCover net.nets values c → All (IsOnce net.nets) (body_of net.nets c).lines
  unfolding body_of
  body_once values c is = lines_once values c.lines is.cubes is.lines

  pub body_tidy : (values : ℕ) (c : Cover) → IsCover net.nets values c → IsTidy net.nets values (body_of net.nets c)
  body_tidy values c is = record {
    once = body_once values c is;
    cover = subst (IsCover net.nets values) (sym (cover_back values c is)) is;
  }
