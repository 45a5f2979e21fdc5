-- An operation on two diagrams by their first test.
use Rattle.std.proofs.Common.{◌≡◌, ℕ, ◌<◌, ◌≤◌, ◌==◌, Bool, true, false, List, Option, None, nat_le, if◌then◌else◌, refl, sym, ap, ◌∙◌, inl, inr, arith}
use Rattle.std.proofs.lemmas.Bool.{eq-eqb, ne_eqb, le-leb, leb-true}
use Rattle.mv_diagram.specs.declared.node.Node.{Node}
use Rattle.mv_diagram.specs.declared.node.Test.{Test}
use Rattle.mv_diagram.specs.declared.memo.Operation.{Operation}
use Rattle.mv_diagram.specs.Sets.{Point, node_at, with_value, holds, has_diagram}
use Rattle.mv_diagram.specs.Sound.{order, first, IsReduced}
use Rattle.mv_diagram.specs.Works.{IsLacking}
use Rattle.mv_diagram.specs.First.{AreParted, IsSplit}
use Rattle.mv_diagram.specs.Results.{IsResult, result_of}
use Rattle.mv_diagram.proofs.Following.{holds_end, first-le, first-end}
use Rattle.mv_diagram.proofs.Points.{beside, beside_fails, holds_later, holds_beside, value_there}
use Rattle.mv_diagram.proofs.Growing.{no_node, held_low}
use Rattle.mv_diagram.specs.Parts.{no_variable, IsRestriction}
use Rattle.mv_diagram.proofs.Restricting.{restriction_yes, restriction_no, restriction_same}
use Rattle.mv_diagram.proofs.Lacking.{Reads, Reads-diagram, lacking_yes, lacking_no, lacking_same}

pub both_same : (operation : Operation) (x y u v : Bool) → x ≡ u → y ≡ v → result_of operation x y ≡ result_of operation u v
both_same operation x y u v e f = ap (λ z. result_of operation z y) e ∙ ap (result_of operation u) f

module _ (counts : List ℕ) (ns : List (Option Node)) (s : IsReduced counts ns) (operation : Operation) (a b : ℕ) (ha : has_diagram ns a ≡ true) (hb : has_diagram ns b ≡ true) where
  -- a result that is known at once
  pub result_at_once : (d : ℕ) → ((f : ℕ → Bool) → f 0 ≡ false → f 1 ≡ true → f d ≡ result_of operation (f a) (f b))
      → ((f : ℕ → Bool) → f 0 ≡ true → f 1 ≡ true → f a ≡ true → f b ≡ true → f d ≡ true) → IsResult counts ns operation a b d
  result_at_once d set among = record {
    left = ha;
    right = hb;
    held = among (has_diagram ns) (held_low ns 0 (omega arith)) (held_low ns 1 (omega arith)) ha hb;
    later = λ from low also.
        let end = first-end counts ns 0 (no_node ns 0 (omega arith)) in
        let end' = first-end counts ns 1 (no_node ns 1 (omega arith)) in
        let most = first-le counts ns s a in
        leb-true from (first counts ns d) (among (λ x. nat_le from (first counts ns x)) (le-leb _ _ (omega arith)) (le-leb _ _ (omega arith)) (le-leb _ _ low) (le-leb _ _ also));
    set = λ p. set (λ x. holds counts ns x p) (holds_end counts ns 0 p (no_node ns 0 (omega arith))) (holds_end counts ns 1 p (no_node ns 1 (omega arith)));
  }

  -- the result of two diagrams without tests
  pub result_end : (d : ℕ) → node_at ns a ≡ None → node_at ns b ≡ None → d ≡ (if result_of operation (a == 1) (b == 1) then 1 else 0) → IsResult counts ns operation a b d
  result_end d ea eb is = record {
    left = ha;
    right = hb;
    held = held_low ns d (low (result_of operation (a == 1) (b == 1)) is);
    later = λ from less also. let end = first-end counts ns a ea in let end' = first-end counts ns d (no_node ns d (low (result_of operation (a == 1) (b == 1)) is)) in omega arith;
    set = λ p. holds_end counts ns d p (no_node ns d (low (result_of operation (a == 1) (b == 1)) is))
        ∙ one (result_of operation (a == 1) (b == 1)) is
        ∙ both_same operation _ _ _ _ (sym (holds_end counts ns a p ea)) (sym (holds_end counts ns b p eb));
  }
    where
      low : (x : Bool) → d ≡ (if x then 1 else 0) → d < 2
      low true e = omega arith
      low false e = omega arith

      one : (x : Bool) → d ≡ (if x then 1 else 0) → (d == 1) ≡ x
      one true e = ap (λ n. n == 1) e
      one false e = ap (λ n. n == 1) e

module _ (counts : List ℕ) (ns : List (Option Node)) (s : IsReduced counts ns) (operation : Operation) (a b : ℕ) (t : Test) (ay an by bn : ℕ) (parted : AreParted counts ns a b t ay an by bn) where
  abbrev pub combined : Point → Bool
  combined p = result_of operation (holds counts ns a p) (holds counts ns b p)

  -- the whole by the results where the test says yes and where it says no
  pub result_whole : (y n : ℕ) → IsResult counts ns operation ay by y → IsResult counts ns operation an bn n
      → (p : Point) → (if p t.var == t.value then holds counts ns y p else holds counts ns n p) ≡ combined p
  result_whole y n iy in' p = by_test (p t.var == t.value) ∙ both_same operation _ _ _ _ (sym (parted.left.set p)) (sym (parted.right.set p))
    where
      by_test : (x : Bool) → (if x then holds counts ns y p else holds counts ns n p)
          ≡ result_of operation (if x then holds counts ns ay p else holds counts ns an p) (if x then holds counts ns by p else holds counts ns bn p)
      by_test true = iy.set p
      by_test false = in'.set p

  -- a diagram with these points and no earlier test is the result
  pub result_parted : (d : ℕ) → has_diagram ns d ≡ true → order t.var t.value ≤ first counts ns d → ((p : Point) → holds counts ns d p ≡ combined p) → IsResult counts ns operation a b d
  result_parted d held later set = record {
    left = parted.left_held;
    right = parted.right_held;
    held = held;
    later = λ from low also. elim parted.test.one [ inl level ↦ omega arith | inr level ↦ omega arith ];
    set = set;
  }

  pub combined_reads : Reads counts (order t.var t.value) combined
  combined_reads = record { each = λ p q agree. both_same operation _ _ _ _ ((Reads-diagram counts ns s a (order t.var t.value) parted.test.left).each p q agree) ((Reads-diagram counts ns s b (order t.var t.value) parted.test.right).each p q agree) }

  side_yes : (d y n : ℕ) (p : Point) → IsSplit counts ns d t y n → holds counts ns y p ≡ holds counts ns d (with_value p t.var t.value)
  side_yes d y n p is =
      let q = with_value p t.var t.value in
      sym (holds_later counts ns s y p t.var t.value is.yes_later)
      ∙ sym (is.set q ∙ ap (λ x. if x then holds counts ns y q else holds counts ns n q) (eq-eqb _ _ (value_there p t.var t.value t.var refl)))

  side_no : (d y n : ℕ) (p : Point) → IsSplit counts ns d t y n → holds counts ns n p ≡ holds counts ns d (beside counts t p)
  side_no d y n p is =
      let q = beside counts t p in
      sym (holds_beside counts ns s n t p is.no_later)
      ∙ sym (is.set q ∙ ap (λ x. if x then holds counts ns y q else holds counts ns n q) (ne_eqb _ _ (beside_fails counts ns s t p parted.test.test)))

  -- the results of the sides, and the whole at points where the test says yes, and no
  pub both_yes : (p : Point) → result_of operation (holds counts ns ay p) (holds counts ns by p) ≡ combined (with_value p t.var t.value)
  both_yes p = both_same operation _ _ _ _ (side_yes a ay an p parted.left) (side_yes b by bn p parted.right)

  pub both_no : (p : Point) → result_of operation (holds counts ns an p) (holds counts ns bn p) ≡ combined (beside counts t p)
  both_no p = both_same operation _ _ _ _ (side_no a ay an p parted.left) (side_no b by bn p parted.right)

  pub combined_tested : (p : Point) (x : Bool) → (p t.var == t.value) ≡ x → combined p ≡ (if x then result_of operation (holds counts ns ay p) (holds counts ns by p) else result_of operation (holds counts ns an p) (holds counts ns bn p))
  combined_tested p x e =
      both_same operation _ _ _ _ (parted.left.set p ∙ ap (λ z. if z then holds counts ns ay p else holds counts ns an p) e) (parted.right.set p ∙ ap (λ z. if z then holds counts ns by p else holds counts ns bn p) e) ∙ cases x
    where
      cases : (x : Bool) → result_of operation (if x then holds counts ns ay p else holds counts ns an p) (if x then holds counts ns by p else holds counts ns bn p)
          ≡ (if x then result_of operation (holds counts ns ay p) (holds counts ns by p) else result_of operation (holds counts ns an p) (holds counts ns bn p))
      cases true = refl
      cases false = refl

  -- where no diagram has the result of one side, none has the whole
  pub result_lacks_yes : IsLacking counts ns (λ p. result_of operation (holds counts ns ay p) (holds counts ns by p)) → IsLacking counts ns combined
  result_lacks_yes lacking =
      lacking_yes counts ns s t parted.test.test combined combined_reads (lacking_same counts ns s _ _ both_yes lacking)

  pub result_lacks_no : IsLacking counts ns (λ p. result_of operation (holds counts ns an p) (holds counts ns bn p)) → IsLacking counts ns combined
  result_lacks_no lacking =
      lacking_no counts ns s t parted.test.test combined combined_reads (lacking_same counts ns s _ _ both_no lacking)

  -- restrictions of the result of one side, and of the whole
  pub parts_yes : (part : Point → Bool) → IsRestriction counts no_variable (λ p. result_of operation (holds counts ns ay p) (holds counts ns by p)) part → IsRestriction counts no_variable combined part
  parts_yes part r = restriction_yes counts s.values no_variable t parted.test.test combined combined_reads part
      (restriction_same counts s.values no_variable _ (λ p. combined (with_value p t.var t.value)) part part (λ p range. both_yes p) (λ p. refl) r)

  pub parts_no : (part : Point → Bool) → IsRestriction counts no_variable (λ p. result_of operation (holds counts ns an p) (holds counts ns bn p)) part → IsRestriction counts no_variable combined part
  parts_no part r = restriction_no counts s.values no_variable t parted.test.test combined combined_reads part
      (restriction_same counts s.values no_variable _ (λ p. combined (beside counts t p)) part part (λ p range. both_no p) (λ p. refl) r)
