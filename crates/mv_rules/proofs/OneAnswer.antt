-- A rule has at most one answer: one network, or one fault, and never both.
use Rattle.std.proofs.Common.{◌≡◌, ◌∙◌, ℕ, Bool, List, [], ◌∷◌, Option, Some, All, MatchBool, sym, ap, subst, arith}
use Rattle.std.proofs.lemmas.List.Elements.{All-contains}
use Rattle.std.proofs.lemmas.Option.{same_Some}
use Rattle.mv_body.specs.Bodies.{cover_said}
use Rattle.mv_composite.specs.Wired.{wired}
use Rattle.mv_cover.specs.declared.cover.Cover.{Cover}
use Rattle.mv_cover.specs.Literal.{Lit}
use Rattle.mv_cover.specs.declared.line.Line.{Line}
use Rattle.mv_entry.specs.declared.rule.Body.{Body}
use Rattle.mv_entry.specs.declared.rule.Code.{Code}
use Rattle.mv_entry.specs.declared.rule.Rule.{Rule}
use Rattle.mv_entry.specs.declared.rule.Rule.TheVariants.{Remove, Add, Divide, Wire, Collapse, Narrow, Fill, Merge, Encode}
use Rattle.mv_entry.specs.declared.fault.RuleFault.{RuleFault}
use Rattle.mv_meaning.specs.Rewriting.{rewritten, with_net_table}
use Rattle.mv_net.specs.declared.parts.FlatNet.{FlatNet}
use Rattle.mv_net.specs.declared.parts.NetParts.{NetParts}
use Rattle.mv_net.specs.Changes.{with_nets, without}
use Rattle.mv_net.specs.Formed.{WellFormed}
use Rattle.mv_net.specs.Nets.{slot, table_in}
use Rattle.mv_net.specs.Plain.{IsPlainBuffer, IsCopy, copy_line}
use Rattle.mv_rules.specs.Applies.{Applies, Fails}
use Rattle.mv_plans.specs.Removing.{Removes}
use Rattle.mv_plans.specs.Dividing.{Divides}
use Rattle.mv_plans.specs.Completing.{IsLess, IsCompleted, with_zero}
use Rattle.mv_plans.specs.Wiring.{Wires}
use Rattle.mv_plans.specs.Collapsing.{Collapses, collapsed}
use Rattle.mv_plans.specs.Filling.{Fills, with_default}
use Rattle.mv_plans.specs.Narrowing.{Narrows}
use Rattle.mv_plans.specs.Merging.{Merges}
use Rattle.mv_plans.specs.Encoding.{Encodes}
use Rattle.mv_coding.specs.Nets.{net_coded}
use Rattle.mv_merging.specs.Nets.{net_behind}
use Rattle.mv_base.specs.declared.number.Value.{Value}
use Rattle.mv_plans.proofs.Named.{one_named, one_tabled}
use Rattle.mv_plans.proofs.Collapsed.{one_test, one_inner}
use Rattle.mv_narrow.proofs.Judging.{over_fanins}
use Rattle.mv_plans.proofs.Narrowed.{keeps_choices_of, narrow_inside}
use Rattle.mv_rules.proofs.Rows.{HasOneFault, passed_one, unless_one, with_one, FailsNever, passed_never, unless_never, with_never}

-- one net has one table
one_table : (o : Option Cover) (c d : Cover) → o ≡ Some c → o ≡ Some d → c ≡ d
one_table o c d e f = same_Some c d (sym e ∙ f)

-- a plain buffer has the value of one net: its line for the value 0 says which
one_source : (nets : List (Option FlatNet)) (n m k : ℕ) → IsPlainBuffer nets n m → IsPlainBuffer nets n k → m ≡ k
one_source nets n m k p q =
    let c = p.cover in
    let there = p.every 0 (omega (arith, p.some)) in
    let copy = All-contains (IsCopy k) c.lines (copy_line m 0) (subst (λ (d : Cover). All (IsCopy k) d.lines) (one_table (table_in (slot nets n)) q.cover c q.table p.table) q.only) there in
    ap first_of copy.is
  where
    first_net : List Lit → ℕ
    first_net [] = 0
    first_net (l ∷ ls) = l.net.0

    first_of : Line → ℕ
    first_of l = first_net l.cube

-- ---- networks

removed_one : (old : NetParts) (w : List ℕ) (one other : NetParts) → WellFormed old → Removes old w one → Removes old w other → one ≡ other
removed_one old w one other formed p q = p.new_is ∙ (ap (λ n. without old n) (one_tabled old w p.number q.number formed p.net q.net) ∙ sym q.new_is)

-- a body in place of a table is completed in one way
completed_one : (nets : List (Option FlatNet)) (old was body new other : Cover) → old ≡ was → IsCompleted nets old body new → IsCompleted nets was body other → new ≡ other
completed_one nets old was body new other same p q =
    let less = one_test (IsLess nets old body) p.less q.less p.needed (subst (λ c. MatchBool q.less (IsLess nets c body) (IsLess nets c body → ⊥)) (sym same) q.needed) in
    p.new_is ∙ (ap (λ b. with_zero b body) less ∙ sym q.new_is)

divided_one : (old : NetParts) (w by : List ℕ) (body : Body) (one other : NetParts) → WellFormed old → Divides old w by body one → Divides old w by body other → one ≡ other
divided_one old w by body one other formed p q =
    let same = one_tabled old w p.number q.number formed p.net q.net in
    let tables = one_table (table_in (slot old.nets p.number)) p.same.old q.same.old p.same.table (ap (λ k. table_in (slot old.nets k)) same ∙ q.same.table) in
    let said = cover_said old.nets body in
    let completed = completed_one old.nets p.same.old q.same.old said p.table q.table tables p.completed q.completed in
    p.new_is ∙ (ap (λ c. with_nets old (with_net_table old.nets p.number c)) completed
    ∙ (ap (λ n. with_nets old (with_net_table old.nets n q.table)) same ∙ sym q.new_is))

wired_one : (old : NetParts) (w : List ℕ) (one other : NetParts) → WellFormed old → Wires old w one → Wires old w other → one ≡ other
wired_one old w one other formed p q =
    let same = one_tabled old w p.number q.number formed p.net q.net in
    let sources = one_source old.nets p.number p.same.source q.same.source p.same.buffer (subst (λ n. IsPlainBuffer old.nets n q.same.source) (sym same) q.same.buffer) in
    p.new_is ∙ (ap (λ m. with_nets old (rewritten (wired p.number m) p.number old.nets)) sources
    ∙ (ap (λ n. with_nets old (rewritten (wired n q.same.source) n old.nets)) same ∙ sym q.new_is))

collapsed_one : (old : NetParts) (w : List ℕ) (one other : NetParts) → WellFormed old → Collapses old w one → Collapses old w other → one ≡ other
collapsed_one old w one other formed p q =
    let same = one_tabled old w p.number q.number formed p.net q.net in
    p.new_is ∙ (ap (λ i. collapsed old i) (one_inner old.nets p.composites.inner q.composites.inner (p.composites.of_net ∙ (same ∙ sym q.composites.of_net)) p.composites.known q.composites.known) ∙ sym q.new_is)

filled_one : (free : Bool) (old : NetParts) (w : List ℕ) (out : ℕ) (one other : NetParts) → WellFormed old → Fills free old w out one → Fills free old w out other → one ≡ other
filled_one free old w out one other formed p q =
    let same = one_tabled old w p.number q.number formed p.net q.net in
    let tables = one_table (table_in (slot old.nets p.number)) p.table q.table p.table_is (ap (λ k. table_in (slot old.nets k)) same ∙ q.table_is) in
    p.new_is ∙ (ap (λ c. with_nets old (with_net_table old.nets p.number (with_default c out))) tables
    ∙ (ap (λ n. with_nets old (with_net_table old.nets n (with_default q.table out))) same ∙ sym q.new_is))

narrowed_one : (old : NetParts) (w : List ℕ) (d u : ℕ) (body : Body) (one other : NetParts) → WellFormed old → Narrows old w d u body one → Narrows old w d u body other → one ≡ other
narrowed_one old w d u body one other formed p q =
    p.new_is ∙ (ap (λ n. with_nets old (with_net_table old.nets n (cover_said old.nets body))) (one_tabled old w p.number q.number formed p.net q.net) ∙ sym q.new_is)

merged_one : (old : NetParts) (w : List ℕ) (gone : Value) (into : Option Value) (one other : NetParts) → WellFormed old → Merges old w gone into one → Merges old w gone into other → one ≡ other
merged_one old w gone into one other formed p q = p.new_is ∙ (ap (λ n. net_behind old n gone into) (one_tabled old w p.number q.number formed p.net q.net) ∙ sym q.new_is)

encoded_one : (old : NetParts) (w : List ℕ) (names : List (List ℕ)) (codes : List Code) (one other : NetParts) → WellFormed old → Encodes old w names codes one → Encodes old w names codes other → one ≡ other
encoded_one old w names codes one other formed p q = p.new_is ∙ (ap (λ n. net_coded old n names codes) (one_tabled old w p.number q.number formed p.net q.net) ∙ sym q.new_is)

pub one_network : (free : Bool) (rule : Rule) (old one other : NetParts) → WellFormed old → Applies free rule old one → Applies free rule old other → one ≡ other
one_network free (Remove w) old one other formed p q = removed_one old w one other formed p q
one_network free (Add w body) old one other formed p q = p.new_is ∙ sym q.new_is
one_network free (Divide w by body) old one other formed p q = divided_one old w by body one other formed p q
one_network free (Wire w) old one other formed p q = wired_one old w one other formed p q
one_network free (Collapse w) old one other formed p q = collapsed_one old w one other formed p q
one_network free (Narrow w d u body) old one other formed p q = narrowed_one old w d u body one other formed p q
one_network free (Fill w out) old one other formed p q = filled_one free old w out one other formed p q
one_network free (Merge w gone into) old one other formed p q = merged_one old w gone into one other formed p q
one_network free (Encode w names codes) old one other formed p q = encoded_one old w names codes one other formed p q

-- ---- faults

row_one : (free : Bool) (rule : Rule) (old : NetParts) → WellFormed old → HasOneFault (Fails free rule old)
row_one free (Remove w) old formed =
    with_one _ _ (λ n m. one_tabled old w n m formed) (λ n. unless_one _ _ _ (unless_one _ _ _ (unless_one _ _ _ passed_one)))
row_one free (Add w body) old formed = unless_one _ _ _ (unless_one _ _ _ (unless_one _ _ _ (unless_one _ _ _ passed_one)))
row_one free (Divide w by body) old formed =
    with_one _ _ (λ n m. one_tabled old w n m formed) (λ n.
    with_one _ _ (λ d e. one_named old by d e formed) (λ d.
    unless_one _ _ _ (unless_one _ _ _ (unless_one _ _ _ (unless_one _ _ _ (unless_one _ _ _ passed_one))))))
row_one free (Wire w) old formed = with_one _ _ (λ n m. one_tabled old w n m formed) (λ n. unless_one _ _ _ (unless_one _ _ _ passed_one))
row_one free (Collapse w) old formed =
    with_one _ _ (λ n m. one_tabled old w n m formed) (λ n. unless_one _ _ _ (unless_one _ _ _ (unless_one _ _ _ (unless_one _ _ _ passed_one))))
row_one free (Narrow w d u body) old formed =
    with_one _ _ (λ n m. one_tabled old w n m formed) (λ n.
    unless_one _ _ _ (unless_one _ _ _ (unless_one _ _ _ (
    unless_one _ _ _ (unless_one _ _ _ (unless_one _ _ _ (unless_one _ _ _ passed_one)))))))
row_one free (Fill w out) old formed =
    with_one _ _ (λ n m. one_tabled old w n m formed) (λ n. unless_one _ _ _ (unless_one _ _ _ (unless_one _ _ _ (unless_one _ _ _ passed_one))))
row_one free (Merge w gone into) old formed =
    with_one _ _ (λ n m. one_tabled old w n m formed) (λ n. unless_one _ _ _ (unless_one _ _ _ (unless_one _ _ _ passed_one)))
row_one free (Encode w names codes) old formed =
    with_one _ _ (λ n m. one_tabled old w n m formed) (λ n.
    unless_one _ _ _ (unless_one _ _ _ (unless_one _ _ _ (unless_one _ _ _ (unless_one _ _ _ (unless_one _ _ _ passed_one))))))

pub one_fault : (free : Bool) (rule : Rule) (old : NetParts) (f g : RuleFault) → WellFormed old → Fails free rule old f → Fails free rule old g → f ≡ g
one_fault free rule old f g formed p q = (row_one free rule old formed).one f g p q

-- ---- never both

row_never : (free : Bool) (rule : Rule) (old new : NetParts) → WellFormed old → Applies free rule old new → FailsNever (Fails free rule old)
row_never free (Remove w) old new formed p =
    with_never _ _ p.number p.net (λ m. one_tabled old w p.number m formed p.net)
    (unless_never _ _ _ p.unseen (unless_never _ _ _ p.unread (unless_never _ _ _ p.total passed_never)))
row_never free (Add w body) old new formed p =
    unless_never _ _ _ p.known (unless_never _ _ _ p.form (unless_never _ _ _ p.fresh (unless_never _ _ _ p.room passed_never)))
row_never free (Divide w by body) old new formed p =
    with_never _ _ p.number p.net (λ m. one_tabled old w p.number m formed p.net)
    (with_never _ _ p.divisor p.divides (λ m. one_named old by p.divisor m formed p.divides)
    (unless_never _ _ _ p.known (unless_never _ _ _ p.form (unless_never _ _ _ p.two (unless_never _ _ _ p.order (unless_never _ _ _ p.same passed_never))))))
row_never free (Wire w) old new formed p =
    with_never _ _ p.number p.net (λ m. one_tabled old w p.number m formed p.net)
    (unless_never _ _ _ p.same (unless_never _ _ _ p.read passed_never))
row_never free (Collapse w) old new formed p =
    with_never _ _ p.number p.net (λ m. one_tabled old w p.number m formed p.net)
    (unless_never _ _ _ p.unseen (unless_never _ _ _ p.read (unless_never _ _ _ p.unshared (unless_never _ _ _ p.composites passed_never))))
row_never free (Narrow w d u body) old new formed p =
    let said = cover_said old.nets body in
    with_never _ _ p.number p.net (λ m. one_tabled old w p.number m formed p.net)
    (unless_never _ _ _ p.known (unless_never _ _ _ p.form (unless_never _ _ _ (over_fanins old p.number p.table said p.table_is p.reads)
    (unless_never _ _ _ p.below (unless_never _ _ _ (narrow_inside old p.number d u said p.inside) (unless_never _ _ _ p.inside
    (unless_never _ _ _ (keeps_choices_of old.nets p.number p.table said p.table_is p.keeps) passed_never)))))))
row_never free (Fill w out) old new formed p =
    with_never _ _ p.number p.net (λ m. one_tabled old w p.number m formed p.net)
    (unless_never _ _ _ p.asked (unless_never _ _ _ p.form (unless_never _ _ _ p.partial (unless_never _ _ _ p.plain passed_never))))
row_never free (Merge w gone into) old new formed p =
    with_never _ _ p.number p.net (λ m. one_tabled old w p.number m formed p.net)
    (unless_never _ _ _ p.unseen (unless_never _ _ _ p.form (unless_never _ _ _ p.lossless passed_never)))
row_never free (Encode w names codes) old new formed p =
    with_never _ _ p.number p.net (λ m. one_tabled old w p.number m formed p.net)
    (unless_never _ _ _ p.can.unseen (unless_never _ _ _ p.can.plain (unless_never _ _ _ p.can.form
    (unless_never _ _ _ p.can.fresh (unless_never _ _ _ p.narrow (unless_never _ _ _ p.room passed_never))))))

pub not_both : (free : Bool) (rule : Rule) (old new : NetParts) (f : RuleFault) → WellFormed old → Applies free rule old new → Fails free rule old f → ⊥
not_both free rule old new f formed p q = (row_never free rule old new formed p).none f q
