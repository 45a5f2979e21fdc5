-- What is asked of a network: that it has given values at its first ports.
use Rattle.std.proofs.Common.{◌≡◌, ◌∙◌, ℕ, ◌+◌, ◌<◌, ◌≤◌, Bool, true, false, ◌↔◌, List, length, take, min, sym, subst, ⊎_elim, arith}
use Rattle.std.specs.Prelude.{slice_index}
use Rattle.std.specs.Bool.{MatchBool}
use Rattle.std.proofs.lemmas.Bool.{cases_eq}
use Rattle.std.proofs.lemmas.List.{get_or-take}
use Rattle.mv_base.specs.declared.number.NetId.{NetId}
use Rattle.mv_graph.specs.Nets.{has_id}
use Rattle.mv_graph.specs.Sorting.{net_at}
use Rattle.mv_net.specs.declared.parts.NetParts.{NetParts}
use Rattle.mv_net.specs.Formed.{WellFormed}
use Rattle.mv_net.specs.Order.{IsOrder}
use Rattle.mv_solve.specs.declared.asked.Asked.{Asked}
use Rattle.mv_solve.specs.Asked.{HasAsked, IsSolution, NoSolution}
use Rattle.mv_verify.specs.Sides.{ports_of, AreAt, Shows}
use Rattle.mv_verify.specs.Prefixes.{IsSame, Opens}
use Rattle.mv_verify.proofs.Ports.{port_held}

-- nothing is asked
pub none_asked : (order : List NetId) (asked : List Asked) (ports : List NetId) (values : ℕ → ℕ) → ((at : ℕ → ℕ) → HasAsked order asked at) → (at : ℕ → ℕ) → HasAsked order asked at ↔ AreAt ports 0 at values
none_asked order asked ports values free at = (λ _. record { each = λ k less. absurd (omega arith) }, λ _. free at)

-- one value more is asked
pub one_asked : (order : List NetId) (old new : List Asked) (ports : List NetId) (values : ℕ → ℕ) (place : ℕ) (at : ℕ → ℕ) → (HasAsked order old at ↔ AreAt ports place at values) → (HasAsked order new at ↔ (HasAsked order old at × (at (net_at ports place) ≡ values place))) → HasAsked order new at ↔ AreAt ports (place + 1) at values
one_asked order old new ports values place at before more = (
  λ h.
      let both = more.0 h in
      let first = before.0 both.0 in
      record {
        each = λ k less.
            ⊎_elim
            (λ (e : k ≡ place). let P : ℕ → Type 0 = λ j. at (net_at ports j) ≡ values j in subst P (sym e) both.1)
            (λ (ne : k ≡ place → ⊥). first.each k (omega arith))
            (cases_eq k place);
      },
  λ a. more.1 (before.1 (record { each = λ k less. a.each k (omega arith) }), a.each place (omega arith)),
)

-- the ports can be asked
pub can_ask : (net : NetParts) (order : List NetId) (k : ℕ) → WellFormed net → IsOrder net.nets order → k < length (ports_of net) → has_id order (net_at (ports_of net) k) ≡ true
can_ask net order k formed o less = o.members (net_at (ports_of net) k) ∙ port_held net k formed less

-- what is found is what is shown
pub is_shown : (net : NetParts) (order : List NetId) (asked : List Asked) (end : ℕ) (values now : ℕ → ℕ) (r : Bool) → ((at : ℕ → ℕ) → HasAsked order asked at ↔ AreAt (ports_of net) end at values) → MatchBool r (IsSolution net.nets order asked now) (NoSolution net.nets order asked) → MatchBool r (Shows net end values) (Shows net end values → ⊥)
is_shown net order asked end values now true asks found = record { at = now; agrees = found.agrees; same = (asks now).0 found.asks }
is_shown net order asked end values now false asks none = λ s. none.none s.at (record { agrees = s.agrees; asks = (asks s.at).1 s.same })

-- ---- fewer values, and the same

pub shown_less : (net : NetParts) (few many : ℕ) (values : ℕ → ℕ) → few ≤ many → Shows net many values → Shows net few values
shown_less net few many values le s = record { at = s.at; agrees = s.agrees; same = record { each = λ k less. s.same.each k (omega arith) } }

pub shown_same : (net : NetParts) (end : ℕ) (values now : ℕ → ℕ) → IsSame end values now → Shows net end values → Shows net end now
shown_same net end values now same s = record { at = s.at; agrees = s.agrees; same = record { each = λ k less. s.same.each k less ∙ same.each k less } }

pub same_turned : (end : ℕ) (values now : ℕ → ℕ) → IsSame end values now → IsSame end now values
same_turned end values now same = record { each = λ k less. sym (same.each k less) }

pub same_less : (few many : ℕ) (values now : ℕ → ℕ) → few ≤ many → IsSame many values now → IsSame few values now
same_less few many values now le same = record { each = λ k less. same.each k (omega arith) }

-- the first of a list
pub taken_same : (end : ℕ) (xs : List ℕ) → IsSame end (slice_index (take end xs)) (slice_index xs)
taken_same end xs = record { each = λ k less. get_or-take end xs k 0 less }

pub opens_less : (free : Bool) (left right : NetParts) (points few many : ℕ) (values : ℕ → ℕ) → few ≤ many → Opens free left right points many values → Opens free left right points few values
opens_less free left right points few many values le o = record {
  shown = shown_less left few many values le o.shown;
  some = λ asks. shown_less right (min points few) (min points many) values (omega arith) (o.some asks);
}

pub opens_same : (free : Bool) (left right : NetParts) (points end : ℕ) (values now : ℕ → ℕ) → IsSame end values now → Opens free left right points end values → Opens free left right points end now
opens_same free left right points end values now same o = record {
  shown = shown_same left end values now same o.shown;
  some = λ asks. shown_same right (min points end) values now (same_less (min points end) end values now (omega arith) same) (o.some asks);
}
