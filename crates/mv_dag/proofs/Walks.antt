-- Walks along a graph, and the nets above a net.
use Rattle.std.proofs.Common.{◌≡◌, ◌∙◌, ℕ, ◌<◌, ◌≤◌, Bool, true, false, List, [], ◌∷◌, length, sym, ap, arith}
use Rattle.std.specs.Prelude.{◌↔◌, IsTrue, MatchBool}
use Rattle.std.proofs.lemmas.Bool.{false≢true}
use Rattle.mv_base.specs.declared.number.NetId.{NetId}
use Rattle.mv_graph.specs.Nets.{has_id, row}
use Rattle.mv_graph.specs.Above.{GoesOn, IsAbove, reads_by}
use Rattle.mv_graph.proofs.Paths.{above_more}
use Rattle.mv_dag.specs.declared.way.Way.TheVariants.{Up, Down}
use Rattle.mv_dag.specs.Ordered.{at, IsOrdered}
use Rattle.mv_dag.specs.Searches.{leads_to, Leads, Here, Then, IsReach}
use Rattle.mv_dag.specs.Finding.{IsSearch}
use Rattle.mv_dag.proofs.Reaching.{search_closed}

-- ---- walks

-- walks join
pub leads_on : (steps : ℕ → ℕ → Bool) (x y z : ℕ) → Leads steps x y → Leads steps y z → Leads steps x z
leads_on steps x y z first (Here _) = first
leads_on steps x y z first (Then _ n _ walk step) = Then x n z (leads_on steps x y n first walk) step

-- a step and a walk from there
pub leads_from : (steps : ℕ → ℕ → Bool) (x y z : ℕ) → steps x y ≡ true → Leads steps y z → Leads steps x z
leads_from steps x y z step walk = leads_on steps x y z (Then x x y (Here x) step) walk

-- ---- walks up

-- what a net's fanins lead up to is above it
pub above_from_leads : (fanins : List (List NetId)) (n m a : ℕ) → has_id (row fanins n) m ≡ true → Leads (leads_to Up fanins) m a → IsAbove (reads_by fanins) a n
above_from_leads fanins n m a h (Here _) = record { path = []; goes = h }
above_from_leads fanins n m a h (Then _ b _ walk step) = above_more (reads_by fanins) n b a (above_from_leads fanins n m b h walk) step

-- of a net above n, the fanin of n that leads up to it
pub record LeadsFromFanin (fanins : List (List NetId)) (n a : ℕ) : Type 0 where
  pub fanin : ℕ
  pub reads : has_id (row fanins n) fanin ≡ true
  pub leads : Leads (leads_to Up fanins) fanin a

goes_leads : (fanins : List (List NetId)) (a n : ℕ) (path : List ℕ) → GoesOn (reads_by fanins) a n path → LeadsFromFanin fanins n a
goes_leads fanins a n [] g = record { fanin = a; reads = g; leads = Here a }
goes_leads fanins a n (m ∷ path) g =
    let r = goes_leads fanins a m path g.1 in
    record { fanin = m; reads = g.0; leads = leads_from (leads_to Up fanins) m r.fanin a r.reads r.leads }

pub leads_from_above : (fanins : List (List NetId)) (n a : ℕ) → IsAbove (reads_by fanins) a n → LeadsFromFanin fanins n a
leads_from_above fanins n a h = goes_leads fanins a n h.path h.goes

-- ---- labels along a walk up

-- labels fall
pub leads_low : (fanins : List (List NetId)) (labels : List ℕ) (x y : ℕ) → IsOrdered fanins labels → Leads (leads_to Up fanins) x y → at labels y ≤ at labels x
leads_low fanins labels x y o (Here _) = omega arith
leads_low fanins labels x y o (Then _ n _ walk step) =
    let rest : at labels n ≤ at labels x = leads_low fanins labels x n o walk in
    let falls : at labels y < at labels n = o.falls n y step in
    omega arith

-- a walk that ends above the low label is found, if its first net is
pub found_along : (fanins : List (List NetId)) (labels : List ℕ) (starts : List NetId) (low high : ℕ) (found : List NetId) (x y : ℕ) → IsOrdered fanins labels → IsReach (leads_to Up fanins) labels starts low high found → has_id found x ≡ true → low ≤ at labels y → Leads (leads_to Up fanins) x y → has_id found y ≡ true
found_along fanins labels starts low high found x y o r first above (Here _) = first
found_along fanins labels starts low high found x y o r first above (Then _ n _ walk step) =
    let falls : at labels y < at labels n = o.falls n y step in
    let rest : has_id found n ≡ true = found_along fanins labels starts low high found x n o r first (omega arith) walk in
    let inside : at labels n ≤ high = (r.inside n rest).1 in
    r.closed n y rest step (above, omega arith)

-- a search up from the fanins of a net, as far as the label of another, finds that one exactly if it is above
pub above_told : (fanins : List (List NetId)) (labels : List ℕ) (starts : List NetId) (n a low high : ℕ) (found : List NetId) (b : Bool) → starts ≡ row fanins n → low ≡ at labels a → high ≡ at labels n → IsOrdered fanins labels → IsReach (leads_to Up fanins) labels starts low high found → b ≡ has_id found a → MatchBool b (IsAbove (reads_by fanins) a n) (IsAbove (reads_by fanins) a n → ⊥)
above_told fanins labels starts n a low high found true row_is low_is high_is o r is =
    let w = r.reached a (sym is) in
    above_from_leads fanins n w.start a (ap (λ ns. has_id ns w.start) (sym row_is) ∙ w.is) w.leads
above_told fanins labels starts n a low high found false row_is low_is high_is o r is = λ above.
    let w = leads_from_above fanins n a above in
    let falls : at labels w.fanin < at labels n = o.falls n w.fanin w.reads in
    let rises : at labels a ≤ at labels w.fanin = leads_low fanins labels w.fanin a o w.leads in
    let first = r.starts_in w.fanin (ap (λ ns. has_id ns w.fanin) row_is ∙ w.reads) (omega arith, omega arith) in
    false≢true (is ∙ found_along fanins labels starts low high found w.fanin a o r first (omega arith) w.leads)

-- ---- walks down

-- what is reached down from the readers of a net has it above
below_from_leads : (fanins : List (List NetId)) (net s x : ℕ) → has_id (row fanins s) net ≡ true → Leads (leads_to Down fanins) s x → IsAbove (reads_by fanins) net x
below_from_leads fanins net s x h (Here _) = record { path = []; goes = h }
below_from_leads fanins net s x h (Then _ y _ walk step) =
    let a = below_from_leads fanins net s y h walk in
    record { path = y ∷ a.path; goes = (step, a.goes) }

-- a search of the whole way down from the readers of a net, without labels
module _ (fanins : List (List NetId)) (starts : List NetId) (net least : ℕ) (found : List NetId) (none : least ≡ 0) (all : (n : ℕ) → has_id starts n ≡ has_id (row fanins n) net) (s : IsSearch (leads_to Down fanins) (length fanins) [] starts least least found (length found)) where
  below_found : (n : ℕ) (path : List ℕ) → GoesOn (reads_by fanins) net n path → has_id found n ≡ true
  below_found n [] g = s.starts_in n (all n ∙ g) (omega arith, omega arith)
  below_found n (m ∷ path) g =
      search_closed (leads_to Down fanins) (length fanins) [] starts least least found s m n (below_found m path g.1) g.0 (omega arith, omega arith)

  below_is : (n : ℕ) → has_id found n ≡ true → IsAbove (reads_by fanins) net n
  below_is n h = let w = s.reached n h in below_from_leads fanins net w.start n (sym (all w.start) ∙ w.is) w.leads

  -- nets with the numbers found are those of which the net is above
  pub below_told : (nets : List NetId) → ((n : ℕ) → has_id nets n ≡ has_id found n) → (n : ℕ) → IsTrue (has_id nets n) ↔ IsAbove (reads_by fanins) net n
  below_told nets same n = (λ h. below_is n (sym (same n) ∙ h), λ a. same n ∙ below_found n a.path a.goes)
