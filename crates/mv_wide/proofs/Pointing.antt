-- A point of a window's variables is an assignment of its nets, and each assignment of these is that of a point.
use Rattle.std.proofs.Common.{◌≡◌, ◌∙◌, ℕ, ◌<◌, ◌≤◌, Bool, true, false, List, length, get_or, refl, sym, ap, subst, ⊎_elim, arith}
use Rattle.std.proofs.lemmas.Bool.{cases_Bool, cases_lt, true≢false}
use Rattle.mv_diagram.specs.Sets.{Point, InRange}
use Rattle.mv_flex.specs.Flex.{IsWindowOf}
use Rattle.mv_graph.specs.Nets.{has_id}
use Rattle.mv_net.specs.declared.parts.NetParts.{NetParts}
use Rattle.mv_net.specs.declared.window.Window.{Window}
use Rattle.mv_net.specs.Allowed.{net_allows}
use Rattle.mv_net.specs.Nets.{slot, values_in}
use Rattle.mv_net.proofs.Local.{net_allows-local}
use Rattle.mv_relation.specs.Relations.{assigned}
use Rattle.mv_wide.specs.Plans.{AreVarsOf}
use Rattle.mv_wide.specs.Windows.{AreWindowVars, is_inside}
use Rattle.mv_wide.proofs.Framing.{read_inside, table_inside}

module _ (net : NetParts) (w : Window) (n : ℕ) (window : IsWindowOf net n w) (counts vars : List ℕ) (are : AreWindowVars net.nets w counts vars) where
  -- the value that the point of an assignment gives a variable; behind the last it is that of another point
  pub value : (given : ℕ → ℕ) (rest : Point) (v : ℕ)
      → (x : ℕ) × ((m : ℕ) → is_inside w m ≡ true → get_or vars m 0 ≡ v → x ≡ given m) × (length counts ≤ v → x ≡ rest v)
  value given rest v =
      ⊎_elim
      (λ (low : v < length counts).
      let m = are.all v low in
      (given m.net, λ k inside e. ap given (are.apart m.net k m.passes inside (m.is ∙ sym e)), λ high. absurd (omega (arith, low, high))))
      (λ (high : length counts ≤ v). (
        rest v,
        λ k inside e.
            let less : v < length counts = subst (λ x. x < length counts) e (are.each k inside).within in
            absurd (omega (arith, high, less)),
        λ h. refl,
      ))
      (cases_lt v (length counts))

  abbrev pub point : (ℕ → ℕ) → Point → Point
  point given rest v = (value given rest v).0

  pub at_point : (given : ℕ → ℕ) (rest : Point) (m : ℕ) → is_inside w m ≡ true → assigned vars (point given rest) m ≡ given m
  at_point given rest m inside = (value given rest (get_or vars m 0)).1 m inside refl

  -- the variable of a net
  pub at_var : (given : ℕ → ℕ) (rest : Point) (m v : ℕ) → is_inside w m ≡ true → get_or vars m 0 ≡ v → point given rest v ≡ given m
  at_var given rest m v inside is = (value given rest v).1 m inside is

  pub point_behind : (given : ℕ → ℕ) (rest : Point) (v : ℕ) → length counts ≤ v → point given rest v ≡ rest v
  point_behind given rest v high = (value given rest v).2 high

  pub point_range : (given : ℕ → ℕ) (rest : Point) → ((m : ℕ) → is_inside w m ≡ true → given m < values_in (slot net.nets m))
      → InRange counts (point given rest)
  point_range given rest low = record {
    below = λ v inside.
        let m = are.all v inside in
        let there : point given rest v ≡ given m.net = at_var given rest m.net v m.passes m.is in
        let count : get_or counts v 0 ≡ values_in (slot net.nets m.net) =
        ap (λ k. get_or counts k 0) (sym m.is) ∙ (are.each m.net m.passes).count in
        subst (λ k. k < get_or counts v 0) (sym there) (subst (λ k. given m.net < k) (sym count) (low m.net m.passes));
  }

  pub assigned_range : (p : Point) → InRange counts p → (m : ℕ) → is_inside w m ≡ true → assigned vars p m < values_in (slot net.nets m)
  assigned_range p range m inside =
      let var = are.each m inside in
      subst (λ k. p (get_or vars m 0) < k) var.count (range.below (get_or vars m 0) var.within)

  -- a table agrees at the point just as it does at the assignment
  pub allows_at : (given : ℕ → ℕ) (rest : Point) (m : ℕ) → has_id w.tables m ≡ true
      → net_allows (slot net.nets m) (assigned vars (point given rest)) (assigned vars (point given rest) m)
      ≡ net_allows (slot net.nets m) given (given m)
  allows_at given rest m listed =
      ap (λ v. net_allows (slot net.nets m) (assigned vars (point given rest)) v) (at_point given rest m (table_inside net w n window m listed))
      ∙ net_allows-local (slot net.nets m) (assigned vars (point given rest)) given (given m)
      (λ k reads. at_point given rest k (read_inside net w n window m k listed reads))

  -- the variable of a net that fails the test isn't among those of the nets that pass it
  pub not_among : (test among : ℕ → Bool) → AreVarsOf test vars among → ((k : ℕ) → test k ≡ true → is_inside w k ≡ true) → (m : ℕ)
      → is_inside w m ≡ true → test m ≡ false → among (get_or vars m 0) ≡ false
  not_among test among of within m inside fails =
      ⊎_elim
      (λ (yes : among (get_or vars m 0) ≡ true).
      let k = of.only (get_or vars m 0) yes in
      let same : k.net ≡ m = are.apart k.net m (within k.net k.passes) inside k.is in
      absurd (true≢false (sym k.passes ∙ (ap test same ∙ fails))))
      (λ (no : among (get_or vars m 0) ≡ false). no)
      (cases_Bool (among (get_or vars m 0)))
