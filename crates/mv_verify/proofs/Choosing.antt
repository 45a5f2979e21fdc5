-- What a network allows is what it shows at its ports.
use Rattle.std.proofs.Common.{◌≡◌, ◌∙◌, ℕ, ◌<◌, ◌≤◌, Bool, false, IsTrue, List, [], ◌∷◌, ◌++◌, length, map, get_or, take, drop, min, refl, sym, ap, subst, length-append, length-drop, take-append-drop, ◌-◌, arith}
use Rattle.std.specs.Prelude.{slice_index}
use Rattle.std.proofs.lemmas.Bool.{false≢true}
use Rattle.std.proofs.lemmas.List.{length-map, map-append, ext_get_or, get_or-map, get_or_append_left, append-nil}
use Rattle.std.specs.List.{AllZip}
use Rattle.mv_base.specs.declared.number.NetId.{NetId}
use Rattle.mv_base.specs.Meaning.{Interface, AllowsSome, Narrows}
use Rattle.mv_graph.specs.Sorting.{net_at}
use Rattle.mv_net.specs.declared.parts.FlatLatch.{FlatLatch}
use Rattle.mv_net.specs.declared.parts.NetParts.{NetParts}
use Rattle.mv_net.specs.Nets.{port_of, latch_port_of, interface_of}
use Rattle.mv_net.specs.Formed.{WellFormed, latch_outputs, latch_resets}
use Rattle.mv_net.specs.Allowed.{Agrees, Allows, of_net}
use Rattle.mv_verify.specs.declared.answer.Point.{Point}
use Rattle.mv_verify.specs.declared.answer.Choice.{Choice}
use Rattle.mv_verify.specs.Answers.{IsBareZero, IsExtra, IsLost, LosesNothing}
use Rattle.mv_verify.specs.Sides.{latch_inputs, point_ports, choice_ports, ports_of, Shows}
use Rattle.mv_verify.specs.Prefixes.{Opens, Differs, IsFine}
use Rattle.mv_verify.specs.Evidence.{spread, IsPointOf, IsChoiceOf}
use Rattle.mv_verify.proofs.Looks.{same_long}
use Rattle.mv_verify.proofs.Ports.{points_long, choices_long, ports_long}
use Rattle.mv_verify.proofs.Resets.{at_all, kept, AreFree, resets_kept, resets_long, resets_from, resets_alike, kept_alike, free_alike, spread_long, kept_spread, free_spread, spread_bare}

-- ---- lists

-- two lists one behind the other are cut at one place
cut : (xs us ys vs : List ℕ) → length xs ≡ length us → xs ++ ys ≡ us ++ vs → (xs ≡ us) × (ys ≡ vs)
cut [] [] ys vs long e = (refl, e)
cut [] (u ∷ us) ys vs long e = absurd (omega arith)
cut (x ∷ xs) [] ys vs long e = absurd (omega arith)
cut (x ∷ xs) (u ∷ us) ys vs long e =
    let first : x ≡ u = cc in
    let behind : xs ++ ys ≡ us ++ vs = cc in
    let rest = cut xs us ys vs (omega arith) behind in
    let tail = rest.0 in
    (λ i. first i ∷ tail i, rest.1)

-- the values of the nets of latches
at_outputs : (at : ℕ → ℕ) (ls : List FlatLatch) → at_all at (latch_outputs ls) ≡ map (λ (l : FlatLatch). at l.output.0) ls
at_outputs at [] = refl
at_outputs at (l ∷ ls) = ap (λ k. at l.output.0 ∷ k) (at_outputs at ls)

at_inputs : (at : ℕ → ℕ) (ls : List FlatLatch) → at_all at (latch_inputs ls) ≡ map (λ (l : FlatLatch). at l.input.0) ls
at_inputs at [] = refl
at_inputs at (l ∷ ls) = ap (λ k. at l.input.0 ∷ k) (at_inputs at ls)

at_long : (at : ℕ → ℕ) (ns : List NetId) → length (at_all at ns) ≡ length ns
at_long at ns = length-map ns (λ (m : NetId). at m.0)

at_both : (at : ℕ → ℕ) (ms ns : List NetId) → at_all at (ms ++ ns) ≡ at_all at ms ++ at_all at ns
at_both at ms ns = map-append (λ (m : NetId). at m.0) ms ns

-- ---- at the first ports

-- an assignment with these values at the first of some nets
pub at_first : (ms ns : List NetId) (at : ℕ → ℕ) (us vs : List ℕ) → at_all at ms ≡ us → (k : ℕ) → k < length ms → at (net_at (ms ++ ns) k) ≡ slice_index (us ++ vs) k
at_first ms ns at us vs e k less =
    let none : NetId = record { 0 = 0 } in
    let long : length us ≡ length ms = sym (ap length e) ∙ at_long at ms in
    let here : get_or (ms ++ ns) k none ≡ get_or ms k none = get_or_append_left ms ns none k less in
    let there : get_or (us ++ vs) k 0 ≡ get_or us k 0 = get_or_append_left us vs 0 k (omega arith) in
    ap (λ (m : NetId). at m.0) here ∙ (sym (get_or-map (λ (m : NetId). at m.0) ms k none 0 less) ∙ (ap (λ l. get_or l k 0) e ∙ sym there))

-- and the other way round
pub first_at : (ms ns : List NetId) (at : ℕ → ℕ) (us vs : List ℕ) → length us ≡ length ms → ((k : ℕ) → k < length ms → at (net_at (ms ++ ns) k) ≡ slice_index (us ++ vs) k) → at_all at ms ≡ us
first_at ms ns at us vs long same =
    let none : NetId = record { 0 = 0 } in
    let all : length (at_all at ms) ≡ length ms = at_long at ms in
    ext_get_or 0 (at_all at ms) us (all ∙ sym long) (λ k less.
    let low : k < length ms = omega arith in
    get_or-map (λ (m : NetId). at m.0) ms k none 0 low
    ∙ (ap (λ (m : NetId). at m.0) (sym (get_or_append_left ms ns none k low)) ∙ (same k low ∙ get_or_append_left us vs 0 k (omega arith))))

-- ---- networks that look alike

-- what two networks that look alike have in common
pub record AreAlike (b a : NetParts) : Type 0 where
  pub formed_b : WellFormed b
  pub formed_a : WellFormed a
  pub inputs : length b.inputs ≡ length a.inputs
  pub outputs : length b.outputs ≡ length a.outputs
  pub latches : length b.latches ≡ length a.latches
  pub states : map (latch_port_of b.nets) b.latches ≡ map (latch_port_of a.nets) a.latches

pub are_alike : (b a : NetParts) → WellFormed b → WellFormed a → interface_of b ≡ interface_of a → AreAlike b a
unfolding interface_of
are_alike b a formed_b formed_a same =
    let states : map (latch_port_of b.nets) b.latches ≡ map (latch_port_of a.nets) a.latches = ap (λ (p : Interface). p.latches) same in
    record {
      formed_b = formed_b;
      formed_a = formed_a;
      inputs = same_long (port_of b.nets) (port_of a.nets) b.inputs a.inputs (ap (λ (p : Interface). p.inputs) same);
      outputs = same_long (port_of b.nets) (port_of a.nets) b.outputs a.outputs (ap (λ (p : Interface). p.outputs) same);
      latches = same_long (latch_port_of b.nets) (latch_port_of a.nets) b.latches a.latches states;
      states = states;
    }

pub points_alike : (b a : NetParts) → AreAlike b a → length (point_ports b) ≡ length (point_ports a)
points_alike b a same = omega (arith, points_long b, points_long a, same.inputs, same.latches)

pub ports_alike : (b a : NetParts) → AreAlike b a → length (ports_of b) ≡ length (ports_of a)
ports_alike b a same =
    omega (arith, points_alike b a same, ports_long b, ports_long a, choices_long b, choices_long a, same.outputs, same.latches, resets_alike b.nets a.nets b.latches a.latches same.states)

-- ---- allowed and shown

-- how many values there are of each kind
record AreSized (net : NetParts) (i s o n : List ℕ) : Type 0 where
  inputs : length i ≡ length net.inputs
  states : length s ≡ length net.latches
  outputs : length o ≡ length net.outputs
  next : length n ≡ length net.latches

sizes : (net : NetParts) (i s o n r : List ℕ) → Allows net i s o n r → AreSized net i s o n
sizes net i s o n r a = record {
  inputs = sym (ap length a.inputs) ∙ length-map net.inputs (λ (m : NetId). a.at m.0);
  states = sym (ap length a.states) ∙ length-map net.latches (λ (l : FlatLatch). a.at l.output.0);
  outputs = sym (ap length a.outputs) ∙ length-map net.outputs (λ (m : NetId). a.at m.0);
  next = sym (ap length a.next) ∙ length-map net.latches (λ (l : FlatLatch). a.at l.input.0);
}

sizes_alike : (b a : NetParts) (i s o n : List ℕ) → AreAlike b a → AreSized b i s o n → AreSized a i s o n
sizes_alike b a i s o n same z = record {
  inputs = z.inputs ∙ same.inputs;
  states = z.states ∙ same.latches;
  outputs = z.outputs ∙ same.outputs;
  next = z.next ∙ same.latches;
}

-- all values of a point and a choice, in the order of the ports
abbrev whole : List ℕ → List ℕ → List ℕ → List ℕ → List ℕ → List ℕ
whole i s o n k = (i ++ s) ++ (o ++ (n ++ k))

points_at : (net : NetParts) (i s o n r : List ℕ) (a : Allows net i s o n r) → at_all a.at (point_ports net) ≡ i ++ s
unfolding point_ports
points_at net i s o n r a =
    let first = a.inputs in
    let second = at_outputs a.at net.latches ∙ a.states in
    at_both a.at net.inputs (latch_outputs net.latches) ∙ (λ k. first k ++ second k)

choices_at : (net : NetParts) (i s o n r : List ℕ) (a : Allows net i s o n r) → at_all a.at (choice_ports net) ≡ o ++ (n ++ kept net.latches r)
unfolding choice_ports
choices_at net i s o n r a =
    let first = a.outputs in
    let second = at_inputs a.at net.latches ∙ a.next in
    let third = resets_kept net.nets a.at net.latches r a.resets in
    at_both a.at net.outputs (latch_inputs net.latches ++ latch_resets net.latches)
    ∙ ((λ k. first k ++ at_all a.at (latch_inputs net.latches ++ latch_resets net.latches))
    ∙ ap (λ l. o ++ l) (at_both a.at (latch_inputs net.latches) (latch_resets net.latches) ∙ (λ k. second k ++ third k)))

-- all values of the ports, where they are those of a point and a choice
ports_at : (net : NetParts) (i s o n r : List ℕ) (a : Allows net i s o n r) → at_all a.at (ports_of net) ≡ whole i s o n (kept net.latches r)
unfolding ports_of
ports_at net i s o n r a =
    let first = points_at net i s o n r a in
    let second = choices_at net i s o n r a in
    at_both a.at (point_ports net) (choice_ports net) ∙ (λ k. first k ++ second k)

-- the values of a list at all nets of a list
all_at : (ns : List NetId) (at : ℕ → ℕ) (vs : List ℕ) → at_all at ns ≡ vs → (k : ℕ) → k < length ns → at (net_at ns k) ≡ slice_index vs k
all_at ns at vs e k less =
    let none : NetId = record { 0 = 0 } in
    sym (get_or-map (λ (m : NetId). at m.0) ns k none 0 less) ∙ ap (λ l. get_or l k 0) e

at_each : (ns : List NetId) (at : ℕ → ℕ) (vs : List ℕ) → length vs ≡ length ns → ((k : ℕ) → k < length ns → at (net_at ns k) ≡ slice_index vs k) → at_all at ns ≡ vs
at_each ns at vs long same =
    let none : NetId = record { 0 = 0 } in
    let all : length (at_all at ns) ≡ length ns = at_long at ns in
    ext_get_or 0 (at_all at ns) vs (all ∙ sym long) (λ k less.
    let low : k < length ns = omega arith in
    get_or-map (λ (m : NetId). at m.0) ns k none 0 low ∙ same k low)

-- an assignment with the values of a point, and some choice
pub some_allowed : (net : NetParts) (at : ℕ → ℕ) (i s : List ℕ) → WellFormed net → Agrees net.nets at → length i ≡ length net.inputs → at_all at (point_ports net) ≡ i ++ s → AllowsSome (of_net net) i s
unfolding of_net point_ports
some_allowed net at i s formed agrees long e =
    let rs = at_all at (latch_resets net.latches) in
    let r = spread net.latches rs in
    let both = cut (at_all at net.inputs) i (at_all at (latch_outputs net.latches)) s (at_long at net.inputs ∙ sym long) (sym (at_both at net.inputs (latch_outputs net.latches)) ∙ e) in
    record {
      o = at_all at net.outputs;
      n = map (λ (l : FlatLatch). at l.input.0) net.latches;
      r = r;
      allowed =
          record {
            at = at;
            agrees = agrees;
            inputs = both.0;
            states = sym (at_outputs at net.latches) ∙ both.1;
            outputs = refl;
            next = refl;
            resets = resets_from net.nets at net.latches r (spread_long net.latches rs) (free_spread net net.latches rs formed formed.latches) (sym (kept_spread net.latches rs (at_long at (latch_resets net.latches))));
          };
    }

-- an assignment with all values
all_allowed : (net : NetParts) (at : ℕ → ℕ) (i s o n r : List ℕ) → Agrees net.nets at → AreSized net i s o n → length r ≡ length net.latches → AreFree net.nets net.latches r → at_all at (ports_of net) ≡ whole i s o n (kept net.latches r) → Allows net i s o n r
unfolding ports_of point_ports choice_ports
all_allowed net at i s o n r agrees z long free e =
    let ls = net.latches in
    let k = kept ls r in
    let points = net.inputs ++ latch_outputs ls in
    let choices = net.outputs ++ (latch_inputs ls ++ latch_resets ls) in
    let first_long : length (at_all at points) ≡ length (i ++ s) =
    at_long at points ∙ omega (arith, length-append net.inputs (latch_outputs ls), length-map ls (λ (l : FlatLatch). l.output), length-append i s, z.inputs, z.states) in
    let parts = cut (at_all at points) (i ++ s) (at_all at choices) (o ++ (n ++ k)) first_long (sym (at_both at points choices) ∙ e) in
    let point = cut (at_all at net.inputs) i (at_all at (latch_outputs ls)) s (at_long at net.inputs ∙ sym z.inputs) (sym (at_both at net.inputs (latch_outputs ls)) ∙ parts.0) in
    let choice = cut (at_all at net.outputs) o (at_all at (latch_inputs ls ++ latch_resets ls)) (n ++ k) (at_long at net.outputs ∙ sym z.outputs) (sym (at_both at net.outputs (latch_inputs ls ++ latch_resets ls)) ∙ parts.1) in
    let next_long : length (at_all at (latch_inputs ls)) ≡ length n = at_long at (latch_inputs ls) ∙ (length-map ls (λ (l : FlatLatch). l.input) ∙ sym z.next) in
    let behind = cut (at_all at (latch_inputs ls)) n (at_all at (latch_resets ls)) k next_long (sym (at_both at (latch_inputs ls) (latch_resets ls)) ∙ choice.1) in
    record {
      at = at;
      agrees = agrees;
      inputs = point.0;
      states = sym (at_outputs at ls) ∙ point.1;
      outputs = choice.0;
      next = sym (at_inputs at ls) ∙ behind.0;
      resets = resets_from net.nets at ls r long free behind.1;
    }

whole_long : (net : NetParts) (i s o n r : List ℕ) → Allows net i s o n r → length (whole i s o n (kept net.latches r)) ≡ length (ports_of net)
whole_long net i s o n r a = sym (ap length (ports_at net i s o n r a)) ∙ at_long a.at (ports_of net)

-- a point at which a network allows something is shown
pub some_shown : (net : NetParts) (i s rest : List ℕ) (points end : ℕ) → points ≡ length (point_ports net) → end ≤ points → AllowsSome (of_net net) i s → Shows net end (slice_index ((i ++ s) ++ rest))
unfolding of_net ports_of
some_shown net i s rest points end is le some =
    let a : Allows net i s some.o some.n some.r = some.allowed in
    record {
      at = a.at;
      agrees = a.agrees;
      same = record { each = λ k less. at_first (point_ports net) (choice_ports net) a.at (i ++ s) rest (points_at net i s some.o some.n some.r a) k (omega arith) };
    }

-- and what is shown at a point is allowed with some choice
pub shown_some : (net : NetParts) (i s rest : List ℕ) (points end : ℕ) → WellFormed net → points ≡ length (point_ports net) → points ≤ end → length i ≡ length net.inputs → length s ≡ length net.latches → Shows net end (slice_index ((i ++ s) ++ rest)) → AllowsSome (of_net net) i s
unfolding ports_of
shown_some net i s rest points end formed is le long_i long_s sh =
    let long : length (i ++ s) ≡ length (point_ports net) = omega (arith, length-append i s, points_long net) in
    some_allowed net sh.at i s formed sh.agrees long_i (first_at (point_ports net) (choice_ports net) sh.at (i ++ s) rest long (λ k less. sh.same.each k (omega arith)))

-- ---- what no difference means

-- no difference of all values: nothing more is allowed
pub narrows : (free : Bool) (b a : NetParts) (points end : ℕ) → WellFormed b → WellFormed a → interface_of b ≡ interface_of a → points ≡ length (point_ports b) → end ≡ length (ports_of b) → ((t : ℕ → ℕ) → IsFine free b a points end t) → Narrows free (of_net b) (of_net a)
unfolding of_net
narrows free b a points end formed_b formed_a same is_points is_end fine = record { same = same; only = only }
  where
    alike : AreAlike b a
    alike = are_alike b a formed_b formed_a same

    only : (i s o n r : List ℕ) → (IsTrue free → AllowsSome (of_net a) i s) → Allows b i s o n r → Allows a i s o n r
    only i s o n r some x =
        let vs = whole i s o n (kept b.latches r) in
        let now = slice_index vs in
        let at_b = all_at (ports_of b) x.at vs (ports_at b i s o n r x) in
        let points_a = points_alike b a alike in
        let ports_a = ports_alike b a alike in
        let opens : Opens free b a points end now = record {
          shown = record { at = x.at; agrees = x.agrees; same = record { each = λ k less. at_b k (omega arith) } };
          some = λ asks. some_shown a i s (o ++ (n ++ kept b.latches r)) points (min points end) (is_points ∙ points_a) (omega arith) (some asks);
        } in
        let shown : Shows a end now = fine now opens in
        let long : length vs ≡ length (ports_of a) = whole_long b i s o n r x ∙ ports_a in
        let all = at_each (ports_of a) shown.at vs long (λ k less. shown.same.each k (omega arith)) in
        let z = sizes_alike b a i s o n alike (sizes b i s o n r x) in
        all_allowed a shown.at i s o n r shown.agrees z (resets_long b.nets x.at b.latches r x.resets ∙ alike.latches) (free_alike b a x.at b.latches a.latches r formed_b formed_a alike.states x.resets) (all ∙ ap (λ k. whole i s o n k) (kept_alike b.nets a.nets b.latches a.latches r alike.states))

-- no difference of points: nothing is lost
pub loses_nothing : (b a : NetParts) (points : ℕ) → WellFormed b → WellFormed a → interface_of b ≡ interface_of a → points ≡ length (point_ports a) → ((t : ℕ → ℕ) → IsFine false a b points points t) → LosesNothing (of_net b) (of_net a)
unfolding of_net
loses_nothing b a points formed_b formed_a same is_points fine = record { some = some }
  where
    alike : AreAlike b a
    alike = are_alike b a formed_b formed_a same

    some : (i s : List ℕ) → AllowsSome (of_net a) i s → AllowsSome (of_net b) i s
    some i s x =
        let y : Allows a i s x.o x.n x.r = x.allowed in
        let z = sizes a i s x.o x.n x.r y in
        let points_b : points ≡ length (point_ports b) = is_points ∙ sym (points_alike b a alike) in
        let shown : Shows b points (slice_index ((i ++ s) ++ [])) = fine (slice_index ((i ++ s) ++ [])) (record {
          shown = some_shown a i s [] points points is_points (omega arith) x;
          some = λ asks. absurd (false≢true asks);
        }) in
        shown_some b i s [] points points formed_b points_b (omega arith) (z.inputs ∙ sym alike.inputs) (z.states ∙ sym alike.latches) shown

-- ---- what a difference means

-- a difference of all values: the one network allows them, as a point and a choice
given : (free : Bool) (b a : NetParts) (points end : ℕ) (i s o n k : List ℕ) → WellFormed b → AreSized b i s o n → length k ≡ length (latch_resets b.latches) → length (whole i s o n k) ≡ length (ports_of b) → end ≡ length (ports_of b) → Differs free b a points end (slice_index (whole i s o n k)) → Allows b i s o n (spread b.latches k)
given free b a points end i s o n k formed z long_k long is_end d =
    let sh = d.opens.shown in
    let all = at_each (ports_of b) sh.at (whole i s o n k) long (λ j less. sh.same.each j (omega arith)) in
    all_allowed b sh.at i s o n (spread b.latches k) sh.agrees z (spread_long b.latches k) (free_spread b b.latches k formed formed.latches) (all ∙ ap (λ l. whole i s o n l) (sym (kept_spread b.latches k long_k)))

-- and the other one doesn't
refused : (free : Bool) (b a : NetParts) (points end : ℕ) (i s o n k : List ℕ) → AreAlike b a → length k ≡ length (latch_resets b.latches) → end ≡ length (ports_of b) → Differs free b a points end (slice_index (whole i s o n k)) → Allows a i s o n (spread b.latches k) → ⊥
refused free b a points end i s o n k alike long_k is_end d x =
    let r = spread b.latches k in
    let kept_is : kept a.latches r ≡ k = sym (kept_alike b.nets a.nets b.latches a.latches r alike.states) ∙ kept_spread b.latches k long_k in
    let is : at_all x.at (ports_of a) ≡ whole i s o n k = ports_at a i s o n r x ∙ ap (λ l. whole i s o n l) kept_is in
    let same = ports_alike b a alike in
    d.none (record { at = x.at; agrees = x.agrees; same = record { each = λ j less. all_at (ports_of a) x.at (whole i s o n k) is j (omega arith) } })

-- as many values as ports, cut at the points
record AreCut (b : NetParts) (i s o n k : List ℕ) : Type 0 where
  sized : AreSized b i s o n
  resets : length k ≡ length (latch_resets b.latches)

are_cut : (b : NetParts) (points : ℕ) (values : List ℕ) (p : Point) (c : Choice) → points ≡ length (point_ports b) → length values ≡ length (ports_of b) → (is_p : IsPointOf b (take points values) p) (is_c : IsChoiceOf b (drop points values) c) → AreCut b p.inputs p.latches c.outputs c.next is_c.resets
are_cut b points values p c is_points long is_p is_c = record {
  sized = record { inputs = is_p.inputs; states = is_p.latches; outputs = is_c.outputs; next = is_c.next };
  resets =
      let choice = ap length is_c.whole in
      let behind : length (drop points values) ≡ length values - points = length-drop points values in
      let split = length-append c.outputs (c.next ++ is_c.resets) in
      let split_next = length-append c.next is_c.resets in
      omega (arith, ports_long b, choices_long b, is_c.outputs, is_c.next);
}

pub is_extra : (free : Bool) (b a : NetParts) (points : ℕ) (values : List ℕ) (p : Point) (c : Choice) → WellFormed b → WellFormed a → interface_of b ≡ interface_of a → points ≡ length (point_ports b) → length values ≡ length (ports_of b) → Differs free b a points (length values) (slice_index values) → IsPointOf b (take points values) p → IsChoiceOf b (drop points values) c → IsExtra free (of_net b) (of_net a) p c
unfolding of_net interface_of
is_extra free b a points values p c formed_b formed_a same is_points long d is_p is_c =
    let alike = are_alike b a formed_b formed_a same in
    let k = is_c.resets in
    let parts = are_cut b points values p c is_points long is_p is_c in
    let vs = whole p.inputs p.latches c.outputs c.next k in
    let point = is_p.whole in
    let choice = is_c.whole in
    let is : values ≡ vs = sym (take-append-drop points values) ∙ (λ j. point j ++ choice j) in
    let P : List ℕ → Type 0 = λ l. Differs free b a points (length values) (slice_index l) in
    let differs : P vs = subst P is d in
    let long_vs : length vs ≡ length (ports_of b) = sym (ap length is) ∙ long in
    let within : points ≤ length values = omega (arith, ports_long b) in
    let same_points = points_alike b a alike in
    let r = sym is_c.spread in
    let Given : List ℕ → Type 0 = λ l. Allows b p.inputs p.latches c.outputs c.next l in
    let Refused : List ℕ → Type 0 = λ l. Allows a p.inputs p.latches c.outputs c.next l → ⊥ in
    let Bare : List ℕ → Type 0 = λ l. AllZip IsBareZero (map (latch_port_of b.nets) b.latches) l in
    record {
      same = same;
      some = λ asks. shown_some a p.inputs p.latches (c.outputs ++ (c.next ++ k)) points (min points (length values)) formed_a (is_points ∙ same_points) (omega arith) (is_p.inputs ∙ alike.inputs) (is_p.latches ∙ alike.latches) (differs.opens.some asks);
      given = subst Given r (given free b a points (length values) p.inputs p.latches c.outputs c.next k formed_b parts.sized parts.resets long_vs long differs);
      refused = subst Refused r (refused free b a points (length values) p.inputs p.latches c.outputs c.next k alike parts.resets long differs);
      bare = subst Bare r (spread_bare b.nets b.latches k);
    }

-- a difference of points: some are lost
pub is_lost : (b a : NetParts) (points : ℕ) (values : List ℕ) (p : Point) → WellFormed b → WellFormed a → interface_of b ≡ interface_of a → points ≡ length (point_ports a) → length values ≡ points → Differs false a b points (length values) (slice_index values) → IsPointOf a values p → IsLost (of_net b) (of_net a) p
unfolding of_net
is_lost b a points values p formed_b formed_a same is_points long d is_p =
    let alike = are_alike b a formed_b formed_a same in
    let i = p.inputs in
    let s = p.latches in
    let is : values ≡ (i ++ s) ++ [] = is_p.whole ∙ sym (append-nil (i ++ s)) in
    let P : List ℕ → Type 0 = λ l. Differs false a b points (length values) (slice_index l) in
    let differs : P ((i ++ s) ++ []) = subst P is d in
    record {
      same = same;
      some = shown_some a i s [] points (length values) formed_a is_points (omega arith) is_p.inputs is_p.latches differs.opens.shown;
      none = λ x. differs.none (some_shown b i s [] points (length values) (is_points ∙ sym (points_alike b a alike)) (omega arith) x);
    }
