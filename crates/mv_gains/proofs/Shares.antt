-- What taking one cube out of all tables saves, by the number of lines that have its symbols: the best common part of two lines
-- is the best candidate.
use Rattle.std.proofs.Common.{◌≡◌, ◌∙◌, ℕ, zero, suc, ◌+◌, ◌-◌, ◌*◌, ◌<◌, ◌≤◌, cond, Option, List, [], ◌∷◌, length, map, get_or, All, Contains, refl, sym, ap, subst, arith}
use Rattle.std.proofs.lemmas.List.{length-map, get_or-map, get_or_default}
use Rattle.std.proofs.lemmas.List.Elements.{All-append, All-head, All-tail, All-cons, All-nil, All-weaker, All-contains_itself}
use Rattle.std.proofs.lemmas.List.Sums.{sum_by-cons, sum_by-append}
use Rattle.std.proofs.lemmas.Option.{slice_get-get_or, slice_get_within, get_or_from_slice_get}
use Rattle.std.specs.List.{sum_by}
use Rattle.std.specs.Ordering.{ordering_then}
use Rattle.std.specs.declared.cmp.Ordering.{Ordering}
use Rattle.std.specs.declared.cmp.Ordering.TheVariants.{Less, Equal, Greater}
use Rattle.mv_cover.specs.Literal.{Lit}
use Rattle.mv_cover.specs.Cubes.{IsCube}
use Rattle.mv_cover.specs.declared.line.Line.{Line}
use Rattle.mv_net.specs.declared.parts.FlatNet.{FlatNet}
use Rattle.mv_kernels.specs.Symbols.{has_each}
use Rattle.mv_kernels.specs.Order.{cube_cmp, cubes_cmp}
use Rattle.mv_divide.specs.declared.part.Part.{Part}
use Rattle.mv_divide.specs.Tables.{parts_of}
use Rattle.mv_meets.specs.Meets.{at, common, count, saving, IsMeet, IsBestMeet, NoMeetSaves}
use Rattle.mv_saving.specs.Saving.{AreCubes, literals}
use Rattle.mv_saving.proofs.Covers.{covers_once}
use Rattle.mv_saving.proofs.Single.{single_saving, single_saves}
use Rattle.mv_gains.specs.Candidates.{all_lines, IsCubeCandidate, IsBest, NoneSaves}
use Rattle.mv_gains.specs.Gains.{lines_at, IsSum, IsTableSaving, Saves}
use Rattle.mv_gains.specs.Tables.{HasLines, IsPartsSaving}
use Rattle.mv_gains.proofs.Divisors.{alone, cube_divisor}
use Rattle.mv_gains.proofs.Savings.{ascend_once}
use Rattle.mv_gains.proofs.Parts.{by_parts, formed_parts, sum_map}

times_less : (c n : ℕ) → 0 < n → c * (n - 1) + c ≡ c * n
times_less c zero h = absurd (omega arith)
times_less c (suc m) h =
    let less : suc m - 1 ≡ m = omega arith in
    ap (λ k. c * k + c) less ∙ omega arith

module _ (d : List Lit) (fd : IsCube d) (some : 0 < length d) where
  abbrev has : List Lit → ℕ
  has k = cond (has_each d k) 1 0

  abbrev in_parts : List Part → ℕ
  in_parts parts = sum_by (λ (p : Part). sum_by has p.cover) parts

  abbrev in_net : Option FlatNet → ℕ
  in_net f = sum_by (λ (l : Line). has l.cube) (lines_at f)

  single : AreCubes (d ∷ [])
  single = record { formed = All-cons IsCube d [] fd (All-nil IsCube); distinct = ascend_once (d ∷ []) (alone d) }

  -- ---- one table

  parts_saving : (parts : List Part) (s : ℕ) → All (λ (p : Part). AreCubes p.cover) parts → IsPartsSaving (d ∷ []) parts s → s + in_parts parts ≡ in_parts parts * length d
  parts_saving [] s a h = omega (arith, h)
  parts_saving (p ∷ ps) s a h =
      let Is : Part → Type 0 = λ q. AreCubes q.cover in
      let here = single_saving p.cover d (All-head Is p ps a) fd h.first single h.is in
      let rest = parts_saving ps h.rest (All-tail Is p ps a) h.others in
      let both = sum_by-cons (λ (q : Part). sum_by has q.cover) p ps in
      let sum = h.sum in
      let many : in_parts (p ∷ ps) * length d ≡ (sum_by has p.cover + in_parts ps) * length d = ap (λ n. n * length d) both in
      omega (arith, here, rest, both, sum, many)

  parts_saves : (parts : List Part) → All (λ (p : Part). AreCubes p.cover) parts → IsPartsSaving (d ∷ []) parts (in_parts parts * (length d - 1))
  parts_saves [] a = omega arith
  parts_saves (p ∷ ps) a =
      let Is : Part → Type 0 = λ q. AreCubes q.cover in
      let both = sum_by-cons (λ (q : Part). sum_by has q.cover) p ps in
      record {
        first = sum_by has p.cover * (length d - 1);
        is = single_saves p.cover d (All-head Is p ps a) fd (sum_by has p.cover * (length d - 1)) single (times_less (sum_by has p.cover) (length d) some);
        rest = in_parts ps * (length d - 1);
        others = parts_saves ps (All-tail Is p ps a);
        sum = ap (λ n. n * (length d - 1)) both ∙ omega arith;
      }

  cubes_of_parts : (f : Option FlatNet) → HasLines f → All (λ (p : Part). AreCubes p.cover) (parts_of (lines_at f))
  cubes_of_parts f h k p low = record { formed = all_formed k p low; distinct = covers_once (lines_at f) h.differ k p low }
    where
      all_formed : All (λ (q : Part). All IsCube q.cover) (parts_of (lines_at f))
      all_formed =
          All-weaker (Contains (parts_of (lines_at f))) (λ (q : Part). All IsCube q.cover) (formed_parts (lines_at f) h.formed) (parts_of (lines_at f))
          (All-contains_itself (parts_of (lines_at f)))

  -- ---- all tables

  abbrev in_nets : List (Option FlatNet) → ℕ
  in_nets nets = sum_by in_net nets

  abbrev SavesTable : Option FlatNet → ℕ → Type 0
  SavesTable f s = IsTableSaving (lines_at f) (d ∷ []) s

  nets_saving : (nets : List (Option FlatNet)) (g : ℕ) → All HasLines nets → IsSum SavesTable nets g → g + in_nets nets ≡ in_nets nets * length d
  nets_saving [] g a h = omega (arith, h)
  nets_saving (f ∷ fs) g a h =
      let here = parts_saving (parts_of (lines_at f)) h.first (cubes_of_parts f (All-head HasLines f fs a)) h.is.sum in
      let same : in_parts (parts_of (lines_at f)) ≡ in_net f = by_parts has (lines_at f) in
      let rest = nets_saving fs h.rest (All-tail HasLines f fs a) h.others in
      let both = sum_by-cons in_net f fs in
      let sum = h.sum in
      let one : in_parts (parts_of (lines_at f)) * length d ≡ in_net f * length d = ap (λ n. n * length d) same in
      let many : in_nets (f ∷ fs) * length d ≡ (in_net f + in_nets fs) * length d = ap (λ n. n * length d) both in
      omega (arith, here, same, rest, both, sum, one, many)

  nets_saves : (nets : List (Option FlatNet)) → All HasLines nets → IsSum SavesTable nets (in_nets nets * (length d - 1))
  nets_saves [] a = omega arith
  nets_saves (f ∷ fs) a =
      let same : in_parts (parts_of (lines_at f)) ≡ in_net f = by_parts has (lines_at f) in
      let both = sum_by-cons in_net f fs in
      record {
        first = in_net f * (length d - 1);
        is = record {
          sum = subst (λ n. IsPartsSaving (d ∷ []) (parts_of (lines_at f)) (n * (length d - 1))) same (parts_saves (parts_of (lines_at f)) (cubes_of_parts f (All-head HasLines f fs a)));
        };
        rest = in_nets fs * (length d - 1);
        others = nets_saves fs (All-tail HasLines f fs a);
        sum = ap (λ n. n * (length d - 1)) both ∙ omega arith;
      }

  in_all : (nets : List (Option FlatNet)) → in_nets nets ≡ count d (map (λ (l : Line). l.cube) (all_lines nets))
  in_all nets = by_lines nets ∙ sym (sum_map has (λ (l : Line). l.cube) (all_lines nets))
    where
      by_lines : (nets : List (Option FlatNet)) → in_nets nets ≡ sum_by (λ (l : Line). has l.cube) (all_lines nets)
      by_lines [] = refl
      by_lines (f ∷ fs) =
          let rest = by_lines fs in
          let both = sum_by-append (λ (l : Line). has l.cube) (lines_at f) (all_lines fs) in
          let first = sum_by-cons in_net f fs in
          omega (arith, rest, both, first)

  own : literals (d ∷ []) ≡ length d
  own = let first = sum_by-cons (λ (c : List Lit). length c) d [] in omega (arith, first)

  -- what it saves is what it saves of the lines
  pub saves_from : (nets : List (Option FlatNet)) (s : ℕ) → All HasLines nets → Saves nets (d ∷ []) s → s ≡ saving d (map (λ (l : Line). l.cube) (all_lines nets))
  saves_from nets s a h =
      let all = in_all nets in
      let gain = nets_saving nets h.gain a h.is.sum in
      let times = times_less (in_nets nets) (length d) some in
      let same : count d (map (λ (l : Line). l.cube) (all_lines nets)) * (length d - 1) ≡ in_nets nets * (length d - 1) = ap (λ n. n * (length d - 1)) (sym all) in
      let less = h.less in
      omega (arith, gain, times, same, less, own)

  pub saves_to : (nets : List (Option FlatNet)) → All HasLines nets → 0 < saving d (map (λ (l : Line). l.cube) (all_lines nets)) → Saves nets (d ∷ []) (saving d (map (λ (l : Line). l.cube) (all_lines nets)))
  saves_to nets a saves =
      let all = in_all nets in
      let same : count d (map (λ (l : Line). l.cube) (all_lines nets)) * (length d - 1) ≡ in_nets nets * (length d - 1) = ap (λ n. n * (length d - 1)) (sym all) in
      record {
        gain = in_nets nets * (length d - 1);
        is = record { sum = nets_saves nets a };
        some = saves;
        less = omega (arith, same, own, saves);
      }

-- ---- candidates

module _ (nets : List (Option FlatNet)) (good : All HasLines nets) where
  abbrev pub cubes : List (List Lit)
  cubes = map (λ (l : Line). l.cube) (all_lines nets)

  abbrev none : Line
  none = record { cube = []; out = 0 }

  read : (k : ℕ) → k < length (all_lines nets) → at cubes k ≡ (get_or (all_lines nets) k none).cube
  read k low = get_or-map (λ (l : Line). l.cube) (all_lines nets) k none [] low

  long : length cubes ≡ length (all_lines nets)
  long = length-map (all_lines nets) (λ (l : Line). l.cube)

  meet_candidate : (d : List Lit) → IsMeet cubes d → IsCubeCandidate nets (d ∷ [])
  meet_candidate d m =
      let one_in : m.one < length (all_lines nets) = omega (arith, m.one_in, long) in
      let other_in : m.other < length (all_lines nets) = omega (arith, m.other_in, long) in
      let same : common (at cubes m.one) (at cubes m.other) ≡ common (get_or (all_lines nets) m.one none).cube (get_or (all_lines nets) m.other none).cube =
      λ j. common (read m.one one_in j) (read m.other other_in j) in
      record {
        one = m.one;
        other = m.other;
        apart = m.apart;
        first = get_or (all_lines nets) m.one none;
        first_at = slice_get-get_or (all_lines nets) m.one none one_in;
        second = get_or (all_lines nets) m.other none;
        second_at = slice_get-get_or (all_lines nets) m.other none other_in;
        is = ap (λ (x : List Lit). x ∷ []) (sym m.is ∙ same);
        two = subst (λ (x : List Lit). 2 ≤ length x) (sym m.is ∙ same) m.two;
      }

  record Meeting (divisor : List (List Lit)) : Type 0 where
    cube : List Lit
    is : divisor ≡ cube ∷ []
    meet : IsMeet cubes cube

  candidate_meet : (divisor : List (List Lit)) → IsCubeCandidate nets divisor → Meeting divisor
  candidate_meet divisor c =
      let one_in = slice_get_within (all_lines nets) c.one c.first c.first_at in
      let other_in = slice_get_within (all_lines nets) c.other c.second c.second_at in
      let first : at cubes c.one ≡ c.first.cube = read c.one one_in ∙ ap (λ (l : Line). l.cube) (get_or_from_slice_get (all_lines nets) c.one c.first none c.first_at) in
      let second : at cubes c.other ≡ c.second.cube = read c.other other_in ∙ ap (λ (l : Line). l.cube) (get_or_from_slice_get (all_lines nets) c.other c.second none c.second_at) in
      record {
        cube = common c.first.cube c.second.cube;
        is = c.is;
        meet = record {
          one = c.one;
          one_in = omega (arith, one_in, long);
          other = c.other;
          other_in = omega (arith, other_in, long);
          apart = c.apart;
          is = λ j. common (first j) (second j);
          two = c.two;
        };
      }

  -- the lines' literals are cubes
  pub cubes_formed : All IsCube cubes
  cubes_formed k d low =
      let line = get_or (all_lines nets) k none in
      let within : k < length (all_lines nets) = omega (arith, low, long) in
      subst IsCube (sym (get_or_default cubes k d [] low ∙ read k within)) (lines_formed nets good k none within)
    where
      lines_formed : (nets : List (Option FlatNet)) → All HasLines nets → All (λ (l : Line). IsCube l.cube) (all_lines nets)
      lines_formed [] a = All-nil (λ (l : Line). IsCube l.cube)
      lines_formed (f ∷ fs) a = All-append (λ (l : Line). IsCube l.cube) (lines_at f) (all_lines fs) (All-head HasLines f fs a).formed (lines_formed fs (All-tail HasLines f fs a))

  formed : (d : List Lit) → IsMeet cubes d → IsCube d
  formed d m = All-head IsCube d [] (cube_divisor nets (d ∷ []) good (meet_candidate d m)).formed

  saves_meet : (d : List Lit) (s : ℕ) → IsMeet cubes d → Saves nets (d ∷ []) s → s ≡ saving d cubes
  saves_meet d s m h = saves_from d (formed d m) (omega (arith, m.two)) nets s good h

  later : (r : Ordering) → ordering_then r Equal ≡ Greater → r ≡ Greater
  later Less e = e
  later Equal e = e
  later Greater e = e

  pub best_meet : (d : List Lit) → IsBestMeet cubes d → IsBest IsCubeCandidate nets (d ∷ [])
  best_meet d b = record {
    candidate = meet_candidate d b.meet;
    saved = saving d cubes;
    saves = saves_to d (formed d b.meet) (let two = b.meet.two in omega (arith, two)) nets good b.some;
    most = λ e s c h.
        let m = candidate_meet e c in
        let is = saves_meet m.cube s m.meet (subst (λ (x : List (List Lit)). Saves nets x s) m.is h) in
        let less = b.most m.cube m.meet in
        omega (arith, is, less);
    least = λ e c h behind.
        let m = candidate_meet e c in
        let is = saves_meet m.cube (saving d cubes) m.meet (subst (λ (x : List (List Lit)). Saves nets x (saving d cubes)) m.is h) in
        b.least m.cube m.meet (sym is) (later (cube_cmp d m.cube) (subst (λ (x : List (List Lit)). cubes_cmp (d ∷ []) x ≡ Greater) m.is behind));
  }

  pub no_meet : NoMeetSaves cubes → NoneSaves IsCubeCandidate nets
  no_meet n = record {
    none = λ e s c h.
        let m = candidate_meet e c in
        let is = saves_meet m.cube s m.meet (subst (λ (x : List (List Lit)). Saves nets x s) m.is h) in
        let zeroed = n.none m.cube m.meet in
        let some = h.some in
        absurd (omega (arith, is, zeroed, some));
  }
