-- The search goes on: each common part that is better than the best stays covered by a node that waits.
use Rattle.std.proofs.Common.{◌≡◌, ◌∙◌, ℕ, ◌+◌, ◌<◌, ◌≤◌, ◌⊎◌, true, false, Option, Some, None, List, [], ◌∷◌, ◌++◌, length, All, Contains, inl, inr, refl, sym, subst, arith}
use Rattle.std.proofs.lemmas.Bool.{cases_Bool, false≢true, and_from}
use Rattle.std.proofs.lemmas.List.Elements.{All-nil, All-cons, All-push, All-weaker, Contains-append_left, Contains-push}
use Rattle.mv_cover.specs.Literal.{Lit}
use Rattle.mv_cover.specs.Cubes.{IsCube}
use Rattle.mv_kernels.specs.Symbols.{has_each, has_symbol}
use Rattle.mv_cover.proofs.Building.{built_more}
use Rattle.mv_kernels.proofs.Quotients.{in_symbol, symbol_in}
use Rattle.mv_kernels.proofs.Lists.{Contains-none, Contains-first, Contains-behind, Contains-cons_cases}
use Rattle.mv_meets.specs.Meets.{at, count, saving, IsMeet, IsBestMeet, NoMeetSaves}
use Rattle.mv_meets.specs.Search.{can_win, leading, saved_by, AreHolding, AreNumbers, Begins, Covers, HasNode, IsNoBetter, IsNode, IsOneOf, IsOpen, IsSearch, IsSought, Looked, Spreads}
use Rattle.mv_meets.specs.declared.found.Found.{Found}
use Rattle.mv_meets.specs.declared.nodes.Node.{Node}
use Rattle.mv_meets.specs.declared.search.Search.{Search}
use Rattle.mv_meets.proofs.Looking.{no_win}
use Rattle.mv_meets.proofs.Covering.{count_less, covered_less, covered_short, covers_child, covers_own, has_missing, missing, missing_high, saves_less, some_set}
use Rattle.mv_meets.proofs.Places.{below_count}
use Rattle.mv_meets.proofs.Pairs.{meet_formed}

-- an element of a list with one more at its end
pub last_cases : {X : Type 0} (xs : List X) (x y : X) → Contains (xs ++ x ∷ []) y → (x ≡ y) ⊎ Contains xs y
last_cases [] x y h = elim (Contains-cons_cases y x [] h) [ inl e ↦ inl e | inr t ↦ absurd (Contains-none y t) ]
last_cases (z ∷ zs) x y h =
    elim (Contains-cons_cases y z (zs ++ x ∷ []) h) [
      | inl e ↦ inr (subst (λ w. Contains (z ∷ zs) w) e (Contains-first z zs))
      | inr t ↦ elim (last_cases zs x y t) [ inl e ↦ inl e | inr u ↦ inr (Contains-behind y z zs u) ]
    ]

-- the node without symbols covers all
pub covers_all : (root : Node) (e : List Lit) → root.cube ≡ [] → root.low ≡ 0 → Covers root e
covers_all root e none low = record { has = subst (λ d. has_each d e ≡ true) (sym none) refl; rest = λ l t. inr (omega (arith, low)) }

module _ (cubes : List (List Lit)) (start : Node) (given : Option Found) where
  -- the first node covers what it covers
  pub open_begun : (nodes : List Node) (found : Option Found) → nodes ≡ start ∷ [] → found ≡ None → IsOpen cubes start given nodes found
  open_begun nodes found are none =
      subst (λ (ns : List Node). IsOpen cubes start given ns found) (sym are)
      (subst (IsOpen cubes start given (start ∷ [])) (sym none)
      (record {
        is = tt;
        improves = record { keeps = λ ks e h. h };
        all = λ e m c. inr (record { from = start; there = Contains-first start []; is = c });
      }))

  -- the last node is taken out
  pub open_popped : (old new : List Node) (node : Node) (found : Option Found) → old ≡ new ++ node ∷ [] → IsOpen cubes start given old found → IsOpen cubes start given (node ∷ new) found
  open_popped old new node found is o = record {
    is = o.is;
    improves = o.improves;
    all = λ e m c.
        elim (o.all e m c) [
          | inl h ↦ inl h
          | inr one ↦
              elim (last_cases new node one.from (subst (λ ns. Contains ns one.from) is one.there)) [
                | inl same ↦ inr (record { from = one.from; there = subst (Contains (node ∷ new)) same (Contains-first node new); is = one.is })
                | inr t ↦ inr (record { from = one.from; there = Contains-behind one.from node new t; is = one.is })
              ]
        ];
  }

  -- a node goes whose parts can't win
  pub open_lost : (node : Node) (waiting : List Node) (found : Option Found) (longest : ℕ) → IsNode cubes node → All (λ p. length (at cubes p) ≤ longest) node.places.items
      → can_win (leading given found) (length node.places.items) longest ≡ false → IsOpen cubes start given (node ∷ waiting) found → IsOpen cubes start given waiting found
  open_lost node waiting found longest is short lost o = record {
    is = o.is;
    improves = o.improves;
    all = λ e m c.
        elim (o.all e m c) [
          | inl h ↦ inl h
          | inr one ↦
              elim (Contains-cons_cases one.from node waiting one.there) [
                | inr t ↦ inr (record { from = one.from; there = t; is = one.is })
                | inl same ↦
                    let here : Covers node e = subst (λ n. Covers n e) (sym same) one.is in
                    inl (no_win cubes (leading given found) (length node.places.items) longest e lost (covered_less cubes node e longest is short here.has m))
              ]
        ];
  }

  -- a node was looked at, and those with one symbol more wait
  pub open_spread : (node : Node) (waiting more : List Node) (old new : Option Found) (longest : ℕ) → All IsCube cubes → IsNode cubes node → All (λ p. length (at cubes p) ≤ longest) node.places.items
      → Looked cubes node.cube given old new → Spreads cubes node (leading given new) longest (λ l. Unit {0}) waiting more → IsOpen cubes start given (node ∷ waiting) old → IsOpen cubes start given more new
  open_spread node waiting more old new longest formed is short looked spread o = record {
    is = looked.found;
    improves = record { keeps = λ ks e h. looked.improves.keeps ks e (o.improves.keeps ks e h) };
    all = λ e m c.
        elim (o.all e m c) [
          | inl h ↦ inl (looked.improves.keeps cubes e h)
          | inr one ↦
              elim (Contains-cons_cases one.from node waiting one.there) [
                | inr t ↦ inr (record { from = one.from; there = spread.keeps one.from t; is = one.is })
                | inl same ↦ covered e m (subst (λ n. Covers n e) (sym same) one.is)
              ]
        ];
  }
    where
      covered : (e : List Lit) → IsMeet cubes e → Covers node e → IsNoBetter cubes (leading given new) e ⊎ IsOneOf Covers more e
      covered e m c =
          elim (cases_Bool (has_each e node.cube)) [
            | inl all ↦
                let own = covers_own node e c is.formed (meet_formed cubes e formed m) all in
                inl (subst (IsNoBetter cubes (leading given new)) (sym own) (looked.here (subst (IsMeet cubes) own m)))
            | inr f ↦
                let next = missing node.cube e (meet_formed cubes e formed m).ascending f in
                let cube = node.cube ++ next.symbol ∷ [] in
                elim (cases_Bool (can_win (leading given new) (count cube cubes) longest)) [
                  | inl wins ↦
                      let h = spread.all next.symbol tt (missing_high node e c next) wins in
                      inr (record { from = h.node; there = h.there; is = covers_child node e c next h.node h.cube_is h.low_is })
                  | inr lost ↦
                      let few = count_less cube e cubes (has_missing node e c next) in
                      let less : saving e cubes ≤ saved_by (count cube cubes) longest =
                      saves_less (count e cubes) (length e) (count cube cubes) longest few (covered_short cubes node e longest is short c.has m) in
                      inl (no_win cubes (leading given new) (count cube cubes) longest e lost less)
                ]
          ]

  -- no node waits: none is better than what leads
  pub no_better : (found : Option Found) (nodes : List Node) → nodes ≡ [] → IsOpen cubes start given nodes found → (e : List Lit) → IsMeet cubes e → Covers start e → IsNoBetter cubes (leading given found) e
  no_better found nodes none o e m c =
      elim (o.all e m c) [
        | inl h ↦ h
        | inr one ↦ absurd (Contains-none one.from (subst (λ ns. Contains ns one.from) none one.there))
      ]

-- ---- one literal after another

module _ (cubes : List (List Lit)) (node : Node) (best : Option Found) (longest : ℕ) where
  pub spreads_none : (old : List Node) → All (IsNode cubes) old → Spreads cubes node best longest (Contains []) old old
  spreads_none old a = record { nodes = a; keeps = λ n h. h; all = λ l i high wins. absurd (Contains-none l i) }

  has_more : (nodes : List Node) (n : Node) (cube : List Lit) (low : ℕ) → HasNode nodes cube low → HasNode (nodes ++ n ∷ []) cube low
  has_more nodes n cube low h = record { node = h.node; there = Contains-append_left nodes (n ∷ []) h.node h.there; cube_is = h.cube_is; low_is = h.low_is }

  -- a node comes for the next one
  pub spreads_more : (ls : List Lit) (l : Lit) (old mid : List Node) (child : Node) → IsNode cubes child → child.cube ≡ node.cube ++ l ∷ [] → child.low ≡ l.net.0 + 1
      → Spreads cubes node best longest (Contains ls) old mid → Spreads cubes node best longest (Contains (ls ++ l ∷ [])) old (mid ++ child ∷ [])
  spreads_more ls l old mid child is cube_is low_is a = record {
    nodes = All-push (IsNode cubes) mid child a.nodes is;
    keeps = λ n h. Contains-append_left mid (child ∷ []) n (a.keeps n h);
    all = λ m i high wins.
        elim (last_cases ls l m i) [
          | inl same ↦
              subst (λ (o : Lit). HasNode (mid ++ child ∷ []) (node.cube ++ o ∷ []) (o.net.0 + 1)) same
              (record { node = child; there = Contains-push mid child; cube_is = cube_is; low_is = low_is })
          | inr t ↦ has_more mid child (node.cube ++ m ∷ []) (m.net.0 + 1) (a.all m t high wins)
        ];
  }

  -- what has the next one besides the node's symbols can't win
  pub spreads_past : (ls : List Lit) (l : Lit) (old new : List Node) → (node.low ≤ l.net.0 → can_win best (count (node.cube ++ l ∷ []) cubes) longest ≡ false)
      → Spreads cubes node best longest (Contains ls) old new → Spreads cubes node best longest (Contains (ls ++ l ∷ [])) old new
  spreads_past ls l old new lost a = record {
    nodes = a.nodes;
    keeps = a.keeps;
    all = λ m i high wins.
        elim (last_cases ls l m i) [
          | inl same ↦
              let f = lost (subst (λ (o : Lit). node.low ≤ o.net.0) (sym same) high) in
              let t : can_win best (count (node.cube ++ l ∷ []) cubes) longest ≡ true = subst (λ (o : Lit). can_win best (count (node.cube ++ o ∷ []) cubes) longest ≡ true) (sym same) wins in
              absurd (false≢true (sym f ∙ t))
          | inr t ↦ a.all m t high wins
        ];
  }

  -- all that may win are among them
  pub spreads_all : (ls : List Lit) (old new : List Node) → ((l : Lit) → node.low ≤ l.net.0 → can_win best (count (node.cube ++ l ∷ []) cubes) longest ≡ true → Contains ls l)
      → Spreads cubes node best longest (Contains ls) old new → Spreads cubes node best longest (λ l. Unit {0}) old new
  spreads_all ls old new among a = record { nodes = a.nodes; keeps = a.keeps; all = λ l u high wins. a.all l (among l high wins) high wins }

-- ---- no node waits any more

module _ (cubes : List (List Lit)) (s : Search) (ended : s.waiting.items ≡ []) where
  -- a search among all parts
  module _ (root : Node) (cube_is : root.cube ≡ []) (low_is : root.low ≡ 0) (a : IsSearch cubes root None s) where
    pub search_best : (f : Found) → s.found ≡ Some f → IsBestMeet cubes f.cube
    search_best f is =
        let o = subst (IsOpen cubes root None s.waiting.items) is a.seen in
        let saver = o.is in
        let saved = saver.saved_is in
        let some = saver.some in
        let behind : (e : List Lit) → IsMeet cubes e → IsNoBetter cubes (Some f) e = λ e m. no_better cubes root None (Some f) s.waiting.items ended o e m (covers_all root e cube_is low_is) in
        record {
          meet = saver.meet;
          some = omega (arith, saved, some);
          most = λ e m. let h = behind e m in let most = h.most in omega (arith, saved, most);
          least = λ e m same g. let h = behind e m in h.least (same ∙ saved) g;
        }

    pub search_none : s.found ≡ None → NoMeetSaves cubes
    search_none is =
        let o = subst (IsOpen cubes root None s.waiting.items) is a.seen in
        record { none = λ e m. no_better cubes root None None s.waiting.items ended o e m (covers_all root e cube_is low_is) }

  -- a search among those that begin with a symbol
  pub search_sought : (start : Node) (l : Lit) (given : Option Found) → start.cube ≡ l ∷ [] → start.low ≡ l.net.0 + 1 → IsSearch cubes start given s → IsSought cubes l given s.found
  search_sought start l given cube_is low_is a = record {
    is = a.seen.is;
    improves = a.seen.improves;
    each = λ e m b. no_better cubes start given s.found s.waiting.items ended a.seen e m (begins_covered e b);
  }
    where
      begins_covered : (e : List Lit) → Begins l e → Covers start e
      begins_covered e b = record {
        has = subst (λ d. has_each d e ≡ true) (sym cube_is) (and_from (has_symbol e l) true b.has refl);
        rest = λ m t.
            elim (b.rest m t) [
              | inl same ↦ inl (subst (λ d. has_symbol d m ≡ true) (sym cube_is) (in_symbol (l ∷ []) m (subst (Contains (l ∷ [])) (sym same) (Contains-first l []))))
              | inr later ↦ inr (omega (arith, low_is, later))
            ];
      }

-- ---- the first node

-- cubes that all have the symbol are those that have it
pub first_holding : (cubes : List (List Lit)) (l : Lit) (places : List ℕ) → AreNumbers (length cubes) places → All (λ (c : List Lit). has_symbol c l ≡ true) cubes → AreHolding cubes (l ∷ []) places
first_holding cubes l places a have =
    let here : (p : ℕ) → p < length cubes → has_each (l ∷ []) (at cubes p) ≡ true = λ p low. and_from (has_symbol (at cubes p) l) true (have p [] low) refl in
    record {
      ascending = a.ascending;
      each = All-weaker (λ p. p < length cubes) (λ p. has_each (l ∷ []) (at cubes p) ≡ true) (λ p low. here p low) places (below_count (length cubes) places a.ascending);
      all = λ p low t. a.all p low;
    }

-- the symbol of a cube is one
pub first_formed : (cubes : List (List Lit)) (l : Lit) → 0 < length cubes → All IsCube cubes → All (λ (c : List Lit). has_symbol c l ≡ true) cubes → IsCube (l ∷ [])
first_formed cubes l some formed have =
    (built_more [] l.net.0 l refl (some_set (at cubes 0) l (formed 0 [] some) (symbol_in (at cubes 0) l (have 0 [] some)))
    (record { cube = record { ascending = refl; possible = refl }; below = refl })).cube

pub first_node : (cubes : List (List Lit)) (l : Lit) (node : Node) → 0 < length cubes → All IsCube cubes → All (λ (c : List Lit). has_symbol c l ≡ true) cubes → node.cube ≡ l ∷ [] → node.low ≡ l.net.0 + 1 → AreNumbers (length cubes) node.places.items → IsNode cubes node
first_node cubes l node some formed have cube_is low_is numbers = record {
  formed = subst IsCube (sym cube_is) (first_formed cubes l some formed have);
  under = subst (λ c. All (λ (m : Lit). m.net.0 < node.low) c) (sym cube_is) (All-cons (λ (m : Lit). m.net.0 < node.low) l [] (omega (arith, low_is)) (All-nil (λ (m : Lit). m.net.0 < node.low)));
  places = subst (λ c. AreHolding cubes c node.places.items) (sym cube_is) (first_holding cubes l node.places.items numbers have);
}
