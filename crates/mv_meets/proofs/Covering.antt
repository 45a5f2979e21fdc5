-- The sets of symbols that a node covers: its own, or those of a node with one symbol more.
use Rattle.std.proofs.Common.{◌≡◌, ◌∙◌, ℕ, ◌+◌, ◌-◌, ◌*◌, ◌<◌, ◌≤◌, ◌&&◌, ◌⊎◌, true, false, cond, not, nat_lt, nat_eq, List, [], ◌∷◌, ◌++◌, length, take, filter, get_or, All, Contains, inl, inr, refl, sym, ap, subst, arith}
use Rattle.std.proofs.Math.Nat.{mul-le-mul_left, mul-le-mul_right}
use Rattle.std.proofs.lemmas.Bool.{cases_Bool, cases_lt, false≢true, and_from, and_parts, not-true, cond-true, cond-false, lt-ltb, ltb-true}
use Rattle.std.proofs.lemmas.List.Elements.{All-nil, All-cons, All-head, All-tail, All-push, All-contains, All-weaker}
use Rattle.std.proofs.lemmas.List.Sums.{length-filter, count_by-le-length}
use Rattle.std.specs.List.{list_all}
use Rattle.mv_base.specs.Set.{empty}
use Rattle.mv_cover.specs.Literal.{Lit}
use Rattle.mv_cover.specs.Cubes.{nets_ascend, IsCube}
use Rattle.mv_cover.proofs.Building.{built_more}
use Rattle.mv_cover.proofs.Walking.{nets_ascend-tail}
use Rattle.mv_kernels.specs.Symbols.{has_symbol, has_each}
use Rattle.mv_kernels.proofs.Lists.{Contains-none, Contains-first, Contains-behind, Contains-cons_cases}
use Rattle.mv_kernels.proofs.Quotients.{symbol_in, in_symbol, each_at, each_from, has_each-append, has_symbol-append, same_cube}
use Rattle.mv_meets.specs.Meets.{at, common, count, saving, IsMeet}
use Rattle.mv_meets.specs.Search.{AreHolding, Covers, IsNode, saved_by}
use Rattle.mv_meets.specs.declared.nodes.Node.{Node}
use Rattle.mv_meets.proofs.Pairs.{meet_left}
use Rattle.mv_meets.proofs.Grouping.{take_more}
use Rattle.mv_meets.proofs.Places.{at_item, own_item, count-cons, holding_count, holding_more}

-- ---- one symbol more

all_below : (n : ℕ) (cube : List Lit) → All (λ (l : Lit). l.net.0 < n) cube → list_all (λ (l : Lit). nat_lt l.net.0 n) cube ≡ true
all_below n [] a = refl
all_below n (l ∷ ls) a =
    let P : Lit → Type 0 = λ m. m.net.0 < n in
    and_from (nat_lt l.net.0 n) (list_all (λ (m : Lit). nat_lt m.net.0 n) ls) (lt-ltb l.net.0 n (All-head P l ls a)) (all_below n ls (All-tail P l ls a))

-- a literal of a cube isn't empty
pub some_set : (cube : List Lit) (l : Lit) → IsCube cube → Contains cube l → nat_eq l.set empty ≡ false
some_set cube l f i = not-true (nat_eq l.set empty) (each_passes cube l f.possible i)
  where
    each_passes : (ls : List Lit) (l : Lit) → list_all (λ (m : Lit). not (nat_eq m.set empty)) ls ≡ true → Contains ls l → not (nat_eq l.set empty) ≡ true
    each_passes [] l t i = absurd (Contains-none l i)
    each_passes (m ∷ ms) l t i =
        let parts = and_parts (not (nat_eq m.set empty)) (list_all (λ (o : Lit). not (nat_eq o.set empty)) ms) t in
        elim (Contains-cons_cases l m ms i) [
          | inl e ↦ subst (λ (o : Lit). not (nat_eq o.set empty) ≡ true) e parts.0
          | inr j ↦ each_passes ms l parts.1 j
        ]

module _ (cubes : List (List Lit)) (formed : All IsCube cubes) (node : Node) (is : IsNode cubes node) where
  -- a cube has the node's symbols and the literal, so that together they are a cube
  pub child_formed : (l : Lit) (p : ℕ) → p < length cubes → has_symbol (at cubes p) l ≡ true → node.low ≤ l.net.0 → IsCube (node.cube ++ l ∷ [])
  child_formed l p low has high =
      let under : All (λ (m : Lit). m.net.0 < l.net.0) node.cube = All-weaker (λ (m : Lit). m.net.0 < node.low) (λ (m : Lit). m.net.0 < l.net.0) (λ m h. omega (arith, h, high)) node.cube is.under in
      (built_more node.cube l.net.0 l refl (some_set (at cubes p) l (formed p [] low) (symbol_in (at cubes p) l has))
      (record { cube = is.formed; below = all_below l.net.0 node.cube under })).cube

  pub child_node : (l : Lit) (child : Node) → IsCube (node.cube ++ l ∷ []) → node.low ≤ l.net.0 → child.cube ≡ node.cube ++ l ∷ [] → child.low ≡ l.net.0 + 1
      → child.places.items ≡ filter (λ p. has_symbol (at cubes p) l) node.places.items → IsNode cubes child
  child_node l child f high cube_is low_is places_are =
      let under : All (λ (m : Lit). m.net.0 < l.net.0 + 1) (node.cube ++ l ∷ []) =
      All-push (λ (m : Lit). m.net.0 < l.net.0 + 1) node.cube l (All-weaker (λ (m : Lit). m.net.0 < node.low) (λ (m : Lit). m.net.0 < l.net.0 + 1) (λ m h. omega (arith, h, high)) node.cube is.under) (omega arith) in
      let holding = holding_more cubes node.cube l node.places.items is.places in
      record {
        formed = subst IsCube (sym cube_is) f;
        under = subst (λ c. All (λ (m : Lit). m.net.0 < child.low) c) (sym cube_is) (subst (λ n. All (λ (m : Lit). m.net.0 < n) (node.cube ++ l ∷ [])) (sym low_is) under);
        places = subst (λ ps. AreHolding cubes child.cube ps) (sym places_are) (subst (λ c. AreHolding cubes c (filter (λ p. has_symbol (at cubes p) l) node.places.items)) (sym cube_is) holding);
      }

-- ---- the first symbol that is missing

-- a symbol of e that isn't in d, and all of e's others that aren't come on nets behind its own
pub record Missing (d e : List Lit) : Type 0 where
  pub symbol : Lit
  pub there : has_symbol e symbol ≡ true
  pub apart : has_symbol d symbol ≡ false
  pub rest : (m : Lit) → has_symbol e m ≡ true → (has_symbol (d ++ symbol ∷ []) m ≡ true) ⊎ (symbol.net.0 + 1 ≤ m.net.0)

pub later : (l : Lit) (ls : List Lit) → nets_ascend (l ∷ ls) ≡ true → All (λ (m : Lit). l.net.0 < m.net.0) ls
later l [] h = All-nil (λ (m : Lit). l.net.0 < m.net.0)
later l (m ∷ ms) h =
    let parts = and_parts (nat_lt l.net.0 m.net.0) (nets_ascend (m ∷ ms)) h in
    let near : l.net.0 < m.net.0 = ltb-true l.net.0 m.net.0 parts.0 in
    All-cons (λ (o : Lit). l.net.0 < o.net.0) m ms near (All-weaker (λ (o : Lit). m.net.0 < o.net.0) (λ (o : Lit). l.net.0 < o.net.0) (λ o g. omega (arith, g, near)) ms (later m ms parts.1))

in_more : (d : List Lit) (l m : Lit) → has_symbol d m ≡ true → has_symbol (d ++ l ∷ []) m ≡ true
in_more d l m t = has_symbol-append d (l ∷ []) m ∙ rw t refl

last_more : (d : List Lit) (l : Lit) → has_symbol (d ++ l ∷ []) l ≡ true
last_more d l = in_symbol (d ++ l ∷ []) l (Contains-last d)
  where
    Contains-last : (xs : List Lit) → Contains (xs ++ l ∷ []) l
    Contains-last [] = Contains-first l []
    Contains-last (x ∷ xs) = Contains-behind l x (xs ++ l ∷ []) (Contains-last xs)

pub missing : (d e : List Lit) → nets_ascend e ≡ true → has_each e d ≡ false → Missing d e
missing d [] up h = absurd (false≢true (sym h))
missing d (l ∷ ls) up h =
    elim (cases_Bool (has_symbol d l)) [
      | inl t ↦
          let rest = missing d ls (nets_ascend-tail l ls up) (sym (ap (λ b. b && has_each ls d) t) ∙ h) in
          record {
            symbol = rest.symbol;
            there = in_symbol (l ∷ ls) rest.symbol (Contains-behind rest.symbol l ls (symbol_in ls rest.symbol rest.there));
            apart = rest.apart;
            rest = λ m s.
                elim (Contains-cons_cases m l ls (symbol_in (l ∷ ls) m s)) [
                  | inl e ↦ inl (in_more d rest.symbol m (subst (λ (o : Lit). has_symbol d o ≡ true) e t))
                  | inr i ↦ rest.rest m (in_symbol ls m i)
                ];
          }
      | inr f ↦ record {
        symbol = l;
        there = in_symbol (l ∷ ls) l (Contains-first l ls);
        apart = f;
        rest = λ m s.
            elim (Contains-cons_cases m l ls (symbol_in (l ∷ ls) m s)) [
              | inl e ↦ inl (subst (λ (o : Lit). has_symbol (d ++ l ∷ []) o ≡ true) e (last_more d l))
              | inr i ↦ let behind = All-contains (λ (o : Lit). l.net.0 < o.net.0) ls m (later l ls up) i in inr (omega (arith, behind))
            ];
      }
    ]

-- ---- what is covered

module _ (node : Node) (e : List Lit) (c : Covers node e) where
  -- it has the node's symbols alone
  pub covers_own : IsCube node.cube → IsCube e → has_each e node.cube ≡ true → e ≡ node.cube
  covers_own fn fe all =
      same_cube e node.cube fe fn (λ l. both l)
    where
      both : (l : Lit) → has_symbol e l ≡ has_symbol node.cube l
      both l =
          elim (cases_Bool (has_symbol e l)) [
            | inl t ↦ t ∙ sym (each_at e node.cube l all t)
            | inr f ↦
                elim (cases_Bool (has_symbol node.cube l)) [
                  | inl t ↦ absurd (false≢true (sym f ∙ each_at node.cube e l c.has t))
                  | inr g ↦ f ∙ sym g
                ]
          ]

  -- or a node with one symbol more covers it
  module _ (m : Missing node.cube e) where
    pub missing_high : node.low ≤ m.symbol.net.0
    missing_high =
        elim (c.rest m.symbol m.there) [
          | inl t ↦ absurd (false≢true (sym m.apart ∙ t))
          | inr h ↦ h
        ]

    pub covers_child : (child : Node) → child.cube ≡ node.cube ++ m.symbol ∷ [] → child.low ≡ m.symbol.net.0 + 1 → Covers child e
    covers_child child cube_is low_is = record {
      has = subst (λ d. has_each d e ≡ true) (sym cube_is) has_more;
      rest = λ l t.
          elim (m.rest l t) [
            | inl s ↦ inl (subst (λ d. has_symbol d l ≡ true) (sym cube_is) s)
            | inr h ↦ inr (omega (arith, h, low_is))
          ];
    }
      where
        has_more : has_each (node.cube ++ m.symbol ∷ []) e ≡ true
        has_more = has_each-append node.cube (m.symbol ∷ []) e ∙ and_from (has_each node.cube e) (has_symbol e m.symbol && true) c.has (and_from (has_symbol e m.symbol) true m.there refl)

    pub has_missing : has_each (node.cube ++ m.symbol ∷ []) e ≡ true
    has_missing = has_each-append node.cube (m.symbol ∷ []) e ∙ and_from (has_each node.cube e) (has_symbol e m.symbol && true) c.has (and_from (has_symbol e m.symbol) true m.there refl)

-- ---- what it may save

one_less : (d e k : List Lit) → has_each d e ≡ true → cond (has_each e k) 1 0 ≤ cond (has_each d k) 1 0
one_less d e k part =
    elim (cases_Bool (has_each e k)) [
      | inl t ↦
          let a = cond-true {A = ℕ} (has_each e k) 1 0 t in
          let b = cond-true {A = ℕ} (has_each d k) 1 0 (each_from d k (λ l s. each_at e k l t (each_at d e l part s))) in
          omega (arith, a, b)
      | inr f ↦ let a = cond-false {A = ℕ} (has_each e k) 1 0 f in omega (arith, a)
    ]

-- no more cubes have all symbols of e than have some of them
pub count_less : (d e : List Lit) (cubes : List (List Lit)) → has_each d e ≡ true → count e cubes ≤ count d cubes
count_less d e [] part = omega arith
count_less d e (k ∷ ks) part =
    let here = one_less d e k part in
    let rest = count_less d e ks part in
    let a = count-cons (has_each e) k ks in
    let b = count-cons (has_each d) k ks in
    omega (arith, here, rest, a, b)

-- fewer cubes and fewer symbols save no more
pub saves_less : (c x n m : ℕ) → c ≤ n → x ≤ m → saved_by c x ≤ saved_by n m
saves_less c x n m few short =
    elim (cases_lt 0 x) [
      | inr none ↦
          let zeroed : x ≡ 0 = omega (arith, none) in
          let nothing : c * (x - 1) ≡ 0 = ap (λ k. c * (k - 1)) zeroed ∙ omega arith in
          omega (arith, nothing)
      | inl some ↦
          elim (cases_lt 0 c) [
            | inr none ↦
                let zeroed : c ≡ 0 = omega (arith, none) in
                let nothing : c * (x - 1) ≡ 0 = ap (λ k. k * (x - 1)) zeroed ∙ omega arith in
                omega (arith, nothing)
            | inl one ↦ grows c x n m one some few short
          ]
    ]
  where
    -- (c - 1) * (x - 1) - 1 either way
    same : (c x : ℕ) → 0 < c → 0 < x → saved_by c x ≡ (c - 1) * (x - 1) - 1
    same c x one some =
        let split : c * (x - 1) ≡ (c - 1) * (x - 1) + (x - 1) = ap (λ k. k * (x - 1)) (let e : c ≡ (c - 1) + 1 = omega (arith, one) in e) ∙ omega arith in
        omega (arith, split, some)

    grows : (c x n m : ℕ) → 0 < c → 0 < x → c ≤ n → x ≤ m → saved_by c x ≤ saved_by n m
    grows c x n m one some few short =
        let a = same c x one some in
        let b = same n m (omega (arith, one, few)) (omega (arith, some, short)) in
        let first : (c - 1) * (x - 1) ≤ (n - 1) * (x - 1) = mul-le-mul_right (x - 1) (omega (arith, few)) in
        let second : (n - 1) * (x - 1) ≤ (n - 1) * (m - 1) = mul-le-mul_left (n - 1) (omega (arith, short)) in
        omega (arith, a, b, first, second)

-- a common part with all symbols of the node has no more literals than the longest of its cubes
pub covered_short : (cubes : List (List Lit)) (node : Node) (e : List Lit) (longest : ℕ) → IsNode cubes node → All (λ p. length (at cubes p) ≤ longest) node.places.items → has_each node.cube e ≡ true → IsMeet cubes e
    → length e ≤ longest
covered_short cubes node e longest is short has m =
    let all : has_each node.cube (at cubes m.one) ≡ true = each_from node.cube (at cubes m.one) (λ l t. each_at e (at cubes m.one) l (meet_left cubes e m) (each_at node.cube e l has t)) in
    let there = is.places.all m.one m.one_in all in
    let long = All-contains (λ p. length (at cubes p) ≤ longest) node.places.items m.one short there in
    let within : length (common (at cubes m.one) (at cubes m.other)) ≤ length (at cubes m.one) =
    (let f = length-filter (has_symbol (at cubes m.other)) (at cubes m.one) in
    let g = count_by-le-length (has_symbol (at cubes m.other)) (at cubes m.one) in
    omega (arith, f, g)) in
    let same : length (common (at cubes m.one) (at cubes m.other)) ≡ length e = ap length m.is in
    omega (arith, long, within, same)

-- it saves no more than so many symbols
pub covered_less : (cubes : List (List Lit)) (node : Node) (e : List Lit) (longest : ℕ) → IsNode cubes node → All (λ p. length (at cubes p) ≤ longest) node.places.items → has_each node.cube e ≡ true → IsMeet cubes e
    → saving e cubes ≤ saved_by (length node.places.items) longest
covered_less cubes node e longest is short has m =
    let many = holding_count cubes node.cube node.places.items is.places in
    let few = count_less node.cube e cubes has in
    saves_less (count e cubes) (length e) (length node.places.items) longest (omega (arith, many, few)) (covered_short cubes node e longest is short has m)

-- the longest of the cubes so far
pub longest_more : (cubes : List (List Lit)) (places : List ℕ) (i old new : ℕ) (cube : List Lit) → i < length places → get_or places i 0 < length cubes → cube ≡ get_or cubes (get_or places i 0) cube
    → old ≤ new → length cube ≤ new → All (λ p. length (at cubes p) ≤ old) (take i places) → All (λ p. length (at cubes p) ≤ new) (take (i + 1) places)
longest_more cubes places i old new cube low within is more long a =
    let p = get_or places i 0 in
    let here : length (at cubes p) ≤ new = subst (λ (c : List Lit). length c ≤ new) (at_item cubes p cube within is) long in
    subst (All (λ q. length (at cubes q) ≤ new)) (sym (take_more places i p low (own_item places i low)))
    (All-push (λ q. length (at cubes q) ≤ new) (take i places) p (All-weaker (λ q. length (at cubes q) ≤ old) (λ q. length (at cubes q) ≤ new) (λ q h. omega (arith, h, more)) (take i places) a) here)
