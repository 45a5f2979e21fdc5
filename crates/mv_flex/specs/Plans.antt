-- How the points of a window are gone through. What private functions alone cite, and of the public
-- definitions `IsFlex`.
use Rattle.std.specs.Prelude.{◌≡◌, ◌⊎◌, ℕ, ◌<◌, ◌^◌, Bool, true, false, not, ◌&&◌, nat_eq, Option, List, ◌∷◌, ◌++◌, map, length, slice_index_or}
use Rattle.std.specs.List.{list_all, filter}
use Rattle.mv_base.specs.declared.number.NetId.{NetId}
use Rattle.mv_graph.specs.Nets.{has_id, IsAscending}
use Rattle.mv_net.specs.declared.parts.FlatNet.{FlatNet}
use Rattle.mv_net.specs.declared.window.Window.{Window}
use Rattle.mv_net.specs.Nets.{slot, values_in, reads_in}
use Rattle.mv_net.specs.Index.{is_held}
use Rattle.mv_net.specs.Allowed.{net_allows}
use Rattle.mv_net.specs.Searching.{AreHeld}
use Rattle.mv_flex.specs.declared.plan.Plan.{Plan}
use Rattle.mv_flex.specs.Spaces.{value_at, placed, ways, digits, code, AreBelow, NetSpace, IsCounted}

-- the numbers of values of these nets
abbrev pub counts_of : List (Option FlatNet) → List NetId → List ℕ
counts_of nets ns = map (λ (m : NetId). values_in (slot nets m.0)) ns

-- the values of the assignment at these nets
abbrev pub values_of : (ℕ → ℕ) → List NetId → List ℕ
values_of at ns = map (λ (m : NetId). at m.0) ns

-- the space of these nets
pub record IsSpace (nets : List (Option FlatNet)) (ns : List NetId) (s : NetSpace) : Type 0 where
  pub list : s.nets ≡ ns
  pub counts : s.counts ≡ counts_of nets ns
  pub counted : IsCounted s.counts s.size

-- a space of some of these nets, and the places of their values in lists of values of all
pub record IsPart (nets : List (Option FlatNet)) (ns : List NetId) (s : NetSpace) (places : List ℕ)
    : Type 0 where
  pub space : IsSpace nets s.nets s
  pub within : (m : ℕ) → has_id s.nets m ≡ true → has_id ns m ≡ true
  pub seen : (vs : List ℕ) → length vs ≡ length ns
      → placed places vs ≡ values_of (value_at ns vs) s.nets

-- these nets are held, and their values can be numbered
pub record IsNumbered (nets : List (Option FlatNet)) (ns : List NetId) : Type 0 where
  pub held : AreHeld nets ns
  pub few : ways (counts_of nets ns) < 2 ^ 64

-- a held net and those that it reads are among these, and their values can be numbered
pub record IsInside (nets : List (Option FlatNet)) (ns : List NetId) (m : ℕ) : Type 0 where
  pub held : is_held nets m ≡ true
  pub here : has_id ns m ≡ true
  pub reads : (k : ℕ) → reads_in nets m k ≡ true → has_id ns k ≡ true
  pub numbered : (fs : List NetId) → IsAscending (λ k. reads_in nets m k) fs
      → IsNumbered nets (record { 0 = m } ∷ fs)

-- how the points of the window around n are gone through: first the inputs and outputs, then the
-- other tables
pub record IsPlan (nets : List (Option FlatNet)) (w : Window) (n : ℕ) (p : Plan) : Type 0 where
  pub own : p.net.0 ≡ n
  pub others : p.others ≡ filter (λ (m : NetId). not (nat_eq m.0 n)) w.tables
  pub order : p.nets ≡ p.shown.nets ++ p.hidden.nets
  pub shown : IsSpace nets
      (w.inputs ++ filter (λ (m : NetId). has_id w.outputs m.0) w.tables) p.shown
  pub hidden : IsSpace nets (filter (λ (m : NetId). not (has_id w.outputs m.0)) w.tables) p.hidden
  pub reads : IsAscending (λ m. reads_in nets n m) p.fanins.nets
  pub fanins : IsSpace nets p.fanins.nets p.fanins
  pub pairs : IsSpace nets (record { 0 = n } ∷ p.fanins.nets) p.pairs

-- the table of the net m agrees where these nets have these values
abbrev pub agrees_at : List (Option FlatNet) → List NetId → List ℕ → ℕ → Bool
agrees_at nets ns vs m = net_allows (slot nets m) (value_at ns vs) (value_at ns vs m)

-- the tables of these nets agree there
abbrev pub all_agree : List (Option FlatNet) → List NetId → List NetId → List ℕ → Bool
all_agree nets tables ns vs = list_all (λ (m : NetId). agrees_at nets ns vs m.0) tables

-- the tables of the others and the net's own agree there
abbrev pub window_agrees : List (Option FlatNet) → Plan → List ℕ → Bool
window_agrees nets p vs = all_agree nets p.others p.nets vs && agrees_at nets p.nets vs p.net.0

-- the values of all nets of the window at a point: these of the inputs and outputs, and number h of
-- those of the others
abbrev pub point_at : Plan → List ℕ → ℕ → List ℕ
point_at p start h = start ++ digits p.hidden.counts h

-- the number of the pair at a point
abbrev pub pair_at : Plan → List ℕ → ℕ
pair_at p vs = code p.pairs.counts (values_of (value_at p.nets vs) p.pairs.nets)

-- values of the inputs and outputs
pub record IsStart (p : Plan) (start : List ℕ) : Type 0 where
  pub number : ℕ
  pub is : start ≡ digits p.shown.counts number

-- no values of the other nets agree with every table
pub record IsStuck (nets : List (Option FlatNet)) (p : Plan) (start : List ℕ) : Type 0 where
  pub none : (h : ℕ) → h < p.hidden.size → window_agrees nets p (point_at p start h) ≡ false

-- a point that agrees with every table but n's, at inputs and outputs at which no point agrees with
-- all
pub record IsBad (nets : List (Option FlatNet)) (p : Plan) (start : List ℕ) (h : ℕ) : Type 0 where
  pub low : h < p.hidden.size
  pub stuck : IsStuck nets p start
  pub agrees : all_agree nets p.others p.nets (point_at p start h) ≡ true

-- a bad point with this pair
pub record IsBadPair (nets : List (Option FlatNet)) (p : Plan) (start : List ℕ) (q : ℕ)
    : Type 0 where
  pub h : ℕ
  pub bad : IsBad nets p start h
  pub pair : pair_at p (point_at p start h) ≡ q

-- every table but n's agrees at the point, and this is its pair
pub record IsPairAt (nets : List (Option FlatNet)) (p : Plan) (vs : List ℕ) (q : ℕ) : Type 0 where
  pub agrees : all_agree nets p.others p.nets vs ≡ true
  pub pair : pair_at p vs ≡ q

-- one of the first points at these inputs and outputs agrees with every table but n's, and has this
-- pair
pub record IsPairBelow (nets : List (Option FlatNet)) (p : Plan) (start : List ℕ) (k q : ℕ)
    : Type 0 where
  pub h : ℕ
  pub low : h < k
  pub agrees : all_agree nets p.others p.nets (point_at p start h) ≡ true
  pub pair : pair_at p (point_at p start h) ≡ q

-- the points can be gone through: the tables are inside, each net has one of its values at each
-- point, and the pairs are of these nets
pub record IsReady (nets : List (Option FlatNet)) (p : Plan) : Type 0 where
  pub own : IsInside nets p.nets p.net.0
  pub others : (m : ℕ) → has_id p.others m ≡ true → IsInside nets p.nets m
  pub ranged : (start : List ℕ) (h : ℕ) → IsStart p start
      → AreBelow (counts_of nets p.nets) (point_at p start h)
  pub pairs : IsSpace nets p.pairs.nets p.pairs
  pub within : (m : ℕ) → has_id p.pairs.nets m ≡ true → has_id p.nets m ≡ true

-- the list has a mark at a number where the old list has one or the claim holds, and is as long
pub record Adds (Claim : ℕ → Type 0) (old new : List Bool) : Type 0 where
  pub long : length new ≡ length old
  pub only : (q : ℕ) → slice_index_or new q false ≡ true
      → (slice_index_or old q false ≡ true) ⊎ Claim q
  pub kept : (q : ℕ) → slice_index_or old q false ≡ true → slice_index_or new q false ≡ true
  pub all : (q : ℕ) → Claim q → slice_index_or new q false ≡ true

-- a bad pair at one of the first inputs and outputs
pub record IsBadBelow (nets : List (Option FlatNet)) (p : Plan) (k q : ℕ) : Type 0 where
  pub c : ℕ
  pub low : c < k
  pub bad : IsBadPair nets p (digits p.shown.counts c) q

-- the list marks the bad pairs at the first inputs and outputs
pub record MarksBelow (nets : List (Option FlatNet)) (p : Plan) (k : ℕ) (marks : List Bool)
    : Type 0 where
  pub long : length marks ≡ p.pairs.size
  pub only : (q : ℕ) → slice_index_or marks q false ≡ true → IsBadBelow nets p k q
  pub all : (q : ℕ) → IsBadBelow nets p k q → slice_index_or marks q false ≡ true

-- the list marks the bad pairs
abbrev pub MarksBad : List (Option FlatNet) → Plan → List Bool → Type 0
MarksBad nets p marks = MarksBelow nets p p.shown.size marks
