-- Where tables agree, by look-up. What private functions alone cite.
use Rattle.std.specs.Prelude.{◌≡◌, ℕ, ◌<◌, Bool, true, false, Option, List, map, length, slice_index_or, All, IfSome}
use Rattle.std.specs.List.{list_all}
use Rattle.mv_base.specs.declared.number.NetId.{NetId}
use Rattle.mv_graph.specs.Nets.{has_id}
use Rattle.mv_net.specs.declared.parts.FlatNet.{FlatNet}
use Rattle.mv_net.specs.Nets.{reads_in}
use Rattle.mv_net.specs.Index.{is_held}
use Rattle.mv_flex.specs.declared.plan.Plan.{Plan}
use Rattle.mv_flex.specs.declared.truth.Truth.{Truth}
use Rattle.mv_flex.specs.declared.asked.Asked.{Asked}
use Rattle.mv_flex.specs.Spaces.{digits, NetSpace}
use Rattle.mv_flex.specs.Plans.{agrees_at, IsPart}

-- for each of the first numbers of values the list tells whether the table of the net m agrees with
-- them
pub record Tells (nets : List (Option FlatNet)) (m : ℕ) (s : NetSpace) (k : ℕ) (marks : List Bool)
    : Type 0 where
  pub long : length marks ≡ k
  pub each : (i : ℕ) → i < k
      → slice_index_or marks i false ≡ agrees_at nets s.nets (digits s.counts i) m

-- the truth of a held net's table: what it is asked at are values of the net and of those that it
-- reads
pub record IsTruth (nets : List (Option FlatNet)) (ns : List NetId) (t : Truth) : Type 0 where
  pub part : IsPart nets ns t.space t.places
  pub held : is_held nets t.net.0 ≡ true
  pub here : has_id t.space.nets t.net.0 ≡ true
  pub reads : (k : ℕ) → reads_in nets t.net.0 k ≡ true → has_id t.space.nets k ≡ true
  pub marks : IfSome t.marks (Tells nets t.net.0 t.space t.space.size)

-- the tables agree where these nets have these values
abbrev pub truths_agree : List (Option FlatNet) → List Truth → List NetId → List ℕ → Bool
truths_agree nets truths ns vs = list_all (λ (t : Truth). agrees_at nets ns vs t.net.0) truths

-- the truths of these tables
pub record AreTruths (nets : List (Option FlatNet)) (ns tables : List NetId) (truths : List Truth)
    : Type 0 where
  pub of : map (λ (t : Truth). t.net) truths ≡ tables
  pub each : All (IsTruth nets ns) truths

-- what is asked by the plan
pub record IsAsked (nets : List (Option FlatNet)) (p : Plan) (a : Asked) : Type 0 where
  pub net : a.own.net ≡ p.net
  pub own : IsTruth nets p.nets a.own
  pub others : AreTruths nets p.nets p.others a.others
  pub pair : IsPart nets p.nets p.pairs a.places
