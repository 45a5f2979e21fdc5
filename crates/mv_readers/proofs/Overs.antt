-- The tables of a well-formed network as covers over the numbers of values of its nets, and the other way round.
use Rattle.std.proofs.Common.{◌≡◌, ◌∙◌, ℕ, ◌<◌, ◌≤◌, true, not, nat_eq, List, [], ◌∷◌, map, Option, is_some, refl, sym, ap, subst, eq-eqb}
use Rattle.std.specs.List.{list_all}
use Rattle.std.proofs.lemmas.Bool.{and_parts, or_left, or_right, false≢true}
use Rattle.std.proofs.lemmas.List.Elements.{All-nil, All-cons, All-head, All-tail}
use Rattle.mv_base.specs.declared.limits.TheConstants.{MAX_VALUES}
use Rattle.mv_base.specs.Set.{Within, empty, full}
use Rattle.mv_cover.specs.Literal.{Lit}
use Rattle.mv_cover.specs.declared.line.Line.{Line}
use Rattle.mv_cover.specs.declared.cover.Cover.{Cover}
use Rattle.mv_cover.specs.Containing.{FitsNet, FitsCube}
use Rattle.mv_cover.specs.Covers.{cube_reads, lines_read, cover_reads}
use Rattle.mv_cover.specs.Cubes.{IsCube}
use Rattle.mv_cover.specs.Lines.{IsOutput}
use Rattle.mv_cover.specs.Sharp.{IsCubeOver}
use Rattle.mv_composite.specs.Inside.{AreCubesOver, AreOutputs, IsCoverOver}
use Rattle.mv_net.specs.declared.parts.FlatNet.{FlatNet}
use Rattle.mv_net.specs.declared.parts.NetParts.{NetParts}
use Rattle.mv_net.specs.Formed.{IsReadable, IsLiteral, AllLiterals, AllLines, AllCubes, IsCover, WellFormed}
use Rattle.mv_net.specs.Nets.{values_in}
use Rattle.mv_net.proofs.Known.{counts_at, values_few, values_some}

-- the numbers of values of the nets, by number
abbrev pub counts_of : List (Option FlatNet) → List ℕ
counts_of nets = map values_in nets

-- ---- a table of the network over the counts

fits : (net : NetParts) (l : Lit) → WellFormed net → IsLiteral net.nets l → FitsNet (counts_of net.nets) l.net.0 l.set
fits net l formed is =
    let same = sym (counts_at net.nets l.net.0) in record {
      valued = subst (λ k. 0 < k) same (values_some net l.net.0 formed (ap is_some is.readable.held));
      within = subst (λ k. Within l.set (full k)) same is.set.within;
      not_full = λ e. is.not_full (e ∙ ap full (counts_at net.nets l.net.0));
    }

cube_fits : (net : NetParts) (cube : List Lit) → WellFormed net → AllLiterals net.nets cube → FitsCube (counts_of net.nets) cube
cube_fits net [] formed all = tt
cube_fits net (l ∷ ls) formed all = (fits net l formed all.0, cube_fits net ls formed all.1)

cube_over : (net : NetParts) (cube : List Lit) → WellFormed net → IsCube cube → AllLiterals net.nets cube → IsCubeOver (counts_of net.nets) cube
cube_over net cube formed is all = record {
  cube = is;
  suits = record {
    fits = cube_fits net cube formed all;
    few = λ n r. subst (λ k. k ≤ MAX_VALUES) (sym (counts_at net.nets n)) (values_few net n formed);
  };
}

cubes_over : (net : NetParts) (values : ℕ) (ls : List Line) → WellFormed net → AllCubes ls → AllLines net.nets values ls → AreCubesOver (counts_of net.nets) ls
cubes_over net values [] formed cubes lines = All-nil _
cubes_over net values (l ∷ ls) formed cubes lines =
    All-cons (λ (k : Line). IsCubeOver (counts_of net.nets) k.cube) l ls (cube_over net l.cube formed cubes.0 lines.0) (cubes_over net values ls formed cubes.1 lines.2)

outputs : (nets : List (Option FlatNet)) (values : ℕ) (ls : List Line) → AllLines nets values ls → AreOutputs values ls
outputs nets values [] lines = All-nil _
outputs nets values (l ∷ ls) lines = All-cons (λ (k : Line). IsOutput values k.out) l ls lines.1 (outputs nets values ls lines.2)

pub over_counts : (net : NetParts) (values : ℕ) (c : Cover) → WellFormed net → IsCover net.nets values c → IsCoverOver (counts_of net.nets) values c
over_counts net values c formed is = record {
  cubes = cubes_over net values c.lines formed is.cubes is.lines;
  outputs = outputs net.nets values c.lines is.lines;
  differ = is.differ;
  default = is.default;
  met = is.met;
}

-- ---- a cover over the counts in the network

literals_in_cube : (nets : List (Option FlatNet)) (cube : List Lit) → ((m : ℕ) → cube_reads cube m ≡ true → IsReadable nets m) → FitsCube (counts_of nets) cube
    → list_all (λ (l : Lit). not (nat_eq l.set empty)) cube ≡ true → AllLiterals nets cube
literals_in_cube nets [] readable fits some = tt
literals_in_cube nets (l ∷ ls) readable fits some =
    let parts = and_parts (not (nat_eq l.set empty)) (list_all (λ (m : Lit). not (nat_eq m.set empty)) ls) some in (
      record {
        readable = readable l.net.0 (or_left (nat_eq l.net.0 l.net.0) (cube_reads ls l.net.0) (eq-eqb l.net.0 l.net.0 refl));
        set = record {
          some = λ e. false≢true (sym (ap not (eq-eqb l.set empty e)) ∙ parts.0);
          within = subst (λ k. Within l.set (full k)) (counts_at nets l.net.0) fits.0.within;
        };
        not_full = λ e. fits.0.not_full (e ∙ ap full (sym (counts_at nets l.net.0)));
      },
      literals_in_cube nets ls (λ m r. readable m (or_right (nat_eq l.net.0 m) (cube_reads ls m) r)) fits.1 parts.1,
    )

lines_in : (nets : List (Option FlatNet)) (values : ℕ) (ls : List Line) → ((m : ℕ) → lines_read ls m ≡ true → IsReadable nets m) → AreCubesOver (counts_of nets) ls → AreOutputs values ls
    → AllCubes ls × AllLines nets values ls
lines_in nets values [] readable cubes outs = (tt, tt)
lines_in nets values (l ∷ ls) readable cubes outs =
    let C = λ (k : Line). IsCubeOver (counts_of nets) k.cube in
    let O = λ (k : Line). IsOutput values k.out in
    let over = All-head C l ls cubes in
    let rest = lines_in nets values ls (λ m r. readable m (or_right (cube_reads l.cube m) (lines_read ls m) r)) (All-tail C l ls cubes) (All-tail O l ls outs) in (
      (over.cube, rest.0),
      (
        literals_in_cube nets l.cube (λ m r. readable m (or_left (cube_reads l.cube m) (lines_read ls m) r)) over.suits.fits over.cube.possible,
        All-head O l ls outs,
        rest.1,
      ),
    )

pub cover_in : (nets : List (Option FlatNet)) (values : ℕ) (c : Cover) → IsCoverOver (counts_of nets) values c → ((m : ℕ) → cover_reads c m ≡ true → IsReadable nets m) → IsCover nets values c
cover_in nets values c over readable =
    let lines = lines_in nets values c.lines readable over.cubes over.outputs in record {
      cubes = lines.0;
      lines = lines.1;
      differ = over.differ;
      default = over.default;
      met = over.met;
    }
