-- The nets of the literals of lines.
use Rattle.std.proofs.Common.{◌≡◌, ◌∙◌, ℕ, ◌+◌, ◌<◌, ◌||◌, nat_eq, List, [], ◌∷◌, ◌++◌, length, get_or, take, map, append_assoc, refl, sym, ap}
use Rattle.std.proofs.lemmas.List.{take_more, append-nil}
use Rattle.mv_cover.specs.Literal.{Lit}
use Rattle.mv_cover.specs.declared.line.Line.{Line}
use Rattle.mv_cover.specs.Covers.{cube_reads, lines_read}
use Rattle.mv_graph.specs.Nets.{has_id}
use Rattle.mv_graph.proofs.Nets.{has_id-append}
use Rattle.mv_net.specs.Index.{line_nets}

has_id-cube : (cube : List Lit) (n : ℕ) → has_id (map (λ (l : Lit). l.net) cube) n ≡ cube_reads cube n
has_id-cube [] n = refl
has_id-cube (l ∷ ls) n = ap (λ b. nat_eq l.net.0 n || b) (has_id-cube ls n)

pub has_id-line_nets : (ls : List Line) (n : ℕ) → has_id (line_nets ls) n ≡ lines_read ls n
has_id-line_nets [] n = refl
has_id-line_nets (l ∷ ls) n =
    has_id-append (map (λ (m : Lit). m.net) l.cube) (line_nets ls) n ∙ (λ i. has_id-cube l.cube n i || has_id-line_nets ls n i)

pub line_nets-append : (xs ys : List Line) → line_nets (xs ++ ys) ≡ line_nets xs ++ line_nets ys
line_nets-append [] ys = refl
line_nets-append (x ∷ xs) ys =
    ap (λ ns. map (λ (m : Lit). m.net) x.cube ++ ns) (line_nets-append xs ys) ∙ sym (append_assoc (map (λ (m : Lit). m.net) x.cube) (line_nets xs) (line_nets ys))

-- the nets of one line more
pub line_nets-more : (ls : List Line) (i : ℕ) (x : Line) → i < length ls → x ≡ get_or ls i x → line_nets (take (i + 1) ls) ≡ line_nets (take i ls) ++ map (λ (m : Lit). m.net) x.cube
line_nets-more ls i x lt is =
    ap line_nets (take_more ls i x lt) ∙ (line_nets-append (take i ls) (get_or ls i x ∷ []) ∙ ap (λ ns. line_nets (take i ls) ++ ns) (append-nil (map (λ (m : Lit). m.net) (get_or ls i x).cube) ∙ ap (λ (y : Line). map (λ (m : Lit). m.net) y.cube) (sym is)))
