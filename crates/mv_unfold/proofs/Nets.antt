-- The nets of a place as the one model declares them.
use Rattle.std.proofs.Common.{◌≡◌, ℕ, ◌≤◌, List, [], ◌∷◌, ◌++◌, length, get_or, map, drop, refl, ◌∙◌, sym, ap}
use Rattle.std.specs.List.{flat_map}
use Rattle.mv_design.specs.declared.design.Decl.{Decl}
use Rattle.mv_design.specs.Values.{values_of}
use Rattle.mv_tree.specs.Places.{all_nets, own_nets}
use Rattle.mv_tree.specs.Unfolded.{placed_decl}
use Rattle.mv_unfold.specs.declared.layout.Layout.{Layout}
use Rattle.mv_unfold.specs.declared.spans.Span.{Span}
use Rattle.mv_unfold.specs.Joined.{decl_under}
use Rattle.mv_unfold.specs.Laid.{IsLaid, places_of}
use Rattle.mv_unfold.specs.Locals.{AreOwn, cut}
use Rattle.mv_unfold.specs.Placed.{place_at}
use Rattle.mv_unfold.proofs.Laid.{homes_under}

-- declarations of nets whose names are the same
same_decls : (f g : List ℕ → List ℕ) (v : List ℕ → List (List ℕ)) (ws : List (List ℕ)) → map f ws ≡ map g ws
    → map {B = Decl} (λ w. record { net = f w; values = v w }) ws ≡ map {B = Decl} (λ w. record { net = g w; values = v w }) ws
same_decls f g v [] e = refl
same_decls f g v (w ∷ ws) e =
    ap (λ (n : List ℕ). record { net = n; values = v w } ∷ map {B = Decl} (λ u. record { net = f u; values = v u }) ws) (ap (λ xs. get_or xs 0 []) e)
    ∙ ap (λ (ds : List Decl). record { net = g w; values = v w } ∷ ds) (same_decls f g v ws (ap (drop 1) e))

-- the nets of these spans, with their values, are those of a place
pub span_decls : (l : Layout) (n : ℕ) (own : List Span) → IsLaid l → n ≤ length l.opened.now
    → AreOwn (all_nets (place_at (places_of l) n).model) (place_at (places_of l) n).binds own
    → map (decl_under (place_at (places_of l) n).path (place_at (places_of l) n).model.decls) (flat_map (cut (all_nets (place_at (places_of l) n).model)) own)
    ≡ map (placed_decl (place_at (places_of l) n)) (own_nets (place_at (places_of l) n))
span_decls l n own h low are =
    let p = place_at (places_of l) n in
    ap (map (decl_under p.path p.model.decls)) are.are
    ∙ same_decls (λ net. p.path ++ net) p.home (values_of p.model.decls) (own_nets p) (sym (homes_under l n h low))
