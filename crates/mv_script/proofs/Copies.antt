-- Items in order, one more at their end.
use Rattle.std.proofs.Common.{◌≡◌, ◌∙◌, List, [], ◌∷◌, ◌++◌, refl, sym, ap}
use Rattle.mv_script.specs.declared.copying.Item.{Item}
use Rattle.mv_script.specs.Scripts.{Items}
use Rattle.mv_script.specs.Copies.{item_before, chained}

chained-push : (list : List Item) (item : Item) (rest : Items) → chained (list ++ item ∷ []) rest ≡ chained list (item_before item rest)
chained-push [] item rest = refl
chained-push (i ∷ is) item rest = ap (item_before i) (chained-push is item rest)

-- an item was taken from the items left, and put at the end
pub chained-more : (list more : List Item) (item : Item) (here rest whole : Items) → chained list here ≡ whole → here ≡ item_before item rest → more ≡ list ++ item ∷ [] → chained more rest ≡ whole
chained-more list more item here rest whole all is put =
    ap (λ l. chained l rest) put ∙ chained-push list item rest ∙ ap (chained list) (sym is) ∙ all

-- the last item was put before the rest
pub chained-less : (list less : List Item) (item : Item) (here rest whole : Items) → chained list here ≡ whole → list ≡ less ++ item ∷ [] → rest ≡ item_before item here → chained less rest ≡ whole
chained-less list less item here rest whole all was is =
    ap (chained less) is ∙ sym (chained-push less item here) ∙ ap (λ l. chained l here) (sym was) ∙ all
