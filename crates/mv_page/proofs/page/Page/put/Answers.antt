-- What was held is handed on before the piece.
use Rattle.mv_page.proofs.Paging.{hands_on_first}
use Rattle.mv_page.proofs.page.Page.put.Goals as goal

pub returns : goal.returns
returns g c = hands_on_first _ _ _ _ _ _ _ c.in-Ok.ensures.appends c.put_alone.ensures
