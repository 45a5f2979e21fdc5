-- Where nothing is free, no table is filled: the network stays.
use Rattle.std.proofs.Common.{◌≡◌, ◌∙◌, ℕ, zero, suc, false, List}
use Rattle.std.proofs.lemmas.Bool.{false≢true}
use Rattle.mv_entry.specs.Entries.{Entry}
use Rattle.mv_net.specs.declared.parts.NetParts.{NetParts}
use Rattle.mv_pass.specs.Courses.{Visits}
use Rattle.mv_fill.specs.Fills.{FillsNet, LetBe, Stays, Filled}

visit_stays : (n : ℕ) (old : NetParts) (entries : List Entry) (new : NetParts) → FillsNet false n old entries new → new ≡ old
visit_stays n old entries new (LetBe none nothing) = nothing.1
visit_stays n old entries new (Stays why unfilled stays are same) = same
visit_stays n old entries new (Filled unfilled applies are) = absurd (false≢true applies.asked.asked)

pub stays : (k : ℕ) (old : NetParts) (entries : List Entry) (new : NetParts) → Visits (FillsNet false) k old entries new → new ≡ old
stays zero old entries new nothing = nothing.1
stays (suc k) old entries new turn = visit_stays k _ _ _ turn.second ∙ stays k _ _ _ turn.first
