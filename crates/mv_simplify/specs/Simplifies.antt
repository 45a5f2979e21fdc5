-- What the command `simplify` does to a network: it visits each net, and makes its table tight in a
-- window round it.
use Rattle.std.specs.Prelude.{◌≡◌, ℕ, true, false, is_some, Some, [], ◌∷◌, List}
use Rattle.mv_body.specs.Bodies.{cover_said}
use Rattle.mv_cover.specs.declared.cover.Cover.{Cover}
use Rattle.mv_entry.specs.declared.note.Note.TheVariants.{Dropped}
use Rattle.mv_entry.specs.declared.note.Why.{Why}
use Rattle.mv_entry.specs.declared.note.Why.TheVariants.{Partial, Window as IsWide, Nodes}
use Rattle.mv_entry.specs.declared.rule.Body.{Body}
use Rattle.mv_entry.specs.declared.rule.Rule.{Rule}
use Rattle.mv_entry.specs.declared.rule.Rule.TheVariants.{Narrow}
use Rattle.mv_entry.specs.Entries.{Entry, Applied, Noted}
use Rattle.mv_flex.specs.Flex.{NodesCause, TooWide}
use Rattle.mv_meaning.specs.Narrowing.{AreTotalBelow}
use Rattle.mv_narrow.specs.Verdicts.{HasWindow}
use Rattle.mv_net.specs.declared.parts.NetParts.{NetParts}
use Rattle.mv_net.specs.declared.window.Window.{Window}
use Rattle.mv_net.specs.Nets.{slot, name_in, table_in}
use Rattle.mv_pass.specs.Courses.{Course, Nothing, VisitsAll, VisitsSome}
use Rattle.mv_rules.specs.Applies.{Applies}
use Rattle.mv_rules.specs.declared.terms.Terms.{Terms}
use Rattle.mv_tight.specs.Tight.{IsGrown, IsTight}

-- why the table of the net n stays as it is: a table below isn't total; or else the window round n
-- is too wide, or its pool of nodes is full
abbrev pub KeepsFor : ℕ → ℕ → ℕ → NetParts → ℕ → Why → Type 0
KeepsFor budget d u net n Partial = AreTotalBelow net.nets n → ⊥
KeepsFor budget d u net n IsWide = AreTotalBelow net.nets n × HasWindow net n d u (TooWide net)
KeepsFor budget d u net n Nodes =
    AreTotalBelow net.nets n × HasWindow net n d u (λ w. NodesCause net w budget)
KeepsFor budget d u net n _ = ⊥

-- the window isn't too wide, and in it the new table of the net n is tight for the old one
pub record IsTightIn (net : NetParts) (n : ℕ) (old new : Cover) (w : Window) : Type 0 where
  pub narrow : TooWide net w → ⊥
  pub tight : IsTight net.nets w n old new

-- the note why the net n stays
abbrev pub note_of : NetParts → ℕ → Why → Entry
note_of net n why = Noted (Dropped why (name_in (slot net.nets n)))

-- the rule by which the net n gets the table that the body says, in the window of so many steps
abbrev pub rule_of : NetParts → ℕ → ℕ → ℕ → Body → Rule
rule_of net n d u body = Narrow (name_in (slot net.nets n)) d u body

-- a visit of the net n: it has no table, and is let be; or it is noted why its table stays; or all
-- tables below are total and its own is tight in the window of this moment, and stays; or it gets
-- another table, which is tight there and grown from its own
pub data SimplifiesNet (terms : Terms) (d u n : ℕ) (old : NetParts) (entries : List Entry)
    (new : NetParts) : Type 0 where
  LetBe : is_some (table_in (slot old.nets n)) ≡ false → Nothing old entries new
      → SimplifiesNet terms d u n old entries new
  Stays : (why : Why) → is_some (table_in (slot old.nets n)) ≡ true
      → KeepsFor terms.budget d u old n why → entries ≡ note_of old n why ∷ [] → new ≡ old
      → SimplifiesNet terms d u n old entries new
  IsTightNow : (table : Cover) → table_in (slot old.nets n) ≡ Some table
      → AreTotalBelow old.nets n → HasWindow old n d u (IsTightIn old n table table)
      → Nothing old entries new → SimplifiesNet terms d u n old entries new
  Narrowed : (table : Cover) → (body : Body) → table_in (slot old.nets n) ≡ Some table
      → Applies terms.free (rule_of old n d u body) old new
      → HasWindow old n d u (IsTightIn old n table (cover_said old.nets body))
      → IsGrown table (cover_said old.nets body) → (cover_said old.nets body ≡ table → ⊥)
      → entries ≡ Applied (rule_of old n d u body) ∷ [] → SimplifiesNet terms d u n old entries new

-- all of `simplify`: each net is visited in turn
abbrev pub SimplifiesAll : Terms → ℕ → ℕ → Course
SimplifiesAll terms d u = VisitsAll (SimplifiesNet terms d u)

-- some of `simplify`: the first so many nets are
abbrev pub SimplifiesSome : Terms → ℕ → ℕ → Course
SimplifiesSome terms d u = VisitsSome (SimplifiesNet terms d u)
