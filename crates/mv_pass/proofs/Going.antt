-- Entries one after the other: two stretches of them, and the rules among them.
use Rattle.std.proofs.Common.{◌≡◌, ◌≤◌, Bool, List, [], ◌∷◌, ◌++◌, refl, sym, ap, subst, arith}
use Rattle.mv_entry.specs.declared.rule.Rule.{Rule}
use Rattle.mv_entry.specs.Entries.{Entry, Applied, Noted, rules_of}
use Rattle.mv_net.specs.declared.parts.NetParts.{NetParts}
use Rattle.mv_net.specs.Formed.{WellFormed}
use Rattle.mv_net.specs.Nets.{literals_in}
use Rattle.mv_rules.specs.Applies.{Applies}
use Rattle.mv_rules.specs.Replaying.{Replays}
use Rattle.mv_rules.proofs.Kept.{kept_formed}
use Rattle.mv_rules.proofs.Replayed.{replayed_then}
use Rattle.mv_pass.specs.Courses.{Course}
use Rattle.mv_pass.specs.Going.{Goes}

module _ (free : Bool) (Lawful : NetParts → Entry → Type 0) where
  pub Goes-append : (a b c : NetParts) (xs ys : List Entry) → Goes free Lawful a xs b → Goes free Lawful b ys c → Goes free Lawful a (xs ++ ys) c
  Goes-append a b c [] ys g h = subst (λ n. Goes free Lawful n ys c) g h
  Goes-append a b c (Applied r ∷ xs) ys g h = (g.0, (g.1.0, (g.1.1.0, Goes-append g.1.0 b c xs ys g.1.1.1 h)))
  Goes-append a b c (Noted n ∷ xs) ys g h = (g.0, Goes-append a b c xs ys g.1 h)

  -- whatever the law, the rules among the entries apply in turn
  pub goes_replays : (a b : NetParts) (es : List Entry) → Goes free Lawful a es b → Replays free (rules_of es) a b
  goes_replays a b [] g = g
  goes_replays a b (Applied r ∷ es) g = (g.1.0, (g.1.1.0, goes_replays g.1.0 b es g.1.1.1))
  goes_replays a b (Noted n ∷ es) g = goes_replays a b es g.1

pub rules_of-append : (xs ys : List Entry) → rules_of (xs ++ ys) ≡ rules_of xs ++ rules_of ys
rules_of-append [] ys = refl
rules_of-append (Applied r ∷ xs) ys = ap (λ rs. r ∷ rs) (rules_of-append xs ys)
rules_of-append (Noted n ∷ xs) ys = rules_of-append xs ys

-- the rules among the entries apply in turn
abbrev pub ReplaysRules : Bool → Course
ReplaysRules free a es b = Replays free (rules_of es) a b

pub replays_then : (free : Bool) (a b c : NetParts) (xs ys : List Entry) → ReplaysRules free a xs b → ReplaysRules free b ys c → ReplaysRules free a (xs ++ ys) c
replays_then free a b c xs ys p q =
    subst (λ rs. Replays free rs a c) (sym (rules_of-append xs ys)) (replayed_then free (rules_of xs) (rules_of ys) a b c p q)

-- where each rule that is lawful leaves no more literals than there were, all together leave no more
pub goes_no_more : (free : Bool) (Lawful : NetParts → Entry → Type 0)
    → ((a b : NetParts) (r : Rule) → WellFormed a → Lawful a (Applied r) → Applies free r a b → literals_in b.nets ≤ literals_in a.nets)
    → (a b : NetParts) (es : List Entry) → WellFormed a → Goes free Lawful a es b → literals_in b.nets ≤ literals_in a.nets
goes_no_more free Lawful each a b [] formed g = let e : literals_in b.nets ≡ literals_in a.nets = ap (λ (n : NetParts). literals_in n.nets) g in omega (arith, e)
goes_no_more free Lawful each a b (Applied r ∷ es) formed g =
    let mid = g.1.0 in
    let here = each a mid r formed g.0 g.1.1.0 in
    let rest = goes_no_more free Lawful each mid b es (kept_formed free r a mid formed g.1.1.0) g.1.1.1 in
    omega (arith, here, rest)
goes_no_more free Lawful each a b (Noted n ∷ es) formed g = goes_no_more free Lawful each a b es formed g.1
