-- The rule that adds a net for a divisor applies, and what it leaves.
use Rattle.std.proofs.Common.{◌≡◌, ◌∙◌, ℕ, ◌<◌, ◌≤◌, true, false, List, [], ◌∷◌, ◌++◌, length, Option, Some, All, Contains, refl, sym, ap, arith}
use Rattle.std.proofs.lemmas.Bool.{false≢true}
use Rattle.std.proofs.lemmas.List.Elements.{All-contains, All-map}
use Rattle.std.specs.List.{list_any}
use Rattle.mv_base.specs.Names.{is_net_name}
use Rattle.mv_base.specs.Set.{one}
use Rattle.mv_base.specs.declared.limits.TheConstants.{MAX_WORD_BYTES}
use Rattle.mv_body.specs.Bodies.{IsChoice, cover_said}
use Rattle.mv_cover.specs.Literal.{Lit}
use Rattle.mv_cover.specs.Covers.{cover_reads}
use Rattle.mv_cover.specs.declared.line.Line.{Line}
use Rattle.mv_cover.specs.declared.cover.Cover.{Cover}
use Rattle.mv_entry.specs.declared.rule.BodyLine.{BodyLine}
use Rattle.mv_meaning.proofs.Adding.{IsWritten-added}
use Rattle.mv_meaning.proofs.Rewired.{cover_at}
use Rattle.mv_net.specs.declared.parts.FlatNet.{FlatNet}
use Rattle.mv_net.specs.declared.parts.NetParts.{NetParts}
use Rattle.mv_net.specs.Changes.{with_nets}
use Rattle.mv_net.specs.Formed.{IsLiteral, WellFormed}
use Rattle.mv_net.specs.Fresh.{is_named, IsFreshName}
use Rattle.mv_net.specs.Nets.{slot, values_in, table_in, table_reads}
use Rattle.mv_net.proofs.FreshNames.{named_any}
use Rattle.mv_net.proofs.Known.{reads_readable, readable_below}
use Rattle.mv_pass.specs.Taking.{CanApply}
use Rattle.mv_rule_body.specs.Named.{line_named, body_of}
use Rattle.mv_rule_body.proofs.Said.{body_known, body_tidy, cover_back}
use Rattle.mv_plans.specs.Adding.{divisor_net}
use Rattle.mv_rules.specs.Applies.{Applies}
use Rattle.mv_plans.specs.Checks.{HasRoom, IsNewName}
use Rattle.mv_division.specs.Divisors.{IsDivisorOver, HasDivisor, add_rule, divisor_cover, with_divisor}
use Rattle.mv_division.proofs.Covers.{divisor_is_cover}
use Rattle.mv_division.proofs.Lists.{each_of}
use Rattle.mv_division.proofs.Tables.{line_at}

-- ---- what a new net needs

-- a fresh name is no net's
pub fresh_is_new : (nets : List (Option FlatNet)) (skip : ℕ) (name : List ℕ) → IsFreshName nets skip name → is_net_name name ≡ true → length name ≤ MAX_WORD_BYTES → IsNewName nets name
fresh_is_new nets skip name fresh lawful short = record {
  lawful = lawful;
  short = short;
  free = λ n h. false≢true (sym fresh.free.free ∙ (ap (λ w. list_any (is_named w) nets) (sym fresh.free.is) ∙ named_any nets n name h));
}

-- literals of a line of a table may stand in another
pub standing_literals : (net : NetParts) (n : ℕ) (c : Cover) (line : Line) (cube : List Lit) → WellFormed net → table_in (slot net.nets n) ≡ Some c → Contains c.lines line → All (Contains line.cube) cube → All (IsLiteral net.nets) cube
standing_literals net n c line cube formed table there all =
    let is = cover_at net n c formed table in
    let l = line_at net.nets (values_in (slot net.nets n)) c.lines line is.cubes is.lines there in
    each_of (IsLiteral net.nets) cube (λ m i. All-contains (IsLiteral net.nets) line.cube m l.literals (All-contains (Contains line.cube) cube m all i))

-- a table reads nets that are there
pub reads_before : (net : NetParts) (n m : ℕ) (c : Cover) → WellFormed net → table_in (slot net.nets n) ≡ Some c → cover_reads c m ≡ true → m < length net.nets
reads_before net n m c formed table reads =
    readable_below net.nets m (reads_readable net n m formed (ap (λ t. table_reads t m) table ∙ reads))

-- ---- the rule

body_is_choice : (nets : List (Option FlatNet)) (divisor : List (List Lit)) → IsChoice (body_of nets (divisor_cover divisor))
unfolding body_of
body_is_choice nets divisor = record {
  lines =
      All-map (λ (l : BodyLine). l.out ≡ one 1) (line_named nets) (divisor_cover divisor).lines
      (All-map (λ (l : Line). l.out ≡ one 1) (λ (c : List Lit). record { cube = c; out = one 1 }) divisor (each_of (λ (_ : List Lit). one 1 ≡ one 1) divisor (λ c i. refl)));
  default = refl;
}

module _ (net : NetParts) (name : List ℕ) (divisor : List (List Lit)) (formed : WellFormed net) (is : IsDivisorOver net.nets divisor) where
  said : cover_said net.nets (body_of net.nets (divisor_cover divisor)) ≡ divisor_cover divisor
  said = cover_back net formed 2 (divisor_cover divisor) (divisor_is_cover net.nets divisor is)

  -- the network that the rule leaves, by the cover that its body says
  added : with_nets net (net.nets ++ Some (divisor_net name (cover_said net.nets (body_of net.nets (divisor_cover divisor)))) ∷ []) ≡ with_divisor net name divisor
  added = ap (λ (c : Cover). with_nets net (net.nets ++ Some (divisor_net name c) ∷ [])) said

  pub add_applies : IsNewName net.nets name → HasRoom net.nets → CanApply false (add_rule net.nets name divisor) net
  add_applies fresh room = record {
    new = with_divisor net name divisor;
    applies = record {
      known = body_known net.nets 2 (divisor_cover divisor) (divisor_is_cover net.nets divisor is);
      form = record { tidy = body_tidy net formed 2 (divisor_cover divisor) (divisor_is_cover net.nets divisor is); choice = body_is_choice net.nets divisor };
      fresh = fresh;
      room = room;
      new_is = sym added;
    };
  }

pub added_leaves : (net new : NetParts) (name : List ℕ) (divisor : List (List Lit)) → WellFormed net → IsDivisorOver net.nets divisor → Applies false (add_rule net.nets name divisor) net new → new ≡ with_divisor net name divisor
added_leaves net new name divisor formed is a = a.new_is ∙ added net name divisor formed is

-- ---- what is there then

pub divisor_stands : (net : NetParts) (name : List ℕ) (divisor : List (List Lit)) → HasDivisor (with_divisor net name divisor).nets (length net.nets) name divisor
unfolding with_nets
divisor_stands net name divisor = record { held = (IsWritten-added net.nets (Some (divisor_net name (divisor_cover divisor)))).here }

pub slot_before : (net : NetParts) (name : List ℕ) (divisor : List (List Lit)) (n : ℕ) → n < length net.nets → slot (with_divisor net name divisor).nets n ≡ slot net.nets n
unfolding with_nets
slot_before net name divisor n low = (IsWritten-added net.nets (Some (divisor_net name (divisor_cover divisor)))).others n (λ e. absurd (omega (arith, low, e)))
