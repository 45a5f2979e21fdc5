-- Names that aren't longer than a word may be: those of a design are such, and a rule that applies keeps them so.
use Rattle.std.proofs.Common.{◌≡◌, ℕ, ◌+◌, ◌<◌, ◌≤◌, Bool, List, [], ◌∷◌, ◌++◌, length, Option, Some, None, All, map, sym, subst, set, arith, ⊎_elim}
use Rattle.std.specs.Prelude.{IfSome}
use Rattle.std.proofs.lemmas.Bool.{cases_eq, cases_lt}
use Rattle.std.proofs.lemmas.List.{get_or_past}
use Rattle.mv_base.specs.declared.limits.TheConstants.{MAX_FLAT_NAME_BYTES, MAX_WORD_BYTES}
use Rattle.mv_composite.specs.Composite.{composed}
use Rattle.mv_composite.specs.Wired.{wired}
use Rattle.mv_cover.specs.declared.cover.Cover.{Cover}
use Rattle.mv_entry.specs.declared.rule.Rule.{Rule}
use Rattle.mv_entry.specs.declared.rule.Rule.TheVariants.{Remove, Add, Divide, Wire, Collapse, Narrow, Fill, Merge, Encode}
use Rattle.mv_body.specs.Bodies.{cover_said}
use Rattle.mv_meaning.specs.Rewriting.{given_table, with_net_table, rewritten, IsReformed}
use Rattle.mv_meaning.proofs.Adding.{IsWritten-added}
use Rattle.mv_meaning.proofs.OneTable.{IsWritten-given}
use Rattle.mv_meaning.proofs.Rewired.{IsReformed-rewritten}
use Rattle.mv_net.specs.declared.parts.FlatNet.{FlatNet}
use Rattle.mv_net.specs.declared.parts.NetParts.{NetParts}
use Rattle.mv_net.specs.Changes.{with_nets}
use Rattle.mv_net.specs.Nets.{slot, name_in, values_in}
use Rattle.mv_net.proofs.Patches.{IsWritten, IsWritten-gone}
use Rattle.mv_plans.specs.Adding.{divisor_net}
use Rattle.mv_rules.specs.Applies.{Applies}
use Rattle.mv_plans.specs.Filling.{with_default}
use Rattle.mv_plans.proofs.Encoded.{encoded_short}
use Rattle.mv_plans.proofs.Merged.{merged_named}
use Rattle.mv_rules.specs.Replaying.{Replays}
use Rattle.mv_rules_back.specs.Names.{HasWordNames}

-- the name of the net, if it is one, isn't longer than a word may be
abbrev IsShort : Option FlatNet → Type 0
IsShort o = length (name_in o) ≤ MAX_WORD_BYTES

-- ---- the names of a design

design_name : (o : Option FlatNet) → IfSome o (λ (f : FlatNet). length f.name ≤ MAX_FLAT_NAME_BYTES + 1) → IsShort o
design_name None short = omega arith
design_name (Some f) short = omega (arith, short)

pub design_short : (nets : List (Option FlatNet)) → All (λ (o : Option FlatNet). IfSome o (λ (f : FlatNet). length f.name ≤ MAX_FLAT_NAME_BYTES + 1)) nets → HasWordNames nets
design_short nets all = record {
  short = λ n.
      ⊎_elim
      (λ (low : n < length nets). design_name (slot nets n) (all n None low))
      (λ (past : length nets ≤ n). subst IsShort (sym (get_or_past nets n None past)) (omega arith))
      (cases_lt n (length nets));
}

-- ---- nets that change

written_short : (old : List (Option FlatNet)) (n : ℕ) (f : Option FlatNet) (new : List (Option FlatNet)) → IsWritten old n f new → IsShort f → HasWordNames old → HasWordNames new
written_short old n f new written short names = record {
  short = λ m.
      ⊎_elim
      (λ (e : m ≡ n). subst (λ k. IsShort (slot new k)) (sym e) (subst IsShort (sym written.here) short))
      (λ (ne : m ≡ n → ⊥). subst IsShort (sym (written.others m ne)) (names.short m))
      (cases_eq m n);
}

gone_short : (nets : List (Option FlatNet)) (n : ℕ) → HasWordNames nets → HasWordNames (set nets n None)
gone_short nets n names = written_short nets n None (set nets n None) (IsWritten-gone nets n) (omega arith) names

reformed_short : (old new : List (Option FlatNet)) → IsReformed old new → HasWordNames old → HasWordNames new
reformed_short old new reformed names = record { short = λ n. subst (λ w. length w ≤ MAX_WORD_BYTES) (sym (reformed.each n).name) (names.short n) }

rewritten_short : (table : Cover → Cover) (n : ℕ) (nets : List (Option FlatNet)) → HasWordNames nets → HasWordNames (rewritten table n nets)
rewritten_short table n nets names = reformed_short nets (rewritten table n nets) (IsReformed-rewritten table n nets) names

given_short : (c : Cover) (o : Option FlatNet) → IsShort o → IsShort (given_table c o)
given_short c None short = short
given_short c (Some f) short = short

-- ---- rules

pub words_kept : (free : Bool) (rule : Rule) (old new : NetParts) → HasWordNames old.nets → Applies free rule old new → HasWordNames new.nets
unfolding with_nets
words_kept free (Remove w) old new names p =
    subst (λ (m : NetParts). HasWordNames m.nets) (sym p.new_is) (gone_short old.nets p.number names)
words_kept free (Add w body) old new names p =
    let came = Some (divisor_net w (cover_said old.nets body)) in
    subst (λ (m : NetParts). HasWordNames m.nets) (sym p.new_is)
    (written_short old.nets (length old.nets) came (old.nets ++ came ∷ []) (IsWritten-added old.nets came) p.fresh.short names)
words_kept free (Divide w by body) old new names p =
    let given = given_table p.table (slot old.nets p.number) in
    subst (λ (m : NetParts). HasWordNames m.nets) (sym p.new_is)
    (written_short old.nets p.number given (with_net_table old.nets p.number p.table) (IsWritten-given old.nets p.number p.table) (given_short p.table (slot old.nets p.number) (names.short p.number)) names)
words_kept free (Wire w) old new names p =
    subst (λ (m : NetParts). HasWordNames m.nets) (sym p.new_is) (rewritten_short (wired p.number p.same.source) p.number old.nets names)
words_kept free (Collapse w) old new names p =
    let inner = p.composites.inner in
    let table = composed (map values_in old.nets) inner in
    subst (λ (m : NetParts). HasWordNames m.nets) (sym p.new_is)
    (gone_short (rewritten table inner.net.0 old.nets) inner.net.0 (rewritten_short table inner.net.0 old.nets names))
words_kept free (Narrow w d u body) old new names p =
    let table = cover_said old.nets body in
    let given = given_table table (slot old.nets p.number) in
    subst (λ (m : NetParts). HasWordNames m.nets) (sym p.new_is)
    (written_short old.nets p.number given (with_net_table old.nets p.number table) (IsWritten-given old.nets p.number table) (given_short table (slot old.nets p.number) (names.short p.number)) names)
words_kept free (Fill w out) old new names p =
    let table = with_default p.table out in
    let given = given_table table (slot old.nets p.number) in
    subst (λ (m : NetParts). HasWordNames m.nets) (sym p.new_is)
    (written_short old.nets p.number given (with_net_table old.nets p.number table) (IsWritten-given old.nets p.number table) (given_short table (slot old.nets p.number) (names.short p.number)) names)
words_kept free (Merge w gone into) old new names p =
    record { short = λ k. subst (λ v. length v ≤ MAX_WORD_BYTES) (sym (merged_named old w gone into new p k)) (names.short k) }
words_kept free (Encode w bits codes) old new names p = record { short = λ k. encoded_short old w bits codes new p k (names.short k) }

pub replayed_words : (free : Bool) (rules : List Rule) (old new : NetParts) → HasWordNames old.nets → Replays free rules old new → HasWordNames new.nets
replayed_words free [] old new names p = subst (λ (m : NetParts). HasWordNames m.nets) (sym p) names
replayed_words free (r ∷ rs) old new names (mid, (applies, rest)) = replayed_words free rs mid new (words_kept free r old mid names applies) rest
