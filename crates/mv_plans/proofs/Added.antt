-- The rule `add`: its change, that what it leaves is well formed, and that it means the same.
use Rattle.std.proofs.Common.{◌≡◌, ◌∙◌, ℕ, zero, suc, List, [], ◌∷◌, Some, None, refl, sym, ap, subst, arith}
use Rattle.std.proofs.lemmas.Bool.{false≢true}
use Rattle.std.proofs.lemmas.Option.{same_Some}
use Rattle.mv_base.specs.Meaning.{SameMeaning}
use Rattle.mv_base.specs.Set.{one}
use Rattle.mv_body.specs.Bodies.{cover_said}
use Rattle.mv_cover.specs.declared.cover.Cover.{Cover}
use Rattle.mv_entry.specs.declared.rule.Body.{Body}
use Rattle.mv_meaning.specs.Rewriting.{IsNewNet}
use Rattle.mv_meaning.proofs.Adding.{added_formed, added_means}
use Rattle.mv_net.specs.declared.change.NewNet.{NewNet}
use Rattle.mv_net.specs.declared.change.Change.{Change}
use Rattle.mv_net.specs.declared.parts.FlatNet.{FlatNet}
use Rattle.mv_net.specs.declared.parts.NetParts.{NetParts}
use Rattle.mv_net.specs.Allowed.{of_net}
use Rattle.mv_net.specs.Changes.{made_net, Fits}
use Rattle.mv_net.specs.Formed.{WellFormed}
use Rattle.mv_net.specs.Index.{HasName}
use Rattle.mv_net.proofs.Totals.{IsTotal-default}
use Rattle.mv_plans.specs.Adding.{IsDivisor, CanAdd, Adds, divisor_net}
use Rattle.mv_plans.specs.Checks.{IsNewName}
use Rattle.mv_plans.specs.Plans.{IsPlanned}
use Rattle.mv_meaning.proofs.Changing.{changed-added}

-- the change by which a net of two values with this name and table comes
abbrev pub coming : List ℕ → Cover → Change
coming name table = record { add = record { name = name; values = 2; table = table } ∷ []; set = []; values = []; gone = [] }

abbrev made : (old : NetParts) (name : List ℕ) (body : Body) → IsDivisor old.nets body → IsNewName old.nets name → IsNewNet old.nets (divisor_net name (cover_said old.nets body))
made old name body form fresh = record {
  kind = refl;
  some = omega arith;
  few = omega arith;
  value_names = refl;
  name = fresh.lawful;
  fresh = fresh.free;
  cover = cover_said old.nets body;
  table = refl;
  covers = form.tidy.cover;
}

-- nothing but a net with a name of its own comes
fits_coming : (old : NetParts) (name : List ℕ) (table : Cover) → IsNewName old.nets name → Fits old (coming name table)
fits_coming old name table fresh = record {
  set = record { held = λ m h. absurd (false≢true h); once = refl };
  values = record { held = λ m h. absurd (false≢true h); once = refl };
  gone = record { held = λ m h. absurd (false≢true h); once = refl };
  apart = λ m h. (refl, refl);
  names = λ k n w new old_name. fresh.free n (record { net = old_name.net; held = old_name.held; is = old_name.is ∙ name_is k w new });
}
  where
    one_net : NewNet
    one_net = record { name = name; values = 2; table = table }

    name_is : (k : ℕ) (w : List ℕ) → HasName (made_net one_net ∷ []) k w → w ≡ name
    name_is zero w h = sym h.is ∙ sym (ap (λ (f : FlatNet). f.name) (same_Some _ h.net h.held))
    name_is (suc k) w h = let bad : None ≡ Some h.net = h.held in absurd cc

pub planned : (old : NetParts) (name : List ℕ) (body : Body) (change : Change) → WellFormed old → CanAdd old.nets name body
    → change ≡ coming name (cover_said old.nets body) → IsPlanned old (Adds old name body) change
planned old name body change formed can is =
    let table = cover_said old.nets body in
    let new = changed-added old (record { name = name; values = 2; table = table }) in
    subst (IsPlanned old (Adds old name body)) (sym is) (record {
      few = omega (arith, can.room.room);
      fits = fits_coming old name table can.fresh;
      formed = subst WellFormed (sym new) (added_formed old (divisor_net name table) formed (made old name body can.form can.fresh));
      makes = record { known = can.known; form = can.form; fresh = can.fresh; room = can.room; new_is = new };
    })

pub added_is_formed : (old : NetParts) (name : List ℕ) (body : Body) (new : NetParts) → WellFormed old → Adds old name body new → WellFormed new
added_is_formed old name body new formed a =
    subst WellFormed (sym a.new_is) (added_formed old (divisor_net name (cover_said old.nets body)) formed (made old name body a.form a.fresh))

pub added_is_same : (old : NetParts) (name : List ℕ) (body : Body) (new : NetParts) → WellFormed old → Adds old name body new → SameMeaning (of_net new) (of_net old)
added_is_same old name body new formed a =
    let P : NetParts → Type 0 = λ p. SameMeaning (of_net p) (of_net old) in
    let table = cover_said old.nets body in
    subst P (sym a.new_is)
    (added_means old (divisor_net name table) formed (made old name body a.form a.fresh)
    (IsTotal-default old.nets 2 (one 0) table (omega arith) a.form.tidy.cover a.form.choice.default))
