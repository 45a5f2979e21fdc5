-- Whether a table has a cover of too many kernels.
use Rattle.std.proofs.Common.{◌≡◌, ◌∙◌, ℕ, ◌<◌, Option, Some, None, List, length, get_or, slice_get, All, Contains, refl, sym, ap, subst, arith}
use Rattle.std.proofs.lemmas.List.Elements.{All-contains}
use Rattle.std.proofs.lemmas.Option.{get_or_from_slice_get, unwrap_or-slice_get}
use Rattle.std.specs.Option.{unwrap_or}
use Rattle.mv_net.specs.declared.parts.FlatNet.{FlatNet}
use Rattle.mv_net.specs.Nets.{slot}
use Rattle.mv_kernels.specs.Kernels.{HasFew, HasMany}
use Rattle.mv_kernels.proofs.Lists.{Contains-none}
use Rattle.mv_divide.specs.declared.part.Part.{Part}
use Rattle.mv_divide.specs.Tables.{parts_of}
use Rattle.mv_gains.specs.Gains.{lines_at}
use Rattle.mv_gains.specs.Candidates.{HasManyKernels}

pub no_table : (nets : List (Option FlatNet)) (n : ℕ) → slice_get nets n ≡ None → HasManyKernels nets n → ⊥
no_table nets n e h =
    let none : slot nets n ≡ None = sym (unwrap_or-slice_get nets n None) ∙ ap (λ (o : Option (Option FlatNet)). unwrap_or o None) e in
    Contains-none h.there.part (subst (λ (f : Option FlatNet). Contains (parts_of (lines_at f)) h.there.part) none h.there.there)

pub many_found : (nets : List (Option FlatNet)) (n : ℕ) (table : Option FlatNet) (parts : List Part) (i : ℕ) (part : Part) → slice_get nets n ≡ Some table → parts ≡ parts_of (lines_at table) → i < length parts → part ≡ get_or parts i part → HasMany part.cover → HasManyKernels nets n
many_found nets n table parts i part e are low at many =
    let held : slot nets n ≡ table = get_or_from_slice_get nets n table None e in
    record {
      cover = part.cover;
      there = record {
        part = part;
        there = subst (λ (ps : List Part). Contains ps part) (are ∙ ap (λ (f : Option FlatNet). parts_of (lines_at f)) (sym held)) (i, low, sym at);
        is = refl;
      };
      many = many;
    }

pub all_few : (nets : List (Option FlatNet)) (n : ℕ) (table : Option FlatNet) (parts : List Part) → slice_get nets n ≡ Some table → parts ≡ parts_of (lines_at table) → All (λ (p : Part). HasFew p.cover) parts → HasManyKernels nets n → ⊥
all_few nets n table parts e are few h =
    let held : slot nets n ≡ table = get_or_from_slice_get nets n table None e in
    let there : Contains parts h.there.part =
    subst (λ (ps : List Part). Contains ps h.there.part) (ap (λ (f : Option FlatNet). parts_of (lines_at f)) held ∙ sym are) h.there.there in
    let low : HasFew h.cover = subst HasFew h.there.is (All-contains (λ (p : Part). HasFew p.cover) parts h.there.part few there) in
    let most = low.each h.many.kernels h.many.are in
    absurd (omega (arith, most, h.many.many))
