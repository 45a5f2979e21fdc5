-- Names of nets that can be read are lawful and differ; the inputs of a network can be read.
use Rattle.std.proofs.Common.{◌≡◌, ◌∙◌, true, List, refl, sym, ap}
use Rattle.std.specs.List.{list_all}
use Rattle.std.proofs.lemmas.List.Folds.{list_all-map}
use Rattle.mv_base.specs.Names.{is_net_name, names_differ}
use Rattle.mv_base.specs.declared.number.NetId.{NetId}
use Rattle.mv_net.specs.declared.parts.Kind.TheVariants.{Input}
use Rattle.mv_net.specs.declared.parts.NetParts.{NetParts}
use Rattle.mv_net.specs.Nets.{slot, name_in}
use Rattle.mv_graph.specs.Nets.{all_differ, has_id}
use Rattle.mv_net.specs.Formed.{IsReadable, WellFormed}
use Rattle.mv_text.specs.Text.{names_of, numbers}
use Rattle.mv_text_back.proofs.Resets.{readable-kind, readable-lawful}
use Rattle.mv_text_back.proofs.Numbers.{number_in-stands, numbers_differ-all, names_at-numbers, AllReadable, readable_from, readable_differ}
use Rattle.mv_text_back.proofs.Passes.{stands-pass}

module _ (net : NetParts) (formed : WellFormed net) where
  -- the nets of a list can be read
  abbrev pub CanRead : List NetId → Type 0
  CanRead ns = (n : NetId) → has_id ns n.0 ≡ true → IsReadable net.nets n.0

  pub names-lawful : (ns : List NetId) → CanRead ns → list_all is_net_name (names_of net.nets ns) ≡ true
  names-lawful ns read =
      list_all-map is_net_name (λ (n : NetId). name_in (slot net.nets n.0)) ns
      ∙ stands-pass (λ (n : NetId). is_net_name (name_in (slot net.nets n.0))) ns (λ n h. readable-lawful net formed n.0 (read n h))

  pub all-readable : (ns : List NetId) → CanRead ns → AllReadable net.nets (numbers ns)
  all-readable ns read =
      readable_from net.nets (numbers ns) (λ k h. read (record { 0 = k }) (sym (number_in-stands (record { 0 = k }) ns) ∙ h))

  pub names-differ : (ns : List NetId) → CanRead ns → all_differ ns ≡ true → names_differ (names_of net.nets ns) ≡ true
  names-differ ns read e =
      ap names_differ (names_at-numbers net.nets ns) ∙ readable_differ net.nets (record { only = formed.names }) (numbers ns) (all-readable ns read) (numbers_differ-all ns e)

  pub read-inputs : CanRead net.inputs
  read-inputs n h = readable-kind net.nets n.0 Input refl (formed.inputs.only n h)
