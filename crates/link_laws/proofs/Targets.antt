-- Labels that instructions name stand in the code, and branches lead to their targets.
use Rattle.std.proofs.Common.{◌≡◌, ℕ, ◌<◌, ◌^◌, true, List, Some, None, refl, ◌∙◌, ap, arith}
use Rattle.std.specs.Prelude.{ℤ, Option, is_some}
use Rattle.std.specs.Option.{option_map_or}
use Rattle.std.proofs.lemmas.Bool.{eqb-true}
use Rattle.std.proofs.lemmas.List.Quantifiers.{position-Some}
use Rattle.isa_model.specs.Word.{wrapped}
use Rattle.isa_model.specs.Forms.{displacement_in}
use Rattle.ordered_tests.proofs.Lists.{each_weak}
use Rattle.ppc_decode.specs.declared.machine.Machine.{Machine}
use Rattle.image_model.specs.Image.{Image}
use Rattle.layout_model.specs.Layouts.{Layout}
use Rattle.asm_syntax.specs.Instructions.{has_label, label_place, is_label, labels_named}
use Rattle.asm_syntax.specs.declared.instr.Instr.{Instr}
use Rattle.asm_syntax.specs.declared.instr.Instr.TheVariants as instrs
use Rattle.asm_shapes.specs.Shapes.{HasShape}
use Rattle.code_model.specs.Fields.{address_plus}
use Rattle.code_model.specs.Addresses.{instr_address, label_address}
use Rattle.link_laws.specs.Facts.{IsLabelAt}
use Rattle.link_laws.specs.Laws.{HasLabels, BranchesLead}
use Rattle.link_laws.proofs.Items.{each_of_all}

label_some : (o : Option ℕ) → is_some o ≡ true → (j : ℕ) × (o ≡ Some j)
label_some None h = absurd (cc)
label_some (Some j) h = (j, refl)

label_at : (v : Image) (base : ℕ) (code : List Instr) (label : ℕ) → has_label code label ≡ true →
    IsLabelAt v base code label (label_address v base code label)
label_at v base code label h =
    let found = label_some (label_place code label) h in
    let p = position-Some (is_label label) code found.0 instrs.Cfi found.1 in record {
      place = found.0;
      stands = found.1;
      within = p.0;
      address = ap (λ o. option_map_or (instr_address v base code) o 0) found.1;
    }

pub has_labels : (v : Image) (base : ℕ) (code : List Instr) → HasShape code → HasLabels v base code
has_labels v base code shape i x is =
    each_weak (λ n. has_label code n ≡ true) (λ n. IsLabelAt v base code n (label_address v base code n)) (labels_named x)
    (λ n h. label_at v base code n h) (each_of_all (has_label code) (labels_named x) (shape.each i x is).labels)

whole : (t : ℕ) → t < 2 ^ 32 → wrapped t ≡ t
whole t lt = omega arith

pub branches_lead : (l : Layout) (at t : ℕ) (made : ℤ → Machine) (w : ℕ) → t < 2 ^ 32 → BranchesLead l at t made w
branches_lead l at t made w lt = record {
  near = λ s. eqb-true (address_plus at (displacement_in 16 w)) (wrapped t) s.agreed ∙ whole t lt;
  far = λ s. eqb-true (address_plus at (displacement_in 26 w)) (wrapped t) s.agreed ∙ whole t lt;
}
