use Rattle.std.proofs.Common.{◌≡◌, ◌∙◌, ◌||◌, true, not, position, ap, sym, refl, Some}
use Rattle.std.specs.Prelude.{slice_get}
use Rattle.std.proofs.lemmas.List.Quantifiers.{position-Some}
use Rattle.link_model.specs.Program.{keys, is_external, is_global_named, unit_declares}
use Rattle.asm_program.specs.Scopes.{is_of}
use Rattle.asm_program.specs.Seen.{declaration_seen}
use Rattle.asm_program.proofs.ScopedNames.{global_is}
use Rattle.std.proofs.lemmas.Option.{get_or_from_slice_get}
use Rattle.linked_program.proofs.ListReads.{kept_read}
use Rattle.linked_program.proofs.Meanings.{definition_is, global_some, global_not, declares_is}
use Rattle.linked_program.proofs.Opened.{opened}
use Rattle.linked_program.proofs.program.Program.global.Goals as goal
use Rattle.linked_program.proofs.program.Program.global.Goals.{then-not-is_external, else-not-is_external}

pub returns-in-Some : goal.returns-in-Some
returns-in-Some c =
    let o = opened c.self.inside c.args.self.now c.self.view_is c.self.invariant in
    let units = c.args.self.now.units in let u = c.args.unit in let n = c.args.name.now in let k = c.in-Some.k in
    let row = c.index.result.now in let d = declaration_seen row in let t = unit_declares units u n in
    let place : Some k ≡ position (is_of (0, n)) (keys units) = sym c.in-Some.is ∙ (c.get.ensures ∙ o.names (0, n)) in
    let found = position-Some (is_of (0, n)) (keys units) k d (sym place) in
    let at : slice_get (keys units) k ≡ Some d = kept_read declaration_seen c.self.inside.list.items (keys units) k row o.list
    found.0 c.index.ensures in
    let named : is_global_named n d ≡ true =
    global_is n d ∙ (ap (is_of (0, n)) (sym (get_or_from_slice_get (keys units) k d d at)) ∙ found.1) in
    let defined = definition_is units n k d at named in
    let value : (not (is_external d.item) || t) ≡ c.if-not-is_external.value =
    elim c.if-not-is_external.branch [
      | then-not-is_external w ↦
          ap (λ b. not b || t) (sym c.is_external.ensures ∙ w.if-not-is_external.true)
          ∙ (sym (ap not w.if-not-is_external.true) ∙ sym w.value-is)
      | else-not-is_external w ↦
          ap (λ b. not b || t) (sym c.is_external.ensures ∙ w.if-not-is_external.false)
          ∙ (sym (w.declares.ensures ∙ (o.tables.declared (u, n) ∙ declares_is units u n)) ∙ sym w.value-is)
    ] in
    global_some units u n k (not (is_external d.item)) t place defined refl (value ∙ c.if-declares.true)

pub returns-in_default : goal.returns-in_default
returns-in_default c =
    let o = opened c.self.inside c.args.self.now c.self.view_is c.self.invariant in
    let units = c.args.self.now.units in let u = c.args.unit in let n = c.args.name.now in let k = c.in-Some.k in
    let row = c.index.result.now in let d = declaration_seen row in let t = unit_declares units u n in
    let place : Some k ≡ position (is_of (0, n)) (keys units) = sym c.in-Some.is ∙ (c.get.ensures ∙ o.names (0, n)) in
    let found = position-Some (is_of (0, n)) (keys units) k d (sym place) in
    let at : slice_get (keys units) k ≡ Some d = kept_read declaration_seen c.self.inside.list.items (keys units) k row o.list
    found.0 c.index.ensures in
    let named : is_global_named n d ≡ true =
    global_is n d ∙ (ap (is_of (0, n)) (sym (get_or_from_slice_get (keys units) k d d at)) ∙ found.1) in
    let defined = definition_is units n k d at named in
    let value : (not (is_external d.item) || t) ≡ c.if-not-is_external.value =
    elim c.if-not-is_external.branch [
      | then-not-is_external w ↦
          ap (λ b. not b || t) (sym c.is_external.ensures ∙ w.if-not-is_external.true)
          ∙ (sym (ap not w.if-not-is_external.true) ∙ sym w.value-is)
      | else-not-is_external w ↦
          ap (λ b. not b || t) (sym c.is_external.ensures ∙ w.if-not-is_external.false)
          ∙ (sym (w.declares.ensures ∙ (o.tables.declared (u, n) ∙ declares_is units u n)) ∙ sym w.value-is)
    ] in
    global_not units u n (not (is_external d.item)) t defined refl (value ∙ c.if-declares.false)
