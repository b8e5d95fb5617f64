use Rattle.std.proofs.Common.{rules, ◌≡◌, ◌+◌, [], ◌∷◌, length, drop, get_or, refl, sym, ap, subst, ◌∙◌, arith, length-append}
use Rattle.std.specs.List.{list_all}
use Rattle.std.proofs.lemmas.List.Folds.{list_all-append}
use Rattle.asm_shapes.specs.Units.{unit_fits}
use Rattle.dump_reader.specs.DumpFile.{unit_file}
use Rattle.judge_model.specs.Refused.{OfUnit}
use Rattle.judge_model.specs.Judge.{or_refused, units_in}
use Rattle.simulation.specs.Judged.{contents, IsRefusedBy}
use Rattle.simulation.specs.Units.{behind}
use Rattle.simulation.proofs.UnitReads.{more_units, unit_refused, all_units}
use Rattle.simulation.proofs.inputs.read_units.Goals as goal

pub returns-in-Err-clause-read : goal.returns-in-Err-clause-read
returns-in-Err-clause-read c =
    let d = c.index-files-u.result in
    let at : get_or c.args.files.now c.loop-u.u d ≡ d = search rules in
    let same = ap (λ b. or_refused (OfUnit c.loop-u.u) (unit_file b)) (ap (λ f. f.items) at ∙ sym c.deref.ensures.value) in
    unit_refused c.loop-u.units.items c.args.files.now c.loop-u.u d c.in-Err.error _ c.loop-u-test.true
    (subst (λ r. IsRefusedBy r c.in-Err.error) (sym same) c.in-Err.ensures.read) c.loop-u.invariant.read

pub loop-u-preserved : goal.loop-u-preserved
loop-u-preserved c =
    let d = c.index-files-u.result in
    let at : get_or c.args.files.now c.loop-u.u d ≡ d = search rules in
    let same = ap (λ b. or_refused (OfUnit c.loop-u.u) (unit_file b)) (ap (λ f. f.items) at ∙ sym c.deref.ensures.value) in
    let items = c.in-Ok-push.ensures.items in
    let later = units_in (c.loop-u.u + 1) (contents (drop (c.loop-u.u + 1) c.args.files.now)) in
    record {
      read = ap (λ us. behind us later) items
          ∙ more_units c.loop-u.units.items c.args.files.now c.loop-u.u d c.in-Ok.unit _ c.loop-u-test.true
          (same ∙ c.in-Ok.ensures.read) c.loop-u.invariant.read;
      count = ap length items ∙ omega (arith, length-append c.loop-u.units.items (c.in-Ok.unit ∷ []), c.loop-u.invariant.count);
      fit = ap (list_all unit_fits) items ∙ (list_all-append unit_fits c.loop-u.units.items (c.in-Ok.unit ∷ [])
          ∙ rw (c.loop-u.invariant.fit, c.in-Ok.ensures.fits) refl);
    }

pub returns-clause-read : goal.returns-clause-read
returns-clause-read c =
    all_units c.loop-u.units.items c.args.files.now c.loop-u.u _ c.loop-u-test.false c.loop-u.invariant.read
