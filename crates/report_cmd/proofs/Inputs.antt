-- What is judged by, and that files which match have no place that fails.
use Rattle.std.proofs.Common.{◌≡◌, ℕ, List, Option, Some, None, Result, Ok, Err, refl, ap, subst}
use Rattle.ordered_tests.specs.Checks.{first_fault}
use Rattle.ordered_tests.specs.Steps.{◌>>=◌, ◌>>◌, unless}
use Rattle.image_model.specs.Bytes.{AreBytes}
use Rattle.image_model.specs.Image.{Image, image_of}
use Rattle.image_model.specs.Segments.{IsLoadable}
use Rattle.image_model.specs.Tests.{elf_tests}
use Rattle.image_model.specs.declared.error.ElfError.{ElfError}
use Rattle.image_model.proofs.SegmentFacts.{image_loadable}
use Rattle.layout_model.specs.Layouts.{Layout}
use Rattle.asm_syntax.specs.declared.unit.Unit as syntax
use Rattle.link_model.specs.declared.fault.Fault.{Fault}
use Rattle.link_model.specs.Binding.{addresses}
use Rattle.link_model.specs.Candidates.{Inputs}
use Rattle.link_model.specs.Parts.{Matches}
use Rattle.link_model.specs.Passes.{passes}
use Rattle.link_laws.specs.Laws.{MatchesOrFails}
use Rattle.judge_model.specs.Refused.{Refused, OfImage}
use Rattle.judge_model.specs.Judge.{or_refused, layout_in, image_in, units_in, linked, inputs_of, FilesMatch, IsFirstFault}
use Rattle.report_cmd.proofs.Values.{none_or_some, ok_same}

abbrev inputs : Image → Layout → List syntax.Unit → Inputs
inputs v l us = record { image = v; layout = l; program = record { units = us; entry = l.entry } }

abbrev all_of : Result Layout Refused → Result Image Refused → Result (List syntax.Unit) Refused
    → (List syntax.Unit → List ℕ → Result (Unit {0}) Refused) → Result Inputs Refused
all_of rl rv ru link = rl >>= (λ l. rv >>= (λ v. ru >>= (λ us. link us l.entry >> Ok (inputs v l us))))

link_image : (v : Image) (l : Layout) (us : List syntax.Unit) (r : Result (Unit {0}) Refused) (g : Inputs)
    → (r >> Ok (inputs v l us)) ≡ Ok g → v ≡ g.image
link_image v l us (Err x) g h = absurd (let k : Err x ≡ Ok g = h in cc)
link_image v l us (Ok x) g h = let e : inputs v l us ≡ g = let k : Ok (inputs v l us) ≡ Ok g = h in cc in ap (λ z. z.image) e

image_in_all : (rl : Result Layout Refused) (rv : Result Image Refused) (ru : Result (List syntax.Unit) Refused)
    (link : List syntax.Unit → List ℕ → Result (Unit {0}) Refused) (g : Inputs) → all_of rl rv ru link ≡ Ok g → rv ≡ Ok g.image
image_in_all (Err x) rv ru link g h = absurd (let k : Err x ≡ Ok g = h in cc)
image_in_all (Ok l) (Err x) ru link g h = absurd (let k : Err x ≡ Ok g = h in cc)
image_in_all (Ok l) (Ok v) (Err x) link g h = absurd (let k : Err x ≡ Ok g = h in cc)
image_in_all (Ok l) (Ok v) (Ok us) link g h = ap Ok (link_image v l us (link us l.entry) g h)

read_image : (o : Option ElfError) (w v : Image) → or_refused OfImage (unless o >> Ok w) ≡ Ok v → (o ≡ None) × (v ≡ w)
read_image None w v h = (refl, let k : Ok w ≡ Ok v = h in cc)
read_image (Some e) w v h = absurd (let k : Err (OfImage e) ≡ Ok v = h in cc)

image_passes : (bytes : List ℕ) (v : Image) → image_in bytes ≡ Ok v → (first_fault (elf_tests bytes) ≡ None) × (v ≡ image_of bytes)
unfolding image_in
image_passes bytes v h = read_image (first_fault (elf_tests bytes)) (image_of bytes) v h

pub inputs_loadable : (layout image : List ℕ) (units : List (List ℕ)) (g : Inputs) → AreBytes image → inputs_of layout image units ≡ Ok g
    → IsLoadable g.image
unfolding inputs_of
inputs_loadable layout image units g bytes h =
    let passed = image_passes image g.image (image_in_all (layout_in layout) (image_in image) (units_in 0 units) linked g h) in
    image_loadable g.image (image, record { bytes = bytes; passes = passed.0; image = passed.1 })

pub no_first : MatchesOrFails → (layout image : List ℕ) (units : List (List ℕ)) → FilesMatch layout image units → (f : Fault)
    → AreBytes image → IsFirstFault layout image units f → ⊥
no_first law layout image units m f bytes first =
    let same : m.inputs ≡ first.0 = ok_same m.inputs first.0 (inputs_of layout image units) m.read first.1 in
    let match : Matches first.0 = subst Matches same m.match in
    let none = (law first.0 (inputs_loadable layout image units first.0 bytes first.1)).none.1 match in
    none_or_some f (first_fault (passes first.0 (addresses first.0))) none first.2
