-- The places that control goes to.
use Rattle.std.proofs.Common.{◌≡◌, ℕ, ◌+◌, ◌<◌, ◌≤◌, Bool, true, false, ◌&&◌, List, [], ◌∷◌, length, Option, Some, None, refl, sym, ap}
use Rattle.std.proofs.Common.{◌∙◌, subst, arith}
use Rattle.std.specs.Prelude.{◌==◌, is_some, unwrap_or, slice_get}
use Rattle.std.specs.List.{list_all}
use Rattle.std.specs.Option.{option_map_or}
use Rattle.std.proofs.lemmas.Bool.{eqb-true, and_parts}
use Rattle.std.proofs.lemmas.List.Quantifiers.{position-Some}
use Rattle.isa_model.specs.Word.{wrapped}
use Rattle.image_model.specs.Image.{Image}
use Rattle.asm_syntax.specs.Instructions.{has_label, label_place, is_label}
use Rattle.asm_syntax.specs.declared.instr.Instr.{Instr}
use Rattle.asm_syntax.specs.declared.instr.Instr.TheVariants as instrs
use Rattle.asm_syntax.specs.declared.unit.Sig.{Sig}
use Rattle.code_model.specs.Addresses.{instr_address, label_address}
use Rattle.asm_mem.specs.declared.value.Val.{Val}
use Rattle.asm_mem.specs.declared.value.Val.TheVariants.{Undef, Int, Ptr, Code, Ext, Stop, Ha}
use Rattle.asm_mem.specs.Blocks.{Live}
use Rattle.asm_step.specs.LinkedCode.{Linked, Routine, place_of_label, sig_of, is_target}
use Rattle.asm_step.specs.Jumps.{at_label}
use Rattle.ppc_machine.specs.Buffers.{aligned}
use Rattle.machine_model.specs.Worlds.{World, code_of, place_at}
use Rattle.machine_model.specs.Fits.{Fits}
use Rattle.machine_model.specs.Relation.{Means, PlacesAgree}

-- ---- labels

pub record Label (v : Image) (base : ℕ) (code : List Instr) (label : ℕ) : Type 0 where
  pub place : ℕ
  pub stands : label_place code label ≡ Some place
  pub within : place < length code
  pub is : label_address v base code label ≡ instr_address v base code place

label_some : (o : Option ℕ) → is_some o ≡ true → (j : ℕ) × (o ≡ Some j)
label_some None h = cc
label_some (Some j) h = (j, refl)

pub label_at : (v : Image) (base : ℕ) (code : List Instr) (label : ℕ) → has_label code label ≡ true → Label v base code label
label_at v base code label h =
    let found = label_some (label_place code label) h in
    let p = position-Some (is_label label) code found.0 instrs.Cfi found.1 in
    record { place = found.0; stands = found.1; within = p.0; is = ap (λ o. option_map_or (instr_address v base code) o 0) found.1 }

-- the place of a label by the code of its function
pub place_is : (p : Linked) (f label : ℕ) → place_of_label p f label ≡ unwrap_or (label_place (code_of p f) label) 0
place_is p f label = at (slice_get p.routines f)
  where
    at : (o : Option Routine)
        → option_map_or (λ r. unwrap_or (label_place r.code label) 0) o 0
        ≡ unwrap_or (label_place (option_map_or (λ r. r.code) o []) label) 0
    at None = refl
    at (Some r) = refl

pub first_stands : (p : ℕ → Bool) (n : ℕ) (ns : List ℕ) → list_all p (n ∷ ns) ≡ true → p n ≡ true
first_stands p n ns h = (and_parts (p n) (list_all p ns) h).0

pub label_agrees : (w : World) → Fits w → (live : List Live) (next f label a : ℕ) → f < length w.program.routines
    → has_label (code_of w.program f) label ≡ true
    → a ≡ wrapped (label_address w.image (w.function_at f) (code_of w.program f) label)
    → PlacesAgree w live next (at_label w.program f label) a
label_agrees w ok live next f label a known h e =
    let l = label_at w.image (w.function_at f) (code_of w.program f) label h in
    let q : place_of_label w.program f label ≡ l.place = place_is w.program f label ∙ ap (λ o. unwrap_or o 0) l.stands in
    let within = l.within in
    let p = ok.places f l.place known (omega arith) in
    let below = p.below in
    let is = l.is in
    let same : a ≡ place_at w f l.place = omega arith in
    record { target = refl; means = record { named = (known, omega arith); shows = same ∙ ap (place_at w f) (sym q) } }

-- ---- values

sig_at : (o : Option Sig) → is_some o ≡ true → (sig : Sig) × (o ≡ Some sig)
sig_at None e = cc
sig_at (Some sig) e = (sig, refl)

-- a place that control goes to has its own address
pub target_law : (w : World) → Fits w → (live : List Live) (next : ℕ) (v : Val) (x : ℕ) → is_target w.program v ≡ true
    → Means w live next v x → PlacesAgree w live next v (aligned x)
target_law w ok live next v x h m = record { target = h; means = subst (λ y. Means w live next v y) (sym (at v x h m)) m }
  where
    at : (v : Val) (x : ℕ) → is_target w.program v ≡ true → Means w live next v x → aligned x ≡ x
    at (Code f i) x h m = let a = m.shows in let p = ok.places f i m.named.0 m.named.1 in let q = p.aligned in omega arith
    at (Ext k o) x h m =
        let p = and_parts (o == 0) (is_some (sig_of w.program k)) h in
        let z = eqb-true o 0 p.0 in
        let s = sig_at (sig_of w.program k) p.1 in
        let e = ok.externals k s.0 s.1 in
        let b = ok.below k m.named in
        let b1 = b.1 in let q = e.multiple in
        let a : x ≡ wrapped (w.address k + o) = m.shows in
        omega arith
    at Stop x h m = let a = m.shows in let p = ok.stop.aligned in omega arith
    at Undef x h m = cc
    at (Int n) x h m = cc
    at (Ptr b o) x h m = cc
    at (Ha k o n) x h m = cc
