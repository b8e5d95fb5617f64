-- The first state, from the blocks of the variables.
use Rattle.std.proofs.Common.{◌≡◌, ℕ, suc, ◌<◌, true, List, ◌∷◌, length, Option, Some, ap, sym, subst, ◌∙◌, arith}
use Rattle.std.specs.Prelude.{pos, unwrap_or}
use Rattle.limits.specs.declared.TheConstants.{LEAST_FRAME_BYTES, MOST_FRAMES}
use Rattle.effect_model.specs.Files.{File}
use Rattle.link_model.specs.declared.key.KeyKind.{KeyKind}
use Rattle.link_model.specs.Numbers.{entry_key, variables}
use Rattle.link_model.specs.Program.{Program}
use Rattle.asm_mem.specs.declared.value.Val.{Val}
use Rattle.asm_mem.specs.Blocks.{Live, Memory, new_block, pushed, total}
use Rattle.asm_mem.specs.Order.{Below}
use Rattle.asm_values.specs.Operands.{symbol_value}
use Rattle.asm_step.specs.State.{State}
use Rattle.asm_machine.specs.Cpus.{Cpu, IsCounted, first_cpu}
use Rattle.asm_machine.specs.Executables.{key_kinds}
use Rattle.asm_machine.specs.Parts.{HasVariables}
use Rattle.asm_machine.specs.Stacks.{IsStack, Root}
use Rattle.asm_machine.specs.Starts.{first_file, root}
use Rattle.asm_machine.specs.Variables.{variable_blocks, variable_keys}
use Rattle.asm_machine.proofs.Keys.{variables_counted}
use Rattle.asm_machine.proofs.Stacking.{stack_total}

first_stack : (m k : Memory) (n base : ℕ) → n ≡ m.next → Below m.next m.live → k ≡ pushed m LEAST_FRAME_BYTES true → base ≡ total k.live
    → IsStack n base k.live
first_stack m k n base e below p sum =
    let Q : Memory → Type 0 = λ x. base ≡ total x.live → IsStack n base x.live in
    let B : ℕ → Type 0 = λ i. Below i m.live in
    subst Q (sym p) (λ s. Root (new_block m.next LEAST_FRAME_BYTES true) m.live (sym e) (subst B (sym e) below) (sym s)) sum

pub first_counted : (m k : Memory) (s : State) (n base : ℕ) → n ≡ m.next → Below m.next m.live → m.next < MOST_FRAMES
    → k ≡ pushed m LEAST_FRAME_BYTES true
    → base ≡ total k.live → s.live ≡ k.live → s.next ≡ k.next → IsCounted s n base 0
first_counted m k s n base e below few p sum live next =
    let P : List Live → Type 0 = λ l. IsStack n base l in
    let stack = subst P (sym live) (first_stack m k n base e below p sum) in
    let cells = stack_total n base s.live stack in
    let all = ap total live in
    let number = ap (λ (x : Memory). x.next) p in
    record { stack = stack; next = omega (arith, e, next, number); few = omega (arith, e, few); deep = omega (arith, cells, all, sum) }

pub first_is : (p : Program) (m k : Memory) (n r entry : ℕ) (file : File Val) (place : Val) (ks : List KeyKind)
    → HasVariables p.units (variable_keys p.units) m → n ≡ m.next → r ≡ m.next → k ≡ pushed m LEAST_FRAME_BYTES true
    → file ≡ first_file r → place ≡ symbol_value ks entry (pos 0) 0 → ks ≡ key_kinds p.units → entry_key p.units p.entry ≡ Some entry
    → (let cpu : Cpu = record {
      state = record { file = file; place = place; live = k.live; next = k.next };
      variables = n;
      deepest = 0;
    } in cpu ≡ first_cpu p)
first_is p m k n r entry file place ks has e er ek ef ep kinds named =
    let count : ℕ = length (variables p.units) in
    let made : File Val → Val → List Live → ℕ → ℕ → Cpu =
    λ f x l i j. record { state = record { file = f; place = x; live = l; next = i }; variables = j; deepest = 0 } in
    let number : m.next ≡ count = has.next ∙ sym (variables_counted p.units) in
    let files : file ≡ first_file count = ef ∙ ap first_file (er ∙ number) in
    let key : entry ≡ unwrap_or (entry_key p.units p.entry) 0 = sym (ap (λ (o : Option ℕ). unwrap_or o 0) named) in
    let places : place ≡ symbol_value (key_kinds p.units) (unwrap_or (entry_key p.units p.entry) 0) (pos 0) 0 =
    ep ∙ ap (λ (q : List KeyKind). symbol_value q entry (pos 0) 0) kinds
    ∙ ap (λ (i : ℕ). symbol_value (key_kinds p.units) i (pos 0) 0) key in
    let blocks : k.live ≡ root count ∷ variable_blocks p.units (variable_keys p.units) =
    ap (λ (x : Memory). x.live) ek ∙ ap (λ (i : ℕ). new_block i LEAST_FRAME_BYTES true ∷ m.live) number
    ∙ ap (λ (l : List Live). root count ∷ l) has.live in
    let above = ap (λ (x : Memory). x.next) ek in
    let next : k.next ≡ suc count = omega (arith, above, number) in
    ap (λ (f : File Val). made f place k.live k.next n) files
    ∙ ap (λ (x : Val). made (first_file count) x k.live k.next n) places
    ∙ ap (λ (l : List Live).
    made (first_file count) (symbol_value (key_kinds p.units) (unwrap_or (entry_key p.units p.entry) 0) (pos 0) 0) l k.next n) blocks
    ∙ ap (λ (i : ℕ). made (first_file count) (symbol_value (key_kinds p.units) (unwrap_or (entry_key p.units p.entry) 0) (pos 0) 0)
    (root count ∷ variable_blocks p.units (variable_keys p.units)) i n) next
    ∙ ap (λ (j : ℕ). made (first_file count) (symbol_value (key_kinds p.units) (unwrap_or (entry_key p.units p.entry) 0) (pos 0) 0)
    (root count ∷ variable_blocks p.units (variable_keys p.units)) (suc count) j) (e ∙ number)
