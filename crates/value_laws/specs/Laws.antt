-- Values stand for words: each operation on values that stand for words gives values that stand for the words which it gives on these.
use Rattle.std.specs.Prelude.{◌≡◌, ◌<◌, ◌*◌, ◌-◌, ◌+◌, ℕ, List, length, option_map}
use Rattle.isa_model.specs.Word.{wrapped, sext16, ha, lo}
use Rattle.effect_model.specs.declared.Op.{Op}
use Rattle.effect_model.specs.declared.Results.{Results}
use Rattle.effect_model.specs.Meaning.{results}
use Rattle.code_model.specs.Fields.{address_plus}
use Rattle.asm_mem.specs.Blocks.{Live}
use Rattle.asm_values.specs.declared.operands.OperandValue.{OperandValue}
use Rattle.asm_values.specs.declared.operands.OperandValue.TheVariants as operand
use Rattle.asm_values.specs.declared.operands.ValueResults.{ValueResults}
use Rattle.asm_values.specs.Operands.{value_results}
use Rattle.asm_machine.specs.declared.machine.Home.{Home}
use Rattle.asm_machine.specs.declared.machine.Home.TheVariants as homes
use Rattle.asm_machine.specs.Stacks as stacks
use Rattle.machine_model.specs.Worlds.{World, variables_in, home}
use Rattle.machine_model.specs.Fits.{Fits}
use Rattle.machine_model.specs.Relation.{Means, Laid}

abbrev pub ResultsMean : World → List Live → ℕ → ValueResults → Results → Type 0
ResultsMean w live next v x = Means w live next v.first x.first × (Means w live next v.second x.second × Means w live next v.third x.third)

-- a part of an address stands for its half as a word; a small-data displacement for none, since its register is the linker's
abbrev pub OperandMeans : World → List Live → ℕ → OperandValue → ℕ → Type 0
OperandMeans w live next (operand.Known v) x = Means w live next v x
OperandMeans w live next (operand.Lo k o) x = (k < length w.program.kinds) × (x ≡ sext16 (lo (address_plus (w.address k) o)))
OperandMeans w live next (operand.Ha k o) x = (k < length w.program.kinds) × (x ≡ wrapped (ha (address_plus (w.address k) o) * 65536))
OperandMeans w live next (operand.Sda k o) x = ⊥
OperandMeans w live next operand.Undefined x = Unit {0}

abbrev pub OperationsAgree : Type 0
OperationsAgree = (w : World) → Fits w → (live : List Live) (next : ℕ) → Laid w live next →
    (op : Op) (u v t : OperandValue) (x y z : ℕ) →
    OperandMeans w live next u x → OperandMeans w live next v y → OperandMeans w live next t z →
    ResultsMean w live next (value_results w.program.kinds live op u v t) (results op x y z)

-- ---- where blocks stand

abbrev pub home_address : World → Home → ℕ
home_address w (homes.Variable v) = w.variable_at v
home_address w (homes.Frame cells) = w.layout.stack.hi - (cells + 16)

-- the address of a block is that of the variable or the frame that the assembly machine tells
abbrev pub HomesAgree : Type 0
HomesAgree = (w : World) (live : List Live) (b : ℕ) → home w live b ≡ option_map (home_address w) (stacks.home (variables_in w) b live)
