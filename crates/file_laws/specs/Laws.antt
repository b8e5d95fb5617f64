-- What an instruction of one word does to registers in the assembly agrees with what its word does to them in the image.
use Rattle.std.specs.Prelude.{◌≡◌, ◌<◌, ◌+◌, ℕ, Bool, true, false, List, length, Some}
use Rattle.isa_model.specs.Word.{wrapped}
use Rattle.effect_model.specs.declared.Place.{Place}
use Rattle.effect_model.specs.declared.Place.TheVariants.{Gpr, Unused}
use Rattle.effect_model.specs.declared.Operand.{Operand}
use Rattle.effect_model.specs.declared.Effect.{Effect}
use Rattle.effect_model.specs.declared.Effects.{Effects}
use Rattle.effect_model.specs.declared.Form.{Form}
use Rattle.effect_model.specs.declared.Action.{Action}
use Rattle.effect_model.specs.declared.Action.TheVariants as does
use Rattle.effect_model.specs.Files.{File, get, word_read, flat_effect, flat_all, flat_stops}
use Rattle.effect_model.specs.Meaning.{stops}
use Rattle.asm_syntax.specs.declared.instr.Plain.{Plain}
use Rattle.asm_syntax.specs.declared.instr.Plain.TheVariants as plains
use Rattle.asm_syntax.specs.Instructions.{plain_symbol}
use Rattle.asm_syntax.specs.References.{Reference}
use Rattle.asm_syntax.specs.declared.instr.Instr.TheVariants as instrs
use Rattle.asm_shapes.specs.Shapes.{is_reserved, writes_reserved}
use Rattle.asm_shapes.specs.Operands.{plain_in_range}
use Rattle.code_model.specs.Forms.{plain_form}
use Rattle.code_model.specs.Spelling.{found_instruction, agrees}
use Rattle.asm_mem.specs.declared.value.Val.{Val}
use Rattle.asm_mem.specs.declared.value.Val.TheVariants.{Undef}
use Rattle.asm_mem.specs.Blocks.{Live}
use Rattle.asm_values.specs.Operands.{sum_args, word_in}
use Rattle.asm_values.specs.Files.{value_read, asm_effect, asm_all}
use Rattle.asm_values.specs.Actions.{plain_action}
use Rattle.ppc_machine.specs.Actions.{action_of}
use Rattle.machine_model.specs.Worlds.{World}
use Rattle.machine_model.specs.Fits.{Fits}
use Rattle.machine_model.specs.Relation.{Means, Laid, FilesAgree}

-- the sum of two operands of the assembly stands for that of two operands of the image
abbrev pub SumsAgree : World → List Live → ℕ → Operand → Operand → Operand → Operand → Type 0
SumsAgree w live next u v x y = (f : File Val) (g : File ℕ) → FilesAgree w live next f g →
    Means w live next (sum_args w.program.kinds (value_read f u) (value_read f v)) (wrapped (word_read g x + word_read g y))

abbrev pub reserved : Place → Bool
reserved (Gpr n) = is_reserved n
reserved _ = false

-- registers that agree agree after these effects, and r1 stays
pub record WorksAlike (w : World) (live : List Live) (next : ℕ) (es ds : Effects) : Type 0 where
  pub files : (f : File Val) (g : File ℕ) → FilesAgree w live next f g →
      FilesAgree w live next (asm_all w.program.kinds live es f) (flat_all ds g)
  pub spares : (f : File Val) → get Undef (asm_all w.program.kinds live es f) (Gpr 1) ≡ get Undef f (Gpr 1)

-- the same for a division whose operands are words, and it stops in both or in none
pub record DividesAlike (w : World) (live : List Live) (next : ℕ) (e : Effect) : Type 0 where
  pub stops_alike : (f : File Val) (g : File ℕ) → FilesAgree w live next f g → (x y : ℕ) → word_in (value_read f e.x) ≡ Some x →
      word_in (value_read f e.y) ≡ Some y → flat_stops e g ≡ stops e.op x y
  pub files : (f : File Val) (g : File ℕ) → FilesAgree w live next f g →
      FilesAgree w live next (asm_effect w.program.kinds live e f) (flat_effect e g)
  pub spares : (f : File Val) → get Undef (asm_effect w.program.kinds live e f) (Gpr 1) ≡ get Undef f (Gpr 1)

-- an action of the assembly and one of the image
pub data Alike (w : World) (live : List Live) (next : ℕ) : Action → Action → Type 0 where
  Works : (es ds : Effects) → WorksAlike w live next es ds → Alike w live next (does.Work es) (does.Work ds)
  Divides : (e : Effect) → DividesAlike w live next e → Alike w live next (does.Divide e) (does.Divide e)
  Loads : (form : Form) (u v x y : Operand) (to : Place) → SumsAgree w live next u v x y → reserved to ≡ false →
      Alike w live next (does.Load form u v to) (does.Load form x y to)
  Stores : (form : Form) (from : Place) (u v x y : Operand) → SumsAgree w live next u v x y →
      Alike w live next (does.Store form from u v Unused) (does.Store form from x y Unused)

-- the symbol that an instruction names is a key, which has the address t
abbrev pub Keyed : World → Plain → ℕ → ℕ → Type 0
Keyed w x key t = (r : Reference) → plain_symbol x ≡ Some r → (key < length w.program.kinds) × (t ≡ w.address key)

abbrev pub IsNoJump : Plain → Type 0
IsNoJump (plains.Jump j) = ⊥
IsNoJump _ = Unit {0}

-- a word that is found at an address, of the form of an instruction whose symbol has the address t
abbrev pub ActionsAgree : Type 0
ActionsAgree = (w : World) → Fits w → (live : List Live) (next : ℕ) → Laid w live next →
    (x : Plain) (key t at word : ℕ) → IsNoJump x → writes_reserved (instrs.Plain x) ≡ false → plain_in_range x ≡ true →
    agrees w.layout at (plain_form t x).gap word ≡ true → Keyed w x key t →
    Alike w live next (plain_action x key) (action_of (found_instruction (plain_form t x) word))
