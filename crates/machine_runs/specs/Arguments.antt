-- The words of arguments. Only words, pointers into live blocks, first instructions of functions and externals are handed over.
use Rattle.std.specs.Prelude.{ℕ, ◌+◌, ◌-◌, List, [], ◌∷◌, length, slice_index_or, Option, option_map, unwrap_or}
use Rattle.isa_model.specs.Word.{wrapped}
use Rattle.limits.specs.declared.TheConstants.{LEAST_FRAME_BYTES}
use Rattle.layout_model.specs.Layouts.{Layout}
use Rattle.asm_syntax.specs.declared.unit.Unit.{Unit}
use Rattle.link_model.specs.declared.key.KeyKind.{KeyKind}
use Rattle.link_model.specs.declared.key.KeyKind.TheVariants as kinds
use Rattle.link_model.specs.Binding.{key_address}
use Rattle.link_model.specs.Numbers.{key_of, variables}
use Rattle.asm_mem.specs.declared.value.Val.{Val}
use Rattle.asm_mem.specs.declared.value.Val.TheVariants.{Undef, Int, Ptr, Code, Ext}
use Rattle.asm_mem.specs.Blocks.{Live}
use Rattle.asm_step.specs.declared.answer.AsmEvent.{AsmEvent}
use Rattle.asm_machine.specs.declared.machine.Home.{Home}
use Rattle.asm_machine.specs.declared.machine.Home.TheVariants as homes
use Rattle.asm_machine.specs.Stacks.{home}
use Rattle.ppc_machine.specs.declared.externals.Event.{Event}
use Rattle.machine_model.specs.Worlds.{address_of_key}

-- of the key of a kind and a number
abbrev pub kind_address : List Unit → List ℕ → KeyKind → ℕ
kind_address units bs kind = address_of_key bs (key_of units kind)

-- of a live block: a variable, or a frame below the root
abbrev pub home_address : Layout → List Unit → List ℕ → Home → ℕ
home_address layout units bs (homes.Variable v) = kind_address units bs (kinds.Variable v)
home_address layout units bs (homes.Frame n) = layout.stack.hi - LEAST_FRAME_BYTES - n

-- of an offset in a block, where these blocks live
abbrev pub pointer_address : Layout → List Unit → List ℕ → List Live → ℕ → ℕ → Option ℕ
pointer_address layout units bs live b o =
    option_map (λ h. wrapped (home_address layout units bs h + o)) (home (length (variables units)) b live)

-- 0 where a value is no argument
abbrev pub argument_word : Layout → List Unit → List ℕ → List Live → Val → ℕ
argument_word layout units bs live (Int n) = n
argument_word layout units bs live (Ptr b o) = unwrap_or (pointer_address layout units bs live b o) 0
argument_word layout units bs live (Code f i) = kind_address units bs (kinds.Function f)
argument_word layout units bs live (Ext key o) = wrapped (key_address bs key + o)
argument_word layout units bs live _ = 0

-- with a word for each of the eight values
abbrev pub argument_event : (Val → ℕ) → AsmEvent → Event
argument_event word e =
    let w = λ (i : ℕ). word (slice_index_or e.vals i Undef) in
    record { number = e.number; count = e.count; words = w 0 ∷ w 1 ∷ w 2 ∷ w 3 ∷ w 4 ∷ w 5 ∷ w 6 ∷ w 7 ∷ [] }
