-- What the assembly machine reads of a linked program.
use Rattle.std.specs.Prelude.{ℕ, Bool, true, false, ◌&&◌, ◌==◌, List, slice_get, slice_index_or, Option, is_some, unwrap_or}
use Rattle.std.specs.Prelude.{option_and_then}
use Rattle.std.specs.Option.{option_map_or}
use Rattle.asm_syntax.specs.declared.instr.Instr.{Instr}
use Rattle.asm_syntax.specs.declared.unit.Sig.{Sig}
use Rattle.asm_syntax.specs.Instructions.{label_place}
use Rattle.link_model.specs.declared.key.KeyKind.{KeyKind}
use Rattle.asm_mem.specs.declared.value.Val.{Val}
use Rattle.asm_mem.specs.declared.value.Val.TheVariants.{Code, Ext, Stop}

-- the code of a function, and for each instruction the key of the symbol that it names, 0 where it names none
pub record Routine : Type 0 where
  pub code : List Instr
  pub keys : List ℕ

-- the functions, by key what it is and how it is called, and how many variables there are
pub record Linked : Type 0 where
  pub routines : List Routine
  pub kinds : List KeyKind
  pub sigs : List (Option Sig)
  pub variables : ℕ

abbrev pub instruction : Linked → ℕ → ℕ → Option Instr
instruction p f i = option_and_then (λ r. slice_get r.code i) (slice_get p.routines f)

abbrev pub key_at : Linked → ℕ → ℕ → ℕ
key_at p f i = option_map_or (λ r. slice_index_or r.keys i 0) (slice_get p.routines f) 0

-- the place of a label in a function, 0 where it has none
abbrev pub place_of_label : Linked → ℕ → ℕ → ℕ
place_of_label p f label = option_map_or (λ r. unwrap_or (label_place r.code label) 0) (slice_get p.routines f) 0

-- how an external key is called
abbrev pub sig_of : Linked → ℕ → Option Sig
sig_of p key = option_and_then (λ s. s) (slice_get p.sigs key)

-- a place that control may go to: code, an external function with a signature, or the end
abbrev pub is_target : Linked → Val → Bool
is_target p (Code f i) = true
is_target p (Ext key o) = o == 0 && is_some (sig_of p key)
is_target p Stop = true
is_target p _ = false
