-- The uses of keys: the instructions and the words of data that refer to them, in functions and variables whose own address is
-- known whatever uses it.
use Rattle.std.specs.Prelude.{ℕ, ◌+◌, ℤ, Bool, false, ◌==◌, List, [], ◌∷◌, ◌++◌, filter, Option, Some, None}
use Rattle.std.specs.List.{flat_map}
use Rattle.std.specs.Option.{option_map_or}
use Rattle.layout_model.specs.Layouts.{Layout}
use Rattle.asm_syntax.specs.declared.instr.Instr.{Instr}
use Rattle.asm_syntax.specs.declared.instr.Instr.TheVariants as instrs
use Rattle.asm_syntax.specs.declared.instr.Plain.{Plain}
use Rattle.asm_syntax.specs.declared.unit.Init.{Init}
use Rattle.asm_syntax.specs.declared.unit.Init.TheVariants.{Addr}
use Rattle.asm_syntax.specs.References.{Reference}
use Rattle.asm_syntax.specs.Instructions.{plain_symbol}
use Rattle.asm_syntax.specs.Sizes.{init_size}
use Rattle.code_model.specs.Fields.{address_plus}
use Rattle.code_model.specs.Forms.{plain_form}
use Rattle.code_model.specs.Spelling as spelling
use Rattle.code_model.specs.Addresses.{loaded_word, address_after}
use Rattle.link_model.specs.Program.{Item, OfFunction, OfVariable, OfExternal, Declaration, keys, resolve}
use Rattle.link_model.specs.Candidates.{Inputs, known_address}

-- what refers to a key: an instruction, or a word of data with an offset
pub data Referrer : Type 0 where
  FromInstr : Plain → Referrer
  FromData : ℤ → Referrer

-- a use: the key that it means, its place, and the word that is found there
pub record Use : Type 0 where
  pub key : Option ℕ
  pub referrer : Referrer
  pub at : ℕ
  pub word : ℕ

abbrev pub use_at : Inputs → ℕ → ℕ → Referrer → List ℕ → Use
use_at g u at referrer n = record {
  key = resolve g.program.units u n;
  referrer = referrer;
  at = at;
  word = loaded_word g.image at;
}

-- ---- in the code of unit u from an address on

abbrev pub plain_uses : Inputs → ℕ → ℕ → Plain → Option Reference → List Use
plain_uses g u at plain (Some r) = use_at g u at (FromInstr plain) r.name ∷ []
plain_uses g u at plain None = []

abbrev pub instr_uses : Inputs → ℕ → ℕ → Instr → List Use
instr_uses g u at (instrs.Plain plain) = plain_uses g u at plain (plain_symbol plain)
instr_uses g u at _ = []

abbrev pub code_uses : Inputs → ℕ → ℕ → List Instr → List Use
code_uses g u at [] = []
code_uses g u at (x ∷ xs) = instr_uses g u at x ++ code_uses g u (address_after g.image at x) xs

-- ---- in the items of a variable of unit u from an address on

abbrev pub init_uses : Inputs → ℕ → ℕ → Init → List Use
init_uses g u at (Addr n offset) = use_at g u at (FromData offset) n ∷ []
init_uses g u at _ = []

abbrev pub data_uses : Inputs → ℕ → ℕ → List Init → List Use
data_uses g u at [] = []
data_uses g u at (i ∷ is) = init_uses g u at i ++ data_uses g u (at + init_size i) is

-- ---- in all keys whose address is known

abbrev pub item_uses : Inputs → ℕ → ℕ → Item → List Use
item_uses g u at (OfFunction f) = code_uses g u at f.code
item_uses g u at (OfVariable x) = data_uses g u at x.init
item_uses g u at (OfExternal x) = []

abbrev pub key_uses : Inputs → Declaration → List Use
key_uses g d = option_map_or (λ at. item_uses g d.unit at d.item) (known_address g d) []

unfoldable pub all_uses : Inputs → List Use
all_uses g = flat_map (key_uses g) (keys g.program.units)

-- those of one key
abbrev pub uses_of : ℕ → List Use → List Use
uses_of k uses = filter (λ u. option_map_or (λ j. j == k) u.key false) uses

-- ---- agreement

-- the word at a place refers to an address: its field for the symbol has the address's value, whatever its other fields are
abbrev pub refers_to : Layout → ℕ → ℕ → Referrer → ℕ → Bool
refers_to l t at (FromInstr plain) w = spelling.agrees l at (plain_form t plain).gap w
refers_to l t at (FromData offset) w = w == address_plus t offset

abbrev pub agrees : Layout → ℕ → Use → Bool
agrees l t u = refers_to l t u.at u.referrer u.word
