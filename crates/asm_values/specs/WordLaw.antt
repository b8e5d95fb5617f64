-- The word law: where an instruction of a word class reads words alone, it does to values what the instruction set has it do to words.
use Rattle.std.specs.Prelude.{◌≡◌, ℕ, Bool, true, false, ◌&&◌, List, length, map, Option, Some, None, is_some}
use Rattle.isa_model.specs.Operands.{is_register}
use Rattle.asm_syntax.specs.declared.instr.Plain.{Plain}
use Rattle.asm_syntax.specs.declared.instr.Plain.TheVariants as plains
use Rattle.effect_model.specs.declared.Effect.{Effect}
use Rattle.effect_model.specs.declared.Effects.TheVariants.{Nothing, One, Two, Three}
use Rattle.effect_model.specs.declared.Action.{Action}
use Rattle.effect_model.specs.declared.Action.TheVariants.{Work, Divide}
use Rattle.effect_model.specs.Meaning.{results}
use Rattle.effect_model.specs.Files.{File, put, word_read, flat_effect, flat_stops}
use Rattle.link_model.specs.declared.key.KeyKind.{KeyKind}
use Rattle.asm_mem.specs.declared.value.Val.{Val}
use Rattle.asm_mem.specs.declared.value.Val.TheVariants.{Undef, Int}
use Rattle.asm_mem.specs.Blocks.{Live}
use Rattle.asm_values.specs.Operands.{word_in}
use Rattle.asm_values.specs.Files.{value_read, asm_all, asm_divided}
use Rattle.asm_values.specs.Actions.{word_action}

-- ---- which instructions

-- every plain instruction but loads, stores and jumps, with a general register where a result is compared. Where a constant is a
-- part of an address, what the instruction reads is no word.
abbrev pub is_word_instruction : Plain → Bool
is_word_instruction (plains.LogImm o a s n) = is_register a
is_word_instruction (plains.Log o a s b) = is_register a
is_word_instruction (plains.Load o d c a) = false
is_word_instruction (plains.LoadX o d a b) = false
is_word_instruction (plains.Store o s c a) = false
is_word_instruction (plains.StoreX o s a b) = false
is_word_instruction (plains.Jump j) = false
is_word_instruction _ = true

-- ---- which registers

-- 32 general registers, and no summary overflow
pub record IsFile (f : File Val) : Type 0 where
  pub gprs : length f.gprs ≡ 32
  pub so : f.so ≡ Undef

-- the words that registers hold, 0 for another value
abbrev pub word_or_zero : Val → ℕ
word_or_zero (Int n) = n
word_or_zero _ = 0

abbrev pub words_of : File Val → File ℕ
words_of f = record {
  gprs = map word_or_zero f.gprs;
  bits = map word_or_zero f.bits;
  lr = word_or_zero f.lr;
  ctr = word_or_zero f.ctr;
  ca = word_or_zero f.ca;
  so = word_or_zero f.so;
}

-- all that an effect reads is a word
abbrev pub effect_reads_words : Effect → File Val → Bool
effect_reads_words e f =
    is_some (word_in (value_read f e.x)) && is_some (word_in (value_read f e.y)) && is_some (word_in (value_read f e.z))

-- so is all that an action reads: after its first effect it reads what that wrote, and SO
abbrev pub reads_words : Action → File Val → Bool
reads_words (Work Nothing) f = true
reads_words (Work (One e)) f = effect_reads_words e f
reads_words (Work (Two e d)) f = effect_reads_words e f
reads_words (Work (Three e d c)) f = effect_reads_words e f
reads_words (Divide e) f = effect_reads_words e f
reads_words _ f = false

-- a division by 0, or of the least signed word by -1
abbrev pub has_no_result : Action → File Val → Bool
has_no_result (Divide e) f = flat_stops e (words_of f)
has_no_result _ f = false

-- ---- what they hold afterwards

-- the words that an effect gives on the words g, in the places of its results
abbrev pub with_words : Effect → File ℕ → File Val → File Val
with_words e g f =
    let r = results e.op (word_read g e.x) (word_read g e.y) (word_read g e.z) in
    put (put (put f e.first (Int r.first)) e.second (Int r.second)) e.third (Int r.third)

-- the words of the instruction set; the last bit of a field that is compared into is no value
abbrev pub with_results : Action → File ℕ → File Val → File Val
with_results (Work Nothing) g f = f
with_results (Work (One e)) g f = with_words e g f
with_results (Work (Two e d)) g f = put (with_words e g f) d.first Undef
with_results (Work (Three e d c)) g f = put (with_words d (flat_effect e g) (with_words e g f)) c.first Undef
with_results (Divide e) g f = with_words e g f
with_results _ g f = f

-- what an action does to registers that hold values, where it is defined and does no more
abbrev pub worked : List KeyKind → List Live → Action → File Val → Option (File Val)
worked kinds live (Work es) f = Some (asm_all kinds live es f)
worked kinds live (Divide e) f = asm_divided kinds live e f
worked kinds live _ f = None

-- ---- the law, for the action that stands in place of an instruction's row

abbrev pub WordLaw : Action → Action → Type 0
WordLaw row action =
    (kinds : List KeyKind) (live : List Live) (f : File Val) → IsFile f → reads_words row f ≡ true → has_no_result row f ≡ false
    → worked kinds live action f ≡ Some (with_results row (words_of f) f)

abbrev pub ObeysWordLaw : Plain → ℕ → Action → Type 0
ObeysWordLaw x key action = is_word_instruction x ≡ true → WordLaw (word_action x key) action
