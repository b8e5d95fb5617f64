-- Units that are written are read back.
use Rattle.std.proofs.Common.{◌≡◌, ℕ, ◌^◌, ◌≤◌, Bool, true, false, List, [], ◌∷◌, ◌++◌, length, map, Option, Some, None, Result, Ok, refl}
use Rattle.std.proofs.Common.{sym, ap, ◌∙◌, arith}
use Rattle.std.specs.Prelude.{◌&&◌, ◌||◌, not, ◌==◌, nat_le, nat_lt, is_some, if◌then◌else◌}
use Rattle.std.specs.List.{list_all, list_any}
use Rattle.std.proofs.lemmas.Bool.{and_parts, leb-true}
use Rattle.std.proofs.lemmas.Bool.Decides.{nat_tests}
use Rattle.serde_json.specs.Data.{string}
use Rattle.hex.specs.Hex.{encode_lower}
use Rattle.hex.proofs.HexLemmas.{decode_of-encode_lower}
use Rattle.ordered_tests.specs.Checks.{first_fault}
use Rattle.asm_syntax.specs.declared.instr.Instr.{Instr}
use Rattle.asm_syntax.specs.declared.instr.Function.{Function}
use Rattle.asm_syntax.specs.declared.unit.Init.{Init}
use Rattle.asm_syntax.specs.declared.unit.Init.TheVariants as Inits
use Rattle.asm_syntax.specs.declared.unit.Variable.{Variable}
use Rattle.asm_syntax.specs.declared.unit.Width.{Width}
use Rattle.asm_syntax.specs.declared.unit.Width.TheVariants.{Word, Long}
use Rattle.asm_syntax.specs.declared.unit.Size.{Size}
use Rattle.asm_syntax.specs.declared.unit.Size.TheVariants.{Fixed, Arg}
use Rattle.asm_syntax.specs.declared.unit.Buffer.{Buffer}
use Rattle.asm_syntax.specs.declared.unit.Sig.{Sig}
use Rattle.asm_syntax.specs.declared.unit.External.{External}
use Rattle.asm_syntax.specs.declared.unit.Unit.{Unit}
use Rattle.limits.specs.declared.TheConstants.{MOST_FUNCTIONS, MOST_VARIABLES, MOST_EXTERNALS, MOST_INSTRUCTIONS, MOST_INIT_ITEMS}
use Rattle.limits.specs.declared.TheConstants.{MOST_VARIABLE_BYTES, MOST_BUFFERS, MOST_BUFFER_BYTES}
use Rattle.asm_syntax.specs.Names.{is_name}
use Rattle.asm_shapes.specs.Operands.{instr_in_range}
use Rattle.asm_shapes.specs.Shapes.{function_tests, is_valid_code}
use Rattle.asm_shapes.specs.Signatures.{argument_tests, buffer_tests, is_word_argument, size_fits, buffer_fits, is_valid_sig}
use Rattle.asm_syntax.specs.Sizes.{init_size, limited_size}
use Rattle.asm_shapes.specs.Units.{function_name, variable_name, external_name, unit_names, table_fits, function_fits, is_alignment}
use Rattle.asm_shapes.specs.Units.{variable_fits, external_fits, counts_fit, unit_fits, are_distinct, are_apart}
use Rattle.asm_shapes.proofs.NamesLemmas.{distinct_parts}
use Rattle.json_tree.specs.Reading.{field, or_null, stated, word_of}
use Rattle.json_tree.specs.declared.fault.Fault.{Fault}
use Rattle.json_tree.specs.Arrays.{items, list, counted, nth, chosen}
use Rattle.json_tree.specs.NewNames.{is_taken, named_list}
use Rattle.json_tree.specs.Profile as profile
use Rattle.json_tree.specs.Profile.{header}
use Rattle.dump_reader.specs.Words.{allowed_word}
use Rattle.dump_reader.specs.Instructions.{instr}
use Rattle.dump_reader.specs.declared.profile.TheConstants.{NEWEST}
use Rattle.dump_reader.specs.Digits.{digits}
use Rattle.dump_reader.specs.Versions.{has_buffers}
use Rattle.dump_reader.specs.UnitTree.{function, int8, int16, int32, bytes, space, addr, init_operands, init, contents, alignment}
use Rattle.dump_reader.specs.UnitTree.{variable, widths, results, arguments, buffer_words, argument_size, fixed_size, buffer_size, buffer}
use Rattle.dump_reader.specs.UnitTree.{buffers, signature, external, taken_by_functions, taken_by_both, unit}
use Rattle.dump_model.specs.Trees.{unsigned_data, list_data}
use Rattle.dump_model.specs.InstructionTree.{instr_data}
use Rattle.dump_model.specs.UnitTree.{function_data, init_data, variable_data, width_data, result_word, buffer_word, size_data}
use Rattle.dump_model.specs.UnitTree.{buffer_data, sig_data, optional_data, external_data, unit_data}
use Rattle.dump_model.specs.Types.{is_byte, is_address, is_typed_instr, is_typed_function, is_typed_init, is_typed_variable, is_typed_size}
use Rattle.dump_model.specs.Types.{is_typed_buffer, is_typed_sig, is_typed_external, is_typed_unit}
use Rattle.dump_model.specs.Written.{sig_has_buffer, has_buffer, version_of}
use Rattle.dump_model.proofs.Numbers.{natural_back, wrapped_back, word_back, signed32_back, name_back}
use Rattle.dump_model.proofs.Lists.{list_back}
use Rattle.dump_model.proofs.Instructions.{instr_back}
use Rattle.dump_model.proofs.Tests.{none_is, both_all, code_in_range, items_fit, bytes_are, few_arguments, sig_parts, fitting}
use Rattle.dump_model.proofs.Names.{new_name_back, free_of_none, free_of_others, named_list_back}

-- ---- functions

abbrev is_readable : Instr → Bool
is_readable i = is_typed_instr i && instr_in_range i && table_fits i

readable_back : (i : Instr) → is_readable i ≡ true → instr (instr_data i) ≡ Ok i
readable_back i h =
    let parts = and_parts (is_typed_instr i && instr_in_range i) (table_fits i) h in
    let front = and_parts (is_typed_instr i) (instr_in_range i) parts.0 in
    instr_back i front.0 front.1 parts.1

function_back : (taken : List (List ℕ)) (f : Function) → (is_typed_function f && function_fits f) ≡ true
    → is_taken taken (function_name f) ≡ false → function taken (function_data f) ≡ Ok f
unfolding function field
function_back taken f h free =
    let both = and_parts (is_typed_function f) (function_fits f) h in
    let typed = and_parts (is_name f.name) (list_all is_typed_instr f.code) both.0 in
    let fits = and_parts (nat_le (length f.code) MOST_INSTRUCTIONS && list_all table_fits f.code) (is_valid_code f.code) both.1 in
    let sizes = and_parts (nat_le (length f.code) MOST_INSTRUCTIONS) (list_all table_fits f.code) fits.0 in
    let ranges = both_all is_typed_instr instr_in_range f.code typed.1 (code_in_range f.code fits.1) in
    let all = both_all (λ i. is_typed_instr i && instr_in_range i) table_fits f.code ranges sizes.1 in
    rw (
      new_name_back taken f.name typed.0 free,
      list_back instr instr_data is_readable readable_back MOST_INSTRUCTIONS f.code sizes.0 all,
      none_is (first_fault (function_tests f.code)) fits.1,
    ) refl

-- ---- variables

digits_back : (bs : List ℕ) → list_all is_byte bs ≡ true → digits (string (encode_lower bs)) ≡ Ok bs
unfolding digits
digits_back bs h = rw (decode_of-encode_lower bs (bytes_are bs h)) refl

init_back : (i : Init) → (is_typed_init i && nat_le (init_size i) MOST_VARIABLE_BYTES) ≡ true → init (init_data i) ≡ Ok i
unfolding init items chosen allowed_word word_of init_operands int8 int16 int32 bytes space addr counted nth
init_back (Inits.Int8 n) h = let parts = and_parts (is_byte n) _ h in rw (wrapped_back (2 ^ 8) n parts.0) refl
init_back (Inits.Int16 n) h = let parts = and_parts (nat_lt n (2 ^ 16)) _ h in rw (wrapped_back (2 ^ 16) n parts.0) refl
init_back (Inits.Int32 n) h = let parts = and_parts (nat_lt n (2 ^ 32)) _ h in rw (word_back n parts.0) refl
init_back (Inits.Bytes bs) h = let parts = and_parts (list_all is_byte bs) _ h in rw (digits_back bs parts.0) refl
init_back (Inits.Space n) h = rw (natural_back MOST_VARIABLE_BYTES n (leb-true n MOST_VARIABLE_BYTES h)) refl
init_back (Inits.Addr symbol offset) h =
    let both = and_parts (is_address symbol offset) _ h in
    let parts = and_parts (is_name symbol) _ both.0 in
    rw (name_back symbol parts.0, signed32_back offset parts.1) refl

contents_back : (items : List Init) → list_all is_typed_init items ≡ true → nat_le (length items) MOST_INIT_ITEMS ≡ true
    → is_some (limited_size items) ≡ true → contents (list_data init_data items) ≡ Ok items
unfolding contents
contents_back items typed few size =
    let all = both_all is_typed_init (λ item. nat_le (init_size item) MOST_VARIABLE_BYTES) items typed (items_fit items size) in
    rw (list_back init init_data _ init_back MOST_INIT_ITEMS items few all, size) refl

byte_most : (n : ℕ) → is_byte n ≡ true → n ≤ 255
byte_most n h = grind (arith, nat_tests)

alignment_back : (n : ℕ) → is_alignment n ≡ true → alignment (unsigned_data n) ≡ Ok n
unfolding alignment
alignment_back n h = let most : n ≤ 16 = grind (arith, nat_tests) in rw (natural_back 16 n most, h) refl

variable_back : (taken : List (List ℕ)) (v : Variable) → (is_typed_variable v && variable_fits v) ≡ true
    → is_taken taken (variable_name v) ≡ false → variable taken (variable_data v) ≡ Ok v
unfolding variable field
variable_back taken v h free =
    let both = and_parts (is_typed_variable v) (variable_fits v) h in
    let typed = and_parts (is_name v.name) (list_all is_typed_init v.init) both.0 in
    let fits = and_parts (is_alignment v.align && nat_le (length v.init) MOST_INIT_ITEMS) (is_some (limited_size v.init)) both.1 in
    let sizes = and_parts (is_alignment v.align) (nat_le (length v.init) MOST_INIT_ITEMS) fits.0 in
    rw (
      new_name_back taken v.name typed.0 free,
      alignment_back v.align sizes.0,
      contents_back v.init typed.1 sizes.1 fits.1,
    ) refl

-- ---- externals

width_back : (w : Width) → true ≡ true → word_of widths (width_data w) ≡ Ok w
unfolding word_of
width_back Word h = refl
width_back Long h = refl

result_back : (w : Option Width) → word_of results (string (result_word w)) ≡ Ok w
unfolding word_of
result_back None = refl
result_back (Some Word) = refl
result_back (Some Long) = refl

all_true : {X : Type 0} (xs : List X) → list_all (λ x. true) xs ≡ true
all_true [] = refl
all_true (x ∷ xs) = all_true xs

arguments_back : (ws : List Width) → first_fault (argument_tests ws) ≡ None → arguments (list_data width_data ws) ≡ Ok ws
unfolding arguments
arguments_back ws h =
    rw (list_back (word_of widths) width_data (λ w. true) width_back _ ws (few_arguments ws h) (all_true ws), h) refl

size_back : (ws : List Width) (size : Size) → is_typed_size size ≡ true → size_fits ws size ≡ true → buffer_size (size_data size) ≡ Ok size
unfolding buffer_size fixed_size argument_size items chosen counted nth word_of
size_back ws (Fixed n) typed fits = rw (natural_back MOST_BUFFER_BYTES n (leb-true n MOST_BUFFER_BYTES fits)) refl
size_back ws (Arg place) typed fits = let most : place ≤ 255 = grind (arith, nat_tests) in rw (natural_back 255 place most) refl

way_back : (fills : Bool) → word_of buffer_words (string (buffer_word fills)) ≡ Ok fills
unfolding word_of
way_back true = refl
way_back false = refl

buffer_back : (ws : List Width) (b : Buffer) → (is_typed_buffer b && buffer_fits ws b) ≡ true → buffer (buffer_data b) ≡ Ok b
unfolding buffer items chosen counted nth
buffer_back ws b h =
    let both = and_parts (is_typed_buffer b) (buffer_fits ws b) h in
    let typed = and_parts (is_byte b.arg) (is_typed_size b.size) both.0 in
    let fits = and_parts (is_word_argument ws b.arg) (size_fits ws b.size) both.1 in
    let most : b.arg ≤ 255 = byte_most b.arg typed.0 in
    rw (way_back b.fills, natural_back 255 b.arg most, size_back ws b.size typed.1 fits.1) refl

buffers_back : (ws : List Width) (bs : List Buffer) → list_all is_typed_buffer bs ≡ true → first_fault (buffer_tests ws bs) ≡ None
    → list MOST_BUFFERS buffer (list_data buffer_data bs) ≡ Ok bs
buffers_back ws bs typed h =
    let fit = fitting ws bs h in
    list_back buffer buffer_data (λ b. is_typed_buffer b && buffer_fits ws b) (buffer_back ws) MOST_BUFFERS bs fit.0
    (both_all is_typed_buffer (buffer_fits ws) bs typed fit.1)

-- a version that has buffers, or a signature without one
abbrev is_held : Bool → External → Bool
is_held buffered e = buffered || not (has_buffer e)

empty_is : (bs : List Buffer) → not (not (length bs == 0)) ≡ true → bs ≡ []
empty_is [] h = refl
empty_is (b ∷ bs) h = grind (arith, nat_tests)

signature_back : (buffered : Bool) (sig : Sig) → list_all is_typed_buffer sig.buffers ≡ true → is_valid_sig sig ≡ true
    → (buffered || not (sig_has_buffer sig)) ≡ true → signature buffered (sig_data buffered sig) ≡ Ok sig
unfolding signature buffers field
signature_back true sig typed h held =
    let parts = sig_parts sig h in
    rw (arguments_back sig.args parts.0, result_back sig.result, buffers_back sig.args sig.buffers typed parts.1, parts.1) refl
signature_back false sig typed h held =
    let parts = sig_parts sig h in
    let none : [] ≡ sig.buffers = sym (empty_is sig.buffers held) in
    let with : List Buffer → Result Sig Fault = λ bs. Ok (record { args = sig.args; result = sig.result; buffers = bs }) in
    rw (arguments_back sig.args parts.0, result_back sig.result) (ap with none)

optional_back : (buffered : Bool) (name : List ℕ) (sig : Option Sig) → is_typed_sig sig ≡ true
    → external_fits (record { name = name; sig = sig }) ≡ true → is_held buffered (record { name = name; sig = sig }) ≡ true
    → or_null (signature buffered) (optional_data buffered sig) ≡ Ok sig
unfolding or_null
optional_back buffered name None typed h held = refl
optional_back true name (Some sig) typed h held = rw (signature_back true sig typed h held) refl
optional_back false name (Some sig) typed h held = rw (signature_back false sig typed h held) refl

abbrev is_written : Bool → External → Bool
is_written buffered e = is_typed_external e && external_fits e && is_held buffered e

external_back : (buffered : Bool) (taken : List (List ℕ)) (e : External) → is_written buffered e ≡ true
    → is_taken taken (external_name e) ≡ false → external buffered taken (external_data buffered e) ≡ Ok e
unfolding external field
external_back buffered taken e h free =
    let parts = and_parts (is_typed_external e && external_fits e) (is_held buffered e) h in
    let both = and_parts (is_typed_external e) (external_fits e) parts.0 in
    let typed = and_parts (is_name e.name) (is_typed_sig e.sig) both.0 in
    rw (new_name_back taken e.name typed.0 free, optional_back buffered e.name e.sig typed.1 both.1 parts.1) refl

none_held : (es : List External) → list_any has_buffer es ≡ false → list_all (is_held false) es ≡ true
none_held [] h = refl
none_held (e ∷ es) h = at (has_buffer e) (list_any has_buffer es) (list_all (is_held false) es) (none_held es) h where
  at : (has any all : Bool) → (any ≡ false → all ≡ true) → (has || any) ≡ false → (not has && all) ≡ true
  at true any all k h = absurd (cc h)
  at false any all k h = k h

-- a version that is no older than the one for the externals holds them all
all_held : (version : ℕ) (es : List External) → nat_le (if list_any has_buffer es then 2 else 1) version ≡ true
    → list_all (is_held (has_buffers version)) es ≡ true
all_held version es h = at (has_buffers version) refl where
  none : (any : Bool) → nat_le 2 version ≡ false → nat_le (if any then 2 else 1) version ≡ true → any ≡ false
  none true old k = cc
  none false old k = refl

  at : (buffered : Bool) → nat_le 2 version ≡ buffered → list_all (is_held buffered) es ≡ true
  at true is = all_true es
  at false is = none_held es (none (list_any has_buffer es) is h)

at_least_one : (any : Bool) (version : ℕ) → nat_le (if any then 2 else 1) version ≡ true → nat_le 1 version ≡ true
at_least_one true version h = grind (arith, nat_tests)
at_least_one false version h = h

-- ---- the whole

-- a list whose items have their types and fit
abbrev is_sound : {T : Type 0} → (T → Bool) → (T → Bool) → T → Bool
is_sound typed fits x = typed x && fits x

record AreApart (fs : List Function) (vs : List Variable) (es : List External) : Type 0 where
  functions : are_distinct (map function_name fs) ≡ true
  variables : are_distinct (map variable_name vs) ≡ true
  externals : are_distinct (map external_name es) ≡ true
  variables_externals : are_apart (map variable_name vs) (map external_name es) ≡ true
  functions_variables : are_apart (map function_name fs) (map variable_name vs) ≡ true
  functions_externals : are_apart (map function_name fs) (map external_name es) ≡ true

-- the names of a unit, by its three lists
apart_from_distinct : (fs : List Function) (vs : List Variable) (es : List External)
    → are_distinct (map function_name fs ++ (map variable_name vs ++ map external_name es)) ≡ true → AreApart fs vs es
apart_from_distinct fs vs es h =
    let all = sym (distinct_parts (map function_name fs) (map variable_name vs) (map external_name es)) ∙ h in
    let a = and_parts _ (are_apart (map function_name fs) (map external_name es)) all in
    let b = and_parts _ (are_apart (map function_name fs) (map variable_name vs)) a.0 in
    let c = and_parts _ (are_apart (map variable_name vs) (map external_name es)) b.0 in
    let d = and_parts _ (are_distinct (map external_name es)) c.0 in
    let e = and_parts (are_distinct (map function_name fs)) (are_distinct (map variable_name vs)) d.0 in
    record {
      functions = e.0;
      variables = e.1;
      externals = d.1;
      variables_externals = c.1;
      functions_variables = b.1;
      functions_externals = a.1;
    }

module _ (fs : List Function) (vs : List Variable) (es : List External) (apart : AreApart fs vs es) where
  functions_back : nat_le (length fs) MOST_FUNCTIONS ≡ true → list_all is_typed_function fs ≡ true
      → list_all function_fits fs ≡ true
      → named_list function_name function [] MOST_FUNCTIONS (list_data function_data fs) ≡ Ok fs
  functions_back few typed fits =
      named_list_back function_name function function_data (is_sound is_typed_function function_fits) function_back [] MOST_FUNCTIONS fs few
      (both_all is_typed_function function_fits fs typed fits) apart.functions (free_of_none (map function_name fs))

  variables_back : nat_le (length vs) MOST_VARIABLES ≡ true → list_all is_typed_variable vs ≡ true
      → list_all variable_fits vs ≡ true
      → named_list variable_name variable (taken_by_functions fs) MOST_VARIABLES (list_data variable_data vs) ≡ Ok vs
  variables_back few typed fits =
      named_list_back variable_name variable variable_data (is_sound is_typed_variable variable_fits) variable_back
      (taken_by_functions fs) MOST_VARIABLES vs few
      (both_all is_typed_variable variable_fits vs typed fits) apart.variables
      (free_of_others [] (map function_name fs) (map variable_name vs) apart.functions_variables (free_of_none (map variable_name vs)))

  externals_back : (buffered : Bool) → nat_le (length es) MOST_EXTERNALS ≡ true → list_all is_typed_external es ≡ true
      → list_all external_fits es ≡ true → list_all (is_held buffered) es ≡ true
      → named_list external_name (external buffered) (taken_by_both fs vs) MOST_EXTERNALS (list_data (external_data buffered) es) ≡ Ok es
  externals_back buffered few typed fits held =
      named_list_back external_name (external buffered) (external_data buffered) (is_written buffered) (external_back buffered)
      (taken_by_both fs vs) MOST_EXTERNALS es few
      (both_all (λ e. is_typed_external e && external_fits e) (is_held buffered) es
      (both_all is_typed_external external_fits es typed fits) held) apart.externals
      (free_of_others (taken_by_functions fs) (map variable_name vs) (map external_name es) apart.variables_externals
      (free_of_others [] (map function_name fs) (map external_name es) apart.functions_externals (free_of_none (map external_name es))))

pub unit_back : (u : Unit) (version : ℕ) → is_typed_unit u ≡ true → unit_fits u ≡ true → nat_le (version_of u) version ≡ true
    → nat_le version NEWEST ≡ true → unit (unit_data version u) ≡ Ok u
unfolding unit field header stated profile.version
unit_back u version is_typed fitting old new =
    let typed = and_parts _ (list_all is_typed_external u.externals) is_typed in
    let typed_two = and_parts _ (list_all is_typed_variable u.variables) typed.0 in
    let typed_one = and_parts (is_name u.name) (list_all is_typed_function u.functions) typed_two.0 in
    let fits = and_parts _ (list_all external_fits u.externals) fitting in
    let fits_two = and_parts _ (list_all variable_fits u.variables) fits.0 in
    let fits_one = and_parts _ (list_all function_fits u.functions) fits_two.0 in
    let names = and_parts (counts_fit u) (are_distinct (unit_names u)) fits_one.0 in
    let few = and_parts _ (nat_le (length u.externals) MOST_EXTERNALS) names.0 in
    let few_two = and_parts (nat_le (length u.functions) MOST_FUNCTIONS) (nat_le (length u.variables) MOST_VARIABLES) few.0 in
    let apart = apart_from_distinct u.functions u.variables u.externals names.1 in
    rw (
      at_least_one (list_any has_buffer u.externals) version old,
      new,
      name_back u.name typed_one.0,
      functions_back u.functions u.variables u.externals apart few_two.0 typed_one.1 fits_one.1,
      variables_back u.functions u.variables u.externals apart few_two.1 typed_two.1 fits_two.1,
      externals_back u.functions u.variables u.externals apart (has_buffers version) few.1 typed.1 fits.1
          (all_held version u.externals old),
    ) refl

-- ---- versions

pub version_newest : (u : Unit) → nat_le (version_of u) NEWEST ≡ true
version_newest u = at (list_any has_buffer u.externals) where
  at : (any : Bool) → nat_le (if any then 2 else 1) NEWEST ≡ true
  at true = refl
  at false = refl

pub version_itself : (version : ℕ) → nat_le version version ≡ true
version_itself version = grind (arith, nat_tests)

pub ruleset versions = (version_newest, version_itself)
