-- Units that are read fit, and a tree is no unit for causes of units alone.
use Rattle.std.proofs.Common.{◌≡◌, ℕ, Bool, true, false, List, [], ◌∷◌, ◌++◌, map, Option, Some, None, Ok, refl, ◌∙◌}
use Rattle.std.specs.Prelude.{codes, is_none, is_some, nat_le, length, if◌then◌else◌}
use Rattle.std.specs.List.{list_all}
use Rattle.std.specs.Option.{option_map_or, option_or}
use Rattle.ordered_tests.specs.Checks.{Check, first_fault}
use Rattle.ordered_tests.proofs.Faults.{first_fault_append}
use Rattle.serde_json.specs.Data.{Data}
use Rattle.serde_json.specs.Find.{as_null}
use Rattle.asm_syntax.specs.declared.instr.Function.{Function}
use Rattle.asm_syntax.specs.declared.unit.Init.{Init}
use Rattle.asm_syntax.specs.declared.unit.Variable.{Variable}
use Rattle.asm_syntax.specs.declared.unit.Width.{Width}
use Rattle.asm_syntax.specs.declared.unit.Sig.{Sig}
use Rattle.asm_syntax.specs.declared.unit.External.{External}
use Rattle.asm_syntax.specs.declared.shape.ShapeError.{ShapeError}
use Rattle.asm_syntax.specs.declared.shape.ShapeError.TheVariants.{WritesReserved, NoLabel, TwoLabels, BadFrame, Empty, BadRange}
use Rattle.asm_syntax.specs.declared.shape.ShapeError.TheVariants.{TooManyArgs, BadBuffer}
use Rattle.limits.specs.declared.TheConstants.{MOST_FUNCTIONS, MOST_VARIABLES, MOST_EXTERNALS, MOST_INSTRUCTIONS, MOST_INIT_ITEMS}
use Rattle.limits.specs.declared.TheConstants.{MOST_VARIABLE_BYTES}
use Rattle.asm_syntax.specs.Sizes.{limited_size}
use Rattle.asm_shapes.specs.Shapes.{function_tests, is_valid_code}
use Rattle.asm_shapes.specs.Signatures.{argument_tests, buffer_tests, is_valid_sig}
use Rattle.asm_shapes.specs.Units.{function_name, variable_name, external_name, are_distinct, table_fits, function_fits, is_alignment}
use Rattle.asm_shapes.specs.Units.{variable_fits, external_fits, unit_fits}
use Rattle.json_tree.specs.declared.fault.Cause.TheVariants.{OutOfRange, Limit}
use Rattle.json_tree.specs.Reading.{◌>>=◌, fail, field, object, boolean, name, or_null, word_of}
use Rattle.json_tree.specs.Arrays.{list}
use Rattle.json_tree.specs.Numbers.{natural}
use Rattle.json_tree.specs.NewNames.{is_taken, new_name, named_list, with_names}
use Rattle.json_tree.specs.Profile.{header}
use Rattle.dump_reader.specs.declared.profile.TheConstants.{NEWEST}
use Rattle.dump_reader.specs.declared.external.TheConstants.{MOST_INDEXED}
use Rattle.dump_reader.specs.Versions.{has_buffers}
use Rattle.dump_reader.specs.Instructions.{instr}
use Rattle.dump_reader.specs.UnitTree.{function, well_shaped, init, contents, alignment, variable, widths, results, arguments, well_passed}
use Rattle.dump_reader.specs.UnitTree.{buffers, well_buffered, signature, external, taken_by_functions, taken_by_both, unit, UnitsFit}
use Rattle.json_tree.proofs.Causes as shares
use Rattle.json_tree.specs.Causes.{FailsBy}
use Rattle.dump_reader.specs.Causes.{is_dump_cause}
use Rattle.dump_reader.proofs.OperandCauses.{shared}
use Rattle.dump_reader.proofs.InitCauses.{of_init}
use Rattle.dump_reader.proofs.BufferCauses.{of_buffers}
use Rattle.dump_reader.proofs.Readings.{Has, any, causes, of_ok, after, after_any, behind, behind_passed, weaken, at_field, Limited}
use Rattle.dump_reader.proofs.Readings.{list_has, fresh, IsNew, AreNew, named_list_has, new_name_has}
use Rattle.dump_reader.proofs.NewNames.{fresh_append, distinct}
use Rattle.dump_reader.proofs.Tables.{instr_fits}

-- ---- functions

shape_passed : (o : Option ShapeError) → Has (λ _. is_none o ≡ true) (well_shaped o)
shape_passed None = refl
shape_passed (Some (WritesReserved i)) = refl
shape_passed (Some (NoLabel i)) = refl
shape_passed (Some (TwoLabels i)) = refl
shape_passed (Some (BadFrame i)) = refl
shape_passed (Some (Empty i)) = refl
shape_passed (Some (BadRange i)) = refl
shape_passed (Some (TooManyArgs i)) = refl
shape_passed (Some (BadBuffer i)) = refl

name_is_new : (taken : List (List ℕ)) (d : Data) → Has (λ n. is_taken taken n ≡ false) (field (codes "name") (new_name taken) d)
name_is_new taken d = at_field (λ n. is_taken taken n ≡ false) (codes "name") (new_name taken) d (new_name_has taken)

function_has : (taken : List (List ℕ)) (d : Data) → Has (IsNew function_fits function_name taken) (function taken d)
unfolding function
function_has taken d =
    let P : Function → Type 0 = IsNew function_fits function_name taken in
    behind P (object d) _ (shares.of_object _ shared d) (
    after (λ n. is_taken taken n ≡ false) P (field (codes "name") (new_name taken) d) _ (name_is_new taken d) λ n new.
    after_any P (field (codes "static") boolean d) _ (shares.at_field _ shared (codes "static") boolean d (shares.of_boolean _ shared)) λ s.
    after (Limited MOST_INSTRUCTIONS (λ c.
    list_all table_fits c ≡ true)) P (field (codes "code") (list MOST_INSTRUCTIONS instr) d) _ (at_field _ (codes "code")
    (list MOST_INSTRUCTIONS instr) d (list_has table_fits MOST_INSTRUCTIONS instr instr_fits)) λ c q.
    behind_passed (λ _. is_valid_code c ≡ true) P (well_shaped (first_fault (function_tests c))) _ (shape_passed (first_fault
    (function_tests c))) λ _ valid.
    (rw (q.1, q.0, valid) refl, new))

-- ---- variables

alignment_has : (d : Data) → Has (λ n. is_alignment n ≡ true) (alignment d)
unfolding alignment
alignment_has d = after_any _ (natural 16 d) _ (shares.of_natural _ shared 16 d) λ n. at n (is_alignment n) refl where
  at : (n : ℕ) (b : Bool) → is_alignment n ≡ b → Has (λ n. is_alignment n ≡ true) (if b then Ok n else fail OutOfRange)
  at n true is = is
  at n false is = refl

abbrev Contained : List Init → Type 0
Contained is = (nat_le (length is) MOST_INIT_ITEMS ≡ true) × (is_some (limited_size is) ≡ true)

contents_has : (d : Data) → Has Contained (contents d)
unfolding contents
contents_has d =
    after (Limited MOST_INIT_ITEMS (λ is. list_all (λ _. true) is ≡ true)) Contained (list MOST_INIT_ITEMS init d) _ (list_has (λ _.
    true) MOST_INIT_ITEMS init (λ e. weaken _ _ (λ _ _. refl) (init e) (any (init e) (of_init e))) d) λ is q.
    at is q.1 (is_some (limited_size is)) refl
  where
    at : (is : List Init) → nat_le (length is) MOST_INIT_ITEMS ≡ true → (b : Bool) → is_some (limited_size is) ≡ b
        → Has Contained (if b then Ok is else fail (Limit MOST_VARIABLE_BYTES))
    at is le true fits = (le, fits)
    at is le false fits = refl

variable_has : (taken : List (List ℕ)) (d : Data) → Has (IsNew variable_fits variable_name taken) (variable taken d)
unfolding variable
variable_has taken d =
    let P : Variable → Type 0 = IsNew variable_fits variable_name taken in
    behind P (object d) _ (shares.of_object _ shared d) (
    after (λ n. is_taken taken n ≡ false) P (field (codes "name") (new_name taken) d) _ (name_is_new taken d) λ n new.
    after_any P (field (codes "static") boolean d) _ (shares.at_field _ shared (codes "static") boolean d (shares.of_boolean _ shared)) λ s.
    after_any P (field (codes "writable") boolean d) _ (shares.at_field _ shared (codes "writable") boolean d
    (shares.of_boolean _ shared)) λ w.
    after (λ a. is_alignment a ≡ true) P (field (codes "align") alignment d) _ (at_field _
    (codes "align") alignment d alignment_has) λ a aligned.
    after Contained P (field (codes "init") contents d) _ (at_field _ (codes "init") contents d contents_has) λ is q.
    (rw (aligned, q.0, q.1) refl, new))

-- ---- externals

passed : (o : Option ShapeError) → Has (λ _. is_none o ≡ true) (well_passed o)
passed None = refl
passed (Some e) = refl

abbrev Passes : List (Check ShapeError) → Type 0
Passes tests = is_none (first_fault tests) ≡ true

arguments_has : (d : Data) → Has (λ ws. Passes (argument_tests ws)) (arguments d)
unfolding arguments
arguments_has d =
    let P : List Width → Type 0 = λ ws. Passes (argument_tests ws) in
    after_any P (list MOST_INDEXED (word_of widths) d) _ (shares.of_list _ shared MOST_INDEXED (word_of widths) d
    (shares.of_word _ shared widths)) λ ws.
    behind_passed (λ _. P ws) P (well_passed (first_fault (argument_tests ws))) _ (passed (first_fault (argument_tests ws))) λ _ valid.
    valid

buffers_passed : (o : Option ShapeError) → Has (λ _. is_none o ≡ true) (well_buffered o)
buffers_passed None = refl
buffers_passed (Some e) = refl

both_pass : (before behind : List (Check ShapeError)) → Passes before → Passes behind → Passes (before ++ behind)
both_pass before behind b h = rw (first_fault_append before behind) (at (first_fault before) b) where
  at : (fault : Option ShapeError) → is_none fault ≡ true → is_none (option_or fault (first_fault behind)) ≡ true
  at None b = h
  at (Some e) b = b

signature_has : (buffered : Bool) (d : Data) → Has (λ sig. is_valid_sig sig ≡ true) (signature buffered d)
unfolding signature
signature_has buffered d =
    let P : Sig → Type 0 = λ sig. is_valid_sig sig ≡ true in
    behind P (object d) _ (shares.of_object _ shared d) (
    after (λ ws. Passes (argument_tests ws)) P (field (codes "args") arguments d) _ (at_field _
    (codes "args") arguments d arguments_has) λ ws passing.
    after_any P (field (codes "result") (word_of results) d) _ (shares.at_field _ shared (codes "result") (word_of results) d
    (shares.of_word _ shared results)) λ r.
    after_any P (buffers buffered d) _ (of_buffers buffered d) λ bs.
    behind_passed (λ _. Passes (buffer_tests ws bs)) P (well_buffered (first_fault (buffer_tests ws bs))) _ (buffers_passed (first_fault
    (buffer_tests ws bs))) λ _ fitting.
    both_pass (argument_tests ws) (buffer_tests ws bs) passing fitting)

abbrev SigFits : Option Sig → Type 0
SigFits o = option_map_or is_valid_sig o true ≡ true

optional_has : (buffered : Bool) (d : Data) → Has SigFits (or_null (signature buffered) d)
unfolding or_null
optional_has buffered d = at (is_some (as_null d)) where
  at : (b : Bool) → Has SigFits (if b then Ok None else (signature buffered d >>= λ sig. Ok (Some sig)))
  at true = refl
  at false = after (λ sig. is_valid_sig sig ≡ true) SigFits (signature buffered d) _ (signature_has buffered d) λ sig fits. fits

external_has : (buffered : Bool) (taken : List (List ℕ)) (d : Data)
    → Has (IsNew external_fits external_name taken) (external buffered taken d)
unfolding external
external_has buffered taken d =
    let P : External → Type 0 = IsNew external_fits external_name taken in
    behind P (object d) _ (shares.of_object _ shared d) (
    after (λ n. is_taken taken n ≡ false) P (field (codes "name") (new_name taken) d) _ (name_is_new taken d) λ n new.
    after SigFits P (field (codes "sig") (or_null (signature buffered)) d) _ (at_field SigFits (codes "sig") (or_null
    (signature buffered)) d (optional_has buffered)) λ o fits.
    (fits, new))

-- ---- the whole

all_distinct : (xs ys zs : List (List ℕ)) → fresh [] xs ≡ true → fresh (with_names [] xs) ys ≡ true
    → fresh (with_names (with_names [] xs) ys) zs ≡ true → are_distinct (xs ++ (ys ++ zs)) ≡ true
all_distinct xs ys zs x y z =
    distinct [] (xs ++ (ys ++ zs)) (fresh_append [] xs (ys ++ zs) ∙ rw (x, fresh_append (with_names [] xs) ys zs, y, z) refl)

unit_has : (d : Data) → Has (λ u. unit_fits u ≡ true) (unit d)
unfolding unit
unit_has d =
    after_any _ (header (codes "unit") NEWEST d) _ (shares.of_header _ shared (codes "unit") NEWEST d) λ version.
    after_any _ (field (codes "unit") name d) _ (shares.at_field _ shared (codes "unit") name d (shares.of_name _ shared)) λ n.
    after (Limited MOST_FUNCTIONS (AreNew function_fits function_name [])) _ (field (codes "functions")
    (named_list function_name function [] MOST_FUNCTIONS) d) _ (at_field _ (codes "functions")
    (named_list function_name function [] MOST_FUNCTIONS) d
    (named_list_has function_fits function_name function function_has [] MOST_FUNCTIONS)) λ fs f.
    after (Limited MOST_VARIABLES (AreNew variable_fits variable_name (taken_by_functions fs))) _ (field (codes "variables")
    (named_list variable_name variable (taken_by_functions fs) MOST_VARIABLES) d) _ (at_field _ (codes "variables")
    (named_list variable_name variable (taken_by_functions fs) MOST_VARIABLES) d
    (named_list_has variable_fits variable_name variable variable_has (taken_by_functions fs) MOST_VARIABLES)) λ vs v.
    after (Limited MOST_EXTERNALS (AreNew external_fits external_name (taken_by_both fs vs))) _ (field (codes "externals")
    (named_list external_name (external (has_buffers version)) (taken_by_both fs vs) MOST_EXTERNALS) d) _ (at_field _
    (codes "externals") (named_list external_name (external (has_buffers version)) (taken_by_both fs vs) MOST_EXTERNALS) d
    (named_list_has external_fits external_name (external (has_buffers version)) (external_has (has_buffers version))
    (taken_by_both fs vs) MOST_EXTERNALS)) λ es e.
    rw (
      f.1,
      v.1,
      e.1,
      all_distinct (map function_name fs) (map variable_name vs)
          (map external_name es) f.0.1 v.0.1 e.0.1,
      f.0.0,
      v.0.0,
      e.0.0,
    ) refl

pub units_fit : UnitsFit
units_fit d u is = of_ok (λ u. unit_fits u ≡ true) (unit d) u (unit_has d) is

pub unit_causes : (d : Data) → FailsBy is_dump_cause (unit d)
unit_causes d = causes (λ u. unit_fits u ≡ true) (unit d) (unit_has d)
