-- The report of a match, and that of the first place that fails.
use Rattle.std.specs.Prelude.{ℕ, List, [], ◌∷◌, ◌++◌, codes, decimal, Option, Some, None}
use Rattle.std.specs.List.{flat_map}
use Rattle.isa_model.specs.Word.{word_digits}
use Rattle.text_model.specs.Lines.{line, lines, address_digits}
use Rattle.asm_syntax.specs.Rules.{rule_number, rule_name}
use Rattle.link_model.specs.declared.owner.Owner.{Owner}
use Rattle.link_model.specs.declared.fault.Fault.{Fault}
use Rattle.link_model.specs.Claims.{Claim}
use Rattle.link_model.specs.Account.{Account}
use Rattle.report_text.specs.Places.{owner_words}

-- ---- a match

abbrev pub counted : List ℕ → ℕ → ℕ → List (List ℕ)
counted name count bytes = name ∷ decimal count ∷ codes "bytes" ∷ decimal bytes ∷ []

abbrev pub amount : List ℕ → ℕ → List (List ℕ)
amount name n = name ∷ decimal n ∷ []

-- what is defined, those of size 0 too
abbrev pub defined_lines : Account → List (List (List ℕ))
defined_lines a =
    counted (codes "functions") a.functions a.function_bytes
    ∷ counted (codes "tables") a.tables a.table_bytes
    ∷ counted (codes "variables") a.variables a.variable_bytes
    ∷ []

abbrev pub amount_lines : Account → List (List (List ℕ))
amount_lines a =
    amount (codes "externals") a.externals
    ∷ amount (codes "padding") a.padding
    ∷ amount (codes "foreign") a.foreign
    ∷ amount (codes "loaded") a.loaded
    ∷ []

abbrev pub count_lines : Account → List (List (List ℕ))
count_lines a = (codes "yes" ∷ []) ∷ (defined_lines a ++ amount_lines a)

-- the addresses of a span, the second of which is not in it, and what it belongs to
abbrev pub span_text : Claim → List ℕ
span_text span = line (address_digits span.range.lo ∷ address_digits span.range.hi ∷ owner_words span.owner)

-- the counts, and then the spans by address
abbrev pub report_text : Account → List ℕ
report_text a = lines (count_lines a) ++ flat_map span_text a.spans

-- ---- a place that fails

abbrev pub other_lines : Option Owner → List (List (List ℕ))
other_lines None = []
other_lines (Some owner) = (codes "with" ∷ owner_words owner) ∷ []

abbrev pub place_lines : Fault → List (List (List ℕ))
place_lines f =
    (codes "no" ∷ [])
    ∷ (codes "rule" ∷ decimal (rule_number f.rule) ∷ rule_name f.rule ∷ [])
    ∷ (codes "place" ∷ f.unit ∷ f.name ∷ word_digits f.offset ∷ [])
    ∷ []

abbrev pub found_lines : Fault → List (List (List ℕ))
found_lines f =
    (codes "item" ∷ decimal f.item ∷ [])
    ∷ (codes "wanted" ∷ word_digits f.wanted ∷ [])
    ∷ (codes "found" ∷ word_digits f.found ∷ [])
    ∷ []

abbrev pub fault_lines : Fault → List (List (List ℕ))
fault_lines f = place_lines f ++ (found_lines f ++ other_lines f.other)

abbrev pub fault_text : Fault → List ℕ
fault_text f = lines (fault_lines f)
