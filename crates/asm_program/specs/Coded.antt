-- Names with their codes.
use Rattle.std.specs.Prelude.{ℕ, List, map}
use Rattle.std.specs.declared.cmp.Ordering.{Ordering}
use Rattle.asm_program.specs.Codes.{by_code_and_name}
use Rattle.asm_program.specs.declared.codes.CodedName.{CodedName}

abbrev pub coded_texts : List CodedName → List (List ℕ)
coded_texts names = map (λ (n : CodedName). n.name.now) names

-- by the codes that are kept, and then by the bytes
abbrev pub by_coded : CodedName → CodedName → Ordering
by_coded x y = by_code_and_name x.code x.name.now y.code y.name.now
