-- What maps and tables of numbers are seen as.
use Rattle.std.specs.Prelude.{ℕ, List, map}
use Rattle.std.specs.declared.cmp.Ordering.{Ordering}
use Rattle.std.specs.List.Sorted.{IsStrictlySortedBy}
use Rattle.std.specs.Map.{keys_of}
use Rattle.std.specs.Ordering.{nat_cmp, ordering_then}
use Rattle.asm_program.specs.declared.codes.CodedName.{CodedName}
use Rattle.asm_program.specs.declared.numbers.Row.{Row}
use Rattle.asm_program.specs.Codes.{by_code}

abbrev pub numbered : List ((CodedName × ℕ) × ℕ) → List ((ℕ × List ℕ) × ℕ)
numbered entries = map (λ (e : (CodedName × ℕ) × ℕ). ((e.0.1, e.0.0.name.now), e.1)) entries

abbrev pub row_seen : Row → (ℕ × List ℕ) × ℕ
row_seen r = ((r.scope, r.name.name.now), r.number)

-- by the code of the name, by the name, and then by the scope
abbrev pub by_name : ℕ × List ℕ → ℕ × List ℕ → Ordering
by_name p q = ordering_then (by_code p.1 q.1) (nat_cmp p.0 q.0)

abbrev pub AreInOrder : List ((ℕ × List ℕ) × ℕ) → Type 0
AreInOrder numbers = IsStrictlySortedBy by_name (keys_of numbers)
