-- The dumps among the files of a command.
use Rattle.std.proofs.Common.{◌≡◌, ◌<◌, ◌≤◌, ◌+◌, ℕ, zero, suc, length, Some, refl, ap, ◌∙◌, arith}
use Rattle.std.specs.Prelude.{slice_get}
use Rattle.commands.specs.Files.{dumps_from, file, files}
use Rattle.commands.specs.declared.command.Command.TheVariants.{Check, Run}
use Rattle.commands.specs.declared.file.FileKind.TheVariants.{Dump}

pub length-dumps_from : (place n : ℕ) → length (dumps_from place n) ≡ n
length-dumps_from place zero = refl
length-dumps_from place (suc n) = ap suc (length-dumps_from (place + 1) n)

pub check_count : (units : ℕ) → length (files (Check units)) ≡ units + 2
check_count units = let count = length-dumps_from 3 units in omega arith

pub run_count : (steps units : ℕ) → length (files (Run steps units)) ≡ units + 3
run_count steps units = let count = length-dumps_from 5 units in omega arith

dump_at : (place n k : ℕ) → k < n → slice_get (dumps_from place n) k ≡ Some (file (place + k) Dump)
dump_at place zero k below = absurd (omega arith)
dump_at place (suc n) zero below = let same : place ≡ place + 0 = omega arith in ap (λ p. Some (file p Dump)) same
dump_at place (suc n) (suc k) below =
    let same : place + 1 + k ≡ place + suc k = omega arith in
    dump_at (place + 1) n k (omega arith) ∙ ap (λ p. Some (file p Dump)) same

-- from the third file on
pub dump_after : (units i : ℕ) → 2 ≤ i → i < units + 2 → slice_get (files (Check units)) i ≡ Some (file (i + 1) Dump)
dump_after units zero above below = absurd (omega arith)
dump_after units (suc zero) above below = absurd (omega arith)
dump_after units (suc (suc k)) above below =
    let same : 3 + k ≡ suc (suc k) + 1 = omega arith in
    dump_at 3 units k (omega arith) ∙ ap (λ p. Some (file p Dump)) same

-- from the fourth file of a run on
pub run_dump_after : (steps units i : ℕ) → 3 ≤ i → i < units + 3 → slice_get (files (Run steps units)) i ≡ Some (file (i + 2) Dump)
run_dump_after steps units zero above below = absurd (omega arith)
run_dump_after steps units (suc zero) above below = absurd (omega arith)
run_dump_after steps units (suc (suc zero)) above below = absurd (omega arith)
run_dump_after steps units (suc (suc (suc k))) above below =
    let same : 5 + k ≡ suc (suc (suc k)) + 2 = omega arith in
    dump_at 5 units k (omega arith) ∙ ap (λ p. Some (file p Dump)) same
