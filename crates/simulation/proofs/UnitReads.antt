-- Units that are read one after another, by a loop.
use Rattle.std.proofs.Common.{◌≡◌, ℕ, zero, suc, ◌+◌, ◌<◌, ◌≤◌, List, [], ◌∷◌, ◌++◌, length, drop, get_or, Ok, Err, Result, Option, Some}
use Rattle.std.proofs.Common.{None, refl, sym, ap, ◌∙◌, arith, append_assoc}
use Rattle.std.specs.Prelude.{Vec}
use Rattle.std.specs.Global.{Global}
use Rattle.std.proofs.lemmas.List.{at_drop_more}
use Rattle.ordered_tests.specs.Steps.{◌>>=◌}
use Rattle.asm_syntax.specs.declared.unit.Unit as syntax
use Rattle.dump_reader.specs.DumpFile.{unit_file}
use Rattle.judge_model.specs.Refused.{Refused, OfUnit, told}
use Rattle.judge_model.specs.Judge.{or_refused, units_in}
use Rattle.simulation.specs.declared.judge.JudgeError.{JudgeError}
use Rattle.simulation.specs.declared.judge.JudgeError.TheVariants.{Refused as Refusing, No, Memory}
use Rattle.simulation.specs.Judged.{contents, Tells, IsRefusedBy}
use Rattle.simulation.specs.Units.{behind}

-- the unit with number u is read first
read_at : (u : ℕ) (bytes : List ℕ) (more : List (List ℕ)) → units_in u (bytes ∷ more)
    ≡ (or_refused (OfUnit u) (unit_file bytes) >>= (λ unit. units_in (u + 1) more >>= (λ units. Ok (unit ∷ units))))
unfolding units_in
read_at u bytes more = refl

behind_one : (before : List syntax.Unit) (unit : syntax.Unit) (r : Result (List syntax.Unit) Refused)
    → behind (before ++ unit ∷ []) r ≡ behind before (r >>= (λ units. Ok (unit ∷ units)))
behind_one before unit (Ok units) = ap Ok (append_assoc before (unit ∷ []) units)
behind_one before unit (Err x) = refl

behind_read : (before : List syntax.Unit) (unit : syntax.Unit) (u : ℕ) (more : List (List ℕ)) (r : Result syntax.Unit Refused) → r ≡ Ok unit
    → behind (before ++ unit ∷ []) (units_in (u + 1) more)
    ≡ behind before (r >>= (λ unit. units_in (u + 1) more >>= (λ units. Ok (unit ∷ units))))
behind_read before unit u more r h = rw h (behind_one before unit (units_in (u + 1) more))

pub more_units : (before : List syntax.Unit) (files : List (Vec ℕ Global)) (u : ℕ) (d : Vec ℕ Global) (unit : syntax.Unit)
    (total : Result (List syntax.Unit) Refused) → u < length files
    → or_refused (OfUnit u) (unit_file (get_or files u d).items) ≡ Ok unit
    → behind before (units_in u (contents (drop u files))) ≡ total
    → behind (before ++ unit ∷ []) (units_in (u + 1) (contents (drop (u + 1) files))) ≡ total
more_units before files u d unit total lt h e =
    let more = contents (drop (u + 1) files) in
    behind_read before unit u more (or_refused (OfUnit u) (unit_file (get_or files u d).items)) h
    ∙ (ap (behind before) (sym (read_at u (get_or files u d).items more))
    ∙ (sym (at_drop_more (λ fs. behind before (units_in u (contents fs))) files u d lt) ∙ e))

refused_here : (before : List syntax.Unit) (o : Option Refused) (r : Result syntax.Unit Refused)
    (next : syntax.Unit → Result (List syntax.Unit) Refused) (total : Result (List syntax.Unit) Refused)
    → Tells o r → behind before (r >>= next) ≡ total → Tells o total
refused_here before None r next total t e = absurd t
refused_here before (Some x) r next total t e = sym e ∙ rw t refl

refused_units : (before : List syntax.Unit) (j : JudgeError) (r : Result syntax.Unit Refused)
    (next : syntax.Unit → Result (List syntax.Unit) Refused) (total : Result (List syntax.Unit) Refused)
    → IsRefusedBy r j → behind before (r >>= next) ≡ total → IsRefusedBy total j
refused_units before (Refusing r) due next total t e = refused_here before (told r) due next total t e
refused_units before (No f) due next total t e = absurd t
refused_units before Memory due next total t e = tt

pub unit_refused : (before : List syntax.Unit) (files : List (Vec ℕ Global)) (u : ℕ) (d : Vec ℕ Global) (j : JudgeError)
    (total : Result (List syntax.Unit) Refused) → u < length files
    → IsRefusedBy (or_refused (OfUnit u) (unit_file (get_or files u d).items)) j
    → behind before (units_in u (contents (drop u files))) ≡ total
    → IsRefusedBy total j
unit_refused before files u d j total lt t e =
    let more = contents (drop (u + 1) files) in
    refused_units before j _ _ total t
    (ap (behind before) (sym (read_at u (get_or files u d).items more))
    ∙ (sym (at_drop_more (λ fs. behind before (units_in u (contents fs))) files u d lt) ∙ e))

drop_none : {X : Type 0} (xs : List X) (n : ℕ) → length xs ≤ n → drop n xs ≡ []
drop_none [] zero h = refl
drop_none [] (suc n) h = refl
drop_none (x ∷ xs) zero h = absurd (omega arith)
drop_none (x ∷ xs) (suc n) h = drop_none xs n (omega arith)

append_none : {X : Type 0} (xs : List X) → xs ++ [] ≡ xs
append_none [] = refl
append_none (x ∷ xs) = ap (λ ys. x ∷ ys) (append_none xs)

none_left : (u : ℕ) → units_in u [] ≡ Ok []
unfolding units_in
none_left u = refl

pub all_units : (before : List syntax.Unit) (files : List (Vec ℕ Global)) (u : ℕ) (total : Result (List syntax.Unit) Refused)
    → length files ≤ u → behind before (units_in u (contents (drop u files))) ≡ total → total ≡ Ok before
all_units before files u total h e =
    sym e ∙ (ap (λ fs. behind before (units_in u (contents fs))) (drop_none files u h)
    ∙ (ap (behind before) (none_left u) ∙ ap Ok (append_none before)))
