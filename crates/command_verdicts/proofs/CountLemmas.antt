-- How many files a command has, and how many steps.
use Rattle.std.proofs.Common.{◌≡◌, ℕ, ◌+◌, ◌≤◌, Bool, true, false, List, [], ◌∷◌, length, Option, Some, None, arith, refl, subst}
use Rattle.std.specs.Prelude.{if◌then◌else◌, nat_le, codes, option_and_then, option_map}
use Rattle.std.specs.List.{list_all}
use Rattle.std.specs.Str.{bytes_eq}
use Rattle.std.proofs.lemmas.Bool.{leb-true}
use Rattle.limits.specs.declared.TheConstants.{MOST_STEPS, MOST_UNITS, MOST_SHOWN_WORDS}
use Rattle.commands.specs.Commands.{is_unit_count, check_of, run_of, show_of, upgrade_of, named, tested, command_of}
use Rattle.commands.specs.Files.{files}
use Rattle.commands.specs.Numbers.{address_of, decimal_of, number_of, up_to}
use Rattle.commands.specs.Words.{is_operand}
use Rattle.commands.proofs.FileLemmas.{check_count, run_count}
use Rattle.commands.specs.declared.command.Command.{Command}
use Rattle.commands.specs.declared.command.Command.TheVariants.{Check, Run, Show, Upgrade}
use Rattle.command_verdicts.specs.Limits.{HasFew}

abbrev IsFew : Command → Type 0
IsFew c = HasFew c (length (files c))

few_units : (n : ℕ) → is_unit_count n ≡ true → IsFew (Check n)
few_units n h = let count = check_count n in grind (arith, h)

by_count : (n : ℕ) (b : Bool) → is_unit_count n ≡ b → (c : Command) → (if b then Some (Check n) else None) ≡ Some c → IsFew c
by_count n true h c e = let same : Check n ≡ c = cc in subst IsFew same (few_units n h)
by_count n false h c e = absurd (cc)

few_check : (operands : List (List ℕ)) (c : Command) → check_of operands ≡ Some c → IsFew c
few_check [] c h = absurd (cc)
few_check (layout ∷ []) c h = absurd (cc)
few_check (layout ∷ image ∷ units) c h = by_count (length units) (is_unit_count (length units)) refl c h

-- ---- runs

steps_of : (text : List ℕ) (n : ℕ) → decimal_of MOST_STEPS text ≡ Some n → n ≤ MOST_STEPS
steps_of text n h = at (number_of 10 10 text) h
  where
    up : (b : Bool) (m : ℕ) → nat_le m MOST_STEPS ≡ b → (if b then Some m else None) ≡ Some n → n ≤ MOST_STEPS
    up true m e g = let same : m ≡ n = cc in let most = leb-true m MOST_STEPS e in omega arith
    up false m e g = absurd (cc)

    at : (o : Option ℕ) → option_and_then (up_to MOST_STEPS) o ≡ Some n → n ≤ MOST_STEPS
    at None g = absurd (cc)
    at (Some m) g = up (nat_le m MOST_STEPS) m refl g

few_steps : (steps n : ℕ) → is_unit_count n ≡ true → steps ≤ MOST_STEPS → IsFew (Run steps n)
few_steps steps n h most = let count = run_count steps n in (grind (arith, h), most)

by_steps : (n : ℕ) (o : Option ℕ) → is_unit_count n ≡ true → ((m : ℕ) → o ≡ Some m → m ≤ MOST_STEPS) → (c : Command)
    → option_map (λ m. Run m n) o ≡ Some c → IsFew c
by_steps n None h most c e = absurd (cc)
by_steps n (Some m) h most c e = let same : Run m n ≡ c = cc in subst IsFew same (few_steps m n h (most m refl))

by_run : (n : ℕ) (o : Option ℕ) (b : Bool) → is_unit_count n ≡ b → ((m : ℕ) → o ≡ Some m → m ≤ MOST_STEPS) → (c : Command)
    → (if b then option_map (λ m. Run m n) o else None) ≡ Some c → IsFew c
by_run n o true h most c e = by_steps n o h most c e
by_run n o false h most c e = absurd (cc)

few_run : (operands : List (List ℕ)) (c : Command) → run_of operands ≡ Some c → IsFew c
few_run [] c h = absurd (cc)
few_run (layout ∷ []) c h = absurd (cc)
few_run (layout ∷ image ∷ []) c h = absurd (cc)
few_run (layout ∷ image ∷ replies ∷ []) c h = absurd (cc)
few_run (layout ∷ image ∷ replies ∷ steps ∷ units) c h =
    by_run (length units) (decimal_of MOST_STEPS steps) (is_unit_count (length units)) refl (steps_of steps) c h

-- ---- the others

by_numbers : (a n : Option ℕ) (c : Command) → option_and_then (λ x. option_map (λ y. Show x y) n) a ≡ Some c → IsFew c
by_numbers None n c h = absurd (cc)
by_numbers (Some a) None c h = absurd (cc)
by_numbers (Some a) (Some n) c h = let same : Show a n ≡ c = cc in subst IsFew same (omega arith)

few_show : (operands : List (List ℕ)) (c : Command) → show_of operands ≡ Some c → IsFew c
few_show [] c h = absurd (cc)
few_show (image ∷ []) c h = absurd (cc)
few_show (image ∷ address ∷ []) c h = absurd (cc)
few_show (image ∷ address ∷ count ∷ []) c h = by_numbers (address_of address) (decimal_of MOST_SHOWN_WORDS count) c h
few_show (image ∷ address ∷ count ∷ more ∷ rest) c h = absurd (cc)

few_upgrade : (operands : List (List ℕ)) (c : Command) → upgrade_of operands ≡ Some c → IsFew c
few_upgrade [] c h = absurd (cc)
few_upgrade (unit ∷ []) c h = let same : Upgrade ≡ c = cc in subst IsFew same (omega arith)
few_upgrade (unit ∷ more ∷ rest) c h = absurd (cc)

abbrev AreFew : Option Command → Type 0
AreFew o = (c : Command) → o ≡ Some c → IsFew c

either : (p : Bool) (x y : Option Command) → AreFew x → AreFew y → AreFew (if p then x else y)
either true x y few_x few_y c h = few_x c h
either false x y few_x few_y c h = few_y c h

none : AreFew None
none c h = absurd (cc)

few_named : (name : List ℕ) (operands : List (List ℕ)) → AreFew (named name operands)
unfolding named
few_named name operands =
    let upgrade = either (bytes_eq name (codes "upgrade")) (upgrade_of operands) None (few_upgrade operands) none in
    let show = either (bytes_eq name (codes "show")) (show_of operands) _ (few_show operands) upgrade in
    let run = either (bytes_eq name (codes "run")) (run_of operands) _ (few_run operands) show in
    either (bytes_eq name (codes "check")) (check_of operands) _ (few_check operands) run

if_tested : (b : Bool) (o : Option Command) → AreFew o → AreFew (if b then o else None)
if_tested true o few c h = few c h
if_tested false o few c h = absurd (cc)

few_tested : (name : List ℕ) (operands : List (List ℕ)) → AreFew (tested name operands)
unfolding tested
few_tested name operands = if_tested (list_all is_operand operands) (named name operands) (few_named name operands)

pub few_files : (words : List (List ℕ)) (c : Command) → command_of words ≡ Some c → HasFew c (length (files c))
few_files [] c h = absurd (cc)
few_files (name ∷ operands) c h = few_tested name operands c h
