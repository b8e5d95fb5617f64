-- The registers that a call of a function may change. PowerPC EABI, "Register Usage"; r11 and r12, CTR, LR and XER are volatile there.
use Rattle.std.specs.Prelude.{List, [], ◌∷◌}
use Rattle.effect_model.specs.declared.Place.{Place}
use Rattle.effect_model.specs.declared.Place.TheVariants.{Gpr, Bit, Lr, Ctr, Ca, So}
use Rattle.effect_model.specs.Files.{File, put}

-- r0, r3 to r12, CTR, LR, the carry, the summary overflow, and fields 0, 1, 5, 6 and 7 of the condition register
abbrev pub volatile : List Place
volatile =
    Gpr 0 ∷ Gpr 3 ∷ Gpr 4 ∷ Gpr 5 ∷ Gpr 6 ∷ Gpr 7 ∷ Gpr 8 ∷ Gpr 9 ∷ Gpr 10 ∷ Gpr 11 ∷ Gpr 12 ∷ Ctr ∷ Lr ∷ Ca ∷ So
    ∷ Bit 0 ∷ Bit 1 ∷ Bit 2 ∷ Bit 3 ∷ Bit 4 ∷ Bit 5 ∷ Bit 6 ∷ Bit 7
    ∷ Bit 20 ∷ Bit 21 ∷ Bit 22 ∷ Bit 23 ∷ Bit 24 ∷ Bit 25 ∷ Bit 26 ∷ Bit 27 ∷ Bit 28 ∷ Bit 29 ∷ Bit 30 ∷ Bit 31 ∷ []

-- each of these places with its new value
abbrev pub put_each : {A : Type 0} → (Place → A) → List Place → File A → File A
put_each to [] f = f
put_each to (p ∷ ps) f = put_each to ps (put f p (to p))
