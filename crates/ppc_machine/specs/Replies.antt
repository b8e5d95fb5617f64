-- The words that a reply leaves in the registers that a call may change.
use Rattle.std.specs.Prelude.{ℕ, List, [], ◌∷◌, slice_index_or}
use Rattle.asm_syntax.specs.declared.unit.Reply.{Reply}
use Rattle.effect_model.specs.declared.Place.{Place}
use Rattle.effect_model.specs.declared.Place.TheVariants.{Gpr, Bit, Lr, Ctr, Ca, So, Unused}
use Rattle.effect_model.specs.Files.{bit_of}

-- by the number of the general register; a call keeps r1 and r2
abbrev pub reply_gprs : Reply → List ℕ
reply_gprs r =
    r.r0 ∷ 0 ∷ 0 ∷ r.r3 ∷ r.r4 ∷ r.r5 ∷ r.r6 ∷ r.r7 ∷ r.r8 ∷ r.r9 ∷ r.r10 ∷ r.r11 ∷ r.r12 ∷ []

-- the word for a register; the carry and the summary overflow stand in XER
abbrev pub reply_word : Reply → Place → ℕ
reply_word r (Gpr n) = slice_index_or (reply_gprs r) n 0
reply_word r (Bit i) = bit_of r.cr i
reply_word r Lr = r.lr
reply_word r Ctr = r.ctr
reply_word r Ca = bit_of r.xer 2
reply_word r So = bit_of r.xer 0
reply_word r Unused = 0
