-- Worked rows of the shapes.
use Rattle.std.proofs.Common.{◌≡◌, ℕ, pos, negsuc, true, false, List, [], ◌∷◌, Option, Some, None, refl}
use Rattle.std.specs.Prelude.{codes}
use Rattle.std.specs.List.{list_all, list_any}
use Rattle.ordered_tests.specs.Checks.{first_fault}
use Rattle.asm_syntax.specs.declared.operations.AluImmOp.TheVariants.{Mulli, Addi, Addis}
use Rattle.asm_syntax.specs.declared.operations.LogOp.TheVariants.{Or}
use Rattle.asm_syntax.specs.declared.operations.RotOp.TheVariants.{Rlwinm}
use Rattle.asm_syntax.specs.declared.operations.LoadOp.TheVariants.{Lwz}
use Rattle.asm_syntax.specs.declared.operations.StoreOp.TheVariants.{Stw}
use Rattle.asm_syntax.specs.declared.operations.CmpOp.TheVariants.{Cmpw}
use Rattle.asm_syntax.specs.declared.operations.CmpImmOp.TheVariants.{Cmpwi, Cmplwi}
use Rattle.asm_syntax.specs.declared.operations.CrBitOp.TheVariants.{Crxor}
use Rattle.asm_syntax.specs.declared.operations.MoveOp.TheVariants.{Mflr, Mtlr}
use Rattle.asm_syntax.specs.declared.instr.Const.TheVariants.{Int, Lo, Ha, Sda}
use Rattle.asm_syntax.specs.declared.instr.Jump.TheVariants.{B, Blr}
use Rattle.asm_syntax.specs.declared.instr.Plain.TheVariants as Plains
use Rattle.asm_syntax.specs.declared.instr.Instr.{Instr}
use Rattle.asm_syntax.specs.declared.instr.Instr.TheVariants.{Plain, AllocFrame, FreeFrame, Bt, Bf, Btbl, MfcrBit, Label, Cfi, Annot}
use Rattle.asm_syntax.specs.declared.shape.ShapeError.{ShapeError}
use Rattle.asm_syntax.specs.declared.shape.ShapeError.TheVariants.{WritesReserved, NoLabel, TwoLabels, BadFrame, Empty, BadRange}
use Rattle.asm_shapes.specs.Shapes.{function_tests}
use Rattle.asm_shapes.specs.Operands.{is_frame_size, instr_in_range}

fault : List Instr → Option ShapeError
fault code = first_fault (function_tests code)

addi : ℕ → ℕ → Instr
addi d a = Plain (Plains.AluImm Addi d a (Int (pos 1)))

blr : Instr
blr = Plain (Plains.Jump Blr)

-- no instruction has words, which is tested before all else
empty : fault [] ≡ Some (Empty 0)
unfolding fault
empty = refl

marks_alone : fault (Label 1 ∷ Cfi ∷ Label 1 ∷ Annot ∷ []) ≡ Some (Empty 0)
unfolding fault
marks_alone = refl

-- r1, r2 and r13, and what reads them alone
stack_pointer : fault (addi 3 1 ∷ addi 1 3 ∷ []) ≡ Some (WritesReserved 1)
unfolding fault addi
stack_pointer = refl

logic_target : fault (Plain (Plains.Log Or 3 2 2) ∷ Plain (Plains.Log Or 2 3 3) ∷ []) ≡ Some (WritesReserved 1)
unfolding fault
logic_target = refl

move_target_row : fault (Plain (Plains.Move Mtlr 1) ∷ Plain (Plains.Store Stw 13 (Int (pos 8)) 1) ∷ Plain (Plains.Move Mflr 13)
    ∷ []) ≡ Some (WritesReserved 2)
unfolding fault
move_target_row = refl

-- labels
missing : fault (blr ∷ Plain (Plains.Jump (B 7)) ∷ []) ≡ Some (NoLabel 1)
unfolding fault blr
missing = refl

missing_in_table : fault (Label 1 ∷ Btbl 4 (1 ∷ 2 ∷ 1 ∷ []) ∷ Label 3 ∷ []) ≡ Some (NoLabel 1)
unfolding fault
missing_in_table = refl

repeated : fault (Label 1 ∷ blr ∷ Label 2 ∷ Label 1 ∷ Bt 2 1 ∷ []) ≡ Some (TwoLabels 3)
unfolding fault blr
repeated = refl

-- frames

frames : fault (AllocFrame 16 ∷ FreeFrame 1048576 ∷ AllocFrame 20 ∷ []) ≡ Some (BadFrame 2)
unfolding fault
frames = refl

small_frame : is_frame_size 8 ≡ false
small_frame = refl

large_frame : is_frame_size 1048584 ≡ false
large_frame = refl

-- the least instruction decides, and there the least number
least_instruction : fault (Bf 32 1 ∷ Label 1 ∷ addi 1 3 ∷ []) ≡ Some (BadRange 0)
unfolding fault addi
least_instruction = refl

least_number : fault (blr ∷ Bf 32 1 ∷ []) ≡ Some (NoLabel 1)
unfolding fault blr
least_number = refl

sound : fault (AllocFrame 16 ∷ Label 1 ∷ addi 12 1 ∷ Bt 31 1 ∷ FreeFrame 16 ∷ blr ∷ []) ≡ None
unfolding fault addi blr
sound = refl

-- operands of the instruction table
inside : list_all instr_in_range (
    Plain (Plains.AluImm Addi 3 4 (Int (negsuc 32767)))
    ∷ Plain (Plains.AluImm Addi 3 4 (Lo (codes "x") (pos 0)))
    ∷ Plain (Plains.AluImm Addi 3 0 (Sda (codes "x") (pos 0)))
    ∷ Plain (Plains.AluImm Addis 3 4 (Ha (codes "x") (pos 0)))
    ∷ Plain (Plains.Load Lwz 3 (Sda (codes "x") (pos 0)) 0)
    ∷ Plain (Plains.CmpImm Cmplwi 7 3 (pos 65535))
    ∷ Plain (Plains.Rot Rlwinm 3 4 31 31 31)
    ∷ Plain (Plains.Srawi 3 4 31)
    ∷ Plain (Plains.Cmp Cmpw 7 3 4)
    ∷ Plain (Plains.CrBit Crxor 31 31 31)
    ∷ Bt 31 1
    ∷ Bf 31 1
    ∷ MfcrBit 3 31
    ∷ []) ≡ true
inside = refl

-- operands outside it
outside : list_any instr_in_range (
    Plain (Plains.AluImm Addi 3 4 (Int (pos 32768)))
    ∷ Plain (Plains.AluImm Addi 3 4 (Ha (codes "x") (pos 0)))
    ∷ Plain (Plains.AluImm Addi 3 13 (Sda (codes "x") (pos 0)))
    ∷ Plain (Plains.AluImm Addis 3 4 (Lo (codes "x") (pos 0)))
    ∷ Plain (Plains.AluImm Mulli 3 4 (Lo (codes "x") (pos 0)))
    ∷ Plain (Plains.Load Lwz 3 (Sda (codes "x") (pos 0)) 2)
    ∷ Plain (Plains.Store Stw 3 (Ha (codes "x") (pos 0)) 4)
    ∷ Plain (Plains.CmpImm Cmpwi 7 3 (pos 32768))
    ∷ Plain (Plains.CmpImm Cmplwi 7 3 (negsuc 0))
    ∷ Plain (Plains.Cmp Cmpw 8 3 4)
    ∷ Plain (Plains.CmpImm Cmpwi 8 3 (pos 0))
    ∷ Plain (Plains.CrBit Crxor 32 31 31)
    ∷ Plain (Plains.CrBit Crxor 31 32 31)
    ∷ Plain (Plains.CrBit Crxor 31 31 32)
    ∷ Plain (Plains.Srawi 3 4 32)
    ∷ Plain (Plains.Rot Rlwinm 3 4 32 31 31)
    ∷ Plain (Plains.Rot Rlwinm 3 4 31 32 31)
    ∷ Plain (Plains.Rot Rlwinm 3 4 31 31 32)
    ∷ Bt 32 1
    ∷ Bf 32 1
    ∷ MfcrBit 3 32
    ∷ []) ≡ false
outside = refl
