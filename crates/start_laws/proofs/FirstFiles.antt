-- The registers at first: none of the assembly's holds a value but r1 and LR.
use Rattle.std.proofs.Common.{◌≡◌, ℕ, zero, suc, ◌+◌, ◌-◌, ◌<◌, ◌≤◌, List, [], ◌∷◌, length, replicate, Option, Some, None, option_map}
use Rattle.std.proofs.Common.{refl, sym, ap, ◌∙◌, subst, arith, length-set, get_or-set_other, get_or-set_same}
use Rattle.std.specs.Prelude.{slice_set}
use Rattle.isa_model.specs.Word.{wrapped}
use Rattle.layout_model.specs.Layouts.{Layout}
use Rattle.effect_model.specs.declared.Place.TheVariants.{Gpr, Bit, Lr}
use Rattle.effect_model.specs.Files.{File, get, put, put_bits, bit_of}
use Rattle.ppc_machine.specs.declared.cpu.Junk.{Junk}
use Rattle.ppc_machine.specs.Starts as flat
use Rattle.ppc_machine.specs.Starts.{root_of, file_of}
use Rattle.asm_mem.specs.declared.value.Val.{Val}
use Rattle.asm_mem.specs.declared.value.Val.TheVariants.{Undef, Ptr, Stop}
use Rattle.asm_mem.specs.Blocks.{Live}
use Rattle.asm_machine.specs.Starts.{first_file}
use Rattle.machine_model.specs.Worlds.{World, variables_in, home}
use Rattle.machine_model.specs.Relation.{Means, Shows, Both, FilesAgree}
use Rattle.value_laws.proofs.Both.{both_set}

-- the bits of the condition register are put one by one
record Bits (f : File ℕ) (g : File ℕ) : Type 0 where
  gprs : g.gprs ≡ f.gprs
  bits : length g.bits ≡ length f.bits
  lr : g.lr ≡ f.lr

bits_put : (f : File ℕ) (w i n : ℕ) → Bits f (put_bits f w i n)
bits_put f w i zero = record { gprs = refl; bits = refl; lr = refl }
bits_put f w i (suc n) =
    let r = bits_put f w i n in
    record { gprs = r.gprs; bits = length-set (put_bits f w i n).bits (i + n) (bit_of w (i + n)) ∙ r.bits; lr = r.lr }

module _ (w : World) (live : List Live) (next : ℕ) where
  none_mean : (xs : List ℕ) (n : ℕ) → length xs ≡ n → Both (Means w live next) (replicate n Undef) xs
  none_mean [] zero h = tt
  none_mean (x ∷ xs) (suc n) h = (record { named = tt; shows = tt }, none_mean xs n (omega arith))
  none_mean [] (suc n) h = absurd (omega arith)
  none_mean (x ∷ xs) zero h = absurd (omega arith)

  pub first_files : (junk : Junk) → length junk.regs ≡ 32 → variables_in w < next → home w live (variables_in w) ≡ Some (root_of w.layout)
      → w.layout.stack.hi ≤ 0xfffffff0 → FilesAgree w live next (first_file (variables_in w)) (flat.first_file w.layout junk)
  first_files junk wide known here top =
      let a = root_of w.layout in
      let b : File ℕ = record {
        gprs = slice_set (slice_set (slice_set junk.regs 1 (root_of w.layout)) 2 w.layout.r2) 13 w.layout.r13;
        bits = replicate 32 0;
        lr = w.layout.stop;
        ctr = junk.ctr;
        ca = bit_of junk.xer 2;
        so = bit_of junk.xer 0;
      } in
      let p = bits_put b junk.cr 0 32 in
      let none : (x : ℕ) → Means w live next Undef x = λ x. record { named = tt; shows = tt } in
      let q : a ≡ wrapped (a + 0) = omega arith in
      let m : Means w live next (Ptr (variables_in w) 0) a =
      record { named = known; shows = subst (λ h. Shows (option_map (λ z. wrapped (z + 0)) h) a) (sym here) q } in
      let g1 = both_set (Means w live next) (replicate 32 Undef) junk.regs (Ptr (variables_in w) 0) a m (none_mean junk.regs 32 wide) 1 in
      let g2 = both_set (Means w live next) (slice_set (replicate 32 Undef) 1 (Ptr (variables_in w) 0))
      (slice_set junk.regs 1 (root_of w.layout)) Undef w.layout.r2 (none w.layout.r2) g1 2 in
      let g3 = both_set (Means w live next) (slice_set (slice_set (replicate 32 Undef) 1 (Ptr (variables_in w) 0)) 2 Undef)
      (slice_set (slice_set junk.regs 1 (root_of w.layout)) 2 w.layout.r2) Undef w.layout.r13 (none w.layout.r13) g2 13 in
      let l1 = length-set junk.regs 1 a in
      let l2 = length-set (slice_set junk.regs 1 a) 2 w.layout.r2 in
      let l3 = length-set (slice_set (slice_set junk.regs 1 a) 2 w.layout.r2) 13 w.layout.r13 in
      let r2 = get_or-set_other (slice_set (slice_set junk.regs 1 a) 2 w.layout.r2) 13 2 w.layout.r13 0 (λ e. omega arith)
      ∙ get_or-set_same (slice_set junk.regs 1 a) 2 w.layout.r2 0 (omega arith) in
      let r13 = get_or-set_same (slice_set (slice_set junk.regs 1 a) 2 w.layout.r2) 13 w.layout.r13 0 (omega arith) in
      let bits = p.bits in
      record {
        gprs = subst (λ l. Both (Means w live next) (first_file (variables_in w)).gprs l) (sym p.gprs) g3;
        wide = ap length p.gprs ∙ l3 ∙ l2 ∙ l1 ∙ wide;
        bits = none_mean (put_bits b junk.cr 0 32).bits 32 bits;
        bits_wide = bits;
        lr = record { named = tt; shows = p.lr };
        ctr = none _;
        ca = none _;
        so = none _;
        bases = (
          ap (λ l. get 0 (record b { gprs = l }) (Gpr 2)) p.gprs ∙ r2,
          ap (λ l. get 0 (record b { gprs = l }) (Gpr 13)) p.gprs
              ∙ r13,
        );
      }
