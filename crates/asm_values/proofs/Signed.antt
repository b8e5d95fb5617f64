-- A half that is loaded and then sign-extended.
use Rattle.std.proofs.Common.{◌≡◌, ℕ, Bool, true, false, List, Option, Some, None, refl, ap}
use Rattle.std.specs.Prelude.{find, option_and_then}
use Rattle.isa_model.specs.Word.{sext16}
use Rattle.effect_model.specs.declared.Form.TheVariants.{SignedHalf}
use Rattle.asm_mem.specs.declared.value.Val.{Val}
use Rattle.asm_mem.specs.declared.value.Val.TheVariants.{Undef, Int, Ptr, Code, Ext, Stop, Ha}
use Rattle.asm_mem.specs.Blocks.{Live, has, load, may_read, read_block, value_at}
use Rattle.asm_values.specs.Accesses.{changed, load_by, read_by}

block_some : (k : Live) (o : ℕ) (v : Val) → read_block k 2 o ≡ Some v → read_by SignedHalf o k ≡ Some (changed sext16 v)
block_some k o v h = at (may_read k 2 o) refl
  where
    at : (t : Bool) → may_read k 2 o ≡ t → read_by SignedHalf o k ≡ Some (changed sext16 v)
    at true e = let q : Some (value_at k 2 o) ≡ Some v = rw e at h in
        let r : value_at k 2 o ≡ v = cc in rw e (ap (λ (u : Val). Some (changed sext16 u)) r)
    at false e = let q : None ≡ Some v = rw e at h in cc

block_none : (k : Live) (o : ℕ) → read_block k 2 o ≡ None → read_by SignedHalf o k ≡ None
block_none k o h = at (may_read k 2 o) refl
  where
    at : (t : Bool) → may_read k 2 o ≡ t → read_by SignedHalf o k ≡ None
    at true e = let q : Some (value_at k 2 o) ≡ None = rw e at h in cc
    at false e = rw e refl

found_some : (k : Option Live) (o : ℕ) (v : Val) → option_and_then (λ j. read_block j 2 o) k ≡ Some v
    → option_and_then (read_by SignedHalf o) k ≡ Some (changed sext16 v)
found_some None o v h = cc
found_some (Some k) o v h = block_some k o v h

found_none : (k : Option Live) (o : ℕ) → option_and_then (λ j. read_block j 2 o) k ≡ None → option_and_then (read_by SignedHalf o) k ≡ None
found_none None o h = refl
found_none (Some k) o h = block_none k o h

pub signed_some : (live : List Live) (at v : Val) → load live 2 at ≡ Some v → load_by live SignedHalf at ≡ Some (changed sext16 v)
signed_some live (Ptr b o) v h = found_some (find (has b) live) o v h
signed_some live Undef v h = cc
signed_some live (Int n) v h = cc
signed_some live (Code f i) v h = cc
signed_some live (Ext k o) v h = cc
signed_some live Stop v h = cc
signed_some live (Ha k o n) v h = cc

pub signed_none : (live : List Live) (at : Val) → load live 2 at ≡ None → load_by live SignedHalf at ≡ None
signed_none live (Ptr b o) h = found_none (find (has b) live) o h
signed_none live Undef h = refl
signed_none live (Int n) h = refl
signed_none live (Code f i) h = refl
signed_none live (Ext k o) h = refl
signed_none live Stop h = refl
signed_none live (Ha k o n) h = refl
