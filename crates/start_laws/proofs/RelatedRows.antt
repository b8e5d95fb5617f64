-- The first states that are worked by hand are related, part by part. Of the general case no part is taken. Nothing cites these rows.
use Rattle.std.proofs.Common.{◌≡◌, ℕ, zero, suc, ◌+◌, ◌<◌, inl, ⊎_elim, Bool, true, ◌&&◌, List, [], ◌∷◌, ◌++◌, map, replicate, length}
use Rattle.std.proofs.Common.{Some, refl, sym, ap, ◌∙◌, subst, arith}
use Rattle.std.specs.Prelude.{find, slice_index_or}
use Rattle.std.proofs.lemmas.Bool.{and_parts, cases_eq}
use Rattle.flat_mem.specs.Memory.{is_mapped, may_write}
use Rattle.asm_mem.specs.declared.value.Val.TheVariants.{Undef}
use Rattle.asm_mem.specs.declared.cell.Cell.TheVariants.{Nothing}
use Rattle.asm_mem.specs.Blocks.{Live, has, cell}
use Rattle.asm_machine.specs.Starts as asm
use Rattle.asm_machine.specs.Starts.{root}
use Rattle.machine_model.specs.FlatRuns as flat
use Rattle.machine_model.specs.Worlds.{world_of, home}
use Rattle.machine_model.specs.Fits.{Stacked}
use Rattle.machine_model.specs.Relation.{Means, Both, CellsAgree, FilesAgree, LiveAt, Laid, Same, PlacesAgree, Related}
use Rattle.value_laws.proofs.Lookups.{block_of}
use Rattle.memory_laws.proofs.FrameLaws.{not_newest}
use Rattle.start_laws.proofs.FirstCells.{set_same}
use Rattle.start_laws.proofs.StartRows.{inputs, main_at, junk, stack, world, assembly, image, live, given}

-- ---- registers and places

any : (x : ℕ) → Means world live 1 Undef x
any x = record { named = tt; shows = tt }

any_each : (xs : List ℕ) → Both (Means world live 1) (map (λ (x : ℕ). Undef) xs) xs
any_each [] = tt
any_each (x ∷ xs) = (any x, any_each xs)

-- r2 to r31
abbrev left_in_others : List ℕ
left_in_others = 0x10048000 ∷ replicate 10 0xdeadbeef ++ 0x10038000 ∷ replicate 18 0xdeadbeef

files : FilesAgree world live 1 assembly.file image.file
files = record {
  gprs = (any 0xdeadbeef, (record { named = omega arith; shows = refl }, any_each left_in_others));
  wide = refl;
  bits = any_each image.file.bits;
  bits_wide = refl;
  lr = record { named = tt; shows = refl };
  ctr = any 5;
  ca = any 1;
  so = any 0;
  bases = (refl, refl);
}

place : PlacesAgree world live 1 assembly.place image.pc
place = record { target = refl; means = record { named = (omega arith, omega arith); shows = refl } }

-- ---- the only live block is the root

record IsRoot (b a : ℕ) (k : Live) : Type 0 where
  number : b ≡ 0
  at : a ≡ 0x2000fff0
  block : k ≡ root 0

gone : (b a : ℕ) → home world [] b ≡ Some a → ⊥
gone b a e = cc

look : (b a : ℕ) (k : Live) → LiveAt world live b a k → IsRoot b a k
look b a k l = ⊎_elim here (λ n. absurd (gone b a (sym (not_newest world (root 0) [] b n) ∙ l.home_is))) (cases_eq 0 b)
  where
    here : 0 ≡ b → IsRoot b a k
    here e =
        let h : Some 0x2000fff0 ≡ Some a = subst (λ z. home world live z ≡ Some a) (sym e) l.home_is in
        let f : Some (root 0) ≡ Some k = subst (λ z. find (has z) live ≡ Some k) (sym e) l.block in
        record { number = sym e; at = cc; block = cc }

size : (k : Live) → k ≡ root 0 → length k.cells ≡ 16
size k e = ap (λ (z : Live). length z.cells) e

-- a test of each number below one, computed
abbrev all_below : (ℕ → Bool) → ℕ → Bool
all_below p zero = true
all_below p (suc n) = p n && all_below p n

below : (p : ℕ → Bool) (n o : ℕ) → all_below p n ≡ true → o < n → p o ≡ true
below p zero o h l = absurd (omega arith)
below p (suc n) o h l =
    let b = and_parts (p n) (all_below p n) h in
    ⊎_elim (λ e. subst (λ z. p z ≡ true) e b.0) (λ d. below p n o b.1 (omega arith)) (cases_eq n o)

mapped : (o : ℕ) → o < 16 → is_mapped world.memory (0x2000fff0 + o) ≡ true
mapped o l = below (λ i. is_mapped world.memory (0x2000fff0 + i)) 16 o refl l

open_at : (o : ℕ) → o < 16 → may_write world.memory (0x2000fff0 + o) ≡ true
open_at o l = below (λ i. may_write world.memory (0x2000fff0 + i)) 16 o refl l

laid : Laid world live 1
laid = record {
  fits = omega arith;
  given = omega arith;
  young = λ b h. not_newest world (root 0) [] b (λ e. omega arith);
  ordered = (refl, tt, record { at = λ b a o k l s. absurd (gone b a l.home_is) }, tt);
  variables_live = λ v h. absurd (omega arith);
  apart = λ b c a d o p k l h1 h2 ne s t z. ne ((look b a k h1).number ∙ sym (look c d l h2).number);
  low = λ b a h. (let r = block_of world live b a h in let e = (look b a r.0 r.1).at in omega arith);
  high = λ b a k h. (let r = look b a k h in let e = r.at in let n = size k r.block in omega arith);
  data_at = λ b a o k h s. (let r = look b a k h in let e = r.at in let n = size k r.block in Stacked (omega arith, omega arith));
  mapped = λ b a o k h s. (let r = look b a k h in let n = size k r.block in
      subst (λ z. is_mapped world.memory (z + o) ≡ true) (sym r.at) (mapped o (omega arith)));
  open_at = λ b a o k h s wr. (let r = look b a k h in let n = size k r.block in
      subst (λ z. may_write world.memory (z + o) ≡ true) (sym r.at) (open_at o (omega arith)));
  above = record { at = λ b a o k h s. (let e = (look b a k h).at in inl (omega arith)) };
}

-- ---- memory

blank : (n o : ℕ) → slice_index_or (replicate n Nothing) o Nothing ≡ Nothing
blank zero o = refl
blank (suc n) zero = refl
blank (suc n) (suc o) = blank n o

cells : CellsAgree world live 1 image.mem
cells = record {
  at = λ b a o k h s. (let e : cell k o ≡ Nothing = ap (λ (z : Live). cell z o) (look b a k h).block ∙ blank 16 o in rw e tt);
}

same : Same world image.mem
same = set_same world 1 (0 ∷ 0 ∷ 0 ∷ 0 ∷ []) world.memory 0x2000fff0 (omega arith) (λ i h. Stacked (omega arith, omega arith))
    (record { flags = λ a. refl; bytes = λ a h. refl; full = (λ w. refl, (λ w. refl, tt)) })

-- ---- the whole

related : Related world assembly image
related = record { laid = laid; frame = omega arith; pointer = refl; files = files; cells = cells; same = same; place = place }

-- of the states that the definitions give
by_definition : Related (world_of inputs main_at stack) (asm.first_state inputs.program) (flat.first_state inputs main_at junk stack)
by_definition =
    let g = given in
    subst (λ w. Related w (asm.first_state inputs.program) (flat.first_state inputs main_at junk stack)) (sym g.1)
    (subst (λ s. Related world s (flat.first_state inputs main_at junk stack)) (sym g.2)
    (subst (λ t. Related world assembly t) (sym g.3) related))
