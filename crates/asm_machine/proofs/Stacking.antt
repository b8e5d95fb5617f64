-- Frames on the root on the variables: how many cells they have, and where a block is among them.
use Rattle.std.proofs.Common.{◌≡◌, ℕ, ◌+◌, ◌-◌, ◌<◌, ◌≤◌, Bool, true, false, List, [], ◌∷◌, Some, None, refl, ap, sym, ◌∙◌, arith}
use Rattle.std.specs.Prelude.{nat_lt, find, is_some, if◌then◌else◌, cond}
use Rattle.std.proofs.lemmas.Bool.{eqb-true, le-ltb, lt-ltb, ltb-false}
use Rattle.asm_mem.specs.Blocks.{Live, has, total, total_from}
use Rattle.asm_mem.specs.Order.{Below}
use Rattle.asm_machine.specs.declared.machine.Home.TheVariants as homes
use Rattle.asm_machine.specs.Stacks.{IsStack, Root, Frame, frames, frame_cells, from_block, home, home_in}

-- ---- how many cells

frames_below : (v : ℕ) (ks : List Live) → Below v ks → frames v ks ≡ []
frames_below v [] h = refl
frames_below v (k ∷ ks) h = rw (le-ltb v k.number (omega arith)) (frames_below v ks h.1)

pub stack_total : (v base : ℕ) (live : List Live) → IsStack v base live → total live ≡ base + frame_cells v live
stack_total v base live (Root k ks e below sum) = rw (le-ltb v k.number (omega arith), frames_below v ks below) (omega arith)
stack_total v base live (Frame k ks h rest) = let r = stack_total v base ks rest in rw (lt-ltb v k.number h) (omega arith)

-- ---- where a block is

none_found : (b : ℕ) (live : List Live) → total_from b live ≡ None → is_some (find (has b) live) ≡ false
none_found b [] h = refl
none_found b (k ∷ ks) h = at (has b k) h (none_found b ks)
  where
    at : (t : Bool) → (if t then Some (total (k ∷ ks)) else total_from b ks) ≡ None
        → (total_from b ks ≡ None → is_some (find (has b) ks) ≡ false)
        → is_some (cond t (Some k) (find (has b) ks)) ≡ false
    at true e r = absurd (cc)
    at false e r = r e

one_found : (b n : ℕ) (live : List Live) → total_from b live ≡ Some n → is_some (find (has b) live) ≡ true
one_found b n [] h = absurd (cc)
one_found b n (k ∷ ks) h = at (has b k) h (one_found b n ks)
  where
    at : (t : Bool) → (if t then Some (total (k ∷ ks)) else total_from b ks) ≡ Some n
        → (total_from b ks ≡ Some n → is_some (find (has b) ks) ≡ true)
        → is_some (cond t (Some k) (find (has b) ks)) ≡ true
    at true e r = refl
    at false e r = r e

none_below : (v b : ℕ) (ks : List Live) → v ≤ b → Below v ks → total_from b ks ≡ None
none_below v b [] h w = refl
none_below v b (k ∷ ks) h w = at (has b k) refl (none_below v b ks h w.1)
  where
    at : (t : Bool) → has b k ≡ t → total_from b ks ≡ None → (if t then Some (total (k ∷ ks)) else total_from b ks) ≡ None
    at true e r = let same = eqb-true k.number b e in absurd (omega arith)
    at false e r = r

cells_here : (v base b n : ℕ) (live : List Live) → IsStack v base live → v ≤ b → total_from b live ≡ Some n
    → n ≡ base + frame_cells v (from_block b live)
cells_here v base b n live (Root k ks e below sum) h is = at (has b k) is
  where
    at : (t : Bool) → (if t then Some (total (k ∷ ks)) else total_from b ks) ≡ Some n
        → n ≡ base + frame_cells v (if t then k ∷ ks else from_block b ks)
    at true q = let m : total (k ∷ ks) ≡ n = cc in sym m ∙ stack_total v base (k ∷ ks) (Root k ks e below sum)
    at false q = let none = none_below v b ks h below in absurd (cc)
cells_here v base b n live (Frame k ks f rest) h is = at (has b k) is (cells_here v base b n ks rest h)
  where
    at : (t : Bool) → (if t then Some (total (k ∷ ks)) else total_from b ks) ≡ Some n
        → (total_from b ks ≡ Some n → n ≡ base + frame_cells v (from_block b ks))
        → n ≡ base + frame_cells v (if t then k ∷ ks else from_block b ks)
    at true q r = let m : total (k ∷ ks) ≡ n = cc in sym m ∙ stack_total v base (k ∷ ks) (Frame k ks f rest)
    at false q r = r q

home_of : (v base b n : ℕ) (live : List Live) → IsStack v base live → total_from b live ≡ Some n
    → home_in v b live ≡ (if nat_lt b v then homes.Variable b else homes.Frame (n - base))
home_of v base b n live s is = at (nat_lt b v) refl
  where
    at : (t : Bool) → nat_lt b v ≡ t → (if t then homes.Variable b else homes.Frame (frame_cells v (from_block b live)))
        ≡ (if t then homes.Variable b else homes.Frame (n - base))
    at true e = refl
    at false e =
        let n-is = cells_here v base b n live s (ltb-false b v e) is in
        let m : frame_cells v (from_block b live) ≡ n - base = omega arith in
        ap homes.Frame m

home_found : (v base b n : ℕ) (live : List Live) → IsStack v base live → total_from b live ≡ Some n
    → home v b live ≡ Some (if nat_lt b v then homes.Variable b else homes.Frame (n - base))
home_found v base b n live s is = rw (one_found b n live is) (ap Some (home_of v base b n live s is))

pub home_variable : (v base b n : ℕ) (live : List Live) → IsStack v base live → total_from b live ≡ Some n → b < v
    → Some (homes.Variable b) ≡ home v b live
home_variable v base b n live s is h =
    let test : nat_lt b v ≡ true = lt-ltb b v h in
    sym (home_found v base b n live s is ∙ rw test refl)

pub home_frame : (v base b n m : ℕ) (live : List Live) → IsStack v base live → total_from b live ≡ Some n → v ≤ b → m ≡ n - base
    → Some (homes.Frame m) ≡ home v b live
home_frame v base b n m live s is h e =
    let test : nat_lt b v ≡ false = le-ltb b v h in
    ap (λ (x : ℕ). Some (homes.Frame x)) e ∙ sym (home_found v base b n live s is ∙ rw test refl)

pub home_none : (v b : ℕ) (live : List Live) → total_from b live ≡ None → home v b live ≡ None
home_none v b live is = rw (none_found b live is) refl
