-- Where the blocks lie at first: the variables at the addresses of their keys, and the root at the end of the stack.
use Rattle.std.proofs.Common.{◌≡◌, ℕ, zero, suc, ◌+◌, ◌-◌, ◌<◌, ◌≤◌, ◌⊎◌, inl, inr, Bool, true, false, ◌&&◌, nat_lt, nat_le, List, [], ◌∷◌}
use Rattle.std.proofs.Common.{length, replicate, Option, Some, None, refl, sym, ap, ap₂, ◌∙◌, subst, arith, ⊎_elim, if◌then◌else◌}
use Rattle.std.proofs.Common.{length-append}
use Rattle.std.specs.Prelude.{◌==◌, find, slice_get, is_some, map}
use Rattle.std.proofs.lemmas.Bool.{eq-eqb, ne_eqb, lt-ltb, le-ltb, cases_eq, cases_lt}
use Rattle.std.proofs.lemmas.List.{length-replicate}
use Rattle.std.specs.Option.{option_map_or}
use Rattle.image_model.specs.Image.{Segment}
use Rattle.image_model.specs.Loaded.{is_writable}
use Rattle.word_ops.specs.Ranges.{holds}
use Rattle.code_model.specs.Variables.{data_range}
use Rattle.asm_syntax.specs.Sizes.{variable_size}
use Rattle.asm_syntax.specs.declared.unit.Variable.{Variable}
use Rattle.flat_mem.specs.Memory.{flags_in, is_mapped, may_write}
use Rattle.asm_mem.specs.Blocks.{Live, has, top, new_block}
use Rattle.link_model.specs.Numbers.{variables}
use Rattle.asm_machine.specs.Stacks.{frame_cells}
use Rattle.asm_machine.specs.Starts.{root}
use Rattle.machine_model.specs.Worlds.{World, home, base, depth, variables_in}
use Rattle.machine_model.specs.Fits.{Fits, InStack, InVariable, Data, Stacked, OfVariable}
use Rattle.machine_model.specs.Relation.{LiveAt, Above, Under, Ordered, Framed, Laid}
use Rattle.value_laws.proofs.Lookups.{block_of}
use Rattle.memory_laws.proofs.BlockLaws.{frames_step}
use Rattle.memory_laws.proofs.FrameLaws.{newest, not_newest, find_older}
use Rattle.start_laws.proofs.Lists.{down}

open_mapped : (o : Option ℕ) → option_map_or is_writable o false ≡ true → is_some o ≡ true
open_mapped None h = cc
open_mapped (Some s) h = refl

-- a variable and its block, in a world
pub record IsBlock (w : World) (v : ℕ) (k : Live) : Type 0 where
  pub number : k.number ≡ v
  pub size : length k.cells ≡ w.variable_size v
  pub some : 1 ≤ w.variable_at v
  pub below : w.variable_at v + w.variable_size v ≤ 0xfffffff0
  pub off_stack : (a : ℕ) → InVariable w v a → InStack w a → ⊥
  pub mapped : (o : ℕ) → o < w.variable_size v → is_mapped w.memory (w.variable_at v + o) ≡ true
  pub open_at : k.writable ≡ true → (o : ℕ) → o < w.variable_size v → may_write w.memory (w.variable_at v + o) ≡ true

module _ (w : World) (ok : Fits w) (f : ℕ → Live) (blocks : (v : ℕ) → v < variables_in w → IsBlock w v (f v))
    (differ : (v u a : ℕ) → InVariable w v a → InVariable w u a → v ≡ u) where
  -- ---- the variables

  no_frames : (m : ℕ) → m ≤ variables_in w → frame_cells (variables_in w) (down f m) ≡ 0
  no_frames zero h = refl
  no_frames (suc m) h =
      let n = (blocks m (omega arith)).number in
      frames_step (variables_in w) (f m) (down f m)
      ∙ ap (λ t. if t then length (f m).cells + frame_cells (variables_in w) (down f m) else frame_cells (variables_in w) (down f m))
      (le-ltb (variables_in w) (f m).number (omega arith))
      ∙ no_frames m (omega arith)

  base_is : (m : ℕ) → m < variables_in w → base w (f m ∷ down f m) ≡ w.variable_at m
  base_is m h =
      let n = (blocks m h).number in
      ap (λ t. if t then w.variable_at (f m).number else w.layout.stack.hi - depth w (f m ∷ down f m))
      (lt-ltb (f m).number (variables_in w) (omega arith))
      ∙ ap w.variable_at n

  found : (m b : ℕ) → m ≤ variables_in w → b < m → LiveAt w (down f m) b (w.variable_at b) (f b)
  found zero b h l = absurd (omega arith)
  found (suc m) b h l = ⊎_elim here (λ n. later n (found m b (omega arith) (below n))) (cases_eq (f m).number b)
    where
      number : (f m).number ≡ m
      number = (blocks m (omega arith)).number

      below : ((f m).number ≡ b → ⊥) → b < m
      below n = let q = number in ⊎_elim (λ z. z) (λ z. absurd (n (omega arith))) (cases_lt b m)

      here : (f m).number ≡ b → LiveAt w (down f (suc m)) b (w.variable_at b) (f b)
      here e =
          let q : m ≡ b = sym number ∙ e in
          let one = newest w (f m) (down f m) in
          subst (λ z. LiveAt w (down f (suc m)) z (w.variable_at z) (f z)) q (record {
            home_is = subst (λ z. home w (down f (suc m)) z ≡ Some (base w (down f (suc m)))) number one.home_is
                ∙ ap Some (base_is m (omega arith));
            block = subst (λ z. find (has z) (down f (suc m)) ≡ Some (f m)) number one.block;
          })

      later : ((f m).number ≡ b → ⊥) → LiveAt w (down f m) b (w.variable_at b) (f b) → LiveAt w (down f (suc m)) b (w.variable_at b) (f b)
      later n r = record { home_is = not_newest w (f m) (down f m) b n ∙ r.home_is; block = find_older w (f m) (down f m) b n ∙ r.block }

  missing : (m b : ℕ) → m ≤ variables_in w → m ≤ b → home w (down f m) b ≡ None
  missing zero b h l = refl
  missing (suc m) b h l =
      let n = (blocks m (omega arith)).number in
      not_newest w (f m) (down f m) b (λ e. omega arith) ∙ missing m b (omega arith) (omega arith)

  -- what is live among the first m variables
  record IsFirst (m b a : ℕ) (k : Live) : Type 0 where
    number : b < m
    at : a ≡ w.variable_at b
    block : k ≡ f b

  first : (m b a : ℕ) (k : Live) → m ≤ variables_in w → LiveAt w (down f m) b a k → IsFirst m b a k
  first m b a k h l =
      ⊎_elim (λ n. same n) (λ n. let e = missing m b h n in let q = l.home_is in absurd (none e q)) (cases_lt b m)
    where
      none : home w (down f m) b ≡ None → home w (down f m) b ≡ Some a → ⊥
      none e q = cc

      same : b < m → IsFirst m b a k
      same n =
          let r = found m b h n in
          let h1 = r.home_is in let h2 = l.home_is in let b1 = r.block in let b2 = l.block in
          record { number = n; at = cc; block = cc }

  in_variable : (b a o : ℕ) (k : Live) → b < variables_in w → a ≡ w.variable_at b → k ≡ f b → o < length k.cells → InVariable w b (a + o)
  in_variable b a o k h e q l =
      let s : length k.cells ≡ w.variable_size b = ap (λ (z : Live). length z.cells) q ∙ (blocks b h).size in
      record { is = h; from = omega arith; below = omega arith }

  off_stack : (b a o : ℕ) (k : Live) → b < variables_in w → a ≡ w.variable_at b → k ≡ f b → o < length k.cells → InStack w (a + o) → ⊥
  off_stack b a o k h e q l = (blocks b h).off_stack (a + o) (in_variable b a o k h e q l)

  above : (m : ℕ) → m ≤ variables_in w → Above w (down f m)
  above m h = record {
    at = λ b a o k l s. (let r = first m b a k h l in let n = r.number in
        inr (off_stack b a o k (omega arith) r.at r.block s));
  }

  under : (m : ℕ) → m ≤ variables_in w → Under m (down f m)
  under zero h = tt
  under (suc m) h = let n = (blocks m (omega arith)).number in omega arith

  ordered : (m : ℕ) → m ≤ variables_in w → Ordered w (down f m)
  ordered zero h = tt
  ordered (suc m) h =
      let n = (blocks m (omega arith)).number in (
        missing m (f m).number (omega arith) (omega arith),
        subst (λ z. Under z (down f m)) (sym n) (under m (omega arith)),
        above m (omega arith),
        ordered m (omega arith),
      )

  -- ---- the root on them

  abbrev start : List Live
  start = root (variables_in w) ∷ down f (variables_in w)

  root_depth : depth w start ≡ 16
  root_depth =
      ap (λ n. n + 16) (
      frames_step (variables_in w) (root (variables_in w)) (down f (variables_in w))
      ∙ ap (λ t. if t then 16 + frame_cells (variables_in w) (down f (variables_in w)) else frame_cells (variables_in w)
      (down f (variables_in w))) (le-ltb (variables_in w) (variables_in w) (omega arith))
      ∙ no_frames (variables_in w) (omega arith)
      )

  root_base : base w start ≡ w.layout.stack.hi - 16
  root_base =
      ap (λ t. if t then w.variable_at (variables_in w) else w.layout.stack.hi - depth w start)
      (le-ltb (variables_in w) (variables_in w) (omega arith))
      ∙ ap (λ n. w.layout.stack.hi - n) root_depth

  pub root_home : home w start (variables_in w) ≡ Some (w.layout.stack.hi - 16)
  root_home = (newest w (root (variables_in w)) (down f (variables_in w))).home_is ∙ ap Some root_base

  pub data IsLive (b a : ℕ) (k : Live) : Type 0 where
    IsRoot : b ≡ variables_in w → a ≡ w.layout.stack.hi - 16 → k ≡ root (variables_in w) → IsLive b a k
    IsVariable : b < variables_in w → a ≡ w.variable_at b → k ≡ f b → IsLive b a k

  pub look : (b a : ℕ) (k : Live) → LiveAt w start b a k → IsLive b a k
  look b a k l = ⊎_elim here older (cases_eq (variables_in w) b)
    where
      here : variables_in w ≡ b → IsLive b a k
      here e =
          let n = newest w (root (variables_in w)) (down f (variables_in w)) in
          let h1 : home w start b ≡ Some (base w start) = subst (λ z. home w start z ≡ Some (base w start)) e n.home_is in
          let b1 : find (has b) start ≡ Some (root (variables_in w)) =
          subst (λ z. find (has z) start ≡ Some (root (variables_in w))) e n.block in
          let h2 = l.home_is in let b2 = l.block in
          let p : a ≡ base w start = cc in
          let q : k ≡ root (variables_in w) = cc in
          IsRoot (sym e) (p ∙ root_base) q

      older : (variables_in w ≡ b → ⊥) → IsLive b a k
      older n =
          let r = first (variables_in w) b a k (omega arith) (record {
            home_is = sym (not_newest w (root (variables_in w)) (down f (variables_in w)) b n) ∙ l.home_is;
            block = sym (find_older w (root (variables_in w)) (down f (variables_in w)) b n) ∙ l.block;
          }) in
          IsVariable r.number r.at r.block

  top_range : w.layout.stack.hi ≤ 0xfffffff0
  top_range = ok.stack.range.most

  least : w.layout.stack.lo + 16 ≤ w.layout.stack.hi
  least = ok.stack.least_size

  root_size : (k : Live) → k ≡ root (variables_in w) → length k.cells ≡ 16
  root_size k e = ap (λ (z : Live). length z.cells) e

  root_in : (a o : ℕ) (k : Live) → a ≡ w.layout.stack.hi - 16 → k ≡ root (variables_in w) → o < length k.cells → InStack w (a + o)
  root_in a o k e q l = let s = root_size k q in let t = least in (omega arith, omega arith)

  pub data_live : (b a o : ℕ) (k : Live) → IsLive b a k → o < length k.cells → Data w (a + o)
  data_live b a o k (IsRoot n e q) l = Stacked (root_in a o k e q l)
  data_live b a o k (IsVariable n e q) l = OfVariable b (in_variable b a o k n e q l)

  apart : (b c a d o p : ℕ) (k l : Live) → IsLive b a k → IsLive c d l → (b ≡ c → ⊥) → o < length k.cells → p < length l.cells
      → a + o ≡ d + p → ⊥
  apart b c a d o p k l (IsRoot n e q) (IsRoot m g r) ne s t z = ne (n ∙ sym m)
  apart b c a d o p k l (IsRoot n e q) (IsVariable m g r) ne s t z = off_stack c d p l m g r t (subst (InStack w) z (root_in a o k e q s))
  apart b c a d o p k l (IsVariable n e q) (IsRoot m g r) ne s t z =
      off_stack b a o k n e q s (subst (InStack w) (sym z) (root_in d p l g r t))
  apart b c a d o p k l (IsVariable n e q) (IsVariable m g r) ne s t z =
      ne (differ b c (a + o) (in_variable b a o k n e q s) (subst (InVariable w c) (sym z) (in_variable c d p l m g r t)))

  high : (b a : ℕ) (k : Live) → IsLive b a k → a + length k.cells ≤ 0xfffffff0
  high b a k (IsRoot n e q) = let s = root_size k q in let t = top_range in let u = least in omega arith
  high b a k (IsVariable n e q) =
      let s : length k.cells ≡ w.variable_size b = ap (λ (z : Live). length z.cells) q ∙ (blocks b n).size in
      let t = (blocks b n).below in omega arith

  low : (b a : ℕ) (k : Live) → IsLive b a k → 1 ≤ a
  low b a k (IsRoot n e q) = let t = least in let u = ok.stack.range.some in omega arith
  low b a k (IsVariable n e q) = let t = (blocks b n).some in omega arith

  mapped : (b a o : ℕ) (k : Live) → IsLive b a k → o < length k.cells → is_mapped w.memory (a + o) ≡ true
  mapped b a o k (IsRoot n e q) l = open_mapped (flags_in w.memory (a + o)) (ok.stack_open (a + o) (root_in a o k e q l))
  mapped b a o k (IsVariable n e q) l =
      let s : length k.cells ≡ w.variable_size b = ap (λ (z : Live). length z.cells) q ∙ (blocks b n).size in
      subst (λ z. is_mapped w.memory (z + o) ≡ true) (sym e) ((blocks b n).mapped o (omega arith))

  open_at : (b a o : ℕ) (k : Live) → IsLive b a k → o < length k.cells → k.writable ≡ true → may_write w.memory (a + o) ≡ true
  open_at b a o k (IsRoot n e q) l h = ok.stack_open (a + o) (root_in a o k e q l)
  open_at b a o k (IsVariable n e q) l h =
      let s : length k.cells ≡ w.variable_size b = ap (λ (z : Live). length z.cells) q ∙ (blocks b n).size in
      let r : (f b).writable ≡ true = ap (λ (z : Live). z.writable) (sym q) ∙ h in
      subst (λ z. may_write w.memory (z + o) ≡ true) (sym e) ((blocks b n).open_at r o (omega arith))

  above_start : (b a o : ℕ) (k : Live) → IsLive b a k → o < length k.cells
      → (w.layout.stack.hi ≤ a + o + depth w start) ⊎ (InStack w (a + o) → ⊥)
  above_start b a o k (IsRoot n e q) l = let d = root_depth in let t = least in inl (omega arith)
  above_start b a o k (IsVariable n e q) l = inr (off_stack b a o k n e q l)

  pub first_laid : Laid w start (suc (variables_in w))
  first_laid = record {
    fits = (let d = root_depth in let t = least in omega arith);
    given = omega arith;
    young = λ b h. not_newest w (root (variables_in w)) (down f (variables_in w)) b (λ e. omega arith)
        ∙ missing (variables_in w) b (omega arith) (omega arith);
    ordered = (
      missing (variables_in w) (variables_in w) (omega arith) (omega arith),
      under (variables_in w) (omega arith),
      above (variables_in w) (omega arith),
      ordered (variables_in w) (omega arith),
    );
    variables_live = λ v h. not_newest w (root (variables_in w)) (down f (variables_in w)) v (λ e. omega arith)
        ∙ (found (variables_in w) v (omega arith) h).home_is;
    apart = λ b c a d o p k l h1 h2. apart b c a d o p k l (look b a k h1) (look c d l h2);
    low = λ b a h. (let r = block_of w start b a h in low b a r.0 (look b a r.0 r.1));
    high = λ b a k h. high b a k (look b a k h);
    data_at = λ b a o k h. data_live b a o k (look b a k h);
    mapped = λ b a o k h. mapped b a o k (look b a k h);
    open_at = λ b a o k h. open_at b a o k (look b a k h);
    above = record { at = λ b a o k h. above_start b a o k (look b a k h) };
  }
